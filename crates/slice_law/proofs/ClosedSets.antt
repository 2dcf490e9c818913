-- Laws of closed sets.
use Rattle.std.proofs.Common.{◌≡◌, ℕ, Bool, true, false, ◌&&◌, IsTrue, List, [], ◌∷◌, ◌++◌, inl, inr, Option, Some, None, option_map, refl, sym, ap, subst, ◌∙◌, if◌then◌else◌, eqb-true, eq-eqb, zero, suc}
use Rattle.std.proofs.lemmas.Bool.{and_parts, and_from, false≢true}
use Rattle.std.specs.Prelude.{◌↔◌, ◌==◌, ◌||◌, not}
use Rattle.std.specs.Option.{option_and_then}
use Rattle.py_tree.specs.Owners.{Standing, statements, number_at, parent_of, first_at}
use Rattle.py_tree.specs.Tree.{StmtTree, ScriptTree, number_of}
use Rattle.py_model.specs.Moment.{Moment}
use Rattle.py_model.specs.Store.{RunStore}
use Rattle.slice_law.specs.Closed.{StmtSet, IsIn, roots, IsClosed, IsLeast, IsAsked, by_root, by_edge, has, with_asked, closure, needed, is_settled}
use Rattle.slice_law.specs.Edges.{Edge, edge, by_control, edges, parents_asked, run_asks}

module _ (script : ScriptTree) (opening : RunStore) (told : List Moment) where
  pub meet : (one other : StmtSet) → IsClosed script opening told one → IsClosed script opening told other → IsClosed script opening told (λ s. one s && other s)
  meet one other first second = record {
    has_roots = λ s root. and_from (one s) (other s) (first.has_roots s root) (second.has_roots s root);
    has_asked = λ e there both. both_asked e there (and_parts (one e.asker) (other e.asker) both);
  }
    where
      both_asked : (e : Edge) → IsIn (edges script told) e → (one e.asker ≡ true) × (other e.asker ≡ true) → IsTrue (one e.asked && other e.asked)
      both_asked e there parts = and_from (one e.asked) (other e.asked) (first.has_asked e there parts.0) (second.has_asked e there parts.1)

  pub asked_inside : (keep : StmtSet) → IsClosed script opening told keep → (s : ℕ) → IsAsked script opening told s → IsTrue (keep s)
  asked_inside keep closed s (by_root root) = closed.has_roots s root
  asked_inside keep closed s (by_edge e asked there) = closed.has_asked e there (asked_inside keep closed e.asker asked)

  pub asked_least : (keep : StmtSet) → ((s : ℕ) → IsTrue (keep s) ↔ IsAsked script opening told s) → IsLeast script opening told keep
  asked_least keep same = record {
    closed = record {
      has_roots = λ s root. (same s).1 (by_root root);
      has_asked = λ e there kept. (same e.asked).1 (by_edge e ((same e.asker).0 kept) there);
    };
    inside = λ other closed s kept. asked_inside other closed s ((same s).0 kept);
  }

  both_same : (a b : Bool) → (IsTrue a → IsTrue b) → (IsTrue b → IsTrue a) → a ≡ b
  both_same true true to from = refl
  both_same false false to from = refl
  both_same true false to from = sym (to refl)
  both_same false true to from = from refl

  pub least_same : (one other : StmtSet) → IsLeast script opening told one → IsLeast script opening told other → (s : ℕ) → one s ≡ other s
  least_same one other first second s = both_same (one s) (other s) (first.inside other second.closed s) (second.inside one first.closed s)

  in_front : {A : Type 0} (xs ys : List A) (x : A) → IsIn xs x → IsIn (xs ++ ys) x
  in_front [] ys x there = absurd there
  in_front (y ∷ xs) ys x (inl is) = inl is
  in_front (y ∷ xs) ys x (inr there) = inr (in_front xs ys x there)

  -- the parent of a statement that is listed is asked for
  pub listed_asks : (xs : List Standing) (s p : ℕ) → option_and_then (λ (x : Standing). option_map number_of x.around.owner) (first_at s xs) ≡ Some p → IsIn (parents_asked script xs) (edge by_control s p)
  listed_asks [] s p is = absurd cc
  listed_asks (x ∷ xs) s p is = by_number (number_at x == s) refl is (listed_asks xs s p)
    where
      by_owner : (owner : Option StmtTree) → number_at x ≡ s → option_map number_of owner ≡ Some p
          → IsIn (elim owner [ None ↦ parents_asked script xs | Some o ↦ edge by_control (number_at x) (number_of o) ∷ parents_asked script xs ]) (edge by_control s p)
      by_owner None same is = absurd cc
      by_owner (Some o) same is = inl cc

      behind : (owner : Option StmtTree) → IsIn (parents_asked script xs) (edge by_control s p)
          → IsIn (elim owner [ None ↦ parents_asked script xs | Some o ↦ edge by_control (number_at x) (number_of o) ∷ parents_asked script xs ]) (edge by_control s p)
      behind None there = there
      behind (Some o) there = inr there

      by_number : (b : Bool) → (number_at x == s) ≡ b
          → option_and_then (λ (x : Standing). option_map number_of x.around.owner) (if b then Some x else first_at s xs) ≡ Some p
          → (option_and_then (λ (x : Standing). option_map number_of x.around.owner) (first_at s xs) ≡ Some p → IsIn (parents_asked script xs) (edge by_control s p)) → IsIn (parents_asked script (x ∷ xs)) (edge by_control s p)
      by_number true same is later = by_owner x.around.owner (eqb-true (number_at x) s same) is
      by_number false same is later = behind x.around.owner (later is)

  pub has_parents : (keep : StmtSet) (s p : ℕ) → IsClosed script opening told keep → IsTrue (keep s) → parent_of script s ≡ Some p → IsTrue (keep p)
  has_parents keep s p closed kept parent =
      closed.has_asked (edge by_control s p) (in_front (parents_asked script (statements script)) (run_asks script told) (edge by_control s p) (listed_asks (statements script) s p parent)) kept

has_is_in : (s : ℕ) (numbers : List ℕ) → has s numbers ≡ true → IsIn numbers s
has_is_in s [] is = absurd (false≢true is)
has_is_in s (number ∷ numbers) is = by_number (number == s) refl is (has_is_in s numbers)
  where
    by_number : (b : Bool) → (number == s) ≡ b → (b || has s numbers) ≡ true → (has s numbers ≡ true → IsIn numbers s) → IsIn (number ∷ numbers) s
    by_number true same is later = inl (eqb-true number s same)
    by_number false same is later = inr (later is)

in_is_had : (s : ℕ) (numbers : List ℕ) → IsIn numbers s → has s numbers ≡ true
in_is_had s [] there = absurd there
in_is_had s (number ∷ numbers) (inl same) = ap (λ b. b || has s numbers) (eq-eqb number s same)
in_is_had s (number ∷ numbers) (inr there) = ap (λ b. (number == s) || b) (in_is_had s numbers there) ∙ or_true (number == s)
  where
    or_true : (b : Bool) → (b || true) ≡ true
    or_true true = refl
    or_true false = refl

module _ (script : ScriptTree) (opening : RunStore) (told : List Moment) where
  abbrev AllAsked : List ℕ → Type 0
  AllAsked numbers = (s : ℕ) → IsIn numbers s → IsAsked script opening told s

  pass_asked : (more : List Edge) (numbers : List ℕ) → ((e : Edge) → IsIn more e → IsIn (edges script told) e) → AllAsked numbers → AllAsked (with_asked more numbers)
  pass_asked [] numbers real all = all
  pass_asked (e ∷ more) numbers real all = pass_asked more _ (λ e there. real e (inr there)) (by_test (has e.asker numbers) (has e.asked numbers) refl)
    where
      by_test : (from onto : Bool) → has e.asker numbers ≡ from → AllAsked (if from && not onto then e.asked ∷ numbers else numbers)
      by_test true false is s (inl same) = subst (IsAsked script opening told) same (by_edge e (all e.asker (has_is_in e.asker numbers is)) (real e (inl refl)))
      by_test true false is s (inr there) = all s there
      by_test true true is s there = all s there
      by_test false true is s there = all s there
      by_test false false is s there = all s there

  closure_asked : (n : ℕ) (numbers : List ℕ) → AllAsked numbers → AllAsked (closure n (edges script told) numbers)
  closure_asked zero numbers all = all
  closure_asked (suc n) numbers all = closure_asked n (with_asked (edges script told) numbers) (pass_asked (edges script told) numbers (λ e there. there) all)

  grows_by : (more : List Edge) (numbers : List ℕ) (s : ℕ) → IsIn numbers s → IsIn (with_asked more numbers) s
  grows_by [] numbers s there = there
  grows_by (e ∷ more) numbers s there = grows_by more _ s (by_test (has e.asker numbers && not (has e.asked numbers)))
    where
      by_test : (b : Bool) → IsIn (if b then e.asked ∷ numbers else numbers) s
      by_test true = inr there
      by_test false = there

  closure_grows : (n : ℕ) (numbers : List ℕ) (s : ℕ) → IsIn numbers s → IsIn (closure n (edges script told) numbers) s
  closure_grows zero numbers s there = there
  closure_grows (suc n) numbers s there = closure_grows n _ s (grows_by (edges script told) numbers s there)

  settled_asks : (more : List Edge) (numbers : List ℕ) → is_settled more numbers ≡ true → (e : Edge) → IsIn more e → has e.asker numbers ≡ true → has e.asked numbers ≡ true
  settled_asks [] numbers is e there kept = absurd there
  settled_asks (first ∷ more) numbers is e (inr there) kept = settled_asks more numbers (and_parts (not (has first.asker numbers) || has first.asked numbers) (is_settled more numbers) is).1 e there kept
  settled_asks (first ∷ more) numbers is e (inl same) kept =
      subst (λ e. has e.asker numbers ≡ true → has e.asked numbers ≡ true) same
      (λ had. by_test (has first.asker numbers) (has first.asked numbers) (and_parts (not (has first.asker numbers) || has first.asked numbers) (is_settled more numbers) is).0 had) kept
    where
      by_test : (from onto : Bool) → (not from || onto) ≡ true → from ≡ true → onto ≡ true
      by_test true onto is had = is
      by_test false onto is had = absurd (false≢true had)

  pub needed_least : is_settled (edges script told) (needed script opening told) ≡ true → IsLeast script opening told (λ s. has s (needed script opening told))
  needed_least settled = record {
    closed = record {
      has_roots = λ s root. in_is_had s (needed script opening told) (closure_grows script.count (roots opening told) s root);
      has_asked = λ e there kept. settled_asks (edges script told) (needed script opening told) settled e there kept;
    };
    inside = λ keep closed s kept. asked_inside script opening told keep closed s
        (closure_asked script.count (roots opening told) (λ r root. by_root root) s (has_is_in s (needed script opening told) kept));
  }
