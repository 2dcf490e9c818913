-- The pairs of parents are those that the definition asks for.
use Rattle.std.proofs.Common.{◌≡◌, ℕ, zero, suc, ◌<◌, Bool, true, false, ◌==◌, List, [], ◌∷◌, ◌++◌, Option, Some, None, option_map, inl, inr, refl, sym, ap, subst, ◌∙◌, arith, eqb-true}
use Rattle.std.specs.Prelude.{◌⊎◌}
use Rattle.std.specs.Option.{option_and_then}
use Rattle.std.proofs.lemmas.Bool.{eqb-false}
use Rattle.py_model.specs.Moment.{Moment}
use Rattle.py_model.specs.Store.{RunStore}
use Rattle.py_tree.specs.Numbering.{IsNumbered}
use Rattle.py_tree.specs.Owners.{Standing, statements, number_at, standing_at, parent_of}
use Rattle.py_tree.specs.Tree.{StmtTree, ScriptTree, number_of}
use Rattle.py_tree.proofs.PlacedLaws.{by_number, number_finds}
use Rattle.slice_law.specs.Closed.{IsIn, IsLeast, IsClosed, roots}
use Rattle.slice_law.specs.Edges.{Edge, edge, by_control, parents_asked, run_asks}
use Rattle.slice_law.proofs.ClosedSets.{listed_asks}
use Rattle.slice_law.proofs.Reachables.{in_front, in_behind}
use Rattle.slicer.specs.Along.{AllIn, IsClosedAlong, IsLeastAlong, ArePairsBelow}
use Rattle.slicer.specs.Pairs.{AreAskedIn, SameNumbers}
use Rattle.slicer.specs.ParentPairs.{pair_with, parents_below}
use Rattle.slicer.proofs.StandingBelow.{OwnerBelow, one_below, all_below}

in_either : {A : Type 0} (xs ys : List A) (x : A) → IsIn (xs ++ ys) x → IsIn xs x ⊎ IsIn ys x
in_either [] ys x there = inr there
in_either (y ∷ xs) ys x (inl is) = inl (inl is)
in_either (y ∷ xs) ys x (inr there) = by_side (in_either xs ys x there)
  where
    by_side : IsIn xs x ⊎ IsIn ys x → IsIn (y ∷ xs) x ⊎ IsIn ys x
    by_side (inl is) = inl (inr is)
    by_side (inr is) = inr is

-- ---- Lists and what is in them.

all_from : (keep : ℕ → Bool) (numbers : List ℕ) → ((s : ℕ) → IsIn numbers s → keep s ≡ true) → AllIn keep numbers
all_from keep [] each = tt
all_from keep (s ∷ numbers) each = (each s (inl refl), all_from keep numbers (λ r there. each r (inr there)))

all_at : (keep : ℕ → Bool) (numbers : List ℕ) (s : ℕ) → AllIn keep numbers → IsIn numbers s → keep s ≡ true
all_at keep [] s all there = absurd there
all_at keep (first ∷ numbers) s all (inl same) = subst (λ r. keep r ≡ true) same all.0
all_at keep (first ∷ numbers) s all (inr there) = all_at keep numbers s all.1 there

closed_from : (keep : ℕ → Bool) (pairs : List (ℕ × ℕ)) → ((pair : ℕ × ℕ) → IsIn pairs pair → keep pair.0 ≡ true → keep pair.1 ≡ true) → IsClosedAlong keep pairs
closed_from keep [] each = tt
closed_from keep (pair ∷ pairs) each = (each pair (inl refl), closed_from keep pairs (λ p there. each p (inr there)))

closed_on : (keep : ℕ → Bool) (pairs : List (ℕ × ℕ)) (pair : ℕ × ℕ) → IsClosedAlong keep pairs → IsIn pairs pair → keep pair.0 ≡ true → keep pair.1 ≡ true
closed_on keep [] pair closed there = absurd there
closed_on keep (first ∷ pairs) pair closed (inl same) = subst (λ p. keep p.0 ≡ true → keep p.1 ≡ true) same closed.0
closed_on keep (first ∷ pairs) pair closed (inr there) = closed_on keep pairs pair closed.1 there

pub below_join : (b : ℕ) (xs ys : List (ℕ × ℕ)) → ArePairsBelow b xs → ArePairsBelow b ys → ArePairsBelow b (xs ++ ys)
below_join b [] ys all more = more
below_join b (x ∷ xs) ys all more = (all.0, below_join b xs ys all.1 more)

-- ---- The pairs of parents.

module _ (script : ScriptTree) where
  pair_there : (s p n : ℕ) → s < n → parent_of script s ≡ Some p → IsIn (parents_below script n) (s, p)
  pair_there s p zero less is = absurd (omega (arith, less))
  pair_there s p (suc n) less is = by_test (n == s) refl (λ before. pair_there s p n before is)
    where
      here : (o : Option ℕ) → o ≡ Some p → IsIn (pair_with s o) (s, p)
      here None not = absurd cc
      here (Some q) same = inl (ap (λ (o : Option ℕ). elim o [ None ↦ (s, p) | Some r ↦ (s, r) ]) same)

      by_test : (b : Bool) → (n == s) ≡ b → (s < n → IsIn (parents_below script n) (s, p)) → IsIn (parents_below script (suc n)) (s, p)
      by_test true same before = in_behind (parents_below script n) (pair_with n (parent_of script n)) (s, p)
          (subst (λ k. IsIn (pair_with k (parent_of script k)) (s, p)) (sym (eqb-true n s same)) (here (parent_of script s) is))
      by_test false other before = in_front (parents_below script n) (pair_with n (parent_of script n)) (s, p) (before (omega (arith, less, eqb-false n s other)))

  pair_is : (n : ℕ) (pair : ℕ × ℕ) → IsIn (parents_below script n) pair → parent_of script pair.0 ≡ Some pair.1
  pair_is zero pair there = absurd there
  pair_is (suc n) pair there = by_side (in_either (parents_below script n) (pair_with n (parent_of script n)) pair there) (pair_is n pair)
    where
      here : (o : Option ℕ) → parent_of script n ≡ o → IsIn (pair_with n o) pair → parent_of script pair.0 ≡ Some pair.1
      here None is there = absurd there
      here (Some q) is (inl same) = subst (λ p. parent_of script p.0 ≡ Some p.1) same is
      here (Some q) is (inr none) = absurd none

      by_side : IsIn (parents_below script n) pair ⊎ IsIn (pair_with n (parent_of script n)) pair
          → (IsIn (parents_below script n) pair → parent_of script pair.0 ≡ Some pair.1) → parent_of script pair.0 ≡ Some pair.1
      by_side (inl before) earlier = earlier before
      by_side (inr now) earlier = here (parent_of script n) refl now

  -- a statement that stands in another, and the edge of the two
  record HasOwner (xs : List Standing) (e : Edge) : Type 0 where
    x : Standing
    owner : StmtTree
    listed : IsIn xs x
    is : x.around.owner ≡ Some owner
    asker : e.asker ≡ number_at x
    asked : e.asked ≡ number_of owner

  edge_has_owner : (xs : List Standing) (e : Edge) → IsIn (parents_asked script xs) e → HasOwner xs e
  edge_has_owner [] e there = absurd there
  edge_has_owner (x ∷ xs) e there = by_owner x.around.owner refl there (edge_has_owner xs e)
    where
      later : HasOwner xs e → HasOwner (x ∷ xs) e
      later has = record { x = has.x; owner = has.owner; listed = inr has.listed; is = has.is; asker = has.asker; asked = has.asked }

      by_owner : (owner : Option StmtTree) → x.around.owner ≡ owner
          → IsIn (elim owner [ None ↦ parents_asked script xs | Some o ↦ edge by_control (number_at x) (number_of o) ∷ parents_asked script xs ]) e
          → (IsIn (parents_asked script xs) e → HasOwner xs e) → HasOwner (x ∷ xs) e
      by_owner None is there more = later (more there)
      by_owner (Some o) is (inl same) more =
          record { x = x; owner = o; listed = inl refl; is = is; asker = ap (λ (f : Edge). f.asker) (sym same); asked = ap (λ (f : Edge). f.asked) (sym same) }
      by_owner (Some o) is (inr there) more = later (more there)

  module _ (numbered : IsNumbered script) where
    owner_pair : (e : Edge) → IsIn (parents_asked script (statements script)) e → IsIn (parents_below script script.count) (e.asker, e.asked)
    owner_pair e there =
        let has = edge_has_owner (statements script) e there in
        let below = (one_below script.count (statements script) has.x (all_below script numbered) has.listed).0 in
        let parent : parent_of script (number_at has.x) ≡ Some (number_of has.owner) =
        ap (λ (o : Option Standing). option_and_then (λ (x : Standing). option_map number_of x.around.owner) o) (by_number script numbered has.x has.listed)
        ∙ ap (λ (o : Option StmtTree). option_map number_of o) has.is in
        subst (λ r. IsIn (parents_below script script.count) (e.asker, r)) (sym has.asked)
        (subst (λ s. IsIn (parents_below script script.count) (s, number_of has.owner)) (sym has.asker) (pair_there (number_at has.x) (number_of has.owner) script.count below parent))

    parent_edge : RunStore → List Moment → (pair : ℕ × ℕ) → IsIn (parents_below script script.count) pair → IsIn (parents_asked script (statements script)) (edge by_control pair.0 pair.1)
    parent_edge opening told pair there = listed_asks script opening told (statements script) pair.0 pair.1 (pair_is script.count pair there)

    -- the statement and its parent are among those of the script
    pub pairs_below : (n : ℕ) → ArePairsBelow script.count (parents_below script n)
    pairs_below zero = tt
    pairs_below (suc n) = below_join script.count (parents_below script n) (pair_with n (parent_of script n)) (pairs_below n) (by_standing (standing_at script n) refl)
      where
        by_owner : (x : Standing) (owner : Option StmtTree) → (number_at x < script.count) → OwnerBelow script.count owner → number_at x ≡ n → ArePairsBelow script.count (pair_with n (option_map number_of owner))
        by_owner x None own below same = tt
        by_owner x (Some o) own below same = ((subst (λ k. k < script.count) same own, below), tt)

        of_standing : (o : Option Standing) → standing_at script n ≡ o → ArePairsBelow script.count (pair_with n (option_and_then (λ (x : Standing). option_map number_of x.around.owner) o))
        of_standing None is = tt
        of_standing (Some x) is =
            let found = number_finds script n x is in
            let below = one_below script.count (statements script) x (all_below script numbered) found.0 in
            by_owner x x.around.owner below.0 below.1 found.1

        by_standing : (o : Option Standing) → standing_at script n ≡ o → ArePairsBelow script.count (pair_with n (parent_of script n))
        by_standing o is =
            subst (λ (o : Option Standing). ArePairsBelow script.count (pair_with n (option_and_then (λ (x : Standing). option_map number_of x.around.owner) o))) (sym is) (of_standing o is)

  module _ (opening : RunStore) (told : List Moment) (pairs : List (ℕ × ℕ)) (numbers : List ℕ) (keep : ℕ → Bool) where
    pub least_is : IsNumbered script → AreAskedIn script told pairs → SameNumbers numbers (roots opening told)
        → IsLeastAlong (pairs ++ parents_below script script.count) numbers keep → IsLeast script opening told keep
    least_is numbered asked same along = record {
      closed = record {
        has_roots = λ s root. all_at keep numbers s along.has_roots (same.only s root);
        has_asked = λ e there kept. by_side e (in_either (parents_asked script (statements script)) (run_asks script told) e there) kept;
      };
      inside = λ other closed s kept. along.inside other (all_from other numbers (λ r there. closed.has_roots r (same.each r there)))
          (closed_from other (pairs ++ parents_below script script.count) (λ pair there. in_pair other closed pair (in_either pairs (parents_below script script.count) pair there))) s kept;
    }
      where
        by_side : (e : Edge) → IsIn (parents_asked script (statements script)) e ⊎ IsIn (run_asks script told) e → keep e.asker ≡ true → keep e.asked ≡ true
        by_side e (inl parent) kept =
            closed_on keep (pairs ++ parents_below script script.count) (e.asker, e.asked) along.closed (in_behind pairs (parents_below script script.count) (e.asker, e.asked) (owner_pair numbered e parent)) kept
        by_side e (inr run) kept =
            closed_on keep (pairs ++ parents_below script script.count) (e.asker, e.asked) along.closed (in_front pairs (parents_below script script.count) (e.asker, e.asked) (asked.each e run)) kept

        in_pair : (other : ℕ → Bool) → IsClosed script opening told other → (pair : ℕ × ℕ) → IsIn pairs pair ⊎ IsIn (parents_below script script.count) pair → other pair.0 ≡ true → other pair.1 ≡ true
        in_pair other closed pair (inl there) kept =
            let from = asked.only pair there in
            subst (λ s. other s ≡ true) from.asked_for
            (closed.has_asked from.edge (in_behind (parents_asked script (statements script)) (run_asks script told) from.edge from.there) (subst (λ s. other s ≡ true) (sym from.asker) kept))
        in_pair other closed pair (inr there) kept =
            closed.has_asked (edge by_control pair.0 pair.1)
            (in_front (parents_asked script (statements script)) (run_asks script told) (edge by_control pair.0 pair.1) (parent_edge numbered opening told pair there)) kept

pub parents_fit : (script : ScriptTree) → IsNumbered script → ArePairsBelow script.count (parents_below script script.count)
parents_fit script numbered = pairs_below script numbered script.count
