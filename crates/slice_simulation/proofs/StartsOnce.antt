-- Where statements start: in the order of the text, so no two start at one place.
use Rattle.std.proofs.Common.{◌≡◌, ℕ, Bool, true, false, ◌&&◌, ◌||◌, ◌==◌, ◌⊎◌, List, [], ◌∷◌, ◌++◌, inl, inr, refl, sym, ap, ap₂, subst, ◌∙◌, arith, nat_lt, ltb-true}
use Rattle.std.proofs.lemmas.Bool.{false≢true, and_parts}
use Rattle.std.specs.List.{list_all}
use Rattle.prov_base.specs.declared.place.Pos.{Pos}
use Rattle.py_tree.specs.Places.{suite_starts, stmt_starts, form_starts, branches_starts, else_starts, handlers_starts, is_before, are_ascending}
use Rattle.py_tree.specs.Tree.{StmtTree, FormTree, SuiteTree, BranchesTree, ElseTree, HandlersTree, ScriptTree, one_stmt, do_form, assign_form, aug_form, del_form, pass_form, break_form, continue_form, return_form, raise_form, assert_form, import_form, if_form, while_form, for_form, try_form, with_form, def_form, class_form, end_suite, more_suite, end_branches, more_branches, no_else, else_suite, end_handlers, more_handlers}
use Rattle.py_tree.specs.WellFormed.{IsWellFormed}
use Rattle.slice_law.specs.Closed.{IsIn}
use Rattle.slice_simulation.proofs.Standing.{in_behind}
use Rattle.slice_simulation.specs.Owned.{started_suite, started_stmt, started_form, started_branches, started_else, started_handlers}

-- what is in two lists is in one of them
pub either_in : {A : Type 0} (xs ys : List A) (x : A) → IsIn (xs ++ ys) x → IsIn xs x ⊎ IsIn ys x
either_in [] ys x there = inr there
either_in (y ∷ xs) ys x (inl is) = inl (inl is)
either_in (y ∷ xs) ys x (inr there) = by_rest (either_in xs ys x there)
  where
    by_rest : IsIn xs x ⊎ IsIn ys x → IsIn (y ∷ xs) x ⊎ IsIn ys x
    by_rest (inl front) = inl (inr front)
    by_rest (inr behind) = inr behind

-- the places of numbered ones
abbrev pub starts_of : List (ℕ × Pos) → List Pos
starts_of [] = []
starts_of (pair ∷ pairs) = pair.1 ∷ starts_of pairs

pub start_in : (pairs : List (ℕ × Pos)) (n : ℕ) (at : Pos) → IsIn pairs (n, at) → IsIn (starts_of pairs) at
start_in [] n at there = absurd there
start_in (pair ∷ pairs) n at (inl is) = inl (ap (λ (x : ℕ × Pos). x.1) is)
start_in (pair ∷ pairs) n at (inr there) = inr (start_in pairs n at there)

joined : (xs ys : List (ℕ × Pos)) (ps qs : List Pos) → starts_of xs ≡ ps → starts_of ys ≡ qs → starts_of (xs ++ ys) ≡ ps ++ qs
joined xs ys ps qs one other = split xs ys ∙ ap₂ (λ (front back : List Pos). front ++ back) one other
  where
    split : (xs ys : List (ℕ × Pos)) → starts_of (xs ++ ys) ≡ starts_of xs ++ starts_of ys
    split [] ys = refl
    split (x ∷ xs) ys = ap (λ (rest : List Pos). x.1 ∷ rest) (split xs ys)

mutual
  pub suite_started : (body : SuiteTree) → starts_of (started_suite body) ≡ suite_starts body
  suite_started end_suite = refl
  suite_started (more_suite s rest) = joined (started_stmt s) (started_suite rest) (stmt_starts s) (suite_starts rest) (stmt_started s) (suite_started rest)

  pub stmt_started : (s : StmtTree) → starts_of (started_stmt s) ≡ stmt_starts s
  stmt_started (one_stmt number at span form) = ap (λ (rest : List Pos). at ∷ rest) (form_started form)

  pub form_started : (form : FormTree) → starts_of (started_form form) ≡ form_starts form
  form_started (do_form e) = refl
  form_started (assign_form target e) = refl
  form_started (aug_form target sign place e) = refl
  form_started (del_form target) = refl
  form_started pass_form = refl
  form_started break_form = refl
  form_started continue_form = refl
  form_started (return_form e) = refl
  form_started (raise_form e) = refl
  form_started (assert_form test message) = refl
  form_started (import_form name) = refl
  form_started (if_form branches orelse) = joined (started_branches branches) (started_else orelse) (branches_starts branches) (else_starts orelse) (branches_started branches) (else_started orelse)
  form_started (while_form test body) = suite_started body
  form_started (for_form target items body) = suite_started body
  form_started (try_form body handlers) = joined (started_suite body) (started_handlers handlers) (suite_starts body) (handlers_starts handlers) (suite_started body) (handlers_started handlers)
  form_started (with_form e bound body) = suite_started body
  form_started (def_form name params globals body) = suite_started body
  form_started (class_form name base body) = suite_started body

  branches_started : (branches : BranchesTree) → starts_of (started_branches branches) ≡ branches_starts branches
  branches_started end_branches = refl
  branches_started (more_branches test body rest) = joined (started_suite body) (started_branches rest) (suite_starts body) (branches_starts rest) (suite_started body) (branches_started rest)

  else_started : (orelse : ElseTree) → starts_of (started_else orelse) ≡ else_starts orelse
  else_started no_else = refl
  else_started (else_suite body) = suite_started body

  handlers_started : (handlers : HandlersTree) → starts_of (started_handlers handlers) ≡ handlers_starts handlers
  handlers_started end_handlers = refl
  handlers_started (more_handlers kind bound body rest) = joined (started_suite body) (started_handlers rest) (suite_starts body) (handlers_starts rest) (suite_started body) (handlers_started rest)

and_false : (test : Bool) → (test && false) ≡ false
and_false true = refl
and_false false = refl

not_before : (p : Pos) → is_before p p ≡ true → ⊥
not_before p is = by_tests (nat_lt p.line p.line) refl (nat_lt p.col p.col) refl is
  where
    by_tests : (a : Bool) → nat_lt p.line p.line ≡ a → (b : Bool) → nat_lt p.col p.col ≡ b → (a || ((p.line == p.line) && b)) ≡ true → ⊥
    by_tests true less b other is = omega (arith, ltb-true p.line p.line less)
    by_tests false none true less is = omega (arith, ltb-true p.col p.col less)
    by_tests false none false other is = false≢true (sym (and_false (p.line == p.line)) ∙ is)

all_before : (p : Pos) (ps : List Pos) (q : Pos) → list_all (is_before p) ps ≡ true → IsIn ps q → is_before p q ≡ true
all_before p [] q all there = absurd there
all_before p (first ∷ ps) q all (inl is) = ap (is_before p) (sym is) ∙ (and_parts (is_before p first) (list_all (is_before p) ps) all).0
all_before p (first ∷ ps) q all (inr there) = all_before p ps q (and_parts (is_before p first) (list_all (is_before p) ps) all).1 there

-- of places that ascend none stands in the front and behind
pub apart_at : (ps qs : List Pos) (at : Pos) → are_ascending (ps ++ qs) ≡ true → IsIn ps at → IsIn qs at → ⊥
apart_at [] qs at ascending here there = absurd here
apart_at (p ∷ ps) qs at ascending (inl is) there =
    not_before at (subst (λ q. is_before q at ≡ true) is
    (all_before p (ps ++ qs) at (and_parts (list_all (is_before p) (ps ++ qs)) (are_ascending (ps ++ qs)) ascending).0 (in_behind ps qs at there)))
apart_at (p ∷ ps) qs at ascending (inr here) there = apart_at ps qs at (and_parts (list_all (is_before p) (ps ++ qs)) (are_ascending (ps ++ qs)) ascending).1 here there

pub ascending_behind : (ps qs : List Pos) → are_ascending (ps ++ qs) ≡ true → are_ascending qs ≡ true
ascending_behind [] qs ascending = ascending
ascending_behind (p ∷ ps) qs ascending = ascending_behind ps qs (and_parts (list_all (is_before p) (ps ++ qs)) (are_ascending (ps ++ qs)) ascending).1

all_front : (p : Pos) (ps qs : List Pos) → list_all (is_before p) (ps ++ qs) ≡ true → list_all (is_before p) ps ≡ true
all_front p [] qs all = refl
all_front p (first ∷ ps) qs all =
    let parts : (is_before p first ≡ true) × (list_all (is_before p) (ps ++ qs) ≡ true) = and_parts (is_before p first) (list_all (is_before p) (ps ++ qs)) all in
    ap₂ ◌&&◌ parts.0 (all_front p ps qs parts.1)

pub ascending_front : (ps qs : List Pos) → are_ascending (ps ++ qs) ≡ true → are_ascending ps ≡ true
ascending_front [] qs ascending = refl
ascending_front (p ∷ ps) qs ascending =
    let parts : (list_all (is_before p) (ps ++ qs) ≡ true) × (are_ascending (ps ++ qs) ≡ true) = and_parts (list_all (is_before p) (ps ++ qs)) (are_ascending (ps ++ qs)) ascending in
    ap₂ ◌&&◌ (all_front p ps qs parts.0) (ascending_front ps qs parts.1)

-- a place of ascending ones is of one number
one_number : (pairs : List (ℕ × Pos)) (m n : ℕ) (at : Pos) → are_ascending (starts_of pairs) ≡ true → IsIn pairs (m, at) → IsIn pairs (n, at) → m ≡ n
one_number [] m n at ascending one other = absurd one
one_number (pair ∷ pairs) m n at ascending (inl is) (inl also) = ap (λ (x : ℕ × Pos). x.0) (sym is ∙ also)
one_number (pair ∷ pairs) m n at ascending (inl is) (inr there) =
    absurd (apart_at (pair.1 ∷ []) (starts_of pairs) at ascending (inl (ap (λ (x : ℕ × Pos). x.1) is)) (start_in pairs n at there))
one_number (pair ∷ pairs) m n at ascending (inr there) (inl is) =
    absurd (apart_at (pair.1 ∷ []) (starts_of pairs) at ascending (inl (ap (λ (x : ℕ × Pos). x.1) is)) (start_in pairs m at there))
one_number (pair ∷ pairs) m n at ascending (inr one) (inr other) = one_number pairs m n at (ascending_behind (pair.1 ∷ []) (starts_of pairs) ascending) one other

-- at one place one statement of a script starts
pub one_start : (script : ScriptTree) → IsWellFormed script → (m n : ℕ) (at : Pos) → IsIn (started_suite script.body) (m, at) → IsIn (started_suite script.body) (n, at) → m ≡ n
one_start script well m n at = one_number (started_suite script.body) m n at (ap are_ascending (suite_started script.body) ∙ well.ascending)
