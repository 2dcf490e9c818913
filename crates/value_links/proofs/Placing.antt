-- In a numbered script the statement with a number is the one at that place among all, so its place is found by the number.
use Rattle.std.proofs.Common.{◌≡◌, ℕ, zero, suc, ◌+◌, List, [], ◌∷◌, ◌++◌, map, slice_get, Option, Some, None, option_map, inl, inr, refl, sym, ap, subst, ◌∙◌, arith}
use Rattle.prov_base.specs.declared.place.Pos.{Pos}
use Rattle.py_tree.specs.Tree.{StmtTree, FormTree, SuiteTree, BranchesTree, ElseTree, HandlersTree, ScriptTree, one_stmt, do_form, assign_form, aug_form, del_form, pass_form, break_form, continue_form, return_form, raise_form, assert_form, import_form, if_form, while_form, for_form, try_form, with_form, def_form, class_form, end_suite, more_suite, end_branches, more_branches, no_else, else_suite, end_handlers, more_handlers}
use Rattle.py_tree.specs.Numbering.{IsNumbered, size_stmt, size_form, size_suite, size_branches, size_else, size_handlers, numbered_stmt, numbered_form, numbered_suite, numbered_branches, numbered_else, numbered_handlers}
use Rattle.py_tree.specs.Owners.{Around, Standing, number_at, at_module_level, within, listed_stmt, listed_form, listed_suite, listed_branches, listed_else, listed_handlers, statements, standing_at}
use Rattle.py_tree.specs.Placed.{place_of, place_at}
use Rattle.py_tree.specs.Places.{suite_starts}
use Rattle.py_tree.proofs.Finding.{IsIn}
use Rattle.py_tree.proofs.PlacedLaws.{places_listed, by_number, number_finds}

-- ---- the numbers are those from n on up to m, without it

abbrev NumbersTo : ℕ → ℕ → List Standing → Type 0
NumbersTo n m [] = n ≡ m
NumbersTo n m (x ∷ xs) = (number_at x ≡ n) × NumbersTo (n + 1) m xs

numbers_join : (n m k : ℕ) (xs ys : List Standing) → NumbersTo n m xs → NumbersTo m k ys → NumbersTo n k (xs ++ ys)
numbers_join n m k [] ys front back = subst (λ e. NumbersTo e k ys) (sym front) back
numbers_join n m k (x ∷ xs) ys front back = (front.0, numbers_join (n + 1) m k xs ys front.1 back)

up_to : (n m k : ℕ) (xs : List Standing) → m ≡ k → NumbersTo n m xs → NumbersTo n k xs
up_to n m k xs same numbers = subst (λ e. NumbersTo n e xs) same numbers

mutual
  stmt_to : (n : ℕ) (around : Around) (stmt : StmtTree) → NumbersTo n (n + size_stmt stmt) (listed_stmt around (numbered_stmt n stmt))
  stmt_to n around (one_stmt k at span form) = (refl, up_to (n + 1) (n + 1 + size_form form) (n + (1 + size_form form)) (listed_form (within (one_stmt n at span (numbered_form (n + 1) form)) around) (numbered_form (n + 1) form)) (omega arith) (form_to (n + 1) (within (one_stmt n at span (numbered_form (n + 1) form)) around) form))

  form_to : (n : ℕ) (around : Around) (form : FormTree) → NumbersTo n (n + size_form form) (listed_form around (numbered_form n form))
  form_to n around (if_form branches orelse) =
      let xs = listed_branches around (numbered_branches n branches) in
      let ys = listed_else around (numbered_else (n + size_branches branches) orelse) in
      up_to n (n + size_branches branches + size_else orelse) (n + (size_branches branches + size_else orelse)) (xs ++ ys) (omega arith) (numbers_join n (n + size_branches branches) (n + size_branches branches + size_else orelse) xs ys (branches_to n around branches) (else_to (n + size_branches branches) around orelse))
  form_to n around (try_form body handlers) =
      let xs = listed_suite around (numbered_suite n body) in
      let ys = listed_handlers around (numbered_handlers (n + size_suite body) handlers) in
      up_to n (n + size_suite body + size_handlers handlers) (n + (size_suite body + size_handlers handlers)) (xs ++ ys) (omega arith) (numbers_join n (n + size_suite body) (n + size_suite body + size_handlers handlers) xs ys (suite_to n around body) (handlers_to (n + size_suite body) around handlers))
  form_to n around (while_form test body) = suite_to n around body
  form_to n around (for_form target items body) = suite_to n around body
  form_to n around (with_form value bound body) = suite_to n around body
  form_to n around (def_form name params globals body) = suite_to n around body
  form_to n around (class_form name base body) = suite_to n around body
  form_to n around (do_form e) = omega arith
  form_to n around (assign_form t e) = omega arith
  form_to n around (aug_form t op at e) = omega arith
  form_to n around (del_form t) = omega arith
  form_to n around pass_form = omega arith
  form_to n around break_form = omega arith
  form_to n around continue_form = omega arith
  form_to n around (return_form e) = omega arith
  form_to n around (raise_form e) = omega arith
  form_to n around (assert_form e m) = omega arith
  form_to n around (import_form e) = omega arith

  suite_to : (n : ℕ) (around : Around) (body : SuiteTree) → NumbersTo n (n + size_suite body) (listed_suite around (numbered_suite n body))
  suite_to n around end_suite = omega arith
  suite_to n around (more_suite stmt rest) =
      let xs = listed_stmt around (numbered_stmt n stmt) in
      let ys = listed_suite around (numbered_suite (n + size_stmt stmt) rest) in
      up_to n (n + size_stmt stmt + size_suite rest) (n + (size_stmt stmt + size_suite rest)) (xs ++ ys) (omega arith) (numbers_join n (n + size_stmt stmt) (n + size_stmt stmt + size_suite rest) xs ys (stmt_to n around stmt) (suite_to (n + size_stmt stmt) around rest))

  branches_to : (n : ℕ) (around : Around) (branches : BranchesTree) → NumbersTo n (n + size_branches branches) (listed_branches around (numbered_branches n branches))
  branches_to n around end_branches = omega arith
  branches_to n around (more_branches test body rest) =
      let xs = listed_suite around (numbered_suite n body) in
      let ys = listed_branches around (numbered_branches (n + size_suite body) rest) in
      up_to n (n + size_suite body + size_branches rest) (n + (size_suite body + size_branches rest)) (xs ++ ys) (omega arith) (numbers_join n (n + size_suite body) (n + size_suite body + size_branches rest) xs ys (suite_to n around body) (branches_to (n + size_suite body) around rest))

  else_to : (n : ℕ) (around : Around) (orelse : ElseTree) → NumbersTo n (n + size_else orelse) (listed_else around (numbered_else n orelse))
  else_to n around no_else = omega arith
  else_to n around (else_suite body) = suite_to n around body

  handlers_to : (n : ℕ) (around : Around) (handlers : HandlersTree) → NumbersTo n (n + size_handlers handlers) (listed_handlers around (numbered_handlers n handlers))
  handlers_to n around end_handlers = omega arith
  handlers_to n around (more_handlers kind bound body rest) =
      let xs = listed_suite around (numbered_suite n body) in
      let ys = listed_handlers around (numbered_handlers (n + size_suite body) rest) in
      up_to n (n + size_suite body + size_handlers rest) (n + (size_suite body + size_handlers rest)) (xs ++ ys) (omega arith) (numbers_join n (n + size_suite body) (n + size_suite body + size_handlers rest) xs ys (suite_to n around body) (handlers_to (n + size_suite body) around rest))

all_numbers : (script : ScriptTree) → IsNumbered script → NumbersTo 0 (0 + size_suite script.body) (statements script)
all_numbers script numbered = subst (λ body. NumbersTo 0 (0 + size_suite script.body) (listed_suite at_module_level body)) numbered.in_order (suite_to 0 at_module_level script.body)

-- ---- the one at a place has that number, and the other way round

number_is : (n m i : ℕ) (xs : List Standing) (x : Standing) → NumbersTo n m xs → slice_get xs i ≡ Some x → (number_at x ≡ n + i) × IsIn xs x
number_is n m i [] x numbers is = absurd cc
number_is n m zero (y ∷ ys) x numbers is =
    let same : y ≡ x = cc in
    (let here = numbers.0 in let also : number_at x ≡ number_at y = ap number_at (sym same) in omega (arith, here, also), inl same)
number_is n m (suc i) (y ∷ ys) x numbers is =
    let rest = number_is (n + 1) m i ys x numbers.1 is in
    (let later = rest.0 in omega (arith, later), inr rest.1)

found_at : (n m : ℕ) (xs : List Standing) (x : Standing) → NumbersTo n m xs → IsIn xs x → (i : ℕ) × ((slice_get xs i ≡ Some x) × (number_at x ≡ n + i))
found_at n m [] x numbers there = absurd there
found_at n m (y ∷ ys) x numbers (inl same) =
    (0, (ap Some same, (let here = numbers.0 in let also : number_at x ≡ number_at y = ap number_at (sym same) in omega (arith, here, also))))
found_at n m (y ∷ ys) x numbers (inr more) =
    let rest = found_at (n + 1) m ys x numbers.1 more in
    (suc rest.0, (rest.1.0, (let later = rest.1.1 in omega (arith, later))))

mapped : {A B : Type 0} (f : A → B) (xs : List A) (i : ℕ) → slice_get (map f xs) i ≡ option_map f (slice_get xs i)
mapped f [] i = refl
mapped f (x ∷ xs) zero = refl
mapped f (x ∷ xs) (suc i) = mapped f xs i

none_some : {A : Type 0} (x : A) → None ≡ Some x → ⊥
none_some x is = absurd cc

pub place_is : (script : ScriptTree) → IsNumbered script → (s : ℕ) → slice_get (suite_starts script.body) s ≡ place_at script s
place_is script numbered s =
    ap (λ (ps : List Pos). slice_get ps s) (sym (places_listed script)) ∙ mapped place_of (statements script) s ∙ ap (option_map place_of) (by (slice_get (statements script) s) (standing_at script s) refl refl)
  where
    by : (one other : Option Standing) → slice_get (statements script) s ≡ one → standing_at script s ≡ other → one ≡ other
    by None None at found = refl
    by None (Some x) at found =
        let where_is = number_finds script s x found in
        let place = found_at 0 (0 + size_suite script.body) (statements script) x (all_numbers script numbered) where_is.0 in
        let number = where_is.1 in
        let own = place.1.1 in
        let same : place.0 ≡ s = omega (arith, number, own) in
        absurd (none_some x (sym at ∙ ap (slice_get (statements script)) (sym same) ∙ place.1.0))
    by (Some x) other at found =
        let has = number_is 0 (0 + size_suite script.body) s (statements script) x (all_numbers script numbered) at in
        let number = has.0 in
        let same : number_at x ≡ s = omega (arith, number) in
        sym (by_number script numbered x has.1) ∙ ap (standing_at script) same ∙ found
