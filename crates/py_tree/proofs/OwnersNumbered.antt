-- The numbers of a numbered script rise.
use Rattle.std.proofs.Common.{◌≡◌, ℕ, ◌+◌, ◌≤◌, List, [], ◌∷◌, ◌++◌, map, subst, arith}
use Rattle.py_tree.specs.Tree.{StmtTree, FormTree, SuiteTree, BranchesTree, ElseTree, HandlersTree, ScriptTree, one_stmt, do_form, assign_form, aug_form, del_form, pass_form, break_form, continue_form, return_form, raise_form, assert_form, import_form, if_form, while_form, for_form, try_form, with_form, def_form, class_form, end_suite, more_suite, end_branches, more_branches, no_else, else_suite, end_handlers, more_handlers}
use Rattle.py_tree.specs.Numbering.{IsNumbered, size_stmt, size_form, size_suite, size_branches, size_else, size_handlers, numbered_stmt, numbered_form, numbered_suite, numbered_branches, numbered_else, numbered_handlers}
use Rattle.py_tree.specs.Descent.{RiseFrom}
use Rattle.py_tree.specs.Owners.{Around, Standing, number_at, at_module_level, within, listed_stmt, listed_form, listed_suite, listed_branches, listed_else, listed_handlers}

-- the numbers rise from n on and are below m
abbrev RiseTo : ℕ → ℕ → List Standing → Type 0
RiseTo n m [] = n ≤ m
RiseTo n m (x ∷ xs) = (n ≤ number_at x) × RiseTo (number_at x + 1) m xs

rise_join : (n m k : ℕ) (xs ys : List Standing) → RiseTo n m xs → RiseTo m k ys → RiseTo n k (xs ++ ys)
rise_join n m k [] [] front back = omega (arith, front, back)
rise_join n m k [] (y ∷ ys) front back = (omega (arith, front, back.0), back.1)
rise_join n m k (x ∷ xs) ys front back = (front.0, rise_join (number_at x + 1) m k xs ys front.1 back)

rise_from : (n m : ℕ) (xs : List Standing) → RiseTo n m xs → RiseFrom n (map number_at xs)
rise_from n m [] rise = tt
rise_from n m (x ∷ xs) rise = (rise.0, rise_from (number_at x + 1) m xs rise.1)

-- up to the same number, written otherwise
up_to : (n m k : ℕ) (xs : List Standing) → m ≡ k → RiseTo n m xs → RiseTo n k xs
up_to n m k xs same rise = subst (λ e. RiseTo n e xs) same rise

mutual
  stmt_to : (n : ℕ) (around : Around) (stmt : StmtTree) → RiseTo n (n + size_stmt stmt) (listed_stmt around (numbered_stmt n stmt))
  stmt_to n around (one_stmt k at span form) = (omega arith, up_to (n + 1) (n + 1 + size_form form) (n + (1 + size_form form)) (listed_form (within (one_stmt n at span (numbered_form (n + 1) form)) around) (numbered_form (n + 1) form)) (omega arith) (form_to (n + 1) (within (one_stmt n at span (numbered_form (n + 1) form)) around) form))

  form_to : (n : ℕ) (around : Around) (form : FormTree) → RiseTo n (n + size_form form) (listed_form around (numbered_form n form))
  form_to n around (if_form branches orelse) =
      let xs = listed_branches around (numbered_branches n branches) in
      let ys = listed_else around (numbered_else (n + size_branches branches) orelse) in
      up_to n (n + size_branches branches + size_else orelse) (n + (size_branches branches + size_else orelse)) (xs ++ ys) (omega arith) (rise_join n (n + size_branches branches) (n + size_branches branches + size_else orelse) xs ys (branches_to n around branches) (else_to (n + size_branches branches) around orelse))
  form_to n around (try_form body handlers) =
      let xs = listed_suite around (numbered_suite n body) in
      let ys = listed_handlers around (numbered_handlers (n + size_suite body) handlers) in
      up_to n (n + size_suite body + size_handlers handlers) (n + (size_suite body + size_handlers handlers)) (xs ++ ys) (omega arith) (rise_join n (n + size_suite body) (n + size_suite body + size_handlers handlers) xs ys (suite_to n around body) (handlers_to (n + size_suite body) around handlers))
  form_to n around (while_form test body) = suite_to n around body
  form_to n around (for_form target items body) = suite_to n around body
  form_to n around (with_form value bound body) = suite_to n around body
  form_to n around (def_form name params globals body) = suite_to n around body
  form_to n around (class_form name base body) = suite_to n around body
  form_to n around (do_form e) = omega arith
  form_to n around (assign_form t e) = omega arith
  form_to n around (aug_form t op at e) = omega arith
  form_to n around (del_form t) = omega arith
  form_to n around pass_form = omega arith
  form_to n around break_form = omega arith
  form_to n around continue_form = omega arith
  form_to n around (return_form e) = omega arith
  form_to n around (raise_form e) = omega arith
  form_to n around (assert_form e m) = omega arith
  form_to n around (import_form e) = omega arith

  suite_to : (n : ℕ) (around : Around) (body : SuiteTree) → RiseTo n (n + size_suite body) (listed_suite around (numbered_suite n body))
  suite_to n around end_suite = omega arith
  suite_to n around (more_suite stmt rest) =
      let xs = listed_stmt around (numbered_stmt n stmt) in
      let ys = listed_suite around (numbered_suite (n + size_stmt stmt) rest) in
      up_to n (n + size_stmt stmt + size_suite rest) (n + (size_stmt stmt + size_suite rest)) (xs ++ ys) (omega arith) (rise_join n (n + size_stmt stmt) (n + size_stmt stmt + size_suite rest) xs ys (stmt_to n around stmt) (suite_to (n + size_stmt stmt) around rest))

  branches_to : (n : ℕ) (around : Around) (branches : BranchesTree) → RiseTo n (n + size_branches branches) (listed_branches around (numbered_branches n branches))
  branches_to n around end_branches = omega arith
  branches_to n around (more_branches test body rest) =
      let xs = listed_suite around (numbered_suite n body) in
      let ys = listed_branches around (numbered_branches (n + size_suite body) rest) in
      up_to n (n + size_suite body + size_branches rest) (n + (size_suite body + size_branches rest)) (xs ++ ys) (omega arith) (rise_join n (n + size_suite body) (n + size_suite body + size_branches rest) xs ys (suite_to n around body) (branches_to (n + size_suite body) around rest))

  else_to : (n : ℕ) (around : Around) (orelse : ElseTree) → RiseTo n (n + size_else orelse) (listed_else around (numbered_else n orelse))
  else_to n around no_else = omega arith
  else_to n around (else_suite body) = suite_to n around body

  handlers_to : (n : ℕ) (around : Around) (handlers : HandlersTree) → RiseTo n (n + size_handlers handlers) (listed_handlers around (numbered_handlers n handlers))
  handlers_to n around end_handlers = omega arith
  handlers_to n around (more_handlers kind bound body rest) =
      let xs = listed_suite around (numbered_suite n body) in
      let ys = listed_handlers around (numbered_handlers (n + size_suite body) rest) in
      up_to n (n + size_suite body + size_handlers rest) (n + (size_suite body + size_handlers rest)) (xs ++ ys) (omega arith) (rise_join n (n + size_suite body) (n + size_suite body + size_handlers rest) xs ys (suite_to n around body) (handlers_to (n + size_suite body) around rest))

-- a numbered script has rising numbers
pub numbers_rise : (script : ScriptTree) → IsNumbered script → RiseFrom 0 (map number_at (listed_suite at_module_level script.body))
numbers_rise script numbered = subst (λ body. RiseFrom 0 (map number_at (listed_suite at_module_level body))) numbered.in_order (rise_from 0 (0 + size_suite script.body) (listed_suite at_module_level (numbered_suite 0 script.body)) (suite_to 0 at_module_level script.body))
