-- The numbers of the statements of a script are below their count.
use Rattle.std.proofs.Common.{ℕ, ◌+◌, ◌<◌, ◌≤◌, List, [], ◌∷◌, ◌++◌, subst, arith}
use Rattle.std.specs.Prelude.{⊤}
use Rattle.py_tree.specs.Numbering.{IsNumbered, size_stmt, size_form, size_suite, size_branches, size_else, size_handlers, numbered_stmt, numbered_form, numbered_suite, numbered_branches, numbered_else, numbered_handlers}
use Rattle.py_tree.specs.Owners.{Around, Standing, number_at, at_module_level, within, listed_stmt, listed_form, listed_suite, listed_branches, listed_else, listed_handlers, statements}
use Rattle.py_tree.specs.Tree.{StmtTree, FormTree, SuiteTree, BranchesTree, ElseTree, HandlersTree, ScriptTree, one_stmt, do_form, assign_form, aug_form, del_form, pass_form, break_form, continue_form, return_form, raise_form, assert_form, import_form, if_form, while_form, for_form, try_form, with_form, def_form, class_form, end_suite, more_suite, end_branches, more_branches, no_else, else_suite, end_handlers, more_handlers}

abbrev pub AreBelow : ℕ → List Standing → Type 0
AreBelow m [] = ⊤
AreBelow m (x ∷ xs) = (number_at x < m) × AreBelow m xs

more_below : (m k : ℕ) (xs : List Standing) → m ≤ k → AreBelow m xs → AreBelow k xs
more_below m k [] more below = tt
more_below m k (x ∷ xs) more below = let first = below.0 in (omega (arith, more, first), more_below m k xs more below.1)

both_below : (m : ℕ) (xs ys : List Standing) → AreBelow m xs → AreBelow m ys → AreBelow m (xs ++ ys)
both_below m [] ys front back = back
both_below m (x ∷ xs) ys front back = (front.0, both_below m xs ys front.1 back)

join : (m n k : ℕ) (xs ys : List Standing) → m ≤ k → n ≤ k → AreBelow m xs → AreBelow n ys → AreBelow k (xs ++ ys)
join m n k xs ys first second front back = both_below k xs ys (more_below m k xs first front) (more_below n k ys second back)

mutual
  stmt_below : (n : ℕ) (around : Around) (stmt : StmtTree) → AreBelow (n + size_stmt stmt) (listed_stmt around (numbered_stmt n stmt))
  stmt_below n around (one_stmt k at span form) =
      let inside = within (one_stmt n at span (numbered_form (n + 1) form)) around in
      (omega arith, more_below (n + 1 + size_form form) (n + (1 + size_form form)) (listed_form inside (numbered_form (n + 1) form)) (omega arith) (form_below (n + 1) inside form))

  form_below : (n : ℕ) (around : Around) (form : FormTree) → AreBelow (n + size_form form) (listed_form around (numbered_form n form))
  form_below n around (if_form branches orelse) =
      join (n + size_branches branches) (n + size_branches branches + size_else orelse) (n + (size_branches branches + size_else orelse)) (listed_branches around (numbered_branches n branches)) (listed_else around (numbered_else (n + size_branches branches) orelse))
      (omega arith) (omega arith) (branches_below n around branches) (else_below (n + size_branches branches) around orelse)
  form_below n around (try_form body handlers) =
      join (n + size_suite body) (n + size_suite body + size_handlers handlers) (n + (size_suite body + size_handlers handlers)) (listed_suite around (numbered_suite n body)) (listed_handlers around (numbered_handlers (n + size_suite body) handlers))
      (omega arith) (omega arith) (suite_below n around body) (handlers_below (n + size_suite body) around handlers)
  form_below n around (while_form test body) = suite_below n around body
  form_below n around (for_form target items body) = suite_below n around body
  form_below n around (with_form value bound body) = suite_below n around body
  form_below n around (def_form name params globals body) = suite_below n around body
  form_below n around (class_form name base body) = suite_below n around body
  form_below n around (do_form e) = tt
  form_below n around (assign_form t e) = tt
  form_below n around (aug_form t op at e) = tt
  form_below n around (del_form t) = tt
  form_below n around pass_form = tt
  form_below n around break_form = tt
  form_below n around continue_form = tt
  form_below n around (return_form e) = tt
  form_below n around (raise_form e) = tt
  form_below n around (assert_form e m) = tt
  form_below n around (import_form e) = tt

  suite_below : (n : ℕ) (around : Around) (body : SuiteTree) → AreBelow (n + size_suite body) (listed_suite around (numbered_suite n body))
  suite_below n around end_suite = tt
  suite_below n around (more_suite stmt rest) =
      join (n + size_stmt stmt) (n + size_stmt stmt + size_suite rest) (n + (size_stmt stmt + size_suite rest)) (listed_stmt around (numbered_stmt n stmt)) (listed_suite around (numbered_suite (n + size_stmt stmt) rest))
      (omega arith) (omega arith) (stmt_below n around stmt) (suite_below (n + size_stmt stmt) around rest)

  branches_below : (n : ℕ) (around : Around) (branches : BranchesTree) → AreBelow (n + size_branches branches) (listed_branches around (numbered_branches n branches))
  branches_below n around end_branches = tt
  branches_below n around (more_branches test body rest) =
      join (n + size_suite body) (n + size_suite body + size_branches rest) (n + (size_suite body + size_branches rest)) (listed_suite around (numbered_suite n body)) (listed_branches around (numbered_branches (n + size_suite body) rest))
      (omega arith) (omega arith) (suite_below n around body) (branches_below (n + size_suite body) around rest)

  else_below : (n : ℕ) (around : Around) (orelse : ElseTree) → AreBelow (n + size_else orelse) (listed_else around (numbered_else n orelse))
  else_below n around no_else = tt
  else_below n around (else_suite body) = suite_below n around body

  handlers_below : (n : ℕ) (around : Around) (handlers : HandlersTree) → AreBelow (n + size_handlers handlers) (listed_handlers around (numbered_handlers n handlers))
  handlers_below n around end_handlers = tt
  handlers_below n around (more_handlers kind bound body rest) =
      join (n + size_suite body) (n + size_suite body + size_handlers rest) (n + (size_suite body + size_handlers rest)) (listed_suite around (numbered_suite n body)) (listed_handlers around (numbered_handlers (n + size_suite body) rest))
      (omega arith) (omega arith) (suite_below n around body) (handlers_below (n + size_suite body) around rest)

pub below_count : (script : ScriptTree) → IsNumbered script → AreBelow script.count (statements script)
below_count script numbered =
    subst (λ m. AreBelow m (statements script)) numbered.counted
    (subst (λ body. AreBelow (size_suite script.body) (listed_suite at_module_level body)) numbered.in_order
    (more_below (0 + size_suite script.body) (size_suite script.body) (listed_suite at_module_level (numbered_suite 0 script.body)) (omega arith) (suite_below 0 at_module_level script.body)))
