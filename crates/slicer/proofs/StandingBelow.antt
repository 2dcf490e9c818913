-- In a numbered script each statement's number, and that of what it stands in, is below the number of statements.
use Rattle.std.proofs.Common.{ℕ, ◌+◌, ◌≤◌, ◌<◌, List, [], ◌∷◌, ◌++◌, Option, Some, None, inl, inr, subst, arith}
use Rattle.std.specs.Prelude.{⊤}
use Rattle.py_tree.specs.Numbering.{size_stmt, size_form, size_suite, size_branches, size_else, size_handlers, numbered_stmt, numbered_form, numbered_suite, numbered_branches, numbered_else, numbered_handlers, IsNumbered}
use Rattle.py_tree.specs.Owners.{Around, Standing, at_module_level, within, listed_stmt, listed_form, listed_suite, listed_branches, listed_else, listed_handlers, number_at, statements}
use Rattle.py_tree.specs.Tree.{number_of, StmtTree, FormTree, SuiteTree, BranchesTree, ElseTree, HandlersTree, ScriptTree, one_stmt, if_form, while_form, for_form, try_form, with_form, def_form, class_form, do_form, assign_form, aug_form, del_form, pass_form, break_form, continue_form, return_form, raise_form, assert_form, import_form, end_suite, more_suite, end_branches, more_branches, no_else, else_suite, end_handlers, more_handlers}
use Rattle.slice_law.specs.Closed.{IsIn}

module _ (b : ℕ) where
  abbrev pub OwnerBelow : Option StmtTree → Type 0
  OwnerBelow None = ⊤
  OwnerBelow (Some owner) = number_of owner < b

  abbrev pub StandBelow : List Standing → Type 0
  StandBelow [] = ⊤
  StandBelow (x ∷ xs) = ((number_at x < b) × OwnerBelow x.around.owner) × StandBelow xs

  both : (xs ys : List Standing) → StandBelow xs → StandBelow ys → StandBelow (xs ++ ys)
  both [] ys all more = more
  both (x ∷ xs) ys all more = (all.0, both xs ys all.1 more)

  pub one_below : (xs : List Standing) (x : Standing) → StandBelow xs → IsIn xs x → (number_at x < b) × OwnerBelow x.around.owner
  one_below [] x all there = absurd there
  one_below (first ∷ xs) x all (inl same) = subst (λ y. (number_at y < b) × OwnerBelow y.around.owner) same all.0
  one_below (first ∷ xs) x all (inr there) = one_below xs x all.1 there

  mutual
    stmt_below : (n : ℕ) (around : Around) (stmt : StmtTree) → OwnerBelow around.owner → n + size_stmt stmt ≤ b → StandBelow (listed_stmt around (numbered_stmt n stmt))
    stmt_below n around (one_stmt number at span form) owner fits =
        let own : n < b = omega (arith, fits) in
        ((own, owner), form_below (n + 1) (within (one_stmt n at span (numbered_form (n + 1) form)) around) form own (omega (arith, fits)))

    form_below : (n : ℕ) (around : Around) (form : FormTree) → OwnerBelow around.owner → n + size_form form ≤ b → StandBelow (listed_form around (numbered_form n form))
    form_below n around (if_form branches orelse) owner fits =
        both (listed_branches around (numbered_branches n branches)) (listed_else around (numbered_else (n + size_branches branches) orelse))
        (branches_below n around branches owner (omega (arith, fits))) (else_below (n + size_branches branches) around orelse owner (omega (arith, fits)))
    form_below n around (try_form body handlers) owner fits =
        both (listed_suite around (numbered_suite n body)) (listed_handlers around (numbered_handlers (n + size_suite body) handlers))
        (suite_below n around body owner (omega (arith, fits))) (handlers_below (n + size_suite body) around handlers owner (omega (arith, fits)))
    form_below n around (while_form test body) owner fits = suite_below n around body owner fits
    form_below n around (for_form target items body) owner fits = suite_below n around body owner fits
    form_below n around (with_form value bound body) owner fits = suite_below n around body owner fits
    form_below n around (def_form name params globals body) owner fits = suite_below n around body owner fits
    form_below n around (class_form name base body) owner fits = suite_below n around body owner fits
    form_below n around (do_form e) owner fits = tt
    form_below n around (assign_form t e) owner fits = tt
    form_below n around (aug_form t op at e) owner fits = tt
    form_below n around (del_form t) owner fits = tt
    form_below n around pass_form owner fits = tt
    form_below n around break_form owner fits = tt
    form_below n around continue_form owner fits = tt
    form_below n around (return_form e) owner fits = tt
    form_below n around (raise_form e) owner fits = tt
    form_below n around (assert_form e m) owner fits = tt
    form_below n around (import_form e) owner fits = tt

    suite_below : (n : ℕ) (around : Around) (body : SuiteTree) → OwnerBelow around.owner → n + size_suite body ≤ b → StandBelow (listed_suite around (numbered_suite n body))
    suite_below n around end_suite owner fits = tt
    suite_below n around (more_suite stmt rest) owner fits =
        both (listed_stmt around (numbered_stmt n stmt)) (listed_suite around (numbered_suite (n + size_stmt stmt) rest))
        (stmt_below n around stmt owner (omega (arith, fits))) (suite_below (n + size_stmt stmt) around rest owner (omega (arith, fits)))

    branches_below : (n : ℕ) (around : Around) (branches : BranchesTree) → OwnerBelow around.owner → n + size_branches branches ≤ b → StandBelow (listed_branches around (numbered_branches n branches))
    branches_below n around end_branches owner fits = tt
    branches_below n around (more_branches test body rest) owner fits =
        both (listed_suite around (numbered_suite n body)) (listed_branches around (numbered_branches (n + size_suite body) rest))
        (suite_below n around body owner (omega (arith, fits))) (branches_below (n + size_suite body) around rest owner (omega (arith, fits)))

    else_below : (n : ℕ) (around : Around) (orelse : ElseTree) → OwnerBelow around.owner → n + size_else orelse ≤ b → StandBelow (listed_else around (numbered_else n orelse))
    else_below n around no_else owner fits = tt
    else_below n around (else_suite body) owner fits = suite_below n around body owner fits

    handlers_below : (n : ℕ) (around : Around) (handlers : HandlersTree) → OwnerBelow around.owner → n + size_handlers handlers ≤ b → StandBelow (listed_handlers around (numbered_handlers n handlers))
    handlers_below n around end_handlers owner fits = tt
    handlers_below n around (more_handlers kind bound body rest) owner fits =
        both (listed_suite around (numbered_suite n body)) (listed_handlers around (numbered_handlers (n + size_suite body) rest))
        (suite_below n around body owner (omega (arith, fits))) (handlers_below (n + size_suite body) around rest owner (omega (arith, fits)))

pub all_below : (script : ScriptTree) → IsNumbered script → StandBelow script.count (statements script)
all_below script numbered =
    subst (λ body. StandBelow script.count (listed_suite at_module_level body)) numbered.in_order
    (suite_below script.count 0 at_module_level script.body tt (omega (arith, numbered.counted)))
