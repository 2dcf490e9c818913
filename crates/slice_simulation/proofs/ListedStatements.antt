-- What stands in a suite starts there; and it stands in the function of the suite, or in a function that starts there.
use Rattle.std.proofs.Common.{◌≡◌, ℕ, Bool, true, false, if◌then◌else◌, ◌⊎◌, List, ◌∷◌, ◌++◌, Some, inl, inr, refl, sym, ap, ◌∙◌}
use Rattle.prov_base.specs.declared.place.Pos.{Pos}
use Rattle.py_tree.specs.Owners.{Around, Standing, is_def, number_at, within, listed_stmt, listed_form, listed_suite, listed_branches, listed_else, listed_handlers}
use Rattle.py_tree.specs.Placed.{place_of}
use Rattle.py_tree.specs.Tree.{StmtTree, FormTree, SuiteTree, BranchesTree, ElseTree, HandlersTree, one_stmt, do_form, assign_form, aug_form, del_form, pass_form, break_form, continue_form, return_form, raise_form, assert_form, import_form, if_form, while_form, for_form, try_form, with_form, def_form, class_form, end_suite, more_suite, end_branches, more_branches, no_else, else_suite, end_handlers, more_handlers}
use Rattle.slice_law.specs.Closed.{IsIn}
use Rattle.slice_simulation.proofs.Standing.{in_front, in_behind}
use Rattle.slice_simulation.proofs.StartsOnce.{either_in}
use Rattle.slice_simulation.specs.Owned.{started_suite, started_stmt, started_form, started_branches, started_else, started_handlers}

module _ (x : Standing) where
  both_start : (us vs : List Standing) (xs ys : List (ℕ × Pos)) → IsIn (us ++ vs) x → (IsIn us x → IsIn xs (number_at x, place_of x)) → (IsIn vs x → IsIn ys (number_at x, place_of x))
      → IsIn (xs ++ ys) (number_at x, place_of x)
  both_start us vs xs ys there front behind = by_either (either_in us vs x there)
    where
      by_either : IsIn us x ⊎ IsIn vs x → IsIn (xs ++ ys) (number_at x, place_of x)
      by_either (inl here) = in_front xs ys (number_at x, place_of x) (front here)
      by_either (inr later) = in_behind xs ys (number_at x, place_of x) (behind later)

  -- what stands there starts there
  mutual
    pub suite_starts_it : (around : Around) (body : SuiteTree) → IsIn (listed_suite around body) x → IsIn (started_suite body) (number_at x, place_of x)
    suite_starts_it around end_suite there = absurd there
    suite_starts_it around (more_suite s rest) there =
        both_start (listed_stmt around s) (listed_suite around rest) (started_stmt s) (started_suite rest) there (stmt_starts_it around s) (suite_starts_it around rest)

    pub stmt_starts_it : (around : Around) (s : StmtTree) → IsIn (listed_stmt around s) x → IsIn (started_stmt s) (number_at x, place_of x)
    stmt_starts_it around (one_stmt number at span form) (inl is) = inl (ap (λ (y : Standing). (number_at y, place_of y)) is)
    stmt_starts_it around (one_stmt number at span form) (inr there) = inr (form_starts_it (within (one_stmt number at span form) around) form there)

    form_starts_it : (around : Around) (form : FormTree) → IsIn (listed_form around form) x → IsIn (started_form form) (number_at x, place_of x)
    form_starts_it around (if_form branches orelse) there =
        both_start (listed_branches around branches) (listed_else around orelse) (started_branches branches) (started_else orelse) there (branches_start_it around branches) (else_starts_it around orelse)
    form_starts_it around (while_form test body) there = suite_starts_it around body there
    form_starts_it around (for_form target items body) there = suite_starts_it around body there
    form_starts_it around (try_form body handlers) there =
        both_start (listed_suite around body) (listed_handlers around handlers) (started_suite body) (started_handlers handlers) there (suite_starts_it around body) (handlers_start_it around handlers)
    form_starts_it around (with_form e bound body) there = suite_starts_it around body there
    form_starts_it around (def_form name params globals body) there = suite_starts_it around body there
    form_starts_it around (class_form name base body) there = suite_starts_it around body there
    form_starts_it around (do_form e) there = absurd there
    form_starts_it around (assign_form target e) there = absurd there
    form_starts_it around (aug_form target sign p e) there = absurd there
    form_starts_it around (del_form target) there = absurd there
    form_starts_it around pass_form there = absurd there
    form_starts_it around break_form there = absurd there
    form_starts_it around continue_form there = absurd there
    form_starts_it around (return_form e) there = absurd there
    form_starts_it around (raise_form e) there = absurd there
    form_starts_it around (assert_form test message) there = absurd there
    form_starts_it around (import_form name) there = absurd there

    branches_start_it : (around : Around) (branches : BranchesTree) → IsIn (listed_branches around branches) x → IsIn (started_branches branches) (number_at x, place_of x)
    branches_start_it around end_branches there = absurd there
    branches_start_it around (more_branches test body rest) there =
        both_start (listed_suite around body) (listed_branches around rest) (started_suite body) (started_branches rest) there (suite_starts_it around body) (branches_start_it around rest)

    else_starts_it : (around : Around) (orelse : ElseTree) → IsIn (listed_else around orelse) x → IsIn (started_else orelse) (number_at x, place_of x)
    else_starts_it around no_else there = absurd there
    else_starts_it around (else_suite body) there = suite_starts_it around body there

    handlers_start_it : (around : Around) (handlers : HandlersTree) → IsIn (listed_handlers around handlers) x → IsIn (started_handlers handlers) (number_at x, place_of x)
    handlers_start_it around end_handlers there = absurd there
    handlers_start_it around (more_handlers kind bound body rest) there =
        both_start (listed_suite around body) (listed_handlers around rest) (started_suite body) (started_handlers rest) there (suite_starts_it around body) (handlers_start_it around rest)

  module _ (d : ℕ) (own : x.around.function ≡ Some d) where
    -- its function is the one around all, or a statement with that number starts there
    pub data FromFunction (around : Around) (starts : List (ℕ × Pos)) : Type 0 where
      around_all : around.function ≡ Some d → FromFunction around starts
      starts_inside : (p : Pos) → IsIn starts (d, p) → FromFunction around starts

    from_parts : (around : Around) (us vs : List Standing) (xs ys : List (ℕ × Pos)) → IsIn (us ++ vs) x → (IsIn us x → FromFunction around xs) → (IsIn vs x → FromFunction around ys)
        → FromFunction around (xs ++ ys)
    from_parts around us vs xs ys there front behind = by_either (either_in us vs x there)
      where
        at_front : FromFunction around xs → FromFunction around (xs ++ ys)
        at_front (around_all is) = around_all is
        at_front (starts_inside p here) = starts_inside p (in_front xs ys (d, p) here)

        at_end : FromFunction around ys → FromFunction around (xs ++ ys)
        at_end (around_all is) = around_all is
        at_end (starts_inside p here) = starts_inside p (in_behind xs ys (d, p) here)

        by_either : IsIn us x ⊎ IsIn vs x → FromFunction around (xs ++ ys)
        by_either (inl here) = at_front (front here)
        by_either (inr later) = at_end (behind later)

    -- in the suites of a statement
    from_inside : (around inner : Around) (number : ℕ) (at : Pos) (starts : List (ℕ × Pos)) (is_own : Bool) → inner.function ≡ (if is_own then Some number else around.function)
        → FromFunction inner starts → FromFunction around ((number, at) ∷ starts)
    from_inside around inner number at starts is_own same (starts_inside p here) = starts_inside p (inr here)
    from_inside around inner number at starts true same (around_all is) = starts_inside at (inl (let number_is : number ≡ d = cc in ap (λ n. (n, at)) number_is))
    from_inside around inner number at starts false same (around_all is) = around_all (sym same ∙ is)

    mutual
      pub suite_function : (around : Around) (body : SuiteTree) → IsIn (listed_suite around body) x → FromFunction around (started_suite body)
      suite_function around end_suite there = absurd there
      suite_function around (more_suite s rest) there =
          from_parts around (listed_stmt around s) (listed_suite around rest) (started_stmt s) (started_suite rest) there (stmt_function around s) (suite_function around rest)

      pub stmt_function : (around : Around) (s : StmtTree) → IsIn (listed_stmt around s) x → FromFunction around (started_stmt s)
      stmt_function around (one_stmt number at span form) (inl is) = around_all (ap (λ (y : Standing). y.around.function) is ∙ own)
      stmt_function around (one_stmt number at span form) (inr there) =
          from_inside around (within (one_stmt number at span form) around) number at (started_form form) (is_def form) refl (form_function (within (one_stmt number at span form) around) form there)

      form_function : (around : Around) (form : FormTree) → IsIn (listed_form around form) x → FromFunction around (started_form form)
      form_function around (if_form branches orelse) there =
          from_parts around (listed_branches around branches) (listed_else around orelse) (started_branches branches) (started_else orelse) there (branches_function around branches) (else_function around orelse)
      form_function around (while_form test body) there = suite_function around body there
      form_function around (for_form target items body) there = suite_function around body there
      form_function around (try_form body handlers) there =
          from_parts around (listed_suite around body) (listed_handlers around handlers) (started_suite body) (started_handlers handlers) there (suite_function around body) (handlers_function around handlers)
      form_function around (with_form e bound body) there = suite_function around body there
      form_function around (def_form name params globals body) there = suite_function around body there
      form_function around (class_form name base body) there = suite_function around body there
      form_function around (do_form e) there = absurd there
      form_function around (assign_form target e) there = absurd there
      form_function around (aug_form target sign p e) there = absurd there
      form_function around (del_form target) there = absurd there
      form_function around pass_form there = absurd there
      form_function around break_form there = absurd there
      form_function around continue_form there = absurd there
      form_function around (return_form e) there = absurd there
      form_function around (raise_form e) there = absurd there
      form_function around (assert_form test message) there = absurd there
      form_function around (import_form name) there = absurd there

      branches_function : (around : Around) (branches : BranchesTree) → IsIn (listed_branches around branches) x → FromFunction around (started_branches branches)
      branches_function around end_branches there = absurd there
      branches_function around (more_branches test body rest) there =
          from_parts around (listed_suite around body) (listed_branches around rest) (started_suite body) (started_branches rest) there (suite_function around body) (branches_function around rest)

      else_function : (around : Around) (orelse : ElseTree) → IsIn (listed_else around orelse) x → FromFunction around (started_else orelse)
      else_function around no_else there = absurd there
      else_function around (else_suite body) there = suite_function around body there

      handlers_function : (around : Around) (handlers : HandlersTree) → IsIn (listed_handlers around handlers) x → FromFunction around (started_handlers handlers)
      handlers_function around end_handlers there = absurd there
      handlers_function around (more_handlers kind bound body rest) there =
          from_parts around (listed_suite around body) (listed_handlers around rest) (started_suite body) (started_handlers rest) there (suite_function around body) (handlers_function around rest)
