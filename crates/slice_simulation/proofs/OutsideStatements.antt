-- In a statement outside a set, whose statements have their owners in it, no statement is of the set; also where a suite loses all its statements.
use Rattle.std.proofs.Common.{◌≡◌, ℕ, Bool, true, false, if◌then◌else◌, ◌⊎◌, List, ◌++◌, inl, inr, refl, sym, ap, subst, ◌∙◌}
use Rattle.std.proofs.lemmas.Bool.{false≢true}
use Rattle.prov_base.specs.declared.place.Pos.{Pos}
use Rattle.py_tree.specs.Deletion.{kept_suite, kept_stmt}
use Rattle.py_tree.specs.Tree.{number_of, StmtTree, FormTree, SuiteTree, BranchesTree, ElseTree, HandlersTree, one_stmt, do_form, assign_form, aug_form, del_form, pass_form, break_form, continue_form, return_form, raise_form, assert_form, import_form, if_form, while_form, for_form, try_form, with_form, def_form, class_form, end_suite, more_suite, end_branches, more_branches, no_else, else_suite, end_handlers, more_handlers}
use Rattle.slice_law.specs.Closed.{StmtSet, IsIn}
use Rattle.slice_simulation.proofs.StartsOnce.{either_in}
use Rattle.slice_simulation.specs.Owned.{started_suite, started_stmt, started_form, started_branches, started_else, started_handlers}
use Rattle.slice_simulation.specs.Under.{UnderSuite, UnderStmt, UnderForm, UnderBranches, UnderElse, UnderHandlers}

module _ (keep : StmtSet) where
  never_kept : (n : ℕ) → (keep n ≡ true → false ≡ true) → keep n ≡ false
  never_kept n under = by_test (keep n) refl
    where
      by_test : (test : Bool) → keep n ≡ test → keep n ≡ false
      by_test true is = absurd (false≢true (under is))
      by_test false is = is

  module _ (n : ℕ) (place : Pos) where
    in_one : (xs ys : List (ℕ × Pos)) → IsIn (xs ++ ys) (n, place) → (IsIn xs (n, place) → keep n ≡ false) → (IsIn ys (n, place) → keep n ≡ false) → keep n ≡ false
    in_one xs ys there front behind = by_either (either_in xs ys (n, place) there)
      where
        by_either : IsIn xs (n, place) ⊎ IsIn ys (n, place) → keep n ≡ false
        by_either (inl here) = front here
        by_either (inr later) = behind later

    mutual
      pub suite_outside : (body : SuiteTree) → UnderSuite keep false body → IsIn (started_suite body) (n, place) → keep n ≡ false
      suite_outside end_suite under there = absurd there
      suite_outside (more_suite s rest) under there = in_one (started_stmt s) (started_suite rest) there (stmt_outside s under.0) (suite_outside rest under.1)

      pub stmt_outside : (s : StmtTree) → UnderStmt keep false s → IsIn (started_stmt s) (n, place) → keep n ≡ false
      stmt_outside (one_stmt number at span form) under (inl is) = ap (λ (x : ℕ × Pos). keep x.0) (sym is) ∙ never_kept number under.0
      stmt_outside (one_stmt number at span form) under (inr there) = form_outside form (subst (λ around. UnderForm keep around form) (never_kept number under.0) under.1) there

      pub form_outside : (form : FormTree) → UnderForm keep false form → IsIn (started_form form) (n, place) → keep n ≡ false
      form_outside (do_form e) under there = absurd there
      form_outside (assign_form target e) under there = absurd there
      form_outside (aug_form target sign at e) under there = absurd there
      form_outside (del_form target) under there = absurd there
      form_outside pass_form under there = absurd there
      form_outside break_form under there = absurd there
      form_outside continue_form under there = absurd there
      form_outside (return_form e) under there = absurd there
      form_outside (raise_form e) under there = absurd there
      form_outside (assert_form test message) under there = absurd there
      form_outside (import_form name) under there = absurd there
      form_outside (if_form branches orelse) under there = in_one (started_branches branches) (started_else orelse) there (branches_outside branches under.0) (else_outside orelse under.1)
      form_outside (while_form test body) under there = suite_outside body under there
      form_outside (for_form target items body) under there = suite_outside body under there
      form_outside (try_form body handlers) under there = in_one (started_suite body) (started_handlers handlers) there (suite_outside body under.0) (handlers_outside handlers under.1)
      form_outside (with_form e bound body) under there = suite_outside body under there
      form_outside (def_form name params globals body) under there = suite_outside body under there
      form_outside (class_form name base body) under there = suite_outside body under there

      branches_outside : (branches : BranchesTree) → UnderBranches keep false branches → IsIn (started_branches branches) (n, place) → keep n ≡ false
      branches_outside end_branches under there = absurd there
      branches_outside (more_branches test body rest) under there = in_one (started_suite body) (started_branches rest) there (suite_outside body under.0) (branches_outside rest under.1)

      else_outside : (orelse : ElseTree) → UnderElse keep false orelse → IsIn (started_else orelse) (n, place) → keep n ≡ false
      else_outside no_else under there = absurd there
      else_outside (else_suite body) under there = suite_outside body under there

      handlers_outside : (handlers : HandlersTree) → UnderHandlers keep false handlers → IsIn (started_handlers handlers) (n, place) → keep n ≡ false
      handlers_outside end_handlers under there = absurd there
      handlers_outside (more_handlers kind bound body rest) under there = in_one (started_suite body) (started_handlers rest) there (suite_outside body under.0) (handlers_outside rest under.1)

    -- a statement that is not kept, with all in it
    pub deleted_outside : (around : Bool) (s : StmtTree) → keep (number_of s) ≡ false → UnderStmt keep around s → IsIn (started_stmt s) (n, place) → keep n ≡ false
    deleted_outside around (one_stmt number at span form) out under (inl is) = ap (λ (x : ℕ × Pos). keep x.0) (sym is) ∙ out
    deleted_outside around (one_stmt number at span form) out under (inr there) = form_outside form (subst (λ kept. UnderForm keep kept form) out under.1) there

    -- where none of a suite is kept
    pub emptied_outside : (around : Bool) (body : SuiteTree) → kept_suite keep body ≡ end_suite → UnderSuite keep around body → IsIn (started_suite body) (n, place) → keep n ≡ false
    emptied_outside around end_suite emptied under there = absurd there
    emptied_outside around (more_suite s rest) emptied under there =
        by_test (keep (number_of s)) refl emptied (λ out. deleted_outside around s out under.0) (λ none. emptied_outside around rest none under.1)
      where
        by_test : (test : Bool) → keep (number_of s) ≡ test → (if test then more_suite (kept_stmt keep s) (kept_suite keep rest) else kept_suite keep rest) ≡ end_suite
            → (keep (number_of s) ≡ false → IsIn (started_stmt s) (n, place) → keep n ≡ false)
            → (kept_suite keep rest ≡ end_suite → IsIn (started_suite rest) (n, place) → keep n ≡ false) → keep n ≡ false
        by_test true is emptied own others = absurd cc
        by_test false is emptied own others = in_one (started_stmt s) (started_suite rest) there (own is) (others emptied)
