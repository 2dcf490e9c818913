-- Which statements outside a set have nothing at their place in the slice: all but the first ones of suites that lose all their statements, where
-- `pass` stands.
use Rattle.std.proofs.Common.{ℕ, ◌+◌, Bool, true, false, if◌then◌else◌, ◌⊎◌, List, [], ◌∷◌, ◌++◌, inl, inr, ap, subst}
use Rattle.prov_base.specs.declared.place.Pos.{Pos}
use Rattle.py_tree.specs.Deletion.{or_pass, kept_suite, kept_stmt, kept_form, kept_branches, kept_else, kept_handlers}
use Rattle.py_tree.specs.Numbering.{size_stmt, size_suite, size_branches, numbered_suite, numbered_stmt, numbered_form, numbered_branches, numbered_else, numbered_handlers}
use Rattle.py_tree.specs.Places.{suite_starts, stmt_starts, form_starts, branches_starts, else_starts, handlers_starts}
use Rattle.py_tree.specs.Tree.{number_of, StmtTree, FormTree, SuiteTree, BranchesTree, ElseTree, HandlersTree, one_stmt, do_form, assign_form, aug_form, del_form, pass_form, break_form, continue_form, return_form, raise_form, assert_form, import_form, if_form, while_form, for_form, try_form, with_form, def_form, class_form, end_suite, more_suite, end_branches, more_branches, no_else, else_suite, end_handlers, more_handlers}
use Rattle.slice_law.specs.Closed.{StmtSet, IsIn}
use Rattle.slice_simulation.proofs.Standing.{in_front, in_behind}
use Rattle.slice_simulation.proofs.StartsOnce.{either_in, start_in, suite_started, stmt_started, form_started}
use Rattle.slice_simulation.specs.Owned.{started_suite, started_stmt, started_form, started_branches, started_else, started_handlers}

-- of a suite whose owner is kept: all but the first, where none is kept
abbrev pub lone_of : SuiteTree → SuiteTree → List (ℕ × Pos) → List (ℕ × Pos)
lone_of (more_suite (one_stmt number at span form) rest) end_suite lone = started_form form ++ started_suite rest
lone_of body kept lone = lone

-- The statements outside the set that have nothing at their place in the slice, each with its place: of a row, and of suites of kept statements.
module _ (keep : StmtSet) where
  abbrev mutual
    pub lone_suite : SuiteTree → List (ℕ × Pos)
    lone_suite end_suite = []
    lone_suite (more_suite s rest) = lone_stmt s ++ lone_suite rest

    pub lone_stmt : StmtTree → List (ℕ × Pos)
    lone_stmt (one_stmt number at span form) = if keep number then lone_form form else (number, at) ∷ started_form form

    pub lone_form : FormTree → List (ℕ × Pos)
    lone_form (if_form branches orelse) = lone_branches branches ++ lone_else orelse
    lone_form (while_form test body) = lone_of body (kept_suite keep body) (lone_suite body)
    lone_form (for_form target items body) = lone_of body (kept_suite keep body) (lone_suite body)
    lone_form (try_form body handlers) = lone_of body (kept_suite keep body) (lone_suite body) ++ lone_handlers handlers
    lone_form (with_form e bound body) = lone_of body (kept_suite keep body) (lone_suite body)
    lone_form (def_form name params globals body) = lone_of body (kept_suite keep body) (lone_suite body)
    lone_form (class_form name base body) = lone_of body (kept_suite keep body) (lone_suite body)
    lone_form form = []

    pub lone_branches : BranchesTree → List (ℕ × Pos)
    lone_branches end_branches = []
    lone_branches (more_branches test body rest) = lone_of body (kept_suite keep body) (lone_suite body) ++ lone_branches rest

    pub lone_else : ElseTree → List (ℕ × Pos)
    lone_else no_else = []
    lone_else (else_suite body) = lone_of body (kept_suite keep body) (lone_suite body)

    pub lone_handlers : HandlersTree → List (ℕ × Pos)
    lone_handlers end_handlers = []
    lone_handlers (more_handlers kind bound body rest) = lone_of body (kept_suite keep body) (lone_suite body) ++ lone_handlers rest

  abbrev pub lone_body : SuiteTree → List (ℕ × Pos)
  lone_body body = lone_of body (kept_suite keep body) (lone_suite body)

  module _ (place : Pos) where
    one_of : {P Q : Type 0} (xs ys : List (ℕ × Pos)) (n : ℕ) → IsIn (xs ++ ys) (n, place) → (IsIn xs (n, place) → P) → (IsIn ys (n, place) → Q) → P ⊎ Q
    one_of {P} {Q} xs ys n there front behind = by_either (either_in xs ys (n, place) there)
      where
        by_either : IsIn xs (n, place) ⊎ IsIn ys (n, place) → P ⊎ Q
        by_either (inl here) = inl (front here)
        by_either (inr later) = inr (behind later)

    in_joined : (ps qs : List Pos) → IsIn ps place ⊎ IsIn qs place → IsIn (ps ++ qs) place
    in_joined ps qs (inl here) = in_front ps qs place here
    in_joined ps qs (inr later) = in_behind ps qs place later

    -- they are among the script's
    pub lone_of_starts : (body kept : SuiteTree) (lone : List (ℕ × Pos)) (n : ℕ) → IsIn (lone_of body kept lone) (n, place) → (IsIn lone (n, place) → IsIn (suite_starts body) place) → IsIn (suite_starts body) place
    lone_of_starts end_suite kept lone n there each = each there
    lone_of_starts (more_suite (one_stmt number at span form) rest) end_suite lone n there each =
        inr (in_joined (form_starts form) (suite_starts rest) (one_of (started_form form) (started_suite rest) n there
        (λ here. subst (λ ps. IsIn ps place) (form_started form) (start_in (started_form form) n place here))
        (λ later. subst (λ ps. IsIn ps place) (suite_started rest) (start_in (started_suite rest) n place later))))
    lone_of_starts (more_suite (one_stmt number at span form) rest) (more_suite s more) lone n there each = each there

    mutual
      pub suite_lone : (n : ℕ) (body : SuiteTree) → IsIn (lone_suite body) (n, place) → IsIn (suite_starts body) place
      suite_lone n end_suite there = absurd there
      suite_lone n (more_suite s rest) there = in_joined (stmt_starts s) (suite_starts rest) (one_of (lone_stmt s) (lone_suite rest) n there (stmt_lone n s) (suite_lone n rest))

      pub stmt_lone : (n : ℕ) (s : StmtTree) → IsIn (lone_stmt s) (n, place) → IsIn (stmt_starts s) place
      stmt_lone n (one_stmt number at span form) there = by_test (keep number) there (form_lone n form)
        where
          by_test : (test : Bool) → IsIn (if test then lone_form form else (number, at) ∷ started_form form) (n, place)
              → (IsIn (lone_form form) (n, place) → IsIn (form_starts form) place) → IsIn (at ∷ form_starts form) place
          by_test true there each = inr (each there)
          by_test false there each = subst (λ ps. IsIn ps place) (stmt_started (one_stmt number at span form)) (start_in ((number, at) ∷ started_form form) n place there)

      pub form_lone : (n : ℕ) (form : FormTree) → IsIn (lone_form form) (n, place) → IsIn (form_starts form) place
      form_lone n (if_form branches orelse) there =
          in_joined (branches_starts branches) (else_starts orelse) (one_of (lone_branches branches) (lone_else orelse) n there (branches_lone n branches) (else_lone n orelse))
      form_lone n (while_form test body) there = lone_of_starts body (kept_suite keep body) (lone_suite body) n there (suite_lone n body)
      form_lone n (for_form target items body) there = lone_of_starts body (kept_suite keep body) (lone_suite body) n there (suite_lone n body)
      form_lone n (try_form body handlers) there =
          in_joined (suite_starts body) (handlers_starts handlers) (one_of (lone_of body (kept_suite keep body) (lone_suite body)) (lone_handlers handlers) n there
          (λ here. lone_of_starts body (kept_suite keep body) (lone_suite body) n here (suite_lone n body)) (handlers_lone n handlers))
      form_lone n (with_form e bound body) there = lone_of_starts body (kept_suite keep body) (lone_suite body) n there (suite_lone n body)
      form_lone n (def_form name params globals body) there = lone_of_starts body (kept_suite keep body) (lone_suite body) n there (suite_lone n body)
      form_lone n (class_form name base body) there = lone_of_starts body (kept_suite keep body) (lone_suite body) n there (suite_lone n body)
      form_lone n (do_form e) there = absurd there
      form_lone n (assign_form target e) there = absurd there
      form_lone n (aug_form target sign p e) there = absurd there
      form_lone n (del_form target) there = absurd there
      form_lone n pass_form there = absurd there
      form_lone n break_form there = absurd there
      form_lone n continue_form there = absurd there
      form_lone n (return_form e) there = absurd there
      form_lone n (raise_form e) there = absurd there
      form_lone n (assert_form test message) there = absurd there
      form_lone n (import_form name) there = absurd there

      pub branches_lone : (n : ℕ) (branches : BranchesTree) → IsIn (lone_branches branches) (n, place) → IsIn (branches_starts branches) place
      branches_lone n end_branches there = absurd there
      branches_lone n (more_branches test body rest) there =
          in_joined (suite_starts body) (branches_starts rest) (one_of (lone_of body (kept_suite keep body) (lone_suite body)) (lone_branches rest) n there
          (λ here. lone_of_starts body (kept_suite keep body) (lone_suite body) n here (suite_lone n body)) (branches_lone n rest))

      pub else_lone : (n : ℕ) (orelse : ElseTree) → IsIn (lone_else orelse) (n, place) → IsIn (else_starts orelse) place
      else_lone n no_else there = absurd there
      else_lone n (else_suite body) there = lone_of_starts body (kept_suite keep body) (lone_suite body) n there (suite_lone n body)

      pub handlers_lone : (n : ℕ) (handlers : HandlersTree) → IsIn (lone_handlers handlers) (n, place) → IsIn (handlers_starts handlers) place
      handlers_lone n end_handlers there = absurd there
      handlers_lone n (more_handlers kind bound body rest) there =
          in_joined (suite_starts body) (handlers_starts rest) (one_of (lone_of body (kept_suite keep body) (lone_suite body)) (lone_handlers rest) n there
          (λ here. lone_of_starts body (kept_suite keep body) (lone_suite body) n here (suite_lone n body)) (handlers_lone n rest))

    -- what starts in the slice starts in the script
    pub or_pass_starts : (m n : ℕ) (body kept : SuiteTree) → IsIn (started_suite (numbered_suite m (or_pass body kept))) (n, place)
        → (IsIn (started_suite (numbered_suite m kept)) (n, place) → IsIn (suite_starts body) place) → IsIn (suite_starts body) place
    or_pass_starts m n end_suite kept there each = each there
    or_pass_starts m n (more_suite (one_stmt number at span form) rest) end_suite (inl is) each = inl (ap (λ (x : ℕ × Pos). x.1) is)
    or_pass_starts m n (more_suite (one_stmt number at span form) rest) end_suite (inr there) each = absurd there
    or_pass_starts m n (more_suite (one_stmt number at span form) rest) (more_suite s more) there each = each there

    mutual
      pub suite_left : (m n : ℕ) (body : SuiteTree) → IsIn (started_suite (numbered_suite m (kept_suite keep body))) (n, place) → IsIn (suite_starts body) place
      suite_left m n end_suite there = absurd there
      suite_left m n (more_suite s rest) there = by_test (keep (number_of s)) there (stmt_left m n s) (λ first. suite_left first n rest)
        where
          by_test : (test : Bool) → IsIn (started_suite (numbered_suite m (if test then more_suite (kept_stmt keep s) (kept_suite keep rest) else kept_suite keep rest))) (n, place)
              → (IsIn (started_stmt (numbered_stmt m (kept_stmt keep s))) (n, place) → IsIn (stmt_starts s) place)
              → ((first : ℕ) → IsIn (started_suite (numbered_suite first (kept_suite keep rest))) (n, place) → IsIn (suite_starts rest) place)
              → IsIn (stmt_starts s ++ suite_starts rest) place
          by_test true there own others =
              in_joined (stmt_starts s) (suite_starts rest) (one_of (started_stmt (numbered_stmt m (kept_stmt keep s)))
              (started_suite (numbered_suite (m + size_stmt (kept_stmt keep s)) (kept_suite keep rest))) n there own (others (m + size_stmt (kept_stmt keep s))))
          by_test false there own others = in_behind (stmt_starts s) (suite_starts rest) place (others m there)

      pub stmt_left : (m n : ℕ) (s : StmtTree) → IsIn (started_stmt (numbered_stmt m (kept_stmt keep s))) (n, place) → IsIn (stmt_starts s) place
      stmt_left m n (one_stmt number at span form) (inl is) = inl (ap (λ (x : ℕ × Pos). x.1) is)
      stmt_left m n (one_stmt number at span form) (inr there) = inr (form_left (m + 1) n form there)

      pub form_left : (m n : ℕ) (form : FormTree) → IsIn (started_form (numbered_form m (kept_form keep form))) (n, place) → IsIn (form_starts form) place
      form_left m n (if_form branches orelse) there =
          in_joined (branches_starts branches) (else_starts orelse) (one_of (started_branches (numbered_branches m (kept_branches keep branches)))
          (started_else (numbered_else (m + size_branches (kept_branches keep branches)) (kept_else keep orelse))) n there
          (branches_left m n branches) (else_left (m + size_branches (kept_branches keep branches)) n orelse))
      form_left m n (while_form test body) there = or_pass_starts m n body (kept_suite keep body) there (suite_left m n body)
      form_left m n (for_form target items body) there = or_pass_starts m n body (kept_suite keep body) there (suite_left m n body)
      form_left m n (try_form body handlers) there =
          in_joined (suite_starts body) (handlers_starts handlers) (one_of (started_suite (numbered_suite m (or_pass body (kept_suite keep body))))
          (started_handlers (numbered_handlers (m + size_suite (or_pass body (kept_suite keep body))) (kept_handlers keep handlers))) n there
          (λ here. or_pass_starts m n body (kept_suite keep body) here (suite_left m n body)) (handlers_left (m + size_suite (or_pass body (kept_suite keep body))) n handlers))
      form_left m n (with_form e bound body) there = or_pass_starts m n body (kept_suite keep body) there (suite_left m n body)
      form_left m n (def_form name params globals body) there = or_pass_starts m n body (kept_suite keep body) there (suite_left m n body)
      form_left m n (class_form name base body) there = or_pass_starts m n body (kept_suite keep body) there (suite_left m n body)
      form_left m n (do_form e) there = absurd there
      form_left m n (assign_form target e) there = absurd there
      form_left m n (aug_form target sign p e) there = absurd there
      form_left m n (del_form target) there = absurd there
      form_left m n pass_form there = absurd there
      form_left m n break_form there = absurd there
      form_left m n continue_form there = absurd there
      form_left m n (return_form e) there = absurd there
      form_left m n (raise_form e) there = absurd there
      form_left m n (assert_form test message) there = absurd there
      form_left m n (import_form name) there = absurd there

      pub branches_left : (m n : ℕ) (branches : BranchesTree) → IsIn (started_branches (numbered_branches m (kept_branches keep branches))) (n, place) → IsIn (branches_starts branches) place
      branches_left m n end_branches there = absurd there
      branches_left m n (more_branches test body rest) there =
          in_joined (suite_starts body) (branches_starts rest) (one_of (started_suite (numbered_suite m (or_pass body (kept_suite keep body))))
          (started_branches (numbered_branches (m + size_suite (or_pass body (kept_suite keep body))) (kept_branches keep rest))) n there
          (λ here. or_pass_starts m n body (kept_suite keep body) here (suite_left m n body)) (branches_left (m + size_suite (or_pass body (kept_suite keep body))) n rest))

      pub else_left : (m n : ℕ) (orelse : ElseTree) → IsIn (started_else (numbered_else m (kept_else keep orelse))) (n, place) → IsIn (else_starts orelse) place
      else_left m n no_else there = absurd there
      else_left m n (else_suite body) there = or_pass_starts m n body (kept_suite keep body) there (suite_left m n body)

      pub handlers_left : (m n : ℕ) (handlers : HandlersTree) → IsIn (started_handlers (numbered_handlers m (kept_handlers keep handlers))) (n, place) → IsIn (handlers_starts handlers) place
      handlers_left m n end_handlers there = absurd there
      handlers_left m n (more_handlers kind bound body rest) there =
          in_joined (suite_starts body) (handlers_starts rest) (one_of (started_suite (numbered_suite m (or_pass body (kept_suite keep body))))
          (started_handlers (numbered_handlers (m + size_suite (or_pass body (kept_suite keep body))) (kept_handlers keep rest))) n there
          (λ here. or_pass_starts m n body (kept_suite keep body) here (suite_left m n body)) (handlers_left (m + size_suite (or_pass body (kept_suite keep body))) n rest))
