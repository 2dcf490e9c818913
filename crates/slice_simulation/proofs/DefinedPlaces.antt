-- What a slice defines: what the script defines by statements of the set.
use Rattle.std.proofs.Common.{◌≡◌, ℕ, ◌+◌, Bool, true, false, if◌then◌else◌, ◌⊎◌, List, [], ◌∷◌, ◌++◌, inl, inr, refl, ap}
use Rattle.prov_base.specs.declared.place.Pos.{Pos}
use Rattle.py_tree.specs.Deletion.{or_pass, kept_suite, kept_stmt, kept_form, kept_branches, kept_else, kept_handlers}
use Rattle.py_tree.specs.Numbering.{size_stmt, size_suite, size_branches, numbered_suite, numbered_stmt, numbered_form, numbered_branches, numbered_else, numbered_handlers}
use Rattle.py_tree.specs.Tree.{number_of, StmtTree, FormTree, SuiteTree, BranchesTree, ElseTree, HandlersTree, one_stmt, do_form, assign_form, aug_form, del_form, pass_form, break_form, continue_form, return_form, raise_form, assert_form, import_form, if_form, while_form, for_form, try_form, with_form, def_form, class_form, end_suite, more_suite, end_branches, more_branches, no_else, else_suite, end_handlers, more_handlers}
use Rattle.model_laws.specs.Defined.{defined_suite, defined_stmt, defined_form, defined_branches, defined_else, defined_handlers}
use Rattle.slice_law.specs.Closed.{StmtSet, IsIn}
use Rattle.slice_simulation.proofs.Standing.{in_front, in_behind}
use Rattle.slice_simulation.proofs.StartsOnce.{either_in}
use Rattle.slice_simulation.specs.Owned.{started_suite, started_stmt, started_form, started_branches, started_else, started_handlers}

module _ (place : Pos) where
  -- it starts there, whatever its number is
  pub record StartsAmong (starts : List (ℕ × Pos)) : Type 0 where
    pub number : ℕ
    pub starts_is : IsIn starts (number, place)

  starts_front : {xs : List (ℕ × Pos)} (ys : List (ℕ × Pos)) → StartsAmong xs → StartsAmong (xs ++ ys)
  starts_front {xs} ys one = record { number = one.number; starts_is = in_front xs ys (one.number, place) one.starts_is }

  starts_behind : (xs : List (ℕ × Pos)) {ys : List (ℕ × Pos)} → StartsAmong ys → StartsAmong (xs ++ ys)
  starts_behind xs {ys} one = record { number = one.number; starts_is = in_behind xs ys (one.number, place) one.starts_is }

  in_either : (xs ys : List (ℕ × Pos)) (ps qs : List Pos) → IsIn (ps ++ qs) place → (IsIn ps place → StartsAmong xs) → (IsIn qs place → StartsAmong ys) → StartsAmong (xs ++ ys)
  in_either xs ys ps qs there front behind = by_either (either_in ps qs place there)
    where
      by_either : IsIn ps place ⊎ IsIn qs place → StartsAmong (xs ++ ys)
      by_either (inl here) = starts_front ys (front here)
      by_either (inr later) = starts_behind xs (behind later)

  -- what is defined starts as a statement
  mutual
    pub suite_starting : (body : SuiteTree) → IsIn (defined_suite body) place → StartsAmong (started_suite body)
    suite_starting end_suite there = absurd there
    suite_starting (more_suite s rest) there = in_either (started_stmt s) (started_suite rest) (defined_stmt s) (defined_suite rest) there (stmt_starting s) (suite_starting rest)

    pub stmt_starting : (s : StmtTree) → IsIn (defined_stmt s) place → StartsAmong (started_stmt s)
    stmt_starting (one_stmt number at span form) there = form_starting number at form there

    form_starting : (number : ℕ) (at : Pos) (form : FormTree) → IsIn (defined_form at form) place → StartsAmong ((number, at) ∷ started_form form)
    form_starting number at (def_form name params globals body) (inl is) = record { number = number; starts_is = inl (ap (λ p. (number, p)) is) }
    form_starting number at (def_form name params globals body) (inr there) = starts_behind ((number, at) ∷ []) (suite_starting body there)
    form_starting number at (class_form name base body) (inl is) = record { number = number; starts_is = inl (ap (λ p. (number, p)) is) }
    form_starting number at (class_form name base body) (inr there) = starts_behind ((number, at) ∷ []) (suite_starting body there)
    form_starting number at (if_form branches orelse) there =
        starts_behind ((number, at) ∷ []) (in_either (started_branches branches) (started_else orelse) (defined_branches branches) (defined_else orelse) there (branches_starting branches) (else_starting orelse))
    form_starting number at (while_form test body) there = starts_behind ((number, at) ∷ []) (suite_starting body there)
    form_starting number at (for_form target items body) there = starts_behind ((number, at) ∷ []) (suite_starting body there)
    form_starting number at (try_form body handlers) there =
        starts_behind ((number, at) ∷ []) (in_either (started_suite body) (started_handlers handlers) (defined_suite body) (defined_handlers handlers) there (suite_starting body) (handlers_starting handlers))
    form_starting number at (with_form e bound body) there = starts_behind ((number, at) ∷ []) (suite_starting body there)
    form_starting number at (do_form e) there = absurd there
    form_starting number at (assign_form target e) there = absurd there
    form_starting number at (aug_form target sign p e) there = absurd there
    form_starting number at (del_form target) there = absurd there
    form_starting number at pass_form there = absurd there
    form_starting number at break_form there = absurd there
    form_starting number at continue_form there = absurd there
    form_starting number at (return_form e) there = absurd there
    form_starting number at (raise_form e) there = absurd there
    form_starting number at (assert_form test message) there = absurd there
    form_starting number at (import_form name) there = absurd there

    branches_starting : (branches : BranchesTree) → IsIn (defined_branches branches) place → StartsAmong (started_branches branches)
    branches_starting end_branches there = absurd there
    branches_starting (more_branches test body rest) there =
        in_either (started_suite body) (started_branches rest) (defined_suite body) (defined_branches rest) there (suite_starting body) (branches_starting rest)

    else_starting : (orelse : ElseTree) → IsIn (defined_else orelse) place → StartsAmong (started_else orelse)
    else_starting no_else there = absurd there
    else_starting (else_suite body) there = suite_starting body there

    handlers_starting : (handlers : HandlersTree) → IsIn (defined_handlers handlers) place → StartsAmong (started_handlers handlers)
    handlers_starting end_handlers there = absurd there
    handlers_starting (more_handlers kind bound body rest) there =
        in_either (started_suite body) (started_handlers rest) (defined_suite body) (defined_handlers rest) there (suite_starting body) (handlers_starting rest)

module _ (keep : StmtSet) (place : Pos) where
  -- defined there by a statement of the set
  pub record KeptAmong (starts : List (ℕ × Pos)) (defined : List Pos) : Type 0 where
    pub number : ℕ
    pub kept : keep number ≡ true
    pub starts_is : IsIn starts (number, place)
    pub defined_is : IsIn defined place

  kept_front : {xs : List (ℕ × Pos)} {ps : List Pos} (ys : List (ℕ × Pos)) (qs : List Pos) → KeptAmong xs ps → KeptAmong (xs ++ ys) (ps ++ qs)
  kept_front {xs} {ps} ys qs one =
      record { number = one.number; kept = one.kept; starts_is = in_front xs ys (one.number, place) one.starts_is; defined_is = in_front ps qs place one.defined_is }

  kept_behind : (xs : List (ℕ × Pos)) (ps : List Pos) {ys : List (ℕ × Pos)} {qs : List Pos} → KeptAmong ys qs → KeptAmong (xs ++ ys) (ps ++ qs)
  kept_behind xs ps {ys} {qs} one =
      record { number = one.number; kept = one.kept; starts_is = in_behind xs ys (one.number, place) one.starts_is; defined_is = in_behind ps qs place one.defined_is }

  kept_either : (fs gs : List Pos) (xs ys : List (ℕ × Pos)) (ps qs : List Pos) → IsIn (fs ++ gs) place → (IsIn fs place → KeptAmong xs ps) → (IsIn gs place → KeptAmong ys qs) → KeptAmong (xs ++ ys) (ps ++ qs)
  kept_either fs gs xs ys ps qs there front behind = by_either (either_in fs gs place there)
    where
      by_either : IsIn fs place ⊎ IsIn gs place → KeptAmong (xs ++ ys) (ps ++ qs)
      by_either (inl here) = kept_front ys qs (front here)
      by_either (inr later) = kept_behind xs ps (behind later)

  -- a `pass` defines nothing
  pub without_pass : (m : ℕ) (body kept : SuiteTree) → IsIn (defined_suite (numbered_suite m (or_pass body kept))) place → IsIn (defined_suite (numbered_suite m kept)) place
  without_pass m end_suite kept there = there
  without_pass m (more_suite (one_stmt number at span form) rest) end_suite there = absurd there
  without_pass m (more_suite (one_stmt number at span form) rest) (more_suite s more) there = there

  mutual
    pub suite_known : (m : ℕ) (body : SuiteTree) → IsIn (defined_suite (numbered_suite m (kept_suite keep body))) place → KeptAmong (started_suite body) (defined_suite body)
    suite_known m end_suite there = absurd there
    suite_known m (more_suite s rest) there = by_test (keep (number_of s)) refl there (stmt_known m s) (λ first. suite_known first rest)
      where
        by_test : (test : Bool) → keep (number_of s) ≡ test
            → IsIn (defined_suite (numbered_suite m (if test then more_suite (kept_stmt keep s) (kept_suite keep rest) else kept_suite keep rest))) place
            → (keep (number_of s) ≡ true → IsIn (defined_stmt (numbered_stmt m (kept_stmt keep s))) place → KeptAmong (started_stmt s) (defined_stmt s))
            → ((first : ℕ) → IsIn (defined_suite (numbered_suite first (kept_suite keep rest))) place → KeptAmong (started_suite rest) (defined_suite rest))
            → KeptAmong (started_suite (more_suite s rest)) (defined_suite (more_suite s rest))
        by_test true is there own others =
            kept_either (defined_stmt (numbered_stmt m (kept_stmt keep s))) (defined_suite (numbered_suite (m + size_stmt (kept_stmt keep s)) (kept_suite keep rest)))
            (started_stmt s) (started_suite rest) (defined_stmt s) (defined_suite rest) there (own is) (others (m + size_stmt (kept_stmt keep s)))
        by_test false is there own others = kept_behind (started_stmt s) (defined_stmt s) (others m there)

    pub stmt_known : (m : ℕ) (s : StmtTree) → keep (number_of s) ≡ true → IsIn (defined_stmt (numbered_stmt m (kept_stmt keep s))) place → KeptAmong (started_stmt s) (defined_stmt s)
    stmt_known m (one_stmt number at span form) kept there = form_known (m + 1) number at form kept there

    form_known : (m number : ℕ) (at : Pos) (form : FormTree) → keep number ≡ true → IsIn (defined_form at (numbered_form m (kept_form keep form))) place
        → KeptAmong ((number, at) ∷ started_form form) (defined_form at form)
    form_known m number at (def_form name params globals body) kept (inl is) = record { number = number; kept = kept; starts_is = inl (ap (λ p. (number, p)) is); defined_is = inl is }
    form_known m number at (def_form name params globals body) kept (inr there) =
        kept_behind ((number, at) ∷ []) (at ∷ []) (suite_known m body (without_pass m body (kept_suite keep body) there))
    form_known m number at (class_form name base body) kept (inl is) = record { number = number; kept = kept; starts_is = inl (ap (λ p. (number, p)) is); defined_is = inl is }
    form_known m number at (class_form name base body) kept (inr there) =
        kept_behind ((number, at) ∷ []) (at ∷ []) (suite_known m body (without_pass m body (kept_suite keep body) there))
    form_known m number at (if_form branches orelse) kept there =
        kept_behind ((number, at) ∷ []) [] (kept_either (defined_branches (numbered_branches m (kept_branches keep branches)))
        (defined_else (numbered_else (m + size_branches (kept_branches keep branches)) (kept_else keep orelse))) (started_branches branches) (started_else orelse)
        (defined_branches branches) (defined_else orelse) there (branches_known m branches) (else_known (m + size_branches (kept_branches keep branches)) orelse))
    form_known m number at (while_form test body) kept there = kept_behind ((number, at) ∷ []) [] (suite_known m body (without_pass m body (kept_suite keep body) there))
    form_known m number at (for_form target items body) kept there = kept_behind ((number, at) ∷ []) [] (suite_known m body (without_pass m body (kept_suite keep body) there))
    form_known m number at (try_form body handlers) kept there =
        kept_behind ((number, at) ∷ []) [] (kept_either (defined_suite (numbered_suite m (or_pass body (kept_suite keep body))))
        (defined_handlers (numbered_handlers (m + size_suite (or_pass body (kept_suite keep body))) (kept_handlers keep handlers))) (started_suite body) (started_handlers handlers)
        (defined_suite body) (defined_handlers handlers) there (λ here. suite_known m body (without_pass m body (kept_suite keep body) here))
        (handlers_known (m + size_suite (or_pass body (kept_suite keep body))) handlers))
    form_known m number at (with_form e bound body) kept there = kept_behind ((number, at) ∷ []) [] (suite_known m body (without_pass m body (kept_suite keep body) there))
    form_known m number at (do_form e) kept there = absurd there
    form_known m number at (assign_form target e) kept there = absurd there
    form_known m number at (aug_form target sign p e) kept there = absurd there
    form_known m number at (del_form target) kept there = absurd there
    form_known m number at pass_form kept there = absurd there
    form_known m number at break_form kept there = absurd there
    form_known m number at continue_form kept there = absurd there
    form_known m number at (return_form e) kept there = absurd there
    form_known m number at (raise_form e) kept there = absurd there
    form_known m number at (assert_form test message) kept there = absurd there
    form_known m number at (import_form name) kept there = absurd there

    branches_known : (m : ℕ) (branches : BranchesTree) → IsIn (defined_branches (numbered_branches m (kept_branches keep branches))) place → KeptAmong (started_branches branches) (defined_branches branches)
    branches_known m end_branches there = absurd there
    branches_known m (more_branches test body rest) there =
        kept_either (defined_suite (numbered_suite m (or_pass body (kept_suite keep body))))
        (defined_branches (numbered_branches (m + size_suite (or_pass body (kept_suite keep body))) (kept_branches keep rest))) (started_suite body) (started_branches rest)
        (defined_suite body) (defined_branches rest) there (λ here. suite_known m body (without_pass m body (kept_suite keep body) here))
        (branches_known (m + size_suite (or_pass body (kept_suite keep body))) rest)

    else_known : (m : ℕ) (orelse : ElseTree) → IsIn (defined_else (numbered_else m (kept_else keep orelse))) place → KeptAmong (started_else orelse) (defined_else orelse)
    else_known m no_else there = absurd there
    else_known m (else_suite body) there = suite_known m body (without_pass m body (kept_suite keep body) there)

    handlers_known : (m : ℕ) (handlers : HandlersTree) → IsIn (defined_handlers (numbered_handlers m (kept_handlers keep handlers))) place → KeptAmong (started_handlers handlers) (defined_handlers handlers)
    handlers_known m end_handlers there = absurd there
    handlers_known m (more_handlers kind bound body rest) there =
        kept_either (defined_suite (numbered_suite m (or_pass body (kept_suite keep body))))
        (defined_handlers (numbered_handlers (m + size_suite (or_pass body (kept_suite keep body))) (kept_handlers keep rest))) (started_suite body) (started_handlers rest)
        (defined_suite body) (defined_handlers rest) there (λ here. suite_known m body (without_pass m body (kept_suite keep body) here))
        (handlers_known (m + size_suite (or_pass body (kept_suite keep body))) rest)
