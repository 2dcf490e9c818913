-- At the place of a statement outside a set, but of the first of an emptied suite, nothing starts in the slice.
use Rattle.std.proofs.Common.{◌≡◌, ℕ, ◌+◌, Bool, true, false, if◌then◌else◌, ◌⊎◌, List, [], ◌∷◌, ◌++◌, inl, inr, refl, ap, subst}
use Rattle.prov_base.specs.declared.place.Pos.{Pos}
use Rattle.py_tree.specs.Deletion.{or_pass, kept_suite, kept_stmt, kept_form, kept_branches, kept_else, kept_handlers, deleted}
use Rattle.py_tree.specs.Numbering.{size_stmt, size_suite, size_branches, numbered_suite, numbered_stmt, numbered_form, numbered_branches, numbered_else, numbered_handlers}
use Rattle.py_tree.specs.Places.{suite_starts, stmt_starts, form_starts, branches_starts, else_starts, handlers_starts, are_ascending}
use Rattle.py_tree.specs.Tree.{number_of, StmtTree, FormTree, SuiteTree, BranchesTree, ElseTree, HandlersTree, ScriptTree, one_stmt, do_form, assign_form, aug_form, del_form, pass_form, break_form, continue_form, return_form, raise_form, assert_form, import_form, if_form, while_form, for_form, try_form, with_form, def_form, class_form, end_suite, more_suite, end_branches, more_branches, no_else, else_suite, end_handlers, more_handlers}
use Rattle.py_tree.specs.WellFormed.{IsWellFormed}
use Rattle.slice_law.specs.Closed.{StmtSet, IsIn}
use Rattle.slice_simulation.proofs.EmptiedSuites.{lone_of, lone_suite, lone_stmt, lone_form, lone_branches, lone_else, lone_handlers, lone_of_starts, suite_lone, stmt_lone, form_lone, branches_lone, else_lone, handlers_lone, or_pass_starts, suite_left, stmt_left, branches_left, else_left, handlers_left}
use Rattle.slice_simulation.proofs.Standing.{AllOwned, in_front, in_behind}
use Rattle.slice_simulation.proofs.StartsOnce.{either_in, start_in, suite_started, form_started, apart_at, ascending_front, ascending_behind}
use Rattle.slice_simulation.specs.Owned.{started_suite, started_stmt, started_form, started_branches, started_else, started_handlers}

module _ (keep : StmtSet) (place : Pos) (s n : ℕ) where
  -- two parts of a text: none is in both
  crossing : (ps qs : List Pos) → are_ascending (ps ++ qs) ≡ true → (xs ys us vs : List (ℕ × Pos)) → IsIn (xs ++ ys) (s, place) → IsIn (us ++ vs) (n, place)
      → (IsIn xs (s, place) → IsIn ps place) → (IsIn ys (s, place) → IsIn qs place) → (IsIn us (n, place) → IsIn ps place) → (IsIn vs (n, place) → IsIn qs place)
      → (are_ascending ps ≡ true → IsIn xs (s, place) → IsIn us (n, place) → ⊥) → (are_ascending qs ≡ true → IsIn ys (s, place) → IsIn vs (n, place) → ⊥) → ⊥
  crossing ps qs ascending xs ys us vs here there x y u v first second = by_cases (either_in xs ys (s, place) here) (either_in us vs (n, place) there)
    where
      by_cases : IsIn xs (s, place) ⊎ IsIn ys (s, place) → IsIn us (n, place) ⊎ IsIn vs (n, place) → ⊥
      by_cases (inl a) (inl b) = first (ascending_front ps qs ascending) a b
      by_cases (inl a) (inr b) = apart_at ps qs place ascending (x a) (v b)
      by_cases (inr a) (inl b) = apart_at ps qs place ascending (u b) (y a)
      by_cases (inr a) (inr b) = second (ascending_behind ps qs ascending) a b

  -- a suite whose owner is kept
  body_apart : (m : ℕ) (body kept : SuiteTree) (lone : List (ℕ × Pos)) → are_ascending (suite_starts body) ≡ true → IsIn (lone_of body kept lone) (s, place)
      → IsIn (started_suite (numbered_suite m (or_pass body kept))) (n, place)
      → (IsIn lone (s, place) → IsIn (started_suite (numbered_suite m kept)) (n, place) → ⊥) → ⊥
  body_apart m end_suite kept lone ascending here there each = each here there
  body_apart m (more_suite (one_stmt number at span form) rest) end_suite lone ascending here (inl is) each =
      apart_at (at ∷ []) (form_starts form ++ suite_starts rest) place ascending (inl (ap (λ (x : ℕ × Pos). x.1) is)) (later (either_in (started_form form) (started_suite rest) (s, place) here))
    where
      later : IsIn (started_form form) (s, place) ⊎ IsIn (started_suite rest) (s, place) → IsIn (form_starts form ++ suite_starts rest) place
      later (inl inside) = in_front (form_starts form) (suite_starts rest) place (subst (λ ps. IsIn ps place) (form_started form) (start_in (started_form form) s place inside))
      later (inr behind) = in_behind (form_starts form) (suite_starts rest) place (subst (λ ps. IsIn ps place) (suite_started rest) (start_in (started_suite rest) s place behind))
  body_apart m (more_suite (one_stmt number at span form) rest) end_suite lone ascending here (inr there) each = absurd there
  body_apart m (more_suite (one_stmt number at span form) rest) (more_suite first more) lone ascending here there each = each here there

  mutual
    pub suite_apart : (m : ℕ) (body : SuiteTree) → are_ascending (suite_starts body) ≡ true → IsIn (lone_suite keep body) (s, place)
        → IsIn (started_suite (numbered_suite m (kept_suite keep body))) (n, place) → ⊥
    suite_apart m end_suite ascending here there = absurd here
    suite_apart m (more_suite stmt rest) ascending here there =
        by_test (keep (number_of stmt)) refl there (λ kept front. stmt_apart m stmt kept front) (λ first back. suite_apart first rest back)
      where
        by_test : (test : Bool) → keep (number_of stmt) ≡ test
            → IsIn (started_suite (numbered_suite m (if test then more_suite (kept_stmt keep stmt) (kept_suite keep rest) else kept_suite keep rest))) (n, place)
            → (keep (number_of stmt) ≡ true → are_ascending (stmt_starts stmt) ≡ true → IsIn (lone_stmt keep stmt) (s, place)
            → IsIn (started_stmt (numbered_stmt m (kept_stmt keep stmt))) (n, place) → ⊥)
            → ((first : ℕ) → are_ascending (suite_starts rest) ≡ true → IsIn (lone_suite keep rest) (s, place)
            → IsIn (started_suite (numbered_suite first (kept_suite keep rest))) (n, place) → ⊥) → ⊥
        by_test true is there own others =
            crossing (stmt_starts stmt) (suite_starts rest) ascending (lone_stmt keep stmt) (lone_suite keep rest) (started_stmt (numbered_stmt m (kept_stmt keep stmt)))
            (started_suite (numbered_suite (m + size_stmt (kept_stmt keep stmt)) (kept_suite keep rest))) here there (stmt_lone keep place s stmt) (suite_lone keep place s rest)
            (stmt_left keep place m n stmt) (suite_left keep place (m + size_stmt (kept_stmt keep stmt)) n rest) (own is) (others (m + size_stmt (kept_stmt keep stmt)))
        by_test false is there own others =
            crossing (stmt_starts stmt) (suite_starts rest) ascending (lone_stmt keep stmt) (lone_suite keep rest) []
            (started_suite (numbered_suite m (kept_suite keep rest))) here there (stmt_lone keep place s stmt) (suite_lone keep place s rest)
            (λ none. absurd none) (suite_left keep place m n rest) (λ front one none. absurd none) (others m)

    stmt_apart : (m : ℕ) (stmt : StmtTree) → keep (number_of stmt) ≡ true → are_ascending (stmt_starts stmt) ≡ true → IsIn (lone_stmt keep stmt) (s, place)
        → IsIn (started_stmt (numbered_stmt m (kept_stmt keep stmt))) (n, place) → ⊥
    stmt_apart m (one_stmt number at span form) kept ascending here (inl is) =
        apart_at (at ∷ []) (form_starts form) place ascending (inl (ap (λ (x : ℕ × Pos). x.1) is))
        (form_lone keep place s form (subst (λ test. IsIn (if test then lone_form keep form else (number, at) ∷ started_form form) (s, place)) kept here))
    stmt_apart m (one_stmt number at span form) kept ascending here (inr there) =
        form_apart (m + 1) form (ascending_behind (at ∷ []) (form_starts form) ascending)
        (subst (λ test. IsIn (if test then lone_form keep form else (number, at) ∷ started_form form) (s, place)) kept here) there

    form_apart : (m : ℕ) (form : FormTree) → are_ascending (form_starts form) ≡ true → IsIn (lone_form keep form) (s, place)
        → IsIn (started_form (numbered_form m (kept_form keep form))) (n, place) → ⊥
    form_apart m (if_form branches orelse) ascending here there =
        crossing (branches_starts branches) (else_starts orelse) ascending (lone_branches keep branches) (lone_else keep orelse)
        (started_branches (numbered_branches m (kept_branches keep branches))) (started_else (numbered_else (m + size_branches (kept_branches keep branches)) (kept_else keep orelse)))
        here there (branches_lone keep place s branches) (else_lone keep place s orelse) (branches_left keep place m n branches)
        (else_left keep place (m + size_branches (kept_branches keep branches)) n orelse) (branches_apart m branches) (else_apart (m + size_branches (kept_branches keep branches)) orelse)
    form_apart m (while_form test body) ascending here there = body_apart m body (kept_suite keep body) (lone_suite keep body) ascending here there (suite_apart m body ascending)
    form_apart m (for_form target items body) ascending here there = body_apart m body (kept_suite keep body) (lone_suite keep body) ascending here there (suite_apart m body ascending)
    form_apart m (try_form body handlers) ascending here there =
        crossing (suite_starts body) (handlers_starts handlers) ascending (lone_of body (kept_suite keep body) (lone_suite keep body)) (lone_handlers keep handlers)
        (started_suite (numbered_suite m (or_pass body (kept_suite keep body))))
        (started_handlers (numbered_handlers (m + size_suite (or_pass body (kept_suite keep body))) (kept_handlers keep handlers))) here there
        (λ one. lone_of_starts keep place body (kept_suite keep body) (lone_suite keep body) s one (suite_lone keep place s body)) (handlers_lone keep place s handlers)
        (λ one. or_pass_starts keep place m n body (kept_suite keep body) one (suite_left keep place m n body))
        (handlers_left keep place (m + size_suite (or_pass body (kept_suite keep body))) n handlers)
        (λ front one other. body_apart m body (kept_suite keep body) (lone_suite keep body) front one other (suite_apart m body front))
        (handlers_apart (m + size_suite (or_pass body (kept_suite keep body))) handlers)
    form_apart m (with_form e bound body) ascending here there = body_apart m body (kept_suite keep body) (lone_suite keep body) ascending here there (suite_apart m body ascending)
    form_apart m (def_form name params globals body) ascending here there =
        body_apart m body (kept_suite keep body) (lone_suite keep body) ascending here there (suite_apart m body ascending)
    form_apart m (class_form name base body) ascending here there = body_apart m body (kept_suite keep body) (lone_suite keep body) ascending here there (suite_apart m body ascending)
    form_apart m (do_form e) ascending here there = absurd here
    form_apart m (assign_form target e) ascending here there = absurd here
    form_apart m (aug_form target sign p e) ascending here there = absurd here
    form_apart m (del_form target) ascending here there = absurd here
    form_apart m pass_form ascending here there = absurd here
    form_apart m break_form ascending here there = absurd here
    form_apart m continue_form ascending here there = absurd here
    form_apart m (return_form e) ascending here there = absurd here
    form_apart m (raise_form e) ascending here there = absurd here
    form_apart m (assert_form test message) ascending here there = absurd here
    form_apart m (import_form name) ascending here there = absurd here

    branches_apart : (m : ℕ) (branches : BranchesTree) → are_ascending (branches_starts branches) ≡ true → IsIn (lone_branches keep branches) (s, place)
        → IsIn (started_branches (numbered_branches m (kept_branches keep branches))) (n, place) → ⊥
    branches_apart m end_branches ascending here there = absurd here
    branches_apart m (more_branches test body rest) ascending here there =
        crossing (suite_starts body) (branches_starts rest) ascending (lone_of body (kept_suite keep body) (lone_suite keep body)) (lone_branches keep rest)
        (started_suite (numbered_suite m (or_pass body (kept_suite keep body))))
        (started_branches (numbered_branches (m + size_suite (or_pass body (kept_suite keep body))) (kept_branches keep rest))) here there
        (λ one. lone_of_starts keep place body (kept_suite keep body) (lone_suite keep body) s one (suite_lone keep place s body)) (branches_lone keep place s rest)
        (λ one. or_pass_starts keep place m n body (kept_suite keep body) one (suite_left keep place m n body))
        (branches_left keep place (m + size_suite (or_pass body (kept_suite keep body))) n rest)
        (λ front one other. body_apart m body (kept_suite keep body) (lone_suite keep body) front one other (suite_apart m body front))
        (branches_apart (m + size_suite (or_pass body (kept_suite keep body))) rest)

    else_apart : (m : ℕ) (orelse : ElseTree) → are_ascending (else_starts orelse) ≡ true → IsIn (lone_else keep orelse) (s, place)
        → IsIn (started_else (numbered_else m (kept_else keep orelse))) (n, place) → ⊥
    else_apart m no_else ascending here there = absurd here
    else_apart m (else_suite body) ascending here there = body_apart m body (kept_suite keep body) (lone_suite keep body) ascending here there (suite_apart m body ascending)

    handlers_apart : (m : ℕ) (handlers : HandlersTree) → are_ascending (handlers_starts handlers) ≡ true → IsIn (lone_handlers keep handlers) (s, place)
        → IsIn (started_handlers (numbered_handlers m (kept_handlers keep handlers))) (n, place) → ⊥
    handlers_apart m end_handlers ascending here there = absurd here
    handlers_apart m (more_handlers kind bound body rest) ascending here there =
        crossing (suite_starts body) (handlers_starts rest) ascending (lone_of body (kept_suite keep body) (lone_suite keep body)) (lone_handlers keep rest)
        (started_suite (numbered_suite m (or_pass body (kept_suite keep body))))
        (started_handlers (numbered_handlers (m + size_suite (or_pass body (kept_suite keep body))) (kept_handlers keep rest))) here there
        (λ one. lone_of_starts keep place body (kept_suite keep body) (lone_suite keep body) s one (suite_lone keep place s body)) (handlers_lone keep place s rest)
        (λ one. or_pass_starts keep place m n body (kept_suite keep body) one (suite_left keep place m n body))
        (handlers_left keep place (m + size_suite (or_pass body (kept_suite keep body))) n rest)
        (λ front one other. body_apart m body (kept_suite keep body) (lone_suite keep body) front one other (suite_apart m body front))
        (handlers_apart (m + size_suite (or_pass body (kept_suite keep body))) rest)

pub lone_apart : (keep : StmtSet) (script : ScriptTree) → IsWellFormed script
    → AllOwned (λ s at. (n : ℕ) → IsIn (started_suite (deleted keep script).body) (n, at) → ⊥) (lone_suite keep script.body)
lone_apart keep script well = record { each = λ s at here n there. suite_apart keep at s n 0 script.body well.ascending here there }
