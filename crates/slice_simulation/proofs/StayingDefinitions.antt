-- A definition of a script stays in a slice, or a statement outside the set starts there; so a slice defines exactly where statements of the set do.
use Rattle.std.proofs.Common.{◌≡◌, rules, ℕ, ◌+◌, Bool, true, false, if◌then◌else◌, ◌||◌, ◌⊎◌, List, [], ◌∷◌, ◌++◌, inl, inr, refl, sym, ap, ◌∙◌}
use Rattle.std.proofs.lemmas.Bool.{false≢true}
use Rattle.std.specs.List.{list_any}
use Rattle.prov_base.specs.declared.place.Pos.{Pos}
use Rattle.prov_base.specs.contracts.place.PosPartialEq.TheImpl.{ghosts as places}
use Rattle.py_tree.specs.Deletion.{or_pass, kept_suite, kept_stmt, kept_form, kept_branches, kept_else, kept_handlers, deleted}
use Rattle.py_tree.specs.Numbering.{size_stmt, size_suite, size_branches, numbered_suite, numbered_stmt, numbered_form, numbered_branches, numbered_else, numbered_handlers}
use Rattle.py_tree.specs.Tree.{number_of, StmtTree, FormTree, SuiteTree, BranchesTree, ElseTree, HandlersTree, ScriptTree, one_stmt, do_form, assign_form, aug_form, del_form, pass_form, break_form, continue_form, return_form, raise_form, assert_form, import_form, if_form, while_form, for_form, try_form, with_form, def_form, class_form, end_suite, more_suite, end_branches, more_branches, no_else, else_suite, end_handlers, more_handlers}
use Rattle.py_tree.specs.WellFormed.{IsWellFormed}
use Rattle.model_laws.specs.Defined.{defined_suite, defined_stmt, defined_form, defined_branches, defined_else, defined_handlers, defines}
use Rattle.slice_law.specs.Closed.{StmtSet, IsIn}
use Rattle.slice_simulation.proofs.DefinedPlaces.{StartsAmong, stmt_starting, KeptAmong, suite_known}
use Rattle.slice_simulation.proofs.OutsideStatements.{deleted_outside}
use Rattle.slice_simulation.proofs.OwnMoments.{place_same}
use Rattle.slice_simulation.proofs.Standing.{in_front, in_behind}
use Rattle.slice_simulation.proofs.StartsOnce.{either_in, one_start}
use Rattle.slice_simulation.specs.Owned.{started_suite, started_stmt, started_form, started_branches, started_else, started_handlers}
use Rattle.slice_simulation.specs.Under.{UnderSuite, UnderStmt, UnderForm, UnderBranches, UnderElse, UnderHandlers}

module _ (keep : StmtSet) (place : Pos) where
  -- a statement that is not kept starts there
  pub record OutAmong (starts : List (ℕ × Pos)) : Type 0 where
    pub number : ℕ
    pub starts_is : IsIn starts (number, place)
    pub out : keep number ≡ false

  -- it stays, or a statement starts there that is not kept
  pub data Stays (starts : List (ℕ × Pos)) (staying : List Pos) : Type 0 where
    still : IsIn staying place → Stays starts staying
    gone_by : OutAmong starts → Stays starts staying

  stays_front : {xs : List (ℕ × Pos)} {fs : List Pos} (ys : List (ℕ × Pos)) (gs : List Pos) → Stays xs fs → Stays (xs ++ ys) (fs ++ gs)
  stays_front {xs} {fs} ys gs (still here) = still (in_front fs gs place here)
  stays_front {xs} {fs} ys gs (gone_by one) = gone_by (record { number = one.number; starts_is = in_front xs ys (one.number, place) one.starts_is; out = one.out })

  stays_behind : (xs : List (ℕ × Pos)) (fs : List Pos) {ys : List (ℕ × Pos)} {gs : List Pos} → Stays ys gs → Stays (xs ++ ys) (fs ++ gs)
  stays_behind xs fs {ys} {gs} (still here) = still (in_behind fs gs place here)
  stays_behind xs fs {ys} {gs} (gone_by one) = gone_by (record { number = one.number; starts_is = in_behind xs ys (one.number, place) one.starts_is; out = one.out })

  stays_either : (ps qs : List Pos) (xs ys : List (ℕ × Pos)) (fs gs : List Pos) → IsIn (ps ++ qs) place → (IsIn ps place → Stays xs fs) → (IsIn qs place → Stays ys gs) → Stays (xs ++ ys) (fs ++ gs)
  stays_either ps qs xs ys fs gs there front behind = by_either (either_in ps qs place there)
    where
      by_either : IsIn ps place ⊎ IsIn qs place → Stays (xs ++ ys) (fs ++ gs)
      by_either (inl here) = stays_front ys gs (front here)
      by_either (inr later) = stays_behind xs fs (behind later)

  -- where `pass` stands in its place, nothing of it stays
  with_pass : (m : ℕ) (body kept : SuiteTree) {starts : List (ℕ × Pos)} → Stays starts (defined_suite (numbered_suite m kept)) → Stays starts (defined_suite (numbered_suite m (or_pass body kept)))
  with_pass m end_suite kept stays = stays
  with_pass m (more_suite (one_stmt number at span form) rest) end_suite stays = stays
  with_pass m (more_suite (one_stmt number at span form) rest) (more_suite s more) stays = stays

  mutual
    pub suite_stays : (around : Bool) (m : ℕ) (body : SuiteTree) → UnderSuite keep around body → IsIn (defined_suite body) place → Stays (started_suite body) (defined_suite (numbered_suite m (kept_suite keep body)))
    suite_stays around m end_suite under there = absurd there
    suite_stays around m (more_suite s rest) under there = by_test (keep (number_of s)) refl (stmt_stays around m s under.0) (λ first. suite_stays around first rest under.1)
      where
        gone : keep (number_of s) ≡ false → IsIn (defined_stmt s) place → OutAmong (started_stmt s)
        gone out here =
            let start : StartsAmong place (started_stmt s) = stmt_starting place s here in
            record { number = start.number; starts_is = start.starts_is; out = deleted_outside keep start.number place around s out under.0 start.starts_is }

        by_test : (test : Bool) → keep (number_of s) ≡ test
            → (IsIn (defined_stmt s) place → Stays (started_stmt s) (defined_stmt (numbered_stmt m (kept_stmt keep s))))
            → ((first : ℕ) → IsIn (defined_suite rest) place → Stays (started_suite rest) (defined_suite (numbered_suite first (kept_suite keep rest))))
            → Stays (started_suite (more_suite s rest)) (defined_suite (numbered_suite m (if test then more_suite (kept_stmt keep s) (kept_suite keep rest) else kept_suite keep rest)))
        by_test true is own others =
            stays_either (defined_stmt s) (defined_suite rest) (started_stmt s) (started_suite rest) (defined_stmt (numbered_stmt m (kept_stmt keep s)))
            (defined_suite (numbered_suite (m + size_stmt (kept_stmt keep s)) (kept_suite keep rest))) there own (others (m + size_stmt (kept_stmt keep s)))
        by_test false is own others =
            stays_either (defined_stmt s) (defined_suite rest) (started_stmt s) (started_suite rest) [] (defined_suite (numbered_suite m (kept_suite keep rest))) there
            (λ here. gone_by (gone is here)) (others m)

    stmt_stays : (around : Bool) (m : ℕ) (s : StmtTree) → UnderStmt keep around s → IsIn (defined_stmt s) place → Stays (started_stmt s) (defined_stmt (numbered_stmt m (kept_stmt keep s)))
    stmt_stays around m (one_stmt number at span form) under there = form_stays (keep number) (m + 1) number at form under.1 there

    form_stays : (around : Bool) (m number : ℕ) (at : Pos) (form : FormTree) → UnderForm keep around form → IsIn (defined_form at form) place
        → Stays ((number, at) ∷ started_form form) (defined_form at (numbered_form m (kept_form keep form)))
    form_stays around m number at (def_form name params globals body) under (inl is) = still (inl is)
    form_stays around m number at (def_form name params globals body) under (inr there) =
        stays_behind ((number, at) ∷ []) (at ∷ []) (with_pass m body (kept_suite keep body) (suite_stays around m body under there))
    form_stays around m number at (class_form name base body) under (inl is) = still (inl is)
    form_stays around m number at (class_form name base body) under (inr there) =
        stays_behind ((number, at) ∷ []) (at ∷ []) (with_pass m body (kept_suite keep body) (suite_stays around m body under there))
    form_stays around m number at (if_form branches orelse) under there =
        stays_behind ((number, at) ∷ []) [] (stays_either (defined_branches branches) (defined_else orelse) (started_branches branches) (started_else orelse)
        (defined_branches (numbered_branches m (kept_branches keep branches))) (defined_else (numbered_else (m + size_branches (kept_branches keep branches)) (kept_else keep orelse))) there
        (branches_stay around m branches under.0) (else_stays around (m + size_branches (kept_branches keep branches)) orelse under.1))
    form_stays around m number at (while_form test body) under there =
        stays_behind ((number, at) ∷ []) [] (with_pass m body (kept_suite keep body) (suite_stays around m body under there))
    form_stays around m number at (for_form target items body) under there =
        stays_behind ((number, at) ∷ []) [] (with_pass m body (kept_suite keep body) (suite_stays around m body under there))
    form_stays around m number at (try_form body handlers) under there =
        stays_behind ((number, at) ∷ []) [] (stays_either (defined_suite body) (defined_handlers handlers) (started_suite body) (started_handlers handlers)
        (defined_suite (numbered_suite m (or_pass body (kept_suite keep body))))
        (defined_handlers (numbered_handlers (m + size_suite (or_pass body (kept_suite keep body))) (kept_handlers keep handlers))) there
        (λ here. with_pass m body (kept_suite keep body) (suite_stays around m body under.0 here)) (handlers_stay around (m + size_suite (or_pass body (kept_suite keep body))) handlers under.1))
    form_stays around m number at (with_form e bound body) under there =
        stays_behind ((number, at) ∷ []) [] (with_pass m body (kept_suite keep body) (suite_stays around m body under there))
    form_stays around m number at (do_form e) under there = absurd there
    form_stays around m number at (assign_form target e) under there = absurd there
    form_stays around m number at (aug_form target sign p e) under there = absurd there
    form_stays around m number at (del_form target) under there = absurd there
    form_stays around m number at pass_form under there = absurd there
    form_stays around m number at break_form under there = absurd there
    form_stays around m number at continue_form under there = absurd there
    form_stays around m number at (return_form e) under there = absurd there
    form_stays around m number at (raise_form e) under there = absurd there
    form_stays around m number at (assert_form test message) under there = absurd there
    form_stays around m number at (import_form name) under there = absurd there

    branches_stay : (around : Bool) (m : ℕ) (branches : BranchesTree) → UnderBranches keep around branches → IsIn (defined_branches branches) place
        → Stays (started_branches branches) (defined_branches (numbered_branches m (kept_branches keep branches)))
    branches_stay around m end_branches under there = absurd there
    branches_stay around m (more_branches test body rest) under there =
        stays_either (defined_suite body) (defined_branches rest) (started_suite body) (started_branches rest) (defined_suite (numbered_suite m (or_pass body (kept_suite keep body))))
        (defined_branches (numbered_branches (m + size_suite (or_pass body (kept_suite keep body))) (kept_branches keep rest))) there
        (λ here. with_pass m body (kept_suite keep body) (suite_stays around m body under.0 here)) (branches_stay around (m + size_suite (or_pass body (kept_suite keep body))) rest under.1)

    else_stays : (around : Bool) (m : ℕ) (orelse : ElseTree) → UnderElse keep around orelse → IsIn (defined_else orelse) place → Stays (started_else orelse) (defined_else (numbered_else m (kept_else keep orelse)))
    else_stays around m no_else under there = absurd there
    else_stays around m (else_suite body) under there = with_pass m body (kept_suite keep body) (suite_stays around m body under there)

    handlers_stay : (around : Bool) (m : ℕ) (handlers : HandlersTree) → UnderHandlers keep around handlers → IsIn (defined_handlers handlers) place
        → Stays (started_handlers handlers) (defined_handlers (numbered_handlers m (kept_handlers keep handlers)))
    handlers_stay around m end_handlers under there = absurd there
    handlers_stay around m (more_handlers kind bound body rest) under there =
        stays_either (defined_suite body) (defined_handlers rest) (started_suite body) (started_handlers rest) (defined_suite (numbered_suite m (or_pass body (kept_suite keep body))))
        (defined_handlers (numbered_handlers (m + size_suite (or_pass body (kept_suite keep body))) (kept_handlers keep rest))) there
        (λ here. with_pass m body (kept_suite keep body) (suite_stays around m body under.0 here)) (handlers_stay around (m + size_suite (or_pass body (kept_suite keep body))) rest under.1)

-- the test of places in words
own_place : (p : Pos) → places.eq p p ≡ true
own_place p = search rules

any_in : (ps : List Pos) (place : Pos) → list_any (λ at. places.eq at place) ps ≡ true → IsIn ps place
any_in [] place is = absurd (false≢true is)
any_in (p ∷ ps) place is = by_test (places.eq p place) refl is (any_in ps place)
  where
    by_test : (test : Bool) → places.eq p place ≡ test → (test || list_any (λ at. places.eq at place) ps) ≡ true
        → (list_any (λ at. places.eq at place) ps ≡ true → IsIn ps place) → IsIn (p ∷ ps) place
    by_test true same is later = inl (place_same p place same)
    by_test false other is later = inr (later is)

in_any : (ps : List Pos) (place : Pos) → IsIn ps place → list_any (λ at. places.eq at place) ps ≡ true
in_any [] place there = absurd there
in_any (p ∷ ps) place (inl is) = ap (λ test. test || list_any (λ at. places.eq at place) ps) (ap (λ at. places.eq at place) is ∙ own_place place)
in_any (p ∷ ps) place (inr there) = ap (λ test. places.eq p place || test) (in_any ps place there) ∙ or_true (places.eq p place)
  where
    or_true : (test : Bool) → (test || true) ≡ true
    or_true true = refl
    or_true false = refl

pub defined_in : (script : ScriptTree) (place : Pos) → defines script place ≡ true → IsIn (defined_suite script.body) place
defined_in script place is = any_in (defined_suite script.body) place is

pub in_defined : (script : ScriptTree) (place : Pos) → IsIn (defined_suite script.body) place → defines script place ≡ true
in_defined script place there = in_any (defined_suite script.body) place there

module _ (keep : StmtSet) (script : ScriptTree) where
  known : (place : Pos) → defines (deleted keep script) place ≡ true → KeptAmong keep place (started_suite script.body) (defined_suite script.body)
  known place is = suite_known keep place 0 script.body (defined_in (deleted keep script) place is)

  -- what the slice defines the script defines, by a statement of the set
  pub defined_before : (place : Pos) → defines (deleted keep script) place ≡ true → defines script place ≡ true
  defined_before place is = in_defined script place (known place is).defined_is

  pub defined_kept : (place : Pos) → defines (deleted keep script) place ≡ true → (n : ℕ) × (_ : IsIn (started_suite script.body) (n, place)) × (keep n ≡ true)
  defined_kept place is = ((known place is).number, (known place is).starts_is, (known place is).kept)

  -- where a statement starts that is not kept, the slice defines nothing
  pub deleted_undefined : IsWellFormed script → (n : ℕ) (at : Pos) → IsIn (started_suite script.body) (n, at) → keep n ≡ false → defines (deleted keep script) at ≡ false
  deleted_undefined well n at there out = by_test (defines (deleted keep script) at) refl
    where
      by_test : (test : Bool) → defines (deleted keep script) at ≡ test → defines (deleted keep script) at ≡ false
      by_test true is =
          let one = known at is in
          absurd (false≢true (sym out ∙ (ap keep (one_start script well n one.number at there one.starts_is) ∙ one.kept)))
      by_test false is = is

  -- a definition of the set stays
  pub kept_defined : IsWellFormed script → UnderSuite keep true script.body → (n : ℕ) (at : Pos) → IsIn (started_suite script.body) (n, at) → keep n ≡ true
      → defines script at ≡ true → defines (deleted keep script) at ≡ true
  kept_defined well under n at there kept is = by_stays (suite_stays keep at true 0 script.body under (defined_in script at is))
    where
      by_stays : Stays keep at (started_suite script.body) (defined_suite (deleted keep script).body) → defines (deleted keep script) at ≡ true
      by_stays (still here) = in_defined (deleted keep script) at here
      by_stays (gone_by one) = absurd (false≢true (sym one.out ∙ (ap keep (one_start script well one.number n at one.starts_is there) ∙ kept)))
