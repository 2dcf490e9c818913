-- What a slice defines has in graph texts the name that it has in the script.
use Rattle.std.proofs.Common.{◌≡◌, ℕ, ◌+◌, Bool, true, false, if◌then◌else◌, ◌&&◌, ◌⊎◌, List, [], ◌∷◌, ◌++◌, inl, inr, refl, sym, ap, subst, ◌∙◌, codes}
use Rattle.prov_base.specs.declared.place.Pos.{Pos}
use Rattle.prov_base.specs.contracts.place.PosPartialEq.TheImpl.{ghosts as places}
use Rattle.py_tree.specs.Deletion.{or_pass, kept_suite, kept_stmt, kept_form, deleted}
use Rattle.py_tree.specs.Numbering.{size_stmt, numbered_suite, numbered_stmt, numbered_form}
use Rattle.py_tree.specs.Places.{suite_starts, stmt_starts, form_starts, are_ascending}
use Rattle.py_tree.specs.Tree.{number_of, StmtTree, FormTree, SuiteTree, ScriptTree, one_stmt, do_form, assign_form, aug_form, del_form, pass_form, break_form, continue_form, return_form, raise_form, assert_form, import_form, if_form, while_form, for_form, try_form, with_form, def_form, class_form, end_suite, more_suite}
use Rattle.py_tree.specs.WellFormed.{IsWellFormed}
use Rattle.py_value.specs.Same.{same_truth}
use Rattle.py_model.specs.Graph.{names_in, names_of, names_at, first_name}
use Rattle.model_laws.specs.Defined.{defined_suite, defined_stmt, defined_form, defines}
use Rattle.slice_law.specs.Closed.{StmtSet, IsIn}
use Rattle.slice_simulation.proofs.DefinedPlaces.{StartsAmong, suite_starting, stmt_starting, KeptAmong, suite_known, stmt_known, without_pass}
use Rattle.slice_simulation.proofs.OwnMoments.{place_same}
use Rattle.slice_simulation.proofs.Standing.{in_front, in_behind}
use Rattle.slice_simulation.proofs.StartsOnce.{either_in, start_in, suite_started, stmt_started, apart_at, ascending_front, ascending_behind}
use Rattle.slice_simulation.proofs.StayingDefinitions.{defined_in}
use Rattle.slice_simulation.specs.Owned.{started_suite, started_stmt}

abbrev Names : Type 0
Names = List (Pos × (Bool × List ℕ))

-- the places of names
abbrev named_at : Names → List Pos
named_at [] = []
named_at (one ∷ more) = one.0 ∷ named_at more

named_split : (xs ys : Names) (place : Pos) → IsIn (named_at (xs ++ ys)) place → IsIn (named_at xs) place ⊎ IsIn (named_at ys) place
named_split [] ys place there = inr there
named_split (x ∷ xs) ys place (inl is) = inl (inl is)
named_split (x ∷ xs) ys place (inr there) = by_rest (named_split xs ys place there)
  where
    by_rest : IsIn (named_at xs) place ⊎ IsIn (named_at ys) place → IsIn (named_at (x ∷ xs)) place ⊎ IsIn (named_at ys) place
    by_rest (inl front) = inl (inr front)
    by_rest (inr behind) = inr behind

module _ (place : Pos) where
  -- what has a name is defined
  mutual
    suite_named : (body : SuiteTree) → IsIn (named_at (names_in body)) place → IsIn (defined_suite body) place
    suite_named end_suite there = absurd there
    suite_named (more_suite s rest) there = by_either (named_split (names_of s) (names_in rest) place there) (stmt_named s) (suite_named rest)
      where
        by_either : IsIn (named_at (names_of s)) place ⊎ IsIn (named_at (names_in rest)) place → (IsIn (named_at (names_of s)) place → IsIn (defined_stmt s) place)
            → (IsIn (named_at (names_in rest)) place → IsIn (defined_suite rest) place) → IsIn (defined_suite (more_suite s rest)) place
        by_either (inl here) own others = in_front (defined_stmt s) (defined_suite rest) place (own here)
        by_either (inr later) own others = in_behind (defined_stmt s) (defined_suite rest) place (others later)

    stmt_named : (s : StmtTree) → IsIn (named_at (names_of s)) place → IsIn (defined_stmt s) place
    stmt_named (one_stmt number at span form) there = form_named at form there

    form_named : (at : Pos) (form : FormTree) → IsIn (named_at (names_at at form)) place → IsIn (defined_form at form) place
    form_named at (def_form name params globals body) (inl is) = inl is
    form_named at (def_form name params globals body) (inr there) = absurd there
    form_named at (class_form name base body) (inl is) = inl is
    form_named at (class_form name base body) (inr there) = inr (suite_named body there)
    form_named at (do_form e) there = absurd there
    form_named at (assign_form target e) there = absurd there
    form_named at (aug_form target sign p e) there = absurd there
    form_named at (del_form target) there = absurd there
    form_named at pass_form there = absurd there
    form_named at break_form there = absurd there
    form_named at continue_form there = absurd there
    form_named at (return_form e) there = absurd there
    form_named at (raise_form e) there = absurd there
    form_named at (assert_form test message) there = absurd there
    form_named at (import_form name) there = absurd there
    form_named at (if_form branches other) there = absurd there
    form_named at (while_form test body) there = absurd there
    form_named at (for_form target items body) there = absurd there
    form_named at (try_form body handlers) there = absurd there
    form_named at (with_form e bound body) there = absurd there

  module _ (is_class : Bool) where
    -- where none of the names stands at the place
    none_named : (names : Names) → (IsIn (named_at names) place → ⊥) → first_name is_class place names ≡ codes "?"
    none_named [] none = refl
    none_named (one ∷ more) none = by_test (places.eq one.0 place) refl (none_named more (λ there. none (inr there)))
      where
        by_test : (test : Bool) → places.eq one.0 place ≡ test → first_name is_class place more ≡ codes "?"
            → (if test && same_truth is_class one.1.0 then one.1.1 else first_name is_class place more) ≡ codes "?"
        by_test true same later = absurd (none (inl (place_same one.0 place same)))
        by_test false other later = later

    named_front : (xs ys : Names) → (IsIn (named_at ys) place → ⊥) → first_name is_class place (xs ++ ys) ≡ first_name is_class place xs
    named_front [] ys none = none_named ys none
    named_front (x ∷ xs) ys none = ap (λ (rest : List ℕ). if places.eq x.0 place && same_truth is_class x.1.0 then x.1.1 else rest) (named_front xs ys none)

    named_behind : (xs ys : Names) → (IsIn (named_at xs) place → ⊥) → first_name is_class place (xs ++ ys) ≡ first_name is_class place ys
    named_behind [] ys none = refl
    named_behind (x ∷ xs) ys none = by_test (places.eq x.0 place) refl (named_behind xs ys (λ there. none (inr there)))
      where
        by_test : (test : Bool) → places.eq x.0 place ≡ test → first_name is_class place (xs ++ ys) ≡ first_name is_class place ys
            → (if test && same_truth is_class x.1.0 then x.1.1 else first_name is_class place (xs ++ ys)) ≡ first_name is_class place ys
        by_test true same later = absurd (none (inl (place_same x.0 place same)))
        by_test false other later = later

    module _ (keep : StmtSet) where
      -- where what is defined, there or in the slice, starts in the script
      suite_place : (body : SuiteTree) → IsIn (defined_suite body) place → IsIn (suite_starts body) place
      suite_place body there =
          let start : StartsAmong place (started_suite body) = suite_starting place body there in
          subst (λ ps. IsIn ps place) (suite_started body) (start_in (started_suite body) start.number place start.starts_is)

      stmt_place : (s : StmtTree) → IsIn (defined_stmt s) place → IsIn (stmt_starts s) place
      stmt_place s there =
          let start : StartsAmong place (started_stmt s) = stmt_starting place s there in
          subst (λ ps. IsIn ps place) (stmt_started s) (start_in (started_stmt s) start.number place start.starts_is)

      suite_left_place : (m : ℕ) (body : SuiteTree) → IsIn (defined_suite (numbered_suite m (kept_suite keep body))) place → IsIn (suite_starts body) place
      suite_left_place m body there = suite_place body (KeptAmong.defined_is (suite_known keep place m body there))

      stmt_left_place : (m : ℕ) (s : StmtTree) → keep (number_of s) ≡ true → IsIn (defined_stmt (numbered_stmt m (kept_stmt keep s))) place → IsIn (stmt_starts s) place
      stmt_left_place m s kept there = stmt_place s (KeptAmong.defined_is (stmt_known keep place m s kept there))

      pass_named : (m : ℕ) (body kept : SuiteTree) → names_in (numbered_suite m (or_pass body kept)) ≡ names_in (numbered_suite m kept)
      pass_named m end_suite kept = refl
      pass_named m (more_suite (one_stmt number at span form) rest) end_suite = refl
      pass_named m (more_suite (one_stmt number at span form) rest) (more_suite s more) = refl

      mutual
        suite_kept_names : (m : ℕ) (body : SuiteTree) → are_ascending (suite_starts body) ≡ true → IsIn (defined_suite (numbered_suite m (kept_suite keep body))) place
            → first_name is_class place (names_in body) ≡ first_name is_class place (names_in (numbered_suite m (kept_suite keep body)))
        suite_kept_names m end_suite ascending there = absurd there
        suite_kept_names m (more_suite s rest) ascending there =
            by_test (keep (number_of s)) refl there (stmt_kept_names m s (ascending_front (stmt_starts s) (suite_starts rest) ascending))
            (λ first. suite_kept_names first rest (ascending_behind (stmt_starts s) (suite_starts rest) ascending))
          where
            by_test : (test : Bool) → keep (number_of s) ≡ test
                → IsIn (defined_suite (numbered_suite m (if test then more_suite (kept_stmt keep s) (kept_suite keep rest) else kept_suite keep rest))) place
                → (keep (number_of s) ≡ true → IsIn (defined_stmt (numbered_stmt m (kept_stmt keep s))) place
                → first_name is_class place (names_of s) ≡ first_name is_class place (names_of (numbered_stmt m (kept_stmt keep s))))
                → ((first : ℕ) → IsIn (defined_suite (numbered_suite first (kept_suite keep rest))) place
                → first_name is_class place (names_in rest) ≡ first_name is_class place (names_in (numbered_suite first (kept_suite keep rest))))
                → first_name is_class place (names_of s ++ names_in rest)
                ≡ first_name is_class place (names_in (numbered_suite m (if test then more_suite (kept_stmt keep s) (kept_suite keep rest) else kept_suite keep rest)))
            by_test true is there own others =
                by_either (either_in (defined_stmt (numbered_stmt m (kept_stmt keep s))) (defined_suite (numbered_suite (m + size_stmt (kept_stmt keep s)) (kept_suite keep rest))) place there)
              where
                by_either : IsIn (defined_stmt (numbered_stmt m (kept_stmt keep s))) place ⊎ IsIn (defined_suite (numbered_suite (m + size_stmt (kept_stmt keep s)) (kept_suite keep rest))) place
                    → first_name is_class place (names_of s ++ names_in rest)
                    ≡ first_name is_class place (names_of (numbered_stmt m (kept_stmt keep s)) ++ names_in (numbered_suite (m + size_stmt (kept_stmt keep s)) (kept_suite keep rest)))
                by_either (inl here) =
                    named_front (names_of s) (names_in rest)
                    (λ named. apart_at (stmt_starts s) (suite_starts rest) place ascending (stmt_left_place m s is here) (suite_place rest (suite_named rest named)))
                    ∙ (own is here
                    ∙ sym (named_front (names_of (numbered_stmt m (kept_stmt keep s))) (names_in (numbered_suite (m + size_stmt (kept_stmt keep s)) (kept_suite keep rest)))
                    (λ named. apart_at (stmt_starts s) (suite_starts rest) place ascending (stmt_left_place m s is here)
                    (suite_left_place (m + size_stmt (kept_stmt keep s)) rest (suite_named (numbered_suite (m + size_stmt (kept_stmt keep s)) (kept_suite keep rest)) named)))))
                by_either (inr later) =
                    named_behind (names_of s) (names_in rest)
                    (λ named. apart_at (stmt_starts s) (suite_starts rest) place ascending (stmt_place s (stmt_named s named)) (suite_left_place (m + size_stmt (kept_stmt keep s)) rest later))
                    ∙ (others (m + size_stmt (kept_stmt keep s)) later
                    ∙ sym (named_behind (names_of (numbered_stmt m (kept_stmt keep s))) (names_in (numbered_suite (m + size_stmt (kept_stmt keep s)) (kept_suite keep rest)))
                    (λ named. apart_at (stmt_starts s) (suite_starts rest) place ascending
                    (stmt_left_place m s is (stmt_named (numbered_stmt m (kept_stmt keep s)) named)) (suite_left_place (m + size_stmt (kept_stmt keep s)) rest later))))
            by_test false is there own others =
                named_behind (names_of s) (names_in rest)
                (λ named. apart_at (stmt_starts s) (suite_starts rest) place ascending (stmt_place s (stmt_named s named)) (suite_left_place m rest there))
                ∙ others m there

        stmt_kept_names : (m : ℕ) (s : StmtTree) → are_ascending (stmt_starts s) ≡ true → keep (number_of s) ≡ true → IsIn (defined_stmt (numbered_stmt m (kept_stmt keep s))) place
            → first_name is_class place (names_of s) ≡ first_name is_class place (names_of (numbered_stmt m (kept_stmt keep s)))
        stmt_kept_names m (one_stmt number at span form) ascending kept there = form_kept_names (m + 1) at form ascending there

        form_kept_names : (m : ℕ) (at : Pos) (form : FormTree) → are_ascending (at ∷ form_starts form) ≡ true → IsIn (defined_form at (numbered_form m (kept_form keep form))) place
            → first_name is_class place (names_at at form) ≡ first_name is_class place (names_at at (numbered_form m (kept_form keep form)))
        form_kept_names m at (class_form name base body) ascending (inl is) =
            ap (λ (rest : List ℕ). if places.eq at place && same_truth is_class true then name else rest)
            (none_named (names_in body) (λ named. apart_at (at ∷ []) (suite_starts body) place ascending (inl is) (suite_place body (suite_named body named)))
            ∙ sym (none_named (names_in (numbered_suite m (or_pass body (kept_suite keep body))))
            (λ named. apart_at (at ∷ []) (suite_starts body) place ascending (inl is)
            (suite_left_place m body (without_pass keep place m body (kept_suite keep body) (suite_named (numbered_suite m (or_pass body (kept_suite keep body))) named))))))
        form_kept_names m at (class_form name base body) ascending (inr there) =
            ap (λ (rest : List ℕ). if places.eq at place && same_truth is_class true then name else rest)
            (suite_kept_names m body (ascending_behind (at ∷ []) (suite_starts body) ascending) (without_pass keep place m body (kept_suite keep body) there)
            ∙ ap (first_name is_class place) (sym (pass_named m body (kept_suite keep body))))
        form_kept_names m at (def_form name params globals body) ascending there = refl
        form_kept_names m at (do_form e) ascending there = refl
        form_kept_names m at (assign_form target e) ascending there = refl
        form_kept_names m at (aug_form target sign p e) ascending there = refl
        form_kept_names m at (del_form target) ascending there = refl
        form_kept_names m at pass_form ascending there = refl
        form_kept_names m at break_form ascending there = refl
        form_kept_names m at continue_form ascending there = refl
        form_kept_names m at (return_form e) ascending there = refl
        form_kept_names m at (raise_form e) ascending there = refl
        form_kept_names m at (assert_form test message) ascending there = refl
        form_kept_names m at (import_form name) ascending there = refl
        form_kept_names m at (if_form branches other) ascending there = refl
        form_kept_names m at (while_form test body) ascending there = refl
        form_kept_names m at (for_form target items body) ascending there = refl
        form_kept_names m at (try_form body handlers) ascending there = refl
        form_kept_names m at (with_form e bound body) ascending there = refl

pub names_kept : (keep : StmtSet) (script : ScriptTree) → IsWellFormed script → (is_class : Bool) (place : Pos) → defines (deleted keep script) place ≡ true
    → first_name is_class place (names_in script.body) ≡ first_name is_class place (names_in (deleted keep script).body)
names_kept keep script well is_class place is = suite_kept_names place is_class keep 0 script.body well.ascending (defined_in (deleted keep script) place is)
