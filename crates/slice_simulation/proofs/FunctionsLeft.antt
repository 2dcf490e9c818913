-- The functions of a slice are functions of the script.
use Rattle.std.proofs.Common.{◌≡◌, ℕ, ◌+◌, Bool, true, false, if◌then◌else◌, List, [], ◌∷◌, ◌++◌, Some, None, refl, sym, subst, ◌∙◌, arith, nat_lt, ◌||◌, ◌&&◌, ◌==◌, ltb-true}
use Rattle.std.proofs.lemmas.Bool.{false≢true, and_parts}
use Rattle.std.specs.List.{list_all}
use Rattle.py_tree.specs.Places.{suite_starts, stmt_starts, form_starts, is_before, are_ascending}
use Rattle.py_tree.specs.WellFormed.{IsWellFormed}
use Rattle.prov_base.specs.declared.place.Pos.{Pos}
use Rattle.prov_base.specs.contracts.place.PosPartialEq.TheImpl.{ghosts as places}
use Rattle.py_tree.specs.Deletion.{or_pass, kept_suite, kept_stmt, kept_form, deleted}
use Rattle.py_tree.specs.Numbering.{size_stmt, numbered_suite, numbered_stmt, numbered_form}
use Rattle.py_tree.specs.Tree.{number_of, StmtTree, FormTree, SuiteTree, ScriptTree, one_stmt, do_form, assign_form, aug_form, del_form, pass_form, break_form, continue_form, return_form, raise_form, assert_form, import_form, if_form, while_form, for_form, try_form, with_form, def_form, class_form, end_suite, more_suite}
use Rattle.py_tree.specs.Functions.{Function, functions_in, functions_of, functions_at, first_placed, function_at}
use Rattle.slice_law.specs.Closed.{StmtSet}
use Rattle.slice_simulation.proofs.OwnMoments.{place_same}
use Rattle.slice_simulation.specs.Cut.{CutFunctions, none_left, dropped, left, AreApart, FoundCut}

-- The places of functions are among those of the statements, in their order.
data Listed : List Function → List Pos → Type 0 where
  at_last : Listed [] []
  another : {p : Pos} {fs : List Function} {ps : List Pos} → Listed fs ps → Listed fs (p ∷ ps)
  its_own : {f : Function} {fs : List Function} {ps : List Pos} → Listed fs ps → Listed (f ∷ fs) (f.place ∷ ps)

others : (ps : List Pos) → Listed [] ps
others [] = at_last
others (p ∷ ps) = another (others ps)

listed_joined : {fs gs : List Function} {ps qs : List Pos} → Listed fs ps → Listed gs qs → Listed (fs ++ gs) (ps ++ qs)
listed_joined at_last rest = rest
listed_joined (another more) rest = another (listed_joined more rest)
listed_joined (its_own more) rest = its_own (listed_joined more rest)

mutual
  suite_listed : (body : SuiteTree) → Listed (functions_in body) (suite_starts body)
  suite_listed end_suite = at_last
  suite_listed (more_suite s rest) = listed_joined (stmt_listed s) (suite_listed rest)

  stmt_listed : (s : StmtTree) → Listed (functions_of s) (stmt_starts s)
  stmt_listed (one_stmt number at span form) = form_listed at form

  form_listed : (at : Pos) (form : FormTree) → Listed (functions_at at form) (at ∷ form_starts form)
  form_listed at (def_form name params globals body) = its_own (others (suite_starts body))
  form_listed at (class_form name base body) = another (suite_listed body)
  form_listed at (do_form e) = others (at ∷ [])
  form_listed at (assign_form target e) = others (at ∷ [])
  form_listed at (aug_form target sign place e) = others (at ∷ [])
  form_listed at (del_form target) = others (at ∷ [])
  form_listed at pass_form = others (at ∷ [])
  form_listed at break_form = others (at ∷ [])
  form_listed at continue_form = others (at ∷ [])
  form_listed at (return_form e) = others (at ∷ [])
  form_listed at (raise_form e) = others (at ∷ [])
  form_listed at (assert_form test message) = others (at ∷ [])
  form_listed at (import_form name) = others (at ∷ [])
  form_listed at (if_form branches other) = others (at ∷ form_starts (if_form branches other))
  form_listed at (while_form test body) = others (at ∷ form_starts (while_form test body))
  form_listed at (for_form target items body) = others (at ∷ form_starts (for_form target items body))
  form_listed at (try_form body handlers) = others (at ∷ form_starts (try_form body handlers))
  form_listed at (with_form e bound body) = others (at ∷ form_starts (with_form e bound body))

and_false : (test : Bool) → (test && false) ≡ false
and_false true = refl
and_false false = refl

not_before : (p : Pos) → is_before p p ≡ true → ⊥
not_before p is = by_tests (nat_lt p.line p.line) refl (nat_lt p.col p.col) refl is
  where
    by_tests : (a : Bool) → nat_lt p.line p.line ≡ a → (b : Bool) → nat_lt p.col p.col ≡ b → (a || ((p.line == p.line) && b)) ≡ true → ⊥
    by_tests true less b other is = omega (arith, ltb-true p.line p.line less)
    by_tests false none true less is = omega (arith, ltb-true p.col p.col less)
    by_tests false none false other is = false≢true (sym (and_false (p.line == p.line)) ∙ is)

none_behind : (p : Pos) {fs : List Function} {ps : List Pos} → Listed fs ps → list_all (is_before p) ps ≡ true → first_placed p fs ≡ None
none_behind p at_last all = refl
none_behind p (another {p = q} {fs = fs} {ps = ps} rest) all = none_behind p rest (and_parts (is_before p q) (list_all (is_before p) ps) all).1
none_behind p (its_own {f} {fs} {ps} rest) all =
    let parts : (is_before p f.place ≡ true) × (list_all (is_before p) ps ≡ true) = and_parts (is_before p f.place) (list_all (is_before p) ps) all in
    by_test (places.eq f.place p) refl (none_behind p rest parts.1) parts.0
  where
    by_test : (test : Bool) → places.eq f.place p ≡ test → first_placed p fs ≡ None → is_before p f.place ≡ true → (if test then Some f else first_placed p fs) ≡ None
    by_test true same later less = absurd (not_before p (subst (λ at. is_before p at ≡ true) (place_same f.place p same) less))
    by_test false other later less = later

apart_in : {fs : List Function} {ps : List Pos} → Listed fs ps → are_ascending ps ≡ true → AreApart fs
apart_in at_last is = tt
apart_in (another {p = q} {fs = fs} {ps = ps} rest) is = apart_in rest (and_parts (list_all (is_before q) ps) (are_ascending ps) is).1
apart_in (its_own {f} {fs} {ps} rest) is =
    let parts : (list_all (is_before f.place) ps ≡ true) × (are_ascending ps ≡ true) = and_parts (list_all (is_before f.place) ps) (are_ascending ps) is in
    (none_behind f.place rest parts.0, apart_in rest parts.1)

module _ (keep : StmtSet) where
  cut_joined : {fs gs hs is : List Function} → CutFunctions keep fs gs → CutFunctions keep hs is → CutFunctions keep (fs ++ hs) (gs ++ is)
  cut_joined none_left rest = rest
  cut_joined (dropped more) rest = dropped (cut_joined more rest)
  cut_joined (left same more) rest = left same (cut_joined more rest)

  all_dropped : (fs : List Function) → CutFunctions keep fs []
  all_dropped [] = none_left
  all_dropped (f ∷ fs) = dropped (all_dropped fs)

  or_pass_cut : (m : ℕ) (body kept : SuiteTree) → CutFunctions keep (functions_in body) (functions_in (numbered_suite m kept)) → CutFunctions keep (functions_in body) (functions_in (numbered_suite m (or_pass body kept)))
  or_pass_cut m end_suite kept cut = cut
  or_pass_cut m (more_suite (one_stmt number at span form) rest) end_suite cut = cut
  or_pass_cut m (more_suite (one_stmt number at span form) rest) (more_suite s more) cut = cut

  mutual
    suite_cut : (m : ℕ) (body : SuiteTree) → CutFunctions keep (functions_in body) (functions_in (numbered_suite m (kept_suite keep body)))
    suite_cut m end_suite = none_left
    suite_cut m (more_suite s rest) = by_test (keep (number_of s)) (stmt_cut m s) (λ first. suite_cut first rest)
      where
        by_test : (test : Bool) → CutFunctions keep (functions_of s) (functions_of (numbered_stmt m (kept_stmt keep s)))
            → ((first : ℕ) → CutFunctions keep (functions_in rest) (functions_in (numbered_suite first (kept_suite keep rest))))
            → CutFunctions keep (functions_of s ++ functions_in rest) (functions_in (numbered_suite m (if test then more_suite (kept_stmt keep s) (kept_suite keep rest) else kept_suite keep rest)))
        by_test true own others = cut_joined own (others (m + size_stmt (kept_stmt keep s)))
        by_test false own others = cut_joined (all_dropped (functions_of s)) (others m)

    stmt_cut : (m : ℕ) (s : StmtTree) → CutFunctions keep (functions_of s) (functions_of (numbered_stmt m (kept_stmt keep s)))
    stmt_cut m (one_stmt number at span form) = form_cut (m + 1) at form

    form_cut : (m : ℕ) (at : Pos) (form : FormTree) → CutFunctions keep (functions_at at form) (functions_at at (numbered_form m (kept_form keep form)))
    form_cut m at (def_form name params globals body) = left (record { place = refl; params = refl; globals = refl; first = m; body = refl }) none_left
    form_cut m at (class_form name base body) = or_pass_cut m body (kept_suite keep body) (suite_cut m body)
    form_cut m at (do_form e) = none_left
    form_cut m at (assign_form target e) = none_left
    form_cut m at (aug_form target sign place e) = none_left
    form_cut m at (del_form target) = none_left
    form_cut m at pass_form = none_left
    form_cut m at break_form = none_left
    form_cut m at continue_form = none_left
    form_cut m at (return_form e) = none_left
    form_cut m at (raise_form e) = none_left
    form_cut m at (assert_form test message) = none_left
    form_cut m at (import_form name) = none_left
    form_cut m at (if_form branches other) = none_left
    form_cut m at (while_form test body) = none_left
    form_cut m at (for_form target items body) = none_left
    form_cut m at (try_form body handlers) = none_left
    form_cut m at (with_form e bound body) = none_left

  pub functions_left : (script : ScriptTree) → CutFunctions keep (functions_in script.body) (functions_in (deleted keep script).body)
  functions_left script = suite_cut 0 script.body

  -- what stands at no place of the one stands at none of the other
  none_there : (place : Pos) {fs gs : List Function} → CutFunctions keep fs gs → first_placed place fs ≡ None → first_placed place gs ≡ None
  none_there place none_left is = refl
  none_there place (dropped {f} {fs} {gs} cut) is = by_test (places.eq f.place place) is (none_there place cut)
    where
      by_test : (test : Bool) → (if test then Some f else first_placed place fs) ≡ None → (first_placed place fs ≡ None → first_placed place gs ≡ None) → first_placed place gs ≡ None
      by_test true is later = absurd cc
      by_test false is later = later is
  none_there place (left {f} {g} {fs} {gs} same cut) is =
      subst (λ at. (if places.eq at place then Some g else first_placed place gs) ≡ None) (sym same.place) (by_test (places.eq f.place place) is (none_there place cut))
    where
      by_test : (test : Bool) → (if test then Some f else first_placed place fs) ≡ None → (first_placed place fs ≡ None → first_placed place gs ≡ None) → (if test then Some g else first_placed place gs) ≡ None
      by_test true is later = absurd cc
      by_test false is later = later is

  found_cut : (place : Pos) {fs gs : List Function} → AreApart fs → CutFunctions keep fs gs → FoundCut keep (first_placed place fs) (first_placed place gs)
  found_cut place apart none_left = tt
  found_cut place apart (dropped {f} {fs} {gs} cut) = by_test (places.eq f.place place) refl (found_cut place apart.1 cut)
    where
      by_test : (test : Bool) → places.eq f.place place ≡ test → FoundCut keep (first_placed place fs) (first_placed place gs) → FoundCut keep (if test then Some f else first_placed place fs) (first_placed place gs)
      by_test true is later = subst (FoundCut keep (Some f)) (sym (none_there place cut (subst (λ at. first_placed at fs ≡ None) (place_same f.place place is) apart.0))) tt
      by_test false is later = later
  found_cut place apart (left {f} {g} {fs} {gs} same cut) =
      subst (λ at. FoundCut keep (if places.eq f.place place then Some f else first_placed place fs) (if places.eq at place then Some g else first_placed place gs)) (sym same.place)
      (by_test (places.eq f.place place) (found_cut place apart.1 cut))
    where
      by_test : (test : Bool) → FoundCut keep (first_placed place fs) (first_placed place gs) → FoundCut keep (if test then Some f else first_placed place fs) (if test then Some g else first_placed place gs)
      by_test true later = same
      by_test false later = later

  pub function_left : (script : ScriptTree) → AreApart (functions_in script.body) → (place : Pos) → FoundCut keep (function_at script place) (function_at (deleted keep script) place)
  function_left script apart place = found_cut place apart (functions_left script)

pub function_found : (keep : StmtSet) (script : ScriptTree) → IsWellFormed script → (place : Pos) → FoundCut keep (function_at script place) (function_at (deleted keep script) place)
function_found keep script well place = function_left keep script (apart_in (suite_listed script.body) well.ascending) place
