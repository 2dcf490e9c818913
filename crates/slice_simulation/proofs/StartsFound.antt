-- What holds of all statements of a script holds of those in the suites of its functions.
use Rattle.std.proofs.Common.{ℕ, Bool, true, false, if◌then◌else◌, List, [], ◌∷◌, ◌++◌, Some}
use Rattle.std.specs.Prelude.{⊤}
use Rattle.prov_base.specs.declared.place.Pos.{Pos}
use Rattle.prov_base.specs.contracts.place.PosPartialEq.TheImpl.{ghosts as places}
use Rattle.py_tree.specs.Functions.{Function, functions_in, functions_of, functions_at, first_placed, function_at}
use Rattle.py_tree.specs.Tree.{StmtTree, FormTree, SuiteTree, ScriptTree, one_stmt, do_form, assign_form, aug_form, del_form, pass_form, break_form, continue_form, return_form, raise_form, assert_form, import_form, if_form, while_form, for_form, try_form, with_form, def_form, class_form, end_suite, more_suite}
use Rattle.slice_simulation.proofs.OutsideRules.{FoundStarts}
use Rattle.slice_simulation.proofs.Standing.{AllOwned, owned_left, owned_right}
use Rattle.slice_simulation.specs.Owned.{started_suite, started_stmt, started_form}

module _ (P : ℕ → Pos → Type 0) where
  abbrev AllStarts : List Function → Type 0
  AllStarts [] = ⊤
  AllStarts (f ∷ fs) = AllOwned P (started_suite f.body) × AllStarts fs

  all_joined : (fs gs : List Function) → AllStarts fs → AllStarts gs → AllStarts (fs ++ gs)
  all_joined [] gs one another = another
  all_joined (f ∷ fs) gs one another = (one.0, all_joined fs gs one.1 another)

  first_found : (place : Pos) (fs : List Function) → AllStarts fs → FoundStarts P (first_placed place fs)
  first_found place [] all = tt
  first_found place (f ∷ fs) all = by_test (places.eq f.place place) (first_found place fs all.1)
    where
      by_test : (test : Bool) → FoundStarts P (first_placed place fs) → FoundStarts P (if test then Some f else first_placed place fs)
      by_test true later = all.0
      by_test false later = later

  mutual
    functions_start : (body : SuiteTree) → AllOwned P (started_suite body) → AllStarts (functions_in body)
    functions_start end_suite all = tt
    functions_start (more_suite s rest) all =
        all_joined (functions_of s) (functions_in rest) (functions_start_stmt s (owned_left _ all)) (functions_start rest (owned_right (started_stmt s) all))

    functions_start_stmt : (s : StmtTree) → AllOwned P (started_stmt s) → AllStarts (functions_of s)
    functions_start_stmt (one_stmt number at span form) all = functions_start_form at form (owned_right ((number, at) ∷ []) all)

    functions_start_form : (at : Pos) (form : FormTree) → AllOwned P (started_form form) → AllStarts (functions_at at form)
    functions_start_form at (def_form name params globals body) all = (all, tt)
    functions_start_form at (class_form name base body) all = functions_start body all
    functions_start_form at (do_form e) all = tt
    functions_start_form at (assign_form target e) all = tt
    functions_start_form at (aug_form target sign place e) all = tt
    functions_start_form at (del_form target) all = tt
    functions_start_form at pass_form all = tt
    functions_start_form at break_form all = tt
    functions_start_form at continue_form all = tt
    functions_start_form at (return_form e) all = tt
    functions_start_form at (raise_form e) all = tt
    functions_start_form at (assert_form test message) all = tt
    functions_start_form at (import_form name) all = tt
    functions_start_form at (if_form branches alternative) all = tt
    functions_start_form at (while_form test body) all = tt
    functions_start_form at (for_form target items body) all = tt
    functions_start_form at (try_form body handlers) all = tt
    functions_start_form at (with_form e bound body) all = tt

  pub found_starts : (script : ScriptTree) → AllOwned P (started_suite script.body) → (place : Pos) → FoundStarts P (function_at script place)
  found_starts script all place = first_found place (functions_in script.body) (functions_start script.body all)
