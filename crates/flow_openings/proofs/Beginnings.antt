-- How a statement begins, and how its suite runs.
use Rattle.std.proofs.Common.{◌≡◌, Option, Some, None, refl, ap, ◌∙◌}
use Rattle.prov_base.specs.declared.place.Pos.{Pos}
use Rattle.py_tree.specs.Tree.{ExprTree, FormTree, SuiteTree, ScriptTree, do_form, assign_form, aug_form, del_form, pass_form, break_form, continue_form, return_form, raise_form, assert_form, import_form, if_form, while_form, for_form, try_form, with_form, def_form, class_form}
use Rattle.py_model.specs.Act.{Act, to}
use Rattle.py_model.specs.Expressions.{Here, Task, eval}
use Rattle.py_model.specs.Statements.{rule, suite}
use Rattle.flow_frames.specs.Machine.{Stage, valued_act, inner_here, stage_act, suite_ended, runs_act}
use Rattle.flow_openings.specs.Opening.{first_in, plain_rule}

module _ (script : ScriptTree) (next : Task → Act) (here : Here) (at : Pos) where
  abbrev pub opens_by : FormTree → Option ExprTree → Act
  opens_by form None = plain_rule script next here at form
  opens_by form (Some e) = eval script next here e (valued_act script next here at form)

  opened_by : (form : FormTree) → opens_by form (first_in form) ≡ rule script next here at form
  opened_by (do_form e) = refl
  opened_by (assign_form target e) = refl
  opened_by (aug_form target sign place e) = refl
  opened_by (del_form target) = refl
  opened_by pass_form = refl
  opened_by break_form = refl
  opened_by continue_form = refl
  opened_by (return_form None) = refl
  opened_by (return_form (Some e)) = refl
  opened_by (raise_form None) = refl
  opened_by (raise_form (Some e)) = refl
  opened_by (assert_form test message) = refl
  opened_by (import_form name) = refl
  opened_by (if_form branches orelse) = refl
  opened_by (while_form test run) = refl
  opened_by (for_form target e run) = refl
  opened_by (try_form run handlers) = refl
  opened_by (with_form e bound run) = refl
  opened_by (def_form name params globals run) = refl
  opened_by (class_form name None run) = refl
  opened_by (class_form name (Some base) run) = refl

  pub begins : (form : FormTree) (e : ExprTree) (a : Act) → Some e ≡ first_in form → a ≡ eval script next here e (valued_act script next here at form) → a ≡ rule script next here at form
  begins form e a first means = means ∙ ap (opens_by form) first ∙ opened_by form

  pub begins_plainly : (form : FormTree) (a : Act) → None ≡ first_in form → a ≡ plain_rule script next here at form → a ≡ rule script next here at form
  begins_plainly form a none means = means ∙ ap (opens_by form) none ∙ opened_by form

  pub runs_so : (inner : Here) (form : FormTree) (stage : Stage) (run : SuiteTree) → inner ≡ inner_here form stage here → suite script next inner run ≡ stage_act script next inner form stage
      → to (suite script next inner run) (suite_ended script next next here at form stage) ≡ runs_act script next here at form stage
  runs_so inner form stage run stands means =
      ap (λ a. to a (suite_ended script next next here at form stage)) (means ∙ ap (λ h. stage_act script next h form stage) stands)
