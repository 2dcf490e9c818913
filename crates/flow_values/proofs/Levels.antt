-- A further turn of a loop comes out as what such a task is, where there are more levels than steps.
use Rattle.std.proofs.Common.{◌≡◌, ℕ, suc, ◌<◌, refl}
use Rattle.prov_base.specs.declared.place.Pos.{Pos}
use Rattle.py_tree.specs.Tree.{FormTree, ScriptTree, while_form, for_form}
use Rattle.py_value.specs.Contents.{Contents}
use Rattle.py_model.specs.Act.{How, normal, broke, continued, returned, threw}
use Rattle.py_model.specs.Capture.{Capture}
use Rattle.py_model.specs.Expressions.{Here, Task, while_again, for_again}
use Rattle.py_model.specs.Meaning.{level}
use Rattle.py_model.specs.Running.{State, outcome}
use Rattle.py_model.specs.Statements.{task, turned}
use Rattle.flow_frames.specs.Machine.{Stage, body, repeats, body_ended, turn_ended, suite_ended}

-- the law of the levels
abbrev pub Unfolds : Type 0
Unfolds = (capture : Capture) (script : ScriptTree) (n : ℕ) (what : Task) (s : State) → s.left < n → outcome capture (level script n what) s ≡ outcome capture (task script (level script n) what) s

module _ (unfolds : Unfolds) (capture : Capture) (script : ScriptTree) (n : ℕ) (s : State) (enough : s.left < n) where
  turned_so : (what : Task) (how : How) → outcome capture (turned (level script n what) how) s ≡ outcome capture (turned (task script (level script n) what) how) s
  turned_so what normal = unfolds capture script n what s enough
  turned_so what continued = unfolds capture script n what s enough
  turned_so what broke = refl
  turned_so what (returned v) = refl
  turned_so what (threw o line) = refl

  body_so : (here : Here) (at : Pos) (form : FormTree) (how : How)
      → outcome capture (body_ended script (level script n) (level script n) here at form how) s ≡ outcome capture (body_ended script (level script n) (task script (level script n)) here at form how) s
  body_so here at (while_form test run) how = turned_so (while_again here test run) how
  body_so here at form how = refl

  turn_so : (here : Here) (at : Pos) (form : FormTree) (items : Contents) (turns : ℕ) (size : Contents) (how : How)
      → outcome capture (turn_ended script (level script n) (level script n) here at form items turns size how) s
      ≡ outcome capture (turn_ended script (level script n) (task script (level script n)) here at form items turns size how) s
  turn_so here at (for_form target e run) items turns size how = turned_so (for_again here at target run items (suc turns) size) how
  turn_so here at form items turns size how = refl

  pub ended_so : (here : Here) (at : Pos) (form : FormTree) (stage : Stage) (how : How)
      → outcome capture (suite_ended script (level script n) (level script n) here at form stage how) s
      ≡ outcome capture (suite_ended script (level script n) (task script (level script n)) here at form stage how) s
  ended_so here at form body how = body_so here at form how
  ended_so here at form (repeats items turns size) how = turn_so here at form items turns size how
  ended_so here at form stage how = refl
