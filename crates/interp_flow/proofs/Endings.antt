-- The end of a suite that a part of a statement waits for.
use Rattle.std.proofs.Common.{◌≡◌, ℕ, List, map, Option, None, Ok, ap, ◌∙◌}
use Rattle.prov_base.specs.declared.refusal.Memory.{Memory}
use Rattle.py_tree.specs.Erasure.{form_of}
use Rattle.py_tree.specs.Tree.{ScriptTree}
use Rattle.py_value.specs.Values.{ValuesView}
use Rattle.py_model.specs.Act.{Act, ret, to}
use Rattle.py_model.specs.Doing.{Fits, Stands}
use Rattle.py_model.specs.Expressions.{Task}
use Rattle.py_model.specs.Meaning.{level}
use Rattle.py_model.specs.Moment.{Moment}
use Rattle.py_model.specs.Running.{outcome}
use Rattle.py_model.specs.Statements.{task}
use Rattle.flow_frames.specs.Machine.{resumes, suite_ended}
use Rattle.flow_frames.specs.Seen.{end_seen, frame_seen, here_seen, stage_seen}
use Rattle.flow_frames.specs.declared.control.End.{End}
use Rattle.flow_frames.specs.declared.control.Part.{Part}
use Rattle.flow_frames.specs.declared.frames.FlowFrames.{FlowFrames}
use Rattle.flow_frames.specs.declared.frames.Waits.TheVariants.{Part as PartWaits}
use Rattle.flow_values.specs.declared.next.FlowNext.TheVariants.{More}
use Rattle.flow_values.specs.Step.{Before, StepsFrom, handed, meant}
use Rattle.flow_values.proofs.Levels.{Unfolds, ended_so}
use Rattle.flow_values.proofs.Outcomes.{same_behind}
use Rattle.flow_values.proofs.Stepping.{steps_on}

pub part_on : Unfolds → (script : ScriptTree) (b : Before) (popped after : FlowFrames) (p : Part) (end : End) (left : ℕ) (fits : Fits) (stood : Stands) (was : Option (List Moment))
    → ((table : ValuesView) (next : Task → Act) → b table next ≡ handed script popped (PartWaits None p) end table next)
    → ((script : ScriptTree) (next : Task → Act) (table : ValuesView)
    → to (suite_ended script next (task script next) (here_seen script table popped.spot) p.stmt.now.pos (form_of p.stmt.now.form.value) (stage_seen table p.stage) (end_seen table end)) (resumes script next (map (frame_seen script table) popped.below.items) (λ how. ret how))
    ≡ meant script after table next)
    → StepsFrom {E = Memory} script b after left left fits stood stood was was (Ok More)
part_on unfolds script b popped after p end left fits stood was is means =
    steps_on script b after left fits stood was (λ table capture s n enough.
    ap (λ a. outcome capture a s) (is table (level script n))
    ∙ same_behind capture (resumes script (level script n) (map (frame_seen script table) popped.below.items) (λ how. ret how))
    (suite_ended script (level script n) (level script n) (here_seen script table popped.spot) p.stmt.now.pos (form_of p.stmt.now.form.value) (stage_seen table p.stage) (end_seen table end))
    (suite_ended script (level script n) (task script (level script n)) (here_seen script table popped.spot) p.stmt.now.pos (form_of p.stmt.now.form.value) (stage_seen table p.stage) (end_seen table end)) s s
    (ended_so unfolds capture script n s enough (here_seen script table popped.spot) p.stmt.now.pos (form_of p.stmt.now.form.value) (stage_seen table p.stage) (end_seen table end))
    ∙ ap (λ a. outcome capture a s) (means script (level script n) table))
