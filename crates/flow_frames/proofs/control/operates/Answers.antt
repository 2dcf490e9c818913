use Rattle.std.proofs.Common.{ap}
use Rattle.py_tree.specs.Erasure.{form_of}
use Rattle.flow_frames.specs.Machine.{then_act, work_act}
use Rattle.flow_frames.specs.Seen.{stage_seen, work_seen}
use Rattle.flow_frames.specs.declared.control.Giving.{Giving}
use Rattle.flow_frames.proofs.control.operates.Goals as goal

pub returns-clause-means : goal.returns-clause-means
returns-clause-means c = λ script next here table.
    ap (λ (g : Giving). work_act script next here (work_seen table g.work) (then_act script next here g.part.stmt.now.pos (form_of g.part.stmt.now.form.value) (stage_seen table g.part.stage))) c.in_ok-new.ensures.ok
