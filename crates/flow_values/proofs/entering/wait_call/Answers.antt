use Rattle.std.proofs.Common.{refl, ap}
use Rattle.flow_frames.specs.Machine.{gives, now_act}
use Rattle.flow_frames.specs.Seen.{here_seen, part_seen, work_seen}
use Rattle.flow_frames.specs.declared.control.Giving.{Giving}
use Rattle.flow_frames.specs.declared.control.Now.TheVariants.{Gives}
use Rattle.flow_values.proofs.Fronts.{goes_on}
use Rattle.flow_values.proofs.entering.wait_call.Goals as goal

pub returns-clause-means : goal.returns-clause-means
returns-clause-means c = λ script table next.
    goes_on script next table c.args.frames.now (record c.args.frames.now { now = Gives c.in_ok-giving.giving }) _
    (ap (λ (g : Giving). now_act script next (here_seen script table c.args.frames.now.spot) (gives (work_seen table g.work) (part_seen table g.part))) c.in_ok-giving.ensures.ok) refl
