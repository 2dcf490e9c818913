use Rattle.std.proofs.Common.{sym, subst}
use Rattle.flow_frames.specs.Held.{IsHeldStage, IsHeldWork}
use Rattle.flow_frames.specs.declared.control.Giving.{Giving}
use Rattle.flow_frames.proofs.control.start.Goals as goal

pub returns-clause-held : goal.returns-clause-held
returns-clause-held c = λ table stage.
    subst (λ (g : Giving). IsHeldWork table c.args.scope g.work × IsHeldStage table g.part.stage) (sym c.in_ok-new.ensures.ok) ((c.in_ok-start.ensures.held table, c.in_ok-start.ensures.scope), stage)
