use Rattle.std.proofs.Common.{sym, subst}
use Rattle.flow_frames.specs.Held.{IsHeldStage}
use Rattle.flow_frames.specs.declared.control.Part.{Part}
use Rattle.flow_suites.proofs.ending.body_ended.Goals as goal

pub returns-in-While-clause-held : goal.returns-in-While-clause-held
returns-in-While-clause-held c = λ table scope held. c.looped.ensures.held table scope (subst (λ (p : Part). IsHeldStage table p.stage) (sym c.to.ensures) tt) held
