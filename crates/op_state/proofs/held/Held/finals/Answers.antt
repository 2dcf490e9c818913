use Rattle.std.proofs.Common.{subst, IfOk}
use Rattle.op_state.specs.Finals.{AreFilesOf}
use Rattle.op_state.specs.Held.{HeldView}
use Rattle.op_state.proofs.FinalsHeld.{if_finals}
use Rattle.op_work.specs.Work.{AreNamedPaths}
use Rattle.op_state.proofs.held.Held.finals.Goals as goal

pub returns : goal.returns
returns c = if_finals c.holding_is_seen.ensures c.args.self.now (subst (λ (h : HeldView). AreNamedPaths h.work.values h.opened) c.self.view_is c.self.invariant) (λ files. files.items) c.files_of.result
    (subst (λ (h : HeldView). IfOk c.files_of.result (λ files. AreFilesOf h.work h.opened files.items)) c.self.view_is
    (subst (λ paths. IfOk c.files_of.result (λ files. AreFilesOf c.self.inside.work paths files.items)) c.deref.ensures.value c.files_of.ensures))
