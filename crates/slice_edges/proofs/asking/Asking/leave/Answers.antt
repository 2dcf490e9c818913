use Rattle.std.proofs.Common.{refl}
use Rattle.slice_edges.proofs.StepLaws.{leave_step}
use Rattle.slice_edges.proofs.asking.Asking.leave.Goals as goal

pub returns : goal.returns
returns c = λ view script told v before.
    leave_step view script c.args.self.now (record { frames = c.close.new.self; writers = c.args.self.now.writers; asks = c.args.self.now.asks; memo = c.args.self.now.memo }) told before v c.close.ensures refl refl refl
