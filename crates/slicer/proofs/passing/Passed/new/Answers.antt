use Rattle.std.proofs.Common.{ap}
use Rattle.slice_law.specs.Closed.{has}
use Rattle.slicer.proofs.passing.Passed.new.Goals as goal

pub returns : goal.returns
returns c = λ view script forms path arguments files many.
    record { asked = c.new-asking.ensures view script; holds = c.in_ok-things.ensures view forms path arguments files many; jumps = λ s. ap (has s) c.new-jumps.ensures.items }
