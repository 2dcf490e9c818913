use Rattle.std.proofs.Common.{rules}
use Rattle.memory_keeper.specs.Held.{IsHeld, listed}
use Rattle.memory_keeper.proofs.HeldLaws.{kept_at}
use Rattle.memory_keeper.proofs.held.Held.restart.Goals as goal

pub returns-clause-kept : goal.returns-clause-kept
returns-clause-kept c =
    let is : IsHeld (listed c.self.inside.tables) c.new.result c.args.is_open = search rules in
    kept_at _ _ _ is
