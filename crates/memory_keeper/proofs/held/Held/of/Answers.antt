use Rattle.std.proofs.Common.{rules, false}
use Rattle.memory_keeper.specs.Held.{IsHeld, listed}
use Rattle.memory_keeper.proofs.HeldLaws.{kept_at}
use Rattle.memory_keeper.proofs.held.Held.of.Goals as goal

pub returns-clause-kept : goal.returns-clause-kept
returns-clause-kept c =
    let is : IsHeld (listed c.args.tables) c.new.result false = search rules in
    kept_at _ _ _ is
