use Rattle.std.proofs.Common.{◌+◌, sym, ap, ◌∙◌}
use Rattle.memory_keeper.specs.declared.held.Held.TheInside.{Inside}
use Rattle.memory_keeper.proofs.HeldLaws.{trials_seen}
use Rattle.memory_keeper.proofs.held.Held.trials.Goals as goal

pub returns : goal.returns
returns c =
    let seen = trials_seen _ _ _ c.self.invariant in
    rw (← c.self.view_is) (ap (λ (i : Inside). i.batch.committed + i.batch.added) c.self-inside.view_is ∙ sym seen)
