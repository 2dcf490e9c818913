use Rattle.std.proofs.Common.{◌≡◌, true, sym, ap, subst, ◌∙◌}
use Rattle.keeper.specs.Batch.{BatchView}
use Rattle.memory_keeper.specs.Held.{HeldView, IsHeld, listed, told_of}
use Rattle.keeper.specs.Tables.{HasTrial}
use Rattle.memory_keeper.proofs.HeldLaws.{by_answer, kept_at, held_page}
use Rattle.memory_keeper.proofs.held.Held.add_page.Goals as goal

pub invariant_of-self : goal.invariant_of-self
invariant_of-self c =
    let open_batch : c.self.inside.is_open ≡ true = ap (λ (h : HeldView). h.is_open) c.self.view_is ∙ c.requires.batch in
    let there = subst (λ (h : HeldView). HasTrial (told_of h).seen c.args.trial) (sym c.self.view_is) c.requires.trial in
    by_answer (λ (b : BatchView). IsHeld (listed c.self.inside.tables) b c.self.inside.is_open) _ _ _ c.add_page.result c.add_page.ensures.added c.add_page.ensures.err
    (held_page _ _ _ c.args.trial c.args.number c.args.page.now c.self.invariant open_batch there) c.self.invariant

pub returns-clause-kept : goal.returns-clause-kept
returns-clause-kept c = kept_at _ _ _ (invariant_of-self c)
