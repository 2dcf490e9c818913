use Rattle.std.proofs.Common.{IfOk, ◌≡◌, ◌↔◌, ℕ, true, reverse, subst, sym}
use Rattle.row_moments.specs.Moments.{moments_by}
use Rattle.feedings.specs.Marks.{mark_at}
use Rattle.feedings.specs.Sites.{Leads}
use Rattle.feedings.proofs.answers.marks_by.Goals as goal

pub returns-in-Sources : goal.returns-in-Sources
returns-in-Sources c view script interned named passed within =
    subst (λ way. IfOk c.sources_by.result (λ marks. (t : ℕ) → (mark_at marks.items t ≡ true) ↔ Leads way script (moments_by view (reverse c.args.rows.now)) t c.args.time))
    (sym c.in-Sources.is) (c.sources_by.ensures view script interned named passed within)

pub returns-in-Effects : goal.returns-in-Effects
returns-in-Effects c view script interned named passed within =
    subst (λ way. IfOk c.effects_by.result (λ marks. (t : ℕ) → (mark_at marks.items t ≡ true) ↔ Leads way script (moments_by view (reverse c.args.rows.now)) t c.args.time))
    (sym c.in-Effects.is) (c.effects_by.ensures view script interned named passed within)
