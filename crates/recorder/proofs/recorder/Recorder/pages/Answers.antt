use Rattle.std.proofs.Common.{◌≡◌, IfOk, reverse, ap, subst, ◌∙◌}
use Rattle.trace_rows.specs.RowBytes.{AreRows}
use Rattle.recorder.specs.PageCuts.{pages}
use Rattle.recorder.proofs.RowsKept.{kept}
use Rattle.recorder.proofs.recorder.Recorder.pages.Goals as goal

pub returns-clause-pages : goal.returns-clause-pages
returns-clause-pages c =
    subst (λ rows. IfOk c.pages_of.result (λ p. p ≡ pages rows))
    (c.as_slice.ensures.value ∙ kept c.args.self (record { rows = reverse c.self.inside.rows.items; ended = reverse c.self.inside.ended.items }) c.self.inside.rows.items c.self.view_is (ap (λ n. n.rows) c.self.invariant.0.all))
    c.pages_of.ensures

pub returns-clause-rows : goal.returns-clause-rows
returns-clause-rows c =
    subst AreRows (kept c.args.self (record { rows = reverse c.self.inside.rows.items; ended = reverse c.self.inside.ended.items }) c.self.inside.rows.items c.self.view_is (ap (λ n. n.rows) c.self.invariant.0.all))
    c.self.invariant.1
