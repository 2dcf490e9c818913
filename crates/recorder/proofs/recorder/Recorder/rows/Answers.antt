use Rattle.std.proofs.Common.{reverse, sym, ap, subst, ◌∙◌}
use Rattle.py_value.specs.Values.{AreInterned}
use Rattle.trace_rows.specs.RowBytes.{AreRows}
use Rattle.recorder.proofs.RowsKept.{kept, interned}
use Rattle.recorder.specs.Telling.{view_of}
use Rattle.recorder.proofs.recorder.Recorder.rows.Goals as goal

pub returns-clause-rows : goal.returns-clause-rows
returns-clause-rows c =
    c.of.ensures ∙ kept c.args.self (record { rows = reverse c.self.inside.rows.items; ended = reverse c.self.inside.ended.items }) c.self.inside.rows.items c.self.view_is (ap (λ n. n.rows) c.self.invariant.0.all)

pub returns-clause-fit : goal.returns-clause-fit
returns-clause-fit c =
    subst AreRows (kept c.args.self (record { rows = reverse c.self.inside.rows.items; ended = reverse c.self.inside.ended.items }) c.self.inside.rows.items c.self.view_is (ap (λ n. n.rows) c.self.invariant.0.all))
    c.self.invariant.1

pub returns-clause-interned : goal.returns-clause-interned
returns-clause-interned c = subst (λ rows. AreInterned (view_of (reverse rows))) (sym c.of.ensures)
    (interned (reverse c.self.inside.rows.items) (reverse c.self.inside.ended.items) c.self.inside.is_whole c.self.inside.namer c.self.invariant.0 c.if-not-self.false)
