use Rattle.std.proofs.Common.{take, []}
use Rattle.py_value.specs.Values.{ValuesView}
use Rattle.row_words.specs.Fits.{Each}
use Rattle.slice_things.specs.Forms.{AreForms}
use Rattle.held_rows.specs.Settled.{AreFew, Settles}
use Rattle.held_rows.specs.Steps.{keys_after, IsNamedStep}
use Rattle.held_rows.proofs.settling.settled.Given as goal

abbrev pub invariant-loop-step : goal.invariant-loop-step
invariant-loop-step l = AreFew l.settling × ((view : ValuesView) → AreForms view l.forms → Each (IsNamedStep view) l.steps → Settles view l.forms l.settling (keys_after view (take l.step-index l.steps) []))
