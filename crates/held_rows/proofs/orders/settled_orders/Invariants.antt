use Rattle.std.proofs.Common.{ℕ, ◌⊎◌, [], drop}
use Rattle.py_value.specs.Values.{ValuesView}
use Rattle.row_words.specs.Fits.{Each}
use Rattle.slice_law.specs.Closed.{IsIn}
use Rattle.slice_things.specs.Forms.{AreForms}
use Rattle.held_rows.specs.HeldStore.{keys_in}
use Rattle.held_rows.specs.Settled.{AreKeys}
use Rattle.held_rows.specs.Steps.{steps_in, keys_after, IsNamedStep}
use Rattle.held_rows.proofs.orders.settled_orders.Given as goal

abbrev pub invariant-loop-o : goal.invariant-loop-o
invariant-loop-o l = (view : ValuesView) → AreForms view l.forms → ((p : ℕ) → Each (IsNamedStep view) (steps_in l.orders.entries p))
    → (p : ℕ) → AreKeys view (keys_in l.all.entries p) (keys_after view (steps_in l.orders.entries p) []) ⊎ IsIn (drop l.o-index l.o-items) p
