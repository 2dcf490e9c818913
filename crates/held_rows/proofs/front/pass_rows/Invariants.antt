use Rattle.std.proofs.Common.{ℕ, List, ◌∷◌, take, reverse}
use Rattle.py_value.specs.Values.{ValuesView, AreInterned}
use Rattle.py_model.specs.Store.{opening}
use Rattle.row_moments.specs.Moments.{moments_by}
use Rattle.slice_things.specs.Forms.{AreForms}
use Rattle.slicer.specs.Passing.{AreReadable}
use Rattle.held_rows.specs.Kept.{AreTexts}
use Rattle.held_rows.specs.Leaves.{HoldsAfter}
use Rattle.held_rows.proofs.front.pass_rows.Given as goal

abbrev pub invariant-loop-row : goal.invariant-loop-row
invariant-loop-row l = (view : ValuesView) (path : List ℕ) (arguments : List (List ℕ)) (files : List (List ℕ × List ℕ)) → AreInterned view → AreForms view l.forms → AreReadable view l.rows
    → AreTexts view l.fn.words.items (path ∷ arguments) → HoldsAfter view l.forms (opening path arguments files) l.store (moments_by view (reverse (take l.row-index l.rows)))
