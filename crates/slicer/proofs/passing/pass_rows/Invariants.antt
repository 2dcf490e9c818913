use Rattle.std.proofs.Common.{◌≡◌, ℕ, ◌+◌, List, length, map, take, reverse}
use Rattle.py_tree.specs.Erasure.{script_of}
use Rattle.py_value.specs.Values.{ValuesView, AreInterned}
use Rattle.py_model.specs.Store.{opening}
use Rattle.row_moments.specs.Moments.{moments_by}
use Rattle.slice_things.specs.Forms.{AreForms}
use Rattle.slicer.specs.Passing.{Knows, AreReadable}
use Rattle.slicer.proofs.passing.pass_rows.Given as goal

abbrev pub invariant-loop-row : goal.invariant-loop-row
invariant-loop-row l = (view : ValuesView) (path : List ℕ) (arguments : List (List ℕ)) (files : List (List ℕ × List ℕ)) → AreInterned view → AreForms view l.forms → AreReadable view l.rows
    → view.texts ≡ map (λ k. k.now) l.names → l.words ≡ length arguments + 1
    → Knows view (script_of l.script) l.forms (opening path arguments files) l.passed (moments_by view (reverse (take l.row-index l.rows)))
