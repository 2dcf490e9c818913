use Rattle.std.proofs.Common.{◌≡◌, ◌↔◌, ◌⊎◌, ℕ, true, List, length, take}
use Rattle.py_model.specs.Moment.{Moment}
use Rattle.py_model.specs.Store.{RunStore}
use Rattle.py_tree.specs.Tree.{ScriptTree}
use Rattle.py_value.specs.Values.{ValuesView, AreInterned}
use Rattle.py_value.specs.declared.value.Value.{Value}
use Rattle.slice_edges.specs.HasAsked.{HasAsked}
use Rattle.slice_law.specs.Closed.{has}
use Rattle.slice_things.specs.Children.{children_of}
use Rattle.slice_things.specs.Forms.{AreForms}
use Rattle.slice_things.specs.Things.{HoldsStore}
use Rattle.slicer.specs.Roots.{HasNumbers, AsksAmong}
use Rattle.slicer.specs.Walk.{AreReached}
use Rattle.slicer.proofs.roots.add_places.Given as goal

abbrev pub invariant-loop-at : goal.invariant-loop-at
invariant-loop-at l = (view : ValuesView) (script : ScriptTree) (store : RunStore) (told : List Moment) (v : Value) → AreInterned view → AreForms view l.forms
    → HoldsStore view l.forms l.things store → AreReached view (children_of l.things) v l.found.keys → l.texts ≡ length view.texts → l.tuples ≡ length view.tuples
    → HasAsked view script l.asking told → HasNumbers view told
    → (s : ℕ) → (has s l.roots.items ≡ true) ↔ (AsksAmong view store told v (take l.at-index l.places) s ⊎ (has s l.fn.roots.items ≡ true))
