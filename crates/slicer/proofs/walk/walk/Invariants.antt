use Rattle.std.proofs.Common.{◌≡◌, ◌-◌, ℕ, List, map}
use Rattle.py_value.specs.declared.value.Value.{Value}
use Rattle.py_value.specs.Values.{ValuesView, AreInterned}
use Rattle.slicer.specs.Groups.{group_in, values_of}
use Rattle.slicer.specs.Walk.{IsWalked}
use Rattle.slicer.proofs.walk.walk.Given as goal

abbrev pub invariant-loop-i : goal.invariant-loop-i
invariant-loop-i l = (view : ValuesView) (children : List (ℕ × Value)) (v : Value) → AreInterned view → view.tuples ≡ map (λ k. k.now) l.tuples
    → ((o : ℕ) → group_in l.groups.entries o ≡ values_of children o) → IsWalked view (map (λ k. k.now) l.tuples) children l.groups.entries v 0 l.fn.found.keys
    → IsWalked view (map (λ k. k.now) l.tuples) children l.groups.entries v l.i l.found.keys

-- a set has less than 2^63 values
abbrev pub decreases-loop-i : goal.decreases-loop-i
decreases-loop-i l = 9223372036854775808 - l.i
