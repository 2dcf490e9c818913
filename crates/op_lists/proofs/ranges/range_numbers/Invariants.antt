use Rattle.std.proofs.Common.{◌≡◌, ◌-◌, ◌++◌}
use Rattle.op_lists.specs.ValuesSeen.{values_seen}
use Rattle.py_model.specs.Numbers.{range_count}
use Rattle.py_model.specs.Walks.{numbers_from}
use Rattle.py_value.specs.Values.{ValuesView, AreNamed}
use Rattle.op_lists.proofs.ranges.range_numbers.Given as goal

abbrev pub invariant-loop-i : goal.invariant-loop-i
invariant-loop-i l =
    (range_count l.start l.end l.step - l.i ≡ range_count l.number l.end l.step)
    × (((table : ValuesView) → values_seen table l.numbers.items ++ numbers_from (range_count l.start l.end l.step - l.i) l.number l.step ≡ numbers_from (range_count l.start l.end l.step) l.start l.step)
    × ((values : ValuesView) → AreNamed values l.numbers.items))
