use Rattle.std.proofs.Common.{◌*◌, ◌+◌, map, drop}
use Rattle.py_value.specs.Contents.{contents}
use Rattle.py_value.specs.Seen.{value_at}
use Rattle.row_words.specs.Fits.{Each, IsValue}
use Rattle.recorder.specs.Naming.{named_in}
use Rattle.recorder.specs.Numbers.{Goes}
use Rattle.recorder.specs.Walking.{IsReady}
use Rattle.recorder.proofs.naming_values.+value.Given as goal

abbrev pub decreases-value_below : goal.decreases-value_below
decreases-value_below l = 2 * l.below

abbrev pub decreases-values_below : goal.decreases-values_below
decreases-values_below l = 2 * l.below + 1

-- what is done, and what is left to name
abbrev pub invariant-values_below-loop-item : goal.invariant-values_below-loop-item
invariant-values_below-loop-item l =
    Goes contents value_at named_in (map (contents l.values) l.items) (map (contents l.values) (drop l.item-index l.items)) l.fn.namer l.namer l.own.items × (IsReady l.values l.namer.view l.walked × Each IsValue l.own.items)
