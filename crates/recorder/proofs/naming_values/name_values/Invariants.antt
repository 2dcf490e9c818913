use Rattle.std.proofs.Common.{map, drop}
use Rattle.py_value.specs.Contents.{contents}
use Rattle.py_value.specs.Seen.{value_at}
use Rattle.row_words.specs.Fits.{Each, IsValue}
use Rattle.recorder.specs.Naming.{named_in}
use Rattle.recorder.specs.Numbers.{Goes}
use Rattle.recorder.specs.Walking.{IsReady}
use Rattle.recorder.proofs.naming_values.name_values.Given as goal

-- what is done, and what is left to name
abbrev pub invariant-loop-item : goal.invariant-loop-item
invariant-loop-item l =
    Goes contents value_at named_in (map (contents l.values) l.items) (map (contents l.values) (drop l.item-index l.items)) l.fn.namer l.namer l.own.items × (IsReady l.values l.namer.view l.walked × Each IsValue l.own.items)
