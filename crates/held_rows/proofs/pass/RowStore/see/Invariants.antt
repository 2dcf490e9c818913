use Rattle.std.proofs.Common.{take, map}
use Rattle.py_model.specs.Store.{RunStore}
use Rattle.py_value.specs.Seen.{access_seen}
use Rattle.py_value.specs.Values.{ValuesView, AreInterned}
use Rattle.row_words.specs.Fits.{Each}
use Rattle.row_checks.specs.NamedRows.{NamesAccess}
use Rattle.slice_things.specs.Forms.{AreForms}
use Rattle.slice_things.specs.Things.{after_all, IsNormalAccess}
use Rattle.held_rows.specs.Leaves.{HoldsRows}
use Rattle.held_rows.proofs.pass.RowStore.see.Given as goal

abbrev pub invariant-loop-access : goal.invariant-loop-access
invariant-loop-access l = (view : ValuesView) (store : RunStore) → AreInterned view → AreForms view l.forms → Each (NamesAccess view) l.accesses → Each (IsNormalAccess view) l.accesses
    → HoldsRows view l.forms l.fn.self store → HoldsRows view l.forms l.self (after_all (map (access_seen view) (take l.access-index l.accesses)) store)
