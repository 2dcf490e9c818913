use Rattle.std.proofs.Common.{subst, take, map}
use Rattle.py_value.specs.Seen.{access_seen}
use Rattle.row_checks.specs.NamedRows.{NamesAccess}
use Rattle.slice_things.specs.Things.{after_all, IsNormalAccess}
use Rattle.slice_things.proofs.ThingLaws.{after_next, each_at}
use Rattle.held_rows.specs.Leaves.{HoldsRows}
use Rattle.held_rows.proofs.pass.RowStore.see.Goals as goal

pub loop-access-preserved : goal.loop-access-preserved
loop-access-preserved c = λ view store interned are named is before.
    let items = c.args.accesses.now in
    let i = c.loop-access.access-index in
    let item = c.access-item.result in
    subst (HoldsRows view c.args.forms.now c.note.new.self) (after_next view items i item store c.loop-access-test.true c.access-item.is)
    (c.in_ok-note.ensures view (after_all (map (access_seen view) (take i items)) store) interned are
    (each_at (NamesAccess view) items i item named c.loop-access-test.true c.access-item.is) (each_at (IsNormalAccess view) items i item is c.loop-access-test.true c.access-item.is)
    (c.loop-access.invariant view store interned are named is before))
