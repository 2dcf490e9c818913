use Rattle.std.proofs.Common.{slice_index_or}
use Rattle.std.proofs.lemmas.List.{take_more}
use Rattle.py_value.specs.declared.value.Value.TheVariants.{None as Nothing}
use Rattle.py_value.proofs.KeyNotes.{known_more}
use Rattle.py_value.proofs.values.Values.parts_as_keys.Goals as goal

pub loop-item-preserved : goal.loop-item-preserved
loop-item-preserved c = known_more c.args.self.now c.args.items.now c.loop-item.item-index (slice_index_or c.args.items.now c.loop-item.item-index Nothing) c.as_key.result c.loop-item.known c.before-known.result
    (take_more c.args.items.now c.loop-item.item-index Nothing c.loop-item-test.true)
    c.loop-item.invariant c.as_key.ensures c.before-known.ensures.first c.before-known.ensures.second c.before-known.ensures.fault
