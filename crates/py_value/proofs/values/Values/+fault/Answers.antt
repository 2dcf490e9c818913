use Rattle.std.proofs.Common.{slice_index_or, arith}
use Rattle.std.proofs.lemmas.Option.{slice_get-get_or}
use Rattle.py_value.specs.declared.value.Value.TheVariants.{None as Nothing}
use Rattle.py_value.proofs.KeyNotes.{items_named}
use Rattle.py_value.proofs.values.Values.+fault.Goals as goal

pub fault_of_tuple-fault_of-fault-requires : goal.fault_of_tuple-fault_of-fault-requires
fault_of_tuple-fault_of-fault-requires t c = (
  omega (arith, c.if-levels-eq0.false),
  (
    items_named c.args.self.now c.args.id c.tuple_of-item-items.result.now c.loop-item.item-index (slice_index_or c.tuple_of-item-items.result.now c.loop-item.item-index Nothing)
        c.tuple_of-item-items.ensures.interned c.requires.named c.tuple_of-item-items.ensures.tuple
        (slice_get-get_or c.tuple_of-item-items.result.now c.loop-item.item-index Nothing c.loop-item-test.true),
    omega (arith, c.requires.few),
  ),
)
