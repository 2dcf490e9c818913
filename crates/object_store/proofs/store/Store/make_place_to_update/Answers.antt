use Rattle.std.proofs.Common.{sym, subst}
use Rattle.py_value.specs.declared.access.Access.TheVariants.{Update}
use Rattle.object_store.specs.Frugal.{TakesFewFor}
use Rattle.object_store.specs.Store.{room_with_next}
use Rattle.object_store.proofs.Sparing.{on_more}
use Rattle.object_store.proofs.store.Store.make_place_to_update.Goals as goal

pub returns-in-Order-clause-few : goal.returns-in-Order-clause-few
returns-in-Order-clause-few c = on_more c.make_keys.result _ _ (λ few. λ change.
    subst (λ l. TakesFewFor (room_with_next c.args.self.now) (room_with_next c.make_keys.new.self) (Update l change) c.args.need.keys c.args.need.bytes) (sym c.in-Order.is) (few c.args.need.bytes)) c.make_keys.ensures.few

pub returns-in-File-clause-few : goal.returns-in-File-clause-few
returns-in-File-clause-few c = on_more c.make_file.result _ _ (λ few. λ change.
    subst (λ l. TakesFewFor (room_with_next c.args.self.now) (room_with_next c.make_file.new.self) (Update l change) c.args.need.keys c.args.need.bytes) (sym c.in-File.is) (few c.args.need.keys)) c.make_file.ensures.few
