use Rattle.object_store.proofs.Sparing.{few_file, on_all, on_more}
use Rattle.object_store.proofs.store.Store.make_file.Goals as goal

pub returns-clause-few : goal.returns-clause-few
returns-clause-few c = on_more c.make_bytes.result (Unit {0}) _ (λ done. λ keys.
    few_file c.args.self.now c.make_slot.new.self c.make_bytes.new.self c.args.path c.args.bytes keys c.make_slot.ensures.same c.make_bytes.ensures.same c.make_slot.ensures.files c.make_bytes.ensures.files
    c.make_slot.ensures.few c.make_bytes.ensures.few) (on_all c.make_bytes.result)
