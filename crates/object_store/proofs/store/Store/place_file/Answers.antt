use Rattle.object_store.proofs.Planning.{reserved_files}
use Rattle.object_store.proofs.store.Store.place_file.Goals as goal

pub returns-clause-reserved : goal.returns-clause-reserved
returns-clause-reserved c = λ values made plan room. reserved_files values c.args.self.now c.put_file.new.self made plan c.put_file.ensures.same c.put_file.ensures.left room
