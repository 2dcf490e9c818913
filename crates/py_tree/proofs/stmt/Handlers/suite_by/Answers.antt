use Rattle.py_tree.proofs.OwnersHalves.{handlers_found}
use Rattle.py_tree.proofs.stmt.Handlers.suite_by.Goals as goal

pub returns : goal.returns
returns c = handlers_found c.args.s c.args.self.now _ _ c.as_slice.ensures.value c.last_handler.ensures
