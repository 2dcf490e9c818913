use Rattle.py_tree.proofs.OwnersHalves.{branches_found}
use Rattle.py_tree.proofs.stmt.Branches.suite_by.Goals as goal

pub returns : goal.returns
returns c = branches_found c.args.s c.args.self.now _ _ c.as_slice.ensures.value c.last_branch.ensures
