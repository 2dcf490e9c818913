use Rattle.py_tree.proofs.OwnersWays.{begins_none, begins_some}
use Rattle.py_tree.proofs.stmt.Suite.begins_by.Goals as goal

pub returns-in-None : goal.returns-in-None
returns-in-None c = begins_none _ _ _ c.in-None.ensures.value c.deref.ensures.value

pub returns-in-Some : goal.returns-in-Some
returns-in-Some c = begins_some _ _ _ _ c.in-Some.ensures.value c.deref.ensures.value
