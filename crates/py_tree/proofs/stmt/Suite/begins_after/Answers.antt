use Rattle.py_tree.proofs.OwnersHalves.{after_none, after_some}
use Rattle.py_tree.proofs.stmt.Suite.begins_after.Goals as goal

pub returns-in-None : goal.returns-in-None
returns-in-None c = after_none _ _ _ c.in-None.ensures.value c.deref.ensures.value

pub returns-in-Some : goal.returns-in-Some
returns-in-Some c = after_some _ _ _ _ c.in-Some.ensures.value c.deref.ensures.value
