use Rattle.py_tree.proofs.OwnersFinds.{owner_number}
use Rattle.py_tree.proofs.stmt.Script.parent_of.Goals as goal

pub returns : goal.returns
returns c = owner_number c.in_ok-find.field-0 c.in_ok-owner.owner _ c.in_ok-find.ensures c.in_ok-owner.was
