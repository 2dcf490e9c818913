use Rattle.py_tree.proofs.DeletionWalks.{empty_tells}
use Rattle.py_tree.proofs.deletion.is_empty.Goals as goal

pub returns : goal.returns
returns c = empty_tells _ _ _ c.as_slice.ensures.value c.is_empty.ensures
