use Rattle.std.proofs.Common.{length}
use Rattle.py_tree.proofs.owners.+last_branch.Given as goal

abbrev pub decreases-last_branch : goal.decreases-last_branch
decreases-last_branch l = length l.items.now
