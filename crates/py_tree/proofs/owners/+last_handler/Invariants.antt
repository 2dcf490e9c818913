use Rattle.std.proofs.Common.{length}
use Rattle.py_tree.proofs.owners.+last_handler.Given as goal

abbrev pub decreases-last_handler : goal.decreases-last_handler
decreases-last_handler l = length l.items.now
