-- No public clause cites this file.
-- What a list of statements is after one was put behind it.
use Rattle.std.specs.Prelude.{◌≡◌, List, [], ◌∷◌, ◌++◌}
use Rattle.py_tree.specs.declared.stmt.Stmt.{Stmt}
use Rattle.py_tree.specs.Erasure.{stmt_of}
use Rattle.py_tree.specs.Tree.{StmtTree}

-- one statement more, with this tree
pub record IsAdded (old new : List Stmt) (tree : StmtTree) : Type 0 where
  pub last : Stmt
  pub new_is : new ≡ old ++ last ∷ []
  pub tree_is : stmt_of last ≡ tree
