-- What holds of the tree of every script.
use Rattle.std.specs.Prelude.{IsTrue}
use Rattle.py_tree.specs.Tree.{ScriptTree}
use Rattle.py_tree.specs.Numbering.{IsNumbered}
use Rattle.py_tree.specs.Places.{suite_places, suite_starts, are_ascending, are_distinct, body_nests}

-- The statements are numbered from 0 in the order of the text, and their places ascend. No two nodes stand at one place.
-- The bytes of each statement are among those of the statement whose suite it is in.
pub record IsWellFormed (script : ScriptTree) : Type 0 where
  pub numbered : IsNumbered script
  pub ascending : IsTrue (are_ascending (suite_starts script.body))
  pub apart : IsTrue (are_distinct (suite_places script.body))
  pub nested : IsTrue (body_nests script.body)
