-- What an augmented assignment changes, read on the pure tree; and how it begins.
use Rattle.std.specs.Prelude.{Option, Some, None}
use Rattle.py_tree.specs.Erasure.{expr_of, target_of}
use Rattle.py_tree.specs.Tree.{ScriptTree}
use Rattle.py_model.specs.Act.{Act, ret, normal}
use Rattle.py_model.specs.Expressions.{Here, Task}
use Rattle.py_model.specs.Statements.{augment}
use Rattle.flow_frames.specs.Machine.{Change, change}
use Rattle.flow_targets.specs.declared.changing.Change.{Change as ChangeRefs}

abbrev pub change_seen : ChangeRefs → Change
change_seen c = change (target_of c.target.now) c.sign c.place (expr_of c.right.now)

abbrev pub augmenting : ScriptTree → (Task → Act) → Here → Option Change → Act
augmenting script next here None = ret normal
augmenting script next here (Some c) = augment script next here c.target c.sign c.place c.right
