use Rattle.std.proofs.Common.{◌≡◌, ◌-◌}
use Rattle.py_model.specs.Classes.{derives as model_derives}
use Rattle.op_classes.proofs.chains.derives.Given as goal

abbrev pub invariant-loop-i : goal.invariant-loop-i
invariant-loop-i l = model_derives 19 l.number l.from ≡ model_derives (19 - l.i) l.at l.from
