use Rattle.std.proofs.Common.{◌-◌}
use Rattle.py_model.specs.Classes.{longest_chain, class_walk as plan_class_walk}
use Rattle.py_value.specs.Contents.{contents}
use Rattle.op_work.specs.Turns.{Turns}
use Rattle.op_classes.proofs.chains.class_walk.Given as goal

abbrev pub invariant-loop-i : goal.invariant-loop-i
invariant-loop-i l = Turns (λ table. plan_class_walk longest_chain (contents table l.sought) (contents table l.fn.of))
    (λ table. plan_class_walk (longest_chain - l.i) (contents table l.sought) (contents table l.at)) l.initial.work l.work
