use Rattle.op_lists.proofs.Building.{all_of, built}
use Rattle.op_lists.proofs.Pairing.{numbers_left}
use Rattle.op_lists.specs.ValuesSeen.{values_seen}
use Rattle.op_work.specs.Turns.{Turns}
use Rattle.py_model.specs.Lists.{numbered}
use Rattle.py_value.specs.Values.{AreNamed}
use Rattle.op_lists.proofs.pairs.numbered.Given as goal

abbrev pub invariant-loop-i : goal.invariant-loop-i
invariant-loop-i l = Turns (all_of (λ table. numbered 0 (values_seen table l.fn.items))) (built l.made.items (numbers_left l.fn.items l.i)) l.initial.work l.work
    × AreNamed l.work.values l.made.items
