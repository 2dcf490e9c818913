use Rattle.op_lists.proofs.Building.{all_of, built}
use Rattle.op_lists.proofs.Pairing.{pairs_left}
use Rattle.op_lists.specs.ValuesSeen.{values_seen}
use Rattle.op_work.specs.Turns.{Turns}
use Rattle.py_model.specs.Dicts.{paired}
use Rattle.py_value.specs.Values.{AreNamed}
use Rattle.op_lists.proofs.pairs.pair_up.Given as goal

abbrev pub invariant-loop-i : goal.invariant-loop-i
invariant-loop-i l = Turns (all_of (λ table. paired (values_seen table l.lefts) (values_seen table l.rights))) (built l.items.items (pairs_left l.lefts l.rights l.i)) l.initial.work l.work
    × AreNamed l.work.values l.items.items
