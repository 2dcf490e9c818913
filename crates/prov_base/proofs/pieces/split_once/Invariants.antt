use Rattle.std.proofs.Common.{IsTrue, take}
use Rattle.prov_base.specs.Pieces.{is_free}
use Rattle.prov_base.proofs.pieces.split_once.Given as goal

abbrev pub invariant-loop-i : goal.invariant-loop-i
invariant-loop-i l = IsTrue (is_free l.separator (take l.i l.bytes))
