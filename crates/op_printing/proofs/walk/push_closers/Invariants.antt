use Rattle.op_printing.specs.Forms.{closed}
use Rattle.op_pieces.specs.Pieces.{Adds}
use Rattle.op_printing.proofs.walk.push_closers.Given as goal

abbrev pub invariant-loop : goal.invariant-loop
invariant-loop l = Adds l.fn.out.items l.out.items (closed l.counter)
