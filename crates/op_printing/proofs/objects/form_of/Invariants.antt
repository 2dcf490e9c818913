use Rattle.std.proofs.Common.{◌-◌, ◌≤◌}
use Rattle.op_printing.specs.Forms.{form_of, form_at}
use Rattle.op_pieces.specs.Pieces.{pieces_bytes, ArePieces}
use Rattle.op_work.specs.Turns.{Turns}
use Rattle.py_model.specs.Classes.{longest_chain}
use Rattle.py_value.specs.Contents.{contents}
use Rattle.py_value.specs.Values.{IsNamed}
use Rattle.op_printing.proofs.objects.form_of.Given as goal

abbrev pub invariant-loop-i : goal.invariant-loop-i
invariant-loop-i l =
    Turns (λ table. form_of l.fn.quoted l.fn.within.items (pieces_bytes table l.fn.out.items) (contents table l.fn.v))
    (λ table. form_at (longest_chain - l.i) l.closers l.literal l.within.items (pieces_bytes table l.out.items) (contents table l.at)) l.initial.work l.work
    × (ArePieces l.work.values l.out.items × (IsNamed l.work.values l.at × (l.closers ≤ l.i)))
