use Rattle.std.proofs.Common.{false, ℕ, List, ◌++◌, codes, map}
use Rattle.op_work.specs.Turns.{Turns}
use Rattle.py_model.specs.Plan.{Plan}
use Rattle.py_model.specs.Printing.{printed, printed_all, between}
use Rattle.py_value.specs.Contents.{contents}
use Rattle.op_pieces.specs.Pieces.{pieces_bytes, ArePieces}
use Rattle.op_printing.proofs.Lines.{line_left}
use Rattle.op_printing.proofs.operations.print_all.Given as goal

abbrev pub invariant-loop-i : goal.invariant-loop-i
invariant-loop-i l =
    Turns (λ table (go : List ℕ → Plan). printed_all (map (contents table) l.values) (λ texts. go (pieces_bytes table l.fn.out.items ++ between (codes " ") texts)))
    (λ table. line_left (printed false) (contents table) l.values l.i (pieces_bytes table l.out.items)) l.initial.work l.work
    × ArePieces l.work.values l.out.items
