-- Behind a piece that was taken, reading may go on.
use Rattle.std.proofs.Common.{ℕ, ◌≤◌, List, arith, length, ap, ◌∙◌}
use Rattle.py_lines.specs.Grouping.{with_piece}
use Rattle.py_lines.proofs.Counts.{ready_behind}
use Rattle.py_lines.proofs.scan.Reader.read.Goals as goal

pub follow-requires-in-Breaks-clause-ready : goal.follow-requires-in-Breaks-clause-ready
follow-requires-in-Breaks-clause-ready c =
    let within : c.args.at ≤ length c.args.text.now = omega arith in
    ready_behind c.args.text.now c.args.at c.args.self.now c.in-Breaks.kind c.take.new.self c.requires.ready within
    (c.in_ok-take-in-Breaks.ensures.1 ∙ ap (λ (piece : List ℕ). with_piece c.args.self.now.grouping c.in-Breaks.kind piece) c.begun-begun.ensures)
