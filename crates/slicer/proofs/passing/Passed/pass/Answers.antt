use Rattle.py_tree.specs.Erasure.{script_of}
use Rattle.row_moments.specs.Moments.{told_with}
use Rattle.slice_things.proofs.CountLaws.{on_ok}
use Rattle.slicer.proofs.passing.Passed.pass.Goals as goal

pub returns : goal.returns
returns c = λ view opening told interned are can same knows.
    let script = script_of c.args.script.now in
    let now = told_with view c.args.row.now told in
    let asked = c.in_ok-pass.ensures view told interned can.named same knows.asked in
    let holds = c.in_ok-pass-2.ensures view opening told interned are can.named can.normal knows.holds in
    on_ok c.note_jump.result (c.note_jump.ensures view told (c.owner-innermost.ensures view script told knows.asked) (c.is_open-is_open.ensures view script now asked) knows.jumps)
    (λ jumps. record { asked = asked; holds = holds; jumps = jumps })
