use Rattle.std.proofs.Common.{◌∙◌, ap, sym, subst}
use Rattle.py_tree.specs.Erasure.{script_of}
use Rattle.row_checks.specs.KeptRows.{view_in}
use Rattle.row_moments.specs.Moments.{moments_in}
use Rattle.feedings.specs.Sites.{AreFed, sites}
use Rattle.feedings.specs.Marks.{mark_at}
use Rattle.feedings.proofs.AnswerLaws.{time_within, found_fed}
use Rattle.feedings.proofs.answers.feeding_sites.Goals as goal

pub returns : goal.returns
returns c =
    let view = view_in c.args.rows.now in
    let script = script_of c.args.script.now in
    let told = moments_in c.args.rows.now in
    let time = c.in-Some.time in
    let is_time = c.in-Some.ensures view in
    let marks = c.in_ok-marks.marks.items in
    let listed = c.in_ok-list.ensures view ∙ ap (λ these. sites (mark_at these) told) c.as_slice.ensures.value in
    subst (AreFed c.args.way script c.args.at c.args.k told) (sym c.of.ensures)
    (found_fed script c.args.at c.args.k told time is_time marks c.in_ok-list.list.items listed c.args.way
    (c.in_ok-marks.ensures view script c.requires.interned c.requires.named c.in_ok-fed.ensures (time_within c.args.at c.args.k told time is_time)))
