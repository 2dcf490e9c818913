use Rattle.std.proofs.Common.{◌≡◌, ap, sym, subst, ◌∙◌, take, reverse, slice_get, Some, arith}
use Rattle.std.proofs.lemmas.List.{take_all}
use Rattle.std.proofs.lemmas.Option.{slice_get-get_or}
use Rattle.row_moments.specs.Moments.{moments_by}
use Rattle.feedings.specs.Marks.{flag_at}
use Rattle.feedings.specs.Sweeps.{HasMarked}
use Rattle.feedings.proofs.ForwardStep.{none_marked, effects_are}
use Rattle.feedings.proofs.RowTelling.{told_after, row_later}
use Rattle.feedings.proofs.forward.effects_by.Goals as goal

pub loop-row-init : goal.loop-row-init
loop-row-init c = λ view script interned names fed_is.
    none_marked view script c.args.time c.new-marks.result.items c.new-tainted.result.entries c.new-marks.ensures.items (λ l. ap (λ entries. flag_at entries l) c.new-tainted.ensures.empty)

pub loop-row-preserved : goal.loop-row-preserved
loop-row-preserved c = λ view script interned names fed_is.
    let rows = c.args.rows.now in
    let i = c.loop-row.row-index in
    let row = c.row-item.result in
    let at : slice_get rows i ≡ Some row = slice_get-get_or rows i row c.loop-row-test.true ∙ ap Some (sym c.row-item.is) in
    let told = moments_by view (reverse (take i rows)) in
    subst (λ some. HasMarked view script c.args.time some c.pass_row.new.marks.items c.pass_row.new.tainted.entries) (sym (told_after view rows i row at))
    (c.in_ok-pass_row.ensures view script (moments_by view (reverse rows)) told interned (names i row at) (row_later view rows i row at) fed_is
    (c.loop-row.invariant view script interned names fed_is))

pub returns : goal.returns
returns c = λ view script interned names fed_is within.
    let rows = c.args.rows.now in
    let marks = c.loop-row.marks.items in
    let entries = c.loop-row.tainted.entries in
    effects_are view script c.args.time (moments_by view (reverse rows)) marks entries c.clear_mark.new.marks.items
    (subst (λ some. HasMarked view script c.args.time (moments_by view (reverse some)) marks entries) (take_all c.loop-row.row-index rows (omega (arith, c.loop-row-test.false)))
    (c.loop-row.invariant view script interned names fed_is)) within c.clear_mark.ensures
