use Rattle.std.proofs.Common.{◌≡◌, ap, sym, subst, ◌∙◌, take, reverse, slice_get, Some, arith}
use Rattle.std.proofs.lemmas.List.{take_all}
use Rattle.std.proofs.lemmas.Option.{slice_get-get_or}
use Rattle.py_model.specs.Store.{opening}
use Rattle.row_moments.specs.Moments.{moments_by}
use Rattle.slicer.proofs.FrontRows.{told_after}
use Rattle.held_rows.specs.Leaves.{HoldsAfter}
use Rattle.held_rows.proofs.front.pass_rows.Goals as goal

pub loop-row-preserved : goal.loop-row-preserved
loop-row-preserved c = λ view path arguments files interned are readable words.
    let rows = c.args.rows.now in
    let i = c.loop-row.row-index in
    let row = c.row-item.result in
    let at : slice_get rows i ≡ Some row = slice_get-get_or rows i row c.loop-row-test.true ∙ ap Some (sym c.row-item.is) in
    let told = moments_by view (reverse (take i rows)) in
    let can = readable i row at in
    subst (HoldsAfter view c.args.forms.now (opening path arguments files) c.pass.new.self) (sym (told_after view rows i row at))
    (c.in_ok-pass.ensures view (opening path arguments files) told interned are can.named can.normal (c.loop-row.invariant view path arguments files interned are readable words))

pub returns : goal.returns
returns c = λ view path arguments files interned are readable words.
    subst (λ rows. HoldsAfter view c.args.forms.now (opening path arguments files) c.loop-row.store (moments_by view (reverse rows)))
    (take_all c.loop-row.row-index c.args.rows.now (omega (arith, c.loop-row-test.false)))
    (c.loop-row.invariant view path arguments files interned are readable words)
