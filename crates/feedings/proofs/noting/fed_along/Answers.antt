use Rattle.std.proofs.Common.{◌≡◌, ap, sym, subst, ◌∙◌, take, reverse, slice_get, Some, arith}
use Rattle.std.proofs.lemmas.List.{take_all}
use Rattle.std.proofs.lemmas.Option.{slice_get-get_or}
use Rattle.row_checks.specs.KeptRows.{view_in}
use Rattle.row_moments.specs.Moments.{moments_by}
use Rattle.feedings.specs.HasNoted.{HasNoted}
use Rattle.feedings.specs.Passing.{all_passed}
use Rattle.feedings.proofs.RowsTold.{told_after}
use Rattle.feedings.proofs.noting.fed_along.Goals as goal

pub loop-row-init : goal.loop-row-init
loop-row-init c = λ script taking places. c.new-noting.ensures script

pub loop-row-preserved : goal.loop-row-preserved
loop-row-preserved c = λ script taking places.
    let rows = c.args.rows.now in
    let i = c.loop-row.row-index in
    let row = c.row-item.result in
    let at : slice_get rows i ≡ Some row = slice_get-get_or rows i row c.loop-row-test.true ∙ ap Some (sym c.row-item.is) in
    let view = view_in rows in
    subst (HasNoted script c.pass.new.self) (sym (told_after view rows i row at))
    (c.in_ok-pass.ensures view script (moments_by view (reverse (take i rows))) taking places (c.loop-row.invariant script taking places))

pub returns : goal.returns
returns c = λ script taking places.
    (c.loop-row.invariant script taking places).fed
    ∙ ap (λ rows. all_passed script (moments_by (view_in c.args.rows.now) (reverse rows))) (take_all c.loop-row.row-index c.args.rows.now (omega (arith, c.loop-row-test.false)))
