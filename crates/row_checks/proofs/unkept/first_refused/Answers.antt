use Rattle.std.proofs.Common.{◌≡◌, true, false, take, slice_get, Some, subst, sym, ap, ◌∙◌, arith, rules}
use Rattle.std.proofs.lemmas.Option.{slice_get-get_or}
use Rattle.row_checks.specs.Going.{Goes, put_behind, passed}
use Rattle.row_checks.specs.KeptRows.{MayStand, IsFirstUnkept, earlier_in}
use Rattle.row_checks.proofs.KeptFronts.{is_first, one_kept, all_kept}
use Rattle.row_checks.proofs.RowSteps.{earlier_more, front_more}
use Rattle.row_checks.proofs.unkept.first_refused.Goals as goal

pub returns-then-not-branch : goal.returns-then-not-branch
returns-then-not-branch c =
    let statements = c.args.seen.now.counts.statements in
    let rows = c.args.rows.now in
    let i = c.loop-i.i in
    let row = c.index-rows-i.result in
    let at : slice_get rows i ≡ Some row = slice_get-get_or rows i row (omega (arith, c.loop-i-test.true)) ∙ ap Some (sym c.index-rows-i.is) in
    let goes : Goes c.loop-i.seen row c.goes_on.new.self false = subst (Goes c.loop-i.seen row c.goes_on.new.self) c.if-not-branch.true c.in_ok-goes_on.ensures in
    let same : i ≡ c.in-Ok.number = search rules in
    subst (IsFirstUnkept statements rows) same
    (is_first statements rows i row c.loop-i.invariant.2 at (λ may. goes (subst (λ e. MayStand e row) (sym c.loop-i.invariant.1) may)))

pub loop-i-preserved : goal.loop-i-preserved
loop-i-preserved c =
    let statements = c.args.seen.now.counts.statements in
    let rows = c.args.rows.now in
    let i = c.loop-i.i in
    let row = c.index-rows-i.result in
    let at : slice_get rows i ≡ Some row = slice_get-get_or rows i row (omega (arith, c.loop-i-test.true)) ∙ ap Some (sym c.index-rows-i.is) in
    let goes : Goes c.loop-i.seen row c.goes_on.new.self true = subst (Goes c.loop-i.seen row c.goes_on.new.self) c.if-not-branch.false c.in_ok-goes_on.ensures in
    let before = take i rows in (
      goes.2,
      goes.1 ∙ ap (λ e. put_behind row (passed row e)) c.loop-i.invariant.1 ∙ sym (earlier_more statements before row) ∙ ap (earlier_in statements) (sym (front_more rows i row at)),
      one_kept statements rows i row c.loop-i.invariant.2 at (subst (λ e. MayStand e row) c.loop-i.invariant.1 goes.0),
    )

pub returns : goal.returns
returns c =
    let statements = c.args.seen.now.counts.statements in
    let rows = c.args.rows.now in
    all_kept statements rows c.loop-i.i (omega (arith, c.loop-i-test.false)) c.loop-i.invariant.2
