use Rattle.std.proofs.Common.{◌≡◌, ◌+◌, suc, length, subst, arith}
use Rattle.row_moments.specs.IndexKnows.{KnowsRows}
use Rattle.row_moments.proofs.IndexSteps.{item_at, index_is}
use Rattle.row_moments.proofs.index.Index.new.Goals as goal

pub loop-row-preserved : goal.loop-row-preserved
loop-row-preserved c =
    let rows = c.args.rows.now in
    let i = c.loop-row.row-index in
    let after : suc i ≡ i + 1 = omega arith in
    subst (λ n. KnowsRows c.args.script.now.count rows n c.pass.new.self c.pass.new.places) after
    (c.in_ok-pass.ensures c.args.script.now.count i rows (item_at rows i c.row-item.result c.loop-row-test.true c.row-item.is) c.loop-row.invariant)

pub returns : goal.returns
returns c =
    let rows = c.args.rows.now in
    let behind : c.loop-row.row-index ≡ length rows = omega (arith, c.loop-row-test.false, c.loop-row.auto.row-index-end) in
    index_is c.args.script.now.count rows c.loop-row.index c.loop-row.places
    (subst (λ n. KnowsRows c.args.script.now.count rows n c.loop-row.index c.loop-row.places) behind c.loop-row.invariant)
