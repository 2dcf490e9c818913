use Rattle.std.proofs.Common.{Some, sym, ap, ◌∙◌, arith, rules}
use Rattle.std.proofs.lemmas.Option.{slice_get-get_or, slice_get_within}
use Rattle.object_store.specs.Room.{IsNamedAccess}
use Rattle.store_cases.proofs.UpTo.{up_to}
use Rattle.store_cases.proofs.table.are_named.Goals as goal

pub loop-access-preserved : goal.loop-access-preserved
loop-access-preserved c = λ values below.
    let at = slice_get-get_or c.args.plan.now c.loop-access.access-index c.access-item.result c.loop-access-test.true ∙ ap Some (sym c.access-item.is) in
    up_to (IsNamedAccess values) c.args.plan.now c.loop-access.access-index c.access-item.result at (c.is_named.ensures values below (search rules)) (c.loop-access.invariant values below)

pub returns : goal.returns
returns c = λ values below is k access at. c.loop-access.invariant values below k access (let within = slice_get_within c.args.plan.now k access at in omega (arith, within)) at
