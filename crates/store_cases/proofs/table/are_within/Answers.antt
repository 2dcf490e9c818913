use Rattle.std.proofs.Common.{Some, sym, ap, ◌∙◌, arith, rules}
use Rattle.std.proofs.lemmas.Option.{slice_get-get_or, slice_get_within}
use Rattle.object_store.specs.Room.{IsAccessWithin}
use Rattle.store_cases.proofs.UpTo.{up_to}
use Rattle.store_cases.proofs.table.are_within.Goals as goal

pub loop-access-preserved : goal.loop-access-preserved
loop-access-preserved c =
    let at = slice_get-get_or c.args.plan.now c.loop-access.access-index c.access-item.result c.loop-access-test.true ∙ ap Some (sym c.access-item.is) in
    up_to (IsAccessWithin c.args.count) c.args.plan.now c.loop-access.access-index c.access-item.result at (search rules) c.loop-access.invariant

pub returns : goal.returns
returns c = λ is k access at. c.loop-access.invariant k access (let within = slice_get_within c.args.plan.now k access at in omega (arith, within)) at
