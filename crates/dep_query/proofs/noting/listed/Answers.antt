use Rattle.std.proofs.Common.{◌≡◌, sym, subst, rules}
use Rattle.std.specs.List.Sorted.{IsStrictlySortedBy}
use Rattle.dep_query.specs.Dependences.{dependence_cmp}
use Rattle.dep_query.specs.contracts.dependence.DependenceOrd.TheImpl.{ghosts as orders}
use Rattle.dep_query.proofs.Order.{cmp_is}
use Rattle.dep_query.proofs.noting.listed.Goals as goal

pub returns-clause-in_order : goal.returns-clause-in_order
returns-clause-in_order c =
    let all : c.loop-dependence.list.items ≡ c.args.found.now.keys = search rules in
    subst (IsStrictlySortedBy dependence_cmp) (sym all) (subst (λ cmp. IsStrictlySortedBy cmp c.args.found.now.keys) (cmp_is orders.cmp c.order_of_dependences.ensures) c.iter-dependence-items.ensures.ordered)
