use Rattle.std.proofs.Common.{◌≡◌, ◌||◌, cond, Bool, true, false, List, refl, subst, ◌∙◌}
use Rattle.std.specs.Ordering.{is_eq}
use Rattle.std.specs.List.{list_any}
use Rattle.std.specs.declared.cmp.Ordering.{Ordering}
use Rattle.dep_query.specs.declared.dependence.Dependence.{Dependence}
use Rattle.dep_query.specs.Dependences.{dependence_cmp}
use Rattle.dep_query.specs.contracts.dependence.DependenceOrd.TheImpl.{ghosts as orders}
use Rattle.dep_query.specs.Noting.{is_found}
use Rattle.dep_query.proofs.Order.{cmp_is}
use Rattle.dep_query.proofs.noting.put.Goals as goal

either : (a b : Bool) → cond a true b ≡ (a || b)
either true b = refl
either false b = refl

-- what a tree has once a key is put, by the order that compares
abbrev Puts : List Dependence → List Dependence → Dependence → Dependence → (Dependence → Dependence → Ordering) → Type 0
Puts old new key d cmp = list_any (λ k. is_eq (cmp d k)) new ≡ cond (is_eq (cmp key d)) true (list_any (λ k. is_eq (cmp d k)) old)

pub returns : goal.returns
returns c = λ d.
    subst (Puts c.args.found.now.keys c.insert.new.self.keys c.args.dependence d) (cmp_is orders.cmp c.order_of_dependences.ensures) (c.in_ok-insert.ensures.updates.0 d)
    ∙ either (is_eq (dependence_cmp c.args.dependence d)) (is_found c.args.found.now.keys d)
