use Rattle.std.proofs.Common.{[], ◌∷◌, map, subst}
use Rattle.slicer.specs.Walk.{Grows}
use Rattle.slicer.proofs.WalkLaws.{first_walked}
use Rattle.slicer.proofs.walk.reached.Goals as goal

pub returns : goal.returns
returns c = λ view interned same. c.in_ok-walk.ensures view c.args.children.now c.args.value interned same c.in_ok-groups.ensures
    (first_walked view interned (map (λ k. k.now) c.args.tuples.now) same c.args.children.now c.in_ok-groups.groups.entries c.in_ok-groups.ensures c.args.value c.find.new.found.keys
    (subst (λ keys. Grows keys (c.args.value ∷ []) c.find.new.found.keys) c.new-found.ensures.empty c.in_ok-find.ensures))
