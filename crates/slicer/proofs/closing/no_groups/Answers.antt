use Rattle.std.proofs.Common.{◌∷◌, ◌++◌, [], length, ap, ◌∙◌, arith}
use Rattle.slicer.specs.Following.{group_at}
use Rattle.slicer.proofs.Following.{longer, none_behind}
use Rattle.slicer.proofs.closing.no_groups.Goals as goal

pub fill-preserved : goal.fill-preserved
fill-preserved c =
    let items = c.in_ok-push.ensures.items ∙ ap (λ group. c.fill.groups.items ++ group ∷ []) c.nothing.ensures in
    let many = c.fill.invariant.0 in (
      omega (arith, ap length items ∙ longer c.fill.groups.items [], many),
      λ s. ap (λ groups. group_at groups s) items ∙ none_behind c.fill.groups.items c.fill.invariant.1 s,
    )

pub returns-clause-many : goal.returns-clause-many
returns-clause-many c = let many = c.fill.invariant.0 in omega (arith, many, c.fill-test.false, c.fill.auto.counter-end)

pub returns-clause-each : goal.returns-clause-each
returns-clause-each c = c.fill.invariant.1
