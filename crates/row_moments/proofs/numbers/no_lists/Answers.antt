use Rattle.std.proofs.Common.{◌∷◌, ◌++◌, [], length, ap, ◌∙◌, arith}
use Rattle.row_moments.specs.IndexKnows.{list_at}
use Rattle.row_moments.proofs.IndexSteps.{longer, none_behind}
use Rattle.row_moments.proofs.numbers.no_lists.Goals as goal

pub fill-preserved : goal.fill-preserved
fill-preserved c =
    let items = c.in_ok-push.ensures.items ∙ ap (λ list. c.fill.lists.items ++ list ∷ []) c.nothing.ensures in
    let many = c.fill.invariant.0 in (
      omega (arith, ap length items ∙ longer c.fill.lists.items [], many),
      λ i. ap (λ lists. list_at lists i) items ∙ none_behind c.fill.lists.items c.fill.invariant.1 i,
    )

pub returns-clause-many : goal.returns-clause-many
returns-clause-many c = let many = c.fill.invariant.0 in omega (arith, many, c.fill-test.false, c.fill.auto.counter-end)

pub returns-clause-each : goal.returns-clause-each
returns-clause-each c = c.fill.invariant.1
