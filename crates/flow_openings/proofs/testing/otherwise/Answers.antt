use Rattle.std.proofs.Common.{ap, sym, ◌∙◌}
use Rattle.std.specs.Option.{option_map}
use Rattle.py_tree.specs.Erasure.{else_tree, suite_of}
use Rattle.py_tree.proofs.StmtTrees.{suite_tree}
use Rattle.py_model.specs.Statements.{suite, otherwise}
use Rattle.flow_frames.specs.Seen.{stmts_seen}
use Rattle.flow_openings.proofs.testing.otherwise.Goals as goal

pub returns-in-Some-clause-means : goal.returns-in-Some-clause-means
returns-in-Some-clause-means c = λ script next here table.
    ap (suite script next here) (ap stmts_seen c.as_slice.ensures.value ∙ sym (suite_tree c.in-Some.suite))
    ∙ ap (λ o. otherwise script next here (else_tree (option_map suite_of o))) (sym c.in-Some.is)
