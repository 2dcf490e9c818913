use Rattle.std.proofs.Common.{ap, sym, ◌∙◌}
use Rattle.std.specs.Option.{option_map}
use Rattle.py_tree.specs.Erasure.{suite_of}
use Rattle.py_tree.proofs.StmtTrees.{suite_tree}
use Rattle.py_model.specs.Statements.{suite}
use Rattle.flow_frames.specs.Machine.{suite_act}
use Rattle.flow_frames.specs.Seen.{stmts_seen}
use Rattle.flow_suites.proofs.running.stmts_in.Goals as goal

pub returns-in-Some : goal.returns-in-Some
returns-in-Some c = λ script next here.
    ap (suite script next here) (ap stmts_seen c.as_slice.ensures.value ∙ sym (suite_tree c.in-Some.suite.now))
    ∙ ap (suite_act script next here) (sym (ap (option_map (λ s. suite_of s.now)) c.in-Some.is) ∙ c.suite_in.ensures)
