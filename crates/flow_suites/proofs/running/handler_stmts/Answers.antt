use Rattle.std.proofs.Common.{ap, sym, ◌∙◌}
use Rattle.std.specs.Option.{option_map}
use Rattle.py_tree.proofs.StmtTrees.{suite_tree}
use Rattle.py_model.specs.Statements.{suite}
use Rattle.flow_frames.specs.Machine.{handled_act}
use Rattle.flow_frames.specs.Seen.{stmts_seen}
use Rattle.flow_openings.specs.Handlers.{handler_seen}
use Rattle.flow_suites.proofs.running.handler_stmts.Goals as goal

pub returns-in-Some : goal.returns-in-Some
returns-in-Some c = λ script next here.
    ap (suite script next here) (ap stmts_seen c.as_slice.ensures.value ∙ sym (suite_tree c.in-Some.handler.now.2))
    ∙ ap (handled_act script next here) (sym (ap (option_map (λ h. handler_seen h.now)) c.in-Some.is) ∙ c.handler_in.ensures)
