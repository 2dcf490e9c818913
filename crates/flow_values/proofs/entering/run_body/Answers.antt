use Rattle.std.proofs.Common.{◌+◌, map, ap, sym, arith, ◌∙◌}
use Rattle.std.specs.Option.{option_map}
use Rattle.py_tree.proofs.StmtTrees.{suite_tree}
use Rattle.py_tree.specs.Erasure.{form_of}
use Rattle.py_value.specs.Contents.{contents}
use Rattle.py_model.specs.Act.{ret, to}
use Rattle.py_model.specs.Expressions.{left_with}
use Rattle.script_names.specs.Finding.{found_function}
use Rattle.interp_eval.specs.Seen.{machine_seen}
use Rattle.flow_frames.specs.Machine.{gives_back, resumes, then_act}
use Rattle.flow_frames.specs.Seen.{frame_seen, here_seen, stage_seen, stmts_seen}
use Rattle.flow_openings.proofs.Tests.{on_more}
use Rattle.flow_values.proofs.Bodies.{body_so}
use Rattle.flow_values.proofs.entering.run_body.Goals as goal

pub returns-clause-means : goal.returns-clause-means
returns-clause-means c = on_more c.push.result _ _ (λ means. λ script next table numbered.
    ap (λ a. to (to a (left_with script next (gives_back script next (here_seen script table c.args.frames.now.spot) (machine_seen table c.args.caller.value.eval)
    (then_act script next (here_seen script table c.args.frames.now.spot) c.args.part.stmt.now.pos (form_of c.args.part.stmt.now.form.value) (stage_seen table c.args.part.stage)) (option_map (contents table) c.args.caller.value.made))))
    (resumes script next (map (frame_seen script table) c.args.frames.now.below.items) (λ how. ret how)))
    (body_so script next table c.args.frames.now.spot (found_function c.args.found) c.args.activation c.args.found.number (c.args.frames.now.spot.open_activations + 1) (stmts_seen c.as_slice.result.now) (omega arith) numbered
    (ap stmts_seen c.as_slice.ensures.value ∙ sym (suite_tree c.args.found.body.now)))
    ∙ sym (means script next table)) c.push.ensures.means

pub returns-clause-held : goal.returns-clause-held
returns-clause-held c = on_more c.push.result _ _ (λ held. λ table old caller stage. held table old (caller, stage) tt tt) c.push.ensures.held
