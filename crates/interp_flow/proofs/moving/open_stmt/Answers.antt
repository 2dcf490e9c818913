use Rattle.std.proofs.Common.{map, refl, ap, sym, ◌∙◌}
use Rattle.py_tree.specs.Erasure.{form_of, stmt_of}
use Rattle.py_tree.proofs.StmtTrees.{stmt_tree}
use Rattle.py_model.specs.Act.{begin}
use Rattle.py_model.specs.Statements.{on_line}
use Rattle.flow_frames.specs.Machine.{now_act}
use Rattle.flow_frames.specs.Seen.{frame_seen, here_seen, now_seen, stmts_seen}
use Rattle.flow_frames.proofs.Flows.{stmt_opened}
use Rattle.flow_openings.proofs.Tests.{on_more}
use Rattle.interp_flow.proofs.moving.open_stmt.Goals as goal

pub returns-clause-means : goal.returns-clause-means
returns-clause-means c = on_more c.push.result _ _ (λ means. λ script next table.
    stmt_opened script next (here_seen script table c.args.frames.now.spot) c.args.stmt.now.no c.args.stmt.now.pos c.args.stmt.now.span (form_of c.args.stmt.now.form.value) (stmts_seen c.args.rest.now)
    (map (frame_seen script table) c.args.frames.now.below.items) (stmt_of c.args.stmt.now)
    (now_act script next (on_line c.args.stmt.now.pos.line (here_seen script table c.args.frames.now.spot)) (now_seen table c.in_ok-now.now))
    (stmt_tree c.args.stmt.now)
    (c.in_ok-now.ensures.means script next (on_line c.args.stmt.now.pos.line (here_seen script table c.args.frames.now.spot)) table (record { handled_is = refl; class_is = refl }))
    ∙ ap (begin c.args.stmt.now.no) (sym (means script next table))) c.push.ensures.means

pub returns-clause-held : goal.returns-clause-held
returns-clause-held c = on_more c.push.result _ _ (λ held. λ table old. held table old tt old.spot (c.in_ok-now.ensures.held table old.spot)) c.push.ensures.held
