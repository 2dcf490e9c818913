use Rattle.std.proofs.Common.{ap, sym, subst, ◌∙◌}
use Rattle.py_tree.specs.declared.stmt.Form.{Form}
use Rattle.py_tree.specs.Erasure.{expr_of, form_of, suite_of, target_of}
use Rattle.py_tree.proofs.StmtTrees.{for_tree}
use Rattle.py_value.specs.Contents.{contents}
use Rattle.py_model.specs.Statements.{turned}
use Rattle.flow_frames.specs.Held.{IsHeldStage}
use Rattle.flow_frames.specs.Machine.{Part as Part-seen, open_act}
use Rattle.flow_frames.specs.Seen.{end_seen, part_seen}
use Rattle.flow_frames.specs.declared.control.Part.{Part}
use Rattle.flow_openings.proofs.Followings.{turns_again}
use Rattle.flow_suites.proofs.ending.turn_ended.Goals as goal

pub returns-in-For-clause-means : goal.returns-in-For-clause-means
returns-in-For-clause-means c = λ script next here table.
    c.looped.ensures.means script next here table
    ∙ ap (λ (p : Part-seen). turned (open_act script next here p.at p.form p.stage) (end_seen table c.args.end)) (ap (part_seen table) c.to.ensures)
    ∙ turns_again script next here c.args.part.stmt.now.pos (form_of c.args.part.stmt.now.form.value) (target_of c.in-For.field-0) (expr_of c.in-For.field-1) (suite_of c.in-For.field-2)
    (contents table c.args.items) (contents table c.args.size) c.args.number c.in_ok-after.after (end_seen table c.args.end) c.in_ok-after.ensures
    (ap form_of (sym {A = Form} c.deref.ensures ∙ c.in-For.is) ∙ for_tree c.in-For.field-0 c.in-For.field-1 c.in-For.field-2)

pub returns-in-For-clause-held : goal.returns-in-For-clause-held
returns-in-For-clause-held c = λ table scope items size end. c.looped.ensures.held table scope (subst (λ (p : Part). IsHeldStage table p.stage) (sym c.to.ensures) (items, size)) end
