use Rattle.std.proofs.Common.{[], ◌∷◌, ap, sym, subst, ◌∙◌}
use Rattle.py_tree.specs.declared.stmt.Form.{Form}
use Rattle.py_tree.specs.Erasure.{expr_of, form_of, suite_of, target_of}
use Rattle.py_tree.specs.Tree.{for_form}
use Rattle.py_tree.proofs.StmtTrees.{for_tree}
use Rattle.py_value.specs.Contents.{contents, nothing}
use Rattle.py_model.specs.Expressions.{doing}
use Rattle.interp_eval.specs.Machine.{plain}
use Rattle.flow_frames.specs.Held.{IsHeldStage}
use Rattle.flow_frames.specs.declared.control.Part.{Part}
use Rattle.flow_frames.specs.Machine.{flow_op, item, now_act, then_act, turn_act}
use Rattle.flow_frames.specs.Seen.{now_seen, part_seen}
use Rattle.flow_frames.proofs.Starting.{if_more}
use Rattle.flow_openings.proofs.Followings.{follows_as}
use Rattle.flow_suites.proofs.running.turned.Goals as goal

pub returns-in-For-clause-means : goal.returns-in-For-clause-means
returns-in-For-clause-means c = if_more c.on_three.result _ _ (λ now means. λ script next here table.
    follows_as script next here (now_act script next here (now_seen table now)) (doing here c.args.part.stmt.now.pos (flow_op here 37 plain nothing) (contents table c.args.items ∷ contents table c.counted.result ∷ contents table c.args.size ∷ []))
    (λ f. turn_act script next here c.args.part.stmt.now.pos f (contents table c.args.items) c.args.number (contents table c.args.size))
    (part_seen table c.to.result) c.args.part.stmt.now.pos (form_of c.args.part.stmt.now.form.value) (for_form (target_of c.in-For.field-0) (expr_of c.in-For.field-1) (suite_of c.in-For.field-2))
    (item (contents table c.args.items) c.args.number (contents table c.args.size))
    (ap (part_seen table) c.to.ensures) (ap form_of (sym {A = Form} c.deref.ensures ∙ c.in-For.is) ∙ for_tree c.in-For.field-0 c.in-For.field-1 c.in-For.field-2)
    (ap (λ i. doing here c.args.part.stmt.now.pos (flow_op here 37 plain nothing) (contents table c.args.items ∷ i ∷ contents table c.args.size ∷ [])
    (then_act script next here c.args.part.stmt.now.pos (for_form (target_of c.in-For.field-0) (expr_of c.in-For.field-1) (suite_of c.in-For.field-2)) (item (contents table c.args.items) c.args.number (contents table c.args.size)))) (c.counted.ensures.means table))
    (means script next here table)) c.on_three.ensures.means

pub returns-in-For-clause-held : goal.returns-in-For-clause-held
returns-in-For-clause-held c = if_more c.on_three.result _ _ (λ now held. λ table scope items size.
    held table scope items (c.counted.ensures.named table) size (subst (λ (p : Part). IsHeldStage table p.stage) (sym c.to.ensures) (items, size))) c.on_three.ensures.held
