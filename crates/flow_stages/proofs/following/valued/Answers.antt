use Rattle.std.proofs.Common.{[], ◌∷◌, refl, ap, ◌∙◌, sym}
use Rattle.py_tree.specs.declared.stmt.Form.{Form}
use Rattle.std.specs.Option.{option_map}
use Rattle.py_tree.specs.Erasure.{expr_of, form_of, suite_of}
use Rattle.py_tree.specs.Tree.{class_form}
use Rattle.py_tree.proofs.StmtTrees.{class_tree}
use Rattle.py_value.specs.Contents.{class, contents}
use Rattle.py_model.specs.Expressions.{doing}
use Rattle.interp_eval.specs.Machine.{a_name}
use Rattle.flow_frames.specs.Machine.{entered, flow_op, now_act, valued_act}
use Rattle.flow_frames.specs.Seen.{now_seen, part_seen}
use Rattle.flow_frames.proofs.Starting.{if_more}
use Rattle.flow_openings.proofs.Followings.{follows_as}
use Rattle.flow_stages.proofs.following.valued.Goals as goal

pub returns-in-Class-clause-means : goal.returns-in-Class-clause-means
returns-in-Class-clause-means c = if_more c.on_one-in-Class.result _ _ (λ now means. λ script next here table.
    follows_as script next here (now_act script next here (now_seen table now)) (doing here c.args.part.stmt.now.pos (flow_op here 43 (a_name c.in-Class.name) (class c.args.part.stmt.now.pos)) (contents table c.args.value ∷ []))
    (λ f. valued_act script next here c.args.part.stmt.now.pos f (contents table c.args.value))
    (part_seen table c.to-entered.result) c.args.part.stmt.now.pos (form_of c.args.part.stmt.now.form.value) (class_form c.in-Class.name (option_map expr_of c.in-Class.field-1) (suite_of c.in-Class.field-2)) entered
    (ap (part_seen table) c.to-entered.ensures) (ap form_of (sym {A = Form} c.deref.ensures ∙ c.in-Class.is) ∙ class_tree c.in-Class.name c.in-Class.field-1 c.in-Class.field-2) refl (means script next here table)) c.on_one-in-Class.ensures.means
