use Rattle.std.proofs.Common.{[], None, refl, ap, ◌∙◌, sym}
use Rattle.py_tree.specs.declared.stmt.Form.{Form}
use Rattle.std.specs.Option.{option_map}
use Rattle.py_tree.specs.Erasure.{expr_of, form_of, suite_of, target_of}
use Rattle.py_tree.specs.Tree.{assert_form, class_form}
use Rattle.py_tree.proofs.StmtTrees.{aug_tree, del_tree, assert_tree, class_tree}
use Rattle.py_value.specs.Contents.{class}
use Rattle.py_model.specs.Expressions.{doing, eval}
use Rattle.interp_eval.specs.Machine.{a_name}
use Rattle.flow_frames.specs.Machine.{entered, flow_op, now_act, tested}
use Rattle.flow_frames.specs.Seen.{now_seen, part_seen}
use Rattle.flow_frames.proofs.Starting.{if_more}
use Rattle.flow_openings.specs.Opening.{plain_rule}
use Rattle.flow_openings.proofs.Followings.{changes_so, follows_as, deletes_so}
use Rattle.flow_openings.proofs.opening.plainly.Goals as goal

pub returns-in-Del-clause-means : goal.returns-in-Del-clause-means
returns-in-Del-clause-means c = if_more c.deleted.result _ _ (λ now means. λ script next here table stands.
    means script next here table
    ∙ deletes_so script next here c.args.stmt.now.pos (form_of c.args.stmt.now.form.value) (target_of c.in-Del.target) (ap form_of (sym {A = Form} c.deref.ensures ∙ c.in-Del.is) ∙ del_tree c.in-Del.target)) c.deleted.ensures.means

pub returns-in-Assert-clause-means : goal.returns-in-Assert-clause-means
returns-in-Assert-clause-means c = if_more c.start.result _ _ (λ now means. λ script next here table stands.
    follows_as script next here (now_act script next here (now_seen table now)) (eval script next here (expr_of c.in-Assert.test)) (plain_rule script next here c.args.stmt.now.pos)
    (part_seen table c.to.result) c.args.stmt.now.pos (form_of c.args.stmt.now.form.value) (assert_form (expr_of c.in-Assert.test) (option_map expr_of c.in-Assert.field-1)) (tested 0)
    (ap (part_seen table) c.to.ensures) (ap form_of (sym {A = Form} c.deref.ensures ∙ c.in-Assert.is) ∙ assert_tree c.in-Assert.test c.in-Assert.field-1) refl (means script next here table)) c.start.ensures.means

pub returns-in-None-base-clause-means : goal.returns-in-None-base-clause-means
returns-in-None-base-clause-means c = if_more c.on_none-in-None-base.result _ _ (λ now means. λ script next here table stands.
    follows_as script next here (now_act script next here (now_seen table now)) (doing here c.args.stmt.now.pos (flow_op here 43 (a_name c.in-Class.name) (class c.args.stmt.now.pos)) []) (plain_rule script next here c.args.stmt.now.pos)
    (part_seen table c.to-in-None-base.result) c.args.stmt.now.pos (form_of c.args.stmt.now.form.value) (class_form c.in-Class.name None (suite_of c.in-Class.field-2)) entered
    (ap (part_seen table) c.to-in-None-base.ensures)
    (ap form_of (sym {A = Form} c.deref.ensures ∙ c.in-Class.is) ∙ class_tree c.in-Class.name c.in-Class.base c.in-Class.field-2 ∙ ap (λ b. class_form c.in-Class.name (option_map expr_of b) (suite_of c.in-Class.field-2)) c.in-None-base.is)
    refl (means script next here table)) c.on_none-in-None-base.ensures.means

pub returns-in-Aug-clause-means : goal.returns-in-Aug-clause-means
returns-in-Aug-clause-means c = if_more c.augmented.result _ _ (λ now means. λ script next here table stands.
    means script next here table
    ∙ changes_so script next here c.args.stmt.now.pos (form_of c.args.stmt.now.form.value) (target_of c.in-Aug.field-0) c.in-Aug.field-1 c.in-Aug.field-2 (expr_of c.in-Aug.field-3)
    (ap form_of (sym {A = Form} c.deref.ensures ∙ c.in-Aug.is) ∙ aug_tree c.in-Aug.field-0 c.in-Aug.field-1 c.in-Aug.field-2 c.in-Aug.field-3)) c.augmented.ensures.means
