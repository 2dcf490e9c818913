use Rattle.std.proofs.Common.{[], ◌∷◌, Some, refl, ap, sym, ◌∙◌}
use Rattle.std.specs.Option.{option_map}
use Rattle.py_tree.specs.Erasure.{expr_of, form_of, target_of, targets_of}
use Rattle.py_tree.proofs.TargetTrees.{field_target_tree, many_target_tree, part_target_tree, var_target_tree}
use Rattle.py_value.specs.Contents.{contents, nothing}
use Rattle.py_model.specs.Act.{ret, normal}
use Rattle.py_model.specs.Expressions.{doing}
use Rattle.interp_eval.specs.Machine.{a_name, a_variable, plain}
use Rattle.py_tree.specs.Tree.{field_target, many_target, part_target, var_target}
use Rattle.flow_frames.specs.Machine.{change, change_in, flow_op, loaded, now_act, slotted_act}
use Rattle.flow_frames.specs.Seen.{now_seen, part_seen}
use Rattle.flow_targets.specs.Changing.{change_seen}
use Rattle.flow_frames.proofs.Starting.{if_more, starts_as}
use Rattle.flow_targets.proofs.Changes.{loads_so}
use Rattle.flow_targets.proofs.changing.slotted.Goals as goal

pub returns-in-Var-clause-means : goal.returns-in-Var-clause-means
returns-in-Var-clause-means c = if_more c.on_none.result _ _ (λ now means. λ script next here table.
    starts_as script next here (now_act script next here (now_seen table now)) (doing here c.in-Var.at (flow_op here 1 (a_variable c.in-Var.name) nothing) ([])) (slotted_act script next here (change_in (form_of c.args.part.stmt.now.form.value)) (contents table c.args.owner) (contents table c.args.index)) (part_seen table c.to-loaded.result) c.args.part.stmt.now.pos (form_of c.args.part.stmt.now.form.value) (loaded (contents table c.args.owner) (contents table c.args.index))
    (ap (part_seen table) c.to-loaded.ensures)
    (loads_so script next here c.args.part.stmt.now.pos (form_of c.args.part.stmt.now.form.value) c.in-Some.change.sign c.in-Some.change.place (expr_of c.in-Some.change.right.now) (doing here c.in-Var.at (flow_op here 1 (a_variable c.in-Var.name) nothing) ([])) (var_target c.in-Var.at c.in-Var.name) (contents table c.args.owner) (contents table c.args.index) (sym c.change_in.ensures ∙ ap (option_map change_seen) c.in-Some.is ∙ ap (λ t. Some (change t c.in-Some.change.sign c.in-Some.change.place (expr_of c.in-Some.change.right.now))) (ap target_of c.in-Var.is ∙ var_target_tree c.in-Var.at c.in-Var.name)) (λ go. refl))
    (means script next here table)) c.on_none.ensures.means

pub returns-in-Part-clause-means : goal.returns-in-Part-clause-means
returns-in-Part-clause-means c = if_more c.on_two.result _ _ (λ now means. λ script next here table.
    starts_as script next here (now_act script next here (now_seen table now)) (doing here c.in-Part.at (flow_op here 26 plain nothing) (contents table c.args.owner ∷ contents table c.args.index ∷ [])) (slotted_act script next here (change_in (form_of c.args.part.stmt.now.form.value)) (contents table c.args.owner) (contents table c.args.index)) (part_seen table c.to-loaded.result) c.args.part.stmt.now.pos (form_of c.args.part.stmt.now.form.value) (loaded (contents table c.args.owner) (contents table c.args.index))
    (ap (part_seen table) c.to-loaded.ensures)
    (loads_so script next here c.args.part.stmt.now.pos (form_of c.args.part.stmt.now.form.value) c.in-Some.change.sign c.in-Some.change.place (expr_of c.in-Some.change.right.now) (doing here c.in-Part.at (flow_op here 26 plain nothing) (contents table c.args.owner ∷ contents table c.args.index ∷ [])) (part_target c.in-Part.at (expr_of c.in-Part.field-1) (expr_of c.in-Part.field-2)) (contents table c.args.owner) (contents table c.args.index) (sym c.change_in.ensures ∙ ap (option_map change_seen) c.in-Some.is ∙ ap (λ t. Some (change t c.in-Some.change.sign c.in-Some.change.place (expr_of c.in-Some.change.right.now))) (ap target_of c.in-Part.is ∙ part_target_tree c.in-Part.at c.in-Part.field-1 c.in-Part.field-2)) (λ go. refl))
    (means script next here table)) c.on_two.ensures.means

pub returns-in-Field-clause-means : goal.returns-in-Field-clause-means
returns-in-Field-clause-means c = if_more c.on_one.result _ _ (λ now means. λ script next here table.
    starts_as script next here (now_act script next here (now_seen table now)) (doing here c.in-Field.at (flow_op here 30 (a_name c.in-Field.name) nothing) (contents table c.args.owner ∷ [])) (slotted_act script next here (change_in (form_of c.args.part.stmt.now.form.value)) (contents table c.args.owner) (contents table c.args.index)) (part_seen table c.to-loaded.result) c.args.part.stmt.now.pos (form_of c.args.part.stmt.now.form.value) (loaded (contents table c.args.owner) (contents table c.args.index))
    (ap (part_seen table) c.to-loaded.ensures)
    (loads_so script next here c.args.part.stmt.now.pos (form_of c.args.part.stmt.now.form.value) c.in-Some.change.sign c.in-Some.change.place (expr_of c.in-Some.change.right.now) (doing here c.in-Field.at (flow_op here 30 (a_name c.in-Field.name) nothing) (contents table c.args.owner ∷ [])) (field_target c.in-Field.at (expr_of c.in-Field.field-1) c.in-Field.name) (contents table c.args.owner) (contents table c.args.index) (sym c.change_in.ensures ∙ ap (option_map change_seen) c.in-Some.is ∙ ap (λ t. Some (change t c.in-Some.change.sign c.in-Some.change.place (expr_of c.in-Some.change.right.now))) (ap target_of c.in-Field.is ∙ field_target_tree c.in-Field.at c.in-Field.field-1 c.in-Field.name)) (λ go. refl))
    (means script next here table)) c.on_one.ensures.means

pub returns-in-Many-clause-means : goal.returns-in-Many-clause-means
returns-in-Many-clause-means c = λ script next here table. loads_so script next here c.args.part.stmt.now.pos (form_of c.args.part.stmt.now.form.value) c.in-Some.change.sign c.in-Some.change.place (expr_of c.in-Some.change.right.now) (λ go. ret normal) (many_target (targets_of c.in-Many.field-0)) (contents table c.args.owner) (contents table c.args.index) (sym c.change_in.ensures ∙ ap (option_map change_seen) c.in-Some.is ∙ ap (λ t. Some (change t c.in-Some.change.sign c.in-Some.change.place (expr_of c.in-Some.change.right.now))) (ap target_of c.in-Many.is ∙ many_target_tree c.in-Many.field-0)) (λ go. refl)
