use Rattle.std.proofs.Common.{Some, ap, sym, ◌∙◌}
use Rattle.std.specs.Option.{option_map}
use Rattle.py_tree.specs.Erasure.{expr_of, form_of, target_of, targets_of}
use Rattle.py_tree.proofs.TargetTrees.{field_target_tree, many_target_tree, part_target_tree, var_target_tree}
use Rattle.py_model.specs.Expressions.{eval}
use Rattle.flow_frames.specs.Machine.{based, change, change_in, now_act}
use Rattle.flow_frames.specs.Seen.{now_seen, part_seen}
use Rattle.flow_targets.specs.Changing.{augmenting, change_seen}
use Rattle.flow_frames.proofs.Starting.{if_more, starts_as}
use Rattle.flow_targets.proofs.Changes.{field_begins, many_begins, name_begins, part_begins}
use Rattle.flow_targets.proofs.changing.augmented.Goals as goal

pub returns-in-Var-clause-means : goal.returns-in-Var-clause-means
returns-in-Var-clause-means c = if_more c.slotted.result _ _ (λ now means. λ script next here table.
    means script next here table
    ∙ name_begins script next here c.args.part.stmt.now.pos (form_of c.args.part.stmt.now.form.value) c.in-Some.change.sign c.in-Some.change.place (expr_of c.in-Some.change.right.now) c.in-Var.field-0 c.in-Var.field-1 (sym c.change_in.ensures ∙ ap (option_map change_seen) c.in-Some.is ∙ ap (λ t. Some (change t c.in-Some.change.sign c.in-Some.change.place (expr_of c.in-Some.change.right.now))) (ap target_of c.in-Var.is ∙ var_target_tree c.in-Var.field-0 c.in-Var.field-1))) c.slotted.ensures.means

pub returns-in-Part-clause-means : goal.returns-in-Part-clause-means
returns-in-Part-clause-means c = if_more c.start.result _ _ (λ now means. λ script next here table.
    starts_as script next here (now_act script next here (now_seen table now)) (eval script next here (expr_of c.in-Part.e)) (augmenting script next here (change_in (form_of c.args.part.stmt.now.form.value))) (part_seen table c.to.result) c.args.part.stmt.now.pos (form_of c.args.part.stmt.now.form.value) based
    (ap (part_seen table) c.to.ensures)
    (part_begins script next here c.args.part.stmt.now.pos (form_of c.args.part.stmt.now.form.value) c.in-Some.change.sign c.in-Some.change.place (expr_of c.in-Some.change.right.now) c.in-Part.field-0 (expr_of c.in-Part.e) (expr_of c.in-Part.field-2) (sym c.change_in.ensures ∙ ap (option_map change_seen) c.in-Some.is ∙ ap (λ t. Some (change t c.in-Some.change.sign c.in-Some.change.place (expr_of c.in-Some.change.right.now))) (ap target_of c.in-Part.is ∙ part_target_tree c.in-Part.field-0 c.in-Part.e c.in-Part.field-2)))
    (means script next here table)) c.start.ensures.means

pub returns-in-Field-clause-means : goal.returns-in-Field-clause-means
returns-in-Field-clause-means c = if_more c.start-in-Field.result _ _ (λ now means. λ script next here table.
    starts_as script next here (now_act script next here (now_seen table now)) (eval script next here (expr_of c.in-Field.e)) (augmenting script next here (change_in (form_of c.args.part.stmt.now.form.value))) (part_seen table c.to-in-Field.result) c.args.part.stmt.now.pos (form_of c.args.part.stmt.now.form.value) based
    (ap (part_seen table) c.to-in-Field.ensures)
    (field_begins script next here c.args.part.stmt.now.pos (form_of c.args.part.stmt.now.form.value) c.in-Some.change.sign c.in-Some.change.place (expr_of c.in-Some.change.right.now) c.in-Field.field-0 (expr_of c.in-Field.e) c.in-Field.field-2 (sym c.change_in.ensures ∙ ap (option_map change_seen) c.in-Some.is ∙ ap (λ t. Some (change t c.in-Some.change.sign c.in-Some.change.place (expr_of c.in-Some.change.right.now))) (ap target_of c.in-Field.is ∙ field_target_tree c.in-Field.field-0 c.in-Field.e c.in-Field.field-2)))
    (means script next here table)) c.start-in-Field.ensures.means

pub returns-in-Many-clause-means : goal.returns-in-Many-clause-means
returns-in-Many-clause-means c = λ script next here table. many_begins script next here c.args.part.stmt.now.pos (form_of c.args.part.stmt.now.form.value) c.in-Some.change.sign c.in-Some.change.place (expr_of c.in-Some.change.right.now) (targets_of c.in-Many.field-0) (sym c.change_in.ensures ∙ ap (option_map change_seen) c.in-Some.is ∙ ap (λ t. Some (change t c.in-Some.change.sign c.in-Some.change.place (expr_of c.in-Some.change.right.now))) (ap target_of c.in-Many.is ∙ many_target_tree c.in-Many.field-0))
