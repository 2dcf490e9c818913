use Rattle.std.proofs.Common.{[], ◌∷◌, ap, sym, ◌∙◌}
use Rattle.std.specs.Option.{option_map}
use Rattle.py_tree.specs.Erasure.{expr_of, form_of, target_of}
use Rattle.py_value.specs.Contents.{contents}
use Rattle.py_model.specs.Expressions.{doing, op}
use Rattle.py_model.specs.Statements.{augmented_number}
use Rattle.flow_frames.specs.Machine.{change_in, changed, now_act, sided_act}
use Rattle.flow_frames.specs.Seen.{now_seen, part_seen}
use Rattle.flow_targets.specs.Changing.{change_seen}
use Rattle.flow_frames.proofs.Starting.{if_more, starts_as}
use Rattle.flow_targets.proofs.Changes.{signs_so}
use Rattle.flow_targets.proofs.changing.sided.Goals as goal

pub returns-clause-means : goal.returns-clause-means
returns-clause-means c = if_more c.on_two.result _ _ (λ now means. λ script next here table.
    starts_as script next here (now_act script next here (now_seen table now)) (doing here c.in-Some.change.place (op (augmented_number c.in-Some.change.sign)) (contents table c.args.standing ∷ contents table c.args.value ∷ [])) (sided_act script next here (change_in (form_of c.args.part.stmt.now.form.value)) (contents table c.args.owner) (contents table c.args.index) (contents table c.args.standing) (contents table c.args.value)) (part_seen table c.to-changed.result) c.args.part.stmt.now.pos (form_of c.args.part.stmt.now.form.value) (changed (contents table c.args.owner) (contents table c.args.index))
    (ap (part_seen table) c.to-changed.ensures)
    (signs_so script next here c.args.part.stmt.now.pos (form_of c.args.part.stmt.now.form.value) c.in-Some.change.sign c.in-Some.change.place (expr_of c.in-Some.change.right.now) (target_of c.in-Some.change.target.now) (contents table c.args.owner) (contents table c.args.index) (contents table c.args.standing) (contents table c.args.value) (sym c.change_in.ensures ∙ ap (option_map change_seen) c.in-Some.is))
    (means script next here table)) c.on_two.ensures.means
