use Rattle.std.proofs.Common.{sym, ap, Some, ◌∙◌}
use Rattle.std.specs.Option.{option_map}
use Rattle.py_tree.specs.Erasure.{expr_of, form_of, target_of}
use Rattle.py_tree.proofs.TargetTrees.{part_target_tree}
use Rattle.py_value.specs.Contents.{contents}
use Rattle.py_model.specs.Expressions.{eval}
use Rattle.flow_frames.specs.Machine.{key, now_act, owner_act, target_in}
use Rattle.flow_frames.specs.Seen.{now_seen, part_seen}
use Rattle.flow_frames.proofs.Starting.{if_more, starts_as}
use Rattle.flow_targets.proofs.Starting.{part_owned}
use Rattle.flow_targets.proofs.storing.owned.Goals as goal

pub returns-in-Part-clause-means : goal.returns-in-Part-clause-means
returns-in-Part-clause-means c = if_more c.start.result _ _ (λ now means. λ script next here table.
    starts_as script next here (now_act script next here (now_seen table now)) (eval script next here (expr_of c.in-Part.index)) (owner_act script next here (target_in (form_of c.args.part.stmt.now.form.value)) (contents table c.args.owner)) (part_seen table c.to.result) c.args.part.stmt.now.pos (form_of c.args.part.stmt.now.form.value) (key (contents table c.args.owner))
    (ap (part_seen table) c.to.ensures)
    (part_owned script next here c.args.part.stmt.now.pos (form_of c.args.part.stmt.now.form.value) c.in-Part.field-0 (expr_of c.in-Part.field-1) (expr_of c.in-Part.index) (contents table c.args.owner) (sym c.target_in.ensures ∙ ap (option_map (λ t. target_of t.now)) c.in-Some.is ∙ ap Some (ap target_of c.in-Part.is ∙ part_target_tree c.in-Part.field-0 c.in-Part.field-1 c.in-Part.index)))
    (means script next here table)) c.start.ensures.means
