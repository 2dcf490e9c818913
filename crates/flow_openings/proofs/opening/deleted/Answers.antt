use Rattle.std.proofs.Common.{sym, ap, ◌∙◌}
use Rattle.py_tree.specs.Erasure.{expr_of, form_of, target_of}
use Rattle.py_tree.proofs.TargetTrees.{part_target_tree}
use Rattle.py_model.specs.Expressions.{eval}
use Rattle.flow_frames.specs.Machine.{now_act, owner}
use Rattle.flow_frames.specs.Seen.{now_seen, part_seen}
use Rattle.flow_frames.proofs.Starting.{if_more, starts_as}
use Rattle.flow_openings.specs.Opening.{deleting}
use Rattle.flow_openings.proofs.opening.deleted.Goals as goal

pub returns-in-Part-clause-means : goal.returns-in-Part-clause-means
returns-in-Part-clause-means c = if_more c.start.result _ _ (λ now means. λ script next here table.
    starts_as script next here (now_act script next here (now_seen table now)) (eval script next here (expr_of c.in-Part.e)) (deleting script next here c.args.part.stmt.now.pos (form_of c.args.part.stmt.now.form.value) (target_of c.args.target.now))
    (part_seen table c.to-in-Part.result) c.args.part.stmt.now.pos (form_of c.args.part.stmt.now.form.value) owner (ap (part_seen table) c.to-in-Part.ensures)
    (sym (ap (deleting script next here c.args.part.stmt.now.pos (form_of c.args.part.stmt.now.form.value)) (ap target_of c.in-Part.is ∙ part_target_tree c.in-Part.field-0 c.in-Part.e c.in-Part.field-2)))
    (means script next here table)) c.start.ensures.means
