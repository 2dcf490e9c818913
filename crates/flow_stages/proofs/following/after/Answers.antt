use Rattle.std.proofs.Common.{ap, sym, subst, ◌∙◌}
use Rattle.py_tree.specs.Erasure.{form_of}
use Rattle.py_value.specs.Contents.{contents}
use Rattle.flow_frames.specs.Held.{IsHeldStage}
use Rattle.flow_frames.specs.Machine.{then_act}
use Rattle.flow_frames.specs.Seen.{stage_seen}
use Rattle.flow_frames.proofs.Starting.{if_more}
use Rattle.flow_stages.proofs.following.after.Goals as goal

pub returns-in-Stored-clause-held : goal.returns-in-Stored-clause-held
returns-in-Stored-clause-held c = λ table stage v. c.reached.ensures.held table c.args.scope (subst (IsHeldStage table) c.in-Stored.is stage)

pub returns-in-Item-clause-means : goal.returns-in-Item-clause-means
returns-in-Item-clause-means c = if_more c.stored.result _ _ (λ now means. λ script next here table.
    means script next here table
    ∙ sym (ap (λ stage. then_act script next here c.args.part.stmt.now.pos (form_of c.args.part.stmt.now.form.value) (stage_seen table stage) (contents table c.args.value)) c.in-Item.is)) c.stored.ensures.means
