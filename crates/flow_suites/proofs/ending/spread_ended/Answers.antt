use Rattle.std.proofs.Common.{ap, sym, subst, ◌∙◌}
use Rattle.py_tree.specs.Erasure.{form_of}
use Rattle.py_value.specs.Contents.{contents}
use Rattle.flow_frames.specs.Held.{IsHeldStage}
use Rattle.flow_frames.specs.Machine.{Part as Part-seen, open_act, spread_ended}
use Rattle.flow_frames.specs.Seen.{end_seen, goal_seen, part_seen}
use Rattle.flow_frames.specs.declared.control.End.{End}
use Rattle.flow_frames.specs.declared.control.Part.{Part}
use Rattle.flow_suites.proofs.NextSpreads.{spread_next}
use Rattle.flow_suites.proofs.ending.spread_ended.Goals as goal

pub returns-in_ok-after-in-Broke-clause-means : goal.returns-in_ok-after-in-Broke-clause-means
returns-in_ok-after-in-Broke-clause-means c = λ script next here table.
    ap (λ (p : Part-seen). open_act script next here p.at p.form p.stage) (ap (part_seen table) c.to.ensures)
    ∙ spread_next script next here c.args.part.stmt.now.pos (form_of c.args.part.stmt.now.form.value) (goal_seen table c.args.goal) c.args.number (contents table c.args.value) c.in_ok-after-in-Broke.after c.in_ok-after-in-Broke.ensures
    ∙ sym (ap (λ (e : End). spread_ended script next here c.args.part.stmt.now.pos (form_of c.args.part.stmt.now.form.value) (goal_seen table c.args.goal) c.args.number (contents table c.args.value) (end_seen table e)) c.in-Broke.is)

pub returns-in_ok-after-in-Broke-clause-held : goal.returns-in_ok-after-in-Broke-clause-held
returns-in_ok-after-in-Broke-clause-held c = λ table scope goal value end. subst (λ (p : Part). IsHeldStage table p.stage) (sym c.to.ensures) (goal, value)
