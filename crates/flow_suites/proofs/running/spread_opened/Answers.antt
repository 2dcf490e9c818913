use Rattle.std.proofs.Common.{Some, ap, sym, subst, ◌∙◌}
use Rattle.std.specs.Option.{option_map}
use Rattle.py_tree.specs.Erasure.{form_of, targets_of}
use Rattle.py_tree.proofs.TargetTrees.{targets_tree}
use Rattle.py_value.specs.Contents.{contents}
use Rattle.py_model.specs.Act.{to}
use Rattle.flow_frames.specs.Held.{IsHeldStage}
use Rattle.flow_frames.specs.Machine.{Part as Part-seen, breaks, open_act, stores, suite_ended}
use Rattle.flow_frames.specs.Seen.{goal_seen, here_seen, part_seen, stage_seen}
use Rattle.flow_frames.specs.declared.control.Part.{Part}
use Rattle.flow_frames.specs.declared.control.Stage.{Stage}
use Rattle.flow_suites.specs.Running.{HoldsOpened, OpensBy}
use Rattle.flow_suites.specs.declared.running.Opened.{Opened}
use Rattle.flow_targets.proofs.ItemsOf.{targets_seen}
use Rattle.flow_suites.proofs.Spreads.{named_on, spread_end, spread_more, spread_none}
use Rattle.flow_suites.proofs.running.spread_opened.Goals as goal

pub returns-in_default-clause-means : goal.returns-in_default-clause-means
returns-in_default-clause-means c = λ stage. subst (λ (o : Opened). OpensBy c.args.values.now c.args.part c.args.spot o.now o.way) (sym c.ended.ensures) (λ script next table texts tuples.
    spread_none script next (here_seen script table c.args.spot) c.args.part.stmt.now.pos (form_of c.args.part.stmt.now.form.value) (goal_seen table c.args.goal) c.args.number (contents table c.args.value)
    (sym (c.several_in.ensures table) ∙ ap (option_map (λ ts. targets_of ts.now)) c.in_default.is)
    ∙ sym (ap (λ (s : Stage). open_act script next (here_seen script table c.args.spot) c.args.part.stmt.now.pos (form_of c.args.part.stmt.now.form.value) (stage_seen table s)) stage))

pub returns-in_default-clause-held : goal.returns-in_default-clause-held
returns-in_default-clause-held c = λ table texts tuples goal spot. subst (λ (o : Opened). HoldsOpened table c.args.spot o.now o.way) (sym c.ended.ensures) tt

pub returns-in-None-clause-means : goal.returns-in-None-clause-means
returns-in-None-clause-means c = λ stage. subst (λ (o : Opened). OpensBy c.args.values.now c.args.part c.args.spot o.now o.way) (sym c.becomes.ensures) (λ script next table texts tuples.
    c.reached.ensures.means script next (here_seen script table c.args.spot) table
    ∙ spread_end script next (here_seen script table c.args.spot) c.args.part.stmt.now.pos (form_of c.args.part.stmt.now.form.value) (goal_seen table c.args.goal) c.args.number (contents table c.args.value) c.as_slice-targets.result.now
    (sym (c.several_in.ensures table) ∙ ap (option_map (λ ts. targets_of ts.now)) c.in-Some.is ∙ ap Some (targets_tree c.in-Some.targets.now ∙ ap targets_seen (sym c.as_slice-targets.ensures.value)))
    (sym c.target_at.ensures ∙ ap (option_map (λ t. t.now)) c.in-None.is)
    ∙ sym (ap (λ (s : Stage). open_act script next (here_seen script table c.args.spot) c.args.part.stmt.now.pos (form_of c.args.part.stmt.now.form.value) (stage_seen table s)) stage))

pub returns-in-None-clause-held : goal.returns-in-None-clause-held
returns-in-None-clause-held c = λ table texts tuples goal spot. subst (λ (o : Opened). HoldsOpened table c.args.spot o.now o.way) (sym c.becomes.ensures) (c.reached.ensures.held table c.args.spot.scope goal)

pub returns-in-Some-target_at-clause-means : goal.returns-in-Some-target_at-clause-means
returns-in-Some-target_at-clause-means c = λ stage script next table texts tuples.
    ap (λ (p : Part-seen). to (open_act script next (here_seen script table c.args.spot) p.at p.form p.stage) (suite_ended script next next (here_seen script table c.args.spot) c.args.part.stmt.now.pos (form_of c.args.part.stmt.now.form.value) (stage_seen table c.args.part.stage)))
    (ap (part_seen table) c.to-stores.ensures)
    ∙ ap (λ (s : Stage). to (open_act script next (here_seen script table c.args.spot) c.args.part.stmt.now.pos (form_of c.args.part.stmt.now.form.value) (stores (breaks c.args.number) (contents table c.item_at-item.result))) (suite_ended script next next (here_seen script table c.args.spot) c.args.part.stmt.now.pos (form_of c.args.part.stmt.now.form.value) (stage_seen table s))) stage
    ∙ spread_more script next (here_seen script table c.args.spot) c.args.part.stmt.now.pos (form_of c.args.part.stmt.now.form.value) (goal_seen table c.args.goal) c.args.number (contents table c.args.value) c.as_slice-targets.result.now
    (sym (c.several_in.ensures table) ∙ ap (option_map (λ ts. targets_of ts.now)) c.in-Some.is ∙ ap Some (targets_tree c.in-Some.targets.now ∙ ap targets_seen (sym c.as_slice-targets.ensures.value)))
    c.in-Some-target_at.field-0.now (contents table c.item_at-item.result) (sym c.target_at.ensures ∙ ap (option_map (λ t. t.now)) c.in-Some-target_at.is) (c.item_at-item.ensures.means table texts tuples)
    ∙ sym (ap (λ (s : Stage). open_act script next (here_seen script table c.args.spot) c.args.part.stmt.now.pos (form_of c.args.part.stmt.now.form.value) (stage_seen table s)) stage)

pub returns-in-Some-target_at-clause-held : goal.returns-in-Some-target_at-clause-held
returns-in-Some-target_at-clause-held c = λ table texts tuples goal spot.
    (subst (λ (p : Part). IsHeldStage table p.stage) (sym c.to-stores.ensures) (tt, named_on c.args.values.now table c.item_at-item.result texts tuples c.item_at-item.ensures.named), spot)
