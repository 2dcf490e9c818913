use Rattle.std.proofs.Common.{Some, ap, sym, ◌∙◌}
use Rattle.std.specs.Option.{option_map}
use Rattle.py_tree.specs.Erasure.{target_of, targets_of}
use Rattle.py_tree.proofs.TargetTrees.{targets_tree}
use Rattle.flow_frames.specs.Machine.{nth_target}
use Rattle.flow_targets.proofs.ItemsOf.{nth_is, seen_target, targets_seen}
use Rattle.flow_targets.proofs.storing.nth_target.Goals as goal

pub returns-in-None : goal.returns-in-None
returns-in-None c = ap (nth_target c.args.number) (sym (ap (option_map (λ ts. targets_of ts.now)) c.in-None.is) ∙ c.several_of.ensures)

pub returns-in-Some : goal.returns-in-Some
returns-in-Some c =
    seen_target c.target_at.result ∙ ap (option_map target_of) c.target_at.ensures ∙ nth_is c.as_slice.result.now c.args.number
    ∙ ap (λ ts. nth_target c.args.number (Some (targets_seen ts))) c.as_slice.ensures.value
    ∙ ap (λ ts. nth_target c.args.number (Some ts)) (sym (targets_tree c.in-Some.targets.now))
    ∙ ap (nth_target c.args.number) (sym (ap (option_map (λ ts. targets_of ts.now)) c.in-Some.is) ∙ c.several_of.ensures)
