use Rattle.std.proofs.Common.{ap, sym, ◌∙◌}
use Rattle.std.specs.Option.{option_map}
use Rattle.py_tree.specs.Erasure.{target_of}
use Rattle.flow_frames.specs.Machine.{many_of}
use Rattle.flow_targets.proofs.storing.several_of.Goals as goal

pub returns-in-None : goal.returns-in-None
returns-in-None c = ap many_of (sym (ap (option_map (λ t. target_of t.now)) c.in-None.is) ∙ c.target_in.ensures)

pub returns-in-Some : goal.returns-in-Some
returns-in-Some c = c.many_of.ensures ∙ ap many_of (sym (ap (option_map (λ t. target_of t.now)) c.in-Some.is) ∙ c.target_in.ensures)
