use Rattle.std.proofs.Common.{map, ap, sym, subst, ◌∙◌}
use Rattle.py_tree.specs.Erasure.{script_of}
use Rattle.py_tree.proofs.StmtTrees.{suite_tree}
use Rattle.py_model.specs.Meaning.{at_start}
use Rattle.flow_frames.specs.Held.{AreHeldFrames}
use Rattle.flow_frames.specs.Seen.{stmts_seen, frame_seen}
use Rattle.flow_frames.proofs.Flows.{started}
use Rattle.flow_frames.proofs.frames.FlowFrames.start.Goals as goal

pub returns : goal.returns
returns c = record {
  means = λ next table.
      started (script_of c.args.script.now) next at_start (stmts_seen c.as_slice.result.now) (script_of c.args.script.now).body _
      (ap (map (frame_seen (script_of c.args.script.now) table)) c.new.ensures.items) (ap stmts_seen c.as_slice.ensures.value ∙ sym (suite_tree c.args.script.now.body));
  held = λ table. record { spot = tt; now = tt; below = subst (AreHeldFrames table) (sym c.new.ensures.items) tt };
}
