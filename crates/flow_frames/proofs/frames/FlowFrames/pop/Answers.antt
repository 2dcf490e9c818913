use Rattle.std.proofs.Common.{map, [], ◌∷◌, ap, ◌∙◌}
use Rattle.std.proofs.lemmas.List.{map-append}
use Rattle.flow_frames.specs.Seen.{frame_seen, here_seen}
use Rattle.flow_frames.proofs.Flows.{popped_on}
use Rattle.flow_frames.proofs.Holding.{frames_off}
use Rattle.flow_frames.proofs.frames.FlowFrames.pop.Goals as goal

pub returns : goal.returns
returns c = record {
  means = λ script next table how.
      popped_on script next (here_seen script table c.args.self.now.spot) how (frame_seen script table c.in-Some.frame)
      (map (frame_seen script table) c.pop.new.self.items) (map (frame_seen script table) c.args.self.now.below.items)
      (ap (map (frame_seen script table)) c.in-Some.ensures.items ∙ map-append (frame_seen script table) c.pop.new.self.items (c.in-Some.frame ∷ []));
  held = λ table old.
      let off = frames_off table c.pop.new.self.items c.args.self.now.below.items c.in-Some.frame c.in-Some.ensures.items old.below in
      (record { spot = off.1.0; now = tt; below = off.0 }, off.1.1);
}
