use Rattle.std.proofs.Common.{map, [], ◌∷◌, ap, ◌∙◌}
use Rattle.std.proofs.lemmas.List.{map-append}
use Rattle.flow_frames.specs.Seen.{frame_seen, here_seen, now_seen, waits_seen}
use Rattle.flow_frames.proofs.Flows.{pushed_on}
use Rattle.flow_frames.proofs.Holding.{frames_on}
use Rattle.flow_frames.proofs.frames.FlowFrames.push.Goals as goal

pub returns : goal.returns
returns c = record {
  means = λ script next table.
      pushed_on script next (here_seen script table c.args.self.now.spot) (here_seen script table c.args.spot) (now_seen table c.args.now) (waits_seen table c.args.waits)
      (map (frame_seen script table) c.args.self.now.below.items) (map (frame_seen script table) c.push.new.self.items)
      (ap (map (frame_seen script table)) c.in_ok-push.ensures.items
      ∙ map-append (frame_seen script table) c.args.self.now.below.items (record { spot = c.args.self.now.spot; waits = c.args.waits } ∷ []));
  held = λ table old waits class now. record {
    spot = class;
    now = now;
    below = frames_on table c.args.self.now.below.items c.push.new.self.items (record { spot = c.args.self.now.spot; waits = c.args.waits }) c.in_ok-push.ensures.items old.below (old.spot, waits);
  };
}
