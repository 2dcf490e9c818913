use Rattle.std.proofs.Common.{refl, inr}
use Rattle.now_words.specs.Command.{command_of}
use Rattle.delivery.specs.Ending.{out_of_memory}
use Rattle.now_top.specs.World.{closing}
use Rattle.now_top.proofs.Preparing.{keeps_nothing, lacks_memory}
use Rattle.now_top.proofs.RestoreParts.{short_restores}
use Rattle.now_top.proofs.answered.close_short.Goals as goal

pub returns-clause-reply : goal.returns-clause-reply
returns-clause-reply g c = λ words.
    let planned = keeps_nothing (command_of words) _ _ _ _ (closing out_of_memory) (inr refl) (inr refl) (lacks_memory (command_of words) _ _) in
    record {
      reply = record {
        plan = closing out_of_memory;
        ran = _;
        plans = planned.plans;
        delivers = record {
          delivered = c.deliver_plan-status.ensures.delivered;
          moments = refl;
          line = c.deliver_plan-status.ensures.in_faults;
          file = c.deliver_plan-status.ensures.get_faults;
          source = c.deliver_plan-status.ensures.source_faults;
          time = refl;
          word = refl;
        };
      };
      stops = planned.stops;
    }

pub returns-clause-restores : goal.returns-clause-restores
returns-clause-restores g c = λ number. short_restores number _ _ _ _ _ (record {
  delivered = c.deliver_plan-status.ensures.delivered;
  moments = refl;
  line = c.deliver_plan-status.ensures.in_faults;
  file = c.deliver_plan-status.ensures.get_faults;
  source = c.deliver_plan-status.ensures.source_faults;
  time = refl;
  word = refl;
})
