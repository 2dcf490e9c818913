use Rattle.std.proofs.Common.{refl}
use Rattle.now_words.specs.Command.{command_of}
use Rattle.now_top.specs.Planned.{plan_of}
use Rattle.now_top.proofs.answered.reply.Goals as goal

pub returns-clause-reply : goal.returns-clause-reply
returns-clause-reply g c = λ words word. record {
  reply = record {
    plan = plan_of c.plan-planned.result.0;
    ran = _;
    plans = (c.plan-planned.ensures.plans (command_of words) word).plans;
    delivers = record {
      delivered = c.deliver_plan-status.ensures.delivered;
      moments = refl;
      line = c.deliver_plan-status.ensures.in_faults;
      file = c.deliver_plan-status.ensures.get_faults;
      source = c.deliver_plan-status.ensures.source_faults;
      time = refl;
      word = refl;
    };
  };
  stops = (c.plan-planned.ensures.plans (command_of words) word).stops;
}
