use Rattle.std.proofs.Common.{◌≡◌, refl, [], rules}
use Rattle.now_top.specs.Planned.{plan_of}
use Rattle.now_top.proofs.restored.restore_trial.Goals as goal

pub returns-clause-restores : goal.returns-clause-restores
returns-clause-restores g c = record {
  of = record {
    result = c.restore-came.result;
    ran = _;
    text = c.restore-came.new.told.items;
    ending = (plan_of c.planned_restored-planned.result).ending;
    aside = record { console = refl; moments = refl; line = refl; write = refl; file = c.restore-came.ensures.get_faults; source = c.restore-came.ensures.source_faults; time = refl; word = refl };
    restores = (let none : c.new-told.result.items ≡ [] = search rules in rw none at c.restore-came.ensures.restores);
    of_restoring = c.restore-came.ensures.of_restoring;
    cause = c.restore-came.ensures.cause;
    ends = c.planned_restored-planned.ensures;
    delivers = record {
      delivered = (let text : c.as_slice.result.now ≡ c.restore-came.new.told.items = search rules in rw c.ending_in.ensures at (rw text at c.deliver-status.ensures.delivered));
      moments = refl;
      line = c.deliver-status.ensures.in_faults;
      file = c.deliver-status.ensures.get_faults;
      source = c.deliver-status.ensures.source_faults;
      time = refl;
      word = refl;
    };
  };
  stops = c.restore-came.ensures.stops;
}
