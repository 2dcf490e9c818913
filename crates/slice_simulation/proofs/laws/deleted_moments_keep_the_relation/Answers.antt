use Rattle.slice_simulation.proofs.Happenings.{Laws}
use Rattle.slice_simulation.specs.Owned.{SamePlace}
use Rattle.slice_simulation.proofs.OtherMoments.{deleted_moment}
use Rattle.slice_simulation.proofs.laws.deleted_moments_keep_the_relation.Goals as goal

pub returns : goal.returns
returns c =
    let laws : Laws = record {
      locations = c.tests_are_equality.ensures.locations;
      alike = c.corresponding_operands_have_alike_plans.ensures;
      agree = c.operations_agree.ensures;
      quiet = c.few_operations_ask.ensures.quiet;
      same = c.few_operations_ask.ensures.same;
      unnoted = c.few_operations_ask.ensures.unnoted;
      tidy = c.operations_open_tidily.ensures;
      changes = c.map_changes_by_accesses.ensures;
    } in
    λ capture script other known keep upto at p vs n s t next answer came. deleted_moment laws capture (SamePlace script other) known keep upto at p vs n s t next answer came
