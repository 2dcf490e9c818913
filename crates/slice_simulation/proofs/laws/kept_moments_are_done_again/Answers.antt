use Rattle.slice_simulation.proofs.Happenings.{Laws}
use Rattle.slice_simulation.specs.Owned.{SamePlace}
use Rattle.slice_simulation.proofs.KeptMoments.{kept_moment}
use Rattle.slice_simulation.proofs.laws.kept_moments_are_done_again.Goals as goal

pub returns : goal.returns
returns c =
    let laws : Laws = record {
      locations = c.tests_are_equality.ensures.locations;
      alike = c.corresponding_operands_have_alike_plans.ensures;
      agree = c.operations_agree.ensures;
      quiet = c.few_operations_ask.ensures.quiet;
      same = c.few_operations_ask.ensures.same;
      unnoted = c.few_operations_ask.ensures.unnoted;
      tidy = c.operations_open_tidily.ensures;
      changes = c.map_changes_by_accesses.ensures;
    } in
    λ capture script other known keep upto at p q vs ws n s t next answer came related kept owner same_op same_values one all knows asks.
    kept_moment laws capture (SamePlace script other) known keep upto at p q vs ws n s t next answer came related kept owner same_op same_values asks
    (c.operations_pass_functions_on.ensures known q ws one all) knows
