use Rattle.slice_simulation.proofs.BoundRuns.{NameLaws}
use Rattle.slice_simulation.proofs.Happenings.{Laws}
use Rattle.slice_simulation.proofs.Knowing.{FlowLaws}
use Rattle.slice_simulation.proofs.Evaluations.{reached}
use Rattle.slice_simulation.proofs.laws.slices_reach_the_evaluation.Goals as goal

pub returns : goal.returns
returns c =
    let laws : Laws = record {
      locations = c.tests_are_equality.ensures.locations;
      alike = c.corresponding_operands_have_alike_plans.ensures;
      agree = c.operations_agree.ensures;
      quiet = c.few_operations_ask.ensures.quiet;
      same = c.few_operations_ask.ensures.same;
      unnoted = c.few_operations_ask.ensures.unnoted;
      tidy = c.operations_open_tidily.ensures;
      changes = c.map_changes_by_accesses.ensures;
    } in
    let flow : FlowLaws = record {
      keeps = c.operations_pass_functions_on.ensures;
      store = c.effects_keep_stores_known.ensures.store;
      answer = c.effects_keep_stores_known.ensures.answer;
      method = c.effects_keep_stores_known.ensures.method;
      silent = c.few_operations_note.ensures;
      tree = c.runs_know_definitions_alone.ensures.tree;
    } in
    let names : NameLaws = record {
      alike = c.corresponding_operands_have_alike_plans.ensures;
      locations = c.tests_are_equality.ensures.locations;
      numbers = c.numbers_and_places.ensures.numbers;
      standings = c.numbers_and_places.ensures.places;
    } in
    λ script capture path arguments steps budget at k keep upto well classes is closed enough.
    (reached laws flow names script capture path arguments steps keep at upto budget k well classes closed is enough).reaches
