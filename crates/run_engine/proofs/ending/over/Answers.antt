use Rattle.std.proofs.Common.{refl, sym, subst, ◌∙◌}
use Rattle.capture.specs.declared.ended.Ended.{Ended as EndedRun}
use Rattle.op_work.proofs.Going.{extends_same}
use Rattle.run_engine.specs.Over.{IsTold, IsOverOf}
use Rattle.run_engine.proofs.ending.over.Goals as goal

pub returns-clause-over : goal.returns-clause-over
returns-clause-over c =
    let values = c.end_told.new.held.work.values in
    let made : EndedRun = record { end = c.in_ok-end-in-Ok.end; steps = c.args.steps; output = c.of.result; finals = c.in_ok-finals.finals; capture = c.args.capture } in
    let told : IsTold c.args.held.now c.in-Ok.end c.args.steps made = record {
      table = values;
      interned = c.values.ensures.interned;
      extends = c.in_ok-end-in-Ok.ensures.extends;
      can_end = c.in_ok-end-in-Ok.ensures.end;
      steps_are = refl;
      output_is = λ found run stands. (c.in_ok-end-in-Ok.ensures.goes_on found values run (extends_same values) stands).printed_is
          ∙ (sym c.output.ensures ∙ (sym c.in_ok-output.ensures.items ∙ sym c.of.ensures));
      finals_are = λ found run stands. c.in_ok-finals.ensures found values run (extends_same values) (c.in_ok-end-in-Ok.ensures.goes_on found values run (extends_same values) stands);
      end_is = λ found run stands. c.in_ok-end-in-Ok.ensures.told found values run (extends_same values) (c.in_ok-end-in-Ok.ensures.goes_on found values run (extends_same values) stands);
    } in
    subst (λ end. IsOverOf c.args.held.now end c.args.steps made) (sym c.in-Ok.is) told
