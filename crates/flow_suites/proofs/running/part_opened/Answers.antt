use Rattle.std.proofs.Common.{sym, subst}
use Rattle.flow_frames.specs.Held.{IsHeldStage}
use Rattle.flow_suites.specs.Running.{HoldsOpened}
use Rattle.flow_suites.specs.declared.running.Opened.{Opened}
use Rattle.flow_suites.proofs.running.part_opened.Goals as goal

pub returns-in_ok-now-in-Tested-clause-held : goal.returns-in_ok-now-in-Tested-clause-held
returns-in_ok-now-in-Tested-clause-held c = λ table texts tuples stage spot.
    subst (λ (o : Opened). HoldsOpened table c.args.spot o.now o.way) (sym c.becomes.ensures) (c.in_ok-now-in-Tested.ensures.held table)

pub returns-in_ok-now-in-Turn-clause-held : goal.returns-in_ok-now-in-Turn-clause-held
returns-in_ok-now-in-Turn-clause-held c = λ table texts tuples stage spot.
    let held = subst (IsHeldStage table) c.in-Turn.is stage in
    subst (λ (o : Opened). HoldsOpened table c.args.spot o.now o.way) (sym c.becomes-in-Turn.ensures) (c.in_ok-now-in-Turn.ensures.held table c.args.spot.scope held.0 held.1)

pub returns-in_ok-now-in-Handler-clause-held : goal.returns-in_ok-now-in-Handler-clause-held
returns-in_ok-now-in-Handler-clause-held c = λ table texts tuples stage spot.
    subst (λ (o : Opened). HoldsOpened table c.args.spot o.now o.way) (sym c.becomes-in-Handler.ensures) (c.in_ok-now-in-Handler.ensures.held table)

pub returns-in-Inside-clause-held : goal.returns-in-Inside-clause-held
returns-in-Inside-clause-held c = λ table texts tuples stage spot.
    subst (λ (o : Opened). HoldsOpened table c.args.spot o.now o.way) (sym c.runs-in-Inside.ensures)
    (tt, c.inside_spot-inner.ensures.held table (subst (IsHeldStage table) c.in-Inside.is stage) spot)

pub returns-in_ok-now-in-Stores-clause-held : goal.returns-in_ok-now-in-Stores-clause-held
returns-in_ok-now-in-Stores-clause-held c = λ table texts tuples stage spot.
    let held = subst (IsHeldStage table) c.in-Stores.is stage in
    subst (λ (o : Opened). HoldsOpened table c.args.spot o.now o.way) (sym c.becomes-in-Stores.ensures) (c.in_ok-now-in-Stores.ensures.held table held.0 held.1)
