use Rattle.std.proofs.Common.{refl, sym, subst}
use Rattle.capture.specs.declared.ended.RunEnd.TheVariants.{Raised as RaisedTold}
use Rattle.run_engine.specs.Over.{IsEndTold}
use Rattle.run_engine.proofs.ending.end_told.Goals as goal

pub returns-in_ok-class-in-Raised-clause-told : goal.returns-in_ok-class-in-Raised-clause-told
returns-in_ok-class-in-Raised-clause-told c = λ found table run extends stands.
    subst (λ end. IsEndTold run end (RaisedTold c.in_ok-class-in-Raised.class c.in-Raised.line c.in_ok-class-in-Raised.text)) (sym c.in-Raised.is) (refl, c.in_ok-class-in-Raised.ensures.said found table run extends stands)
