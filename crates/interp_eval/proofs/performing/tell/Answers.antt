use Rattle.std.proofs.Common.{sym, subst}
use Rattle.py_model.specs.Moment.{Moment}
use Rattle.py_model.specs.Told.{IsToldNow, TellsOn}
use Rattle.interp_eval.proofs.Staying.{moment_stays}
use Rattle.interp_eval.proofs.performing.tell.Goals as goal

pub returns : goal.returns
returns g c = λ table capture fits.
    let own = c.values-values.result.now in
    let within = c.values-values.ensures.within table capture fits in
    let fit = c.values-values.ensures.own_fit table capture fits in
    subst (λ (m : Moment). TellsOn (g.W.Watch.history c.args.watch.now) (g.W.Watch.history c.told.new.self) (IsToldNow c.told.result m))
    (sym (moment_stays c.contents_stay.ensures own table c.text_of.ensures.interned within.0 within.1 c.args.moment.now (c.requires.tellable own capture fit)))
    c.told.ensures
