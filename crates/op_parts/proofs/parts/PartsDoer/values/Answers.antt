use Rattle.std.proofs.Common.{subst, sym}
use Rattle.op_parts.specs.Parts.{IsFitting, IsStanding}
use Rattle.op_parts.proofs.Agreeing.{its_values}
use Rattle.py_model.specs.Doing.{AreItsValues}
use Rattle.py_value.specs.Values.{ValuesView}
use Rattle.op_parts.proofs.parts.PartsDoer.values.Goals as goal

pub returns : goal.returns
returns g c = subst (λ (values : ValuesView). AreItsValues (λ table capture. IsFitting (g.S.Source.fits c.args.self.now.source) c.args.self.now.held.work.values table capture)
    (λ table capture s. IsStanding (g.S.Source.stands c.args.self.now.source) c.args.self.now.held c.args.self.now.entered table capture s) values) (sym c.values.ensures.values)
    (its_values c.contents_stay.ensures c.store_over_contents.ensures.held c.same_place_same_location.ensures.seen c.named_stays.ensures.grown (g.S.Source.fits c.args.self.now.source)
    (g.S.Source.stands c.args.self.now.source) c.args.self.now.held c.args.self.now.entered c.some_fits.ensures c.values.ensures.interned c.values.ensures.named c.values.ensures.paths)
