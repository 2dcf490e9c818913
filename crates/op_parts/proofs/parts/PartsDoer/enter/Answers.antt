use Rattle.std.proofs.Common.{◌≡◌, ◌+◌, ◌<◌, length, subst, Ok, rules}
use Rattle.op_state.specs.Entering.{parameters_plan}
use Rattle.op_state.specs.Held.{Finishes, begun}
use Rattle.op_parts.specs.Parts.{IsFitting, IsStanding}
use Rattle.op_parts.proofs.Entrances.{is_entered, enters_err}
use Rattle.op_parts.proofs.Performed.{goes_on_from}
use Rattle.op_work.proofs.Going.{extends_same}
use Rattle.op_parts.proofs.parts.PartsDoer.enter.Goals as goal

pub returns-clause-entered : goal.returns-clause-entered
returns-clause-entered g c =
    let some : length c.args.values.now < c.args.left = search rules in
    let next : c.in-Some.activation ≡ c.args.self.now.entered + 1 = search rules in
    let finishes = subst (λ o. Finishes (parameters_plan c.in-Some.activation c.args.names.now c.args.values.now) (record c.args.self.now.held { work = begun c.args.left c.args.self.now.held.work }) c.enter.new.self (Ok o)) c.in-Some-2.is c.in_ok-deed.ensures.finishes in (
      some,
      is_entered c.plans_suit.ensures.plain c.keys_have_entries.ensures.plain (g.S.Source.fits c.args.self.now.source) (g.S.Source.stands c.args.self.now.source) c.args.self.now.held c.enter.new.self c.args.self.now.entered c.in-Some.activation c.args.left next c.args.def
          c.args.names.now c.args.values.now c.in-Some-2.deed finishes,
    )

pub returns-in_err-deed-clause-entered : goal.returns-in_err-deed-clause-entered
returns-in_err-deed-clause-entered g c =
    enters_err c.args.def c.args.names.now c.args.values.now c.args.left
    (λ table capture. IsFitting (g.S.Source.fits c.args.self.now.source) c.enter.new.self.work.values table capture)
    (λ table capture s. IsStanding (g.S.Source.stands c.args.self.now.source) c.args.self.now.held c.args.self.now.entered table capture s)
    (λ table capture s. IsStanding (g.S.Source.stands c.args.self.now.source) c.enter.new.self c.args.self.now.entered table capture s)
    c.from_residual.result c.from_residual.ensures.0
    (λ table capture fit s stands. goes_on_from (g.S.Source.fits c.args.self.now.source) (g.S.Source.stands c.args.self.now.source) c.args.self.now.held c.enter.new.self c.args.self.now.entered c.args.left table capture fit s stands c.in_err-deed.ensures.finishes)

pub returns-in_default-2-clause-entered : goal.returns-in_default-2-clause-entered
returns-in_default-2-clause-entered g c = λ table capture fit s stands.
    let finishes = subst (λ o. Finishes (parameters_plan c.in-Some.activation c.args.names.now c.args.values.now) (record c.args.self.now.held { work = begun c.args.left c.args.self.now.held.work }) c.enter.new.self (Ok o)) c.in_default-2.is c.in_ok-deed.ensures.finishes in
    goes_on_from (g.S.Source.fits c.args.self.now.source) (g.S.Source.stands c.args.self.now.source) c.args.self.now.held c.enter.new.self c.args.self.now.entered c.args.left table capture fit s stands finishes.1

pub enter-requires-clause-named : goal.enter-requires-clause-named
enter-requires-clause-named g c = c.requires.given c.args.self.now.held.work.values c.some_fits.ensures.0
    (record { interned = c.values.ensures.interned; extends = extends_same c.args.self.now.held.work.values; fits = c.some_fits.ensures.1 })
