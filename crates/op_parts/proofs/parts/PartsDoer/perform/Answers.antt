use Rattle.std.proofs.Common.{rules, ◌≡◌, ◌<◌, false, sym, subst, ◌∙◌, Ok}
use Rattle.op_state.specs.Held.{Finishes, begun}
use Rattle.op_table.specs.Table.{planned}
use Rattle.op_parts.specs.Parts.{IsFitting, IsStanding}
use Rattle.op_parts.proofs.Performed.{quiet_done, quiet_dear, goes_on_from, performs_err}
use Rattle.op_parts.proofs.parts.PartsDoer.perform.Goals as goal

pub returns-in_err-deed-clause-performed : goal.returns-in_err-deed-clause-performed
returns-in_err-deed-clause-performed g c =
    performs_err c.args.at c.args.op c.args.values.now c.args.left
    (λ table capture. IsFitting (g.S.Source.fits c.args.self.now.source) c.perform.new.held.work.values table capture)
    (λ table capture s. IsStanding (g.S.Source.stands c.args.self.now.source) c.args.self.now.held c.args.self.now.entered table capture s)
    (λ table capture s. IsStanding (g.S.Source.stands c.args.self.now.source) c.perform.new.held c.args.self.now.entered table capture s)
    c.from_residual.result c.from_residual.ensures.0
    (λ table capture fit s stands. goes_on_from (g.S.Source.fits c.args.self.now.source) (g.S.Source.stands c.args.self.now.source) c.args.self.now.held c.perform.new.held c.args.self.now.entered c.args.left table capture fit s stands c.in_err-deed.ensures.finishes)

pub returns-in-Some-clause-performed : goal.returns-in-Some-clause-performed
returns-in-Some-clause-performed g c = λ table capture fit s stands left_is.
    let some : 0 < c.args.left = search rules in
    let quiet : c.asks.result ≡ false = search rules in
    quiet_done (g.S.Source.fits c.args.self.now.source) (g.S.Source.stands c.args.self.now.source) c.args.self.now.held c.perform.new.held c.args.self.now.entered c.args.at c.args.op c.args.values.now c.args.left
    some table capture fit s stands left_is c.few_operations_ask.ensures.quiet c.few_operations_ask.ensures.unnoted c.operations_suit.ensures.suit c.operations_suit.ensures.keyed
    (sym c.asks.ensures ∙ quiet) c.in-Some.deed
    (subst (λ o. Finishes (planned c.args.op c.args.values.now) (record c.args.self.now.held { work = begun c.args.left c.args.self.now.held.work }) c.perform.new.held (Ok o)) c.in-Some.is c.in_ok-deed.ensures.finishes)

pub returns-in-None-clause-performed : goal.returns-in-None-clause-performed
returns-in-None-clause-performed g c = λ table capture fit s stands left_is.
    let some : 0 < c.args.left = search rules in
    let quiet : c.asks.result ≡ false = search rules in
    quiet_dear (g.S.Source.fits c.args.self.now.source) (g.S.Source.stands c.args.self.now.source) c.args.self.now.held c.perform.new.held c.args.self.now.entered c.args.at c.args.op c.args.values.now c.args.left
    some table capture fit s stands left_is c.few_operations_ask.ensures.quiet c.few_operations_ask.ensures.unnoted c.few_operations_ask.ensures.answered c.costs_grow.ensures c.holding_is_seen.ensures
    (sym c.asks.ensures ∙ quiet)
    (subst (λ o. Finishes (planned c.args.op c.args.values.now) (record c.args.self.now.held { work = begun c.args.left c.args.self.now.held.work }) c.perform.new.held (Ok o)) c.in-None.is c.in_ok-deed.ensures.finishes)

pub returns-then-op-eq62-clause-performed : goal.returns-then-op-eq62-clause-performed
returns-then-op-eq62-clause-performed g c = c.perform_open.ensures.performed c.args.self.now.entered

pub returns-then-asks-clause-performed : goal.returns-then-asks-clause-performed
returns-then-asks-clause-performed g c = c.perform_asking.ensures.performed c.args.self.now.entered
