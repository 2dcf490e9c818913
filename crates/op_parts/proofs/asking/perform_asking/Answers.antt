use Rattle.std.proofs.Common.{sym, subst, ◌∙◌, Ok, Some, None}
use Rattle.answer_source.specs.Sources.{Asks}
use Rattle.op_parts.specs.Fitting.{IsFitting, IsStanding}
use Rattle.op_parts.proofs.Asked.{Gives, asked_done, asked_want, asked_lacks, asked_memory}
use Rattle.prov_base.specs.declared.refusal.Memory.{Memory as Want}
use Rattle.py_model.specs.Doing.{Performs}
use Rattle.op_parts.proofs.asking.perform_asking.Goals as goal

pub returns-in_err-deed-clause-performed : goal.returns-in_err-deed-clause-performed
returns-in_err-deed-clause-performed g c = λ entered.
    let before = g.S.Source.stands c.args.source.now in
    let old = c.args.held.now in
    let gives = subst (λ asked. Gives c.args.at asked None (g.S.Source.fits c.args.source.now) before before) (sym (sym c.asking.ensures ∙ c.in_default.is)) (λ askings fetches stands. stands) in
    asked_want c.few_operations_ask.ensures.unnoted c.few_operations_ask.ensures.answered (g.S.Source.fits c.args.source.now) before before old c.perform_given.new.held entered c.args.at c.args.op c.args.values.now c.args.left c.requires.some
    c.requires.asks c.requires.apart
    c.holding_is_seen.ensures None (g.S.Source.fits c.args.source.now) (λ capture fit. fit) gives c.in_err-deed.field-0.0 c.in_err-deed.ensures.finishes c.from_residual.result c.from_residual.ensures.0

pub returns-in_default-clause-performed : goal.returns-in_default-clause-performed
returns-in_default-clause-performed g c = λ entered.
    let before = g.S.Source.stands c.args.source.now in
    let old = c.args.held.now in
    let gives = subst (λ asked. Gives c.args.at asked None (g.S.Source.fits c.args.source.now) before before) (sym (sym c.asking.ensures ∙ c.in_default.is)) (λ askings fetches stands. stands) in
    subst (λ done. Performs {E = Want} c.args.at c.args.op c.args.values.now c.args.left (λ table capture. IsFitting (g.S.Source.fits c.args.source.now) c.perform_given.new.held.work.values table capture)
    (λ table capture s. IsStanding before old entered table capture s) (λ table capture s. IsStanding before c.perform_given.new.held entered table capture s) (Ok done)) (sym c.done_of.ensures)
    (asked_done c.few_operations_ask.ensures.unnoted c.few_operations_ask.ensures.answered (g.S.Source.fits c.args.source.now) before before old c.perform_given.new.held entered c.args.at c.args.op c.args.values.now c.args.left c.requires.some
    c.requires.asks c.requires.apart
    c.holding_is_seen.ensures None (g.S.Source.fits c.args.source.now) (λ capture fit. fit) gives c.operations_suit.ensures.suit c.operations_suit.ensures.keyed c.costs_grow.ensures c.in_ok-deed.deed c.in_ok-deed.ensures.finishes)

pub returns-in_default-2-clause-performed : goal.returns-in_default-2-clause-performed
returns-in_default-2-clause-performed g c = λ entered.
    let before = g.S.Source.stands c.args.source.now in
    let old = c.args.held.now in
    asked_lacks c.few_operations_ask.ensures.unnoted c.few_operations_ask.ensures.answered (g.S.Source.fits c.ask.new.self) before (g.S.Source.stands c.ask.new.self) old old entered c.args.at c.args.op c.args.values.now c.args.left c.requires.some
    c.requires.asks c.requires.apart
    c.in-Some.what (sym c.asking.ensures ∙ c.in-Some.is) (subst (λ o. Asks {E = Want} c.in-Some.what c.args.at (g.S.Source.fits c.ask.new.self) before (g.S.Source.stands c.ask.new.self) (Ok o)) c.in_default-2.is c.in_ok-given.ensures.asked)

pub returns-in_err-given-clause-performed : goal.returns-in_err-given-clause-performed
returns-in_err-given-clause-performed g c = λ entered.
    let before = g.S.Source.stands c.args.source.now in
    let old = c.args.held.now in
    asked_memory c.few_operations_ask.ensures.unnoted c.few_operations_ask.ensures.answered (g.S.Source.fits c.ask.new.self) before (g.S.Source.stands c.ask.new.self) old old entered c.args.at c.args.op c.args.values.now c.args.left c.requires.some
    c.requires.asks c.requires.apart
    c.in-Some.what (sym c.asking.ensures ∙ c.in-Some.is) c.in_err-given.field-0.0 c.in_err-given.ensures.asked c.from_residual-in_err-given.result c.from_residual-in_err-given.ensures.0

pub returns-in_err-deed-2-clause-performed : goal.returns-in_err-deed-2-clause-performed
returns-in_err-deed-2-clause-performed g c = λ entered.
    let before = g.S.Source.stands c.args.source.now in
    let old = c.args.held.now in
    let asked = subst (λ o. Asks {E = Want} c.in-Some.what c.args.at (g.S.Source.fits c.ask.new.self) before (g.S.Source.stands c.ask.new.self) (Ok o)) c.in-Some-2.is c.in_ok-given.ensures.asked in
    let gives = subst (λ question. Gives c.args.at question (Some c.in-Some-2.given) (g.S.Source.fits c.ask.new.self) before (g.S.Source.stands c.ask.new.self)) (sym (sym c.asking.ensures ∙ c.in-Some.is)) asked in
    asked_want c.few_operations_ask.ensures.unnoted c.few_operations_ask.ensures.answered (g.S.Source.fits c.ask.new.self) before (g.S.Source.stands c.ask.new.self) old c.perform_with.new.held entered c.args.at c.args.op c.args.values.now c.args.left c.requires.some
    c.requires.asks c.requires.apart
    c.holding_is_seen.ensures (Some c.in-Some-2.given) (g.S.Source.fits c.ask.new.self) (λ capture fit. fit) gives c.in_err-deed-2.field-0.0 c.in_err-deed-2.ensures.finishes c.from_residual-in_err-deed-2.result c.from_residual-in_err-deed-2.ensures.0

pub returns-clause-performed : goal.returns-clause-performed
returns-clause-performed g c = λ entered.
    let before = g.S.Source.stands c.args.source.now in
    let old = c.args.held.now in
    let asked = subst (λ o. Asks {E = Want} c.in-Some.what c.args.at (g.S.Source.fits c.ask.new.self) before (g.S.Source.stands c.ask.new.self) (Ok o)) c.in-Some-2.is c.in_ok-given.ensures.asked in
    let gives = subst (λ question. Gives c.args.at question (Some c.in-Some-2.given) (g.S.Source.fits c.ask.new.self) before (g.S.Source.stands c.ask.new.self)) (sym (sym c.asking.ensures ∙ c.in-Some.is)) asked in
    subst (λ done. Performs {E = Want} c.args.at c.args.op c.args.values.now c.args.left (λ table capture. IsFitting (g.S.Source.fits c.ask.new.self) c.perform_with.new.held.work.values table capture)
    (λ table capture s. IsStanding before old entered table capture s) (λ table capture s. IsStanding (g.S.Source.stands c.ask.new.self) c.perform_with.new.held entered table capture s) (Ok done)) (sym c.done_of-2.ensures)
    (asked_done c.few_operations_ask.ensures.unnoted c.few_operations_ask.ensures.answered (g.S.Source.fits c.ask.new.self) before (g.S.Source.stands c.ask.new.self) old c.perform_with.new.held entered c.args.at c.args.op c.args.values.now c.args.left c.requires.some
    c.requires.asks c.requires.apart
    c.holding_is_seen.ensures (Some c.in-Some-2.given) (g.S.Source.fits c.ask.new.self) (λ capture fit. fit) gives c.operations_suit.ensures.suit c.operations_suit.ensures.keyed c.costs_grow.ensures c.in_ok-deed-2.deed c.in_ok-deed-2.ensures.finishes)
