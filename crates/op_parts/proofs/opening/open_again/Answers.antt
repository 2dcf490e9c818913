use Rattle.std.proofs.Common.{sym, subst, ◌∙◌, Ok, Err}
use Rattle.op_parts.specs.Fitting.{IsFitting, IsStanding}
use Rattle.op_parts.proofs.Fetched.{each_again}
use Rattle.op_parts.proofs.Ready.{performs_ready, performs_want}
use Rattle.prov_base.specs.declared.refusal.Memory.{Memory as Want}
use Rattle.py_model.specs.Doing.{Performs}
use Rattle.op_parts.proofs.opening.open_again.Goals as goal

pub returns-in_err-deed-clause-performed : goal.returns-in_err-deed-clause-performed
returns-in_err-deed-clause-performed g c = λ entered.
    let before = g.S.Source.stands c.args.source.now in
    let old = c.args.held.now in
    performs_want (g.S.Source.fits c.args.source.now) before before old c.open_found.new.held entered c.args.at c.args.op c.args.values.now c.args.left c.requires.some old.work c.in_err-deed.field-0.0
    (each_again c.few_operations_ask.ensures.unnoted c.few_operations_ask.ensures.answered c.holding_is_seen.ensures (g.S.Source.fits c.args.source.now) before before old old c.open_found.new.held
    entered c.args.at c.args.op c.args.values.now c.requires.number c.args.left c.requires.some c.requires.named c.in_err-deed.ensures.extends c.args.path c.requires.path c.requires.within
    c.values.ensures.paths c.requires.opened (sym c.has_file.ensures ∙ c.if-not-has_file.false) (Err c.in_err-deed.field-0.0) c.in_err-deed.ensures.finishes)
    c.from_residual.result c.from_residual.ensures.0

pub returns-clause-performed : goal.returns-clause-performed
returns-clause-performed g c = λ entered.
    let before = g.S.Source.stands c.args.source.now in
    let old = c.args.held.now in
    subst (λ done. Performs {E = Want} c.args.at c.args.op c.args.values.now c.args.left (λ table capture. IsFitting (g.S.Source.fits c.args.source.now) c.open_found.new.held.work.values table capture)
    (λ table capture s. IsStanding before old entered table capture s) (λ table capture s. IsStanding before c.open_found.new.held entered table capture s) (Ok done)) (sym c.done_of.ensures)
    (performs_ready (g.S.Source.fits c.args.source.now) before before old c.open_found.new.held entered c.args.at c.args.op c.args.values.now c.args.left c.requires.some old.work
    c.operations_suit.ensures.suit c.operations_suit.ensures.keyed c.costs_grow.ensures c.in_ok-deed.deed
    (each_again c.few_operations_ask.ensures.unnoted c.few_operations_ask.ensures.answered c.holding_is_seen.ensures (g.S.Source.fits c.args.source.now) before before old old c.open_found.new.held
    entered c.args.at c.args.op c.args.values.now c.requires.number c.args.left c.requires.some c.requires.named c.in_ok-deed.ensures.extends c.args.path c.requires.path c.requires.within
    c.values.ensures.paths c.requires.opened (sym c.has_file.ensures ∙ c.if-not-has_file.false) (Ok c.in_ok-deed.deed) c.in_ok-deed.ensures.finishes))
