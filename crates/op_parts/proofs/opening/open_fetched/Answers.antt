use Rattle.std.proofs.Common.{◌≡◌, sym, ap, subst, Ok, Err, [], unwrap_or}
use Rattle.op_parts.specs.Fitting.{IsFitting, IsStanding}
use Rattle.op_parts.proofs.Fetched.{each_found, lacks_open, place_want}
use Rattle.op_parts.proofs.Ready.{performs_ready, performs_want}
use Rattle.op_work.specs.Work.{Extends}
use Rattle.op_work.proofs.Going.{extends_same}
use Rattle.prov_base.specs.declared.refusal.Memory.{Memory as Want}
use Rattle.py_model.specs.Doing.{Performs}
use Rattle.py_value.specs.Seen.{bytes_of}
use Rattle.py_value.specs.Values.{ValuesView}
use Rattle.op_parts.proofs.opening.open_fetched.Goals as goal

pub returns-in_default-clause-performed : goal.returns-in_default-clause-performed
returns-in_default-clause-performed g c = λ entered.
    let before = g.S.Source.stands c.args.source.now in
    let old = c.args.held.now in
    let text_is = subst (λ (v : ValuesView). bytes_of v c.args.path ≡ c.text_of-text.result.now) c.values.ensures.values (ap (λ o. unwrap_or o []) c.text_of-text.ensures.text) in
    lacks_open c.few_operations_ask.ensures.unnoted c.few_operations_ask.ensures.answered c.holding_is_seen.ensures (g.S.Source.fits c.fetch.new.self) before
    (g.S.Source.stands c.fetch.new.self) old old old entered c.args.at c.args.op c.args.values.now c.requires.number c.args.left c.requires.some
    c.requires.named (extends_same old.work.values) c.args.path c.requires.path c.requires.within c.values.ensures.paths c.requires.opened c.text_of-text.result.now text_is c.in_ok-fetch.ensures.fetched c.in_default.ensures

pub returns-in_err-place-clause-performed : goal.returns-in_err-place-clause-performed
returns-in_err-place-clause-performed g c = λ entered.
    let before = g.S.Source.stands c.args.source.now in
    let old = c.args.held.now in
    let text_is = subst (λ (v : ValuesView). bytes_of v c.args.path ≡ c.text_of-text.result.now) c.values.ensures.values (ap (λ o. unwrap_or o []) c.text_of-text.ensures.text) in
    place_want c.few_operations_ask.ensures.unnoted c.few_operations_ask.ensures.answered c.holding_is_seen.ensures (g.S.Source.fits c.fetch.new.self) before
    (g.S.Source.stands c.fetch.new.self) old c.place.new.held old entered c.args.at c.args.op c.args.values.now c.requires.number c.args.left c.requires.some
    c.requires.named (extends_same old.work.values) c.args.path c.requires.path c.requires.within c.values.ensures.paths c.requires.opened c.text_of-text.result.now text_is c.in_ok-fetch.ensures.fetched
    c.store_over_contents.ensures.held c.in-Some.found.now c.paths_once.ensures c.in-Some.ensures c.in_err-place.ensures.stands c.in_err-place.ensures.values c.from_residual-in_err-place.result c.from_residual-in_err-place.ensures.0

pub returns-in_err-deed-clause-performed : goal.returns-in_err-deed-clause-performed
returns-in_err-deed-clause-performed g c = λ entered.
    let before = g.S.Source.stands c.args.source.now in
    let old = c.args.held.now in
    let text_is = subst (λ (v : ValuesView). bytes_of v c.args.path ≡ c.text_of-text.result.now) c.values.ensures.values (ap (λ o. unwrap_or o []) c.text_of-text.ensures.text) in
    let more = subst (λ (v : ValuesView). Extends v c.open_found.new.held.work.values) c.in_ok-place.ensures.values c.in_err-deed.ensures.extends in
    performs_want (g.S.Source.fits c.fetch.new.self) before (g.S.Source.stands c.fetch.new.self) old c.open_found.new.held entered c.args.at c.args.op c.args.values.now c.args.left c.requires.some c.place.new.held.work c.in_err-deed.field-0.0
    (each_found c.few_operations_ask.ensures.unnoted c.few_operations_ask.ensures.answered c.holding_is_seen.ensures (g.S.Source.fits c.fetch.new.self) before
    (g.S.Source.stands c.fetch.new.self) old c.place.new.held c.open_found.new.held entered c.args.at c.args.op c.args.values.now c.requires.number c.args.left c.requires.some
    c.requires.named more c.args.path c.requires.path c.requires.within c.values.ensures.paths c.requires.opened c.text_of-text.result.now text_is c.in_ok-fetch.ensures.fetched
    c.store_over_contents.ensures.held c.in-Some.found.now c.paths_once.ensures c.in-Some.ensures c.in_ok-place.ensures.stands c.in_ok-place.ensures.values c.in_ok-place.ensures.there (Err c.in_err-deed.field-0.0) c.in_err-deed.ensures.finishes)
    c.from_residual-in_err-deed.result c.from_residual-in_err-deed.ensures.0

pub returns-clause-performed : goal.returns-clause-performed
returns-clause-performed g c = λ entered.
    let before = g.S.Source.stands c.args.source.now in
    let old = c.args.held.now in
    let text_is = subst (λ (v : ValuesView). bytes_of v c.args.path ≡ c.text_of-text.result.now) c.values.ensures.values (ap (λ o. unwrap_or o []) c.text_of-text.ensures.text) in
    let more = subst (λ (v : ValuesView). Extends v c.open_found.new.held.work.values) c.in_ok-place.ensures.values c.in_ok-deed.ensures.extends in
    subst (λ done. Performs {E = Want} c.args.at c.args.op c.args.values.now c.args.left (λ table capture. IsFitting (g.S.Source.fits c.fetch.new.self) c.open_found.new.held.work.values table capture)
    (λ table capture s. IsStanding before old entered table capture s) (λ table capture s. IsStanding (g.S.Source.stands c.fetch.new.self) c.open_found.new.held entered table capture s) (Ok done)) (sym c.done_of.ensures)
    (performs_ready (g.S.Source.fits c.fetch.new.self) before (g.S.Source.stands c.fetch.new.self) old c.open_found.new.held entered c.args.at c.args.op c.args.values.now c.args.left c.requires.some c.place.new.held.work
    c.operations_suit.ensures.suit c.operations_suit.ensures.keyed c.costs_grow.ensures c.in_ok-deed.deed
    (each_found c.few_operations_ask.ensures.unnoted c.few_operations_ask.ensures.answered c.holding_is_seen.ensures (g.S.Source.fits c.fetch.new.self) before
    (g.S.Source.stands c.fetch.new.self) old c.place.new.held c.open_found.new.held entered c.args.at c.args.op c.args.values.now c.requires.number c.args.left c.requires.some
    c.requires.named more c.args.path c.requires.path c.requires.within c.values.ensures.paths c.requires.opened c.text_of-text.result.now text_is c.in_ok-fetch.ensures.fetched
    c.store_over_contents.ensures.held c.in-Some.found.now c.paths_once.ensures c.in-Some.ensures c.in_ok-place.ensures.stands c.in_ok-place.ensures.values c.in_ok-place.ensures.there (Ok c.in_ok-deed.deed) c.in_ok-deed.ensures.finishes))
