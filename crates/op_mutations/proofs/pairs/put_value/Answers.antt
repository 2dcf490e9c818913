use Rattle.std.proofs.Common.{rules, ◌≡◌, ◌∙◌, sym, ap, get_or, position}
use Rattle.op_mutations.specs.Pairs.{has_key}
use Rattle.op_mutations.proofs.PairPlaces.{found, absent}
use Rattle.op_mutations.proofs.pairs.put_value.Goals as goal

pub returns-in-Some : goal.returns-in-Some
returns-in-Some c =
    let got : c.index_mut.result.now ≡ get_or c.args.pairs.now.items c.in-Some.i c.index_mut.result.now = search rules in
    found c.args.key c.args.first c.args.item c.args.pairs.now.items c.in-Some.i c.index_mut.result.now c.index_mut.result.now
    (ap (position (has_key c.args.key)) (sym c.as_slice.ensures.value) ∙ (sym c.place_of.ensures ∙ c.in-Some.is)) got

pub returns-in_ok-push-in-None : goal.returns-in_ok-push-in-None
returns-in_ok-push-in-None c = c.in_ok-push-in-None.ensures.items
    ∙ absent c.args.key c.args.first c.args.item c.args.pairs.now.items (record { key = c.args.key; first = c.args.first; item = c.args.item })
    (ap (position (has_key c.args.key)) (sym c.as_slice.ensures.value) ∙ (sym c.place_of.ensures ∙ c.in-None.is))
