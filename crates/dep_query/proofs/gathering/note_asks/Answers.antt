use Rattle.std.proofs.Common.{◌≡◌, ◌+◌, ◌<◌, ◌||◌, ℕ, Bool, true, false, List, drop, length, get_or, sym, ap, subst, ◌∙◌, arith}
use Rattle.std.proofs.lemmas.List.{drop_all}
use Rattle.prov_base.specs.declared.place.Pos.{Pos}
use Rattle.slice_edges.specs.declared.ask.Ask.{Ask}
use Rattle.dep_query.specs.declared.dependence.Dependence.{Dependence}
use Rattle.slice_edges.specs.Asks.{reason_of}
use Rattle.dep_query.specs.Dependences.{kind_by}
use Rattle.dep_query.specs.Noting.{is_found, is_told, some_told}
use Rattle.dep_query.proofs.Written.{left_is}
use Rattle.dep_query.proofs.gathering.note_asks.Goals as goal

turn : (e rest all old now next : Bool) → ((e || rest) || now) ≡ (all || old) → next ≡ (e || now) → (rest || next) ≡ (all || old)
turn true true all old now next is step = is
turn true false all old now next is step = step ∙ is
turn false rest all old now next is step = ap (λ b. rest || b) step ∙ is

one_more : (places : List Pos) (asks : List Ask) (i : ℕ) (other : Ask) (d : Dependence) (old now next : Bool) → i < length asks → (some_told places (drop i asks) d || now) ≡ (some_told places asks d || old)
    → next ≡ (is_told places (kind_by (reason_of (get_or asks i other).why)) (get_or asks i other).asker (get_or asks i other).asked d || now) → (some_told places (drop (i + 1) asks) d || next) ≡ (some_told places asks d || old)
one_more places asks i other d old now next below is step =
    let ask = get_or asks i other in
    turn (is_told places (kind_by (reason_of ask.why)) ask.asker ask.asked d) (some_told places (drop (i + 1) asks) d) (some_told places asks d) old now next
    (subst (λ left. (some_told places left d || now) ≡ (some_told places asks d || old)) (left_is asks i other below) is) step

pub loop-ask-preserved : goal.loop-ask-preserved
loop-ask-preserved c = λ d.
    one_more c.args.places.now c.args.asks.now c.loop-ask.ask-index _ d (is_found c.args.found.now.keys d) (is_found c.loop-ask.found.keys d) (is_found c.note_ask.new.found.keys d)
    (omega (arith, c.loop-ask-test.true)) (c.loop-ask.invariant d) (c.in_ok-note_ask.ensures d)

pub returns : goal.returns
returns c = λ d.
    ap (λ left. some_told c.args.places.now left d || is_found c.loop-ask.found.keys d) (sym (drop_all c.loop-ask.ask-index c.args.asks.now (omega (arith, c.loop-ask-test.false)))) ∙ c.loop-ask.invariant d
