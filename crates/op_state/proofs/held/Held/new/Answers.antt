use Rattle.std.proofs.Common.{rules, ◌≡◌, sym, ap, subst, [], ◌∷◌, map}
use Rattle.op_state.specs.Holding.{Holds}
use Rattle.op_state.specs.Opening.{first_of}
use Rattle.op_work.specs.Work.{WorkView, Extends}
use Rattle.py_model.specs.Store.{opening}
use Rattle.op_state.proofs.OpeningHolds.{opening_holds}
use Rattle.py_value.specs.Seen.{bytes_of}
use Rattle.op_state.proofs.held.Held.new.Goals as goal

pub returns : goal.returns
returns c = λ files table interned extends.
    let values = c.new-2.new.values in
    let words = c.args.path.now ∷ c.args.arguments.now in
    let known = subst (λ (w : WorkView). Extends w.values table) c.new-3.ensures extends in
    let named = c.named_stays.ensures.opening values words c.in_ok-store.store c.in_ok-store.ensures.opening in
    let holds = opening_holds c.store_over_contents.ensures.held c.same_place_same_location.ensures.seen values table c.args.path.now c.args.arguments.now files c.in_ok-store.store c.in_ok-store.ensures.opening interned known
    (c.named_stays.ensures.grown values table c.in_ok-store.store known.texts known.tuples named) (c.keys_have_entries.ensures.opening values table words c.in_ok-store.store c.in_ok-store.ensures.opening) in
    let no_output : c.new-5.result.items ≡ [] = search rules in
    let no_path : c.new-4.result.items ≡ [] = search rules in
    record { holds = subst (λ (w : WorkView). Holds (first_of files) table w.store (opening c.args.path.now c.args.arguments.now files)) (sym c.new-3.ensures) holds; printed_is = sym no_output; opened_are = sym (ap (map (bytes_of table)) no_path) }
