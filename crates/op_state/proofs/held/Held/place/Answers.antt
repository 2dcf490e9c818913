use Rattle.std.proofs.Common.{rules, ◌≡◌, Some, None, refl, sym, subst, ◌<◌, length}
use Rattle.object_store.specs.Store.{file_at as held_file}
use Rattle.op_state.specs.Holding.{Found}
use Rattle.op_state.specs.Held.{HeldView, StandsHeld}
use Rattle.op_state.proofs.Placing.{place_stands, place_held}
use Rattle.op_work.specs.Work.{Extends}
use Rattle.py_model.specs.Store.{RunStore}
use Rattle.py_value.specs.Seen.{bytes_of}
use Rattle.py_value.specs.Values.{ValuesView}
use Rattle.op_state.proofs.held.Held.place.Goals as goal

pub returns-clause-stands : goal.returns-clause-stands
returns-clause-stands c =
    let none : held_file c.self.inside.work.store c.args.path ≡ None = search rules in
    let old : HeldView = record { work = c.self.inside.work; opened = c.self.inside.opened.items; output = c.self.inside.output.items } in
    let new : HeldView = record { work = c.place_file.new.self; opened = c.self.inside.opened.items; output = c.self.inside.output.items } in
    let within = subst (λ (h : HeldView). c.args.path < length h.work.values.texts) (sym c.self.view_is) c.requires in
    subst (λ (h : HeldView). (found : Found) (table : ValuesView) (run : RunStore) → Extends h.work.values table → found (bytes_of table c.args.path) ≡ Some c.args.bytes.now → StandsHeld found table h run
    → StandsHeld found table new run) c.self.view_is
    (place_stands c.equality_is_same.ensures.locations c.same_place_same_location.ensures.seen c.named_stays.ensures.written old new c.args.path c.args.bytes.now c.place_file.result
    c.place_file.ensures.placed c.place_file.ensures.err refl refl within none)

pub returns-clause-held : goal.returns-clause-held
returns-clause-held c = place_held c.equality_is_same.ensures.locations c.same_place_same_location.ensures.seen c.named_stays.ensures.written c.self.inside.work.store c.place_file.new.self.store c.args.path
    c.args.bytes.now c.place_file.result c.place_file.ensures.placed
