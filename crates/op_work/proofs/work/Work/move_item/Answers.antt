use Rattle.std.proofs.Common.{◌≡◌, sym, ap, subst, ◌∙◌, [], Some, None}
use Rattle.std.proofs.lemmas.Option.{slice_get_within}
use Rattle.object_store.specs.Store.{item_at}
use Rattle.py_model.specs.Plan.{move}
use Rattle.py_value.specs.Contents.{contents, tuple, no_parts}
use Rattle.py_value.specs.Values.{ValuesView, AreInterned}
use Rattle.py_value.specs.declared.value.Value.TheVariants.{Tuple}
use Rattle.op_work.specs.Work.{WorkView, Extends, Wrote}
use Rattle.op_work.proofs.FileReads.{there_moves, absent_moves, move_wrote, wrote_behind}
use Rattle.op_work.proofs.work.Work.move_item.Goals as goal

pub note_move-requires-clause-named : goal.note_move-requires-clause-named
note_move-requires-clause-named c = c.in-Some.ensures.named

pub note_move-requires-in-None-clause-named : goal.note_move-requires-in-None-clause-named
note_move-requires-in-None-clause-named c = slice_get_within c.tuple_number.new.self.values.tuples c.in_ok-number-in-None.number [] c.in_ok-number-in-None.ensures.name

pub returns-in-Some : goal.returns-in-Some
returns-in-Some c = move_wrote c.args.o c.args.from c.args.to c.in-Some.item
    (there_moves c.args.self.now c.args.o c.args.from c.in-Some.item (sym c.item_there.ensures.item ∙ c.in-Some.is))
    c.note_move.result c.note_move.ensures.done c.note_move.ensures.unpaid c.note_move.ensures.kept

pub returns-in_ok-number-in-None : goal.returns-in_ok-number-in-None
returns-in_ok-number-in-None c =
    let middle = c.tuple_number.new.self in
    let item = Tuple c.in_ok-number-in-None.number in
    let absent = ap (λ (w : WorkView). item_at w.store c.args.o c.args.from) c.tuple_number.ensures.same ∙ (sym c.item_there.ensures.item ∙ c.in-None.is) in
    let empty : (table : ValuesView) → AreInterned table → Extends middle.values table → contents table item ≡ tuple no_parts = λ table interned extends. c.tuples_are_their_parts.ensures table c.in_ok-number-in-None.number [] interned (extends.tuples c.in_ok-number-in-None.number [] c.in_ok-number-in-None.ensures.name) in
    wrote_behind (λ table. move c.args.o c.args.from c.args.to) c.args.self.now c.note_move-in-None.new.self middle.values c.tuple_number.ensures.extends c.note_move-in-None.result
    (subst (λ (w : WorkView). Wrote (λ table. move c.args.o c.args.from c.args.to) w c.note_move-in-None.new.self c.note_move-in-None.result) c.tuple_number.ensures.same
    (move_wrote c.args.o c.args.from c.args.to item (absent_moves middle c.args.o c.args.from item absent empty)
    c.note_move-in-None.result c.note_move-in-None.ensures.done c.note_move-in-None.ensures.unpaid c.note_move-in-None.ensures.kept))
