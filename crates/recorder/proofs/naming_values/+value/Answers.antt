use Rattle.std.proofs.Common.{rules, ◌<◌, ◌+◌, map, length, drop, sym, ap, subst, ◌∙◌, arith}
use Rattle.std.proofs.Math.ListN.{get_or}
use Rattle.std.proofs.lemmas.Option.{slice_get-get_or, slice_get_within}
use Rattle.py_value.specs.Contents.{contents}
use Rattle.py_value.specs.Seen.{value_at}
use Rattle.py_value.specs.Values.{IsBelow, AreNamed, AreBelow}
use Rattle.py_value.specs.declared.value.Value.TheVariants.{None as NoneValue, Tuple}
use Rattle.row_words.specs.Fits.{Each, IsValue, AreValues}
use Rattle.recorder.proofs.InRange.{each_more}
use Rattle.recorder.specs.Naming.{named_in}
use Rattle.recorder.specs.Numbers.{NumbersValue, NumbersTuple, Goes}
use Rattle.recorder.proofs.Naming.{same_extends}
use Rattle.recorder.proofs.Numbering.{tuple_numbers, are_named, parts_named, one_turn, last_turn}
use Rattle.recorder.proofs.Walking.{ready_later, ready_more, walked_numbers}
use Rattle.recorder.proofs.naming_values.+value.Goals as goal

pub value_below-values_below-requires : goal.value_below-values_below-requires
value_below-values_below-requires t c =
    let view = c.args.values.now in
    let id = c.in-Tuple.id in
    let items = c.tuple_of.result.now in
    let interned = c.tuple_of.ensures.interned in
    let within : id < c.args.below = subst (IsBelow (length view.texts) c.args.below) c.in-Tuple.is c.requires.below in (
      omega (arith, within, c.from.ensures, c.decreases),
      (c.requires.own, (parts_named view interned id items c.tuple_of.ensures.tuple, subst (λ n. AreBelow (length view.texts) n items) (sym c.from.ensures) (interned.parts id items c.tuple_of.ensures.tuple))),
    )

pub value_below-tuple-requires : goal.value_below-tuple-requires
value_below-tuple-requires t c =
    let one = c.in_ok-items-in-Tuple.ensures.numbers in
    let view = c.values_below.new.namer.view in
    record {
      named = subst (AreNamed view) (sym c.as_slice.ensures.value)
          (are_named view one.extends.interned (map (contents c.args.values.now) c.tuple_of.result.now) c.in_ok-items-in-Tuple.items.items (one.writes view (same_extends view one.extends.interned)));
      fits = subst AreValues (sym c.as_slice.ensures.value) c.in_ok-items-in-Tuple.ensures.fits;
    }

pub value_below-returns-in_ok-note-in-Tuple-clause-numbers : goal.value_below-returns-in_ok-note-in-Tuple-clause-numbers
value_below-returns-in_ok-note-in-Tuple-clause-numbers t c =
    let view = c.args.values.now in
    let mid = c.values_below.new.namer in
    let now = c.tuple.new.self in
    let n = c.in_ok-number-in-Tuple.number in
    let items = c.tuple_of.result.now in
    let one : NumbersTuple c.in_ok-items-in-Tuple.items.items mid now n = subst (λ vs. NumbersTuple vs mid now n) c.as_slice.ensures.value c.in_ok-number-in-Tuple.ensures in
    subst (λ b. NumbersValue b c.args.namer.now now (Tuple n))
    (sym (ap (contents view) c.in-Tuple.is ∙ c.tuples_are_their_parts.ensures view c.in-Tuple.id items c.tuple_of.ensures.interned c.tuple_of.ensures.tuple))
    (tuple_numbers (contents view) items c.args.namer.now mid now c.in_ok-items-in-Tuple.items.items n c.in_ok-items-in-Tuple.ensures.numbers one)

pub value_below-returns-in_ok-note-in-Tuple-clause-ready : goal.value_below-returns-in_ok-note-in-Tuple-clause-ready
value_below-returns-in_ok-note-in-Tuple-clause-ready t c =
    let view = c.args.values.now in
    let id = c.in-Tuple.id in
    let mid = c.values_below.new.namer in
    let now = c.tuple.new.self in
    let n = c.in_ok-number-in-Tuple.number in
    let items = c.tuple_of.result.now in
    let one : NumbersTuple c.in_ok-items-in-Tuple.items.items mid now n = subst (λ vs. NumbersTuple vs mid now n) c.as_slice.ensures.value c.in_ok-number-in-Tuple.ensures in
    ready_more view c.args.namer.now now c.values_below.new.walked c.note.new.self id n
    (ready_later view mid.view now.view c.values_below.new.walked c.in_ok-items-in-Tuple.ensures.ready one.extends)
    (subst (λ b. NumbersValue b c.args.namer.now now (Tuple n))
    (sym (c.tuples_are_their_parts.ensures view id items c.tuple_of.ensures.interned c.tuple_of.ensures.tuple))
    (tuple_numbers (contents view) items c.args.namer.now mid now c.in_ok-items-in-Tuple.items.items n c.in_ok-items-in-Tuple.ensures.numbers one))
    c.in_ok-note-in-Tuple.ensures (slice_get_within now.view.tuples n c.in_ok-items-in-Tuple.items.items one.at)

pub value_below-returns-in-Some-clause-numbers : goal.value_below-returns-in-Some-clause-numbers
value_below-returns-in-Some-clause-numbers t c =
    let view = c.args.values.now in
    subst (λ b. NumbersValue b c.args.namer.now c.args.namer.now (Tuple c.in-Some.number)) (sym (ap (contents view) c.in-Tuple.is))
    (walked_numbers view c.args.namer.now c.args.walked.now c.in-Tuple.id c.in-Some.number c.requires.own (sym c.number_of.ensures ∙ c.in-Some.is))

pub values_below-loop-item-init : goal.values_below-loop-item-init
values_below-loop-item-init t c = (rw c.new-own.ensures.items (λ rest end more. more), (c.requires.own, subst (Each IsValue) (sym c.new-own.ensures.items) tt))

pub values_below-value_below-requires : goal.values_below-value_below-requires
values_below-value_below-requires t c =
    let items = c.args.items.now in
    let i = c.loop-item.item-index in
    let item = get_or items i NoneValue in
    let at = slice_get-get_or items i NoneValue c.loop-item-test.true in
    (omega (arith, c.decreases), (c.loop-item.invariant.1.0, (c.requires.named i item at, c.requires.below i item at)))

pub values_below-loop-item-preserved : goal.values_below-loop-item-preserved
values_below-loop-item-preserved t c =
    let f = contents c.args.values.now in
    let items = c.args.items.now in
    let i = c.loop-item.item-index in
    let now = c.value_below.new.namer in (
      subst (λ done. Goes contents value_at named_in (map f items) (map f (drop (i + 1) items)) c.args.namer.now now done) (sym c.in_ok-push.ensures.items)
          (one_turn contents value_at named_in f items i NoneValue (map f items) c.args.namer.now c.loop-item.namer now c.loop-item.own.items c.in_ok-v.v c.loop-item-test.true c.loop-item.invariant.0 c.in_ok-v.ensures.numbers),
      (c.in_ok-v.ensures.ready, subst (Each IsValue) (sym c.in_ok-push.ensures.items) (each_more IsValue c.loop-item.own.items c.in_ok-v.v c.loop-item.invariant.1.1 c.in_ok-v.ensures.fits)),
    )

pub values_below-returns-clause-numbers : goal.values_below-returns-clause-numbers
values_below-returns-clause-numbers t c =
    let f = contents c.args.values.now in
    let items = c.args.items.now in
    last_turn contents value_at named_in f items c.loop-item.item-index (map f items) c.args.namer.now c.loop-item.namer c.loop-item.own.items c.loop-item-test.false c.loop-item.invariant.0 c.loop-item.invariant.1.0.interned

pub values_below-returns-clause-fits : goal.values_below-returns-clause-fits
values_below-returns-clause-fits t c = (search rules, c.loop-item.invariant.1.1)
