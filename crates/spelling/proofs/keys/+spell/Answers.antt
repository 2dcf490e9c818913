use Rattle.std.proofs.Common.{◌≡◌, sym, ap, ◌∙◌, subst, arith, suc, ◌≤◌, ◌==◌, string_bytes, ◌++◌, IfOk}
use Rattle.py_value.specs.Contents.{contents, parts_by}
use Rattle.py_model.proofs.Tuples.{parts_named}
use Rattle.py_model.specs.Printing.{height, height_in, key_text}
use Rattle.py_value.specs.Values.{IsNamed}
use Rattle.spelling.proofs.KeyParts.{item_named, item_low, all_spelled}
use Rattle.spelling.proofs.keys.+spell.Goals as goal

pub key_text-key_tuple-requires : goal.key_text-key_tuple-requires
key_text-key_tuple-requires t c =
    let values = c.args.values.now in let items = c.tuple_of.result.now in
    let whole = c.tuples_are_their_parts.ensures values c.in-Tuple.id items c.tuple_of.ensures.interned c.tuple_of.ensures.tuple in
    let low : suc (height_in (parts_by (contents values) items)) ≤ c.args.levels = subst (λ v. height v ≤ c.args.levels) (ap (contents values) c.in-Tuple.is ∙ whole) c.requires.low in
    (omega (arith, low), (parts_named values c.tuple_of.ensures.interned c.in-Tuple.id (subst (IsNamed values) c.in-Tuple.is c.requires.named) items c.tuple_of.ensures.tuple, omega (arith, low)))

pub key_text-returns-in-Tuple : goal.key_text-returns-in-Tuple
key_text-returns-in-Tuple t c =
    let values = c.args.values.now in
    let whole = c.tuples_are_their_parts.ensures values c.in-Tuple.id c.tuple_of.result.now c.tuple_of.ensures.interned c.tuple_of.ensures.tuple in
    subst (λ v. IfOk c.key_tuple.result (λ made. string_bytes made ≡ key_text v)) (sym (ap (contents values) c.in-Tuple.is ∙ whole)) c.key_tuple.ensures

pub key_tuple-key_text-requires : goal.key_tuple-key_text-requires
key_tuple-key_text-requires t c = (
  omega (arith),
  (
    item_named c.args.values.now c.args.items.now c.requires.named c.loop-i.i c.loop-i-test.true,
    item_low (contents c.args.values.now) c.args.items.now c.args.levels c.requires.low c.loop-i.i c.loop-i-test.true,
  ),
)

pub key_tuple-returns : goal.key_tuple-returns
key_tuple-returns t c = c.in_ok-push_str.ensures.bytes ∙ (ap (λ words. string_bytes c.loop-i.text ++ words) c.tuple_end.ensures
    ∙ all_spelled (contents c.args.values.now) c.args.items.now c.loop-i.i (c.loop-i.i == 0) (string_bytes c.loop-i.text) (omega (arith, c.loop-i-test.false)) c.loop-i.invariant)
