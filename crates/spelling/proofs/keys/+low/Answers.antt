use Rattle.std.proofs.Common.{sym, ap, ◌∙◌, subst, arith, not, nat_lt}
use Rattle.py_model.specs.Printing.{height, height_in}
use Rattle.py_value.specs.Contents.{contents, parts_by}
use Rattle.py_value.specs.Values.{IsNamed}
use Rattle.py_model.proofs.Tuples.{parts_named}
use Rattle.spelling.proofs.KeyParts.{item_named, low_tuple}
use Rattle.spelling.proofs.keys.+low.Goals as goal

pub are_low-is_low-requires : goal.are_low-is_low-requires
are_low-is_low-requires t c = (omega (arith), item_named c.args.values.now c.args.items.now c.requires c.loop-i.i c.loop-i-test.true)

pub is_low-returns-then-levels-ne0 : goal.is_low-returns-then-levels-ne0
is_low-returns-then-levels-ne0 t c =
    let values = c.args.values.now in let items = c.tuple_of-items.result.now in
    let whole = c.tuples_are_their_parts.ensures values c.in-Tuple.id items c.tuple_of-items.ensures.interned c.tuple_of-items.ensures.tuple in
    c.are_low.ensures ∙ ap not (low_tuple c.args.levels (height_in (parts_by (contents values) items)) c.if-levels-ne0.true
    ∙ ap (λ v. nat_lt c.args.levels (height v)) (sym (ap (contents values) c.in-Tuple.is ∙ whole)))

pub is_low-are_low-requires : goal.is_low-are_low-requires
is_low-are_low-requires t c = (
  omega (arith, c.if-levels-ne0.true),
  parts_named c.args.values.now c.tuple_of-items.ensures.interned c.in-Tuple.id (subst (IsNamed c.args.values.now) c.in-Tuple.is c.requires) c.tuple_of-items.result.now c.tuple_of-items.ensures.tuple,
)
