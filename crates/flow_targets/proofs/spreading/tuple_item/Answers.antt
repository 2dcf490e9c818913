use Rattle.std.proofs.Common.{arith, ap, sym, ◌∙◌}
use Rattle.std.specs.Option.{option_map}
use Rattle.py_value.specs.Contents.{Contents, contents}
use Rattle.py_value.specs.declared.value.Value.TheVariants.{Tuple}
use Rattle.py_value.proofs.Interning.{below_more}
use Rattle.py_model.specs.Statements.{first_of, parts_in}
use Rattle.flow_frames.specs.Machine.{parts_from}
use Rattle.flow_targets.proofs.ItemsOf.{item_is, item_of}
use Rattle.flow_targets.proofs.spreading.tuple_item.Goals as goal

pub returns-in-None-clause-means : goal.returns-in-None-clause-means
returns-in-None-clause-means c = λ table texts tuples.
    let own = c.args.values.now in
    ap (item_of (contents own)) (sym (ap (option_map (λ v. v.now)) c.in-None.is) ∙ c.item_in.ensures)
    ∙ item_is (contents own) c.tuple_of-items.result.now c.args.number
    ∙ sym (ap (λ (x : Contents). first_of (parts_from c.args.number (parts_in x))) (c.contents_stay.ensures own table (Tuple c.args.id) c.tuple_of-items.ensures.interned texts tuples c.requires
    ∙ c.tuples_are_their_parts.ensures own c.args.id c.tuple_of-items.result.now c.tuple_of-items.ensures.interned c.tuple_of-items.ensures.tuple))

pub returns-in-Some-clause-named : goal.returns-in-Some-clause-named
returns-in-Some-clause-named c =
    below_more _ c.args.id _ _ c.in-Some.item.now (omega arith) (omega (arith, c.requires))
    (c.tuple_of-items.ensures.interned.parts c.args.id c.tuple_of-items.result.now c.tuple_of-items.ensures.tuple c.args.number c.in-Some.item.now (sym c.item_in.ensures ∙ ap (option_map (λ v. v.now)) c.in-Some.is))

pub returns-in-Some-clause-means : goal.returns-in-Some-clause-means
returns-in-Some-clause-means c = λ table texts tuples.
    let own = c.args.values.now in
    c.contents_stay.ensures own table c.in-Some.item.now c.tuple_of-items.ensures.interned texts tuples
    (below_more _ c.args.id _ _ c.in-Some.item.now (omega arith) (omega (arith, c.requires))
    (c.tuple_of-items.ensures.interned.parts c.args.id c.tuple_of-items.result.now c.tuple_of-items.ensures.tuple c.args.number c.in-Some.item.now (sym c.item_in.ensures ∙ ap (option_map (λ v. v.now)) c.in-Some.is)))
    ∙ ap (item_of (contents own)) (sym (ap (option_map (λ v. v.now)) c.in-Some.is) ∙ c.item_in.ensures)
    ∙ item_is (contents own) c.tuple_of-items.result.now c.args.number
    ∙ sym (ap (λ (x : Contents). first_of (parts_from c.args.number (parts_in x))) (c.contents_stay.ensures own table (Tuple c.args.id) c.tuple_of-items.ensures.interned texts tuples c.requires
    ∙ c.tuples_are_their_parts.ensures own c.args.id c.tuple_of-items.result.now c.tuple_of-items.ensures.interned c.tuple_of-items.ensures.tuple))
