use Rattle.std.proofs.Common.{◌≡◌, ◌∙◌, refl, sym, ap, [], ◌∷◌, map, unwrap_or, slice_get}
use Rattle.py_model.specs.Lists.{getitem}
use Rattle.py_model.specs.Operands.{gives}
use Rattle.py_model.specs.Plan.{looks}
use Rattle.py_value.specs.Contents.{contents}
use Rattle.py_value.specs.declared.value.Value.TheVariants.{None as NoneValue, Tuple}
use Rattle.op_work.specs.Work.{Ends}
use Rattle.op_work.proofs.Ending.{ends_then, ends_stop}
use Rattle.op_work.proofs.Going.{passes_err}
use Rattle.op_dicts.proofs.EndsEqual.{ends_equal}
use Rattle.op_lists.proofs.Tuples.{one_item}
use Rattle.op_items.proofs.GetPlans.{tuple_is, tuple_part, part_is}
use Rattle.op_items.proofs.gets.tuple_item.Goals as goal

pub returns-in_err-p : goal.returns-in_err-p
returns-in_err-p c =
    let items = c.tuple_of.result.now in
    passes_err (λ result. Ends (λ table. getitem (contents table (Tuple c.args.id) ∷ contents table c.args.w ∷ [])) c.args.work.now c.index_place.new.work result) c.from_residual.result c.from_residual.ensures.1
    (ends_equal (λ table. getitem (contents table (Tuple c.args.id) ∷ contents table c.args.w ∷ []))
    (λ table interned extends. tuple_is table c.args.id (contents table c.args.w) items (c.tuples_are_their_parts.ensures table c.args.id items interned (extends.tuples c.args.id items (c.index_place.ensures.kept.extends.tuples c.args.id items c.tuple_of.ensures.items))))
    (ends_stop (λ table p. tuple_part (map (contents table) items) p) _ c.in_err-p.ensures))

pub returns : goal.returns
returns c =
    let items = c.tuple_of.result.now in
    let there = c.index_place.ensures.kept.extends.tuples c.args.id items c.tuple_of.ensures.items in
    let same : items ≡ c.tuple_of-2.result.now = one_item _ _ (sym there ∙ c.tuple_of-2.ensures.items) in
    ends_equal (λ table. getitem (contents table (Tuple c.args.id) ∷ contents table c.args.w ∷ []))
    (λ table interned extends. tuple_is table c.args.id (contents table c.args.w) items (c.tuples_are_their_parts.ensures table c.args.id items interned (extends.tuples c.args.id items (c.look_answer.ensures.extends.tuples c.args.id items there))))
    (ends_then (λ table p. tuple_part (map (contents table) items) p) c.in_ok-p.ensures
    (λ table interned extends. ap (λ x. looks 1 (gives x)) (part_is (contents table) items c.in_ok-p.p refl
    ∙ ap (contents table) (ap (λ vs. unwrap_or (slice_get vs c.in_ok-p.p) NoneValue) same ∙ sym (c.unwrap_or-item.ensures ∙ ap (λ found. unwrap_or found NoneValue) c.part_at.ensures)))) c.look_answer.ensures)
