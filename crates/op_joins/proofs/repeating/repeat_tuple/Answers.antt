use Rattle.std.proofs.Common.{rules, ◌≡◌, ◌∙◌, refl, sym, ap, subst, ◌*◌, length, map}
use Rattle.py_model.specs.Arithmetic.{repeated, repeats}
use Rattle.py_model.specs.Effect.{parts_of}
use Rattle.py_model.specs.Operands.{gives}
use Rattle.py_model.specs.Plan.{looks}
use Rattle.py_value.specs.Contents.{contents, tuple}
use Rattle.py_value.specs.Values.{AreNamed}
use Rattle.py_value.specs.declared.value.Value.TheVariants.{Tuple}
use Rattle.op_numbers.proofs.EndsAlike.{ends_as}
use Rattle.op_lists.proofs.Tuples.{one_item}
use Rattle.op_work.specs.Work.{Ends}
use Rattle.op_work.proofs.Ending.{ends_then, ends_stop}
use Rattle.op_work.proofs.Going.{passes_err}
use Rattle.op_joins.proofs.ManyTimes.{named_times}
use Rattle.op_joins.proofs.ProductPlans.{tuple_times}
use Rattle.op_joins.proofs.repeating.repeat_tuple.Goals as goal

pub tuple-requires : goal.tuple-requires
tuple-requires c = subst (AreNamed c.look.new.self.values) (sym (c.as_slice.ensures.value ∙ c.in_ok-items.ensures))
    (named_times c.look.new.self.values c.args.n c.tuple_of-2.result.now c.tuple_of-2.ensures.named)

pub returns-in_err-look : goal.returns-in_err-look
returns-in_err-look c =
    let items = c.tuple_of.result.now in let n = c.args.n in
    let found : c.in-Some.count ≡ length items * n = search rules in
    passes_err (λ result. Ends (λ table. repeats (contents table (Tuple c.args.id)) c.args.n) c.args.work.now c.look.new.self result) c.from_residual.result c.from_residual.ensures.1
    (ends_as (λ table. repeats (contents table (Tuple c.args.id)) c.args.n) (λ table. looks c.in-Some.count (gives (tuple (parts_of (map (contents table) (repeated n items))))))
    (λ table interned extends. tuple_times table c.args.id n c.in-Some.count items (c.tuples_are_their_parts.ensures table c.args.id items interned (extends.tuples c.args.id items c.tuple_of.ensures.items)) found)
    (ends_stop (λ table done. gives (tuple (parts_of (map (contents table) (repeated n items))))) _ c.in_err-look.ensures))

pub returns-in_err-made : goal.returns-in_err-made
returns-in_err-made c =
    let items = c.tuple_of.result.now in let n = c.args.n in
    let found : c.in-Some.count ≡ length items * n = search rules in
    let now = one_item items c.tuple_of-2.result.now (sym (c.look.ensures.kept.extends.tuples c.args.id items c.tuple_of.ensures.items) ∙ c.tuple_of-2.ensures.items) in
    let same = ap (repeated n) now ∙ (sym c.in_ok-items.ensures ∙ sym c.as_slice.ensures.value) in
    passes_err (λ result. Ends (λ table. repeats (contents table (Tuple c.args.id)) c.args.n) c.args.work.now c.tuple.new.self result) c.from_residual-in_err-made.result c.from_residual-in_err-made.ensures.1
    (ends_as (λ table. repeats (contents table (Tuple c.args.id)) c.args.n) (λ table. looks c.in-Some.count (gives (tuple (parts_of (map (contents table) (repeated n items))))))
    (λ table interned extends. tuple_times table c.args.id n c.in-Some.count items (c.tuples_are_their_parts.ensures table c.args.id items interned (extends.tuples c.args.id items c.tuple_of.ensures.items)) found)
    (ends_then (λ table done. gives (tuple (parts_of (map (contents table) (repeated n items))))) c.in_ok-look.ensures (λ table interned extends. ap (λ l. gives (tuple (parts_of (map (contents table) l)))) same)
    (ends_stop (λ table x. gives x) _ c.in_err-made.ensures)))

pub returns : goal.returns
returns c =
    let items = c.tuple_of.result.now in let n = c.args.n in
    let found : c.in-Some.count ≡ length items * n = search rules in
    let now = one_item items c.tuple_of-2.result.now (sym (c.look.ensures.kept.extends.tuples c.args.id items c.tuple_of.ensures.items) ∙ c.tuple_of-2.ensures.items) in
    let same = ap (repeated n) now ∙ (sym c.in_ok-items.ensures ∙ sym c.as_slice.ensures.value) in
    (ends_as (λ table. repeats (contents table (Tuple c.args.id)) c.args.n) (λ table. looks c.in-Some.count (gives (tuple (parts_of (map (contents table) (repeated n items))))))
    (λ table interned extends. tuple_times table c.args.id n c.in-Some.count items (c.tuples_are_their_parts.ensures table c.args.id items interned (extends.tuples c.args.id items c.tuple_of.ensures.items)) found)
    (ends_then (λ table done. gives (tuple (parts_of (map (contents table) (repeated n items))))) c.in_ok-look.ensures (λ table interned extends. ap (λ l. gives (tuple (parts_of (map (contents table) l)))) same)
    (ends_then (λ table x. gives x) c.in_ok-made.ensures (λ table interned extends. refl) c.value_answer.ensures)))
