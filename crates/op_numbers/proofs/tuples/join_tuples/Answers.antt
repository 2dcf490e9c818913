use Rattle.std.proofs.Common.{◌≡◌, ◌∙◌, refl, sym, ap, ◌+◌, ◌++◌, length, map}
use Rattle.op_work.specs.Work.{Ends}
use Rattle.py_model.specs.Arithmetic.{added}
use Rattle.py_model.specs.Effect.{parts_of}
use Rattle.py_model.specs.Operands.{gives}
use Rattle.py_model.specs.Plan.{looks}
use Rattle.py_value.specs.Contents.{contents, tuple}
use Rattle.py_value.specs.declared.value.Value.TheVariants.{Tuple}
use Rattle.op_work.proofs.Ending.{ends_then, ends_stop}
use Rattle.op_work.proofs.Going.{passes_err}
use Rattle.op_numbers.proofs.EndsAlike.{ends_as}
use Rattle.op_numbers.proofs.TuplePlans.{joined_is}
use Rattle.op_numbers.proofs.tuples.join_tuples.Goals as goal

pub returns-in_err-look : goal.returns-in_err-look
returns-in_err-look c = passes_err (λ result. Ends (λ table. added (contents table (Tuple c.args.a)) (contents table (Tuple c.args.b))) c.args.work.now c.look.new.self result) c.from_residual.result c.from_residual.ensures.1
    (ends_as (λ table. added (contents table (Tuple c.args.a)) (contents table (Tuple c.args.b))) (λ table. looks (length c.tuple_of.result.now + length c.tuple_of-2.result.now) (gives (tuple (parts_of (map (contents table) (c.tuple_of.result.now ++ c.tuple_of-2.result.now))))))
    (λ table interned extends. joined_is table c.args.a c.args.b c.tuple_of.result.now c.tuple_of-2.result.now
    (c.tuples_are_their_parts.ensures table c.args.a c.tuple_of.result.now interned (extends.tuples c.args.a c.tuple_of.result.now c.tuple_of.ensures.items))
    (c.tuples_are_their_parts.ensures table c.args.b c.tuple_of-2.result.now interned (extends.tuples c.args.b c.tuple_of-2.result.now c.tuple_of-2.ensures.items)))
    (ends_stop (λ table done. gives (tuple (parts_of (map (contents table) (c.tuple_of.result.now ++ c.tuple_of-2.result.now))))) _ c.in_err-look.ensures))

pub returns-in_err-joined : goal.returns-in_err-joined
returns-in_err-joined c =
    let items_is : c.in_ok-items.items.items ≡ c.tuple_of.result.now ++ c.tuple_of-2.result.now = c.in_ok-items.ensures.items c.tuple_of.result.now c.tuple_of-2.result.now
    (c.look.ensures.kept.extends.tuples c.args.a c.tuple_of.result.now c.tuple_of.ensures.items) (c.look.ensures.kept.extends.tuples c.args.b c.tuple_of-2.result.now c.tuple_of-2.ensures.items) in
    let same : c.as_slice.result.now ≡ c.tuple_of.result.now ++ c.tuple_of-2.result.now = c.as_slice.ensures.value ∙ items_is in
    passes_err (λ result. Ends (λ table. added (contents table (Tuple c.args.a)) (contents table (Tuple c.args.b))) c.args.work.now c.tuple.new.self result) c.from_residual-in_err-joined.result c.from_residual-in_err-joined.ensures.1
    (ends_as (λ table. added (contents table (Tuple c.args.a)) (contents table (Tuple c.args.b))) (λ table. looks (length c.tuple_of.result.now + length c.tuple_of-2.result.now) (gives (tuple (parts_of (map (contents table) (c.tuple_of.result.now ++ c.tuple_of-2.result.now))))))
    (λ table interned extends. joined_is table c.args.a c.args.b c.tuple_of.result.now c.tuple_of-2.result.now
    (c.tuples_are_their_parts.ensures table c.args.a c.tuple_of.result.now interned (extends.tuples c.args.a c.tuple_of.result.now c.tuple_of.ensures.items))
    (c.tuples_are_their_parts.ensures table c.args.b c.tuple_of-2.result.now interned (extends.tuples c.args.b c.tuple_of-2.result.now c.tuple_of-2.ensures.items)))
    (ends_then (λ table done. gives (tuple (parts_of (map (contents table) (c.tuple_of.result.now ++ c.tuple_of-2.result.now))))) c.in_ok-look.ensures (λ table interned extends. ap (λ l. gives (tuple (parts_of (map (contents table) l)))) (sym same))
    (ends_stop (λ table x. gives x) _ c.in_err-joined.ensures)))

pub returns : goal.returns
returns c =
    let items_is : c.in_ok-items.items.items ≡ c.tuple_of.result.now ++ c.tuple_of-2.result.now = c.in_ok-items.ensures.items c.tuple_of.result.now c.tuple_of-2.result.now
    (c.look.ensures.kept.extends.tuples c.args.a c.tuple_of.result.now c.tuple_of.ensures.items) (c.look.ensures.kept.extends.tuples c.args.b c.tuple_of-2.result.now c.tuple_of-2.ensures.items) in
    let same : c.as_slice.result.now ≡ c.tuple_of.result.now ++ c.tuple_of-2.result.now = c.as_slice.ensures.value ∙ items_is in
    ends_as (λ table. added (contents table (Tuple c.args.a)) (contents table (Tuple c.args.b))) (λ table. looks (length c.tuple_of.result.now + length c.tuple_of-2.result.now) (gives (tuple (parts_of (map (contents table) (c.tuple_of.result.now ++ c.tuple_of-2.result.now))))))
    (λ table interned extends. joined_is table c.args.a c.args.b c.tuple_of.result.now c.tuple_of-2.result.now
    (c.tuples_are_their_parts.ensures table c.args.a c.tuple_of.result.now interned (extends.tuples c.args.a c.tuple_of.result.now c.tuple_of.ensures.items))
    (c.tuples_are_their_parts.ensures table c.args.b c.tuple_of-2.result.now interned (extends.tuples c.args.b c.tuple_of-2.result.now c.tuple_of-2.ensures.items)))
    (ends_then (λ table done. gives (tuple (parts_of (map (contents table) (c.tuple_of.result.now ++ c.tuple_of-2.result.now))))) c.in_ok-look.ensures (λ table interned extends. ap (λ l. gives (tuple (parts_of (map (contents table) l)))) (sym same))
    (ends_then (λ table x. gives x) c.in_ok-joined.ensures (λ table interned extends. refl) c.value_answer.ensures))
