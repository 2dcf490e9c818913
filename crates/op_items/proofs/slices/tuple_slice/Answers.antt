use Rattle.std.proofs.Common.{◌∙◌, refl, sym, ap, subst, ◌+◌, ◌≤◌, ℕ, ℤ, Option, List, map, length, [], ◌∷◌}
use Rattle.op_dicts.proofs.EndsEqual.{ends_equal}
use Rattle.op_lists.proofs.Tuples.{one_item}
use Rattle.op_work.specs.Work.{Ends}
use Rattle.op_work.proofs.Ending.{ends_then, ends_stop}
use Rattle.op_work.proofs.Going.{passes_err}
use Rattle.py_model.specs.Effect.{parts_of}
use Rattle.py_model.specs.Lists.{slice}
use Rattle.py_model.specs.Operands.{gives}
use Rattle.py_model.specs.Places.{part_from}
use Rattle.py_model.specs.Plan.{Plan}
use Rattle.py_value.specs.Contents.{contents, tuple}
use Rattle.py_value.specs.Values.{ValuesView}
use Rattle.py_value.specs.declared.value.Value.{Value}
use Rattle.py_value.specs.declared.value.Value.TheVariants.{Tuple}
use Rattle.op_items.specs.Bounds.{part_of}
use Rattle.op_items.proofs.SlicePlans.{tuple_is, parts_looked, part_map}
use Rattle.op_items.proofs.slices.tuple_slice.Goals as goal

abbrev second : List Value → ℕ → ℕ → ValuesView → Unit {0} → Plan
second items p m table x = gives (tuple (parts_of (part_from p m (map (contents table) items))))

abbrev first : List Value → ValuesView → Option ℤ × Option ℤ → Plan
first items table found = parts_looked (map (contents table) items) (part_of found.0 found.1 (length items))

pub parts_from-requires-clause-within : goal.parts_from-requires-clause-within
parts_from-requires-clause-within c = λ items is.
    let there = c.look.ensures.kept.extends.tuples c.args.id _ (c.bounds.ensures.kept.extends.tuples c.args.id _ c.tuple_of.ensures.items) in
    subst (λ (vs : List Value). c.part-first.result.0 + c.part-first.result.1 ≤ length vs) (one_item _ items (sym there ∙ is)) c.part-first.ensures.within

pub returns-in_err-found : goal.returns-in_err-found
returns-in_err-found c =
    let items = c.tuple_of.result.now in
    passes_err (λ result. Ends (λ table. slice (contents table (Tuple c.args.id) ∷ contents table c.args.low ∷ contents table c.args.high ∷ [])) c.args.work.now c.bounds.new.work result) c.from_residual.result c.from_residual.ensures.1
    (ends_equal (λ table. slice (contents table (Tuple c.args.id) ∷ contents table c.args.low ∷ contents table c.args.high ∷ []))
    (λ table interned extends. tuple_is table c.args.id (contents table c.args.low) (contents table c.args.high) items (c.tuples_are_their_parts.ensures table c.args.id items interned (extends.tuples c.args.id items (c.bounds.ensures.kept.extends.tuples c.args.id items c.tuple_of.ensures.items))))
    (ends_stop (first items) _ c.in_err-found.ensures))

pub returns-in_err-look : goal.returns-in_err-look
returns-in_err-look c =
    let items = c.tuple_of.result.now in
    let there = c.look.ensures.kept.extends.tuples c.args.id items (c.bounds.ensures.kept.extends.tuples c.args.id items c.tuple_of.ensures.items) in
    passes_err (λ result. Ends (λ table. slice (contents table (Tuple c.args.id) ∷ contents table c.args.low ∷ contents table c.args.high ∷ [])) c.args.work.now c.look.new.self result) c.from_residual-in_err-look.result c.from_residual-in_err-look.ensures.1
    (ends_equal (λ table. slice (contents table (Tuple c.args.id) ∷ contents table c.args.low ∷ contents table c.args.high ∷ []))
    (λ table interned extends. tuple_is table c.args.id (contents table c.args.low) (contents table c.args.high) items (c.tuples_are_their_parts.ensures table c.args.id items interned (extends.tuples c.args.id items there)))
    (ends_then (first items) c.in_ok-found.ensures (λ table interned extends. ap (parts_looked (map (contents table) items)) (sym c.part-first.ensures.part))
    (ends_stop (second items c.part-first.result.0 c.part-first.result.1) _ c.in_err-look.ensures)))

pub returns-in_err-made : goal.returns-in_err-made
returns-in_err-made c =
    let items = c.tuple_of.result.now in
    let looked = c.look.ensures.kept.extends.tuples c.args.id items (c.bounds.ensures.kept.extends.tuples c.args.id items c.tuple_of.ensures.items) in
    let there = c.tuple.ensures.kept.extends.tuples c.args.id items looked in
    passes_err (λ result. Ends (λ table. slice (contents table (Tuple c.args.id) ∷ contents table c.args.low ∷ contents table c.args.high ∷ [])) c.args.work.now c.tuple.new.self result) c.from_residual-in_err-made.result c.from_residual-in_err-made.ensures.1
    (ends_equal (λ table. slice (contents table (Tuple c.args.id) ∷ contents table c.args.low ∷ contents table c.args.high ∷ []))
    (λ table interned extends. tuple_is table c.args.id (contents table c.args.low) (contents table c.args.high) items (c.tuples_are_their_parts.ensures table c.args.id items interned (extends.tuples c.args.id items there)))
    (ends_then (first items) c.in_ok-found.ensures (λ table interned extends. ap (parts_looked (map (contents table) items)) (sym c.part-first.ensures.part))
    (ends_then (second items c.part-first.result.0 c.part-first.result.1) c.in_ok-look.ensures
    (λ table interned extends. ap (λ cs. gives (tuple (parts_of cs))) (part_map (contents table) c.part-first.result.0 c.part-first.result.1 items
    ∙ ap (map (contents table)) (sym (c.as_slice.ensures.value ∙ c.in_ok-items.ensures.parts items looked))))
    (ends_stop (λ table v. gives v) _ c.in_err-made.ensures))))

pub returns : goal.returns
returns c =
    let items = c.tuple_of.result.now in
    let looked = c.look.ensures.kept.extends.tuples c.args.id items (c.bounds.ensures.kept.extends.tuples c.args.id items c.tuple_of.ensures.items) in
    let there = c.value_answer.ensures.extends.tuples c.args.id items (c.tuple.ensures.kept.extends.tuples c.args.id items looked) in
    ends_equal (λ table. slice (contents table (Tuple c.args.id) ∷ contents table c.args.low ∷ contents table c.args.high ∷ []))
    (λ table interned extends. tuple_is table c.args.id (contents table c.args.low) (contents table c.args.high) items (c.tuples_are_their_parts.ensures table c.args.id items interned (extends.tuples c.args.id items there)))
    (ends_then (first items) c.in_ok-found.ensures (λ table interned extends. ap (parts_looked (map (contents table) items)) (sym c.part-first.ensures.part))
    (ends_then (second items c.part-first.result.0 c.part-first.result.1) c.in_ok-look.ensures
    (λ table interned extends. ap (λ cs. gives (tuple (parts_of cs))) (part_map (contents table) c.part-first.result.0 c.part-first.result.1 items
    ∙ ap (map (contents table)) (sym (c.as_slice.ensures.value ∙ c.in_ok-items.ensures.parts items looked))))
    (ends_then (λ table v. gives v) c.in_ok-made.ensures (λ table interned extends. refl) c.value_answer.ensures)))
