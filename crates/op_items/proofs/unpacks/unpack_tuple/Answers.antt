use Rattle.std.proofs.Common.{◌∙◌, refl, [], ◌∷◌, length}
use Rattle.py_model.specs.Lists.{unpack}
use Rattle.py_model.specs.Operands.{gives}
use Rattle.py_model.specs.Plan.{looks}
use Rattle.py_value.specs.Contents.{contents}
use Rattle.py_value.specs.declared.value.Value.TheVariants.{Tuple}
use Rattle.op_work.specs.Work.{Ends}
use Rattle.op_work.proofs.Ending.{ends_then, ends_stop, ends_fault}
use Rattle.op_work.proofs.Going.{passes_err}
use Rattle.op_dicts.proofs.EndsEqual.{ends_equal}
use Rattle.op_items.proofs.UnpackPlans.{tuple_parts, so_many, not_so_many}
use Rattle.op_items.proofs.unpacks.unpack_tuple.Goals as goal

pub returns-then-count-targets : goal.returns-then-count-targets
returns-then-count-targets c =
    let items = c.tuple_of.result.now in
    ends_fault (λ table. unpack c.args.targets (contents table (Tuple c.args.id) ∷ [])) 10 _ c.fault.result c.fault.ensures
    (λ table interned extends. tuple_parts table c.args.id c.args.targets items (c.tuples_are_their_parts.ensures table c.args.id items interned (extends.tuples c.args.id items (c.fault.ensures.kept.extends.tuples c.args.id items c.tuple_of.ensures.items)))
    ∙ not_so_many (length items) c.args.targets (looks c.args.targets (gives (contents table (Tuple c.args.id)))) c.if-count-targets.true)

pub returns-in_err-look : goal.returns-in_err-look
returns-in_err-look c =
    let items = c.tuple_of.result.now in
    passes_err (λ result. Ends (λ table. unpack c.args.targets (contents table (Tuple c.args.id) ∷ [])) c.args.work.now c.look.new.self result) c.from_residual.result c.from_residual.ensures.1
    (ends_equal (λ table. unpack c.args.targets (contents table (Tuple c.args.id) ∷ []))
    (λ table interned extends. tuple_parts table c.args.id c.args.targets items (c.tuples_are_their_parts.ensures table c.args.id items interned (extends.tuples c.args.id items (c.look.ensures.kept.extends.tuples c.args.id items c.tuple_of.ensures.items)))
    ∙ so_many (length items) c.args.targets (looks c.args.targets (gives (contents table (Tuple c.args.id)))) c.if-count-targets.false)
    (ends_stop (λ table x. gives (contents table (Tuple c.args.id))) _ c.in_err-look.ensures))

pub returns : goal.returns
returns c =
    let items = c.tuple_of.result.now in
    ends_equal (λ table. unpack c.args.targets (contents table (Tuple c.args.id) ∷ []))
    (λ table interned extends. tuple_parts table c.args.id c.args.targets items (c.tuples_are_their_parts.ensures table c.args.id items interned (extends.tuples c.args.id items (c.value_answer.ensures.extends.tuples c.args.id items (c.look.ensures.kept.extends.tuples c.args.id items c.tuple_of.ensures.items))))
    ∙ so_many (length items) c.args.targets (looks c.args.targets (gives (contents table (Tuple c.args.id)))) c.if-count-targets.false)
    (ends_then (λ table x. gives (contents table (Tuple c.args.id))) c.in_ok-look.ensures (λ table interned extends. refl) c.value_answer.ensures)
