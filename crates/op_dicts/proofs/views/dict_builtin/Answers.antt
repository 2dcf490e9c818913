use Rattle.std.proofs.Common.{rules, ◌≡◌, subst, [], map, length, ℕ}
use Rattle.py_model.specs.Dicts.{dict_builtin as dict_plan}
use Rattle.py_model.specs.Plan.{write, done}
use Rattle.py_value.specs.Contents.{contents, object}
use Rattle.py_value.specs.Seen.{order_at, order_is}
use Rattle.py_value.specs.declared.access.Kind.TheVariants.{Dict}
use Rattle.op_work.specs.Work.{WroteAll}
use Rattle.op_work.proofs.Ending.{ends_fault, ends_makes}
use Rattle.op_dicts.proofs.ViewPlans.{some_operands, no_operands}
use Rattle.op_dicts.proofs.views.dict_builtin.Goals as goal

pub returns-then-not-is_empty : goal.returns-then-not-is_empty
returns-then-not-is_empty c =
    let apart : length c.args.operands.now ≡ 0 → ⊥ = search rules in
    ends_fault (λ table. dict_plan (map (contents table) c.args.operands.now)) 9 _ c.fault.result c.fault.ensures (λ table interned extends. some_operands (contents table) c.args.operands.now apart)

pub returns : goal.returns
returns c =
    let none : length c.args.operands.now ≡ 0 = search rules in
    ends_makes (λ table. dict_plan (map (contents table) c.args.operands.now)) c.requires.fresh Dict (λ table o. write (order_at o) (order_is []) (done (object o))) c.make-o.ensures.made
    (λ table interned extends. no_operands (contents table) c.args.operands.now none)
    (subst (λ (o : ℕ). WroteAll (λ table. write (order_at o) (order_is []) (done (object o))) c.make-o.new.self c.set_empty.new.work c.set_empty.result) c.make-o.ensures.number c.set_empty.ensures)
