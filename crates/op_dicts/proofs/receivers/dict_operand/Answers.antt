use Rattle.std.proofs.Common.{rules, ◌≡◌, refl, sym, ◌∙◌, map, None, ℕ}
use Rattle.py_value.specs.Contents.{contents}
use Rattle.op_dicts.specs.Receivers.{with_dict}
use Rattle.op_work.specs.Work.{Comes, is_any, as_is}
use Rattle.py_model.specs.Plan.{Plan}
use Rattle.py_value.specs.Values.{ValuesView}
use Rattle.op_work.proofs.Going.{comes_same, comes_as, comes_stop, fault_comes, passes_err}
use Rattle.op_dicts.proofs.ReceiverPlans.{no_dict, dict_is, other_count}
use Rattle.op_dicts.proofs.receivers.dict_operand.Goals as goal

pub returns-in_default-clause-comes : goal.returns-in_default-clause-comes
returns-in_default-clause-comes c =
    let none : c.first_object.result ≡ None = search rules in
    fault_comes (λ table. with_dict c.args.count (map (contents table) c.args.operands.now)) 9 _ c.fault.result c.fault.ensures
    (λ table interned extends go. no_dict table c.args.operands.now c.args.count go (sym c.first_object.ensures ∙ none))

pub returns-then-operands-count-clause-comes : goal.returns-then-operands-count-clause-comes
returns-then-operands-count-clause-comes c =
    fault_comes (λ table. with_dict c.args.count (map (contents table) c.args.operands.now)) 9 _ c.fault-then-operands-count.result c.fault-then-operands-count.ensures
    (λ table interned extends go. other_count table c.args.operands.now c.args.count go c.in-Some.o (sym c.first_object.ensures ∙ c.in-Some.is) c.if-operands-count.true)

abbrev it : ℕ → ValuesView → Unit {0} → (ℕ → Plan) → Plan
it o table x go = go o

pub returns-in_err-dict-clause-comes : goal.returns-in_err-dict-clause-comes
returns-in_err-dict-clause-comes c = passes_err (λ result. Comes is_any as_is (λ table. with_dict c.args.count (map (contents table) c.args.operands.now)) c.args.work.now c.dict.new.work result) c.from_residual.result c.from_residual.ensures.1
    (comes_same (λ table. with_dict c.args.count (map (contents table) c.args.operands.now))
    (λ table interned extends go. dict_is table c.args.operands.now c.args.count go c.in-Some.o (sym c.first_object.ensures ∙ c.in-Some.is) c.if-operands-count.false)
    (comes_stop (it c.in-Some.o) c.in_err-dict.ensures.comes))

pub returns-clause-comes : goal.returns-clause-comes
returns-clause-comes c = comes_same (λ table. with_dict c.args.count (map (contents table) c.args.operands.now))
    (λ table interned extends go. dict_is table c.args.operands.now c.args.count go c.in-Some.o (sym c.first_object.ensures ∙ c.in-Some.is) c.if-operands-count.false)
    (comes_as (it c.in-Some.o) c.in-Some.o c.in_ok-dict.ensures.comes tt (λ table interned extends go. refl))
