use Rattle.std.proofs.Common.{sym, ◌∙◌, map}
use Rattle.py_model.specs.Dicts.{get_method as plan_get}
use Rattle.py_value.specs.Contents.{contents}
use Rattle.op_work.proofs.Ending.{ends_fault}
use Rattle.op_dicts.proofs.EndsEqual.{ends_equal}
use Rattle.op_dicts.proofs.OperandPlans.{no_dict, none_of, get_one, get_two, get_other, named_at_1, named_at_2}
use Rattle.op_dicts.proofs.methods.get_method.Goals as goal

pub returns-in_default : goal.returns-in_default
returns-in_default c = ends_fault (λ table. plan_get (map (contents table) c.args.operands.now)) 9 _ c.fault.result c.fault.ensures
    (λ table interned extends. no_dict table c.args.operands.now (sym c.object_first.ensures ∙ none_of c.object_first.result c.in_default.not-Some))

pub get-requires-clause-key : goal.get-requires-clause-key
get-requires-clause-key c = named_at_1 c.args.work.now.values c.args.operands.now c.requires.named

pub returns-then-operands-eq2 : goal.returns-then-operands-eq2
returns-then-operands-eq2 c = ends_equal (λ table. plan_get (map (contents table) c.args.operands.now))
    (λ table interned extends. get_one table c.args.operands.now c.in-Some.o (sym c.object_first.ensures ∙ c.in-Some.is) c.if-operands-eq2.true) c.get.ensures

pub get_or-requires-clause-key : goal.get_or-requires-clause-key
get_or-requires-clause-key c = named_at_1 c.args.work.now.values c.args.operands.now c.requires.named

pub get_or-requires-clause-instead : goal.get_or-requires-clause-instead
get_or-requires-clause-instead c = named_at_2 c.args.work.now.values c.args.operands.now c.requires.named

pub returns-then-operands-eq3 : goal.returns-then-operands-eq3
returns-then-operands-eq3 c = ends_equal (λ table. plan_get (map (contents table) c.args.operands.now))
    (λ table interned extends. get_two table c.args.operands.now c.in-Some.o (sym c.object_first.ensures ∙ c.in-Some.is) c.if-operands-eq3.true) c.get_or.ensures

pub returns : goal.returns
returns c = ends_fault (λ table. plan_get (map (contents table) c.args.operands.now)) 9 _ c.fault-2.result c.fault-2.ensures
    (λ table interned extends. get_other table c.args.operands.now c.in-Some.o (sym c.object_first.ensures ∙ c.in-Some.is) c.if-operands-eq2.false c.if-operands-eq3.false)
