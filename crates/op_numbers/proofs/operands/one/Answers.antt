use Rattle.std.proofs.Common.{map}
use Rattle.py_model.specs.Operands.{of_one}
use Rattle.py_model.specs.Plan.{Plan}
use Rattle.py_value.specs.Contents.{Contents, contents}
use Rattle.op_work.proofs.Going.{at_once, fault_comes}
use Rattle.op_numbers.proofs.NumberPlans.{one_is, not_one, one_named}
use Rattle.op_numbers.proofs.operands.one.Goals as goal

pub returns-then-operands-ne1 : goal.returns-then-operands-ne1
returns-then-operands-ne1 c = fault_comes (λ table (go : Contents → Plan). of_one go (map (contents table) c.args.operands.now)) 9 _ c.fault.result c.fault.ensures
    (λ table interned extends go. not_one go (contents table) c.args.operands.now c.if-operands-ne1.true)

pub returns : goal.returns
returns c = at_once (λ table (go : Contents → Plan). of_one go (map (contents table) c.args.operands.now)) c.args.work.now _
    (one_named c.args.work.now.values c.args.operands.now c.requires c.if-operands-ne1.false)
    (λ table interned extends go. one_is go (contents table) c.args.operands.now c.if-operands-ne1.false)
