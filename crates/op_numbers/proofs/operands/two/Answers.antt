use Rattle.std.proofs.Common.{map}
use Rattle.py_model.specs.Operands.{of_two}
use Rattle.py_model.specs.Plan.{Plan}
use Rattle.py_value.specs.Contents.{Contents, contents}
use Rattle.op_work.proofs.Going.{at_once, fault_comes}
use Rattle.op_numbers.proofs.NumberPlans.{two_is, not_two, two_named}
use Rattle.op_numbers.proofs.operands.two.Goals as goal

pub returns-then-operands-ne2 : goal.returns-then-operands-ne2
returns-then-operands-ne2 c = fault_comes (λ table (go : Contents × Contents → Plan). of_two (λ v w. go (v, w)) (map (contents table) c.args.operands.now)) 9 _ c.fault.result c.fault.ensures
    (λ table interned extends go. not_two (λ v w. go (v, w)) (contents table) c.args.operands.now c.if-operands-ne2.true)

pub returns : goal.returns
returns c = at_once (λ table (go : Contents × Contents → Plan). of_two (λ v w. go (v, w)) (map (contents table) c.args.operands.now)) c.args.work.now _
    (two_named c.args.work.now.values c.args.operands.now c.requires c.if-operands-ne2.false)
    (λ table interned extends go. two_is (λ v w. go (v, w)) (contents table) c.args.operands.now c.if-operands-ne2.false)
