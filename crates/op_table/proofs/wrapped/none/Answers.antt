use Rattle.std.proofs.Common.{map}
use Rattle.op_numbers.proofs.NumberPlans.{not_none}
use Rattle.op_work.proofs.Going.{fault_comes}
use Rattle.py_model.specs.Operations.{of_none}
use Rattle.py_model.specs.Plan.{Plan}
use Rattle.py_value.specs.Contents.{contents}
use Rattle.op_table.proofs.wrapped.none.Goals as goal

pub returns-then-operands-ne0 : goal.returns-then-operands-ne0
returns-then-operands-ne0 c = fault_comes (λ table (go : Unit {0} → Plan). of_none (go tt) (map (contents table) c.args.operands.now)) 9 _ c.fault.result c.fault.ensures
    (λ table interned extends go. not_none (go tt) (contents table) c.args.operands.now c.if-operands-ne0.true)
