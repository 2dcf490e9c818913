use Rattle.std.proofs.Common.{◌∙◌, sym, map}
use Rattle.py_value.specs.Contents.{contents}
use Rattle.op_work.proofs.Going.{at_once, fault_comes}
use Rattle.op_files.specs.Operands.{of_object}
use Rattle.op_files.proofs.ObjectOperands.{not_one, no_object, an_object}
use Rattle.op_files.proofs.operands.one_object.Goals as goal

pub returns-then-operands-ne1 : goal.returns-then-operands-ne1
returns-then-operands-ne1 c = fault_comes (λ table. of_object (map (contents table) c.args.operands.now)) 9 _ c.fault.result c.fault.ensures
    (λ table interned extends go. not_one (contents table) c.args.operands.now go c.if-operands-ne1.true)

pub returns-in-None : goal.returns-in-None
returns-in-None c = fault_comes (λ table. of_object (map (contents table) c.args.operands.now)) 9 _ c.fault-in-None.result c.fault-in-None.ensures
    (λ table interned extends go. no_object table c.args.operands.now go c.if-operands-ne1.false (sym c.object_in.ensures ∙ c.in-None.is))

pub returns-in-Some : goal.returns-in-Some
returns-in-Some c = at_once (λ table. of_object (map (contents table) c.args.operands.now)) c.args.work.now c.in-Some.o tt
    (λ table interned extends go. an_object table c.args.operands.now go c.in-Some.o c.if-operands-ne1.false (sym c.object_in.ensures ∙ c.in-Some.is))
