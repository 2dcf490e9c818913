use Rattle.std.proofs.Common.{map}
use Rattle.py_model.specs.Names.{const}
use Rattle.py_model.specs.Operations.{of_none}
use Rattle.py_value.specs.Contents.{contents}
use Rattle.op_work.proofs.Ending.{ends_fault, ends_gives}
use Rattle.op_numbers.proofs.NumberPlans.{none_is, not_none}
use Rattle.op_numbers.proofs.passing.constant.Goals as goal

pub returns-then-operands-ne0 : goal.returns-then-operands-ne0
returns-then-operands-ne0 c = ends_fault (λ table. of_none (const (contents table c.args.v)) (map (contents table) c.args.operands.now)) 9 _ c.fault.result c.fault.ensures
    (λ table interned extends. not_none (const (contents table c.args.v)) (contents table) c.args.operands.now c.if-operands-ne0.true)

pub returns : goal.returns
returns c = ends_gives (λ table. of_none (const (contents table c.args.v)) (map (contents table) c.args.operands.now)) c.args.work.now c.args.v c.requires.fresh c.requires.named
    (λ table interned extends. none_is (const (contents table c.args.v)) (contents table) c.args.operands.now c.if-operands-ne0.false)
