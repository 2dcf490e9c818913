use Rattle.std.proofs.Common.{rules, ◌≡◌, sym, ◌∙◌, false}
use Rattle.op_work.proofs.Ending.{ends_fault}
use Rattle.op_table.specs.Table.{planned}
use Rattle.op_table.proofs.Numbered.{ends_missing, no_operation}
use Rattle.op_table.proofs.table.perform.Goals as goal

pub returns-then-not-is_operation : goal.returns-then-not-is_operation
returns-then-not-is_operation c =
    let none : c.is_operation.result ≡ false = search rules in
    ends_fault (planned c.args.op c.args.operands.now) 9 _ c.fault.result c.fault.ensures
    (λ table interned extends. no_operation c.args.op.no c.args.op c.args.operands.now table (sym c.is_operation.ensures ∙ none))

pub returns-in_default : goal.returns-in_default
returns-in_default c = ends_missing (planned c.args.op c.args.operands.now) c.args.work.now c.missing.result c.missing.ensures
