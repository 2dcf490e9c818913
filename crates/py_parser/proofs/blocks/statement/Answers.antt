use Rattle.py_parser.proofs.BlockHeads.{stmt_first, stmt_none}
use Rattle.py_parser.proofs.blocks.statement.Goals as goal
use Rattle.py_parser.proofs.blocks.statement.Goals.{in-Some, in-None}

-- src/blocks.rt
pub returns : goal.returns
returns c = elim c.match-first.branch [
  | in-Some w ↦ stmt_first _ c.match-first.from _ c.in_ok-form.form c.args.form _ c.as_slice.result.now w.in-Some.first.now c.in_ok-form.ensures.ok w.from-is w.in-Some.ensures.value c.as_slice.ensures
  | in-None w ↦ stmt_none _ c.match-first.from _ c.in_ok-form.form c.args.form _ c.as_slice.result.now c.in_ok-form.ensures.ok w.from-is w.in-None.ensures.value c.as_slice.ensures
]
