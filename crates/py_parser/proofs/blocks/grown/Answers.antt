use Rattle.py_parser.proofs.BlockHeads.{part_grown}
use Rattle.py_parser.proofs.blocks.grown.Goals as goal

-- src/blocks.rt
pub returns-then-is_part : goal.returns-then-is_part
returns-then-is_part c h is other = part_grown c.args.no h _ _ _ _ c.pop.new.self.items _ c.in-Some.stmt c.in_ok-with_part.field-0 (c.if-is_part.ensures h is.0) c.in-Some.ensures.items c.in_ok-push.ensures.items (c.in_ok-with_part.ensures h is.0)
