use Rattle.py_parser.proofs.BlockForms.{no_try, other_handler, handler_added}
use Rattle.py_parser.proofs.blocks.with_handler.Goals as goal

-- src/blocks.rt
pub returns-in_ok-push-in-Try : goal.returns-in_ok-push-in-Try
returns-in_ok-push-in-Try c = handler_added c.args.form c.in-Try.body c.in-Try.handlers c.args.class c.args.bound c.args.suite c.push.new.self c.in-Try.is c.in_ok-push-in-Try.ensures.items

-- src/blocks.rt
pub returns-in_default : goal.returns-in_default
returns-in_default c = other_handler _ _ _ _ (no_try _ c.in_default.not-Try)
