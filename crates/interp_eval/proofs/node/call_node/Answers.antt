use Rattle.interp_eval.proofs.Trees.{other_call}
use Rattle.interp_eval.proofs.node.call_node.Goals as goal

pub returns-in_default : goal.returns-in_default
returns-in_default c = λ table. other_call c.args.at c.args.callee.now c.args.arguments.now c.in_default.not-Attr
