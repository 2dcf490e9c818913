use Rattle.std.proofs.Common.{◌∙◌}
use Rattle.interp_eval.proofs.Trees.{call_known}
use Rattle.interp_eval.proofs.node.node_for.Goals as goal

pub returns-in-Call : goal.returns-in-Call
returns-in-Call c = λ table. c.call_node.ensures table ∙ call_known c.in-Call.at c.in-Call.callee c.in-Call.arguments _ _ c.args.expr.now c.in-Call.is c.deref-in-Call.ensures c.as_slice.ensures.value
