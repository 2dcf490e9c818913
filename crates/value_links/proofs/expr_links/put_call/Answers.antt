use Rattle.std.proofs.Common.{rules}
use Rattle.value_links.proofs.LinkParts.{call_is}
use Rattle.value_links.proofs.expr_links.put_call.Goals as goal

pub returns : goal.returns
returns c = call_is c.args.at c.args.called c.args.arguments.now c.len-count.result _ _ _ (search rules) c.in_ok-put_arguments.ensures c.in_ok-put_called.ensures
