use Rattle.std.proofs.Common.{rules, ◌++◌, ◌∷◌, [], ap, ◌∙◌}
use Rattle.py_tree.specs.Erasure.{exprs_of}
use Rattle.value_links.specs.Links.{call_links, link}
use Rattle.value_links.proofs.LinkParts.{method_is}
use Rattle.value_links.proofs.expr_links.put_method.Goals as goal

pub returns : goal.returns
returns c = method_is c.args.at c.args.dot c.args.owner.now c.args.arguments.now c.len-count.result _ _ _ _ (search rules)
    (c.in_ok-push.ensures.items ∙ ap (λ l. c.args.links.now.items ++ l ∷ []) c.link.ensures ∙ ap (λ p. c.args.links.now.items ++ link c.args.dot 32 p ∷ []) c.value_of.ensures)
    (c.in_ok-put_call.ensures ∙ ap (λ p. c.push.new.self.items ++ call_links c.args.at p (exprs_of c.args.arguments.now)) c.point.ensures) c.in_ok-put_owner.ensures
