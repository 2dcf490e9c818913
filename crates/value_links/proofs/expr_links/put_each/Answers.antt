use Rattle.std.proofs.Common.{◌++◌, ap, sym, ◌∙◌}
use Rattle.py_tree.proofs.ExprTrees.{exprs_tree}
use Rattle.value_links.specs.Links.{each_to}
use Rattle.value_links.proofs.LinkParts.{exprs_in}
use Rattle.value_links.proofs.expr_links.put_each.Goals as goal

pub loop-e-init : goal.loop-e-init
loop-e-init c = ap (λ es. c.args.links.now.items ++ each_to c.args.at c.args.kind (exprs_in es)) c.deref-e-items.ensures.value ∙ ap (λ es. c.args.links.now.items ++ each_to c.args.at c.args.kind es) (sym (exprs_tree c.args.items.now))
