use Rattle.std.proofs.Common.{◌≡◌, ◌++◌, drop}
use Rattle.py_tree.specs.Erasure.{exprs_of}
use Rattle.value_links.specs.Links.{each_to}
use Rattle.value_links.proofs.LinkParts.{exprs_in}
use Rattle.value_links.proofs.expr_links.put_each.Given as goal

abbrev pub invariant-loop-e : goal.invariant-loop-e
invariant-loop-e l = l.links.items ++ each_to l.at l.kind (exprs_in (drop l.e-index l.e-items)) ≡ l.fn.links.items ++ each_to l.at l.kind (exprs_of l.items)
