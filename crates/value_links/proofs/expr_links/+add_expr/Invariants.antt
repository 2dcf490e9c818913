use Rattle.std.proofs.Common.{◌≡◌, ◌++◌, drop}
use Rattle.py_tree.specs.Erasure.{exprs_of, pairs_of}
use Rattle.value_links.specs.Links.{exprs_links, pairs_links}
use Rattle.value_links.proofs.LinkParts.{exprs_in, pairs_in}
use Rattle.value_links.proofs.expr_links.+add_expr.Given as goal

abbrev pub invariant-add_exprs-loop-e : goal.invariant-add_exprs-loop-e
invariant-add_exprs-loop-e l = l.links.items ++ exprs_links (exprs_in (drop l.e-index l.e-items)) ≡ l.fn.links.items ++ exprs_links (exprs_of l.items)

abbrev pub invariant-add_pairs-loop-key : goal.invariant-add_pairs-loop-key
invariant-add_pairs-loop-key l = l.links.items ++ pairs_links l.at (pairs_in (drop l.key-index l.key-items)) ≡ l.fn.links.items ++ pairs_links l.at (pairs_of l.pairs)
