use Rattle.std.proofs.Common.{◌++◌, ap, sym, ◌∙◌}
use Rattle.py_tree.proofs.TargetTrees.{targets_tree}
use Rattle.value_links.specs.Links.{target_links, targets_links}
use Rattle.value_links.proofs.LinkParts.{two_parts}
use Rattle.value_links.proofs.TargetForms.{targets_in, many_of}
use Rattle.value_links.proofs.target_links.+add_target.Goals as goal

pub add_targets-loop-target-init : goal.add_targets-loop-target-init
add_targets-loop-target-init t c = ap (λ ts. c.args.links.now.items ++ targets_links c.args.at c.args.whole (targets_in ts)) c.deref-target-items.ensures.value
    ∙ ap (λ ts. c.args.links.now.items ++ targets_links c.args.at c.args.whole ts) (sym (targets_tree c.args.targets.now))

pub add_target-returns-in_ok-add_targets-in-Many : goal.add_target-returns-in_ok-add_targets-in-Many
add_target-returns-in_ok-add_targets-in-Many t c =
    many_of (target_links c.args.at c.args.whole c.args.from c.args.rival) _ _ _ _ c.in-Many.is (two_parts _ _ _ _ _ c.in_ok-put_apart-in-Many.ensures c.in_ok-add_targets-in-Many.ensures)
