use Rattle.std.proofs.Common.{◌≡◌, ◌+◌, ◌++◌, suc, ap, ◌∙◌, append_assoc, arith}
use Rattle.py_tree.specs.Erasure.{script_of}
use Rattle.py_tree.specs.Owners.{parent_of}
use Rattle.slicer.specs.ParentPairs.{pair_with, parents_below}
use Rattle.slicer.proofs.parents.add_parents.Goals as goal

pub loop-s-preserved : goal.loop-s-preserved
loop-s-preserved c =
    let script = script_of c.args.script.now in
    let s = c.loop-s.s in
    let old = c.args.pairs.now.items in
    let next : suc s ≡ s + 1 = omega arith in
    c.in_ok-push_parent.ensures
    ∙ ap (λ parent. c.loop-s.pairs.items ++ pair_with s parent) c.parent_of.ensures
    ∙ ap (λ xs. xs ++ pair_with s (parent_of script s)) c.loop-s.invariant
    ∙ append_assoc old (parents_below script s) (pair_with s (parent_of script s))
    ∙ ap (λ k. old ++ parents_below script k) next
