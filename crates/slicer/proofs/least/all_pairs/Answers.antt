use Rattle.std.proofs.Common.{ap, ◌∙◌, ◌++◌, map}
use Rattle.py_tree.specs.Erasure.{script_of}
use Rattle.slicer.specs.AskedPairs.{pair_of}
use Rattle.slicer.specs.ParentPairs.{parents_below}
use Rattle.slicer.proofs.AskedPairs.{pairs_asked}
use Rattle.slicer.proofs.least.all_pairs.Goals as goal

pub returns : goal.returns
returns c = λ view told asked. record {
  asked = map pair_of c.edges.result.now;
  are = pairs_asked (script_of c.args.script.now) told c.edges.result.now (c.edges.ensures.asked view (script_of c.args.script.now) told asked);
  is = c.in_ok-add_parents.ensures ∙ ap (λ these. these ++ parents_below (script_of c.args.script.now) c.args.script.now.count) c.in_ok-pairs.ensures;
}
