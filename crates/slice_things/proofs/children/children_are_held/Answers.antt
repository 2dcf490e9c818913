use Rattle.slice_things.proofs.ChildLaws.{store_held, child_held}
use Rattle.slice_things.proofs.children.children_are_held.Goals as goal

pub returns : goal.returns
returns c = λ view forms things store o p are known. (store_held view forms things store are known o p, child_held view forms things store are known o p)
