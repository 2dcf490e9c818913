use Rattle.slicer.proofs.WalkLaws.{next_grows}
use Rattle.slicer.proofs.walk.find_all.Goals as goal

pub loop-v-preserved : goal.loop-v-preserved
loop-v-preserved c = next_grows c.args.found.now.keys c.loop-v.found.keys c.find.new.found.keys c.args.values.now c.loop-v.v-index _ c.loop-v-test.true c.loop-v.invariant c.in_ok-find.ensures
