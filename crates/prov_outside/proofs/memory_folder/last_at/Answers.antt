use Rattle.std.proofs.Common.{◌<◌, length, arith}
use Rattle.prov_outside.proofs.LastOf.{last_of-take_more}
use Rattle.prov_outside.proofs.memory_folder.last_at.Goals as goal
use Rattle.prov_outside.proofs.memory_folder.last_at.Goals.{then-eq, else-eq}

pub loop-name-preserved : goal.loop-name-preserved
loop-name-preserved c =
    let within : c.loop-name.name-index < length c.args.files.now = omega arith in
    let step = last_of-take_more c.args.files.now c.loop-name.name-index c.loop-name-item.result c.args.path.now within c.loop-name-item.is in
    elim c.if-eq.branch [ then-eq w ↦ grind arith | else-eq w ↦ grind arith ]
