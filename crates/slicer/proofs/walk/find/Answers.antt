use Rattle.std.proofs.Common.{[], ◌∷◌, sym, subst}
use Rattle.slicer.specs.Walk.{Grows}
use Rattle.slicer.proofs.WalkLaws.{put_grows}
use Rattle.slicer.proofs.walk.find.Goals as goal

pub returns-in_ok-insert : goal.returns-in_ok-insert
returns-in_ok-insert c = subst (Grows c.args.found.now.keys (c.args.v ∷ [])) (sym c.in_ok-insert.ensures.keys) (put_grows c.args.found.now.keys c.args.v)
