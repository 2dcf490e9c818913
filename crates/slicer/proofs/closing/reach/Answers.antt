use Rattle.std.proofs.Common.{◌≡◌, length, sym, subst, ◌∙◌, rules}
use Rattle.py_tree.specs.StmtSet.{has}
use Rattle.slicer.specs.Following.{HasGrown}
use Rattle.slicer.proofs.Along.{not_true}
use Rattle.slicer.proofs.Following.{grown_new}
use Rattle.slicer.proofs.closing.reach.Goals as goal

pub returns-in_ok-push-clause-grown : goal.returns-in_ok-push-clause-grown
returns-in_ok-push-clause-grown c =
    let old = c.args.keep.now in
    let bound : length c.add.new.self ≡ length old = search rules in
    subst (HasGrown old c.args.found.now.items c.add.new.self) (sym c.in_ok-push.ensures.items)
    (grown_new old c.add.new.self c.args.s c.requires bound c.add.ensures.members c.args.found.now.items (not_true (has old c.args.s) (sym c.add.ensures.new ∙ c.if-add.true)))
