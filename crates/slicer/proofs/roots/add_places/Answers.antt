use Rattle.std.proofs.Common.{◌≡◌, ◌↔◌, ◌⊎◌, true, subst, arith}
use Rattle.std.proofs.lemmas.List.{take_all}
use Rattle.slice_law.specs.Closed.{has}
use Rattle.slicer.specs.Roots.{AsksAmong}
use Rattle.slicer.proofs.RootLaws.{none_asks, next_asks}
use Rattle.slicer.proofs.roots.add_places.Goals as goal

pub loop-at-init : goal.loop-at-init
loop-at-init c = λ view script store told v interned are known reached few many asked numbers s. none_asks view store told v s c.args.roots.now.items

pub loop-at-preserved : goal.loop-at-preserved
loop-at-preserved c = λ view script store told v interned are known reached few many asked numbers s.
    next_asks view store told v s c.args.places.now c.loop-at.at-index _ c.args.roots.now.items c.loop-at.roots.items c.add_place.new.roots.items c.loop-at-test.true
    (c.loop-at.invariant view script store told v interned are known reached few many asked numbers s)
    (c.in_ok-add_place.ensures view script store told v interned are known reached few many asked numbers s)

pub returns : goal.returns
returns c = λ view script store told v interned are known reached few many asked numbers s.
    subst (λ these. (has s c.loop-at.roots.items ≡ true) ↔ (AsksAmong view store told v these s ⊎ (has s c.args.roots.now.items ≡ true)))
    (take_all c.loop-at.at-index c.args.places.now (omega (arith, c.loop-at-test.false)))
    (c.loop-at.invariant view script store told v interned are known reached few many asked numbers s)
