use Rattle.slicer.proofs.RootLaws.{with_place, without_place}
use Rattle.slicer.proofs.roots.add_place.Goals as goal

pub returns-in_ok-extend_from_slice : goal.returns-in_ok-extend_from_slice
returns-in_ok-extend_from_slice c = λ view script store told v interned are known reached few many asked numbers s.
    let named = c.is_reached_place.ensures.named view few many c.if-is_reached_place.true in
    with_place view interned store told numbers v c.args.at.now s c.is_reached_place.result (c.is_reached_place.ensures.reached view store v interned are known reached few many)
    c.args.roots.now.items c.writers.result.now c.extend_from_slice.new.self.items c.if-is_reached_place.true named (c.writers.ensures view script told asked named s) c.in_ok-extend_from_slice.ensures.items

pub returns-else-is_reached_place : goal.returns-else-is_reached_place
returns-else-is_reached_place c = λ view script store told v interned are known reached few many asked numbers s.
    without_place view interned store told numbers v c.args.at.now s c.is_reached_place.result (c.is_reached_place.ensures.reached view store v interned are known reached few many)
    c.args.roots.now.items c.if-is_reached_place.false
