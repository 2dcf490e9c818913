use Rattle.std.proofs.Common.{ap, ◌∙◌, ◌++◌}
use Rattle.slicer.proofs.LeastLaws.{all_roots}
use Rattle.slicer.proofs.least.slice_roots.Goals as goal

pub returns : goal.returns
returns c = λ view script opening told interned few same are knows numbers evaluation.
    all_roots opening told c.in_ok-roots.roots.items c.args.passed.now.jumps.items c.extend_from_slice.new.self.items
    (c.in_ok-roots.ensures view script opening told interned few same are knows.asked knows.holds numbers evaluation)
    knows.jumps (c.in_ok-extend_from_slice.ensures.items ∙ ap (λ these. c.in_ok-roots.roots.items ++ these) c.as_slice.ensures.value)
