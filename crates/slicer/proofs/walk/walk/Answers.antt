use Rattle.std.proofs.Common.{map, sym, ◌∙◌, arith}
use Rattle.std.proofs.lemmas.Option.{slice_get_past}
use Rattle.slicer.proofs.WalkLaws.{next_walked, all_walked}
use Rattle.slicer.proofs.walk.walk.Goals as goal

pub returns-in_default : goal.returns-in_default
returns-in_default c = λ view children v interned same grouped before.
    all_walked view interned (map (λ k. k.now) c.args.tuples.now) same children c.args.groups.now.entries grouped v c.loop-i.i c.loop-i.found.keys
    (c.loop-i.invariant view children v interned same grouped before) (sym (c.in_default.ensures ∙ c.get_index.ensures.key))

pub loop-i-preserved : goal.loop-i-preserved
loop-i-preserved c = λ view children v interned same grouped before.
    next_walked view interned (map (λ k. k.now) c.args.tuples.now) same children c.args.groups.now.entries grouped v c.loop-i.i c.loop-i.found.keys c.find_inside.new.found.keys c.in-Some.v
    (c.loop-i.invariant view children v interned same grouped before) (sym (c.in-Some.ensures ∙ c.get_index.ensures.key)) c.in_ok-find_inside.ensures

pub returns : goal.returns
returns c = λ view children v interned same grouped before.
    all_walked view interned (map (λ k. k.now) c.args.tuples.now) same children c.args.groups.now.entries grouped v c.loop-i.i c.loop-i.found.keys
    (c.loop-i.invariant view children v interned same grouped before) (slice_get_past c.loop-i.found.keys c.loop-i.i (omega (arith, c.loop-i-test.false, c.len.ensures.len)))
