use Rattle.std.proofs.Common.{◌<◌, length, sym, subst, arith}
use Rattle.std.specs.Prelude.{slice_index_or}
use Rattle.std.proofs.lemmas.List.{drop_all, drop_more}
use Rattle.py_tree.specs.StmtSet.{has}
use Rattle.slicer.specs.Along.{AllIn}
use Rattle.slicer.proofs.Along.{below_at, all_in_at}
use Rattle.slicer.proofs.Following.{grown_then}
use Rattle.slicer.proofs.closing.reach_all.Goals as goal

pub reach-requires : goal.reach-requires
reach-requires c =
    let bound = c.loop-s.invariant.0.bound in
    omega (arith, below_at (length c.args.keep.now) c.args.numbers.now c.loop-s.s-index (omega (arith, c.loop-s-test.true)) c.requires, bound)

pub loop-s-preserved : goal.loop-s-preserved
loop-s-preserved c =
    let numbers = c.args.numbers.now in
    let i = c.loop-s.s-index in
    let s = slice_index_or numbers i 0 in
    let within : i < length numbers = omega (arith, c.loop-s-test.true) in
    let one = c.in_ok-reach.ensures in (
      grown_then c.args.keep.now c.args.found.now.items c.loop-s.keep c.loop-s.found.items c.reach.new.keep c.reach.new.found.items c.loop-s.invariant.0 one.grown,
      λ more all rest. c.loop-s.invariant.1 more (λ t is. all t (one.grown.stays t is)) (subst (AllIn more) (sym (drop_more numbers i 0 within)) (all s one.there, rest)),
      λ other before all t is. one.inside other (c.loop-s.invariant.2 other before all) (all_in_at other numbers i within all) t is,
    )

pub returns-clause-there : goal.returns-clause-there
returns-clause-there c =
    c.loop-s.invariant.1 (has c.loop-s.keep) (λ s is. is) (subst (AllIn (has c.loop-s.keep)) (sym (drop_all c.loop-s.s-index c.args.numbers.now (omega (arith, c.loop-s-test.false)))) tt)
