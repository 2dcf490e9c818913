use Rattle.std.proofs.Common.{◌<◌, ◌+◌, ◌++◌, drop, length, sym, ap, ◌∙◌, arith}
use Rattle.std.specs.Prelude.{slice_index_or}
use Rattle.std.proofs.lemmas.List.{drop_all, drop_more}
use Rattle.slicer.specs.Following.{asked_by, group_at}
use Rattle.slicer.proofs.Along.{pair_below_at}
use Rattle.slicer.proofs.Following.{next_pair, nothing_behind}
use Rattle.slicer.proofs.closing.grouped.Goals as goal

pub put-requires : goal.put-requires
put-requires c =
    let below = pair_below_at c.args.count c.args.pairs.now c.loop-pair.pair-index (0, 0) (omega (arith, c.loop-pair-test.true)) c.requires in
    omega (arith, below.0, c.loop-pair.invariant.0)

pub loop-pair-init : goal.loop-pair-init
loop-pair-init c = (c.in_ok-groups.ensures.many, λ s. ap (λ front. front ++ asked_by c.args.pairs.now s) (c.in_ok-groups.ensures.each s))

pub loop-pair-preserved : goal.loop-pair-preserved
loop-pair-preserved c =
    let pairs = c.args.pairs.now in
    let i = c.loop-pair.pair-index in
    let pair = slice_index_or pairs i (0, 0) in
    let within : i < length pairs = omega (arith, c.loop-pair-test.true) in (
      c.in_ok-put.ensures.many ∙ c.loop-pair.invariant.0,
      λ s. next_pair pair.0 pair.1 s (group_at c.loop-pair.groups.items s) (group_at c.put.new.groups.items s) (asked_by (drop (i + 1) pairs) s) (c.in_ok-put.ensures.each s)
          ∙ ap (λ left. group_at c.loop-pair.groups.items s ++ asked_by left s) (sym (drop_more pairs i (0, 0) within)) ∙ c.loop-pair.invariant.1 s,
    )

pub returns : goal.returns
returns c = λ s.
    sym (nothing_behind (group_at c.loop-pair.groups.items s)) ∙ ap (λ left. group_at c.loop-pair.groups.items s ++ asked_by left s) (sym (drop_all c.loop-pair.pair-index c.args.pairs.now (omega (arith, c.loop-pair-test.false))))
    ∙ c.loop-pair.invariant.1 s
