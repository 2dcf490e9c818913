use Rattle.std.proofs.Common.{refl, ◌+◌}
use Rattle.op_mutations.specs.Pairs.{entries_set}
use Rattle.op_lists.proofs.Writing.{writing_none, writing_same, writing_more, writing_stop, writing_done}
use Rattle.op_lists.proofs.NamedValues.{named_stays}
use Rattle.op_work.specs.Work.{Wrote}
use Rattle.op_work.proofs.Going.{passes_err}
use Rattle.op_mutations.proofs.PairWrites.{left, left_is, left_none, pair_at}
use Rattle.op_mutations.proofs.making.set_entries.Goals as goal

pub loop-pair-init : goal.loop-pair-init
loop-pair-init c = writing_none (λ table. entries_set c.args.o table c.args.pairs.now) c.args.work.now

pub set-requires-clause-named : goal.set-requires-clause-named
set-requires-clause-named c =
    let one = pair_at c.args.work.now.values c.args.pairs.now c.requires.pairs c.loop-pair.pair-index c.loop-pair-test.true in
    let few = c.loop-pair.invariant.kept.extends.few in (
      refl,
      (
        named_stays c.args.work.now.values c.loop-pair.work.values few _ one.0.1.named,
        (named_stays c.args.work.now.values c.loop-pair.work.values few _ one.0.0, named_stays c.args.work.now.values c.loop-pair.work.values few _ one.1),
      ),
    )

pub returns-in_err-set : goal.returns-in_err-set
returns-in_err-set c =
    let o = c.args.o in let ps = c.args.pairs.now in let i = c.loop-pair.pair-index in
    passes_err (λ result. Wrote (λ table. entries_set o table ps) c.args.work.now c.set.new.self result) c.from_residual.result c.from_residual.ensures.1
    (writing_stop (left o ps (i + 1)) (writing_same c.loop-pair.invariant (left_is o ps i c.loop-pair-test.true)) c.in_err-set.ensures)

pub loop-pair-preserved : goal.loop-pair-preserved
loop-pair-preserved c =
    let o = c.args.o in let ps = c.args.pairs.now in let i = c.loop-pair.pair-index in
    writing_more (left o ps (i + 1)) (writing_same c.loop-pair.invariant (left_is o ps i c.loop-pair-test.true)) c.in_ok-set.ensures

pub returns : goal.returns
returns c = writing_done (writing_same c.loop-pair.invariant (left_none c.args.o c.args.pairs.now c.loop-pair.pair-index c.loop-pair-test.false))
