use Rattle.std.proofs.Common.{◌∙◌, sym, ap, arith, eqb-true, map, length, ℕ, ◌+◌, ◌-◌, List}
use Rattle.py_model.specs.Arithmetic.{repeated}
use Rattle.py_model.specs.Making.{set_items}
use Rattle.py_model.specs.Plan.{Writes}
use Rattle.py_value.specs.Contents.{contents}
use Rattle.py_value.specs.Values.{ValuesView}
use Rattle.py_value.specs.declared.value.Value.{Value}
use Rattle.op_lists.proofs.Writing.{writing_none, writing_same, writing_more, writing_stop, writing_done}
use Rattle.op_lists.proofs.NamedValues.{all_named_stay}
use Rattle.op_work.specs.Work.{Wrote}
use Rattle.op_work.proofs.Going.{passes_err}
use Rattle.op_joins.proofs.ManyTimes.{none_repeated, rounds, round_is, rounds_none, next_round, round_within}
use Rattle.op_joins.proofs.lists.set_rounds.Goals as goal

abbrev all : ℕ → List Value → ℕ → ValuesView → Writes → Writes
all o items n table = set_items o 0 (map (contents table) (repeated n items))

pub returns-then-is_empty : goal.returns-then-is_empty
returns-then-is_empty c =
    let o = c.args.o in let items = c.args.items.now in let n = c.args.n in
    let none = none_repeated n items (eqb-true (length items) 0 (sym c.is_empty.ensures ∙ c.if-is_empty.true)) in
    writing_done (writing_same (writing_none (all o items n) c.args.work.now) (λ table end. ap (λ vs. set_items o 0 (map (contents table) vs) end) none))

pub set_items-requires-clause-named : goal.set_items-requires-clause-named
set_items-requires-clause-named c = all_named_stay c.args.work.now.values c.loop.work.values c.loop.invariant.0.kept.extends.few c.args.items.now c.requires.named

pub set_items-requires-clause-few : goal.set_items-requires-clause-few
set_items-requires-clause-few c =
    let within = round_within (length c.args.items.now) c.loop.counter c.args.n c.loop-test.true in
    let few = c.requires.few in let at = c.loop.invariant.1 in
    omega (arith, within, few, at)

pub returns-in_err-set_items : goal.returns-in_err-set_items
returns-in_err-set_items c =
    let o = c.args.o in let at = c.loop.at in let items = c.args.items.now in let n = c.args.n in let k = c.loop.counter in
    passes_err (λ result. Wrote (all o items n) c.args.work.now c.set_items.new.work result) c.from_residual.result c.from_residual.ensures.1
    (writing_stop (rounds o (at + length items) items (n - (k + 1))) (writing_same c.loop.invariant.0 (round_is o at items n k c.loop-test.true)) c.in_err-set_items.ensures)

pub loop-preserved : goal.loop-preserved
loop-preserved c =
    let o = c.args.o in let at = c.loop.at in let items = c.args.items.now in let n = c.args.n in let k = c.loop.counter in (
      writing_more (rounds o (at + length items) items (n - (k + 1))) (writing_same c.loop.invariant.0 (round_is o at items n k c.loop-test.true)) c.in_ok-set_items.ensures,
      ap (λ m. m + length items) c.loop.invariant.1 ∙ next_round (length items) k,
    )

pub returns : goal.returns
returns c = writing_done (writing_same c.loop.invariant.0 (rounds_none c.args.o c.loop.at c.args.items.now c.args.n c.loop.counter c.loop-test.false))
