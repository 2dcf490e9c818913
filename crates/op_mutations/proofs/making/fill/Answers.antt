use Rattle.std.proofs.Common.{◌∙◌, refl, subst, sym, List, map, Ok, Err}
use Rattle.op_mutations.specs.Pairs.{firsts, entries_set}
use Rattle.op_work.specs.Work.{Wrote, WroteAll}
use Rattle.py_model.specs.Plan.{write, done}
use Rattle.py_value.specs.Contents.{contents, object}
use Rattle.py_value.specs.Seen.{order_at, order_is}
use Rattle.py_value.specs.Values.{AreNamed}
use Rattle.py_value.specs.declared.value.Value.{Value}
use Rattle.py_value.specs.declared.value.Value.TheVariants.{Object}
use Rattle.op_work.proofs.Ending.{writes_then, writes_stop, writes_done}
use Rattle.op_work.proofs.Going.{passes_err}
use Rattle.op_mutations.proofs.PairWrites.{firsts_named, pairs_on}
use Rattle.op_mutations.proofs.making.fill.Goals as goal

pub set-requires-clause-named : goal.set-requires-clause-named
set-requires-clause-named c =
    (refl, (tt, subst (AreNamed c.args.work.now.values) (sym (c.of.ensures ∙ c.in_ok-keys.ensures)) (firsts_named c.args.work.now.values c.args.pairs.now c.requires.pairs)))

pub returns-in_err-set : goal.returns-in_err-set
returns-in_err-set c =
    passes_err (λ result. WroteAll (λ table. write (order_at c.args.o) (order_is (map (contents table) (firsts c.args.pairs.now))) (entries_set c.args.o table c.args.pairs.now (done (object c.args.o)))) c.args.work.now c.set.new.self result) c.from_residual-in_err-set.result c.from_residual-in_err-set.ensures.1
    (writes_stop (λ table. entries_set c.args.o table c.args.pairs.now (done (object c.args.o))) c.in_err-set.field-0.0
    (subst (λ (ks : List Value). Wrote (λ table. write (order_at c.args.o) (order_is (map (contents table) ks))) c.args.work.now c.set.new.self (Err c.in_err-set.field-0.0)) (c.of.ensures ∙ c.in_ok-keys.ensures) c.in_err-set.ensures))

pub set_entries-requires : goal.set_entries-requires
set_entries-requires c = record { pairs = pairs_on c.contents_stay.ensures c.values.ensures.interned c.set.ensures.kept.extends c.args.pairs.now c.requires.pairs }

pub returns-in_err-set_entries : goal.returns-in_err-set_entries
returns-in_err-set_entries c =
    passes_err (λ result. WroteAll (λ table. write (order_at c.args.o) (order_is (map (contents table) (firsts c.args.pairs.now))) (entries_set c.args.o table c.args.pairs.now (done (object c.args.o)))) c.args.work.now c.set_entries.new.work result) c.from_residual-in_err-set_entries.result c.from_residual-in_err-set_entries.ensures.1
    (writes_then (subst (λ (ks : List Value). Wrote (λ table. write (order_at c.args.o) (order_is (map (contents table) ks))) c.args.work.now c.set.new.self (Ok tt)) (c.of.ensures ∙ c.in_ok-keys.ensures) c.in_ok-set.ensures)
    (writes_stop (λ table. done (object c.args.o)) c.in_err-set_entries.field-0.0 c.in_err-set_entries.ensures))

pub returns : goal.returns
returns c =
    writes_then (subst (λ (ks : List Value). Wrote (λ table. write (order_at c.args.o) (order_is (map (contents table) ks))) c.args.work.now c.set.new.self (Ok tt)) (c.of.ensures ∙ c.in_ok-keys.ensures) c.in_ok-set.ensures)
    (writes_then c.in_ok-set_entries.ensures (writes_done c.set_entries.new.work (Object c.args.o) (λ table. done (object c.args.o)) tt (λ table extends. refl)))
