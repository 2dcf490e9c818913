use Rattle.std.proofs.Common.{refl, subst, ℕ, Option, Ok}
use Rattle.op_work.specs.Entries.{IsNamedEntry, seen_entry}
use Rattle.op_work.specs.Work.{Comes}
use Rattle.py_model.specs.Plan.{Plan, read_entry}
use Rattle.py_value.specs.Contents.{Contents, contents}
use Rattle.py_value.specs.Values.{ValuesView, IsNamed}
use Rattle.py_value.specs.declared.value.Value.TheVariants.{None as NoneValue}
use Rattle.op_work.proofs.Going.{comes_then, comes_stop, comes_as, passes_err}
use Rattle.op_mutations.specs.Entries.{value_in, value_at}
use Rattle.op_mutations.proofs.views.entry_value.Goals as goal

abbrev its_value : ValuesView → Option (Contents × Contents) → (Contents → Plan) → Plan
its_value table entry go = go (value_in entry)

abbrev at_key : ℕ → ValuesView → Contents → (Contents → Plan) → Plan
at_key o table key go = value_at o key go

pub returns-in_err-key : goal.returns-in_err-key
returns-in_err-key c = passes_err (λ result. Comes IsNamed contents (λ table. value_at c.args.o (contents table c.args.v)) c.args.work.now c.order_key.new.work result)
    c.from_residual.result c.from_residual.ensures.1 (comes_stop (at_key c.args.o) c.in_err-key.ensures)

pub returns-in_err-entry : goal.returns-in_err-entry
returns-in_err-entry c = passes_err (λ result. Comes IsNamed contents (λ table. value_at c.args.o (contents table c.args.v)) c.args.work.now c.read_entry.new.self result)
    c.from_residual-in_err-entry.result c.from_residual-in_err-entry.ensures.1
    (comes_then (at_key c.args.o) c.in_ok-key.ensures (λ table interned extends go. refl) (comes_stop its_value c.in_err-entry.ensures))

pub returns-in-Some : goal.returns-in-Some
returns-in-Some c =
    let found = subst (λ entry. Comes IsNamedEntry seen_entry (λ table. read_entry c.args.o (contents table c.args.v)) c.order_key.new.work c.read_entry.new.self (Ok entry)) c.in-Some.is c.in_ok-entry.ensures in
    comes_then (at_key c.args.o) c.in_ok-key.ensures (λ table interned extends go. refl)
    (comes_as its_value c.in-Some.pair.1 found found.is_named.1 (λ table interned extends go. refl))

pub returns-in-None : goal.returns-in-None
returns-in-None c =
    let found = subst (λ entry. Comes IsNamedEntry seen_entry (λ table. read_entry c.args.o (contents table c.args.v)) c.order_key.new.work c.read_entry.new.self (Ok entry)) c.in-None.is c.in_ok-entry.ensures in
    comes_then (at_key c.args.o) c.in_ok-key.ensures (λ table interned extends go. refl)
    (comes_as its_value NoneValue found tt (λ table interned extends go. refl))
