use Rattle.std.proofs.Common.{refl, subst, Option, Ok}
use Rattle.py_model.specs.Plan.{Plan, read_entry}
use Rattle.py_model.specs.Printing.{value_in}
use Rattle.py_value.specs.Contents.{Contents, contents}
use Rattle.py_value.specs.Values.{ValuesView, IsNamed}
use Rattle.py_value.specs.declared.value.Value.TheVariants.{None as NoneValue}
use Rattle.op_work.specs.Entries.{IsNamedEntry, seen_entry}
use Rattle.op_work.specs.Work.{Comes}
use Rattle.op_work.proofs.Going.{comes_as, comes_stop, passes_err}
use Rattle.op_printing.proofs.reads.entry_value.Goals as goal

abbrev of_entry : ValuesView → Option (Contents × Contents) → (Contents → Plan) → Plan
of_entry table entry go = go (value_in entry)

pub returns-in_err-entry : goal.returns-in_err-entry
returns-in_err-entry c = passes_err (λ result. Comes IsNamed contents (λ table (go : Contents → Plan). read_entry c.args.o (contents table c.args.key) (λ entry. go (value_in entry))) c.args.work.now c.entry_at.new.work result)
    c.from_residual.result c.from_residual.ensures.1 (comes_stop of_entry c.in_err-entry.ensures)

pub returns-in-Some : goal.returns-in-Some
returns-in-Some c =
    let read = subst (λ e. Comes IsNamedEntry seen_entry (λ table. read_entry c.args.o (contents table c.args.key)) c.args.work.now c.entry_at.new.work (Ok e)) c.in-Some.is c.in_ok-entry.ensures in
    comes_as of_entry c.in-Some.entry.1 read read.is_named.1 (λ table interned extends go. refl)

pub returns-in-None : goal.returns-in-None
returns-in-None c =
    let read = subst (λ e. Comes IsNamedEntry seen_entry (λ table. read_entry c.args.o (contents table c.args.key)) c.args.work.now c.entry_at.new.work (Ok e)) c.in-None.is c.in_ok-entry.ensures in
    comes_as of_entry NoneValue read tt (λ table interned extends go. refl)
