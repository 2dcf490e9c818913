use Rattle.std.proofs.Common.{refl, subst, Option, Some, None, Ok, ℕ}
use Rattle.py_model.specs.Plan.{Plan, read_entry}
use Rattle.py_model.specs.Raising.{read_args}
use Rattle.py_value.specs.Contents.{Contents, contents, tuple, no_parts}
use Rattle.py_value.specs.Values.{ValuesView, IsNamed}
use Rattle.op_work.specs.Entries.{IsNamedEntry, seen_entry}
use Rattle.op_work.specs.Work.{Comes}
use Rattle.op_work.proofs.Going.{comes_then, comes_as, comes_stop, passes_err}
use Rattle.op_printing.proofs.reads.read_args.Goals as goal

abbrev args_or : ValuesView → Option (Contents × Contents) → (Contents → Plan) → Plan
args_or table entry go = elim entry [ None ↦ go (tuple no_parts) | Some pair ↦ go pair.1 ]

abbrev with_args : ℕ → ValuesView → Contents → (Contents → Plan) → Plan
with_args o table key go = read_entry o key (λ entry. args_or table entry go)

pub returns-in_err-entry : goal.returns-in_err-entry
returns-in_err-entry c = passes_err (λ result. Comes IsNamed contents (λ table. read_args c.args.o) c.args.work.now c.entry_at.new.work result)
    c.from_residual-in_err-entry.result c.from_residual-in_err-entry.ensures.1
    (comes_then (with_args c.args.o) c.in_ok-name.ensures.comes (λ table interned extends go. refl) (comes_stop args_or c.in_err-entry.ensures))

pub returns-in-Some : goal.returns-in-Some
returns-in-Some c =
    let read = subst (λ e. Comes IsNamedEntry seen_entry (λ table. read_entry c.args.o (contents table c.in_ok-name.name)) c.text.new.self c.entry_at.new.work (Ok e)) c.in-Some.is c.in_ok-entry.ensures in
    comes_then (with_args c.args.o) c.in_ok-name.ensures.comes (λ table interned extends go. refl)
    (comes_as args_or c.in-Some.entry.1 read read.is_named.1 (λ table interned extends go. refl))

pub returns-in-None : goal.returns-in-None
returns-in-None c =
    let read = subst (λ e. Comes IsNamedEntry seen_entry (λ table. read_entry c.args.o (contents table c.in_ok-name.name)) c.text.new.self c.entry_at.new.work (Ok e)) c.in-None.is c.in_ok-entry.ensures in
    comes_then (with_args c.args.o) c.in_ok-name.ensures.comes (λ table interned extends go. refl)
    (comes_then args_or read (λ table interned extends go. refl) c.tuple.ensures)
