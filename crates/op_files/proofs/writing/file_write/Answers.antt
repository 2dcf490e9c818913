use Rattle.std.proofs.Common.{rules, ◌≡◌, refl, subst, true, false, Bool, ℕ, Ok}
use Rattle.op_work.specs.Work.{Comes, Ends, is_any, as_is}
use Rattle.py_model.specs.Plan.{Plan, read_closed}
use Rattle.py_value.specs.Seen.{bytes_of}
use Rattle.py_value.specs.Values.{ValuesView}
use Rattle.py_value.specs.declared.access.Mode.{Mode}
use Rattle.op_work.proofs.Ending.{ends_then, ends_stop, ends_fault}
use Rattle.op_work.proofs.Going.{passes_err}
use Rattle.op_items.specs.Lines.{is_reading}
use Rattle.op_files.specs.Written.{written_unless}
use Rattle.op_files.proofs.FilePlans.{written_wrong, written_behind}
use Rattle.op_files.proofs.writing.file_write.Goals as goal

abbrev rest : ℕ → Mode → ℕ → ValuesView → Bool → Plan
rest path mode id table closed = written_unless (bytes_of table path) mode (bytes_of table id) closed

pub returns-in_err-closed : goal.returns-in_err-closed
returns-in_err-closed c = passes_err (λ result. Ends (λ table. read_closed c.args.o (written_unless (bytes_of table c.args.path) c.args.mode (bytes_of table c.args.id))) c.args.work.now c.read_closed.new.self result) c.from_residual.result c.from_residual.ensures.1
    (ends_stop (rest c.args.path c.args.mode c.args.id) _ c.in_err-closed.ensures)

pub returns-then-closed : goal.returns-then-closed
returns-then-closed c =
    let closed = subst (λ (b : Bool). Comes is_any as_is (λ table. read_closed c.args.o) c.args.work.now c.read_closed.new.self (Ok b)) c.if-closed.true c.in_ok-closed.ensures in
    ends_then (rest c.args.path c.args.mode c.args.id) closed (λ table interned extends. refl)
    (ends_fault (λ table. rest c.args.path c.args.mode c.args.id table true) 10 _ c.fault.result c.fault.ensures (λ table interned extends. refl))

pub returns-then-is_read : goal.returns-then-is_read
returns-then-is_read c =
    let open_still = subst (λ (b : Bool). Comes is_any as_is (λ table. read_closed c.args.o) c.args.work.now c.read_closed.new.self (Ok b)) c.if-closed.false c.in_ok-closed.ensures in
    let reading : is_reading c.args.mode ≡ true = search rules in
    ends_then (rest c.args.path c.args.mode c.args.id) open_still (λ table interned extends. refl)
    (ends_fault (λ table. rest c.args.path c.args.mode c.args.id table false) 15 _ c.fault-then-is_read.result c.fault-then-is_read.ensures
    (λ table interned extends. written_wrong (bytes_of table c.args.path) c.args.mode (bytes_of table c.args.id) reading))

pub returns : goal.returns
returns c =
    let open_still = subst (λ (b : Bool). Comes is_any as_is (λ table. read_closed c.args.o) c.args.work.now c.read_closed.new.self (Ok b)) c.if-closed.false c.in_ok-closed.ensures in
    let other : is_reading c.args.mode ≡ false = search rules in
    ends_then (rest c.args.path c.args.mode c.args.id) open_still (λ table interned extends. written_behind (bytes_of table c.args.path) c.args.mode (bytes_of table c.args.id) other) c.append_text.ensures
