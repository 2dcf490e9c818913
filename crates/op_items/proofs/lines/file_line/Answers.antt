use Rattle.std.proofs.Common.{rules, ◌≡◌, refl, sym, ap, subst, true, false, Bool, ℕ, List, Option, Ok}
use Rattle.object_store.specs.Store.{StoreView, file_at}
use Rattle.op_work.specs.Work.{Comes, Ends, is_any, as_is}
use Rattle.py_model.specs.Plan.{Plan, read_closed, read_file}
use Rattle.py_value.specs.Seen.{bytes_of}
use Rattle.py_value.specs.Values.{ValuesView}
use Rattle.py_value.specs.declared.access.Mode.{Mode}
use Rattle.op_work.proofs.Ending.{ends_then, ends_stop, ends_fault}
use Rattle.op_work.proofs.Going.{passes_err}
use Rattle.op_items.specs.Lines.{is_reading, line_behind, line_unless}
use Rattle.op_items.proofs.LinePlans.{unless_closed, unless_read, unless_other}
use Rattle.op_items.proofs.lines.file_line.Goals as goal

abbrev first : ℕ → ℕ → Mode → ValuesView → Bool → Plan
first o path mode table closed = line_unless o (bytes_of table path) mode closed

abbrev second : ℕ → ℕ → ValuesView → ℕ → Plan
second o path table offset = read_file (bytes_of table path) (line_behind o offset)

abbrev third : ℕ → ℕ → ValuesView → Option (List ℕ) → Plan
third o offset table content = line_behind o offset content

pub returns-in_err-closed : goal.returns-in_err-closed
returns-in_err-closed c = passes_err (λ result. Ends (λ table. read_closed c.args.o (line_unless c.args.o (bytes_of table c.args.path) c.args.mode)) c.args.work.now c.read_closed.new.self result) c.from_residual.result c.from_residual.ensures.1
    (ends_stop (first c.args.o c.args.path c.args.mode) _ c.in_err-closed.ensures)

pub returns-then-closed : goal.returns-then-closed
returns-then-closed c =
    let closed = subst (λ (b : Bool). Comes is_any as_is (λ table. read_closed c.args.o) c.args.work.now c.read_closed.new.self (Ok b)) c.if-closed.true c.in_ok-closed.ensures in
    ends_then (first c.args.o c.args.path c.args.mode) closed (λ table interned extends. refl)
    (ends_fault (λ table. line_unless c.args.o (bytes_of table c.args.path) c.args.mode true) 10 _ c.fault.result c.fault.ensures (λ table interned extends. unless_closed c.args.o (bytes_of table c.args.path) c.args.mode))

pub returns-then-not-is_read : goal.returns-then-not-is_read
returns-then-not-is_read c =
    let open_still = subst (λ (b : Bool). Comes is_any as_is (λ table. read_closed c.args.o) c.args.work.now c.read_closed.new.self (Ok b)) c.if-closed.false c.in_ok-closed.ensures in
    let other : is_reading c.args.mode ≡ false = search rules in
    ends_then (first c.args.o c.args.path c.args.mode) open_still (λ table interned extends. refl)
    (ends_fault (λ table. line_unless c.args.o (bytes_of table c.args.path) c.args.mode false) 15 _ c.fault-then-not-is_read.result c.fault-then-not-is_read.ensures (λ table interned extends. unless_other c.args.o (bytes_of table c.args.path) c.args.mode other))

pub returns-in_err-offset : goal.returns-in_err-offset
returns-in_err-offset c =
    let open_still = subst (λ (b : Bool). Comes is_any as_is (λ table. read_closed c.args.o) c.args.work.now c.read_closed.new.self (Ok b)) c.if-closed.false c.in_ok-closed.ensures in
    let reading : is_reading c.args.mode ≡ true = search rules in
    passes_err (λ result. Ends (λ table. read_closed c.args.o (line_unless c.args.o (bytes_of table c.args.path) c.args.mode)) c.args.work.now c.read_offset.new.self result) c.from_residual-in_err-offset.result c.from_residual-in_err-offset.ensures.1
    (ends_then (first c.args.o c.args.path c.args.mode) open_still (λ table interned extends. unless_read c.args.o (bytes_of table c.args.path) c.args.mode reading)
    (ends_stop (second c.args.o c.args.path) _ c.in_err-offset.ensures))

pub returns-in_err-read_opened : goal.returns-in_err-read_opened
returns-in_err-read_opened c =
    let open_still = subst (λ (b : Bool). Comes is_any as_is (λ table. read_closed c.args.o) c.args.work.now c.read_closed.new.self (Ok b)) c.if-closed.false c.in_ok-closed.ensures in
    let reading : is_reading c.args.mode ≡ true = search rules in
    passes_err (λ result. Ends (λ table. read_closed c.args.o (line_unless c.args.o (bytes_of table c.args.path) c.args.mode)) c.args.work.now c.read_opened.new.work result) c.from_residual-in_err-read_opened.result c.from_residual-in_err-read_opened.ensures.1
    (ends_then (first c.args.o c.args.path c.args.mode) open_still (λ table interned extends. unless_read c.args.o (bytes_of table c.args.path) c.args.mode reading)
    (ends_then (second c.args.o c.args.path) c.in_ok-offset.ensures (λ table interned extends. refl)
    (ends_stop (third c.args.o c.in_ok-offset.offset) _ c.in_err-read_opened.ensures)))

pub returns : goal.returns
returns c =
    let open_still = subst (λ (b : Bool). Comes is_any as_is (λ table. read_closed c.args.o) c.args.work.now c.read_closed.new.self (Ok b)) c.if-closed.false c.in_ok-closed.ensures in
    let reading : is_reading c.args.mode ≡ true = search rules in
    ends_then (first c.args.o c.args.path c.args.mode) open_still (λ table interned extends. unless_read c.args.o (bytes_of table c.args.path) c.args.mode reading)
    (ends_then (second c.args.o c.args.path) c.in_ok-offset.ensures (λ table interned extends. refl)
    (ends_then (third c.args.o c.in_ok-offset.offset) c.in_ok-read_opened.ensures (λ table interned extends. ap (λ (s : StoreView). line_behind c.args.o c.in_ok-offset.offset (file_at s c.args.path)) (sym c.read_opened.ensures.kept.store_is)) c.take_line.ensures))
