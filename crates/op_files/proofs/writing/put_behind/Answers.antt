use Rattle.std.proofs.Common.{rules, refl, sym, subst, ◌≡◌, ℤ, Ok, to_z, of_z, w64}
use Rattle.py_model.specs.declared.moment.Answer.TheVariants.{Value as ValueAnswer}
use Rattle.op_work.specs.Work.{WroteAll}
use Rattle.py_model.specs.Plan.{change, done}
use Rattle.py_value.specs.Contents.{int}
use Rattle.py_value.specs.Seen.{bytes_of, file_at, bytes_appended}
use Rattle.py_value.specs.declared.value.Value.TheVariants.{Int}
use Rattle.op_work.proofs.Ending.{writes_then, writes_stop, writes_done}
use Rattle.op_work.proofs.Going.{passes_err}
use Rattle.op_files.proofs.writing.put_behind.Goals as goal

pub returns-in_err-update : goal.returns-in_err-update
returns-in_err-update c = passes_err (λ result. WroteAll (λ table. change (file_at (bytes_of table c.args.path)) (bytes_appended (bytes_of table c.args.id)) (done (int c.args.count))) c.args.work.now c.update.new.self result) c.from_residual.result c.from_residual.ensures.1
    (writes_stop (λ table. done (int c.args.count)) c.in_err-update.field-0.0 c.in_err-update.ensures)

pub returns : goal.returns
returns c =
    let back : to_z w64 (of_z w64 c.args.count) ≡ c.args.count = search rules in
    subst (λ (i : ℤ). WroteAll (λ table. change (file_at (bytes_of table c.args.path)) (bytes_appended (bytes_of table c.args.id)) (done (int c.args.count))) c.args.work.now c.update.new.self (Ok (ValueAnswer (Int i)))) (sym back)
    (writes_then c.in_ok-update.ensures (writes_done c.update.new.self (Int c.args.count) (λ table. done (int c.args.count)) tt (λ table extends. refl)))
