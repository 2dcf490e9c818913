use Rattle.std.proofs.Common.{refl, sym, ◌∙◌, true}
use Rattle.py_model.specs.Faults.{wrong_kind}
use Rattle.py_model.specs.Names.{end_with as plan_end}
use Rattle.py_model.specs.Plan.{writes, write, done}
use Rattle.py_value.specs.Contents.{object, nothing}
use Rattle.py_value.specs.Seen.{closed_at, closed_is}
use Rattle.py_value.specs.declared.value.Value.TheVariants.{None as NoneValue}
use Rattle.op_work.specs.Work.{Ends}
use Rattle.op_work.proofs.Ending.{ends_fault, ends_writes, writes_then, writes_stop, writes_done}
use Rattle.op_work.proofs.Going.{passes_err}
use Rattle.op_classes.proofs.WithFiles.{end_refuses, end_goes}
use Rattle.op_classes.proofs.withs.end_of_object.Goals as goal

pub returns-in_err-set : goal.returns-in_err-set
returns-in_err-set c = passes_err (λ result. Ends (λ table. plan_end (object c.args.o)) c.args.work.now c.set.new.self result) c.from_residual.result c.from_residual.ensures.1
    (end_goes c.args.o c.kind.result (sym c.is_file-there.ensures ∙ c.if-there.true) c.kind.ensures
    (ends_writes (λ table. writes (write (closed_at c.args.o) (closed_is true) (done nothing))) c.requires.first (λ table. write (closed_at c.args.o) (closed_is true) (done nothing)) (λ table interned extends. refl)
    (writes_stop (λ table. done nothing) c.in_err-set.field-0.0 c.in_err-set.ensures)))

pub returns-then-there : goal.returns-then-there
returns-then-there c = end_goes c.args.o c.kind.result (sym c.is_file-there.ensures ∙ c.if-there.true) c.kind.ensures
    (ends_writes (λ table. writes (write (closed_at c.args.o) (closed_is true) (done nothing))) c.requires.first (λ table. write (closed_at c.args.o) (closed_is true) (done nothing)) (λ table interned extends. refl)
    (writes_then c.in_ok-set.ensures (writes_done c.set.new.self NoneValue (λ table. done nothing) tt (λ table extends. refl))))

pub returns : goal.returns
returns c = end_refuses c.args.o c.kind.result (sym c.is_file-there.ensures ∙ c.if-there.false) c.kind.ensures
    (ends_fault (λ table. wrong_kind) 9 _ c.fault.result c.fault.ensures (λ table interned extends. refl))
