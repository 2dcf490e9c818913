use Rattle.std.proofs.Common.{refl, sym, ◌∙◌, subst, Ok, codes}
use Rattle.py_model.specs.Faults.{fault, wrong_kind}
use Rattle.py_model.specs.Names.{begin_with as plan_begin}
use Rattle.py_model.specs.Plan.{read_closed as plan_closed, writes, done}
use Rattle.py_value.specs.Contents.{object}
use Rattle.py_value.specs.declared.value.Value.TheVariants.{Object}
use Rattle.op_work.specs.Work.{Ends, Comes, is_any, as_is}
use Rattle.op_work.proofs.Ending.{ends_fault, ends_gives}
use Rattle.op_work.proofs.Going.{passes_err}
use Rattle.op_classes.proofs.WithFiles.{begin_refuses, begin_stops, begin_closed, begin_open}
use Rattle.op_classes.proofs.withs.begin_of_object.Goals as goal

pub returns-in_err-is_closed : goal.returns-in_err-is_closed
returns-in_err-is_closed c = passes_err (λ result. Ends (λ table. plan_begin (object c.args.o)) c.args.work.now c.read_closed.new.self result) c.from_residual.result c.from_residual.ensures.1
    (begin_stops c.args.o c.in_err-is_closed.field-0.0 c.kind.result (sym c.is_file-there.ensures ∙ c.if-there.true) c.kind.ensures c.in_err-is_closed.ensures)

pub returns-then-is_closed : goal.returns-then-is_closed
returns-then-is_closed c = begin_closed c.args.o c.kind.result (sym c.is_file-there.ensures ∙ c.if-there.true) c.kind.ensures
    (subst (λ b. Comes is_any as_is (λ table. plan_closed c.args.o) c.args.work.now c.read_closed.new.self (Ok b)) c.if-is_closed.true c.in_ok-is_closed.ensures)
    (ends_fault (λ table. fault 10 (codes "file is closed")) 10 _ c.fault.result c.fault.ensures (λ table interned extends. refl))

pub returns-then-there : goal.returns-then-there
returns-then-there c = begin_open c.args.o c.kind.result (sym c.is_file-there.ensures ∙ c.if-there.true) c.kind.ensures
    (subst (λ b. Comes is_any as_is (λ table. plan_closed c.args.o) c.args.work.now c.read_closed.new.self (Ok b)) c.if-is_closed.false c.in_ok-is_closed.ensures)
    (ends_gives (λ table. writes (done (object c.args.o))) c.read_closed.new.self (Object c.args.o) (c.in_ok-is_closed.ensures.kept.made_is ∙ c.requires.first) tt (λ table interned extends. refl))

pub returns : goal.returns
returns c = begin_refuses c.args.o c.kind.result (sym c.is_file-there.ensures ∙ c.if-there.false) c.kind.ensures
    (ends_fault (λ table. wrong_kind) 9 _ c.fault-2.result c.fault-2.ensures (λ table interned extends. refl))
