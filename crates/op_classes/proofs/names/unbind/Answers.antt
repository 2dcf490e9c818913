use Rattle.std.proofs.Common.{refl, ap, subst, Ok}
use Rattle.py_model.specs.Names.{unbind as plan_unbind}
use Rattle.py_model.specs.Plan.{read_var as plan_var}
use Rattle.py_value.specs.Seen.{bytes_of}
use Rattle.op_work.specs.Work.{Ends, Comes, IsNamedMaybe, seen_maybe}
use Rattle.op_work.proofs.Ending.{ends_then, ends_stop}
use Rattle.op_work.proofs.Going.{passes_err}
use Rattle.op_classes.proofs.EndsSame.{ends_same}
use Rattle.op_classes.proofs.Variables.{by_silence, unbind_is, or_refused, in_silence}
use Rattle.op_classes.proofs.names.unbind.Goals as goal

pub returns-in_err-variable : goal.returns-in_err-variable
returns-in_err-variable c = passes_err (λ result. Ends (λ table. plan_unbind c.args.silent c.args.scope (bytes_of table c.args.name)) c.args.work.now c.read_var.new.self result)
    c.from_residual.result c.from_residual.ensures.1
    (ends_same (λ table. plan_unbind c.args.silent c.args.scope (bytes_of table c.args.name)) (λ table interned extends. unbind_is c.args.silent c.args.scope c.args.name table)
    (ends_stop (by_silence c.args.silent c.args.scope c.args.name) c.in_err-variable.field-0.0 c.in_err-variable.ensures))

pub returns-then-silent : goal.returns-then-silent
returns-then-silent c = ends_same (λ table. plan_unbind c.args.silent c.args.scope (bytes_of table c.args.name))
    (λ table interned extends. ap (λ b. plan_unbind b c.args.scope (bytes_of table c.args.name)) c.if-silent.true)
    (ends_then (in_silence c.args.scope c.args.name) c.in_ok-variable.ensures (λ table interned extends. refl) c.unset.ensures)

pub returns-in-Some : goal.returns-in-Some
returns-in-Some c =
    let read = subst (λ v. Comes IsNamedMaybe seen_maybe (λ table. plan_var c.args.scope (bytes_of table c.args.name)) c.args.work.now c.read_var.new.self (Ok v)) c.in-Some.is c.in_ok-variable.ensures in
    ends_same (λ table. plan_unbind c.args.silent c.args.scope (bytes_of table c.args.name))
    (λ table interned extends. ap (λ b. plan_unbind b c.args.scope (bytes_of table c.args.name)) c.if-silent.false)
    (ends_then (or_refused c.args.scope c.args.name) read (λ table interned extends. refl) c.unset-in-Some.ensures)

pub returns-in-None : goal.returns-in-None
returns-in-None c =
    let read = subst (λ v. Comes IsNamedMaybe seen_maybe (λ table. plan_var c.args.scope (bytes_of table c.args.name)) c.args.work.now c.read_var.new.self (Ok v)) c.in-None.is c.in_ok-variable.ensures in
    ends_same (λ table. plan_unbind c.args.silent c.args.scope (bytes_of table c.args.name))
    (λ table interned extends. ap (λ b. plan_unbind b c.args.scope (bytes_of table c.args.name)) c.if-silent.false)
    (ends_then (or_refused c.args.scope c.args.name) read (λ table interned extends. refl) c.unset_name.ensures)
