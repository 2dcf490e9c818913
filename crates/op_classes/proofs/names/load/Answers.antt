use Rattle.std.proofs.Common.{refl, ◌∙◌, subst, Ok}
use Rattle.py_model.specs.Names.{load as plan_load}
use Rattle.py_model.specs.Plan.{read_var as plan_var, writes, done}
use Rattle.py_value.specs.Contents.{contents}
use Rattle.py_value.specs.Seen.{bytes_of}
use Rattle.op_work.specs.Work.{Ends, Comes, IsNamedMaybe, seen_maybe}
use Rattle.op_work.proofs.Ending.{ends_then, ends_stop, ends_gives}
use Rattle.op_work.proofs.Going.{passes_err}
use Rattle.op_classes.proofs.Variables.{or_unset}
use Rattle.op_classes.proofs.names.load.Goals as goal

pub returns-in_err-variable : goal.returns-in_err-variable
returns-in_err-variable c = passes_err (λ result. Ends (λ table. plan_load c.args.scope (bytes_of table c.args.name)) c.args.work.now c.read_var.new.self result)
    c.from_residual.result c.from_residual.ensures.1 (ends_stop (or_unset c.args.scope c.args.name) c.in_err-variable.field-0.0 c.in_err-variable.ensures)

pub returns-in-Some : goal.returns-in-Some
returns-in-Some c =
    let read = subst (λ v. Comes IsNamedMaybe seen_maybe (λ table. plan_var c.args.scope (bytes_of table c.args.name)) c.args.work.now c.read_var.new.self (Ok v)) c.in-Some.is c.in_ok-variable.ensures in
    ends_then (or_unset c.args.scope c.args.name) read (λ table interned extends. refl)
    (ends_gives (λ table. writes (done (contents table c.in-Some.v))) c.read_var.new.self c.in-Some.v (read.kept.made_is ∙ c.requires.first) read.is_named (λ table interned extends. refl))

pub returns-in-None : goal.returns-in-None
returns-in-None c =
    let read = subst (λ v. Comes IsNamedMaybe seen_maybe (λ table. plan_var c.args.scope (bytes_of table c.args.name)) c.args.work.now c.read_var.new.self (Ok v)) c.in-None.is c.in_ok-variable.ensures in
    ends_then (or_unset c.args.scope c.args.name) read (λ table interned extends. refl) c.load_unset.ensures
