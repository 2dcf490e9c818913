use Rattle.std.proofs.Common.{ap, subst, Some, None, Err}
use Rattle.py_model.specs.Effect.{effect}
use Rattle.py_model.specs.Keys.{with_key_of, no_key_of}
use Rattle.py_model.specs.Plan.{Plan, kind_of}
use Rattle.py_value.specs.Contents.{contents}
use Rattle.py_value.specs.declared.key.KeyFault.TheVariants.{NoKey, NotHere, TooDeep}
use Rattle.op_work.specs.Work.{WorkView, Comes, Faults, is_any, as_is}
use Rattle.op_work.proofs.Going.{gives_comes, comes_same, comes_stop, fault_comes, extends_then}
use Rattle.op_work.proofs.KeyPlans.{key_passes, key_of_object, key_not_there, key_too_deep, refused, fault_on, key_on}
use Rattle.op_work.proofs.work.Work.key_of.Goals as goal

pub returns-in-Ok : goal.returns-in-Ok
returns-in-Ok c = gives_comes (λ table. with_key_of (contents table c.args.v)) c.form.ensures.extends c.form.ensures.same c.in-Ok.key
    (key_on c.contents_stay.ensures c.form.ensures.interned c.form.ensures.extends c.args.v c.requires c.in-Ok.key c.in-Ok.ensures.normal)
    (λ table store extends seen go answers. ap (effect store answers) (key_passes (contents table c.args.v) go
    (fault_on c.contents_stay.ensures c.form.ensures.interned (extends_then c.form.ensures.extends extends) c.args.v c.requires c.key_faults_of_contents.ensures None c.in-Ok.ensures.allowed)))

pub returns-in-Err-NoKey : goal.returns-in-Err-NoKey
returns-in-Err-NoKey c =
    let stopped = subst (λ (w : WorkView). Comes is_any as_is (λ table (go : Unit {0} → Plan). kind_of c.in-Err-NoKey.o no_key_of) w c.no_key.new.self (Err c.no_key.result)) c.in-Err-NoKey.ensures.err c.no_key.ensures in
    comes_same (λ table. with_key_of (contents table c.args.v))
    (λ table interned extends go. key_of_object (contents table c.args.v) go c.in-Err-NoKey.o
    (fault_on c.contents_stay.ensures c.form.ensures.interned (extends_then stopped.kept.extends extends) c.args.v c.requires c.key_faults_of_contents.ensures (Some (NoKey c.in-Err-NoKey.o))
    (refused c.args.self.now.values c.args.v c.in-Err-NoKey.field-0 (NoKey c.in-Err-NoKey.o) c.in-Err-NoKey.field-0-is (λ is. cc) c.in-Err-NoKey.ensures.refused)))
    (comes_stop (λ table x go. kind_of c.in-Err-NoKey.o no_key_of) stopped)

pub returns-in-Err-NotHere : goal.returns-in-Err-NotHere
returns-in-Err-NotHere c =
    let faults = subst (λ (w : WorkView). Faults 13 _ w c.fault.new.self c.fault.result) c.in-Err-NotHere.ensures.err c.fault.ensures in
    fault_comes (λ table. with_key_of (contents table c.args.v)) 13 _ c.fault.result faults
    (λ table interned extends go. key_not_there (contents table c.args.v) go
    (fault_on c.contents_stay.ensures c.form.ensures.interned (extends_then faults.kept.extends extends) c.args.v c.requires c.key_faults_of_contents.ensures (Some NotHere)
    (refused c.args.self.now.values c.args.v c.in-Err-NotHere.field-0 NotHere c.in-Err-NotHere.field-0-is (λ is. cc) c.in-Err-NotHere.ensures.refused)))

pub returns-in-Err-TooDeep : goal.returns-in-Err-TooDeep
returns-in-Err-TooDeep c =
    let faults = subst (λ (w : WorkView). Faults 14 _ w c.fault-in-Err-TooDeep.new.self c.fault-in-Err-TooDeep.result) c.in-Err-TooDeep.ensures.err c.fault-in-Err-TooDeep.ensures in
    fault_comes (λ table. with_key_of (contents table c.args.v)) 14 _ c.fault-in-Err-TooDeep.result faults
    (λ table interned extends go. key_too_deep (contents table c.args.v) go
    (fault_on c.contents_stay.ensures c.form.ensures.interned (extends_then faults.kept.extends extends) c.args.v c.requires c.key_faults_of_contents.ensures (Some TooDeep)
    (refused c.args.self.now.values c.args.v c.in-Err-TooDeep.field-0 TooDeep c.in-Err-TooDeep.field-0-is (λ is. cc) c.in-Err-TooDeep.ensures.refused)))
