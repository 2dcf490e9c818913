use Rattle.std.proofs.Common.{◌≡◌, ◌⊎◌, subst, Some, IfErr, OnOk}
use Rattle.std.proofs.Common.{None as Nothing}
use Rattle.py_value.specs.KeyOf.{fault_within}
use Rattle.py_value.specs.declared.key.KeyFault.TheVariants.{Memory as OutOfMemory}
use Rattle.op_work.specs.Work.{WorkView}
use Rattle.op_work.proofs.EntryReads.{tuples_more, kind_on}
use Rattle.op_work.proofs.work.Work.form.Goals as goal

pub invariant_of-self : goal.invariant_of-self
invariant_of-self c =
    let w = c.self.inside in
    let extends = tuples_more w.values c.key_of.new.self c.key_of.ensures.texts c.key_of.ensures.keeps c.key_of.ensures.grows in (
      (c.self.invariant.0.0, c.sayings_stay.ensures.grown w.values c.key_of.new.self w.note w.opens.items extends.few.0 c.self.invariant.0.1),
      (
        (c.key_of.ensures.interned, c.named_stays.ensures.grown w.values c.key_of.new.self w.store extends.texts extends.tuples c.self.invariant.1.0.1),
        (c.named_stays.ensures.plans w.values c.key_of.new.self w.touched.items extends.texts extends.tuples c.self.invariant.1.1.0, (kind_on extends w.made c.self.invariant.1.1.1.0, c.self.invariant.1.1.1.1)),
      ),
    )

pub returns-clause-allowed : goal.returns-clause-allowed
returns-clause-allowed c = subst (λ (w : WorkView). OnOk c.key_of.result (fault_within 100 w.values c.args.v ≡ Nothing)) c.self.view_is c.key_of.ensures.allowed

pub returns-clause-refused : goal.returns-clause-refused
returns-clause-refused c = subst (λ (w : WorkView). IfErr c.key_of.result (λ fault. (fault ≡ OutOfMemory) ⊎ (fault_within 100 w.values c.args.v ≡ Some fault))) c.self.view_is c.key_of.ensures.refused
