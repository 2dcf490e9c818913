use Rattle.std.proofs.Common.{◌∙◌, refl, ap, subst, ℕ}
use Rattle.op_work.specs.Work.{WroteAll, is_any, as_is}
use Rattle.op_work.proofs.Ending.{ends_makes, ends_then}
use Rattle.op_work.proofs.Going.{gives_comes}
use Rattle.op_devices.specs.Opening.{made_new}
use Rattle.py_model.specs.Plan.{Plan, makes}
use Rattle.py_value.specs.Seen.{a_file, bytes_of}
use Rattle.py_value.specs.declared.access.Kind.TheVariants.{File as FileKind}
use Rattle.op_devices.proofs.opening.open_new.Goals as goal

pub returns : goal.returns
returns c =
    let wrote = subst (λ (o : ℕ). WroteAll (λ table. made_new (bytes_of table c.args.path) o) c.make-o.new.self c.begin_new.new.work c.begin_new.result) c.make-o.ensures.number c.begin_new.ensures in
    let fresh = ap (λ w. w.made) c.in_ok-empty.ensures.same ∙ c.requires.fresh in
    ends_then {p = λ table (go : Unit {0} → Plan). go tt} (λ table x. makes (a_file (bytes_of table c.args.path) c.args.mode) (made_new (bytes_of table c.args.path)))
    (gives_comes {named = is_any} {seen = as_is} (λ table (go : Unit {0} → Plan). go tt) c.in_ok-empty.ensures.extends c.in_ok-empty.ensures.same tt tt (λ table store extends seen go answers. refl))
    (λ table interned extends. refl)
    (ends_makes (λ table. makes (a_file (bytes_of table c.args.path) c.args.mode) (made_new (bytes_of table c.args.path))) fresh (FileKind c.args.path c.args.mode) (λ table o. made_new (bytes_of table c.args.path) o) c.make-o.ensures.made
    (λ table interned extends. refl) wrote)
