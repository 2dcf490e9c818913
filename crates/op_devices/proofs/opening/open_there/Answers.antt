use Rattle.std.proofs.Common.{refl, subst, ℕ}
use Rattle.op_work.specs.Work.{WroteAll}
use Rattle.op_work.proofs.Ending.{ends_makes}
use Rattle.py_model.specs.Files.{begun}
use Rattle.py_model.specs.Plan.{makes}
use Rattle.py_value.specs.Seen.{a_file, bytes_of}
use Rattle.py_value.specs.declared.access.Kind.TheVariants.{File as FileKind}
use Rattle.py_value.specs.declared.access.Mode.TheVariants.{Read as ReadMode}
use Rattle.op_devices.proofs.opening.open_there.Goals as goal

pub returns : goal.returns
returns c =
    let wrote = subst (λ (o : ℕ). WroteAll (λ table. begun o) c.make-o.new.self c.begin.new.work c.begin.result) c.make-o.ensures.number c.begin.ensures in
    ends_makes (λ table. makes (a_file (bytes_of table c.args.path) ReadMode) begun) c.requires.fresh (FileKind c.args.path ReadMode) (λ table o. begun o) c.make-o.ensures.made
    (λ table interned extends. refl) wrote
