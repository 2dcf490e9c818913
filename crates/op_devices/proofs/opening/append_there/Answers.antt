use Rattle.std.proofs.Common.{refl, subst, ℕ}
use Rattle.op_work.specs.Work.{WroteAll}
use Rattle.op_work.proofs.Ending.{ends_makes}
use Rattle.py_model.specs.Files.{begun}
use Rattle.py_model.specs.Plan.{makes, opens}
use Rattle.py_value.specs.Seen.{a_file, bytes_of}
use Rattle.py_value.specs.declared.access.Kind.TheVariants.{File as FileKind}
use Rattle.py_value.specs.declared.access.Mode.TheVariants.{Append as AppendMode}
use Rattle.op_devices.proofs.opening.append_there.Goals as goal

pub returns : goal.returns
returns c =
    let wrote = subst (λ (o : ℕ). WroteAll (λ table. opens (bytes_of table c.args.path) (begun o)) c.make-o.new.self c.begin_open.new.work c.begin_open.result) c.make-o.ensures.number c.begin_open.ensures in
    ends_makes (λ table. makes (a_file (bytes_of table c.args.path) AppendMode) (λ o. opens (bytes_of table c.args.path) (begun o))) c.requires.fresh (FileKind c.args.path AppendMode) (λ table o. opens (bytes_of table c.args.path) (begun o)) c.make-o.ensures.made
    (λ table interned extends. refl) wrote
