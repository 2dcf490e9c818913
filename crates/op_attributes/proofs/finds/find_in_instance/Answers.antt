use Rattle.std.proofs.Common.{refl, subst, ◌∙◌, Ok}
use Rattle.py_model.specs.Classes.{instance_attribute, method_found}
use Rattle.py_model.specs.Plan.{read_entry, writes, done}
use Rattle.py_value.specs.Contents.{contents, text}
use Rattle.py_value.specs.Seen.{bytes_of}
use Rattle.op_work.specs.Entries.{IsNamedEntry, seen_entry}
use Rattle.op_work.specs.Work.{Comes, Ends}
use Rattle.op_work.proofs.Ending.{ends_then, ends_stop, ends_gives}
use Rattle.op_work.proofs.Going.{passes_err}
use Rattle.op_attributes.proofs.Entries.{behind_entry}
use Rattle.op_attributes.proofs.finds.find_in_instance.Goals as goal

pub returns-in_err-own : goal.returns-in_err-own
returns-in_err-own c = passes_err (λ result. Ends (λ table. instance_attribute (bytes_of table c.args.name) method_found c.args.o (contents table c.args.of)) c.args.work.now c.own_attribute.new.work result)
    c.from_residual.result c.from_residual.ensures.1 (ends_stop (behind_entry c.args.name method_found c.args.of) c.in_err-own.field-0.0 c.in_err-own.ensures)

pub returns-in-Some : goal.returns-in-Some
returns-in-Some c =
    let own = subst (λ e. Comes IsNamedEntry seen_entry (λ table. read_entry c.args.o (text (bytes_of table c.args.name))) c.args.work.now c.own_attribute.new.work (Ok e)) c.in-Some.is c.in_ok-own.ensures in
    ends_then (behind_entry c.args.name method_found c.args.of) own (λ table interned extends. refl)
    (ends_gives (λ table. writes (done (contents table c.in-Some.pair.1))) c.own_attribute.new.work c.in-Some.pair.1 (own.kept.made_is ∙ c.requires.first) own.is_named.1 (λ table interned extends. refl))

pub returns-in-None : goal.returns-in-None
returns-in-None c =
    let own = subst (λ e. Comes IsNamedEntry seen_entry (λ table. read_entry c.args.o (text (bytes_of table c.args.name))) c.args.work.now c.own_attribute.new.work (Ok e)) c.in-None.is c.in_ok-own.ensures in
    ends_then (behind_entry c.args.name method_found c.args.of) own (λ table interned extends. refl) c.find_in_class.ensures
