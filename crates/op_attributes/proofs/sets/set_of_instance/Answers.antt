use Rattle.std.proofs.Common.{refl, subst, ◌∙◌, Ok}
use Rattle.py_model.specs.Classes.{setattr_entry}
use Rattle.py_model.specs.Plan.{read_entry, writes}
use Rattle.py_value.specs.Contents.{contents, text}
use Rattle.py_value.specs.Seen.{bytes_of}
use Rattle.op_work.specs.Entries.{IsNamedEntry, seen_entry}
use Rattle.op_work.specs.Work.{Comes, Ends}
use Rattle.op_work.proofs.Ending.{ends_then, ends_stop, ends_writes}
use Rattle.op_work.proofs.Going.{passes_err}
use Rattle.op_attributes.specs.Owns.{own_set, own_added}
use Rattle.op_attributes.proofs.Entries.{sets_entry}
use Rattle.op_attributes.proofs.sets.set_of_instance.Goals as goal

pub returns-in_err-own : goal.returns-in_err-own
returns-in_err-own c = passes_err (λ result. Ends (λ table. read_entry c.args.o (text (bytes_of table c.args.name)) (λ entry. setattr_entry (bytes_of table c.args.name) c.args.o (contents table c.args.v) entry)) c.args.work.now c.own_attribute.new.work result)
    c.from_residual.result c.from_residual.ensures.1 (ends_stop (sets_entry c.args.name c.args.o c.args.v) c.in_err-own.field-0.0 c.in_err-own.ensures)

pub returns-in-Some : goal.returns-in-Some
returns-in-Some c =
    let own = subst (λ e. Comes IsNamedEntry seen_entry (λ table. read_entry c.args.o (text (bytes_of table c.args.name))) c.args.work.now c.own_attribute.new.work (Ok e)) c.in-Some.is c.in_ok-own.ensures in
    ends_then (sets_entry c.args.name c.args.o c.args.v) own (λ table interned extends. refl)
    (ends_writes (λ table. writes (own_set c.args.o (bytes_of table c.args.name) (contents table c.in-Some.pair.0) (contents table c.args.v))) (own.kept.made_is ∙ c.requires.first)
    (λ table. own_set c.args.o (bytes_of table c.args.name) (contents table c.in-Some.pair.0) (contents table c.args.v)) (λ table interned extends. refl) c.put.ensures)

pub returns-in-None : goal.returns-in-None
returns-in-None c =
    let own = subst (λ e. Comes IsNamedEntry seen_entry (λ table. read_entry c.args.o (text (bytes_of table c.args.name))) c.args.work.now c.own_attribute.new.work (Ok e)) c.in-None.is c.in_ok-own.ensures in
    ends_then (sets_entry c.args.name c.args.o c.args.v) own (λ table interned extends. refl)
    (ends_writes (λ table. writes (own_added c.args.o (bytes_of table c.args.name) (contents table c.args.v))) (own.kept.made_is ∙ c.requires.first)
    (λ table. own_added c.args.o (bytes_of table c.args.name) (contents table c.args.v)) (λ table interned extends. refl) c.add.ensures)
