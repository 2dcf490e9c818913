use Rattle.std.proofs.Common.{refl, sym, ap, ◌∙◌, subst, Some, None, Ok}
use Rattle.op_dicts.specs.Founds.{IsFound, found_seen, with_entry, pair_set, pair_added}
use Rattle.op_work.specs.Work.{Comes, Ends}
use Rattle.py_model.specs.Dicts.{set_entry as plan_set}
use Rattle.py_model.specs.Plan.{writes}
use Rattle.py_value.specs.Contents.{contents}
use Rattle.op_work.proofs.Ending.{ends_then, ends_stop, ends_writes}
use Rattle.op_work.proofs.EntryReads.{form_on}
use Rattle.op_work.proofs.Going.{passes_err}
use Rattle.op_dicts.proofs.FoundEnds.{set_next}
use Rattle.op_dicts.proofs.entries.set_entry.Goals as goal

pub returns-in_err-key : goal.returns-in_err-key
returns-in_err-key c = passes_err (λ result. Ends (λ table. plan_set c.args.o (contents table c.args.v) (contents table c.args.item)) c.args.work.now c.entry_at.new.work result) c.from_residual.result c.from_residual.ensures.1
    (ends_stop (set_next c.args.o c.args.item) c.in_err-key.field-0.0 c.in_err-key.ensures)

pub returns-in-Some : goal.returns-in-Some
returns-in-Some c =
    let found = subst (λ entry. Comes (IsFound c.args.v) (found_seen c.args.v) (λ table. with_entry c.args.o (contents table c.args.v)) c.args.work.now c.entry_at.new.work (Ok (c.in_ok-key.key, entry))) c.in-Some.is c.in_ok-key.ensures in
    ends_then (set_next c.args.o c.args.item) found (λ table interned extends. refl)
    (ends_writes (λ table. set_next c.args.o c.args.item table (found_seen c.args.v table (c.in_ok-key.key, Some c.in-Some.pair))) (c.entry_at.ensures.kept.made_is ∙ c.requires.fresh) (λ table. pair_set c.args.o (contents table c.in_ok-key.key.value) (contents table c.in-Some.pair.0) (contents table c.args.item))
    (λ table interned extends. ap (λ form. writes (pair_set c.args.o form (contents table c.in-Some.pair.0) (contents table c.args.item))) (sym (form_on c.contents_stay.ensures found.is_named.0 extends c.args.v c.in_ok-key.key found.is_named.1.0))) c.put_pair.ensures)

pub returns-in-None : goal.returns-in-None
returns-in-None c =
    let found = subst (λ entry. Comes (IsFound c.args.v) (found_seen c.args.v) (λ table. with_entry c.args.o (contents table c.args.v)) c.args.work.now c.entry_at.new.work (Ok (c.in_ok-key.key, entry))) c.in-None.is c.in_ok-key.ensures in
    ends_then (set_next c.args.o c.args.item) found (λ table interned extends. refl)
    (ends_writes (λ table. set_next c.args.o c.args.item table (found_seen c.args.v table (c.in_ok-key.key, None))) (c.entry_at.ensures.kept.made_is ∙ c.requires.fresh) (λ table. pair_added c.args.o (contents table c.in_ok-key.key.value) (contents table c.args.v) (contents table c.args.item))
    (λ table interned extends. ap (λ form. writes (pair_added c.args.o form (contents table c.args.v) (contents table c.args.item))) (sym (form_on c.contents_stay.ensures found.is_named.0 extends c.args.v c.in_ok-key.key found.is_named.1.0))) c.add_pair.ensures)
