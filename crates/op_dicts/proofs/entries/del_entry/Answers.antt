use Rattle.std.proofs.Common.{refl, sym, ap, ◌∙◌, subst, ℕ, Some, None, Ok}
use Rattle.op_dicts.specs.Founds.{IsFound, found_seen, with_entry, pair_removed}
use Rattle.op_work.specs.Work.{Comes, Ends, raising}
use Rattle.py_model.specs.Dicts.{del_entry as plan_del}
use Rattle.py_model.specs.Plan.{writes}
use Rattle.py_value.specs.Contents.{contents}
use Rattle.op_work.proofs.Ending.{ends_then, ends_stop, ends_writes}
use Rattle.op_work.proofs.EntryReads.{form_on}
use Rattle.op_work.proofs.Going.{passes_err}
use Rattle.op_dicts.proofs.FoundEnds.{del_next, ends_raises}
use Rattle.op_dicts.proofs.entries.del_entry.Goals as goal

pub returns-in_err-key : goal.returns-in_err-key
returns-in_err-key c = passes_err (λ result. Ends (λ table. plan_del c.args.o (contents table c.args.v)) c.args.work.now c.entry_at.new.work result) c.from_residual.result c.from_residual.ensures.1
    (ends_stop (del_next c.args.o) c.in_err-key.field-0.0 c.in_err-key.ensures)

pub returns-in-Some : goal.returns-in-Some
returns-in-Some c =
    let found = subst (λ entry. Comes (IsFound c.args.v) (found_seen c.args.v) (λ table. with_entry c.args.o (contents table c.args.v)) c.args.work.now c.entry_at.new.work (Ok (c.in_ok-key.key, entry))) c.in-Some.is c.in_ok-key.ensures in
    ends_then (del_next c.args.o) found (λ table interned extends. refl)
    (ends_writes (λ table. del_next c.args.o table (found_seen c.args.v table (c.in_ok-key.key, Some c.in-Some.pair))) (c.entry_at.ensures.kept.made_is ∙ c.requires.fresh) (λ table. pair_removed c.args.o (contents table c.in_ok-key.key.value) (contents table c.in-Some.pair.0))
    (λ table interned extends. ap (λ form. writes (pair_removed c.args.o form (contents table c.in-Some.pair.0))) (sym (form_on c.contents_stay.ensures found.is_named.0 extends c.args.v c.in_ok-key.key found.is_named.1.0))) c.remove_pair.ensures)

pub returns-in-None : goal.returns-in-None
returns-in-None c =
    let found = subst (λ entry. Comes (IsFound c.args.v) (found_seen c.args.v) (λ table. with_entry c.args.o (contents table c.args.v)) c.args.work.now c.entry_at.new.work (Ok (c.in_ok-key.key, entry))) c.in-None.is c.in_ok-key.ensures in
    ends_then (del_next c.args.o) found (λ table interned extends. refl)
    (ends_raises (λ table. del_next c.args.o table (found_seen c.args.v table (c.in_ok-key.key, None))) c.entry_at.new.work c.number.result c.args.v found.is_named.1.0.0 (λ table interned extends. ap (λ (n : ℕ). raising table n c.args.v) (sym c.number.ensures)))
