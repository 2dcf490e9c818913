use Rattle.std.proofs.Common.{refl, sym, ap, ◌∙◌, subst, ℕ, Some, None, Ok}
use Rattle.op_dicts.specs.Founds.{IsFound, found_seen, with_entry}
use Rattle.op_work.specs.Work.{Comes, Ends, raising}
use Rattle.py_model.specs.Dicts.{get_entry as plan_get}
use Rattle.py_value.specs.Contents.{contents}
use Rattle.op_work.proofs.Ending.{ends_then, ends_stop, ends_gives}
use Rattle.op_work.proofs.Going.{passes_err}
use Rattle.op_dicts.proofs.FoundEnds.{get_next, ends_raises}
use Rattle.op_dicts.proofs.entries.get_entry.Goals as goal

pub returns-in_err-key : goal.returns-in_err-key
returns-in_err-key c = passes_err (λ result. Ends (λ table. plan_get c.args.o (contents table c.args.v)) c.args.work.now c.entry_at.new.work result) c.from_residual.result c.from_residual.ensures.1
    (ends_stop get_next c.in_err-key.field-0.0 c.in_err-key.ensures)

pub returns-in-Some : goal.returns-in-Some
returns-in-Some c =
    let found = subst (λ entry. Comes (IsFound c.args.v) (found_seen c.args.v) (λ table. with_entry c.args.o (contents table c.args.v)) c.args.work.now c.entry_at.new.work (Ok (c.in_ok-key.key, entry))) c.in-Some.is c.in_ok-key.ensures in
    ends_then get_next found (λ table interned extends. refl)
    (ends_gives (λ table. get_next table (found_seen c.args.v table (c.in_ok-key.key, Some c.in-Some.pair))) c.entry_at.new.work c.in-Some.pair.1 (c.entry_at.ensures.kept.made_is ∙ c.requires.fresh) found.is_named.1.1.1 (λ table interned extends. refl))

pub returns-in-None : goal.returns-in-None
returns-in-None c =
    let found = subst (λ entry. Comes (IsFound c.args.v) (found_seen c.args.v) (λ table. with_entry c.args.o (contents table c.args.v)) c.args.work.now c.entry_at.new.work (Ok (c.in_ok-key.key, entry))) c.in-None.is c.in_ok-key.ensures in
    ends_then get_next found (λ table interned extends. refl)
    (ends_raises (λ table. get_next table (found_seen c.args.v table (c.in_ok-key.key, None))) c.entry_at.new.work c.number.result c.args.v found.is_named.1.0.0 (λ table interned extends. ap (λ (n : ℕ). raising table n c.args.v) (sym c.number.ensures)))
