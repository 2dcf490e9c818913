use Rattle.std.proofs.Common.{refl}
use Rattle.op_dicts.specs.Founds.{IsFound, found_seen, with_entry}
use Rattle.op_work.specs.Work.{Comes}
use Rattle.py_value.specs.Contents.{contents}
use Rattle.op_work.proofs.Going.{comes_then, comes_stop, comes_as, passes_err}
use Rattle.op_dicts.proofs.FoundEnds.{at_key, key_kept}
use Rattle.op_dicts.proofs.entries.entry_at.Goals as goal

pub returns-in_err-key : goal.returns-in_err-key
returns-in_err-key c = passes_err (λ result. Comes (IsFound c.args.v) (found_seen c.args.v) (λ table. with_entry c.args.o (contents table c.args.v)) c.args.work.now c.key_of.new.self result)
    c.from_residual.result c.from_residual.ensures.1 (comes_stop (at_key c.args.o) c.in_err-key.ensures)

pub returns-in_err-entry : goal.returns-in_err-entry
returns-in_err-entry c = passes_err (λ result. Comes (IsFound c.args.v) (found_seen c.args.v) (λ table. with_entry c.args.o (contents table c.args.v)) c.args.work.now c.read_entry.new.self result)
    c.from_residual-in_err-entry.result c.from_residual-in_err-entry.ensures.1
    (comes_then (at_key c.args.o) c.in_ok-key.ensures (λ table interned extends go. refl) (comes_stop (λ table e go. go (contents table c.args.v, e)) c.in_err-entry.ensures))

pub returns : goal.returns
returns c =
    let key = key_kept c.contents_stay.ensures c.values.ensures.interned c.read_entry.ensures.kept.extends c.args.v c.in_ok-key.key c.in_ok-key.ensures.is_named in
    comes_then (at_key c.args.o) c.in_ok-key.ensures (λ table interned extends go. refl)
    (comes_as (λ table e go. go (contents table c.args.v, e)) (c.in_ok-key.key, c.in_ok-entry.entry) c.in_ok-entry.ensures (c.values-2.ensures.interned, (key, c.in_ok-entry.ensures.is_named)) (λ table interned extends go. refl))
