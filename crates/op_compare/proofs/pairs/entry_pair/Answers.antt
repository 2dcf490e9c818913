use Rattle.std.proofs.Common.{◌∙◌, refl, sym, ap, subst}
use Rattle.py_model.specs.Plan.{read_entry}
use Rattle.py_value.specs.Contents.{contents}
use Rattle.op_work.specs.Entries.{IsNamedEntry, seen_entry}
use Rattle.op_work.specs.Work.{Comes}
use Rattle.op_work.proofs.Going.{comes_then, comes_stop, comes_as, passes_err}
use Rattle.op_compare.specs.Pairs.{read_entries, both_seen}
use Rattle.op_compare.proofs.EntryWalks.{both_same, both_named}
use Rattle.op_compare.proofs.pairs.entry_pair.Goals as goal

pub returns-in_err-left : goal.returns-in_err-left
returns-in_err-left c = passes_err
    (λ result. Comes IsNamedEntry seen_entry (λ table. read_entries c.args.o c.args.p (contents table c.args.v)) c.args.work.now c.entry_at.new.work result)
    c.from_residual.result c.from_residual.ensures.1
    (comes_stop (λ table left go. read_entry c.args.p (contents table c.args.v) (λ right. go (both_seen left right))) c.in_err-left.ensures)

pub returns-in_err-right : goal.returns-in_err-right
returns-in_err-right c = passes_err
    (λ result. Comes IsNamedEntry seen_entry (λ table. read_entries c.args.o c.args.p (contents table c.args.v)) c.args.work.now c.entry_at-2.new.work result)
    c.from_residual-in_err-right.result c.from_residual-in_err-right.ensures.1
    (comes_then (λ table left go. read_entry c.args.p (contents table c.args.v) (λ right. go (both_seen left right))) c.in_ok-left.ensures (λ table interned extends go. refl)
    (comes_stop (λ table right go. go (both_seen (seen_entry table c.in_ok-left.left) right)) c.in_err-right.ensures))

pub returns : goal.returns
returns c = comes_then (λ table left go. read_entry c.args.p (contents table c.args.v) (λ right. go (both_seen left right))) c.in_ok-left.ensures (λ table interned extends go. refl)
    (comes_as (λ table right go. go (both_seen (seen_entry table c.in_ok-left.left) right)) _ c.in_ok-right.ensures
    (subst (IsNamedEntry _) (sym c.both.ensures) (both_named _ _ c.entry_at-2.ensures.kept.extends.few c.in_ok-left.left c.in_ok-right.right c.in_ok-left.ensures.is_named c.in_ok-right.ensures.is_named))
    (λ table interned extends go. ap go (both_same table c.in_ok-left.left c.in_ok-right.right ∙ ap (seen_entry table) (sym c.both.ensures))))
