use Rattle.std.proofs.Common.{List, ℕ, Err, sym, subst}
use Rattle.trace_rows.specs.Page.{IsPage}
use Rattle.trial_loading.specs.declared.paged_rows.PagedRows.{PagedRows}
use Rattle.trial_loading.specs.TrialPages.{rows_on}
use Rattle.trial_loading.proofs.Readings.{row_is_bad, no_cause}
use Rattle.trial_loading.proofs.reading.rows_of.Goals as goal

pub returns-in-Err-judge-clause-finds : goal.returns-in-Err-judge-clause-finds
returns-in-Err-judge-clause-finds g c =
    row_is_bad (g.K.Keeper.told c.args.keeper.now) (g.K.Keeper.told c.gather.new.keeper) c.args.trial c.args.pages c.args.statements
    c.in-Ok.gathered.bytes.items c.in-Ok.gathered.cuts.items c.in-Ok.gathered.ended c.in-Err-judge.fault
    (λ each page cuts. c.in-Err-judge.ensures.judges each (subst (λ (l : List ℕ). IsPage l (rows_on each)) (sym c.as_slice.ensures.value) page) cuts)
    c.in-Ok.ensures.finds

pub returns-in-Err-judge-clause-cause : goal.returns-in-Err-judge-clause-cause
returns-in-Err-judge-clause-cause g c =
    no_cause {T = PagedRows} (Err c.in-Err-judge.fault) (g.K.Keeper.faults c.args.keeper.now) (g.K.Keeper.faults c.gather.new.keeper) c.in-Err-judge.ensures.counted c.gather.ensures.cause.never_falls
