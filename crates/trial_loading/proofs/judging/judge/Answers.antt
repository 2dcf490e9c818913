use Rattle.std.proofs.Common.{◌≡◌, subst, ◌∙◌, rules}
use Rattle.row_checks.specs.KeptRows.{AreKeptRows, IsFirstUnkept, TellsUnkept}
use Rattle.trial_loading.specs.TrialPages.{rows_on}
use Rattle.trial_loading.proofs.Places.{bad_of}
use Rattle.trial_loading.proofs.judging.judge.Goals as goal

pub returns-in-Ok-None-clause-judges : goal.returns-in-Ok-None-clause-judges
returns-in-Ok-None-clause-judges c = λ each page cuts.
    let same : c.in-Ok.rows ≡ rows_on each = c.in-Ok.ensures.again (rows_on each) page in
    let seen : c.as_slice.result.now ≡ c.in-Ok.rows = search rules in
    (same, (cuts, subst (AreKeptRows c.args.statements) (seen ∙ same) (subst (TellsUnkept c.args.statements c.as_slice.result.now) c.in-Ok-None.field-0-is c.in-Ok-None.ensures)))

pub returns-in-Ok-damage_at-clause-judges : goal.returns-in-Ok-damage_at-clause-judges
returns-in-Ok-damage_at-clause-judges c = λ each page cuts.
    let same : c.in-Ok.rows ≡ rows_on each = c.in-Ok.ensures.again (rows_on each) page in
    let first : IsFirstUnkept c.args.statements c.in-Ok.rows c.in-Ok-Some.row = search rules in
    bad_of c.args.statements each c.in-Ok.rows c.args.cuts.items c.in-Ok-Some.row c.in-Ok-damage_at.damage same cuts (search rules) first
