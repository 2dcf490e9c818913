use Rattle.std.proofs.Common.{take, reverse}
use Rattle.row_checks.specs.KeptRows.{view_in}
use Rattle.row_checks.proofs.NamedBelow.{kept_in_order}
use Rattle.row_moments.specs.Moments.{moments_by}
use Rattle.row_moments.proofs.Interned.{named_in}
use Rattle.held_rows.specs.Finding.{IsFoundAt}
use Rattle.held_rows.proofs.ValueLaws.{given_named}
use Rattle.held_rows.proofs.printing.value_text.Goals as goal

pub text_at-requires-clause-named : goal.text_at-requires-clause-named
text_at-requires-clause-named c =
    let rows = c.args.rows.now in
    let found : IsFoundAt c.args.at c.args.k rows c.in-Some.n c.in-Some.value = c.in-Some.ensures in
    given_named (view_in rows) c.args.at found.row c.in-Some.value found.given (named_in rows (kept_in_order c.args.script.now.count rows c.requires) found.i found.row found.there)

pub returns-in-Ok-clause-text : goal.returns-in-Ok-clause-text
returns-in-Ok-clause-text c = λ files.
    let rows = c.args.rows.now in
    let found : IsFoundAt c.args.at c.args.k rows c.in-Some.n c.in-Some.value = c.in-Some.ensures in
    record {
      upto = moments_by (view_in rows) (reverse (take c.in-Some.n rows));
      reached = found.found.reached (view_in rows);
      text_is = c.in-Ok.ensures files;
      steps_are = c.steps_upto.ensures (view_in rows);
    }
