use Rattle.std.proofs.Common.{sym, subst}
use Rattle.recorder.specs.PageCuts.{AreDecodedAs}
use Rattle.kept_trials.proofs.NoDamage.{no_row_damage, kept_pages_stand, never_damaged}
use Rattle.kept_trials.proofs.laws.kept_runs_are_never_damaged.Goals as goal

pub returns-clause-rows : goal.returns-clause-rows
returns-clause-rows c script capture path arguments steps numbered pages hold tables trial stand damage bad =
    no_row_damage c.pages_are_read_one_way.ensures.rows c.pages_are_read_one_way.ensures.none tables trial script.count pages _ stand
    (subst (AreDecodedAs _) (sym hold.pages_are) (c.pages_are_the_rows.ensures.decoded _ hold.fit)) (c.rows_of_runs_are_kept.ensures script capture path arguments steps numbered) damage bad

pub returns-clause-standing : goal.returns-clause-standing
returns-clause-standing c run script capture tables number parent has numbered hold stands read pages damage bad =
    never_damaged (record { arguments = c.records_are_read_one_way.ensures.arguments; captures = c.records_are_read_one_way.ensures.captures; finals = c.records_are_read_one_way.ensures.finals })
    c.one_reading.ensures.script c.one_reading.ensures.not_both run script tables number parent has stands read
    (no_row_damage c.pages_are_read_one_way.ensures.rows c.pages_are_read_one_way.ensures.none tables number script.count run.pages _ pages
    (subst (AreDecodedAs _) (sym hold.pages_are) (c.pages_are_the_rows.ensures.decoded _ hold.fit)) (c.rows_of_runs_are_kept.ensures script capture run.path run.arguments run.budget numbered))
    damage bad

pub returns-clause-trials : goal.returns-clause-trials
returns-clause-trials c run script capture before after can has numbered hold is damage bad =
    let kept = c.kept_trials_are_read_back.ensures run before after can is in
    never_damaged (record { arguments = c.records_are_read_one_way.ensures.arguments; captures = c.records_are_read_one_way.ensures.captures; finals = c.records_are_read_one_way.ensures.finals })
    c.one_reading.ensures.script c.one_reading.ensures.not_both run script after _ _ has kept.head kept.read_back
    (no_row_damage c.pages_are_read_one_way.ensures.rows c.pages_are_read_one_way.ensures.none after _ script.count run.pages _ (kept_pages_stand run before after is)
    (subst (AreDecodedAs _) (sym hold.pages_are) (c.pages_are_the_rows.ensures.decoded _ hold.fit)) (c.rows_of_runs_are_kept.ensures script capture run.path run.arguments run.budget numbered))
    damage bad
