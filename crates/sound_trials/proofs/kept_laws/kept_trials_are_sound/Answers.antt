use Rattle.std.proofs.Common.{sym, subst, ◌∙◌, ap}
use Rattle.capture.specs.declared.ended.Ended.{Ended as EndedRun}
use Rattle.py_tree.specs.Erasure.{script_of}
use Rattle.keeper.specs.declared.records.Head.{Head}
use Rattle.recorder.specs.PageCuts.{AreDecodedAs}
use Rattle.row_words.specs.Fits.{Each}
use Rattle.trace_rows.specs.RowBytes.{AreRows}
use Rattle.trial_tables.specs.Written.{next_trial}
use Rattle.py_parser.specs.Reading.{HasScript}
use Rattle.sound_trials.proofs.AnswerKinds.{kinds_fit}
use Rattle.sound_trials.proofs.KeptRows.{rows_stand}
use Rattle.sound_trials.proofs.KeptSame.{still_stands, can_be_read_later, trial_later}
use Rattle.sound_trials.proofs.KeptSound.{sound_by}
use Rattle.sound_trials.proofs.Spelling.{AnswerFits}
use Rattle.sound_trials.proofs.kept_laws.kept_trials_are_sound.Goals as goal

pub returns-clause-read : goal.returns-clause-read
returns-clause-read c run before after later trial was is more loaded =
    can_be_read_later run before after later
    (subst (λ (e : EndedRun). Each AnswerFits e.capture.answers) (sym was.ended_is) (kinds_fit was.asked was.before was.after was.it.ended.capture.answers was.records.runs.0 was.records.in_order.permuted))
    is more trial loaded

pub returns-clause-sound : goal.returns-clause-sound
returns-clause-sound c run before after later trial ends was is more loaded =
    let kinds = subst (λ (e : EndedRun). Each AnswerFits e.capture.answers) (sym was.ended_is) (kinds_fit was.asked was.before was.after was.it.ended.capture.answers was.records.runs.0 was.records.in_order.permuted) in
    let stands = still_stands run before after later kinds is more in
    let same = trial_later run before after later kinds is more trial loaded
    (c.kept_trials_are_read_back.ensures run before after (can_be_read_later run before after later kinds is more trial loaded) is) in
    let scripts = c.one_reading.ensures.script run.text (script_of trial.script) was.script (subst (λ t. HasScript t (script_of trial.script)) same.text loaded.script_is) was.has in
    let of = c.kept_captures_have_the_run.ensures was.script run.path run.arguments run.budget was.before was.after ends was.asked was.it was.records in
    let rows = loaded.rows_are.rows_are
    ∙ rows_stand c.pages_are_read_one_way.ensures.rows later (next_trial before) run.pages _ 0 stands.pages
    (subst (AreDecodedAs _) (sym (was.pages_are ∙ of.pages.pages_are)) (c.pages_are_the_rows.ensures.decoded _ of.pages.fit))
    loaded.rows_are.each (loaded.rows_are.count ∙ ap (λ (h : Head). h.pages) same.head) loaded.rows_are.hold in
    sound_by run was.script was.it before trial ends scripts was.ended_is same of rows (subst AreRows (sym rows) of.pages.fit)
