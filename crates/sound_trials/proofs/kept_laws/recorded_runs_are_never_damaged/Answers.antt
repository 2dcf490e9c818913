use Rattle.std.proofs.Common.{sym, subst, ◌∙◌}
use Rattle.answer_source.specs.Live.{capture_of}
use Rattle.capture.specs.declared.ended.Ended.{Ended as EndedRun}
use Rattle.py_parser.proofs.Parsing.{numbered_script}
use Rattle.row_words.specs.Fits.{Each}
use Rattle.trial_keeping.specs.Trial.{parent_in}
use Rattle.trial_tables.specs.Written.{next_trial}
use Rattle.sound_trials.proofs.AnswerKinds.{kinds_fit}
use Rattle.sound_trials.proofs.KeptSame.{still_stands}
use Rattle.sound_trials.proofs.Spelling.{AnswerFits}
use Rattle.sound_trials.proofs.Standing.{more_there}
use Rattle.sound_trials.proofs.Undamaged.{read_later, pages_so}
use Rattle.sound_trials.proofs.kept_laws.recorded_runs_are_never_damaged.Goals as goal

pub returns : goal.returns
returns c run before after later was path is more damage bad =
    let of = c.kept_captures_have_the_run.ensures was.script run.path run.arguments run.budget was.before was.after was.after was.asked was.it was.records in
    let kinds = subst (λ (e : EndedRun). Each AnswerFits e.capture.answers) (sym was.ended_is) (kinds_fit was.asked was.before was.after was.it.ended.capture.answers was.records.runs.0 was.records.in_order.permuted) in
    let stands = still_stands run before after later kinds is more in
    let kept = c.kept_trials_are_read_back.ensures run before after (c.recorded_runs_can_be_read.ensures run was path) is in
    c.kept_runs_are_never_damaged.ensures.standing run was.script (capture_of was.it.ended.capture was.after) later (next_trial before) (parent_in before run.path) was.has
    (numbered_script was.has.lines was.script was.has.is_script) (record { pages_are = was.pages_are ∙ of.pages.pages_are; fit = of.pages.fit }) stands.head
    (read_later after later (more_there after later more).contents run before path stands kept.read_back.rest) (pages_so later (next_trial before) 0 run.pages stands.pages) damage bad
