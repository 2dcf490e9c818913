use Rattle.trial_loading.proofs.Joining.{finals_stop}
use Rattle.trial_loading.proofs.records.read_records.Goals as goal

pub returns-in-Err-read_finals-clause-answers : goal.returns-in-Err-read_finals-clause-answers
returns-in-Err-read_finals-clause-answers g c =
    finals_stop c.args.head.now c.in-Ok.arguments c.in-Ok-read_capture.capture c.in-Err-read_finals.fault _ _ _ _
    c.in-Ok.ensures.answers c.in-Ok-read_capture.ensures.answers c.in-Err-read_finals.ensures.answers
