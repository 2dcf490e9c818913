use Rattle.std.proofs.Common.{◌∙◌}
use Rattle.now_words.specs.declared.command.Query.TheVariants.{Replay}
use Rattle.now_top.proofs.Questioning.{no_failure, question_answers}
use Rattle.now_top.specs.Reply.{replaying, answered, unanswered, ReplaysOf}
use Rattle.trial_replay.specs.Replays.{IsReplayAt}
use Rattle.trial_value.specs.Values.{LacksEvaluation}
use Rattle.now_top.proofs.asking.answer_replay.Goals as goal

pub returns-clause-answers : goal.returns-clause-answers
returns-clause-answers g c =
    let of = c.args.of in let told = c.replayed_text.ensures in
    question_answers (Replay of) of.trial replaying (IsReplayAt of.at of.k) (LacksEvaluation of.at of.k) (ReplaysOf of) (λ trial it is. answered it is) (λ trial so. unanswered so) no_failure (λ tables plan so. so) (λ plan so. so)
    c.replayed_text.result _ _ _ _ _ _ c.planned_replay.ensures told.of_trial told.answers told.of_question told.kept (told.batch ∙ c.requires.batch) told.stops told.cause
