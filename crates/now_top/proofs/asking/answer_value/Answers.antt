use Rattle.std.proofs.Common.{refl, ◌∙◌}
use Rattle.now_words.specs.declared.command.Query.TheVariants.{Value}
use Rattle.now_top.proofs.Questioning.{question_answers}
use Rattle.now_top.specs.Reply.{telling, answered, unanswered, ValuesOf}
use Rattle.trial_value.specs.Values.{IsValueAt, LacksEvaluation}
use Rattle.now_top.proofs.asking.answer_value.Goals as goal

pub returns-clause-answers : goal.returns-clause-answers
returns-clause-answers g c =
    let of = c.args.of in let told = c.recorded_value_text.ensures in
    question_answers (Value of) of.trial telling (IsValueAt of.at of.k) (LacksEvaluation of.at of.k) (ValuesOf of) (λ trial text is. answered text is) (λ trial so. unanswered so) (λ text. refl) (λ tables plan so. so) (λ plan so. so)
    c.recorded_value_text.result _ _ _ _ _ _ c.planned_question.ensures told.of_trial told.answers told.of_question told.kept (told.batch ∙ c.requires.batch) told.stops told.cause
