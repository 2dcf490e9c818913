use Rattle.std.proofs.Common.{refl, ◌∙◌}
use Rattle.now_words.specs.declared.command.Query.TheVariants.{Effects}
use Rattle.now_top.proofs.Questioning.{question_answers}
use Rattle.now_top.specs.Reply.{telling, answered, unanswered, FeedingsOf}
use Rattle.dep_query.specs.SiteTexts.{IsFedText, LacksSite}
use Rattle.feedings.specs.declared.site.Way.TheVariants.{Effects as from_it}
use Rattle.now_top.proofs.asking.answer_effects.Goals as goal

pub returns-clause-answers : goal.returns-clause-answers
returns-clause-answers g c =
    let of = c.args.of in let told = c.feeding_text.ensures in
    question_answers (Effects of) of.trial telling (IsFedText from_it of.at of.k) (LacksSite of.at of.k) (FeedingsOf from_it of) (λ trial text is. answered text is) (λ trial so. unanswered so) (λ text. refl) (λ tables plan so. so) (λ plan so. so)
    c.feeding_text.result _ _ _ _ _ _ c.planned_question.ensures told.of_trial told.answers told.of_question told.kept (told.batch ∙ c.requires.batch) told.stops told.cause
