use Rattle.std.proofs.Common.{refl, ◌∙◌}
use Rattle.dep_query.specs.Dataflows.{IsDataflow, LacksDataflow}
use Rattle.now_words.specs.declared.command.Query.TheVariants.{Dataflow}
use Rattle.now_top.proofs.Questioning.{question_answers}
use Rattle.now_top.specs.Reply.{telling, answered, unanswered, DataflowOf}
use Rattle.now_top.proofs.asking.answer_dataflow.Goals as goal

pub returns-clause-answers : goal.returns-clause-answers
returns-clause-answers g c =
    let told = c.dataflow_text.ensures in
    question_answers (Dataflow c.args.number) c.args.number telling IsDataflow LacksDataflow DataflowOf (λ trial text is. answered text is) (λ trial so. unanswered so) (λ text. refl) (λ tables plan so. so) (λ plan so. so)
    c.dataflow_text.result _ _ _ _ _ _ c.planned_question.ensures told.of_trial told.answers told.of_question told.kept (told.batch ∙ c.requires.batch) told.stops told.cause
