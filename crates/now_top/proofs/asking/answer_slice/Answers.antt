use Rattle.std.proofs.Common.{◌∙◌}
use Rattle.now_top.proofs.Answering.{slice_answers}
use Rattle.now_top.proofs.asking.answer_slice.Goals as goal

pub returns-clause-answers : goal.returns-clause-answers
returns-clause-answers g c = slice_answers c.args.of c.slice_text.result _ _ _ _ _ _ c.planned_question.ensures c.slice_text.ensures.of_trial c.slice_text.ensures.slices c.slice_text.ensures.of_question c.slice_text.ensures.kept (c.slice_text.ensures.batch ∙ c.requires.batch)
    c.slice_text.ensures.stops c.slice_text.ensures.cause
