use Rattle.std.proofs.Common.{◌∙◌}
use Rattle.now_top.proofs.Answering.{show_answers}
use Rattle.now_top.proofs.asking.answer_show.Goals as goal

pub returns-clause-answers : goal.returns-clause-answers
returns-clause-answers g c = show_answers c.args.number c.show_text.result _ _ _ _ _ _ c.planned_trial.ensures c.show_text.ensures.of_trial c.show_text.ensures.shows c.show_text.ensures.of_loading c.show_text.ensures.kept (c.show_text.ensures.batch ∙ c.requires.batch)
    c.show_text.ensures.stops c.show_text.ensures.cause
