use Rattle.std.proofs.Common.{◌∙◌, ap, refl}
use Rattle.now_words.specs.declared.command.Query.TheVariants.{History}
use Rattle.trial_history.specs.History.{AreSomeLines, TellsHistory, history_bytes}
use Rattle.now_top.proofs.Answering.{all_answers_as}
use Rattle.now_top.specs.Reply.{telling}
use Rattle.now_top.proofs.asking.answer_history.Goals as goal

pub returns-clause-answers : goal.returns-clause-answers
returns-clause-answers g c =
    let told = c.history.ensures in
    all_answers_as History history_bytes AreSomeLines TellsHistory (λ tables text is. ap telling is) (λ text some. record { text = text; lines = some; plan_is = refl }) (λ text old new so. so) (λ fault old new so. so)
    c.history.result _ _ _ _ _ _ c.planned_text.ensures told.of_heads told.tells told.of_list told.kept (told.batch ∙ c.requires.batch) told.stops told.cause
