use Rattle.std.proofs.Common.{◌≡◌, ◌∙◌, ap, List, ℕ}
use Rattle.keeper.specs.Tables.{TablesView}
use Rattle.keeper.specs.declared.records.Head.{Head}
use Rattle.now_words.specs.declared.command.Query.TheVariants.{List as list_query}
use Rattle.trial_list.specs.Lines.{list_bytes}
use Rattle.trial_list.specs.Lists.{ListsTrials}
use Rattle.now_top.proofs.Answering.{all_answers_as}
use Rattle.now_top.specs.Reply.{telling}
use Rattle.now_top.proofs.asking.answer_list.Goals as goal

pub returns-clause-answers : goal.returns-clause-answers
returns-clause-answers g c =
    let told = c.list_text.ensures in
    all_answers_as list_query (λ (tables : TablesView). list_bytes tables.heads) (λ (text : List ℕ). (heads : List Head) × (text ≡ list_bytes heads)) ListsTrials (λ tables text is. ap telling is) (λ text some. (some.0, ap telling some.1))
    (λ text old new so. so) (λ fault old new so. so)
    c.list_text.result _ _ _ _ _ _ c.planned_text.ensures told.of_heads told.lists told.of_list told.kept (told.batch ∙ c.requires.batch) told.stops told.cause
