use Rattle.std.proofs.Common.{◌++◌, [], ◌∷◌, Some, sym, subst, ap, ◌∙◌}
use Rattle.py_value.specs.declared.value.Value.TheVariants.{Text}
use Rattle.object_store.specs.Opening.{AreWords}
use Rattle.object_store.proofs.Beginning.{words_stay, words_put}
use Rattle.object_store.proofs.store.opening.push_word.Goals as goal

pub returns-clause-words : goal.returns-clause-words
returns-clause-words c = λ words are.
    subst (λ items. AreWords c.text.new.self items (words ++ c.args.word.now ∷ [])) (sym (c.push_reserved.ensures.items ∙ ap (λ items. items ++ Some (Text c.in_ok-number.number) ∷ []) c.reserve.ensures.items))
    (words_put c.text.new.self c.args.items.now.items words c.in_ok-number.number c.args.word.now
    (words_stay c.args.values.now c.text.new.self c.text.ensures.keeps c.args.items.now.items words are) c.in_ok-number.ensures.name)
