use Rattle.std.proofs.Common.{refl, drop, ◌∷◌, ◌++◌, [], take, ap, sym, subst, ◌∙◌}
use Rattle.std.proofs.lemmas.List.{take_more, take_all, take-append-drop}
use Rattle.py_value.specs.Values.{ValuesView}
use Rattle.object_store.specs.Opening.{AreWords, AddsAll}
use Rattle.object_store.proofs.Beginning.{gains_then, adds_last, front_whole}
use Rattle.object_store.proofs.store.opening.words.Goals as goal

pub loop-argument-init : goal.loop-argument-init
loop-argument-init c = (
  c.in_ok-push_word.ensures.words [] (subst (λ items. AreWords c.args.values.now items []) (sym c.new-items.ensures.items) tt),
  c.push_word.ensures.gains,
  (c.push_word.new.values.texts, (c.in_ok-push_word.ensures.text, refl)),
)

pub loop-argument-preserved : goal.loop-argument-preserved
loop-argument-preserved c =
    let word = ap (λ x. x ∷ []) (c.as_str.ensures ∙ c.argument-item.is) in
    let more = ap (λ ws. take c.loop-argument.argument-index c.args.arguments.now ++ ws) word ∙ sym (take_more c.args.arguments.now c.loop-argument.argument-index c.argument-item.result c.loop-argument-test.true) in (
      subst (λ ws. AreWords c.push_word-in-loop-argument.new.values c.push_word-in-loop-argument.new.items.items (c.args.path.now ∷ ws)) more
          (c.in_ok-push_word-2.ensures.words (c.args.path.now ∷ take c.loop-argument.argument-index c.args.arguments.now) c.loop-argument.invariant.0),
      gains_then c.args.values.now c.loop-argument.values c.push_word-in-loop-argument.new.values c.loop-argument.invariant.1 c.push_word-in-loop-argument.ensures.gains,
      subst (λ ws. AddsAll c.args.values.now.texts c.push_word-in-loop-argument.new.values.texts (c.args.path.now ∷ ws)) more
          (adds_last c.args.values.now.texts c.loop-argument.values.texts c.push_word-in-loop-argument.new.values.texts (c.args.path.now ∷ take c.loop-argument.argument-index c.args.arguments.now) _
          c.loop-argument.invariant.2 c.in_ok-push_word-2.ensures.text),
    )

pub returns-in_err-push_word-2-clause-front : goal.returns-in_err-push_word-2-clause-front
returns-in_err-push_word-2-clause-front c = record {
  front = c.args.path.now ∷ take c.loop-argument.argument-index c.args.arguments.now;
  rest = drop c.loop-argument.argument-index c.args.arguments.now;
  split = ap (λ ws. c.args.path.now ∷ ws) (sym (take-append-drop c.loop-argument.argument-index c.args.arguments.now));
  adds = subst (λ (v : ValuesView). AddsAll c.args.values.now.texts v.texts (c.args.path.now ∷ take c.loop-argument.argument-index c.args.arguments.now)) (sym c.in_err-push_word-2.ensures.err) c.loop-argument.invariant.2;
}

pub returns-clause-front : goal.returns-clause-front
returns-clause-front c = front_whole c.args.values.now.texts c.loop-argument.values.texts (c.args.path.now ∷ c.args.arguments.now)
    (subst (λ ws. AddsAll c.args.values.now.texts c.loop-argument.values.texts (c.args.path.now ∷ ws)) (take_all c.loop-argument.argument-index c.args.arguments.now c.loop-argument-test.false) c.loop-argument.invariant.2)
