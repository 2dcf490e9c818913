use Rattle.std.proofs.Common.{sym, ap, ◌∙◌, ◌≡◌, ◌++◌, ◌∷◌, [], chars, append-nil, subst, IsUtf8}
use Rattle.std.proofs.lemmas.Str.{IsUtf8-past_char, chars_past_char}
use Rattle.std.proofs.lemmas.List.{append_assoc}
use Rattle.std.specs.Str.Iter.{chars_rest}
use Rattle.std.proofs.StrCases.{chars_of_empty}
use Rattle.op_lists.proofs.letters.letters.Goals as goal

pub loop-c-init : goal.loop-c-init
loop-c-init c =
    let at : chars_rest c.into_iter-c-iterator.result ≡ c.args.text.now = ap chars_rest c.into_iter-c-iterator.ensures.into_iter_gives ∙ c.chars-c-items.ensures.rest in
    (subst IsUtf8 (sym at) c.utf8.text, ap (λ items. items ++ chars (chars_rest c.into_iter-c-iterator.result)) c.new-all.ensures.items ∙ ap chars at)

pub loop-c-preserved : goal.loop-c-preserved
loop-c-preserved c =
    let held = c.loop-c.invariant in
    let parts = c.in-Some.ensures.steps.0 in
    let step = chars_past_char _ _ c.in-Some.c held.0 parts in
    (IsUtf8-past_char _ _ c.in-Some.c held.0 parts, ap (λ all. all ++ chars (chars_rest c.next.new.self)) c.in_ok-push.ensures.items ∙ (append_assoc c.loop-c.all.items (c.in-Some.c ∷ []) (chars (chars_rest c.next.new.self)) ∙ (ap (λ rest. c.loop-c.all.items ++ rest) (sym step) ∙ held.1)))

pub returns : goal.returns
returns c = sym (append-nil c.loop-c.all.items) ∙ (ap (λ rest. c.loop-c.all.items ++ rest) (sym (chars_of_empty _ c.in-None.ensures.steps.0.0)) ∙ c.loop-c.invariant.1)
