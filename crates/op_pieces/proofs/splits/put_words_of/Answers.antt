use Rattle.std.proofs.Common.{◌≡◌, refl, sym, ap, ◌∙◌, subst, arith, append-nil, ℕ, List, [], ◌∷◌, ◌++◌, ◌<◌, ◌-◌, length, drop, Ok}
use Rattle.std.proofs.lemmas.List.{length-drop}
use Rattle.op_texts.proofs.White.{some_more, front_range}
use Rattle.py_model.specs.Texts.{words_of, without_white_front}
use Rattle.op_work.proofs.Going.{passes_err}
use Rattle.op_pieces.specs.Puts.{Puts, word_end}
use Rattle.op_pieces.proofs.Putting.{puts_then, puts_stop, puts_same, puts_none}
use Rattle.op_pieces.proofs.Words.{front_words, front_black, front_few, end_within, end_boundary, word_more, words_none}
use Rattle.op_pieces.proofs.splits.put_words_of.Goals as goal

pub loop-rest-init : goal.loop-rest-init
loop-rest-init c =
    let is = c.without_front-rest.ensures in let bytes = c.args.bytes.now in
    ([], (puts_none c.args.made.now.items c.args.work.now, (ap words_of is ∙ front_words bytes, (c.without_front-rest.utf8, subst (λ (rest : List ℕ). 0 < length rest → 0 < word_end rest) (sym is) (front_black bytes)))))

pub range-requires-clause-end_boundary : goal.range-requires-clause-end_boundary
range-requires-clause-end_boundary c = end_boundary c.loop-rest.rest.now c.word_end-end.result (c.word_end-end.ensures.end ∙ ap word_end c.as_bytes.ensures.value)

pub returns-in_err-put_text : goal.returns-in_err-put_text
returns-in_err-put_text c =
    let done = c.loop-rest.invariant.0 in let one = c.loop-rest.invariant.1.0 in let rest = c.loop-rest.rest.now in let end = c.word_end-end.result in
    let some = c.loop-rest.invariant.1.1.1.1 (some_more rest (sym c.is_empty.ensures ∙ c.loop-rest-test.true)) in
    let whole = word_more done rest c.args.bytes.now end c.range.result.now (drop end rest) (c.word_end-end.ensures.end ∙ ap word_end c.as_bytes.ensures.value) some (c.range.ensures.value ∙ front_range rest end) refl c.loop-rest.invariant.1.1.0 in
    passes_err (λ result. Puts (words_of c.args.bytes.now) c.args.made.now.items c.put_text.new.made.items c.args.work.now c.put_text.new.work result)
    c.from_residual.result c.from_residual.ensures.1
    (puts_same whole (puts_stop (words_of (drop end rest)) (puts_then one c.in_err-put_text.ensures)))

pub range_from-requires : goal.range_from-requires
range_from-requires c = λ more. end_boundary c.loop-rest.rest.now c.word_end-end.result (c.word_end-end.ensures.end ∙ ap word_end c.as_bytes.ensures.value)

pub loop-rest-smaller : goal.loop-rest-smaller
loop-rest-smaller c =
    let rest = c.loop-rest.rest.now in let end = c.word_end-end.result in let back = c.range_from.result.now in
    let some = c.loop-rest.invariant.1.1.1.1 (some_more rest (sym c.is_empty.ensures ∙ c.loop-rest-test.true)) in
    let at : end ≡ word_end rest = c.word_end-end.ensures.end ∙ ap word_end c.as_bytes.ensures.value in
    let size : length back ≡ length rest - end = ap length c.range_from.ensures.value ∙ length-drop end rest in
    let is : length c.without_front-rest-in-loop-rest.result.now ≡ length (without_white_front back) = ap length c.without_front-rest-in-loop-rest.ensures in
    let few = front_few back in let within = end_within rest in
    omega (arith, some, at, size, is, few, within)

pub loop-rest-preserved : goal.loop-rest-preserved
loop-rest-preserved c =
    let done = c.loop-rest.invariant.0 in let one = c.loop-rest.invariant.1.0 in let rest = c.loop-rest.rest.now in let end = c.word_end-end.result in let back = c.range_from.result.now in
    let some = c.loop-rest.invariant.1.1.1.1 (some_more rest (sym c.is_empty.ensures ∙ c.loop-rest-test.true)) in
    let behind : back ≡ drop end rest = c.range_from.ensures.value in
    let whole = word_more done rest c.args.bytes.now end c.range.result.now back (c.word_end-end.ensures.end ∙ ap word_end c.as_bytes.ensures.value) some (c.range.ensures.value ∙ front_range rest end) behind c.loop-rest.invariant.1.1.0 in
    let is = c.without_front-rest-in-loop-rest.ensures in (
      done ++ c.range.result.now ∷ [],
      (
        puts_then one c.in_ok-put_text.ensures,
        (
          ap (λ words. (done ++ c.range.result.now ∷ []) ++ words) (ap words_of is ∙ front_words back) ∙ whole,
          (c.without_front-rest-in-loop-rest.utf8, subst (λ (rest : List ℕ). 0 < length rest → 0 < word_end rest) (sym is) (front_black back)),
        ),
      ),
    )

pub returns : goal.returns
returns c =
    let done = c.loop-rest.invariant.0 in
    subst (λ (all : List (List ℕ)). Puts all c.args.made.now.items c.loop-rest.made.items c.args.work.now c.loop-rest.work (Ok tt))
    (sym (append-nil done) ∙ (ap (λ ps. done ++ ps) (sym (words_none c.loop-rest.rest.now (sym c.is_empty.ensures ∙ c.loop-rest-test.false))) ∙ c.loop-rest.invariant.1.1.0)) c.loop-rest.invariant.1.0
