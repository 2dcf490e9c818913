use Rattle.std.proofs.Common.{sym, ap, ◌∙◌, slice_index}
use Rattle.std.proofs.lemmas.Str.{IsCharBoundary-after_ascii}
use Rattle.py_model.specs.Texts.{is_white}
use Rattle.op_texts.proofs.White.{front_stop, white_ascii, some_more}
use Rattle.op_pieces.proofs.splits.without_front.Goals as goal

pub is_empty-requires-text-self : goal.is_empty-requires-text-self
is_empty-requires-text-self c κs = c.loop-rest.invariant.1

pub range_from-rest-requires : goal.range_from-rest-requires
range_from-rest-requires c = λ more. IsCharBoundary-after_ascii c.loop-rest.rest.now 0 c.loop-rest.invariant.1 (some_more c.loop-rest.rest.now (sym c.loop-rest-test.ensures))
    (white_ascii (slice_index c.loop-rest.rest.now 0) (ap (λ bytes. is_white (slice_index bytes 0)) (sym c.as_bytes.ensures.value) ∙ (sym c.is_white.ensures ∙ c.if-is_white.true)))

pub returns-else-is_white : goal.returns-else-is_white
returns-else-is_white c = sym (front_stop c.loop-rest.rest.now (ap (λ bytes. is_white (slice_index bytes 0)) (sym c.as_bytes.ensures.value) ∙ (sym c.is_white.ensures ∙ c.if-is_white.false))) ∙ c.loop-rest.invariant.0
