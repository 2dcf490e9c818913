use Rattle.std.proofs.Common.{sym, ap, ◌∙◌, ◌-◌, length, slice_index}
use Rattle.py_model.specs.Texts.{is_white, without_white_back}
use Rattle.op_texts.proofs.White.{back_step, back_stop, front_range}
use Rattle.op_texts.proofs.strips.without_back.Goals as goal

pub is_empty-requires-text-self : goal.is_empty-requires-text-self
is_empty-requires-text-self c κs = c.loop-rest.invariant.1

pub loop-rest-preserved : goal.loop-rest-preserved
loop-rest-preserved c =
    let last = length c.loop-rest.rest.now - 1 in (
      ap without_white_back (c.range-rest.ensures.value ∙ front_range c.loop-rest.rest.now last)
          ∙ (back_step c.loop-rest.rest.now (sym c.loop-rest-test.ensures) (ap (λ bytes. is_white (slice_index bytes last)) (sym c.as_bytes.ensures.value) ∙ (sym c.is_white.ensures ∙ c.if-is_white.true))
          ∙ c.loop-rest.invariant.0),
      c.range-rest.utf8,
    )

pub returns-else-is_white : goal.returns-else-is_white
returns-else-is_white c =
    let last = length c.loop-rest.rest.now - 1 in
    sym (back_stop c.loop-rest.rest.now (sym c.loop-rest-test.ensures) (ap (λ bytes. is_white (slice_index bytes last)) (sym c.as_bytes.ensures.value) ∙ (sym c.is_white.ensures ∙ c.if-is_white.false))) ∙ c.loop-rest.invariant.0
