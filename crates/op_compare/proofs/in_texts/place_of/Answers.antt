use Rattle.std.proofs.Common.{sym, ap, ◌∙◌, arith, None, Some, if◌then◌else◌}
use Rattle.py_model.specs.Texts.{begins_with}
use Rattle.op_texts.proofs.Places.{place_on, place_end, rest_is}
use Rattle.op_compare.proofs.in_texts.place_of.Goals as goal

pub loop-at-preserved : goal.loop-at-preserved
loop-at-preserved c = sym (place_on c.args.bytes.now c.args.sought.now c.loop-at.at c.loop-at-test.true
    (ap (λ rest. begins_with rest c.args.sought.now) (sym (rest_is c.args.bytes.now c.loop-at.at)) ∙ (sym c.begins_with.ensures ∙ c.if-begins_with.false))) ∙ c.loop-at.invariant

pub returns-else-is_empty : goal.returns-else-is_empty
returns-else-is_empty c = sym (sym c.loop-at.invariant ∙ (place_end c.args.bytes.now c.args.sought.now c.loop-at.at (omega (arith, c.loop-at-test.false))
    ∙ ap (λ is. if is then Some c.loop-at.at else None) (sym c.is_empty.ensures ∙ c.if-is_empty.false)))
