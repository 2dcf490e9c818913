use Rattle.std.proofs.Common.{◌<◌, length, arith, ◌∙◌}
use Rattle.now_words.specs.Numbers.{number_of}
use Rattle.now_words.proofs.Numbers.{number_so_far, past}
use Rattle.now_words.proofs.number.value_of.Goals as goal

pub returns-in_err-checked_mul : goal.returns-in_err-checked_mul
returns-in_err-checked_mul c =
    let below : c.loop-digit.digit-index < length c.args.digits.now = omega arith in
    let least = number_so_far c.loop-digit.n c.loop-digit.digit-index _ c.args.digits.now below c.loop-digit.invariant.0 in
    let more : c.args.most < number_of c.args.digits.now = omega (arith, least, c.in_err-checked_mul.ensures, c.ranges.most.fits) in
    c.from_residual.ensures ∙ past c.args.most (number_of c.args.digits.now) more

pub returns-in_err-next : goal.returns-in_err-next
returns-in_err-next c =
    let below : c.loop-digit.digit-index < length c.args.digits.now = omega arith in
    let least = number_so_far c.loop-digit.n c.loop-digit.digit-index _ c.args.digits.now below c.loop-digit.invariant.0 in
    let more : c.args.most < number_of c.args.digits.now = omega (arith, least, c.in_err-next.ensures, c.ranges.most.fits) in
    c.from_residual-in_err-next.ensures ∙ past c.args.most (number_of c.args.digits.now) more

pub returns-then-next-most : goal.returns-then-next-most
returns-then-next-most c =
    let below : c.loop-digit.digit-index < length c.args.digits.now = omega arith in
    let least = number_so_far c.loop-digit.n c.loop-digit.digit-index _ c.args.digits.now below c.loop-digit.invariant.0 in
    let more : c.args.most < number_of c.args.digits.now = omega (arith, least) in
    past c.args.most (number_of c.args.digits.now) more
