use Rattle.std.proofs.Common.{◌∙◌, sym, arith, ◌+◌, ◌*◌, ◌-◌, drop, get_or}
use Rattle.op_joins.proofs.WrittenPlans.{digits_grow, one_digit, all_read}
use Rattle.op_joins.proofs.integers.value_of.Goals as goal

pub returns-in_default : goal.returns-in_default
returns-in_default c less =
    let n = c.loop-digit.n in let i = c.loop-digit.digit-index in let digits = c.args.digits.now in
    let step = one_digit n digits i c.loop-digit-test.true in
    let grown = digits_grow (n * 10 + (get_or digits i 0 - 48)) (drop (i + 1) digits) in
    omega (arith, less, step, grown, c.loop-digit.invariant.0, c.in_default.ensures)

pub returns-in_default-checked_add : goal.returns-in_default-checked_add
returns-in_default-checked_add c less =
    let n = c.loop-digit.n in let i = c.loop-digit.digit-index in let digits = c.args.digits.now in
    let step = one_digit n digits i c.loop-digit-test.true in
    let grown = digits_grow (n * 10 + (get_or digits i 0 - 48)) (drop (i + 1) digits) in
    omega (arith, less, step, grown, c.loop-digit.invariant.0, c.in_default-checked_add.ensures)

pub returns : goal.returns
returns c =
    let fits = c.loop-digit.invariant.1 in
    let is = sym (all_read c.loop-digit.n c.args.digits.now c.loop-digit.digit-index c.loop-digit-test.false) ∙ c.loop-digit.invariant.0 in
    (omega (arith, fits, is), is)
