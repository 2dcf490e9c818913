use Rattle.std.proofs.Common.{ℕ, List, ◌+◌, ◌%◌, length, sym, ◌∙◌, ap, slice_set, arith}
use Rattle.std.proofs.lemmas.Fmt.{decimal_digit}
use Rattle.prov_base.proofs.Digits.{first_digit, last_digit, one_more, few_digits}
use Rattle.prov_base.proofs.number.+decimal.Goals as goal

pub bounds-out-at : goal.bounds-out-at
bounds-out-at t c = few_digits c.args.n _ c.ranges.n.fits c.decimal-at.ensures.count

pub returns-then-n-lt10-clause-count : goal.returns-then-n-lt10-clause-count
returns-then-n-lt10-clause-count t c = sym (ap length (decimal_digit c.args.n c.if-n-lt10.true))

pub returns-then-n-lt10-clause-digits : goal.returns-then-n-lt10-clause-digits
returns-then-n-lt10-clause-digits t c = first_digit c.args.n c.args.out.now c.if-n-lt10.true (omega arith)

pub returns-clause-count : goal.returns-clause-count
returns-clause-count t c = one_more c.args.n _ c.if-n-lt10.false c.ranges.n.fits c.decimal-at.ensures.count

pub returns-clause-digits : goal.returns-clause-digits
returns-clause-digits t c =
    ap (λ (out : List ℕ). slice_set out c.decimal-at.result (48 + c.args.n % 10)) c.decimal-at.ensures.digits
    ∙ last_digit c.args.n _ c.args.out.now c.if-n-lt10.false c.ranges.n.fits c.decimal-at.ensures.count c.told-out
