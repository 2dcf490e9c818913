use Rattle.std.proofs.Common.{rules, ◌≡◌, ap, ◌∙◌, w64, to_z, of_z}
use Rattle.std.specs.Fmt.{signed_decimal}
use Rattle.spelling.proofs.Integers.{int_is}
use Rattle.spelling.proofs.printed.int_text.Goals as goal

pub returns : goal.returns
returns c =
    let back : to_z w64 (of_z w64 c.args.i) ≡ c.args.i = search rules in
    c.in_ok-made.ensures ∙ (ap signed_decimal back ∙ int_is c.args.i c.ranges.i)
