use Rattle.std.proofs.Common.{rules, ◌≡◌, ◌∙◌, ap₂, w64, to_z, of_z}
use Rattle.std.specs.Ordering.{int_eq}
use Rattle.op_compare.proofs.SameNumbers.{counts_same, tests_same}
use Rattle.op_compare.proofs.comparison.same_range.Goals as goal

pub returns : goal.returns
returns c =
    let a : to_z w64 (of_z w64 c.args.a) ≡ c.args.a = search rules in
    let b : to_z w64 (of_z w64 c.args.b) ≡ c.args.b = search rules in
    let step : to_z w64 (of_z w64 c.args.c) ≡ c.args.c = search rules in
    let d : to_z w64 (of_z w64 c.args.d) ≡ c.args.d = search rules in
    let e : to_z w64 (of_z w64 c.args.e) ≡ c.args.e = search rules in
    let f : to_z w64 (of_z w64 c.args.f) ≡ c.args.f = search rules in
    c.same_numbers.ensures ∙ tests_same (c.range_count.ensures ∙ counts_same a b step) (c.range_count-2.ensures ∙ counts_same d e f)
    (c.same_number.ensures ∙ ap₂ int_eq a d) (c.same_number-2.ensures ∙ ap₂ int_eq step f)
