use Rattle.std.proofs.Common.{rules, ◌≡◌, ap, ap₂, ◌∙◌, ◌++◌, ℕ, List, codes, w64, to_z, of_z}
use Rattle.std.proofs.lemmas.List.{append_assoc}
use Rattle.py_model.specs.Numbers.{int_text}
use Rattle.spelling.proofs.words.range_ends.Goals as goal

pub returns : goal.returns
returns c =
    let start : to_z w64 (of_z w64 c.args.start) ≡ c.args.start = search rules in
    let end : to_z w64 (of_z w64 c.args.end) ≡ c.args.end = search rules in
    c.in_ok-push_str-2.ensures.bytes
    ∙ (ap₂ (λ (xs ys : List ℕ). xs ++ ys) (c.in_ok-push_str.ensures.bytes ∙ ap (λ words. words ++ codes ", ") (c.in_ok-made.ensures ∙ ap int_text start))
    (c.as_str.ensures.value ∙ (c.in_ok-int_text.ensures ∙ ap int_text end))
    ∙ append_assoc (int_text c.args.start) (codes ", ") (int_text c.args.end))
