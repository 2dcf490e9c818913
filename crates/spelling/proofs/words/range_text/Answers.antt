use Rattle.std.proofs.Common.{rules, ◌≡◌, ap, ap₂, ◌∙◌, ◌++◌, ℕ, List, codes, pos, w64, to_z, of_z}
use Rattle.std.specs.Ordering.{int_eq}
use Rattle.py_model.specs.Numbers.{int_text}
use Rattle.spelling.proofs.Ranges.{with_step}
use Rattle.spelling.specs.Spelling.{step_words}
use Rattle.spelling.proofs.words.range_text.Goals as goal

pub returns : goal.returns
returns c =
    let start : to_z w64 (of_z w64 c.args.start) ≡ c.args.start = search rules in
    let end : to_z w64 (of_z w64 c.args.end) ≡ c.args.end = search rules in
    let step : to_z w64 (of_z w64 c.args.step) ≡ c.args.step = search rules in
    c.in_ok-push_str-2.ensures.bytes
    ∙ (ap (λ words. words ++ codes ")") (c.in_ok-push_step.ensures ∙ ap₂ (λ (xs ys : List ℕ). xs ++ ys)
    (c.in_ok-push_str.ensures.bytes ∙ ap₂ (λ (xs ys : List ℕ). xs ++ ys) c.in_ok-made.ensures.ok
    (c.as_str.ensures.value ∙ (c.in_ok-ends.ensures ∙ ap₂ (λ i j. int_text i ++ (codes ", " ++ int_text j)) start end))) (ap step_words step))
    ∙ with_step (codes "range(") (int_text c.args.start ++ (codes ", " ++ int_text c.args.end)) (codes ", ") (int_text c.args.step) (codes ")") (int_eq c.args.step (pos 1)))
