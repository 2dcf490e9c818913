use Rattle.std.proofs.Common.{rules, ◌≡◌, sym, ap, ap₂, ◌∙◌, ◌++◌, ℕ, List, [], codes, pos, w64, to_z, of_z, false, if◌then◌else◌, string_bytes}
use Rattle.std.proofs.lemmas.List.{append_assoc}
use Rattle.std.specs.Ordering.{int_eq}
use Rattle.py_model.specs.Numbers.{int_text}
use Rattle.spelling.proofs.words.push_step.Goals as goal

pub returns : goal.returns
returns c =
    let step : to_z w64 (of_z w64 c.args.step) ≡ c.args.step = search rules in
    let other : int_eq c.args.step (pos 1) ≡ false = search (rules, c.if-step-eq1.false) in
    c.in_ok-push_str-2.ensures.bytes
    ∙ (ap₂ (λ (xs ys : List ℕ). xs ++ ys) c.in_ok-push_str.ensures.bytes (c.as_str.ensures.value ∙ (c.in_ok-int_text.ensures ∙ ap int_text step))
    ∙ (append_assoc (string_bytes c.args.made.now) (codes ", ") (int_text c.args.step)
    ∙ ap (λ t. string_bytes c.args.made.now ++ (if t then [] else codes ", " ++ int_text c.args.step)) (sym other)))
