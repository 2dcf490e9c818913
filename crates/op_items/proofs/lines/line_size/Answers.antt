use Rattle.std.proofs.Common.{◌≡◌, ◌∙◌, refl, sym, ap, subst, Bool, true, false, List, ℕ}
use Rattle.std.proofs.lemmas.Str.{IsUtf8-from_is_utf8, is_utf8-from_IsUtf8}
use Rattle.std.specs.Str.{is_utf8, IsUtf8}
use Rattle.py_model.specs.Texts.{size}
use Rattle.op_items.proofs.lines.line_size.Goals as goal

not_true : (b : Bool) → (b ≡ true → ⊥) → b ≡ false
not_true true other = absurd (other refl)
not_true false other = refl

pub returns-in-Ok : goal.returns-in-Ok
returns-in-Ok c =
    let same = c.in-Ok.ensures.cases.0 ∙ c.line_at.ensures in
    (subst (λ (bs : List ℕ). is_utf8 bs ≡ true) c.line_at.ensures (is_utf8-from_IsUtf8 _ c.in-Ok.ensures.cases.1), c.size.ensures.count ∙ ap size same)

pub returns-in-Err : goal.returns-in-Err
returns-in-Err c = not_true (is_utf8 _) (λ is. c.in-Err.ensures.cases.0 (subst IsUtf8 (sym c.line_at.ensures) (IsUtf8-from_is_utf8 _ is)))
