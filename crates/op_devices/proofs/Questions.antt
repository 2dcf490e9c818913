-- Which device is asked, by number.
use Rattle.std.proofs.Common.{◌≡◌, ◌∙◌, refl, ap, eqb-true, ℕ, ◌==◌, Bool, true, false, List, Option, None, if◌then◌else◌}
use Rattle.capture.specs.declared.answer.Ask.{Ask as Question}
use Rattle.op_devices.specs.Draws.{randint_asked, randrange_asked}
use Rattle.op_devices.specs.Given.{asks, line_asked, time_asked}
use Rattle.py_value.specs.declared.value.Value.{Value}

by_false : (b : Bool) (one other : Option Question) → (b ≡ true → ⊥) → (if b then one else other) ≡ other
by_false true one other apart = absurd (apart refl)
by_false false one other apart = refl

pub asks_at : (code number : ℕ) (operands : List Value) → code ≡ number → asks code operands ≡ asks number operands
asks_at code number operands is = ap (λ n. asks n operands) is

pub asks_none : (code : ℕ) (operands : List Value) → (code ≡ 55 → ⊥) → (code ≡ 109 → ⊥) → (code ≡ 110 → ⊥) → (code ≡ 111 → ⊥) → asks code operands ≡ None
asks_none code operands a b c d =
    by_false (code == 55) (line_asked operands) (if code == 109 then time_asked operands else if code == 110 then randint_asked operands else if code == 111 then randrange_asked operands else None) (λ is. a (eqb-true code 55 is))
    ∙ (by_false (code == 109) (time_asked operands) (if code == 110 then randint_asked operands else if code == 111 then randrange_asked operands else None) (λ is. b (eqb-true code 109 is))
    ∙ (by_false (code == 110) (randint_asked operands) (if code == 111 then randrange_asked operands else None) (λ is. c (eqb-true code 110 is))
    ∙ by_false (code == 111) (randrange_asked operands) None (λ is. d (eqb-true code 111 is))))
