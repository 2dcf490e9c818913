-- The last of several tokens.
use Rattle.std.proofs.Common.{◌≡◌, ℕ, zero, suc, ◌-◌, Bool, List, [], ◌∷◌, Some, length, arith, ap, sym}
use Rattle.std.proofs.lemmas.Option.{same_Some, slice_get_within}
use Rattle.std.specs.List.{slice_get}
use Rattle.py_lines.specs.declared.parts.Token.{Token}
use Rattle.py_lines.specs.declared.parts.TokenKind.{TokenKind}
use Rattle.refused_forms.specs.LineForms.{is_last}

last_at : (is : TokenKind → Bool) (ts : List Token) (i : ℕ) (t : Token) → suc i ≡ length ts → slice_get ts i ≡ Some t → is t.kind ≡ is_last is ts
last_at is [] i t n e = absurd (omega (arith, n))
last_at is (u ∷ []) zero t n e = ap (λ (v : Token). is v.kind) (sym (same_Some _ _ e))
last_at is (u ∷ []) (suc i) t n e = absurd (omega (arith, n))
last_at is (u ∷ v ∷ ts) zero t n e = absurd (omega (arith, n))
last_at is (u ∷ v ∷ ts) (suc i) t n e = last_at is (v ∷ ts) i t (omega (arith, n)) e

-- what is so of the last token
pub is_so : (is : TokenKind → Bool) (ts : List Token) (t : Token) → Some t ≡ slice_get ts (length ts - 1) → is t.kind ≡ is_last is ts
is_so is ts t e = last_at is ts (length ts - 1) t (omega (arith, slice_get_within ts (length ts - 1) t (sym e))) (sym e)
