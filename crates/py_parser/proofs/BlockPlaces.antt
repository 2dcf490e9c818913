-- The places of the first and the last token of lines.
use Rattle.std.proofs.Common.{◌≡◌, ℕ, suc, ◌-◌, List, [], ◌∷◌, length, Some, arith, ap, ◌∙◌}
use Rattle.std.specs.Prelude.{slice_get}
use Rattle.std.proofs.lemmas.Option.{same_Some}
use Rattle.prov_base.specs.declared.place.Pos.{Pos}
use Rattle.py_lines.specs.declared.parts.Token.{Token}
use Rattle.py_parser.specs.Faults.{last_place}

last_behind : (t : Token) (ts : List Token) (last : Token) → Some last ≡ slice_get (t ∷ ts) (length ts) → last.at ≡ last_place t.at ts
last_behind t [] last is = ap (λ (t : Token). t.at) (same_Some last t is)
last_behind t (u ∷ us) last is = last_behind u us last is

one_less : (n : ℕ) → suc n - 1 ≡ n
one_less n = omega (arith)

pub last_is : (ts : List Token) (before : Pos) (last : Token) → Some last ≡ slice_get ts (length ts - 1) → last.at ≡ last_place before ts
last_is [] before last is = cc
last_is (t ∷ ts) before last is = last_behind t ts last (is ∙ ap (λ i. slice_get (t ∷ ts) i) (one_less (length ts)))
