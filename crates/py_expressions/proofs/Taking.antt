-- A token that was taken.
use Rattle.std.proofs.Common.{◌≡◌, ℕ, List, ◌∷◌, refl, ap}
use Rattle.py_lines.specs.declared.parts.Token.{Token}
use Rattle.py_lines.specs.declared.parts.TokenKind.{TokenKind}
use Rattle.py_lines.specs.declared.parts.TokenKind.TheVariants.{Word}
use Rattle.py_expressions.specs.Reader.{spot_of}
use Rattle.py_expressions.specs.Parsed.{Taken, TakenName}

pub taken : (kind : TokenKind) (t : Token) (ts : List Token) → t.kind ≡ kind → Taken kind (t ∷ ts) t.at ts
taken kind t ts is = record { spot = spot_of t; before_is = ap (λ k. record { at = t.at; span = t.span; kind = k } ∷ ts) is; at_is = refl }

pub taken_name : (name : List ℕ) (t : Token) (ts : List Token) → t.kind ≡ Word name → TakenName (t ∷ ts) t.at name ts
taken_name name t ts is = record { spot = spot_of t; before_is = ap (λ k. record { at = t.at; span = t.span; kind = k } ∷ ts) is; at_is = refl }
