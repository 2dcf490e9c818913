-- Refusals at the next token.
use Rattle.std.proofs.Common.{◌≡◌, ℕ, ◌+◌, false, List, [], ◌∷◌, ◌++◌, Some, None, refl, ap, sym, ◌∙◌, subst, if◌then◌else◌}
use Rattle.std.proofs.lemmas.List.{append-nil}
use Rattle.prov_base.specs.declared.place.Pos.{Pos}
use Rattle.prov_base.specs.declared.place.Span.{Span}
use Rattle.py_lines.specs.declared.parts.Token.{Token}
use Rattle.py_lines.specs.declared.parts.TokenKind.{TokenKind}
use Rattle.py_lines.specs.declared.parts.TokenKind.TheVariants.{Word, Keyword, Number, Text, Sign}
use Rattle.py_expressions.specs.declared.fault.Fault.TheVariants.{Unexpected, TooDeep, TooMany, Memory}
use Rattle.py_expressions.specs.declared.fault.Stop.{Stop}
use Rattle.py_expressions.specs.declared.fault.Stop.TheVariants.{Here, End}
use Rattle.py_expressions.specs.Concrete.{Spot}
use Rattle.py_expressions.specs.Parsed.{Production, one_keyword, one_sign, one_name, is_keyword_next, is_sign_next, IsAtFirst, Finds, BeginsWithin, Refused}
use Rattle.py_expressions.specs.Reader.{Read, read_keyword, read_sign, read_name, spot_of, begins_name, is_word}
use Rattle.py_expressions.proofs.Refusals.{only_is, begins_new}

-- a place, where any will do
pub some_spot : Spot
some_spot = record { at = record { line = 0; col = 0 }; span = record { from = 0; to = 0 } }

-- this place, for a token that is put there
abbrev pub spot_at : Pos → Spot
spot_at at = record { at = at; span = record { from = 0; to = 0 } }

-- nothing is read
pub finds_none : {A : Type 0} (P : A → Type 0) (read : ℕ → List Token → Read A) (ts : List Token) → ((n : ℕ) → read n ts ≡ None) → Finds P read ts
finds_none P read ts none = record { steps = 0; only = λ n. only_is P _ _ (none (n + 0)) tt }

-- behind these tokens reading stops at the next one, with which no such part goes on
pub here : {A : Type 0} (p : Production A) (room : ℕ) (before front rest : List Token) (stop : Stop) → before ≡ front ++ rest → IsAtFirst rest stop → BeginsWithin p room front → (rest ≡ [] → Finds (λ a. ⊥) p.read (front ++ []))
    → ((t : Token) (ts more : List Token) → rest ≡ t ∷ ts → Finds (λ a. ⊥) p.read (front ++ t ∷ more)) → Refused p room before stop
here p room before front [] End is at begins none_end none_there =
    (subst (BeginsWithin p room) (sym (is ∙ append-nil front)) begins, subst (Finds (λ a. ⊥) p.read) (sym is) (none_end refl))
here p room before front [] (Here fault) is at begins none_end none_there = cc
here p room before front (t ∷ ts) (Here (Unexpected place)) is at begins none_end none_there = record { front = front; shown_by = t; behind = ts; before_is = is; left_is = at; begins = begins; goes_on = tt; none = λ more. none_there t ts more refl }
here p room before front (t ∷ ts) (Here (TooDeep place)) is at begins none_end none_there = absurd at
here p room before front (t ∷ ts) (Here (TooMany place)) is at begins none_end none_there = absurd at
here p room before front (t ∷ ts) (Here Memory) is at begins none_end none_there = absurd at
here p room before front (t ∷ ts) End is at begins none_end none_there = absurd at

pub at_first : {A : Type 0} (p : Production A) (room : ℕ) (before : List Token) (stop : Stop) → IsAtFirst before stop → BeginsWithin p room [] → (before ≡ [] → Finds (λ a. ⊥) p.read [])
    → ((t : Token) (ts more : List Token) → before ≡ t ∷ ts → Finds (λ a. ⊥) p.read (t ∷ more)) → Refused p room before stop
at_first p room before stop at begins none_end none_there = here p room before [] before stop refl at begins none_end none_there

no_keyword : (n : ℕ) (before : List Token) (t : Token) (ts more : List Token) → is_keyword_next n before ≡ false → before ≡ t ∷ ts → read_keyword n (t ∷ more) ≡ None
no_keyword n before t ts more absent is = ap (λ b. if b then Some (spot_of t, more) else None) (sym (ap (is_keyword_next n) is) ∙ absent)

no_sign : (n : ℕ) (before : List Token) (t : Token) (ts more : List Token) → is_sign_next n before ≡ false → before ≡ t ∷ ts → read_sign n (t ∷ more) ≡ None
no_sign n before t ts more absent is = ap (λ b. if b then Some (spot_of t, more) else None) (sym (ap (is_sign_next n) is) ∙ absent)

pub keyword_refused : (n : ℕ) (before : List Token) (stop : Stop) → is_keyword_next n before ≡ false → IsAtFirst before stop → Refused (one_keyword n) 0 before stop
keyword_refused n before stop absent at = at_first (one_keyword n) 0 before stop at (begins_new (one_keyword n) 0 spot_at (λ at other apart. refl))
    (λ empty. finds_none _ _ [] (λ m. refl)) (λ t ts more is. finds_none _ _ (t ∷ more) (λ m. no_keyword n before t ts more absent is))

pub sign_refused : (n : ℕ) (before : List Token) (stop : Stop) → is_sign_next n before ≡ false → IsAtFirst before stop → Refused (one_sign n) 0 before stop
sign_refused n before stop absent at = at_first (one_sign n) 0 before stop at (begins_new (one_sign n) 0 spot_at (λ at other apart. refl))
    (λ empty. finds_none _ _ [] (λ m. refl)) (λ t ts more is. finds_none _ _ (t ∷ more) (λ m. no_sign n before t ts more absent is))

no_name_of : (at : Pos) (span : Span) (kind : TokenKind) (more : List Token) → is_word kind ≡ false → read_name (record { at = at; span = span; kind = kind } ∷ more) ≡ None
no_name_of at span (Word bytes) more other = cc
no_name_of at span (Keyword n) more other = refl
no_name_of at span (Number n) more other = refl
no_name_of at span (Text bytes) more other = refl
no_name_of at span (Sign n) more other = refl

pub name_refused : (before : List Token) (stop : Stop) → begins_name before ≡ false → IsAtFirst before stop → Refused one_name 0 before stop
name_refused before stop absent at = at_first one_name 0 before stop at (begins_new one_name 0 (λ at. (spot_at at, [])) (λ at other apart. refl))
    (λ empty. finds_none _ _ [] (λ m. refl)) (λ t ts more is. finds_none _ _ (t ∷ more) (λ m. no_name_of t.at t.span t.kind more (sym (ap begins_name is) ∙ absent)))
