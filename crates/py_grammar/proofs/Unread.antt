-- What is read behind `del` and `for` does not go on with the token that shows a refusal.
use Rattle.std.proofs.Common.{◌≡◌, ℕ, max, Bool, true, false, List, [], ◌∷◌, ◌++◌, refl, ap, sym, ◌∙◌, append_assoc}
use Rattle.std.specs.Prelude.{◌||◌}
use Rattle.py_lines.specs.declared.parts.Token.{Token}
use Rattle.py_lines.specs.declared.parts.TokenKind.TheVariants.{Keyword}
use Rattle.py_expressions.specs.declared.fault.Fault.{Fault}
use Rattle.py_expressions.specs.declared.fault.Stop.TheVariants.{Here}
use Rattle.py_expressions.specs.Concrete.{Spot, Sum}
use Rattle.py_expressions.specs.Tokens.{token, sum_tokens}
use Rattle.py_expressions.specs.Lies.{sum_lies}
use Rattle.py_expressions.specs.Targets.{OneTarget}
use Rattle.py_expressions.specs.Reader.{is_keyword}
use Rattle.py_grammar.specs.WellPlaced.{Around}
use Rattle.py_expressions.specs.Parsed.{IsDeep}
use Rattle.py_expressions.specs.ParsedRows.{first_token}
use Rattle.py_grammar.specs.ParsedSimple.{UnreadDel}
use Rattle.py_grammar.specs.ParsedHead.{passed_tokens, passed_lies, room_behind, IsPast, BeginsPlaced, UnreadLine}
use Rattle.py_expressions.proofs.Firsts.{keyword_is}
use Rattle.py_grammar.proofs.LineFirsts.{same_first, same_behind, not_nothing}
use Rattle.py_grammar.proofs.NoDel.{has_del, without, del_absent, del_first}

-- ---- behind `for`

-- of what is read behind `for`, a refusal's claim
abbrev pub UnreadFor : List Token → Token → Fault → Type 0
UnreadFor front t fault = (spot : Spot) (inside : List Token) → front ≡ token (Keyword 17) spot ∷ inside → (passed : List (OneTarget × Spot)) (s : Sum) (more : List Token) → passed_tokens passed ++ sum_tokens s ≡ inside ++ t ∷ more
    → IsDeep (Here fault) (room_behind 100 passed) (λ at. max (passed_lies passed at) (sum_lies s at))

-- the same of every token behind these, where the next one is the first of the rest
abbrev pub PassesFor : List Token → List Token → Type 0
PassesFor front rest = (tokens : List Token) (t : Token) (behind : List Token) (fault : Fault) → first_token (tokens ++ t ∷ behind) ≡ first_token rest → UnreadFor (front ++ tokens) t fault

-- a line that begins with another keyword
pub other_word : (word : ℕ) (spot for_at : Spot) (ts inside : List Token) → is_keyword 17 (Keyword word) ≡ false → token (Keyword word) spot ∷ ts ≡ token (Keyword 17) for_at ∷ inside → ⊥
other_word word spot for_at ts inside other is =
    let same : is_keyword 17 (Keyword word) ≡ true = ap (λ (t : Token). is_keyword 17 t.kind) (same_first (token (Keyword word) spot) (token (Keyword 17) for_at) ts inside is) in
    let no : true ≡ false = sym same ∙ other in
    cc

pub unread_word : (word : ℕ) (spot : Spot) (front : List Token) (t : Token) (fault : Fault) → is_keyword 17 (Keyword word) ≡ false → UnreadFor (token (Keyword word) spot ∷ front) t fault
unread_word word spot front t fault other for_at inside is passed s more same = absurd (other_word word spot for_at front inside other is)

pub passes_word : (word : ℕ) (spot : Spot) (front rest : List Token) → is_keyword 17 (Keyword word) ≡ false → PassesFor (token (Keyword word) spot ∷ front) rest
passes_word word spot front rest other tokens t behind fault first = unread_word word spot (front ++ tokens) t fault other

-- ---- behind `del`

-- none is found there
pub clear_of : (ts : List Token) → ((opened : List Token) (spot : Spot) (inside : List Token) → ts ≡ opened ++ token (Keyword 12) spot ∷ inside → ⊥) → has_del ts ≡ false
clear_of [] none = refl
clear_of (t ∷ ts) none = by (is_keyword 12 t.kind) refl (clear_of ts (λ opened spot inside is. none (t ∷ opened) spot inside (ap (λ us. t ∷ us) is)))
  where
    by : (b : Bool) → is_keyword 12 t.kind ≡ b → has_del ts ≡ false → (b || has_del ts) ≡ false
    by true is clear = absurd (none [] (record { at = t.at; span = t.span }) ts (ap (λ k. record { at = t.at; span = t.span; kind = k } ∷ ts) (keyword_is 12 t.kind is)))
    by false is clear = clear

-- one behind tokens that have none
record DelBehind (tokens : List Token) (spot : Spot) (inside : List Token) : Type 0 where
  opened : List Token
  is : tokens ≡ opened ++ token (Keyword 12) spot ∷ inside

no_first : (a b : Bool) → a ≡ true → (a || b) ≡ false → ⊥
no_first true b is clear = cc
no_first false b is clear = cc

no_rest : (a b : Bool) → (a || b) ≡ false → b ≡ false
no_rest true b clear = cc
no_rest false b clear = clear

del_behind : (front tokens opened : List Token) (spot : Spot) (inside : List Token) → has_del front ≡ false → front ++ tokens ≡ opened ++ token (Keyword 12) spot ∷ inside → DelBehind tokens spot inside
del_behind [] tokens opened spot inside clear is = record { opened = opened; is = is }
del_behind (f ∷ front) tokens [] spot inside clear is =
    absurd (no_first (is_keyword 12 f.kind) (has_del front) (ap (λ (t : Token). is_keyword 12 t.kind) (same_first f (token (Keyword 12) spot) (front ++ tokens) inside is)) clear)
del_behind (f ∷ front) tokens (o ∷ opened) spot inside clear is =
    del_behind front tokens opened spot inside (no_rest (is_keyword 12 f.kind) (has_del front) clear) (same_behind f o (front ++ tokens) (opened ++ token (Keyword 12) spot ∷ inside) is)

-- what is read of a statement behind the `del` that it begins with
unread_first : (around : Around) (tokens opened : List Token) (spot : Spot) (inside : List Token) → BeginsPlaced around tokens → tokens ≡ opened ++ token (Keyword 12) spot ∷ inside → tokens ≡ token (Keyword 12) spot ∷ inside
unread_first around tokens opened spot inside begun is = is ∙ ap (λ ts. ts ++ token (Keyword 12) spot ∷ inside) (del_first around tokens opened spot inside begun is)

-- ---- lines

-- where no `del` stands
pub unread_clear : (front : List Token) (t : Token) (fault : Fault) → has_del front ≡ false → UnreadFor front t fault → UnreadLine front t fault
unread_clear front t fault clear other = record {
  del_unread = λ opened spot inside is e more same. absurd (del_absent front opened spot inside clear is);
  for_unread = other;
}

-- at the first token
pub unread_at_first : (t : Token) (fault : Fault) → UnreadLine [] t fault
unread_at_first t fault = unread_clear [] t fault refl (λ spot inside is passed s more same. absurd (not_nothing (token (Keyword 17) spot) inside (sym is)))

-- a simple statement
pub unread_simple : (around : Around) (front : List Token) (t : Token) (fault : Fault) → BeginsPlaced around front → UnreadDel front t fault → ((spot : Spot) (inside : List Token) → front ≡ token (Keyword 17) spot ∷ inside → ⊥) → UnreadLine front t fault
unread_simple around front t fault begun unread other = record {
  del_unread = λ opened spot inside is e more same. unread.there spot inside (unread_first around front opened spot inside begun is) e more same;
  for_unread = λ spot inside is passed s more same. absurd (other spot inside is);
}

pub past_clear : (front : List Token) → IsPast front → has_del front ≡ false
past_clear front past = clear_of front past.no_del

-- behind what stands before the `:`
pub passes_past : (front rest : List Token) → IsPast front → PassesFor front rest
passes_past front rest past tokens t behind fault first spot inside is passed s more same = absurd (past.no_for spot tokens inside is passed s (t ∷ more) same)

-- a statement behind the `:`
pub unread_behind : (around : Around) (front : List Token) (colon : Token) (tokens : List Token) (t : Token) (fault : Fault) → IsPast front → is_keyword 12 colon.kind ≡ false → BeginsPlaced around tokens → UnreadDel tokens t fault → UnreadLine (front ++ colon ∷ tokens) t fault
unread_behind around front colon tokens t fault past other begun unread = record {
  del_unread = λ opened spot inside is e more same.
      let d = del_behind (front ++ colon ∷ []) tokens opened spot inside (without front (colon ∷ []) (past_clear front past) (ap (λ b. b || false) other)) (append_assoc front (colon ∷ []) tokens ∙ is) in
      unread.there spot inside (unread_first around tokens d.opened spot inside begun d.is) e more same;
  for_unread = λ spot inside is passed s more same. absurd (past.no_for spot (colon ∷ tokens) inside is passed s (t ∷ more) same);
}
