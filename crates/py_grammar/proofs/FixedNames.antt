-- A name that is refused is refused at its first token: so whatever name it may be has begun there.
use Rattle.std.proofs.Common.{ℕ, false, List, [], ◌∷◌, ◌++◌, refl, sym, subst, append-nil}
use Rattle.py_lines.specs.declared.parts.Token.{Token}
use Rattle.py_lines.specs.declared.parts.TokenKind.TheVariants.{Word}
use Rattle.py_expressions.specs.declared.fault.Fault.TheVariants.{Unexpected, TooDeep, TooMany, Memory}
use Rattle.py_expressions.specs.declared.fault.Stop.{Stop}
use Rattle.py_expressions.specs.declared.fault.Stop.TheVariants.{Here, End}
use Rattle.py_expressions.specs.Concrete.{Spot}
use Rattle.py_expressions.specs.Tokens.{token, word}
use Rattle.py_expressions.specs.Reader.{read_name}
use Rattle.py_expressions.specs.Parsed.{Production, IsDeep, Only, Finds, Begins, BeginsWithin, Refused, one_name}
use Rattle.py_expressions.proofs.Stops.{spot_at}
use Rattle.py_expressions.proofs.ClosedParts.{not_deep}
use Rattle.py_expressions.proofs.Refusals.{begins_so, begins_new}
use Rattle.py_grammar.proofs.LineFirsts.{same_first}

-- a name with these bytes, where any is read
abbrev pub fixed_name : List ℕ → Production (Spot × List ℕ)
fixed_name bytes = record { tokens = λ found. word bytes found.0; depth = λ _. 0; lies = λ _ at. 0; deepest = λ found. found.0.at; form = λ _. false; read = λ _ ts. read_name ts }

-- a name that begins so is read
begun_is_read : (why : Stop) (t : Token) (ts us : List Token) → Begins one_name (t ∷ ts) → Finds (λ b. IsDeep why 0 (λ at. 0)) one_name.read (t ∷ us) → ⊥
begun_is_read why t ts us b finds =
    not_deep why (subst (λ (t : Token). Only (λ b. IsDeep why 0 (λ at. 0)) (read_name (t ∷ us))) (sym (same_first (token (Word b.some.1) b.some.0) t [] (ts ++ b.more) b.tokens_are)) (finds.only 0))

nothing_begun : (bytes : List ℕ) → BeginsWithin (fixed_name bytes) 0 []
nothing_begun bytes = begins_new (fixed_name bytes) 0 (λ at. (spot_at at, bytes)) (λ at other apart. refl)

begins_first : (bytes : List ℕ) (why : Stop) (front us : List Token) → BeginsWithin one_name 0 front → Finds (λ b. IsDeep why 0 (λ at. 0)) one_name.read (front ++ us) → BeginsWithin (fixed_name bytes) 0 front
begins_first bytes why [] us b finds = nothing_begun bytes
begins_first bytes why (t ∷ ts) us b finds = absurd (begun_is_read why t ts (ts ++ us) (begins_so one_name 0 (t ∷ ts) b) finds)

pub fixed_refused : (bytes : List ℕ) (before : List Token) (stop : Stop) → Refused one_name 0 before stop → Refused (fixed_name bytes) 0 before stop
fixed_refused bytes before (Here Memory) is = tt
fixed_refused bytes before (Here (Unexpected left)) is = record {
  front = is.front;
  shown_by = is.shown_by;
  behind = is.behind;
  before_is = is.before_is;
  left_is = is.left_is;
  begins = begins_first bytes (Here (Unexpected left)) is.front (is.shown_by ∷ []) is.begins (is.none []);
  goes_on = tt;
  none = is.none;
}
fixed_refused bytes before (Here (TooDeep at)) is = absurd (not_deep (Here (TooDeep at)) is.goes_on.deep)
fixed_refused bytes before (Here (TooMany at)) is = absurd is.left_is
fixed_refused bytes before End is = (begins_first bytes End before [] is.0 (subst (Finds (λ b. ⊥) one_name.read) (sym (append-nil before)) is.1), is.1)
