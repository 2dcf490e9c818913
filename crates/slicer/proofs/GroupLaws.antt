-- The values of one object in the map of groups.
use Rattle.std.proofs.Common.{◌≡◌, ℕ, ◌==◌, Bool, true, false, List, [], ◌∷◌, ◌++◌, unwrap_or, Option, Some, None, refl, sym, ap, ◌∙◌, if◌then◌else◌, HashMap, IsSome, arith, eqb-true}
use Rattle.std.specs.Map.{lookup}
use Rattle.std.specs.HashMap.{WritesThrough, get_by}
use Rattle.std.specs.Prelude.{Result, Ok, Err, OnOk}
use Rattle.std.proofs.lemmas.List.{append_assoc}
use Rattle.py_value.specs.declared.value.Value.{Value}

pub on_ok : {T E : Type 0} {P Q : Type 0} (r : Result T E) → OnOk r P → (P → Q) → OnOk r Q
on_ok (Ok done) holds follows = follows holds
on_ok (Err want) holds follows = tt

abbrev one_group : {S : Type 0} → HashMap ℕ (List Value) S → ℕ → List Value
one_group m o = unwrap_or (lookup (λ p. o == p) m.entries) []

module _ {S : Type 0} (old new : HashMap ℕ (List Value) S) (o : ℕ) (v : Value) where
  pub written_there : (values written : List Value) → Some values ≡ get_by (λ p. o == p) old → WritesThrough (λ p q. p == q) (λ p. o == p) old written new → written ≡ values ++ v ∷ []
      → (p : ℕ) → one_group new p ≡ (if o == p then one_group old p ++ v ∷ [] else one_group old p)
  written_there values written there through is p = ap (λ found. unwrap_or found []) ((through.3 (some (get_by (λ q. o == q) old) there)).0 p) ∙ by (o == p) refl
    where
      some : (found : Option (List Value)) → Some values ≡ found → IsSome found
      some None is = absurd cc
      some (Some x) is = refl

      by : (b : Bool) → (o == p) ≡ b → unwrap_or (if b then Some written else get_by (λ q. p == q) old) [] ≡ (if b then one_group old p ++ v ∷ [] else one_group old p)
      by true here = is ∙ ap (λ found. unwrap_or found [] ++ v ∷ []) there ∙ ap (λ q. one_group old q ++ v ∷ []) (omega (arith, eqb-true o p here))
      by false here = refl

  pub written_alone : None ≡ get_by (λ p. o == p) old → ((p : ℕ) → one_group new p ≡ (if o == p then v ∷ [] else one_group old p)) → (p : ℕ) → one_group new p ≡ (if o == p then one_group old p ++ v ∷ [] else one_group old p)
  written_alone none is p = is p ∙ by (o == p) refl
    where
      by : (b : Bool) → (o == p) ≡ b → (if b then v ∷ [] else one_group old p) ≡ (if b then one_group old p ++ v ∷ [] else one_group old p)
      by true here = sym (ap (λ found. found ++ v ∷ []) (ap (λ q. one_group old q) (sym (omega (arith, eqb-true o p here))) ∙ ap (λ found. unwrap_or found []) (sym none)))
      by false here = refl

-- one pair after the other
pub next_pair : (o p : ℕ) (v : Value) (now next rest : List Value) → next ≡ (if o == p then now ++ v ∷ [] else now) → next ++ rest ≡ now ++ (if o == p then v ∷ rest else rest)
next_pair o p v now next rest is = by (o == p) is
  where
    by : (b : Bool) → next ≡ (if b then now ++ v ∷ [] else now) → next ++ rest ≡ now ++ (if b then v ∷ rest else rest)
    by true is = ap (λ front. front ++ rest) is ∙ append_assoc now (v ∷ []) rest
    by false is = ap (λ front. front ++ rest) is
