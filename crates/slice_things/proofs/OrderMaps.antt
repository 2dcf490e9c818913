-- One object's order in the map of orders.
use Rattle.std.proofs.Common.{◌≡◌, ℕ, ◌==◌, Bool, true, false, List, [], unwrap_or, Option, Some, None, refl, sym, ap, ◌∙◌, if◌then◌else◌, HashMap, IsSome, arith, eqb-true}
use Rattle.std.specs.Map.{lookup}
use Rattle.std.specs.HashMap.{WritesThrough, get_by}
use Rattle.py_value.specs.declared.value.Value.{Value}
use Rattle.slice_things.specs.Counts.{often}

-- an order is another, or as it was
pub often_if : (b : Bool) (f : Value) (counts old now : List (Value × ℕ)) (n : ℕ) → often f counts ≡ n → now ≡ (if b then counts else old) → often f now ≡ (if b then n else often f old)
often_if true f counts old now n same is = ap (often f) is ∙ same
often_if false f counts old now n same is = ap (often f) is

abbrev order : {S : Type 0} → HashMap ℕ (List (Value × ℕ)) S → ℕ → List (Value × ℕ)
order m o = unwrap_or (lookup (λ p. o == p) m.entries) []

module _ {S : Type 0} (old new : HashMap ℕ (List (Value × ℕ)) S) (o : ℕ) (F : Value → ℕ → ℕ) where
  pub written_there : (counts written : List (Value × ℕ)) → Some counts ≡ get_by (λ p. o == p) old → WritesThrough (λ p q. p == q) (λ p. o == p) old written new
      → ((f : Value) → often f written ≡ F f (often f counts))
      → (p : ℕ) (f : Value) → often f (order new p) ≡ (if o == p then F f (often f (order old p)) else often f (order old p))
  written_there counts written there through is p f = ap (λ found. often f (unwrap_or found [])) ((through.3 (some (get_by (λ q. o == q) old) there)).0 p) ∙ by (o == p) refl
    where
      some : (found : Option (List (Value × ℕ))) → Some counts ≡ found → IsSome found
      some None is = absurd cc
      some (Some x) is = refl

      by : (b : Bool) → (o == p) ≡ b → often f (unwrap_or (if b then Some written else get_by (λ q. p == q) old) []) ≡ (if b then F f (often f (order old p)) else often f (order old p))
      by true here = is f ∙ ap (λ found. F f (often f (unwrap_or found []))) there ∙ ap (λ q. F f (often f (order old q))) (omega (arith, eqb-true o p here))
      by false here = refl

  pub written_nowhere : None ≡ get_by (λ p. o == p) old → ((f : Value) → F f 0 ≡ 0) → (p : ℕ) (f : Value) → often f (order old p) ≡ (if o == p then F f (often f (order old p)) else often f (order old p))
  written_nowhere none zero p f = by (o == p) refl
    where
      by : (b : Bool) → (o == p) ≡ b → often f (order old p) ≡ (if b then F f (often f (order old p)) else often f (order old p))
      by true here =
          let empty : often f (order old p) ≡ 0 = ap (λ q. often f (order old q)) (sym (omega (arith, eqb-true o p here))) ∙ ap (λ found. often f (unwrap_or found [])) (sym none) in
          empty ∙ sym (ap (F f) empty ∙ zero f)
      by false here = refl

  pub written_alone : None ≡ get_by (λ p. o == p) old → ((p : ℕ) (f : Value) → often f (order new p) ≡ (if o == p then F f 0 else often f (order old p)))
      → (p : ℕ) (f : Value) → often f (order new p) ≡ (if o == p then F f (often f (order old p)) else often f (order old p))
  written_alone none is p f = is p f ∙ by (o == p) refl
    where
      by : (b : Bool) → (o == p) ≡ b → (if b then F f 0 else often f (order old p)) ≡ (if b then F f (often f (order old p)) else often f (order old p))
      by true here = sym (ap (F f) (ap (λ q. often f (order old q)) (sym (omega (arith, eqb-true o p here))) ∙ ap (λ found. often f (unwrap_or found [])) (sym none)))
      by false here = refl
