-- How often forms stand in an order that is changed.
use Rattle.std.proofs.Common.{◌≡◌, ℕ, suc, ◌+◌, ◌-◌, Bool, true, false, List, refl, sym, ap, ◌∙◌, arith, if◌then◌else◌}
use Rattle.std.specs.Prelude.{Result, Ok, Err, OnOk}
use Rattle.py_value.specs.declared.value.Value.{Value}
use Rattle.py_value.specs.contracts.value.ValuePartialEq.TheImpl.{ghosts as values}
use Rattle.py_value.proofs.Equality.{value_same}
use Rattle.slice_things.specs.Counts.{often, at_least_one, inserted, deleted}

module _ (counts : List (Value × ℕ)) (form f : Value) where
  same_often : values.eq form f ≡ true → often f counts ≡ often form counts
  same_often is = ap (λ g. often g counts) (sym (value_same form f is))

  pub more_often : (next n : ℕ) → n ≡ often form counts + 1 → next ≡ (if values.eq form f then n else often f counts) → next ≡ (if values.eq form f then 1 else 0) + often f counts
  more_often next n is put = put ∙ by (values.eq form f) refl
    where
      by : (b : Bool) → values.eq form f ≡ b → (if b then n else often f counts) ≡ (if b then 1 else 0) + often f counts
      by true here = let same = same_often here in omega (arith, is, same)
      by false here = omega arith

  pub put_often : (next : ℕ) → often form counts ≡ 0 → next ≡ (if values.eq form f then 1 else often f counts) → next ≡ inserted form f (often f counts)
  put_often next none put = put ∙ by (values.eq form f) refl
    where
      by : (b : Bool) → values.eq form f ≡ b → (if b then 1 else often f counts) ≡ (if b then at_least_one (often f counts) else often f counts)
      by true here = sym (ap at_least_one (same_often here ∙ none))
      by false here = refl

  pub there_often : (n : ℕ) → often form counts ≡ suc n → often f counts ≡ inserted form f (often f counts)
  there_often n some = by (values.eq form f) refl
    where
      by : (b : Bool) → values.eq form f ≡ b → often f counts ≡ (if b then at_least_one (often f counts) else often f counts)
      by true here = same_often here ∙ some ∙ sym (ap at_least_one (same_often here ∙ some))
      by false here = refl

  pub less_often : (next n : ℕ) → n ≡ often form counts - 1 → next ≡ (if values.eq form f then n else often f counts) → next ≡ deleted form f (often f counts)
  less_often next n is put = put ∙ by (values.eq form f) refl
    where
      by : (b : Bool) → values.eq form f ≡ b → (if b then n else often f counts) ≡ (if b then often f counts - 1 else often f counts)
      by true here = is ∙ ap (λ k. k - 1) (sym (same_often here))
      by false here = refl

  pub none_often : often form counts ≡ 0 → often f counts ≡ deleted form f (often f counts)
  none_often none = by (values.eq form f) refl
    where
      by : (b : Bool) → values.eq form f ≡ b → often f counts ≡ (if b then often f counts - 1 else often f counts)
      by true here = same_often here ∙ none ∙ sym (ap (λ k. k - 1) (same_often here ∙ none))
      by false here = refl

pub on_ok : {T E : Type 0} {P Q : Type 0} (r : Result T E) → OnOk r P → (P → Q) → OnOk r Q
on_ok (Ok done) holds follows = follows holds
on_ok (Err want) holds follows = tt
