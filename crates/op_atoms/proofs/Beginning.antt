-- An operation begins where a step is left.
use Rattle.std.proofs.Common.{◌≡◌, ◌<◌, ℕ, Result, Ok, Err, OnOk, OnErr, arith}

pub begins : {T E A : Type 0} (B : Type 0) (left : ℕ) (result : Result T E) → 0 < left → OnOk result A → OnErr result ((left ≡ 0) × B) → A
begins B left (Ok made) some good bad = good
begins B left (Err want) some good bad = absurd (not_none left some bad.0)
  where
    not_none : (n : ℕ) → 0 < n → n ≡ 0 → ⊥
    not_none n some none = omega (arith, some, none)
