-- No public clause cites this file.
-- Integers that texts write.
use Rattle.std.specs.Prelude.{ℕ, ℤ, pos, neg_ℤ, ◌==◌, Bool, true, false, List, [], ◌∷◌, Option, Some, None, if◌then◌else◌, codes}
use Rattle.py_model.specs.Faults.{fault, value_error}
use Rattle.py_model.specs.Operands.{gives_int}
use Rattle.py_model.specs.Plan.{Plan}

-- what stands behind a sign, and whether the sign is a minus
abbrev pub behind_sign : List ℕ → List ℕ
behind_sign [] = []
behind_sign (byte ∷ rest) = if byte == 45 then rest else if byte == 43 then rest else byte ∷ rest

abbrev pub is_negative : List ℕ → Bool
is_negative [] = false
is_negative (byte ∷ rest) = byte == 45

abbrev pub with_sign : Bool → ℕ → ℤ
with_sign true n = neg_ℤ (pos n)
with_sign false n = pos n

-- the answer of `int`, by the integer that a text writes
abbrev pub as_written : Option ℤ → Plan
as_written None = fault value_error (codes "not an integer")
as_written (Some i) = gives_int i
