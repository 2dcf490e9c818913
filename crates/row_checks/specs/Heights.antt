-- No public clause cites this file.
-- How deep tuples stand inside one another in a key. It is the proof's means; no public clause speaks of it.
use Rattle.std.specs.Prelude.{◌≡◌, ⊤, ℕ, ◌+◌, ◌≤◌, max, nat_le, nat_lt, Bool, true, false, List, [], ◌∷◌, length, slice_get, unwrap_or, Some, if◌then◌else◌}
use Rattle.py_value.specs.declared.value.Value.{Value}
use Rattle.py_value.specs.declared.value.Value.TheVariants.{None as NoneValue, Bool as TruthValue, Int, Text, Tuple, Range, Fn, Class, Exc, Builtin, Object}
use Rattle.row_checks.specs.declared.heights.Height.{Height}
use Rattle.row_checks.specs.Keys.{is_key_within}

abbrev pub no_key : Height
no_key = record { plain = 101; normal = 101 }

abbrev pub height_of : List Height → Value → Height
height_of heights NoneValue = record { plain = 0; normal = 0 }
height_of heights (TruthValue b) = record { plain = 0; normal = 101 }
height_of heights (Int i) = record { plain = 0; normal = 0 }
height_of heights (Text n) = record { plain = 0; normal = 0 }
height_of heights (Tuple n) = unwrap_or (slice_get heights n) no_key
height_of heights (Range start end step) = no_key
height_of heights (Fn at) = no_key
height_of heights (Class at) = no_key
height_of heights (Exc n) = no_key
height_of heights (Builtin n) = no_key
height_of heights (Object n) = no_key

abbrev pub higher : Height → Height → Height
higher a b = record { plain = max a.plain b.plain; normal = max a.normal b.normal }

abbrev pub highest : List Height → Height → List Value → Height
highest heights so_far [] = so_far
highest heights so_far (v ∷ vs) = highest heights (higher so_far (height_of heights v)) vs

abbrev pub one_over : ℕ → ℕ
one_over h = if nat_lt h 100 then h + 1 else 101

abbrev pub over : Height → Height
over h = record { plain = one_over h.plain; normal = one_over h.normal }

abbrev pub height_in : Bool → Height → ℕ
height_in truths h = if truths then h.plain else h.normal

abbrev pub is_low : List Height → Bool → Value → Bool
is_low heights truths v = nat_le (height_in truths (height_of heights v)) 100

-- the value is a key just where so many tuples, or more, may stand inside one another
abbrev pub IsHeight : Bool → List (List Value) → Value → ℕ → Type 0
IsHeight truths tuples v h = (levels : ℕ) → levels ≤ 100 → is_key_within truths levels tuples v ≡ nat_le h levels

pub record AreHeights (tuples : List (List Value)) (heights : List Height) : Type 0 where
  pub many : length heights ≡ length tuples
  pub each : (truths : Bool) (n : ℕ) (h : Height) → slice_get heights n ≡ Some h → IsHeight truths tuples (Tuple n) (height_in truths h)

abbrev pub AreHeightsIf : List (List Value) → List Height → Bool → Type 0
AreHeightsIf tuples heights true = AreHeights tuples heights
AreHeightsIf tuples heights false = ⊤
