-- No public clause cites this file.
-- What a run keeps of its tuples as keys (this project's profile).
use Rattle.std.specs.Prelude.{◌≡◌, ℕ, ◌≤◌, ⊤, List, [], ◌∷◌, length, slice_get, Some}
use Rattle.py_value.specs.declared.value.Value.{Value}
use Rattle.py_value.specs.declared.value.Value.TheVariants.{Tuple}
use Rattle.py_value.specs.declared.values.AsKey.{AsKey}
use Rattle.py_value.specs.declared.values.Note.{Note}
use Rattle.py_value.specs.Values.{ValuesView, AreInterned}
use Rattle.py_value.specs.KeyOf.{first_fault, fault_within, IsNormalOf}

-- Where as many tuples may stand inside one another as the height says, the fault is the one that is refused first. No
-- more than 100 may.
abbrev pub IsKnown : ValuesView → Value → AsKey → Type 0
IsKnown view value known = (levels : ℕ) → levels ≤ 100 → known.height ≤ levels → fault_within levels view value ≡ known.fault

-- so for a list of values in their order
abbrev pub AreKnown : ValuesView → List Value → AsKey → Type 0
AreKnown view items known = (levels : ℕ) → levels ≤ 100 → known.height ≤ levels → first_fault (fault_within levels view) items ≡ known.fault

-- the forms are the normal ones of the values, one for each
abbrev pub AreNormalOf : ValuesView → ValuesView → List Value → List Value → Type 0
AreNormalOf old now [] [] = ⊤
AreNormalOf old now (value ∷ values) (form ∷ forms) = IsNormalOf old now value form × AreNormalOf old now values forms
AreNormalOf old now values forms = ⊥

-- what is noted of a tuple: the tuple as a key, and the number of its normal form once that is there
pub record IsNote (view : ValuesView) (tuple : ℕ) (note : Note) : Type 0 where
  pub known : IsKnown view (Tuple tuple) note.as_key
  pub normal_form : (number : ℕ) → note.normal ≡ Some number → IsNormalOf view view (Tuple tuple) (Tuple number)

-- the first tuples have a note each
pub record AreNoted (view : ValuesView) (notes : List Note) : Type 0 where
  pub interned : AreInterned view
  pub few : length notes ≤ length view.tuples
  pub each : (tuple : ℕ) (note : Note) → slice_get notes tuple ≡ Some note → IsNote view tuple note
