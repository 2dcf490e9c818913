-- No public clause cites this file.
-- What each statement asks for, together, and the statements that are found one after the other. It is the proof's means.
use Rattle.std.specs.Prelude.{◌≡◌, ◌≤◌, ◌<◌, ◌+◌, ℕ, ◌==◌, Bool, true, List, [], ◌∷◌, length, slice_index_or, if◌then◌else◌}
use Rattle.py_tree.specs.StmtSet.{has}
use Rattle.slice_law.specs.Closed.{IsIn}
use Rattle.slicer.specs.Along.{AllIn}
use Rattle.slicer.specs.Lacking.{lacking}

-- what a statement asks for among pairs
abbrev pub asked_by : List (ℕ × ℕ) → ℕ → List ℕ
asked_by [] s = []
asked_by (pair ∷ pairs) s = if pair.0 == s then pair.1 ∷ asked_by pairs s else asked_by pairs s

-- what stands for it in a list of lists
abbrev pub group_at : List (List ℕ) → ℕ → List ℕ
group_at groups s = slice_index_or groups s []

-- The set has the statements that were found, and each of them makes one less that it lacks.
pub record AreFound (count : ℕ) (members : List Bool) (found : List ℕ) : Type 0 where
  pub each : AllIn (has members) found
  pub only : (s : ℕ) → has members s ≡ true → IsIn found s
  pub counted : lacking (has members) count + length found ≤ count

-- more may be in the set, and more may be found, behind the others
pub record HasGrown (members : List Bool) (found : List ℕ) (more_members : List Bool) (more_found : List ℕ) : Type 0 where
  pub bound : length more_members ≡ length members
  pub stays : (s : ℕ) → has members s ≡ true → has more_members s ≡ true
  pub front : (i : ℕ) → i < length found → slice_index_or more_found i 0 ≡ slice_index_or found i 0
  pub longer : length found ≤ length more_found
  pub fits : AreFound (length members) members found → AreFound (length members) more_members more_found

-- of the statements found, so many are followed
abbrev pub AreFollowed : List (ℕ × ℕ) → (ℕ → Bool) → List ℕ → ℕ → Type 0
AreFollowed pairs keep found next = (i : ℕ) → i < next → AllIn keep (asked_by pairs (slice_index_or found i 0))
