-- Pairs and roots that are those of the moments of a run.
use Rattle.std.specs.Prelude.{◌≡◌, ℕ, List}
use Rattle.py_tree.specs.Tree.{ScriptTree}
use Rattle.py_model.specs.Moment.{Moment}
use Rattle.slice_law.specs.Closed.{IsIn}
use Rattle.slice_law.specs.Edges.{Edge, run_asks}

-- of some edge these are the statement that asks and the one that is asked for
pub record IsPairOf (asked : List Edge) (pair : ℕ × ℕ) : Type 0 where
  pub edge : Edge
  pub there : IsIn asked edge
  pub asker : edge.asker ≡ pair.0
  pub asked_for : edge.asked ≡ pair.1

-- The pairs are those of the edges, in any order and number.
pub record ArePairsOf (asked : List Edge) (pairs : List (ℕ × ℕ)) : Type 0 where
  pub each : (e : Edge) → IsIn asked e → IsIn pairs (e.asker, e.asked)
  pub only : (pair : ℕ × ℕ) → IsIn pairs pair → IsPairOf asked pair

-- what the moments of a run make one statement ask of another
abbrev pub AreAskedIn : ScriptTree → List Moment → List (ℕ × ℕ) → Type 0
AreAskedIn script told pairs = ArePairsOf (run_asks script told) pairs

-- one list has just the numbers of the other
pub record SameNumbers (one other : List ℕ) : Type 0 where
  pub each : (s : ℕ) → IsIn one s → IsIn other s
  pub only : (s : ℕ) → IsIn other s → IsIn one s
