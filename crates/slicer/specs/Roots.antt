-- What a value asks for: the statements of the reach of the places that are reached from it.
use Rattle.std.specs.Prelude.{◌≡◌, ℕ, true, List, ◌∷◌, Option}
use Rattle.py_value.specs.declared.access.Location.{Location}
use Rattle.py_value.specs.declared.value.Value.{Value}
use Rattle.py_value.specs.Seen.{SeenLocation, SeenAccess, SeenKind, location_seen, IsNamedLocation}
use Rattle.py_value.specs.Values.{ValuesView}
use Rattle.py_model.specs.Moment.{Moment, does}
use Rattle.py_model.specs.Plan.{value}
use Rattle.prov_base.specs.declared.place.Pos.{Pos}
use Rattle.py_value.specs.Contents.{Contents}
use Rattle.py_model.specs.Store.{RunStore}
use Rattle.slice_law.specs.Closed.{IsIn, has}
use Rattle.slice_law.specs.Edges.{reach_stmts}
use Rattle.slice_things.specs.Things.{IsNormalLocation}
use Rattle.slicer.specs.Places.{IsReachedPlace}

-- a place without numbers has some, and its key is normal
pub record IsNumbered (view : ValuesView) (l : SeenLocation) : Type 0 where
  pub at : Location
  pub named : IsNamedLocation view at
  pub normal : IsNormalLocation view at
  pub is : location_seen view at ≡ l

-- each place that moments write is so
abbrev pub HasNumbers : ValuesView → List Moment → Type 0
HasNumbers view told = (l : SeenLocation) (s : ℕ) → has s (reach_stmts l told) ≡ true → IsNumbered view l

-- a statement is in the reach of a place that is reached
abbrev pub AsksAt : ValuesView → RunStore → List Moment → Value → ℕ → Location → Type 0
AsksAt view store told v s at = IsReachedPlace view store v at × (has s (reach_stmts (location_seen view at) told) ≡ true)

-- one of these places
pub record AsksAmong (view : ValuesView) (store : RunStore) (told : List Moment) (v : Value) (ats : List Location) (s : ℕ) : Type 0 where
  pub at : Location
  pub among : IsIn ats at
  pub asks : AsksAt view store told v s at

-- the last moment is an evaluation that gave this value
pub record IsEvaluation (v : Contents) (told : List Moment) : Type 0 where
  pub at : Pos
  pub number : ℕ
  pub values : List Contents
  pub made : Option SeenKind
  pub accesses : List SeenAccess
  pub weight : ℕ
  pub before : List Moment
  pub is : told ≡ does at number values (value v) made accesses weight ∷ before
