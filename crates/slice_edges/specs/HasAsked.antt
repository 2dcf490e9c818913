-- What the pass knows after rows: what is open, where a reach is empty and which statements it has, and which statement asks for which.
use Rattle.std.specs.Prelude.{◌≡◌, ℕ, Bool, true, false, List, [], ◌∷◌, map}
use Rattle.py_tree.specs.Tree.{ScriptTree}
use Rattle.py_value.specs.declared.access.Location.{Location}
use Rattle.py_value.specs.Seen.{location_seen, IsNamedLocation}
use Rattle.py_value.specs.Values.{ValuesView}
use Rattle.py_model.specs.Moment.{Moment}
use Rattle.py_model.specs.Occurrences.{frames_after, open_of, reach}
use Rattle.slice_law.specs.Closed.{has}
use Rattle.slice_law.specs.Edges.{Reason, reach_stmts, run_asks}
use Rattle.slice_edges.specs.declared.asking.Asking.{Asking}
use Rattle.slice_edges.specs.Asks.{among_by, some_ask_by}
use Rattle.slice_edges.specs.Counts.{IsRight}
use Rattle.slice_edges.specs.Writers.{is_noted, noted_at}

abbrev pub is_filled : List ℕ → Bool
is_filled [] = false
is_filled (time ∷ times) = true

-- After the moments that were told, the latest first: the same is open, at a location that is named something is noted exactly where its
-- reach is not empty, and then the statements of its reach, and a pair is noted with a reason exactly where one of the edges of these moments has both. What need
-- not be sought or asked for again is right.
pub record HasAsked (view : ValuesView) (script : ScriptTree) (asking : Asking) (told : List Moment) : Type 0 where
  pub frames : asking.frames ≡ map open_of (frames_after told)
  pub reached : (l : Location) → IsNamedLocation view l → is_noted asking.writers.entries l ≡ is_filled (reach (location_seen view l) told)
  pub writers : (l : Location) → IsNamedLocation view l → (s : ℕ) → has s (noted_at asking.writers.entries l) ≡ has s (reach_stmts (location_seen view l) told)
  pub right : IsRight script view.texts asking.asks.keys asking.writers.entries asking.memo
  pub asks : (reason : Reason) (s r : ℕ) → among_by asking.asks.keys reason s r ≡ some_ask_by (run_asks script told) reason s r
