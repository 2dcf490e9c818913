-- Which operation feeds which in the moments of a run, the latest first (this project's profile). A moment's time is how many moments were before it.
use Rattle.std.specs.Prelude.{◌≡◌, ℕ, ◌==◌, Bool, true, false, List, [], ◌∷◌, ◌++◌, length, slice_get, Option, Some, None, if◌then◌else◌}
use Rattle.prov_base.specs.declared.place.Pos.{Pos}
use Rattle.py_tree.specs.Places.{suite_starts}
use Rattle.py_tree.specs.Tree.{ScriptTree}
use Rattle.py_value.specs.Seen.{SeenAccess, reads}
use Rattle.py_model.specs.Moment.{Moment, begins, does, enters, leaves, ends, return_end}
use Rattle.py_model.specs.Occurrences.{reach}
use Rattle.slice_law.specs.Closed.{has}
use Rattle.value_links.specs.Taken.{Done, taken_by_links}
use Rattle.value_links.specs.Links.{given_as, taken_as, an_enter, a_return, links}

-- What is open: an occurrence of a statement with its number, or an activation. It has the operations that were done in it, the latest first, and the times of those
-- that gave the value of the `return` by which the last of its parts ended that ended so.
pub record Notes : Type 0 where
  pub stmt : Option ℕ
  pub done : List Done
  pub returned : List ℕ

abbrev pub fresh : Option ℕ → Notes
fresh stmt = record { stmt = stmt; done = []; returned = [] }

-- the notes of the innermost occurrence
abbrev pub done_in : List Notes → List Done
done_in [] = []
done_in (notes ∷ more) = elim notes.stmt [ None ↦ done_in more | Some s ↦ notes.done ]

abbrev pub with_done : Done → List Notes → List Notes
with_done d [] = []
with_done d (notes ∷ more) = elim notes.stmt [ None ↦ notes ∷ with_done d more | Some s ↦ record notes { done = d ∷ notes.done } ∷ more ]

abbrev pub with_returned : List ℕ → List Notes → List Notes
with_returned times [] = []
with_returned times (notes ∷ more) = record notes { returned = times } ∷ more

abbrev pub top_returned : List Notes → List ℕ
top_returned [] = []
top_returned (notes ∷ more) = notes.returned

abbrev pub place_of : ScriptTree → Option ℕ → Option Pos
place_of script None = None
place_of script (Some s) = slice_get (suite_starts script.body) s

-- Where an occurrence ends by a `return`: a `return` has the operation that gave its value, and any other statement what its last part has.
abbrev pub value_returned : ScriptTree → Notes → List ℕ
value_returned script notes = elim (place_of script notes.stmt) [
  | None ↦ notes.returned
  | Some at ↦ taken_by_links (record { at = at; kind = a_return }) 0 notes.done (links script) ++ notes.returned
]

abbrev pub ended_by_return : ScriptTree → List Notes → List Notes
ended_by_return script [] = []
ended_by_return script (notes ∷ more) = with_returned (value_returned script notes) more

abbrev pub without_notes : List Notes → List Notes
without_notes [] = []
without_notes (notes ∷ more) = more

-- what is open after moments, innermost first
abbrev pub notes_after : ScriptTree → List Moment → List Notes
notes_after script [] = []
notes_after script (begins number ∷ before) = fresh (Some number) ∷ notes_after script before
notes_after script (does at number values answer made accesses weight ∷ before) =
    with_done (record { point = record { at = at; kind = given_as number }; time = length before }) (notes_after script before)
notes_after script (enters at def values accesses ∷ before) = fresh None ∷ notes_after script before
notes_after script (leaves v ∷ before) = without_notes (notes_after script before)
notes_after script (ends number return_end ∷ before) = ended_by_return script (notes_after script before)
notes_after script (ends number ended ∷ before) = without_notes (notes_after script before)

-- A call gives the value of the activation that was left just before.
abbrev pub given_back : ScriptTree → ℕ → List Moment → List ℕ
given_back script number (leaves v ∷ before) = if number == 2 then top_returned (notes_after script before) else []
given_back script number before = []

-- the reach of what is read
abbrev pub reached : List SeenAccess → List Moment → List ℕ
reached [] before = []
reached (reads l ∷ accesses) before = reach l before ++ reached accesses before
reached (access ∷ accesses) before = reached accesses before

-- The times of the operations that feed a moment: those whose answers it takes, that which gave the value of the `return` of a call, and those that wrote what it reads.
abbrev pub passed : ScriptTree → Moment → List Moment → List ℕ
passed script (does at number values answer made accesses weight) before =
    taken_by_links (record { at = at; kind = taken_as number }) (length values) (done_in (notes_after script before)) (links script) ++ given_back script number before
passed script (enters at def values accesses) before =
    taken_by_links (record { at = at; kind = an_enter }) (length values) (done_in (notes_after script before)) (links script)
passed script moment before = []

abbrev pub read_by : Moment → List SeenAccess
read_by (does at number values answer made accesses weight) = accesses
read_by (enters at def values accesses) = accesses
read_by moment = []

abbrev pub feeders : ScriptTree → Moment → List Moment → List ℕ
feeders script moment before = passed script moment before ++ reached (read_by moment) before

-- the moment at one time feeds that at another
abbrev pub feeds : ScriptTree → List Moment → ℕ → ℕ → Bool
feeds script [] x y = false
feeds script (moment ∷ before) x y = if length before == y then has x (feeders script moment before) else feeds script before x y

-- by a chain of feedings
pub data IsChain (script : ScriptTree) (told : List Moment) (x : ℕ) : ℕ → Type 0 where
  one : {y : ℕ} → feeds script told x y ≡ true → IsChain script told x y
  more : {y : ℕ} (z : ℕ) → IsChain script told x z → feeds script told z y ≡ true → IsChain script told x y
