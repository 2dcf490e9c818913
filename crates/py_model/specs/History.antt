-- What moments come to, the latest first: what they cost, the map and the kinds of objects after them, how many activations they
-- entered, and what is open after them.
use Rattle.std.specs.Prelude.{◌≡◌, ℕ, suc, ◌+◌, ◌==◌, List, [], ◌∷◌, ◌++◌, length, Bool, true, false, Option, Some, None, if◌then◌else◌, ⊤}
use Rattle.std.specs.Option.{option_and_then}
use Rattle.py_value.specs.Seen.{SeenLocation, SeenContent, SeenAccess, SeenKind}
use Rattle.py_model.specs.Capture.{Capture, given_in, found_in}
use Rattle.py_model.specs.Effect.{after_accesses}
use Rattle.py_model.specs.Going.{Open, a_statement, an_activation}
use Rattle.py_model.specs.Moment.{Moment, begins, does, enters, leaves, ends}
use Rattle.py_model.specs.Running.{State, Ended, over, spent, lacking, Asking, state_in}
use Rattle.py_model.specs.Store.{RunStore}

-- what a moment costs in steps: a Begin 1; a Do 1, and 1 for each access, and its weight; an Enter 1, and 1 for each parameter
abbrev pub steps_of : Moment → ℕ
steps_of (begins number) = 1
steps_of (does at number values answer made accesses weight) = 1 + length accesses + weight
steps_of (enters at def values accesses) = suc (length values)
steps_of (leaves v) = 0
steps_of (ends number ended) = 0

abbrev pub spent_on : List Moment → ℕ
spent_on [] = 0
spent_on (moment ∷ before) = steps_of moment + spent_on before

abbrev pub accesses_by : Moment → List SeenAccess
accesses_by (does at number values answer made accesses weight) = accesses
accesses_by (enters at def values accesses) = accesses
accesses_by other = []

abbrev pub made_by : Moment → Option SeenKind
made_by (does at number values answer made accesses weight) = made
made_by other = None

abbrev pub with_kind : Option SeenKind → List SeenKind → List SeenKind
with_kind None kinds = kinds
with_kind (Some kind) kinds = kinds ++ kind ∷ []

-- the map and the kinds after moments, from those of the opening store
abbrev pub held : (SeenLocation → Option SeenContent) → List Moment → SeenLocation → Option SeenContent
held opening [] = opening
held opening (moment ∷ before) = after_accesses (accesses_by moment) (held opening before)

abbrev pub kinds_after : List SeenKind → List Moment → List SeenKind
kinds_after opening [] = opening
kinds_after opening (moment ∷ before) = with_kind (made_by moment) (kinds_after opening before)

-- how many activations were entered
abbrev pub entered_by : List Moment → ℕ
entered_by [] = 0
entered_by (enters at def values accesses ∷ before) = suc (entered_by before)
entered_by (other ∷ before) = entered_by before

-- What is open after moments, innermost first. None is the answer where they do not nest: where a statement ends, or an activation is
-- left, that is not the innermost open one.
abbrev pub closed_by : ℕ → List Open → Option (List Open)
closed_by number (a_statement own ∷ open_ones) = if own == number then Some open_ones else None
closed_by number other = None

abbrev pub left_by : List Open → Option (List Open)
left_by (an_activation ∷ open_ones) = Some open_ones
left_by other = None

abbrev pub opened_by : Moment → List Open → Option (List Open)
opened_by (begins number) open_ones = Some (a_statement number ∷ open_ones)
opened_by (does at number values answer made accesses weight) open_ones = Some open_ones
opened_by (enters at def values accesses) open_ones = Some (an_activation ∷ open_ones)
opened_by (leaves v) open_ones = left_by open_ones
opened_by (ends number ended) open_ones = closed_by number open_ones

abbrev pub open_after : List Moment → Option (List Open)
open_after [] = Some []
open_after (moment ∷ before) = option_and_then (opened_by moment) (open_after before)

-- A state agrees with its moments: its budget is what they cost and what is left, and its map, its kinds and the number of its
-- activations are those after them.
pub record AgreesWith (opening : RunStore) (budget : ℕ) (told : List Moment) (left entered : ℕ) (store : RunStore) : Type 0 where
  pub paid : spent_on told + left ≡ budget
  pub map_is : store.at ≡ held opening.at told
  pub kinds_are : store.kinds ≡ kinds_after opening.kinds told
  pub entered_is : entered ≡ entered_by told

abbrev pub IsAgreed : RunStore → ℕ → State → Type 0
IsAgreed opening budget s = AgreesWith opening budget s.told s.left s.entered s.store

-- moments nest as brackets: at the end of a run some list is open
pub record IsNested (told : List Moment) : Type 0 where
  pub open_ones : List Open
  pub is_open : open_after told ≡ Some open_ones

-- at the end of a tree of actions this list is open, and where a run ends before that, its moments nest too
abbrev pub Nests : List Open → Ended → Type 0
Nests onto (over how t) = open_after t.told ≡ Some onto
Nests onto (spent t) = IsNested t.told
Nests onto (lacking t) = IsNested t.told

-- more steps are left, and all else is as it was
abbrev pub richer : ℕ → State → State
richer more s = record s { left = s.left + more }

-- the moments of the first are those with which the second began
pub record Extends (told longer : List Moment) : Type 0 where
  pub news : List Moment
  pub longer_is : longer ≡ news ++ told

-- With so many steps more a run goes the same way to its end, and to the answer that it lacks; where the steps did not suffice, its
-- moments go on from there.
abbrev pub GoesOn : ℕ → Ended → Ended → Type 0
GoesOn more (over how t) ended = ended ≡ over how (richer more t)
GoesOn more (lacking t) ended = ended ≡ lacking (richer more t)
GoesOn more (spent t) ended = Extends t.told (state_in ended).told

abbrev pub option_is_some : {A : Type 0} → Option A → Bool
option_is_some None = false
option_is_some (Some x) = true

-- what was asked is in the capture
abbrev pub KeptAll : Capture → List Asking → Type 0
KeptAll capture [] = ⊤
KeptAll capture (asking ∷ before) = (option_is_some (given_in capture.answers asking.what asking.at asking.k) ≡ true) × KeptAll capture before

abbrev pub FoundAll : Capture → List (List ℕ) → Type 0
FoundAll capture [] = ⊤
FoundAll capture (path ∷ before) = (option_is_some (found_in capture.files path) ≡ true) × FoundAll capture before

abbrev pub IsKept : Capture → State → Type 0
IsKept capture s = KeptAll capture s.askings × FoundAll capture s.fetches

abbrev pub KeptUnlessLacking : Capture → Ended → Type 0
KeptUnlessLacking capture (over how t) = IsKept capture t
KeptUnlessLacking capture (spent t) = IsKept capture t
KeptUnlessLacking capture (lacking t) = ⊤
