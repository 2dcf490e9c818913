-- Occurrences of statements in the moments of a run, latest first; and evaluations by place and number (this project's profile, after
-- Korel and Laski 1988). A moment's time is how many moments were before it.
use Rattle.std.specs.Prelude.{ℕ, suc, ◌==◌, ◌&&◌, ◌||◌, not, nat_lt, nat_le, Bool, true, false, List, [], ◌∷◌, length, Option, Some, None, if◌then◌else◌}
use Rattle.std.specs.Option.{option_map}
use Rattle.prov_base.specs.declared.place.Pos.{Pos}
use Rattle.prov_base.specs.contracts.place.PosPartialEq.TheImpl.{ghosts as places}
use Rattle.py_value.specs.Same.{same_location}
use Rattle.py_value.specs.Seen.{SeenLocation, SeenAccess, sets, updates}
use Rattle.py_model.specs.Going.{Open, a_statement, an_activation}
use Rattle.py_model.specs.History.{accesses_by}
use Rattle.py_model.specs.Moment.{Moment, begins, does, enters, leaves, ends, Ending}
use Rattle.py_model.specs.Plan.{Answer, value}

-- an occurrence of a statement: its number, and the time at which it began
pub record Occurrence : Type 0 where
  pub stmt : ℕ
  pub began : ℕ

-- what is open: an occurrence, or an activation with the time at which it was entered
pub data Frame : Type 0 where
  in_occurrence : Occurrence → Frame
  in_activation : ℕ → Frame

abbrev pub without_top : List Frame → List Frame
without_top [] = []
without_top (frame ∷ frames) = frames

-- what is open after moments, innermost first
abbrev pub frames_after : List Moment → List Frame
frames_after [] = []
frames_after (begins number ∷ before) = in_occurrence (record { stmt = number; began = length before }) ∷ frames_after before
frames_after (enters at def values accesses ∷ before) = in_activation (length before) ∷ frames_after before
frames_after (does at number values answer made accesses weight ∷ before) = frames_after before
frames_after (leaves v ∷ before) = without_top (frames_after before)
frames_after (ends number ended ∷ before) = without_top (frames_after before)

-- The innermost open occurrence: a Do and an Enter are its own moments, and an activation that is entered is called by its statement.
abbrev pub innermost : List Frame → Option Occurrence
innermost [] = None
innermost (in_occurrence o ∷ frames) = Some o
innermost (in_activation time ∷ frames) = innermost frames

-- the occurrence whose own moment the next one is
abbrev pub owner_after : List Moment → Option Occurrence
owner_after before = innermost (frames_after before)

-- the statement whose own moment the next one is
abbrev pub owner_stmt : List Moment → Option ℕ
owner_stmt before = option_map (λ (o : Occurrence). o.stmt) (owner_after before)

-- A statement that begins now is a block child of the occurrence directly around it, or an activation child of the occurrence that
-- entered the activation directly around it.
abbrev pub block_parent : List Frame → Option Occurrence
block_parent (in_occurrence o ∷ frames) = Some o
block_parent frames = None

abbrev pub activation_parent : List Frame → Option Occurrence
activation_parent (in_activation time ∷ frames) = innermost frames
activation_parent frames = None

-- whether the innermost open thing is the occurrence that began at a time
abbrev pub is_top : ℕ → List Frame → Bool
is_top time (in_occurrence o ∷ frames) = o.began == time
is_top time frames = false

-- how the occurrence that began at a time ended; None where it is open
abbrev pub ended_as : ℕ → List Moment → Option Ending
ended_as time [] = None
ended_as time (ends number ended ∷ before) = if is_top time (frames_after before) then Some ended else ended_as time before
ended_as time (other ∷ before) = ended_as time before

-- The operations that are evaluations: const load give, not neg pos, the operators and comparisons, `+=`, displays, item and slice,
-- attribute, and the calls of functions and methods of the language.
abbrev pub evaluates : ℕ → Bool
evaluates number =
    (nat_lt number 28 && not (number == 3)) || ((number == 30) || ((nat_le 50 number && nat_lt number 72) || (nat_le 80 number && nat_lt number 112)))

abbrev pub is_value : Answer → Bool
is_value (value v) = true
is_value other = false

abbrev pub is_evaluation_at : Pos → Moment → Bool
is_evaluation_at at (does place number values answer made accesses weight) = places.eq place at && (evaluates number && is_value answer)
is_evaluation_at at other = false

-- how many evaluations there were at a place, and the moments up to the k-th and with it
abbrev pub evaluations_at : Pos → List Moment → ℕ
evaluations_at at [] = 0
evaluations_at at (moment ∷ before) = if is_evaluation_at at moment then suc (evaluations_at at before) else evaluations_at at before

abbrev pub up_to_evaluation : Pos → ℕ → List Moment → Option (List Moment)
up_to_evaluation at k [] = None
up_to_evaluation at k (moment ∷ before) =
    if is_evaluation_at at moment && (suc (evaluations_at at before) == k) then Some (moment ∷ before) else up_to_evaluation at k before

-- whether accesses set a location, or change it
abbrev pub sets_at : SeenLocation → List SeenAccess → Bool
sets_at l [] = false
sets_at l (sets m content ∷ accesses) = same_location m l || sets_at l accesses
sets_at l (access ∷ accesses) = sets_at l accesses

abbrev pub updates_at : SeenLocation → List SeenAccess → Bool
updates_at l [] = false
updates_at l (updates m change ∷ accesses) = same_location m l || updates_at l accesses
updates_at l (access ∷ accesses) = updates_at l accesses

-- Reach: the times of the moments that made the last Set of a location, or a later Update of it. It is empty where nothing set or updated
-- the location.
abbrev pub reach : SeenLocation → List Moment → List ℕ
reach l [] = []
reach l (moment ∷ before) =
    if sets_at l (accesses_by moment) then length before ∷ []
    else if updates_at l (accesses_by moment) then length before ∷ reach l before
    else reach l before

-- what a frame is without times
abbrev pub open_of : Frame → Open
open_of (in_occurrence o) = a_statement o.stmt
open_of (in_activation time) = an_activation
