-- When a state of a run of the slice stands for a state of the script's run (after Korel and Laski 1988; this project's profile).
use Rattle.std.specs.Prelude.{◌≡◌, ℕ, suc, ◌+◌, ◌≤◌, ◌<◌, ◌⊎◌, Bool, true, false, List, [], ◌∷◌, map, length, Option, Some, ⊤, None}
use Rattle.std.specs.Option.{option_map}
use Rattle.prov_base.specs.declared.place.Pos.{Pos}
use Rattle.py_value.specs.Contents.{Contents}
use Rattle.py_value.specs.Seen.{SeenLocation, SeenAccess, file_at, reads}
use Rattle.py_model.specs.Act.{Walked}
use Rattle.py_model.specs.Capture.{Capture, found_in}
use Rattle.py_model.specs.Operations.{Op}
use Rattle.py_model.specs.Store.{has_path}
use Rattle.py_model.specs.Tidy.{is_there}
use Rattle.py_model.specs.History.{accesses_by, spent_on}
use Rattle.py_model.specs.Moment.{Moment, begins, does, enters, leaves, ends, Ending, normal_end}
use Rattle.py_model.specs.Occurrences.{Occurrence, Frame, in_occurrence, in_activation, frames_after, innermost, sets_at, updates_at, owner_stmt}
use Rattle.py_model.specs.Plan.{Answer, Found}
use Rattle.py_model.specs.Renaming.{Renaming, renamed, renamed_list, renamed_answer, renamed_kind, renamed_access}
use Rattle.py_model.specs.Running.{State, did, askings_at, operation}
use Rattle.slice_law.specs.Closed.{StmtSet}
use Rattle.slice_simulation.specs.Renaming.{marks_after, activations_after, Fits, Matches, Marks, all_marks}

-- What stands at a location was set, and updated since, by moments of kept statements alone: its reach lies in the set.
abbrev pub ByAccess : Bool → Bool → Type 0 → Type 0 → Type 0
ByAccess true updated own earlier = own
ByAccess false true own earlier = own × earlier
ByAccess false false own earlier = earlier

module _ (keep : StmtSet) where
  abbrev pub OwnerIsKept : List Moment → Type 0
  OwnerIsKept before = (s : ℕ) → owner_stmt before ≡ Some s → keep s ≡ true

  abbrev pub IsInReach : SeenLocation → List Moment → Type 0
  IsInReach l [] = ⊤
  IsInReach l (moment ∷ before) =
      ByAccess (sets_at l (accesses_by moment)) (updates_at l (accesses_by moment)) (OwnerIsKept before) (IsInReach l before)

-- what is done, with the objects of the slice's run
abbrev pub renamed_moment : Renaming → Moment → Moment
renamed_moment r (does at number values answer made accesses weight) =
    does at number (renamed_list r values) (renamed_answer r answer) (option_map (renamed_kind r) made) (map (renamed_access r) accesses) weight
renamed_moment r (enters at def values accesses) = enters at def (renamed_list r values) (map (renamed_access r) accesses)
renamed_moment r (leaves v) = leaves (renamed r v)
renamed_moment r moment = moment

-- the statement that entered the innermost activation
abbrev pub called_by : List Frame → Option Occurrence
called_by [] = None
called_by (in_occurrence o ∷ frames) = called_by frames
called_by (in_activation time ∷ frames) = innermost frames

-- it is not kept
pub record IsCalledOutside (keep : StmtSet) (before : List Moment) : Type 0 where
  pub caller : Occurrence
  pub caller_is : called_by (frames_after before) ≡ Some caller
  pub out : keep caller.stmt ≡ false

-- The moments of the slice's run, the latest first, are those of the script's run without the moments of statements that are not kept. For
-- each execution of an emptied suite a `pass` begins and ends, as the first of its statements begins: a statement that is not kept begins alone where
-- nothing of the slice is named by it, or in an activation that such a statement entered. Statements are named by `names`.
pub data Follows (names : ℕ → ℕ → Type 0) (keep : StmtSet) (marks : Marks) : List Moment → List Moment → Type 0 where
  at_start : Follows names keep marks [] []
  both_did : {s : ℕ} {moment other : Moment} {before others : List Moment} → keep s ≡ true → owner_stmt before ≡ Some s
      → ((r : Renaming) → Fits marks r → other ≡ renamed_moment r moment) → Follows names keep marks before others → Follows names keep marks (moment ∷ before) (other ∷ others)
  alone_did : {s : ℕ} {moment : Moment} {before others : List Moment} → keep s ≡ false → owner_stmt before ≡ Some s
      → Follows names keep marks before others → Follows names keep marks (moment ∷ before) others
  both_began : {s n : ℕ} {before others : List Moment} → keep s ≡ true → names s n → Follows names keep marks before others → Follows names keep marks (begins s ∷ before) (begins n ∷ others)
  alone_began : {s : ℕ} {before others : List Moment} → keep s ≡ false → ((n : ℕ) → names s n → ⊥) ⊎ IsCalledOutside keep before
      → Follows names keep marks before others → Follows names keep marks (begins s ∷ before) others
  passed : {s n : ℕ} {before others : List Moment} → keep s ≡ false → names s n → Follows names keep marks before others
      → Follows names keep marks (begins s ∷ before) (ends n normal_end ∷ begins n ∷ others)
  both_ended : {s n : ℕ} {ended : Ending} {before others : List Moment} → keep s ≡ true → names s n → Follows names keep marks before others
      → Follows names keep marks (ends s ended ∷ before) (ends n ended ∷ others)
  alone_ended : {s : ℕ} {ended : Ending} {before others : List Moment} → keep s ≡ false → Follows names keep marks before others → Follows names keep marks (ends s ended ∷ before) others

-- what was found at a path can be read, or nothing stands there
pub record IsThere (found : List ℕ → Option Found) (path : List ℕ) : Type 0 where
  pub what : Found
  pub found_is : found path ≡ Some what
  pub there : is_there what ≡ true

-- of the objects or activations of the script's run those of both runs
abbrev pub kept_of : {A : Type 0} → List Bool → List A → List A
kept_of [] xs = []
kept_of (mark ∷ marks) [] = []
kept_of (true ∷ marks) (x ∷ xs) = x ∷ kept_of marks xs
kept_of (false ∷ marks) (x ∷ xs) = kept_of marks xs

-- Wherever the reach lies in the set, contents correspond; kinds and numbers of activations do, and noted names at known places: those where the
-- slice has definitions. The slice has taken no more steps, and has enough left for all moments up to the last that is asked for. It opened no
-- other paths for writing. Of those that the script's run opened, it opened each whose file's reach lies in the set; or the file can be read as
-- it was found.
pub record Related (capture : Capture) (names : ℕ → ℕ → Type 0) (known : Pos → Bool) (keep : StmtSet) (upto : List Moment) (s t : State) : Type 0 where
  pub follows : Follows names keep (all_marks keep upto) s.told t.told
  pub contents : (l : SeenLocation) → IsInReach keep l s.told → (r : Renaming) → Fits (all_marks keep upto) r → Matches r s.store.at t.store.at l
  pub kinds : (r : Renaming) → Fits (all_marks keep upto) r → t.store.kinds ≡ map (renamed_kind r) (kept_of (marks_after keep s.told) s.store.kinds)
  pub counted : length s.store.kinds ≡ length (marks_after keep s.told)
  pub entered_here : suc s.entered ≡ length (activations_after keep s.told)
  pub entered_there : suc t.entered ≡ length (kept_of (activations_after keep s.told) (activations_after keep s.told))
  pub noted_names : (place : Pos) → known place ≡ true → t.store.names place ≡ s.store.names place
  pub opened_there : (path : List ℕ) → has_path path t.store.opened ≡ true → has_path path s.store.opened ≡ true
  pub opened_here : (path : List ℕ) → has_path path s.store.opened ≡ true → IsInReach keep (file_at path) s.told
      → (has_path path t.store.opened ≡ true) ⊎ IsThere (found_in capture.files) path
  pub enough : spent_on upto ≤ t.left + spent_on s.told
  pub no_more : spent_on t.told ≤ spent_on s.told

-- each location that is read was written last by kept statements
abbrev pub AllInReach : StmtSet → List Moment → List SeenAccess → Type 0
AllInReach keep told [] = ⊤
AllInReach keep told (reads l ∷ accesses) = IsInReach keep l told × AllInReach keep told accesses
AllInReach keep told (access ∷ accesses) = AllInReach keep told accesses

-- The operation is done in the slice's run too: it has the corresponding answer, its walks came to the same, it has a cost, and the states
-- afterwards stand for one another.
pub record DoneAgain (capture : Capture) (names : ℕ → ℕ → Type 0) (known : Pos → Bool) (keep : StmtSet) (upto : List Moment) (at : Pos) (q : Op) (ws : List Contents) (s t : State) (answer : Answer) (came : Walked) (next : State) : Type 0 where
  pub again : Answer
  pub now : State
  pub happens : operation capture at q ws t ≡ did again came now
  pub answers : (r : Renaming) → Fits (all_marks keep upto) r → again ≡ renamed_answer r answer
  pub related : Related capture names known keep upto next now
  pub askings : (place : Pos) → askings_at place t.askings ≡ askings_at place s.askings → askings_at place now.askings ≡ askings_at place next.askings
  pub fewer : now.left < t.left
