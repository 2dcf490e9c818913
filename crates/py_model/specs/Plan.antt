-- What one operation does, as a plan (this project's profile): what it reads and asks, one after the other, going on with what it
-- got; then what it writes. A plan that raises writes nothing but its exception, and no plan writes before its last read.
use Rattle.std.specs.Prelude.{ℕ, ℤ, Bool, List, Option}
use Rattle.prov_base.specs.declared.place.Pos.{Pos}
use Rattle.py_value.specs.Contents.{Contents}
use Rattle.py_value.specs.Seen.{SeenLocation, SeenContent, SeenChange, SeenKind}

-- what is asked of a device, and what it gives
pub data Ask : Type 0 where
  time : Ask
  word : Ask
  line : Ask

pub data Given : Type 0 where
  number : ℤ → Given
  random_word : ℕ → Given
  a_line : List ℕ → Given
  no_line : Given
  failed : Given

-- what was found at a path
pub data Found : Type 0 where
  found_bytes : List ℕ → Found
  absent : Found
  too_large : Found
  found_failed : Found

-- what an operation answers: a value, an exception that it raised, or the end of a sequence
pub data Answer : Type 0 where
  value : Contents → Answer
  raised : ℕ → Answer
  at_end : Answer

-- The writes of an operation, in order, and its answer, a value or the end of a sequence. A moved item is read where it stood before
-- the operation.
pub data Writes : Type 0 where
  write : SeenLocation → SeenContent → Writes → Writes
  change : SeenLocation → SeenChange → Writes → Writes
  move : ℕ → ℕ → ℕ → Writes → Writes
  opens : List ℕ → Writes → Writes
  notes : Pos → List ℕ → Writes → Writes
  done : Contents → Writes
  done_at_end : Writes

pub data Plan : Type 0 where
  -- the content of a location is read
  read_var : ℕ → List ℕ → (Option Contents → Plan) → Plan
  read_len : ℕ → (ℕ → Plan) → Plan
  read_item : ℕ → ℕ → (Option Contents → Plan) → Plan
  read_entry : ℕ → Contents → (Option (Contents × Contents) → Plan) → Plan
  read_order : ℕ → (List Contents → Plan) → Plan
  read_file : List ℕ → (Option (List ℕ) → Plan) → Plan
  read_offset : ℕ → (ℕ → Plan) → Plan
  read_closed : ℕ → (Bool → Plan) → Plan
  read_method : Pos → List ℕ → (Option Pos → Plan) → Plan
  read_base : Pos → (Option Contents → Plan) → Plan
  -- what an object is, and the noted name of a function or class, which are no accesses
  kind_of : ℕ → (Option SeenKind → Plan) → Plan
  name_of : Pos → (Option (List ℕ) → Plan) → Plan
  -- whether an opening of the path for writing has succeeded, which is no access
  was_opened : List ℕ → (Bool → Plan) → Plan
  -- a device is asked, or a file fetched
  ask : Ask → (Given → Plan) → Plan
  fetch : List ℕ → (Found → Plan) → Plan
  -- so many items of tuples and ranges are looked at, so many characters counted, and bytes printed
  looks : ℕ → Plan → Plan
  counts : ℕ → Plan → Plan
  prints : List ℕ → Plan → Plan
  -- The end: writes; an object of a kind is made, whose number the writes are given; an exception of a class is made and raised; an
  -- exception that is there is raised again; the sequence is at its end; the walk never ends within any budget.
  writes : Writes → Plan
  makes : SeenKind → (ℕ → Writes) → Plan
  raises : Contents → List Contents → Plan
  raises_again : ℕ → Plan
  ends : Plan
  runs_away : Plan
