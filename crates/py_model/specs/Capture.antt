-- The captured answers of a run (this project's profile): what a device gave, by the place of the call and the number of the asking at
-- that place, from 1; and what was found at each path that was fetched.
use Rattle.std.specs.Prelude.{ℕ, ℤ, Bool, true, false, ◌&&◌, ◌==◌, List, [], ◌∷◌, Option, Some, None, if◌then◌else◌}
use Rattle.std.specs.Str.{bytes_eq}
use Rattle.prov_base.specs.declared.place.Pos.{Pos}
use Rattle.prov_base.specs.contracts.place.PosPartialEq.TheImpl.{ghosts as places}
use Rattle.py_model.specs.Effect.{Answers}
use Rattle.py_model.specs.Plan.{Ask, time, word, line, Given, Found, found_bytes}
use Rattle.py_model.specs.Store.{RunStore, opening}

-- one answer that is kept
pub record Kept : Type 0 where
  pub at : Pos
  pub k : ℕ
  pub what : Ask
  pub given : Given

-- What the devices tell at one moment, each where it tells: the lines that are left to read and the bytes written, what stands at each path,
-- and the times and the words that were given so far. With it how often each of their calls has failed so far: to read a line, to write, to get
-- a file, to get a script's own text, to put a file, to tell the time, to give a word.
pub record Telling : Type 0 where
  pub lines : Option (List (List ℕ))
  pub written : Option (List ℕ)
  pub files : Option (List ℕ → Option (List ℕ))
  pub times : Option (List ℤ)
  pub words : Option (List ℕ)
  pub line_faults : ℕ
  pub write_faults : ℕ
  pub file_faults : ℕ
  pub source_faults : ℕ
  pub put_faults : ℕ
  pub time_faults : ℕ
  pub word_faults : ℕ

-- The last field is what the devices tell at the end of the run. No rule of the meaning reads it: it ties the answers to their devices.
pub record Capture : Type 0 where
  pub answers : List Kept
  pub files : List (List ℕ × Found)
  pub ends : Telling

abbrev pub same_ask : Ask → Ask → Bool
same_ask time time = true
same_ask word word = true
same_ask line line = true
same_ask what other = false

abbrev pub is_kept_as : Ask → Pos → ℕ → Kept → Bool
is_kept_as what at k kept = places.eq kept.at at && ((kept.k == k) && same_ask kept.what what)

-- what is kept of an asking, and what was found at a path
abbrev pub given_in : List Kept → Ask → Pos → ℕ → Option Given
given_in [] what at k = None
given_in (kept ∷ more) what at k = if is_kept_as what at k kept then Some kept.given else given_in more what at k

abbrev pub found_in : List (List ℕ × Found) → List ℕ → Option Found
found_in [] path = None
found_in (file ∷ files) path = if bytes_eq file.0 path then Some file.1 else found_in files path

-- what one operation is given: the asking at its place is the k-th there
abbrev pub answers_at : Capture → Pos → ℕ → Answers
answers_at capture at k = record { given = λ what. given_in capture.answers what at k; found = found_in capture.files }

-- the files that were found with bytes, with which a run opens
abbrev pub with_bytes : List (List ℕ × Found) → List (List ℕ × List ℕ)
with_bytes [] = []
with_bytes (file ∷ files) = by_found file.0 file.1 (with_bytes files)
  where
    by_found : List ℕ → Found → List (List ℕ × List ℕ) → List (List ℕ × List ℕ)
    by_found path (found_bytes bytes) rest = (path, bytes) ∷ rest
    by_found path other rest = rest

-- the store with which a run in a capture begins
abbrev pub opening_in : Capture → List ℕ → List (List ℕ) → RunStore
opening_in capture path arguments = opening path arguments (with_bytes capture.files)
