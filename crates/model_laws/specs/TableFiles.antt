-- No public clause cites this file.
-- The table of operations on files (The Python Standard Library, "io", in this project's profile): each over the bytes at the path and the
-- offset. Files are read in mode `'r'` and written in the others.
use Rattle.std.specs.Prelude.{ℕ, ◌+◌, pos, Bool, true, false, List, [], ◌∷◌, ◌++◌, length, drop, codes, if◌then◌else◌, ◌≡◌, ◌⊎◌, ◌||◌, Option, Some, unwrap_or}
use Rattle.std.specs.Str.{bytes_eq, is_utf8}
use Rattle.py_value.specs.Seen.{SeenLocation, a_file}
use Rattle.py_value.specs.declared.access.Mode.{Mode}
use Rattle.py_value.specs.declared.access.Mode.TheVariants.{Read, Write, Append}
use Rattle.py_value.specs.Contents.{nothing, int, text, object}
use Rattle.py_model.specs.Store.{RunStore, has_path, with_path}
use Rattle.py_model.specs.Plan.{Found, value}
use Rattle.py_model.specs.Effect.{Effect, Answers, answered, after}
use Rattle.py_model.specs.Faults.{value_error, os_error, file_not_found}
use Rattle.py_model.specs.Files.{first_line}
use Rattle.py_model.specs.Texts.{size}
use Rattle.py_model.specs.Tidy.{is_there}
use Rattle.model_laws.specs.Reading.{FileValue, IsFile, is_of_file}
use Rattle.model_laws.specs.Results.{Result, leaves, throws, ends_with}

-- what a file that is closed, or was opened for the other, raises
abbrev pub closed_fault : Result FileValue
closed_fault = throws value_error (text (codes "file is closed") ∷ [])

abbrev pub mode_fault : Result FileValue
mode_fault = throws os_error (text (codes "wrong mode") ∷ [])

abbrev pub if_read : Mode → Bool → Result FileValue → Result FileValue
if_read mode true does = closed_fault
if_read Read false does = does
if_read mode false does = mode_fault

abbrev pub if_written : Mode → Bool → Result FileValue → Result FileValue
if_written mode true does = closed_fault
if_written Read false does = mode_fault
if_written mode false does = does

-- these bytes are read behind the offset, and are a text
abbrev pub taken_is : FileValue → List ℕ → Result FileValue
taken_is file bytes =
    if is_utf8 bytes then leaves (text bytes) (record file { offset = file.offset + length bytes })
    else throws value_error (text (codes "not UTF-8") ∷ [])

-- 105 read (R Closed, R Offset, R File, S Offset): all bytes from the offset on
abbrev pub read_is : FileValue → Result FileValue
read_is file = if_read file.mode file.is_closed (taken_is file (drop file.offset file.bytes))

-- 106 readline (the same): those up to the first line feed, and with it
abbrev pub readline_is : FileValue → Result FileValue
readline_is file = if_read file.mode file.is_closed (taken_is file (first_line (drop file.offset file.bytes)))

-- 107 write (R Closed, U File): the text goes behind the bytes; the answer is how many characters it has
abbrev pub write_is : FileValue → List ℕ → Result FileValue
write_is file more = if_written file.mode file.is_closed (leaves (int (pos (size more))) (record file { bytes = file.bytes ++ more }))

-- 108 close (S Closed): it is closed
abbrev pub close_is : FileValue → Result FileValue
close_is file = leaves nothing (record file { is_closed = true })

-- 36 iter: nothing
abbrev pub iter_is : FileValue → Result FileValue
iter_is file = leaves nothing file

-- 37 next (as readline): the next line, or the end where no bytes are left
abbrev pub line_is : FileValue → List ℕ → Result FileValue
line_is file [] = ends_with file
line_is file (byte ∷ bytes) = taken_is file (first_line (byte ∷ bytes))

abbrev pub next_is : FileValue → Result FileValue
next_is file = if_read file.mode file.is_closed (line_is file (drop file.offset file.bytes))

-- the paths that were opened for writing, once this one is opened in a mode
abbrev pub then_opened : Mode → List ℕ → List (List ℕ) → List (List ℕ)
then_opened Read path opened = opened
then_opened mode path opened = with_path path opened

-- a file is made, the next object, and is the answer; its path is noted where it is opened for writing, and nothing else changes
pub record MakesFile (store : RunStore) (e : Effect) (file : FileValue) : Type 0 where
  pub answer_is : e.outcome ≡ answered (value (object (length store.kinds)))
  pub made_is : e.made ≡ Some (a_file file.path file.mode)
  pub is_file : IsFile (after e store) (length store.kinds) file
  pub elsewhere : (l : SeenLocation) → is_of_file (length store.kinds) file.path l ≡ false → (after e store).at l ≡ store.at l
  pub rest_stays : after e store
      ≡ record store { at = (after e store).at; kinds = store.kinds ++ a_file file.path file.mode ∷ []; opened = then_opened file.mode file.path store.opened }

-- a file that was just opened
abbrev pub opened_file : Mode → List ℕ → List ℕ → FileValue
opened_file mode path bytes = record { path = path; mode = mode; bytes = bytes; offset = 0; is_closed = false }

-- What stands at the path is known to the run: it was opened for writing before, or a file was found there, or none.
abbrev pub IsKnown : RunStore → Answers → List ℕ → Type 0
IsKnown store answers path = (has_path path store.opened ≡ true) ⊎ ((found : Found) × ((answers.found path ≡ Some found) × (is_there found ≡ true)))

-- The path was not opened, and what was found there is too large, or could not be got.
abbrev pub IsUnreadable : RunStore → Answers → List ℕ → Type 0
IsUnreadable store answers path = (has_path path store.opened ≡ false) × ((found : Found) × ((answers.found path ≡ Some found) × (is_there found ≡ false)))

-- 62 open with `'w'` (S File, S Offset, S Closed): an empty file
abbrev pub emptied : List ℕ → FileValue
emptied path = opened_file Write path []

-- 62 open with `'r'` (R File, S Offset, S Closed): the file that stands there
abbrev pub opened_to_read : List ℕ → List ℕ → FileValue
opened_to_read path bytes = opened_file Read path bytes

-- 62 open with `'a'` (R File, S File where absent, S Offset, S Closed): the file that stands there, or an empty one
abbrev pub opened_to_append : List ℕ → Option (List ℕ) → FileValue
opened_to_append path content = opened_file Append path (unwrap_or content [])

-- the texts that are modes
abbrev pub is_mode : List ℕ → Bool
is_mode mode = bytes_eq mode (codes "r") || (bytes_eq mode (codes "w") || bytes_eq mode (codes "a"))

-- what `open` raises
abbrev pub no_file_is : {A : Type 0} → Result A
no_file_is = throws file_not_found (text (codes "no such file") ∷ [])

abbrev pub unreadable_is : {A : Type 0} → Result A
unreadable_is = throws os_error (text (codes "file cannot be read") ∷ [])

abbrev pub bad_path_is : {A : Type 0} → Result A
bad_path_is = throws os_error (text (codes "bad path") ∷ [])

abbrev pub bad_mode_is : {A : Type 0} → Result A
bad_mode_is = throws value_error (text (codes "bad mode") ∷ [])
