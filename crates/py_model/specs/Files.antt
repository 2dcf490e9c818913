-- Operations on files and devices (The Python Language Reference 3, section 3.2, and the Python Standard Library's `open`, `io`,
-- `input`, `time` and `random`, in this project's profile). An operation that its operands refuse asks and fetches nothing.
use Rattle.std.specs.Prelude.{ℕ, zero, suc, ◌+◌, ◌%◌, ℤ, pos, negsuc, ◌+ℤ◌, ◌-ℤ◌, Bool, true, false, nat_eq, List, [], ◌∷◌, drop, length, Option, Some, None, if◌then◌else◌, codes}
use Rattle.std.specs.Str.{bytes_eq, is_utf8}
use Rattle.prov_base.specs.Path.{is_path}
use Rattle.py_value.specs.Contents.{Contents, nothing, int, text, object}
use Rattle.py_value.specs.Seen.{SeenKind, a_file, file_at, offset_at, closed_at, file_is, offset_is, closed_is, bytes_appended}
use Rattle.py_value.specs.declared.access.Mode.{Mode}
use Rattle.py_value.specs.declared.access.Mode.TheVariants.{Read, Write, Append}
use Rattle.py_model.specs.Faults.{fault, value_error, os_error, file_not_found, eof_error, wrong_kind, wrong_number}
use Rattle.py_model.specs.Operands.{number_in}
use Rattle.py_model.specs.Plan.{time, word, line, Given, number, random_word, a_line, no_line, Found, found_bytes, absent, too_large, found_failed, Writes, write, change, opens, done, done_at_end, Plan, read_file, read_offset, read_closed, kind_of, was_opened, ask, fetch, counts, prints, writes, makes}
use Rattle.py_model.specs.Texts.{size}

abbrev pub bad_file : Plan
bad_file = fault os_error (codes "file cannot be read")

abbrev pub no_file : Plan
no_file = fault file_not_found (codes "no such file")

abbrev pub is_closed_fault : Plan
is_closed_fault = fault value_error (codes "file is closed")

abbrev pub wrong_mode : Plan
wrong_mode = fault os_error (codes "wrong mode")

abbrev pub not_utf8 : Plan
not_utf8 = fault value_error (codes "not UTF-8")

abbrev pub device_failed : Plan
device_failed = fault os_error (codes "device failed")

-- an open file begins at offset 0, and is not closed
abbrev pub begun : ℕ → Writes
begun o = write (offset_at o) (offset_is 0) (write (closed_at o) (closed_is false) (done (object o)))

-- What stands at the path for a run: what the script made of it, once it has opened it for writing, and else what is found there. The
-- file is read also where it was found too large, or getting it failed.
abbrev pub with_file : List ℕ → (Option (List ℕ) → Plan) → Plan
with_file path go = was_opened path by_opened
  where
    by_found : Found → Plan
    by_found (found_bytes bytes) = read_file path go
    by_found absent = read_file path go
    by_found too_large = read_file path (λ content. bad_file)
    by_found found_failed = read_file path (λ content. bad_file)

    by_opened : Bool → Plan
    by_opened true = read_file path go
    by_opened false = fetch path by_found

-- `open` for reading: the file is read and has to be there
abbrev pub open_to_read : List ℕ → Plan
open_to_read path = with_file path by_content
  where
    by_content : Option (List ℕ) → Plan
    by_content (Some bytes) = makes (a_file path Read) begun
    by_content None = no_file

-- `open` for writing: the file is set to empty, and nothing is fetched
abbrev pub open_to_write : List ℕ → Plan
open_to_write path = makes (a_file path Write) (λ o. write (file_at path) (file_is []) (opens path (begun o)))

-- `open` for appending: the file is read, and set to empty where it is absent
abbrev pub open_to_append : List ℕ → Plan
open_to_append path = with_file path by_content
  where
    by_content : Option (List ℕ) → Plan
    by_content (Some bytes) = makes (a_file path Append) (λ o. opens path (begun o))
    by_content None = makes (a_file path Append) (λ o. write (file_at path) (file_is []) (opens path (begun o)))

abbrev pub open_with : List ℕ → List ℕ → Plan
open_with path mode =
    if bytes_eq mode (codes "r") then at_path (open_to_read path)
    else if bytes_eq mode (codes "w") then at_path (open_to_write path)
    else if bytes_eq mode (codes "a") then at_path (open_to_append path)
    else fault value_error (codes "bad mode")
  where
    at_path : Plan → Plan
    at_path plan = if is_path path then plan else fault os_error (codes "bad path")

-- `open(path, mode)`: kinds, then the mode, then the path are tested before anything is fetched; the mode is `'r'` where there is none
abbrev pub open_plan : List Contents → Plan
open_plan (text path ∷ []) = open_with path (codes "r")
open_plan (text path ∷ text mode ∷ []) = open_with path mode
open_plan (other ∷ []) = wrong_kind
open_plan (other ∷ more ∷ []) = wrong_kind
open_plan values = wrong_number

-- A file that is not closed and was opened for reading goes on with its path, how far it was read, and the bytes that are left.
abbrev pub to_be_read : ℕ → (List ℕ → ℕ → List ℕ → Plan) → Plan
to_be_read o go = kind_of o (by_kind)
  where
    left_of : Option (List ℕ) → List ℕ
    left_of (Some bytes) = bytes
    left_of None = []

    by_closed : List ℕ → Mode → Bool → Plan
    by_closed path mode true = is_closed_fault
    by_closed path Read false = read_offset o (λ offset. read_file path (λ bytes. go path offset (drop offset (left_of bytes))))
    by_closed path Write false = wrong_mode
    by_closed path Append false = wrong_mode

    by_kind : Option SeenKind → Plan
    by_kind (Some (a_file path mode)) = read_closed o (by_closed path mode)
    by_kind other = wrong_kind

-- bytes that were read are a text; their characters are counted, and the offset goes behind them
abbrev pub taken : ℕ → ℕ → List ℕ → Plan
taken o offset bytes =
    if is_utf8 bytes then counts (size bytes) (writes (write (offset_at o) (offset_is (offset + length bytes)) (done (text bytes))))
    else not_utf8

-- `read()`: all that is left
abbrev pub read_plan : List Contents → Plan
read_plan (object o ∷ []) = to_be_read o (λ path offset bytes. taken o offset bytes)
read_plan (other ∷ []) = wrong_kind
read_plan values = wrong_number

-- the bytes up to the first line feed and with it, or all
abbrev pub first_line : List ℕ → List ℕ
first_line [] = []
first_line (byte ∷ bytes) = if nat_eq byte 10 then byte ∷ [] else byte ∷ first_line bytes

-- `readline()`: the next line with its line feed, empty at the end
abbrev pub readline_plan : List Contents → Plan
readline_plan (object o ∷ []) = to_be_read o (λ path offset bytes. taken o offset (first_line bytes))
readline_plan (other ∷ []) = wrong_kind
readline_plan values = wrong_number

-- the next line of a file in a `for`, which ends where nothing is left; the offset is set there too
abbrev pub next_line : ℕ → Plan
next_line o = to_be_read o (λ path offset bytes. by_rest offset bytes)
  where
    by_rest : ℕ → List ℕ → Plan
    by_rest offset [] = writes (write (offset_at o) (offset_is offset) done_at_end)
    by_rest offset (byte ∷ bytes) = taken o offset (first_line (byte ∷ bytes))

-- `write(text)`: the text goes behind the file's present bytes, and the number of its characters is answered; they are counted once
-- the kind of the text, that the file is not closed and its mode were tested
abbrev pub write_to : ℕ → List ℕ → Plan
write_to o bytes = kind_of o by_kind
  where
    by_closed : List ℕ → Mode → Bool → Plan
    by_closed path mode true = is_closed_fault
    by_closed path Read false = wrong_mode
    by_closed path mode false = counts (size bytes) (writes (change (file_at path) (bytes_appended bytes) (done (int (pos (size bytes))))))

    by_kind : Option SeenKind → Plan
    by_kind (Some (a_file path mode)) = read_closed o (by_closed path mode)
    by_kind other = wrong_kind

abbrev pub write_plan : List Contents → Plan
write_plan (object o ∷ text bytes ∷ []) = write_to o bytes
write_plan (one ∷ other ∷ []) = wrong_kind
write_plan values = wrong_number

-- `close()`: a file may be closed again
abbrev pub close_plan : List Contents → Plan
close_plan (object o ∷ []) = kind_of o by_kind
  where
    by_kind : Option SeenKind → Plan
    by_kind (Some (a_file path mode)) = writes (write (closed_at o) (closed_is true) (done nothing))
    by_kind other = wrong_kind
close_plan (other ∷ []) = wrong_kind
close_plan values = wrong_number

-- `input(prompt)`: the prompt is printed and counted, also where the asking then raises; a line that is no text counts nothing
abbrev pub input_with : List ℕ → Plan
input_with prompt = prints prompt (counts (size prompt) (ask line by_given))
  where
    by_given : Given → Plan
    by_given (a_line bytes) = if is_utf8 bytes then counts (size bytes) (writes (done (text bytes))) else not_utf8
    by_given no_line = fault eof_error (codes "end of input")
    by_given other = device_failed

abbrev pub input_plan : List Contents → Plan
input_plan [] = input_with []
input_plan (text prompt ∷ []) = input_with prompt
input_plan (other ∷ []) = wrong_kind
input_plan values = wrong_number

-- `time.time_ns()`
abbrev pub time_ns_plan : List Contents → Plan
time_ns_plan (receiver ∷ []) = ask time by_given
  where
    by_given : Given → Plan
    by_given (number i) = writes (done (int i))
    by_given other = device_failed
time_ns_plan values = wrong_number

-- a random number from a start on, one of so many
abbrev pub drawn : ℤ → ℕ → Plan
drawn start many = ask word by_given
  where
    by_given : Given → Plan
    by_given (random_word w) = writes (done (int (start +ℤ pos (w % many))))
    by_given other = device_failed

abbrev pub no_range : Plan
no_range = fault value_error (codes "empty or zero")

abbrev pub draw_between : Option ℤ → Option ℤ → Plan
draw_between (Some low) (Some high) = by_width (high -ℤ low)
  where
    by_width : ℤ → Plan
    by_width (pos more) = drawn low (suc more)
    by_width (negsuc less) = no_range
draw_between low high = wrong_kind

-- `random.randint(a, b)`: a number from a to b, both included
abbrev pub randint_plan : List Contents → Plan
randint_plan (receiver ∷ low ∷ high ∷ []) = draw_between (number_in low) (number_in high)
randint_plan values = wrong_number

abbrev pub draw_below : Option ℤ → Plan
draw_below (Some (pos zero)) = no_range
draw_below (Some (pos (suc n))) = drawn (pos 0) (suc n)
draw_below (Some (negsuc n)) = no_range
draw_below None = wrong_kind

-- `random.randrange(n)`: a number from 0 to n - 1
abbrev pub randrange_plan : List Contents → Plan
randrange_plan (receiver ∷ bound ∷ []) = draw_below (number_in bound)
randrange_plan values = wrong_number
