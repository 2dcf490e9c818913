-- Worked rows of operations on files and devices, each found by computation.
use Rattle.std.proofs.Common.{◌≡◌, ℕ, List, [], ◌∷◌, Some, None, codes, refl}
use Rattle.std.specs.Prelude.{pos, negsuc, true, false}
use Rattle.std.specs.Str.{chars, is_utf8}
use Rattle.py_value.specs.declared.access.Mode.TheVariants.{Read, Write, Append}
use Rattle.py_value.specs.Contents.{nothing, truth, int, text, object, exception_class}
use Rattle.py_value.specs.Seen.{an_instance, a_file, file_at, offset_at, closed_at, file_is, offset_is, closed_is, reads, updates, bytes_appended}
use Rattle.py_value.specs.Same.{put}
use Rattle.py_model.specs.Effect.{Answers, effect, answered, unanswered, accesses_in, after, counted, printed, opened, asked, fetched}
use Rattle.py_model.specs.Files.{open_plan, read_plan, readline_plan, next_line, write_plan, close_plan, input_plan, time_ns_plan, randint_plan, randrange_plan}
use Rattle.py_model.specs.Plan.{Given, Found, time, word, line, number, random_word, a_line, no_line, failed, found_bytes, absent, too_large, found_failed, value, raised}
use Rattle.py_model.specs.Store.{RunStore, empty, file_of}
use Rattle.py_model.proofs.WorkedStores.{answers_with, makes_with, ends_with, raises_in, r, s, u}

-- nothing is kept; the word 7; what is found at each path
abbrev pub nowhere : Answers
nowhere = record { given = λ what. None; found = λ path. None }

abbrev pub seven : Answers
seven = record { given = λ what. Some (random_word 7); found = λ path. None }

abbrev pub missing : Answers
missing = record { given = λ what. Some no_line; found = λ path. Some absent }

-- the file `a.txt` with two lines, open for reading as object 0 with the first line read, and for appending as object 1
abbrev pub two_lines : List ℕ
two_lines = 97 ∷ 10 ∷ 98 ∷ 99 ∷ 10 ∷ []

abbrev pub store : RunStore
store = record empty {
  at = put (file_at (codes "a.txt")) (file_is two_lines) (put (offset_at 0) (offset_is 2) (λ l. None));
  kinds = a_file (codes "a.txt") Read ∷ a_file (codes "a.txt") Append ∷ [];
}

-- `random.randint(1, 6)` with the word 7 is 2, and no asking where the capture has no word
dice : (effect store seven (randint_plan (nothing ∷ int (pos 1) ∷ int (pos 6) ∷ []))).outcome ≡ answered (value (int (pos 2)))
dice = refl

no_word : (effect store nowhere (randint_plan (nothing ∷ int (pos 1) ∷ int (pos 6) ∷ []))).outcome ≡ unanswered
no_word = refl

-- an empty range asks nothing
no_dice : (effect store nowhere (randint_plan (nothing ∷ int (pos 2) ∷ int (pos 1) ∷ []))).outcome ≡ answered (raised 2)
no_dice = refl

below_zero : (effect store seven (randint_plan (nothing ∷ int (negsuc 2) ∷ int (negsuc 0) ∷ []))).outcome ≡ answered (value (int (negsuc 1)))
below_zero = refl

-- a file that is not there raises FileNotFoundError behind the read that shows it
no_such_file : (effect store missing (open_plan (text (codes "b.txt") ∷ []))).made ≡ Some (an_instance (exception_class 16))
no_such_file = refl

-- a path with `..` is fetched nowhere
bad_path : (effect store nowhere (open_plan (text (codes "../b") ∷ []))).made ≡ Some (an_instance (exception_class 15))
bad_path = refl

-- a bad mode comes before a bad path
bad_mode : (effect store nowhere (open_plan (text (codes "../b") ∷ text (codes "x") ∷ []))).made ≡ Some (an_instance (exception_class 10))
bad_mode = refl

-- opening for writing empties the file, and fetches nothing
emptied : file_of (after (effect store nowhere (open_plan (text (codes "a.txt") ∷ text (codes "w") ∷ []))) store) (codes "a.txt") ≡ Some []
emptied = refl

-- `write` counts characters, answers their number and goes behind the present bytes
written : accesses_in (effect store nowhere (write_plan (object 1 ∷ text (195 ∷ 169 ∷ []) ∷ []))).touches
    ≡ reads (closed_at 1) ∷ updates (file_at (codes "a.txt")) (bytes_appended (195 ∷ 169 ∷ [])) ∷ []
written = refl

one_character : (effect store nowhere (write_plan (object 1 ∷ text (195 ∷ 169 ∷ []) ∷ []))).outcome ≡ answered (value (int (pos 1)))
one_character = refl

-- a file that was opened for reading takes no text
wrong_way : (effect store nowhere (write_plan (object 0 ∷ text (codes "x") ∷ []))).made ≡ Some (an_instance (exception_class 15))
wrong_way = refl

-- the next line goes on where the last one ended
second_line : (effect store nowhere (readline_plan (object 0 ∷ []))).outcome ≡ answered (value (text (98 ∷ 99 ∷ 10 ∷ [])))
unfolding is_utf8 chars lib.Utf8.encode
second_line = refl

end_of_input : (effect store missing (input_plan [])).made ≡ Some (an_instance (exception_class 17))
end_of_input = refl

-- what is given to every asking, and found at every path
abbrev pub giving : Given → Answers
giving it = record { given = λ what. Some it; found = λ path. Some absent }

abbrev pub finding : Found → Answers
finding it = record { given = λ what. None; found = λ path. Some it }

-- the same store with `a.txt` opened for writing before; object 1 is closed, object 2 has read all, object 3 is open for writing
abbrev pub later : RunStore
later = record empty {
  at = put (file_at (codes "a.txt")) (file_is two_lines) (put (offset_at 2) (offset_is 5) (put (closed_at 1) (closed_is true) (λ l. None)));
  kinds = a_file (codes "a.txt") Read ∷ a_file (codes "a.txt") Read ∷ a_file (codes "a.txt") Read ∷ a_file (codes "a.txt") Write ∷ [];
  opened = codes "a.txt" ∷ [];
}

open_read : effect store (finding (found_bytes two_lines)) (open_plan (text (codes "a.txt") ∷ text (codes "r") ∷ []))
    ≡ makes_with (a_file (codes "a.txt") Read) (object 2)
    (fetched (codes "a.txt") ∷ r (file_at (codes "a.txt")) ∷ s (offset_at 2) (offset_is 0) ∷ s (closed_at 2) (closed_is false) ∷ [])
open_read = refl

open_absent : effect store (finding absent) (open_plan (text (codes "b.txt") ∷ []))
    ≡ raises_in store (fetched (codes "b.txt") ∷ r (file_at (codes "b.txt")) ∷ []) 16 (text (codes "no such file"))
open_absent = refl

-- a file that is too large, or could not be got, is read before it is refused, in both modes
open_too_large : effect store (finding too_large) (open_plan (text (codes "b.txt") ∷ []))
    ≡ raises_in store (fetched (codes "b.txt") ∷ r (file_at (codes "b.txt")) ∷ []) 15 (text (codes "file cannot be read"))
open_too_large = refl

append_failed : effect store (finding found_failed) (open_plan (text (codes "b.txt") ∷ text (codes "a") ∷ []))
    ≡ raises_in store (fetched (codes "b.txt") ∷ r (file_at (codes "b.txt")) ∷ []) 15 (text (codes "file cannot be read"))
append_failed = refl

open_not_kept : (effect store nowhere (open_plan (text (codes "b.txt") ∷ []))).outcome ≡ unanswered
open_not_kept = refl

-- once a path was opened for writing nothing is fetched, whatever was found there
open_own : effect later (finding too_large) (open_plan (text (codes "a.txt") ∷ []))
    ≡ makes_with (a_file (codes "a.txt") Read) (object 4) (r (file_at (codes "a.txt")) ∷ s (offset_at 4) (offset_is 0) ∷ s (closed_at 4) (closed_is false) ∷ [])
open_own = refl

open_write : effect store nowhere (open_plan (text (codes "a.txt") ∷ text (codes "w") ∷ []))
    ≡ makes_with (a_file (codes "a.txt") Write) (object 2)
    (s (file_at (codes "a.txt")) (file_is []) ∷ opened (codes "a.txt") ∷ s (offset_at 2) (offset_is 0) ∷ s (closed_at 2) (closed_is false) ∷ [])
open_write = refl

append_there : effect store (finding (found_bytes two_lines)) (open_plan (text (codes "a.txt") ∷ text (codes "a") ∷ []))
    ≡ makes_with (a_file (codes "a.txt") Append) (object 2)
    (fetched (codes "a.txt") ∷ r (file_at (codes "a.txt")) ∷ opened (codes "a.txt") ∷ s (offset_at 2) (offset_is 0) ∷ s (closed_at 2) (closed_is false) ∷ [])
append_there = refl

append_absent : effect store (finding absent) (open_plan (text (codes "b.txt") ∷ text (codes "a") ∷ []))
    ≡ makes_with (a_file (codes "b.txt") Append) (object 2)
    (fetched (codes "b.txt") ∷ r (file_at (codes "b.txt")) ∷ s (file_at (codes "b.txt")) (file_is []) ∷ opened (codes "b.txt") ∷ s (offset_at 2) (offset_is 0)
    ∷ s (closed_at 2) (closed_is false) ∷ [])
append_absent = refl

open_kinds : effect store nowhere (open_plan (text (codes "../b") ∷ int (pos 1) ∷ [])) ≡ raises_in store [] 9 (text (codes "wrong kind of value"))
open_kinds = refl

open_bad_path : effect store nowhere (open_plan (text (codes "../b") ∷ text (codes "w") ∷ [])) ≡ raises_in store [] 15 (text (codes "bad path"))
open_bad_path = refl

-- all that is left, from the offset on
read_rest : effect store nowhere (read_plan (object 0 ∷ []))
    ≡ answers_with (text (98 ∷ 99 ∷ 10 ∷ [])) (r (closed_at 0) ∷ r (offset_at 0) ∷ r (file_at (codes "a.txt")) ∷ counted 3 ∷ s (offset_at 0) (offset_is 5) ∷ [])
unfolding is_utf8 chars lib.Utf8.encode
read_rest = refl

readline_at_end : effect later nowhere (readline_plan (object 2 ∷ []))
    ≡ answers_with (text []) (r (closed_at 2) ∷ r (offset_at 2) ∷ r (file_at (codes "a.txt")) ∷ counted 0 ∷ s (offset_at 2) (offset_is 5) ∷ [])
unfolding is_utf8 chars lib.Utf8.encode
readline_at_end = refl

-- a loop over a file at its end has the accesses of `readline`
loop_at_end : effect later nowhere (next_line 2)
    ≡ ends_with (r (closed_at 2) ∷ r (offset_at 2) ∷ r (file_at (codes "a.txt")) ∷ s (offset_at 2) (offset_is 5) ∷ [])
loop_at_end = refl

loop_first : effect later nowhere (next_line 0)
    ≡ answers_with (text (97 ∷ 10 ∷ [])) (r (closed_at 0) ∷ r (offset_at 0) ∷ r (file_at (codes "a.txt")) ∷ counted 2 ∷ s (offset_at 0) (offset_is 2) ∷ [])
unfolding is_utf8 chars lib.Utf8.encode
loop_first = refl

-- closed comes before the mode; a refused file is neither read nor counted
read_closed_file : effect later nowhere (read_plan (object 1 ∷ [])) ≡ raises_in later (r (closed_at 1) ∷ []) 10 (text (codes "file is closed"))
read_closed_file = refl

write_closed_file : effect later nowhere (write_plan (object 1 ∷ text (codes "x") ∷ [])) ≡ raises_in later (r (closed_at 1) ∷ []) 10 (text (codes "file is closed"))
write_closed_file = refl

read_written : effect later nowhere (readline_plan (object 3 ∷ [])) ≡ raises_in later (r (closed_at 3) ∷ []) 15 (text (codes "wrong mode"))
read_written = refl

read_appended : effect store nowhere (read_plan (object 1 ∷ [])) ≡ raises_in store (r (closed_at 1) ∷ []) 15 (text (codes "wrong mode"))
read_appended = refl

write_int : effect later nowhere (write_plan (object 1 ∷ int (pos 1) ∷ [])) ≡ raises_in later [] 9 (text (codes "wrong kind of value"))
write_int = refl

write_counts : (effect later nowhere (write_plan (object 3 ∷ text (195 ∷ 169 ∷ 97 ∷ []) ∷ []))).touches
    ≡ r (closed_at 3) ∷ counted 2 ∷ u (file_at (codes "a.txt")) (bytes_appended (195 ∷ 169 ∷ 97 ∷ [])) ∷ []
write_counts = refl

close_again : effect later nowhere (close_plan (object 1 ∷ [])) ≡ answers_with nothing (s (closed_at 1) (closed_is true) ∷ [])
close_again = refl

-- devices
input_words : effect store (giving (a_line (codes "ab"))) (input_plan (text (codes "? ") ∷ []))
    ≡ answers_with (text (codes "ab")) (printed (codes "? ") ∷ counted 2 ∷ asked line ∷ counted 2 ∷ [])
unfolding is_utf8 chars lib.Utf8.encode
input_words = refl

-- the prompt is printed and counted though the input is at its end, or what came is no text
input_at_end : effect store (giving no_line) (input_plan (text (codes "? ") ∷ []))
    ≡ raises_in store (printed (codes "? ") ∷ counted 2 ∷ asked line ∷ []) 17 (text (codes "end of input"))
input_at_end = refl

input_no_text : effect store (giving (a_line (255 ∷ []))) (input_plan (text (codes "? ") ∷ []))
    ≡ raises_in store (printed (codes "? ") ∷ counted 2 ∷ asked line ∷ []) 10 (text (codes "not UTF-8"))
unfolding is_utf8 chars lib.Utf8.encode
input_no_text = refl

input_failed : effect store (giving failed) (input_plan []) ≡ raises_in store (printed [] ∷ counted 0 ∷ asked line ∷ []) 15 (text (codes "device failed"))
input_failed = refl

input_of_int : effect store nowhere (input_plan (int (pos 1) ∷ [])) ≡ raises_in store [] 9 (text (codes "wrong kind of value"))
input_of_int = refl

clock : effect store (giving (number (pos 5))) (time_ns_plan (nothing ∷ [])) ≡ answers_with (int (pos 5)) (asked time ∷ [])
clock = refl

one_side : effect store seven (randint_plan (nothing ∷ int (pos 3) ∷ int (pos 3) ∷ [])) ≡ answers_with (int (pos 3)) (asked word ∷ [])
one_side = refl

below_one : effect store seven (randrange_plan (nothing ∷ truth true ∷ [])) ≡ answers_with (int (pos 0)) (asked word ∷ [])
below_one = refl

below_none : effect store seven (randrange_plan (nothing ∷ int (pos 0) ∷ [])) ≡ raises_in store [] 10 (text (codes "empty or zero"))
below_none = refl

word_failed : effect store (giving failed) (randint_plan (nothing ∷ int (pos 1) ∷ int (pos 6) ∷ [])) ≡ raises_in store (asked word ∷ []) 15 (text (codes "device failed"))
word_failed = refl

-- characters are counted, not bytes; the offset goes on by bytes
input_character : (effect store (giving (a_line (195 ∷ 169 ∷ []))) (input_plan (text (195 ∷ 169 ∷ []) ∷ []))).touches ≡ printed (195 ∷ 169 ∷ []) ∷ counted 1 ∷ asked line ∷ counted 1 ∷ []
unfolding is_utf8 chars lib.Utf8.encode
input_character = refl

abbrev pub accented : RunStore
accented = record empty { at = put (file_at (codes "a.txt")) (file_is (195 ∷ 169 ∷ 10 ∷ 255 ∷ [])) (λ l. None); kinds = a_file (codes "a.txt") Read ∷ [] }

accented_line : effect accented nowhere (readline_plan (object 0 ∷ []))
    ≡ answers_with (text (195 ∷ 169 ∷ 10 ∷ [])) (r (closed_at 0) ∷ r (offset_at 0) ∷ r (file_at (codes "a.txt")) ∷ counted 2 ∷ s (offset_at 0) (offset_is 3) ∷ [])
unfolding is_utf8 chars lib.Utf8.encode
accented_line = refl

-- bytes that are no text are refused behind the reads, count nothing and leave the offset
no_text : effect accented nowhere (read_plan (object 0 ∷ []))
    ≡ raises_in accented (r (closed_at 0) ∷ r (offset_at 0) ∷ r (file_at (codes "a.txt")) ∷ []) 10 (text (codes "not UTF-8"))
unfolding is_utf8 chars lib.Utf8.encode
no_text = refl
