-- Rows of the table of files, each found by computation.
use Rattle.std.proofs.Common.{◌≡◌, refl, ℕ, true, false, [], ◌∷◌, ◌++◌, Some, None, codes}
use Rattle.std.specs.Str.{chars, is_utf8}
use Rattle.py_value.specs.declared.access.Mode.{Mode}
use Rattle.py_value.specs.declared.access.Mode.TheVariants.{Read, Write}
use Rattle.py_value.specs.Contents.{text, exception_class}
use Rattle.py_value.specs.Same.{put}
use Rattle.py_value.specs.Seen.{an_instance, a_file, file_at, file_is}
use Rattle.py_model.specs.Effect.{Answers, effect, after}
use Rattle.py_model.specs.Faults.{value_error, os_error, file_not_found}
use Rattle.py_model.specs.Files.{open_plan}
use Rattle.py_model.specs.Plan.{Found, found_bytes, absent, too_large}
use Rattle.py_model.specs.Store.{RunStore, empty, file_of}
use Rattle.model_laws.specs.Reading.{FileValue}
use Rattle.model_laws.specs.Results.{leaves, throws, ends_with}
use Rattle.model_laws.specs.TableFiles.{read_is, readline_is, write_is, next_is}
use Rattle.model_laws.proofs.WorkedLists.{n}

-- a file of two lines, of which so many bytes were read
abbrev lines : Mode → ℕ → FileValue
lines mode offset = record { path = codes "f"; mode = mode; bytes = codes "a" ++ 10 ∷ codes "b"; offset = offset; is_closed = false }

first_line : readline_is (lines Read 0) ≡ leaves (text (97 ∷ 10 ∷ [])) (lines Read 2)
unfolding is_utf8 chars lib.Utf8.encode
first_line = refl

rest : read_is (lines Read 2) ≡ leaves (text (codes "b")) (lines Read 3)
unfolding is_utf8 chars lib.Utf8.encode
rest = refl

at_the_end : readline_is (lines Read 3) ≡ leaves (text []) (lines Read 3)
unfolding is_utf8 chars lib.Utf8.encode
at_the_end = refl

put_behind : write_is (lines Write 0) (codes "c") ≡ leaves (n 1) (record { path = codes "f"; mode = Write; bytes = codes "a" ++ 10 ∷ codes "bc"; offset = 0; is_closed = false })
put_behind = refl

written_while_read : write_is (lines Read 0) (codes "c") ≡ throws os_error (text (codes "wrong mode") ∷ [])
written_while_read = refl

read_when_closed : read_is (record { path = codes "f"; mode = Read; bytes = []; offset = 0; is_closed = true }) ≡ throws value_error (text (codes "file is closed") ∷ [])
read_when_closed = refl

-- the next line in a `for`, and the end
next_line : next_is (lines Read 2) ≡ leaves (text (codes "b")) (lines Read 3)
unfolding is_utf8 chars lib.Utf8.encode
next_line = refl

no_next_line : next_is (lines Read 3) ≡ ends_with (lines Read 3)
no_next_line = refl

next_while_written : next_is (lines Write 0) ≡ throws os_error (text (codes "wrong mode") ∷ [])
next_while_written = refl

-- a store with the file `f`, and captures in which a file is found, none, and one that is too large
abbrev found_as : Found → Answers
found_as found = record { given = λ what. None; found = λ path. Some found }

abbrev one_file : RunStore
one_file = record empty { at = put (file_at (codes "f")) (file_is (codes "ab")) (λ l. None) }

read_bytes : (effect one_file (found_as (found_bytes (codes "ab"))) (open_plan (text (codes "f") ∷ []))).made ≡ Some (a_file (codes "f") Read)
read_bytes = refl

not_there : (effect one_file (found_as absent) (open_plan (text (codes "g") ∷ (text (codes "r") ∷ [])))).made ≡ Some (an_instance (exception_class file_not_found))
not_there = refl

appended_there : file_of (after (effect one_file (found_as absent) (open_plan (text (codes "g") ∷ (text (codes "a") ∷ [])))) one_file) (codes "g") ≡ Some []
appended_there = refl

too_large_there : (effect one_file (found_as too_large) (open_plan (text (codes "f") ∷ []))).made ≡ Some (an_instance (exception_class os_error))
too_large_there = refl
