-- No public clause cites this file.
-- What is written into an open file, as a plan by what the file is.
use Rattle.std.specs.Prelude.{ℕ, pos, List, Bool, true, false, Option, Some}
use Rattle.py_model.specs.Faults.{wrong_kind}
use Rattle.py_model.specs.Files.{is_closed_fault, wrong_mode}
use Rattle.py_model.specs.Plan.{Plan, read_closed, counts, writes, change, done, write}
use Rattle.py_model.specs.Texts.{size}
use Rattle.py_value.specs.Contents.{int, nothing}
use Rattle.py_value.specs.Seen.{SeenKind, a_file, file_at, closed_at, closed_is, bytes_appended}
use Rattle.py_value.specs.declared.access.Mode.{Mode}
use Rattle.py_value.specs.declared.access.Mode.TheVariants.{Read, Write, Append}

-- a text goes behind the bytes of a file
abbrev pub appended : List ℕ → List ℕ → Plan
appended path bytes = counts (size bytes) (writes (change (file_at path) (bytes_appended bytes) (done (int (pos (size bytes))))))

-- the text of a file that is open in a mode, by whether it is closed
abbrev pub written_unless : List ℕ → Mode → List ℕ → Bool → Plan
written_unless path mode bytes true = is_closed_fault
written_unless path Read bytes false = wrong_mode
written_unless path Write bytes false = appended path bytes
written_unless path Append bytes false = appended path bytes

abbrev pub written_by : ℕ → List ℕ → Option SeenKind → Plan
written_by o bytes (Some (a_file path mode)) = read_closed o (written_unless path mode bytes)
written_by o bytes other = wrong_kind

-- a file is closed
abbrev pub closed_by : ℕ → Option SeenKind → Plan
closed_by o (Some (a_file path mode)) = writes (write (closed_at o) (closed_is true) (done nothing))
closed_by o other = wrong_kind
