-- The lines of the command `show` (this project's profile).
use Rattle.std.specs.Prelude.{ℕ, zero, suc, List, [], ◌∷◌, ◌++◌, length, codes}
use Rattle.std.specs.Fmt.{decimal}
use Rattle.capture.specs.declared.ended.FileOut.{FileOut}
use Rattle.content_store.specs.Contents.{digest_of}
use Rattle.hex.specs.Hex.{encode_lower}
use Rattle.keeper.specs.declared.records.Head.{Head}
use Rattle.prov_base.specs.declared.place.Digest.{Digest}
use Rattle.prov_outside.specs.declared.folder.Found.{Found}
use Rattle.py_model.specs.Printing.{literal}
use Rattle.prov_outside.specs.declared.folder.Found.TheVariants.{Bytes, Absent, TooLarge, Failed}

-- a word, a blank, what it says, and LF
abbrev pub line : List ℕ → List ℕ → List ℕ
line word text = word ++ 32 ∷ text ++ 10 ∷ []

-- a digest in 40 digits
abbrev pub digits : Digest → List ℕ
digits digest = encode_lower digest.bytes

-- ---- the head

-- number, format, language, path of the script, and digest of its text
abbrev pub opening_lines : ℕ → Head → List ℕ
opening_lines number head =
    line (codes "trial") (decimal number) ++ line (codes "format") (decimal head.format) ++ line (codes "language") (decimal head.language)
    ++ line (codes "script") head.path ++ line (codes "digest") (digits head.script)

-- the number of the parent, or `-` where there is none
abbrev pub parent_line : ℕ → List ℕ
parent_line zero = line (codes "parent") (codes "-")
parent_line (suc n) = line (codes "parent") (decimal (suc n))

-- budget, steps, status, parent, and when the run began and ended
abbrev pub middle_lines : Head → List ℕ → List ℕ → List ℕ
middle_lines head started ended =
    line (codes "budget") (decimal head.budget) ++ line (codes "steps") (decimal head.steps) ++ line (codes "status") (decimal head.status)
    ++ parent_line head.parent ++ line (codes "started") started ++ line (codes "ended") ended

-- ---- arguments

-- an argument, as a literal
abbrev pub argument_line : List ℕ → List ℕ
argument_line argument = line (codes "argument") (literal argument)

abbrev pub argument_lines : List (List ℕ) → List ℕ
argument_lines [] = []
argument_lines (argument ∷ arguments) = argument_line argument ++ argument_lines arguments

-- ---- contents

-- a file that was found with bytes: its path and its digest
abbrev pub input_line : List ℕ → Found → List ℕ
input_line path (Bytes bytes) = line (codes "input") (path ++ 32 ∷ digits (digest_of bytes))
input_line path Absent = []
input_line path TooLarge = []
input_line path Failed = []

abbrev pub input_lines : List (List ℕ × Found) → List ℕ
input_lines [] = []
input_lines (file ∷ files) = input_line file.0 file.1 ++ input_lines files

-- how many bytes were printed, and their digest
abbrev pub output_line : Head → List ℕ → List ℕ
output_line head output = line (codes "output") (decimal (length output) ++ 32 ∷ digits head.output)

-- a file that the run left: its path and its digest
abbrev pub final_line : FileOut → List ℕ
final_line file = line (codes "file") (file.path ++ 32 ∷ digits (digest_of file.bytes))

abbrev pub final_lines : List FileOut → List ℕ
final_lines [] = []
final_lines (file ∷ files) = final_line file ++ final_lines files
