-- The bytes of answers, endings and what an operation comes to, in a row of a trace (this project's profile).
use Rattle.std.specs.Prelude.{ℕ, List, [], ◌∷◌, ◌++◌, Option, ⊤}
use Rattle.prov_base.specs.declared.place.Pos.{Pos}
use Rattle.py_value.specs.declared.access.Access.{Access}
use Rattle.py_value.specs.declared.access.Kind.{Kind}
use Rattle.py_model.specs.declared.moment.Answer.{Answer}
use Rattle.py_model.specs.declared.moment.Answer.TheVariants.{Value as ValueAnswer, Raised, End as EndAnswer}
use Rattle.py_model.specs.declared.moment.How.{How}
use Rattle.py_model.specs.declared.moment.How.TheVariants.{Normal, Break, Continue, Return, Raise}
use Rattle.row_words.specs.Bytes.{number_bytes, place_bytes, value_bytes, made_bytes}
use Rattle.row_words.specs.Fits.{IsShort, IsValue}
use Rattle.row_words.specs.AccessBytes.{accesses_bytes}

abbrev pub answer_bytes : Answer → List ℕ
answer_bytes (ValueAnswer v) = 0 ∷ value_bytes v
answer_bytes (Raised object) = 1 ∷ number_bytes object
answer_bytes EndAnswer = 2 ∷ []

abbrev pub how_byte : How → ℕ
how_byte Normal = 0
how_byte Break = 1
how_byte Continue = 2
how_byte Return = 3
how_byte Raise = 4

-- where and what is done; what comes of it; what it touches
abbrev pub deed_bytes : Pos → ℕ → List ℕ
deed_bytes at op = place_bytes at ++ op ∷ []

abbrev pub outcome_bytes : Answer → Option Kind → List ℕ
outcome_bytes answer made = answer_bytes answer ++ made_bytes made

abbrev pub touches_bytes : List Access → ℕ → List ℕ
touches_bytes accesses weight = accesses_bytes accesses ++ number_bytes weight

abbrev pub IsAnswer : Answer → Type 0
IsAnswer (ValueAnswer v) = IsValue v
IsAnswer (Raised object) = IsShort object
IsAnswer EndAnswer = ⊤
