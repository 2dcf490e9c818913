-- What an operation asks first, and what it is given (this project's profile).
use Rattle.std.specs.Prelude.{◌≡◌, ◌==◌, ℕ, ⊤, List, [], ◌∷◌, Option, Some, None, if◌then◌else◌, codes}
use Rattle.std.specs.Str.{is_utf8}
use Rattle.prov_base.specs.declared.place.Pos.{Pos}
use Rattle.answer_source.specs.Sources.{ask_seen, given_seen}
use Rattle.capture.specs.declared.answer.Ask.{Ask as Question}
use Rattle.capture.specs.declared.answer.Ask.TheVariants.{Time, Line}
use Rattle.capture.specs.declared.answer.Given.{Given as GivenThere}
use Rattle.op_devices.specs.Asking.{Known}
use Rattle.op_devices.specs.Draws.{randint_asked, randrange_asked}
use Rattle.py_model.specs.Faults.{fault, eof_error, wrong_kind, wrong_number}
use Rattle.py_model.specs.Files.{device_failed, not_utf8}
use Rattle.py_model.specs.Plan.{Given, number, a_line, no_line, done, Plan, counts, writes}
use Rattle.py_model.specs.Running.{State}
use Rattle.py_model.specs.Texts.{size}
use Rattle.py_value.specs.Contents.{Contents, int, text}
use Rattle.py_value.specs.declared.value.Value.{Value}
use Rattle.py_value.specs.declared.value.Value.TheVariants.{Text}

abbrev pub time_asked : List Value → Option Question
time_asked (receiver ∷ []) = Some Time
time_asked values = None

abbrev pub line_asked : List Value → Option Question
line_asked [] = Some Line
line_asked (Text prompt ∷ []) = Some Line
line_asked values = None

-- which device an operation asks first, by its number and its operands
abbrev pub asks : ℕ → List Value → Option Question
asks code operands =
    if code == 55 then line_asked operands
    else if code == 109 then time_asked operands
    else if code == 110 then randint_asked operands
    else if code == 111 then randrange_asked operands
    else None

-- It is given what is known, where it asks.
abbrev pub IsGiven : Known → Option Question → Option GivenThere → Type 0
IsGiven k None given = ⊤
IsGiven k (Some what) (Some given) = k.given (ask_seen what) ≡ Some (given_seen given)
IsGiven k (Some what) None = ⊥

-- the rest of a plan, by what a device gives
abbrev pub time_given : Given → Plan
time_given (number i) = writes (done (int i))
time_given other = device_failed

abbrev pub line_given : Given → Plan
line_given (a_line bytes) = if is_utf8 bytes then counts (size bytes) (writes (done (text bytes))) else not_utf8
line_given no_line = fault eof_error (codes "end of input")
line_given other = device_failed

-- the prompt of `input`, which is empty where there is none
abbrev pub of_prompt : List Contents → (List ℕ → Plan) → Plan
of_prompt [] go = go []
of_prompt (text prompt ∷ []) go = go prompt
of_prompt (other ∷ []) go = wrong_kind
of_prompt values go = wrong_number

-- what a run notes of an operation that asks so, at a place and by the number of the asking there
abbrev pub noted_as : Pos → ℕ → Option Question → State → State
noted_as at k (Some what) s = record s { askings = record { at = at; k = k; what = ask_seen what } ∷ s.askings }
noted_as at k None s = s
