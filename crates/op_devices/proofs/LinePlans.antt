-- Lines of the input as plans.
use Rattle.std.proofs.Common.{◌≡◌, ◌∙◌, refl, ap, arith, ℕ, zero, suc, ◌==◌, Bool, true, false, List, [], ◌∷◌, map, length, slice_index_or, Some, None, if◌then◌else◌}
use Rattle.std.specs.Str.{is_utf8}
use Rattle.capture.specs.declared.answer.Ask.TheVariants.{Line}
use Rattle.op_devices.specs.Asking.{Known, answered_by}
use Rattle.op_devices.specs.Given.{asks, line_given, of_prompt}
use Rattle.op_devices.proofs.Known.{known_ask, ask_go}
use Rattle.op_files.specs.Operands.{text_in}
use Rattle.op_files.proofs.ObjectOperands.{text_is}
use Rattle.py_model.proofs.Tuples.{some_tuple}
use Rattle.py_model.specs.Faults.{wrong_kind, wrong_number}
use Rattle.py_model.specs.Files.{not_utf8, input_with, input_plan}
use Rattle.py_model.specs.Plan.{line, Given, number, random_word, a_line, no_line, failed, done, Plan, ask, counts, prints, writes}
use Rattle.py_model.specs.Texts.{size}
use Rattle.py_value.specs.Contents.{Contents, contents, text}
use Rattle.py_value.specs.Seen.{bytes_of}
use Rattle.py_value.specs.Values.{ValuesView, IsNamed, AreNamed}
use Rattle.py_value.specs.declared.value.Value.{Value}
use Rattle.py_value.specs.declared.value.Value.TheVariants.{None as NoneValue, Bool as TruthValue, Int, Text, Tuple, Range, Fn, Class, Exc, Builtin, Object}

-- ---- a line

abbrev print_rest : Plan → Plan
print_rest (prints bytes rest) = rest
print_rest other = other

abbrev count_rest : Plan → Plan
count_rest (counts n rest) = rest
count_rest other = other

abbrev pub line_go : List ℕ → Given → Plan
line_go prompt = ask_go (count_rest (print_rest (input_with prompt)))

if_answered : (k : Known) (b : Bool) (bytes : List ℕ) → answered_by k (if b then counts (size bytes) (writes (done (text bytes))) else not_utf8) ≡ (if b then counts (size bytes) (writes (done (text bytes))) else not_utf8)
if_answered k true bytes = refl
if_answered k false bytes = refl

line_by : (k : Known) (prompt : List ℕ) (g : Given) → answered_by k (line_go prompt g) ≡ line_given g
line_by k prompt (number i) = refl
line_by k prompt (random_word w) = refl
line_by k prompt (a_line bytes) = if_answered k (is_utf8 bytes) bytes
line_by k prompt no_line = refl
line_by k prompt failed = refl

-- the line behind the prompt
abbrev pub asks_line : Known → List ℕ → Plan
asks_line k prompt = answered_by k (ask line (line_go prompt))

pub line_is : (k : Known) (prompt : List ℕ) (g : Given) → k.given line ≡ Some g → asks_line k prompt ≡ line_given g
line_is k prompt g known = known_ask k line (line_go prompt) g known ∙ line_by k prompt g

pub input_is : (k : Known) (prompt : List ℕ) → answered_by k (input_with prompt) ≡ prints prompt (counts (size prompt) (asks_line k prompt))
input_is k prompt = refl

-- a line that is a text, and one that is none
by_utf8 : (b : Bool) (one other : Plan) → b ≡ true → (if b then one else other) ≡ one
by_utf8 true one other is = refl
by_utf8 false one other is = absurd (cc)

by_other : (b : Bool) (one other : Plan) → b ≡ false → (if b then one else other) ≡ other
by_other true one other is = absurd (cc)
by_other false one other is = refl

pub text_line : (bytes : List ℕ) → is_utf8 bytes ≡ true → line_given (a_line bytes) ≡ counts (size bytes) (writes (done (text bytes)))
text_line bytes is = by_utf8 (is_utf8 bytes) (counts (size bytes) (writes (done (text bytes)))) not_utf8 is

pub other_line : (bytes : List ℕ) → is_utf8 bytes ≡ false → line_given (a_line bytes) ≡ not_utf8
other_line bytes is = by_other (is_utf8 bytes) (counts (size bytes) (writes (done (text bytes)))) not_utf8 is

-- ---- the prompt

pub prompt_is : (k : Known) (vs : List Contents) → answered_by k (input_plan vs) ≡ of_prompt vs (λ prompt. answered_by k (input_with prompt))
prompt_is k [] = refl
prompt_is k (text prompt ∷ []) = refl
prompt_is k (other ∷ []) = refl
prompt_is k (text prompt ∷ next ∷ more) = refl
prompt_is k (other ∷ next ∷ more) = refl

many : (n : ℕ) → suc (suc n) ≡ 1 → ⊥
many n is = omega (arith, is)

more_than_one : (one other : Contents) (more : List Contents) (go : List ℕ → Plan) → of_prompt (one ∷ other ∷ more) go ≡ wrong_number
more_than_one (text prompt) other more go = refl
more_than_one one other more go = refl

pub no_prompt : (f : Value → Contents) (operands : List Value) (go : List ℕ → Plan) → length operands ≡ 0 → of_prompt (map f operands) go ≡ go []
no_prompt f [] go is = refl
no_prompt f (v ∷ more) go is = absurd (omega (arith, is))

pub prompts : (f : Value → Contents) (operands : List Value) (go : List ℕ → Plan) → (length operands ≡ 0 → ⊥) → (length operands ≡ 1 → ⊥) → of_prompt (map f operands) go ≡ wrong_number
prompts f [] go none one = absurd (none refl)
prompts f (v ∷ []) go none one = absurd (one refl)
prompts f (v ∷ w ∷ more) go none one = more_than_one (f v) (f w) (map f more) go

other_one : (table : ValuesView) (v : Value) (go : List ℕ → Plan) → text_in v ≡ None → of_prompt (contents table v ∷ []) go ≡ wrong_kind
other_one table NoneValue go is = refl
other_one table (TruthValue b) go is = refl
other_one table (Int i) go is = refl
other_one table (Text id) go is = cc
other_one table (Tuple id) go is = ap (λ c. of_prompt (c ∷ []) go) (some_tuple table id).1
other_one table (Range a b c) go is = refl
other_one table (Fn place) go is = refl
other_one table (Class place) go is = refl
other_one table (Exc n) go is = refl
other_one table (Builtin n) go is = refl
other_one table (Object o) go is = refl

pub other_prompt : (table : ValuesView) (operands : List Value) (go : List ℕ → Plan) → length operands ≡ 1 → text_in (slice_index_or operands 0 NoneValue) ≡ None → of_prompt (map (contents table) operands) go ≡ wrong_kind
other_prompt table [] go one is = absurd (omega (arith, one))
other_prompt table (v ∷ []) go one is = other_one table v go is
other_prompt table (v ∷ w ∷ more) go one is = absurd (many (length more) one)

pub a_prompt : (table : ValuesView) (operands : List Value) (go : List ℕ → Plan) (id : ℕ) → length operands ≡ 1 → text_in (slice_index_or operands 0 NoneValue) ≡ Some id
    → of_prompt (map (contents table) operands) go ≡ go (bytes_of table id)
a_prompt table [] go id one is = absurd (omega (arith, one))
a_prompt table (v ∷ []) go id one is = ap (λ w. of_prompt (contents table w ∷ []) go) (text_is v id is)
a_prompt table (v ∷ w ∷ more) go id one is = absurd (many (length more) one)

pub not_zero : (n : ℕ) → false ≡ (n == 0) → n ≡ 0 → ⊥
not_zero zero is none = cc
not_zero (suc n) is none = omega (arith, none)

pub first_named : (values : ValuesView) (operands : List Value) → AreNamed values operands → IsNamed values (slice_index_or operands 0 NoneValue)
first_named values [] named = tt
first_named values (v ∷ more) named = named 0 v refl

-- where a prompt is fit, a line is asked for
pub no_prompt_asks : (operands : List Value) → length operands ≡ 0 → asks 55 operands ≡ Some Line
no_prompt_asks [] is = refl
no_prompt_asks (v ∷ more) is = absurd (omega (arith, is))

pub a_prompt_asks : (operands : List Value) (id : ℕ) → length operands ≡ 1 → text_in (slice_index_or operands 0 NoneValue) ≡ Some id → asks 55 operands ≡ Some Line
a_prompt_asks [] id one is = absurd (omega (arith, one))
a_prompt_asks (v ∷ []) id one is = ap (λ w. asks 55 (w ∷ [])) (text_is v id is)
a_prompt_asks (v ∷ w ∷ more) id one is = absurd (many (length more) one)
