-- What a run notes of an operation that asks a device: one asking, or nothing.
use Rattle.std.proofs.Common.{◌≡◌, ◌∙◌, refl, ap, ℕ, zero, suc, ◌-ℤ◌, ℤ, pos, negsuc, Bool, true, false, List, [], ◌∷◌, map, Option, Some, None, if◌then◌else◌}
use Rattle.std.specs.Str.{is_utf8}
use Rattle.prov_base.specs.declared.place.Pos.{Pos}
use Rattle.answer_source.specs.Sources.{ask_seen}
use Rattle.capture.specs.declared.answer.Ask.{Ask as Question}
use Rattle.capture.specs.declared.answer.Ask.TheVariants.{Time, Word, Line}
use Rattle.op_devices.specs.Draws.{many_of, word_for, between_asked, below_asked}
use Rattle.op_devices.specs.Given.{asks, noted_as}
use Rattle.op_devices.proofs.Known.{ask_go}
use Rattle.op_devices.proofs.DrawPlans.{number_is, by_width}
use Rattle.op_devices.proofs.LinePlans.{line_go}
use Rattle.py_value.specs.Numbers.{number_of_value}
use Rattle.py_model.proofs.Tuples.{some_tuple}
use Rattle.py_model.specs.Effect.{Answers, Effect, effect, lacking}
use Rattle.py_model.specs.Files.{not_utf8, time_ns_plan, drawn, draw_between, draw_below, randint_plan, randrange_plan, input_with, input_plan}
use Rattle.py_model.specs.Operands.{number_in}
use Rattle.py_model.specs.Plan.{Given, number, random_word, a_line, no_line, failed, done, Plan, ask, counts, writes}
use Rattle.py_model.specs.Quiet.{IsQuiet}
use Rattle.py_model.specs.Running.{State, note}
use Rattle.py_model.specs.Store.{RunStore}
use Rattle.py_model.specs.Texts.{size}
use Rattle.py_value.specs.Contents.{Contents, contents, text}
use Rattle.py_value.specs.Seen.{bytes_of}
use Rattle.py_value.specs.Values.{ValuesView}
use Rattle.py_value.specs.declared.value.Value.{Value}
use Rattle.py_value.specs.declared.value.Value.TheVariants.{None as NoneValue, Bool as TruthValue, Int, Text, Tuple, Range, Fn, Class, Exc, Builtin, Object}

-- the law that nothing is noted of a plan that asks nothing
abbrev pub Unnoted : Type 0
Unnoted = (store : RunStore) (answers : Answers) (p : Plan) (at : Pos) (k : ℕ) (s : State) → IsQuiet p → note at k (effect store answers p).touches s ≡ s

-- what was given is not asked again
time_quiet : (v : Contents) (g : Given) → IsQuiet (ask_go (time_ns_plan (v ∷ [])) g)
time_quiet v (number i) = tt
time_quiet v (random_word w) = tt
time_quiet v (a_line bytes) = tt
time_quiet v no_line = tt
time_quiet v failed = tt

word_quiet : (start : ℤ) (many : ℕ) (g : Given) → IsQuiet (ask_go (drawn start many) g)
word_quiet start many (number i) = tt
word_quiet start many (random_word w) = tt
word_quiet start many (a_line bytes) = tt
word_quiet start many no_line = tt
word_quiet start many failed = tt

if_quiet : (b : Bool) (bytes : List ℕ) → IsQuiet (if b then counts (size bytes) (writes (done (text bytes))) else not_utf8)
if_quiet true bytes = tt
if_quiet false bytes = tt

line_quiet : (prompt : List ℕ) (g : Given) → IsQuiet (line_go prompt g)
line_quiet prompt (number i) = tt
line_quiet prompt (random_word w) = tt
line_quiet prompt (a_line bytes) = if_quiet (is_utf8 bytes) bytes
line_quiet prompt no_line = tt
line_quiet prompt failed = tt

module _ (unnoted : Unnoted) (store : RunStore) (answers : Answers) (at : Pos) (k : ℕ) (s : State) where
  abbrev noted : Plan → State
  noted p = note at k (effect store answers p).touches s

  abbrev given_effect : (Given → Plan) → Option Given → Effect
  given_effect go None = lacking store
  given_effect go (Some g) = effect store answers (go g)

  ask_noted : (what : Question) (go : Given → Plan) → ((g : Given) → IsQuiet (go g)) → noted (ask (ask_seen what) go) ≡ noted_as at k (Some what) s
  ask_noted what go quiet = by_given (answers.given (ask_seen what))
    where
      by_given : (given : Option Given) → note at k (given_effect go given).touches (noted_as at k (Some what) s) ≡ noted_as at k (Some what) s
      by_given None = refl
      by_given (Some g) = unnoted store answers (go g) at k (noted_as at k (Some what) s) (quiet g)

  pub time_noted : (f : Value → Contents) (operands : List Value) → note at k (effect store answers (time_ns_plan (map f operands))).touches s ≡ noted_as at k (asks 109 operands) s
  time_noted f [] = refl
  time_noted f (v ∷ []) = ask_noted Time (ask_go (time_ns_plan (f v ∷ []))) (time_quiet (f v))
  time_noted f (v ∷ w ∷ more) = refl

  drawn_noted : (start : ℤ) (many : ℕ) → noted (drawn start many) ≡ noted_as at k (Some Word) s
  drawn_noted start many = ask_noted Word (ask_go (drawn start many)) (word_quiet start many)

  width_noted : (low w : ℤ) → noted (by_width low w) ≡ noted_as at k (word_for (many_of w)) s
  width_noted low (pos more) = drawn_noted low (suc more)
  width_noted low (negsuc less) = refl

  between_noted : (x y : Option ℤ) → noted (draw_between x y) ≡ noted_as at k (between_asked x y) s
  between_noted (Some low) (Some high) = width_noted low (high -ℤ low)
  between_noted (Some low) None = refl
  between_noted None (Some high) = refl
  between_noted None None = refl

  pub randint_noted : (table : ValuesView) (operands : List Value) → note at k (effect store answers (randint_plan (map (contents table) operands))).touches s ≡ noted_as at k (asks 110 operands) s
  randint_noted table [] = refl
  randint_noted table (u ∷ []) = refl
  randint_noted table (u ∷ v ∷ []) = refl
  randint_noted table (u ∷ v ∷ w ∷ []) = ap (λ x. noted (draw_between x (number_in (contents table w)))) (number_is table v)
      ∙ (ap (λ x. noted (draw_between (number_of_value v) x)) (number_is table w) ∙ between_noted (number_of_value v) (number_of_value w))
  randint_noted table (u ∷ v ∷ w ∷ x ∷ more) = refl

  below_noted : (x : Option ℤ) → noted (draw_below x) ≡ noted_as at k (below_asked x) s
  below_noted (Some (pos zero)) = refl
  below_noted (Some (pos (suc n))) = drawn_noted (pos 0) (suc n)
  below_noted (Some (negsuc n)) = refl
  below_noted None = refl

  pub randrange_noted : (table : ValuesView) (operands : List Value) → note at k (effect store answers (randrange_plan (map (contents table) operands))).touches s ≡ noted_as at k (asks 111 operands) s
  randrange_noted table [] = refl
  randrange_noted table (u ∷ []) = refl
  randrange_noted table (u ∷ v ∷ []) = ap (λ x. noted (draw_below x)) (number_is table v) ∙ below_noted (number_of_value v)
  randrange_noted table (u ∷ v ∷ w ∷ more) = refl

  line_noted : (prompt : List ℕ) → noted (input_with prompt) ≡ noted_as at k (Some Line) s
  line_noted prompt = ask_noted Line (line_go prompt) (line_quiet prompt)

  many_noted : (one other : Contents) (more : List Contents) → noted (input_plan (one ∷ other ∷ more)) ≡ s
  many_noted (text prompt) other more = refl
  many_noted one other more = refl

  pub input_noted : (table : ValuesView) (operands : List Value) → note at k (effect store answers (input_plan (map (contents table) operands))).touches s ≡ noted_as at k (asks 55 operands) s
  input_noted table [] = line_noted []
  input_noted table (NoneValue ∷ []) = refl
  input_noted table (TruthValue b ∷ []) = refl
  input_noted table (Int i ∷ []) = refl
  input_noted table (Text id ∷ []) = line_noted (bytes_of table id)
  input_noted table (Tuple id ∷ []) = ap (λ c. noted (input_plan (c ∷ []))) (some_tuple table id).1
  input_noted table (Range a b c ∷ []) = refl
  input_noted table (Fn place ∷ []) = refl
  input_noted table (Class place ∷ []) = refl
  input_noted table (Exc n ∷ []) = refl
  input_noted table (Builtin n ∷ []) = refl
  input_noted table (Object o ∷ []) = refl
  input_noted table (NoneValue ∷ w ∷ more) = refl
  input_noted table (TruthValue b ∷ w ∷ more) = refl
  input_noted table (Int i ∷ w ∷ more) = refl
  input_noted table (Text id ∷ w ∷ more) = refl
  input_noted table (Tuple id ∷ w ∷ more) = many_noted (contents table (Tuple id)) (contents table w) (map (contents table) more)
  input_noted table (Range a b c ∷ w ∷ more) = refl
  input_noted table (Fn place ∷ w ∷ more) = refl
  input_noted table (Class place ∷ w ∷ more) = refl
  input_noted table (Exc n ∷ w ∷ more) = refl
  input_noted table (Builtin n ∷ w ∷ more) = refl
  input_noted table (Object o ∷ w ∷ more) = refl
