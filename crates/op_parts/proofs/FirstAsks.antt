-- An operation that may ask a device asks once, or asks nothing. It lacks an answer exactly where what it asks is not given.
use Rattle.std.proofs.Common.{◌≡◌, ◌∙◌, refl, sym, ap, subst, eqb-true, ℕ, zero, suc, ◌==◌, ◌-ℤ◌, ℤ, pos, negsuc, Bool, true, false, ◌||◌, List, [], ◌∷◌, map, Option, Some, None, if◌then◌else◌}
use Rattle.std.specs.Str.{is_utf8}
use Rattle.std.proofs.lemmas.Bool.{false≢true}
use Rattle.answer_source.specs.Sources.{ask_seen}
use Rattle.capture.specs.declared.answer.Ask.{Ask as Question}
use Rattle.capture.specs.declared.answer.Ask.TheVariants.{Word, Line}
use Rattle.op_devices.specs.Draws.{many_of, word_for, between_asked, below_asked}
use Rattle.op_devices.specs.Given.{asks, noted_as}
use Rattle.op_devices.proofs.Known.{ask_go}
use Rattle.op_devices.proofs.DrawPlans.{number_is, by_width}
use Rattle.op_devices.proofs.LinePlans.{line_go}
use Rattle.op_devices.proofs.Noting.{Unnoted, time_noted, randint_noted, randrange_noted, input_noted}
use Rattle.py_value.specs.Numbers.{number_of_value}
use Rattle.op_table.specs.Table.{planned_at}
use Rattle.py_model.proofs.Tuples.{some_tuple}
use Rattle.prov_base.specs.declared.place.Pos.{Pos}
use Rattle.py_model.specs.Effect.{Answers, Effect, Outcome, unanswered, effect, lacking}
use Rattle.py_model.specs.Files.{not_utf8, time_ns_plan, drawn, draw_between, draw_below, randint_plan, randrange_plan, input_with, input_plan}
use Rattle.py_model.specs.Operands.{number_in}
use Rattle.py_model.specs.Plan.{Ask, Given, number, random_word, a_line, no_line, failed, done, Plan, ask, counts, writes}
use Rattle.py_model.specs.Quiet.{may_ask, IsQuiet}
use Rattle.py_model.specs.Running.{State, note}
use Rattle.py_model.specs.Store.{RunStore}
use Rattle.py_model.specs.Texts.{size}
use Rattle.py_model.specs.declared.moment.Op.{Op}
use Rattle.py_value.specs.Contents.{Contents, contents, text}
use Rattle.py_value.specs.Seen.{bytes_of}
use Rattle.py_value.specs.Values.{ValuesView}
use Rattle.py_value.specs.declared.value.Value.{Value}
use Rattle.py_value.specs.declared.value.Value.TheVariants.{None as NoneValue, Bool as TruthValue, Int, Text, Tuple, Range, Fn, Class, Exc, Builtin, Object}

-- the law that a plan which asks nothing lacks nothing
abbrev pub AnswersAll : Type 0
AnswersAll = (store : RunStore) (answers : Answers) (p : Plan) → IsQuiet p → (effect store answers p).outcome ≡ unanswered → ⊥

-- it comes out as what asks this first, and nothing behind it
pub record AsksOf (store : RunStore) (what : Ask) (p : Plan) : Type 0 where
  pub go : Given → Plan
  pub outcome_is : (answers : Answers) → (effect store answers p).outcome ≡ (effect store answers (ask what go)).outcome
  pub quiet : (g : Given) → IsQuiet (go g)

abbrev pub AsksFirst : RunStore → Option Question → Plan → Type 0
AsksFirst store None p = IsQuiet p
AsksFirst store (Some what) p = AsksOf store (ask_seen what) p

-- what was given is not asked again
time_quiet : (v : Contents) (g : Given) → IsQuiet (ask_go (time_ns_plan (v ∷ [])) g)
time_quiet v (number i) = tt
time_quiet v (random_word w) = tt
time_quiet v (a_line bytes) = tt
time_quiet v no_line = tt
time_quiet v failed = tt

word_quiet : (start : ℤ) (many : ℕ) (g : Given) → IsQuiet (ask_go (drawn start many) g)
word_quiet start many (number i) = tt
word_quiet start many (random_word w) = tt
word_quiet start many (a_line bytes) = tt
word_quiet start many no_line = tt
word_quiet start many failed = tt

if_quiet : (b : Bool) (bytes : List ℕ) → IsQuiet (if b then counts (size bytes) (writes (done (text bytes))) else not_utf8)
if_quiet true bytes = tt
if_quiet false bytes = tt

line_quiet : (prompt : List ℕ) (g : Given) → IsQuiet (line_go prompt g)
line_quiet prompt (number i) = tt
line_quiet prompt (random_word w) = tt
line_quiet prompt (a_line bytes) = if_quiet (is_utf8 bytes) bytes
line_quiet prompt no_line = tt
line_quiet prompt failed = tt

module _ (store : RunStore) where
  time_first : (f : Value → Contents) (operands : List Value) → AsksFirst store (asks 109 operands) (time_ns_plan (map f operands))
  time_first f [] = tt
  time_first f (v ∷ []) = record { go = ask_go (time_ns_plan (f v ∷ [])); outcome_is = λ answers. refl; quiet = time_quiet (f v) }
  time_first f (v ∷ w ∷ more) = tt

  drawn_first : (start : ℤ) (many : ℕ) → AsksFirst store (Some Word) (drawn start many)
  drawn_first start many = record { go = ask_go (drawn start many); outcome_is = λ answers. refl; quiet = word_quiet start many }

  width_first : (low w : ℤ) → AsksFirst store (word_for (many_of w)) (by_width low w)
  width_first low (pos more) = drawn_first low (suc more)
  width_first low (negsuc less) = tt

  between_first : (x y : Option ℤ) → AsksFirst store (between_asked x y) (draw_between x y)
  between_first (Some low) (Some high) = width_first low (high -ℤ low)
  between_first (Some low) None = tt
  between_first None (Some high) = tt
  between_first None None = tt

  randint_first : (table : ValuesView) (operands : List Value) → AsksFirst store (asks 110 operands) (randint_plan (map (contents table) operands))
  randint_first table [] = tt
  randint_first table (u ∷ []) = tt
  randint_first table (u ∷ v ∷ []) = tt
  randint_first table (u ∷ v ∷ w ∷ []) = subst (λ p. AsksFirst store (between_asked (number_of_value v) (number_of_value w)) p)
      (sym (ap (λ x. draw_between x (number_in (contents table w))) (number_is table v) ∙ ap (λ x. draw_between (number_of_value v) x) (number_is table w)))
      (between_first (number_of_value v) (number_of_value w))
  randint_first table (u ∷ v ∷ w ∷ x ∷ more) = tt

  below_first : (x : Option ℤ) → AsksFirst store (below_asked x) (draw_below x)
  below_first (Some (pos zero)) = tt
  below_first (Some (pos (suc n))) = drawn_first (pos 0) (suc n)
  below_first (Some (negsuc n)) = tt
  below_first None = tt

  randrange_first : (table : ValuesView) (operands : List Value) → AsksFirst store (asks 111 operands) (randrange_plan (map (contents table) operands))
  randrange_first table [] = tt
  randrange_first table (u ∷ []) = tt
  randrange_first table (u ∷ v ∷ []) = subst (λ p. AsksFirst store (below_asked (number_of_value v)) p) (sym (ap draw_below (number_is table v))) (below_first (number_of_value v))
  randrange_first table (u ∷ v ∷ w ∷ more) = tt

  line_first : (prompt : List ℕ) → AsksFirst store (Some Line) (input_with prompt)
  line_first prompt = record { go = line_go prompt; outcome_is = λ answers. refl; quiet = line_quiet prompt }

  many_first : (one other : Contents) (more : List Contents) → IsQuiet (input_plan (one ∷ other ∷ more))
  many_first (text prompt) other more = tt
  many_first one other more = tt

  input_first : (table : ValuesView) (operands : List Value) → AsksFirst store (asks 55 operands) (input_plan (map (contents table) operands))
  input_first table [] = line_first []
  input_first table (Text id ∷ []) = line_first (bytes_of table id)
  input_first table (Tuple id ∷ []) = subst (λ c. IsQuiet (input_plan (c ∷ []))) (sym (some_tuple table id).1) tt
  input_first table (NoneValue ∷ []) = tt
  input_first table (TruthValue b ∷ []) = tt
  input_first table (Int i ∷ []) = tt
  input_first table (Range a b c ∷ []) = tt
  input_first table (Fn place ∷ []) = tt
  input_first table (Class place ∷ []) = tt
  input_first table (Exc n ∷ []) = tt
  input_first table (Builtin n ∷ []) = tt
  input_first table (Object o ∷ []) = tt
  input_first table (Text id ∷ w ∷ more) = many_first (contents table (Text id)) (contents table w) (map (contents table) more)
  input_first table (v ∷ w ∷ more) = many_first (contents table v) (contents table w) (map (contents table) more)

  -- by number
  module _ (op : Op) (operands : List Value) (table : ValuesView) where
    abbrev pub IsFirst : ℕ → Type 0
    IsFirst n = AsksFirst store (asks n operands) (planned_at n op operands table)

    at_number : (n : ℕ) → op.no ≡ n → IsFirst n → IsFirst op.no
    at_number n is first = subst IsFirst (sym is) first

    pub first_by : (a b c d e : Bool) → (op.no == 55) ≡ a → (op.no == 62) ≡ b → (op.no == 109) ≡ c → (op.no == 110) ≡ d → (op.no == 111) ≡ e → (a || (b || (c || (d || e)))) ≡ true → (op.no ≡ 62 → ⊥)
        → IsFirst op.no
    first_by true b c d e one two three four five may apart = at_number 55 (eqb-true op.no 55 one) (input_first table operands)
    first_by false true c d e one two three four five may apart = absurd (apart (eqb-true op.no 62 two))
    first_by false false true d e one two three four five may apart = at_number 109 (eqb-true op.no 109 three) (time_first (contents table) operands)
    first_by false false false true e one two three four five may apart = at_number 110 (eqb-true op.no 110 four) (randint_first table operands)
    first_by false false false false true one two three four five may apart = at_number 111 (eqb-true op.no 111 five) (randrange_first table operands)
    first_by false false false false false one two three four five may apart = absurd (false≢true may)

    pub first_asks : may_ask op.no ≡ true → (op.no ≡ 62 → ⊥) → IsFirst op.no
    first_asks may apart = first_by (op.no == 55) (op.no == 62) (op.no == 109) (op.no == 110) (op.no == 111) refl refl refl refl refl may apart

    module _ (unnoted : Unnoted) (answers : Answers) (at : Pos) (k : ℕ) (s : State) where
      abbrev pub IsNoted : ℕ → Type 0
      IsNoted n = note at k (effect store answers (planned_at n op operands table)).touches s ≡ noted_as at k (asks n operands) s

      noted_number : (n : ℕ) → op.no ≡ n → IsNoted n → IsNoted op.no
      noted_number n is noted = subst IsNoted (sym is) noted

      noted_by : (a b c d e : Bool) → (op.no == 55) ≡ a → (op.no == 62) ≡ b → (op.no == 109) ≡ c → (op.no == 110) ≡ d → (op.no == 111) ≡ e → (a || (b || (c || (d || e)))) ≡ true → (op.no ≡ 62 → ⊥)
          → IsNoted op.no
      noted_by true b c d e one two three four five may apart = noted_number 55 (eqb-true op.no 55 one) (input_noted unnoted store answers at k s table operands)
      noted_by false true c d e one two three four five may apart = absurd (apart (eqb-true op.no 62 two))
      noted_by false false true d e one two three four five may apart = noted_number 109 (eqb-true op.no 109 three) (time_noted unnoted store answers at k s (contents table) operands)
      noted_by false false false true e one two three four five may apart = noted_number 110 (eqb-true op.no 110 four) (randint_noted unnoted store answers at k s table operands)
      noted_by false false false false true one two three four five may apart = noted_number 111 (eqb-true op.no 111 five) (randrange_noted unnoted store answers at k s table operands)
      noted_by false false false false false one two three four five may apart = absurd (false≢true may)

      pub first_noted : may_ask op.no ≡ true → (op.no ≡ 62 → ⊥) → IsNoted op.no
      first_noted may apart = noted_by (op.no == 55) (op.no == 62) (op.no == 109) (op.no == 110) (op.no == 111) refl refl refl refl refl may apart

  -- what it comes to, by what is given
  module _ (answers : Answers) where
    abbrev ask_outcome : (Given → Plan) → Option Given → Outcome
    ask_outcome go None = unanswered
    ask_outcome go (Some g) = (effect store answers (go g)).outcome

    abbrev given_effect : (Given → Plan) → Option Given → Effect
    given_effect go None = lacking store
    given_effect go (Some g) = effect store answers (go g)

    ask_comes : (what : Ask) (go : Given → Plan) → (effect store answers (ask what go)).outcome ≡ ask_outcome go (answers.given what)
    ask_comes what go = by_given (answers.given what)
      where
        by_given : (given : Option Given) → (given_effect go given).outcome ≡ ask_outcome go given
        by_given None = refl
        by_given (Some g) = refl

    pub lacks_answer : (what : Ask) (p : Plan) → AsksOf store what p → answers.given what ≡ None → (effect store answers p).outcome ≡ unanswered
    lacks_answer what p first none = first.outcome_is answers ∙ (ask_comes what first.go ∙ ap (ask_outcome first.go) none)

    pub has_answer : AnswersAll → (what : Ask) (p : Plan) (g : Given) → AsksOf store what p → answers.given what ≡ Some g → (effect store answers p).outcome ≡ unanswered → ⊥
    has_answer all what p g first given is = all store answers (first.go g) (first.quiet g) (sym (first.outcome_is answers ∙ (ask_comes what first.go ∙ ap (ask_outcome first.go) given)) ∙ is)
