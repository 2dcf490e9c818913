-- Random numbers as plans.
use Rattle.std.proofs.Common.{◌≡◌, ◌∙◌, refl, ap, arith, ℕ, zero, suc, ◌<◌, ℤ, pos, negsuc, ◌-ℤ◌, true, false, List, [], ◌∷◌, map, length, slice_index_or, Option, Some, None}
use Rattle.capture.specs.declared.answer.Ask.TheVariants.{Word}
use Rattle.op_devices.specs.Asking.{Known, answered_by}
use Rattle.op_devices.specs.Draws.{many_of, many_between, many_below, word_for, between_asked, below_asked, word_given}
use Rattle.op_devices.specs.Given.{asks}
use Rattle.op_devices.proofs.Known.{known_ask, ask_go}
use Rattle.py_value.specs.Numbers.{number_of_value}
use Rattle.py_model.proofs.Tuples.{some_tuple}
use Rattle.py_model.specs.Faults.{wrong_kind, wrong_number}
use Rattle.py_model.specs.Files.{drawn, no_range, draw_between, draw_below, randint_plan, randrange_plan}
use Rattle.py_model.specs.Operands.{number_in}
use Rattle.py_model.specs.Plan.{word, Given, number, random_word, a_line, no_line, failed, Plan}
use Rattle.py_value.specs.Contents.{Contents, contents}
use Rattle.py_value.specs.Values.{ValuesView}
use Rattle.py_value.specs.declared.value.Value.{Value}
use Rattle.py_value.specs.declared.value.Value.TheVariants.{None as NoneValue, Bool as TruthValue, Int, Text, Tuple, Range, Fn, Class, Exc, Builtin, Object}

pub number_is : (table : ValuesView) (v : Value) → number_in (contents table v) ≡ number_of_value v
number_is table NoneValue = refl
number_is table (TruthValue true) = refl
number_is table (TruthValue false) = refl
number_is table (Int i) = refl
number_is table (Text id) = refl
number_is table (Tuple id) = ap number_in (some_tuple table id).1
number_is table (Range a b c) = refl
number_is table (Fn place) = refl
number_is table (Class place) = refl
number_is table (Exc n) = refl
number_is table (Builtin n) = refl
number_is table (Object o) = refl

-- ---- a draw

drawn_by : (k : Known) (start : ℤ) (many : ℕ) (g : Given) → answered_by k (ask_go (drawn start many) g) ≡ word_given start many g
drawn_by k start many (number i) = refl
drawn_by k start many (random_word w) = refl
drawn_by k start many (a_line bytes) = refl
drawn_by k start many no_line = refl
drawn_by k start many failed = refl

pub drawn_is : (k : Known) (start : ℤ) (many : ℕ) (g : Given) → k.given word ≡ Some g → answered_by k (drawn start many) ≡ word_given start many g
drawn_is k start many g known = known_ask k word (ask_go (drawn start many)) g known ∙ drawn_by k start many g

-- ---- between two numbers

abbrev pub by_width : ℤ → ℤ → Plan
by_width low (pos more) = drawn low (suc more)
by_width low (negsuc less) = no_range

some_same : (m n : ℕ) → Some m ≡ Some n → m ≡ n
some_same m n is = cc

width_some : (low w : ℤ) (many : ℕ) → many_of w ≡ Some many → by_width low w ≡ drawn low many
width_some low (pos more) many is = ap (drawn low) (some_same (suc more) many is)
width_some low (negsuc less) many is = absurd (cc)

width_none : (low w : ℤ) → many_of w ≡ None → by_width low w ≡ no_range
width_none low (pos more) is = absurd (cc)
width_none low (negsuc less) is = refl

between_is : (low high : ℤ) → draw_between (Some low) (Some high) ≡ by_width low (high -ℤ low)
between_is low high = refl

pub many_some : (w : ℤ) (many : ℕ) → many_of w ≡ Some many → 0 < many
many_some (pos more) many is = let same = some_same (suc more) many is in omega (arith, same)
many_some (negsuc less) many is = absurd (cc)

pub below_some : (w : ℤ) (many : ℕ) → many_below w ≡ Some many → 0 < many
below_some (pos zero) many is = absurd (cc)
below_some (pos (suc n)) many is = let same = some_same (suc n) many is in omega (arith, same)
below_some (negsuc n) many is = absurd (cc)

more_than_three : (n : ℕ) → suc (suc (suc (suc n))) ≡ 3 → ⊥
more_than_three n is = omega (arith, is)

more_than_two : (n : ℕ) → suc (suc (suc n)) ≡ 2 → ⊥
more_than_two n is = omega (arith, is)

randint_by : (table : ValuesView) (operands : List Value) → length operands ≡ 3
    → randint_plan (map (contents table) operands) ≡ draw_between (number_of_value (slice_index_or operands 1 NoneValue)) (number_of_value (slice_index_or operands 2 NoneValue))
randint_by table [] three = absurd (omega (arith, three))
randint_by table (u ∷ []) three = absurd (omega (arith, three))
randint_by table (u ∷ v ∷ []) three = absurd (omega (arith, three))
randint_by table (u ∷ v ∷ w ∷ []) three = ap (λ x. draw_between x (number_in (contents table w))) (number_is table v) ∙ ap (λ x. draw_between (number_of_value v) x) (number_is table w)
randint_by table (u ∷ v ∷ w ∷ x ∷ more) three = absurd (more_than_three (length more) three)

pub randint_count : (f : Value → Contents) (operands : List Value) → (length operands ≡ 3 → ⊥) → randint_plan (map f operands) ≡ wrong_number
randint_count f [] apart = refl
randint_count f (u ∷ []) apart = refl
randint_count f (u ∷ v ∷ []) apart = refl
randint_count f (u ∷ v ∷ w ∷ []) apart = absurd (apart refl)
randint_count f (u ∷ v ∷ w ∷ x ∷ more) apart = refl

module _ (table : ValuesView) (operands : List Value) (three : length operands ≡ 3) where
  pub randint_low : number_of_value (slice_index_or operands 1 NoneValue) ≡ None → randint_plan (map (contents table) operands) ≡ wrong_kind
  randint_low low_is = randint_by table operands three ∙ (ap (λ x. draw_between x (number_of_value (slice_index_or operands 2 NoneValue))) low_is ∙ no_low (number_of_value (slice_index_or operands 2 NoneValue)))
    where
      no_low : (x : Option ℤ) → draw_between None x ≡ wrong_kind
      no_low None = refl
      no_low (Some i) = refl

  pub randint_high : (low : ℤ) → number_of_value (slice_index_or operands 1 NoneValue) ≡ Some low → number_of_value (slice_index_or operands 2 NoneValue) ≡ None
      → randint_plan (map (contents table) operands) ≡ wrong_kind
  randint_high low low_is high_is = randint_by table operands three ∙ (ap (λ x. draw_between x (number_of_value (slice_index_or operands 2 NoneValue))) low_is ∙ ap (λ x. draw_between (Some low) x) high_is)

  pub randint_width : (low high : ℤ) → number_of_value (slice_index_or operands 1 NoneValue) ≡ Some low → number_of_value (slice_index_or operands 2 NoneValue) ≡ Some high
      → randint_plan (map (contents table) operands) ≡ by_width low (high -ℤ low)
  randint_width low high low_is high_is = randint_by table operands three ∙ (ap (λ x. draw_between x (number_of_value (slice_index_or operands 2 NoneValue))) low_is ∙ (ap (λ x. draw_between (Some low) x) high_is ∙ between_is low high))

  pub randint_none : (low high : ℤ) → number_of_value (slice_index_or operands 1 NoneValue) ≡ Some low → number_of_value (slice_index_or operands 2 NoneValue) ≡ Some high
      → many_between low high ≡ None → randint_plan (map (contents table) operands) ≡ no_range
  randint_none low high low_is high_is many_is = randint_width low high low_is high_is ∙ width_none low (high -ℤ low) many_is

  pub randint_some : (low high : ℤ) (many : ℕ) → number_of_value (slice_index_or operands 1 NoneValue) ≡ Some low → number_of_value (slice_index_or operands 2 NoneValue) ≡ Some high
      → many_between low high ≡ Some many → randint_plan (map (contents table) operands) ≡ drawn low many
  randint_some low high many low_is high_is many_is = randint_width low high low_is high_is ∙ width_some low (high -ℤ low) many many_is

randint_asks : (operands : List Value) → length operands ≡ 3 → asks 110 operands ≡ between_asked (number_of_value (slice_index_or operands 1 NoneValue)) (number_of_value (slice_index_or operands 2 NoneValue))
randint_asks [] three = absurd (omega (arith, three))
randint_asks (u ∷ []) three = absurd (omega (arith, three))
randint_asks (u ∷ v ∷ []) three = absurd (omega (arith, three))
randint_asks (u ∷ v ∷ w ∷ []) three = refl
randint_asks (u ∷ v ∷ w ∷ x ∷ more) three = absurd (more_than_three (length more) three)

pub randint_word : (operands : List Value) (low high : ℤ) (many : ℕ) → length operands ≡ 3 → number_of_value (slice_index_or operands 1 NoneValue) ≡ Some low → number_of_value (slice_index_or operands 2 NoneValue) ≡ Some high
    → many_between low high ≡ Some many → asks 110 operands ≡ Some Word
randint_word operands low high many three low_is high_is many_is = randint_asks operands three
    ∙ (ap (λ x. between_asked x (number_of_value (slice_index_or operands 2 NoneValue))) low_is ∙ (ap (λ x. between_asked (Some low) x) high_is ∙ ap word_for many_is))

-- ---- below a number

abbrev by_bound : ℤ → Plan
by_bound bound = draw_below (Some bound)

bound_some : (bound : ℤ) (many : ℕ) → many_below bound ≡ Some many → by_bound bound ≡ drawn (pos 0) many
bound_some (pos zero) many is = absurd (cc)
bound_some (pos (suc n)) many is = ap (drawn (pos 0)) (some_same (suc n) many is)
bound_some (negsuc n) many is = absurd (cc)

bound_none : (bound : ℤ) → many_below bound ≡ None → by_bound bound ≡ no_range
bound_none (pos zero) is = refl
bound_none (pos (suc n)) is = absurd (cc)
bound_none (negsuc n) is = refl

randrange_by : (table : ValuesView) (operands : List Value) → length operands ≡ 2 → randrange_plan (map (contents table) operands) ≡ draw_below (number_of_value (slice_index_or operands 1 NoneValue))
randrange_by table [] two = absurd (omega (arith, two))
randrange_by table (u ∷ []) two = absurd (omega (arith, two))
randrange_by table (u ∷ v ∷ []) two = ap draw_below (number_is table v)
randrange_by table (u ∷ v ∷ w ∷ more) two = absurd (more_than_two (length more) two)

pub randrange_count : (f : Value → Contents) (operands : List Value) → (length operands ≡ 2 → ⊥) → randrange_plan (map f operands) ≡ wrong_number
randrange_count f [] apart = refl
randrange_count f (u ∷ []) apart = refl
randrange_count f (u ∷ v ∷ []) apart = absurd (apart refl)
randrange_count f (u ∷ v ∷ w ∷ more) apart = refl

module _ (table : ValuesView) (operands : List Value) (two : length operands ≡ 2) where
  pub randrange_other : number_of_value (slice_index_or operands 1 NoneValue) ≡ None → randrange_plan (map (contents table) operands) ≡ wrong_kind
  randrange_other bound_is = randrange_by table operands two ∙ ap draw_below bound_is

  pub randrange_none : (bound : ℤ) → number_of_value (slice_index_or operands 1 NoneValue) ≡ Some bound → many_below bound ≡ None → randrange_plan (map (contents table) operands) ≡ no_range
  randrange_none bound bound_is many_is = randrange_by table operands two ∙ (ap draw_below bound_is ∙ bound_none bound many_is)

  pub randrange_some : (bound : ℤ) (many : ℕ) → number_of_value (slice_index_or operands 1 NoneValue) ≡ Some bound → many_below bound ≡ Some many
      → randrange_plan (map (contents table) operands) ≡ drawn (pos 0) many
  randrange_some bound many bound_is many_is = randrange_by table operands two ∙ (ap draw_below bound_is ∙ bound_some bound many many_is)

randrange_asks : (operands : List Value) → length operands ≡ 2 → asks 111 operands ≡ below_asked (number_of_value (slice_index_or operands 1 NoneValue))
randrange_asks [] two = absurd (omega (arith, two))
randrange_asks (u ∷ []) two = absurd (omega (arith, two))
randrange_asks (u ∷ v ∷ []) two = refl
randrange_asks (u ∷ v ∷ w ∷ more) two = absurd (more_than_two (length more) two)

pub randrange_word : (operands : List Value) (bound : ℤ) (many : ℕ) → length operands ≡ 2 → number_of_value (slice_index_or operands 1 NoneValue) ≡ Some bound → many_below bound ≡ Some many → asks 111 operands ≡ Some Word
randrange_word operands bound many two bound_is many_is = randrange_asks operands two ∙ (ap below_asked bound_is ∙ ap word_for many_is)
