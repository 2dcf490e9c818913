-- Where a number stands in a range.
use Rattle.std.proofs.Common.{◌≡◌, ◌∙◌, refl, sym, ap, ap₂, arith, ℕ, zero, suc, ◌+◌, ◌*◌, ◌/◌, ◌%◌, ◌<◌, ◌==◌, ℤ, pos, negsuc, ◌-ℤ◌, ◌*ℤ◌, neg_ℤ, Bool, true, false, nat_lt, if◌then◌else◌, option_map, Option, Some, None, Decides}
use Rattle.std.proofs.lemmas.Bool.{ne_eqb}
use Rattle.std.proofs.lemmas.Bool.Decides.{Decides-int_eq}
use Rattle.std.proofs.lemmas.Int.{ints}
use Rattle.std.proofs.Math.Nat.{div-add-mod', div-eq_of_lt}
use Rattle.std.specs.Ordering.{int_eq}
use Rattle.py_value.specs.Numbers.{number_of_value}
use Rattle.py_model.proofs.Tuples.{some_tuple}
use Rattle.py_model.specs.Arithmetic.{contained}
use Rattle.py_model.specs.Numbers.{floor_mod, floor_div, range_count, place_at}
use Rattle.py_model.specs.Operands.{number_in}
use Rattle.py_model.specs.Plan.{Plan, looks}
use Rattle.py_value.specs.Contents.{contents, range}
use Rattle.py_value.specs.Values.{ValuesView}
use Rattle.py_value.specs.declared.value.Value.{Value}
use Rattle.py_value.specs.declared.value.Value.TheVariants.{None as NoneValue, Bool as TruthValue, Int, Text, Tuple, Range, Fn, Class, Exc, Builtin, Object}
use Rattle.op_compare.specs.Places.{steps_up_to, looked_up_to}

-- the place, where there are as many numbers
abbrev inside : ℕ → ℤ → Option ℕ
inside n (pos i) = if nat_lt i n then Some i else None
inside n (negsuc i) = None

abbrev at_rest : ℕ → ℤ → ℤ → Option ℕ
at_rest n rest quotient = option_map suc (if int_eq rest (pos 0) then inside n quotient else None)

place_is : (far step : ℤ) (n : ℕ) → option_map suc (place_at far step n) ≡ at_rest n (floor_mod far step) (floor_div far step)
place_is far step n = refl

-- whole steps in one direction
rest_up : (q b r a : ℕ) → q * suc b + r ≡ a → pos a -ℤ (pos (suc b) *ℤ pos q) ≡ pos r
rest_up q b r a is = omega (arith, ints, is)

rest_down : (q b r a : ℕ) → q * suc b + r ≡ suc a → negsuc a -ℤ (negsuc b *ℤ pos q) ≡ neg_ℤ (pos r)
rest_down q b r a is = omega (arith, ints, is)

by_places : (t s : Bool) (q : ℕ) → option_map suc (if t then (if s then Some q else None) else None) ≡ (if t then (if s then Some (suc q) else None) else None)
by_places true true q = refl
by_places true false q = refl
by_places false s q = refl

is_apart : (b : Bool) (j : ℤ) → Decides b (j ≡ pos 0) → (j ≡ pos 0 → ⊥) → b ≡ false
is_apart true j decides apart = absurd (apart (decides.0 refl))
is_apart false j decides apart = refl

some_apart : (r : ℕ) → false ≡ (suc r == 0)
some_apart r = sym (ne_eqb (suc r) 0 (λ is. omega (arith, is)))

neg_zero : (r : ℕ) → int_eq (neg_ℤ (pos r)) (pos 0) ≡ (r == 0)
neg_zero zero = refl
neg_zero (suc r) = some_apart r

pos_zero : (r : ℕ) → int_eq (pos r) (pos 0) ≡ (r == 0)
pos_zero zero = refl
pos_zero (suc r) = is_apart (int_eq (pos (suc r)) (pos 0)) (pos (suc r)) (Decides-int_eq (pos (suc r)) (pos 0)) (λ is. omega (arith, ints, is)) ∙ some_apart r

up_at : (a b n : ℕ) → option_map suc (place_at (pos a) (pos (suc b)) n) ≡ steps_up_to a (suc b) n
up_at a b n = ap (λ z. at_rest n z (pos (a / suc b))) (rest_up (a / suc b) b (a % suc b) a (div-add-mod' a (suc b)))
    ∙ (ap (λ t. option_map suc (if t then inside n (pos (a / suc b)) else None)) (pos_zero (a % suc b))
    ∙ by_places (a % suc b == 0) (nat_lt (a / suc b) n) (a / suc b))

down_at : (a b n : ℕ) → option_map suc (place_at (negsuc a) (negsuc b) n) ≡ steps_up_to (suc a) (suc b) n
down_at a b n = ap (λ z. at_rest n z (pos (suc a / suc b))) (rest_down (suc a / suc b) b (suc a % suc b) a (div-add-mod' (suc a) (suc b)))
    ∙ (ap (λ t. option_map suc (if t then inside n (pos (suc a / suc b)) else None)) (neg_zero (suc a % suc b))
    ∙ by_places (suc a % suc b == 0) (nat_lt (suc a / suc b) n) (suc a / suc b))

here_at : (b n : ℕ) → option_map suc (place_at (pos 0) (negsuc b) n) ≡ steps_up_to 0 (suc b) n
here_at b n = ap₂ (λ z q. at_rest n z (pos q)) rest quotient
    ∙ (ap (λ t. option_map suc (if t then inside n (pos (0 / suc b)) else None)) (pos_zero (0 % suc b))
    ∙ by_places (0 % suc b == 0) (nat_lt (0 / suc b) n) (0 / suc b))
  where
    some : (b : ℕ) → 0 < suc b
    some b = omega (arith)

    quotient : 0 ≡ 0 / suc b
    quotient = sym (div-eq_of_lt (some b))

    at_zero : (q r b : ℕ) → q ≡ 0 → q * suc b + r ≡ 0 → pos 0 -ℤ (negsuc b *ℤ pos 0) ≡ pos r
    at_zero q r b none is = omega (arith, ints, none, is)

    rest : floor_mod (pos 0) (negsuc b) ≡ pos (0 % suc b)
    rest = at_zero (0 / suc b) (0 % suc b) b (div-eq_of_lt (some b)) (div-add-mod' 0 (suc b))

pub place_up : (far step : ℤ) (d m n : ℕ) → far ≡ pos d → step ≡ pos m → (m ≡ 0 → ⊥) → option_map suc (place_at far step n) ≡ steps_up_to d m n
place_up far step d zero n far_is step_is some = absurd (some refl)
place_up far step d (suc b) n far_is step_is some = ap₂ (λ f s. option_map suc (place_at f s n)) far_is step_is ∙ up_at d b n

pub place_down : (far step : ℤ) (d m n : ℕ) → far ≡ neg_ℤ (pos d) → step ≡ neg_ℤ (pos m) → (m ≡ 0 → ⊥) → option_map suc (place_at far step n) ≡ steps_up_to d m n
place_down far step d zero n far_is step_is some = absurd (some refl)
place_down far step zero (suc b) n far_is step_is some = ap₂ (λ f s. option_map suc (place_at f s n)) far_is step_is ∙ here_at b n
place_down far step (suc a) (suc b) n far_is step_is some = ap₂ (λ f s. option_map suc (place_at f s n)) far_is step_is ∙ down_at a b n

-- a count under another name
pub count_as : (far step : ℤ) (d m n count : ℕ) → n ≡ count → option_map suc (place_at far step n) ≡ steps_up_to d m n → option_map suc (place_at far step count) ≡ steps_up_to d m n
count_as far step d m n count same is = ap (λ k. option_map suc (place_at far step k)) (sym same) ∙ is

-- the numbers of a range are looked at, up to the hit
abbrev pub looked : Option ℕ → ℕ → (Bool → Plan) → Plan
looked (Some n) all go = looks n (go true)
looked None all go = looks all (go false)

number_seen : (table : ValuesView) (v : Value) → number_in (contents table v) ≡ number_of_value v
number_seen table NoneValue = refl
number_seen table (TruthValue true) = refl
number_seen table (TruthValue false) = refl
number_seen table (Int i) = refl
number_seen table (Text id) = refl
number_seen table (Tuple id) = ap number_in (some_tuple table id).1
number_seen table (Range a b c) = refl
number_seen table (Fn place) = refl
number_seen table (Class place) = refl
number_seen table (Exc number) = refl
number_seen table (Builtin number) = refl
number_seen table (Object o) = refl

abbrev by_place : ℕ → (Bool → Plan) → Option ℕ → Plan
by_place n go (Some i) = looks (suc i) (go true)
by_place n go None = looks n (go false)

abbrev by_number : ℤ → ℤ → ℤ → (Bool → Plan) → Option ℤ → Plan
by_number start end step go (Some i) = by_place (range_count start end step) go (place_at (i -ℤ start) step (range_count start end step))
by_number start end step go None = looks (range_count start end step) (go false)

one_place : (n : ℕ) (go : Bool → Plan) (place : Option ℕ) → by_place n go place ≡ looked (option_map suc place) n go
one_place n go None = refl
one_place n go (Some i) = refl

one_number : (start end step : ℤ) (go : Bool → Plan) (number : Option ℤ) → by_number start end step go number ≡ looked (looked_up_to start end step number) (range_count start end step) go
one_number start end step go None = refl
one_number start end step go (Some i) = one_place (range_count start end step) go (place_at (i -ℤ start) step (range_count start end step))

pub range_is : (table : ValuesView) (v : Value) (start end step : ℤ) (go : Bool → Plan)
    → contained (contents table v) (range start end step) go ≡ looked (looked_up_to start end step (number_of_value v)) (range_count start end step) go
range_is table v start end step go = ap (by_number start end step go) (number_seen table v) ∙ one_number start end step go (number_of_value v)
