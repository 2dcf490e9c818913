-- Sums as plans.
use Rattle.std.proofs.Common.{◌≡◌, ◌∙◌, refl, sym, ap, arith, leb-true, negsuc, ℕ, ◌+◌, ◌<◌, drop, get_or, length, w64, FitsSigned, ℤ, pos, ◌+ℤ◌, ◌&&◌, Bool, true, false, Option, Some, None, List, [], ◌∷◌, map, if◌then◌else◌}
use Rattle.py_model.specs.Arithmetic.{numbers_in, sum_from}
use Rattle.py_model.specs.Faults.{wrong_kind, out_of_range}
use Rattle.py_model.specs.Numbers.{is_int}
use Rattle.py_model.specs.Operands.{gives, with_number}
use Rattle.py_model.specs.Plan.{Plan}
use Rattle.py_value.specs.Contents.{Contents, contents, int}
use Rattle.py_value.specs.Values.{ValuesView}
use Rattle.py_value.specs.declared.value.Value.{Value}
use Rattle.py_value.specs.declared.value.Value.TheVariants.{None as NoneValue, Bool as TruthValue, Int, Text, Tuple, Range, Fn, Class, Exc, Builtin, Object}
use Rattle.op_lists.proofs.Writing.{drop_next}
use Rattle.op_numbers.proofs.NumberPlans.{int_fits}
use Rattle.py_model.proofs.Tuples.{some_tuple}
use Rattle.op_joins.specs.Summed.{number_value, all_numbers, number_or_zero, sum_found}

abbrev pub when_number : Bool → ℤ → (ℤ → Plan) → Plan
when_number true i go = go i
when_number false i go = wrong_kind

pub number_is : (table : ValuesView) (v : Value) (go : ℤ → Plan) → with_number (contents table v) go ≡ when_number (number_value v) (number_or_zero v) go
number_is table NoneValue go = refl
number_is table (TruthValue true) go = refl
number_is table (TruthValue false) go = refl
number_is table (Int i) go = refl
number_is table (Text id) go = refl
number_is table (Tuple id) go = ap (λ c. with_number c go) (some_tuple table id).1
number_is table (Range a b c) go = refl
number_is table (Fn place) go = refl
number_is table (Class place) go = refl
number_is table (Exc number) go = refl
number_is table (Builtin number) go = refl
number_is table (Object o) go = refl

abbrev values_of : List Value → List ℤ
values_of [] = []
values_of (v ∷ items) = number_or_zero v ∷ values_of items

abbrev when_numbers : Bool → List Value → (List ℤ → Plan) → Plan
when_numbers true items go = go (values_of items)
when_numbers false items go = wrong_kind

by_first : (b all : Bool) (v : Value) (items : List Value) (rest : ℤ → Plan) (go : List ℤ → Plan)
    → rest (number_or_zero v) ≡ when_numbers all items (λ more. go (number_or_zero v ∷ more))
    → when_number b (number_or_zero v) rest ≡ when_numbers (b && all) (v ∷ items) go
by_first true true v items rest go is = is
by_first true false v items rest go is = is
by_first false all v items rest go is = refl

numbers_are : (table : ValuesView) (items : List Value) (go : List ℤ → Plan) → numbers_in (map (contents table) items) go ≡ when_numbers (all_numbers items) items go
numbers_are table [] go = refl
numbers_are table (v ∷ items) go = number_is table v (λ i. numbers_in (map (contents table) items) (λ more. go (i ∷ more)))
    ∙ by_first (number_value v) (all_numbers items) v items (λ i. numbers_in (map (contents table) items) (λ more. go (i ∷ more))) go
    (numbers_are table items (λ more. go (number_or_zero v ∷ more)))

-- the answer, by the sum that was found
abbrev pub by_sum : Option ℤ → Plan
by_sum (Some i) = gives (int i)
by_sum None = out_of_range

by_fit : (b : Bool) (next : Plan) (found : Option ℤ) → next ≡ by_sum found → (if b then next else out_of_range) ≡ by_sum (if b then found else None)
by_fit true next found is = is
by_fit false next found is = refl

sums : (so_far : ℤ) (items : List Value) → sum_from so_far (values_of items) ≡ by_sum (sum_found so_far items)
sums so_far [] = refl
sums so_far (v ∷ items) = by_fit (is_int (so_far +ℤ number_or_zero v)) (sum_from (so_far +ℤ number_or_zero v) (values_of items)) (sum_found (so_far +ℤ number_or_zero v) items)
    (sums (so_far +ℤ number_or_zero v) items)

abbrev pub sum_items : List Contents → Plan
sum_items items = numbers_in items (sum_from (pos 0))

pub sum_is : (table : ValuesView) (items : List Value) → all_numbers items ≡ true → sum_items (map (contents table) items) ≡ by_sum (sum_found (pos 0) items)
sum_is table items are = numbers_are table items (sum_from (pos 0)) ∙ (ap (λ b. when_numbers b items (sum_from (pos 0))) are ∙ sums (pos 0) items)

pub no_sum : (table : ValuesView) (items : List Value) → all_numbers items ≡ false → sum_items (map (contents table) items) ≡ wrong_kind
no_sum table items are = numbers_are table items (sum_from (pos 0)) ∙ ap (λ b. when_numbers b items (sum_from (pos 0))) are

-- one item more is added, or refused
sum_step : (so_far : ℤ) (items : List Value) (i : ℕ) → i < length items → sum_found so_far (drop i items)
    ≡ (if is_int (so_far +ℤ number_or_zero (get_or items i NoneValue)) then sum_found (so_far +ℤ number_or_zero (get_or items i NoneValue)) (drop (i + 1) items) else None)
sum_step so_far items i less = ap (sum_found so_far) (drop_next items i less)

pub sum_more : (so_far next : ℤ) (items : List Value) (i : ℕ) → i < length items → FitsSigned w64 next → next ≡ so_far +ℤ number_or_zero (get_or items i NoneValue)
    → sum_found next (drop (i + 1) items) ≡ sum_found so_far (drop i items)
sum_more so_far next items i less fits is = ap (λ (k : ℤ). sum_found k (drop (i + 1) items)) is
    ∙ sym (sum_step so_far items i less ∙ ap (λ b. if b then sum_found (so_far +ℤ number_or_zero (get_or items i NoneValue)) (drop (i + 1) items) else None)
    (ap is_int (sym is) ∙ int_fits next fits))

fits_int : (i : ℤ) → is_int i ≡ true → FitsSigned w64 i
fits_int (pos n) is = omega (arith, leb-true n 9223372036854775807 is)
fits_int (negsuc n) is = omega (arith, leb-true n 9223372036854775807 is)

by_other : (b : Bool) (one other : Option ℤ) → (b ≡ true → ⊥) → (if b then one else other) ≡ other
by_other true one other is = absurd (is refl)
by_other false one other is = refl

pub sum_out : (so_far : ℤ) (items : List Value) (i : ℕ) → i < length items → (FitsSigned w64 (so_far +ℤ number_or_zero (get_or items i NoneValue)) → ⊥)
    → sum_found so_far (drop i items) ≡ None
sum_out so_far items i less out = sum_step so_far items i less
    ∙ by_other (is_int (so_far +ℤ number_or_zero (get_or items i NoneValue))) (sum_found (so_far +ℤ number_or_zero (get_or items i NoneValue)) (drop (i + 1) items)) None
    (λ is. out (fits_int (so_far +ℤ number_or_zero (get_or items i NoneValue)) is))
