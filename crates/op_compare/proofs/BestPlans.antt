-- The best of values, one after another.
use Rattle.std.proofs.Common.{◌≡◌, refl, sym, ap, ap₂, arith, eq-eqb, true≢false, ◌==◌, ℕ, zero, suc, ◌+◌, ◌<◌, ◌≤◌, ◌∙◌, length, Bool, true, false, List, [], ◌∷◌, map, drop, slice_index_or}
use Rattle.py_model.specs.Arithmetic.{in_order, best_from, best_of, best_plan, empty_or_zero}
use Rattle.py_model.specs.Faults.{wrong_number}
use Rattle.py_model.specs.Operands.{gives}
use Rattle.py_model.specs.Plan.{Plan}
use Rattle.py_model.specs.Walks.{Comparison, walk}
use Rattle.py_value.specs.Contents.{Contents, contents}
use Rattle.py_value.specs.Values.{ValuesView, AreNamed, IsNamed}
use Rattle.py_value.specs.declared.value.Value.{Value}
use Rattle.py_value.specs.declared.value.Value.TheVariants.{None as NoneValue}
use Rattle.op_compare.specs.Best.{better_value, best_then, best_among}

-- one plan or the other
abbrev pub taken : Plan → Plan → Bool → Plan
taken one other true = one
taken one other false = other

best_from_is : (better : Comparison → Bool) (best : Contents) (items : List Contents) → best_from better best items ≡ best_then better best items gives
best_from_is better best [] = refl
best_from_is better best (item ∷ items) = ap₂ (λ one other. in_order item best (λ how. taken one other (better how))) (best_from_is better item items) (best_from_is better best items)

pub best_of_is : (better : Comparison → Bool) (items : List Contents) → best_of better items ≡ best_among better items gives
best_of_is better [] = refl
best_of_is better (item ∷ items) = best_from_is better item items

-- what is left from a place on
abbrev pub left : (Comparison → Bool) → List Value → Value → ℕ → ValuesView → (Contents → Plan) → Plan
left better items best i table go = best_then better (contents table best) (map (contents table) (drop i items)) go

-- an item was compared with the best so far
abbrev pub decides : (Comparison → Bool) → List Value → Value → ℕ → ValuesView → Comparison → (Contents → Plan) → Plan
decides better items best i table how go = taken (left better items (slice_index_or items i NoneValue) (suc i) table go) (left better items best (suc i) table go) (better how)

drop_next : (xs : List Value) (i : ℕ) → i < length xs → drop i xs ≡ slice_index_or xs i NoneValue ∷ drop (suc i) xs
drop_next [] i less = absurd (omega (arith, less))
drop_next (x ∷ xs) zero less = refl
drop_next (x ∷ xs) (suc i) less = drop_next xs i (omega (arith, less))

drop_end : (xs : List Value) (i : ℕ) → length xs ≤ i → drop i xs ≡ []
drop_end [] zero end = refl
drop_end [] (suc i) end = refl
drop_end (x ∷ xs) zero end = absurd (omega (arith, end))
drop_end (x ∷ xs) (suc i) end = drop_end xs i (omega (arith, end))

pub left_first : (better : Comparison → Bool) (items : List Value) (table : ValuesView) (go : Contents → Plan) → (length items ≡ 0 → ⊥)
    → best_among better (map (contents table) items) go ≡ left better items (slice_index_or items 0 NoneValue) 1 table go
left_first better [] table go some = absurd (some refl)
left_first better (item ∷ items) table go some = refl

pub left_is : (better : Comparison → Bool) (items : List Value) (best : Value) (i : ℕ) (table : ValuesView) (go : Contents → Plan) → i < length items
    → left better items best i table go ≡ in_order (contents table (slice_index_or items i NoneValue)) (contents table best) (λ how. decides better items best i table how go)
left_is better items best i table go less = ap (λ vs. best_then better (contents table best) (map (contents table) vs) go) (drop_next items i less)

one_taken : (better : Comparison → Bool) (items : List Value) (item best : Value) (i : ℕ) (table : ValuesView) (go : Contents → Plan) (t : Bool)
    → taken (left better items item (suc i) table go) (left better items best (suc i) table go) t ≡ left better items (better_value t item best) (i + 1) table go
one_taken better items item best i table go true = ap (λ k. left better items item k table go) (place i)
  where
    place : (i : ℕ) → suc i ≡ i + 1
    place i = omega (arith)
one_taken better items item best i table go false = ap (λ k. left better items best k table go) (place i)
  where
    place : (i : ℕ) → suc i ≡ i + 1
    place i = omega (arith)

pub left_more : (better : Comparison → Bool) (items : List Value) (best chosen : Value) (i : ℕ) (table : ValuesView) (how : Comparison) (go : Contents → Plan)
    → chosen ≡ better_value (better how) (slice_index_or items i NoneValue) best → decides better items best i table how go ≡ left better items chosen (i + 1) table go
left_more better items best chosen i table how go is = one_taken better items (slice_index_or items i NoneValue) best i table go (better how)
    ∙ ap (λ v. left better items v (i + 1) table go) (sym is)

pub left_none : (better : Comparison → Bool) (items : List Value) (best : Value) (i : ℕ) (table : ValuesView) (go : Contents → Plan) → length items ≤ i → left better items best i table go ≡ go (contents table best)
left_none better items best i table go end = ap (λ vs. best_then better (contents table best) (map (contents table) vs) go) (drop_end items i end)

-- an item is named, and so is the better of two
pub item_named : (values : ValuesView) (items : List Value) (i : ℕ) → AreNamed values items → i < length items → IsNamed values (slice_index_or items i NoneValue)
item_named values [] i named less = absurd (omega (arith, less))
item_named values (item ∷ items) zero named less = named zero item refl
item_named values (item ∷ items) (suc i) named less = item_named values items i (λ j v at. named (suc j) v at) (omega (arith, less))

pub better_named : (values : ValuesView) (t : Bool) (v other : Value) → IsNamed values v → IsNamed values other → IsNamed values (better_value t v other)
better_named values true v other one two = one
better_named values false v other one two = two

-- nothing to choose from, and how many operands there are
pub none_among : (better : Comparison → Bool) (items : List Value) (table : ValuesView) (go : Contents → Plan) → length items ≡ 0 → best_among better (map (contents table) items) go ≡ empty_or_zero
none_among better [] table go is = refl
none_among better (item ∷ items) table go is = absurd (omega (arith, is))

pub some_there : (n : ℕ) (t : Bool) → t ≡ (n == 0) → t ≡ false → n ≡ 0 → ⊥
some_there n t is apart none = true≢false (sym (eq-eqb n 0 none) ∙ (sym is ∙ apart))

pub first_named : (values : ValuesView) (items : List Value) → AreNamed values items → IsNamed values (slice_index_or items 0 NoneValue)
first_named values [] named = tt
first_named values (item ∷ items) named = named 0 item refl

pub plan_none : (better : Comparison → Bool) (items : List Value) (table : ValuesView) → length items ≡ 0 → best_plan better (map (contents table) items) ≡ wrong_number
plan_none better [] table is = refl
plan_none better (item ∷ items) table is = absurd (omega (arith, is))

pub plan_one : (better : Comparison → Bool) (items : List Value) (table : ValuesView) → length items ≡ 1
    → best_plan better (map (contents table) items) ≡ walk (contents table (slice_index_or items 0 NoneValue)) (best_of better)
plan_one better [] table is = absurd (omega (arith, is))
plan_one better (v ∷ []) table is = refl
plan_one better (v ∷ w ∷ more) table is = absurd (omega (arith, is))

pub plan_many : (better : Comparison → Bool) (items : List Value) (table : ValuesView) → (length items ≡ 0 → ⊥) → (length items ≡ 1 → ⊥)
    → best_plan better (map (contents table) items) ≡ best_of better (map (contents table) items)
plan_many better [] table some more = absurd (some refl)
plan_many better (v ∷ []) table some more = absurd (more refl)
plan_many better (v ∷ w ∷ rest) table some more = refl
