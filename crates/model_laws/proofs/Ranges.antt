-- Which numbers stand in a range.
use Rattle.std.proofs.Common.{inl, inr, ◌≡◌, ◌∙◌, ◌↔◌, refl, sym, ap, subst, arith, ltb-true, ltb-false, ℕ, zero, suc, ◌*◌, ◌/◌, ◌<◌, ◌≤◌, ℤ, pos, negsuc, ◌+ℤ◌, ◌-ℤ◌, ◌*ℤ◌, neg_ℤ, Bool, true, false, not, nat_lt, if◌then◌else◌, Option, Some, None, is_some, le-div_iff_mul-le, mul-div_cancel}
use Rattle.std.specs.Prelude.{Contains, ◌<ℤ◌, [], ◌∷◌}
use Rattle.std.proofs.lemmas.Bool.Decides.{Decides-int_eq}
use Rattle.std.proofs.lemmas.Int.{ints}
use Rattle.std.specs.Ordering.{int_eq}
use Rattle.py_model.specs.Walks.{numbers_from}
use Rattle.py_model.specs.Kin.{In}
use Rattle.model_laws.proofs.OneOrder.{contains}
use Rattle.model_laws.proofs.Sorting.{contained}
use Rattle.py_value.specs.Contents.{int, Contents, truth, range}
use Rattle.py_model.specs.Arithmetic.{in_plan, not_in_plan}
use Rattle.py_model.specs.Effect.{Answers, effect}
use Rattle.py_model.specs.Numbers.{floor_div, floor_mod, range_count, place_at}
use Rattle.py_model.specs.Operands.{number_in, gives_truth}
use Rattle.py_model.specs.Plan.{Plan, looks}
use Rattle.py_model.specs.Store.{RunStore}
use Rattle.model_laws.specs.Results.{Result, gives, DoesAlone}
use Rattle.model_laws.specs.TableSequences.{IsBeforeEnd, StandsInRange}

differ : false ≡ true → ⊥
differ is = cc

-- how many steps a distance has
abbrev steps : ℤ → ℕ → ℕ
steps (pos zero) by = 0
steps (pos (suc far)) by = suc (far / suc by)
steps (negsuc far) by = 0

within_steps : (far : ℤ) (by k : ℕ) → k < steps far by → pos (k * suc by) <ℤ far
within_steps (pos zero) by k below = absurd (omega (arith, below))
within_steps (pos (suc far)) by k below = let most : k * suc by ≤ far = (le-div_iff_mul-le {k = suc by} {x = k} {y = far} (omega arith)).0 (omega (arith, below)) in omega (arith, ints, most)
within_steps (negsuc far) by k below = absurd (omega (arith, below))

steps_within : (far : ℤ) (by k : ℕ) → pos (k * suc by) <ℤ far → k < steps far by
steps_within (pos zero) by k less = absurd (omega (arith, ints, less))
steps_within (pos (suc far)) by k less = let few : k * suc by ≤ far = omega (arith, ints, less) in let most : k ≤ far / suc by = (le-div_iff_mul-le {k = suc by} {x = k} {y = far} (omega arith)).1 few in omega (arith, most)
steps_within (negsuc far) by k less = absurd (omega (arith, ints, less))

up_end : (start end : ℤ) (m : ℕ) → pos m <ℤ (end -ℤ start) → (start +ℤ pos m) <ℤ end
up_end start end m less = omega (arith, ints, less)

end_up : (start end : ℤ) (m : ℕ) → (start +ℤ pos m) <ℤ end → pos m <ℤ (end -ℤ start)
end_up start end m less = omega (arith, ints, less)

down_end : (start end : ℤ) (m : ℕ) → pos m <ℤ (start -ℤ end) → end <ℤ (start +ℤ neg_ℤ (pos m))
down_end start end m less = omega (arith, ints, less)

end_down : (start end : ℤ) (m : ℕ) → end <ℤ (start +ℤ neg_ℤ (pos m)) → pos m <ℤ (start -ℤ end)
end_down start end m less = omega (arith, ints, less)

-- a place is in a range exactly where the number there is before the end
counted : (start end step : ℤ) (k : ℕ) → k < range_count start end step → IsBeforeEnd (start +ℤ (pos k *ℤ step)) end step
counted start end (pos zero) k below = absurd (omega (arith, below))
counted start end (pos (suc by)) k below = up_end start end (k * suc by) (within_steps (end -ℤ start) by k below)
counted start end (negsuc by) k below = down_end start end (k * suc by) (within_steps (start -ℤ end) by k below)

counts_up_to : (start end step : ℤ) (k : ℕ) → IsBeforeEnd (start +ℤ (pos k *ℤ step)) end step → k < range_count start end step
counts_up_to start end (pos zero) k before = absurd before
counts_up_to start end (pos (suc by)) k before = steps_within (end -ℤ start) by k (end_up start end (k * suc by) before)
counts_up_to start end (negsuc by) k before = steps_within (start -ℤ end) by k (end_down start end (k * suc by) before)

times_turned : (step : ℤ) (k : ℕ) → step *ℤ pos k ≡ pos k *ℤ step
times_turned (pos n) k = omega (arith, ints)
times_turned (negsuc n) k = omega (arith, ints)

-- where a distance is found among the places
abbrev inside : ℕ → ℤ → Option ℕ
inside n (pos i) = if nat_lt i n then Some i else None
inside n (negsuc i) = None

no_rest : (a x : ℤ) → a -ℤ x ≡ pos 0 → a ≡ x
no_rest a x is = omega (arith, ints, is)

rest_none : (x : ℤ) → x -ℤ x ≡ pos 0
rest_none x = omega (arith, ints)

back_from : (i start x : ℤ) → i -ℤ start ≡ x → i ≡ start +ℤ x
back_from i start x is = omega (arith, ints, is)

forth_to : (i start x : ℤ) → i ≡ start +ℤ x → i -ℤ start ≡ x
forth_to i start x is = omega (arith, ints, is)

placed : (far step : ℤ) (n : ℕ) → is_some (place_at far step n) ≡ true → (k : ℕ) × ((far ≡ step *ℤ pos k) × (k < n))
placed far step n found = by_rest (int_eq (floor_mod far step) (pos 0)) refl found
  where
    by_quotient : (q : ℤ) → far -ℤ (step *ℤ q) ≡ pos 0 → is_some (inside n q) ≡ true → (k : ℕ) × ((far ≡ step *ℤ pos k) × (k < n))
    by_quotient (negsuc i) rest some = absurd (differ some)
    by_quotient (pos i) rest some = by_test (nat_lt i n) refl some
      where
        by_test : (b : Bool) → nat_lt i n ≡ b → is_some (if b then Some i else None) ≡ true → (k : ℕ) × ((far ≡ step *ℤ pos k) × (k < n))
        by_test true below some = (i, (no_rest far (step *ℤ pos i) rest, ltb-true i n below))
        by_test false below some = absurd (differ some)

    by_rest : (b : Bool) → int_eq (floor_mod far step) (pos 0) ≡ b → is_some (if b then inside n (floor_div far step) else None) ≡ true → (k : ℕ) × ((far ≡ step *ℤ pos k) × (k < n))
    by_rest true is some = by_quotient (floor_div far step) ((Decides-int_eq (floor_mod far step) (pos 0)).0 is) some
    by_rest false is some = absurd (differ some)

-- the quotient of so many steps
all_steps : (step : ℤ) (k : ℕ) → (step ≡ pos 0 → ⊥) → floor_div (step *ℤ pos k) step ≡ pos k
all_steps (pos zero) k some = absurd (some refl)
all_steps (pos (suc by)) k some = ap pos (ap (λ (m : ℕ). m / suc by) (turned by k) ∙ mul-div_cancel k {n = suc by} (omega arith))
  where
    turned : (by k : ℕ) → suc by * k ≡ k * suc by
    turned by k = omega arith
all_steps (negsuc by) k some = by_product (suc by * k) refl
  where
    none : (by k : ℕ) → suc by * k ≡ 0 → pos 0 ≡ pos k
    none by zero is = refl
    none by (suc k) is = absurd (omega (arith, is))

    turned : (by k m : ℕ) → suc by * k ≡ suc m → suc m ≡ k * suc by
    turned by k m is = omega (arith, is)

    by_product : (m : ℕ) → suc by * k ≡ m → floor_div (neg_ℤ (pos m)) (negsuc by) ≡ pos k
    by_product zero is = none by k is
    by_product (suc m) is = ap pos (ap (λ (x : ℕ). x / suc by) (turned by k m is) ∙ mul-div_cancel k {n = suc by} (omega arith))

not_zero : (i end step : ℤ) → IsBeforeEnd i end step → step ≡ pos 0 → ⊥
not_zero i end (pos zero) before is = before
not_zero i end (pos (suc by)) before is = cc
not_zero i end (negsuc by) before is = cc

place_found : (step : ℤ) (k n : ℕ) → (step ≡ pos 0 → ⊥) → k < n → is_some (place_at (step *ℤ pos k) step n) ≡ true
place_found step k n some below =
    ap (λ (q : ℤ). is_some (if int_eq ((step *ℤ pos k) -ℤ (step *ℤ q)) (pos 0) then inside n q else None)) (all_steps step k some)
    ∙ (ap (λ (b : Bool). is_some (if b then inside n (pos k) else None)) ((Decides-int_eq ((step *ℤ pos k) -ℤ (step *ℤ pos k)) (pos 0)).1 (rest_none (step *ℤ pos k)))
    ∙ ap (λ (b : Bool). is_some (if b then Some k else None)) (by_test (nat_lt k n) refl))
  where
    by_test : (b : Bool) → nat_lt k n ≡ b → b ≡ true
    by_test true is = refl
    by_test false is = let more = ltb-false k n is in absurd (omega (arith, more, below))

-- a number is found exactly where it stands in the range
pub found_in_range : (start end step i : ℤ) → (is_some (place_at (i -ℤ start) step (range_count start end step)) ≡ true) ↔ StandsInRange start end step i
found_in_range start end step i = (stands, found)
  where
    n : ℕ
    n = range_count start end step

    stands : is_some (place_at (i -ℤ start) step n) ≡ true → StandsInRange start end step i
    stands some =
        let place = placed (i -ℤ start) step n some in
        let is : i ≡ start +ℤ (pos place.0 *ℤ step) = back_from i start (pos place.0 *ℤ step) (place.1.0 ∙ times_turned step place.0) in
        (place.0, (is, subst (λ (j : ℤ). IsBeforeEnd j end step) (sym is) (counted start end step place.0 place.1.1)))

    found : StandsInRange start end step i → is_some (place_at (i -ℤ start) step n) ≡ true
    found there =
        let far : i -ℤ start ≡ step *ℤ pos there.0 = forth_to i start (pos there.0 *ℤ step) there.1.0 ∙ sym (times_turned step there.0) in
        let before : IsBeforeEnd (start +ℤ (pos there.0 *ℤ step)) end step = subst (λ (j : ℤ). IsBeforeEnd j end step) there.1.0 there.1.1 in
        ap (λ (d : ℤ). is_some (place_at d step n)) far ∙ place_found step there.0 n (not_zero i end step there.1.1) (counts_up_to start end step there.0 before)

abbrev by_place : ℕ → (Bool → Plan) → Option ℕ → Plan
by_place n go (Some i) = looks (suc i) (go true)
by_place n go None = looks n (go false)

abbrev by_number : ℤ → ℤ → ℤ → (Bool → Plan) → Option ℤ → Plan
by_number start end step go (Some i) = by_place (range_count start end step) go (place_at (i -ℤ start) step (range_count start end step))
by_number start end step go None = looks (range_count start end step) (go false)

module _ (store : RunStore) (answers : Answers) (v : Contents) (start end step : ℤ) where
  abbrev DoesIt : Plan → Result (Unit {0}) → Type 0
  DoesIt p result = DoesAlone store (effect store answers p) result

  by_places : (test : Bool → Bool) (n : ℕ) (place : Option ℕ) → DoesIt (by_place n (λ b. gives_truth (test b)) place) (gives (truth (test (is_some place))))
  by_places test n (Some i) = record { answer_is = refl; made_is = refl; after_is = refl }
  by_places test n None = record { answer_is = refl; made_is = refl; after_is = refl }

  range_does : (test : Bool → Bool) (i : ℤ) → number_in v ≡ Some i
      → DoesIt (by_number start end step (λ b. gives_truth (test b)) (number_in v)) (gives (truth (test (is_some (place_at (i -ℤ start) step (range_count start end step))))))
  range_does test i is = subst (λ (found : Option ℤ). DoesIt (by_number start end step (λ b. gives_truth (test b)) found) (gives (truth (test (is_some (place_at (i -ℤ start) step (range_count start end step)))))))
      (sym is) (by_places test (range_count start end step) (place_at (i -ℤ start) step (range_count start end step)))

  other_does : (test : Bool → Bool) → number_in v ≡ None → DoesIt (by_number start end step (λ b. gives_truth (test b)) (number_in v)) (gives (truth (test false)))
  other_does test is = subst (λ (found : Option ℤ). DoesIt (by_number start end step (λ b. gives_truth (test b)) found) (gives (truth (test false)))) (sym is) (record { answer_is = refl; made_is = refl; after_is = refl })

  pub in_range_does : (i : ℤ) → number_in v ≡ Some i
      → (is_there : Bool) × (((is_there ≡ true) ↔ StandsInRange start end step i) × DoesIt (in_plan (v ∷ (range start end step ∷ []))) (gives (truth is_there)))
  in_range_does i is = (is_some (place_at (i -ℤ start) step (range_count start end step)), (found_in_range start end step i, range_does (λ b. b) i is))

  pub not_in_range_does : (i : ℤ) → number_in v ≡ Some i
      → (is_there : Bool) × (((is_there ≡ true) ↔ StandsInRange start end step i) × DoesIt (not_in_plan (v ∷ (range start end step ∷ []))) (gives (truth (not is_there))))
  not_in_range_does i is = (is_some (place_at (i -ℤ start) step (range_count start end step)), (found_in_range start end step i, range_does not i is))

  pub other_in_range : number_in v ≡ None → DoesIt (in_plan (v ∷ (range start end step ∷ []))) (gives (truth false))
  other_in_range is = other_does (λ b. b) is

  pub other_not_in_range : number_in v ≡ None → DoesIt (not_in_plan (v ∷ (range start end step ∷ []))) (gives (truth true))
  other_not_in_range is = other_does not is

-- the numbers of a range, one after the other, are those that stand in it
no_times : (step : ℤ) → pos 0 *ℤ step ≡ pos 0
no_times (pos n) = omega (arith, ints)
no_times (negsuc n) = omega (arith, ints)

one_times : (step : ℤ) (k : ℕ) → step +ℤ (pos k *ℤ step) ≡ pos (suc k) *ℤ step
one_times (pos n) k = omega (arith, ints)
one_times (negsuc n) k = omega (arith, ints)

first_number : (start step : ℤ) → start ≡ start +ℤ (pos 0 *ℤ step)
first_number start step = from_none (no_times step)
  where
    from_none : pos 0 *ℤ step ≡ pos 0 → start ≡ start +ℤ (pos 0 *ℤ step)
    from_none is = omega (arith, ints, is)

next_number : (start step : ℤ) (k : ℕ) → (start +ℤ step) +ℤ (pos k *ℤ step) ≡ start +ℤ (pos (suc k) *ℤ step)
next_number start step k = around (pos k *ℤ step) (pos (suc k) *ℤ step) (one_times step k)
  where
    around : (x y : ℤ) → step +ℤ x ≡ y → (start +ℤ step) +ℤ x ≡ start +ℤ y
    around x y is = omega (arith, ints, is)

int_same : (i j : ℤ) → int i ≡ int j → i ≡ j
int_same i j is = cc

number_placed : (n : ℕ) (start step i : ℤ) → In (int i) (numbers_from n start step) → (k : ℕ) × ((i ≡ start +ℤ (pos k *ℤ step)) × (k < n))
number_placed zero start step i there = absurd there
number_placed (suc n) start step i (inl is) = (0, (int_same i start is ∙ first_number start step, omega arith))
number_placed (suc n) start step i (inr there) = let place = number_placed n (start +ℤ step) step i there in (suc place.0, (place.1.0 ∙ next_number start step place.0, omega (arith, place.1.1)))

number_at_place : (n k : ℕ) (start step : ℤ) → k < n → In (int (start +ℤ (pos k *ℤ step))) (numbers_from n start step)
number_at_place zero k start step below = absurd (omega (arith, below))
number_at_place (suc n) zero start step below = inl (ap int (sym (first_number start step)))
number_at_place (suc n) (suc k) start step below = inr (subst (λ (i : ℤ). In (int i) (numbers_from n (start +ℤ step) step)) (next_number start step k) (number_at_place n k (start +ℤ step) step (omega (arith, below))))

pub range_numbers : (start end step i : ℤ) → Contains (numbers_from (range_count start end step) start step) (int i) ↔ StandsInRange start end step i
range_numbers start end step i = (stands, there)
  where
    stands : Contains (numbers_from (range_count start end step) start step) (int i) → StandsInRange start end step i
    stands at =
        let place = number_placed (range_count start end step) start step i (contained (numbers_from (range_count start end step) start step) (int i) at.0 at.1 at.2) in
        (place.0, (place.1.0, subst (λ (j : ℤ). IsBeforeEnd j end step) (sym place.1.0) (counted start end step place.0 place.1.1)))

    there : StandsInRange start end step i → Contains (numbers_from (range_count start end step) start step) (int i)
    there at =
        let before : IsBeforeEnd (start +ℤ (pos at.0 *ℤ step)) end step = subst (λ (j : ℤ). IsBeforeEnd j end step) at.1.0 at.1.1 in
        contains (numbers_from (range_count start end step) start step) (int i)
        (subst (λ (j : ℤ). In (int j) (numbers_from (range_count start end step) start step)) (sym at.1.0) (number_at_place (range_count start end step) at.0 start step (counts_up_to start end step at.0 before)))
