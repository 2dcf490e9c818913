-- The sum of a sequence, and ranges with the same numbers.
use Rattle.std.proofs.Common.{◌≡◌, ◌∙◌, ◌↔◌, refl, sym, ap, subst, arith, eqb-true, eq-eqb, ℕ, zero, suc, ◌==◌, ◌&&◌, ℤ, pos, ◌+ℤ◌, Bool, true, false, if◌then◌else◌, List, [], ◌∷◌, map, length, Option, Some, None, codes}
use Rattle.std.proofs.lemmas.Bool.{ne_eqb}
use Rattle.std.proofs.lemmas.Bool.Decides.{Decides-int_eq}
use Rattle.std.proofs.lemmas.Int.{ints}
use Rattle.std.specs.Ordering.{int_eq}
use Rattle.py_value.specs.Contents.{Contents, int, truth, text}
use Rattle.py_model.specs.Arithmetic.{numbers_in, sum_from, sum_plan}
use Rattle.py_model.specs.Effect.{Answers, effect}
use Rattle.py_model.specs.Faults.{overflow, type_error, wrong_kind, out_of_range}
use Rattle.py_model.specs.Numbers.{is_int, range_count}
use Rattle.py_model.specs.Operands.{number_in, gives as gives_plan}
use Rattle.py_model.specs.Plan.{Plan}
use Rattle.py_model.specs.Sorting.{all_are, is_number}
use Rattle.py_model.specs.Store.{RunStore}
use Rattle.py_model.specs.Walks.{walk, numbers_from, same_range}
use Rattle.model_laws.specs.Reading.{HasItems}
use Rattle.model_laws.specs.Results.{Result, gives, throws, DoesAlone}
use Rattle.model_laws.specs.TableNumbers.{partial_sums, total, sum_is}
use Rattle.model_laws.proofs.Alone.{alone_same}
use Rattle.model_laws.proofs.Effects.{walked}

abbrev numbered_by : (ℤ → Plan) → Option ℤ → Plan
numbered_by go None = wrong_kind
numbered_by go (Some i) = go i

head_is : (x y : Option ℤ) (xs ys : List (Option ℤ)) → x ∷ xs ≡ y ∷ ys → x ≡ y
head_is x y xs ys is = cc

tail_is : (x y : Option ℤ) (xs ys : List (Option ℤ)) → x ∷ xs ≡ y ∷ ys → xs ≡ ys
tail_is x y xs ys is = cc

no_number : (x : Option ℤ) (xs : List (Option ℤ)) → x ∷ xs ≡ [] → ⊥
no_number x xs is = cc

nothing_left : (x : Option ℤ) (xs : List (Option ℤ)) → [] ≡ x ∷ xs → ⊥
nothing_left x xs is = cc

all_numbers : (items : List Contents) (numbers : List ℤ) (go : List ℤ → Plan) → map number_in items ≡ map Some numbers → numbers_in items go ≡ go numbers
all_numbers [] [] go is = refl
all_numbers [] (i ∷ numbers) go is = absurd (nothing_left (Some i) (map Some numbers) is)
all_numbers (item ∷ items) [] go is = absurd (no_number (number_in item) (map number_in items) is)
all_numbers (item ∷ items) (i ∷ numbers) go is =
    ap (numbered_by (λ j. numbers_in items (λ more. go (j ∷ more)))) (head_is (number_in item) (Some i) (map number_in items) (map Some numbers) is)
    ∙ all_numbers items numbers (λ more. go (i ∷ more)) (tail_is (number_in item) (Some i) (map number_in items) (map Some numbers) is)

module _ (store : RunStore) (answers : Answers) where
  abbrev DoesIt : Plan → Result (Unit {0}) → Type 0
  DoesIt p result = DoesAlone store (effect store answers p) result

  abbrev sums_to : ℤ → Bool → Result (Unit {0})
  sums_to i fits = if fits then gives (int i) else throws overflow (text (codes "integer out of range") ∷ [])

  added_up : (so_far i rest : ℤ) → (so_far +ℤ i) +ℤ rest ≡ so_far +ℤ (i +ℤ rest)
  added_up so_far i rest = omega (arith, ints)

  and_none : (i : ℤ) → i ≡ i +ℤ pos 0
  and_none i = omega (arith, ints)

  none_and : (i : ℤ) → pos 0 +ℤ i ≡ i
  none_and i = omega (arith, ints)

  from_left : (so_far : ℤ) (numbers : List ℤ) → DoesIt (sum_from so_far numbers) (sums_to (so_far +ℤ total numbers) (all_are is_int (partial_sums so_far numbers)))
  from_left so_far [] = subst (λ (i : ℤ). DoesIt (gives_plan (int so_far)) (gives (int i))) (and_none so_far) (record { answer_is = refl; made_is = refl; after_is = refl })
  from_left so_far (i ∷ more) = by_test (is_int (so_far +ℤ i)) (from_left (so_far +ℤ i) more)
    where
      by_test : (b : Bool) → DoesIt (sum_from (so_far +ℤ i) more) (sums_to ((so_far +ℤ i) +ℤ total more) (all_are is_int (partial_sums (so_far +ℤ i) more)))
          → DoesIt (if b then sum_from (so_far +ℤ i) more else out_of_range) (sums_to (so_far +ℤ (i +ℤ total more)) (if b then all_are is_int (partial_sums (so_far +ℤ i) more) else false))
      by_test true does = subst (λ (j : ℤ). DoesIt (sum_from (so_far +ℤ i) more) (sums_to j (all_are is_int (partial_sums (so_far +ℤ i) more)))) (added_up so_far i (total more)) does
      by_test false does = record { outcome_is = refl; made_is = refl; after_is = refl }

  not_all : (items : List Contents) (go : List ℤ → Plan) → all_are is_number items ≡ false → numbers_in items go ≡ wrong_kind
  not_all [] go is = absurd (differ is)
    where
      differ : true ≡ false → ⊥
      differ is = cc
  not_all (int i ∷ items) go is = not_all items (λ more. go (i ∷ more)) is
  not_all (truth true ∷ items) go is = not_all items (λ more. go (pos 1 ∷ more)) is
  not_all (truth false ∷ items) go is = not_all items (λ more. go (pos 0 ∷ more)) is
  not_all (item ∷ items) go is = refl

  module _ (v : Contents) (items : List Contents) (has : HasItems store v items) where
    by_walk : (result : Result (Unit {0})) → DoesIt (numbers_in items (sum_from (pos 0))) result → DoesIt (sum_plan (v ∷ [])) result
    by_walk result does =
        alone_same store answers (effect store answers (walk v (λ found. numbers_in found (sum_from (pos 0))))) (effect store answers (numbers_in items (sum_from (pos 0)))) result
        (λ s. walked store answers v items (λ found. numbers_in found (sum_from (pos 0))) s has) does

    pub sum_does : (numbers : List ℤ) → map number_in items ≡ map Some numbers → DoesIt (sum_plan (v ∷ [])) (sum_is numbers)
    sum_does numbers is = by_walk (sum_is numbers) (subst (λ (p : Plan). DoesIt p (sum_is numbers)) (sym (all_numbers items numbers (sum_from (pos 0)) is))
        (subst (λ (i : ℤ). DoesIt (sum_from (pos 0) numbers) (sums_to i (all_are is_int (partial_sums (pos 0) numbers)))) (none_and (total numbers)) (from_left (pos 0) numbers)))

    pub sum_refused : all_are is_number items ≡ false → DoesIt (sum_plan (v ∷ [])) (throws type_error (text (codes "wrong kind of value") ∷ []))
    sum_refused is = by_walk (throws type_error (text (codes "wrong kind of value") ∷ [])) (subst (λ (p : Plan). DoesIt p (throws type_error (text (codes "wrong kind of value") ∷ []))) (sym (not_all items (sum_from (pos 0)) is))
        (record { outcome_is = refl; made_is = refl; after_is = refl }))

-- ranges are equal exactly where they have the same numbers
many : (n : ℕ) (start step : ℤ) → length (numbers_from n start step) ≡ n
many zero start step = refl
many (suc n) start step = ap suc (many n (start +ℤ step) step)

first_is : (i j : ℤ) (xs ys : List Contents) → int i ∷ xs ≡ int j ∷ ys → i ≡ j
first_is i j xs ys is = cc

rest_is : (v w : Contents) (xs ys : List Contents) → v ∷ xs ≡ w ∷ ys → xs ≡ ys
rest_is v w xs ys is = cc

same_step : (a c d f : ℤ) → a ≡ d → a +ℤ c ≡ d +ℤ f → c ≡ f
same_step a c d f one other = omega (arith, ints, one, other)

apart_tests : false ≡ true → ⊥
apart_tests is = cc

both_hold : (b c : Bool) → (b && c) ≡ true → (b ≡ true) × (c ≡ true)
both_hold true c is = (refl, is)
both_hold false c is = absurd (apart_tests is)

test_equal : (i j : ℤ) → int_eq i j ≡ true → i ≡ j
test_equal i j is = (Decides-int_eq i j).0 is

equal_test : (i j : ℤ) → i ≡ j → int_eq i j ≡ true
equal_test i j is = (Decides-int_eq i j).1 is

abbrev same_counted : ℕ → ℕ → ℤ → ℤ → ℤ → ℤ → Bool
same_counted m n a c d f = (m == n) && (if m == 0 then true else int_eq a d && (if m == 1 then true else int_eq c f))

two_or_more : (k : ℕ) (p q : Bool) → (if suc (suc k) == 0 then true else p && (if suc (suc k) == 1 then true else q)) ≡ (p && q)
two_or_more k p q = ap (λ (b : Bool). if b then true else p && (if suc (suc k) == 1 then true else q)) (ne_eqb (suc (suc k)) 0 (λ is. omega (arith, is)))
    ∙ ap (λ (b : Bool). p && (if b then true else q)) (ne_eqb (suc (suc k)) 1 (λ is. omega (arith, is)))

numbers_same : (m n : ℕ) (a c d f : ℤ) → same_counted m n a c d f ≡ true → numbers_from m a c ≡ numbers_from n d f
numbers_same m n a c d f is = let tests = both_hold (m == n) (if m == 0 then true else int_eq a d && (if m == 1 then true else int_eq c f)) is in
    by_count m tests.1 ∙ ap (λ (k : ℕ). numbers_from k d f) (eqb-true m n tests.0)
  where
    by_count : (k : ℕ) → (if k == 0 then true else int_eq a d && (if k == 1 then true else int_eq c f)) ≡ true → numbers_from k a c ≡ numbers_from k d f
    by_count zero more = refl
    by_count (suc zero) more = ap (λ (i : ℤ). int i ∷ []) (test_equal a d (both_hold (int_eq a d) true more).0)
    by_count (suc (suc k)) more =
        let both = both_hold (int_eq a d) (int_eq c f) (sym (two_or_more k (int_eq a d) (int_eq c f)) ∙ more) in
        ap (λ (i : ℤ). numbers_from (suc (suc k)) i c) (test_equal a d both.0) ∙ ap (λ (i : ℤ). numbers_from (suc (suc k)) d i) (test_equal c f both.1)

same_numbers : (m n : ℕ) (a c d f : ℤ) → numbers_from m a c ≡ numbers_from n d f → same_counted m n a c d f ≡ true
same_numbers m n a c d f is =
    let size : m ≡ n = sym (many m a c) ∙ (ap length is ∙ many n d f) in
    ap (λ (b : Bool). b && (if m == 0 then true else int_eq a d && (if m == 1 then true else int_eq c f))) (eq-eqb m n size)
    ∙ by_count m (is ∙ ap (λ (k : ℕ). numbers_from k d f) (sym size))
  where
    by_count : (k : ℕ) → numbers_from k a c ≡ numbers_from k d f → (if k == 0 then true else int_eq a d && (if k == 1 then true else int_eq c f)) ≡ true
    by_count zero same = refl
    by_count (suc zero) same = ap (λ (b : Bool). b && true) (equal_test a d (first_is a d [] [] same))
    by_count (suc (suc k)) same =
        let start : a ≡ d = first_is a d (numbers_from (suc k) (a +ℤ c) c) (numbers_from (suc k) (d +ℤ f) f) same in
        let next : a +ℤ c ≡ d +ℤ f = first_is (a +ℤ c) (d +ℤ f) (numbers_from k ((a +ℤ c) +ℤ c) c) (numbers_from k ((d +ℤ f) +ℤ f) f) (rest_is (int a) (int d) (numbers_from (suc k) (a +ℤ c) c) (numbers_from (suc k) (d +ℤ f) f) same) in
        two_or_more k (int_eq a d) (int_eq c f) ∙ ap (λ (b : Bool). b && int_eq c f) (equal_test a d start) ∙ equal_test c f (same_step a c d f start next)

pub ranges_same : (a b c d e f : ℤ) → (same_range a b c d e f ≡ true) ↔ (numbers_from (range_count a b c) a c ≡ numbers_from (range_count d e f) d f)
ranges_same a b c d e f = (numbers_same (range_count a b c) (range_count d e f) a c d f, same_numbers (range_count a b c) (range_count d e f) a c d f)
