-- Heights say how many tuples have to be allowed, and stay so as tuples come.
use Rattle.std.proofs.Common.{◌≡◌, ℕ, zero, suc, ◌+◌, ◌<◌, ◌≤◌, ⊎_elim, Bool, true, false, ◌&&◌, max, nat_le, nat_lt, List, [], ◌∷◌, ◌++◌, length, slice_get, unwrap_or, Option, Some, None, refl, sym, ap, subst, ◌∙◌, arith, if◌then◌else◌}
use Rattle.std.specs.List.{list_all}
use Rattle.std.proofs.Math.Bool.{and_assoc}
use Rattle.std.proofs.Math.Path.{fun_ext}
use Rattle.std.proofs.lemmas.Bool.{le-leb, leb-true, leb-false, lt-leb, ltb-false}
use Rattle.std.proofs.lemmas.Option.{slice_get_within, slice_get_past}
use Rattle.py_value.specs.declared.value.Value.{Value}
use Rattle.py_value.specs.declared.value.Value.TheVariants.{None as NoneValue, Bool as TruthValue, Int, Text, Tuple, Range, Fn, Class, Exc, Builtin, Object}
use Rattle.py_value.specs.Values.{AreBelow, IsBelow, Keeps}
use Rattle.py_value.proofs.Interning.{below_more, length-behind, which, at_end, keeps_behind}
use Rattle.py_value.proofs.SameContents.{item_at}
use Rattle.row_checks.specs.declared.heights.Height.{Height}
use Rattle.row_checks.specs.Keys.{is_key_within, is_key, parts_pass}
use Rattle.row_checks.specs.Heights.{no_key, height_of, higher, highest, one_over, over, height_in, is_low, IsHeight, AreHeights}

same_truth : (a b : Bool) → (a ≡ true → b ≡ true) → (b ≡ true → a ≡ true) → a ≡ b
same_truth true b onward back = sym (onward refl)
same_truth false true onward back = back refl
same_truth false false onward back = refl

all_same : (f g : Value → Bool) (items : List Value) → ((i : ℕ) (item : Value) → slice_get items i ≡ Some item → f item ≡ g item) → list_all f items ≡ list_all g items
all_same f g [] same = refl
all_same f g (item ∷ items) same = ap (λ b. b && list_all f items) (same 0 item refl) ∙ ap (λ b. g item && b) (all_same f g items (λ i other at. same (suc i) other at))

-- ---- what is a key stays one as tuples come

module _ (texts : ℕ) (old new : List (List Value)) (keeps : Keeps old new) (parts : (n : ℕ) (items : List Value) → slice_get old n ≡ Some items → AreBelow texts n items) where
  pub key_stays : (truths : Bool) (levels : ℕ) (v : Value) → IsBelow texts (length old) v → is_key_within truths levels new v ≡ is_key_within truths levels old v
  key_stays truths zero (Tuple n) below = refl
  key_stays truths (suc levels) (Tuple n) below =
      let x = item_at old n below in
      ap (parts_pass (is_key_within truths levels new)) (keeps n x.0 x.1)
      ∙ all_same (is_key_within truths levels new) (is_key_within truths levels old) x.0 (λ i item at. key_stays truths levels item
      (below_more texts n texts (length old) item (omega arith) (omega (arith, below)) (parts n x.0 x.1 i item at)))
      ∙ ap (parts_pass (is_key_within truths levels old)) (sym x.1)
  key_stays truths levels NoneValue below = refl
  key_stays truths levels (TruthValue b) below = refl
  key_stays truths levels (Int i) below = refl
  key_stays truths levels (Text n) below = refl
  key_stays truths levels (Range start end step) below = refl
  key_stays truths levels (Fn at) below = refl
  key_stays truths levels (Class at) below = refl
  key_stays truths levels (Exc n) below = refl
  key_stays truths levels (Builtin n) below = refl
  key_stays truths levels (Object n) below = refl

-- ---- the height of a value is what it is called

always : (levels : ℕ) → true ≡ nat_le 0 levels
always levels = sym (le-leb 0 levels (omega arith))

never_low : (levels : ℕ) → levels ≤ 100 → false ≡ nat_le 101 levels
never_low levels few = sym (lt-leb 101 levels (omega (arith, few)))

module _ (tuples : List (List Value)) (heights : List Height) (are : AreHeights tuples heights) where
  tuple_height : (truths : Bool) (n : ℕ) (found : Option Height) → slice_get heights n ≡ found → IsHeight truths tuples (Tuple n) (height_in truths (unwrap_or found no_key))
  tuple_height truths n (Some h) at levels few = are.each truths n h at levels few
  tuple_height truths n None at levels few = none levels few ∙ no_height truths
    where
      no_height : (truths : Bool) → false ≡ nat_le (height_in truths no_key) levels
      no_height true = never_low levels few
      no_height false = never_low levels few

      past : slice_get tuples n ≡ None
      past = slice_get_past tuples n (subst (λ m. m ≤ n) are.many (none_past heights n at))
        where
          none_past : (heights : List Height) (n : ℕ) → slice_get heights n ≡ None → length heights ≤ n
          none_past [] n at = omega arith
          none_past (h ∷ hs) zero at = absurd (none_is at)
            where
              none_is : Some h ≡ None → ⊥
              none_is = cc
          none_past (h ∷ hs) (suc n) at = let more = none_past hs n at in omega (arith, more)

      none : (levels : ℕ) → levels ≤ 100 → is_key_within truths levels tuples (Tuple n) ≡ false
      none zero few = refl
      none (suc levels) few = ap (parts_pass (is_key_within truths levels tuples)) past

  pub value_height : (truths : Bool) (v : Value) → IsHeight truths tuples v (height_in truths (height_of heights v))
  value_height truths (Tuple n) levels few = tuple_height truths n (slice_get heights n) refl levels few
  value_height true NoneValue levels few = always levels
  value_height false NoneValue levels few = always levels
  value_height true (TruthValue b) levels few = always levels
  value_height false (TruthValue b) levels few = never_low levels few
  value_height true (Int i) levels few = always levels
  value_height false (Int i) levels few = always levels
  value_height true (Text n) levels few = always levels
  value_height false (Text n) levels few = always levels
  value_height true (Range start end step) levels few = never_low levels few
  value_height false (Range start end step) levels few = never_low levels few
  value_height true (Fn at) levels few = never_low levels few
  value_height false (Fn at) levels few = never_low levels few
  value_height true (Class at) levels few = never_low levels few
  value_height false (Class at) levels few = never_low levels few
  value_height true (Exc n) levels few = never_low levels few
  value_height false (Exc n) levels few = never_low levels few
  value_height true (Builtin n) levels few = never_low levels few
  value_height false (Builtin n) levels few = never_low levels few
  value_height true (Object n) levels few = never_low levels few
  value_height false (Object n) levels few = never_low levels few

  -- the test by heights is the test for keys
  pub low_is_key : is_low heights ≡ is_key tuples
  low_is_key = fun_ext (λ truths. fun_ext (λ v. sym (value_height truths v 100 (omega arith))))

-- ---- the highest of several

both_low : (a b levels : ℕ) → nat_le (max a b) levels ≡ (nat_le a levels && nat_le b levels)
both_low a b levels = by (nat_le a levels) refl (nat_le b levels) refl
  where
    by : (first : Bool) → nat_le a levels ≡ first → (second : Bool) → nat_le b levels ≡ second → nat_le (max a b) levels ≡ (first && second)
    by true x true y = let p = leb-true a levels x in let q = leb-true b levels y in le-leb (max a b) levels (omega (arith, p, q))
    by true x false y = let q = leb-false b levels y in lt-leb (max a b) levels (omega (arith, q))
    by false x second y = let p = leb-false a levels x in lt-leb (max a b) levels (omega (arith, p))

height_of_both : (truths : Bool) (a b : Height) → height_in truths (higher a b) ≡ max (height_in truths a) (height_in truths b)
height_of_both true a b = refl
height_of_both false a b = refl

highest_low : (truths : Bool) (levels : ℕ) (heights : List Height) (so_far : Height) (items : List Value)
    → nat_le (height_in truths (highest heights so_far items)) levels ≡ (nat_le (height_in truths so_far) levels && list_all (λ v. nat_le (height_in truths (height_of heights v)) levels) items)
highest_low truths levels heights so_far [] = and_true (nat_le (height_in truths so_far) levels)
  where
    and_true : (b : Bool) → b ≡ (b && true)
    and_true true = refl
    and_true false = refl
highest_low truths levels heights so_far (v ∷ vs) =
    let here = height_of heights v in
    let rest = list_all (λ v. nat_le (height_in truths (height_of heights v)) levels) vs in
    highest_low truths levels heights (higher so_far here) vs
    ∙ ap (λ h. nat_le h levels && rest) (height_of_both truths so_far here)
    ∙ ap (λ b. b && rest) (both_low (height_in truths so_far) (height_in truths here) levels)
    ∙ and_assoc (nat_le (height_in truths so_far) levels) (nat_le (height_in truths here) levels) rest

-- ---- one over

over_low : (h levels : ℕ) → suc levels ≤ 100 → nat_le (one_over h) (suc levels) ≡ nat_le h levels
over_low h levels few = by (nat_lt h 100) refl
  where
    by : (b : Bool) → nat_lt h 100 ≡ b → nat_le (if b then h + 1 else 101) (suc levels) ≡ nat_le h levels
    by true is = same_truth (nat_le (h + 1) (suc levels)) (nat_le h levels)
        (λ low. let p = leb-true (h + 1) (suc levels) low in le-leb h levels (omega (arith, p)))
        (λ low. let p = leb-true h levels low in le-leb (h + 1) (suc levels) (omega (arith, p)))
    by false is =
        let p = ltb-false h 100 is in
        lt-leb 101 (suc levels) (omega (arith, few)) ∙ sym (lt-leb h levels (omega (arith, p, few)))

over_zero : (h : ℕ) → nat_le (one_over h) 0 ≡ false
over_zero h = by (nat_lt h 100)
  where
    by : (b : Bool) → nat_le (if b then h + 1 else 101) 0 ≡ false
    by true = lt-leb (h + 1) 0 (omega arith)
    by false = lt-leb 101 0 (omega arith)

height_over : (truths : Bool) (h : Height) → height_in truths (over h) ≡ one_over (height_in truths h)
height_over true h = refl
height_over false h = refl

-- ---- a tuple more

abbrev pub zero_height : Height
zero_height = record { plain = 0; normal = 0 }

module _ (texts : ℕ) (old new : List (List Value)) (items : List Value) (heights : List Height) (is : new ≡ old ++ items ∷ [])
    (parts : (n : ℕ) (xs : List Value) → slice_get new n ≡ Some xs → AreBelow texts n xs) (are : AreHeights old heights) where
  keeps : Keeps old new
  keeps = keeps_behind old new items is

  old_parts : (n : ℕ) (xs : List Value) → slice_get old n ≡ Some xs → AreBelow texts n xs
  old_parts n xs at = parts n xs (keeps n xs at)

  last_at : slice_get new (length old) ≡ Some items
  last_at = ap (λ xs. slice_get xs (length old)) is ∙ at_end old items

  new_height : (truths : Bool) → IsHeight truths new (Tuple (length old)) (height_in truths (over (highest heights zero_height items)))
  new_height truths zero few = sym (ap (λ h. nat_le h 0) (height_over truths (highest heights zero_height items)) ∙ over_zero (height_in truths (highest heights zero_height items)))
  new_height truths (suc levels) few =
      ap (parts_pass (is_key_within truths levels new)) last_at
      ∙ all_same (is_key_within truths levels new) (λ v. nat_le (height_in truths (height_of heights v)) levels) items (λ i item at.
      key_stays texts old new keeps old_parts truths levels item (parts (length old) items last_at i item at) ∙ value_height old heights are truths item levels (omega (arith, few)))
      ∙ sym (highest_low truths levels heights zero_height items ∙ ap (λ b. b && list_all (λ v. nat_le (height_in truths (height_of heights v)) levels) items) (zero_low truths))
      ∙ sym (over_low (height_in truths (highest heights zero_height items)) levels few)
      ∙ sym (ap (λ h. nat_le h (suc levels)) (height_over truths (highest heights zero_height items)))
    where
      zero_low : (truths : Bool) → nat_le (height_in truths zero_height) levels ≡ true
      zero_low true = le-leb 0 levels (omega arith)
      zero_low false = le-leb 0 levels (omega arith)

  pub heights_grow : AreHeights new (heights ++ over (highest heights zero_height items) ∷ [])
  heights_grow = record {
    many = length-behind heights (over (highest heights zero_height items)) ∙ ap suc are.many ∙ sym (ap length is ∙ length-behind old items);
    each = λ truths n h at. ⊎_elim
        (λ before. λ levels few. key_stays texts old new keeps old_parts truths levels (Tuple n) (subst (λ m. n < m) are.many (slice_get_within heights n h before)) ∙ are.each truths n h before levels few)
        (λ last. subst (λ m. IsHeight truths new (Tuple m) (height_in truths h)) (sym (last.0 ∙ are.many)) (subst (λ g. IsHeight truths new (Tuple (length old)) (height_in truths g)) (sym last.1) (new_height truths)))
        (which heights (over (highest heights zero_height items)) h n at);
  }
