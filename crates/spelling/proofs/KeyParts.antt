-- The parts of keys that are tuples.
use Rattle.std.proofs.Common.{rules, inl, inr, ◌≡◌, refl, sym, ap, ◌∙◌, arith, append-nil, ℕ, zero, suc, ◌-◌, ◌<◌, ◌≤◌, nat_lt, List, [], ◌∷◌, ◌++◌, length, slice_get, slice_index_or, Some, codes, drop, Bool, true, false}
use Rattle.std.proofs.lemmas.Bool.{cases_lt}
use Rattle.spelling.specs.Spelling.{end_words, follow}
use Rattle.py_model.specs.Printing.{height, height_in, key_texts, tuple_text, commas}
use Rattle.py_value.specs.Contents.{Contents, parts_by}
use Rattle.py_value.specs.Values.{ValuesView, IsNamed, AreNamed}
use Rattle.py_value.specs.declared.value.Value.{Value}
use Rattle.py_value.specs.declared.value.Value.TheVariants.{None as NoneValue}

pub there : (items : List Value) (i : ℕ) → i < length items → slice_get items i ≡ Some (slice_index_or items i NoneValue)
there [] i less = absurd (omega (arith, less))
there (x ∷ items) zero less = refl
there (x ∷ items) (suc i) less = there items i (omega (arith, less))

pub item_named : (values : ValuesView) (items : List Value) → AreNamed values items → (i : ℕ) → i < length items → IsNamed values (slice_index_or items i NoneValue)
item_named values items named i less = named i (slice_index_or items i NoneValue) (there items i less)

below : (a b : ℕ) → a < b → nat_lt a b ≡ true
below a b less = search rules

above : (a b : ℕ) → b ≤ a → nat_lt a b ≡ false
above a b past = search rules

pub low_tuple : (levels h : ℕ) → (levels ≡ 0 → ⊥) → nat_lt (levels - 1) h ≡ nat_lt levels (suc h)
low_tuple levels h more = elim (cases_lt (levels - 1) h) [
  | inl less ↦ below (levels - 1) h less ∙ sym (below levels (suc h) (omega (arith, less)))
  | inr past ↦ above (levels - 1) h past ∙ sym (above levels (suc h) (omega (arith, past, more)))
]

pub item_low : (f : Value → Contents) (items : List Value) (levels : ℕ) → height_in (parts_by f items) ≤ levels → (i : ℕ) → i < length items → height (f (slice_index_or items i NoneValue)) ≤ levels
item_low f [] levels low i less = absurd (omega (arith, less))
item_low f (x ∷ items) levels low zero less = omega (arith, low)
item_low f (x ∷ items) levels low (suc i) less = item_low f items levels (omega (arith, low)) i (omega (arith, less))

count_texts : (f : Value → Contents) (items : List Value) → length (key_texts (parts_by f items)) ≡ length items
count_texts f [] = refl
count_texts f (x ∷ items) = ap suc (count_texts f items)

pub tuple_words : (items : List (List ℕ)) → codes "(" ++ (commas items ++ end_words (length items)) ≡ tuple_text items
tuple_words [] = refl
tuple_words (item ∷ []) = ap (λ words. codes "(" ++ (words ++ codes ",)")) (append-nil item)
tuple_words (item ∷ (other ∷ rest)) = refl

drop_all : (items : List Value) (i : ℕ) → length items ≤ i → drop i items ≡ []
drop_all [] zero past = refl
drop_all [] (suc i) past = refl
drop_all (x ∷ items) zero past = absurd (omega (arith, past))
drop_all (x ∷ items) (suc i) past = drop_all items i (omega (arith, past))

follow_none : (first : Bool) → follow first [] ≡ []
follow_none true = refl
follow_none false = refl

pub all_spelled : (f : Value → Contents) (items : List Value) (i : ℕ) (first : Bool) (text : List ℕ) → length items ≤ i
    → text ++ follow first (key_texts (parts_by f (drop i items))) ≡ codes "(" ++ commas (key_texts (parts_by f items))
    → text ++ end_words (length items) ≡ tuple_text (key_texts (parts_by f items))
all_spelled f items i first text past is =
    let all = key_texts (parts_by f items) in
    let whole : text ≡ codes "(" ++ commas all =
    sym (append-nil text) ∙ (ap (λ rest. text ++ rest) (sym (ap (λ left. follow first (key_texts (parts_by f left))) (drop_all items i past) ∙ follow_none first)) ∙ is) in
    ap (λ words. words ++ end_words (length items)) whole
    ∙ (ap (λ n. codes "(" ++ (commas all ++ end_words n)) (sym (count_texts f items)) ∙ tuple_words all)
