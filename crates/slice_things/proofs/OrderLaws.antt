-- The counts of an order, as keys come and go.
use Rattle.std.proofs.Common.{◌≡◌, ℕ, suc, ◌+◌, ◌-◌, ◌⊎◌, inl, inr, Bool, true, false, List, [], ◌∷◌, ◌++◌, map, refl, sym, ap, subst, ◌∙◌, arith, if◌then◌else◌, slice_get, Some, true≢false}
use Rattle.py_value.specs.declared.value.Value.{Value}
use Rattle.py_value.specs.contracts.value.ValuePartialEq.TheImpl.{ghosts as values}
use Rattle.py_value.specs.Changes.{has_key, with_key, without_key}
use Rattle.py_value.specs.Contents.{Contents, contents}
use Rattle.py_value.specs.KeyOf.{normal}
use Rattle.py_value.specs.Same.{same_value}
use Rattle.py_value.specs.Values.{ValuesView, IsNamed}
use Rattle.py_value.proofs.Equality.{value_same, value_own}
use Rattle.py_value.proofs.SameContents.{same_contents}
use Rattle.py_value.proofs.SameTests.{value_same as contents_same, value_own as contents_own}
use Rattle.row_words.specs.Fits.{Each}
use Rattle.slice_law.specs.Closed.{IsIn}
use Rattle.slice_things.specs.declared.forms.Forms.{Forms}
use Rattle.slice_things.specs.Counts.{count_of, at_least_one, inserted, deleted}
use Rattle.slice_things.specs.Forms.{form_in, AreForms}
use Rattle.slice_things.specs.Orders.{how_often, IsPlain, HasForm, AreCounts}

pub same_tests : (a b : Bool) → (a ≡ true → b ≡ true) → (b ≡ true → a ≡ true) → a ≡ b
same_tests true b there back = sym (there refl)
same_tests false true there back = back refl
same_tests false false there back = refl

-- ---- how often a key stands there

often_behind : (c key : Contents) (keys : List Contents) → how_often c (keys ++ key ∷ []) ≡ (if same_value c (normal key) then suc (how_often c keys) else how_often c keys)
often_behind c key [] = refl
often_behind c key (first ∷ keys) = by (same_value c (normal first)) (same_value c (normal key)) (how_often c (keys ++ key ∷ [])) (how_often c keys) (often_behind c key keys)
  where
    by : (t s : Bool) (m n : ℕ) → m ≡ (if s then suc n else n) → (if t then suc m else m) ≡ (if s then suc (if t then suc n else n) else (if t then suc n else n))
    by true true m n is = ap suc is
    by true false m n is = ap suc is
    by false true m n is = is
    by false false m n is = is

there_often : (key : Contents) (keys : List Contents) → has_key key keys ≡ true → at_least_one (how_often (normal key) keys) ≡ how_often (normal key) keys
there_often key [] is = absurd cc
there_often key (first ∷ keys) is = by (same_value (normal key) (normal first)) is (λ more. there_often key keys more)
  where
    by : (b : Bool) → (if b then true else has_key key keys) ≡ true → (has_key key keys ≡ true → at_least_one (how_often (normal key) keys) ≡ how_often (normal key) keys)
        → at_least_one (if b then suc (how_often (normal key) keys) else how_often (normal key) keys) ≡ (if b then suc (how_often (normal key) keys) else how_often (normal key) keys)
    by true is more = refl
    by false is more = more is

none_often : (key : Contents) (keys : List Contents) → has_key key keys ≡ false → how_often (normal key) keys ≡ 0
none_often key [] is = refl
none_often key (first ∷ keys) is = by (same_value (normal key) (normal first)) is (λ more. none_often key keys more)
  where
    by : (b : Bool) → (if b then true else has_key key keys) ≡ false → (has_key key keys ≡ false → how_often (normal key) keys ≡ 0)
        → (if b then suc (how_often (normal key) keys) else how_often (normal key) keys) ≡ 0
    by true is more = absurd cc
    by false is more = more is

often_with : (c key : Contents) (keys : List Contents) → how_often c (with_key key keys) ≡ (if same_value c (normal key) then at_least_one (how_often c keys) else how_often c keys)
often_with c key keys = by (has_key key keys) (same_value c (normal key)) refl refl
  where
    is_key : same_value c (normal key) ≡ true → c ≡ normal key
    is_key same = contents_same c (normal key) same

    by : (b s : Bool) → has_key key keys ≡ b → same_value c (normal key) ≡ s → how_often c (if b then keys else keys ++ key ∷ []) ≡ (if s then at_least_one (how_often c keys) else how_often c keys)
    by true true there same = subst (λ d. how_often d keys ≡ at_least_one (how_often d keys)) (sym (is_key same)) (sym (there_often key keys there))
    by true false there same = refl
    by false true there same =
        let none : how_often c keys ≡ 0 = subst (λ d. how_often d keys ≡ 0) (sym (is_key same)) (none_often key keys there) in
        often_behind c key keys ∙ ap (λ b. if b then suc (how_often c keys) else how_often c keys) same ∙ ap suc none ∙ sym (ap at_least_one none)
    by false false there same = often_behind c key keys ∙ ap (λ b. if b then suc (how_often c keys) else how_often c keys) same

often_without : (c key : Contents) (keys : List Contents) → how_often c (without_key key keys) ≡ (if same_value c (normal key) then how_often c keys - 1 else how_often c keys)
often_without c key [] = none (same_value c (normal key))
  where
    none : (s : Bool) → 0 ≡ (if s then 0 - 1 else 0)
    none true = refl
    none false = refl
often_without c key (first ∷ keys) =
    front (same_value (normal key) (normal first))
    ∙ step (same_value (normal key) (normal first)) (same_value c (normal key)) (same_value c (normal first)) (how_often c keys) (how_often c (without_key key keys)) first_is (λ same. apart same) (often_without c key keys)
  where
    -- the first key is the one
    first_is : same_value (normal key) (normal first) ≡ true → same_value c (normal first) ≡ same_value c (normal key)
    first_is is = ap (same_value c) (sym (contents_same (normal key) (normal first) is))

    -- c is the key
    apart : same_value c (normal key) ≡ true → same_value c (normal first) ≡ same_value (normal key) (normal first)
    apart same = ap (λ d. same_value d (normal first)) (contents_same c (normal key) same)

    less : (n : ℕ) → n ≡ suc n - 1
    less n = omega arith

    step : (b s t : Bool) (n m : ℕ) → (b ≡ true → t ≡ s) → (s ≡ true → t ≡ b) → m ≡ (if s then n - 1 else n)
        → (if b then n else (if t then suc m else m)) ≡ (if s then (if t then suc n else n) - 1 else (if t then suc n else n))
    step true true true n m one two is = less n
    step true true false n m one two is = absurd (true≢false (sym (one refl)))
    step true false true n m one two is = absurd (true≢false (one refl))
    step true false false n m one two is = refl
    step false true true n m one two is = absurd (true≢false (two refl))
    step false true false n m one two is = is
    step false false true n m one two is = ap suc is
    step false false false n m one two is = is

    front : (b : Bool) → how_often c (if b then keys else first ∷ without_key key keys)
        ≡ (if b then how_often c keys else (if same_value c (normal first) then suc (how_often c (without_key key keys)) else how_often c (without_key key keys)))
    front true = refl
    front false = refl

-- ---- which keys stand there

in_behind : (key c : Contents) (keys : List Contents) → IsIn (keys ++ key ∷ []) c → IsIn keys c ⊎ (key ≡ c)
in_behind key c [] (inl is) = inr is
in_behind key c [] (inr later) = absurd later
in_behind key c (first ∷ keys) (inl is) = inl (inl is)
in_behind key c (first ∷ keys) (inr later) = by (in_behind key c keys later)
  where
    by : IsIn keys c ⊎ (key ≡ c) → (((first ≡ c) ⊎ IsIn keys c) ⊎ (key ≡ c))
    by (inl is) = inl (inr is)
    by (inr is) = inr is

in_with : (key c : Contents) (keys : List Contents) → IsIn (with_key key keys) c → IsIn keys c ⊎ (key ≡ c)
in_with key c keys is = by (has_key key keys) is
  where
    by : (b : Bool) → IsIn (if b then keys else keys ++ key ∷ []) c → IsIn keys c ⊎ (key ≡ c)
    by true is = inl is
    by false is = in_behind key c keys is

in_without : (key c : Contents) (keys : List Contents) → IsIn (without_key key keys) c → IsIn keys c
in_without key c [] is = is
in_without key c (first ∷ keys) is = by (same_value (normal key) (normal first)) (λ later. in_without key c keys later) is
  where
    by : (b : Bool) → (IsIn (without_key key keys) c → IsIn keys c) → IsIn (if b then keys else first ∷ without_key key keys) c → (first ≡ c) ⊎ IsIn keys c
    by true more is = inr is
    by false more (inl is) = inl is
    by false more (inr later) = inr (more later)

-- ---- the counts

module _ (view : ValuesView) (forms : Forms) (are : AreForms view forms) where
  form_test : (f g : Value) → IsNamed forms.values f → IsNamed forms.values g → values.eq g f ≡ same_value (contents forms.values f) (contents forms.values g)
  form_test f g named also = same_tests (values.eq g f) (same_value (contents forms.values f) (contents forms.values g))
      (λ is. ap (λ v. same_value (contents forms.values f) (contents forms.values v)) (value_same g f is) ∙ contents_own (contents forms.values f))
      (λ is. ap (values.eq g) (same_contents forms.values are.interned f g named also (contents_same (contents forms.values f) (contents forms.values g) is)) ∙ value_own g)

  key_test : (f key : Value) → IsNamed forms.values f → IsNamed view key → values.eq (form_in forms.numbers.items key) f ≡ same_value (contents forms.values f) (normal (contents view key))
  key_test f key named known =
      let formed = are.each key known in
      form_test f (form_in forms.numbers.items key) named formed.named ∙ ap (same_value (contents forms.values f)) formed.form_is

  has_form : (key : Value) → IsNamed view key → IsPlain view key → HasForm forms (contents view key)
  has_form key known plain = let formed = are.each key known in record { form = form_in forms.numbers.items key; named = formed.named; form_is = formed.form_is; plain = plain }

  pub none_counted : AreCounts forms (λ f. 0) []
  none_counted = record { counted = λ f named. refl; formed = λ key is. absurd is }

  pub key_inserted : (counts : Value → ℕ) (keys : List Contents) (key : Value) → IsNamed view key → IsPlain view key → AreCounts forms counts keys
      → AreCounts forms (λ f. inserted (form_in forms.numbers.items key) f (counts f)) (with_key (contents view key) keys)
  key_inserted counts keys key known plain before = record {
    counted = λ f named.
        ap (λ b. if b then at_least_one (counts f) else counts f) (key_test f key named known)
        ∙ ap (λ n. if same_value (contents forms.values f) (normal (contents view key)) then at_least_one n else n) (before.counted f named)
        ∙ sym (often_with (contents forms.values f) (contents view key) keys);
    formed = λ c is. by c (in_with (contents view key) c keys is);
  }
    where
      by : (c : Contents) → IsIn keys c ⊎ (contents view key ≡ c) → HasForm forms c
      by c (inl is) = before.formed c is
      by c (inr is) = subst (HasForm forms) is (has_form key known plain)

  pub key_deleted : (counts : Value → ℕ) (keys : List Contents) (key : Value) → IsNamed view key → AreCounts forms counts keys
      → AreCounts forms (λ f. deleted (form_in forms.numbers.items key) f (counts f)) (without_key (contents view key) keys)
  key_deleted counts keys key known before = record {
    counted = λ f named.
        ap (λ b. if b then counts f - 1 else counts f) (key_test f key named known)
        ∙ ap (λ n. if same_value (contents forms.values f) (normal (contents view key)) then n - 1 else n) (before.counted f named)
        ∙ sym (often_without (contents forms.values f) (contents view key) keys);
    formed = λ c is. before.formed c (in_without (contents view key) c keys is);
  }

  pub keys_counted : (keys : List Value) → ((i : ℕ) (key : Value) → slice_get keys i ≡ Some key → IsNamed view key) → Each (IsPlain view) keys → AreCounts forms (λ f. count_of forms.numbers.items f keys) (map (contents view) keys)
  keys_counted [] known plain = none_counted
  keys_counted (key ∷ keys) known plain = both (known 0 key refl) plain.0 (keys_counted keys (λ i other at. known (suc i) other at) plain.1)
    where
      one : (b : Bool) (n : ℕ) → (if b then 1 else 0) + n ≡ (if b then suc n else n)
      one true n = omega arith
      one false n = omega arith

      by : IsNamed view key → IsPlain view key → AreCounts forms (λ f. count_of forms.numbers.items f keys) (map (contents view) keys) → (c : Contents) → (contents view key ≡ c) ⊎ IsIn (map (contents view) keys) c → HasForm forms c
      by here plainly rest c (inl is) = subst (HasForm forms) is (has_form key here plainly)
      by here plainly rest c (inr later) = rest.formed c later

      both : IsNamed view key → IsPlain view key → AreCounts forms (λ f. count_of forms.numbers.items f keys) (map (contents view) keys) → AreCounts forms (λ f. count_of forms.numbers.items f (key ∷ keys)) (map (contents view) (key ∷ keys))
      both here plainly rest = record {
        counted = λ f named.
            one (values.eq (form_in forms.numbers.items key) f) (count_of forms.numbers.items f keys)
            ∙ ap (λ b. if b then suc (count_of forms.numbers.items f keys) else count_of forms.numbers.items f keys) (key_test f key named here)
            ∙ ap (λ n. if same_value (contents forms.values f) (normal (contents view key)) then suc n else n) (rest.counted f named);
        formed = λ c is. by here plainly rest c is;
      }
