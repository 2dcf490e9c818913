-- The keys of an order, as keys are put behind the others and taken out.
use Rattle.std.proofs.Common.{◌≡◌, ℕ, zero, suc, ◌+◌, ◌-◌, ◌<◌, ◌≤◌, nat_lt, Bool, true, false, List, [], ◌∷◌, ◌++◌, length, map, refl, sym, ap, subst, ◌∙◌, arith, if◌then◌else◌, lt-ltb, ltb-true, true≢false}
use Rattle.std.proofs.Math.Path.{fun_ext}
use Rattle.std.proofs.lemmas.List.{map-append}
use Rattle.py_value.specs.declared.value.Value.{Value}
use Rattle.py_value.specs.contracts.value.ValuePartialEq.TheImpl.{ghosts as values}
use Rattle.py_value.specs.Changes.{has_key, with_key, without_key}
use Rattle.py_value.specs.Contents.{Contents, contents}
use Rattle.py_value.specs.KeyOf.{normal}
use Rattle.py_value.specs.Same.{same_value}
use Rattle.py_value.specs.Values.{ValuesView, IsNamed}
use Rattle.py_value.proofs.Equality.{value_same, value_own}
use Rattle.py_value.proofs.SameContents.{same_contents}
use Rattle.py_value.proofs.SameTests.{value_same as contents_same, value_own as contents_own}
use Rattle.row_words.specs.Fits.{Each}
use Rattle.slice_things.specs.declared.forms.Forms.{Forms}
use Rattle.slice_things.specs.Counts.{often, count_of, deleted}
use Rattle.slice_things.specs.Forms.{form_in, AreForms}
use Rattle.held_rows.specs.declared.settling.Settling.{Settling}
use Rattle.held_rows.specs.Settled.{AreFew, less, more, left, Settles, AreKeys}

same_tests : (a b : Bool) → (a ≡ true → b ≡ true) → (b ≡ true → a ≡ true) → a ≡ b
same_tests true b there back = sym (there refl)
same_tests false true there back = back refl
same_tests false false there back = refl

-- ---- numbers of forms

own_less : (f : Value) (d : Value → ℕ) → less f d f ≡ d f - 1
own_less f d = ap (λ b. if b then d f - 1 else d f) (value_own f)

own_more : (f : Value) (d : Value → ℕ) → more f d f ≡ 1 + d f
own_more f d = ap (λ b. (if b then 1 else 0) + d f) (value_own f)

other_less : (f g : Value) (d : Value → ℕ) → values.eq f g ≡ false → less f d g ≡ d g
other_less f g d is = ap (λ b. if b then d g - 1 else d g) is

other_more : (f g : Value) (d : Value → ℕ) → values.eq f g ≡ false → more f d g ≡ 0 + d g
other_more f g d is = ap (λ b. (if b then 1 else 0) + d g) is

turned : (f g : Value) → values.eq f g ≡ values.eq g f
turned f g = same_tests (values.eq f g) (values.eq g f) (λ is. subst (λ h. values.eq h f ≡ true) (value_same f g is) (value_own f)) (λ is. subst (λ h. values.eq h g ≡ true) (value_same g f is) (value_own g))

less_more : (f : Value) (d : Value → ℕ) → less f (more f d) ≡ d
less_more f d = fun_ext (λ g. by (values.eq f g) (d g))
  where
    by : (b : Bool) (n : ℕ) → (if b then ((if b then 1 else 0) + n) - 1 else (if b then 1 else 0) + n) ≡ n
    by true n = omega arith
    by false n = omega arith

more_less : (f : Value) (d : Value → ℕ) → 0 < d f → more f (less f d) ≡ d
more_less f d some = fun_ext (λ g. by g (values.eq f g) refl)
  where
    by : (g : Value) (b : Bool) → values.eq f g ≡ b → (if b then 1 else 0) + (if b then d g - 1 else d g) ≡ d g
    by g true is = let same : d f ≡ d g = ap d (value_same f g is) in omega (arith, some, same)
    by g false is = omega arith

less_other : (f g : Value) (d : Value → ℕ) → values.eq f g ≡ false → less g (more f d) ≡ more f (less g d)
less_other f g d apart = fun_ext (λ h. by h (values.eq g h) (values.eq f h) refl refl)
  where
    by : (h : Value) (b c : Bool) → values.eq g h ≡ b → values.eq f h ≡ c → (if b then ((if c then 1 else 0) + d h) - 1 else (if c then 1 else 0) + d h) ≡ (if c then 1 else 0) + (if b then d h - 1 else d h)
    by h true true one two = absurd (true≢false (sym two ∙ (ap (values.eq f) (sym (value_same g h one)) ∙ apart)))
    by h true false one two = omega arith
    by h false true one two = omega arith
    by h false false one two = omega arith

-- ---- what is left, by forms

module _ (numbers : List ℕ) where
  abbrev form : Value → Value
  form v = form_in numbers v

  abbrev without : Value → List Value → List Value
  without f [] = []
  without f (v ∷ vs) = if values.eq f (form v) then vs else v ∷ without f vs

  abbrev count : Value → List Value → ℕ
  count f vs = count_of numbers f vs

  none_out : (d : Value → ℕ) (v : Value) → nat_lt 0 (d (form v)) ≡ false → d (form v) ≡ 0
  none_out d v is = by (d (form v)) is
    where
      by : (n : ℕ) → nat_lt 0 n ≡ false → n ≡ 0
      by zero is = refl
      by (suc n) is = absurd (true≢false (sym (lt-ltb 0 (suc n) (omega arith)) ∙ is))

  zero_out : (n : ℕ) → n ≤ 0 → nat_lt 0 n ≡ false
  zero_out n few = by (nat_lt 0 n) refl
    where
      by : (b : Bool) → nat_lt 0 n ≡ b → b ≡ false
      by true is = let some = ltb-true 0 n is in absurd (omega (arith, some, few))
      by false is = refl

  pub left_behind : (v : Value) (vs : List Value) (d : Value → ℕ) → d (form v) ≤ count (form v) vs → left numbers d (vs ++ v ∷ []) ≡ left numbers d vs ++ v ∷ []
  left_behind v [] d few = ap (λ b. if b then left numbers (less (form v) d) [] else v ∷ []) (zero_out (d (form v)) few)
  left_behind v (u ∷ us) d few = by (left_behind v us) (nat_lt 0 (d (form u))) refl (values.eq (form u) (form v)) refl
    where
      by : ((e : Value → ℕ) → e (form v) ≤ count (form v) us → left numbers e (us ++ v ∷ []) ≡ left numbers e us ++ v ∷ []) → (b : Bool) → nat_lt 0 (d (form u)) ≡ b → (t : Bool) → values.eq (form u) (form v) ≡ t
          → (if b then left numbers (less (form u) d) (us ++ v ∷ []) else u ∷ left numbers d (us ++ v ∷ [])) ≡ (if b then left numbers (less (form u) d) us else u ∷ left numbers d us) ++ v ∷ []
      by again true is true same =
          let now : less (form u) d (form v) ≡ d (form v) - 1 = ap (λ b. if b then d (form v) - 1 else d (form v)) same in
          let many : count (form v) (u ∷ us) ≡ 1 + count (form v) us = ap (λ b. (if b then 1 else 0) + count (form v) us) same in
          again (less (form u) d) (omega (arith, now, many, few))
      by again true is false same =
          let now : less (form u) d (form v) ≡ d (form v) = ap (λ b. if b then d (form v) - 1 else d (form v)) same in
          let many : count (form v) (u ∷ us) ≡ 0 + count (form v) us = ap (λ b. (if b then 1 else 0) + count (form v) us) same in
          again (less (form u) d) (omega (arith, now, many, few))
      by again false is true same =
          let none : d (form u) ≡ 0 = none_out d u is in
          let here : d (form u) ≡ d (form v) = ap d (value_same (form u) (form v) same) in
          ap (λ rest. u ∷ rest) (again d (omega (arith, none, here)))
      by again false is false same =
          let many : count (form v) (u ∷ us) ≡ 0 + count (form v) us = ap (λ b. (if b then 1 else 0) + count (form v) us) same in
          ap (λ rest. u ∷ rest) (again d (omega (arith, many, few)))

  -- one more is taken out: the first of its form among those that are left
  pub left_without : (f : Value) (vs : List Value) (d : Value → ℕ) → d f < count f vs → left numbers (more f d) vs ≡ without f (left numbers d vs)
  left_without f [] d some = absurd (omega (arith, some))
  left_without f (u ∷ us) d some = step (left_without f us) (values.eq f (form u)) refl (nat_lt 0 (d (form u))) refl
    where
      fu : Value
      fu = form u

      -- the test of the first key with one more taken out
      after : (b : Bool) → nat_lt 0 (more f d fu) ≡ b → left numbers (more f d) (u ∷ us) ≡ (if b then left numbers (less fu (more f d)) us else u ∷ left numbers (more f d) us)
      after b is = ap (λ t. if t then left numbers (less fu (more f d)) us else u ∷ left numbers (more f d) us) is

      before : (b : Bool) → nat_lt 0 (d fu) ≡ b → left numbers d (u ∷ us) ≡ (if b then left numbers (less fu d) us else u ∷ left numbers d us)
      before b is = ap (λ t. if t then left numbers (less fu d) us else u ∷ left numbers d us) is

      step : ((e : Value → ℕ) → e f < count f us → left numbers (more f e) us ≡ without f (left numbers e us)) → (t : Bool) → values.eq f fu ≡ t → (b : Bool) → nat_lt 0 (d fu) ≡ b → left numbers (more f d) (u ∷ us) ≡ without f (left numbers d (u ∷ us))
      step again true same b is =
          let here : f ≡ fu = value_same f fu same in
          let one : more f d fu ≡ 1 + d fu = ap (λ g. more f d g) (sym here) ∙ own_more f d ∙ ap (λ g. 1 + d g) here in
          let first : left numbers (more f d) (u ∷ us) ≡ left numbers d us = after true (lt-ltb 0 (more f d fu) (omega (arith, one))) ∙ ap (λ g. left numbers (less g (more f d)) us) (sym here) ∙ ap (λ e. left numbers e us) (less_more f d) in
          let many : count f (u ∷ us) ≡ 1 + count f us = ap (λ c. (if c then 1 else 0) + count f us) (turned fu f ∙ same) in
          first ∙ by again b is here many
        where
          by : ((e : Value → ℕ) → e f < count f us → left numbers (more f e) us ≡ without f (left numbers e us)) → (b : Bool) → nat_lt 0 (d fu) ≡ b → f ≡ fu → count f (u ∷ us) ≡ 1 + count f us → left numbers d us ≡ without f (left numbers d (u ∷ us))
          by again true is here many =
              let low : 0 < d fu = ltb-true 0 (d fu) is in
              let same_out : d f ≡ d fu = ap d here in
              let own : less f d f ≡ d f - 1 = own_less f d in
              sym (ap (without f) (before true is ∙ ap (λ g. left numbers (less g d) us) (sym here))
              ∙ sym (again (less f d) (omega (arith, own, low, same_out, many, some))) ∙ ap (λ e. left numbers e us) (more_less f d (omega (arith, low, same_out))))
          by again false is here many = sym (ap (without f) (before false is) ∙ ap (λ c. if c then left numbers d us else u ∷ without f (left numbers d us)) same)
      step again false same b is =
          let many : count f (u ∷ us) ≡ 0 + count f us = ap (λ c. (if c then 1 else 0) + count f us) (turned fu f ∙ same) in
          let one : more f d fu ≡ 0 + d fu = other_more f fu d same in
          by again b is many one
        where
          by : ((e : Value → ℕ) → e f < count f us → left numbers (more f e) us ≡ without f (left numbers e us)) → (b : Bool) → nat_lt 0 (d fu) ≡ b → count f (u ∷ us) ≡ 0 + count f us → more f d fu ≡ 0 + d fu → left numbers (more f d) (u ∷ us) ≡ without f (left numbers d (u ∷ us))
          by again true is many one =
              let low : 0 < d fu = ltb-true 0 (d fu) is in
              let own : less fu d f ≡ d f = other_less fu f d (turned fu f ∙ same) in
              after true (lt-ltb 0 (more f d fu) (omega (arith, one, low))) ∙ ap (λ e. left numbers e us) (less_other f fu d same)
              ∙ again (less fu d) (omega (arith, own, many, some)) ∙ sym (ap (without f) (before true is))
          by again false is many one =
              let none : d fu ≡ 0 = none_out d u is in
              after false (zero_out (more f d fu) (omega (arith, one, none))) ∙ ap (λ rest. u ∷ rest) (again d (omega (arith, many, some)))
              ∙ sym (ap (without f) (before false is) ∙ ap (λ c. if c then left numbers d us else u ∷ without f (left numbers d us)) same)

  pub left_many : (f : Value) (vs : List Value) (d : Value → ℕ) → d f ≤ count f vs → count f (left numbers d vs) + d f ≡ count f vs
  left_many f [] d few = omega (arith, few)
  left_many f (u ∷ us) d few = by (left_many f us) (nat_lt 0 (d (form u))) refl (values.eq (form u) f) refl
    where
      by : ((e : Value → ℕ) → e f ≤ count f us → count f (left numbers e us) + e f ≡ count f us) → (b : Bool) → nat_lt 0 (d (form u)) ≡ b → (t : Bool) → values.eq (form u) f ≡ t
          → count f (if b then left numbers (less (form u) d) us else u ∷ left numbers d us) + d f ≡ count f (u ∷ us)
      by again true is true same =
          let here : form u ≡ f = value_same (form u) f same in
          let low : 0 < d (form u) = ltb-true 0 (d (form u)) is in
          let same_out : d (form u) ≡ d f = ap d here in
          let now : less (form u) d f ≡ d f - 1 = ap (λ c. if c then d f - 1 else d f) same in
          let many : count f (u ∷ us) ≡ 1 + count f us = ap (λ c. (if c then 1 else 0) + count f us) same in
          let rest = again (less (form u) d) (omega (arith, now, many, few)) in
          omega (arith, rest, now, many, low, same_out)
      by again true is false same =
          let now : less (form u) d f ≡ d f = other_less (form u) f d same in
          let many : count f (u ∷ us) ≡ 0 + count f us = ap (λ c. (if c then 1 else 0) + count f us) same in
          let rest = again (less (form u) d) (omega (arith, now, many, few)) in
          omega (arith, rest, now, many)
      by again false is true same =
          let none : d (form u) ≡ 0 = none_out d u is in
          let same_out : d (form u) ≡ d f = ap d (value_same (form u) f same) in
          let rest = again d (omega (arith, none, same_out)) in
          omega (arith, rest)
      by again false is false same =
          let many : count f (u ∷ us) ≡ 0 + count f us = ap (λ c. (if c then 1 else 0) + count f us) same in
          let rest = again d (omega (arith, many, few)) in
          omega (arith, rest)

  pub left_each : (P : Value → Type 0) (vs : List Value) (d : Value → ℕ) → Each P vs → Each P (left numbers d vs)
  left_each P [] d all = tt
  left_each P (u ∷ us) d all = by (λ e. left_each P us e all.1) (nat_lt 0 (d (form u)))
    where
      by : ((e : Value → ℕ) → Each P (left numbers e us)) → (b : Bool) → Each P (if b then left numbers (less (form u) d) us else u ∷ left numbers d us)
      by again true = again (less (form u) d)
      by again false = (all.0, again d)

each_more : {A : Type 0} (P : A → Type 0) (items : List A) (item : A) → Each P items → P item → Each P (items ++ item ∷ [])
each_more P [] item all one = (one, tt)
each_more P (first ∷ items) item all one = (all.0, each_more P items item all.1 one)

count_behind : (numbers : List ℕ) (f : Value) (vs : List Value) (v : Value) → count_of numbers f (vs ++ v ∷ []) ≡ (if values.eq (form_in numbers v) f then 1 else 0) + count_of numbers f vs
count_behind numbers f [] v = refl
count_behind numbers f (u ∷ us) v = let rest = count_behind numbers f us v in omega (arith, rest)

-- ---- what is left, by contents

module _ (view : ValuesView) (forms : Forms) (are : AreForms view forms) where
  abbrev numbers : List ℕ
  numbers = forms.numbers.items

  key_test : (v w : Value) → IsNamed view v → IsNamed view w → values.eq (form_in numbers v) (form_in numbers w) ≡ same_value (normal (contents view v)) (normal (contents view w))
  key_test v w named also =
      let one = are.each v named in
      let other = are.each w also in
      same_tests (values.eq (form_in numbers v) (form_in numbers w)) (same_value (normal (contents view v)) (normal (contents view w)))
      (λ is. subst (λ c. same_value c (normal (contents view w)) ≡ true) (one.form_is) (subst (λ c. same_value (contents forms.values (form_in numbers v)) c ≡ true) other.form_is
      (subst (λ g. same_value (contents forms.values (form_in numbers v)) (contents forms.values g) ≡ true) (value_same (form_in numbers v) (form_in numbers w) is) (contents_own (contents forms.values (form_in numbers v))))))
      (λ is. subst (λ g. values.eq (form_in numbers v) g ≡ true) (same_contents forms.values are.interned (form_in numbers v) (form_in numbers w) one.named other.named
      (one.form_is ∙ contents_same (normal (contents view v)) (normal (contents view w)) is ∙ sym other.form_is)) (value_own (form_in numbers v)))

  has_by_count : (key : Value) → IsNamed view key → (vs : List Value) → Each (IsNamed view) vs → has_key (contents view key) (map (contents view) vs) ≡ nat_lt 0 (count_of numbers (form_in numbers key) vs)
  has_by_count key named [] all = refl
  has_by_count key named (v ∷ vs) all = by (has_by_count key named vs all.1) (same_value (normal (contents view key)) (normal (contents view v))) refl
    where
      by : has_key (contents view key) (map (contents view) vs) ≡ nat_lt 0 (count_of numbers (form_in numbers key) vs) → (b : Bool) → same_value (normal (contents view key)) (normal (contents view v)) ≡ b
          → (if b then true else has_key (contents view key) (map (contents view) vs)) ≡ nat_lt 0 ((if values.eq (form_in numbers v) (form_in numbers key) then 1 else 0) + count_of numbers (form_in numbers key) vs)
      by again true is =
          let test : values.eq (form_in numbers v) (form_in numbers key) ≡ true = turned (form_in numbers v) (form_in numbers key) ∙ key_test key v named all.0 ∙ is in
          sym (ap (λ t. nat_lt 0 ((if t then 1 else 0) + count_of numbers (form_in numbers key) vs)) test ∙ lt-ltb 0 (1 + count_of numbers (form_in numbers key) vs) (omega arith))
      by again false is =
          let test : values.eq (form_in numbers v) (form_in numbers key) ≡ false = turned (form_in numbers v) (form_in numbers key) ∙ key_test key v named all.0 ∙ is in
          again ∙ ap (nat_lt 0) (none (count_of numbers (form_in numbers key) vs)) ∙ sym (ap (λ t. nat_lt 0 ((if t then 1 else 0) + count_of numbers (form_in numbers key) vs)) test)
        where
          none : (n : ℕ) → n ≡ 0 + n
          none n = omega arith

  without_by_form : (key : Value) → IsNamed view key → (vs : List Value) → Each (IsNamed view) vs → map (contents view) (without numbers (form_in numbers key) vs) ≡ without_key (contents view key) (map (contents view) vs)
  without_by_form key named [] all = refl
  without_by_form key named (v ∷ vs) all = by (without_by_form key named vs all.1) (values.eq (form_in numbers key) (form_in numbers v)) (same_value (normal (contents view key)) (normal (contents view v))) (key_test key v named all.0)
    where
      by : map (contents view) (without numbers (form_in numbers key) vs) ≡ without_key (contents view key) (map (contents view) vs) → (a b : Bool) → a ≡ b → map (contents view) (if a then vs else v ∷ without numbers (form_in numbers key) vs) ≡ (if b then map (contents view) vs else contents view v ∷ without_key (contents view key) (map (contents view) vs))
      by again true true same = refl
      by again false false same = ap (λ rest. contents view v ∷ rest) again
      by again true false same = absurd cc
      by again false true same = absurd cc

  module _ (old : Settling) (keys : List Contents) (before : Settles view forms old keys) (key : Value) (named : IsNamed view key) where
    abbrev out : Value → ℕ
    out f = often f old.out

    few : (f : Value) → out f ≤ count_of numbers f old.slots.items
    few f = let counted = before.counted f in omega (arith, counted)

    there_is : often (form_in numbers key) old.there ≡ count_of numbers (form_in numbers key) (left numbers out old.slots.items)
    there_is =
        let all = left_many numbers (form_in numbers key) old.slots.items out (few (form_in numbers key)) in
        let counted = before.counted (form_in numbers key) in
        omega (arith, all, counted)

    has_is : has_key (contents view key) keys ≡ nat_lt 0 (often (form_in numbers key) old.there)
    has_is = ap (has_key (contents view key)) (sym before.keys_are) ∙ has_by_count key named (left numbers out old.slots.items) (left_each numbers (IsNamed view) old.slots.items out before.named) ∙ ap (nat_lt 0) (sym there_is)

    pub put_step : (new : Settling) → new.slots.items ≡ old.slots.items ++ key ∷ [] → ((f : Value) → often f new.there ≡ (if values.eq (form_in numbers key) f then 1 else 0) + often f old.there) → new.out ≡ old.out
        → Settles view forms new (keys ++ contents view key ∷ [])
    put_step new slots there outs = record {
      keys_are = ap (λ these. map (contents view) (left numbers (λ f. often f new.out) these)) slots ∙ ap (λ o. map (contents view) (left numbers (λ f. often f o) (old.slots.items ++ key ∷ []))) outs
          ∙ ap (map (contents view)) (left_behind numbers key old.slots.items out (few (form_in numbers key))) ∙ map-append (contents view) (left numbers out old.slots.items) (key ∷ [])
          ∙ ap (λ these. these ++ contents view key ∷ []) before.keys_are;
      counted = λ f.
          let counted = before.counted f in
          let more_there = there f in
          let behind : count_of numbers f new.slots.items ≡ (if values.eq (form_in numbers key) f then 1 else 0) + count_of numbers f old.slots.items = ap (count_of numbers f) slots ∙ count_behind numbers f old.slots.items key in
          let same : often f new.out ≡ often f old.out = ap (often f) outs in
          omega (arith, counted, more_there, behind, same);
      named = subst (Each (IsNamed view)) (sym slots) (each_more (IsNamed view) old.slots.items key before.named named);
    }

    pub with_new : often (form_in numbers key) old.there ≡ 0 → keys ++ contents view key ∷ [] ≡ with_key (contents view key) keys
    with_new none = sym (ap (λ b. if b then keys else keys ++ contents view key ∷ []) (has_is ∙ ap (nat_lt 0) none))

    pub with_there : 0 < often (form_in numbers key) old.there → keys ≡ with_key (contents view key) keys
    with_there some = sym (ap (λ b. if b then keys else keys ++ contents view key ∷ []) (has_is ∙ lt-ltb 0 (often (form_in numbers key) old.there) some))

    pub without_step : (new : Settling) → new.slots ≡ old.slots → 0 < often (form_in numbers key) old.there
        → ((f : Value) → often f new.there ≡ deleted (form_in numbers key) f (often f old.there)) → ((f : Value) → often f new.out ≡ (if values.eq (form_in numbers key) f then 1 else 0) + often f old.out)
        → Settles view forms new (without_key (contents view key) keys)
    without_step new slots some there outs = record {
      keys_are = ap (λ s. map (contents view) (left numbers (λ f. often f new.out) s.items)) slots ∙ ap (λ d. map (contents view) (left numbers d old.slots.items)) (fun_ext outs)
          ∙ ap (map (contents view)) (left_without numbers (form_in numbers key) old.slots.items out less_out)
          ∙ without_by_form key named (left numbers out old.slots.items) (left_each numbers (IsNamed view) old.slots.items out before.named) ∙ ap (without_key (contents view key)) before.keys_are;
      counted = λ f. by f (values.eq (form_in numbers key) f) refl;
      named = subst (λ s. Each (IsNamed view) s.items) (sym slots) before.named;
    }
      where
        less_out : out (form_in numbers key) < count_of numbers (form_in numbers key) old.slots.items
        less_out = let counted = before.counted (form_in numbers key) in omega (arith, counted, some)

        by : (f : Value) (b : Bool) → values.eq (form_in numbers key) f ≡ b → count_of numbers f new.slots.items ≡ often f new.there + often f new.out
        by f true is =
            let counted = before.counted f in
            let same : count_of numbers f new.slots.items ≡ count_of numbers f old.slots.items = ap (λ s. count_of numbers f s.items) slots in
            let one : often f new.there ≡ often f old.there - 1 = there f ∙ ap (λ b. if b then often f old.there - 1 else often f old.there) is in
            let other : often f new.out ≡ 1 + often f old.out = outs f ∙ ap (λ b. (if b then 1 else 0) + often f old.out) is in
            let here : often (form_in numbers key) old.there ≡ often f old.there = ap (λ g. often g old.there) (value_same (form_in numbers key) f is) in
            omega (arith, counted, same, one, other, some, here)
        by f false is =
            let counted = before.counted f in
            let same : count_of numbers f new.slots.items ≡ count_of numbers f old.slots.items = ap (λ s. count_of numbers f s.items) slots in
            let one : often f new.there ≡ often f old.there = there f ∙ ap (λ b. if b then often f old.there - 1 else often f old.there) is in
            let other : often f new.out ≡ 0 + often f old.out = outs f ∙ ap (λ b. (if b then 1 else 0) + often f old.out) is in
            omega (arith, counted, same, one, other)

    without_none : (c : Contents) (ks : List Contents) → has_key c ks ≡ false → ks ≡ without_key c ks
    without_none c [] is = refl
    without_none c (k ∷ ks) is = by (without_none c ks) (same_value (normal c) (normal k)) is
      where
        by : (has_key c ks ≡ false → ks ≡ without_key c ks) → (b : Bool) → (if b then true else has_key c ks) ≡ false → k ∷ ks ≡ (if b then ks else k ∷ without_key c ks)
        by again true is = absurd cc
        by again false is = ap (λ rest. k ∷ rest) (again is)

    pub without_absent : often (form_in numbers key) old.there ≡ 0 → keys ≡ without_key (contents view key) keys
    without_absent none = without_none (contents view key) keys (has_is ∙ ap (nat_lt 0) none)

  -- ---- no key yet, and all steps

  pub none_settled : (s : Settling) → s.slots.items ≡ [] → s.there ≡ [] → s.out ≡ [] → Settles view forms s []
  none_settled s slots there outs = record {
    keys_are = ap (λ these. map (contents view) (left numbers (λ f. often f s.out) these)) slots;
    counted = λ f. ap (count_of numbers f) slots ∙ sym (ap (λ t. often f t + often f s.out) there ∙ ap (λ t. 0 + often f t) outs);
    named = subst (Each (IsNamed view)) (sym slots) tt;
  }

  pub all_left : (s : Settling) (keys : List Contents) (items : List Value) → Settles view forms s keys → items ≡ left numbers (λ f. often f s.out) s.slots.items → AreKeys view items keys
  all_left s keys items before is = record {
    is = ap (map (contents view)) is ∙ before.keys_are;
    named = subst (Each (IsNamed view)) (sym is) (left_each numbers (IsNamed view) s.slots.items (λ f. often f s.out) before.named);
  }

-- ---- no more keys are there or taken out than were put

pub few_put : (old new : Settling) (key : Value) → AreFew old → length new.slots.items ≡ length old.slots.items + 1
    → ((f : Value) → often f new.there ≡ (if values.eq key f then 1 else 0) + often f old.there) → new.out ≡ old.out → AreFew new
few_put old new key before longer there outs f = by (before f) (ap (often f) outs) (values.eq key f) (there f)
  where
    by : often f old.there + often f old.out ≤ length old.slots.items → often f new.out ≡ often f old.out → (b : Bool) → often f new.there ≡ (if b then 1 else 0) + often f old.there
        → often f new.there + often f new.out ≤ length new.slots.items
    by counted same true one = omega (arith, counted, same, one, longer)
    by counted same false none = omega (arith, counted, same, none, longer)

pub few_without : (old new : Settling) (key : Value) → AreFew old → new.slots ≡ old.slots → 0 < often key old.there → ((f : Value) → often f new.there ≡ deleted key f (often f old.there))
    → ((f : Value) → often f new.out ≡ (if values.eq key f then 1 else 0) + often f old.out) → AreFew new
few_without old new key before slots some there outs f = by (before f) (ap (λ s. length s.items) slots) (values.eq key f) refl
  where
    by : often f old.there + often f old.out ≤ length old.slots.items → length new.slots.items ≡ length old.slots.items → (b : Bool) → values.eq key f ≡ b
        → often f new.there + often f new.out ≤ length new.slots.items
    by counted long true is =
        let one : often f new.there ≡ often f old.there - 1 = there f ∙ ap (λ b. if b then often f old.there - 1 else often f old.there) is in
        let other : often f new.out ≡ 1 + often f old.out = outs f ∙ ap (λ b. (if b then 1 else 0) + often f old.out) is in
        let here : often key old.there ≡ often f old.there = ap (λ g. often g old.there) (value_same key f is) in
        omega (arith, counted, long, one, other, some, here)
    by counted long false is =
        let one : often f new.there ≡ often f old.there = there f ∙ ap (λ b. if b then often f old.there - 1 else often f old.there) is in
        let other : often f new.out ≡ 0 + often f old.out = outs f ∙ ap (λ b. (if b then 1 else 0) + often f old.out) is in
        omega (arith, counted, long, one, other)
