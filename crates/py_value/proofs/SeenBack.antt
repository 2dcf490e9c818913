-- What a location without numbers leads to has these contents.
use Rattle.std.proofs.Common.{◌≡◌, ℕ, zero, suc, ◌<◌, Bool, true, false, List, [], ◌∷◌, length, slice_get, Option, Some, unwrap_or, refl, sym, ap, subst, ◌∙◌, if◌then◌else◌}
use Rattle.std.specs.Prelude.{None as Absent}
use Rattle.std.specs.Option.{option_map, option_and_then}
use Rattle.std.specs.Str.{bytes_eq}
use Rattle.std.specs.Cmp.Lexicographic.{pointwise}
use Rattle.std.proofs.lemmas.Option.{same_Some, slice_get_within}
use Rattle.std.proofs.lemmas.Slice.Eq.{bytes_eq-Decides}
use Rattle.py_value.specs.declared.value.Value.{Value}
use Rattle.py_value.specs.declared.value.Value.TheVariants.{None as Nothing, Bool as Truth, Int, Text, Tuple, Range, Fn, Class, Exc, Builtin, Object}
use Rattle.py_value.specs.contracts.value.ValuePartialEq.TheImpl.{ghosts}
use Rattle.py_value.specs.declared.access.Location.{Location}
use Rattle.py_value.specs.declared.access.Location.TheVariants.{Var, Len, Item, Order, File, Offset, Closed, Method, Base}
use Rattle.py_value.specs.Values.{ValuesView, AreInterned, IsNamed, AreNamed}
use Rattle.py_value.specs.Contents.{Contents, Parts, nothing, truth, int, text, tuple, range, function, class, exception_class, builtin, object, no_parts, part, parts_by, contents}
use Rattle.py_value.specs.Seen.{SeenLocation, var_at, len_at, item_at, entry_at, order_at, file_at, offset_at, closed_at, method_at, base_at, IsNamedLocation, location_seen, location_at, value_at, values_at, number_by, bytes_of, entry_of}
use Rattle.py_value.proofs.Equality.{values_decide}
use Rattle.py_value.proofs.NormalForms.{tuple_contents}

-- what was mapped
record Mapped {A B : Type 0} (f : A → B) (found : Option A) (y : B) : Type 0 where
  pub item : A
  pub there : found ≡ Some item
  pub is : f item ≡ y

mapped : {A B : Type 0} (f : A → B) (found : Option A) (y : B) → option_map f found ≡ Some y → Mapped f found y
mapped f Absent y is = cc
mapped f (Some x) y is = record { item = x; there = refl; is = same_Some (f x) y is }

record Chained {A B : Type 0} (f : A → Option B) (found : Option A) (y : B) : Type 0 where
  pub item : A
  pub there : found ≡ Some item
  pub is : f item ≡ Some y

chained : {A B : Type 0} (f : A → Option B) (found : Option A) (y : B) → option_and_then f found ≡ Some y → Chained f found y
chained f Absent y is = cc
chained f (Some x) y is = record { item = x; there = refl; is = is }

-- the item that was found by a test
record Finds {A : Type 0} (test : A → Bool) (xs : List A) (i : ℕ) : Type 0 where
  pub item : A
  pub at : slice_get xs i ≡ Some item
  pub passes : test item ≡ true

finds : {A : Type 0} (test : A → Bool) (xs : List A) (i : ℕ) → number_by test xs ≡ Some i → Finds test xs i
finds test [] i is = cc
finds test (y ∷ ys) i is = by (test y) refl (λ j found. finds test ys j found) is
  where
    by : (b : Bool) → test y ≡ b → ((j : ℕ) → number_by test ys ≡ Some j → Finds test ys j) → (if b then Some 0 else option_map suc (number_by test ys)) ≡ Some i → Finds test (y ∷ ys) i
    by true passes more found = record { item = y; at = ap (slice_get (y ∷ ys)) (sym (same_Some 0 i found)); passes = passes }
    by false passes more found =
        let one = mapped suc (number_by test ys) i found in
        let later = more one.item one.there in
        record { item = later.item; at = ap (slice_get (y ∷ ys)) (sym one.is) ∙ later.at; passes = later.passes }

-- the value has these contents, and so have the values of a list
record IsValueOf (view : ValuesView) (c : Contents) (v : Value) : Type 0 where
  pub named : IsNamed view v
  pub same : contents view v ≡ c

record AreValuesOf (view : ValuesView) (ps : Parts) (vs : List Value) : Type 0 where
  pub named : AreNamed view vs
  pub same : parts_by (contents view) vs ≡ ps

named_front : (view : ValuesView) (v : Value) (vs : List Value) → IsNamed view v → AreNamed view vs → AreNamed view (v ∷ vs)
named_front view v vs first rest zero item at = subst (IsNamed view) (same_Some v item at) first
named_front view v vs first rest (suc i) item at = rest i item at

part_front : (view : ValuesView) (v : Value) (vs : List Value) (c : Contents) (ps : Parts) → contents view v ≡ c → parts_by (contents view) vs ≡ ps → parts_by (contents view) (v ∷ vs) ≡ part c ps
part_front view v vs c ps one more = ap (λ x. part x (parts_by (contents view) vs)) one ∙ ap (part c) more

module _ (view : ValuesView) (interned : AreInterned view) where
  text_is : (bytes : List ℕ) (i : ℕ) → number_by (bytes_eq bytes) view.texts ≡ Some i → (i < length view.texts) × (bytes_of view i ≡ bytes)
  text_is bytes i is =
      let found = finds (bytes_eq bytes) view.texts i is in
      (slice_get_within view.texts i found.item found.at, ap (λ x. unwrap_or x []) found.at ∙ sym ((bytes_eq-Decides bytes found.item).0 found.passes))

  tuple_is : (ps : Parts) (v : Value) → ((vs : List Value) → values_at view ps ≡ Some vs → AreValuesOf view ps vs) → value_at view (tuple ps) ≡ Some v → IsValueOf view (tuple ps) v
  tuple_is ps v parts is =
      let items = chained (λ (vs : List Value). option_map Tuple (number_by (pointwise ghosts.eq vs) view.tuples)) (values_at view ps) v is in
      let number = mapped Tuple (number_by (pointwise ghosts.eq items.item) view.tuples) v items.is in
      let found = finds (pointwise ghosts.eq items.item) view.tuples number.item number.there in
      let same : items.item ≡ found.item = (values_decide items.item found.item).0 found.passes in
      let within = slice_get_within view.tuples number.item found.item found.at in
      subst (IsValueOf view (tuple ps)) number.is (record {
        named = within;
        same = tuple_contents view interned number.item items.item (found.at ∙ ap Some (sym same)) ∙ ap tuple (parts items.item items.there).same;
      })

  parts_are : (c : Contents) (ps : Parts) (vs : List Value) → ((v : Value) → value_at view c ≡ Some v → IsValueOf view c v) → ((us : List Value) → values_at view ps ≡ Some us → AreValuesOf view ps us)
      → values_at view (part c ps) ≡ Some vs → AreValuesOf view (part c ps) vs
  parts_are c ps vs one more is =
      let first = chained (λ (v : Value). option_map (λ (us : List Value). v ∷ us) (values_at view ps)) (value_at view c) vs is in
      let rest = mapped (λ (us : List Value). first.item ∷ us) (values_at view ps) vs first.is in
      let a = one first.item first.there in
      let b = more rest.item rest.there in
      subst (AreValuesOf view (part c ps)) rest.is (record { named = named_front view first.item rest.item a.named b.named; same = part_front view first.item rest.item c ps a.same b.same })

  plain : (c : Contents) (v w : Value) → IsNamed view v → contents view v ≡ c → Some v ≡ Some w → IsValueOf view c w
  plain c v w named same is = subst (IsValueOf view c) (same_Some v w is) (record { named = named; same = same })

  mutual
    value_is : (c : Contents) (v : Value) → value_at view c ≡ Some v → IsValueOf view c v
    value_is nothing v is = plain nothing Nothing v tt refl is
    value_is (truth b) v is = plain (truth b) (Truth b) v tt refl is
    value_is (int i) v is = plain (int i) (Int i) v tt refl is
    value_is (range start end step) v is = plain (range start end step) (Range start end step) v tt refl is
    value_is (function place) v is = plain (function place) (Fn place) v tt refl is
    value_is (class place) v is = plain (class place) (Class place) v tt refl is
    value_is (exception_class number) v is = plain (exception_class number) (Exc number) v tt refl is
    value_is (builtin number) v is = plain (builtin number) (Builtin number) v tt refl is
    value_is (object name) v is = plain (object name) (Object name) v tt refl is
    value_is (text bytes) v is =
        let number = mapped Text (number_by (bytes_eq bytes) view.texts) v is in
        let found = text_is bytes number.item number.there in
        subst (IsValueOf view (text bytes)) number.is (record { named = found.0; same = ap text found.1 })
    value_is (tuple ps) v is = tuple_is ps v (λ vs found. values_are ps vs found) is

    values_are : (ps : Parts) (vs : List Value) → values_at view ps ≡ Some vs → AreValuesOf view ps vs
    values_are no_parts vs is = subst (AreValuesOf view no_parts) (same_Some [] vs is) (record { named = λ i item at. cc; same = refl })
    values_are (part c ps) vs is = parts_are c ps vs (λ v found. value_is c v found) (λ us found. values_are ps us found) is

  -- a location with these contents is named, and they are its own
  abbrev IsLocationOf : SeenLocation → Location → Type 0
  IsLocationOf place l = IsNamedLocation view l × (location_seen view l ≡ place)

  location_plain : (place : SeenLocation) (m l : Location) → IsNamedLocation view m → location_seen view m ≡ place → Some m ≡ Some l → IsLocationOf place l
  location_plain place m l named same is = subst (IsLocationOf place) (same_Some m l is) (named, same)

  pub location_is : (place : SeenLocation) (l : Location) → location_at view place ≡ Some l → IsNamedLocation view l × (location_seen view l ≡ place)
  location_is (var_at scope name) l is =
      let number = mapped (Var scope) (number_by (bytes_eq name) view.texts) l is in
      let found = text_is name number.item number.there in
      subst (IsLocationOf (var_at scope name)) number.is (found.0, ap (var_at scope) found.1)
  location_is (len_at o) l is = location_plain (len_at o) (Len o) l tt refl is
  location_is (item_at o i) l is = location_plain (item_at o i) (Item o i) l tt refl is
  location_is (entry_at o key) l is =
      let number = mapped (entry_of o) (value_at view key) l is in
      let found = value_is key number.item number.there in
      subst (IsLocationOf (entry_at o key)) number.is (found.named, ap (entry_at o) found.same)
  location_is (order_at o) l is = location_plain (order_at o) (Order o) l tt refl is
  location_is (file_at path) l is =
      let number = mapped File (number_by (bytes_eq path) view.texts) l is in
      let found = text_is path number.item number.there in
      subst (IsLocationOf (file_at path)) number.is (found.0, ap file_at found.1)
  location_is (offset_at o) l is = location_plain (offset_at o) (Offset o) l tt refl is
  location_is (closed_at o) l is = location_plain (closed_at o) (Closed o) l tt refl is
  location_is (method_at place name) l is =
      let number = mapped (Method place) (number_by (bytes_eq name) view.texts) l is in
      let found = text_is name number.item number.there in
      subst (IsLocationOf (method_at place name)) number.is (found.0, ap (method_at place) found.1)
  location_is (base_at place) l is = location_plain (base_at place) (Base place) l tt refl is
