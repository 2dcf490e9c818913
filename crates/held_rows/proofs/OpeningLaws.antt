-- What is kept of a store before all moments, and once an object is made.
use Rattle.std.proofs.Common.{◌≡◌, ℕ, zero, suc, ◌+◌, ◌<◌, ◌==◌, ◌&&◌, Bool, true, false, List, [], ◌∷◌, ◌++◌, map, length, slice_get, unwrap_or, codes, eqb-true, true≢false, Option, Some, None, refl, sym, ap, subst, ◌∙◌, arith, if◌then◌else◌}
use Rattle.std.proofs.lemmas.Bool.{eq-eqb}
use Rattle.std.specs.Option.{option_map}
use Rattle.std.proofs.lemmas.Option.{same_Some}
use Rattle.std.proofs.lemmas.List.{map-append}
use Rattle.py_value.specs.declared.access.Kind.{Kind}
use Rattle.py_value.specs.declared.access.Kind.TheVariants.{List as ListKind}
use Rattle.py_value.specs.declared.access.Location.{Location}
use Rattle.py_value.specs.declared.access.Location.TheVariants.{Var, Len, Item, Entry, Order, File, Offset, Closed, Method, Base}
use Rattle.py_value.specs.declared.value.Value.TheVariants.{Text}
use Rattle.py_value.specs.Contents.{text}
use Rattle.py_value.specs.Named.{IsNamedKind}
use Rattle.py_value.specs.Same.{same_location}
use Rattle.py_value.specs.Seen.{SeenLocation, SeenContent, var_at, len_at, item_at, entry_at, order_at, file_at, offset_at, closed_at, method_at, base_at, var_is, len_is, item_is, order_is, file_is, location_seen, kind_seen}
use Rattle.py_value.specs.Values.{ValuesView}
use Rattle.py_model.specs.Store.{RunStore, empty, order_of, opening, unset, with_files, with_items}
use Rattle.row_words.specs.Fits.{Each}
use Rattle.slice_things.specs.declared.forms.Forms.{Forms}
use Rattle.held_rows.specs.declared.kept.Kept.TheVariants.{Nothing, Length, Item as KeptItem}
use Rattle.held_rows.specs.declared.pass.RowStore.{RowStore}
use Rattle.held_rows.specs.Kept.{first_at, kept_at, kept_seen, what_stands, IsNamedKept, AreTexts}
use Rattle.held_rows.specs.Leaves.{HoldsRows}
use Rattle.held_rows.specs.Steps.{steps_in, keys_after, IsNamedStep}

-- ---- an object more

at_more : {A : Type 0} (P : A → Type 0) (items : List A) (item : A) → ((o : ℕ) (x : A) → slice_get items o ≡ Some x → P x) → P item → (o : ℕ) (x : A) → slice_get (items ++ item ∷ []) o ≡ Some x → P x
at_more P [] item all one zero x at = subst P (same_Some item x at) one
at_more P [] item all one (suc o) x at = absurd cc
at_more P (first ∷ items) item all one zero x at = all 0 x at
at_more P (first ∷ items) item all one (suc o) x at = at_more P items item (λ i. all (suc i)) one o x at

pub made_step : (view : ValuesView) (forms : Forms) (old new : RowStore) (store : RunStore) (kind : Kind) → HoldsRows view forms old store → IsNamedKind view (Some kind)
    → new.kinds.items ≡ old.kinds.items ++ kind ∷ [] → new.words ≡ old.words → new.places ≡ old.places → new.orders ≡ old.orders → HoldsRows view forms new (record store { kinds = store.kinds ++ kind_seen view kind ∷ [] })
made_step view forms old new store kind before named kinds words places orders = record {
  kinds = ap (map (kind_seen view)) kinds ∙ map-append (kind_seen view) old.kinds.items (kind ∷ []) ∙ ap (λ these. these ++ kind_seen view kind ∷ []) before.kinds;
  kinds_named = λ o k at. at_more (λ one. IsNamedKind view (Some one)) old.kinds.items kind before.kinds_named named o k (sym (ap (λ these. slice_get these o) kinds) ∙ at);
  places = λ l also. subst (λ one. kept_seen view one ≡ what_stands (store.at (location_seen forms.values l))) (sym (same l)) (before.places l also);
  places_named = λ l. subst (IsNamedKept view) (sym (same l)) (before.places_named l);
  orders = λ o. subst (λ these. keys_after view (steps_in these.entries o) [] ≡ order_of store o) (sym orders) (before.orders o);
  orders_named = λ o. subst (λ these. Each (IsNamedStep view) (steps_in these.entries o)) (sym orders) (before.orders_named o);
}
  where
    same : (l : Location) → kept_at new.words.items new.places.entries l ≡ kept_at old.words.items old.places.entries l
    same l = ap (λ w. kept_at w.items new.places.entries l) words ∙ ap (λ these. kept_at old.words.items these.entries l) places

-- ---- before all moments

module _ (view : ValuesView) where
  many_texts : (numbers : List ℕ) (words : List (List ℕ)) → AreTexts view numbers words → length numbers ≡ length words
  many_texts [] [] are = refl
  many_texts (n ∷ numbers) (word ∷ words) are = ap suc (many_texts numbers words are.1)
  many_texts [] (word ∷ words) are = absurd are
  many_texts (n ∷ numbers) [] are = absurd are

  text_named : (numbers : List ℕ) (words : List (List ℕ)) → AreTexts view numbers words → (i : ℕ) → IsNamedKept view (unwrap_or (option_map (λ n. KeptItem (Text n)) (slice_get numbers i)) Nothing)
  text_named [] [] are i = tt
  text_named (n ∷ numbers) (word ∷ words) are zero = below view.texts n word are.0
    where
      below : {A : Type 0} (xs : List A) (i : ℕ) (x : A) → slice_get xs i ≡ Some x → i < length xs
      below [] i x at = absurd cc
      below (y ∷ xs) zero x at = omega arith
      below (y ∷ xs) (suc i) x at = let less = below xs i x at in omega (arith, less)
  text_named (n ∷ numbers) (word ∷ words) are (suc i) = text_named numbers words are.1 i
  text_named [] (word ∷ words) are i = absurd are
  text_named (n ∷ numbers) [] are i = absurd are

  first_named : (numbers : List ℕ) (words : List (List ℕ)) → AreTexts view numbers words → (l : Location) → IsNamedKept view (first_at numbers l)
  first_named numbers words are (Len o) = by (o == 0)
    where
      by : (b : Bool) → IsNamedKept view (if b then Length (length numbers) else Nothing)
      by true = tt
      by false = tt
  first_named numbers words are (Item o i) = by (o == 0)
    where
      by : (b : Bool) → IsNamedKept view (if b then unwrap_or (option_map (λ n. KeptItem (Text n)) (slice_get numbers i)) Nothing else Nothing)
      by true = text_named numbers words are i
      by false = tt
  first_named numbers words are (Var scope name) = tt
  first_named numbers words are (Entry o key) = tt
  first_named numbers words are (Order o) = tt
  first_named numbers words are (File path) = tt
  first_named numbers words are (Offset o) = tt
  first_named numbers words are (Closed o) = tt
  first_named numbers words are (Method class name) = tt
  first_named numbers words are (Base class) = tt

module _ (forms : Forms) (view : ValuesView) (files : List (List ℕ × List ℕ)) where
  unset_plain : (l : SeenLocation) → what_stands (unset l) ≡ None
  unset_plain (var_at scope name) = refl
  unset_plain (len_at o) = refl
  unset_plain (item_at o i) = refl
  unset_plain (entry_at o key) = refl
  unset_plain (order_at o) = refl
  unset_plain (file_at path) = refl
  unset_plain (offset_at o) = refl
  unset_plain (closed_at o) = refl
  unset_plain (method_at class name) = refl
  unset_plain (base_at class) = refl

  files_plain : (files : List (List ℕ × List ℕ)) (l : SeenLocation) → what_stands (with_files files unset l) ≡ None
  files_plain [] l = unset_plain l
  files_plain (file ∷ files) l = by (same_location (file_at file.0) l) (files_plain files l)
    where
      by : (b : Bool) → what_stands (with_files files unset l) ≡ None → what_stands (if b then Some (file_is file.1) else with_files files unset l) ≡ None
      by true more = refl
      by false more = more

  abbrev worded : ℕ → List (List ℕ) → SeenLocation → Option SeenContent
  worded i words = with_items 0 i words (with_files files unset)

  items_plain : (i : ℕ) (words : List (List ℕ)) (l : SeenLocation) → ((j : ℕ) → same_location (item_at 0 j) l ≡ false) → what_stands (worded i words l) ≡ None
  items_plain i [] l apart = files_plain files l
  items_plain i (word ∷ words) l apart =
      ap (λ b. what_stands (if b then Some (item_is (text word)) else worded (i + 1) words l)) (apart i) ∙ items_plain (i + 1) words l apart

  -- the words stand from a place on
  words_stand : (k : ℕ) (numbers : List ℕ) (words : List (List ℕ)) → AreTexts view numbers words → (j : ℕ)
      → kept_seen view (unwrap_or (option_map (λ n. KeptItem (Text n)) (slice_get numbers j)) Nothing) ≡ what_stands (worded k words (item_at 0 (k + j)))
  words_stand k [] [] are j = sym (files_plain files (item_at 0 (k + j)))
  words_stand k (n ∷ numbers) (word ∷ words) are zero =
      ap (λ bytes. Some (item_is (text (unwrap_or bytes [])))) are.0
      ∙ sym (ap (λ b. what_stands (if b then Some (item_is (text word)) else worded (k + 1) words (item_at 0 (k + 0)))) (eq-eqb k (k + 0) (omega arith)))
  words_stand k (n ∷ numbers) (word ∷ words) are (suc j) =
      words_stand (k + 1) numbers words are.1 j ∙ ap (λ m. what_stands (worded (k + 1) words (item_at 0 m))) next
      ∙ sym (ap (λ b. what_stands (if b then Some (item_is (text word)) else worded (k + 1) words (item_at 0 (k + suc j)))) (apart (k == (k + suc j)) refl))
    where
      next : (k + 1) + j ≡ k + suc j
      next = omega arith

      apart : (b : Bool) → (k == (k + suc j)) ≡ b → (k == (k + suc j)) ≡ false
      apart true is = absurd (omega (arith, eqb-true k (k + suc j) is))
      apart false is = is
  words_stand k [] (word ∷ words) are j = absurd are
  words_stand k (n ∷ numbers) [] are j = absurd are

  files_order : (files : List (List ℕ × List ℕ)) (o : ℕ) → with_files files unset (order_at o) ≡ Some (order_is [])
  files_order [] o = refl
  files_order (file ∷ files) o = files_order files o

  items_order : (i : ℕ) (words : List (List ℕ)) (o : ℕ) → with_items 0 i words (with_files files unset) (order_at o) ≡ Some (order_is [])
  items_order i [] o = files_order files o
  items_order i (word ∷ words) o = items_order (i + 1) words o

  module _ (path : List ℕ) (arguments : List (List ℕ)) (numbers : List ℕ) (are : AreTexts view numbers (path ∷ arguments)) where
    opening_item : (o i : ℕ) → kept_seen view (first_at numbers (Item o i)) ≡ what_stands (worded 0 (path ∷ arguments) (item_at o i))
    opening_item o i = by (o == 0) (0 == o) refl refl
      where
        from_0 : 0 + i ≡ i
        from_0 = omega arith

        by : (a b : Bool) → (o == 0) ≡ a → (0 == o) ≡ b
            → kept_seen view (if a then unwrap_or (option_map (λ n. KeptItem (Text n)) (slice_get numbers i)) Nothing else Nothing) ≡ what_stands (worded 0 (path ∷ arguments) (item_at o i))
        by true b here there =
            let first : 0 ≡ o = omega (arith, eqb-true o 0 here) in
            subst (λ p. kept_seen view (unwrap_or (option_map (λ n. KeptItem (Text n)) (slice_get numbers i)) Nothing) ≡ what_stands (worded 0 (path ∷ arguments) (item_at p i))) first
            (words_stand 0 numbers (path ∷ arguments) are i ∙ ap (λ m. what_stands (worded 0 (path ∷ arguments) (item_at 0 m))) from_0)
        by false false here there = sym (items_plain 0 (path ∷ arguments) (item_at o i) (λ j. ap (λ b. b && (j == i)) there))
        by false true here there = absurd (true≢false (sym (eq-eqb o 0 (omega (arith, eqb-true 0 o there))) ∙ here))

    opening_place : (l : Location) → kept_seen view (first_at numbers l) ≡ what_stands ((opening path arguments files).at (location_seen forms.values l))
    opening_place (Var scope name) = by (same_location (var_at 0 (codes "__name__")) (location_seen forms.values (Var scope name)))
      where
        by : (b : Bool) → None ≡ what_stands (if b then Some (var_is (Some (text (codes "__main__")))) else worded 0 (path ∷ arguments) (location_seen forms.values (Var scope name)))
        by true = refl
        by false = sym (items_plain 0 (path ∷ arguments) (location_seen forms.values (Var scope name)) (λ j. refl))
    opening_place (Len o) = by (o == 0) (0 == o) refl refl
      where
        by : (a b : Bool) → (o == 0) ≡ a → (0 == o) ≡ b → kept_seen view (if a then Length (length numbers) else Nothing)
            ≡ what_stands (if b then Some (len_is (length arguments + 1)) else worded 0 (path ∷ arguments) (len_at o))
        by true true here there = ap (λ n. Some (len_is n)) (many_texts view numbers (path ∷ arguments) are ∙ one (length arguments))
          where
            one : (n : ℕ) → suc n ≡ n + 1
            one n = omega arith
        by false false here there = sym (items_plain 0 (path ∷ arguments) (len_at o) (λ j. refl))
        by true false here there = absurd (true≢false (sym (eq-eqb 0 o (omega (arith, eqb-true o 0 here))) ∙ there))
        by false true here there = absurd (true≢false (sym (eq-eqb o 0 (omega (arith, eqb-true 0 o there))) ∙ here))
    opening_place (Item o i) = opening_item o i
    opening_place (Entry o key) = sym (items_plain 0 (path ∷ arguments) (location_seen forms.values (Entry o key)) (λ j. refl))
    opening_place (Order o) = sym (items_plain 0 (path ∷ arguments) (order_at o) (λ j. refl))
    opening_place (File name) = sym (items_plain 0 (path ∷ arguments) (location_seen forms.values (File name)) (λ j. refl))
    opening_place (Offset o) = sym (items_plain 0 (path ∷ arguments) (offset_at o) (λ j. refl))
    opening_place (Closed o) = sym (items_plain 0 (path ∷ arguments) (closed_at o) (λ j. refl))
    opening_place (Method class name) = sym (items_plain 0 (path ∷ arguments) (location_seen forms.values (Method class name)) (λ j. refl))
    opening_place (Base class) = sym (items_plain 0 (path ∷ arguments) (base_at class) (λ j. refl))

    pub opening_holds : (rows : RowStore) → rows.words.items ≡ numbers → rows.kinds.items ≡ ListKind ∷ [] → rows.places.entries ≡ [] → rows.orders.entries ≡ [] → HoldsRows view forms rows (opening path arguments files)
    opening_holds rows words kinds places orders = record {
      kinds = ap (map (kind_seen view)) kinds;
      kinds_named = λ o kind at. at_more (λ one. IsNamedKind view (Some one)) [] ListKind (λ i x none. absurd cc) tt o kind (sym (ap (λ these. slice_get these o) kinds) ∙ at);
      places = λ l named. subst (λ kept. kept_seen view kept ≡ what_stands ((opening path arguments files).at (location_seen forms.values l))) (sym (same l)) (opening_place l);
      places_named = λ l. subst (IsNamedKept view) (sym (same l)) (first_named view numbers (path ∷ arguments) are l);
      orders = λ o. subst (λ entries. keys_after view (steps_in entries o) [] ≡ order_of (opening path arguments files) o) (sym orders)
          (ap (λ content. order_of (record empty { at = λ l. content }) 0) (sym (items_order 0 (path ∷ arguments) o)));
      orders_named = λ o. subst (λ entries. Each (IsNamedStep view) (steps_in entries o)) (sym orders) tt;
    }
      where
        same : (l : Location) → kept_at rows.words.items rows.places.entries l ≡ first_at numbers l
        same l = ap (λ w. kept_at w rows.places.entries l) words ∙ ap (λ these. kept_at numbers these l) places
