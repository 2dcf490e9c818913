-- What is held as a run begins is the store with which it begins.
use Rattle.std.proofs.Common.{◌≡◌, refl, sym, ap, subst, ◌∙◌, arith, ℕ, zero, suc, ◌+◌, ◌≤◌, ◌==◌, nat_eq, Bool, true, false, ◌&&◌, bytes_eq, codes, List, [], ◌∷◌, map, length, slice_get, unwrap_or, Option, Some, None, if◌then◌else◌}
use Rattle.std.specs.Option.{option_map, option_and_then}
use Rattle.std.proofs.Math.Path.{fun_ext}
use Rattle.std.proofs.lemmas.Bool.{eqb-true, eq-eqb, false≢true}
use Rattle.std.proofs.lemmas.Option.{slice_get_within}
use Rattle.std.proofs.lemmas.Slice.Eq.{bytes_eq-Decides}
use Rattle.object_store.specs.Keyed.{SeenMap, IsKeyed}
use Rattle.object_store.specs.Named.{IsNamedStore}
use Rattle.object_store.specs.Object.{item_in}
use Rattle.object_store.specs.Opening.{IsOpening, IsWord, AreWords, opening_at}
use Rattle.object_store.specs.Seen.{held_seen, seen_at, store_seen}
use Rattle.object_store.specs.Store.{StoreView, whole, held_at, name_at}
use Rattle.op_state.specs.Holding.{or_found, with_found, Holds}
use Rattle.op_state.specs.Opening.{first_of}
use Rattle.op_work.specs.Work.{Extends}
use Rattle.prov_base.specs.declared.place.Pos.{Pos}
use Rattle.py_model.specs.Store.{RunStore, opening, with_items, with_files, unset}
use Rattle.py_value.specs.Contents.{contents, text}
use Rattle.py_value.specs.Same.{same_location}
use Rattle.py_value.specs.Seen.{SeenLocation, var_at, len_at, item_at, entry_at, order_at, file_at, offset_at, closed_at, method_at, base_at, var_is, len_is, item_is, file_is, IsNamedLocation, location_seen, location_at, kind_seen, bytes_of}
use Rattle.py_value.specs.Values.{ValuesView, AreInterned}
use Rattle.py_value.specs.declared.access.Content.TheVariants.{Var as VarContent, Len as LenContent, Item as ItemContent}
use Rattle.py_value.specs.declared.access.Kind.TheVariants.{List as ListKind, File as FileKind}
use Rattle.py_value.specs.declared.access.Location.{Location}
use Rattle.py_value.specs.declared.access.Location.TheVariants.{Var, Len, Item, Entry, Order, File, Offset, Closed, Method, Base}
use Rattle.py_value.specs.declared.access.Mode.{Mode}
use Rattle.py_value.specs.declared.value.Value.{Value}
use Rattle.py_value.specs.declared.value.Value.TheVariants.{Text}

-- the laws that are used
abbrev pub OverContents : Type 0
OverContents = (values : ValuesView) (store : StoreView) (l : Location) → AreInterned values → IsNamedLocation values l
    → (store_seen values store).at (location_seen values l) ≡ option_map (held_seen values) (held_at store l)

abbrev pub SeenBack : Type 0
SeenBack = (view : ValuesView) (place : SeenLocation) (l : Location) → AreInterned view → location_at view place ≡ Some l → IsNamedLocation view l × (location_seen view l ≡ place)

-- what is no item, and no file, is where nothing was set
skip_items : (place : SeenLocation) → ((j : ℕ) → same_location (item_at 0 j) place ≡ false) → (words : List (List ℕ)) (i : ℕ) (store : SeenMap) → with_items 0 i words store place ≡ store place
skip_items place apart [] i store = refl
skip_items place apart (word ∷ words) i store = ap (λ b. if b then Some (item_is (text word)) else with_items 0 (i + 1) words store place) (apart i) ∙ skip_items place apart words (i + 1) store

skip_files : (place : SeenLocation) → ((path : List ℕ) → same_location (file_at path) place ≡ false) → (files : List (List ℕ × List ℕ)) (store : SeenMap) → with_files files store place ≡ store place
skip_files place apart [] store = refl
skip_files place apart (file ∷ files) store = ap (λ b. if b then Some (file_is file.1) else with_files files store place) (apart file.0) ∙ skip_files place apart files store

-- what stands at a file's path
first_file : (files : List (List ℕ × List ℕ)) (path : List ℕ) → with_files files unset (file_at path) ≡ or_found None (first_of files path)
first_file [] path = refl
first_file (file ∷ files) path = ap (λ rest. if bytes_eq file.0 path then Some (file_is file.1) else rest) (first_file files path) ∙ sym (found_if (bytes_eq file.0 path))
  where
    found_if : (b : Bool) → or_found None (if b then Some file.1 else first_of files path) ≡ (if b then Some (file_is file.1) else or_found None (first_of files path))
    found_if true = refl
    found_if false = refl

-- the items of the list with number 0
word_is : (values table : ValuesView) → Extends values table → (item : Option Value) (word : List ℕ) → IsWord values item word → option_map (λ (v : Value). item_is (contents table v)) item ≡ Some (item_is (text word))
word_is values table extends (Some (Text number)) word is = ap (λ bytes. Some (item_is (text (unwrap_or bytes [])))) (extends.texts number word is)
word_is values table extends item word is = absurd is

no_item : (i : ℕ) → item_in [] i ≡ None
no_item zero = refl
no_item (suc i) = refl

module _ (values table : ValuesView) (extends : Extends values table) (base : SeenMap) where
  -- a word stands at each place from one on, and at none before
  words_at : (items : List (Option Value)) (words : List (List ℕ)) → AreWords values items words → (j k : ℕ) → base (item_at 0 (j + k)) ≡ None
      → with_items 0 j words base (item_at 0 (j + k)) ≡ option_map (λ (v : Value). item_is (contents table v)) (item_in items k)
  words_at [] [] are j k none = none ∙ sym (ap (option_map (λ (v : Value). item_is (contents table v))) (no_item k))
  words_at [] (word ∷ words) are j k none = absurd are
  words_at (item ∷ items) [] are j k none = absurd are
  words_at (item ∷ items) (word ∷ words) are j zero none = ap (λ b. if b then Some (item_is (text word)) else with_items 0 (j + 1) words base (item_at 0 (j + 0))) (eq-eqb j (j + 0) (omega (arith)))
      ∙ sym (word_is values table extends item word are.0)
  words_at (item ∷ items) (word ∷ words) are j (suc k) none =
      let next : j + suc k ≡ j + 1 + k = omega (arith) in
      ap (λ b. if b then Some (item_is (text word)) else with_items 0 (j + 1) words base (item_at 0 (j + suc k))) (other_number j (suc k) (omega (arith)))
      ∙ (ap (λ n. with_items 0 (j + 1) words base (item_at 0 n)) next ∙ words_at items words are.1 (j + 1) k (ap (λ n. base (item_at 0 n)) (sym next) ∙ none))
    where
      other_number : (j k : ℕ) → 1 ≤ k → (0 == 0) && (j == (j + k)) ≡ false
      other_number j k some = by (nat_eq j (j + k)) refl
        where
          by : (b : Bool) → nat_eq j (j + k) ≡ b → b ≡ false
          by false is = refl
          by true is = let same = eqb-true j (j + k) is in absurd (omega (arith, same, some))

-- the words are as many as the items
as_many : (values : ValuesView) (items : List (Option Value)) (words : List (List ℕ)) → AreWords values items words → length items ≡ length words
as_many values [] [] are = refl
as_many values [] (word ∷ words) are = absurd are
as_many values (item ∷ items) [] are = absurd are
as_many values (item ∷ items) (word ∷ words) are = ap suc (as_many values items words are.1)

not_equal : (m n : ℕ) → (m ≡ n → ⊥) → nat_eq m n ≡ false
not_equal m n apart = by (nat_eq m n) refl
  where
    by : (b : Bool) → nat_eq m n ≡ b → b ≡ false
    by false is = refl
    by true is = absurd (apart (eqb-true m n is))

same_scope : (s t : ℕ) (n m : List ℕ) → var_at s n ≡ var_at t m → s ≡ t
same_scope s t n m is = cc

same_name : (s t : ℕ) (n m : List ℕ) → var_at s n ≡ var_at t m → n ≡ m
same_name s t n m is = cc

module _ (law : OverContents) (back : SeenBack) (values table : ValuesView) (path : List ℕ) (arguments : List (List ℕ)) (files : List (List ℕ × List ℕ)) (store : StoreView)
    (begins : IsOpening values (path ∷ arguments) store) (interned : AreInterned table) (extends : Extends values table) where
  abbrev pub base : SeenMap
  base = with_files files unset

  abbrev pub words : SeenMap
  words = with_items 0 0 (path ∷ arguments) base

  abbrev pub run : RunStore
  run = opening path arguments files

  -- what stands at a location that is named
  held : (l : Location) → IsNamedLocation table l → seen_at table store (location_seen table l) ≡ option_map (held_seen table) (opening_at begins.items begins.name begins.main l)
  held l named = law table store l interned named ∙ ap (option_map (held_seen table)) (begins.held l)

  name_there : slice_get table.texts begins.name ≡ Some (codes "__name__")
  name_there = extends.texts begins.name (codes "__name__") begins.name_is

  at_len : (o : ℕ) → run.at (len_at o) ≡ seen_at table store (len_at o)
  at_len o = ap (λ rest. if 0 == o then Some (len_is (length arguments + 1)) else rest) (skip_items (len_at o) (λ j. refl) (path ∷ arguments) 0 base ∙ skip_files (len_at o) (λ q. refl) files unset)
      ∙ (by (0 == o) refl ∙ sym (held (Len o) tt))
    where
      by : (b : Bool) → (0 == o) ≡ b → (if b then Some (len_is (length arguments + 1)) else None) ≡ option_map (held_seen table) (if o == 0 then Some (whole (LenContent (length begins.items))) else None)
      by true is = ap (λ n. Some (len_is n)) (suc_is (length arguments) ∙ sym (as_many values begins.items (path ∷ arguments) begins.items_are))
          ∙ sym (ap (λ b. option_map (held_seen table) (if b then Some (whole (LenContent (length begins.items))) else None)) (eq-eqb o 0 (sym (eqb-true 0 o is))))
        where
          suc_is : (n : ℕ) → n + 1 ≡ suc n
          suc_is n = omega (arith)
      by false is = sym (ap (λ b. option_map (held_seen table) (if b then Some (whole (LenContent (length begins.items))) else None)) (not_equal o 0 (λ same. false≢true (sym is ∙ eq-eqb 0 o (sym same)))))

  item_zero : (i : ℕ) → words (item_at 0 i) ≡ option_map (λ (v : Value). item_is (contents table v)) (item_in begins.items i)
  item_zero i =
      let none : 0 + i ≡ i = omega (arith) in
      ap (λ n. words (item_at 0 n)) (sym none) ∙ words_at values table extends base begins.items (path ∷ arguments) begins.items_are 0 i (skip_files (item_at 0 (0 + i)) (λ q. refl) files unset)

  item_seen : (item : Option Value) → option_map (λ (v : Value). item_is (contents table v)) item ≡ option_map (held_seen table) (option_map (λ v. whole (ItemContent v)) item)
  item_seen (Some v) = refl
  item_seen None = refl

  -- no other object has items
  item_other : (o : ℕ) → (0 == o) ≡ false → (ws : List (List ℕ)) (j i : ℕ) → with_items 0 j ws base (item_at o i) ≡ None
  item_other o apart [] j i = skip_files (item_at o i) (λ q. refl) files unset
  item_other o apart (w ∷ ws) j i = ap (λ b. if b && (j == i) then Some (item_is (text w)) else with_items 0 (j + 1) ws base (item_at o i)) apart ∙ item_other o apart ws (j + 1) i

  at_item : (o i : ℕ) → run.at (item_at o i) ≡ seen_at table store (item_at o i)
  at_item o i = by (0 == o) refl ∙ sym (held (Item o i) tt)
    where
      by : (b : Bool) → (0 == o) ≡ b → words (item_at o i) ≡ option_map (held_seen table) (if o == 0 then option_map (λ v. whole (ItemContent v)) (item_in begins.items i) else None)
      by true is = ap (λ n. words (item_at n i)) (sym (eqb-true 0 o is)) ∙ (item_zero i ∙ (item_seen (item_in begins.items i)
          ∙ sym (ap (λ b. option_map (held_seen table) (if b then option_map (λ v. whole (ItemContent v)) (item_in begins.items i) else None)) (eq-eqb o 0 (sym (eqb-true 0 o is))))))
      by false is = item_other o is (path ∷ arguments) 0 i
          ∙ sym (ap (λ b. option_map (held_seen table) (if b then option_map (λ v. whole (ItemContent v)) (item_in begins.items i) else None)) (not_equal o 0 (λ same. false≢true (sym is ∙ eq-eqb 0 o (sym same)))))

  at_order : (o : ℕ) → run.at (order_at o) ≡ seen_at table store (order_at o)
  at_order o = skip_items (order_at o) (λ j. refl) (path ∷ arguments) 0 base ∙ (skip_files (order_at o) (λ q. refl) files unset ∙ sym (held (Order o) tt))

  -- nothing stands at any other
  none_there : (place : SeenLocation) → ((l : Location) → location_seen table l ≡ place → opening_at begins.items begins.name begins.main l ≡ None) → seen_at table store place ≡ None
  none_there place none = by (location_at table place) refl
    where
      by : (found : Option Location) → location_at table place ≡ found → option_and_then (λ l. option_map (held_seen table) (held_at store l)) found ≡ None
      by None at = refl
      by (Some l) at = ap (option_map (held_seen table)) (begins.held l ∙ none l (back table place l interned at).1)

  and_true : (a b : Bool) → a && b ≡ true → (a ≡ true) × (b ≡ true)
  and_true true b is = (refl, is)
  and_true false b is = absurd (false≢true is)

  -- the script's own name alone stands
  at_var : (scope : ℕ) (name : List ℕ) → run.at (var_at scope name) ≡ seen_at table store (var_at scope name)
  at_var scope name = ap (λ rest. if (0 == scope) && bytes_eq (codes "__name__") name then Some (var_is (Some (text (codes "__main__")))) else rest) (skip_items (var_at scope name) (λ j. refl) (path ∷ arguments) 0 base ∙ skip_files (var_at scope name) (λ q. refl) files unset)
      ∙ by ((0 == scope) && bytes_eq (codes "__name__") name) refl
    where
      here : (0 ≡ scope) → (codes "__name__" ≡ name) → Some (var_is (Some (text (codes "__main__")))) ≡ seen_at table store (var_at scope name)
      here zero_is name_is =
          let own : bytes_of table begins.name ≡ codes "__name__" = ap (λ o. unwrap_or o []) name_there in
          let place : var_at 0 (bytes_of table begins.name) ≡ var_at scope name = ap (λ n. var_at 0 n) (own ∙ name_is) ∙ ap (λ n. var_at n name) zero_is in
          let main_is : bytes_of table begins.main ≡ codes "__main__" = ap (λ o. unwrap_or o []) (extends.texts begins.main (codes "__main__") begins.main_is) in
          let there = held (Var 0 begins.name) (slice_get_within table.texts begins.name (codes "__name__") name_there) in
          let its : option_map (held_seen table) (opening_at begins.items begins.name begins.main (Var 0 begins.name)) ≡ Some (var_is (Some (text (bytes_of table begins.main)))) =
          ap (λ b. option_map (held_seen table) (if b then Some (whole (VarContent (Some (Text begins.main)))) else None)) (eq-eqb begins.name begins.name refl) in
          ap (λ bytes. Some (var_is (Some (text bytes)))) (sym main_is) ∙ (sym (there ∙ its) ∙ ap (seen_at table store) place)

      apart : ((0 == scope) && bytes_eq (codes "__name__") name) ≡ false → (l : Location) → location_seen table l ≡ var_at scope name → opening_at begins.items begins.name begins.main l ≡ None
      apart other (Var s n) is = by_same ((s == 0) && (n == begins.name)) refl
        where
          by_same : (b : Bool) → ((s == 0) && (n == begins.name)) ≡ b → (if b then Some (whole (VarContent (Some (Text begins.main)))) else None) ≡ None
          by_same false test = refl
          by_same true test =
              let both = and_true (s == 0) (n == begins.name) test in
              let own : bytes_of table begins.name ≡ codes "__name__" = ap (λ o. unwrap_or o []) name_there in
              let scope_is : s ≡ scope = same_scope s scope (bytes_of table n) name is in
              let name_is : bytes_of table n ≡ name = same_name s scope (bytes_of table n) name is in
              let first : (0 == scope) ≡ true = eq-eqb 0 scope (sym (eqb-true s 0 both.0) ∙ scope_is) in
              let second : bytes_eq (codes "__name__") name ≡ true = (bytes_eq-Decides (codes "__name__") name).1 (sym own ∙ (ap (bytes_of table) (sym (eqb-true n begins.name both.1)) ∙ name_is)) in
              absurd (false≢true (sym other ∙ (ap (λ b. b && bytes_eq (codes "__name__") name) first ∙ second)))
      apart other (Len o) is = cc
      apart other (Item o i) is = cc
      apart other (Entry o key) is = refl
      apart other (Order o) is = cc
      apart other (File p) is = refl
      apart other (Offset o) is = refl
      apart other (Closed o) is = refl
      apart other (Method p n) is = refl
      apart other (Base p) is = refl

      by : (b : Bool) → ((0 == scope) && bytes_eq (codes "__name__") name) ≡ b → (if b then Some (var_is (Some (text (codes "__main__")))) else None) ≡ seen_at table store (var_at scope name)
      by true is = let both = and_true (0 == scope) (bytes_eq (codes "__name__") name) is in here (eqb-true 0 scope both.0) ((bytes_eq-Decides (codes "__name__") name).0 both.1)
      by false is = sym (none_there (var_at scope name) (apart is))

  -- what else stands nowhere
  at_entry : (o : ℕ) (key : _) → run.at (entry_at o key) ≡ seen_at table store (entry_at o key)
  at_entry o key = skip_items (entry_at o key) (λ j. refl) (path ∷ arguments) 0 base ∙ (skip_files (entry_at o key) (λ q. refl) files unset ∙ sym (none_there (entry_at o key) none))
    where
      none : (l : Location) → location_seen table l ≡ entry_at o key → opening_at begins.items begins.name begins.main l ≡ None
      none (Var s n) is = cc
      none (Len p) is = cc
      none (Item p i) is = cc
      none (Entry p k) is = refl
      none (Order p) is = cc
      none (File p) is = refl
      none (Offset p) is = refl
      none (Closed p) is = refl
      none (Method p n) is = refl
      none (Base p) is = refl

  at_file : (p : List ℕ) → run.at (file_at p) ≡ with_found (first_of files) (seen_at table store) (file_at p)
  at_file p = skip_items (file_at p) (λ j. refl) (path ∷ arguments) 0 base ∙ (first_file files p ∙ ap (λ content. or_found content (first_of files p)) (sym (none_there (file_at p) none)))
    where
      none : (l : Location) → location_seen table l ≡ file_at p → opening_at begins.items begins.name begins.main l ≡ None
      none (Var s n) is = cc
      none (Len q) is = cc
      none (Item q i) is = cc
      none (Entry q k) is = refl
      none (Order q) is = cc
      none (File q) is = refl
      none (Offset q) is = refl
      none (Closed q) is = refl
      none (Method q n) is = refl
      none (Base q) is = refl

  at_is : run.at ≡ with_found (first_of files) (seen_at table store)
  at_is = fun_ext each
    where
      each : (place : SeenLocation) → run.at place ≡ with_found (first_of files) (seen_at table store) place
      each (var_at scope name) = at_var scope name
      each (len_at o) = at_len o
      each (item_at o i) = at_item o i
      each (entry_at o key) = at_entry o key
      each (order_at o) = at_order o
      each (file_at p) = at_file p
      each (offset_at o) = skip_items (offset_at o) (λ j. refl) (path ∷ arguments) 0 base ∙ (skip_files (offset_at o) (λ q. refl) files unset ∙ sym (held (Offset o) tt))
      each (closed_at o) = skip_items (closed_at o) (λ j. refl) (path ∷ arguments) 0 base ∙ (skip_files (closed_at o) (λ q. refl) files unset ∙ sym (held (Closed o) tt))
      each (method_at p n) = skip_items (method_at p n) (λ j. refl) (path ∷ arguments) 0 base ∙ (skip_files (method_at p n) (λ q. refl) files unset ∙ sym (none_there (method_at p n) (no_method p n)))
        where
          no_method : (p : Pos) (n : List ℕ) (l : Location) → location_seen table l ≡ method_at p n → opening_at begins.items begins.name begins.main l ≡ None
          no_method p n (Var s m) is = cc
          no_method p n (Len q) is = cc
          no_method p n (Item q i) is = cc
          no_method p n (Entry q k) is = refl
          no_method p n (Order q) is = cc
          no_method p n (File q) is = refl
          no_method p n (Offset q) is = refl
          no_method p n (Closed q) is = refl
          no_method p n (Method q m) is = refl
          no_method p n (Base q) is = refl
      each (base_at p) = skip_items (base_at p) (λ j. refl) (path ∷ arguments) 0 base ∙ (skip_files (base_at p) (λ q. refl) files unset ∙ sym (held (Base p) tt))

  pub opening_holds : IsNamedStore table store → IsKeyed (seen_at table store) → Holds (first_of files) table store run
  opening_holds named keyed = record {
    interned = interned;
    named = named;
    at_is = at_is;
    kinds_are = ap (map (kind_seen table)) (sym begins.kinds_are);
    names_are = λ place. sym (ap (λ names. option_map (bytes_of table) (name_at (record store { names = names }) place)) begins.names_none);
    keyed = keyed;
    files = λ o p mode is. absurd (no_file o p mode (subst (λ ks. slice_get ks o ≡ Some (FileKind p mode)) begins.kinds_are is));
  }
    where
      no_file : (o p : ℕ) (mode : Mode) → slice_get (ListKind ∷ []) o ≡ Some (FileKind p mode) → ⊥
      no_file zero p mode is = cc
      no_file (suc o) p mode is = cc
