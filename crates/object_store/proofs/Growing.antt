-- A store that is named stays so as texts and tuples come, and as a name is noted; it is named as a run begins.
use Rattle.std.proofs.Common.{◌≡◌, ℕ, zero, suc, ◌<◌, ◌≤◌, ◌==◌, ◌&&◌, Bool, true, false, List, [], ◌∷◌, length, slice_get, Option, Some, refl, sym, ap, subst, ◌∙◌, arith, eqb-true, if◌then◌else◌}
use Rattle.std.specs.Prelude.{None}
use Rattle.std.specs.Map.{lookup}
use Rattle.std.specs.Option.{option_map}
use Rattle.std.proofs.lemmas.Option.{same_Some, slice_get_within, slice_get-get_or}
use Rattle.prov_base.specs.declared.place.Pos.{Pos}
use Rattle.prov_base.specs.contracts.place.PosPartialEq.TheImpl.{ghosts as places}
use Rattle.py_value.specs.Named.{IsNamedContent, IsNamedChange, IsNamedAccess, AreNamedAccesses, IsNamedKind}
use Rattle.py_value.specs.Seen.{IsNamedLocation}
use Rattle.py_value.specs.Values.{ValuesView, IsNamed, AreNamed, Keeps as KeepsNumbers}
use Rattle.py_value.specs.declared.access.Access.{Access}
use Rattle.py_value.specs.declared.access.Access.TheVariants.{Read, Set, Update}
use Rattle.py_value.specs.declared.access.Change.{Change}
use Rattle.py_value.specs.declared.access.Change.TheVariants.{Insert, Delete, Append}
use Rattle.py_value.specs.declared.access.Content.{Content}
use Rattle.py_value.specs.declared.access.Content.TheVariants.{Var as VarContent, Len as LenContent, Item as ItemContent, Entry as EntryContent, Order as OrderContent, File as FileContent, Base as BaseContent}
use Rattle.py_value.specs.declared.access.Kind.{Kind}
use Rattle.py_value.specs.declared.access.Kind.TheVariants.{List as ListKind, Instance as InstanceKind, File as FileKind}
use Rattle.py_value.specs.declared.access.Location.{Location}
use Rattle.py_value.specs.declared.access.Location.TheVariants.{Var, Len, Item, Entry, Order, File, Method}
use Rattle.py_value.specs.declared.value.Value.{Value}
use Rattle.py_value.specs.declared.value.Value.TheVariants.{Text, Tuple}
use Rattle.object_store.specs.Named.{IsNamedStore, IsNamedHeld}
use Rattle.object_store.specs.Object.{item_in}
use Rattle.object_store.specs.Opening.{IsOpening, IsWord, AreWords, opening_at}
use Rattle.object_store.specs.Room.{IsNamedAccess as HasNamedText, AreNamedAccesses as HaveNamedTexts}
use Rattle.object_store.specs.Store.{StoreView, Held, whole, keys, bytes, held_at, kinds, name_at, Notes}

keeps_length : {A : Type 0} (xs ys : List A) → KeepsNumbers xs ys → length xs ≤ length ys
keeps_length [] ys keeps = omega arith
keeps_length (x ∷ xs) ys keeps =
    let last = slice_get-get_or (x ∷ xs) (length xs) x (omega arith) in
    let within = slice_get_within ys (length xs) _ (keeps (length xs) _ last) in
    omega (arith, within)

module _ (values more : ValuesView) (texts : length values.texts ≤ length more.texts) (tuples : length values.tuples ≤ length more.tuples) where
  value_more : (v : Value) → IsNamed values v → IsNamed more v
  value_more (Text text) named = omega (arith, named, texts)
  value_more (Tuple tuple) named = omega (arith, named, tuples)
  value_more v named = tt

  all_more : (vs : List Value) → AreNamed values vs → AreNamed more vs
  all_more vs named i item at = value_more item (named i item at)

  content_more : (content : Content) → IsNamedContent values content → IsNamedContent more content
  content_more (VarContent (Some v)) named = value_more v named
  content_more (ItemContent v) named = value_more v named
  content_more (EntryContent (Some entry)) named = (value_more entry.0 named.0, value_more entry.1 named.1)
  content_more (OrderContent ks) named = all_more ks named
  content_more (FileContent text) named = omega (arith, named, texts)
  content_more (BaseContent (Some v)) named = value_more v named
  content_more content named = tt

  location_more : (l : Location) → IsNamedLocation values l → IsNamedLocation more l
  location_more (Var scope name) named = omega (arith, named, texts)
  location_more (Entry o key) named = value_more key.value named
  location_more (File path) named = omega (arith, named, texts)
  location_more (Method class name) named = omega (arith, named, texts)
  location_more l named = tt

  held_more : (w : Held) → IsNamedHeld values w → IsNamedHeld more w
  held_more (whole content) named = content_more content named
  held_more (keys ks) named = all_more ks named
  held_more (bytes bs) named = tt

  kind_more : (made : Option Kind) → IsNamedKind values made → IsNamedKind more made
  kind_more (Some (InstanceKind of)) named = value_more of named
  kind_more (Some (FileKind path mode)) named = omega (arith, named, texts)
  kind_more made named = tt

  change_more : (change : Change) → IsNamedChange values change → IsNamedChange more change
  change_more (Insert v) named = value_more v named
  change_more (Delete v) named = value_more v named
  change_more (Append text) named = omega (arith, named, texts)

  access_more : (access : Access) → IsNamedAccess values access → IsNamedAccess more access
  access_more (Read l) named = location_more l named
  access_more (Set l content) named = (named.0, (location_more l named.1.0, content_more content named.1.1))
  access_more (Update l change) named = (named.0, (location_more l named.1.0, change_more change named.1.1))

  accesses_more : (plan : List Access) → AreNamedAccesses values plan → AreNamedAccesses more plan
  accesses_more [] named = tt
  accesses_more (access ∷ plan) named = (access_more access named.0, accesses_more plan named.1)

  store_more : (store : StoreView) → IsNamedStore values store → IsNamedStore more store
  store_more store named = record {
    held = λ l w at. let both = named.held l w at in (location_more l both.0, held_more w both.1);
    kinds_named = λ o kind at. kind_more (Some kind) (named.kinds_named o kind at);
    names_named = λ place name at. let within = named.names_named place name at in omega (arith, within, texts);
  }

module _ (values more : ValuesView) (texts : KeepsNumbers values.texts more.texts) (tuples : KeepsNumbers values.tuples more.tuples) where
  pub store_grown : (store : StoreView) → IsNamedStore values store → IsNamedStore more store
  store_grown store named = store_more values more (keeps_length values.texts more.texts texts) (keeps_length values.tuples more.tuples tuples) store named

  pub accesses_grown : (plan : List Access) → AreNamedAccesses values plan → AreNamedAccesses more plan
  accesses_grown plan named = accesses_more values more (keeps_length values.texts more.texts texts) (keeps_length values.tuples more.tuples tuples) plan named

-- what is asked of the texts of a plan where room for it is taken
text_named : (values : ValuesView) (access : Access) → IsNamedAccess values access → HasNamedText values access
text_named values (Read l) named = tt
text_named values (Set l content) named = tt
text_named values (Update l (Insert key)) named = tt
text_named values (Update l (Delete key)) named = tt
text_named values (Update l (Append text)) named = named.1.1

pub texts_named : (values : ValuesView) (plan : List Access) → AreNamedAccesses values plan → HaveNamedTexts values plan
texts_named values [] named k access at = absurd (nowhere at)
  where
    nowhere : None ≡ Some access → ⊥
    nowhere is = cc
texts_named values (first ∷ plan) named zero access at = subst (HasNamedText values) (same_Some first access at) (text_named values first named.0)
texts_named values (first ∷ plan) named (suc k) access at = texts_named values plan named.1 k access at

-- noted names are no location
held_noted : (old : StoreView) (names : List (Pos × ℕ)) (l : Location) → held_at (record old { names = names }) l ≡ held_at old l
held_noted old names (Item o i) = refl
held_noted old names (Order o) = refl
held_noted old names (File path) = refl
held_noted old names l = refl

pub named_noted : (values : ValuesView) (old new : StoreView) (place : Pos) (name : ℕ) → IsNamedStore values old → name < length values.texts → new ≡ record old { names = new.names }
    → Notes old new place name → IsNamedStore values new
named_noted values old new place name named within same notes = record {
  held = λ l w at. named.held l w (sym (ap (λ (s : StoreView). held_at s l) same ∙ held_noted old new.names l) ∙ at);
  kinds_named = λ o kind at. named.kinds_named o kind (ap (λ (s : StoreView). slice_get (kinds s) o) (sym same) ∙ at);
  names_named = λ other found at. by other found (places.eq place other) (sym (notes other) ∙ at);
}
  where
    by : (other : Pos) (found : ℕ) (b : Bool) → (if b then Some name else name_at old other) ≡ Some found → found < length values.texts
    by other found true is = subst (λ n. n < length values.texts) (same_Some name found is) within
    by other found false is = named.names_named other found is

-- the store as a run begins
pub none_is : {A : Type 0} {x : A} → None ≡ Some x → ⊥
none_is is = cc

word_named : (values : ValuesView) (item : Option Value) (word : List ℕ) (v : Value) → IsWord values item word → item ≡ Some v → IsNamed values v
word_named values (Some (Text number)) word v is at = subst (IsNamed values) (same_Some (Text number) v at) (slice_get_within values.texts number word is)
word_named values item word v is at = absurd is

words_named : (values : ValuesView) (items : List (Option Value)) (words : List (List ℕ)) → AreWords values items words → (i : ℕ) (v : Value) → item_in items i ≡ Some v → IsNamed values v
words_named values [] [] are i v at = cc
words_named values (item ∷ items) (word ∷ words) are zero v at = word_named values item word v are.0 at
words_named values (item ∷ items) (word ∷ words) are (suc i) v at = words_named values items words are.1 i v at
words_named values items words are i v at = absurd are

-- the items are texts
word_text : (values : ValuesView) (item : Option Value) (word : List ℕ) (v : Value) → IsWord values item word → item ≡ Some v → (number : ℕ) × (Text number ≡ v)
word_text values (Some (Text number)) word v is at = (number, same_Some (Text number) v at)
word_text values item word v is at = absurd is

pub item_text : (values : ValuesView) (items : List (Option Value)) (words : List (List ℕ)) → AreWords values items words → (i : ℕ) (v : Value) → item_in items i ≡ Some v → (number : ℕ) × (Text number ≡ v)
item_text values [] [] are i v at = absurd (none_is at)
item_text values (item ∷ items) (word ∷ words) are zero v at = word_text values item word v are.0 at
item_text values (item ∷ items) (word ∷ words) are (suc i) v at = item_text values items words are.1 i v at
item_text values items words are i v at = absurd are

module _ (values : ValuesView) (words : List (List ℕ)) (store : StoreView) (opening : IsOpening values words store) where
  abbrev Named : Location → Held → Type 0
  Named l w = IsNamedLocation values l × IsNamedHeld values w

  var_named : (scope text : ℕ) (w : Held) (one other : Bool) → (text == opening.name) ≡ other
      → (if one && other then Some (whole (VarContent (Some (Text opening.main)))) else None) ≡ Some w → Named (Var scope text) w
  var_named scope text w true true is at =
      let name = slice_get_within values.texts opening.name _ opening.name_is in
      let main = slice_get_within values.texts opening.main _ opening.main_is in
      (omega (arith, eqb-true text opening.name is, name), subst (IsNamedHeld values) (same_Some (whole (VarContent (Some (Text opening.main)))) w at) main)
  var_named scope text w true false is at = absurd (none_is at)
  var_named scope text w false other is at = absurd (none_is at)

  item_named : (o i : ℕ) (w : Held) (b : Bool) (found : Option Value) → item_in opening.items i ≡ found
      → (if b then option_map (λ (item : Value). whole (ItemContent item)) found else None) ≡ Some w → Named (Item o i) w
  item_named o i w true (Some v) is at = (tt, subst (IsNamedHeld values) (same_Some (whole (ItemContent v)) w at) (words_named values opening.items words opening.items_are i v is))
  item_named o i w true None is at = absurd (none_is at)
  item_named o i w false found is at = absurd (none_is at)

  len_named : (o : ℕ) (w : Held) (b : Bool) → (if b then Some (whole (LenContent (length opening.items))) else None) ≡ Some w → Named (Len o) w
  len_named o w true at = (tt, subst (IsNamedHeld values) (same_Some (whole (LenContent (length opening.items))) w at) tt)
  len_named o w false at = absurd (none_is at)

  at_named : (l : Location) (w : Held) → opening_at opening.items opening.name opening.main l ≡ Some w → Named l w
  at_named (Var scope text) w at = var_named scope text w (scope == 0) (text == opening.name) refl at
  at_named (Len o) w at = len_named o w (o == 0) at
  at_named (Item o i) w at = item_named o i w (o == 0) (item_in opening.items i) refl at
  at_named (Order o) w at = (tt, subst (IsNamedHeld values) (same_Some (keys []) w at) (λ i item found. absurd (none_is found)))
  at_named l w at = absurd (none_is at)

  list_named : (o : ℕ) (kind : Kind) → slice_get (ListKind ∷ []) o ≡ Some kind → IsNamedKind values (Some kind)
  list_named zero kind at = subst (λ (k : Kind). IsNamedKind values (Some k)) (same_Some ListKind kind at) tt
  list_named (suc o) kind at = absurd (none_is at)

  pub opening_named : IsNamedStore values store
  opening_named = record {
    held = λ l w at. at_named l w (sym (opening.held l) ∙ at);
    kinds_named = λ o kind at. list_named o kind (ap (λ all. slice_get all o) (sym opening.kinds_are) ∙ at);
    names_named = λ place name at. absurd (none_is (ap (lookup (places.eq place)) (sym opening.names_none) ∙ at));
  }
