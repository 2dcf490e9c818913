-- The values that objects are known to hold are those of the store.
use Rattle.std.proofs.Common.{◌≡◌, ℕ, suc, ◌<◌, ◌⊎◌, inl, inr, ◌&&◌, Bool, true, false, nat_lt, List, [], ◌∷◌, map, slice_get, unwrap_or, Option, Some, None, is_some, refl, sym, ap, subst, ◌∙◌, arith, if◌then◌else◌, true≢false}
use Rattle.std.specs.Map.{lookup}
use Rattle.std.specs.Option.{option_map}
use Rattle.std.proofs.lemmas.Bool.{lt-ltb, ltb-true}
use Rattle.std.proofs.lemmas.Option.{slice_get-map, same_Some}
use Rattle.py_value.specs.declared.access.Location.{Location}
use Rattle.py_value.specs.declared.access.Location.TheVariants.{Var, Len, Item, Entry, Order, File, Offset, Closed, Method, Base}
use Rattle.py_value.specs.declared.key.Key.{Key}
use Rattle.py_value.specs.declared.value.Value.{Value}
use Rattle.py_value.specs.contracts.access.LocationPartialEq.TheImpl.{ghosts as locations}
use Rattle.py_value.specs.Contents.{Contents, nothing, truth, int, text, tuple, range, function, class, exception_class, builtin, object, contents}
use Rattle.py_value.specs.KeyOf.{normal}
use Rattle.py_value.specs.Same.{same_value}
use Rattle.py_value.specs.Seen.{SeenContent, SeenKind, a_list, a_dict, an_instance, a_file, item_at, entry_at, len_at, var_is, len_is, item_is, entry_is, order_is, file_is, offset_is, closed_is, method_is, base_is, IsNamedLocation}
use Rattle.py_value.specs.Values.{ValuesView, IsNamed}
use Rattle.py_value.proofs.Equality.{location_same}
use Rattle.py_value.proofs.SameTests.{value_same as contents_same, value_own as contents_own}
use Rattle.py_model.specs.Store.{RunStore, empty, len_of, item_of, entry_of, order_of}
use Rattle.slice_law.specs.Closed.{IsIn}
use Rattle.slice_law.specs.Reached.{StandsIn, StandsInItem, StandsInEntry, AllBefore, InItem, InEntry, Holds}
use Rattle.slice_things.specs.declared.forms.Forms.{Forms}
use Rattle.slice_things.specs.declared.held.Held.{Held}
use Rattle.slice_things.specs.declared.held.Held.TheVariants.{Nothing, Length, Item as HeldItem, Entry as HeldEntry}
use Rattle.slice_things.specs.declared.things.Things.{Things}
use Rattle.slice_things.specs.Children.{length_in, is_item, is_entry, is_list, is_keyed, child_if, item_child, entry_child, length_of, item_there, entry_there, all_before, has_item, has_entry, child_at, children_at, children_of, HoldsChild}
use Rattle.slice_things.specs.Counts.{often}
use Rattle.slice_things.specs.Forms.{AreForms}
use Rattle.slice_things.specs.Held.{noted_at, SeenHeld, holds_nothing, holds_length, holds_item, holds_entry, held_seen, what_stands, IsTextItem, Agrees}
use Rattle.slice_things.specs.Orders.{order_in, how_often}
use Rattle.slice_things.specs.Things.{HoldsStore, shape_seen}
use Rattle.slice_things.proofs.EndLaws.{before_less, less_before}

-- ---- children among places

in_children : (things : Things) (ls : List Location) (l : Location) (child : ℕ × Value) → IsIn ls l → child_at things l ≡ Some child → IsIn (children_at things ls) child
in_children things [] l child is at = absurd is
in_children things (first ∷ ls) l child (inl is) at = subst (λ found. IsIn (elim found [ None ↦ children_at things ls | Some c ↦ c ∷ children_at things ls ]) child) (sym (ap (child_at things) is ∙ at)) (inl refl)
in_children things (first ∷ ls) l child (inr later) at = by (child_at things first) (in_children things ls l child later at)
  where
    by : (found : Option (ℕ × Value)) → IsIn (children_at things ls) child → IsIn (elim found [ None ↦ children_at things ls | Some c ↦ c ∷ children_at things ls ]) child
    by None more = more
    by (Some c) more = inr more

record ChildFrom (things : Things) (child : ℕ × Value) : Type 0 where
  pub place : Location
  pub is : child_at things place ≡ Some child

from_children : (things : Things) (ls : List Location) (child : ℕ × Value) → IsIn (children_at things ls) child → ChildFrom things child
from_children things [] child is = absurd is
from_children things (first ∷ ls) child is = by (child_at things first) refl (λ later. from_children things ls child later) is
  where
    by : (found : Option (ℕ × Value)) → child_at things first ≡ found → (IsIn (children_at things ls) child → ChildFrom things child)
        → IsIn (elim found [ None ↦ children_at things ls | Some c ↦ c ∷ children_at things ls ]) child → ChildFrom things child
    by None at more is = more is
    by (Some c) at more (inl is) = record { place = first; is = at ∙ ap Some is }
    by (Some c) at more (inr later) = more later

-- what is noted at a place has the place among the keys
noted_in : (entries : List (Location × Held)) (l : Location) → (noted_at entries l ≡ Nothing → ⊥) → IsIn (map (λ entry. entry.0) entries) l
noted_in [] l is = absurd (is refl)
noted_in (first ∷ entries) l is = by (locations.eq l first.0) refl is (λ more. noted_in entries l more)
  where
    by : (b : Bool) → locations.eq l first.0 ≡ b → (unwrap_or (if b then Some first.1 else lookup (locations.eq l) entries) Nothing ≡ Nothing → ⊥)
        → ((noted_at entries l ≡ Nothing → ⊥) → IsIn (map (λ entry. entry.0) entries) l) → (first.0 ≡ l) ⊎ IsIn (map (λ entry. entry.0) entries) l
    by true same is more = inl (sym (location_same l first.0 same))
    by false same is more = inr (more is)

-- ---- what stands at places

abbrev holding : Option SeenContent → RunStore
holding content = record empty { at = λ l. content }

text_plain : (p : ℕ) (c : Contents) → IsTextItem (holds_item c) → StandsIn p c → ⊥
text_plain p (text bytes) is stands = stands
text_plain p (nothing) is stands = is
text_plain p (truth b) is stands = is
text_plain p (int i) is stands = is
text_plain p (tuple parts) is stands = is
text_plain p (range a b c) is stands = is
text_plain p (function at) is stands = is
text_plain p (class at) is stands = is
text_plain p (exception_class n) is stands = is
text_plain p (builtin n) is stands = is
text_plain p (object n) is stands = is

record IsValue (view : ValuesView) (p : ℕ) (of : Value → Held) (held : Held) : Type 0 where
  pub value : Value
  pub is : held ≡ of value
  pub stands : StandsIn p (contents view value)

module _ (view : ValuesView) (p : ℕ) where
  held_item : (c : Contents) (held : Held) → StandsIn p c → held_seen view held ≡ holds_item c → IsValue view p HeldItem held
  held_item c (HeldItem v) stands is = record { value = v; is = refl; stands = subst (StandsIn p) (sym (same is)) stands }
    where
      same : holds_item (contents view v) ≡ holds_item c → contents view v ≡ c
      same is = cc
  held_item c Nothing stands is = absurd cc
  held_item c (Length n) stands is = absurd cc
  held_item c (HeldEntry v) stands is = absurd cc

  held_entry : (c : Contents) (held : Held) → StandsIn p c → held_seen view held ≡ holds_entry c → IsValue view p HeldEntry held
  held_entry c (HeldEntry v) stands is = record { value = v; is = refl; stands = subst (StandsIn p) (sym (same is)) stands }
    where
      same : holds_entry (contents view v) ≡ holds_entry c → contents view v ≡ c
      same is = cc
  held_entry c Nothing stands is = absurd cc
  held_entry c (Length n) stands is = absurd cc
  held_entry c (HeldItem v) stands is = absurd cc

  item_noted : (content : Option SeenContent) (held : Held) → StandsInItem p (item_of (holding content) 0 0) → Agrees (held_seen view held) (what_stands content) → IsValue view p HeldItem held
  item_noted (Some (item_is c)) held stands (inl is) = held_item c held stands is
  item_noted (Some (item_is c)) held stands (inr is) = absurd (text_plain p c is.1 stands)
  item_noted None held stands agrees = absurd stands
  item_noted (Some (var_is v)) held stands agrees = absurd stands
  item_noted (Some (len_is n)) held stands agrees = absurd stands
  item_noted (Some (entry_is e)) held stands agrees = absurd stands
  item_noted (Some (order_is keys)) held stands agrees = absurd stands
  item_noted (Some (file_is bytes)) held stands agrees = absurd stands
  item_noted (Some (offset_is n)) held stands agrees = absurd stands
  item_noted (Some (closed_is b)) held stands agrees = absurd stands
  item_noted (Some (method_is at)) held stands agrees = absurd stands
  item_noted (Some (base_is v)) held stands agrees = absurd stands

  entry_noted : (content : Option SeenContent) (held : Held) → StandsInEntry p (entry_of (holding content) 0 nothing) → Agrees (held_seen view held) (what_stands content) → IsValue view p HeldEntry held
  entry_noted (Some (entry_is (Some e))) held stands (inl is) = held_entry e.1 held stands is
  entry_noted (Some (entry_is (Some e))) held stands (inr is) = absurd is.1
  entry_noted (Some (entry_is None)) held stands agrees = absurd stands
  entry_noted None held stands agrees = absurd stands
  entry_noted (Some (var_is v)) held stands agrees = absurd stands
  entry_noted (Some (len_is n)) held stands agrees = absurd stands
  entry_noted (Some (item_is c)) held stands agrees = absurd stands
  entry_noted (Some (order_is keys)) held stands agrees = absurd stands
  entry_noted (Some (file_is bytes)) held stands agrees = absurd stands
  entry_noted (Some (offset_is n)) held stands agrees = absurd stands
  entry_noted (Some (closed_is b)) held stands agrees = absurd stands
  entry_noted (Some (method_is at)) held stands agrees = absurd stands
  entry_noted (Some (base_is v)) held stands agrees = absurd stands

  item_stands : (content : Option SeenContent) (v : Value) → StandsIn p (contents view v) → Agrees (holds_item (contents view v)) (what_stands content) → StandsInItem p (item_of (holding content) 0 0)
  item_stands content v stands (inr is) = absurd (subst (StandsIn p) (same is.0) stands)
    where
      same : holds_item (contents view v) ≡ holds_item nothing → contents view v ≡ nothing
      same is = cc
  item_stands (Some (item_is c)) v stands (inl is) = subst (StandsIn p) (same is) stands
    where
      same : holds_item (contents view v) ≡ holds_item c → contents view v ≡ c
      same is = cc
  item_stands None v stands (inl is) = absurd cc
  item_stands (Some (var_is w)) v stands (inl is) = absurd cc
  item_stands (Some (len_is n)) v stands (inl is) = absurd cc
  item_stands (Some (entry_is None)) v stands (inl is) = absurd cc
  item_stands (Some (entry_is (Some e))) v stands (inl is) = absurd cc
  item_stands (Some (order_is keys)) v stands (inl is) = absurd cc
  item_stands (Some (file_is bytes)) v stands (inl is) = absurd cc
  item_stands (Some (offset_is n)) v stands (inl is) = absurd cc
  item_stands (Some (closed_is b)) v stands (inl is) = absurd cc
  item_stands (Some (method_is at)) v stands (inl is) = absurd cc
  item_stands (Some (base_is w)) v stands (inl is) = absurd cc

  entry_stands : (content : Option SeenContent) (v : Value) → StandsIn p (contents view v) → Agrees (holds_entry (contents view v)) (what_stands content) → StandsInEntry p (entry_of (holding content) 0 nothing)
  entry_stands content v stands (inr is) = absurd cc
  entry_stands (Some (entry_is (Some e))) v stands (inl is) = subst (StandsIn p) (same is) stands
    where
      same : holds_entry (contents view v) ≡ holds_entry e.1 → contents view v ≡ e.1
      same is = cc
  entry_stands (Some (entry_is None)) v stands (inl is) = absurd cc
  entry_stands None v stands (inl is) = absurd cc
  entry_stands (Some (var_is w)) v stands (inl is) = absurd cc
  entry_stands (Some (len_is n)) v stands (inl is) = absurd cc
  entry_stands (Some (item_is c)) v stands (inl is) = absurd cc
  entry_stands (Some (order_is keys)) v stands (inl is) = absurd cc
  entry_stands (Some (file_is bytes)) v stands (inl is) = absurd cc
  entry_stands (Some (offset_is n)) v stands (inl is) = absurd cc
  entry_stands (Some (closed_is b)) v stands (inl is) = absurd cc
  entry_stands (Some (method_is at)) v stands (inl is) = absurd cc
  entry_stands (Some (base_is w)) v stands (inl is) = absurd cc

-- the length
len_noted : (view : ValuesView) (content : Option SeenContent) (held : Held) → Agrees (held_seen view held) (what_stands content) → length_in held ≡ len_of (holding content) 0
len_noted view content held agrees = by content held agrees
  where
    as_seen : SeenHeld → ℕ
    as_seen holds_nothing = 0
    as_seen (holds_length n) = n
    as_seen (holds_item c) = 0
    as_seen (holds_entry c) = 0

    noted : (held : Held) → length_in held ≡ as_seen (held_seen view held)
    noted Nothing = refl
    noted (Length n) = refl
    noted (HeldItem v) = refl
    noted (HeldEntry v) = refl

    stands : (content : Option SeenContent) → len_of (holding content) 0 ≡ as_seen (what_stands content)
    stands None = refl
    stands (Some (var_is w)) = refl
    stands (Some (len_is n)) = refl
    stands (Some (item_is c)) = refl
    stands (Some (entry_is None)) = refl
    stands (Some (entry_is (Some e))) = refl
    stands (Some (order_is keys)) = refl
    stands (Some (file_is bytes)) = refl
    stands (Some (offset_is n)) = refl
    stands (Some (closed_is b)) = refl
    stands (Some (method_is at)) = refl
    stands (Some (base_is w)) = refl

    plain : (what : SeenHeld) → IsTextItem what → as_seen what ≡ 0
    plain holds_nothing is = refl
    plain (holds_length n) is = absurd is
    plain (holds_item c) is = refl
    plain (holds_entry c) is = refl

    by : (content : Option SeenContent) (held : Held) → Agrees (held_seen view held) (what_stands content) → length_in held ≡ len_of (holding content) 0
    by content held (inl is) = noted held ∙ ap as_seen is ∙ sym (stands content)
    by content held (inr is) = noted held ∙ ap as_seen is.0 ∙ sym (stands content ∙ plain (what_stands content) is.1)

-- whether an item stands there, and whether an entry does
module _ (view : ValuesView) where
  abbrev item_seen : SeenHeld → Bool
  item_seen (holds_item c) = true
  item_seen holds_nothing = false
  item_seen (holds_length n) = false
  item_seen (holds_entry c) = false

  abbrev entry_seen : SeenHeld → Bool
  entry_seen (holds_entry c) = true
  entry_seen holds_nothing = false
  entry_seen (holds_length n) = false
  entry_seen (holds_item c) = false

  item_held_seen : (held : Held) → is_item held ≡ item_seen (held_seen view held)
  item_held_seen Nothing = refl
  item_held_seen (Length n) = refl
  item_held_seen (HeldItem v) = refl
  item_held_seen (HeldEntry v) = refl

  entry_held_seen : (held : Held) → is_entry held ≡ entry_seen (held_seen view held)
  entry_held_seen Nothing = refl
  entry_held_seen (Length n) = refl
  entry_held_seen (HeldItem v) = refl
  entry_held_seen (HeldEntry v) = refl

  item_there_seen : (content : Option SeenContent) → is_some (item_of (holding content) 0 0) ≡ item_seen (what_stands content)
  item_there_seen None = refl
  item_there_seen (Some (item_is c)) = refl
  item_there_seen (Some (var_is w)) = refl
  item_there_seen (Some (len_is n)) = refl
  item_there_seen (Some (entry_is None)) = refl
  item_there_seen (Some (entry_is (Some e))) = refl
  item_there_seen (Some (order_is keys)) = refl
  item_there_seen (Some (file_is bytes)) = refl
  item_there_seen (Some (offset_is n)) = refl
  item_there_seen (Some (closed_is b)) = refl
  item_there_seen (Some (method_is at)) = refl
  item_there_seen (Some (base_is w)) = refl

  entry_there_seen : (content : Option SeenContent) → is_some (entry_of (holding content) 0 nothing) ≡ entry_seen (what_stands content)
  entry_there_seen None = refl
  entry_there_seen (Some (item_is c)) = refl
  entry_there_seen (Some (var_is w)) = refl
  entry_there_seen (Some (len_is n)) = refl
  entry_there_seen (Some (entry_is None)) = refl
  entry_there_seen (Some (entry_is (Some e))) = refl
  entry_there_seen (Some (order_is keys)) = refl
  entry_there_seen (Some (file_is bytes)) = refl
  entry_there_seen (Some (offset_is n)) = refl
  entry_there_seen (Some (closed_is b)) = refl
  entry_there_seen (Some (method_is at)) = refl
  entry_there_seen (Some (base_is w)) = refl

  text_is_item : (what : SeenHeld) → IsTextItem what → (item_seen what ≡ true) × (entry_seen what ≡ false)
  text_is_item (holds_item c) is = (refl, refl)
  text_is_item holds_nothing is = absurd is
  text_is_item (holds_length n) is = absurd is
  text_is_item (holds_entry c) is = absurd is

  item_known : (content : Option SeenContent) (held : Held) → Agrees (held_seen view held) (what_stands content) → is_item held ≡ is_some (item_of (holding content) 0 0)
  item_known content held (inl is) = item_held_seen held ∙ (ap item_seen is ∙ sym (item_there_seen content))
  item_known content held (inr is) = item_held_seen held ∙ (ap item_seen is.0 ∙ (sym (text_is_item (what_stands content) is.1).0 ∙ sym (item_there_seen content)))

  entry_known : (content : Option SeenContent) (held : Held) → Agrees (held_seen view held) (what_stands content) → is_entry held ≡ is_some (entry_of (holding content) 0 nothing)
  entry_known content held (inl is) = entry_held_seen held ∙ (ap entry_seen is ∙ sym (entry_there_seen content))
  entry_known content held (inr is) = entry_held_seen held ∙ (ap entry_seen is.0 ∙ (sym (text_is_item (what_stands content) is.1).1 ∙ sym (entry_there_seen content)))

-- ---- how often a key stands in an order

pub often_there : (c key : Contents) (keys : List Contents) → IsIn keys key → c ≡ normal key → nat_lt 0 (how_often c keys) ≡ true
often_there c key [] is same = absurd is
often_there c key (first ∷ keys) (inl is) same = ap (λ b. nat_lt 0 (if b then suc (how_often c keys) else how_often c keys)) (ap (λ d. same_value d (normal first)) (same ∙ ap normal (sym is)) ∙ contents_own (normal first)) ∙ positive (how_often c keys)
  where
    positive : (n : ℕ) → nat_lt 0 (suc n) ≡ true
    positive n = lt-ltb 0 (suc n) (omega arith)
often_there c key (first ∷ keys) (inr later) same = by (same_value c (normal first)) (often_there c key keys later same)
  where
    by : (b : Bool) → nat_lt 0 (how_often c keys) ≡ true → nat_lt 0 (if b then suc (how_often c keys) else how_often c keys) ≡ true
    by true more = lt-ltb 0 (suc (how_often c keys)) (omega arith)
    by false more = more

pub record KeyThere (c : Contents) (keys : List Contents) : Type 0 where
  pub key : Contents
  pub ordered : IsIn keys key
  pub is : c ≡ normal key

pub key_there : (c : Contents) (keys : List Contents) → nat_lt 0 (how_often c keys) ≡ true → KeyThere c keys
key_there c [] is = absurd (true≢false (sym is))
key_there c (first ∷ keys) is = by (same_value c (normal first)) refl is (λ more. key_there c keys more)
  where
    by : (b : Bool) → same_value c (normal first) ≡ b → nat_lt 0 (if b then suc (how_often c keys) else how_often c keys) ≡ true → (nat_lt 0 (how_often c keys) ≡ true → KeyThere c keys) → KeyThere c (first ∷ keys)
    by true same is more = record { key = first; ordered = inl refl; is = contents_same c (normal first) same }
    by false same is more = let found = more is in record { key = found.key; ordered = inr found.ordered; is = found.is }

-- ---- held in the store, and noted

pub both_true : (a b : Bool) → a ≡ true → b ≡ true → (a && b) ≡ true
both_true true true is also = refl
both_true true false is also = also
both_true false b is also = is

pub first_true : (a b : Bool) → (a && b) ≡ true → (a ≡ true) × (b ≡ true)
first_true true true is = (refl, refl)
first_true true false is = absurd (true≢false (sym is))
first_true false b is = absurd (true≢false (sym is))

module _ (view : ValuesView) (forms : Forms) (things : Things) (store : RunStore) (are : AreForms view forms) (known : HoldsStore view forms things store) where
  pub shape_is : (o : ℕ) → slice_get things.kinds.items o ≡ option_map shape_seen (slice_get store.kinds o)
  shape_is o = ap (λ kinds. slice_get kinds o) known.kinds ∙ slice_get-map shape_seen store.kinds o

  pub length_is : (o : ℕ) → length_of things o ≡ len_of store o
  length_is o = len_noted view (store.at (len_at o)) (noted_at things.places.entries (Len o)) (known.places (Len o) tt)

  item_is_there : (o i : ℕ) → item_there things o i ≡ is_some (item_of store o i)
  item_is_there o i = item_known view (store.at (item_at o i)) (noted_at things.places.entries (Item o i)) (known.places (Item o i) tt)

  pub entry_is_there : (o : ℕ) (form : Value) (key : Contents) → IsNamed forms.values form → contents forms.values form ≡ normal key → entry_there things o form ≡ is_some (entry_of store o key)
  entry_is_there o form key named is = entry_known view (store.at (entry_at o (normal key))) (noted_at things.places.entries (Entry o (record { value = form })))
      (subst (λ c. Agrees (held_seen view (noted_at things.places.entries (Entry o (record { value = form })))) (what_stands (store.at (entry_at o c)))) is
      (known.places (Entry o (record { value = form })) named))

  pub there_before : (o i : ℕ) → AllBefore store o i → all_before things o i ≡ true
  there_before o i all = less_before things o i (λ j less. item_is_there o j ∙ all j less)

  pub before_there : (o i : ℕ) → all_before things o i ≡ true → AllBefore store o i
  before_there o i all j less = sym (item_is_there o j) ∙ before_less things o i j less all

  item_held : (o p : ℕ) → is_list (slice_get things.kinds.items o) ≡ true → InItem store o p → HoldsChild view (children_of things) o p
  item_held o p list held = by (item_noted view p (store.at (item_at o held.i)) (noted_at things.places.entries (Item o held.i)) held.stands (known.places (Item o held.i) tt))
    where
      own : has_item things o held.i ≡ true
      own =
          let length = length_is o in
          both_true (is_list (slice_get things.kinds.items o) && nat_lt held.i (length_of things o)) (all_before things o held.i)
          (both_true (is_list (slice_get things.kinds.items o)) (nat_lt held.i (length_of things o)) list (lt-ltb held.i (length_of things o) (omega (arith, held.below, length))))
          (there_before o held.i held.earlier)

      by : IsValue view p HeldItem (noted_at things.places.entries (Item o held.i)) → HoldsChild view (children_of things) o p
      by found = record {
        child = found.value;
        among = in_children things (map (λ entry. entry.0) things.places.entries) (Item o held.i) (o, found.value)
            (noted_in things.places.entries (Item o held.i) (λ none. gone (sym found.is ∙ none)))
            (ap (item_child (has_item things o held.i) o) found.is ∙ ap (λ b. child_if b o found.value) own);
        stands = found.stands;
      }
        where
          gone : HeldItem found.value ≡ Nothing → ⊥
          gone is = cc

  entry_held : (o p : ℕ) → is_keyed (slice_get things.kinds.items o) ≡ true → InEntry store o p → HoldsChild view (children_of things) o p
  entry_held o p keyed held = by held.stands
    where
      form : Value
      form = ((known.orders o).formed held.key held.ordered).form

      named : IsNamed forms.values form
      named = ((known.orders o).formed held.key held.ordered).named

      form_is : contents forms.values form ≡ normal held.key
      form_is = ((known.orders o).formed held.key held.ordered).form_is

      own : has_entry things o form ≡ true
      own =
          both_true (is_keyed (slice_get things.kinds.items o) && nat_lt 0 (often form (order_in things.orders.entries o))) (entry_there things o form)
          (both_true (is_keyed (slice_get things.kinds.items o)) (nat_lt 0 (often form (order_in things.orders.entries o))) keyed
          (ap (nat_lt 0) ((known.orders o).counted form named) ∙ often_there (contents forms.values form) held.key (order_of store o) held.ordered form_is))
          (entry_is_there o form held.key named form_is ∙ held.present)

      gone : (v : Value) → HeldEntry v ≡ Nothing → ⊥
      gone v is = cc

      with_value : IsValue view p HeldEntry (noted_at things.places.entries (Entry o (record { value = form }))) → HoldsChild view (children_of things) o p
      with_value found = record {
        child = found.value;
        among = in_children things (map (λ entry. entry.0) things.places.entries) (Entry o (record { value = form })) (o, found.value)
            (noted_in things.places.entries (Entry o (record { value = form })) (λ none. gone found.value (sym found.is ∙ none)))
            (ap (entry_child (has_entry things o form) o) found.is ∙ ap (λ b. child_if b o found.value) own);
        stands = found.stands;
      }

      by : StandsIn p held.key ⊎ StandsInEntry p (entry_of store o held.key) → HoldsChild view (children_of things) o p
      by (inl in_key) = absurd (((known.orders o).formed held.key held.ordered).plain p in_key)
      by (inr stands) = with_value (entry_noted view p (store.at (entry_at o (normal held.key))) (noted_at things.places.entries (Entry o (record { value = form }))) stands
          (subst (λ c. Agrees (held_seen view (noted_at things.places.entries (Entry o (record { value = form })))) (what_stands (store.at (entry_at o c)))) form_is
          (known.places (Entry o (record { value = form })) named)))

  pub store_held : (o p : ℕ) → Holds store o (slice_get store.kinds o) p → HoldsChild view (children_of things) o p
  store_held o p holds = by (slice_get store.kinds o) (shape_is o) holds
    where
      by : (kind : Option SeenKind) → slice_get things.kinds.items o ≡ option_map shape_seen kind → Holds store o kind p → HoldsChild view (children_of things) o p
      by None shape held = absurd held
      by (Some a_list) shape held = item_held o p (ap is_list shape) held
      by (Some a_dict) shape held = entry_held o p (ap is_keyed shape) held
      by (Some (an_instance of)) shape held = entry_held o p (ap is_keyed shape) held
      by (Some (a_file path mode)) shape held = absurd held

  -- ---- and back

  list_holds : (o p : ℕ) → is_list (slice_get things.kinds.items o) ≡ true → InItem store o p → Holds store o (slice_get store.kinds o) p
  list_holds o p list held = by (slice_get store.kinds o) (sym (ap is_list (shape_is o)) ∙ list)
    where
      by : (kind : Option SeenKind) → is_list (option_map shape_seen kind) ≡ true → Holds store o kind p
      by None is = absurd (true≢false (sym is))
      by (Some a_list) is = held
      by (Some a_dict) is = absurd (true≢false (sym is))
      by (Some (an_instance of)) is = absurd (true≢false (sym is))
      by (Some (a_file path mode)) is = absurd (true≢false (sym is))

  keyed_holds : (o p : ℕ) → is_keyed (slice_get things.kinds.items o) ≡ true → InEntry store o p → Holds store o (slice_get store.kinds o) p
  keyed_holds o p keyed held = by (slice_get store.kinds o) (sym (ap is_keyed (shape_is o)) ∙ keyed)
    where
      by : (kind : Option SeenKind) → is_keyed (option_map shape_seen kind) ≡ true → Holds store o kind p
      by None is = absurd (true≢false (sym is))
      by (Some a_list) is = absurd (true≢false (sym is))
      by (Some a_dict) is = held
      by (Some (an_instance of)) is = held
      by (Some (a_file path mode)) is = absurd (true≢false (sym is))

  item_found : (o p i q : ℕ) (v : Value) (held : Held) → noted_at things.places.entries (Item q i) ≡ held → item_child (has_item things q i) q held ≡ Some (o, v) → StandsIn p (contents view v)
      → Holds store o (slice_get store.kinds o) p
  item_found o p i q v (HeldItem w) noted is stands = by (has_item things q i) refl is
    where
      by : (b : Bool) → has_item things q i ≡ b → child_if b q w ≡ Some (o, v) → Holds store o (slice_get store.kinds o) p
      by false own is = absurd cc
      by true own is =
          let all = first_true (is_list (slice_get things.kinds.items q) && nat_lt i (length_of things q)) (all_before things q i) own in
          let both = first_true (is_list (slice_get things.kinds.items q)) (nat_lt i (length_of things q)) all.0 in
          let length = length_is q in
          let below : i < len_of store q = omega (arith, length, ltb-true i (length_of things q) both.1) in
          let same : (q, w) ≡ (o, v) = same_Some (q, w) (o, v) is in
          subst (λ r. Holds store r (slice_get store.kinds r) p) (ap (λ (pair : ℕ × Value). pair.0) same)
          (list_holds q p both.0 (record {
            i = i;
            below = below;
            earlier = before_there q i all.1;
            stands = item_stands view p (store.at (item_at q i)) w (subst (λ x. StandsIn p (contents view x)) (sym (ap (λ (pair : ℕ × Value). pair.1) same)) stands)
                (subst (λ held. Agrees (held_seen view held) (what_stands (store.at (item_at q i)))) noted (known.places (Item q i) tt));
          }))
  item_found o p i q v Nothing noted is stands = absurd cc
  item_found o p i q v (Length n) noted is stands = absurd cc
  item_found o p i q v (HeldEntry w) noted is stands = absurd cc

  entry_found : (o p : ℕ) (key : Key) (q : ℕ) (v : Value) (held : Held) → noted_at things.places.entries (Entry q key) ≡ held → entry_child (has_entry things q key.value) q held ≡ Some (o, v) → StandsIn p (contents view v)
      → Holds store o (slice_get store.kinds o) p
  entry_found o p key q v (HeldEntry w) noted is stands = by (has_entry things q key.value) refl is (known.known (Entry q key))
    where
      gone : HeldEntry w ≡ Nothing → ⊥
      gone is = cc

      held : IsNamed forms.values key.value → is_keyed (slice_get things.kinds.items q) ≡ true → entry_there things q key.value ≡ true → KeyThere (contents forms.values key.value) (order_of store q) → StandsIn p (contents view w) → Holds store q (slice_get store.kinds q) p
      held named keyed present there stands = keyed_holds q p keyed (record {
        key = there.key;
        ordered = there.ordered;
        present = sym (entry_is_there q key.value there.key named there.is) ∙ present;
        stands = inr (entry_stands view p (store.at (entry_at q (normal there.key))) w stands
            (subst (λ c. Agrees (holds_entry (contents view w)) (what_stands (store.at (entry_at q c)))) there.is
            (subst (λ held. Agrees (held_seen view held) (what_stands (store.at (entry_at q (contents forms.values key.value))))) noted (known.places (Entry q key) named))));
      })

      by : (b : Bool) → has_entry things q key.value ≡ b → child_if b q w ≡ Some (o, v) → IsNamedLocation forms.values (Entry q key) ⊎ (noted_at things.places.entries (Entry q key) ≡ Nothing) → Holds store o (slice_get store.kinds o) p
      by false own is named = absurd cc
      by true own is (inr none) = absurd (gone (sym noted ∙ none))
      by true own is (inl named) =
          let all = first_true (is_keyed (slice_get things.kinds.items q) && nat_lt 0 (often key.value (order_in things.orders.entries q))) (entry_there things q key.value) own in
          let both = first_true (is_keyed (slice_get things.kinds.items q)) (nat_lt 0 (often key.value (order_in things.orders.entries q))) all.0 in
          let same : (q, w) ≡ (o, v) = same_Some (q, w) (o, v) is in
          subst (λ r. Holds store r (slice_get store.kinds r) p) (ap (λ (pair : ℕ × Value). pair.0) same)
          (held named both.0 all.1 (key_there (contents forms.values key.value) (order_of store q) (sym (ap (nat_lt 0) ((known.orders q).counted key.value named)) ∙ both.1))
          (subst (λ x. StandsIn p (contents view x)) (sym (ap (λ (pair : ℕ × Value). pair.1) same)) stands))
  entry_found o p key q v Nothing noted is stands = absurd cc
  entry_found o p key q v (Length n) noted is stands = absurd cc
  entry_found o p key q v (HeldItem w) noted is stands = absurd cc

  pub child_held : (o p : ℕ) → HoldsChild view (children_of things) o p → Holds store o (slice_get store.kinds o) p
  child_held o p holds = let from = from_children things (map (λ entry. entry.0) things.places.entries) (o, holds.child) holds.among in by from.place from.is
    where
      by : (l : Location) → child_at things l ≡ Some (o, holds.child) → Holds store o (slice_get store.kinds o) p
      by (Item q i) is = item_found o p i q holds.child (noted_at things.places.entries (Item q i)) refl is holds.stands
      by (Entry q key) is = entry_found o p key q holds.child (noted_at things.places.entries (Entry q key)) refl is holds.stands
      by (Var scope name) is = absurd cc
      by (Len q) is = absurd cc
      by (Order q) is = absurd cc
      by (File path) is = absurd cc
      by (Offset q) is = absurd cc
      by (Closed q) is = absurd cc
      by (Method at name) is = absurd cc
      by (Base at) is = absurd cc
