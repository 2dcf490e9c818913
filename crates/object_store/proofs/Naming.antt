-- A store stays named where what is written is named.
use Rattle.std.proofs.Common.{◌≡◌, ℕ, zero, suc, ◌↔◌, Bool, true, false, List, [], ◌∷◌, ◌++◌, slice_get, Option, Some, refl, sym, ap, subst, ◌∙◌, if◌then◌else◌, cond}
use Rattle.std.specs.Prelude.{None}
use Rattle.std.specs.List.{list_any}
use Rattle.std.specs.Map.{lookup}
use Rattle.std.proofs.lemmas.Option.{same_Some}
use Rattle.prov_base.specs.contracts.place.PosPartialEq.TheImpl.{ghosts as places}
use Rattle.py_value.specs.Named.{IsNamedContent, IsNamedChange, IsNamedAccess, AreNamedAccesses, IsNamedKind}
use Rattle.py_value.specs.Seen.{IsNamedLocation}
use Rattle.py_value.specs.Values.{ValuesView, IsNamed, AreNamed}
use Rattle.py_value.specs.declared.access.Access.{Access}
use Rattle.py_value.specs.declared.access.Access.TheVariants.{Read, Set, Update}
use Rattle.py_value.specs.declared.access.Change.{Change}
use Rattle.py_value.specs.declared.access.Change.TheVariants.{Insert, Delete}
use Rattle.py_value.specs.declared.access.Content.{Content}
use Rattle.py_value.specs.declared.access.Content.TheVariants.{Var as VarContent, Len as LenContent, Item as ItemContent, Entry as EntryContent, Order as OrderContent, File as FileContent, Offset as OffsetContent, Closed as ClosedContent, Method as MethodContent, Base as BaseContent}
use Rattle.py_value.specs.declared.access.Kind.{Kind}
use Rattle.py_value.specs.declared.access.Location.{Location}
use Rattle.py_value.specs.declared.access.Location.TheVariants.{Order, File}
use Rattle.py_value.specs.declared.value.Value.{Value}
use Rattle.py_value.specs.contracts.access.LocationPartialEq.TheImpl.{ghosts as locations}
use Rattle.py_value.specs.contracts.value.ValuePartialEq.TheImpl.{ghosts as values_eq}
use Rattle.object_store.specs.Named.{IsNamedStore, IsNamedHeld}
use Rattle.object_store.specs.Object.{with_keys, with_key, without_key}
use Rattle.object_store.specs.Performing.{Does, DoesAll, kinds_with}
use Rattle.object_store.specs.Store.{StoreView, Held, keys, held_at, keys_at, kinds, written, changed, Writes, Keeps}

-- what holds of each kind of a list and of one behind it
kind_of : (P : Kind → Type 0) (ks : List Kind) (kind : Kind) → ((o : ℕ) (k : Kind) → slice_get ks o ≡ Some k → P k) → P kind → (o : ℕ) (k : Kind) → slice_get (ks ++ kind ∷ []) o ≡ Some k → P k
kind_of P [] kind all last zero k at = subst P (same_Some kind k at) last
kind_of P [] kind all last (suc o) k at = cc
kind_of P (first ∷ ks) kind all last zero k at = all 0 k at
kind_of P (first ∷ ks) kind all last (suc o) k at = kind_of P ks kind (λ p x found. all (suc p) x found) last o k at

-- kinds and names stay
pub kinds_done : (values : ValuesView) (plan : List Access) (old new : StoreView) → DoesAll values plan old new → kinds new ≡ kinds old
kinds_done values [] old new does = does.kinds_stay
kinds_done values (Read l ∷ plan) old new does = kinds_done values plan does.0 new does.1.1 ∙ ap (λ (s : StoreView). kinds s) does.1.0
kinds_done values (Set l content ∷ plan) old new does = kinds_done values plan does.0 new does.1.1 ∙ does.1.0.kinds_stay
kinds_done values (Update l change ∷ plan) old new does = kinds_done values plan does.0 new does.1.1 ∙ does.1.0.kinds_stay

pub names_done : (values : ValuesView) (plan : List Access) (old new : StoreView) → DoesAll values plan old new → new.names ≡ old.names
names_done values [] old new does = does.names_stay
names_done values (Read l ∷ plan) old new does = names_done values plan does.0 new does.1.1 ∙ ap (λ (s : StoreView). s.names) does.1.0
names_done values (Set l content ∷ plan) old new does = names_done values plan does.0 new does.1.1 ∙ does.1.0.names_stay
names_done values (Update l change ∷ plan) old new does = names_done values plan does.0 new does.1.1 ∙ does.1.0.names_stay

module _ (table : ValuesView) where
  none_named : AreNamed table []
  none_named i item at = cc

  first_named : (v : Value) (vs : List Value) → IsNamed table v → AreNamed table vs → AreNamed table (v ∷ vs)
  first_named v vs one more zero item at = subst (IsNamed table) (same_Some v item at) one
  first_named v vs one more (suc i) item at = more i item at

  rest_named : (v : Value) (vs : List Value) → AreNamed table (v ∷ vs) → AreNamed table vs
  rest_named v vs named i item at = named (suc i) item at

  last_named : (vs : List Value) (v : Value) → AreNamed table vs → IsNamed table v → AreNamed table (vs ++ v ∷ [])
  last_named [] v named one = first_named v [] one none_named
  last_named (first ∷ vs) v named one = first_named first (vs ++ v ∷ []) (named 0 first refl) (last_named vs v (rest_named first vs named) one)

  put_named : (ks : List Value) (key : Value) → AreNamed table ks → IsNamed table key → AreNamed table (with_key ks key)
  put_named ks key named one = by (list_any (values_eq.eq key) ks)
    where
      by : (b : Bool) → AreNamed table (if b then ks else ks ++ key ∷ [])
      by true = named
      by false = last_named ks key named one

  all_named : (ks more : List Value) → AreNamed table ks → AreNamed table more → AreNamed table (with_keys ks more)
  all_named ks [] named rest = named
  all_named ks (first ∷ more) named rest = all_named (with_key ks first) more (put_named ks first named (rest 0 first refl)) (rest_named first more rest)

  taken_named : (ks : List Value) (key : Value) → AreNamed table ks → AreNamed table (without_key ks key)
  taken_named [] key named = named
  taken_named (first ∷ ks) key named = by (values_eq.eq key first) (taken_named ks key (rest_named first ks named))
    where
      by : (b : Bool) → AreNamed table (without_key ks key) → AreNamed table (cond b ks (first ∷ without_key ks key))
      by true more = rest_named first ks named
      by false more = first_named first (without_key ks key) (named 0 first refl) more

  written_named : (content : Content) → IsNamedContent table content → IsNamedHeld table (written content)
  written_named (OrderContent ks) named = all_named [] ks none_named named
  written_named (FileContent text) named = tt
  written_named (VarContent value) named = named
  written_named (LenContent len) named = named
  written_named (ItemContent item) named = named
  written_named (EntryContent entry) named = named
  written_named (OffsetContent offset) named = named
  written_named (ClosedContent is_closed) named = named
  written_named (MethodContent place) named = named
  written_named (BaseContent base) named = named

  order_named : (store : StoreView) → IsNamedStore table store → (o : ℕ) → AreNamed table (keys_at store o)
  order_named store named o = (named.held (Order o) (keys (keys_at store o)) refl).1

  changed_named : (values : ValuesView) (store : StoreView) → IsNamedStore table store → (l : Location) (change : Change) → IsNamedChange table change → IsNamedHeld table (changed values store l change)
  changed_named values store all (Order o) (Insert key) named = put_named (keys_at store o) key (order_named store all o) named
  changed_named values store all (Order o) (Delete key) named = taken_named (keys_at store o) key (order_named store all o)
  changed_named values store all (File path) change named = tt
  changed_named values store all l change named = none_named

  -- where kinds and names stay
  rest_stay : (old new : StoreView) → IsNamedStore table old → kinds new ≡ kinds old → new.names ≡ old.names
      → ((l : Location) (w : Held) → held_at new l ≡ Some w → IsNamedLocation table l × IsNamedHeld table w) → IsNamedStore table new
  rest_stay old new named kinds_stay names_stay held = record {
    held = held;
    kinds_named = λ o kind at. named.kinds_named o kind (ap (λ all. slice_get all o) (sym kinds_stay) ∙ at);
    names_named = λ place name at. named.names_named place name (ap (lookup (places.eq place)) (sym names_stay) ∙ at);
  }

  pub named_kept : (old new : StoreView) → IsNamedStore table old → Keeps old new → IsNamedStore table new
  named_kept old new named keeps = rest_stay old new named keeps.kinds_stay keeps.names_stay (λ l w at. named.held l w (sym (keeps.held l) ∙ at))

  -- the object that a plan makes
  pub named_made : (old new : StoreView) (made : Option Kind) → IsNamedStore table old → IsNamedKind table made → ((l : Location) → held_at new l ≡ held_at old l)
      → kinds new ≡ kinds_with made (kinds old) → new.names ≡ old.names → IsNamedStore table new
  named_made old new None named kind held kinds_are names_stay = rest_stay old new named kinds_are names_stay (λ l w at. named.held l w (sym (held l) ∙ at))
  named_made old new (Some kind) named kind_named held kinds_are names_stay = record {
    held = λ l w at. named.held l w (sym (held l) ∙ at);
    kinds_named = λ o k at. kind_of (λ (x : Kind). IsNamedKind table (Some x)) (kinds old) kind named.kinds_named kind_named o k (ap (λ all. slice_get all o) (sym kinds_are) ∙ at);
    names_named = λ place name at. named.names_named place name (ap (lookup (places.eq place)) (sym names_stay) ∙ at);
  }

  module _ (same : (l m : Location) → (locations.eq l m ≡ true) ↔ (l ≡ m)) where
    pub named_written : (old new : StoreView) (l : Location) (w : Held) → IsNamedStore table old → IsNamedLocation table l → IsNamedHeld table w → Writes old new l w → IsNamedStore table new
    named_written old new l w named at what writes = rest_stay old new named writes.kinds_stay writes.names_stay (λ m v there. by m v (locations.eq l m) refl (sym (writes.held m) ∙ there))
      where
        by : (m : Location) (v : Held) (b : Bool) → locations.eq l m ≡ b → (if b then Some w else held_at old m) ≡ Some v → IsNamedLocation table m × IsNamedHeld table v
        by m v true is there = (subst (IsNamedLocation table) ((same l m).0 is) at, subst (IsNamedHeld table) (same_Some w v there) what)
        by m v false is there = named.held m v there

    pub named_does : (values : ValuesView) (access : Access) (old new : StoreView) → IsNamedAccess table access → IsNamedStore table old → Does values access old new → IsNamedStore table new
    named_does values (Read l) old new at named does = subst (IsNamedStore table) (sym does) named
    named_does values (Set l content) old new at named does = named_written old new l (written content) named at.1.0 (written_named content at.1.1) does
    named_does values (Update l change) old new at named does = named_written old new l (changed values old l change) named at.1.0 (changed_named values old named l change at.1.1) does

    pub named_does_all : (values : ValuesView) (plan : List Access) (old new : StoreView) → AreNamedAccesses table plan → IsNamedStore table old → DoesAll values plan old new → IsNamedStore table new
    named_does_all values [] old new at named does = named_kept old new named does
    named_does_all values (access ∷ plan) old new at named does = named_does_all values plan does.0 new at.1 (named_does values access old does.0 at.0 named does.1.0) does.1.1
