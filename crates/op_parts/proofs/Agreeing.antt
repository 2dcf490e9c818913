-- What is held stands for the same by any two tables that have its texts and tuples.
use Rattle.std.proofs.Common.{◌≡◌, refl, sym, ap, subst, ◌∙◌, ℕ, zero, suc, ◌<◌, List, [], ◌∷◌, map, length, slice_get, Option, Some, None, unwrap_or}
use Rattle.std.specs.Option.{option_map, option_and_then}
use Rattle.std.proofs.Math.Path.{fun_ext}
use Rattle.answer_source.specs.Sources.{Fits as FitsSource, Stands as StandsSource}
use Rattle.object_store.specs.Keyed.{IsKeyed}
use Rattle.object_store.specs.Named.{IsNamedStore, IsNamedHeld}
use Rattle.object_store.specs.Seen.{held_seen, seen_at, store_seen}
use Rattle.object_store.specs.Store.{StoreView, Held, whole, keys, bytes, held_at, kinds, name_at}
use Rattle.op_state.specs.Holding.{Found, with_found, Holds}
use Rattle.op_state.specs.Held.{HeldView}
use Rattle.op_state.proofs.PathNumbers.{text_there}
use Rattle.op_parts.specs.Fitting.{found_by, IsFitting, IsStanding}
use Rattle.op_work.specs.Work.{Extends, AreNamedPaths}
use Rattle.op_work.proofs.Going.{extends_same}
use Rattle.py_model.specs.Capture.{Capture}
use Rattle.py_model.specs.Doing.{AreItsValues}
use Rattle.py_model.specs.Store.{RunStore}
use Rattle.py_value.specs.Contents.{contents}
use Rattle.py_value.specs.Named.{IsNamedContent, IsNamedKind}
use Rattle.py_value.specs.Seen.{SeenLocation, SeenContent, var_at, entry_at, file_at, method_at, var_is, item_is, entry_is, order_is, file_is, base_is, an_instance, a_file, IsNamedLocation, location_seen, content_seen, kind_seen, location_at, bytes_of}
use Rattle.py_value.specs.Values.{ValuesView, AreInterned, IsNamed, AreNamed, Keeps}
use Rattle.py_value.specs.declared.access.Content.{Content}
use Rattle.py_value.specs.declared.access.Content.TheVariants.{Var as VarContent, Len as LenContent, Item as ItemContent, Entry as EntryContent, Order as OrderContent, File as FileContent, Offset as OffsetContent, Closed as ClosedContent, Method as MethodContent, Base as BaseContent}
use Rattle.py_value.specs.declared.access.Kind.{Kind}
use Rattle.py_value.specs.declared.access.Kind.TheVariants.{List as ListKind, Dict as DictKind, Instance, File as FileKind}
use Rattle.py_value.specs.declared.access.Location.{Location}
use Rattle.py_value.specs.declared.access.Location.TheVariants.{Var, Len, Item, Entry, Order, File, Offset, Closed, Method, Base}
use Rattle.py_value.specs.declared.value.Value.{Value}

-- the laws that are used
abbrev pub ContentsStay : Type 0
ContentsStay = (old new : ValuesView) (v : Value) → AreInterned old → Keeps old.texts new.texts → Keeps old.tuples new.tuples → IsNamed old v → contents new v ≡ contents old v

abbrev pub OverContents : Type 0
OverContents = (values : ValuesView) (store : StoreView) (l : Location) → AreInterned values → IsNamedLocation values l
    → (store_seen values store).at (location_seen values l) ≡ option_map (held_seen values) (held_at store l)

abbrev pub SeenBack : Type 0
SeenBack = (view : ValuesView) (place : SeenLocation) (l : Location) → AreInterned view → location_at view place ≡ Some l → IsNamedLocation view l × (location_seen view l ≡ place)

abbrev pub StoreGrown : Type 0
StoreGrown = (values table : ValuesView) (store : StoreView) → Keeps values.texts table.texts → Keeps values.tuples table.tuples → IsNamedStore values store → IsNamedStore table store

-- what was named is the same by a table that has it
module _ (stay : ContentsStay) (values table : ValuesView) (interned : AreInterned values) (extends : Extends values table) where
  text_stays : (i : ℕ) → i < length values.texts → bytes_of table i ≡ bytes_of values i
  text_stays i within = ap (λ o. unwrap_or o []) (extends.texts i (bytes_of values i) (text_there values.texts i within))

  value_stays : (v : Value) → IsNamed values v → contents table v ≡ contents values v
  value_stays v named = stay values table v interned extends.texts extends.tuples named

  values_stay : (vs : List Value) → AreNamed values vs → map (contents table) vs ≡ map (contents values) vs
  values_stay [] named = refl
  values_stay (v ∷ vs) named = ap (λ c. c ∷ map (contents table) vs) (value_stays v (named zero v refl)) ∙ ap (λ cs. contents values v ∷ cs) (values_stay vs (λ i w is. named (suc i) w is))

  location_stays : (l : Location) → IsNamedLocation values l → location_seen table l ≡ location_seen values l
  location_stays (Var scope name) named = ap (var_at scope) (text_stays name named)
  location_stays (Len o) named = refl
  location_stays (Item o i) named = refl
  location_stays (Entry o key) named = ap (entry_at o) (value_stays key.value named)
  location_stays (Order o) named = refl
  location_stays (File path) named = ap file_at (text_stays path named)
  location_stays (Offset o) named = refl
  location_stays (Closed o) named = refl
  location_stays (Method place name) named = ap (method_at place) (text_stays name named)
  location_stays (Base place) named = refl

  content_stays : (c : Content) → IsNamedContent values c → content_seen table c ≡ content_seen values c
  content_stays (VarContent (Some v)) named = ap (λ c. var_is (Some c)) (value_stays v named)
  content_stays (VarContent None) named = refl
  content_stays (LenContent n) named = refl
  content_stays (ItemContent v) named = ap item_is (value_stays v named)
  content_stays (EntryContent (Some entry)) named = ap (λ c. entry_is (Some (c, contents table entry.1))) (value_stays entry.0 named.0)
      ∙ ap (λ c. entry_is (Some (contents values entry.0, c))) (value_stays entry.1 named.1)
  content_stays (EntryContent None) named = refl
  content_stays (OrderContent ks) named = ap order_is (values_stay ks named)
  content_stays (FileContent text) named = ap file_is (text_stays text named)
  content_stays (OffsetContent n) named = refl
  content_stays (ClosedContent b) named = refl
  content_stays (MethodContent at) named = refl
  content_stays (BaseContent (Some v)) named = ap (λ c. base_is (Some c)) (value_stays v named)
  content_stays (BaseContent None) named = refl

  held_stays : (w : Held) → IsNamedHeld values w → held_seen table w ≡ held_seen values w
  held_stays (whole content) named = content_stays content named
  held_stays (keys ks) named = ap order_is (values_stay ks named)
  held_stays (bytes bs) named = refl

  kind_stays : (kind : Kind) → IsNamedKind values (Some kind) → kind_seen table kind ≡ kind_seen values kind
  kind_stays ListKind named = refl
  kind_stays DictKind named = refl
  kind_stays (Instance of) named = ap an_instance (value_stays of named)
  kind_stays (FileKind path mode) named = ap (λ p. a_file p mode) (text_stays path named)

  pub kinds_stay : (ks : List Kind) → ((o : ℕ) (kind : Kind) → slice_get ks o ≡ Some kind → IsNamedKind values (Some kind)) → map (kind_seen table) ks ≡ map (kind_seen values) ks
  kinds_stay [] named = refl
  kinds_stay (kind ∷ ks) named = ap (λ k. k ∷ map (kind_seen table) ks) (kind_stays kind (named zero kind refl))
      ∙ ap (λ rest. kind_seen values kind ∷ rest) (kinds_stay ks (λ o k is. named (suc o) k is))

  pub name_stays : (name : Option ℕ) → ((n : ℕ) → name ≡ Some n → n < length values.texts) → option_map (bytes_of table) name ≡ option_map (bytes_of values) name
  name_stays (Some n) named = ap Some (text_stays n (named n refl))
  name_stays None named = refl

  pub paths_stay : (paths : List ℕ) → AreNamedPaths values paths → map (bytes_of table) paths ≡ map (bytes_of values) paths
  paths_stay [] named = refl
  paths_stay (path ∷ paths) named = ap (λ p. p ∷ map (bytes_of table) paths) (text_stays path named.0) ∙ ap (λ rest. bytes_of values path ∷ rest) (paths_stay paths named.1)

-- what was mapped, and what it was
record Came {A B : Type 0} (f : A → B) (found : Option A) (y : B) : Type 0 where
  pub item : A
  pub there : found ≡ Some item
  pub is : f item ≡ y

same_some : {A : Type 0} (x y : A) → Some x ≡ Some y → x ≡ y
same_some x y is = cc

came : {A B : Type 0} (f : A → B) (found : Option A) (y : B) → option_map f found ≡ Some y → Came f found y
came f None y is = cc
came f (Some x) y is = record { item = x; there = refl; is = same_some (f x) y is }

module _ (stay : ContentsStay) (law : OverContents) (back : SeenBack) (values : ValuesView) (held : StoreView) (interned : AreInterned values) (named : IsNamedStore values held) where
  -- what stands at a place by one table stands there by another
  there : (one other : ValuesView) → AreInterned one → AreInterned other → Extends values one → Extends values other → IsNamedStore other held
      → (place : SeenLocation) (c : SeenContent) → seen_at one held place ≡ Some c → seen_at other held place ≡ Some c
  there one other one_interned other_interned to_one to_other named_other place c is = by_place (location_at one place) refl is
    where
      by_place : (found : Option Location) → location_at one place ≡ found → option_and_then (λ l. option_map (held_seen one) (held_at held l)) found ≡ Some c → seen_at other held place ≡ Some c
      by_place None none some = cc
      by_place (Some l) at some =
          let here = came (held_seen one) (held_at held l) c some in
          let known = named.held l here.item here.there in
          let place_is : location_seen other l ≡ place = location_stays stay values other interned to_other l known.0
          ∙ (sym (location_stays stay values one interned to_one l known.0) ∙ (back one place l one_interned at).1) in
          let content_is : held_seen other here.item ≡ c = held_stays stay values other interned to_other here.item known.1
          ∙ (sym (held_stays stay values one interned to_one here.item known.1) ∙ here.is) in
          subst (λ p. seen_at other held p ≡ Some c) place_is
          (law other held l other_interned (named_other.held l here.item here.there).0 ∙ (ap (option_map (held_seen other)) here.there ∙ ap Some content_is))

  module _ (one other : ValuesView) (one_interned : AreInterned one) (other_interned : AreInterned other) (to_one : Extends values one) (to_other : Extends values other)
      (named_one : IsNamedStore one held) (named_other : IsNamedStore other held) where
    seen_same : seen_at one held ≡ seen_at other held
    seen_same = fun_ext (λ place. by_one place (seen_at one held place) refl)
      where
        by_other : (place : SeenLocation) → seen_at one held place ≡ None → (found : Option SeenContent) → seen_at other held place ≡ found → None ≡ found
        by_other place none None at = refl
        by_other place none (Some c) at = sym none ∙ there other one other_interned one_interned to_other to_one named_one place c at

        by_one : (place : SeenLocation) (found : Option SeenContent) → seen_at one held place ≡ found → seen_at one held place ≡ seen_at other held place
        by_one place (Some c) at = at ∙ sym (there one other one_interned other_interned to_one to_other named_other place c at)
        by_one place None at = at ∙ by_other place at (seen_at other held place) refl

    pub holds_same : (found : Found) (run : RunStore) → Holds found one held run → Holds found other held run
    holds_same found run holds = record {
      interned = other_interned;
      named = named_other;
      at_is = holds.at_is ∙ ap (with_found found) seen_same;
      kinds_are = holds.kinds_are ∙ (kinds_stay stay values one interned to_one (kinds held) named.kinds_named ∙ sym (kinds_stay stay values other interned to_other (kinds held) named.kinds_named));
      names_are = λ place. holds.names_are place ∙ (name_stays stay values one interned to_one (name_at held place) (named.names_named place)
          ∙ sym (name_stays stay values other interned to_other (name_at held place) (named.names_named place)));
      keyed = subst IsKeyed seen_same holds.keyed;
      files = holds.files;
    }

-- what fits, and what it stands for
pub its_values : ContentsStay → OverContents → SeenBack → StoreGrown → (fits : FitsSource) (source : StandsSource) (held : HeldView) (entered : ℕ) → (capture : Capture) × fits capture
    → AreInterned held.work.values → IsNamedStore held.work.values held.work.store → AreNamedPaths held.work.values held.opened
    → AreItsValues (λ table capture. IsFitting fits held.work.values table capture) (λ table capture s. IsStanding source held entered table capture s) held.work.values
its_values stay law back grown fits source held entered some interned named paths = record {
  some_fits = (some.0, record { interned = interned; extends = extends_same held.work.values; fits = some.1 });
  own_fit = λ table capture fit. record { interned = interned; extends = extends_same held.work.values; fits = fit.fits };
  within = λ table capture fit. (fit.extends.texts, fit.extends.tuples);
  agree = λ one other capture s fit_one fit_other stands. record {
    stands = record {
      holds = holds_same stay law back held.work.values held.work.store interned named one other fit_one.interned fit_other.interned fit_one.extends fit_other.extends
          (grown held.work.values one held.work.store fit_one.extends.texts fit_one.extends.tuples named) (grown held.work.values other held.work.store fit_other.extends.texts fit_other.extends.tuples named)
          (found_by capture) s.store stands.stands.holds;
      printed_is = stands.stands.printed_is;
      opened_are = stands.stands.opened_are ∙ (paths_stay stay held.work.values one interned fit_one.extends held.opened paths ∙ sym (paths_stay stay held.work.values other interned fit_other.extends held.opened paths));
    };
    entered_is = stands.entered_is;
    asked = stands.asked;
  };
}
