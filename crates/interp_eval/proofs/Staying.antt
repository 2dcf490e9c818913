-- What is named in one table is the same in a longer one.
use Rattle.std.proofs.Common.{◌≡◌, ℕ, suc, ◌<◌, List, [], ◌∷◌, map, length, slice_get, unwrap_or, Option, Some, None, refl, ap, sym, ◌∙◌}
use Rattle.std.specs.Option.{option_map}
use Rattle.py_value.specs.Contents.{Contents, contents}
use Rattle.py_value.proofs.SameContents.{item_at}
use Rattle.py_value.specs.Values.{ValuesView, Keeps, IsNamed, AreNamed, AreInterned}
use Rattle.py_value.specs.declared.value.Value.{Value}
use Rattle.py_value.specs.Seen.{SeenLocation, SeenContent, SeenChange, sets, reads, updates, var_is, item_is, entry_is, order_is, file_is, base_is, var_at, entry_at, file_at, method_at, key_inserted, key_deleted, bytes_appended, bytes_of, location_seen, content_seen, change_seen, access_seen, kind_seen, an_instance, a_file, IsNamedLocation}
use Rattle.py_value.specs.declared.access.Access.{Access}
use Rattle.py_value.specs.declared.access.Access.TheVariants.{Read, Set, Update}
use Rattle.py_value.specs.declared.access.Change.{Change}
use Rattle.py_value.specs.declared.access.Change.TheVariants.{Insert, Delete, Append}
use Rattle.py_value.specs.declared.access.Content.{Content}
use Rattle.py_value.specs.declared.access.Content.TheVariants.{Var as VarContent, Item as ItemContent, Entry as EntryContent, Order as OrderContent, File as FileContent, Base as BaseContent, Len as LenContent, Offset as OffsetContent, Closed as ClosedContent, Method as MethodContent}
use Rattle.py_value.specs.declared.access.Kind.{Kind}
use Rattle.py_value.specs.declared.access.Kind.TheVariants.{Instance, File as FileKind}
use Rattle.py_value.specs.declared.access.Location.{Location}
use Rattle.py_value.specs.declared.access.Location.TheVariants.{Var, Len, Item, Entry, Order, File, Offset, Closed, Method, Base}
use Rattle.py_model.specs.declared.moment.Answer.{Answer}
use Rattle.py_model.specs.declared.moment.Answer.TheVariants.{Value as ValueAnswer, Raised, End}
use Rattle.py_model.specs.declared.moment.Moment.{Moment}
use Rattle.py_model.specs.declared.moment.Moment.TheVariants.{Begin, Do, Enter, Leave, End as EndMoment}
use Rattle.py_model.specs.Moment.{does, enters, leaves}
use Rattle.py_model.specs.Plan.{value}
use Rattle.py_model.specs.Told.{answer_seen, moment_seen, IsTellable, IsNamedAnswer, IsNamedKind, IsNamedAccess, AreNamedAccesses, IsNamedContent, IsNamedChange}

-- contents stay as texts and tuples come
abbrev pub ContentsStay : Type 0
ContentsStay = (old new : ValuesView) (v : Value) → AreInterned old → Keeps old.texts new.texts → Keeps old.tuples new.tuples → IsNamed old v → contents new v ≡ contents old v

module _ (law : ContentsStay) (own table : ValuesView) (interned : AreInterned own) (texts : Keeps own.texts table.texts) (tuples : Keeps own.tuples table.tuples) where
  one_stays : (v : Value) → IsNamed own v → contents table v ≡ contents own v
  one_stays v named = law own table v interned texts tuples named

  item_of : (xs ys : List (List ℕ)) → Keeps xs ys → (i : ℕ) → i < length xs → unwrap_or (slice_get ys i) [] ≡ unwrap_or (slice_get xs i) []
  item_of xs ys keeps i below = let found = item_at xs i below in ap (λ o. unwrap_or o []) (keeps i found.0 found.1) ∙ sym found.2

  bytes_stay : (n : ℕ) → n < length own.texts → bytes_of table n ≡ bytes_of own n
  bytes_stay n below = item_of own.texts table.texts texts n below

  all_stay : (vs : List Value) → AreNamed own vs → map (contents table) vs ≡ map (contents own) vs
  all_stay [] named = refl
  all_stay (v ∷ vs) named = two (one_stays v (named 0 v refl)) (all_stay vs (λ i item is. named (suc i) item is))
    where
      two : {A : Type 0} {x y : A} {xs ys : List A} → x ≡ y → xs ≡ ys → x ∷ xs ≡ y ∷ ys
      two a b = cc

  answer_stays : (a : Answer) → IsNamedAnswer own a → answer_seen table a ≡ answer_seen own a
  answer_stays (ValueAnswer v) named = ap value (one_stays v named)
  answer_stays (Raised o) named = refl
  answer_stays End named = refl

  kind_stays : (k : Option Kind) → IsNamedKind own k → option_map (kind_seen table) k ≡ option_map (kind_seen own) k
  kind_stays (Some (Instance of)) named = ap (λ v. Some (an_instance v)) (one_stays of named)
  kind_stays (Some (FileKind path mode)) named = ap (λ b. Some (a_file b mode)) (bytes_stay path named)
  kind_stays kind named = refl

  location_stays : (l : Location) → IsNamedLocation own l → location_seen table l ≡ location_seen own l
  location_stays (Var scope name) named = ap (var_at scope) (bytes_stay name named)
  location_stays (Entry o key) named = ap (entry_at o) (one_stays key.value named)
  location_stays (File path) named = ap file_at (bytes_stay path named)
  location_stays (Method place name) named = ap (method_at place) (bytes_stay name named)
  location_stays (Len o) named = refl
  location_stays (Item o i) named = refl
  location_stays (Order o) named = refl
  location_stays (Offset o) named = refl
  location_stays (Closed o) named = refl
  location_stays (Base place) named = refl

  content_stays : (c : Content) → IsNamedContent own c → content_seen table c ≡ content_seen own c
  content_stays (VarContent (Some v)) named = ap (λ w. var_is (Some w)) (one_stays v named)
  content_stays (VarContent None) named = refl
  content_stays (ItemContent v) named = ap item_is (one_stays v named)
  content_stays (EntryContent (Some entry)) named = both (one_stays entry.0 named.0) (one_stays entry.1 named.1)
    where
      both : {v w x y : Contents} → v ≡ w → x ≡ y → entry_is (Some (v, x)) ≡ entry_is (Some (w, y))
      both a b = cc
  content_stays (EntryContent None) named = refl
  content_stays (OrderContent keys) named = ap order_is (all_stay keys named)
  content_stays (FileContent bytes) named = ap file_is (bytes_stay bytes named)
  content_stays (BaseContent (Some v)) named = ap (λ w. base_is (Some w)) (one_stays v named)
  content_stays (BaseContent None) named = refl
  content_stays (LenContent n) named = refl
  content_stays (OffsetContent n) named = refl
  content_stays (ClosedContent b) named = refl
  content_stays (MethodContent place) named = refl

  change_stays : (c : Change) → IsNamedChange own c → change_seen table c ≡ change_seen own c
  change_stays (Insert v) named = ap key_inserted (one_stays v named)
  change_stays (Delete v) named = ap key_deleted (one_stays v named)
  change_stays (Append bytes) named = ap bytes_appended (bytes_stay bytes named)

  access_stays : (a : Access) → IsNamedAccess own a → access_seen table a ≡ access_seen own a
  access_stays (Read l) named = ap reads (location_stays l named)
  access_stays (Set l content) named = set (location_stays l named.1.0) (content_stays content named.1.1)
    where
      set : {l m : SeenLocation} {c d : SeenContent} → l ≡ m → c ≡ d → sets l c ≡ sets m d
      set a b = cc
  access_stays (Update l change) named = update (location_stays l named.1.0) (change_stays change named.1.1)
    where
      update : {l m : SeenLocation} {c d : SeenChange} → l ≡ m → c ≡ d → updates l c ≡ updates m d
      update a b = cc

  accesses_stay : (xs : List Access) → AreNamedAccesses own xs → map (access_seen table) xs ≡ map (access_seen own) xs
  accesses_stay [] named = refl
  accesses_stay (x ∷ xs) named = two (access_stays x named.0) (accesses_stay xs named.1)
    where
      two : {A : Type 0} {x y : A} {xs ys : List A} → x ≡ y → xs ≡ ys → x ∷ xs ≡ y ∷ ys
      two a b = cc

  -- what is told is the same by every table that has at least these texts and tuples
  pub moment_stays : (m : Moment) → IsTellable own m → moment_seen table m ≡ moment_seen own m
  moment_stays (Begin number) named = refl
  moment_stays (Do at number values answer made accesses weight) named =
      ap (λ vs. does at number vs (answer_seen table answer) (option_map (kind_seen table) made) (map (access_seen table) accesses) weight) (all_stay values named.1.0)
      ∙ ap (λ a. does at number (map (contents own) values) a (option_map (kind_seen table) made) (map (access_seen table) accesses) weight) (answer_stays answer named.1.1.0)
      ∙ ap (λ k. does at number (map (contents own) values) (answer_seen own answer) k (map (access_seen table) accesses) weight) (kind_stays made named.1.1.1.0)
      ∙ ap (λ xs. does at number (map (contents own) values) (answer_seen own answer) (option_map (kind_seen own) made) xs weight) (accesses_stay accesses named.1.1.1.1)
  moment_stays (Enter at def values accesses) named =
      ap (λ vs. enters at def vs (map (access_seen table) accesses)) (all_stay values named.0) ∙ ap (λ xs. enters at def (map (contents own) values) xs) (accesses_stay accesses named.1)
  moment_stays (Leave v) named = ap leaves (one_stays v named)
  moment_stays (EndMoment number how) named = refl
