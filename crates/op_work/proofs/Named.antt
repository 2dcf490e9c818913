-- What is named, and within the objects that there are, is so behind more of it.
use Rattle.std.proofs.Common.{◌≡◌, refl, ap, sym, ◌∙◌, subst, ℕ, zero, suc, ◌+◌, ◌≤◌, Bool, true, false, length, List, [], ◌∷◌, ◌++◌, Option, Some, None, IsSome, Result, Ok, Err, if◌then◌else◌, arith, slice_get}
use Rattle.std.specs.Result.{OnOk, OnErr}
use Rattle.py_value.specs.contracts.access.LocationPartialEq.TheImpl.{ghosts as locations}
use Rattle.object_store.specs.Room.{IsWithin, IsAccessWithin, AreWithin, IsNamedAccess as IsNamedText}
use Rattle.object_store.specs.Named.{IsNamedStore}
use Rattle.std.specs.Option.{option_map}
use Rattle.object_store.specs.Performing.{kinds_with}
use Rattle.std.specs.Map.{lookup}
use Rattle.prov_base.specs.contracts.place.PosPartialEq.TheImpl.{ghosts as places}
use Rattle.py_value.specs.declared.access.Change.TheVariants.{Insert, Delete, Append}
use Rattle.py_value.specs.Named.{IsNamedAccess, AreNamedAccesses}
use Rattle.std.proofs.lemmas.List.{length_push, length-map}
use Rattle.object_store.specs.Store.{StoreView, Keeps, Writes, bytes, file_at, held_at, kinds, count_with}
use Rattle.op_work.specs.Work.{cost_of, IsThere, AreThere}
use Rattle.py_value.specs.declared.access.Kind.{Kind}
use Rattle.py_value.specs.Values.{ValuesView}
use Rattle.py_value.specs.declared.access.Access.{Access}
use Rattle.py_value.specs.declared.access.Access.TheVariants.{Read, Set, Update}
use Rattle.py_value.specs.declared.access.Location.{Location}
use Rattle.py_value.specs.declared.access.Location.TheVariants.{Var, Len, Item, Entry, Order, File, Offset, Closed, Method, Base}

pub named_behind : (values : ValuesView) (accesses : List Access) (access : Access) → AreNamedAccesses values accesses → IsNamedAccess values access
    → AreNamedAccesses values (accesses ++ access ∷ [])
named_behind values [] access named one = (one, tt)
named_behind values (first ∷ accesses) access named one = (named.0, named_behind values accesses access named.1 one)

same : (access a : Access) → Some access ≡ Some a → access ≡ a
same access a is = cc

pub within_behind : (count : ℕ) (accesses : List Access) (access : Access) → AreWithin count accesses → IsAccessWithin count access → AreWithin count (accesses ++ access ∷ [])
within_behind count [] access within one zero a is = subst (IsAccessWithin count) (same access a is) one
within_behind count [] access within one (suc k) a is = cc
within_behind count (first ∷ accesses) access within one zero a is = within zero a is
within_behind count (first ∷ accesses) access within one (suc k) a is = within_behind count accesses access (λ j b at. within (suc j) b at) one k a is

-- the accesses of an operation stay sound with one more behind them
pub record AreSound (values : ValuesView) (store : StoreView) (made : Option Kind) (accesses : List Access) : Type 0 where
  pub named : AreNamedAccesses values accesses
  pub within : AreWithin (count_with made store) accesses
  pub there : AreThere store accesses

there_behind : (store : StoreView) (accesses : List Access) (access : Access) → AreThere store accesses → IsThere store access → AreThere store (accesses ++ access ∷ [])
there_behind store [] access there one = (one, tt)
there_behind store (first ∷ accesses) access there one = (there.0, there_behind store accesses access there.1 one)

pub sound_behind : (values : ValuesView) (store : StoreView) (made : Option Kind) (accesses new : List Access) (access : Access) → new ≡ accesses ++ access ∷ []
    → AreNamedAccesses values accesses → AreWithin (count_with made store) accesses → AreThere store accesses → IsNamedAccess values access → IsAccessWithin (count_with made store) access → IsThere store access
    → AreSound values store made new
sound_behind values store made accesses new access is named within are one inside there = subst (AreSound values store made) (sym is) (record {
  named = named_behind values accesses access named one;
  within = within_behind (count_with made store) accesses access within inside;
  there = there_behind store accesses access are there;
})

pub cost_behind : (accesses new : List Access) (access : Access) (looks characters left : ℕ) → new ≡ accesses ++ access ∷ []
    → cost_of (length accesses) (looks + 1) (characters + 0) ≤ left → cost_of (length new) looks characters ≤ left
cost_behind accesses new access looks characters left is pays = let longer = ap length is ∙ length_push accesses access in omega (arith, pays, longer)

location_more : (n m : ℕ) → n ≤ m → (l : Location) → IsWithin n l → IsWithin m l
location_more n m more (Item o i) within = omega (arith, more, within)
location_more n m more (Order o) within = omega (arith, more, within)
location_more n m more (Var scope name) within = tt
location_more n m more (Len o) within = tt
location_more n m more (Entry o key) within = tt
location_more n m more (File path) within = tt
location_more n m more (Offset o) within = tt
location_more n m more (Closed o) within = tt
location_more n m more (Method place name) within = tt
location_more n m more (Base place) within = tt

access_more : (n m : ℕ) → n ≤ m → (access : Access) → IsAccessWithin n access → IsAccessWithin m access
access_more n m more (Read l) within = tt
access_more n m more (Set l content) within = location_more n m more l within
access_more n m more (Update l change) within = location_more n m more l within

-- one object more may be named once an operation makes one
pub within_made : (store : StoreView) (kind : Kind) (accesses : List Access) → AreWithin (count_with None store) accesses → AreWithin (count_with (Some kind) store) accesses
within_made store kind accesses within k access is = access_more (length store.objects) (length store.objects + 1) (omega (arith)) access (within k access is)

pub within_made_again : (store : StoreView) (made : Option Kind) (kind : Kind) (accesses : List Access) → AreWithin (count_with made store) accesses
    → AreWithin (count_with (Some kind) store) accesses
within_made_again store None kind accesses within = within_made store kind accesses within
within_made_again store (Some other) kind accesses within = within

within_more : (n m : ℕ) → n ≤ m → (accesses : List Access) → AreWithin n accesses → AreWithin m accesses
within_more n m more accesses within k access is = access_more n m more access (within k access is)

objects_are : (store : StoreView) → length (kinds store) ≡ length store.objects
objects_are store = length-map store.objects (λ ob. ob.kind)

count_more : (made : Option Kind) (old new : StoreView) → length (kinds old) ≤ length (kinds new) → count_with made old ≤ count_with made new
count_more None old new more = omega (arith, more, objects_are old, objects_are new)
count_more (Some kind) old new more = omega (arith, more, objects_are old, objects_are new)

-- what was within the objects is so in a store with as many or more
pub within_grown : (made : Option Kind) (old new : StoreView) (accesses : List Access) → length (kinds old) ≤ length (kinds new)
    → AreWithin (count_with made old) accesses → AreWithin (count_with made new) accesses
within_grown made old new accesses more within = within_more (count_with made old) (count_with made new) (count_more made old new more) accesses within

pub kinds_more : (made : Option Kind) (ks : List Kind) → length ks ≤ length (kinds_with made ks)
kinds_more None ks = omega (arith)
kinds_more (Some kind) ks = let longer = length_push ks kind in omega (arith, longer)

-- a store that holds the same is named as before
pub named_kept : (values : ValuesView) (old new : StoreView) → Keeps old new → IsNamedStore values old → IsNamedStore values new
named_kept values old new keeps named = record {
  held = λ l w is. named.held l w (sym (keeps.held l) ∙ is);
  kinds_named = λ o kind is. named.kinds_named o kind (subst (λ ks. slice_get ks o ≡ Some kind) keeps.kinds_stay is);
  names_named = λ place name is. named.names_named place name (subst (λ names. lookup (places.eq place) names ≡ Some name) keeps.names_stay is);
}

-- the texts of what is appended have numbers
pub texts_named : (values : ValuesView) (plan : List Access) → AreNamedAccesses values plan → (k : ℕ) (access : Access) → slice_get plan k ≡ Some access → IsNamedText values access
texts_named values [] named k access is = cc
texts_named values (first ∷ plan) named zero access is = subst (IsNamedText values) (same first access is) (text_named first named.0)
  where
    text_named : (access : Access) → IsNamedAccess values access → IsNamedText values access
    text_named (Read l) named = tt
    text_named (Set l content) named = tt
    text_named (Update l (Insert key)) named = tt
    text_named (Update l (Delete key)) named = tt
    text_named (Update l (Append text)) named = named.1.1
texts_named values (first ∷ plan) named (suc k) access is = texts_named values plan named.1 k access is

-- the files that are there stay, where the store holds the same
there_same : (old new : Option (List ℕ)) → option_map bytes new ≡ option_map bytes old → IsSome old → IsSome new
there_same (Some b) (Some c) is there = refl
there_same (Some b) None is there = cc
there_same None new is there = cc

pub there_kept : (old new : StoreView) → ((l : Location) → held_at new l ≡ held_at old l) → (accesses : List Access) → AreThere old accesses → AreThere new accesses
there_kept old new held [] there = tt
there_kept old new held (access ∷ accesses) there = (one access there.0, there_kept old new held accesses there.1)
  where
    one : (access : Access) → IsThere old access → IsThere new access
    one (Update (File path) how) there = there_same (file_at old path) (file_at new path) (held (File path)) there
    one (Update (Var scope name) how) there = tt
    one (Update (Len o) how) there = tt
    one (Update (Item o i) how) there = tt
    one (Update (Entry o key) how) there = tt
    one (Update (Order o) how) there = tt
    one (Update (Offset o) how) there = tt
    one (Update (Closed o) how) there = tt
    one (Update (Method place name) how) there = tt
    one (Update (Base place) how) there = tt
    one (Read l) there = tt
    one (Set l content) there = tt

-- the files that are there stay, where one is put in its place
there_or_put : (b : Bool) (old new : Option (List ℕ)) (bs : List ℕ) → option_map bytes new ≡ (if b then Some (bytes bs) else option_map bytes old) → IsSome old → IsSome new
there_or_put true old (Some c) bs is there = refl
there_or_put true old None bs is there = cc
there_or_put false old new bs is there = there_same old new is there

pub there_placed : (old new : StoreView) (path : ℕ) (bs : List ℕ) → Writes old new (File path) (bytes bs) → (accesses : List Access) → AreThere old accesses → AreThere new accesses
there_placed old new path bs put [] there = tt
there_placed old new path bs put (access ∷ accesses) there = (one access there.0, there_placed old new path bs put accesses there.1)
  where
    one : (access : Access) → IsThere old access → IsThere new access
    one (Update (File other) how) there = there_or_put (locations.eq (File path) (File other)) (file_at old other) (file_at new other) bs (put.held (File other)) there
    one (Update (Var scope name) how) there = tt
    one (Update (Len o) how) there = tt
    one (Update (Item o i) how) there = tt
    one (Update (Entry o key) how) there = tt
    one (Update (Order o) how) there = tt
    one (Update (Offset o) how) there = tt
    one (Update (Closed o) how) there = tt
    one (Update (Method place name) how) there = tt
    one (Update (Base place) how) there = tt
    one (Read l) there = tt
    one (Set l content) there = tt

pub count_placed : (made : Option Kind) (old new : StoreView) → new ≡ record old { files = new.files } → count_with made new ≡ count_with made old
count_placed None old new is = ap (λ (s : StoreView). length s.objects) is
count_placed (Some kind) old new is = ap (λ (s : StoreView). length s.objects + 1) is

pub same_path : (path other : ℕ) → Some path ≡ Some other → path ≡ other
same_path path other is = cc

-- one of the two, by the answer
pub by_answer : {T E C A B : Type 0} (result : Result T E) → OnOk result A → OnErr result B → (A → C) → (B → C) → C
by_answer (Ok done) good bad if_good if_bad = if_good good
by_answer (Err want) good bad if_good if_bad = if_bad bad
