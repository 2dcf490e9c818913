-- How much room is taken by one access, and by those of a plan, one after the other.
use Rattle.std.proofs.Common.{◌≡◌, ℕ, zero, suc, ◌+◌, ◌*◌, ◌<◌, ◌≤◌, ◌==◌, ◌||◌, max, Bool, true, false, List, [], ◌∷◌, ◌++◌, length, slice_get, slice_set, slice_index_or, Some, unwrap_or, Result, Ok, Err, refl, sym, ap, subst, ◌∙◌, arith, eq-eqb, if◌then◌else◌}
use Rattle.std.specs.List.{list_any}
use Rattle.std.specs.Prelude.{OnOk}
use Rattle.std.proofs.lemmas.Bool.{false≢true}
use Rattle.std.proofs.lemmas.Option.{same_Some}
use Rattle.py_value.specs.declared.access.Access.{Access}
use Rattle.object_store.specs.Frugal.{place_set, writes_order, writes_file, places_in, size_in, keys_most, bytes_most, TakesUpTo, TakesFewFor, TakesFew}
use Rattle.object_store.specs.Object.{ObjectView, no_object}
use Rattle.object_store.specs.Room.{Room, object_in, bytes_in}
use Rattle.object_store.specs.Store.{StoreView, file_at, object_at, room_of, room_with_next}

pub on_more : {T E : Type 0} (r : Result T E) (P Q : Type 0) → (P → Q) → OnOk r P → OnOk r Q
on_more (Ok x) P Q more holds = more holds
on_more (Err e) P Q more holds = tt

pub on_all : {T E : Type 0} (r : Result T E) → OnOk r (Unit {0})
on_all (Ok x) = tt
on_all (Err e) = tt

-- what is taken where nothing is
pub few_self : (room : Room) (places : ℕ → ℕ) (orders files : ℕ → Bool) (keys bytes : ℕ) → TakesUpTo room room places orders files keys bytes
few_self room places orders files keys bytes = record {
  few_places = λ o. omega arith;
  few_keys = λ o. omega arith;
  few_bytes = λ path. omega arith;
  keys_stay = λ o. refl;
  sizes_stay = λ path. refl;
}

-- a bound that holds where the first holds
if_so : (n : ℕ) (one other : Bool) → (one ≡ true → other ≡ true) → (if one then n else 0) ≤ (if other then n else 0)
if_so n false other so = omega arith
if_so n true true so = omega arith
if_so n true false so = absurd (false≢true (so refl))

module _ (a b c : Room) (places more_places : ℕ → ℕ) (orders more_orders files more_files : ℕ → Bool) (keys bytes : ℕ)
    (first : TakesUpTo a b more_places more_orders more_files keys bytes) (second : TakesUpTo b c places orders files keys bytes)
    (places_so : (o : ℕ) → places o ≤ more_places o) (orders_so : (o : ℕ) → orders o ≡ true → more_orders o ≡ true) (files_so : (path : ℕ) → files path ≡ true → more_files path ≡ true) where
  keys_so : (o : ℕ) → keys_most b keys o (orders o) ≤ keys_most a keys o (more_orders o)
  keys_so o = subst (λ ks. (if orders o then length ks + 2 * keys + 64 else 0) ≤ keys_most a keys o (more_orders o)) (sym (first.keys_stay o))
      (if_so (length (object_in a o).keys + 2 * keys + 64) (orders o) (more_orders o) (orders_so o))

  bytes_so : (path : ℕ) → bytes_most b bytes path (files path) ≤ bytes_most a bytes path (more_files path)
  bytes_so path = subst (λ n. (if files path then max bytes n else 0) ≤ bytes_most a bytes path (more_files path)) (sym (first.sizes_stay path))
      (if_so (max bytes (size_in a path)) (files path) (more_files path) (files_so path))

  pub few_then : TakesUpTo a c more_places more_orders more_files keys bytes
  few_then = record {
    few_places = λ o. omega (arith, first.few_places o, second.few_places o, places_so o);
    few_keys = λ o. omega (arith, first.few_keys o, second.few_keys o, keys_so o);
    few_bytes = λ path. omega (arith, first.few_bytes path, second.few_bytes path, bytes_so path);
    keys_stay = λ o. second.keys_stay o ∙ first.keys_stay o;
    sizes_stay = λ path. second.sizes_stay path ∙ first.sizes_stay path;
  }

-- an access of a plan needs no more than the plan
places_among : (o : ℕ) (plan : List Access) (k : ℕ) (access : Access) → slice_get plan k ≡ Some access → place_set o access ≤ places_in o plan
places_among o [] k access is = absurd cc
places_among o (x ∷ plan) zero access is = subst (λ a. place_set o a ≤ max (place_set o x) (places_in o plan)) (same_Some x access is) (omega arith)
places_among o (x ∷ plan) (suc k) access is = let rest = places_among o plan k access is in omega (arith, rest)

or_right : (a b : Bool) → b ≡ true → (a || b) ≡ true
or_right true b is = refl
or_right false b is = is

or_left : (a b : Bool) → a ≡ true → (a || b) ≡ true
or_left true b is = refl
or_left false b is = absurd (false≢true is)

any_among : (f : Access → Bool) (plan : List Access) (k : ℕ) (access : Access) → slice_get plan k ≡ Some access → f access ≡ true → list_any f plan ≡ true
any_among f [] k access at is = absurd cc
any_among f (x ∷ plan) zero access at is = or_left (f x) (list_any f plan) (ap f (same_Some x access at) ∙ is)
any_among f (x ∷ plan) (suc k) access at is = or_right (f x) (list_any f plan) (any_among f plan k access at is)

pub few_more : (a b c : Room) (plan : List Access) (keys bytes k : ℕ) (access : Access) → slice_get plan k ≡ Some access → TakesFew a b plan keys bytes → TakesFewFor b c access keys bytes
    → TakesFew a c plan keys bytes
few_more a b c plan keys bytes k access at first second =
    few_then a b c (λ o. place_set o access) (λ o. places_in o plan) (λ o. writes_order o access) (λ o. list_any (writes_order o) plan) (λ path. writes_file path access) (λ path. list_any (writes_file path) plan)
    keys bytes first second (λ o. places_among o plan k access at) (λ o. any_among (writes_order o) plan k access at) (λ path. any_among (writes_file path) plan k access at)

-- a file got its place and room for bytes, and no object changed
module _ (old mid new : StoreView) (path bytes keys : ℕ) (one : mid ≡ record old { files = mid.files }) (other : new ≡ record mid { files = new.files })
    (first : (p : ℕ) → file_at mid p ≡ file_at old p) (second : (p : ℕ) → file_at new p ≡ file_at mid p)
    (few_one : (p : ℕ) → bytes_in (room_of mid) p ≤ bytes_in (room_of old) p)
    (few_other : (p : ℕ) → bytes_in (room_of new) p ≤ max (bytes_in (room_of mid) p) (bytes_most (room_of mid) bytes p (p == path))) where
  object_same : (o : ℕ) → object_in (room_with_next new) o ≡ object_in (room_with_next old) o
  object_same o = ap (λ (s : StoreView). object_in (room_with_next s) o) other ∙ ap (λ (s : StoreView). object_in (room_with_next s) o) one

  bytes_few : (p : ℕ) → bytes_in (room_of new) p ≤ max (bytes_in (room_of old) p) (bytes_most (room_of old) bytes p (p == path))
  bytes_few p =
      let b = subst (λ n. bytes_in (room_of new) p ≤ max (bytes_in (room_of mid) p) (if p == path then max bytes n else 0)) (ap (λ c. length (unwrap_or c [])) (first p)) (few_other p) in
      omega (arith, few_one p, b)

  pub few_file : TakesUpTo (room_with_next old) (room_with_next new) (λ o. 0) (λ o. false) (λ p. p == path) keys bytes
  few_file = record {
    few_places = λ o. let same = ap (λ (ob : ObjectView). length ob.items) (object_same o) in omega (arith, same);
    few_keys = λ o. let same = ap (λ (ob : ObjectView). ob.spare) (object_same o) in omega (arith, same);
    few_bytes = bytes_few;
    keys_stay = λ o. ap (λ (ob : ObjectView). ob.keys) (object_same o);
    sizes_stay = λ p. ap (λ c. length (unwrap_or c [])) (second p ∙ first p);
  }

-- The objects with one more behind them: the one at o, or that one more, is another now.
le_if : (n : ℕ) (b : Bool) → b ≡ true → n ≤ (if b then n else 0)
le_if n true is = omega arith
le_if n false is = absurd (false≢true is)

at_so : (n p o : ℕ) → p ≡ o → n ≤ (if p == o then n else 0)
at_so n p o is = le_if n (p == o) (eq-eqb p o is)

-- what an object has so many of: as many as before, or n where it is the one that changed
module _ (f : ObjectView → ℕ) (n : ℕ) (object y : ObjectView) where
  count_at : (xs : List ObjectView) (o : ℕ) → o < length xs → f object ≤ max (f (slice_index_or xs o no_object)) n
      → (p m : ℕ) → (p ≡ o → n ≤ m) → f (slice_index_or (slice_set xs o object ++ y ∷ []) p no_object) ≤ max (f (slice_index_or (xs ++ y ∷ []) p no_object)) m
  count_at [] o within few p m so = omega (arith, within)
  count_at (x ∷ xs) zero within few zero m so = omega (arith, few, so refl)
  count_at (x ∷ xs) zero within few (suc p) m so = omega arith
  count_at (x ∷ xs) (suc o) within few zero m so = omega arith
  count_at (x ∷ xs) (suc o) within few (suc p) m so = count_at xs o (omega (arith, within)) few p m (λ is. so (ap suc is))

  count_next : (xs : List ObjectView) → f object ≤ max (f y) n
      → (p m : ℕ) → (p ≡ length xs → n ≤ m) → f (slice_index_or (xs ++ object ∷ []) p no_object) ≤ max (f (slice_index_or (xs ++ y ∷ []) p no_object)) m
  count_next [] few zero m so = omega (arith, few, so refl)
  count_next [] few (suc p) m so = omega arith
  count_next (x ∷ xs) few zero m so = omega arith
  count_next (x ∷ xs) few (suc p) m so = count_next xs few p m (λ is. so (ap suc is))

-- what stays of an object
module _ {A : Type 0} (f : ObjectView → A) (object y : ObjectView) where
  same_at : (xs : List ObjectView) (o : ℕ) → f object ≡ f (slice_index_or xs o no_object)
      → (p : ℕ) → f (slice_index_or (slice_set xs o object ++ y ∷ []) p no_object) ≡ f (slice_index_or (xs ++ y ∷ []) p no_object)
  same_at [] o same p = refl
  same_at (x ∷ xs) zero same zero = same
  same_at (x ∷ xs) zero same (suc p) = refl
  same_at (x ∷ xs) (suc o) same zero = refl
  same_at (x ∷ xs) (suc o) same (suc p) = same_at xs o same p

  same_next : (xs : List ObjectView) → f object ≡ f y → (p : ℕ) → f (slice_index_or (xs ++ object ∷ []) p no_object) ≡ f (slice_index_or (xs ++ y ∷ []) p no_object)
  same_next [] same zero = same
  same_next [] same (suc p) = refl
  same_next (x ∷ xs) same zero = refl
  same_next (x ∷ xs) same (suc p) = same_next xs same p

-- An object of the store, or the one that is ready, has more places, and all else stays.
pub places_here : (old new : StoreView) (o : ℕ) (object : ObjectView) → o < length old.objects → new ≡ record old { objects = slice_set old.objects o object } → object.keys ≡ (object_at old o).keys
    → object.spare ≡ (object_at old o).spare → (i : ℕ) → length object.items ≤ max (length (object_at old o).items) (i + 1) → (keys bytes : ℕ)
    → TakesUpTo (room_with_next old) (room_with_next new) (λ p. if p == o then suc i else 0) (λ p. false) (λ path. false) keys bytes
places_here old new o object within is stays same i few keys bytes =
    subst (λ (s : StoreView). TakesUpTo (room_with_next old) (room_with_next s) (λ p. if p == o then suc i else 0) (λ p. false) (λ path. false) keys bytes) (sym is)
    (record {
      few_places = λ p. count_at (λ ob. length ob.items) (suc i) object old.next_object old.objects o within (omega (arith, few)) p (if p == o then suc i else 0) (at_so (suc i) p o);
      few_keys = λ p. let s = same_at (λ ob. ob.spare) object old.next_object old.objects o same p in omega (arith, s);
      few_bytes = λ path. omega arith;
      keys_stay = same_at (λ ob. ob.keys) object old.next_object old.objects o stays;
      sizes_stay = λ path. refl;
    })

pub places_next : (old new : StoreView) (o : ℕ) (object : ObjectView) → o ≡ length old.objects → new ≡ record old { next_object = object } → object.keys ≡ old.next_object.keys
    → object.spare ≡ old.next_object.spare → (i : ℕ) → length object.items ≤ max (length old.next_object.items) (i + 1) → (keys bytes : ℕ)
    → TakesUpTo (room_with_next old) (room_with_next new) (λ p. if p == o then suc i else 0) (λ p. false) (λ path. false) keys bytes
places_next old new o object last is stays same i few keys bytes =
    subst (λ (s : StoreView). TakesUpTo (room_with_next old) (room_with_next s) (λ p. if p == o then suc i else 0) (λ p. false) (λ path. false) keys bytes) (sym is)
    (record {
      few_places = λ p. count_next (λ ob. length ob.items) (suc i) object old.next_object old.objects (omega (arith, few)) p (if p == o then suc i else 0) (λ at. at_so (suc i) p o (at ∙ sym last));
      few_keys = λ p. let s = same_next (λ ob. ob.spare) object old.next_object old.objects same p in omega (arith, s);
      few_bytes = λ path. omega arith;
      keys_stay = same_next (λ ob. ob.keys) object old.next_object old.objects stays;
      sizes_stay = λ path. refl;
    })

-- so with room for keys
keys_so_many : (room : Room) (count o p : ℕ) → p ≡ o → length (object_in room o).keys + 2 * count + 64 ≤ keys_most room count p (p == o)
keys_so_many room count o p is = subst (λ q. length (object_in room q).keys + 2 * count + 64 ≤ keys_most room count p (p == o)) is (at_so (length (object_in room p).keys + 2 * count + 64) p o is)

pub keys_here : (old new : StoreView) (o : ℕ) (object : ObjectView) → o < length old.objects → new ≡ record old { objects = slice_set old.objects o object } → object.keys ≡ (object_at old o).keys
    → length object.items ≡ length (object_at old o).items → (count : ℕ) → object.spare ≤ max (object_at old o).spare (length (object_in (room_with_next old) o).keys + 2 * count + 64) → (bytes : ℕ)
    → TakesUpTo (room_with_next old) (room_with_next new) (λ p. 0) (λ p. p == o) (λ path. false) count bytes
keys_here old new o object within is stays same count few bytes =
    subst (λ (s : StoreView). TakesUpTo (room_with_next old) (room_with_next s) (λ p. 0) (λ p. p == o) (λ path. false) count bytes) (sym is)
    (record {
      few_places = λ p. let s = same_at (λ ob. length ob.items) object old.next_object old.objects o same p in omega (arith, s);
      few_keys = λ p. count_at (λ ob. ob.spare) (length (object_in (room_with_next old) o).keys + 2 * count + 64) object old.next_object old.objects o within few p (keys_most (room_with_next old) count p (p == o)) (keys_so_many (room_with_next old) count o p);
      few_bytes = λ path. omega arith;
      keys_stay = same_at (λ ob. ob.keys) object old.next_object old.objects o stays;
      sizes_stay = λ path. refl;
    })

pub keys_next : (old new : StoreView) (o : ℕ) (object : ObjectView) → o ≡ length old.objects → new ≡ record old { next_object = object } → object.keys ≡ old.next_object.keys
    → length object.items ≡ length old.next_object.items → (count : ℕ) → object.spare ≤ max old.next_object.spare (length (object_in (room_with_next old) o).keys + 2 * count + 64) → (bytes : ℕ)
    → TakesUpTo (room_with_next old) (room_with_next new) (λ p. 0) (λ p. p == o) (λ path. false) count bytes
keys_next old new o object last is stays same count few bytes =
    subst (λ (s : StoreView). TakesUpTo (room_with_next old) (room_with_next s) (λ p. 0) (λ p. p == o) (λ path. false) count bytes) (sym is)
    (record {
      few_places = λ p. let s = same_next (λ ob. length ob.items) object old.next_object old.objects same p in omega (arith, s);
      few_keys = λ p. count_next (λ ob. ob.spare) (length (object_in (room_with_next old) o).keys + 2 * count + 64) object old.next_object old.objects few p (keys_most (room_with_next old) count p (p == o)) (λ at. keys_so_many (room_with_next old) count o p (at ∙ sym last));
      few_bytes = λ path. omega arith;
      keys_stay = same_next (λ ob. ob.keys) object old.next_object old.objects stays;
      sizes_stay = λ path. refl;
    })

-- which object is at o: one of those that are there, or the one that is ready
pub there : (xs : List ObjectView) (y : ObjectView) (o : ℕ) → o < length xs → slice_index_or (xs ++ y ∷ []) o no_object ≡ slice_index_or xs o no_object
there [] y o within = let no : ⊥ = omega (arith, within) in absurd no
there (x ∷ xs) y zero within = refl
there (x ∷ xs) y (suc o) within = there xs y o (omega (arith, within))

pub ready : (xs : List ObjectView) (y : ObjectView) (o : ℕ) → o ≡ length xs → slice_index_or (xs ++ y ∷ []) o no_object ≡ y
ready [] y zero is = refl
ready [] y (suc o) is = let no : ⊥ = omega (arith, is) in absurd no
ready (x ∷ xs) y zero is = let no : ⊥ = omega (arith, is) in absurd no
ready (x ∷ xs) y (suc o) is = ready xs y o (omega (arith, is))

-- room for objects and cells that came first changes nothing of it
pub few_behind : (old mid new last : StoreView) (plan : List Access) (keys bytes : ℕ) → mid ≡ record old { spare_objects = mid.spare_objects } → new ≡ record mid { spare_cells = new.spare_cells }
    → TakesFew (room_with_next new) (room_with_next last) plan keys bytes → TakesFew (room_with_next old) (room_with_next last) plan keys bytes
few_behind old mid new last plan keys bytes one other few =
    let few = subst (λ (s : StoreView). TakesFew (room_with_next s) (room_with_next last) plan keys bytes) other few in
    let few : TakesFew (room_with_next mid) (room_with_next last) plan keys bytes =
    record { few_places = few.few_places; few_keys = few.few_keys; few_bytes = few.few_bytes; keys_stay = few.keys_stay; sizes_stay = few.sizes_stay } in
    subst (λ (s : StoreView). TakesFew (room_with_next s) (room_with_next last) plan keys bytes) one few
