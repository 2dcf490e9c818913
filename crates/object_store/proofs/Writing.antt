-- What each single write leaves at every location.
use Rattle.std.proofs.Common.{◌≡◌, ℕ, zero, suc, ◌<◌, ◌==◌, ◌&&◌, Bool, true, false, List, [], ◌∷◌, map, length, slice_get, slice_set, slice_index_or, Option, Some, unwrap_or, if◌then◌else◌, cond, refl, ap, sym, subst, ◌∙◌, arith, rules}
use Rattle.std.specs.Map.{lookup}
use Rattle.std.specs.Prelude.{Result, Ok, Err, IsOk, OnOk, None as Nothing}
use Rattle.std.specs.Option.{option_map, option_and_then}
use Rattle.std.proofs.lemmas.Bool.{false≢true}
use Rattle.std.proofs.lemmas.Option.{same_Some}
use Rattle.std.proofs.lemmas.Grind.{common_steps}
use Rattle.py_value.specs.declared.value.Value.{Value}
use Rattle.py_value.specs.declared.access.Location.{Location}
use Rattle.py_value.specs.declared.access.Location.TheVariants.{Var, Len, Item, Entry, Order, File, Offset, Closed, Method, Base}
use Rattle.py_value.specs.declared.access.Content.{Content}
use Rattle.py_value.specs.declared.access.Content.TheVariants.{Var as VarContent, Len as LenContent, Item as ItemContent, Entry as EntryContent, Order as OrderContent, File as FileContent, Offset as OffsetContent, Closed as ClosedContent, Method as MethodContent, Base as BaseContent}
use Rattle.py_value.specs.contracts.access.LocationPartialEq.TheImpl.{ghosts as locations}
use Rattle.object_store.specs.declared.cell.Cell.{Cell}
use Rattle.object_store.specs.declared.cell.Cell.TheVariants.{Var as VarCell, Len as LenCell, Entry as EntryCell, Offset as OffsetCell, Closed as ClosedCell, Method as MethodCell, Base as BaseCell}
use Rattle.object_store.specs.Cell.{content_of, cell_of}
use Rattle.object_store.specs.Object.{ObjectView, item_in, item_of, with_item, no_object, HasKeys}
use Rattle.object_store.specs.Store.{StoreView, Writes, IsOwn, AreOwn, held_at, item_at, content_at, kinds, object_at, whole, keys, written}

-- the keys of the object that stands for one that is not there are none
pub keys_there : (xs : List ObjectView) (o : ℕ) → unwrap_or (option_map (λ (ob : ObjectView). ob.keys) (slice_get xs o)) [] ≡ (slice_index_or xs o no_object).keys
keys_there [] o = refl
keys_there (x ∷ xs) zero = refl
keys_there (x ∷ xs) (suc o) = keys_there xs o

-- the item of a list after a write
pub got : {A : Type 0} (xs : List A) (o : ℕ) (x : A) → o < length xs → (p : ℕ) → slice_get (slice_set xs o x) p ≡ (if o == p then Some x else slice_get xs p)
got [] o x within p = absurd (omega (arith, within))
got (y ∷ ys) zero x within zero = refl
got (y ∷ ys) zero x within (suc p) = grind (arith, common_steps)
got (y ∷ ys) (suc o) x within zero = grind (arith, common_steps)
got (y ∷ ys) (suc o) x within (suc p) = grind (arith, common_steps, got ys o x (omega (arith, within)) p)

-- the kinds stay where the new object is of the old one's kind
pub kinds_same : (xs : List ObjectView) (o : ℕ) (object : ObjectView) → o < length xs → object.kind ≡ (slice_index_or xs o no_object).kind
    → map (λ (ob : ObjectView). ob.kind) (slice_set xs o object) ≡ map (λ (ob : ObjectView). ob.kind) xs
kinds_same [] o object within is = refl
kinds_same (y ∷ ys) zero object within is = ap (λ k. k ∷ map (λ (ob : ObjectView). ob.kind) ys) is
kinds_same (y ∷ ys) (suc o) object within is = ap (λ ks. y.kind ∷ ks) (kinds_same ys o object (omega (arith, within)) is)

-- what is the same of the new object and the old one is the same of every object
pub maps_same : {B : Type 0} (f : ObjectView → B) (xs : List ObjectView) (o : ℕ) (object : ObjectView) → o < length xs → f object ≡ f (slice_index_or xs o no_object)
    → (p : ℕ) → option_map f (slice_get (slice_set xs o object) p) ≡ option_map f (slice_get xs p)
maps_same f [] o object within is p = refl
maps_same f (y ∷ ys) zero object within is zero = ap (λ b. Some b) is
maps_same f (y ∷ ys) zero object within is (suc p) = refl
maps_same f (y ∷ ys) (suc o) object within is zero = refl
maps_same f (y ∷ ys) (suc o) object within is (suc p) = maps_same f ys o object (omega (arith, within)) is p

pub items_same : (j : ℕ) (xs : List ObjectView) (o : ℕ) (object : ObjectView) → o < length xs → item_of object j ≡ item_of (slice_index_or xs o no_object) j
    → (p : ℕ) → option_and_then (λ (ob : ObjectView). item_of ob j) (slice_get (slice_set xs o object) p) ≡ option_and_then (λ (ob : ObjectView). item_of ob j) (slice_get xs p)
items_same j [] o object within is p = refl
items_same j (y ∷ ys) zero object within is zero = is
items_same j (y ∷ ys) zero object within is (suc p) = refl
items_same j (y ∷ ys) (suc o) object within is zero = refl
items_same j (y ∷ ys) (suc o) object within is (suc p) = items_same j ys o object (omega (arith, within)) is p

-- the item that was set is at its place, and each other is where it was
item_set : (xs : List (Option Value)) (i : ℕ) (item : Option Value) → i < length xs → (j : ℕ) → item_in (slice_set xs i item) j ≡ (if i == j then item else item_in xs j)
item_set [] i item within j = absurd (omega (arith, within))
item_set (x ∷ xs) zero item within zero = refl
item_set (x ∷ xs) zero item within (suc j) = grind (arith, common_steps)
item_set (x ∷ xs) (suc i) item within zero = grind (arith, common_steps)
item_set (x ∷ xs) (suc i) item within (suc j) = grind (arith, common_steps, item_set xs i item (omega (arith, within)) j)

pub items_set : (xs : List ObjectView) (o i : ℕ) (item : Value) → o < length xs → i < length (slice_index_or xs o no_object).items → (p j : ℕ)
    → option_and_then (λ (ob : ObjectView). item_of ob j) (slice_get (slice_set xs o (with_item (slice_index_or xs o no_object) i item)) p)
    ≡ (if (o == p) && (i == j) then Some item else option_and_then (λ (ob : ObjectView). item_of ob j) (slice_get xs p))
items_set [] o i item within place p j = absurd (omega (arith, within))
items_set (x ∷ xs) zero i item within place zero j = item_set x.items i (Some item) place j
items_set (x ∷ xs) zero i item within place (suc p) j = grind (arith, common_steps)
items_set (x ∷ xs) (suc o) i item within place zero j = grind (arith, common_steps)
items_set (x ∷ xs) (suc o) i item within place (suc p) j = grind (arith, common_steps, items_set xs o i item (omega (arith, within)) place p j)

whole_if : (b : Bool) (content : Content) (other : Option Content) → option_map whole (if b then Some content else other) ≡ (if b then Some (whole content) else option_map whole other)
whole_if true content other = refl
whole_if false content other = refl

-- what is kept of a content is the content
pub content_back : (content : Content) (cell : Cell) → cell_of content ≡ Some cell → content_of cell ≡ content
content_back (VarContent value) cell is = ap content_of (sym (same_Some (VarCell value) cell is))
content_back (LenContent len) cell is = ap content_of (sym (same_Some (LenCell len) cell is))
content_back (ItemContent item) cell is = cc
content_back (EntryContent entry) cell is = ap content_of (sym (same_Some (EntryCell entry) cell is))
content_back (OrderContent ks) cell is = cc
content_back (FileContent text) cell is = cc
content_back (OffsetContent offset) cell is = ap content_of (sym (same_Some (OffsetCell offset) cell is))
content_back (ClosedContent is_closed) cell is = ap content_of (sym (same_Some (ClosedCell is_closed) cell is))
content_back (MethodContent place) cell is = ap content_of (sym (same_Some (MethodCell place) cell is))
content_back (BaseContent base) cell is = ap content_of (sym (same_Some (BaseCell base) cell is))

kept_whole : (content : Content) (cell : Cell) → cell_of content ≡ Some cell → whole content ≡ written content
kept_whole (ItemContent item) cell is = cc
kept_whole (OrderContent ks) cell is = cc
kept_whole (FileContent text) cell is = cc
kept_whole content cell is = refl

whole_is : (content : Content) (cell : Cell) → cell_of content ≡ Some cell → whole (content_of cell) ≡ written content
whole_is content cell is = ap whole (content_back content cell is) ∙ kept_whole content cell is

-- a content of its location's own kind is kept as one
pub own_cell : (l : Location) (content : Content) (cell : Cell) → IsOwn l content → cell_of content ≡ Some cell → IsOwn l (content_of cell)
own_cell l content cell own is = subst (IsOwn l) (sym (content_back content cell is)) own

-- two locations that are equal have contents of the same kind
abbrev place_kind : Location → ℕ
place_kind (Var scope name) = 0
place_kind (Len o) = 1
place_kind (Item o i) = 2
place_kind (Entry o key) = 3
place_kind (Order o) = 4
place_kind (File path) = 5
place_kind (Offset o) = 6
place_kind (Closed o) = 7
place_kind (Method class name) = 8
place_kind (Base class) = 9

abbrev content_kind : Content → ℕ
content_kind (VarContent value) = 0
content_kind (LenContent len) = 1
content_kind (ItemContent item) = 2
content_kind (EntryContent entry) = 3
content_kind (OrderContent ks) = 4
content_kind (FileContent text) = 5
content_kind (OffsetContent offset) = 6
content_kind (ClosedContent is_closed) = 7
content_kind (MethodContent place) = 8
content_kind (BaseContent base) = 9

own_kind : (l : Location) (content : Content) → IsOwn l content → place_kind l ≡ content_kind content
own_kind (Var scope name) (VarContent value) own = refl
own_kind (Len o) (LenContent len) own = refl
own_kind (Item o i) (ItemContent item) own = refl
own_kind (Entry o key) (EntryContent entry) own = refl
own_kind (Order o) (OrderContent ks) own = refl
own_kind (File path) (FileContent text) own = refl
own_kind (Offset o) (OffsetContent offset) own = refl
own_kind (Closed o) (ClosedContent is_closed) own = refl
own_kind (Method class name) (MethodContent place) own = refl
own_kind (Base class) (BaseContent base) own = refl
own_kind l content own = absurd own

kind_own : (l : Location) (content : Content) → place_kind l ≡ content_kind content → IsOwn l content
kind_own (Var scope name) (VarContent value) is = tt
kind_own (Len o) (LenContent len) is = tt
kind_own (Item o i) (ItemContent item) is = tt
kind_own (Entry o key) (EntryContent entry) is = tt
kind_own (Order o) (OrderContent ks) is = tt
kind_own (File path) (FileContent text) is = tt
kind_own (Offset o) (OffsetContent offset) is = tt
kind_own (Closed o) (ClosedContent is_closed) is = tt
kind_own (Method class name) (MethodContent place) is = tt
kind_own (Base class) (BaseContent base) is = tt
kind_own l content is = absurd (omega (arith, is))

kind_same : (l m : Location) → locations.eq l m ≡ true → place_kind l ≡ place_kind m
kind_same (Var scope name) (Var other_scope other) same = refl
kind_same (Len o) (Len p) same = refl
kind_same (Item o i) (Item p j) same = refl
kind_same (Entry o key) (Entry p other) same = refl
kind_same (Order o) (Order p) same = refl
kind_same (File path) (File other) same = refl
kind_same (Offset o) (Offset p) same = refl
kind_same (Closed o) (Closed p) same = refl
kind_same (Method class name) (Method other_class other) same = refl
kind_same (Base class) (Base other) same = refl
kind_same l m same = absurd (false≢true same)

own_same : (l m : Location) (content : Content) → locations.eq l m ≡ true → IsOwn l content → IsOwn m content
own_same l m content same own = kind_own m content (sym (kind_same l m same) ∙ own_kind l content own)

-- a cell that is put is of its location's own kind, and so are those that stay
pub own_put : (l : Location) (cell : Cell) (old new : List (Location × Cell)) → IsOwn l (content_of cell) → AreOwn old
    → ((m : Location) → lookup (locations.eq m) new ≡ (if locations.eq l m then Some cell else lookup (locations.eq m) old)) → AreOwn new
own_put l cell old new own all put m kept at = by (locations.eq l m) refl (sym (put m) ∙ at)
  where
    by : (b : Bool) → locations.eq l m ≡ b → (if b then Some cell else lookup (locations.eq m) old) ≡ Some kept → IsOwn m (content_of kept)
    by true same found = subst (λ (x : Cell). IsOwn m (content_of x)) (same_Some cell kept found) (own_same l m (content_of cell) same own)
    by false same found = all m kept found

own_back : (l m : Location) (content : Content) → locations.eq l m ≡ true → IsOwn m content → IsOwn l content
own_back l m content same own = kind_own l content (kind_same l m same ∙ own_kind m content own)

pub own_none : AreOwn []
own_none l kept at = absurd (None≢Some at)
  where
    None≢Some : {x : Cell} → Nothing ≡ Some x → ⊥
    None≢Some is = cc

pub own_first : (key : Location) (cell : Cell) (cells : List (Location × Cell)) → IsOwn key (content_of cell) → AreOwn cells → AreOwn ((key, cell) ∷ cells)
own_first key cell cells own all l kept at = by (locations.eq l key) refl at
  where
    by : (b : Bool) → locations.eq l key ≡ b → cond b (Some cell) (lookup (locations.eq l) cells) ≡ Some kept → IsOwn l (content_of kept)
    by true same found = subst (λ (x : Cell). IsOwn l (content_of x)) (same_Some cell kept found) (own_back l key (content_of cell) same own)
    by false same found = all l kept found

pub cell_if : (b : Bool) (cell : Cell) (other : Option Cell) → option_map content_of (if b then Some cell else other) ≡ (if b then Some (content_of cell) else option_map content_of other)
cell_if true cell other = refl
cell_if false cell other = refl

pub where_ok : {A E P : Type 0} (result : Result A E) → IsOk result → OnOk result P → P
where_ok (Ok x) is holds = holds
where_ok (Err e) is holds = absurd (false≢true is)

item_if : (b : Bool) (item : Value) (other : Option Value) → option_map (λ (found : Value). whole (ItemContent found)) (if b then Some item else other)
    ≡ (if b then Some (whole (ItemContent item)) else option_map (λ (found : Value). whole (ItemContent found)) other)
item_if true item other = refl
item_if false item other = refl

keys_if : (b : Bool) (object : ObjectView) (other : Option ObjectView)
    → Some (keys (unwrap_or (option_map (λ (ob : ObjectView). ob.keys) (if b then Some object else other)) []))
    ≡ (if b then Some (keys object.keys) else Some (keys (unwrap_or (option_map (λ (ob : ObjectView). ob.keys) other) [])))
keys_if true object other = refl
keys_if false object other = refl

-- A location of a cell is no item, no order and no file.
by_kind : {P : Type 0} (l : Location) (content : Content) → IsOwn l content → {cell : Cell} → cell_of content ≡ Some cell
    → (((o i : ℕ) → locations.eq l (Item o i) ≡ false) → ((o : ℕ) → locations.eq l (Order o) ≡ false) → ((path : ℕ) → locations.eq l (File path) ≡ false) → P) → P
by_kind (Var scope name) (VarContent value) own is go = go (λ o i. refl) (λ o. refl) (λ path. refl)
by_kind (Len p) (LenContent len) own is go = go (λ o i. refl) (λ o. refl) (λ path. refl)
by_kind (Entry p key) (EntryContent entry) own is go = go (λ o i. refl) (λ o. refl) (λ path. refl)
by_kind (Offset p) (OffsetContent offset) own is go = go (λ o i. refl) (λ o. refl) (λ path. refl)
by_kind (Closed p) (ClosedContent is_closed) own is go = go (λ o i. refl) (λ o. refl) (λ path. refl)
by_kind (Method class name) (MethodContent place) own is go = go (λ o i. refl) (λ o. refl) (λ path. refl)
by_kind (Base class) (BaseContent base) own is go = go (λ o i. refl) (λ o. refl) (λ path. refl)
by_kind (Item p i) (ItemContent item) own is go = cc
by_kind (Order p) (OrderContent ks) own is go = cc
by_kind (File path) (FileContent text) own is go = cc
by_kind l content own is go = absurd own

module _ (old new : StoreView) (l : Location) (cell : Cell)
    (cells : (m : Location) → content_at new m ≡ (if locations.eq l m then Some (content_of cell) else content_at old m))
    (same : new ≡ record old { cells = new.cells; spare_cells = new.spare_cells }) where
  cell_put : ((o i : ℕ) → locations.eq l (Item o i) ≡ false) → ((o : ℕ) → locations.eq l (Order o) ≡ false) → ((path : ℕ) → locations.eq l (File path) ≡ false)
      → (m : Location) → held_at new m ≡ (if locations.eq l m then Some (whole (content_of cell)) else held_at old m)
  cell_put no_item no_order no_file (Item o i) =
      ap (λ (s : StoreView). held_at s (Item o i)) same ∙ sym (ap (λ b. if b then Some (whole (content_of cell)) else held_at old (Item o i)) (no_item o i))
  cell_put no_item no_order no_file (Order o) =
      ap (λ (s : StoreView). held_at s (Order o)) same ∙ sym (ap (λ b. if b then Some (whole (content_of cell)) else held_at old (Order o)) (no_order o))
  cell_put no_item no_order no_file (File path) =
      ap (λ (s : StoreView). held_at s (File path)) same ∙ sym (ap (λ b. if b then Some (whole (content_of cell)) else held_at old (File path)) (no_file path))
  cell_put no_item no_order no_file m = ap (option_map whole) (cells m) ∙ whole_if (locations.eq l m) (content_of cell) (content_at old m)

  -- no location of a cell is an item, an order or a file
  pub cell_held : (content : Content) → IsOwn l content → cell_of content ≡ Some cell → Writes old new l (written content)
  cell_held content own is = record {
    held = λ m. by_kind l content own is (λ no_item no_order no_file. cell_put no_item no_order no_file m) ∙ ap (λ w. if locations.eq l m then Some w else held_at old m) (whole_is content cell is);
    kinds_stay = ap (λ (s : StoreView). kinds s) same;
    names_stay = ap (λ (s : StoreView). s.names) same;
  }

eq_items : (o i p j : ℕ) → locations.eq (Item o i) (Item p j) ≡ (o == p) && (i == j)
eq_items o i p j = search rules

eq_orders : (o p : ℕ) → locations.eq (Order o) (Order p) ≡ (o == p)
eq_orders o p = search rules

module _ (old new : StoreView) (o i : ℕ) (item : Value) (within : o < length old.objects) (place : i < length (object_at old o).items)
    (same : new ≡ record old { objects = slice_set old.objects o (with_item (object_at old o) i item) }) where
  item_put : (m : Location) → held_at new m ≡ (if locations.eq (Item o i) m then Some (whole (ItemContent item)) else held_at old m)
  item_put (Item p j) =
      ap (λ (s : StoreView). held_at s (Item p j)) same
      ∙ ap (option_map (λ (found : Value). whole (ItemContent found))) (items_set old.objects o i item within place p j)
      ∙ item_if ((o == p) && (i == j)) item (item_at old p j)
      ∙ ap (λ b. if b then Some (whole (ItemContent item)) else held_at old (Item p j)) (sym (eq_items o i p j))
  item_put (Order p) =
      ap (λ (s : StoreView). held_at s (Order p)) same
      ∙ ap (λ found. Some (keys (unwrap_or found []))) (maps_same (λ (ob : ObjectView). ob.keys) old.objects o (with_item (object_at old o) i item) within refl p)
  item_put (File path) = ap (λ (s : StoreView). held_at s (File path)) same
  item_put m = ap (λ (s : StoreView). option_map whole (content_at s m)) same

  pub item_held : Writes old new (Item o i) (whole (ItemContent item))
  item_held = record {
    held = item_put;
    kinds_stay = ap (λ (s : StoreView). kinds s) same ∙ kinds_same old.objects o (with_item (object_at old o) i item) within refl;
    names_stay = ap (λ (s : StoreView). s.names) same;
  }

module _ (old new : StoreView) (o : ℕ) (object : ObjectView) (ks : List Value) (used : ℕ) (within : o < length old.objects)
    (same : new ≡ record old { objects = slice_set old.objects o object }) (has : HasKeys (object_at old o) object ks used) where
  order_put : (m : Location) → held_at new m ≡ (if locations.eq (Order o) m then Some (keys ks) else held_at old m)
  order_put (Item p j) =
      ap (λ (s : StoreView). held_at s (Item p j)) same
      ∙ ap (option_map (λ (found : Value). whole (ItemContent found))) (items_same j old.objects o object within (ap (λ items. item_in items j) has.items_stay) p)
  order_put (Order p) =
      ap (λ (s : StoreView). held_at s (Order p)) same
      ∙ ap (λ found. Some (keys (unwrap_or (option_map (λ (ob : ObjectView). ob.keys) found) []))) (got old.objects o object within p)
      ∙ keys_if (o == p) object (slice_get old.objects p)
      ∙ ap (λ found. if o == p then Some (keys found) else held_at old (Order p)) has.keys_are
      ∙ ap (λ b. if b then Some (keys ks) else held_at old (Order p)) (sym (eq_orders o p))
  order_put (File path) = ap (λ (s : StoreView). held_at s (File path)) same
  order_put m = ap (λ (s : StoreView). option_map whole (content_at s m)) same

  pub order_held : Writes old new (Order o) (keys ks)
  order_held = record {
    held = order_put;
    kinds_stay = ap (λ (s : StoreView). kinds s) same ∙ kinds_same old.objects o object within has.kind_stays;
    names_stay = ap (λ (s : StoreView). s.names) same;
  }
