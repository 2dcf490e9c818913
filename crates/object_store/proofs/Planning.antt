-- Where there is the place that each access of a plan needs, with room for all keys and bytes of the plan in it, there is
-- room for each access in its turn.
use Rattle.std.proofs.Common.{◌≡◌, ℕ, zero, suc, ◌+◌, ◌-◌, ◌<◌, ◌≤◌, List, [], ◌∷◌, ◌++◌, map, length, slice_get, slice_index_or, inl, inr, ⊎_elim, Option, Some, refl, ap, sym, subst, ◌∙◌, arith}
use Rattle.std.specs.Prelude.{None}
use Rattle.py_value.specs.declared.access.Access.{Access}
use Rattle.py_value.specs.declared.access.Access.TheVariants.{Read, Set, Update}
use Rattle.py_value.specs.declared.access.Change.TheVariants.{Insert, Delete, Append}
use Rattle.py_value.specs.declared.access.Content.TheVariants.{Order as OrderContent}
use Rattle.py_value.specs.declared.access.Kind.{Kind}
use Rattle.py_value.specs.declared.access.Location.TheVariants.{Item, Order, File}
use Rattle.py_value.specs.Values.{ValuesView}
use Rattle.object_store.specs.Object.{ObjectView, no_object}
use Rattle.object_store.specs.Room.{Room, Takes, HasPlaceFor, HasRoomFor, IsReserved, IsAccessWithin, AreWithin, cells_of, keys_of, bytes_of, cells_in, keys_in, bytes_in_all}
use Rattle.object_store.specs.Store.{StoreView, FewCells, Keeps, Makes, HasRoomForAll, IsReservedFor, room_of, room_with_next, count_with}
use Rattle.object_store.proofs.Reserving.{place_later}

has_room : (values : ValuesView) (room : Room) (keys bytes : ℕ) (access : Access) → HasPlaceFor room keys bytes access → IsAccessWithin (length room.objects) access
    → cells_of access ≤ room.cells → keys_of access ≤ keys → bytes_of values access ≤ bytes → HasRoomFor values room access
has_room values room keys bytes (Read l) place within cells_fit keys_fit bytes_fit = tt
has_room values room keys bytes (Set (Item o i) content) place within cells_fit keys_fit bytes_fit = (within, place)
has_room values room keys bytes (Set (Order o) (OrderContent ks)) place within cells_fit keys_fit bytes_fit = (within, omega arith)
has_room values room keys bytes (Set (Order o) content) place within cells_fit keys_fit bytes_fit = tt
has_room values room keys bytes (Set (File path) content) place within cells_fit keys_fit bytes_fit = place
has_room values room keys bytes (Set l content) place within cells_fit keys_fit bytes_fit = omega arith
has_room values room keys bytes (Update (Order o) (Insert key)) place within cells_fit keys_fit bytes_fit = (within, omega arith)
has_room values room keys bytes (Update (Order o) (Delete key)) place within cells_fit keys_fit bytes_fit = within
has_room values room keys bytes (Update (File path) (Append text)) place within cells_fit keys_fit bytes_fit = (place.0, omega (arith, place.1))
has_room values room keys bytes (Update l change) place within cells_fit keys_fit bytes_fit = tt

pub reserved : (values : ValuesView) (plan : List Access) (room : Room) (keys bytes : ℕ) → ((k : ℕ) (access : Access) → slice_get plan k ≡ Some access → HasPlaceFor room keys bytes access)
    → AreWithin (length room.objects) plan → cells_in plan ≤ room.cells → keys_in plan ≤ keys → bytes_in_all values plan ≤ bytes → IsReserved values room plan
reserved values [] room keys bytes places within cells_fit keys_fit bytes_fit = tt
reserved values (access ∷ plan) room keys bytes places within cells_fit keys_fit bytes_fit = (
  has_room values room keys bytes access (places 0 access refl) (within 0 access refl) (omega arith) (omega arith) (omega arith),
  λ after takes.
      reserved values plan after (keys - keys_of access) (bytes - bytes_of values access)
      (λ k b is. place_later room after (cells_of access) (keys_of access) (bytes_of values access) takes (keys - keys_of access) (bytes - bytes_of values access) keys bytes (omega arith) (omega arith) b (places (suc k) b is))
      (subst (λ count. AreWithin count plan) (sym takes.objects_stay) (λ k b is. within (suc k) b is))
      (omega (arith, takes.cells_left)) (omega arith) (omega arith),
)

-- an object of the front is one of the longer list
front : (xs : List ObjectView) (object : ObjectView) (o : ℕ) → o < length xs → slice_index_or (xs ++ object ∷ []) o no_object ≡ slice_index_or xs o no_object
front [] object o within = absurd (omega (arith, within))
front (x ∷ xs) object zero within = refl
front (x ∷ xs) object (suc o) within = front xs object o (omega (arith, within))

-- the kind of the last object is no matter of room
items_last : (xs : List ObjectView) (object : ObjectView) (kind : Kind) (o : ℕ)
    → length (slice_index_or (xs ++ object ∷ []) o no_object).items ≡ length (slice_index_or (xs ++ record object { kind = kind } ∷ []) o no_object).items
items_last [] object kind zero = refl
items_last [] object kind (suc o) = refl
items_last (x ∷ xs) object kind zero = refl
items_last (x ∷ xs) object kind (suc o) = items_last xs object kind o

spare_last : (xs : List ObjectView) (object : ObjectView) (kind : Kind) (o : ℕ)
    → (slice_index_or (xs ++ object ∷ []) o no_object).spare ≡ (slice_index_or (xs ++ record object { kind = kind } ∷ []) o no_object).spare
spare_last [] object kind zero = refl
spare_last [] object kind (suc o) = refl
spare_last (x ∷ xs) object kind zero = refl
spare_last (x ∷ xs) object kind (suc o) = spare_last xs object kind o

count_last : (xs : List ObjectView) (object : ObjectView) → length (xs ++ object ∷ []) ≡ length xs + 1
count_last [] object = refl
count_last (x ∷ xs) object = omega (arith, count_last xs object)

module _ (store : StoreView) (keys bytes : ℕ) where
  -- a place of an object that is there is one without the object that is made next
  here : (access : Access) → IsAccessWithin (length store.objects) access → HasPlaceFor (room_with_next store) keys bytes access → HasPlaceFor (room_of store) keys bytes access
  here (Read l) within place = place
  here (Set (Item o i) content) within place = subst (λ (ob : ObjectView). i < length ob.items) (front store.objects store.next_object o within) place
  here (Set (Order o) content) within place = subst (λ (ob : ObjectView). keys ≤ ob.spare) (front store.objects store.next_object o within) place
  here (Set (File path) content) within place = place
  here (Set l content) within place = place
  here (Update (Order o) change) within place = subst (λ (ob : ObjectView). keys ≤ ob.spare) (front store.objects store.next_object o within) place
  here (Update (File path) change) within place = place
  here (Update l change) within place = place

-- making the object takes no room
makes_takes : (store after : StoreView) (kind : Kind) → Makes store after kind → Takes (room_with_next store) (room_of after) 0 0 0
makes_takes store after kind makes =
    subst (λ objects. Takes (room_with_next store) (record { objects = objects; files = after.files; cells = after.spare_cells }) 0 0 0) (sym makes.objects_are)
    (subst (λ files. Takes (room_with_next store) (record { objects = store.objects ++ record store.next_object { kind = kind } ∷ []; files = files; cells = after.spare_cells }) 0 0 0) (sym makes.files_stay)
    (record {
      objects_stay = count_last store.objects (record store.next_object { kind = kind }) ∙ sym (count_last store.objects store.next_object);
      cells_left = omega (arith, makes.cells_stay);
      items_left = λ o. omega (arith, items_last store.objects store.next_object kind o);
      keys_left = λ o. omega (arith, spare_last store.objects store.next_object kind o);
      slots_left = λ path there. there;
      bytes_left = λ path. omega arith;
    }))

within_more : (few more : ℕ) → few ≤ more → (access : Access) → IsAccessWithin few access → IsAccessWithin more access
within_more few more fits (Read l) within = within
within_more few more fits (Set (Item o i) content) within = omega arith
within_more few more fits (Set (Order o) content) within = omega arith
within_more few more fits (Set l content) within = within
within_more few more fits (Update (Item o i) change) within = omega arith
within_more few more fits (Update (Order o) change) within = omega arith
within_more few more fits (Update l change) within = within

count_fits : (made : Option Kind) (store : StoreView) → count_with made store ≤ length store.objects + 1
count_fits None store = omega arith
count_fits (Some kind) store = omega arith

-- what a plan may name is there, or is the object that is made next
pub within_next : (made : Option Kind) (store : StoreView) (count : ℕ) → count ≡ length store.objects → (plan : List Access) → AreWithin (count_with made store) plan → AreWithin (count + 1) plan
within_next made store count is plan within = λ k access at. within_more (count_with made store) (count + 1) (omega (arith, count_fits made store)) access (within k access at)

count_same : (made : Option Kind) (old new : StoreView) → length new.objects ≡ length old.objects → count_with made new ≡ count_with made old
count_same None old new is = is
count_same (Some kind) old new is = ap (λ n. n + 1) is

kinds_counted : (xs : List ObjectView) → length (map (λ (ob : ObjectView). ob.kind) xs) ≡ length xs
kinds_counted [] = refl
kinds_counted (x ∷ xs) = ap suc (kinds_counted xs)

-- where all is as before, a plan may name as many objects as before
pub count_kept : (made : Option Kind) (old new : StoreView) → Keeps old new → count_with made new ≡ count_with made old
count_kept made old new keeps =
    count_same made old new (sym (kinds_counted new.objects) ∙ ap (length {A = Kind}) keeps.kinds_stay ∙ kinds_counted old.objects)

pub reserved_for : (values : ValuesView) (old store : StoreView) (plan : List Access) (made : Option Kind) → HasRoomForAll values store made plan
    → AreWithin (count_with made old) plan → length store.objects ≡ length old.objects → IsReservedFor values store made plan
reserved_for values old store plan None room within count =
    let here_within = subst (λ n. AreWithin n plan) (sym count) within in
    reserved values plan (room_of store) (keys_in plan) (bytes_in_all values plan)
    (λ k access at. here store (keys_in plan) (bytes_in_all values plan) access (here_within k access at) (room.places k access at)) here_within room.cells (omega arith) (omega arith)
reserved_for values old store plan (Some kind) room within count = (
  room.object,
  λ after makes.
      let takes = makes_takes store after kind makes in
      let objects : length after.objects ≡ length old.objects + 1 = takes.objects_stay ∙ count_last store.objects store.next_object ∙ ap (λ n. n + 1) count in
      reserved values plan (room_of after) (keys_in plan) (bytes_in_all values plan)
      (λ k access at. place_later (room_with_next store) (room_of after) 0 0 0 takes (keys_in plan) (bytes_in_all values plan) (keys_in plan) (bytes_in_all values plan) (omega arith) (omega arith) access (room.places k access at))
      (subst (λ n. AreWithin n plan) (sym objects) within) (omega (arith, makes.cells_stay, room.cells)) (omega arith) (omega arith),
)

takes_after : (a b c : Room) (cells keys bytes : ℕ) → Takes a b 0 0 0 → Takes b c cells keys bytes → Takes a c cells keys bytes
takes_after a b c cells keys bytes first second = record {
  objects_stay = second.objects_stay ∙ first.objects_stay;
  cells_left = omega (arith, first.cells_left, second.cells_left);
  items_left = λ o. omega (arith, first.items_left o, second.items_left o);
  keys_left = λ o. omega (arith, first.keys_left o, second.keys_left o);
  slots_left = λ path there. second.slots_left path (first.slots_left path there);
  bytes_left = λ path. omega (arith, first.bytes_left path, second.bytes_left path);
}

-- where no room is taken, there is room for what there was room for
room_later : (values : ValuesView) (old new : Room) → Takes old new 0 0 0 → (access : Access) → HasRoomFor values old access → HasRoomFor values new access
room_later values old new takes (Read l) room = tt
room_later values old new takes (Set (Item o i) content) room = (omega (arith, takes.objects_stay, room.0), omega (arith, takes.items_left o, room.1))
room_later values old new takes (Set (Order o) (OrderContent ks)) room = (omega (arith, takes.objects_stay, room.0), omega (arith, takes.keys_left o, room.1))
room_later values old new takes (Set (Order o) content) room = tt
room_later values old new takes (Set (File path) content) room = takes.slots_left path room
room_later values old new takes (Set l content) room = omega (arith, takes.cells_left, room)
room_later values old new takes (Update (Order o) (Insert key)) room = (omega (arith, takes.objects_stay, room.0), omega (arith, takes.keys_left o, room.1))
room_later values old new takes (Update (Order o) (Delete key)) room = omega (arith, takes.objects_stay, room)
room_later values old new takes (Update (File path) (Append text)) room = (takes.slots_left path room.0, omega (arith, takes.bytes_left path, room.1))
room_later values old new takes (Update l change) room = tt

reserved_later : (values : ValuesView) (plan : List Access) (old new : Room) → Takes old new 0 0 0 → IsReserved values old plan → IsReserved values new plan
reserved_later values [] old new takes room = tt
reserved_later values (access ∷ plan) old new takes room = (
  room_later values old new takes access room.0,
  λ after more. room.1 after (takes_after old new after (cells_of access) (keys_of access) (bytes_of values access) takes more),
)

-- files that come with as much room as was there leave a reserved plan so
pub reserved_files : (values : ValuesView) (old new : StoreView) (made : Option Kind) (plan : List Access) → new ≡ record old { files = new.files } → Takes (room_of old) (room_of new) 0 0 0
    → IsReservedFor values old made plan → IsReservedFor values new made plan
reserved_files values old new None plan same takes room = reserved_later values plan (room_of old) (room_of new) takes room
reserved_files values old new (Some kind) plan same takes room = (
  subst (λ n. 0 < n) (sym (ap (λ (s : StoreView). s.spare_objects) same)) room.0,
  λ after makes.
      let before : StoreView = record old { objects = old.objects ++ record old.next_object { kind = kind } ∷ [] } in
      let objects : after.objects ≡ before.objects = makes.objects_are ∙ ap (λ (s : StoreView). s.objects ++ record s.next_object { kind = kind } ∷ []) same in
      let cells : after.spare_cells ≡ old.spare_cells = makes.cells_stay ∙ ap (λ (s : StoreView). s.spare_cells) same in
      reserved_later values plan (room_of before) (room_of after)
      (subst (λ all. Takes (room_of before) (record { objects = all; files = after.files; cells = after.spare_cells }) 0 0 0) (sym objects)
      (subst (λ files. Takes (room_of before) (record { objects = before.objects; files = files; cells = after.spare_cells }) 0 0 0) (sym makes.files_stay)
      (record {
        objects_stay = refl;
        cells_left = omega (arith, cells);
        items_left = λ o. omega arith;
        keys_left = λ o. omega arith;
        slots_left = λ path there. takes.slots_left path there;
        bytes_left = λ path. takes.bytes_left path;
      })))
      (room.1 before (record { objects_are = refl; files_stay = refl; cells_stay = refl })),
)

-- the room for cells after the steps of a reservation
pub few_cells : (old objects cells new : StoreView) (count : ℕ) → objects ≡ record old { spare_objects = objects.spare_objects } → FewCells objects cells count → new.spare_cells ≡ cells.spare_cells
    → FewCells old new count
few_cells old objects cells new count same few stay = ⊎_elim (λ is. inl (stay ∙ is ∙ ap (λ (s : StoreView). s.spare_cells) same)) (λ fits. inr (omega (arith, fits, stay, ap (λ (s : StoreView). length s.cells) same))) few
