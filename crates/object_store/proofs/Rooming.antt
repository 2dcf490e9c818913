-- What room each single write leaves.
use Rattle.std.proofs.Common.{◌≡◌, ℕ, zero, suc, ◌+◌, ◌≤◌, List, [], ◌∷◌, length, slice_set, slice_index_or, Option, Some, refl, ap, sym, subst, arith}
use Rattle.py_value.specs.declared.value.Value.{Value}
use Rattle.object_store.specs.Object.{ObjectView, with_item, no_object, HasKeys}
use Rattle.object_store.specs.Room.{Takes}
use Rattle.object_store.specs.Store.{StoreView, room_of, object_at}

-- the items and the room for keys of each object after a write to one
items_left : (xs : List ObjectView) (o : ℕ) (object : ObjectView) → length (slice_index_or xs o no_object).items ≤ length object.items
    → (p : ℕ) → length (slice_index_or xs p no_object).items ≤ length (slice_index_or (slice_set xs o object) p no_object).items
items_left [] o object more p = omega arith
items_left (x ∷ xs) zero object more zero = more
items_left (x ∷ xs) zero object more (suc p) = omega arith
items_left (x ∷ xs) (suc o) object more zero = omega arith
items_left (x ∷ xs) (suc o) object more (suc p) = items_left xs o object more p

keys_left : (used : ℕ) (xs : List ObjectView) (o : ℕ) (object : ObjectView) → (slice_index_or xs o no_object).spare ≤ object.spare + used
    → (p : ℕ) → (slice_index_or xs p no_object).spare ≤ (slice_index_or (slice_set xs o object) p no_object).spare + used
keys_left used [] o object more p = omega arith
keys_left used (x ∷ xs) zero object more zero = more
keys_left used (x ∷ xs) zero object more (suc p) = omega arith
keys_left used (x ∷ xs) (suc o) object more zero = omega arith
keys_left used (x ∷ xs) (suc o) object more (suc p) = keys_left used xs o object more p

count_stays : (xs : List ObjectView) (o : ℕ) (object : ObjectView) → length (slice_set xs o object) ≡ length xs
count_stays [] o object = refl
count_stays (x ∷ xs) zero object = refl
count_stays (x ∷ xs) (suc o) object = ap suc (count_stays xs o object)

item_count : {A : Type 0} (xs : List A) (i : ℕ) (x : A) → length (slice_set xs i x) ≡ length xs
item_count [] i x = refl
item_count (y ∷ xs) zero x = refl
item_count (y ∷ xs) (suc i) x = ap suc (item_count xs i x)

-- one object is another now
object_takes : (old new : StoreView) (o : ℕ) (object : ObjectView) (used : ℕ) → new ≡ record old { objects = slice_set old.objects o object }
    → length (object_at old o).items ≤ length object.items → (object_at old o).spare ≤ object.spare + used → Takes (room_of old) (room_of new) 0 used 0
object_takes old new o object used same items spare =
    subst (λ (s : StoreView). Takes (room_of old) (room_of s) 0 used 0) (sym same)
    (record {
      objects_stay = count_stays old.objects o object;
      cells_left = omega arith;
      items_left = items_left old.objects o object items;
      keys_left = keys_left used old.objects o object spare;
      slots_left = λ path there. there;
      bytes_left = λ path. omega arith;
    })

pub item_takes : (old new : StoreView) (o i : ℕ) (item : Value) → new ≡ record old { objects = slice_set old.objects o (with_item (object_at old o) i item) } → Takes (room_of old) (room_of new) 0 0 0
item_takes old new o i item same =
    object_takes old new o (with_item (object_at old o) i item) 0 same (omega (arith, item_count (object_at old o).items i (Some item))) (omega arith)

pub keys_take : (old new : StoreView) (o : ℕ) (object : ObjectView) (ks : List Value) (used : ℕ) → new ≡ record old { objects = slice_set old.objects o object }
    → HasKeys (object_at old o) object ks used → Takes (room_of old) (room_of new) 0 used 0
keys_take old new o object ks used same has = object_takes old new o object used same (omega (arith, ap (length {A = Option Value}) has.items_stay)) has.room
