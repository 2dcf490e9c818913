-- What a contract sees of an object (this project's profile).
use Rattle.std.specs.Prelude.{◌≡◌, ℕ, ◌+◌, ◌≤◌, List, [], ◌∷◌, ◌++◌, Option, slice_get, slice_set, length, Some, unwrap_or, None, if◌then◌else◌}
use Rattle.std.specs.List.{list_any}
use Rattle.std.specs.Set.{remove_key}
use Rattle.py_value.specs.declared.value.Value.{Value}
use Rattle.py_value.specs.declared.access.Kind.{Kind}
use Rattle.py_value.specs.declared.access.Kind.TheVariants.{List as ListKind}
use Rattle.py_value.specs.contracts.value.ValuePartialEq.TheImpl.{ghosts}

-- Its kind, its places for items, which are empty where none was set, its keys in their order, and for how many more
-- keys there is room.
pub record ObjectView : Type 0 where
  pub kind : Kind
  pub items : List (Option Value)
  pub keys : List Value
  pub spare : ℕ

-- the item at a place, where one was set
abbrev pub item_in : List (Option Value) → ℕ → Option Value
item_in items i = unwrap_or (slice_get items i) None

abbrev pub item_of : ObjectView → ℕ → Option Value
item_of object i = item_in object.items i

-- the keys after an insertion: a key that is there changes nothing, and another goes last
abbrev pub with_key : List Value → Value → List Value
with_key keys key = if list_any (ghosts.eq key) keys then keys else keys ++ key ∷ []

-- the keys after an insertion of each key of a list
abbrev pub with_keys : List Value → List Value → List Value
with_keys keys [] = keys
with_keys keys (first ∷ rest) = with_keys (with_key keys first) rest

-- the keys after a deletion, which leaves the order of the others
abbrev pub without_key : List Value → Value → List Value
without_key keys key = remove_key (ghosts.eq key) keys

-- the object with an item set
abbrev pub with_item : ObjectView → ℕ → Value → ObjectView
with_item object i item = record object { items = slice_set object.items i (Some item) }

-- the object has these keys now, and used so much room for keys
pub record HasKeys (old new : ObjectView) (now : List Value) (used : ℕ) : Type 0 where
  pub keys_are : new.keys ≡ now
  pub items_stay : new.items ≡ old.items
  pub kind_stays : new.kind ≡ old.kind
  pub room : old.spare ≤ new.spare + used

-- an object with nothing in it, which stands for one that is not there
abbrev pub no_object : ObjectView
no_object = record { kind = ListKind; items = []; keys = []; spare = 0 }

-- the object has more room now, and is as before
pub record Grows (old new : ObjectView) : Type 0 where
  pub items_stay : (i : ℕ) → item_of new i ≡ item_of old i
  pub keys_stay : new.keys ≡ old.keys
  pub kind_stays : new.kind ≡ old.kind
  pub places : length old.items ≤ length new.items
  pub spare : old.spare ≤ new.spare
