-- What is reached from a value in a store, as a relation: objects, and the locations that are their own.
use Rattle.std.specs.Prelude.{◌≡◌, ℕ, ◌<◌, true, slice_get, Option, Some, None, is_some, ◌⊎◌}
use Rattle.py_value.specs.Contents.{Contents, Parts, tuple, object, no_parts, part}
use Rattle.py_value.specs.KeyOf.{normal}
use Rattle.py_value.specs.Seen.{SeenLocation, SeenKind, a_list, a_dict, an_instance, a_file, len_at, item_at, entry_at, order_at, offset_at, closed_at}
use Rattle.py_model.specs.Store.{RunStore, len_of, item_of, entry_of, order_of}
use Rattle.slice_law.specs.Closed.{IsIn}

-- an object stands in a value, in tuples too
abbrev mutual
  pub StandsIn : ℕ → Contents → Type 0
  StandsIn o (tuple parts) = StandsInParts o parts
  StandsIn o (object p) = p ≡ o
  StandsIn o other = ⊥

  pub StandsInParts : ℕ → Parts → Type 0
  StandsInParts o no_parts = ⊥
  StandsInParts o (part first rest) = StandsIn o first ⊎ StandsInParts o rest

abbrev pub StandsInItem : ℕ → Option Contents → Type 0
StandsInItem o None = ⊥
StandsInItem o (Some v) = StandsIn o v

abbrev pub StandsInEntry : ℕ → Option (Contents × Contents) → Type 0
StandsInEntry o None = ⊥
StandsInEntry o (Some entry) = StandsIn o entry.1

module _ (store : RunStore) where
  -- all items of a list are there that stand before a place
  abbrev pub AllBefore : ℕ → ℕ → Type 0
  AllBefore o i = (j : ℕ) → j < i → is_some (item_of store o j) ≡ true

  -- One of the items of a list, up to the first that is missing and with its place; and the entry of one of the keys of a dictionary or an
  -- instance, where there is one.
  pub record IsItem (o : ℕ) (l : SeenLocation) : Type 0 where
    pub i : ℕ
    pub below : i < len_of store o
    pub earlier : AllBefore o i
    pub place : l ≡ item_at o i

  pub record IsEntry (o : ℕ) (l : SeenLocation) : Type 0 where
    pub key : Contents
    pub ordered : IsIn (order_of store o) key
    pub present : is_some (entry_of store o key) ≡ true
    pub place : l ≡ entry_at o (normal key)

  -- a location is the object's own
  abbrev pub IsOwn : ℕ → Option SeenKind → SeenLocation → Type 0
  IsOwn o None l = ⊥
  IsOwn o (Some a_list) l = (l ≡ len_at o) ⊎ IsItem o l
  IsOwn o (Some a_dict) l = (l ≡ order_at o) ⊎ IsEntry o l
  IsOwn o (Some (an_instance of)) l = (l ≡ order_at o) ⊎ IsEntry o l
  IsOwn o (Some (a_file path mode)) l = (l ≡ offset_at o) ⊎ (l ≡ closed_at o)

  -- an object stands in an item, and one in a key or its entry
  pub record InItem (o p : ℕ) : Type 0 where
    pub i : ℕ
    pub below : i < len_of store o
    pub earlier : AllBefore o i
    pub stands : StandsInItem p (item_of store o i)

  pub record InEntry (o p : ℕ) : Type 0 where
    pub key : Contents
    pub ordered : IsIn (order_of store o) key
    pub present : is_some (entry_of store o key) ≡ true
    pub stands : StandsIn p key ⊎ StandsInEntry p (entry_of store o key)

  -- an object holds another
  abbrev pub Holds : ℕ → Option SeenKind → ℕ → Type 0
  Holds o None p = ⊥
  Holds o (Some a_list) p = InItem o p
  Holds o (Some a_dict) p = InEntry o p
  Holds o (Some (an_instance of)) p = InEntry o p
  Holds o (Some (a_file path mode)) p = ⊥

  -- an object is reached from a value: it stands in it, or in an object that is reached
  pub data IsReached (v : Contents) : ℕ → Type 0 where
    in_value : {o : ℕ} → StandsIn o v → IsReached v o
    in_object : {p : ℕ} (o : ℕ) → IsReached v o → Holds o (slice_get store.kinds o) p → IsReached v p

  -- a location is reached from a value: it is an own location of an object that is
  pub record ReachesPlace (v : Contents) (l : SeenLocation) : Type 0 where
    pub o : ℕ
    pub reached : IsReached v o
    pub own : IsOwn o (slice_get store.kinds o) l
