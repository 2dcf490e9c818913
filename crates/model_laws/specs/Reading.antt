-- What objects of a store are as values (The Python Language Reference 3, section 3.2): a list is its items, a dictionary its
-- pairs of key and value in order, an instance its attributes, a file its bytes and its offset.
use Rattle.std.specs.Str.{bytes_eq}
use Rattle.std.specs.Prelude.{◌≡◌, ◌<◌, ⊤, ℕ, zero, suc, Bool, true, false, ◌==◌, List, [], ◌∷◌, map, length, slice_get, Option, Some, None, if◌then◌else◌, is_some, unwrap_or, ◌⊎◌}
use Rattle.py_value.specs.declared.access.Mode.{Mode}
use Rattle.py_value.specs.Contents.{Contents, nothing, text, tuple, range, object}
use Rattle.py_value.specs.Seen.{SeenLocation, a_list, a_dict, an_instance, len_at, item_at, entry_at, order_at, offset_at, closed_at, a_file, file_at}
use Rattle.py_value.specs.KeyOf.{normal}
use Rattle.py_value.specs.Same.{same_value}
use Rattle.py_model.specs.Orderly.{HasKeysApart}
use Rattle.py_model.specs.Numbers.{range_count}
use Rattle.py_model.specs.Store.{RunStore, len_of, item_of, entry_of, order_of, file_of, offset_of, closed_of}
use Rattle.py_model.specs.Texts.{characters}
use Rattle.py_model.specs.Walks.{items_of, numbers_from}

-- from a place of a list on, these items stand there
abbrev pub Stand : RunStore → ℕ → ℕ → List Contents → Type 0
Stand store o i [] = ⊤
Stand store o i (item ∷ items) = (item_of store o i ≡ Some item) × Stand store o (suc i) items

-- the object is the list of these items: its length is their number, and each stands at its place
pub record IsList (store : RunStore) (o : ℕ) (items : List Contents) : Type 0 where
  pub kind_is : slice_get store.kinds o ≡ Some a_list
  pub length_is : len_of store o ≡ length items
  pub items_stand : Stand store o 0 items

-- the items that are read of a list: what was never set is read as None
abbrev pub items_from : RunStore → ℕ → ℕ → ℕ → List Contents
items_from store zero o i = []
items_from store (suc n) o i = unwrap_or (item_of store o i) nothing ∷ items_from store n o (suc i)

abbrev pub items_at : RunStore → ℕ → List Contents
items_at store o = items_from store (len_of store o) o 0

-- a list is plain: at each place below its length stands an item
pub record IsPlainList (store : RunStore) (o : ℕ) : Type 0 where
  pub kind_is : slice_get store.kinds o ≡ Some a_list
  pub has_items : (i : ℕ) → i < len_of store o → is_some (item_of store o i) ≡ true

-- the pair of a key, where there is one; 1 and True are one key, so normal forms are compared
abbrev pub pair_of : Contents → List (Contents × Contents) → Option (Contents × Contents)
pair_of key [] = None
pair_of key (pair ∷ pairs) = if same_value (normal key) (normal pair.0) then Some pair else pair_of key pairs

-- The object has these pairs: its order is their keys, no key twice, and under each key stands its pair, and under others none. An order
-- that was never set is empty.
pub record HasPairs (store : RunStore) (o : ℕ) (pairs : List (Contents × Contents)) : Type 0 where
  pub order_is : order_of store o ≡ map (λ (pair : Contents × Contents). pair.0) pairs
  pub entries_are : (key : Contents) → entry_of store o key ≡ pair_of key pairs
  pub apart : HasKeysApart pairs

-- each object has pairs: those of its order, and no others are there
abbrev pub HasAllPairs : RunStore → Type 0
HasAllPairs store = (o : ℕ) → (pairs : List (Contents × Contents)) × HasPairs store o pairs

-- the pairs that are read of an object, in order
abbrev pub pairs_at : RunStore → ℕ → List (Contents × Contents)
pairs_at store o = map (λ key. unwrap_or (entry_of store o key) (key, nothing)) (order_of store o)

-- the object is the dictionary, or the instance of a class, with these pairs
pub record IsDict (store : RunStore) (o : ℕ) (pairs : List (Contents × Contents)) : Type 0 where
  pub kind_is : slice_get store.kinds o ≡ Some a_dict
  pub has_pairs : HasPairs store o pairs

pub record IsInstance (of : Contents) (store : RunStore) (o : ℕ) (pairs : List (Contents × Contents)) : Type 0 where
  pub kind_is : slice_get store.kinds o ≡ Some (an_instance of)
  pub has_pairs : HasPairs store o pairs

-- the location belongs to the object
abbrev pub is_of : ℕ → SeenLocation → Bool
is_of o (len_at p) = o == p
is_of o (item_at p i) = o == p
is_of o (entry_at p key) = o == p
is_of o (order_at p) = o == p
is_of o (offset_at p) = o == p
is_of o (closed_at p) = o == p
is_of o l = false

-- the object is a dictionary with these keys
abbrev pub HasKeys : RunStore → ℕ → List Contents → Type 0
HasKeys store o keys = (pairs : List (Contents × Contents)) × (IsDict store o pairs × (keys ≡ map (λ (pair : Contents × Contents). pair.0) pairs))

-- the value is a sequence with these items: a list, a dictionary with its keys, a tuple, a range, or a text with its characters
abbrev pub HasItems : RunStore → Contents → List Contents → Type 0
HasItems store (object o) items = IsList store o items ⊎ HasKeys store o items
HasItems store (tuple parts) items = items ≡ items_of parts
HasItems store (range start end step) items = items ≡ numbers_from (range_count start end step) start step
HasItems store (text bytes) items = items ≡ map text (characters bytes)
HasItems store other items = ⊥

-- a file that was opened: its path and mode, the bytes at the path, how many of them were read, and whether it is closed
pub record FileValue : Type 0 where
  pub path : List ℕ
  pub mode : Mode
  pub bytes : List ℕ
  pub offset : ℕ
  pub is_closed : Bool

-- the object is this file; at a path where nothing stands there are no bytes
pub record IsFile (store : RunStore) (o : ℕ) (file : FileValue) : Type 0 where
  pub kind_is : slice_get store.kinds o ≡ Some (a_file file.path file.mode)
  pub bytes_are : unwrap_or (file_of store file.path) [] ≡ file.bytes
  pub offset_is : offset_of store o ≡ file.offset
  pub closed_is : closed_of store o ≡ file.is_closed

-- the location belongs to the file with this path
abbrev pub is_of_file : ℕ → List ℕ → SeenLocation → Bool
is_of_file o path (file_at other) = bytes_eq path other
is_of_file o path l = is_of o l
