-- Dictionaries (The Python Language Reference 3, sections 3.2 and 6.2.7; what an operation reads and writes is this project's
-- profile). A key that is there keeps its place and its first form; a new one goes behind the others.
use Rattle.std.specs.Prelude.{ℕ, List, [], ◌∷◌, map, Option, Some, None, unwrap_or, if◌then◌else◌}
use Rattle.std.specs.Option.{option_map}
use Rattle.py_value.specs.Contents.{Contents, nothing, tuple, object, no_parts, part}
use Rattle.py_value.specs.KeyOf.{normal}
use Rattle.py_value.specs.Same.{same_value}
use Rattle.py_value.specs.Seen.{SeenKind, a_dict, entry_at, order_at, entry_is, order_is, key_inserted, key_deleted}
use Rattle.py_model.specs.Faults.{wrong_kind, wrong_number}
use Rattle.py_model.specs.Keys.{with_key_of, lacks_key}
use Rattle.py_model.specs.Making.{new_list}
use Rattle.py_model.specs.Plan.{Writes, write, change, done, Plan, read_entry, read_order, kind_of, writes, makes}

-- the pairs with a value for a key: the key that was there stays, its value is the new one
abbrev pub with_pair : Contents → Contents → List (Contents × Contents) → List (Contents × Contents)
with_pair key item [] = (key, item) ∷ []
with_pair key item (pair ∷ pairs) = if same_value (normal key) (normal pair.0) then (pair.0, item) ∷ pairs else pair ∷ with_pair key item pairs

-- the entries of an object are set, one after the other
abbrev pub set_entries : ℕ → List (Contents × Contents) → Writes → Writes
set_entries o [] rest = rest
set_entries o (pair ∷ pairs) rest = write (entry_at o (normal pair.0)) (entry_is (Some pair)) (set_entries o pairs rest)

-- a dictionary of these pairs is made: its order is set, then its entries; it is the answer
abbrev pub new_dict : List (Contents × Contents) → Plan
new_dict pairs = makes a_dict (λ o. write (order_at o) (order_is (map (λ (pair : Contents × Contents). pair.0) pairs)) (set_entries o pairs (done (object o))))

-- The pairs of a display, key and value in turn: every key is tested, and equal keys are one.
abbrev pub with_pairs : List Contents → List (Contents × Contents) → Plan
with_pairs [] pairs = new_dict pairs
with_pairs (key ∷ []) pairs = wrong_number
with_pairs (key ∷ (item ∷ rest)) pairs = with_key_of key (λ k. with_pairs rest (with_pair k item pairs))

-- a dictionary display makes a dictionary of its distinct keys, the first form and the last value of each
abbrev pub dict_display : List Contents → Plan
dict_display items = with_pairs items []

-- `dict()` makes an empty dictionary
abbrev pub dict_builtin : List Contents → Plan
dict_builtin [] = new_dict []
dict_builtin other = wrong_number

-- an item of a dictionary: its entry is read, and a key that is not there raises
abbrev pub get_entry : ℕ → Contents → Plan
get_entry o key = with_key_of key (λ k. read_entry o k (found k))
  where
    found : Contents → Option (Contents × Contents) → Plan
    found k (Some pair) = writes (done pair.1)
    found k None = lacks_key k

-- an item of a dictionary is set: its entry is read and set, and a key that was not there is inserted into the order
abbrev pub set_entry : ℕ → Contents → Contents → Plan
set_entry o key item = with_key_of key (λ k. read_entry o k (found k))
  where
    found : Contents → Option (Contents × Contents) → Plan
    found k (Some pair) = writes (write (entry_at o (normal k)) (entry_is (Some (pair.0, item))) (done nothing))
    found k None = writes (write (entry_at o (normal k)) (entry_is (Some (k, item))) (change (order_at o) (key_inserted k) (done nothing)))

-- an item of a dictionary is deleted: its entry is read and set as absent, and its key goes out of the order
abbrev pub del_entry : ℕ → Contents → Plan
del_entry o key = with_key_of key (λ k. read_entry o k (found k))
  where
    found : Contents → Option (Contents × Contents) → Plan
    found k (Some pair) = writes (write (entry_at o (normal k)) (entry_is None) (change (order_at o) (key_deleted pair.0) (done nothing)))
    found k None = lacks_key k

-- it goes on where an object is a dictionary
abbrev pub when_dict : Plan → Option SeenKind → Plan
when_dict go (Some a_dict) = go
when_dict go other = wrong_kind

-- the value of a key, or else of what is given instead, or None: its entry is read
abbrev pub value_or : ℕ → Contents → Contents → Plan
value_or o key instead = with_key_of key (λ k. read_entry o k (λ entry. writes (done (unwrap_or (option_map (λ (pair : Contents × Contents). pair.1) entry) instead))))

-- `d.get(key)` and `d.get(key, instead)` read the entry of the key
abbrev pub get_method : List Contents → Plan
get_method (object o ∷ (key ∷ [])) = kind_of o (when_dict (value_or o key nothing))
get_method (object o ∷ (key ∷ (instead ∷ []))) = kind_of o (when_dict (value_or o key instead))
get_method (object o ∷ other) = wrong_number
get_method other = wrong_kind

-- the values of these keys, each entry read in turn
abbrev pub read_entries : ℕ → List Contents → (List Contents → Plan) → Plan
read_entries o [] go = go []
read_entries o (key ∷ keys) go = read_entry o key (λ entry. read_entries o keys (λ items. go (unwrap_or (option_map (λ (pair : Contents × Contents). pair.1) entry) nothing ∷ items)))

-- pairs as tuples, up to the end of the shorter list
abbrev pub paired : List Contents → List Contents → List Contents
paired (left ∷ lefts) (right ∷ rights) = tuple (part left (part right no_parts)) ∷ paired lefts rights
paired lefts rights = []

-- `d.items()` reads the order and each entry and makes a list of the pairs
abbrev pub items_method : List Contents → Plan
items_method (object o ∷ []) = kind_of o (when_dict (read_order o (λ keys. read_entries o keys (λ items. new_list (paired keys items)))))
items_method (object o ∷ other) = wrong_number
items_method other = wrong_kind

-- `d.keys()` reads the order and makes a list of the keys
abbrev pub keys_method : List Contents → Plan
keys_method (object o ∷ []) = kind_of o (when_dict (read_order o new_list))
keys_method (object o ∷ other) = wrong_number
keys_method other = wrong_kind

-- `d.values()` reads the order and each entry and makes a list of the values
abbrev pub values_method : List Contents → Plan
values_method (object o ∷ []) = kind_of o (when_dict (read_order o (λ keys. read_entries o keys new_list)))
values_method (object o ∷ other) = wrong_number
values_method other = wrong_kind
