-- The table of operations on dictionaries and on attributes of instances (The Python Language Reference 3, sections 3.2, 6.2.7 and 6.3, and
-- The Python Standard Library, "Mapping Types"): each over the pairs of key and value in order. The key is one that is usable as a key.
use Rattle.std.specs.Ordering.{int_eq}
use Rattle.std.specs.Prelude.{ℕ, pos, List, [], ◌∷◌, map, length, Option, Some, None, is_some, if◌then◌else◌, unwrap_or, not, ◌==◌, slice_get, codes, ◌≡◌, ⊤, ◌++◌, false}
use Rattle.std.specs.Option.{option_map}
use Rattle.py_value.specs.Seen.{SeenLocation, a_dict}
use Rattle.py_value.specs.Contents.{Contents, nothing, truth, tuple, text, no_parts, part, int, object}
use Rattle.py_value.specs.KeyOf.{normal, key_fault}
use Rattle.py_value.specs.Same.{same_value}
use Rattle.py_model.specs.Walks.{deepest}
use Rattle.py_model.specs.Store.{RunStore, entry_of}
use Rattle.py_model.specs.Plan.{value}
use Rattle.py_model.specs.Effect.{Effect, answered, after}
use Rattle.py_model.specs.Dicts.{with_pair}
use Rattle.py_model.specs.Faults.{key_error, runtime_error}
use Rattle.model_laws.specs.Reading.{pair_of, IsDict, is_of}
use Rattle.model_laws.specs.Results.{Result, leaves, makes_list, throws}
use Rattle.model_laws.specs.TableLists.{number_or_overflow, item_or_end}

abbrev pub Pairs : Type 0
Pairs = List (Contents × Contents)

-- it does something with the pair of a key, and raises the key itself where there is none
abbrev pub at_key : Contents → Pairs → (Contents × Contents → Result Pairs) → Result Pairs
at_key key pairs does = by_pair (pair_of key pairs)
  where
    by_pair : Option (Contents × Contents) → Result Pairs
    by_pair (Some pair) = does pair
    by_pair None = throws key_error (key ∷ [])

-- the pairs without the one of a key
abbrev pub without_pair : Contents → Pairs → Pairs
without_pair key [] = []
without_pair key (pair ∷ pairs) = if same_value (normal key) (normal pair.0) then pairs else pair ∷ without_pair key pairs

-- 3 truth, 51 bool (R Order): whether there are pairs; 4 not: whether there are none
abbrev pub truth_is : Pairs → Result Pairs
truth_is pairs = leaves (truth (not (length pairs == 0))) pairs

abbrev pub not_is : Pairs → Result Pairs
not_is pairs = leaves (truth (length pairs == 0)) pairs

-- 26 getitem (R Entry): the value of the key
abbrev pub getitem_is : Pairs → Contents → Result Pairs
getitem_is pairs key = at_key key pairs (λ pair. leaves pair.1 pairs)

-- 28 setitem (R Entry, S Entry, U Order where absent): the pairs with this value for the key, which keeps its place and its first form, or
-- goes behind the others
abbrev pub setitem_is : Pairs → Contents → Contents → Result Pairs
setitem_is pairs key item = leaves nothing (with_pair key item pairs)

-- 29 delitem (R Entry, S Entry, U Order): the pairs without the one of the key
abbrev pub delitem_is : Pairs → Contents → Result Pairs
delitem_is pairs key = at_key key pairs (λ pair. leaves nothing (without_pair key pairs))

-- 18 in (R Entry): whether there is a pair of the key
abbrev pub in_is : Pairs → Contents → Result Pairs
in_is pairs key = leaves (truth (is_some (pair_of key pairs))) pairs

-- 19 not in (R Entry): whether there is none
abbrev pub not_in_is : Pairs → Contents → Result Pairs
not_in_is pairs key = leaves (truth (not (is_some (pair_of key pairs)))) pairs

-- 58 len (R Order): how many pairs
abbrev pub len_is : Pairs → Result Pairs
len_is pairs = number_or_overflow (pos (length pairs)) pairs

-- 36 iter (R Order): how many pairs
abbrev pub iter_is : Pairs → Result Pairs
iter_is pairs = leaves (int (pos (length pairs))) pairs

-- 37 next (R Order): the key of the turn, or the end; where there are no longer as many pairs as at the start it raises
abbrev pub next_is : Pairs → ℕ → ℕ → Result Pairs
next_is pairs turn begun =
    if int_eq (pos begun) (pos (length pairs)) then item_or_end (slice_get (map (λ (pair : Contents × Contents). pair.0) pairs) turn) pairs
    else throws runtime_error (text (codes "dictionary changed size") ∷ [])

-- 87 get (R Entry): the value of the key, or what is given instead, None where nothing is
abbrev pub get_is : Pairs → Contents → Contents → Result Pairs
get_is pairs key instead = leaves (unwrap_or (option_map (λ (pair : Contents × Contents). pair.1) (pair_of key pairs)) instead) pairs

-- 88 items (R Order, R Entries, S Len, S Items): a new list of the pairs, each as a tuple
abbrev pub items_is : Pairs → Result Pairs
items_is pairs = makes_list (map (λ (pair : Contents × Contents). tuple (part pair.0 (part pair.1 no_parts))) pairs)

-- 89 keys (R Order, S Len, S Items): a new list of the keys
abbrev pub keys_is : Pairs → Result Pairs
keys_is pairs = makes_list (map (λ (pair : Contents × Contents). pair.0) pairs)

-- 90 values (R Order, R Entries, S Len, S Items): a new list of the values
abbrev pub values_is : Pairs → Result Pairs
values_is pairs = makes_list (map (λ (pair : Contents × Contents). pair.1) pairs)

-- 31 setattr of an instance (R Entry, S Entry, U Order where absent): its attributes with this value for the name
abbrev pub setattr_is : Pairs → List ℕ → Contents → Result Pairs
setattr_is pairs name item = leaves nothing (with_pair (text name) item pairs)

-- 30 getattr of an instance that has the attribute (R Entry): its value; where it has none the class is asked, as the plan says
abbrev pub getattr_is : Pairs → Contents × Contents → Result Pairs
getattr_is pairs pair = leaves pair.1 pairs

-- 24 dict (S Order, S Entries of distinct keys): the pairs of keys and values in turn, equal keys as one: the first form and the last value
abbrev pub display_pairs : List Contents → Pairs → Pairs
display_pairs (key ∷ (item ∷ rest)) pairs = display_pairs rest (with_pair key item pairs)
display_pairs other pairs = pairs

-- each key of a display is usable as a key, and has its value
abbrev pub HasUsableKeys : List Contents → Type 0
HasUsableKeys [] = ⊤
HasUsableKeys (key ∷ []) = ⊥
HasUsableKeys (key ∷ (item ∷ rest)) = (key_fault deepest key ≡ None) × HasUsableKeys rest

-- a new dictionary of these pairs is made, the next object, and is the answer; nothing else changes
pub record MakesDict (store : RunStore) (e : Effect) (pairs : Pairs) : Type 0 where
  pub answer_is : e.outcome ≡ answered (value (object (length store.kinds)))
  pub made_is : e.made ≡ Some a_dict
  pub is_dict : IsDict (after e store) (length store.kinds) pairs
  pub elsewhere : (l : SeenLocation) → is_of (length store.kinds) l ≡ false → (after e store).at l ≡ store.at l
  pub rest_stays : after e store ≡ record store { at = (after e store).at; kinds = store.kinds ++ a_dict ∷ [] }

-- nothing stands under a key of the object that is made next
abbrev pub HasNoNext : RunStore → Type 0
HasNoNext store = (key : Contents) → entry_of store (length store.kinds) key ≡ None
