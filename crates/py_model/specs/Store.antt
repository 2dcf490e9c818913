-- The store of a run (this project's profile): what stands at each location, the kinds of the objects in the order in which they
-- were made, the bytes that were printed, the paths opened for writing in order of first opening, and the noted names of
-- functions and classes.
use Rattle.std.specs.Prelude.{ℕ, ◌+◌, Bool, true, false, List, [], ◌∷◌, ◌++◌, length, Option, Some, None, if◌then◌else◌, codes}
use Rattle.std.specs.Str.{bytes_eq}
use Rattle.prov_base.specs.declared.place.Pos.{Pos}
use Rattle.prov_base.specs.contracts.place.PosPartialEq.TheImpl.{ghosts as places}
pub use Rattle.py_value.specs.Changes.{has_key, with_key, without_key, changed, after_access}
use Rattle.py_value.specs.Contents.{Contents, text}
use Rattle.py_value.specs.Seen.{SeenLocation, SeenContent, SeenKind, a_list, var_at, len_at, item_at, entry_at, order_at, file_at, offset_at, closed_at, method_at, base_at, var_is, len_is, item_is, entry_is, order_is, file_is, offset_is, closed_is, method_is, base_is}
use Rattle.py_value.specs.KeyOf.{normal}
use Rattle.py_value.specs.Same.{put}

pub record RunStore : Type 0 where
  pub at : SeenLocation → Option SeenContent
  pub kinds : List SeenKind
  pub printed : List ℕ
  pub opened : List (List ℕ)
  pub names : Pos → Option (List ℕ)

-- What is read at a location of each kind. What was never set reads as unset: a variable as unbound, a length and an offset as 0, an
-- entry as absent, an order as empty, a file as not closed.
module _ (store : RunStore) where
  abbrev pub var_of : ℕ → List ℕ → Option Contents
  var_of scope name = by_content (store.at (var_at scope name))
    where
      by_content : Option SeenContent → Option Contents
      by_content (Some (var_is value)) = value
      by_content other = None

  abbrev pub len_of : ℕ → ℕ
  len_of o = by_content (store.at (len_at o))
    where
      by_content : Option SeenContent → ℕ
      by_content (Some (len_is n)) = n
      by_content other = 0

  abbrev pub item_of : ℕ → ℕ → Option Contents
  item_of o i = by_content (store.at (item_at o i))
    where
      by_content : Option SeenContent → Option Contents
      by_content (Some (item_is value)) = Some value
      by_content other = None

  abbrev pub entry_of : ℕ → Contents → Option (Contents × Contents)
  entry_of o key = by_content (store.at (entry_at o (normal key)))
    where
      by_content : Option SeenContent → Option (Contents × Contents)
      by_content (Some (entry_is entry)) = entry
      by_content other = None

  abbrev pub order_of : ℕ → List Contents
  order_of o = by_content (store.at (order_at o))
    where
      by_content : Option SeenContent → List Contents
      by_content (Some (order_is keys)) = keys
      by_content other = []

  abbrev pub file_of : List ℕ → Option (List ℕ)
  file_of path = by_content (store.at (file_at path))
    where
      by_content : Option SeenContent → Option (List ℕ)
      by_content (Some (file_is bytes)) = Some bytes
      by_content other = None

  abbrev pub offset_of : ℕ → ℕ
  offset_of o = by_content (store.at (offset_at o))
    where
      by_content : Option SeenContent → ℕ
      by_content (Some (offset_is offset)) = offset
      by_content other = 0

  abbrev pub closed_of : ℕ → Bool
  closed_of o = by_content (store.at (closed_at o))
    where
      by_content : Option SeenContent → Bool
      by_content (Some (closed_is is_closed)) = is_closed
      by_content other = false

  abbrev pub method_of : Pos → List ℕ → Option Pos
  method_of place name = by_content (store.at (method_at place name))
    where
      by_content : Option SeenContent → Option Pos
      by_content (Some (method_is at)) = Some at
      by_content other = None

  abbrev pub base_of : Pos → Option Contents
  base_of place = by_content (store.at (base_at place))
    where
      by_content : Option SeenContent → Option Contents
      by_content (Some (base_is base)) = base
      by_content other = None

-- an empty store, and the one with which a run begins: the path and the arguments are the list with number 0, `__name__` is
-- `__main__`, and the files that were found stand at their paths
abbrev pub empty : RunStore
empty = record { at = λ l. None; kinds = []; printed = []; opened = []; names = λ place. None }

abbrev pub with_items : ℕ → ℕ → List (List ℕ) → (SeenLocation → Option SeenContent) → SeenLocation → Option SeenContent
with_items o i [] store = store
with_items o i (word ∷ words) store = put (item_at o i) (item_is (text word)) (with_items o (i + 1) words store)

abbrev pub with_files : List (List ℕ × List ℕ) → (SeenLocation → Option SeenContent) → SeenLocation → Option SeenContent
with_files [] store = store
with_files (file ∷ files) store = put (file_at file.0) (file_is file.1) (with_files files store)

-- where nothing was set stands nothing, and an order is empty
abbrev pub unset : SeenLocation → Option SeenContent
unset (order_at o) = Some (order_is [])
unset l = None

abbrev pub opening : List ℕ → List (List ℕ) → List (List ℕ × List ℕ) → RunStore
opening path arguments files = record empty {
  at = put (var_at 0 (codes "__name__")) (var_is (Some (text (codes "__main__"))))
      (put (len_at 0) (len_is (length arguments + 1)) (with_items 0 0 (path ∷ arguments) (with_files files unset)));
  kinds = a_list ∷ [];
}

-- the paths with one more behind them, unless it is there
abbrev pub has_path : List ℕ → List (List ℕ) → Bool
has_path path [] = false
has_path path (first ∷ paths) = if bytes_eq path first then true else has_path path paths

abbrev pub with_path : List ℕ → List (List ℕ) → List (List ℕ)
with_path path paths = if has_path path paths then paths else paths ++ path ∷ []

abbrev pub with_name : Pos → List ℕ → (Pos → Option (List ℕ)) → Pos → Option (List ℕ)
with_name place name names at = if places.eq place at then Some name else names at
