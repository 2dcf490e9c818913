-- Plans that write entries and orders in few ways alone (this project's profile): an entry that was read last is set, put behind the
-- others or taken out with its key, and an object that is made begins with its keys and their entries.
use Rattle.std.specs.Prelude.{◌≡◌, ◌⊎◌, ⊤, ℕ, Bool, false, List, [], ◌∷◌, map, Option, Some, None}
use Rattle.prov_base.specs.declared.place.Pos.{Pos}
use Rattle.py_value.specs.Contents.{Contents, nothing}
use Rattle.py_value.specs.KeyOf.{normal}
use Rattle.py_value.specs.Same.{same_value}
use Rattle.py_value.specs.Seen.{SeenLocation, SeenContent, SeenKind, entry_at, order_at, file_at, entry_is, order_is, file_is, key_inserted, key_deleted}
use Rattle.py_model.specs.Dicts.{set_entries}
use Rattle.py_model.specs.Plan.{Given, Found, Writes, write, change, move, opens, notes, done, done_at_end, Plan, read_var, read_len, read_item, read_entry, read_order, read_file, read_offset, read_closed, read_method, read_base, kind_of, name_of, was_opened, ask, fetch, looks, counts, prints, writes, makes, raises, raises_again, ends, runs_away}

-- a location that is no entry and no order
abbrev pub IsNoKeyPlace : SeenLocation → Type 0
IsNoKeyPlace (entry_at o form) = ⊥
IsNoKeyPlace (order_at o) = ⊥
IsNoKeyPlace place = ⊤

-- it is set, and a file to the empty text
abbrev pub SetsPlainly : SeenLocation → SeenContent → Type 0
SetsPlainly (file_at path) (file_is bytes) = bytes ≡ []
SetsPlainly place content = IsNoKeyPlace place

-- writes of no entry and no order
abbrev pub WritesPlainly : Writes → Type 0
WritesPlainly (write place content rest) = SetsPlainly place content × WritesPlainly rest
WritesPlainly (change place how rest) = IsNoKeyPlace place × WritesPlainly rest
WritesPlainly (move o from to rest) = WritesPlainly rest
WritesPlainly (opens path rest) = WritesPlainly rest
WritesPlainly (notes place name rest) = WritesPlainly rest
WritesPlainly (done answer) = ⊤
WritesPlainly done_at_end = ⊤

-- what was read last: an entry, or something else
pub data LastRead : Type 0 where
  other_read : LastRead
  entry_read : ℕ → Contents → Option (Contents × Contents) → LastRead

-- The entry that was read is set under the key that it has, or set and its key put behind the others, or taken out with its key.
pub data WritesEntry : LastRead → Writes → Type 0 where
  resets : {o : ℕ} {key item : Contents} {pair : Contents × Contents}
      → WritesEntry (entry_read o key (Some pair)) (write (entry_at o (normal key)) (entry_is (Some (pair.0, item))) (done nothing))
  inserts : {o : ℕ} {key item : Contents}
      → WritesEntry (entry_read o key None) (write (entry_at o (normal key)) (entry_is (Some (key, item))) (change (order_at o) (key_inserted key) (done nothing)))
  deletes : {o : ℕ} {key : Contents} {pair : Contents × Contents}
      → WritesEntry (entry_read o key (Some pair)) (write (entry_at o (normal key)) (entry_is None) (change (order_at o) (key_deleted pair.0) (done nothing)))

-- no key of these pairs is equal to this one, and no two of them are equal
abbrev pub HasNoKey : Contents → List (Contents × Contents) → Type 0
HasNoKey key [] = ⊤
HasNoKey key (pair ∷ pairs) = (same_value (normal pair.0) (normal key) ≡ false) × HasNoKey key pairs

abbrev pub HasKeysApart : List (Contents × Contents) → Type 0
HasKeysApart [] = ⊤
HasKeysApart (pair ∷ pairs) = HasNoKey pair.0 pairs × HasKeysApart pairs

-- an object begins with the keys of these pairs, and their entries
pub record BeginsWith (o : ℕ) (all : Writes) : Type 0 where
  pub pairs : List (Contents × Contents)
  pub answer : Contents
  pub apart : HasKeysApart pairs
  pub writes_are : all ≡ write (order_at o) (order_is (map (λ (pair : Contents × Contents). pair.0) pairs)) (set_entries o pairs (done answer))

-- whatever is read, the writes at the end are of these
abbrev pub IsOrderlyAfter : LastRead → Plan → Type 0
IsOrderlyAfter last (read_var scope name go) = (v : Option Contents) → IsOrderlyAfter other_read (go v)
IsOrderlyAfter last (read_len o go) = (n : ℕ) → IsOrderlyAfter other_read (go n)
IsOrderlyAfter last (read_item o i go) = (v : Option Contents) → IsOrderlyAfter other_read (go v)
IsOrderlyAfter last (read_entry o key go) = (entry : Option (Contents × Contents)) → IsOrderlyAfter (entry_read o key entry) (go entry)
IsOrderlyAfter last (read_order o go) = (keys : List Contents) → IsOrderlyAfter other_read (go keys)
IsOrderlyAfter last (read_file path go) = (bytes : Option (List ℕ)) → IsOrderlyAfter other_read (go bytes)
IsOrderlyAfter last (read_offset o go) = (n : ℕ) → IsOrderlyAfter other_read (go n)
IsOrderlyAfter last (read_closed o go) = (b : Bool) → IsOrderlyAfter other_read (go b)
IsOrderlyAfter last (read_method place name go) = (at : Option Pos) → IsOrderlyAfter other_read (go at)
IsOrderlyAfter last (read_base place go) = (v : Option Contents) → IsOrderlyAfter other_read (go v)
IsOrderlyAfter last (kind_of o go) = (kind : Option SeenKind) → IsOrderlyAfter other_read (go kind)
IsOrderlyAfter last (name_of place go) = (name : Option (List ℕ)) → IsOrderlyAfter other_read (go name)
IsOrderlyAfter last (was_opened path go) = (b : Bool) → IsOrderlyAfter other_read (go b)
IsOrderlyAfter last (ask what go) = (given : Given) → IsOrderlyAfter other_read (go given)
IsOrderlyAfter last (fetch path go) = (found : Found) → IsOrderlyAfter other_read (go found)
IsOrderlyAfter last (looks n rest) = IsOrderlyAfter other_read rest
IsOrderlyAfter last (counts n rest) = IsOrderlyAfter other_read rest
IsOrderlyAfter last (prints bytes rest) = IsOrderlyAfter other_read rest
IsOrderlyAfter last (writes all) = WritesPlainly all ⊎ WritesEntry last all
IsOrderlyAfter last (makes kind all) = (o : ℕ) → WritesPlainly (all o) ⊎ BeginsWith o (all o)
IsOrderlyAfter last (raises of items) = ⊤
IsOrderlyAfter last (raises_again o) = ⊤
IsOrderlyAfter last ends = ⊤
IsOrderlyAfter last runs_away = ⊤

abbrev pub IsOrderly : Plan → Type 0
IsOrderly p = IsOrderlyAfter other_read p
