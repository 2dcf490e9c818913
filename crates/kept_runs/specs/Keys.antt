-- The keys that the moments of a run name (this project's profile): those of dictionaries, and of attributes, which are texts.
use Rattle.std.specs.Prelude.{◌≡◌, ⊤, List, [], ◌∷◌, Some, None}
use Rattle.py_value.specs.Contents.{Contents}
use Rattle.py_value.specs.KeyOf.{key_fault, normal}
use Rattle.py_value.specs.Seen.{SeenLocation, SeenContent, SeenChange, SeenAccess, entry_at, entry_is, order_is, key_inserted, key_deleted, reads, sets, updates}
use Rattle.py_model.specs.Moment.{Moment, does, enters}

-- nothing of it is refused, where 100 tuples may stand inside one another
abbrev pub IsKey : Contents → Type 0
IsKey key = key_fault 100 key ≡ None

-- a key in its normal form
abbrev pub IsForm : Contents → Type 0
IsForm key = IsKey key × (normal key ≡ key)

abbrev pub AreKeys : List Contents → Type 0
AreKeys [] = ⊤
AreKeys (key ∷ keys) = IsKey key × AreKeys keys

abbrev pub LocationKeys : SeenLocation → Type 0
LocationKeys (entry_at o key) = IsForm key
LocationKeys other = ⊤

abbrev pub ContentKeys : SeenContent → Type 0
ContentKeys (entry_is (Some pair)) = IsKey pair.0
ContentKeys (order_is keys) = AreKeys keys
ContentKeys other = ⊤

abbrev pub ChangeKeys : SeenChange → Type 0
ChangeKeys (key_inserted key) = IsKey key
ChangeKeys (key_deleted key) = IsKey key
ChangeKeys other = ⊤

abbrev pub AccessKeys : SeenAccess → Type 0
AccessKeys (reads l) = LocationKeys l
AccessKeys (sets l content) = LocationKeys l × ContentKeys content
AccessKeys (updates l how) = LocationKeys l × ChangeKeys how

abbrev pub AccessesKeys : List SeenAccess → Type 0
AccessesKeys [] = ⊤
AccessesKeys (access ∷ accesses) = AccessKeys access × AccessesKeys accesses

-- the key of each location is in its normal form, and keys are put into an order and taken from it
abbrev pub MomentKeys : Moment → Type 0
MomentKeys (does at number values answer made accesses weight) = AccessesKeys accesses
MomentKeys (enters at def values accesses) = AccessesKeys accesses
MomentKeys other = ⊤
