-- What a plan does to a store, and over contents (this project's profile).
use Rattle.std.specs.Prelude.{◌≡◌, ⊤, true, false, List, [], ◌∷◌, ◌++◌, Option, Some, None}
use Rattle.py_value.specs.Changes.{has_key, after_access}
use Rattle.py_value.specs.Contents.{Contents}
use Rattle.py_value.specs.KeyOf.{normal}
use Rattle.py_value.specs.Same.{same_value}
use Rattle.py_value.specs.Seen.{SeenLocation, SeenContent, SeenAccess, order_at, file_at, order_is, file_is, key_inserted, key_deleted, reads, sets, updates}
use Rattle.py_value.specs.Values.{ValuesView}
use Rattle.py_value.specs.declared.access.Access.{Access}
use Rattle.py_value.specs.declared.access.Access.TheVariants.{Read, Set, Update}
use Rattle.py_value.specs.declared.access.Kind.{Kind}
use Rattle.object_store.specs.Store.{StoreView, Keeps, Writes, written, changed}

-- the kinds of the objects, with that of the object that a plan makes
abbrev pub kinds_with : Option Kind → List Kind → List Kind
kinds_with None kinds = kinds
kinds_with (Some kind) kinds = kinds ++ kind ∷ []

-- what one access does
abbrev pub Does : ValuesView → Access → StoreView → StoreView → Type 0
Does values (Read l) old new = new ≡ old
Does values (Set l content) old new = Writes old new l (written content)
Does values (Update l change) old new = Writes old new l (changed values old l change)

-- what the accesses of a plan do, one after another
abbrev pub DoesAll : ValuesView → List Access → StoreView → StoreView → Type 0
DoesAll values [] old new = Keeps old new
DoesAll values (access ∷ plan) old new = (after : StoreView) × (Does values access old after × DoesAll values plan after new)

-- no two keys of a list are equal as keys
abbrev pub AreApart : List Contents → Type 0
AreApart [] = ⊤
AreApart (key ∷ keys) = (has_key key keys ≡ false) × AreApart keys

-- a list has no other key that is equal to this one
abbrev pub IsOnly : Contents → List Contents → Type 0
IsOnly key [] = ⊤
IsOnly key (first ∷ keys) = (same_value (normal key) (normal first) ≡ true → first ≡ key) × IsOnly key keys

abbrev pub keys_among : Option SeenContent → List Contents
keys_among (Some (order_is keys)) = keys
keys_among other = []

-- An access suits a map: an order is set to keys that are apart, a key is inserted into an order or deleted from one that has no other
-- key equal to it, and a file is set empty.
abbrev pub Suits : (SeenLocation → Option SeenContent) → SeenAccess → Type 0
Suits map (sets (order_at o) (order_is keys)) = AreApart keys
Suits map (sets (file_at path) (file_is bytes)) = bytes ≡ []
Suits map (sets l content) = ⊤
Suits map (updates (order_at o) (key_inserted key)) = IsOnly key (keys_among (map (order_at o)))
Suits map (updates (order_at o) (key_deleted key)) = IsOnly key (keys_among (map (order_at o)))
Suits map (updates l change) = ⊤
Suits map (reads l) = ⊤

-- each access of a plan suits the map that those before it leave
abbrev pub SuitInTurn : (SeenLocation → Option SeenContent) → List SeenAccess → Type 0
SuitInTurn map [] = ⊤
SuitInTurn map (access ∷ plan) = Suits map access × SuitInTurn (after_access access map) plan
