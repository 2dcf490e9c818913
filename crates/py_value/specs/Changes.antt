-- What accesses make of a map from locations to contents (this project's profile).
use Rattle.std.specs.Prelude.{Bool, true, false, List, [], ◌∷◌, ◌++◌, Option, Some, if◌then◌else◌}
use Rattle.py_value.specs.Contents.{Contents}
use Rattle.py_value.specs.KeyOf.{normal}
use Rattle.py_value.specs.Same.{same_value, put}
use Rattle.py_value.specs.Seen.{SeenLocation, SeenContent, SeenChange, SeenAccess, order_is, file_is, key_inserted, key_deleted, bytes_appended, reads, sets, updates}

-- the keys with one more behind them, unless an equal one is there
abbrev pub has_key : Contents → List Contents → Bool
has_key key [] = false
has_key key (first ∷ keys) = if same_value (normal key) (normal first) then true else has_key key keys

abbrev pub with_key : Contents → List Contents → List Contents
with_key key keys = if has_key key keys then keys else keys ++ key ∷ []

abbrev pub without_key : Contents → List Contents → List Contents
without_key key [] = []
without_key key (first ∷ keys) = if same_value (normal key) (normal first) then keys else first ∷ without_key key keys

-- what stands at a location once it is changed: a key goes behind the others or out of them, bytes go behind the file's
abbrev pub changed : SeenChange → Option SeenContent → SeenContent
changed (key_inserted key) (Some (order_is keys)) = order_is (with_key key keys)
changed (key_inserted key) other = order_is (key ∷ [])
changed (key_deleted key) (Some (order_is keys)) = order_is (without_key key keys)
changed (key_deleted key) other = order_is []
changed (bytes_appended more) (Some (file_is bytes)) = file_is (bytes ++ more)
changed (bytes_appended more) other = file_is more

-- the map after an access
abbrev pub after_access : SeenAccess → (SeenLocation → Option SeenContent) → SeenLocation → Option SeenContent
after_access (reads l) store = store
after_access (sets l content) store = put l content store
after_access (updates l change) store = put l (changed change (store l)) store

-- the map after accesses
abbrev pub after_accesses : List SeenAccess → (SeenLocation → Option SeenContent) → SeenLocation → Option SeenContent
after_accesses [] map = map
after_accesses (access ∷ accesses) map = after_accesses accesses (after_access access map)
