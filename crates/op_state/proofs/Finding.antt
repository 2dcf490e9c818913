-- A map with files that were not fetched yet, as accesses change it.
use Rattle.std.proofs.Common.{◌≡◌, refl, ap, subst, ◌∙◌, ℕ, Bool, true, false, List, [], ◌∷◌, Option, Some, None, IsSome, if◌then◌else◌}
use Rattle.std.specs.Bool.{⊤}
use Rattle.std.proofs.Math.Path.{fun_ext}
use Rattle.object_store.specs.Keyed.{SeenMap, IsKeyed, AreUnder}
use Rattle.object_store.specs.Performing.{Suits, SuitInTurn}
use Rattle.py_value.specs.Changes.{changed, after_access, after_accesses}
use Rattle.py_value.specs.Contents.{Contents}
use Rattle.py_value.specs.Same.{same_location, put}
use Rattle.py_value.specs.Seen.{SeenLocation, SeenContent, SeenChange, SeenAccess, var_at, len_at, item_at, entry_at, order_at, file_at, offset_at, closed_at, method_at, base_at, reads, sets, updates, key_inserted, key_deleted, bytes_appended}
use Rattle.op_state.specs.Holding.{Found, or_found, with_found}

-- a file that is appended to is there
abbrev pub IsThereSeen : SeenMap → SeenAccess → Type 0
IsThereSeen held (updates (file_at path) how) = IsSome (held (file_at path))
IsThereSeen held access = ⊤

abbrev pub AreThereSeen : SeenMap → List SeenAccess → Type 0
AreThereSeen held [] = ⊤
AreThereSeen held (access ∷ accesses) = IsThereSeen held access × AreThereSeen held accesses

-- something is put at a place
put_file : (test : Bool) (content : SeenContent) (there : Option SeenContent) (found : Option (List ℕ))
    → (if test then Some content else or_found there found) ≡ or_found (if test then Some content else there) found
put_file true content there found = refl
put_file false content there found = refl

put_found : (found : Found) (held : SeenMap) (l : SeenLocation) (content : SeenContent) (place : SeenLocation)
    → put l content (with_found found held) place ≡ with_found found (put l content held) place
put_found found held l content (file_at path) = put_file (same_location l (file_at path)) content (held (file_at path)) (found path)
put_found found held l content (var_at scope name) = refl
put_found found held l content (len_at o) = refl
put_found found held l content (item_at o i) = refl
put_found found held l content (entry_at o key) = refl
put_found found held l content (order_at o) = refl
put_found found held l content (offset_at o) = refl
put_found found held l content (closed_at o) = refl
put_found found held l content (method_at at name) = refl
put_found found held l content (base_at at) = refl

found_there : (there : Option SeenContent) (found : Option (List ℕ)) → IsSome there → or_found there found ≡ there
found_there (Some content) found is = refl
found_there None found is = cc

change_found : (found : Found) (held : SeenMap) (l : SeenLocation) (how : SeenChange) → IsThereSeen held (updates l how)
    → changed how (with_found found held l) ≡ changed how (held l)
change_found found held (file_at path) how there = ap (changed how) (found_there (held (file_at path)) (found path) there)
change_found found held (var_at scope name) how there = refl
change_found found held (len_at o) how there = refl
change_found found held (item_at o i) how there = refl
change_found found held (entry_at o key) how there = refl
change_found found held (order_at o) how there = refl
change_found found held (offset_at o) how there = refl
change_found found held (closed_at o) how there = refl
change_found found held (method_at at name) how there = refl
change_found found held (base_at at) how there = refl

pub access_found : (found : Found) (held : SeenMap) (access : SeenAccess) → IsThereSeen held access → after_access access (with_found found held) ≡ with_found found (after_access access held)
access_found found held (reads l) there = refl
access_found found held (sets l content) there = fun_ext (λ place. put_found found held l content place)
access_found found held (updates l how) there = ap (λ content. put l content (with_found found held)) (change_found found held l how there)
    ∙ fun_ext (λ place. put_found found held l (changed how (held l)) place)

-- what stands at a place is not taken away
put_keeps : (test : Bool) (content : SeenContent) (there : Option SeenContent) → IsSome there → IsSome (if test then Some content else there)
put_keeps true content there is = refl
put_keeps false content there is = is

pub access_keeps : (held : SeenMap) (access : SeenAccess) (place : SeenLocation) → IsSome (held place) → IsSome (after_access access held place)
access_keeps held (reads l) place is = is
access_keeps held (sets l content) place is = put_keeps (same_location l place) content (held place) is
access_keeps held (updates l how) place is = put_keeps (same_location l place) (changed how (held l)) (held place) is

pub accesses_keep : (held : SeenMap) (accesses : List SeenAccess) (place : SeenLocation) → IsSome (held place) → IsSome (after_accesses accesses held place)
accesses_keep held [] place is = is
accesses_keep held (access ∷ accesses) place is = accesses_keep (after_access access held) accesses place (access_keeps held access place is)

-- files that are there are so behind an access
one_later : (held : SeenMap) (first access : SeenAccess) → IsThereSeen held access → IsThereSeen (after_access first held) access
one_later held first (updates (file_at path) how) there = access_keeps held first (file_at path) there
one_later held first (updates (var_at scope name) how) there = tt
one_later held first (updates (len_at o) how) there = tt
one_later held first (updates (item_at o i) how) there = tt
one_later held first (updates (entry_at o key) how) there = tt
one_later held first (updates (order_at o) how) there = tt
one_later held first (updates (offset_at o) how) there = tt
one_later held first (updates (closed_at o) how) there = tt
one_later held first (updates (method_at at name) how) there = tt
one_later held first (updates (base_at at) how) there = tt
one_later held first (reads l) there = tt
one_later held first (sets l content) there = tt

there_later : (held : SeenMap) (first : SeenAccess) (accesses : List SeenAccess) → AreThereSeen held accesses → AreThereSeen (after_access first held) accesses
there_later held first [] there = tt
there_later held first (access ∷ accesses) there = (one_later held first access there.0, there_later held first accesses there.1)

pub accesses_found : (found : Found) (held : SeenMap) (accesses : List SeenAccess) → AreThereSeen held accesses
    → after_accesses accesses (with_found found held) ≡ with_found found (after_accesses accesses held)
accesses_found found held [] there = refl
accesses_found found held (access ∷ accesses) there = ap (after_accesses accesses) (access_found found held access there.0)
    ∙ accesses_found found (after_access access held) accesses (there_later held access accesses there.1)

-- what suits the one suits the other
suits_held : (found : Found) (held : SeenMap) (access : SeenAccess) → Suits (with_found found held) access → Suits held access
suits_held found held (reads l) suits = tt
suits_held found held (sets l content) suits = suits
suits_held found held (updates (order_at o) (key_inserted key)) suits = suits
suits_held found held (updates (order_at o) (key_deleted key)) suits = suits
suits_held found held (updates (order_at o) (bytes_appended bytes)) suits = tt
suits_held found held (updates (file_at path) how) suits = tt
suits_held found held (updates (var_at scope name) how) suits = tt
suits_held found held (updates (len_at o) how) suits = tt
suits_held found held (updates (item_at o i) how) suits = tt
suits_held found held (updates (entry_at o key) how) suits = tt
suits_held found held (updates (offset_at o) how) suits = tt
suits_held found held (updates (closed_at o) how) suits = tt
suits_held found held (updates (method_at at name) how) suits = tt
suits_held found held (updates (base_at at) how) suits = tt

pub suit_held : (found : Found) (held : SeenMap) (accesses : List SeenAccess) → AreThereSeen held accesses → SuitInTurn (with_found found held) accesses → SuitInTurn held accesses
suit_held found held [] there suits = tt
suit_held found held (access ∷ accesses) there suits = (
  suits_held found held access suits.0,
  suit_held found (after_access access held) accesses (there_later held access accesses there.1)
      (subst (λ seen. SuitInTurn seen accesses) (access_found found held access there.0) suits.1),
)

-- the keys of orders have their entries in the one where they have them in the other
under_found : (found : Found) (held : SeenMap) (o : ℕ) (keys : List Contents) → AreUnder held o keys → AreUnder (with_found found held) o keys
under_found found held o [] are = tt
under_found found held o (key ∷ keys) are = (are.0, under_found found held o keys are.1)

under_held : (found : Found) (held : SeenMap) (o : ℕ) (keys : List Contents) → AreUnder (with_found found held) o keys → AreUnder held o keys
under_held found held o [] are = tt
under_held found held o (key ∷ keys) are = (are.0, under_held found held o keys are.1)

pub keyed_found : (found : Found) (held : SeenMap) → IsKeyed held → IsKeyed (with_found found held)
keyed_found found held keyed = record { apart = keyed.apart; entries = λ o. under_found found held o _ (keyed.entries o); forms = keyed.forms }

pub keyed_held : (found : Found) (held : SeenMap) → IsKeyed (with_found found held) → IsKeyed held
keyed_held found held keyed = record { apart = keyed.apart; entries = λ o. under_held found held o _ (keyed.entries o); forms = keyed.forms }
