-- What touches make of kinds and noted names, in two stores.
use Rattle.std.proofs.Common.{◌≡◌, Bool, true, List, [], ◌∷◌, map, Option, Some, None, option_map, if◌then◌else◌, refl, ap, ◌∙◌}
use Rattle.prov_base.specs.declared.place.Pos.{Pos}
use Rattle.prov_base.specs.contracts.place.PosPartialEq.TheImpl.{ghosts as places}
use Rattle.py_value.specs.Seen.{SeenAccess, SeenKind, var_at, len_at, item_at, entry_at, order_at, file_at, offset_at, closed_at, method_at, base_at, reads, sets, updates}
use Rattle.py_model.specs.Act.{Walked}
use Rattle.py_model.specs.Effect.{Touch, accessed, looked, counted, printed, opened, noted, asked, fetched, Effect, accesses_in, after, after_touches, after_touch, with_made}
use Rattle.py_model.specs.History.{with_kind}
use Rattle.py_model.specs.Renaming.{Renaming, renamed_touch, renamed_access, renamed_effect, renamed_kind}
use Rattle.py_model.specs.Running.{method_found, sets_an_entry, walked}
use Rattle.py_model.specs.Store.{RunStore, method_of}
use Rattle.slice_simulation.proofs.Readings.{AreRead, method_read}
use Rattle.slice_simulation.specs.Renaming.{Fits, Marks}

kinds_stay : (touches : List Touch) (store : RunStore) → (after_touches touches store).kinds ≡ store.kinds
kinds_stay [] store = refl
kinds_stay (accessed access ∷ touches) store = kinds_stay touches (after_touch (accessed access) store)
kinds_stay (looked n ∷ touches) store = kinds_stay touches store
kinds_stay (counted n ∷ touches) store = kinds_stay touches store
kinds_stay (printed bytes ∷ touches) store = kinds_stay touches (after_touch (printed bytes) store)
kinds_stay (opened path ∷ touches) store = kinds_stay touches (after_touch (opened path) store)
kinds_stay (noted place name ∷ touches) store = kinds_stay touches (after_touch (noted place name) store)
kinds_stay (asked what ∷ touches) store = kinds_stay touches store
kinds_stay (fetched path ∷ touches) store = kinds_stay touches store

made_kind : (made : Option SeenKind) (store : RunStore) → (with_made made store).kinds ≡ with_kind made store.kinds
made_kind None store = refl
made_kind (Some kind) store = refl

pub kinds_grow : (e : Effect) (store : RunStore) → (after e store).kinds ≡ with_kind e.made store.kinds
kinds_grow e store = kinds_stay e.touches (with_made e.made store) ∙ made_kind e.made store

-- the same names are noted, at known places
pub record AlikeNotes (known : Pos → Bool) (store other : RunStore) : Type 0 where
  pub names : (place : Pos) → known place ≡ true → other.names place ≡ store.names place

module _ (r : Renaming) (known : Pos → Bool) where
  notes_stay : (touches : List Touch) (store other : RunStore) → AlikeNotes known store other → AlikeNotes known (after_touches touches store) (after_touches (map (renamed_touch r) touches) other)
  notes_stay [] store other same = same
  notes_stay (accessed access ∷ touches) store other same = notes_stay touches _ _ (record { names = same.names })
  notes_stay (looked n ∷ touches) store other same = notes_stay touches _ _ same
  notes_stay (counted n ∷ touches) store other same = notes_stay touches _ _ same
  notes_stay (printed bytes ∷ touches) store other same = notes_stay touches _ _ (record { names = same.names })
  notes_stay (opened path ∷ touches) store other same = notes_stay touches _ _ (record { names = same.names })
  notes_stay (noted place name ∷ touches) store other same =
      notes_stay touches _ _ (record { names = λ at is. ap (λ old. if places.eq place at then Some name else old) (same.names at is) })
  notes_stay (asked what ∷ touches) store other same = notes_stay touches _ _ same
  notes_stay (fetched path ∷ touches) store other same = notes_stay touches _ _ same

  made_notes : (made another : Option SeenKind) (store other : RunStore) → AlikeNotes known store other → AlikeNotes known (with_made made store) (with_made another other)
  made_notes None None store other same = same
  made_notes (Some kind) None store other same = record { names = same.names }
  made_notes None (Some kind) store other same = record { names = same.names }
  made_notes (Some one) (Some kind) store other same = record { names = same.names }

  pub notes_after : (e : Effect) (store other : RunStore) → AlikeNotes known store other → AlikeNotes known (after e store) (after (renamed_effect r e) other)
  notes_after e store other same =
      notes_stay e.touches (with_made e.made store) (with_made (option_map (renamed_kind r) e.made) other) (made_notes e.made (option_map (renamed_kind r) e.made) store other same)

module _ (r : Renaming) where
  pub same_accesses : (touches : List Touch) → accesses_in (map (renamed_touch r) touches) ≡ map (renamed_access r) (accesses_in touches)
  same_accesses [] = refl
  same_accesses (accessed access ∷ touches) = ap (λ (more : List SeenAccess). renamed_access r access ∷ more) (same_accesses touches)
  same_accesses (looked n ∷ touches) = same_accesses touches
  same_accesses (counted n ∷ touches) = same_accesses touches
  same_accesses (printed bytes ∷ touches) = same_accesses touches
  same_accesses (opened path ∷ touches) = same_accesses touches
  same_accesses (noted place name ∷ touches) = same_accesses touches
  same_accesses (asked what ∷ touches) = same_accesses touches
  same_accesses (fetched path ∷ touches) = same_accesses touches

  entries_same : (accesses : List SeenAccess) → sets_an_entry (map (renamed_access r) accesses) ≡ sets_an_entry accesses
  entries_same [] = refl
  entries_same (reads l ∷ accesses) = entries_same accesses
  entries_same (updates l how ∷ accesses) = entries_same accesses
  entries_same (sets (entry_at o key) content ∷ accesses) = refl
  entries_same (sets (var_at scope name) content ∷ accesses) = entries_same accesses
  entries_same (sets (len_at o) content ∷ accesses) = entries_same accesses
  entries_same (sets (item_at o i) content ∷ accesses) = entries_same accesses
  entries_same (sets (order_at o) content ∷ accesses) = entries_same accesses
  entries_same (sets (file_at path) content ∷ accesses) = entries_same accesses
  entries_same (sets (offset_at o) content ∷ accesses) = entries_same accesses
  entries_same (sets (closed_at o) content ∷ accesses) = entries_same accesses
  entries_same (sets (method_at place name) content ∷ accesses) = entries_same accesses
  entries_same (sets (base_at place) content ∷ accesses) = entries_same accesses

  module _ (store other : RunStore) (marks : Marks) (fits : Fits marks r) where
    methods_same : (accesses : List SeenAccess) (found : Option Pos) → AreRead store other marks accesses
        → method_found other (map (renamed_access r) accesses) found ≡ method_found store accesses found
    methods_same [] found known = refl
    methods_same (sets l content ∷ accesses) found known = methods_same accesses found known
    methods_same (updates l how ∷ accesses) found known = methods_same accesses found known
    methods_same (reads (method_at place name) ∷ accesses) found known =
        ap (method_found other (map (renamed_access r) accesses)) (method_read r store other place name (known.0 r fits))
        ∙ methods_same accesses (method_of store place name) known.1
    methods_same (reads (var_at scope name) ∷ accesses) found known = methods_same accesses found known.1
    methods_same (reads (len_at o) ∷ accesses) found known = methods_same accesses found known.1
    methods_same (reads (item_at o i) ∷ accesses) found known = methods_same accesses found known.1
    methods_same (reads (entry_at o key) ∷ accesses) found known = methods_same accesses found known.1
    methods_same (reads (order_at o) ∷ accesses) found known = methods_same accesses found known.1
    methods_same (reads (file_at path) ∷ accesses) found known = methods_same accesses found known.1
    methods_same (reads (offset_at o) ∷ accesses) found known = methods_same accesses found known.1
    methods_same (reads (closed_at o) ∷ accesses) found known = methods_same accesses found known.1
    methods_same (reads (base_at place) ∷ accesses) found known = methods_same accesses found known.1

    pub walked_same : (accesses : List SeenAccess) → AreRead store other marks accesses → walked other (map (renamed_access r) accesses) ≡ walked store accesses
    walked_same accesses known = both (methods_same accesses None known) (entries_same accesses)
      where
        both : {m n : Option Pos} {a b : Bool} → m ≡ n → a ≡ b → ◌≡◌ {A = Walked} (record { method = m; is_exception = a }) (record { method = n; is_exception = b })
        both one another = cc
