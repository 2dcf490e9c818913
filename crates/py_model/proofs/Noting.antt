-- A plan that notes no name leaves the names that are noted.
use Rattle.std.proofs.Common.{◌≡◌, List, [], ◌∷◌, length, slice_get, Option, Some, None, refl, ◌∙◌}
use Rattle.std.specs.Prelude.{⊤}
use Rattle.prov_base.specs.declared.place.Pos.{Pos}
use Rattle.py_value.specs.Seen.{SeenKind}
use Rattle.py_model.proofs.AlikePlans.{NotesNone, IsNoteless}
use Rattle.py_model.specs.Effect.{Touch, accessed, looked, counted, printed, opened, noted, asked, fetched, Answers, effect, written, after, after_touches, after_touch, with_made, touching, lacking}
use Rattle.py_model.specs.Plan.{Writes, write, change, move, opens, notes, done, done_at_end, Plan, read_var, read_len, read_item, read_entry, read_order, read_file, read_offset, read_closed, read_method, read_base, kind_of, name_of, was_opened, ask, fetch, looks, counts, prints, writes, makes, raises, raises_again, ends, runs_away, Given, Found}
use Rattle.py_model.specs.Store.{RunStore, var_of, len_of, item_of, entry_of, order_of, file_of, offset_of, closed_of, method_of, base_of, has_path}

abbrev NoneNoted : List Touch → Type 0
NoneNoted [] = ⊤
NoneNoted (noted place name ∷ touches) = ⊥
NoneNoted (touch ∷ touches) = NoneNoted touches

names_stay : (touches : List Touch) → NoneNoted touches → (store : RunStore) (place : Pos) → (after_touches touches store).names place ≡ store.names place
names_stay [] none store place = refl
names_stay (accessed access ∷ touches) none store place = names_stay touches none (after_touch (accessed access) store) place
names_stay (looked n ∷ touches) none store place = names_stay touches none store place
names_stay (counted n ∷ touches) none store place = names_stay touches none store place
names_stay (printed bytes ∷ touches) none store place = names_stay touches none (after_touch (printed bytes) store) place
names_stay (opened path ∷ touches) none store place = names_stay touches none (after_touch (opened path) store) place
names_stay (noted at name ∷ touches) none store place = absurd none
names_stay (asked what ∷ touches) none store place = names_stay touches none store place
names_stay (fetched path ∷ touches) none store place = names_stay touches none store place

module _ (store : RunStore) where
  writes_none : (made : Option SeenKind) (all : Writes) → NotesNone all → NoneNoted (written store made all).touches
  writes_none made (write l content rest) none = writes_none made rest none
  writes_none made (change l how rest) none = writes_none made rest none
  writes_none made (move o from onto rest) none = writes_none made rest none
  writes_none made (opens path rest) none = writes_none made rest none
  writes_none made (notes place name rest) none = absurd none
  writes_none made (done answer) none = tt
  writes_none made done_at_end none = tt

  made_stay : (made : Option SeenKind) (place : Pos) → (with_made made store).names place ≡ store.names place
  made_stay None place = refl
  made_stay (Some kind) place = refl

  module _ (answers : Answers) where
    effect_none : (p : Plan) → IsNoteless p → NoneNoted (effect store answers p).touches
    effect_none (read_var scope name go) none = effect_none (go (var_of store scope name)) (none (var_of store scope name))
    effect_none (read_len o go) none = effect_none (go (len_of store o)) (none (len_of store o))
    effect_none (read_item o i go) none = effect_none (go (item_of store o i)) (none (item_of store o i))
    effect_none (read_entry o key go) none = effect_none (go (entry_of store o key)) (none (entry_of store o key))
    effect_none (read_order o go) none = effect_none (go (order_of store o)) (none (order_of store o))
    effect_none (read_file path go) none = effect_none (go (file_of store path)) (none (file_of store path))
    effect_none (read_offset o go) none = effect_none (go (offset_of store o)) (none (offset_of store o))
    effect_none (read_closed o go) none = effect_none (go (closed_of store o)) (none (closed_of store o))
    effect_none (read_method place name go) none = effect_none (go (method_of store place name)) (none (method_of store place name))
    effect_none (read_base place go) none = effect_none (go (base_of store place)) (none (base_of store place))
    effect_none (kind_of o go) none = effect_none (go (slice_get store.kinds o)) (none (slice_get store.kinds o))
    effect_none (name_of place go) none = effect_none (go (store.names place)) (none (store.names place))
    effect_none (was_opened path go) none = effect_none (go (has_path path store.opened)) (none (has_path path store.opened))
    effect_none (ask what go) none = by_given (answers.given what) (λ given. effect_none (go given) (none given))
      where
        by_given : (given : Option Given) → ((v : Given) → NoneNoted (effect store answers (go v)).touches) → NoneNoted (touching (asked what) (elim given [ None ↦ lacking store | Some v ↦ effect store answers (go v) ])).touches
        by_given None each = tt
        by_given (Some v) each = each v
    effect_none (fetch path go) none = by_found (answers.found path) (λ found. effect_none (go found) (none found))
      where
        by_found : (found : Option Found) → ((v : Found) → NoneNoted (effect store answers (go v)).touches) → NoneNoted (touching (fetched path) (elim found [ None ↦ lacking store | Some v ↦ effect store answers (go v) ])).touches
        by_found None each = tt
        by_found (Some v) each = each v
    effect_none (looks n rest) none = effect_none rest none
    effect_none (counts n rest) none = effect_none rest none
    effect_none (prints bytes rest) none = effect_none rest none
    effect_none (writes all) none = writes_none None all none
    effect_none (makes kind all) none = writes_none (Some kind) (all (length store.kinds)) (none (length store.kinds))
    effect_none (raises of items) none = tt
    effect_none (raises_again o) none = tt
    effect_none ends none = tt
    effect_none runs_away none = tt

    pub names_after : (p : Plan) → IsNoteless p → (place : Pos) → (after (effect store answers p) store).names place ≡ store.names place
    names_after p none place =
        names_stay (effect store answers p).touches (effect_none p none) (with_made (effect store answers p).made store) place ∙ made_stay (effect store answers p).made place
