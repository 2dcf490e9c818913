-- A plan in a store that opened fewer paths: where it asks whether a path was opened and then reads the file, it does the same, and at most
-- fetches it too.
use Rattle.std.proofs.Common.{◌≡◌, ℕ, ◌+◌, ◌/◌, Bool, true, false, ◌||◌, if◌then◌else◌, List, [], ◌∷◌, map, length, slice_get, Option, Some, None, unwrap_or, ◌⊎◌, inl, inr, refl, sym, ap, ap₂, subst, ◌∙◌}
use Rattle.std.specs.Prelude.{⊤}
use Rattle.std.proofs.lemmas.Bool.{false≢true}
use Rattle.prov_base.specs.declared.place.Pos.{Pos}
use Rattle.py_value.specs.Contents.{tuple, no_parts}
use Rattle.py_value.specs.Seen.{SeenLocation, SeenAccess, SeenKind, var_at, len_at, item_at, entry_at, order_at, file_at, offset_at, closed_at, method_at, base_at, item_is, reads, sets, updates}
use Rattle.py_model.specs.Effect.{Touch, accessed, looked, counted, printed, opened, noted, asked, fetched, Answers, Effect, effect, written, accesses_in, looked_at, characters_in, weight, cost, after, after_touches, after_touch, with_made, touching, lacking}
use Rattle.py_model.specs.Plan.{Writes, write, change, move, opens, notes, done, done_at_end, Plan, read_var, read_len, read_item, read_entry, read_order, read_file, read_offset, read_closed, read_method, read_base, kind_of, name_of, was_opened, ask, fetch, looks, counts, prints, writes, makes, raises, raises_again, ends, runs_away, Given, Found}
use Rattle.py_model.specs.Renaming.{Renaming, renamed_access, renamed_location}
use Rattle.py_model.specs.Running.{Asking}
use Rattle.py_model.specs.Store.{RunStore, has_path, var_of, len_of, item_of, entry_of, order_of, file_of, offset_of, closed_of, method_of, base_of}
use Rattle.py_model.specs.Tidy.{is_there, AsksPath, IsTidyAfter}
use Rattle.slice_simulation.proofs.Happenings.{asked_after}
use Rattle.slice_simulation.proofs.Opened.{opens_at}
use Rattle.slice_simulation.specs.Related.{IsThere}
use Rattle.std.specs.Str.{bytes_eq}

-- touches without what is fetched
abbrev pub unfetched : List Touch → List Touch
unfetched [] = []
unfetched (fetched path ∷ touches) = unfetched touches
unfetched (touch ∷ touches) = touch ∷ unfetched touches

pub record SameBut (e f : Effect) : Type 0 where
  pub outcome : f.outcome ≡ e.outcome
  pub made : f.made ≡ e.made
  pub touches : unfetched f.touches ≡ unfetched e.touches

accesses_stay : (touches : List Touch) → accesses_in (unfetched touches) ≡ accesses_in touches
accesses_stay [] = refl
accesses_stay (accessed access ∷ touches) = ap (λ (more : List SeenAccess). access ∷ more) (accesses_stay touches)
accesses_stay (looked n ∷ touches) = accesses_stay touches
accesses_stay (counted n ∷ touches) = accesses_stay touches
accesses_stay (printed bytes ∷ touches) = accesses_stay touches
accesses_stay (opened path ∷ touches) = accesses_stay touches
accesses_stay (noted place name ∷ touches) = accesses_stay touches
accesses_stay (asked what ∷ touches) = accesses_stay touches
accesses_stay (fetched path ∷ touches) = accesses_stay touches

looked_stays : (touches : List Touch) → looked_at (unfetched touches) ≡ looked_at touches
looked_stays [] = refl
looked_stays (accessed access ∷ touches) = looked_stays touches
looked_stays (looked n ∷ touches) = ap (λ m. n + m) (looked_stays touches)
looked_stays (counted n ∷ touches) = looked_stays touches
looked_stays (printed bytes ∷ touches) = looked_stays touches
looked_stays (opened path ∷ touches) = looked_stays touches
looked_stays (noted place name ∷ touches) = looked_stays touches
looked_stays (asked what ∷ touches) = looked_stays touches
looked_stays (fetched path ∷ touches) = looked_stays touches

characters_stay : (touches : List Touch) → characters_in (unfetched touches) ≡ characters_in touches
characters_stay [] = refl
characters_stay (accessed access ∷ touches) = characters_stay touches
characters_stay (looked n ∷ touches) = characters_stay touches
characters_stay (counted n ∷ touches) = ap (λ m. n + m) (characters_stay touches)
characters_stay (printed bytes ∷ touches) = characters_stay touches
characters_stay (opened path ∷ touches) = characters_stay touches
characters_stay (noted place name ∷ touches) = characters_stay touches
characters_stay (asked what ∷ touches) = characters_stay touches
characters_stay (fetched path ∷ touches) = characters_stay touches

opens_stay : (path : List ℕ) (touches : List Touch) → opens_at path (unfetched touches) ≡ opens_at path touches
opens_stay path [] = refl
opens_stay path (accessed access ∷ touches) = opens_stay path touches
opens_stay path (looked n ∷ touches) = opens_stay path touches
opens_stay path (counted n ∷ touches) = opens_stay path touches
opens_stay path (printed bytes ∷ touches) = opens_stay path touches
opens_stay path (opened one ∷ touches) = ap (λ b. bytes_eq path one || b) (opens_stay path touches)
opens_stay path (noted place name ∷ touches) = opens_stay path touches
opens_stay path (asked what ∷ touches) = opens_stay path touches
opens_stay path (fetched one ∷ touches) = opens_stay path touches

askings_stay : (at : Pos) (k : ℕ) (touches : List Touch) (xs : List Asking) → asked_after at k (unfetched touches) xs ≡ asked_after at k touches xs
askings_stay at k [] xs = refl
askings_stay at k (accessed access ∷ touches) xs = askings_stay at k touches xs
askings_stay at k (looked n ∷ touches) xs = askings_stay at k touches xs
askings_stay at k (counted n ∷ touches) xs = askings_stay at k touches xs
askings_stay at k (printed bytes ∷ touches) xs = askings_stay at k touches xs
askings_stay at k (opened path ∷ touches) xs = askings_stay at k touches xs
askings_stay at k (noted place name ∷ touches) xs = askings_stay at k touches xs
askings_stay at k (asked what ∷ touches) xs = askings_stay at k touches (record { at = at; k = k; what = what } ∷ xs)
askings_stay at k (fetched path ∷ touches) xs = askings_stay at k touches xs

store_stays : (touches : List Touch) (store : RunStore) → after_touches (unfetched touches) store ≡ after_touches touches store
store_stays [] store = refl
store_stays (accessed access ∷ touches) store = store_stays touches (after_touch (accessed access) store)
store_stays (looked n ∷ touches) store = store_stays touches store
store_stays (counted n ∷ touches) store = store_stays touches store
store_stays (printed bytes ∷ touches) store = store_stays touches (after_touch (printed bytes) store)
store_stays (opened path ∷ touches) store = store_stays touches (after_touch (opened path) store)
store_stays (noted place name ∷ touches) store = store_stays touches (after_touch (noted place name) store)
store_stays (asked what ∷ touches) store = store_stays touches store
store_stays (fetched path ∷ touches) store = store_stays touches store

module _ (e f : Effect) (same : SameBut e f) where
  -- two effects that differ in what is fetched alone
  alike : {A : Type 0} (g : List Touch → A) → ((touches : List Touch) → g (unfetched touches) ≡ g touches) → g f.touches ≡ g e.touches
  alike g stays = sym (stays f.touches) ∙ (ap g same.touches ∙ stays e.touches)

  pub but_accesses : accesses_in f.touches ≡ accesses_in e.touches
  but_accesses = alike accesses_in accesses_stay

  pub but_weight : weight f ≡ weight e
  but_weight = ap₂ (λ looks characters. looks + (characters + 63) / 64) (alike looked_at looked_stays) (alike characters_in characters_stay)

  pub but_cost : cost f ≡ cost e
  but_cost = ap₂ (λ (accesses : List SeenAccess) heavy. 1 + length accesses + heavy) but_accesses but_weight

  pub but_opens : (path : List ℕ) → opens_at path f.touches ≡ opens_at path e.touches
  but_opens path = alike (opens_at path) (opens_stay path)

  pub but_askings : (at : Pos) (k : ℕ) (xs : List Asking) → asked_after at k f.touches xs ≡ asked_after at k e.touches xs
  but_askings at k xs = alike (λ touches. asked_after at k touches xs) (λ touches. askings_stay at k touches xs)

  pub but_store : (store : RunStore) → after f store ≡ after e store
  but_store store = alike (λ touches. after_touches touches (with_made f.made store)) (λ touches. store_stays touches (with_made f.made store))
      ∙ ap (λ made. after_touches e.touches (with_made made store)) same.made

-- Of the files that are read, what was opened in the one store was in the other, or can be read.
module _ (paths : List (List ℕ)) (other : RunStore) (answers : Answers) where
  abbrev OpenedAt : SeenLocation → Type 0
  OpenedAt (file_at path) = has_path path paths ≡ true → (has_path path other.opened ≡ true) ⊎ IsThere answers.found path
  OpenedAt l = ⊤

  abbrev pub AreOpened : List SeenAccess → Type 0
  AreOpened [] = ⊤
  AreOpened (reads l ∷ accesses) = OpenedAt l × AreOpened accesses
  AreOpened (access ∷ accesses) = AreOpened accesses

  pub opened_at : (l : SeenLocation) → ((path : List ℕ) → l ≡ file_at path → has_path path paths ≡ true → (has_path path other.opened ≡ true) ⊎ IsThere answers.found path) → OpenedAt l
  opened_at (file_at path) each = each path refl
  opened_at (var_at scope name) each = tt
  opened_at (len_at o) each = tt
  opened_at (item_at o i) each = tt
  opened_at (entry_at o key) each = tt
  opened_at (order_at o) each = tt
  opened_at (offset_at o) each = tt
  opened_at (closed_at o) each = tt
  opened_at (method_at place name) each = tt
  opened_at (base_at place) each = tt

  renamed_opened : (r : Renaming) (l : SeenLocation) → OpenedAt l → OpenedAt (renamed_location r l)
  renamed_opened r (file_at path) known = known
  renamed_opened r (var_at scope name) known = tt
  renamed_opened r (len_at o) known = tt
  renamed_opened r (item_at o i) known = tt
  renamed_opened r (entry_at o key) known = tt
  renamed_opened r (order_at o) known = tt
  renamed_opened r (offset_at o) known = tt
  renamed_opened r (closed_at o) known = tt
  renamed_opened r (method_at place name) known = tt
  renamed_opened r (base_at place) known = tt

  pub all_opened : (r : Renaming) (accesses : List SeenAccess) → AreOpened accesses → AreOpened (map (renamed_access r) accesses)
  all_opened r [] known = tt
  all_opened r (reads l ∷ accesses) known = (renamed_opened r l known.0, all_opened r accesses known.1)
  all_opened r (sets l content ∷ accesses) known = all_opened r accesses known
  all_opened r (updates l how ∷ accesses) known = all_opened r accesses known

  -- the store, as if these paths were opened
  abbrev pub fuller : RunStore
  fuller = record other { opened = paths }

  all_same : (e : Effect) → SameBut e e
  all_same e = record { outcome = refl; made = refl; touches = refl }

  once_more : (touch : Touch) (e f : Effect) → unfetched (touch ∷ e.touches) ≡ touch ∷ unfetched e.touches → unfetched (touch ∷ f.touches) ≡ touch ∷ unfetched f.touches
      → SameBut e f → SameBut (touching touch e) (touching touch f)
  once_more touch e f one another same = record {
    outcome = same.outcome;
    made = same.made;
    touches = another ∙ (ap (λ (more : List Touch). touch ∷ more) same.touches ∙ sym one);
  }

  written_same : (made : Option SeenKind) (all : Writes) → written other made all ≡ written fuller made all
  written_same made (write l content rest) = ap (touching (accessed (sets l content))) (written_same made rest)
  written_same made (change l how rest) = ap (touching (accessed (updates l how))) (written_same made rest)
  written_same made (move o from onto rest) =
      ap (λ e. touching (accessed (reads (item_at o from))) (touching (accessed (sets (item_at o onto) (item_is (unwrap_or (item_of other o from) (tuple no_parts))))) e)) (written_same made rest)
  written_same made (opens path rest) = ap (touching (opened path)) (written_same made rest)
  written_same made (notes place name rest) = ap (touching (noted place name)) (written_same made rest)
  written_same made (done answer) = refl
  written_same made done_at_end = refl

  writes_same : (made : Option SeenKind) (all : Writes) → SameBut (written fuller made all) (written other made all)
  writes_same made all = subst (SameBut (written fuller made all)) (sym (written_same made all)) (all_same (written fuller made all))

  module _ (below : (path : List ℕ) → has_path path other.opened ≡ true → has_path path paths ≡ true) where
    -- where the path was not opened here, the file is fetched, and the plan goes on as if it was
    fetched_instead : (path : List ℕ) (go : Bool → Plan) → AsksPath path go → (found : Found) → answers.found path ≡ Some found → is_there found ≡ true
        → effect other answers (go false) ≡ touching (fetched path) (effect other answers (go true))
    fetched_instead path go asks found found_is there =
        ap (effect other answers) asks.fetched_is
        ∙ (ap (λ what. touching (fetched path) (elim what [ None ↦ lacking other | Some v ↦ effect other answers (asks.gone v) ])) found_is
        ∙ ap (λ p. touching (fetched path) (effect other answers p)) (asks.there_is found there))

    pub late : (known : Option (List ℕ)) (p : Plan) → IsTidyAfter known p → AreOpened (accesses_in (effect fuller answers p).touches) → SameBut (effect fuller answers p) (effect other answers p)
    late known (read_var scope name go) tidy all = once_more _ _ _ refl refl (late known (go (var_of other scope name)) (tidy (var_of other scope name)) all.1)
    late known (read_len o go) tidy all = once_more _ _ _ refl refl (late known (go (len_of other o)) (tidy (len_of other o)) all.1)
    late known (read_item o i go) tidy all = once_more _ _ _ refl refl (late known (go (item_of other o i)) (tidy (item_of other o i)) all.1)
    late known (read_entry o key go) tidy all = once_more _ _ _ refl refl (late known (go (entry_of other o key)) (tidy (entry_of other o key)) all.1)
    late known (read_order o go) tidy all = once_more _ _ _ refl refl (late known (go (order_of other o)) (tidy (order_of other o)) all.1)
    late known (read_file path go) tidy all = once_more _ _ _ refl refl (late known (go (file_of other path)) (tidy (file_of other path)) all.1)
    late known (read_offset o go) tidy all = once_more _ _ _ refl refl (late known (go (offset_of other o)) (tidy (offset_of other o)) all.1)
    late known (read_closed o go) tidy all = once_more _ _ _ refl refl (late known (go (closed_of other o)) (tidy (closed_of other o)) all.1)
    late known (read_method place name go) tidy all = once_more _ _ _ refl refl (late known (go (method_of other place name)) (tidy (method_of other place name)) all.1)
    late known (read_base place go) tidy all = once_more _ _ _ refl refl (late known (go (base_of other place)) (tidy (base_of other place)) all.1)
    late known (kind_of o go) tidy all = late known (go (slice_get other.kinds o)) (tidy (slice_get other.kinds o)) all
    late known (name_of place go) tidy all = late known (go (other.names place)) (tidy (other.names place)) all
    late known (was_opened path go) tidy all =
        by_tests (has_path path paths) refl (has_path path other.opened) refl all (late (Some path) (go true) tidy.1) (late None (go false) tidy.2)
      where
        instead : (found : Found) → answers.found path ≡ Some found → is_there found ≡ true
            → SameBut (effect fuller answers (go true)) (effect other answers (go true)) → SameBut (effect fuller answers (go true)) (effect other answers (go false))
        instead found found_is there same = subst (SameBut (effect fuller answers (go true))) (sym (fetched_instead path go tidy.0 found found_is there))
            (record { outcome = same.outcome; made = same.made; touches = same.touches })

        by_reading : (has_path path other.opened ≡ true) ⊎ IsThere answers.found path → has_path path other.opened ≡ false
            → SameBut (effect fuller answers (go true)) (effect other answers (go true)) → SameBut (effect fuller answers (go true)) (effect other answers (go false))
        by_reading (inl was) not same = absurd (false≢true (sym not ∙ was))
        by_reading (inr is) not same = instead is.what is.found_is is.there same

        by_tests : (a : Bool) → has_path path paths ≡ a → (b : Bool) → has_path path other.opened ≡ b → AreOpened (accesses_in (effect fuller answers (go a)).touches)
            → (AreOpened (accesses_in (effect fuller answers (go true)).touches) → SameBut (effect fuller answers (go true)) (effect other answers (go true)))
            → (AreOpened (accesses_in (effect fuller answers (go false)).touches) → SameBut (effect fuller answers (go false)) (effect other answers (go false)))
            → SameBut (effect fuller answers (go a)) (effect other answers (go b))
        by_tests true one true another all opened_so other_so = opened_so all
        by_tests false one false another all opened_so other_so = other_so all
        by_tests false one true another all opened_so other_so = absurd (false≢true (sym one ∙ below path another))
        by_tests true one false another all opened_so other_so =
            by_reading ((subst (λ q. AreOpened (accesses_in (effect fuller answers q).touches)) tidy.0.opened_is all).0 one) another (opened_so all)
    late known (ask what go) tidy all = by_given (answers.given what) all (λ given. late known (go given) (tidy given))
      where
        by_given : (given : Option Given) → AreOpened (accesses_in (touching (asked what) (elim given [ None ↦ lacking fuller | Some v ↦ effect fuller answers (go v) ])).touches)
            → ((v : Given) → AreOpened (accesses_in (effect fuller answers (go v)).touches) → SameBut (effect fuller answers (go v)) (effect other answers (go v)))
            → SameBut (touching (asked what) (elim given [ None ↦ lacking fuller | Some v ↦ effect fuller answers (go v) ])) (touching (asked what) (elim given [ None ↦ lacking other | Some v ↦ effect other answers (go v) ]))
        by_given None all each = record { outcome = refl; made = refl; touches = refl }
        by_given (Some v) all each = once_more _ _ _ refl refl (each v all)
    late known (fetch path go) tidy all = by_found (answers.found path) all (λ found. late (if is_there found then Some path else None) (go found) (tidy found))
      where
        by_found : (found : Option Found) → AreOpened (accesses_in (touching (fetched path) (elim found [ None ↦ lacking fuller | Some v ↦ effect fuller answers (go v) ])).touches)
            → ((v : Found) → AreOpened (accesses_in (effect fuller answers (go v)).touches) → SameBut (effect fuller answers (go v)) (effect other answers (go v)))
            → SameBut (touching (fetched path) (elim found [ None ↦ lacking fuller | Some v ↦ effect fuller answers (go v) ])) (touching (fetched path) (elim found [ None ↦ lacking other | Some v ↦ effect other answers (go v) ]))
        by_found None all each = record { outcome = refl; made = refl; touches = refl }
        by_found (Some v) all each = let same = each v all in record { outcome = same.outcome; made = same.made; touches = same.touches }
    late known (looks n rest) tidy all = once_more _ _ _ refl refl (late known rest tidy all)
    late known (counts n rest) tidy all = once_more _ _ _ refl refl (late known rest tidy all)
    late known (prints bytes rest) tidy all = once_more _ _ _ refl refl (late known rest tidy all)
    late known (writes each) tidy all = writes_same None each
    late known (makes kind each) tidy all = writes_same (Some kind) (each (length other.kinds))
    late known (raises of items) tidy all = record { outcome = refl; made = refl; touches = refl }
    late known (raises_again o) tidy all = record { outcome = refl; made = refl; touches = refl }
    late known ends tidy all = record { outcome = refl; made = refl; touches = refl }
    late known runs_away tidy all = record { outcome = refl; made = refl; touches = refl }
