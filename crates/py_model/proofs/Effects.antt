-- What holds of the effect of every plan.
use Rattle.std.proofs.Common.{◌≡◌, ℕ, List, [], ◌∷◌, length, slice_get, Option, Some, None, ◌⊎◌, inl, inr, refl, sym, ap, subst, ◌∙◌}
use Rattle.py_value.specs.Seen.{SeenKind}
use Rattle.py_model.proofs.AlikePlans.{RaisesOnly}
use Rattle.py_model.specs.Effect.{Touch, accessed, looked, counted, printed, opened, noted, asked, fetched, Effect, Answers, effect, written, thrown, lacking, touching, answered, accesses_in, writes_in, after, after_touches, after_touch, with_made, after_accesses, IsThrown, IsUntouched}
use Rattle.py_model.specs.Plan.{Given, Found, raised, Writes, write, change, move, opens, notes, done, done_at_end, Plan, read_var, read_len, read_item, read_entry, read_order, read_file, read_offset, read_closed, read_method, read_base, kind_of, name_of, was_opened, ask, fetch, looks, counts, prints, writes, makes, raises, raises_again, ends, runs_away}
use Rattle.py_model.specs.Store.{RunStore, var_of, len_of, item_of, entry_of, order_of, file_of, offset_of, closed_of, method_of, base_of, has_path}

map_after : (touches : List Touch) (store : RunStore) → (after_touches touches store).at ≡ after_accesses (accesses_in touches) store.at
map_after [] store = refl
map_after (accessed access ∷ touches) store = map_after touches (after_touch (accessed access) store)
map_after (looked n ∷ touches) store = map_after touches store
map_after (counted n ∷ touches) store = map_after touches store
map_after (printed bytes ∷ touches) store = map_after touches (after_touch (printed bytes) store)
map_after (opened path ∷ touches) store = map_after touches (after_touch (opened path) store)
map_after (noted place name ∷ touches) store = map_after touches (after_touch (noted place name) store)
map_after (asked what ∷ touches) store = map_after touches store
map_after (fetched path ∷ touches) store = map_after touches store

made_stays : (made : Option SeenKind) (store : RunStore) → (with_made made store).at ≡ store.at
made_stays None store = refl
made_stays (Some kind) store = refl

pub changes : (e : Effect) (store : RunStore) → (after e store).at ≡ after_accesses (accesses_in e.touches) store.at
changes e store = map_after e.touches (with_made e.made store) ∙ ap (after_accesses (accesses_in e.touches)) (made_stays e.made store)

-- writes end with a value
never_raised : (store : RunStore) (made : Option SeenKind) (all : Writes) (o : ℕ) → (written store made all).outcome ≡ answered (raised o) → ⊥
never_raised store made (write l content rest) o is = never_raised store made rest o is
never_raised store made (change l how rest) o is = never_raised store made rest o is
never_raised store made (move p from to rest) o is = never_raised store made rest o is
never_raised store made (opens path rest) o is = never_raised store made rest o is
never_raised store made (notes place name rest) o is = never_raised store made rest o is
never_raised store made (done answer) o is = cc
never_raised store made done_at_end o is = cc

same_number : (m n : ℕ) → answered (raised m) ≡ answered (raised n) → n ≡ m
same_number m n is = cc

-- given what holds of the objects that are raised again
module _ (P : ℕ → Type 0) (store : RunStore) (answers : Answers) where
  abbrev pub Alone : Effect → ℕ → Type 0
  Alone e o = (IsUntouched e × P o) ⊎ ((o ≡ length store.kinds) × IsThrown e o)

  -- what touches more, but writes no more
  through : (e f : Effect) (o : ℕ) → e.made ≡ f.made → writes_in (accesses_in e.touches) ≡ writes_in (accesses_in f.touches) → Alone e o → Alone f o
  through e f o made same (inl untouched) = inl (record { made_is = sym made ∙ untouched.0.made_is; writes_are = sym same ∙ untouched.0.writes_are }, untouched.1)
  through e f o made same (inr thrown) = inr (thrown.0, record { of = thrown.1.of; items = thrown.1.items; made_is = sym made ∙ thrown.1.made_is; writes_are = sym same ∙ thrown.1.writes_are })

  pub alone : (p : Plan) → RaisesOnly P p → (o : ℕ) → (effect store answers p).outcome ≡ answered (raised o) → Alone (effect store answers p) o
  alone (read_var scope name go) only o is = through (effect store answers (go (var_of store scope name))) _ o refl refl (alone (go (var_of store scope name)) (only (var_of store scope name)) o is)
  alone (read_len p go) only o is = through (effect store answers (go (len_of store p))) _ o refl refl (alone (go (len_of store p)) (only (len_of store p)) o is)
  alone (read_item p i go) only o is = through (effect store answers (go (item_of store p i))) _ o refl refl (alone (go (item_of store p i)) (only (item_of store p i)) o is)
  alone (read_entry p key go) only o is = through (effect store answers (go (entry_of store p key))) _ o refl refl (alone (go (entry_of store p key)) (only (entry_of store p key)) o is)
  alone (read_order p go) only o is = through (effect store answers (go (order_of store p))) _ o refl refl (alone (go (order_of store p)) (only (order_of store p)) o is)
  alone (read_file path go) only o is = through (effect store answers (go (file_of store path))) _ o refl refl (alone (go (file_of store path)) (only (file_of store path)) o is)
  alone (read_offset p go) only o is = through (effect store answers (go (offset_of store p))) _ o refl refl (alone (go (offset_of store p)) (only (offset_of store p)) o is)
  alone (read_closed p go) only o is = through (effect store answers (go (closed_of store p))) _ o refl refl (alone (go (closed_of store p)) (only (closed_of store p)) o is)
  alone (read_method place name go) only o is = through (effect store answers (go (method_of store place name))) _ o refl refl (alone (go (method_of store place name)) (only (method_of store place name)) o is)
  alone (read_base place go) only o is = through (effect store answers (go (base_of store place))) _ o refl refl (alone (go (base_of store place)) (only (base_of store place)) o is)
  alone (kind_of p go) only o is = alone (go (slice_get store.kinds p)) (only (slice_get store.kinds p)) o is
  alone (name_of place go) only o is = alone (go (store.names place)) (only (store.names place)) o is
  alone (was_opened path go) only o is = alone (go (has_path path store.opened)) (only (has_path path store.opened)) o is
  alone (ask what go) only o is = given (answers.given what) (λ g it. alone (go g) (only g) o it) is
    where
      given : (found : Option Given) → ((g : Given) → (effect store answers (go g)).outcome ≡ answered (raised o) → Alone (effect store answers (go g)) o)
          → (touching (asked what) (elim found [ None ↦ lacking store | Some g ↦ effect store answers (go g) ])).outcome ≡ answered (raised o)
          → Alone (touching (asked what) (elim found [ None ↦ lacking store | Some g ↦ effect store answers (go g) ])) o
      given None each it = cc
      given (Some g) each it = through (effect store answers (go g)) _ o refl refl (each g it)
  alone (fetch path go) only o is = found (answers.found path) (λ f it. alone (go f) (only f) o it) is
    where
      found : (there : Option Found) → ((f : Found) → (effect store answers (go f)).outcome ≡ answered (raised o) → Alone (effect store answers (go f)) o)
          → (touching (fetched path) (elim there [ None ↦ lacking store | Some f ↦ effect store answers (go f) ])).outcome ≡ answered (raised o)
          → Alone (touching (fetched path) (elim there [ None ↦ lacking store | Some f ↦ effect store answers (go f) ])) o
      found None each it = cc
      found (Some f) each it = through (effect store answers (go f)) _ o refl refl (each f it)
  alone (looks n rest) only o is = through (effect store answers rest) _ o refl refl (alone rest only o is)
  alone (counts n rest) only o is = through (effect store answers rest) _ o refl refl (alone rest only o is)
  alone (prints bytes rest) only o is = through (effect store answers rest) _ o refl refl (alone rest only o is)
  alone (writes all) only o is = absurd (never_raised store None all o is)
  alone (makes kind all) only o is = absurd (never_raised store (Some kind) (all (length store.kinds)) o is)
  alone (raises of items) only o is =
      let at : o ≡ length store.kinds = same_number (length store.kinds) o is in
      inr (at, subst (IsThrown (thrown store of items)) (sym at) (record { of = of; items = items; made_is = refl; writes_are = refl }))
  alone (raises_again p) only o is = inl (record { made_is = refl; writes_are = refl }, subst P (sym (same_number p o is)) only)
  alone ends only o is = cc
  alone runs_away only o is = cc

-- every plan raises objects again of which nothing has to hold
abbrev anything : ℕ → Type 0
anything o = Unit {0}

any_raised : (p : Plan) → RaisesOnly anything p
any_raised (read_var scope name go) = λ got. any_raised (go got)
any_raised (read_len p go) = λ got. any_raised (go got)
any_raised (read_item p i go) = λ got. any_raised (go got)
any_raised (read_entry p key go) = λ got. any_raised (go got)
any_raised (read_order p go) = λ got. any_raised (go got)
any_raised (read_file path go) = λ got. any_raised (go got)
any_raised (read_offset p go) = λ got. any_raised (go got)
any_raised (read_closed p go) = λ got. any_raised (go got)
any_raised (read_method place name go) = λ got. any_raised (go got)
any_raised (read_base place go) = λ got. any_raised (go got)
any_raised (kind_of p go) = λ got. any_raised (go got)
any_raised (name_of place go) = λ got. any_raised (go got)
any_raised (was_opened path go) = λ got. any_raised (go got)
any_raised (ask what go) = λ got. any_raised (go got)
any_raised (fetch path go) = λ got. any_raised (go got)
any_raised (looks n rest) = any_raised rest
any_raised (counts n rest) = any_raised rest
any_raised (prints bytes rest) = any_raised rest
any_raised (writes all) = tt
any_raised (makes kind all) = tt
any_raised (raises of items) = tt
any_raised (raises_again o) = tt
any_raised ends = tt
any_raised runs_away = tt

pub any_alone : (store : RunStore) (answers : Answers) (p : Plan) (o : ℕ) → (effect store answers p).outcome ≡ answered (raised o)
    → IsUntouched (effect store answers p) ⊎ ((o ≡ length store.kinds) × IsThrown (effect store answers p) o)
any_alone store answers p o is = without (alone anything store answers p (any_raised p) o is)
  where
    without : Alone anything store answers (effect store answers p) o → IsUntouched (effect store answers p) ⊎ ((o ≡ length store.kinds) × IsThrown (effect store answers p) o)
    without (inl untouched) = inl untouched.0
    without (inr thrown) = inr thrown
