-- What a plan comes to in a store and a capture (this project's profile): its answer, the object that it made, and all that it
-- touched, in order. Accesses, weight and cost, and the store afterwards, are read off that.
use Rattle.std.specs.Prelude.{◌≡◌, ◌<◌, ℕ, ◌+◌, ◌/◌, List, [], ◌∷◌, ◌++◌, length, slice_get, Option, Some, None, codes, unwrap_or}
use Rattle.prov_base.specs.declared.place.Pos.{Pos}
pub use Rattle.py_value.specs.Changes.{after_accesses}
use Rattle.py_value.specs.Contents.{Contents, Parts, text, tuple, no_parts, part}
use Rattle.py_value.specs.KeyOf.{normal}
use Rattle.py_value.specs.Seen.{SeenAccess, SeenKind, an_instance, var_at, len_at, item_at, entry_at, order_at, file_at, offset_at, closed_at, method_at, base_at, item_is, entry_is, order_is, reads, sets, updates}
use Rattle.py_model.specs.Plan.{Ask, Given, Found, Answer, value, raised, at_end, Writes, write, change, move, opens, notes, done, done_at_end, Plan, read_var, read_len, read_item, read_entry, read_order, read_file, read_offset, read_closed, read_method, read_base, kind_of, name_of, was_opened, ask, fetch, looks, counts, prints, writes, makes, raises, raises_again, ends, runs_away}
use Rattle.py_model.specs.Store.{RunStore, var_of, len_of, item_of, entry_of, order_of, file_of, offset_of, closed_of, method_of, base_of, after_access, has_path, with_path, with_name}

-- one thing that an operation touched
pub data Touch : Type 0 where
  accessed : SeenAccess → Touch
  looked : ℕ → Touch
  counted : ℕ → Touch
  printed : List ℕ → Touch
  opened : List ℕ → Touch
  noted : Pos → List ℕ → Touch
  asked : Ask → Touch
  fetched : List ℕ → Touch

-- how the operation came out: it answered, or the capture lacked what it asked for, or no budget pays for it
pub data Outcome : Type 0 where
  answered : Answer → Outcome
  unanswered : Outcome
  unpaid : Outcome

pub record Effect : Type 0 where
  pub outcome : Outcome
  pub made : Option SeenKind
  pub touches : List Touch

-- the capture, for one operation: what a device gives it, and what is found at a path
pub record Answers : Type 0 where
  pub given : Ask → Option Given
  pub found : List ℕ → Option Found

abbrev pub touching : Touch → Effect → Effect
touching touch effect = record effect { touches = touch ∷ effect.touches }

abbrev pub parts_of : List Contents → Parts
parts_of [] = no_parts
parts_of (item ∷ items) = part item (parts_of items)

module _ (store : RunStore) where
  -- the effect of writes
  abbrev pub written : Option SeenKind → Writes → Effect
  written made (write l content rest) = touching (accessed (sets l content)) (written made rest)
  written made (change l how rest) = touching (accessed (updates l how)) (written made rest)
  written made (move o from to rest) =
      touching (accessed (reads (item_at o from)))
      (touching (accessed (sets (item_at o to) (item_is (unwrap_or (item_of store o from) (tuple no_parts))))) (written made rest))
  written made (opens path rest) = touching (opened path) (written made rest)
  written made (notes place name rest) = touching (noted place name) (written made rest)
  written made (done answer) = record { outcome = answered (value answer); made = made; touches = [] }
  written made done_at_end = record { outcome = answered at_end; made = made; touches = [] }

  -- An exception of a class is made: its attributes begin with `args`, the tuple of what it was given.
  abbrev pub thrown : Contents → List Contents → Effect
  thrown of items =
      let o = length store.kinds in
      let args = text (codes "args") in
      record {
        outcome = answered (raised o);
        made = Some (an_instance of);
        touches = accessed (sets (order_at o) (order_is (args ∷ []))) ∷ accessed (sets (entry_at o args) (entry_is (Some (args, tuple (parts_of items))))) ∷ [];
      }

  abbrev pub lacking : Effect
  lacking = record { outcome = unanswered; made = None; touches = [] }

  module _ (answers : Answers) where
    abbrev pub effect : Plan → Effect
    effect (read_var scope name go) = touching (accessed (reads (var_at scope name))) (effect (go (var_of store scope name)))
    effect (read_len o go) = touching (accessed (reads (len_at o))) (effect (go (len_of store o)))
    effect (read_item o i go) = touching (accessed (reads (item_at o i))) (effect (go (item_of store o i)))
    effect (read_entry o key go) = touching (accessed (reads (entry_at o (normal key)))) (effect (go (entry_of store o key)))
    effect (read_order o go) = touching (accessed (reads (order_at o))) (effect (go (order_of store o)))
    effect (read_file path go) = touching (accessed (reads (file_at path))) (effect (go (file_of store path)))
    effect (read_offset o go) = touching (accessed (reads (offset_at o))) (effect (go (offset_of store o)))
    effect (read_closed o go) = touching (accessed (reads (closed_at o))) (effect (go (closed_of store o)))
    effect (read_method place name go) = touching (accessed (reads (method_at place name))) (effect (go (method_of store place name)))
    effect (read_base place go) = touching (accessed (reads (base_at place))) (effect (go (base_of store place)))
    effect (kind_of o go) = effect (go (slice_get store.kinds o))
    effect (name_of place go) = effect (go (store.names place))
    effect (was_opened path go) = effect (go (has_path path store.opened))
    effect (ask what go) = touching (asked what) (elim (answers.given what) [ None ↦ lacking | Some given ↦ effect (go given) ])
    effect (fetch path go) = touching (fetched path) (elim (answers.found path) [ None ↦ lacking | Some found ↦ effect (go found) ])
    effect (looks n rest) = touching (looked n) (effect rest)
    effect (counts n rest) = touching (counted n) (effect rest)
    effect (prints bytes rest) = touching (printed bytes) (effect rest)
    effect (writes all) = written None all
    effect (makes kind all) = written (Some kind) (all (length store.kinds))
    effect (raises of items) = thrown of items
    effect (raises_again o) = record { outcome = answered (raised o); made = None; touches = [] }
    effect ends = record { outcome = answered at_end; made = None; touches = [] }
    effect runs_away = record { outcome = unpaid; made = None; touches = [] }

-- the accesses, in order
abbrev pub accesses_in : List Touch → List SeenAccess
accesses_in [] = []
accesses_in (accessed access ∷ touches) = access ∷ accesses_in touches
accesses_in (other ∷ touches) = accesses_in touches

-- how many items were looked at, and how many characters counted
abbrev pub looked_at : List Touch → ℕ
looked_at [] = 0
looked_at (looked n ∷ touches) = n + looked_at touches
looked_at (other ∷ touches) = looked_at touches

abbrev pub characters_in : List Touch → ℕ
characters_in [] = 0
characters_in (counted n ∷ touches) = n + characters_in touches
characters_in (other ∷ touches) = characters_in touches

-- the weight of an operation, and its cost in steps
abbrev pub weight : Effect → ℕ
weight effect = looked_at effect.touches + (characters_in effect.touches + 63) / 64

abbrev pub cost : Effect → ℕ
cost effect = 1 + length (accesses_in effect.touches) + weight effect

-- the store after one touch, and after an effect
abbrev pub after_touch : Touch → RunStore → RunStore
after_touch (accessed access) store = record store { at = after_access access store.at }
after_touch (printed bytes) store = record store { printed = store.printed ++ bytes }
after_touch (opened path) store = record store { opened = with_path path store.opened }
after_touch (noted place name) store = record store { names = with_name place name store.names }
after_touch other store = store

abbrev pub after_touches : List Touch → RunStore → RunStore
after_touches [] store = store
after_touches (touch ∷ touches) store = after_touches touches (after_touch touch store)

abbrev pub with_made : Option SeenKind → RunStore → RunStore
with_made None store = store
with_made (Some kind) store = record store { kinds = store.kinds ++ kind ∷ [] }

abbrev pub after : Effect → RunStore → RunStore
after effect store = after_touches effect.touches (with_made effect.made store)

-- the accesses that write
abbrev pub writes_in : List SeenAccess → List SeenAccess
writes_in [] = []
writes_in (reads l ∷ accesses) = writes_in accesses
writes_in (sets l content ∷ accesses) = sets l content ∷ writes_in accesses
writes_in (updates l how ∷ accesses) = updates l how ∷ writes_in accesses

-- the exception of a class is made as object o, of what it was given, and nothing else is written
pub record IsThrown (effect : Effect) (o : ℕ) : Type 0 where
  pub of : Contents
  pub items : List Contents
  pub made_is : effect.made ≡ Some (an_instance of)
  pub writes_are : writes_in (accesses_in effect.touches)
      ≡ sets (order_at o) (order_is (text (codes "args") ∷ [])) ∷ sets (entry_at o (text (codes "args"))) (entry_is (Some (text (codes "args"), tuple (parts_of items)))) ∷ []

-- nothing is made and nothing written
pub record IsUntouched (effect : Effect) : Type 0 where
  pub made_is : effect.made ≡ None
  pub writes_are : writes_in (accesses_in effect.touches) ≡ []

-- the object is there, and an instance
pub record IsThere (store : RunStore) (o : ℕ) : Type 0 where
  pub of : Contents
  pub kind_is : slice_get store.kinds o ≡ Some (an_instance of)
  pub within : o < length store.kinds
