-- A plan that asks nothing has its answer whatever the devices give, and nothing is noted of it.
use Rattle.std.proofs.Common.{◌≡◌, ℕ, List, ◌∷◌, length, slice_get, unwrap_or, Option, Some, None, refl, ap, ◌∙◌}
use Rattle.prov_base.specs.declared.place.Pos.{Pos}
use Rattle.py_value.specs.Contents.{tuple, no_parts}
use Rattle.py_value.specs.KeyOf.{normal}
use Rattle.py_value.specs.Seen.{SeenKind, var_at, len_at, item_at, entry_at, order_at, file_at, offset_at, closed_at, method_at, base_at, item_is, reads, sets, updates}
use Rattle.py_model.specs.Effect.{Touch, accessed, looked, counted, printed, opened, noted, unanswered, Effect, Answers, effect, written, touching}
use Rattle.py_model.specs.Plan.{Writes, write, change, move, opens, notes, done, done_at_end, Plan, read_var, read_len, read_item, read_entry, read_order, read_file, read_offset, read_closed, read_method, read_base, kind_of, name_of, was_opened, ask, fetch, looks, counts, prints, writes, makes, raises, raises_again, ends, runs_away}
use Rattle.py_model.specs.Quiet.{IsQuiet}
use Rattle.py_model.specs.Running.{State, note}
use Rattle.py_model.specs.Store.{RunStore, var_of, len_of, item_of, entry_of, order_of, file_of, offset_of, closed_of, method_of, base_of, has_path}

-- two effects that are the same, have an answer, and leave nothing to be noted
pub record IsUnasked (e f : Effect) : Type 0 where
  pub same : f ≡ e
  pub answers : e.outcome ≡ unanswered → ⊥
  pub notes_none : (at : Pos) (k : ℕ) (s : State) → note at k e.touches s ≡ s

touched : (touch : Touch) (e f : Effect) → ((at : Pos) (k : ℕ) (s : State) (touches : List Touch) → note at k (touch ∷ touches) s ≡ note at k touches s)
    → IsUnasked e f → IsUnasked (touching touch e) (touching touch f)
touched touch e f silent quiet = record {
  same = ap (touching touch) quiet.same;
  answers = quiet.answers;
  notes_none = λ at k s. silent at k s e.touches ∙ quiet.notes_none at k s;
}

module _ (store : RunStore) where
  quiet_writes : (made : Option SeenKind) (all : Writes) → IsUnasked (written store made all) (written store made all)
  quiet_writes made (write l content rest) = touched (accessed (sets l content)) _ _ (λ at k s ts. refl) (quiet_writes made rest)
  quiet_writes made (change l how rest) = touched (accessed (updates l how)) _ _ (λ at k s ts. refl) (quiet_writes made rest)
  quiet_writes made (move o from to rest) =
      touched (accessed (reads (item_at o from))) _ _ (λ at k s ts. refl)
      (touched (accessed (sets (item_at o to) (item_is (unwrap_or (item_of store o from) (tuple no_parts))))) _ _ (λ at k s ts. refl) (quiet_writes made rest))
  quiet_writes made (opens path rest) = touched (opened path) _ _ (λ at k s ts. refl) (quiet_writes made rest)
  quiet_writes made (notes place name rest) = touched (noted place name) _ _ (λ at k s ts. refl) (quiet_writes made rest)
  quiet_writes made (done answer) = record { same = refl; answers = λ is. cc; notes_none = λ at k s. refl }
  quiet_writes made done_at_end = record { same = refl; answers = λ is. cc; notes_none = λ at k s. refl }

module _ (store : RunStore) (answers others : Answers) where
  pub quietly : (p : Plan) → IsQuiet p → IsUnasked (effect store answers p) (effect store others p)
  quietly (read_var scope name go) quiet = touched (accessed (reads (var_at scope name))) _ _ (λ at k s ts. refl) (quietly (go (var_of store scope name)) (quiet (var_of store scope name)))
  quietly (read_len o go) quiet = touched (accessed (reads (len_at o))) _ _ (λ at k s ts. refl) (quietly (go (len_of store o)) (quiet (len_of store o)))
  quietly (read_item o i go) quiet = touched (accessed (reads (item_at o i))) _ _ (λ at k s ts. refl) (quietly (go (item_of store o i)) (quiet (item_of store o i)))
  quietly (read_entry o key go) quiet = touched (accessed (reads (entry_at o (normal key)))) _ _ (λ at k s ts. refl) (quietly (go (entry_of store o key)) (quiet (entry_of store o key)))
  quietly (read_order o go) quiet = touched (accessed (reads (order_at o))) _ _ (λ at k s ts. refl) (quietly (go (order_of store o)) (quiet (order_of store o)))
  quietly (read_file path go) quiet = touched (accessed (reads (file_at path))) _ _ (λ at k s ts. refl) (quietly (go (file_of store path)) (quiet (file_of store path)))
  quietly (read_offset o go) quiet = touched (accessed (reads (offset_at o))) _ _ (λ at k s ts. refl) (quietly (go (offset_of store o)) (quiet (offset_of store o)))
  quietly (read_closed o go) quiet = touched (accessed (reads (closed_at o))) _ _ (λ at k s ts. refl) (quietly (go (closed_of store o)) (quiet (closed_of store o)))
  quietly (read_method place name go) quiet = touched (accessed (reads (method_at place name))) _ _ (λ at k s ts. refl) (quietly (go (method_of store place name)) (quiet (method_of store place name)))
  quietly (read_base place go) quiet = touched (accessed (reads (base_at place))) _ _ (λ at k s ts. refl) (quietly (go (base_of store place)) (quiet (base_of store place)))
  quietly (kind_of o go) quiet = quietly (go (slice_get store.kinds o)) (quiet (slice_get store.kinds o))
  quietly (name_of place go) quiet = quietly (go (store.names place)) (quiet (store.names place))
  quietly (was_opened path go) quiet = quietly (go (has_path path store.opened)) (quiet (has_path path store.opened))
  quietly (ask what go) quiet = absurd quiet
  quietly (fetch path go) quiet = absurd quiet
  quietly (looks n rest) quiet = touched (looked n) _ _ (λ at k s ts. refl) (quietly rest quiet)
  quietly (counts n rest) quiet = touched (counted n) _ _ (λ at k s ts. refl) (quietly rest quiet)
  quietly (prints bytes rest) quiet = touched (printed bytes) _ _ (λ at k s ts. refl) (quietly rest quiet)
  quietly (writes all) quiet = quiet_writes store None all
  quietly (makes kind all) quiet = quiet_writes store (Some kind) (all (length store.kinds))
  quietly (raises of items) quiet = record { same = refl; answers = λ is. cc; notes_none = λ at k s. refl }
  quietly (raises_again o) quiet = record { same = refl; answers = λ is. cc; notes_none = λ at k s. refl }
  quietly ends quiet = record { same = refl; answers = λ is. cc; notes_none = λ at k s. refl }
  quietly runs_away quiet = record { same = refl; answers = λ is. cc; notes_none = λ at k s. refl }
