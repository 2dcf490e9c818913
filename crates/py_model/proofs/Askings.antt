-- What a run asks is in its capture, unless the run ends for want of an answer.
use Rattle.std.proofs.Common.{◌≡◌, ℕ, suc, Bool, true, false, if◌then◌else◌, List, [], ◌∷◌, length, slice_get, unwrap_or, Option, Some, None, refl, ap, nat_le}
use Rattle.std.specs.Bool.{⊤}
use Rattle.prov_base.specs.declared.place.Pos.{Pos}
use Rattle.py_value.specs.Contents.{Contents, tuple, no_parts}
use Rattle.py_value.specs.KeyOf.{normal}
use Rattle.py_value.specs.Seen.{SeenKind, var_at, len_at, item_at, entry_at, order_at, file_at, offset_at, closed_at, method_at, base_at, item_is, reads, sets, updates}
use Rattle.py_model.specs.Act.{Act, Walked, ret, stop, perform, begin, close, enter, leave}
use Rattle.py_model.specs.Capture.{Capture, answers_at}
use Rattle.py_model.specs.Effect.{Touch, accessed, looked, counted, printed, opened, noted, asked, fetched, Outcome, answered, unanswered, unpaid, Effect, Answers, effect, lacking as lacking_effect, written, touching, accesses_in, cost}
use Rattle.py_model.specs.History.{option_is_some, IsKept, KeptUnlessLacking}
use Rattle.py_model.specs.Moment.{ends, leaves}
use Rattle.py_model.specs.Operations.{Op, plan}
use Rattle.py_model.specs.Plan.{Given, Found, Answer, Writes, write, change, move, opens, notes, done, done_at_end, Plan, read_var, read_len, read_item, read_entry, read_order, read_file, read_offset, read_closed, read_method, read_base, kind_of, name_of, was_opened, ask, fetch, looks, counts, prints, writes, makes, raises, raises_again, ends as plan_ends, runs_away}
use Rattle.py_model.specs.Running.{State, spent, lacking, Happened, did, too_dear, lacked, askings_at, note, walked, performed, happened, effect_of, operation, outcome, entering, beginning, tell}
use Rattle.py_model.specs.Store.{RunStore, var_of, len_of, item_of, entry_of, order_of, file_of, offset_of, closed_of, method_of, base_of, has_path}

-- each asking and each fetch among what was touched had its answer
abbrev AllGiven : Answers → List Touch → Type 0
AllGiven answers [] = ⊤
AllGiven answers (asked what ∷ touches) = (option_is_some (answers.given what) ≡ true) × AllGiven answers touches
AllGiven answers (fetched path ∷ touches) = (option_is_some (answers.found path) ≡ true) × AllGiven answers touches
AllGiven answers (other ∷ touches) = AllGiven answers touches

-- unless an answer was lacking
abbrev GivenUnless : Answers → Outcome → List Touch → Type 0
GivenUnless answers unanswered touches = ⊤
GivenUnless answers (answered answer) touches = AllGiven answers touches
GivenUnless answers unpaid touches = AllGiven answers touches

module _ (store : RunStore) (answers : Answers) where
  abbrev Given_by : Effect → Type 0
  Given_by e = GivenUnless answers e.outcome e.touches

  -- what touches no device is given all the same
  add : (touch : Touch) (e : Effect) → (AllGiven answers e.touches → AllGiven answers (touch ∷ e.touches)) → Given_by e → Given_by (touching touch e)
  add touch e more given = by_outcome e.outcome given
    where
      by_outcome : (outcome : Outcome) → GivenUnless answers outcome e.touches → GivenUnless answers outcome (touch ∷ e.touches)
      by_outcome unanswered given = given
      by_outcome (answered answer) given = more given
      by_outcome unpaid given = more given

  writes_given : (made : Option SeenKind) (all : Writes) → Given_by (written store made all)
  writes_given made (write l content rest) = add (accessed (sets l content)) (written store made rest) (λ all. all) (writes_given made rest)
  writes_given made (change l how rest) = add (accessed (updates l how)) (written store made rest) (λ all. all) (writes_given made rest)
  writes_given made (opens path rest) = add (opened path) (written store made rest) (λ all. all) (writes_given made rest)
  writes_given made (notes place name rest) = add (noted place name) (written store made rest) (λ all. all) (writes_given made rest)
  writes_given made (move o from to rest) =
      add (accessed (reads (item_at o from))) (touching (accessed (sets (item_at o to) (item_is (unwrap_or (item_of store o from) (tuple no_parts))))) (written store made rest)) (λ all. all)
      (add (accessed (sets (item_at o to) (item_is (unwrap_or (item_of store o from) (tuple no_parts))))) (written store made rest) (λ all. all) (writes_given made rest))
  writes_given made (done answer) = tt
  writes_given made done_at_end = tt

  pub given : (p : Plan) → Given_by (effect store answers p)
  given (read_var scope name go) = add (accessed (reads (var_at scope name))) (effect store answers (go (var_of store scope name))) (λ all. all) (given (go (var_of store scope name)))
  given (read_len o go) = add (accessed (reads (len_at o))) (effect store answers (go (len_of store o))) (λ all. all) (given (go (len_of store o)))
  given (read_item o i go) = add (accessed (reads (item_at o i))) (effect store answers (go (item_of store o i))) (λ all. all) (given (go (item_of store o i)))
  given (read_entry o key go) = add (accessed (reads (entry_at o (normal key)))) (effect store answers (go (entry_of store o key))) (λ all. all) (given (go (entry_of store o key)))
  given (read_order o go) = add (accessed (reads (order_at o))) (effect store answers (go (order_of store o))) (λ all. all) (given (go (order_of store o)))
  given (read_file path go) = add (accessed (reads (file_at path))) (effect store answers (go (file_of store path))) (λ all. all) (given (go (file_of store path)))
  given (read_offset o go) = add (accessed (reads (offset_at o))) (effect store answers (go (offset_of store o))) (λ all. all) (given (go (offset_of store o)))
  given (read_closed o go) = add (accessed (reads (closed_at o))) (effect store answers (go (closed_of store o))) (λ all. all) (given (go (closed_of store o)))
  given (read_method place name go) = add (accessed (reads (method_at place name))) (effect store answers (go (method_of store place name))) (λ all. all) (given (go (method_of store place name)))
  given (read_base place go) = add (accessed (reads (base_at place))) (effect store answers (go (base_of store place))) (λ all. all) (given (go (base_of store place)))
  given (kind_of o go) = given (go (slice_get store.kinds o))
  given (name_of place go) = given (go (store.names place))
  given (was_opened path go) = given (go (has_path path store.opened))
  given (ask what go) = by_given (answers.given what) refl (λ got. given (go got))
    where
      by_given : (g : Option Given) → answers.given what ≡ g → ((got : Given) → Given_by (effect store answers (go got)))
          → Given_by (touching (asked what) (elim g [ None ↦ lacking_effect store | Some got ↦ effect store answers (go got) ]))
      by_given None is each = tt
      by_given (Some got) is each = add (asked what) (effect store answers (go got)) (λ all. (ap option_is_some is, all)) (each got)
  given (fetch path go) = by_found (answers.found path) refl (λ got. given (go got))
    where
      by_found : (f : Option Found) → answers.found path ≡ f → ((got : Found) → Given_by (effect store answers (go got)))
          → Given_by (touching (fetched path) (elim f [ None ↦ lacking_effect store | Some got ↦ effect store answers (go got) ]))
      by_found None is each = tt
      by_found (Some got) is each = add (fetched path) (effect store answers (go got)) (λ all. (ap option_is_some is, all)) (each got)
  given (looks n rest) = add (looked n) (effect store answers rest) (λ all. all) (given rest)
  given (counts n rest) = add (counted n) (effect store answers rest) (λ all. all) (given rest)
  given (prints bytes rest) = add (printed bytes) (effect store answers rest) (λ all. all) (given rest)
  given (writes all) = writes_given None all
  given (makes kind all) = writes_given (Some kind) (all (length store.kinds))
  given (raises of items) = tt
  given (raises_again o) = tt
  given plan_ends = tt
  given runs_away = tt

module _ (capture : Capture) where
  -- what was touched with an answer is noted as kept
  note_kept : (at : Pos) (k : ℕ) (touches : List Touch) (s : State) → AllGiven (answers_at capture at k) touches → IsKept capture s → IsKept capture (note at k touches s)
  note_kept at k [] s all kept = kept
  note_kept at k (asked what ∷ touches) s all kept =
      note_kept at k touches (record s { askings = record { at = at; k = k; what = what } ∷ s.askings }) all.1 ((all.0, kept.0), kept.1)
  note_kept at k (fetched path ∷ touches) s all kept = note_kept at k touches (record s { fetches = path ∷ s.fetches }) all.1 (kept.0, (all.0, kept.1))
  note_kept at k (accessed access ∷ touches) s all kept = note_kept at k touches s all kept
  note_kept at k (looked n ∷ touches) s all kept = note_kept at k touches s all kept
  note_kept at k (counted n ∷ touches) s all kept = note_kept at k touches s all kept
  note_kept at k (printed bytes ∷ touches) s all kept = note_kept at k touches s all kept
  note_kept at k (opened path ∷ touches) s all kept = note_kept at k touches s all kept
  note_kept at k (noted place name ∷ touches) s all kept = note_kept at k touches s all kept

  abbrev KeptBy : Happened → Type 0
  KeptBy (did answer came t) = IsKept capture t
  KeptBy (too_dear t) = IsKept capture t
  KeptBy (lacked t) = ⊤

  happened_kept : (at : Pos) (k : ℕ) (op : Op) (values : List Contents) (e : Effect) (o : Outcome) (s : State) → GivenUnless (answers_at capture at k) o e.touches → IsKept capture s
      → KeptBy (happened at op values e o (note at k e.touches s))
  happened_kept at k op values e (answered answer) s all kept = by_cost (nat_le (cost e) (note at k e.touches s).left) (note_kept at k e.touches s all kept)
    where
      by_cost : (b : Bool) → IsKept capture (note at k e.touches s)
          → KeptBy (if b then did answer (walked (note at k e.touches s).store (accesses_in e.touches)) (performed at op values answer e (note at k e.touches s)) else too_dear (note at k e.touches s))
      by_cost true there = there
      by_cost false there = there
  happened_kept at k op values e unanswered s all kept = tt
  happened_kept at k op values e unpaid s all kept = note_kept at k e.touches s all kept

  operation_kept : (at : Pos) (op : Op) (values : List Contents) (s : State) → IsKept capture s → KeptBy (operation capture at op values s)
  operation_kept at op values s kept = by_left (nat_le 1 s.left)
    where
      by_left : (b : Bool) → KeptBy (if b then (let e = effect_of capture at op values s in happened at op values e e.outcome (note at (suc (askings_at at s.askings)) e.touches s)) else too_dear s)
      by_left true =
          happened_kept at (suc (askings_at at s.askings)) op values (effect_of capture at op values s) (effect_of capture at op values s).outcome s
          (given s.store (answers_at capture at (suc (askings_at at s.askings))) (plan op values)) kept
      by_left false = kept

  pub asked_is_kept : (a : Act) (s : State) → IsKept capture s → KeptUnlessLacking capture (outcome capture a s)
  asked_is_kept (ret how) s kept = kept
  asked_is_kept stop s kept = kept
  asked_is_kept (perform at op values next) s kept = by_happened (operation capture at op values s) (operation_kept at op values s kept) (λ answer came t there. asked_is_kept (next answer came) t there)
    where
      by_happened : (h : Happened) → KeptBy h → ((answer : Answer) (came : Walked) (t : State) → IsKept capture t → KeptUnlessLacking capture (outcome capture (next answer came) t))
          → KeptUnlessLacking capture (elim h [ did answer came t ↦ outcome capture (next answer came) t | too_dear t ↦ spent t | lacked t ↦ lacking t ])
      by_happened (did answer came t) there on = on answer came t there
      by_happened (too_dear t) there on = there
      by_happened (lacked t) there on = tt
  asked_is_kept (begin number rest) s kept = by_left (nat_le 1 s.left) (asked_is_kept rest (beginning number s) kept)
    where
      by_left : (b : Bool) → KeptUnlessLacking capture (outcome capture rest (beginning number s)) → KeptUnlessLacking capture (if b then outcome capture rest (beginning number s) else spent s)
      by_left true on = on
      by_left false on = kept
  asked_is_kept (close number ended rest) s kept = asked_is_kept rest (tell (ends number ended) s) kept
  asked_is_kept (enter at def names values next) s kept = by_left (nat_le (suc (length values)) s.left) (asked_is_kept (next (suc s.entered)) (entering at def names values s) kept)
    where
      by_left : (b : Bool) → KeptUnlessLacking capture (outcome capture (next (suc s.entered)) (entering at def names values s))
          → KeptUnlessLacking capture (if b then outcome capture (next (suc s.entered)) (entering at def names values s) else spent s)
      by_left true on = on
      by_left false on = kept
  asked_is_kept (leave v rest) s kept = asked_is_kept rest (tell (leaves v) s) kept
