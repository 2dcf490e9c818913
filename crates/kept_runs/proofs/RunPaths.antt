-- In every run what is fetched and what is opened for writing has a path that a script may open.
use Rattle.std.proofs.Common.{◌≡◌, ◌⊎◌, inl, inr, ◌<◌, ◌≤◌, ℕ, suc, Bool, true, false, if◌then◌else◌, List, [], ◌∷◌, ◌++◌, nat_le, nat_lt, length, bytes_eq, Option, Some, None, refl, sym, subst, arith, ltb-true, ltb-false}
use Rattle.std.specs.Prelude.{⊤}
use Rattle.std.specs.Cmp.Lexicographic.{bytes_decides}
use Rattle.std.proofs.lemmas.Bool.{false≢true}
use Rattle.prov_base.specs.Path.{is_path}
use Rattle.prov_base.specs.declared.place.Pos.{Pos}
use Rattle.py_tree.specs.Numbering.{IsNumbered}
use Rattle.py_tree.specs.Tree.{ScriptTree}
use Rattle.py_value.specs.Contents.{Contents}
use Rattle.py_value.specs.Seen.{SeenKind}
use Rattle.py_model.specs.Act.{Act, Walked}
use Rattle.py_model.specs.Agreement.{Alike}
use Rattle.py_model.specs.AlikeOperations.{renamed_op}
use Rattle.py_model.specs.Capture.{Capture, answers_at}
use Rattle.py_model.specs.Effect.{Touch, accessed, looked, counted, printed, opened, noted, asked, fetched, Outcome, answered, unanswered, unpaid, Effect, accesses_in, after, after_touch, after_touches, cost, with_made}
use Rattle.py_model.specs.Meaning.{level, meaning, at_start, starting}
use Rattle.py_model.specs.Moment.{leaves, ends}
use Rattle.py_model.specs.Operations.{Op, plan}
use Rattle.py_model.specs.Plan.{Answer}
use Rattle.py_model.specs.Renaming.{Renaming, renamed_list}
use Rattle.py_model.specs.Running.{State, spent, lacking, state_in, Happened, did, too_dear, lacked, askings_at, note, walked, performed, happened, effect_of, operation, outcome, beginning, entering, tell}
use Rattle.py_model.specs.Store.{RunStore, has_path, with_path}
use Rattle.kept_runs.specs.Below.{AllBelow, AnswerBelow, objects_after, scopes_after}
use Rattle.kept_runs.proofs.Flow.{TouchPaths}
use Rattle.kept_runs.proofs.Rules.{suite_k, levels_k, found_known}
use Rattle.kept_runs.proofs.Runs.{runs_more, Holds, ready, Did, did_below, did_over, IsPast, past_more, Happens, operates, begin_holds, close_holds, leave_holds, enter_holds, enter_past, start_holds, is_there}
use Rattle.kept_runs.proofs.Trees.{OpBelow, Names, nm_ret, nm_stop, nm_perform, nm_begin, nm_close, nm_enter, nm_leave, SuiteBelow, suite_below}

-- each of these is a path that a script may open
abbrev pub ArePaths : List (List ℕ) → Type 0
ArePaths [] = ⊤
ArePaths (path ∷ paths) = (is_path path ≡ true) × ArePaths paths

pub one_of : (paths : List (List ℕ)) (one : List ℕ) → ArePaths paths → has_path one paths ≡ true → is_path one ≡ true
one_of [] one all among = absurd (false≢true among)
one_of (path ∷ paths) one all among = by (bytes_eq one path) refl among (one_of paths one all.1)
  where
    by : (b : Bool) → bytes_eq one path ≡ b → (if b then true else has_path one paths) ≡ true → (has_path one paths ≡ true → is_path one ≡ true) → is_path one ≡ true
    by true same among rest = subst (λ (it : List ℕ). is_path it ≡ true) (sym ((bytes_decides one path).0 same)) all.0
    by false other among rest = rest among

-- ---- what is touched, and what is noted of it

pushed : (paths : List (List ℕ)) (path : List ℕ) → ArePaths paths → is_path path ≡ true → ArePaths (paths ++ path ∷ [])
pushed [] path all is = (is, tt)
pushed (first ∷ paths) path all is = (all.0, pushed paths path all.1 is)

with_path_paths : (path : List ℕ) (paths : List (List ℕ)) → ArePaths paths → is_path path ≡ true → ArePaths (with_path path paths)
with_path_paths path paths all is = by (has_path path paths)
  where
    by : (b : Bool) → ArePaths (if b then paths else paths ++ path ∷ [])
    by true = all
    by false = pushed paths path all is

touches_paths : (touches : List Touch) (store : RunStore) → TouchPaths touches → ArePaths store.opened → ArePaths (after_touches touches store).opened
touches_paths [] store are all = all
touches_paths (accessed access ∷ touches) store are all = touches_paths touches (after_touch (accessed access) store) are.1 all
touches_paths (looked n ∷ touches) store are all = touches_paths touches store are.1 all
touches_paths (counted n ∷ touches) store are all = touches_paths touches store are.1 all
touches_paths (printed bytes ∷ touches) store are all = touches_paths touches (after_touch (printed bytes) store) are.1 all
touches_paths (opened path ∷ touches) store are all = touches_paths touches (after_touch (opened path) store) are.1 (with_path_paths path store.opened all are.0)
touches_paths (noted place name ∷ touches) store are all = touches_paths touches (after_touch (noted place name) store) are.1 all
touches_paths (asked what ∷ touches) store are all = touches_paths touches store are.1 all
touches_paths (fetched path ∷ touches) store are all = touches_paths touches store are.1 all

after_paths : (e : Effect) (store : RunStore) → TouchPaths e.touches → ArePaths store.opened → ArePaths (after e store).opened
after_paths e store are all = touches_paths e.touches (with_made e.made store) are (by e.made)
  where
    by : (made : Option SeenKind) → ArePaths (with_made made store).opened
    by None = all
    by (Some kind) = all

abbrev pub HasPaths : State → Type 0
HasPaths s = ArePaths s.fetches × ArePaths s.store.opened

note_paths : (at : Pos) (k : ℕ) (touches : List Touch) (s : State) → TouchPaths touches → HasPaths s → HasPaths (note at k touches s)
note_paths at k [] s are has = has
note_paths at k (asked what ∷ touches) s are has = note_paths at k touches (record s { askings = record { at = at; k = k; what = what } ∷ s.askings }) are.1 has
note_paths at k (fetched path ∷ touches) s are has = note_paths at k touches (record s { fetches = path ∷ s.fetches }) are.1 ((are.0, has.0), has.1)
note_paths at k (accessed access ∷ touches) s are has = note_paths at k touches s are.1 has
note_paths at k (looked n ∷ touches) s are has = note_paths at k touches s are.1 has
note_paths at k (counted n ∷ touches) s are has = note_paths at k touches s are.1 has
note_paths at k (printed bytes ∷ touches) s are has = note_paths at k touches s are.1 has
note_paths at k (opened path ∷ touches) s are has = note_paths at k touches s are.1 has
note_paths at k (noted place name ∷ touches) s are has = note_paths at k touches s are.1 has

-- ---- an operation

abbrev PathsBy : Happened → Type 0
PathsBy (did answer came t) = HasPaths t
PathsBy (too_dear t) = HasPaths t
PathsBy (lacked t) = HasPaths t

happened_paths : (at : Pos) (op : Op) (values : List Contents) (e : Effect) (o : Outcome) (t : State) → TouchPaths e.touches → HasPaths t → PathsBy (happened at op values e o t)
happened_paths at op values e (answered answer) t are has = by (nat_le (cost e) t.left)
  where
    by : (b : Bool) → PathsBy (if b then did answer (walked t.store (accesses_in e.touches)) (performed at op values answer e t) else too_dear t)
    by true = (has.0, after_paths e t.store are has.1)
    by false = has
happened_paths at op values e unanswered t are has = has
happened_paths at op values e unpaid t are has = has

-- ---- a run that passes no count

module _ (count objects scopes : ℕ) (some : 0 < objects) (any : 0 < scopes) (alike : (r : Renaming) (op : Op) (values : List Contents) → Alike r (plan op values) (plan (renamed_op r op) (renamed_list r values))) (capture : Capture) where
  abbrev Held : State → Type 0
  Held s = Holds count objects scopes some any alike capture s.told s.entered s.store

  -- the state has paths, unless a count was passed
  abbrev Unless : State → Type 0
  Unless s = objects_after s.told ≤ objects → scopes_after s.told ≤ scopes → HasPaths s

  operation_paths : (at : Pos) (op : Op) (values : List Contents) (s : State) → OpBelow count objects scopes op → AllBelow objects values → Held s → HasPaths s → PathsBy (operation capture at op values s)
  operation_paths at op values s small all held has = by (nat_le 1 s.left)
    where
      e : Effect
      e = effect_of capture at op values s

      are : TouchPaths e.touches
      are = (ready count objects scopes some any alike capture op values (answers_at capture at (suc (askings_at at s.askings))) s.told s.entered s.store small all held).flow.paths

      by : (b : Bool) → PathsBy (if b then (let e = effect_of capture at op values s in happened at op values e e.outcome (note at (suc (askings_at at s.askings)) e.touches s)) else too_dear s)
      by true = happened_paths at op values e e.outcome (note at (suc (askings_at at s.askings)) e.touches s) are (note_paths at (suc (askings_at at s.askings)) e.touches s are has)
      by false = has

  over_one : (told : ℕ) (entered : ℕ) → (objects < told) ⊎ (scopes < entered) → told ≤ objects → entered ≤ scopes → ⊥
  over_one told entered (inl over) few others = omega (arith, over, few)
  over_one told entered (inr over) few others = omega (arith, over, others)

  past_unless : (a : Act) (s : State) → IsPast count objects scopes some any alike capture s.told → Unless (state_in (outcome capture a s))
  past_unless a s past = λ few others.
      absurd (over_one _ _ (runs_more capture (IsPast count objects scopes some any alike capture) (past_more count objects scopes some any alike capture) a s past).1 few others)

  run_paths : {a : Act} → Names count objects scopes a → (s : State) → Held s → HasPaths s → Unless (state_in (outcome capture a s))
  run_paths (nm_ret so) s held has = λ few others. has
  run_paths nm_stop s held has = λ few others. has
  run_paths (nm_perform {at = at} {p = p} {vs = vs} {f = f} small all next) s held has =
      by_happened (operation capture at p vs s) (operates count objects scopes some any alike capture at p vs s small all held) (operation_paths at p vs s small all held has)
      (λ answer came t so there good. run_paths (next answer came so) t there good)
    where
      by_did : (answer : Answer) (came : Walked) (t : State) → Did count objects scopes some any alike capture answer t → (AnswerBelow objects answer → Held t → Unless (state_in (outcome capture (f answer came) t)))
          → Unless (state_in (outcome capture (f answer came) t))
      by_did answer came t (did_below so there) on = on so there
      by_did answer came t (did_over past) on = past_unless (f answer came) t past

      by_happened : (h : Happened) → Happens count objects scopes some any alike capture h → PathsBy h
          → ((answer : Answer) (came : Walked) (t : State) → AnswerBelow objects answer → Held t → HasPaths t → Unless (state_in (outcome capture (f answer came) t)))
          → Unless (state_in (elim h [ did answer came t ↦ outcome capture (f answer came) t | too_dear t ↦ spent t | lacked t ↦ lacking t ]))
      by_happened (did answer came t) there good on = by_did answer came t there (λ so held. on answer came t so held good)
      by_happened (too_dear t) there good on = λ few others. good
      by_happened (lacked t) there good on = λ few others. good
  run_paths (nm_begin {n = n} {a = a} small rest) s held has =
      by_left (nat_le 1 s.left) (run_paths rest (beginning n s) (begin_holds count objects scopes some any alike capture n s small held) has)
    where
      by_left : (b : Bool) → Unless (state_in (outcome capture a (beginning n s))) → Unless (state_in (if b then outcome capture a (beginning n s) else spent s))
      by_left true on = on
      by_left false on = λ few others. has
  run_paths (nm_close {n = n} {ending = ending} rest) s held has = run_paths rest (tell (ends n ending) s) (close_holds count objects scopes some any alike capture n ending s held) has
  run_paths (nm_enter {at = at} {def = def} {params = params} {vs = vs} {f = f} all next) s held has =
      by_left (nat_le (suc (length vs)) s.left) (by_room (nat_lt (suc s.entered) scopes) refl (λ there held. run_paths (next (suc s.entered) there) (entering at def params vs s) held has))
    where
      by_room : (room : Bool) → nat_lt (suc s.entered) scopes ≡ room
          → (suc s.entered < scopes → Held (entering at def params vs s) → Unless (state_in (outcome capture (f (suc s.entered)) (entering at def params vs s))))
          → Unless (state_in (outcome capture (f (suc s.entered)) (entering at def params vs s)))
      by_room true room on =
          let there : suc s.entered < scopes = ltb-true (suc s.entered) scopes room in on there (enter_holds count objects scopes some any alike capture at def params vs s there all held)
      by_room false none on =
          past_unless (f (suc s.entered)) (entering at def params vs s) (enter_past count objects scopes some any alike capture at def params vs s (ltb-false (suc s.entered) scopes none) all held)

      by_left : (b : Bool) → Unless (state_in (outcome capture (f (suc s.entered)) (entering at def params vs s)))
          → Unless (state_in (if b then outcome capture (f (suc s.entered)) (entering at def params vs s) else spent s))
      by_left true on = on
      by_left false on = λ few others. has
  run_paths (nm_leave {v = v} small rest) s held has = run_paths rest (tell (leaves v) s) (leave_holds count objects scopes some any alike capture v s small held) has

  script_paths : (script : ScriptTree) (path : List ℕ) (arguments : List (List ℕ)) (steps : ℕ) → SuiteBelow count script.body
      → Unless (state_in (outcome capture (meaning script steps) (starting capture path arguments steps)))
  script_paths script path arguments steps every =
      run_paths (suite_k count objects scopes script (found_known count objects scopes script every) (level script (suc steps))
      (levels_k count objects scopes script (found_known count objects scopes script every) (suc steps)) at_start (tt, (tt, tt)) script.body every)
      (starting capture path arguments steps) (start_holds count objects scopes some any alike capture path arguments steps) (tt, tt)

-- no count is passed, where the counts are those at the end
pub paths_in : (alike : (r : Renaming) (op : Op) (values : List Contents) → Alike r (plan op values) (plan (renamed_op r op) (renamed_list r values))) (script : ScriptTree) (capture : Capture)
    (path : List ℕ) (arguments : List (List ℕ)) (steps : ℕ) → IsNumbered script → HasPaths (state_in (outcome capture (meaning script steps) (starting capture path arguments steps)))
paths_in alike script capture path arguments steps numbered =
    let told = (state_in (outcome capture (meaning script steps) (starting capture path arguments steps))).told in
    script_paths script.count (objects_after told) (scopes_after told) (is_there told) (omega arith) alike capture script path arguments steps
    (subst (SuiteBelow script.count) numbered.in_order (suite_below script.count 0 script.body (omega (arith, numbered.counted)))) (omega arith) (omega arith)
