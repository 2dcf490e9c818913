-- What a run asks is numbered from 1, and each path that it opens for writing stands once among those opened.
use Rattle.std.proofs.Common.{◌≡◌, ℕ, suc, ◌<◌, Bool, true, false, if◌then◌else◌, List, [], ◌∷◌, ◌++◌, length, Option, Some, None, nat_le, refl, sym, subst, append_assoc, arith}
use Rattle.std.specs.Prelude.{⊤}
use Rattle.std.proofs.lemmas.List.{append-nil}
use Rattle.prov_base.specs.declared.place.Pos.{Pos}
use Rattle.py_value.specs.Contents.{Contents}
use Rattle.py_value.specs.Seen.{SeenKind}
use Rattle.py_model.specs.Act.{Act, Walked, ret, stop, perform, begin, close, enter, leave}
use Rattle.py_model.specs.Capture.{Capture}
use Rattle.py_model.specs.Effect.{Touch, accessed, looked, counted, printed, opened, noted, asked, fetched, Outcome, answered, unanswered, unpaid, Effect, accesses_in, cost, after, after_touch, after_touches, with_made}
use Rattle.py_model.specs.Moment.{ends, leaves}
use Rattle.py_model.specs.Operations.{Op}
use Rattle.py_model.specs.Plan.{Answer}
use Rattle.py_model.specs.Running.{Asking, State, spent, lacking, state_in, Happened, did, too_dear, lacked, askings_at, note, walked, performed, happened, effect_of, operation, outcome, entering, beginning, tell}
use Rattle.py_model.specs.Store.{RunStore, has_path, with_path}
use Rattle.row_words.specs.Fits.{Each}

abbrev pub IsCounted : Asking → Type 0
IsCounted asking = 0 < asking.k

-- no path stands among those before it
abbrev pub OnceAfter : List (List ℕ) → List (List ℕ) → Type 0
OnceAfter before [] = ⊤
OnceAfter before (path ∷ paths) = (has_path path before ≡ false) × OnceAfter (before ++ path ∷ []) paths

once_push : (before paths : List (List ℕ)) (path : List ℕ) → OnceAfter before paths → has_path path (before ++ paths) ≡ false → OnceAfter before (paths ++ path ∷ [])
once_push before [] path once none = (subst (λ (all : List (List ℕ)). has_path path all ≡ false) (append-nil before) none, tt)
once_push before (first ∷ paths) path once none =
    (once.0, once_push (before ++ first ∷ []) paths path once.1 (subst (λ (all : List (List ℕ)). has_path path all ≡ false) (sym (append_assoc before (first ∷ []) paths)) none))

with_once : (path : List ℕ) (paths : List (List ℕ)) → OnceAfter [] paths → OnceAfter [] (with_path path paths)
with_once path paths once = by (has_path path paths) refl
  where
    by : (b : Bool) → has_path path paths ≡ b → OnceAfter [] (if b then paths else paths ++ path ∷ [])
    by true is = once
    by false is = once_push [] paths path once is

touches_once : (touches : List Touch) (store : RunStore) → OnceAfter [] store.opened → OnceAfter [] (after_touches touches store).opened
touches_once [] store once = once
touches_once (accessed access ∷ touches) store once = touches_once touches (after_touch (accessed access) store) once
touches_once (looked n ∷ touches) store once = touches_once touches store once
touches_once (counted n ∷ touches) store once = touches_once touches store once
touches_once (printed bytes ∷ touches) store once = touches_once touches (after_touch (printed bytes) store) once
touches_once (opened path ∷ touches) store once = touches_once touches (after_touch (opened path) store) (with_once path store.opened once)
touches_once (noted place name ∷ touches) store once = touches_once touches (after_touch (noted place name) store) once
touches_once (asked what ∷ touches) store once = touches_once touches store once
touches_once (fetched path ∷ touches) store once = touches_once touches store once

after_once : (e : Effect) (store : RunStore) → OnceAfter [] store.opened → OnceAfter [] (after e store).opened
after_once e store once = touches_once e.touches (with_made e.made store) (by e.made)
  where
    by : (made : Option SeenKind) → OnceAfter [] (with_made made store).opened
    by None = once
    by (Some kind) = once

-- ---- a run keeps both

abbrev pub IsGood : State → Type 0
IsGood s = Each IsCounted s.askings × OnceAfter [] s.store.opened

note_good : (at : Pos) (k : ℕ) → 0 < k → (touches : List Touch) (s : State) → IsGood s → IsGood (note at k touches s)
note_good at k some [] s good = good
note_good at k some (asked what ∷ touches) s good = note_good at k some touches (record s { askings = record { at = at; k = k; what = what } ∷ s.askings }) ((some, good.0), good.1)
note_good at k some (fetched path ∷ touches) s good = note_good at k some touches (record s { fetches = path ∷ s.fetches }) good
note_good at k some (accessed access ∷ touches) s good = note_good at k some touches s good
note_good at k some (looked n ∷ touches) s good = note_good at k some touches s good
note_good at k some (counted n ∷ touches) s good = note_good at k some touches s good
note_good at k some (printed bytes ∷ touches) s good = note_good at k some touches s good
note_good at k some (opened path ∷ touches) s good = note_good at k some touches s good
note_good at k some (noted place name ∷ touches) s good = note_good at k some touches s good

abbrev GoodBy : Happened → Type 0
GoodBy (did answer came t) = IsGood t
GoodBy (too_dear t) = IsGood t
GoodBy (lacked t) = IsGood t

happened_good : (at : Pos) (op : Op) (values : List Contents) (e : Effect) (o : Outcome) (t : State) → IsGood t → GoodBy (happened at op values e o t)
happened_good at op values e (answered answer) t good = by (nat_le (cost e) t.left)
  where
    by : (b : Bool) → GoodBy (if b then did answer (walked t.store (accesses_in e.touches)) (performed at op values answer e t) else too_dear t)
    by true = (good.0, after_once e t.store good.1)
    by false = good
happened_good at op values e unanswered t good = good
happened_good at op values e unpaid t good = good

module _ (capture : Capture) where
  operation_good : (at : Pos) (op : Op) (values : List Contents) (s : State) → IsGood s → GoodBy (operation capture at op values s)
  operation_good at op values s good = by (nat_le 1 s.left)
    where
      by : (b : Bool) → GoodBy (if b then (let e = effect_of capture at op values s in happened at op values e e.outcome (note at (suc (askings_at at s.askings)) e.touches s)) else too_dear s)
      by true =
          let e = effect_of capture at op values s in
          happened_good at op values e e.outcome (note at (suc (askings_at at s.askings)) e.touches s) (note_good at (suc (askings_at at s.askings)) (omega arith) e.touches s good)
      by false = good

  pub run_good : (a : Act) (s : State) → IsGood s → IsGood (state_in (outcome capture a s))
  run_good (ret how) s good = good
  run_good stop s good = good
  run_good (perform at op values next) s good = by (operation capture at op values s) (operation_good at op values s good) (λ answer came t there. run_good (next answer came) t there)
    where
      by : (h : Happened) → GoodBy h → ((answer : Answer) (came : Walked) (t : State) → IsGood t → IsGood (state_in (outcome capture (next answer came) t)))
          → IsGood (state_in (elim h [ did answer came t ↦ outcome capture (next answer came) t | too_dear t ↦ spent t | lacked t ↦ lacking t ]))
      by (did answer came t) there on = on answer came t there
      by (too_dear t) there on = there
      by (lacked t) there on = there
  run_good (begin number rest) s good = by (nat_le 1 s.left) (run_good rest (beginning number s) good)
    where
      by : (b : Bool) → IsGood (state_in (outcome capture rest (beginning number s))) → IsGood (state_in (if b then outcome capture rest (beginning number s) else spent s))
      by true on = on
      by false on = good
  run_good (close number ended rest) s good = run_good rest (tell (ends number ended) s) good
  run_good (enter at def names values next) s good = by (nat_le (suc (length values)) s.left) (run_good (next (suc s.entered)) (entering at def names values s) good)
    where
      by : (b : Bool) → IsGood (state_in (outcome capture (next (suc s.entered)) (entering at def names values s)))
          → IsGood (state_in (if b then outcome capture (next (suc s.entered)) (entering at def names values s) else spent s))
      by true on = on
      by false on = good
  run_good (leave v rest) s good = run_good rest (tell (leaves v) s) good
