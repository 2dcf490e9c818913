-- What an operation that happened came to, and when one happens; and the laws of the crates below, in one record.
use Rattle.std.proofs.Common.{◌≡◌, ◌≤◌, ℕ, suc, Bool, true, false, if◌then◌else◌, List, [], ◌∷◌, map, nat_le, refl, sym, ap, ◌∙◌, leb-true, le-leb}
use Rattle.std.specs.Prelude.{◌↔◌}
use Rattle.prov_base.specs.declared.place.Pos.{Pos}
use Rattle.prov_base.specs.contracts.place.PosPartialEq.TheImpl.{ghosts as places}
use Rattle.py_value.specs.Contents.{Contents}
use Rattle.py_value.specs.Same.{same_location}
use Rattle.py_value.specs.Seen.{SeenLocation}
use Rattle.py_model.specs.Act.{Walked}
use Rattle.py_model.specs.Agreement.{Alike, Agrees}
use Rattle.py_model.specs.AlikeOperations.{renamed_op}
use Rattle.py_model.specs.Capture.{Capture}
use Rattle.py_model.specs.Effect.{Touch, accessed, looked, counted, printed, opened, noted, asked, fetched, Answers, Outcome, answered, unanswered, unpaid, Effect, effect, accesses_in, after, after_accesses, weight, cost}
use Rattle.py_model.specs.Operations.{Op, plan}
use Rattle.py_model.specs.Plan.{Answer, Plan}
use Rattle.py_model.specs.Quiet.{may_ask, IsQuiet}
use Rattle.py_model.specs.Renaming.{Renaming, renamed_list, renamed_touch, renamed_effect}
use Rattle.py_model.specs.Running.{Asking, State, did, too_dear, askings_at, note, walked, performed, happened, effect_of, operation}
use Rattle.py_model.specs.Store.{RunStore}
use Rattle.py_model.specs.Tidy.{IsTidy}

pub record Laws : Type 0 where
  pub locations : (l m : SeenLocation) → (same_location l m ≡ true) ↔ (l ≡ m)
  pub alike : (r : Renaming) (op : Op) (values : List Contents) → Alike r (plan op values) (plan (renamed_op r op) (renamed_list r values))
  pub agree : (r : Renaming) (store other : RunStore) (answers others : Answers) (op : Op) (values : List Contents)
      → Agrees r store other answers others (plan op values)
      → (effect other others (plan (renamed_op r op) (renamed_list r values)) ≡ renamed_effect r (effect store answers (plan op values)))
      × (weight (effect other others (plan (renamed_op r op) (renamed_list r values))) ≡ weight (effect store answers (plan op values)))
      × (cost (effect other others (plan (renamed_op r op) (renamed_list r values))) ≡ cost (effect store answers (plan op values)))
  pub quiet : (op : Op) (values : List Contents) → may_ask op.no ≡ false → IsQuiet (plan op values)
  pub same : (store : RunStore) (answers others : Answers) (p : Plan) → IsQuiet p → effect store others p ≡ effect store answers p
  pub unnoted : (store : RunStore) (answers : Answers) (p : Plan) (at : Pos) (k : ℕ) (s : State) → IsQuiet p → note at k (effect store answers p).touches s ≡ s
  pub tidy : (op : Op) (values : List Contents) → IsTidy (plan op values)
  pub changes : (e : Effect) (store : RunStore) → (after e store).at ≡ after_accesses (accesses_in e.touches) store.at

module _ (at : Pos) (op : Op) (values : List Contents) where
  -- it was answered and paid for, and this is the state afterwards
  pub record DidSo (e : Effect) (o : Outcome) (s : State) (answer : Answer) (came : Walked) (t : State) : Type 0 where
    pub answers : o ≡ answered answer
    pub pays : cost e ≤ s.left
    pub came_is : came ≡ walked s.store (accesses_in e.touches)
    pub next_is : t ≡ performed at op values answer e s

  happened_so : (e : Effect) (o : Outcome) (s : State) (answer : Answer) (came : Walked) (t : State) → happened at op values e o s ≡ did answer came t → DidSo e o s answer came t
  happened_so e (answered own) s answer came t is = by_cost (nat_le (cost e) s.left) refl is
    where
      by_cost : (b : Bool) → nat_le (cost e) s.left ≡ b
          → (if b then did own (walked s.store (accesses_in e.touches)) (performed at op values own e s) else too_dear s) ≡ did answer came t → DidSo e (answered own) s answer came t
      by_cost true enough is =
          let own_is : own ≡ answer = cc in
          let came_is : walked s.store (accesses_in e.touches) ≡ came = cc in
          let next_is : performed at op values own e s ≡ t = cc in
          record { answers = ap answered own_is; pays = leb-true (cost e) s.left enough; came_is = sym came_is; next_is = sym next_is ∙ ap (λ a. performed at op values a e s) own_is }
      by_cost false enough is = absurd cc
  happened_so e unanswered s answer came t is = absurd cc
  happened_so e unpaid s answer came t is = absurd cc

  pub did_so : (capture : Capture) (s u : State) (answer : Answer) (came : Walked) (t : State)
      → note at (suc (askings_at at s.askings)) (effect_of capture at op values s).touches s ≡ u → operation capture at op values s ≡ did answer came t
      → DidSo (effect_of capture at op values s) (effect_of capture at op values s).outcome u answer came t
  did_so capture s u answer came t noted_is is = by_left (nat_le 1 s.left) is
    where
      by_left : (b : Bool)
          → (if b then (let e = effect_of capture at op values s in happened at op values e e.outcome (note at (suc (askings_at at s.askings)) e.touches s)) else too_dear s) ≡ did answer came t
          → DidSo (effect_of capture at op values s) (effect_of capture at op values s).outcome u answer came t
      by_left true is = happened_so (effect_of capture at op values s) (effect_of capture at op values s).outcome u answer came t
          (ap (happened at op values (effect_of capture at op values s) (effect_of capture at op values s).outcome) (sym noted_is) ∙ is)
      by_left false is = absurd cc

  pub do_so : (capture : Capture) (s u : State) (answer : Answer) → note at (suc (askings_at at s.askings)) (effect_of capture at op values s).touches s ≡ u
      → (effect_of capture at op values s).outcome ≡ answered answer → 1 ≤ s.left → cost (effect_of capture at op values s) ≤ u.left
      → operation capture at op values s
      ≡ did answer (walked u.store (accesses_in (effect_of capture at op values s).touches)) (performed at op values answer (effect_of capture at op values s) u)
  do_so capture s u answer noted_is answers some pays =
      ap (λ b. if b then happened at op values e e.outcome (note at (suc (askings_at at s.askings)) e.touches s) else too_dear s) (le-leb 1 s.left some)
      ∙ (ap (happened at op values e e.outcome) noted_is
      ∙ (ap (λ o. happened at op values e o u) answers
      ∙ ap (λ b. if b then did answer (walked u.store (accesses_in e.touches)) (performed at op values answer e u) else too_dear u) (le-leb (cost e) u.left pays)))
    where
      e : Effect
      e = effect_of capture at op values s

-- what is noted of askings and fetches: nothing else of the state changes
abbrev pub asked_after : Pos → ℕ → List Touch → List Asking → List Asking
asked_after at k [] askings = askings
asked_after at k (asked what ∷ touches) askings = asked_after at k touches (record { at = at; k = k; what = what } ∷ askings)
asked_after at k (other ∷ touches) askings = asked_after at k touches askings

abbrev pub fetched_after : List Touch → List (List ℕ) → List (List ℕ)
fetched_after [] fetches = fetches
fetched_after (fetched path ∷ touches) fetches = fetched_after touches (path ∷ fetches)
fetched_after (other ∷ touches) fetches = fetched_after touches fetches

abbrev pub with_asked : Pos → ℕ → List Touch → State → State
with_asked at k touches s = record s { askings = asked_after at k touches s.askings; fetches = fetched_after touches s.fetches }

pub note_as : (at : Pos) (k : ℕ) (touches : List Touch) (s : State) → note at k touches s ≡ with_asked at k touches s
note_as at k [] s = refl
note_as at k (asked what ∷ touches) s = note_as at k touches (record s { askings = record { at = at; k = k; what = what } ∷ s.askings })
note_as at k (fetched path ∷ touches) s = note_as at k touches (record s { fetches = path ∷ s.fetches })
note_as at k (accessed access ∷ touches) s = note_as at k touches s
note_as at k (looked n ∷ touches) s = note_as at k touches s
note_as at k (counted n ∷ touches) s = note_as at k touches s
note_as at k (printed bytes ∷ touches) s = note_as at k touches s
note_as at k (opened path ∷ touches) s = note_as at k touches s
note_as at k (noted place name ∷ touches) s = note_as at k touches s

-- as many askings at each place, and none at another
pub asked_alike : (r : Renaming) (at place : Pos) (k l : ℕ) (touches : List Touch) (xs ys : List Asking) → askings_at place ys ≡ askings_at place xs
    → askings_at place (asked_after at l (map (renamed_touch r) touches) ys) ≡ askings_at place (asked_after at k touches xs)
asked_alike r at place k l [] xs ys same = same
asked_alike r at place k l (asked what ∷ touches) xs ys same =
    asked_alike r at place k l touches (record { at = at; k = k; what = what } ∷ xs) (record { at = at; k = l; what = what } ∷ ys) (ap (λ n. if places.eq at place then suc n else n) same)
asked_alike r at place k l (fetched path ∷ touches) xs ys same = asked_alike r at place k l touches xs ys same
asked_alike r at place k l (accessed access ∷ touches) xs ys same = asked_alike r at place k l touches xs ys same
asked_alike r at place k l (looked n ∷ touches) xs ys same = asked_alike r at place k l touches xs ys same
asked_alike r at place k l (counted n ∷ touches) xs ys same = asked_alike r at place k l touches xs ys same
asked_alike r at place k l (printed bytes ∷ touches) xs ys same = asked_alike r at place k l touches xs ys same
asked_alike r at place k l (opened path ∷ touches) xs ys same = asked_alike r at place k l touches xs ys same
asked_alike r at place k l (noted one name ∷ touches) xs ys same = asked_alike r at place k l touches xs ys same

pub asked_elsewhere : (at place : Pos) (k : ℕ) (touches : List Touch) (xs : List Asking) → places.eq at place ≡ false
    → askings_at place (asked_after at k touches xs) ≡ askings_at place xs
asked_elsewhere at place k [] xs apart = refl
asked_elsewhere at place k (asked what ∷ touches) xs apart =
    asked_elsewhere at place k touches (record { at = at; k = k; what = what } ∷ xs) apart ∙ ap (λ test. if test then suc (askings_at place xs) else askings_at place xs) apart
asked_elsewhere at place k (fetched path ∷ touches) xs apart = asked_elsewhere at place k touches xs apart
asked_elsewhere at place k (accessed access ∷ touches) xs apart = asked_elsewhere at place k touches xs apart
asked_elsewhere at place k (looked n ∷ touches) xs apart = asked_elsewhere at place k touches xs apart
asked_elsewhere at place k (counted n ∷ touches) xs apart = asked_elsewhere at place k touches xs apart
asked_elsewhere at place k (printed bytes ∷ touches) xs apart = asked_elsewhere at place k touches xs apart
asked_elsewhere at place k (opened path ∷ touches) xs apart = asked_elsewhere at place k touches xs apart
asked_elsewhere at place k (noted one name ∷ touches) xs apart = asked_elsewhere at place k touches xs apart
