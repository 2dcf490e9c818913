-- What a run does from a state on: moments are told one by one.
use Rattle.std.proofs.Common.{◌≡◌, ◌≤◌, ℕ, suc, Bool, true, false, if◌then◌else◌, List, [], ◌∷◌, ◌++◌, length, nat_le, refl, sym, ap, ◌∙◌, arith, append_assoc, length-append}
use Rattle.prov_base.specs.declared.place.Pos.{Pos}
use Rattle.py_value.specs.Contents.{Contents}
use Rattle.py_model.specs.Act.{Act, Walked, ret, stop, perform, begin, close, enter, leave}
use Rattle.py_model.specs.Capture.{Capture}
use Rattle.py_model.specs.Effect.{Touch, accessed, looked, counted, printed, opened, noted, asked, fetched, Outcome, answered, unanswered, unpaid, Effect, accesses_in, after, weight, cost}
use Rattle.py_model.specs.Moment.{Moment, begins, does, enters, leaves, ends, parameters_set}
use Rattle.py_model.specs.Operations.{Op}
use Rattle.py_model.specs.Plan.{Answer}
use Rattle.py_model.specs.Running.{State, spent, lacking, state_in, Happened, did, too_dear, lacked, askings_at, note, walked, performed, happened, effect_of, operation, outcome, entering, beginning, tell}

-- the moments so far are an end of the later list
pub record Onward (s t : State) : Type 0 where
  pub news : List Moment
  pub told_is : t.told ≡ news ++ s.told

note_told : (at : Pos) (k : ℕ) (touches : List Touch) (s : State) → ((note at k touches s).told ≡ s.told) × ((note at k touches s).store ≡ s.store)
note_told at k [] s = (refl, refl)
note_told at k (asked what ∷ touches) s = note_told at k touches (record s { askings = record { at = at; k = k; what = what } ∷ s.askings })
note_told at k (fetched path ∷ touches) s = note_told at k touches (record s { fetches = path ∷ s.fetches })
note_told at k (accessed access ∷ touches) s = note_told at k touches s
note_told at k (looked n ∷ touches) s = note_told at k touches s
note_told at k (counted n ∷ touches) s = note_told at k touches s
note_told at k (printed bytes ∷ touches) s = note_told at k touches s
note_told at k (opened path ∷ touches) s = note_told at k touches s
note_told at k (noted place name ∷ touches) s = note_told at k touches s

-- what came of an operation
pub record Came (at : Pos) (op : Op) (values : List Contents) (e : Effect) (s : State) (answer : Answer) (t : State) : Type 0 where
  pub told_is : t.told ≡ does at op.no values answer e.made (accesses_in e.touches) (weight e) ∷ s.told
  pub store_is : t.store ≡ after e s.store
  pub answers : e.outcome ≡ answered answer

abbrev pub CameBy : Pos → Op → List Contents → Effect → State → Happened → Type 0
CameBy at op values e s (did answer came t) = Came at op values e s answer t
CameBy at op values e s (too_dear t) = (t.told ≡ s.told) × (t.store ≡ s.store)
CameBy at op values e s (lacked t) = (t.told ≡ s.told) × (t.store ≡ s.store)

module _ (capture : Capture) where
  pub came_by : (at : Pos) (op : Op) (values : List Contents) (s : State) → CameBy at op values (effect_of capture at op values s) s (operation capture at op values s)
  came_by at op values s = by_left (nat_le 1 s.left)
    where
      k : ℕ
      k = suc (askings_at at s.askings)

      noted_is : ((note at (suc (askings_at at s.askings)) (effect_of capture at op values s).touches s).told ≡ s.told)
          × ((note at (suc (askings_at at s.askings)) (effect_of capture at op values s).touches s).store ≡ s.store)
      noted_is = note_told at (suc (askings_at at s.askings)) (effect_of capture at op values s).touches s

      by_outcome : (o : Outcome) (u : State) → (effect_of capture at op values s).outcome ≡ o → (u.told ≡ s.told) × (u.store ≡ s.store)
          → CameBy at op values (effect_of capture at op values s) s (happened at op values (effect_of capture at op values s) o u)
      by_outcome (answered answer) u is same = by_cost (nat_le (cost (effect_of capture at op values s)) u.left)
        where
          by_cost : (b : Bool) → CameBy at op values (effect_of capture at op values s) s
              (if b then did answer (walked u.store (accesses_in (effect_of capture at op values s).touches)) (performed at op values answer (effect_of capture at op values s) u) else too_dear u)
          by_cost true = record {
            told_is = ap (λ (told : List Moment). does at op.no values answer (effect_of capture at op values s).made (accesses_in (effect_of capture at op values s).touches) (weight (effect_of capture at op values s)) ∷ told) same.0;
            store_is = ap (after (effect_of capture at op values s)) same.1;
            answers = is;
          }
          by_cost false = same
      by_outcome unanswered u is same = same
      by_outcome unpaid u is same = same

      by_left : (b : Bool) → CameBy at op values (effect_of capture at op values s) s
          (if b then (let e = effect_of capture at op values s in happened at op values e e.outcome (note at (suc (askings_at at s.askings)) e.touches s)) else too_dear s)
      by_left true = by_outcome (effect_of capture at op values s).outcome (note at (suc (askings_at at s.askings)) (effect_of capture at op values s).touches s) refl noted_is
      by_left false = (refl, refl)

  onward_then : {s t u : State} → Onward s t → Onward t u → Onward s u
  onward_then first second = record {
    news = second.news ++ first.news;
    told_is = second.told_is ∙ (ap (λ (told : List Moment). second.news ++ told) first.told_is ∙ sym (append_assoc second.news first.news _));
  }

  onward_told : {s t : State} (moment : Moment) → t.told ≡ moment ∷ s.told → Onward s t
  onward_told moment is = record { news = moment ∷ []; told_is = is }

  onward_same : {s t : State} → t.told ≡ s.told → t.store ≡ s.store → Onward s t
  onward_same told store = record { news = []; told_is = told }

  pub onwards : (a : Act) (s : State) → Onward s (state_in (outcome capture a s))
  onwards (ret how) s = onward_same refl refl
  onwards stop s = onward_same refl refl
  onwards (perform at op values next) s = by_happened (operation capture at op values s) (came_by at op values s) (λ answer came t. onwards (next answer came) t)
    where
      by_happened : (h : Happened) → CameBy at op values (effect_of capture at op values s) s h
          → ((answer : Answer) (came : Walked) (t : State) → Onward t (state_in (outcome capture (next answer came) t)))
          → Onward s (state_in (elim h [ did answer came t ↦ outcome capture (next answer came) t | too_dear t ↦ spent t | lacked t ↦ lacking t ]))
      by_happened (did answer came t) is on =
          onward_then (onward_told _ is.told_is) (on answer came t)
      by_happened (too_dear t) is on = onward_same is.0 is.1
      by_happened (lacked t) is on = onward_same is.0 is.1
  onwards (begin number rest) s = by_left (nat_le 1 s.left) (onwards rest (beginning number s))
    where
      by_left : (b : Bool) → Onward (beginning number s) (state_in (outcome capture rest (beginning number s)))
          → Onward s (state_in (if b then outcome capture rest (beginning number s) else spent s))
      by_left true on = onward_then (onward_told (begins number) refl) on
      by_left false on = onward_same refl refl
  onwards (close number ended rest) s = onward_then (onward_told (ends number ended) refl) (onwards rest (tell (ends number ended) s))
  onwards (enter at def names values next) s = by_left (nat_le (suc (length values)) s.left) (onwards (next (suc s.entered)) (entering at def names values s))
    where
      by_left : (b : Bool) → Onward (entering at def names values s) (state_in (outcome capture (next (suc s.entered)) (entering at def names values s)))
          → Onward s (state_in (if b then outcome capture (next (suc s.entered)) (entering at def names values s) else spent s))
      by_left true on =
          onward_then (onward_told (enters at def values (parameters_set (suc s.entered) names values)) refl) on
      by_left false on = onward_same refl refl
  onwards (leave v rest) s = onward_then (onward_told (leaves v) refl) (onwards rest (tell (leaves v) s))

-- of two ends of one list the shorter is an end of the longer
pub record IsEndOf {A : Type 0} (us vs : List A) : Type 0 where
  pub front : List A
  pub whole_is : vs ≡ front ++ us

pub ends_meet : {A : Type 0} (xs ys us vs : List A) → xs ++ us ≡ ys ++ vs → length us ≤ length vs → IsEndOf us vs
ends_meet [] [] us vs is short = record { front = []; whole_is = sym is }
ends_meet [] (y ∷ ys) us vs is short = absurd (omega (arith, ap length is, length-append (y ∷ ys) vs, short))
ends_meet (x ∷ xs) [] us vs is short = record { front = x ∷ xs; whole_is = sym is }
ends_meet (x ∷ xs) (y ∷ ys) us vs is short = let same : xs ++ us ≡ ys ++ vs = cc in ends_meet xs ys us vs same short

pub same_end : {A : Type 0} (us vs : List A) → IsEndOf us vs → length us ≡ length vs → vs ≡ us
same_end {A} us vs ending long = by_front ending.front ending.whole_is
  where
    by_front : (front : List A) → vs ≡ front ++ us → vs ≡ us
    by_front [] is = is
    by_front (x ∷ front) is = absurd (omega (arith, long, ap length is, length-append (x ∷ front) us))
