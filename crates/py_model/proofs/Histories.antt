-- A run agrees with its moments, nests as brackets, and asks what its capture has.
use Rattle.std.proofs.Common.{◌≡◌, ℕ, suc, ◌≤◌, ◌<◌, Bool, true, false, if◌then◌else◌, List, [], ◌∷◌, length, Option, Some, None, refl, sym, ap, ◌∙◌, arith, leb-true, nat_le, eq-eqb}
use Rattle.std.specs.Bool.{⊤}
use Rattle.std.specs.Option.{option_and_then}
use Rattle.prov_base.specs.declared.place.Pos.{Pos}
use Rattle.py_value.specs.Contents.{Contents}
use Rattle.py_value.specs.Seen.{SeenKind}
use Rattle.py_model.proofs.Effects.{changes}
use Rattle.py_model.specs.Act.{Act, Walked, ret, stop, perform, begin, close, enter, leave}
use Rattle.py_model.specs.Capture.{Capture}
use Rattle.py_model.specs.Effect.{Touch, accessed, looked, counted, printed, opened, noted, asked, fetched, Outcome, answered, unanswered, unpaid, Effect, accesses_in, weight, cost, after, after_accesses, after_touches, after_touch, with_made}
use Rattle.py_model.specs.Going.{Open, a_statement, an_activation, Goes, unreached, both_ret, both_stop, both_perform, both_begin, both_close, both_enter, both_leave}
use Rattle.py_model.specs.History.{with_kind, AgreesWith, IsAgreed, open_after, opened_by, closed_by, Nests}
use Rattle.py_model.specs.Moment.{Moment, begins, does, enters, leaves, ends, parameters_set}
use Rattle.py_model.specs.Operations.{Op}
use Rattle.py_model.specs.Plan.{Answer}
use Rattle.py_model.specs.Running.{State, Ended, spent, lacking, state_in, Happened, did, too_dear, lacked, askings_at, note, walked, performed, happened, effect_of, operation, outcome, entering, beginning, tell}
use Rattle.py_model.specs.Store.{RunStore}

kinds_stay : (touches : List Touch) (store : RunStore) → (after_touches touches store).kinds ≡ store.kinds
kinds_stay [] store = refl
kinds_stay (accessed access ∷ touches) store = kinds_stay touches (after_touch (accessed access) store)
kinds_stay (looked n ∷ touches) store = kinds_stay touches store
kinds_stay (counted n ∷ touches) store = kinds_stay touches store
kinds_stay (printed bytes ∷ touches) store = kinds_stay touches (after_touch (printed bytes) store)
kinds_stay (opened path ∷ touches) store = kinds_stay touches (after_touch (opened path) store)
kinds_stay (noted place name ∷ touches) store = kinds_stay touches (after_touch (noted place name) store)
kinds_stay (asked what ∷ touches) store = kinds_stay touches store
kinds_stay (fetched path ∷ touches) store = kinds_stay touches store

made_kind : (made : Option SeenKind) (store : RunStore) → (with_made made store).kinds ≡ with_kind made store.kinds
made_kind None store = refl
made_kind (Some kind) store = refl

kinds_grow : (e : Effect) (store : RunStore) → (after e store).kinds ≡ with_kind e.made store.kinds
kinds_grow e store = kinds_stay e.touches (with_made e.made store) ∙ made_kind e.made store

-- what is noted as asked changes nothing else
pub note_keeps : (P : List Moment → ℕ → ℕ → RunStore → Type 0) (at : Pos) (k : ℕ) (touches : List Touch) (s : State) → P s.told s.left s.entered s.store
    → P (note at k touches s).told (note at k touches s).left (note at k touches s).entered (note at k touches s).store
note_keeps P at k [] s holds = holds
note_keeps P at k (asked what ∷ touches) s holds = note_keeps P at k touches (record s { askings = record { at = at; k = k; what = what } ∷ s.askings }) holds
note_keeps P at k (fetched path ∷ touches) s holds = note_keeps P at k touches (record s { fetches = path ∷ s.fetches }) holds
note_keeps P at k (accessed access ∷ touches) s holds = note_keeps P at k touches s holds
note_keeps P at k (looked n ∷ touches) s holds = note_keeps P at k touches s holds
note_keeps P at k (counted n ∷ touches) s holds = note_keeps P at k touches s holds
note_keeps P at k (printed bytes ∷ touches) s holds = note_keeps P at k touches s holds
note_keeps P at k (opened path ∷ touches) s holds = note_keeps P at k touches s holds
note_keeps P at k (noted place name ∷ touches) s holds = note_keeps P at k touches s holds

-- what becomes of an operation, by what holds of the state before it
abbrev pub LeavesBy : (State → Type 0) → (State → Type 0) → Happened → Type 0
LeavesBy Did Not (did answer walked t) = Did t
LeavesBy Did Not (too_dear t) = Not t
LeavesBy Did Not (lacked t) = Not t

module _ (capture : Capture) (Did Not : State → Type 0) (P : List Moment → ℕ → ℕ → RunStore → Type 0) where
  abbrev pub Holds : State → Type 0
  Holds t = P t.told t.left t.entered t.store

  pub operation_leaves : (at : Pos) (op : Op) (values : List Contents) (s : State) → Holds s
      → ((answer : Answer) (e : Effect) (t : State) → cost e ≤ t.left → Holds t → Did (performed at op values answer e t)) → ((t : State) → Holds t → Not t)
      → LeavesBy Did Not (operation capture at op values s)
  operation_leaves at op values s holds does_so does_not = by_left (nat_le 1 s.left)
    where
      by_cost : (answer : Answer) (e : Effect) (t : State) → Holds t → (b : Bool) → nat_le (cost e) t.left ≡ b
          → LeavesBy Did Not (if b then did answer (walked t.store (accesses_in e.touches)) (performed at op values answer e t) else too_dear t)
      by_cost answer e t there true is = does_so answer e t (leb-true (cost e) t.left is) there
      by_cost answer e t there false is = does_not t there

      by_outcome : (e : Effect) (o : Outcome) (t : State) → Holds t → LeavesBy Did Not (happened at op values e o t)
      by_outcome e (answered answer) t there = by_cost answer e t there (nat_le (cost e) t.left) refl
      by_outcome e unanswered t there = does_not t there
      by_outcome e unpaid t there = does_not t there

      by_effect : (e : Effect) → LeavesBy Did Not (happened at op values e e.outcome (note at (suc (askings_at at s.askings)) e.touches s))
      by_effect e = by_outcome e e.outcome _ (note_keeps P at _ e.touches s holds)

      by_left : (b : Bool) → LeavesBy Did Not (if b then (let e = effect_of capture at op values s in happened at op values e e.outcome (note at (suc (askings_at at s.askings)) e.touches s)) else too_dear s)
      by_left true = by_effect (effect_of capture at op values s)
      by_left false = does_not s holds

-- A run agrees with its moments.
module _ (capture : Capture) (opening : RunStore) (budget : ℕ) where
  agreed_after : (at : Pos) (op : Op) (values : List Contents) (answer : Answer) (e : Effect) (s : State) → cost e ≤ s.left → IsAgreed opening budget s
      → IsAgreed opening budget (performed at op values answer e s)
  agreed_after at op values answer e s enough agreed = record {
    paid = omega (arith, enough, agreed.paid);
    map_is = changes e s.store ∙ ap (after_accesses (accesses_in e.touches)) agreed.map_is;
    kinds_are = kinds_grow e s.store ∙ ap (with_kind e.made) agreed.kinds_are;
    entered_is = agreed.entered_is;
  }

  pub agreed : (a : Act) (s : State) → IsAgreed opening budget s → IsAgreed opening budget (state_in (outcome capture a s))
  agreed (ret how) s is = is
  agreed stop s is = is
  agreed (perform at op values next) s is =
      by_happened (operation capture at op values s)
      (operation_leaves capture (IsAgreed opening budget) (IsAgreed opening budget) (AgreesWith opening budget) at op values s is (agreed_after at op values) (λ t there. there))
      (λ answer walked t there. agreed (next answer walked) t there)
    where
      by_happened : (h : Happened) → LeavesBy (IsAgreed opening budget) (IsAgreed opening budget) h
          → ((answer : Answer) (walked : Walked) (t : State) → IsAgreed opening budget t → IsAgreed opening budget (state_in (outcome capture (next answer walked) t)))
          → IsAgreed opening budget (state_in (elim h [ did answer came t ↦ outcome capture (next answer came) t | too_dear t ↦ spent t | lacked t ↦ lacking t ]))
      by_happened (did answer walked t) there on = on answer walked t there
      by_happened (too_dear t) there on = there
      by_happened (lacked t) there on = there
  agreed (begin number rest) s is = by_left (nat_le 1 s.left) refl (agreed rest)
    where
      by_left : (b : Bool) → nat_le 1 s.left ≡ b → ((t : State) → IsAgreed opening budget t → IsAgreed opening budget (state_in (outcome capture rest t)))
          → IsAgreed opening budget (state_in (if b then outcome capture rest (beginning number s) else spent s))
      by_left true enough on = on (beginning number s) (record { paid = omega (arith, leb-true 1 s.left enough, is.paid); map_is = is.map_is; kinds_are = is.kinds_are; entered_is = is.entered_is })
      by_left false enough on = is
  agreed (close number ended rest) s is =
      agreed rest (tell (ends number ended) s) (record { paid = omega (arith, is.paid); map_is = is.map_is; kinds_are = is.kinds_are; entered_is = is.entered_is })
  agreed (enter at def names values next) s is = by_left (nat_le (suc (length values)) s.left) refl (agreed (next (suc s.entered)))
    where
      by_left : (b : Bool) → nat_le (suc (length values)) s.left ≡ b → ((t : State) → IsAgreed opening budget t → IsAgreed opening budget (state_in (outcome capture (next (suc s.entered)) t)))
          → IsAgreed opening budget (state_in (if b then outcome capture (next (suc s.entered)) (entering at def names values s) else spent s))
      by_left true enough on = on (entering at def names values s) (record {
        paid = omega (arith, leb-true (suc (length values)) s.left enough, is.paid);
        map_is = ap (after_accesses (parameters_set (suc s.entered) names values)) is.map_is;
        kinds_are = is.kinds_are;
        entered_is = ap suc is.entered_is;
      })
      by_left false enough on = is
  agreed (leave v rest) s is =
      agreed rest (tell (leaves v) s) (record { paid = omega (arith, is.paid); map_is = is.map_is; kinds_are = is.kinds_are; entered_is = is.entered_is })

-- Trees that are the same for a run have one outcome.
module _ (capture : Capture) where
  pub same_outcome : {k : ℕ} {from onto : List Open} {a b : Act} → Goes k from onto a b → (s : State) → s.left < k → outcome capture a s ≡ outcome capture b s
  same_outcome unreached s few = absurd (omega (arith, few))
  same_outcome both_ret s few = refl
  same_outcome both_stop s few = refl
  same_outcome {k = suc k} {from = from} {onto = onto} (both_perform {at = at} {p = p} {q = q} {values = values} {f = f} {g = g} is next) s few =
      by_happened (operation capture at p values s)
      (operation_leaves capture (λ t. t.left < k) (λ t. ⊤) (λ told left entered store. left ≡ s.left) at p values s refl (λ answer e t enough there. omega (arith, enough, there, few)) (λ t there. tt))
      (λ answer walked t fewer. same_outcome (next answer walked) t fewer)
      ∙ ap (λ op. elim (operation capture at op values s) [ did answer came t ↦ outcome capture (g answer came) t | too_dear t ↦ spent t | lacked t ↦ lacking t ]) (sym is)
    where
      by_happened : (h : Happened) → LeavesBy (λ t. t.left < k) (λ t. ⊤) h
          → ((answer : Answer) (walked : Walked) (t : State) → t.left < k → outcome capture (f answer walked) t ≡ outcome capture (g answer walked) t)
          → ◌≡◌ {A = Ended} (elim h [ did answer came t ↦ outcome capture (f answer came) t | too_dear t ↦ spent t | lacked t ↦ lacking t ])
          (elim h [ did answer came t ↦ outcome capture (g answer came) t | too_dear t ↦ spent t | lacked t ↦ lacking t ])
      by_happened (did answer walked t) fewer on = on answer walked t fewer
      by_happened (too_dear t) fewer on = refl
      by_happened (lacked t) fewer on = refl
  same_outcome {k = suc k} (both_begin {number = number} {a = a} {b = b} rest) s few = by_left (nat_le 1 s.left) refl (same_outcome rest)
    where
      by_left : (enough : Bool) → nat_le 1 s.left ≡ enough → ((t : State) → t.left < k → outcome capture a t ≡ outcome capture b t)
          → (if enough then outcome capture a (beginning number s) else spent s) ≡ (if enough then outcome capture b (beginning number s) else spent s)
      by_left true enough on = on (beginning number s) (omega (arith, leb-true 1 s.left enough, few))
      by_left false enough on = refl
  same_outcome (both_close {number = number} {ended = ended} rest) s few = same_outcome rest (tell (ends number ended) s) few
  same_outcome {k = suc k} (both_enter {at = at} {def = def} {names = names} {values = values} {f = f} {g = g} next) s few =
      by_left (nat_le (suc (length values)) s.left) refl (same_outcome (next (suc s.entered)))
    where
      by_left : (enough : Bool) → nat_le (suc (length values)) s.left ≡ enough → ((t : State) → t.left < k → outcome capture (f (suc s.entered)) t ≡ outcome capture (g (suc s.entered)) t)
          → (if enough then outcome capture (f (suc s.entered)) (entering at def names values s) else spent s)
          ≡ (if enough then outcome capture (g (suc s.entered)) (entering at def names values s) else spent s)
      by_left true enough on = on (entering at def names values s) (omega (arith, leb-true (suc (length values)) s.left enough, few))
      by_left false enough on = refl
  same_outcome (both_leave {v = v} rest) s few = same_outcome rest (tell (leaves v) s) few

  -- What is open at the end is what the tree says; where the run ends before that, its moments nest too.
  own_closed : (number : ℕ) (open_ones : List Open) → closed_by number (a_statement number ∷ open_ones) ≡ Some open_ones
  own_closed number open_ones = ap (λ b. if b then Some open_ones else None) (eq-eqb number number refl)

  pub nests : {k : ℕ} {from onto : List Open} {a b : Act} → Goes k from onto a b → (s : State) → s.left < k → open_after s.told ≡ Some from → Nests onto (outcome capture a s)
  nests unreached s few is = absurd (omega (arith, few))
  nests both_ret s few is = is
  nests both_stop s few is = record { open_ones = _; is_open = is }
  nests {k = suc k} {from = from} {onto = onto} (both_perform {at = at} {p = p} {values = values} {f = f} same next) s few is =
      by_happened (operation capture at p values s)
      (operation_leaves capture (λ t. (t.left < k) × (open_after t.told ≡ Some from)) (λ t. open_after t.told ≡ Some from)
      (λ told left entered store. (left ≡ s.left) × (open_after told ≡ Some from)) at p values s (refl, is)
      (λ answer e t enough there. (omega (arith, enough, there.0, few), ap (option_and_then (opened_by (does at p.no values answer e.made (accesses_in e.touches) (weight e)))) there.1))
      (λ t there. there.1))
      (λ answer walked t fewer opened. nests (next answer walked) t fewer opened)
    where
      by_happened : (h : Happened) → LeavesBy (λ t. (t.left < k) × (open_after t.told ≡ Some from)) (λ t. open_after t.told ≡ Some from) h
          → ((answer : Answer) (walked : Walked) (t : State) → t.left < k → open_after t.told ≡ Some from → Nests onto (outcome capture (f answer walked) t))
          → Nests onto (elim h [ did answer came t ↦ outcome capture (f answer came) t | too_dear t ↦ spent t | lacked t ↦ lacking t ])
      by_happened (did answer walked t) there on = on answer walked t there.0 there.1
      by_happened (too_dear t) there on = record { open_ones = from; is_open = there }
      by_happened (lacked t) there on = record { open_ones = from; is_open = there }
  nests {k = suc k} {from = from} {onto = onto} (both_begin {number = number} {a = a} rest) s few is = by_left (nat_le 1 s.left) refl (nests rest)
    where
      by_left : (enough : Bool) → nat_le 1 s.left ≡ enough → ((t : State) → t.left < k → open_after t.told ≡ Some (a_statement number ∷ from) → Nests onto (outcome capture a t))
          → Nests onto (if enough then outcome capture a (beginning number s) else spent s)
      by_left true enough on = on (beginning number s) (omega (arith, leb-true 1 s.left enough, few)) (ap (option_and_then (opened_by (begins number))) is)
      by_left false enough on = record { open_ones = from; is_open = is }
  nests (both_close {from = from} {number = number} {ended = ended} rest) s few is =
      nests rest (tell (ends number ended) s) few (ap (option_and_then (opened_by (ends number ended))) is ∙ own_closed number from)
  nests {k = suc k} {from = from} {onto = onto} (both_enter {at = at} {def = def} {names = names} {values = values} {f = f} next) s few is =
      by_left (nat_le (suc (length values)) s.left) refl (nests (next (suc s.entered)))
    where
      by_left : (enough : Bool) → nat_le (suc (length values)) s.left ≡ enough → ((t : State) → t.left < k → open_after t.told ≡ Some (an_activation ∷ from) → Nests onto (outcome capture (f (suc s.entered)) t))
          → Nests onto (if enough then outcome capture (f (suc s.entered)) (entering at def names values s) else spent s)
      by_left true enough on = on (entering at def names values s) (omega (arith, leb-true (suc (length values)) s.left enough, few))
          (ap (option_and_then (opened_by (enters at def values (parameters_set (suc s.entered) names values)))) is)
      by_left false enough on = record { open_ones = from; is_open = is }
  nests (both_leave {v = v} rest) s few is = nests rest (tell (leaves v) s) few (ap (option_and_then (opened_by (leaves v))) is)
