-- How a tree of actions runs on a state (this project's profile): budget, store, captured answers, askings and moments.
use Rattle.std.specs.Prelude.{◌≡◌, ◌≤◌, ℕ, suc, ◌-◌, nat_le, Bool, true, false, List, [], ◌∷◌, length, Option, None, if◌then◌else◌}
use Rattle.prov_base.specs.declared.place.Pos.{Pos}
use Rattle.prov_base.specs.contracts.place.PosPartialEq.TheImpl.{ghosts as places}
use Rattle.py_value.specs.Contents.{Contents}
use Rattle.py_value.specs.Seen.{SeenAccess, reads, sets, method_at, entry_at}
use Rattle.py_model.specs.Act.{Act, How, Walked, ret, stop, perform, begin, close, enter, leave}
use Rattle.py_model.specs.Capture.{Capture, answers_at}
use Rattle.py_model.specs.Effect.{Touch, asked, fetched, Outcome, answered, unanswered, unpaid, Effect, effect, accesses_in, weight, cost, after, after_accesses}
use Rattle.py_model.specs.Moment.{Moment, begins, does, enters, leaves, ends, parameters_set}
use Rattle.py_model.specs.Operations.{Op, plan}
use Rattle.py_model.specs.Plan.{Ask, Answer}
use Rattle.py_model.specs.Store.{RunStore, method_of}

-- one asking: its place, its number there, and what was asked
pub record Asking : Type 0 where
  pub at : Pos
  pub k : ℕ
  pub what : Ask

-- The state of a run: the store, the steps that are left, how many activations were entered, and, the latest first, the moments that
-- were performed, what was asked and which paths were fetched.
pub record State : Type 0 where
  pub store : RunStore
  pub left : ℕ
  pub entered : ℕ
  pub told : List Moment
  pub askings : List Asking
  pub fetches : List (List ℕ)

-- How a run came out: it reached its end, its steps did not suffice, or the capture lacked an answer.
pub data Ended : Type 0 where
  over : How → State → Ended
  spent : State → Ended
  lacking : State → Ended

abbrev pub state_in : Ended → State
state_in (over how s) = s
state_in (spent s) = s
state_in (lacking s) = s

-- how many askings there were at a place
abbrev pub askings_at : Pos → List Asking → ℕ
askings_at at [] = 0
askings_at at (asking ∷ askings) = if places.eq asking.at at then suc (askings_at at askings) else askings_at at askings

-- what an operation asked and fetched is noted, also where it then does not happen
abbrev pub note : Pos → ℕ → List Touch → State → State
note at k [] s = s
note at k (asked what ∷ touches) s = note at k touches (record s { askings = record { at = at; k = k; what = what } ∷ s.askings })
note at k (fetched path ∷ touches) s = note at k touches (record s { fetches = path ∷ s.fetches })
note at k (other ∷ touches) s = note at k touches s

-- the method that a method walk found: what stands at the last Method that was read
abbrev pub method_found : RunStore → List SeenAccess → Option Pos → Option Pos
method_found store [] found = found
method_found store (reads (method_at place name) ∷ accesses) found = method_found store accesses (method_of store place name)
method_found store (access ∷ accesses) found = method_found store accesses found

-- an attribute is set: what is made with one is an exception
abbrev pub sets_an_entry : List SeenAccess → Bool
sets_an_entry [] = false
sets_an_entry (sets (entry_at o key) content ∷ accesses) = true
sets_an_entry (access ∷ accesses) = sets_an_entry accesses

abbrev pub walked : RunStore → List SeenAccess → Walked
walked store accesses = record { method = method_found store accesses None; is_exception = sets_an_entry accesses }

-- the state after an operation that happened, and after an activation was entered
abbrev pub performed : Pos → Op → List Contents → Answer → Effect → State → State
performed at op values answer e s = record s {
  store = after e s.store;
  left = s.left - cost e;
  told = does at op.no values answer e.made (accesses_in e.touches) (weight e) ∷ s.told;
}

abbrev pub entering : Pos → Pos → List (List ℕ) → List Contents → State → State
entering at def names values s =
    let sets = parameters_set (suc s.entered) names values in
    record s {
      store = record s.store { at = after_accesses sets s.store.at };
      left = s.left - suc (length values);
      entered = suc s.entered;
      told = enters at def values sets ∷ s.told;
    }

abbrev pub beginning : ℕ → State → State
beginning number s = record s { left = s.left - 1; told = begins number ∷ s.told }

abbrev pub tell : Moment → State → State
tell moment s = record s { told = moment ∷ s.told }

-- what becomes of an operation: it happened, it was out of budget, or an answer was lacking
pub data Happened : Type 0 where
  did : Answer → Walked → State → Happened
  too_dear : State → Happened
  lacked : State → Happened

abbrev pub happened : Pos → Op → List Contents → Effect → Outcome → State → Happened
happened at op values e (answered answer) s =
    if nat_le (cost e) s.left then did answer (walked s.store (accesses_in e.touches)) (performed at op values answer e s) else too_dear s
happened at op values e unanswered s = lacked s
happened at op values e unpaid s = too_dear s

-- an operation with this answer is paid for with so many steps
pub record IsPaid (e : Effect) (o : Outcome) (answer : Answer) (left : ℕ) : Type 0 where
  pub answers : o ≡ answered answer
  pub pays : cost e ≤ left

-- Where no step is left, what costs something does not happen and nothing is asked. Else an operation takes its answers first, and
-- where one is lacking the run ends there. What costs more than is left does not happen either.
module _ (capture : Capture) where
  -- the number of the next asking at a place, and the effect of an operation there
  abbrev pub effect_of : Pos → Op → List Contents → State → Effect
  effect_of at op values s = effect s.store (answers_at capture at (suc (askings_at at s.askings))) (plan op values)

  abbrev pub operation : Pos → Op → List Contents → State → Happened
  operation at op values s =
      if nat_le 1 s.left
      then (let e = effect_of at op values s in happened at op values e e.outcome (note at (suc (askings_at at s.askings)) e.touches s))
      else too_dear s

  abbrev pub outcome : Act → State → Ended
  outcome (ret how) s = over how s
  outcome stop s = spent s
  outcome (perform at op values next) s = elim (operation at op values s) [ did answer came t ↦ outcome (next answer came) t | too_dear t ↦ spent t | lacked t ↦ lacking t ]
  outcome (begin number rest) s = if nat_le 1 s.left then outcome rest (beginning number s) else spent s
  outcome (close number ended rest) s = outcome rest (tell (ends number ended) s)
  outcome (enter at def names values next) s =
      if nat_le (suc (length values)) s.left then outcome (next (suc s.entered)) (entering at def names values s) else spent s
  outcome (leave v rest) s = outcome rest (tell (leaves v) s)
