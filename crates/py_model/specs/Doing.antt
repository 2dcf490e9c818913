-- What a doer does for a state of a run, by the numbers of its texts and tuples. What these numbers mean, and what the capture has, is said
-- by any table and capture that fit the doer afterwards: so nothing has to be known of them before.
use Rattle.std.specs.Prelude.{◌≡◌, ◌⊎◌, ℕ, suc, ◌<◌, List, ◌∷◌, map, length, Result, Ok, Err}
use Rattle.std.specs.Option.{option_map}
use Rattle.prov_base.specs.declared.place.Pos.{Pos}
use Rattle.py_value.specs.Contents.{Contents, contents}
use Rattle.py_value.specs.Seen.{access_seen, kind_seen, bytes_of}
use Rattle.py_value.specs.Values.{ValuesView, Keeps, AreNamed}
use Rattle.py_value.specs.declared.access.Access.{Access}
use Rattle.py_value.specs.declared.value.Value.{Value}
use Rattle.py_model.specs.declared.doer.Deed.{Deed}
use Rattle.py_model.specs.declared.doer.Done.{Done}
use Rattle.py_model.specs.declared.doer.Done.TheVariants.{Did, TooDear, Unanswered}
use Rattle.py_model.specs.declared.doer.Entered.{Entered}
use Rattle.py_model.specs.declared.doer.Entered.TheVariants.{In, TooDear as EntryTooDear}
use Rattle.py_model.specs.declared.moment.Op.{Op}
use Rattle.py_model.specs.Act.{Walked}
use Rattle.py_model.specs.Capture.{Capture}
use Rattle.py_model.specs.Moment.{does, parameters_set}
use Rattle.py_model.specs.Operations.{Op as SeenOp}
use Rattle.py_model.specs.Running.{Asking, State, did, too_dear, lacked, note, askings_at, effect_of, operation, entering}
use Rattle.py_model.specs.Store.{RunStore}
use Rattle.py_model.specs.Told.{answer_seen, op_seen, IsNamedOp, IsNamedAnswer, IsNamedKind, AreNamedAccesses}

-- what of a state a doer stands for: not the steps that are left, and not the moments
pub record Standing : Type 0 where
  pub store : RunStore
  pub entered : ℕ
  pub askings : List Asking
  pub fetches : List (List ℕ)

abbrev pub standing : State → Standing
standing s = record { store = s.store; entered = s.entered; askings = s.askings; fetches = s.fetches }

abbrev pub Fits : Type 1
Fits = ValuesView → Capture → Type 0

abbrev pub Stands : Type 1
Stands = ValuesView → Capture → Standing → Type 0

-- what fits afterwards fitted before
abbrev pub Knew : Fits → Fits → Type 0
Knew before after = (table : ValuesView) (capture : Capture) → after table capture → before table capture

-- For each state that the doer stood for, by what fits it afterwards, something holds.
abbrev pub ForEach : Fits → Stands → (ValuesView → Capture → State → Type 0) → Type 0
ForEach after before P = (table : ValuesView) (capture : Capture) → after table capture → (s : State) → before table capture (standing s) → P table capture s

-- The operation happened, as it is defined: its answer, what it made, its accesses and its weight are those of the moment that is told, and
-- the doer stands for the state afterwards.
pub record IsDone (at : Pos) (op : Op) (values : List Value) (deed : Deed) (after : Standing → Type 0) (table : ValuesView) (capture : Capture) (s : State) : Type 0 where
  pub next : State
  pub walked : Walked
  pub happened : operation capture at (op_seen table op) (map (contents table) values) s ≡ did (answer_seen table deed.answer) walked next
  pub told_is : next.told ≡ does at op.no (map (contents table) values) (answer_seen table deed.answer) (option_map (kind_seen table) deed.made)
      (map (access_seen table) deed.accesses) deed.weight ∷ s.told
  pub method_is : walked.method ≡ deed.method
  pub named : IsNamedAnswer table deed.answer × (IsNamedKind table deed.made × AreNamedAccesses table deed.accesses)
  pub stands : after (standing next)

-- it does not happen, since it is out of budget or an answer is lacking
pub record IsTooDear (at : Pos) (op : Op) (values : List Value) (after : Standing → Type 0) (table : ValuesView) (capture : Capture) (s : State) : Type 0 where
  pub next : State
  pub happened : operation capture at (op_seen table op) (map (contents table) values) s ≡ too_dear next
  pub stands : after (standing next)

-- it does not happen, since an answer is lacking; what it asked and fetched counts
pub record IsLacking (at : Pos) (op : Op) (values : List Value) (after : Standing → Type 0) (table : ValuesView) (capture : Capture) (s : State) : Type 0 where
  pub next : State
  pub happened : operation capture at (op_seen table op) (map (contents table) values) s ≡ lacked next
  pub stands : after (standing next)

-- the state in which all that an operation asks and fetches was asked and fetched, and nothing else happened
abbrev pub asked_by : Capture → Pos → SeenOp → List Contents → State → State
asked_by capture at what values s = note at (suc (askings_at at s.askings)) (effect_of capture at what values s).touches s

-- After a lack of memory the store is as before. What this operation asks and fetches was asked and fetched, or nothing was.
pub record IsRefused (capture : Capture) (at : Pos) (what : SeenOp) (values : List Contents) (after : Standing → Type 0) (s : State) : Type 0 where
  pub next : State
  pub asked : (next ≡ s) ⊎ (next ≡ asked_by capture at what values s)
  pub stands : after (standing next)

-- some operation asked and fetched what it asks and fetches, and nothing else happened
pub record WasAsked (capture : Capture) (s next : State) : Type 0 where
  pub at : Pos
  pub what : SeenOp
  pub values : List Contents
  pub next_is : next ≡ asked_by capture at what values s

-- the same of a run: what one operation asks and fetches was asked and fetched, or nothing was
pub record IsInterrupted (capture : Capture) (after : Standing → Type 0) (s : State) : Type 0 where
  pub next : State
  pub asked : (next ≡ s) ⊎ WasAsked capture s next
  pub stands : after (standing next)

abbrev pub Performs : {E : Type 0} → Pos → Op → List Value → ℕ → Fits → Stands → Stands → Result Done E → Type 0
Performs at op values left fits before after (Ok (Did deed)) = ForEach fits before (λ table capture s. s.left ≡ left → IsDone at op values deed (after table capture) table capture s)
Performs at op values left fits before after (Ok TooDear) = ForEach fits before (λ table capture s. s.left ≡ left → IsTooDear at op values (after table capture) table capture s)
Performs at op values left fits before after (Ok Unanswered) = ForEach fits before (λ table capture s. s.left ≡ left → IsLacking at op values (after table capture) table capture s)
Performs at op values left fits before after (Err want) =
    ForEach fits before (λ table capture s. IsRefused capture at (op_seen table op) (map (contents table) values) (after table capture) s)

-- The next activation was entered: each parameter is set, in order. It is out of budget exactly where its cost, 1 and 1 for each parameter, is
-- more than is left, and then nothing has changed.
pub record IsEntered (def : Pos) (names : List (List ℕ)) (values : List Value) (activation : ℕ) (accesses : List Access) (after : Standing → Type 0) (table : ValuesView) (s : State) : Type 0 where
  pub next_is : activation ≡ suc s.entered
  pub accesses_are : map (access_seen table) accesses ≡ parameters_set activation names (map (contents table) values)
  pub named : AreNamedAccesses table accesses
  pub stands : (at : Pos) → after (standing (entering at def names (map (contents table) values) s))

abbrev pub Enters : {E : Type 0} → Pos → List (List ℕ) → List Value → ℕ → Fits → Stands → Stands → Result Entered E → Type 0
Enters def names values left fits before after (Ok (In activation accesses)) =
    (length values < left) × ForEach fits before (λ table capture s. IsEntered def names values activation accesses (after table capture) table s)
Enters def names values left fits before after (Ok EntryTooDear) = (left < suc (length values)) × ForEach fits before (λ table capture s. after table capture (standing s))
Enters def names values left fits before after (Err want) = ForEach fits before (λ table capture s. after table capture (standing s))

-- a text has its number in every table that fits, and nothing else has changed
abbrev pub IsWord : {E : Type 0} → List ℕ → Fits → Stands → Stands → Result ℕ E → Type 0
IsWord text fits before after (Ok number) = ForEach fits before (λ table capture s. (number < length table.texts) × ((bytes_of table number ≡ text) × after table capture (standing s)))
IsWord text fits before after (Err want) = ForEach fits before (λ table capture s. after table capture (standing s))

-- What is given to a doer is named in every table that fits it.
abbrev pub AreGiven : Fits → Op → List Value → Type 0
AreGiven fits op values = (table : ValuesView) (capture : Capture) → fits table capture → IsNamedOp table op × AreNamed table values

abbrev pub AreGivenValues : Fits → List Value → Type 0
AreGivenValues fits values = (table : ValuesView) (capture : Capture) → fits table capture → AreNamed table values

-- The texts and tuples of a doer fit it themselves, with each capture that fits and with some capture. Every table that fits has them with
-- their numbers. Two tables that fit stand for the same.
pub record AreItsValues (fits : Fits) (stands : Stands) (values : ValuesView) : Type 0 where
  pub some_fits : (capture : Capture) × fits values capture
  pub own_fit : (table : ValuesView) (capture : Capture) → fits table capture → fits values capture
  pub within : (table : ValuesView) (capture : Capture) → fits table capture → Keeps values.texts table.texts × Keeps values.tuples table.tuples
  pub agree : (one other : ValuesView) (capture : Capture) (s : Standing) → fits one capture → fits other capture → stands one capture s → stands other capture s
