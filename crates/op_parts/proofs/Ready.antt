-- An operation whose askings are answered, over what is held of a run.
use Rattle.std.proofs.Common.{◌≡◌, refl, sym, subst, ◌∙◌, inr, ℕ, suc, ◌<◌, List, map, Option, Some, None, Result, Ok, Err}
use Rattle.std.specs.Result.{IsErr}
use Rattle.std.proofs.lemmas.Bool.{false≢true}
use Rattle.answer_source.specs.Sources.{Fits as FitsSource, Stands as StandsSource}
use Rattle.object_store.specs.Keyed.{IsKeyed}
use Rattle.object_store.specs.Performing.{SuitInTurn}
use Rattle.op_state.specs.Held.{HeldView, StandsHeld, IsFinished, begun}
use Rattle.op_state.proofs.KeptHolds.{begins_so}
use Rattle.op_parts.specs.Asking.{Known, answered_by}
use Rattle.op_parts.specs.Fitting.{found_by, IsFitting, IsStanding}
use Rattle.op_parts.specs.Told.{done_of}
use Rattle.op_parts.proofs.Likewise.{known_in, alike, after_same}
use Rattle.op_parts.proofs.Outcomes.{Grows, noted, told, dear_told}
use Rattle.op_parts.proofs.Performed.{Suits, KeepsKeys, source_same, keyed_run}
use Rattle.op_work.specs.Work.{WorkView, IsDear}
use Rattle.prov_base.specs.declared.place.Pos.{Pos}
use Rattle.prov_base.specs.declared.refusal.Memory.{Memory as Want}
use Rattle.py_model.specs.Capture.{Capture, answers_at}
use Rattle.py_model.specs.Doing.{Standing, standing, IsDone, IsTooDear, IsRefused, Performs}
use Rattle.py_model.specs.Effect.{Answers, Effect, unanswered, effect, accesses_in, after}
use Rattle.py_model.specs.Operations.{plan}
use Rattle.py_model.specs.Plan.{Plan}
use Rattle.py_model.specs.Running.{Asking, State, note, askings_at}
use Rattle.py_model.specs.Store.{RunStore}
use Rattle.py_model.specs.Told.{op_seen}
use Rattle.py_model.specs.declared.doer.Deed.{Deed}
use Rattle.py_model.specs.declared.doer.Done.{Done}
use Rattle.py_model.specs.declared.moment.Op.{Op}
use Rattle.py_value.specs.Contents.{contents}
use Rattle.py_value.specs.Values.{ValuesView}
use Rattle.py_value.specs.declared.value.Value.{Value}

module _ (at : Pos) (op : Op) (values : List Value) (table : ValuesView) (capture : Capture) (s : State) where
  abbrev pub k : ℕ
  k = suc (askings_at at s.askings)

  abbrev pub own_plan : Plan
  own_plan = plan (op_seen table op) (map (contents table) values)

  abbrev pub answers : Answers
  answers = answers_at capture at k

  abbrev pub known : Known
  known = known_in s.store answers

  abbrev pub own_effect : Effect
  own_effect = effect s.store answers own_plan

  abbrev pub answered_effect : Effect
  answered_effect = effect s.store answers (answered_by known own_plan)

-- what is noted of it, for which the source stands, and that it lacks nothing
pub record Ready (source : StandsSource) (at : Pos) (op : Op) (values : List Value) (table : ValuesView) (capture : Capture) (s : State) : Type 0 where
  pub askings : List Asking
  pub fetches : List (List ℕ)
  pub notes : note at (k at op values table capture s) (own_effect at op values table capture s).touches s ≡ noted askings fetches s
  pub stands : source askings fetches
  pub complete : (own_effect at op values table capture s).outcome ≡ unanswered → ⊥

-- it came to its end in this run, or is out of budget there, or memory ran out
abbrev pub Came : HeldView → Pos → Op → List Value → ValuesView → Capture → State → ℕ → WorkView → Result (Option Deed) Want → Type 0
Came new at op values table capture s left began (Ok (Some deed)) = SuitInTurn s.store.at (accesses_in (answered_effect at op values table capture s).touches)
    → IsKeyed (after (answered_effect at op values table capture s) s.store).at → IsFinished (found_by capture) table s.store (answered_effect at op values table capture s) deed left new
Came new at op values table capture s left began (Ok None) = IsDear began (λ answers. effect s.store answers (answered_by (known at op values table capture s) (own_plan at op values table capture s)))
    × StandsHeld (found_by capture) table new s.store
Came new at op values table capture s left began (Err want) = StandsHeld (found_by capture) table new s.store

module _ (source : StandsSource) (new : HeldView) (entered : ℕ) (at : Pos) (op : Op) (values : List Value) (table : ValuesView) (capture : Capture) (s : State) where
  abbrev pub later : Standing → Type 0
  later t = IsStanding source new entered table capture t

  abbrev e : Effect
  e = own_effect at op values table capture s

  abbrev f : Effect
  f = answered_effect at op values table capture s

  abbrev here : Answers
  here = answers at op values table capture s

  abbrev p : Plan
  p = own_plan at op values table capture s

  module _ (left : ℕ) (some_left : 0 < s.left) (left_is : s.left ≡ left) (entered_is : s.entered ≡ entered) (ready : Ready source at op values table capture s) where
    pub ready_done : Suits → KeepsKeys → IsKeyed s.store.at → (deed : Deed) (began : WorkView) → Came new at op values table capture s left began (Ok (Some deed))
        → IsDone at op values deed later table capture s
    ready_done suits keeps keyed deed began came =
        let like = alike s.store here p in
        let finished = came (subst (λ accesses. SuitInTurn s.store.at accesses) like.accesses_are (suits s.store here (op_seen table op) (map (contents table) values) keyed))
        (subst (λ (run : RunStore). IsKeyed run.at) (after_same e f like s.store) (keeps s.store here (op_seen table op) (map (contents table) values) keyed)) in
        told capture at op values table s ready.askings ready.fetches some_left ready.notes f like (found_by capture) deed left new later left_is finished
        (λ held_then t store_is entered_so asked_is fetched_is. record {
          stands = subst (λ store. StandsHeld (found_by capture) table new store) (sym store_is) held_then;
          entered_is = entered_so ∙ entered_is;
          asked = source_same source t.askings ready.askings t.fetches ready.fetches asked_is fetched_is ready.stands;
        })

    pub ready_dear : Grows → (w : WorkView) → Came new at op values table capture s left (begun left w) (Ok None) → IsTooDear at op values later table capture s
    ready_dear grows w came =
        let like = alike s.store here p in
        record {
          next = noted ready.askings ready.fetches s;
          happened = dear_told capture at op values table s ready.askings ready.fetches some_left ready.notes f like grows (answered_by (known at op values table capture s) p) here (begun left w) refl
              (λ is. ready.complete (like.outcome_is ∙ is)) (begins_so left w) (sym left_is) came.0;
          stands = record { stands = came.1; entered_is = entered_is; asked = ready.stands };
        }

  pub ready_err : s.entered ≡ entered → Ready source at op values table capture s → StandsHeld (found_by capture) table new s.store
      → IsRefused capture at (op_seen table op) (map (contents table) values) later s
  ready_err entered_is ready stands = record {
    next = noted ready.askings ready.fetches s;
    asked = inr (sym ready.notes);
    stands = record { stands = stands; entered_is = entered_is; asked = ready.stands };
  }

-- for each state that stood
module _ (fits : FitsSource) (before source : StandsSource) (old new : HeldView) (entered : ℕ) (at : Pos) (op : Op) (values : List Value) (left : ℕ) (some : 0 < left) (w : WorkView) where
  abbrev pub Each : Result (Option Deed) Want → Type 0
  Each result = (table : ValuesView) (capture : Capture) → IsFitting fits new.work.values table capture → (s : State) → IsStanding before old entered table capture (standing s)
      → Ready source at op values table capture s × Came new at op values table capture s left (begun left w) result

  pub performs_ready : Suits → KeepsKeys → Grows → (o : Option Deed) → Each (Ok o)
      → Performs {E = Want} at op values left (λ table capture. IsFitting fits new.work.values table capture) (λ table capture s. IsStanding before old entered table capture s)
      (λ table capture s. IsStanding source new entered table capture s) (Ok (done_of o))
  performs_ready suits keeps grows (Some deed) each = λ table capture fit s stands left_is.
      let both = each table capture fit s stands in
      ready_done source new entered at op values table capture s left (subst (λ n. 0 < n) (sym left_is) some) left_is stands.entered_is both.0 suits keeps
      (keyed_run (found_by capture) table old.work.store s.store stands.stands.holds) deed (begun left w) both.1
  performs_ready suits keeps grows None each = λ table capture fit s stands left_is.
      let both = each table capture fit s stands in
      ready_dear source new entered at op values table capture s left (subst (λ n. 0 < n) (sym left_is) some) left_is stands.entered_is both.0 grows w both.1

  pub performs_want : (want : Want) → Each (Err want) → (result : Result Done Want) → IsErr result
      → Performs at op values left (λ table capture. IsFitting fits new.work.values table capture) (λ table capture s. IsStanding before old entered table capture s)
      (λ table capture s. IsStanding source new entered table capture s) result
  performs_want want each (Ok done) is = absurd (false≢true is)
  performs_want want each (Err other) is = λ table capture fit s stands.
      let both = each table capture fit s stands in
      ready_err source new entered at op values table capture s stands.entered_is both.0 both.1
