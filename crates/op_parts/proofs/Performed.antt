-- Operations that ask nothing, over what is held of a run.
use Rattle.std.proofs.Common.{◌≡◌, refl, sym, subst, ◌∙◌, inl, ℕ, suc, ◌<◌, false, List, map, Some, None, Result, Ok, Err}
use Rattle.std.specs.Result.{IsErr}
use Rattle.std.proofs.lemmas.Bool.{false≢true}
use Rattle.answer_source.specs.Sources.{Fits as FitsSource, Stands as StandsSource}
use Rattle.object_store.specs.Keyed.{IsKeyed}
use Rattle.object_store.specs.Performing.{SuitInTurn}
use Rattle.object_store.specs.Seen.{seen_at}
use Rattle.object_store.specs.Store.{StoreView}
use Rattle.op_state.specs.Holding.{Found, Holds}
use Rattle.op_state.proofs.Finding.{keyed_found}
use Rattle.op_state.specs.Held.{HeldView, StandsHeld, Finishes, GoesOn, begun}
use Rattle.op_state.proofs.KeptHolds.{begins_so}
use Rattle.op_parts.specs.Fitting.{found_by, IsFitting, IsStanding}
use Rattle.op_parts.proofs.Likewise.{alike_same}
use Rattle.op_parts.proofs.Outcomes.{Grows, told, dear_told}
use Rattle.op_table.specs.Table.{planned}
use Rattle.op_work.specs.Work.{Extends, IsSeen}
use Rattle.op_work.proofs.Going.{extends_then}
use Rattle.prov_base.specs.declared.place.Pos.{Pos}
use Rattle.prov_base.specs.declared.refusal.Memory.{Memory as Want}
use Rattle.py_model.specs.Capture.{Capture, answers_at}
use Rattle.py_model.specs.Doing.{Fits, Stands, Standing, standing, ForEach, IsDone, IsTooDear, Performs}
use Rattle.py_model.specs.Effect.{Answers, unanswered, effect, accesses_in, after}
use Rattle.py_model.specs.Operations.{Op as SeenOp, plan}
use Rattle.py_model.specs.Plan.{Plan}
use Rattle.py_model.specs.Quiet.{may_ask, IsQuiet}
use Rattle.py_model.specs.Running.{Asking, State, effect_of, note, askings_at}
use Rattle.py_model.specs.Store.{RunStore}
use Rattle.py_model.specs.Told.{op_seen}
use Rattle.py_model.specs.declared.doer.Deed.{Deed}
use Rattle.py_model.specs.declared.doer.Done.{Done}
use Rattle.py_model.specs.declared.moment.Op.{Op}
use Rattle.py_value.specs.Contents.{Contents, contents}
use Rattle.py_value.specs.Values.{ValuesView}
use Rattle.py_value.specs.declared.value.Value.{Value}

-- the laws that are used
abbrev pub Seen : Type 0
Seen = (found : Found) (table : ValuesView) (held : StoreView) (run : RunStore) → Holds found table held run → IsSeen table held run

abbrev pub Suits : Type 0
Suits = (store : RunStore) (answers : Answers) (op : SeenOp) (values : List Contents) → IsKeyed store.at → SuitInTurn store.at (accesses_in (effect store answers (plan op values)).touches)

abbrev pub KeepsKeys : Type 0
KeepsKeys = (store : RunStore) (answers : Answers) (op : SeenOp) (values : List Contents) → IsKeyed store.at → IsKeyed (after (effect store answers (plan op values)) store).at

abbrev pub QuietOps : Type 0
QuietOps = (op : SeenOp) (values : List Contents) → may_ask op.no ≡ false → IsQuiet (plan op values)

abbrev pub Unnoted : Type 0
Unnoted = (store : RunStore) (answers : Answers) (p : Plan) (at : Pos) (k : ℕ) (s : State) → IsQuiet p → note at k (effect store answers p).touches s ≡ s

abbrev pub AnswersAll : Type 0
AnswersAll = (store : RunStore) (answers : Answers) (p : Plan) → IsQuiet p → (effect store answers p).outcome ≡ unanswered → ⊥

-- the source stands for the same
pub source_same : (source : StandsSource) (a b : List Asking) (c d : List (List ℕ)) → a ≡ b → c ≡ d → source b d → source a c
source_same source a b c d one other stands = subst (λ askings. source askings c) (sym one) (subst (source b) (sym other) stands)

-- what fits afterwards fitted before
pub knew_more : (before now : FitsSource) (a b : ValuesView) → ((capture : Capture) → now capture → before capture) → Extends a b → (table : ValuesView) (capture : Capture) → IsFitting now b table capture
    → IsFitting before a table capture
knew_more before now a b knew extends table capture fit = record { interned = fit.interned; extends = extends_then extends fit.extends; fits = knew capture fit.fits }

-- what begins stands for what was held before
pub began_stands : (found : Found) (table : ValuesView) (old : HeldView) (left : ℕ) (run : RunStore) → StandsHeld found table old run → StandsHeld found table (record old { work = begun left old.work }) run
began_stands found table old left run stands = record { holds = stands.holds; printed_is = stands.printed_is; opened_are = stands.opened_are }

pub keyed_run : (found : Found) (table : ValuesView) (held : StoreView) (run : RunStore) → Holds found table held run → IsKeyed run.at
keyed_run found table held run holds = subst IsKeyed (sym holds.at_is) (keyed_found found (seen_at table held) holds.keyed)

pub goes_on_from : (fits : FitsSource) (source : StandsSource) (old new : HeldView) (entered left : ℕ) (table : ValuesView) (capture : Capture) → IsFitting fits new.work.values table capture → (s : State)
    → IsStanding source old entered table capture (standing s) → GoesOn (record old { work = begun left old.work }) new → IsStanding source new entered table capture (standing s)
goes_on_from fits source old new entered left table capture fit s stands on = record {
  stands = on (found_by capture) table s.store fit.extends (began_stands (found_by capture) table old left s.store stands.stands);
  entered_is = stands.entered_is;
  asked = stands.asked;
}

module _ (fits : FitsSource) (source : StandsSource) (old new : HeldView) (entered : ℕ) (at : Pos) (op : Op) (values : List Value) (left : ℕ) (some : 0 < left) (table : ValuesView) (capture : Capture)
    (fit : IsFitting fits new.work.values table capture) (s : State) (stands : IsStanding source old entered table capture (standing s)) (left_is : s.left ≡ left) where
  abbrev pub k : ℕ
  k = suc (askings_at at s.askings)

  abbrev pub seen : SeenOp
  seen = op_seen table op

  abbrev pub vs : List Contents
  vs = map (contents table) values

  abbrev pub later : Standing → Type 0
  later t = IsStanding source new entered table capture t

  some_left : 0 < s.left
  some_left = subst (λ n. 0 < n) (sym left_is) some

  pub quiet_done : QuietOps → Unnoted → Suits → KeepsKeys → may_ask op.no ≡ false → (deed : Deed)
      → Finishes (planned op values) (record old { work = begun left old.work }) new (Ok (Some deed)) → IsDone at op values deed later table capture s
  quiet_done quiet unnoted suits keeps none_asked deed finishes =
      let e = effect_of capture at seen vs s in
      let answers = answers_at capture at k in
      let keyed = keyed_run (found_by capture) table old.work.store s.store stands.stands.holds in
      let finished = finishes (found_by capture) table s.store answers fit.extends (began_stands (found_by capture) table old left s.store stands.stands) (suits s.store answers seen vs keyed)
      (keeps s.store answers seen vs keyed) in
      told capture at op values table s s.askings s.fetches some_left (unnoted s.store answers (plan seen vs) at k s (quiet seen vs none_asked)) e (alike_same e) (found_by capture) deed left new
      later left_is finished (λ held_then t store_is entered_is asked_is fetched_is. record {
        stands = subst (λ store. StandsHeld (found_by capture) table new store) (sym store_is) held_then;
        entered_is = entered_is ∙ stands.entered_is;
        asked = source_same source t.askings s.askings t.fetches s.fetches asked_is fetched_is stands.asked;
      })

  pub quiet_dear : QuietOps → Unnoted → AnswersAll → Grows → Seen → may_ask op.no ≡ false
      → Finishes (planned op values) (record old { work = begun left old.work }) new (Ok None) → IsTooDear at op values later table capture s
  quiet_dear quiet unnoted answers_all grows law none_asked finishes =
      let e = effect_of capture at seen vs s in
      let answers = answers_at capture at k in
      record {
        next = s;
        happened = dear_told capture at op values table s s.askings s.fetches some_left (unnoted s.store answers (plan seen vs) at k s (quiet seen vs none_asked)) e (alike_same e) grows
            (plan seen vs) answers (begun left old.work) refl (answers_all s.store answers (plan seen vs) (quiet seen vs none_asked)) (begins_so left old.work) (sym left_is)
            (finishes.0 table s.store fit.extends (law (found_by capture) table old.work.store s.store stands.stands.holds));
        stands = goes_on_from fits source old new entered left table capture fit s stands finishes.1;
      }

-- after a lack of memory
pub performs_err : (at : Pos) (op : Op) (values : List Value) (left : ℕ) (fits : Fits) (before after : Stands) (result : Result Done Want) → IsErr result
    → ForEach fits before (λ table capture s. after table capture (standing s)) → Performs at op values left fits before after result
performs_err at op values left fits before after (Ok done) is on = absurd (false≢true is)
performs_err at op values left fits before after (Err want) is on = λ table capture fit s stands. record {
  next = s;
  asked = inl refl;
  stands = on table capture fit s stands;
}
