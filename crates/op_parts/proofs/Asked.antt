-- Operations that ask a device, over what is held of a run and a source of answers.
use Rattle.std.proofs.Common.{◌≡◌, refl, sym, subst, inl, inr, ◌⊎◌, ℕ, suc, ◌<◌, true, List, map, Option, Some, None, Result, Ok, Err}
use Rattle.std.specs.Result.{IsErr}
use Rattle.std.proofs.lemmas.Bool.{false≢true}
use Rattle.answer_source.specs.Sources.{Fits as FitsSource, Stands as StandsSource, Asks, ask_seen, given_seen, next_asking}
use Rattle.capture.specs.declared.answer.Ask.{Ask as Question}
use Rattle.capture.specs.declared.answer.Given.{Given as GivenThere}
use Rattle.op_devices.specs.Given.{asks, IsGiven, noted_as}
use Rattle.op_state.specs.Held.{HeldView, StandsHeld, Finishes, begun}
use Rattle.op_parts.specs.Asking.{Known, answered_by}
use Rattle.op_parts.specs.Fitting.{found_by, IsFitting, IsStanding}
use Rattle.op_parts.specs.Told.{done_of}
use Rattle.op_parts.proofs.FirstAsks.{AnswersAll, AsksFirst, first_asks, first_noted, lacks_answer, has_answer}
use Rattle.op_parts.proofs.Outcomes.{Grows, noted, lacks}
use Rattle.op_parts.proofs.Performed.{Seen, Suits, KeepsKeys, Unnoted, began_stands}
use Rattle.op_parts.proofs.Ready.{Ready, Came, Each, known, own_plan, answers, own_effect, performs_ready, performs_want}
use Rattle.op_table.specs.Table.{planned}
use Rattle.prov_base.specs.declared.place.Pos.{Pos}
use Rattle.prov_base.specs.declared.refusal.Memory.{Memory as Want}
use Rattle.py_model.specs.Capture.{Capture, given_in}
use Rattle.py_model.specs.Doing.{standing, IsLacking, IsRefused, Performs}
use Rattle.py_model.specs.Quiet.{may_ask}
use Rattle.py_model.specs.Running.{Asking, State, note, askings_at}
use Rattle.py_model.specs.Told.{op_seen}
use Rattle.py_model.specs.declared.doer.Deed.{Deed}
use Rattle.py_model.specs.declared.doer.Done.{Done}
use Rattle.py_model.specs.declared.doer.Done.TheVariants.{Unanswered}
use Rattle.py_model.specs.declared.moment.Op.{Op}
use Rattle.py_value.specs.Contents.{contents}
use Rattle.py_value.specs.Values.{ValuesView}
use Rattle.py_value.specs.declared.value.Value.{Value}

-- the source answered what was asked, where something was
abbrev pub Gives : Pos → Option Question → Option GivenThere → FitsSource → StandsSource → StandsSource → Type 0
Gives at None given fits before source = (askings : List Asking) (fetches : List (List ℕ)) → before askings fetches → source askings fetches
Gives at (Some what) (Some given) fits before source = (capture : Capture) (askings : List Asking) (fetches : List (List ℕ)) → fits capture → before askings fetches
    → (given_in capture.answers (ask_seen what) at (suc (askings_at at askings)) ≡ Some (given_seen given)) × source (next_asking at (ask_seen what) askings) fetches
Gives at (Some what) None fits before source = ⊥

-- what an operation that asks came to, by whatever is known of what it was given
abbrev pub FinishesGiven : Op → List Value → Option GivenThere → HeldView → HeldView → Result (Option Deed) Want → Type 0
FinishesGiven op values given began new result = (k : Known) → IsGiven k (asks op.no values) given → Finishes (λ table. answered_by k (planned op values table)) began new result

module _ (all : AnswersAll) (fits : FitsSource) (before source : StandsSource) (at : Pos) (op : Op) (values : List Value) (table : ValuesView) (capture : Capture) (s : State) where
  abbrev here : ℕ
  here = suc (askings_at at s.askings)

  abbrev IsNoted : Option Question → Type 0
  IsNoted asked = note at here (own_effect at op values table capture s).touches s ≡ noted_as at here asked s

  ready_by : (asked : Option Question) (given : Option GivenThere) → IsNoted asked → AsksFirst s.store asked (own_plan at op values table capture s) → Gives at asked given fits before source → fits capture
      → before s.askings s.fetches → Ready source at op values table capture s × IsGiven (known at op values table capture s) asked given
  ready_by None given notes first gives fit stands = (
    record {
      askings = s.askings;
      fetches = s.fetches;
      notes = notes;
      stands = gives s.askings s.fetches stands;
      complete = all s.store (answers at op values table capture s) (own_plan at op values table capture s) first;
    },
    tt,
  )
  ready_by (Some what) (Some given) notes first gives fit stands =
      let came = gives capture s.askings s.fetches fit stands in (
        record {
          askings = next_asking at (ask_seen what) s.askings;
          fetches = s.fetches;
          notes = notes;
          stands = came.1;
          complete = has_answer s.store (answers at op values table capture s) all (ask_seen what) (own_plan at op values table capture s) (given_seen given) first came.0;
        },
        came.0,
      )
  ready_by (Some what) None notes first gives fit stands = absurd gives

  lacks_by : (what : Question) → IsNoted (Some what) → AsksFirst s.store (Some what) (own_plan at op values table capture s)
      → (given_in capture.answers (ask_seen what) at here ≡ None) × source (next_asking at (ask_seen what) s.askings) s.fetches → (held : HeldView) (entered : ℕ) → StandsHeld (found_by capture) table held s.store → s.entered ≡ entered
      → 0 < s.left → IsLacking at op values (λ t. IsStanding source held entered table capture t) table capture s
  lacks_by what notes first none held entered stands entered_is some_left = record {
    next = noted (next_asking at (ask_seen what) s.askings) s.fetches s;
    happened = lacks capture at op values table s (next_asking at (ask_seen what) s.askings) s.fetches some_left notes
        (lacks_answer s.store (answers at op values table capture s) (ask_seen what) (own_plan at op values table capture s) first none.0);
    stands = record { stands = stands; entered_is = entered_is; asked = none.1 };
  }

-- what it came to in one run
module _ (law : Seen) (fits : FitsSource) (before : StandsSource) (old new : HeldView) (entered : ℕ) (at : Pos) (op : Op) (values : List Value) (left : ℕ) (given : Option GivenThere) where
  came_given : (table : ValuesView) (capture : Capture) → IsFitting fits new.work.values table capture → (s : State) → IsStanding before old entered table capture (standing s)
      → IsGiven (known at op values table capture s) (asks op.no values) given → (result : Result (Option Deed) Want)
      → FinishesGiven op values given (record old { work = begun left old.work }) new result → Came new at op values table capture s left (begun left old.work) result
  came_given table capture fit s stands is_given (Ok (Some deed)) finishes = λ suits keyed.
      finishes (known at op values table capture s) is_given (found_by capture) table s.store (answers at op values table capture s) fit.extends
      (began_stands (found_by capture) table old left s.store stands.stands) suits keyed
  came_given table capture fit s stands is_given (Ok None) finishes =
      let came = finishes (known at op values table capture s) is_given in (
        came.0 table s.store fit.extends (law (found_by capture) table old.work.store s.store stands.stands.holds),
        came.1 (found_by capture) table s.store fit.extends (began_stands (found_by capture) table old left s.store stands.stands),
      )
  came_given table capture fit s stands is_given (Err want) finishes =
      finishes (known at op values table capture s) is_given (found_by capture) table s.store fit.extends (began_stands (found_by capture) table old left s.store stands.stands)

module _ (unnoted : Unnoted) (all : AnswersAll) (fits : FitsSource) (before source : StandsSource) (old new : HeldView) (entered : ℕ) (at : Pos) (op : Op) (values : List Value) (left : ℕ) (some : 0 < left)
    (may : may_ask op.no ≡ true) (apart : op.no ≡ 62 → ⊥) where
  module _ (law : Seen) (given : Option GivenThere) (fits_then : FitsSource) (knew : (capture : Capture) → fits capture → fits_then capture)
      (gives : Gives at (asks op.no values) given fits_then before source) where
    each_given : (result : Result (Option Deed) Want) → FinishesGiven op values given (record old { work = begun left old.work }) new result
        → Each fits before source old new entered at op values left some old.work result
    each_given result finishes table capture fit s stands =
        let ready = ready_by all fits_then before source at op values table capture s (asks op.no values) given
        (first_noted s.store op values table unnoted (answers at op values table capture s) at (suc (askings_at at s.askings)) s may apart) (first_asks s.store op values table may apart) gives
        (knew capture fit.fits) stands.asked in
        (ready.0, came_given law fits before old new entered at op values left given table capture fit s stands ready.1 result finishes)

    pub asked_done : Suits → KeepsKeys → Grows → (o : Option Deed) → FinishesGiven op values given (record old { work = begun left old.work }) new (Ok o)
        → Performs {E = Want} at op values left (λ table capture. IsFitting fits new.work.values table capture) (λ table capture s. IsStanding before old entered table capture s)
        (λ table capture s. IsStanding source new entered table capture s) (Ok (done_of o))
    asked_done suits keeps grows o finishes = performs_ready fits before source old new entered at op values left some old.work suits keeps grows o (each_given (Ok o) finishes)

    pub asked_want : (want : Want) → FinishesGiven op values given (record old { work = begun left old.work }) new (Err want) → (result : Result Done Want) → IsErr result
        → Performs at op values left (λ table capture. IsFitting fits new.work.values table capture) (λ table capture s. IsStanding before old entered table capture s)
        (λ table capture s. IsStanding source new entered table capture s) result
    asked_want want finishes result is = performs_want fits before source old new entered at op values left some old.work want (each_given (Err want) finishes) result is

  -- nothing is kept of what it asks
  pub asked_lacks : (what : Question) → asks op.no values ≡ Some what → Asks {E = Want} what at fits before source (Ok None)
      → Performs {E = Want} at op values left (λ table capture. IsFitting fits old.work.values table capture) (λ table capture s. IsStanding before old entered table capture s)
      (λ table capture s. IsStanding source old entered table capture s) (Ok Unanswered)
  asked_lacks what is lacking = λ table capture fit s stands left_is.
      let here = suc (askings_at at s.askings) in
      lacks_by all fits before source at op values table capture s what
      (subst (λ asked. note at here (own_effect at op values table capture s).touches s ≡ noted_as at here asked s) is
      (first_noted s.store op values table unnoted (answers at op values table capture s) at here s may apart))
      (subst (λ asked. AsksFirst s.store asked (own_plan at op values table capture s)) is (first_asks s.store op values table may apart))
      (lacking capture s.askings s.fetches fit.fits stands.asked) old entered stands.stands stands.entered_is (subst (λ n. 0 < n) (sym left_is) some)

  -- memory ran out as it was asked
  pub asked_memory : (what : Question) → asks op.no values ≡ Some what → (want : Want) → Asks what at fits before source (Err want) → (result : Result Done Want) → IsErr result
      → Performs at op values left (λ table capture. IsFitting fits old.work.values table capture) (λ table capture s. IsStanding before old entered table capture s)
      (λ table capture s. IsStanding source old entered table capture s) result
  asked_memory what same want lost (Ok done) is = absurd (false≢true is)
  asked_memory what same want lost (Err other) is = λ table capture fit s stands. by_lost table capture s stands (lost s.askings s.fetches stands.asked)
    where
      by_lost : (table : ValuesView) (capture : Capture) (s : State) → IsStanding before old entered table capture (standing s)
          → source s.askings s.fetches ⊎ source (next_asking at (ask_seen what) s.askings) s.fetches
          → IsRefused capture at (op_seen table op) (map (contents table) values) (λ t. IsStanding source old entered table capture t) s
      by_lost table capture s stands (inl as_before) = record {
        next = s;
        asked = inl refl;
        stands = record { stands = stands.stands; entered_is = stands.entered_is; asked = as_before };
      }
      by_lost table capture s stands (inr one_more) = record {
        next = noted (next_asking at (ask_seen what) s.askings) s.fetches s;
        asked = inr (sym (subst (λ asked. note at (suc (askings_at at s.askings)) (own_effect at op values table capture s).touches s ≡ noted_as at (suc (askings_at at s.askings)) asked s) same
            (first_noted s.store op values table unnoted (answers at op values table capture s) at (suc (askings_at at s.askings)) s may apart)));
        stands = record { stands = stands.stands; entered_is = stands.entered_is; asked = one_more };
      }
