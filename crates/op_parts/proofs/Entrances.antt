-- Activations that are entered, and texts that come, over what is held of a run.
use Rattle.std.proofs.Common.{◌≡◌, refl, sym, ap, subst, ◌∙◌, arith, ℕ, suc, ◌+◌, ◌<◌, List, [], ◌∷◌, map, length, slice_get, unwrap_or, Option, Some, None, Result, Ok, Err}
use Rattle.std.specs.Result.{IsErr, IfOk}
use Rattle.std.proofs.lemmas.Bool.{false≢true}
use Rattle.std.proofs.lemmas.Option.{slice_get_within}
use Rattle.answer_source.specs.Sources.{Fits as FitsSource, Stands as StandsSource}
use Rattle.object_store.specs.Keyed.{SeenMap, IsKeyed, ArePlain}
use Rattle.object_store.specs.Performing.{SuitInTurn}
use Rattle.op_state.specs.Holding.{Holds}
use Rattle.op_state.specs.Entering.{set_parameters, parameters_plan}
use Rattle.op_state.specs.Held.{HeldView, StandsHeld, Finishes, begun}
use Rattle.op_parts.specs.Parts.{found_by, IsFitting, IsStanding}
use Rattle.op_parts.proofs.Performed.{began_stands, keyed_run}
use Rattle.prov_base.specs.declared.place.Pos.{Pos}
use Rattle.prov_base.specs.declared.refusal.Memory.{Memory as Want}
use Rattle.py_model.specs.Capture.{Capture}
use Rattle.py_model.specs.Doing.{Fits, Stands, standing, ForEach, IsEntered, Enters, IsWord}
use Rattle.py_model.specs.Effect.{Answers, effect, written, accesses_in, after, after_touches, after_accesses, with_made}
use Rattle.py_model.specs.Moment.{parameters_set}
use Rattle.py_model.specs.Plan.{done}
use Rattle.py_model.specs.Running.{State}
use Rattle.py_model.specs.Store.{RunStore}
use Rattle.py_model.specs.declared.doer.Deed.{Deed}
use Rattle.py_model.specs.declared.doer.Entered.{Entered}
use Rattle.py_value.specs.Contents.{Contents, contents, nothing}
use Rattle.py_value.specs.Seen.{SeenAccess, SeenKind, bytes_of, sets, var_at, var_is}
use Rattle.py_value.specs.Values.{ValuesView}
use Rattle.py_value.specs.declared.value.Value.{Value}

-- the laws that are used
abbrev pub PlainSuits : Type 0
PlainSuits = (at : SeenMap) (plan : List SeenAccess) → ArePlain plan → SuitInTurn at plan

abbrev pub PlainKeeps : Type 0
PlainKeeps = (at : SeenMap) (plan : List SeenAccess) → IsKeyed at → ArePlain plan → IsKeyed (after_accesses plan at)

-- what is touched, and what stands afterwards
module _ (store : RunStore) (made : Option SeenKind) (activation : ℕ) where
  touched : (names : List (List ℕ)) (vs : List Contents) → accesses_in (written store made (set_parameters activation names vs (done nothing))).touches ≡ parameters_set activation names vs
  touched [] [] = refl
  touched [] (v ∷ vs) = refl
  touched (name ∷ names) [] = refl
  touched (name ∷ names) (v ∷ vs) = ap (λ accesses. sets (var_at activation name) (var_is (Some v)) ∷ accesses) (touched names vs)

  nothing_more : (names : List (List ℕ)) (vs : List Contents) → (written store made (set_parameters activation names vs (done nothing))).made ≡ made
  nothing_more [] [] = refl
  nothing_more [] (v ∷ vs) = refl
  nothing_more (name ∷ names) [] = refl
  nothing_more (name ∷ names) (v ∷ vs) = nothing_more names vs

  left_so : (names : List (List ℕ)) (vs : List Contents) (run : RunStore)
      → after_touches (written store made (set_parameters activation names vs (done nothing))).touches run ≡ record run { at = after_accesses (parameters_set activation names vs) run.at }
  left_so [] [] run = refl
  left_so [] (v ∷ vs) run = refl
  left_so (name ∷ names) [] run = refl
  left_so (name ∷ names) (v ∷ vs) run = left_so names vs _

plain : (activation : ℕ) (names : List (List ℕ)) (vs : List Contents) → ArePlain (parameters_set activation names vs)
plain activation [] [] = tt
plain activation [] (v ∷ vs) = tt
plain activation (name ∷ names) [] = tt
plain activation (name ∷ names) (v ∷ vs) = (tt, plain activation names vs)

no_answers : Answers
no_answers = record { given = λ what. None; found = λ path. None }

next_number : (n m k : ℕ) → n ≡ m → k ≡ m + 1 → k ≡ suc n
next_number n m k same next = omega (arith, same, next)

module _ (suits : PlainSuits) (keeps : PlainKeeps) (fits : FitsSource) (source : StandsSource) (old new : HeldView) (entered activation left : ℕ) (next : activation ≡ entered + 1) (def : Pos)
    (names : List (List ℕ)) (values : List Value) (deed : Deed) (finishes : Finishes (parameters_plan activation names values) (record old { work = begun left old.work }) new (Ok (Some deed))) where
  pub is_entered : (table : ValuesView) (capture : Capture) → IsFitting fits new.work.values table capture → (s : State) → IsStanding source old entered table capture (standing s)
      → IsEntered def names values activation deed.accesses (λ t. IsStanding source new activation table capture t) table s
  is_entered table capture fit s stands =
      let vs = map (contents table) values in
      let e = effect s.store no_answers (parameters_plan activation names values table) in
      let set = parameters_set activation names vs in
      let accesses : accesses_in e.touches ≡ set = touched s.store None activation names vs in
      let after_is : after e s.store ≡ record s.store { at = after_accesses set s.store.at } =
      ap (λ made. after_touches e.touches (with_made made s.store)) (nothing_more s.store None activation names vs) ∙ left_so s.store None activation names vs s.store in
      let keyed = keyed_run (found_by capture) table old.work.store s.store stands.stands.holds in
      let finished = finishes (found_by capture) table s.store no_answers fit.extends (began_stands (found_by capture) table old left s.store stands.stands)
      (subst (λ plan. SuitInTurn s.store.at plan) (sym accesses) (suits s.store.at set (plain activation names vs)))
      (subst (λ (run : RunStore). IsKeyed run.at) (sym after_is) (keeps s.store.at set keyed (plain activation names vs))) in
      let number = next_number s.entered entered activation stands.entered_is next in
      record {
        next_is = number;
        accesses_are = sym finished.accesses_are ∙ accesses;
        named = finished.named.1.1;
        stands = λ at. record {
          stands = subst (λ (run : RunStore). StandsHeld (found_by capture) table new run) (after_is ∙ ap (λ n. record s.store { at = after_accesses (parameters_set n names vs) s.store.at }) number) finished.stands;
          entered_is = sym number;
          asked = stands.asked;
        };
      }

-- what stood goes on to do so where only texts came
pub stays_so : (source : StandsSource) (old new : HeldView) (entered : ℕ) → new.work.store ≡ old.work.store → new.opened ≡ old.opened → new.output ≡ old.output
    → (table : ValuesView) (capture : Capture) (s : State) → IsStanding source old entered table capture (standing s) → IsStanding source new entered table capture (standing s)
stays_so source old new entered store_is opened_is output_is table capture s stands = record {
  stands = record {
    holds = subst (λ store. Holds (found_by capture) table store s.store) (sym store_is) stands.stands.holds;
    printed_is = stands.stands.printed_is ∙ sym output_is;
    opened_are = stands.stands.opened_are ∙ ap (map (bytes_of table)) (sym opened_is);
  };
  entered_is = stands.entered_is;
  asked = stands.asked;
}

-- a text that came
pub is_word : (fits : FitsSource) (source : StandsSource) (old new : HeldView) (entered number : ℕ) (text : List ℕ) → slice_get new.work.values.texts number ≡ Some text → new.work.store ≡ old.work.store
    → new.opened ≡ old.opened → new.output ≡ old.output → (table : ValuesView) (capture : Capture) → IsFitting fits new.work.values table capture → (s : State)
    → IsStanding source old entered table capture (standing s) → (number < length table.texts) × ((bytes_of table number ≡ text) × IsStanding source new entered table capture (standing s))
is_word fits source old new entered number text there store_is opened_is output_is table capture fit s stands =
    let known = fit.extends.texts number text there in (
      slice_get_within table.texts number text known,
      (ap (λ o. unwrap_or o []) known, stays_so source old new entered store_is opened_is output_is table capture s stands),
    )

pub word_is : (fits : FitsSource) (source : StandsSource) (old new : HeldView) (entered : ℕ) (text : List ℕ) (result : Result ℕ Want) → IfOk result (λ number. slice_get new.work.values.texts number ≡ Some text)
    → new.work.store ≡ old.work.store → new.opened ≡ old.opened → new.output ≡ old.output
    → IsWord text (λ table capture. IsFitting fits new.work.values table capture) (λ table capture s. IsStanding source old entered table capture s) (λ table capture s. IsStanding source new entered table capture s) result
word_is fits source old new entered text (Ok number) there store_is opened_is output_is = λ table capture fit s stands. is_word fits source old new entered number text there store_is opened_is output_is table capture fit s stands
word_is fits source old new entered text (Err want) there store_is opened_is output_is = λ table capture fit s stands. stays_so source old new entered store_is opened_is output_is table capture s stands

-- after a lack of memory
pub enters_err : (def : Pos) (names : List (List ℕ)) (values : List Value) (left : ℕ) (fits : Fits) (before after : Stands) (result : Result Entered Want) → IsErr result
    → ForEach fits before (λ table capture s. after table capture (standing s)) → Enters def names values left fits before after result
enters_err def names values left fits before after (Ok entered) is on = absurd (false≢true is)
enters_err def names values left fits before after (Err want) is on = on
