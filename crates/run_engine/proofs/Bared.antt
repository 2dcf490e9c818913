-- A run over devices: what is held at its end tells what the run of the script came to.
use Rattle.std.proofs.Common.{◌≡◌, refl, sym, ap, subst, ◌∙◌, ℕ, suc, ◌-◌, List, [], ◌++◌, append-nil, Option, Result, Ok, Err, IfOk, map, reverse}
use Rattle.answer_source.proofs.Fitting.{own_fits}
use Rattle.answer_source.specs.Live.{IsCaptureOf, asking_seen, capture_of, has_file}
use Rattle.capture.specs.Capture.{CaptureView, is_among}
use Rattle.capture.specs.declared.ended.Ended.{Ended as EndedRun}
use Rattle.capture.specs.declared.ended.RunEnd.{RunEnd as EndTold}
use Rattle.capture.specs.declared.ended.RunEnd.TheVariants.{Finished as FinishedTold, Raised as RaisedTold, Spent as SpentTold}
use Rattle.flow_values.specs.declared.next.FlowNext.{FlowNext}
use Rattle.flow_values.specs.declared.next.FlowNext.TheVariants.{More, Finished, Raised, Spent, Unanswered}
use Rattle.op_state.specs.Holding.{Found}
use Rattle.op_state.specs.Held.{HeldView, StandsHeld}
use Rattle.op_parts.specs.Parts.{IsFitting, IsStanding, found_by}
use Rattle.op_work.specs.Work.{Extends}
use Rattle.prov_base.specs.declared.refusal.Memory.{Memory}
use Rattle.py_model.specs.Act.{How}
use Rattle.py_model.specs.Capture.{Capture, Telling}
use Rattle.py_model.specs.Doing.{Standing, standing, Fits, Stands, Knew}
use Rattle.py_model.specs.Meaning.{meaning, starting, run_of, level, finished, uncaught, end_of}
use Rattle.py_model.specs.Moment.{Moment}
use Rattle.py_model.specs.Running.{State, Ended, over, spent, state_in, outcome, Asking}
use Rattle.py_model.specs.Told.{TellsOn}
use Rattle.py_tree.specs.Tree.{ScriptTree}
use Rattle.py_value.specs.Values.{ValuesView, AreInterned}
use Rattle.run_engine.specs.Bare.{EndsAs, IsEnded, RunsBare, RunsTold, nothing_kept}
use Rattle.run_engine.specs.Over.{IsEndTold, IsTold, IsOverOf}
use Rattle.run_engine.specs.Run.{RunsTo, Runs}

-- what a run asked and fetched is what is kept
abbrev AreAsked : CaptureView → List Asking → List (List ℕ) → Type 0
AreAsked view askings fetches = (map asking_seen view.answers ≡ reverse askings) × ((one : List ℕ) → has_file view one ≡ is_among one fetches)

module _ (script : ScriptTree) (path : List ℕ) (arguments : List (List ℕ)) (steps left : ℕ) (capture : Capture) (held : HeldView) (told : EndedRun) (view : CaptureView) (kept : told.capture ≡ view) where
  abbrev begins : State
  begins = starting capture path arguments steps

  ended_so : (end : FlowNext) (is_told : IsTold held end (steps - left) told) (found : Found) (e : Ended) → outcome capture (meaning script steps) begins ≡ e → (state_in e).left ≡ left
      → StandsHeld found is_told.table held (state_in e).store × AreAsked view (state_in e).askings (state_in e).fetches → EndsAs e told.end → IsEnded script path arguments steps capture told
  ended_so end is_told found e same left_is stands ends_so = record {
    end_is = subst (λ x. EndsAs x told.end) (sym same) ends_so;
    steps_are = ap (λ x. (run_of steps x).steps) same ∙ (ap (λ n. steps - n) left_is ∙ sym is_told.steps_are);
    output_is = ap (λ x. (run_of steps x).output) same ∙ is_told.output_is found (state_in e).store stands.0;
    finals_are = ap (λ x. (run_of steps x).finals) same ∙ is_told.finals_are found (state_in e).store stands.0;
    asked_are = ap (λ x. (run_of steps x).asked) same ∙ (sym stands.1.0 ∙ ap (λ (v : CaptureView). map asking_seen v.answers) (sym kept));
    fetched_are = λ one. ap (λ x. is_among one (state_in x).fetches) same ∙ (sym (stands.1.1 one) ∙ ap (λ v. has_file v one) (sym kept));
  }

  finishes_as : (how : How) (next : State) (end : EndTold) → end_of how ≡ finished → IsEndTold next.store Finished end → EndsAs (over how next) end
  finishes_as how next FinishedTold is so = is
  finishes_as how next (RaisedTold class at text) is so = absurd so
  finishes_as how next SpentTold is so = absurd so

  raises_as : (how : How) (next : State) (o line : ℕ) (end : EndTold) → end_of how ≡ uncaught o line → IsEndTold next.store (Raised o line) end → EndsAs (over how next) end
  raises_as how next o line FinishedTold is so = absurd so
  raises_as how next o line (RaisedTold class at text) is so = (o, (is ∙ ap (uncaught o) (sym so.0), so.1))
  raises_as how next o line SpentTold is so = absurd so

  spends_as : (next : State) (end : EndTold) → IsEndTold next.store Spent end → EndsAs (spent next) end
  spends_as next FinishedTold so = absurd so
  spends_as next (RaisedTold class at text) so = absurd so
  spends_as next SpentTold so = refl

  pub ended : (end : FlowNext) (is_told : IsTold held end (steps - left) told) (stands : Standing → Type 0) (found : Found) → ((st : Standing) → stands st → StandsHeld found is_told.table held st.store × AreAsked view st.askings st.fetches)
      → (was is : Option (List Moment)) → RunsTo {E = Memory} script (level script (suc steps)) (meaning script steps) left stands was is capture begins (Ok end) → IsEnded script path arguments steps capture told
  ended Finished is_told stands found holds was is r = ended_so Finished is_told found (over r.how r.next) r.comes_out r.left_is (holds (standing r.next) r.stands_so)
      (finishes_as r.how r.next told.end r.end_is (is_told.end_is found r.next.store (holds (standing r.next) r.stands_so).0))
  ended (Raised o line) is_told stands found holds was is r = ended_so (Raised o line) is_told found (over r.how r.next) r.comes_out r.left_is (holds (standing r.next) r.stands_so)
      (raises_as r.how r.next o line told.end r.end_is (is_told.end_is found r.next.store (holds (standing r.next) r.stands_so).0))
  ended Spent is_told stands found holds was is r = ended_so Spent is_told found (spent r.next) r.comes_out r.left_is (holds (standing r.next) r.stands_so)
      (spends_as r.next told.end (is_told.end_is found r.next.store (holds (standing r.next) r.stands_so).0))
  ended Unanswered is_told stands found holds was is r = absurd is_told.can_end
  ended More is_told stands found holds was is r = absurd is_told.can_end

-- the watch was told the moments of the run
module _ (script : ScriptTree) (path : List ℕ) (arguments : List (List ℕ)) (steps left : ℕ) (capture : Capture) (was is : Option (List Moment)) where
  abbrev begins_so : State
  begins_so = starting capture path arguments steps

  abbrev TellsAll : Type 0
  TellsAll = TellsOn was is (λ told more. more ≡ (state_in (outcome capture (meaning script steps) begins_so)).told ++ told)

  tells_as : (was is : Option (List Moment)) (news all : List Moment) → all ≡ news → TellsOn was is (λ told more. more ≡ news ++ told) → TellsOn was is (λ told more. more ≡ all ++ told)
  tells_as was is news all same tells = subst (λ ms. TellsOn was is (λ told more. more ≡ ms ++ told)) (sym same) tells

  told_so : (e : Ended) (news : List Moment) → outcome capture (meaning script steps) begins_so ≡ e → (state_in e).told ≡ news ++ [] → TellsOn was is (λ told more. more ≡ news ++ told) → TellsAll
  told_so e news same told_is tells = tells_as was is news (state_in (outcome capture (meaning script steps) begins_so)).told (ap (λ x. (state_in x).told) same ∙ (told_is ∙ append-nil news)) tells

  pub told_whole : (held : HeldView) (told : EndedRun) (end : FlowNext) → IsTold held end (steps - left) told → (stands : Standing → Type 0)
      → RunsTo {E = Memory} script (level script (suc steps)) (meaning script steps) left stands was is capture begins_so (Ok end) → TellsAll
  told_whole held told Finished is_told stands r = told_so (over r.how r.next) r.news r.comes_out r.told_is r.tells
  told_whole held told (Raised o line) is_told stands r = told_so (over r.how r.next) r.news r.comes_out r.told_is r.tells
  told_whole held told Spent is_told stands r = told_so (spent r.next) r.news r.comes_out r.told_is r.tells
  told_whole held told Unanswered is_told stands r = absurd is_told.can_end
  told_whole held told More is_told stands r = absurd is_told.can_end

-- the whole of a run over devices
module _ (script : ScriptTree) (path : List ℕ) (arguments : List (List ℕ)) (steps left : ℕ) (before after : Telling) (view : CaptureView) (was is : Option (List Moment))
    (held_before held : HeldView) (began entered : ℕ) (source_before source : List Asking → List (List ℕ) → Type 0)
    (knew : Knew (λ table capture. IsFitting (IsCaptureOf nothing_kept before) held_before.work.values table capture) (λ table capture. IsFitting (IsCaptureOf view after) held.work.values table capture))
    (starts : (table : ValuesView) (capture : Capture) (steps : ℕ) → IsFitting (IsCaptureOf nothing_kept before) held_before.work.values table capture
    → IsStanding source_before held_before began table capture (standing (starting capture path arguments steps)))
    (fits : IsCaptureOf view after (capture_of view after)) (asks : (askings : List Asking) (fetches : List (List ℕ)) → source askings fetches → AreAsked view askings fetches) where
  fitting : (table : ValuesView) → AreInterned table → Extends held.work.values table → IsFitting (IsCaptureOf view after) held.work.values table (capture_of view after)
  fitting table interned extends = record { interned = interned; extends = extends; fits = fits }

  pub gave : (table : ValuesView) → AreInterned table → Extends held.work.values table → IsCaptureOf nothing_kept before (capture_of view after)
  gave table interned extends = (knew table (capture_of view after) (fitting table interned extends)).fits

  one_told : (end : Result FlowNext Memory) → Runs script steps left (λ table capture. IsFitting (IsCaptureOf view after) held.work.values table capture)
      (λ table capture s. IsStanding source_before held_before began table capture s) (λ table capture s. IsStanding source held entered table capture s) was is end
      → (told : EndedRun) → told.capture ≡ view → IsOverOf held end (steps - left) told
      → IsEnded script path arguments steps (capture_of view after) told × RunsTold script path arguments steps after was is (Ok told)
  one_told (Ok end) runs told kept is_told =
      let fit = fitting is_told.table is_told.interned is_told.extends in
      let earlier = knew is_told.table (capture_of view after) fit in
      let ran_so = runs is_told.table (capture_of view after) fit (starting (capture_of view after) path arguments steps) (starts is_told.table (capture_of view after) steps earlier) refl in (
        ended script path arguments steps left (capture_of view after) held told view kept end is_told (λ st. IsStanding source held entered is_told.table (capture_of view after) st) (found_by (capture_of view after))
            (λ st so. (so.stands, asks st.askings st.fetches so.asked)) was is ran_so,
        subst (λ v. TellsOn was is (λ told more. more ≡ (state_in (outcome (capture_of v after) (meaning script steps) (starting (capture_of v after) path arguments steps))).told ++ told)) (sym kept)
            (told_whole script path arguments steps left (capture_of view after) was is held told end is_told (λ st. IsStanding source held entered is_told.table (capture_of view after) st) ran_so),
      )
  one_told (Err want) runs told kept is_told = absurd is_told

  pub ran : (table : ValuesView) → AreInterned table → Extends held.work.values table → (end : Result FlowNext Memory)
      → Runs script steps left (λ table capture. IsFitting (IsCaptureOf view after) held.work.values table capture)
      (λ table capture s. IsStanding source_before held_before began table capture s) (λ table capture s. IsStanding source held entered table capture s) was is end
      → (r : Result EndedRun Memory) → IfOk r (λ told. told.capture ≡ view) → IfOk r (λ told. IsOverOf held end (steps - left) told)
      → RunsBare script path arguments steps before after r × RunsTold script path arguments steps after was is r
  ran table interned extends end runs (Ok told) kept over_so =
      let whole = one_told end runs told kept over_so in (
        subst (λ v. IsCaptureOf nothing_kept before (capture_of v after) × IsEnded script path arguments steps (capture_of v after) told) (sym kept) (gave table interned extends, whole.0),
        whole.1,
      )
  ran table interned extends end runs (Err want) kept over_so = ((view, gave table interned extends), tt)

-- The same, by the parts of the doer at the start and at the end.
abbrev Fit : CaptureView → Telling → HeldView → Fits
Fit view now held table capture = IsFitting (IsCaptureOf view now) held.work.values table capture

abbrev Stand : (List Asking → List (List ℕ) → Type 0) → HeldView → ℕ → Stands
Stand source held entered table capture s = IsStanding source held entered table capture s

abbrev Start : List ℕ → List (List ℕ) → (List Asking → List (List ℕ) → Type 0) → HeldView → ℕ → Fits → Type 0
Start path arguments source held began fits = (table : ValuesView) (capture : Capture) (steps : ℕ) → fits table capture → IsStanding source held began table capture (standing (starting capture path arguments steps))

pub ran_by : {D : Type 0} (device₀ device device₁ given : D) (tell : D → Telling) (script : ScriptTree) (path : List ℕ) (arguments : List (List ℕ)) (steps left taken : ℕ) (was is : Option (List Moment))
    (held_before held₁ held : HeldView) (began entered : ℕ) (source_before source : List Asking → List (List ℕ) → Type 0) (view₀ view₁ view view₂ : CaptureView)
    → view₀ ≡ nothing_kept → device₀ ≡ device → view₁ ≡ view → device₁ ≡ given → held₁ ≡ held → taken ≡ steps - left
    → Knew (Fit view₀ (tell device₀) held_before) (Fit view₁ (tell device₁) held₁) → Start path arguments source_before held_before began (Fit view₀ (tell device₀) held_before)
    → ((askings : List Asking) (fetches : List (List ℕ)) → source askings fetches → AreAsked view₁ askings fetches) → view ≡ view₂ → IsCaptureOf view₂ (tell given) (capture_of view (tell given))
    → (table : ValuesView) → AreInterned table → Extends held₁.work.values table → (end : Result FlowNext Memory)
    → Runs script steps left (Fit view₁ (tell device₁) held₁) (Stand source_before held_before began) (Stand source held₁ entered) was is end
    → (r : Result EndedRun Memory) → IfOk r (λ told. told.capture ≡ view) → IfOk r (λ told. IsOverOf held end taken told)
    → RunsBare script path arguments steps (tell device) (tell given) r × RunsTold script path arguments steps (tell given) was is r
ran_by device₀ device device₁ given tell script path arguments steps left taken was is held_before held₁ held began entered source_before source view₀ view₁ view view₂ empty same₀ kept same₁ at_end count knew starts asks one fits
    table interned extends end runs r kept_too over_so =
    ran script path arguments steps left (tell device) (tell given) view was is held_before held began entered source_before source
    (subst (λ v. Knew (Fit v (tell device) held_before) (Fit view (tell given) held)) empty
    (subst (λ d. Knew (Fit view₀ (tell d) held_before) (Fit view (tell given) held)) same₀
    (subst (λ v. Knew (Fit view₀ (tell device₀) held_before) (Fit v (tell given) held)) kept
    (subst (λ d. Knew (Fit view₀ (tell device₀) held_before) (Fit view₁ (tell d) held)) same₁
    (subst (λ h. Knew (Fit view₀ (tell device₀) held_before) (Fit view₁ (tell device₁) h)) at_end knew)))))
    (subst (λ v. Start path arguments source_before held_before began (Fit v (tell device) held_before)) empty
    (subst (λ d. Start path arguments source_before held_before began (Fit view₀ (tell d) held_before)) same₀ starts))
    (subst (λ v. IsCaptureOf v (tell given) (capture_of view (tell given))) (sym one) fits)
    (subst (λ v. (askings : List Asking) (fetches : List (List ℕ)) → source askings fetches → AreAsked v askings fetches) kept asks) table interned (subst (λ (h : HeldView). Extends h.work.values table) at_end extends) end
    (subst (λ v. Runs script steps left (Fit v (tell given) held) (Stand source_before held_before began) (Stand source held entered) was is end) kept
    (subst (λ d. Runs script steps left (Fit view₁ (tell d) held) (Stand source_before held_before began) (Stand source held entered) was is end) same₁
    (subst (λ h. Runs script steps left (Fit view₁ (tell device₁) h) (Stand source_before held_before began) (Stand source h entered) was is end) at_end runs)))
    r kept_too (subst (λ n. IfOk r (λ told. IsOverOf held end n told)) count over_so)

-- nothing was done
pub nothing_done : {D : Type 0} (device given : D) (tell : D → Telling) → given ≡ device → (view : CaptureView) × IsCaptureOf nothing_kept (tell device) (capture_of view (tell given))
nothing_done device given tell same = subst (λ d. (view : CaptureView) × IsCaptureOf nothing_kept (tell device) (capture_of view (tell d))) (sym same) (nothing_kept, own_fits nothing_kept (tell device) tt)

pub field : {S T : Type 0} {x y : S} → x ≡ y → (f : S → T) → f x ≡ f y
field is f = ap f is
