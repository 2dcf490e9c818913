-- A step of an expression, for the run of a script.
use Rattle.std.proofs.Common.{◌≡◌, inl, inr, ℕ, List, [], ◌++◌, map, Option, None, Result, Ok, Err, refl, ap, sym, ◌∙◌, subst}
use Rattle.prov_base.specs.declared.refusal.Memory.{Memory}
use Rattle.py_tree.specs.Erasure.{form_of}
use Rattle.py_tree.specs.Tree.{ScriptTree}
use Rattle.py_value.specs.Contents.{Contents, contents}
use Rattle.py_value.specs.Values.{ValuesView}
use Rattle.py_value.specs.declared.value.Value.{Value}
use Rattle.py_model.specs.Told.{TellsOn}
use Rattle.interp_eval.specs.Seen.{machine_seen}
use Rattle.py_model.specs.Act.{Act, How, Walked, ret, to, perform, normal, threw}
use Rattle.py_model.specs.Capture.{Capture}
use Rattle.py_model.specs.Doing.{Standing, Fits, Stands, Knew}
use Rattle.py_model.specs.Meaning.{level}
use Rattle.py_model.specs.Moment.{Moment}
use Rattle.py_model.specs.Operations.{Op}
use Rattle.py_model.specs.Plan.{Answer}
use Rattle.py_model.specs.Running.{State, Happened, did, too_dear, lacked, operation, outcome, spent, lacking}
use Rattle.py_model.specs.declared.moment.Answer.TheVariants.{Value as ValueAnswer, Raised as RaisedAnswer, End as EndAnswer}
use Rattle.prov_base.specs.declared.place.Pos.{Pos}
use Rattle.interp_eval.specs.declared.frames.Scope.{Scope}
use Rattle.script_names.specs.Scopes.{function_in}
use Rattle.interp_eval.specs.Scopes.{IsAt}
use Rattle.interp_eval.specs.Step.{Went, stayed, went_on, IsOn as IsEvalOn, IsCut as IsEvalCut, Steps as EvalSteps, IsStep as IsEvalStep, remaining as eval_remaining}
use Rattle.interp_eval.specs.declared.frames.EvalFrames.{EvalFrames}
use Rattle.interp_eval.specs.declared.frames.EvalNext.{EvalNext}
use Rattle.interp_eval.specs.declared.frames.EvalNext.TheVariants.{More, Value as TheValue, Call, Raised, Ended, Spent, Unanswered}
use Rattle.flow_frames.specs.Machine.{call_act, resumes, then_act}
use Rattle.flow_frames.specs.Seen.{callee_seen, frame_seen, here_seen, stage_seen}
use Rattle.flow_frames.specs.declared.control.Callee.{Callee}
use Rattle.flow_frames.specs.declared.control.Part.{Part}
use Rattle.flow_frames.specs.declared.frames.FlowFrames.{FlowFrames}
use Rattle.flow_values.specs.declared.next.FlowNext.{FlowNext}
use Rattle.flow_values.specs.declared.next.FlowNext.TheVariants.{More as FlowMore, Finished, Raised as FlowRaised, Spent as FlowSpent, Unanswered as FlowUnanswered}
use Rattle.flow_values.specs.Calls.{calling_so}
use Rattle.flow_values.specs.Step.{AtMostOne, Before, IsStep, StepsFrom}
use Rattle.flow_values.specs.Value.{GoesOnFrom, IsInScope, IsTaken, answering, evaluating}
use Rattle.flow_values.proofs.Outcomes.{and_then, outcome_to, same_behind}
use Rattle.flow_values.proofs.Handing.{calls_so, gives_all}
use Rattle.flow_values.proofs.Stepping.{told_same, told_weaker, unasked}

came_out : (capture : Capture) (at : Pos) (what : Op) (values : List Contents) (go : Answer → Walked → Act) (s : State) (h : Happened) → operation capture at what values s ≡ h
    → outcome capture (perform at what values go) s ≡ elim h [ did answer came t ↦ outcome capture (go answer came) t | too_dear t ↦ spent t | lacked t ↦ lacking t ]
came_out capture at what values go s h is = ap (λ h. elim h [ did answer came t ↦ outcome capture (go answer came) t | too_dear t ↦ spent t | lacked t ↦ lacking t ]) is

went_same : (capture : Capture) (before : Act) (s : State) (after : Act) (t : State) (news : List Moment) → Went capture before s after t news → outcome capture before s ≡ outcome capture after t
went_same capture before s after t news (stayed same state none) = ap (λ a. outcome capture a s) (sym same) ∙ ap (outcome capture after) (sym state)
went_same capture before s after t news (went_on at what values go answer came moment act happened next told one) =
    ap (λ a. outcome capture a s) act ∙ came_out capture at what values go s (did answer came t) happened ∙ ap (λ a. outcome capture a t) (sym next)

went_few : (capture : Capture) (before : Act) (s : State) (after : Act) (t : State) (news : List Moment) → Went capture before s after t news → AtMostOne news
went_few capture before s after t news (stayed same state none) = subst AtMostOne (sym none) tt
went_few capture before s after t news (went_on at what values go answer came moment act happened next told one) = subst AtMostOne (sym one) tt

went_told : (capture : Capture) (before : Act) (s : State) (after : Act) (t : State) (news : List Moment) → Went capture before s after t news → t.told ≡ news ++ s.told
went_told capture before s after t news (stayed same state none) = ap (λ (u : State). u.told) state ∙ ap (λ ms. ms ++ s.told) (sym none)
went_told capture before s after t news (went_on at what values go answer came moment act happened next told one) = told ∙ ap (λ ms. ms ++ s.told) (sym one)

module _ (script : ScriptTree) (frames : FlowFrames) (eval gone : EvalFrames) (p : Part) (after : FlowFrames) (rest : ℕ) (table : ValuesView) (capture : Capture) (s : State) (stands : Standing → Type 0)
    (was is : Option (List Moment)) (n : ℕ) where
  -- what follows the value; what waits
  abbrev pub follows : Contents → Act
  follows = then_act script (level script n) (here_seen script table frames.spot) p.stmt.now.pos (form_of p.stmt.now.form.value) (stage_seen table p.stage)

  abbrev pub beyond : How → Act
  beyond = resumes script (level script n) (map (frame_seen script table) frames.below.items) (λ how. ret how)

  abbrev pub first : Act
  first = eval_remaining script (level script n) (here_seen script table frames.spot) follows table eval

  -- what remains where a call waits
  abbrev pub waiting_call : Pos → Callee → List Value → Act
  waiting_call at callee args = call_act script (level script n) (here_seen script table frames.spot) (machine_seen table gone) None at (callee_seen table callee) (map (contents table) args) follows

  on_from : (b : ScriptTree → Before) (later : Act) → to later beyond ≡ b script table (level script n) → IsEvalOn capture first s later rest stands was is
      → (result : Result FlowNext Memory) → GoesOnFrom b after result
      → IsStep script (level script n) (to first beyond) after rest stands was is table capture s result
  on_from b later same d (Ok FlowMore) means = record {
    next = d.next;
    news = d.news;
    few = went_few capture first s later d.next d.news d.went;
    comes_out = same_behind capture beyond first later s d.next d.comes_out ∙ ap (λ a. outcome capture a d.next) (same ∙ means script table (level script n));
    told_is = went_told capture first s later d.next d.news d.went;
    stands_so = d.stands_so;
    left_is = d.left_is;
    tells = d.tells;
  }
  on_from b later same d (Err want) means = record {
    rest = to later beyond;
    next = d.next;
    news = d.news;
    few = went_few capture first s later d.next d.news d.went;
    comes_out = same_behind capture beyond first later s d.next d.comes_out;
    told_is = went_told capture first s later d.next d.news d.went;
    refused = unasked stands d.next d.stands_so;
    tells = told_weaker was is _ _ (λ told more same. inr same) d.tells;
  }
  on_from b later same d (Ok Finished) means = absurd means
  on_from b later same d (Ok (FlowRaised o line)) means = absurd means
  on_from b later same d (Ok FlowSpent) means = absurd means
  on_from b later same d (Ok FlowUnanswered) means = absurd means

  pub step_taken : (next : EvalNext) (result : Result FlowNext Memory)
      → IsEvalStep script (level script n) (here_seen script table frames.spot) follows {E = Memory} eval gone rest stands was is table capture s (Ok next)
      → IsTaken next gone p frames after result
      → IsStep script (level script n) (to first beyond) after rest stands was is table capture s result
  step_taken More result known taken =
      on_from (λ script. evaluating script frames gone p) (eval_remaining script (level script n) (here_seen script table frames.spot) follows table gone) refl known result taken
  step_taken (TheValue v) result known taken = on_from (λ script. answering script frames p (ValueAnswer v)) (follows (contents table v)) refl known result taken
  step_taken (Raised o) result known taken = on_from (λ script. answering script frames p (RaisedAnswer o)) (ret (threw o (here_seen script table frames.spot).line)) refl known result taken
  step_taken Ended result known taken = on_from (λ script. answering script frames p EndAnswer) (ret normal) refl known result taken
  step_taken Spent result known taken =
      subst (IsStep script (level script n) {E = Memory} (to first beyond) after rest stands was is table capture s) (sym taken) (record {
        next = known.next;
        comes_out = outcome_to capture beyond first s ∙ ap (and_then capture beyond) known.comes_out;
        stands_so = known.stands_so;
        left_is = known.left_is;
        told_is = known.told_is;
        tells = known.tells;
      })
  step_taken Unanswered result known taken =
      subst (IsStep script (level script n) {E = Memory} (to first beyond) after rest stands was is table capture s) (sym taken) (record {
        next = known.next;
        comes_out = outcome_to capture beyond first s ∙ ap (and_then capture beyond) known.comes_out;
        stands_so = known.stands_so;
        left_is = known.left_is;
        told_is = known.told_is;
        tells = known.tells;
      })
  step_taken (Call f args at) (Ok FlowMore) known taken =
      let same : first ≡ waiting_call at taken.callee args =
      known.act_is
      ∙ calls_so script (level script n) (here_seen script table frames.spot) (machine_seen table gone) follows at known.follows
      (gives_all script (level script n) (here_seen script table frames.spot) table gone follows at known.follows known.resumes) table f taken.callee (map (contents table) args) taken.callee_is in
      on_from (λ script. calling_so script frames (record { eval = gone; made = None }) at taken.callee args p) (waiting_call at taken.callee args) refl
      (record {
        next = s;
        news = [];
        went = stayed (sym same) refl refl;
        comes_out = ap (λ a. outcome capture a s) same;
        stands_so = known.stands_so;
        left_is = known.left_is;
        tells = subst (λ is. TellsOn was is (λ told more. more ≡ told)) (sym known.tells) (told_same was);
      }) (Ok FlowMore) taken.means
  step_taken (Call f args at) (Err want) known taken = record {
    rest = to first beyond;
    next = s;
    news = [];
    few = tt;
    comes_out = refl;
    told_is = refl;
    refused = unasked stands s known.stands_so;
    tells = told_weaker was is _ _ (λ told more same. inl same) (subst (λ is. TellsOn was is (λ told more. more ≡ told)) (sym known.tells) (told_same was));
  }
  step_taken (Call f args at) (Ok Finished) known taken = absurd taken
  step_taken (Call f args at) (Ok (FlowRaised o line)) known taken = absurd taken
  step_taken (Call f args at) (Ok FlowSpent) known taken = absurd taken
  step_taken (Call f args at) (Ok FlowUnanswered) known taken = absurd taken

  -- out of memory in the step
  pub step_cut : (want : Memory) → IsEvalCut capture first s stands was is → IsStep script (level script n) (to first beyond) after rest stands was is table capture s (Err want)
  step_cut want known = record {
    rest = to known.rest beyond;
    next = known.next;
    news = known.news;
    few = went_few capture first s known.rest known.next known.news known.went;
    comes_out = same_behind capture beyond first known.rest s known.next (went_same capture first s known.rest known.next known.news known.went);
    told_is = went_told capture first s known.rest known.next known.news known.went;
    refused = known.refused;
    tells = known.tells;
  }

module _ (script : ScriptTree) (frames : FlowFrames) (eval gone : EvalFrames) (p : Part) (after : FlowFrames) (first last : Fits) (stood stands : Stands) (left rest : ℕ) (was is : Option (List Moment))
    (knew : Knew first last) (scope : IsInScope first eval frames) where
  -- the spot of the statement is where the expression stands
  stands_at : (table : ValuesView) (capture : Capture) → last table capture → IsAt script eval.scope (here_seen script table frames.spot)
  stands_at table capture fit =
      let same = sym (scope table capture (knew table capture fit)) in
      record { activation_is = ap (λ (o : Scope). o.activation) same; function_is = ap (λ (o : Scope). function_in script o.function) same }

  pub taken_from : (next : EvalNext) (result : Result FlowNext Memory) → EvalSteps {E = Memory} script eval gone left rest last stood stands was is (Ok next) → IsTaken next gone p frames after result
      → StepsFrom script (evaluating script frames eval p) after left rest last stood stands was is result
  taken_from next result steps_so taken table capture fit s stood_so steps n enough =
      step_taken script frames eval gone p after rest table capture s (stands table capture) was is n next result
      (steps_so (level script n) (here_seen script table frames.spot) (then_act script (level script n) (here_seen script table frames.spot) p.stmt.now.pos (form_of p.stmt.now.form.value) (stage_seen table p.stage)) (stands_at table capture fit) table capture fit s stood_so steps) taken

  pub cut_evaluated : (want : Memory) → EvalSteps {E = Memory} script eval gone left rest last stood stands was is (Err want) → StepsFrom script (evaluating script frames eval p) after left rest last stood stands was is (Err want)
  cut_evaluated want steps_so table capture fit s stood_so steps n enough =
      step_cut script frames eval gone p after rest table capture s (stands table capture) was is n want
      (steps_so (level script n) (here_seen script table frames.spot) (then_act script (level script n) (here_seen script table frames.spot) p.stmt.now.pos (form_of p.stmt.now.form.value) (stage_seen table p.stage)) (stands_at table capture fit) table capture fit s stood_so steps)
