-- A step of the expression that is evaluated now, for the run of a script.
use Rattle.std.proofs.Common.{◌≡◌, ℕ, true, Box, Global, List, Option, Some, None, Result, Ok, Err, refl, ap, sym, ◌∙◌, subst}
use Rattle.prov_base.specs.declared.refusal.Memory.{Memory}
use Rattle.py_tree.specs.Tree.{ScriptTree}
use Rattle.prov_base.specs.declared.place.Pos.{Pos}
use Rattle.py_value.specs.Values.{ValuesView, IsNamed}
use Rattle.py_value.specs.declared.value.Value.{Value}
use Rattle.py_model.specs.Act.{Act}
use Rattle.py_model.specs.Capture.{Capture}
use Rattle.py_model.specs.Doing.{Fits, Stands, Knew}
use Rattle.py_model.specs.Expressions.{Task}
use Rattle.py_model.specs.Moment.{Moment}
use Rattle.py_model.specs.declared.moment.Answer.{Answer}
use Rattle.interp_eval.specs.declared.frames.EvalFrames.{EvalFrames}
use Rattle.interp_eval.specs.declared.frames.EvalNext.{EvalNext}
use Rattle.interp_eval.specs.declared.frames.EvalNext.TheVariants.{More, Value as TheValue, Call}
use Rattle.interp_eval.specs.declared.frames.Scope.{Scope}
use Rattle.flow_frames.specs.Held.{IsHeldNow, IsHeldStage, IsHeldWork}
use Rattle.flow_frames.specs.declared.control.Giving.{Giving}
use Rattle.flow_frames.specs.declared.control.Now.{Now}
use Rattle.flow_frames.specs.declared.control.Now.TheVariants.{Ended, Gives, InSuite, Opens}
use Rattle.flow_frames.specs.declared.control.Part.{Part}
use Rattle.flow_frames.specs.declared.control.Work.{Work}
use Rattle.flow_frames.specs.declared.control.Work.TheVariants.{Calls, Evaluates, Operation}
use Rattle.flow_frames.specs.declared.frames.FlowFrames.{FlowFrames}
use Rattle.flow_values.specs.declared.next.FlowNext.{FlowNext}
use Rattle.flow_values.specs.declared.next.FlowNext.TheVariants.{More as FlowMore, Finished, Raised as FlowRaised, Spent as FlowSpent, Unanswered as FlowUnanswered}
use Rattle.flow_values.specs.Expression.{HasEvaluated, HasEvaluatedNow, IsAnswered, IsHeldEvaluation, IsHeldExpression, IsHeldPart, IsHeldTaken, IsHeldTakenWork, IsTakenNow, IsTakenWork, evaluates, is_expression, part_in}
use Rattle.flow_values.specs.Step.{Before, StepsFrom, doing_now, meant}
use Rattle.flow_values.specs.Calls.{calling_so}
use Rattle.flow_values.specs.Value.{GoesOnFrom, IsTaken, answering, evaluating, working}
use Rattle.flow_values.proofs.Evaluating.{cut_evaluated, taken_from}
use Rattle.flow_values.proofs.Flowing.{gives_so}
use Rattle.flow_values.proofs.Stepping.{cut_from, steps_fitting, steps_same}

-- what is done now holds the values of its expression
pub held_evaluation : (table : ValuesView) (scope : Scope) (now : Now) → IsHeldNow table scope now → IsHeldEvaluation table now
held_evaluation table scope (Gives g) held = work_held g.value.work held.0
  where
    work_held : (w : Work) → IsHeldWork table scope w → IsHeldExpression table w
    work_held (Evaluates e) held = held.0
    work_held (Operation at code values) held = tt
    work_held (Calls caller at callee values) held = tt
held_evaluation table scope (InSuite stmts) held = tt
held_evaluation table scope (Opens p) held = tt
held_evaluation table scope (Ended end) held = tt

-- where nothing was performed and the run goes on, it goes on from there
pub goes_from : (script : ScriptTree) (b : ScriptTree → Before) (frames : FlowFrames) (left : ℕ) (fits : Fits) (stood : Stands) (was : Option (List Moment)) (r : Result FlowNext Memory)
    → GoesOnFrom b frames r → StepsFrom script (b script) frames left left fits stood stood was was r
goes_from script b frames left fits stood was (Ok FlowMore) means = steps_fitting script (b script) frames left fits stood was (λ table capture fit next. means script table next)
goes_from script b frames left fits stood was (Err want) means = cut_from script (b script) frames left fits stood was want
goes_from script b frames left fits stood was (Ok Finished) means = absurd means
goes_from script b frames left fits stood was (Ok (FlowRaised o line)) means = absurd means
goes_from script b frames left fits stood was (Ok FlowSpent) means = absurd means
goes_from script b frames left fits stood was (Ok FlowUnanswered) means = absurd means

-- an expression that only goes on
more_work : (frames : FlowFrames) (w : Work) (p : Part) → ((script : ScriptTree) (table : ValuesView) (next : Task → Act) → working script frames w p table next ≡ meant script frames table next)
    → IsTakenWork {E = Memory} More w p frames frames (Ok FlowMore)
more_work frames (Evaluates e) p same = same
more_work frames (Operation at code values) p same = tt
more_work frames (Calls caller at callee values) p same = tt

pub more_taken : (frames : FlowFrames) (now : Now) → frames.now ≡ now → IsTakenNow {E = Memory} More now frames frames (Ok FlowMore)
more_taken frames (Gives g) same = more_work frames g.value.work g.value.part (λ script table next.
    sym (ap (λ n. doing_now script frames n table next) same ∙ gives_so script frames g g.value refl table next))
more_taken frames (InSuite stmts) same = tt
more_taken frames (Opens p) same = tt
more_taken frames (Ended end) same = tt

-- the part that waits
pub answered_so : (answer : Answer) (now : Now) (part : Part) (before after : FlowFrames) (r : Result FlowNext Memory) → part_in now ≡ Some part
    → GoesOnFrom (λ script. answering script before part answer) after r → IsAnswered answer now before after r
answered_so answer (Gives g) part before after r is means = subst (λ p. GoesOnFrom (λ script. answering script before p answer) after r) (sym (same_part is)) means
  where
    same_part : {p q : Part} → Some p ≡ Some q → p ≡ q
    same_part is = cc
answered_so answer (InSuite stmts) part before after r is means = tt
answered_so answer (Opens p) part before after r is means = tt
answered_so answer (Ended end) part before after r is means = tt

pub part_held : (table : ValuesView) (now : Now) (part : Part) → part_in now ≡ Some part → IsHeldPart table now → IsHeldStage table part.stage
part_held table (Gives g) part is held = subst (λ (p : Part). IsHeldStage table p.stage) (same_part is) held
  where
    same_part : {p q : Part} → Some p ≡ Some q → p ≡ q
    same_part is = cc
part_held table (InSuite stmts) part is held = absurd cc
part_held table (Opens p) part is held = absurd cc
part_held table (Ended end) part is held = absurd cc

-- where no value is made nothing is said
pub no_part : (answer : Answer) (now : Now) (before after : FlowFrames) (want : Memory) → IsAnswered {E = Memory} answer now before after (Err want)
no_part answer (Gives g) before after want = tt
no_part answer (InSuite stmts) before after want = tt
no_part answer (Opens p) before after want = tt
no_part answer (Ended end) before after want = tt

module _ (script : ScriptTree) (mid after : FlowFrames) (first last : Fits) (stood stands : Stands) (left rest : ℕ) (was is : Option (List Moment)) (knew : Knew first last) where
  abbrev pub HeldFirst : Work → Type 0
  HeldFirst w = (table : ValuesView) (capture : Capture) → first table capture → IsHeldWork table mid.spot.scope w

  work_taken : (w v : Work) (p q : Part) → q ≡ p → is_expression w ≡ true → HeldFirst w → (next : EvalNext) (result : Result FlowNext Memory)
      → HasEvaluated {E = Memory} script w v left rest last stood stands was is (Ok next) → IsTakenWork next v q mid after result
      → StepsFrom script (working script mid w p) after left rest last stood stands was is result
  work_taken (Evaluates e) (Evaluates gone) p q same sure held next result known taken =
      steps_same script (working script mid (Evaluates e) p) (evaluating script mid e p) after left rest last stood stands was is result (λ table next. refl)
      (taken_from script mid e gone p after first last stood stands left rest was is knew (λ table capture fit. (held table capture fit).1) next result known.0
      (subst (λ p. IsTakenWork next (Evaluates gone) p mid after result) same taken))
  work_taken (Evaluates e) (Operation at code values) p q same sure held next result known taken = absurd known
  work_taken (Evaluates e) (Calls caller at callee values) p q same sure held next result known taken = absurd known
  work_taken (Operation at code values) v p q same sure held next result known taken = absurd cc
  work_taken (Calls caller at callee values) v p q same sure held next result known taken = absurd cc

  work_cut : (w v : Work) (p : Part) → is_expression w ≡ true → HeldFirst w → (want : Memory)
      → HasEvaluated {E = Memory} script w v left rest last stood stands was is (Err want)
      → StepsFrom script (working script mid w p) after left rest last stood stands was is (Err want)
  work_cut (Evaluates e) (Evaluates gone) p sure held want known =
      steps_same script (working script mid (Evaluates e) p) (evaluating script mid e p) after left rest last stood stands was is (Err want) (λ table next. refl)
      (cut_evaluated script mid e gone p after first last stood stands left rest was is knew (λ table capture fit. (held table capture fit).1) want known.0)
  work_cut (Evaluates e) (Operation at code values) p sure held want known = absurd known
  work_cut (Evaluates e) (Calls caller at callee values) p sure held want known = absurd known
  work_cut (Operation at code values) v p sure held want known = absurd cc
  work_cut (Calls caller at callee values) v p sure held want known = absurd cc

  pub now_taken : (now new : Now) → evaluates now ≡ true → ((table : ValuesView) (capture : Capture) → first table capture → IsHeldNow table mid.spot.scope now)
      → (next : EvalNext) (result : Result FlowNext Memory) → HasEvaluatedNow {E = Memory} script now new left rest last stood stands was is (Ok next)
      → IsTakenNow next new mid after result → StepsFrom script (doing_now script mid now) after left rest last stood stands was is result
  now_taken (Gives g) (Gives h) sure held next result known taken =
      steps_same script (doing_now script mid (Gives g)) (working script mid g.value.work g.value.part) after left rest last stood stands was is result (gives_so script mid g g.value refl)
      (work_taken g.value.work h.value.work g.value.part h.value.part known.1 sure (λ table capture fit. (held table capture fit).0) next result known.0 taken)
  now_taken (Gives g) (InSuite stmts) sure held next result known taken = absurd known
  now_taken (Gives g) (Opens p) sure held next result known taken = absurd known
  now_taken (Gives g) (Ended end) sure held next result known taken = absurd known
  now_taken (InSuite stmts) new sure held next result known taken = absurd cc
  now_taken (Opens p) new sure held next result known taken = absurd cc
  now_taken (Ended end) new sure held next result known taken = absurd cc

  pub now_cut : (now new : Now) → evaluates now ≡ true → ((table : ValuesView) (capture : Capture) → first table capture → IsHeldNow table mid.spot.scope now)
      → (want : Memory) → HasEvaluatedNow {E = Memory} script now new left rest last stood stands was is (Err want)
      → StepsFrom script (doing_now script mid now) after left rest last stood stands was is (Err want)
  now_cut (Gives g) (Gives h) sure held want known =
      steps_same script (doing_now script mid (Gives g)) (working script mid g.value.work g.value.part) after left rest last stood stands was is (Err want) (gives_so script mid g g.value refl)
      (work_cut g.value.work h.value.work g.value.part sure (λ table capture fit. (held table capture fit).0) want known.0)
  now_cut (Gives g) (InSuite stmts) sure held want known = absurd known
  now_cut (Gives g) (Opens p) sure held want known = absurd known
  now_cut (Gives g) (Ended end) sure held want known = absurd known
  now_cut (InSuite stmts) new sure held want known = absurd cc
  now_cut (Opens p) new sure held want known = absurd cc
  now_cut (Ended end) new sure held want known = absurd cc

-- the values of what a step came to
module _ (script : ScriptTree) (table : ValuesView) (capture : Capture) (scope : Scope) (left rest : ℕ) (fits : Fits) (stood stands : Stands) (was is : Option (List Moment)) (next : EvalNext) (fit : fits table capture) where
  work_keeps : (w v : Work) → is_expression w ≡ true → IsHeldWork table scope w → HasEvaluated {E = Memory} script w v left rest fits stood stands was is (Ok next) → IsHeldTakenWork table scope next v
  work_keeps (Evaluates e) (Evaluates gone) sure held known = (known.1.1 table capture fit, known.1.0 ∙ held.1)
  work_keeps (Evaluates e) (Operation at code values) sure held known = absurd known
  work_keeps (Evaluates e) (Calls caller at callee values) sure held known = absurd known
  work_keeps (Operation at code values) v sure held known = absurd cc
  work_keeps (Calls caller at callee values) v sure held known = absurd cc

  pub now_keeps : (now new : Now) → evaluates now ≡ true → IsHeldNow table scope now → HasEvaluatedNow {E = Memory} script now new left rest fits stood stands was is (Ok next) → IsHeldTaken table scope next new
  now_keeps (Gives g) (Gives h) sure held known = (work_keeps g.value.work h.value.work sure held.0 known.0, subst (λ (p : Part). IsHeldStage table p.stage) (sym known.1) held.1)
  now_keeps (Gives g) (InSuite stmts) sure held known = absurd known
  now_keeps (Gives g) (Opens p) sure held known = absurd known
  now_keeps (Gives g) (Ended end) sure held known = absurd known
  now_keeps (InSuite stmts) new sure held known = absurd cc
  now_keeps (Opens p) new sure held known = absurd cc
  now_keeps (Ended end) new sure held known = absurd cc

-- an expression that goes on holds its values where it stands
pub more_held : (table : ValuesView) (scope : Scope) (now : Now) → IsHeldTaken table scope More now → IsHeldNow table scope now
more_held table scope (Gives g) held = (work_more g.value.work held.0, held.1)
  where
    work_more : (w : Work) → IsHeldTakenWork table scope More w → IsHeldWork table scope w
    work_more (Evaluates e) held = held
    work_more (Operation at code values) held = absurd held
    work_more (Calls caller at callee values) held = absurd held
more_held table scope (InSuite stmts) held = absurd held
more_held table scope (Opens p) held = absurd held
more_held table scope (Ended end) held = absurd held

-- what holds of each expression holds of what is done now
module _ (next : EvalNext) (before after : FlowFrames) (r : Result FlowNext Memory) where
  pub each_work : (w : Work) (p : Part) → ((gone : EvalFrames) → IsTaken next gone p before after r) → IsTakenWork next w p before after r
  each_work (Evaluates gone) p each = each gone
  each_work (Operation at code values) p each = tt
  each_work (Calls caller at callee values) p each = tt

  pub each_taken : (now : Now) → ((gone : EvalFrames) (p : Part) → IsTaken next gone p before after r) → IsTakenNow next now before after r
  each_taken (Gives g) each = each_work g.value.work g.value.part (λ gone. each gone g.value.part)
  each_taken (InSuite stmts) each = tt
  each_taken (Opens p) each = tt
  each_taken (Ended end) each = tt

  pub answer_taken : (answer : Answer) (now : Now) → ((gone : EvalFrames) (p : Part) → GoesOnFrom (λ script. answering script before p answer) after r → IsTaken next gone p before after r)
      → IsAnswered answer now before after r → IsTakenNow next now before after r
  answer_taken answer (Gives g) each known = each_work g.value.work g.value.part (λ gone. each gone g.value.part known)
  answer_taken answer (InSuite stmts) each known = tt
  answer_taken answer (Opens p) each known = tt
  answer_taken answer (Ended end) each known = tt

-- a call is handed over from frames where something else is done
pub call_around : (f : Value) (arguments : List Value) (at : Pos) (w : Work) (p : Part) (before around after : FlowFrames) (r : Result FlowNext Memory) → around ≡ record before { now = around.now }
    → IsTakenWork (Call f arguments at) w p around after r → IsTakenWork (Call f arguments at) w p before after r
call_around f arguments at (Evaluates gone) p before around after (Ok FlowMore) same known =
    record {
      callee = known.callee;
      callee_is = known.callee_is;
      means = λ script table next. sym (ap (λ (o : FlowFrames). calling_so script o (record { eval = gone; made = None }) at known.callee arguments p table next) same) ∙ known.means script table next;
    }
call_around f arguments at (Evaluates gone) p before around after (Err want) same known = tt
call_around f arguments at (Evaluates gone) p before around after (Ok Finished) same known = absurd known
call_around f arguments at (Evaluates gone) p before around after (Ok (FlowRaised o line)) same known = absurd known
call_around f arguments at (Evaluates gone) p before around after (Ok FlowSpent) same known = absurd known
call_around f arguments at (Evaluates gone) p before around after (Ok FlowUnanswered) same known = absurd known
call_around f arguments at (Operation place code values) p before around after r same known = tt
call_around f arguments at (Calls caller place callee values) p before around after r same known = tt

pub call_taken : (f : Value) (arguments : List Value) (at : Pos) (now : Now) (g : Box Giving Global) (before around after : FlowFrames) (r : Result FlowNext Memory) → around ≡ record before { now = around.now } → now ≡ Gives g
    → IsTakenWork (Call f arguments at) g.value.work g.value.part around after r → IsTakenNow (Call f arguments at) now before after r
call_taken f arguments at now g before around after r same is known =
    subst (λ n. IsTakenNow (Call f arguments at) n before after r) (sym is) (call_around f arguments at g.value.work g.value.part before around after r same known)

-- of what a step came to: the part, the value
pub taken_part : (table : ValuesView) (scope : Scope) (next : EvalNext) (now : Now) → IsHeldTaken table scope next now → IsHeldPart table now
taken_part table scope next (Gives g) held = held.1
taken_part table scope next (InSuite stmts) held = absurd held
taken_part table scope next (Opens p) held = absurd held
taken_part table scope next (Ended end) held = absurd held

pub taken_value : (table : ValuesView) (scope : Scope) (v : Value) (now : Now) → IsHeldTaken table scope (TheValue v) now → IsNamed table v
taken_value table scope v (Gives g) held = work_value g.value.work held.0
  where
    work_value : (w : Work) → IsHeldTakenWork table scope (TheValue v) w → IsNamed table v
    work_value (Evaluates gone) held = held.0
    work_value (Operation at code values) held = absurd held
    work_value (Calls caller at callee values) held = absurd held
taken_value table scope v (InSuite stmts) held = absurd held
taken_value table scope v (Opens p) held = absurd held
taken_value table scope v (Ended end) held = absurd held
