-- An object is made by the call of a class: what comes of it, for a run.
use Rattle.std.proofs.Common.{◌≡◌, ◌∷◌, [], inl, inr, ℕ, Bool, true, false, List, map, Option, Some, None, Result, Ok, Err, refl, ap, sym, ◌∙◌}
use Rattle.prov_base.specs.declared.place.Pos.{Pos}
use Rattle.prov_base.specs.declared.refusal.Memory.{Memory}
use Rattle.py_tree.specs.Tree.{ScriptTree}
use Rattle.py_value.specs.Contents.{contents}
use Rattle.py_value.specs.Values.{ValuesView}
use Rattle.py_value.specs.declared.value.Value.{Value}
use Rattle.py_value.specs.declared.value.Value.TheVariants.{None as NoneValue}
use Rattle.py_model.specs.Act.{Act, ret, to, perform, normal}
use Rattle.py_model.specs.Capture.{Capture}
use Rattle.py_model.specs.Doing.{Standing, Fits, Stands, Knew}
use Rattle.py_model.specs.Expressions.{Task, by_answer, op}
use Rattle.py_model.specs.Meaning.{level}
use Rattle.py_model.specs.Moment.{Moment}
use Rattle.py_model.specs.Plan.{Answer}
use Rattle.py_model.specs.Running.{State, Happened, did, too_dear, lacked, operation, outcome, spent, lacking}
use Rattle.py_model.specs.Told.{answer_seen, op_seen, IsNamedAnswer}
use Rattle.py_model.specs.declared.moment.Answer.{Answer as OneAnswer}
use Rattle.py_model.specs.declared.moment.Answer.TheVariants.{Value as ValueAnswer, Raised as RaisedAnswer, End as EndAnswer}
use Rattle.py_model.specs.declared.moment.Op.{Op as OneOp}
use Rattle.interp_eval.proofs.Steps.{interrupted}
use Rattle.interp_eval.specs.Performing.{HasState, WasCut, nothing_happened, not_told}
use Rattle.interp_eval.specs.Step.{given}
use Rattle.interp_eval.specs.declared.frames.EvalFrames.{EvalFrames}
use Rattle.flow_calls.specs.Walking.{HasWalked}
use Rattle.flow_calls.specs.declared.walking.Walk.TheVariants.{Did, TooDear, Unanswered as UnansweredWalk}
use Rattle.flow_frames.specs.Machine.{made_act, resumes}
use Rattle.flow_frames.specs.Seen.{frame_seen, here_seen}
use Rattle.flow_frames.specs.declared.control.Callee.TheVariants.{Function, Class}
use Rattle.flow_frames.specs.declared.control.Caller.{Caller}
use Rattle.flow_frames.specs.declared.control.Part.{Part}
use Rattle.flow_frames.specs.declared.frames.FlowFrames.{FlowFrames}
use Rattle.flow_values.specs.Calls.{alone_so, calling_so, failing_so, gives_object, made_so, making_so, may_be_made}
use Rattle.flow_values.specs.Step.{Before, IsCut, StepsFrom}
use Rattle.flow_values.specs.Value.{GoesOnFrom, answering, evaluating}
use Rattle.flow_values.specs.declared.next.FlowNext.{FlowNext}
use Rattle.flow_values.specs.declared.next.FlowNext.TheVariants.{More, Finished, Raised, Spent, Unanswered}
use Rattle.flow_values.proofs.Operating.{came_out, told_still}
use Rattle.flow_values.proofs.Stepping.{told_weaker, unasked}

-- one act in place of an equal one
pub goes_same : (b c : ScriptTree → Before) (after : FlowFrames) (r : Result FlowNext Memory) → ((script : ScriptTree) (table : ValuesView) (next : Task → Act) → b script table next ≡ c script table next) → GoesOnFrom c after r → GoesOnFrom b after r
goes_same b c after (Ok More) same means = λ script table next. same script table next ∙ means script table next
goes_same b c after (Err want) same means = tt
goes_same b c after (Ok Finished) same means = absurd means
goes_same b c after (Ok (Raised o line)) same means = absurd means
goes_same b c after (Ok Spent) same means = absurd means
goes_same b c after (Ok Unanswered) same means = absurd means

-- an object that was made alone is the value of the call; or the call fails
alone_is : (script : ScriptTree) (frames : FlowFrames) (eval : EvalFrames) (at : Pos) (of : Value) (arguments : List Value) (o : Value) (has_set : Bool) (p : Part) (table : ValuesView) (next : Task → Act) → may_be_made has_set arguments ≡ true
    → alone_so script frames eval at of arguments o has_set p table next ≡ evaluating script frames (given o eval) p table next
alone_is script frames eval at of arguments o true p table next is = refl
alone_is script frames eval at of [] o false p table next is = refl
alone_is script frames eval at of (v ∷ arguments) o false p table next is = absurd cc

pub alone_gives : (frames : FlowFrames) (eval gone : EvalFrames) (at : Pos) (of : Value) (arguments : List Value) (o : Value) (has_set : Bool) (p : Part) (after : FlowFrames) (r : Result FlowNext Memory) → gone ≡ given o eval
    → may_be_made has_set arguments ≡ true → GoesOnFrom (λ script. evaluating script frames gone p) after r → GoesOnFrom (λ script. alone_so script frames eval at of arguments o has_set p) after r
alone_gives frames eval gone at of arguments o has_set p after r gives may means =
    goes_same (λ script. alone_so script frames eval at of arguments o has_set p) (λ script. evaluating script frames gone p) after r (λ script table next.
    alone_is script frames eval at of arguments o has_set p table next may ∙ ap (λ (e : EvalFrames). evaluating script frames e p table next) (sym gives)) means

fails_alone : (script : ScriptTree) (frames : FlowFrames) (eval : EvalFrames) (at : Pos) (of : Value) (arguments : List Value) (o : Value) (has_set : Bool) (p : Part) (table : ValuesView) (next : Task → Act) → may_be_made has_set arguments ≡ false
    → alone_so script frames eval at of arguments o has_set p table next ≡ failing_so script frames at 1 (of ∷ arguments) table next
fails_alone script frames eval at of arguments o true p table next is = absurd cc
fails_alone script frames eval at of [] o false p table next is = absurd cc
fails_alone script frames eval at of (v ∷ arguments) o false p table next is = refl

pub alone_fails : (frames : FlowFrames) (eval : EvalFrames) (at : Pos) (of : Value) (arguments : List Value) (o : Value) (has_set : Bool) (p : Part) (after : FlowFrames) (r : Result FlowNext Memory) → may_be_made has_set arguments ≡ false
    → GoesOnFrom (λ script. failing_so script frames at 1 (of ∷ arguments)) after r → GoesOnFrom (λ script. alone_so script frames eval at of arguments o has_set p) after r
alone_fails frames eval at of arguments o has_set p after r may means =
    goes_same (λ script. alone_so script frames eval at of arguments o has_set p) (λ script. failing_so script frames at 1 (of ∷ arguments)) after r (λ script table next. fails_alone script frames eval at of arguments o has_set p table next may) means

-- an object with the method that was found, or with none
pub made_none : (frames : FlowFrames) (eval : EvalFrames) (at : Pos) (of : Value) (arguments : List Value) (o : Value) (method : Option Pos) (has_set : Bool) (p : Part) (after : FlowFrames) (r : Result FlowNext Memory) → method ≡ None
    → GoesOnFrom (λ script. alone_so script frames eval at of arguments o has_set p) after r → GoesOnFrom (λ script. made_so script frames eval at of arguments o method has_set p) after r
made_none frames eval at of arguments o method has_set p after r is means =
    goes_same (λ script. made_so script frames eval at of arguments o method has_set p) (λ script. alone_so script frames eval at of arguments o has_set p) after r (λ script table next.
    ap (λ m. made_so script frames eval at of arguments o m has_set p table next) is) means

pub made_some : (frames : FlowFrames) (eval : EvalFrames) (at : Pos) (of : Value) (arguments : List Value) (o : Value) (method : Option Pos) (init : Pos) (has_set : Bool) (p : Part) (after : FlowFrames) (r : Result FlowNext Memory)
    → method ≡ Some init → GoesOnFrom (λ script. calling_so script frames (record { eval = eval; made = Some o }) at (Function init) (o ∷ arguments) p) after r
    → GoesOnFrom (λ script. made_so script frames eval at of arguments o method has_set p) after r
made_some frames eval at of arguments o method init has_set p after r is means =
    goes_same (λ script. made_so script frames eval at of arguments o method has_set p) (λ script. calling_so script frames (record { eval = eval; made = Some o }) at (Function init) (o ∷ arguments) p) after r (λ script table next.
    ap (λ m. made_so script frames eval at of arguments o m has_set p table next) is) means

module _ (frames : FlowFrames) (caller : Caller) (at : Pos) (of : Value) (arguments : List Value) (answer : OneAnswer) (method : Option Pos) (has_set : Bool) (p : Part) (after : FlowFrames) (r : Result FlowNext Memory) where
  pub value_made : (eval : EvalFrames) (o : Value) → answer ≡ ValueAnswer o → eval ≡ caller.eval → GoesOnFrom (λ script. made_so script frames eval at of arguments o method has_set p) after r
      → GoesOnFrom (λ script. making_so script frames caller at of arguments answer method has_set p) after r
  value_made eval o is same means =
      goes_same (λ script. making_so script frames caller at of arguments answer method has_set p) (λ script. made_so script frames eval at of arguments o method has_set p) after r (λ script table next.
      ap (λ a. making_so script frames caller at of arguments a method has_set p table next) is ∙ ap (λ (e : EvalFrames). made_so script frames e at of arguments o method has_set p table next) (sym same)) means

  pub raised_made : (o : ℕ) → answer ≡ RaisedAnswer o → GoesOnFrom (λ script. answering script frames p (RaisedAnswer o)) after r → GoesOnFrom (λ script. making_so script frames caller at of arguments answer method has_set p) after r
  raised_made o is means =
      goes_same (λ script. making_so script frames caller at of arguments answer method has_set p) (λ script. answering script frames p (RaisedAnswer o)) after r (λ script table next.
      ap (λ a. making_so script frames caller at of arguments a method has_set p table next) is) means

  pub end_made : answer ≡ EndAnswer → GoesOnFrom (λ script. answering script frames p EndAnswer) after r → GoesOnFrom (λ script. making_so script frames caller at of arguments answer method has_set p) after r
  end_made is means =
      goes_same (λ script. making_so script frames caller at of arguments answer method has_set p) (λ script. answering script frames p EndAnswer) after r (λ script table next.
      ap (λ a. making_so script frames caller at of arguments a method has_set p table next) is) means

-- the operation that makes an object
abbrev pub class_op : OneOp
class_op = record { no = 39; scope = 0; name = 0; value = NoneValue }

-- a state with so many steps left
state_with : Standing → ℕ → State
state_with s left = record { store = s.store; left = left; entered = s.entered; told = []; askings = s.askings; fetches = s.fetches }

pub walk_named : (at : Pos) (all : List Value) (first fits : Fits) (stood stands : Stands) (left rest : ℕ) (was is : Option (List Moment)) (answer : OneAnswer) (method : Option Pos) (has_set : Bool) → HasState first stood → Knew first fits
    → HasWalked {E = Memory} at class_op all left rest fits stood stands was is (Ok (Did answer method has_set)) → (table : ValuesView) (capture : Capture) → fits table capture → IsNamedAnswer table answer
unfolding state_with
walk_named at all first fits stood stands left rest was is answer method has_set state knew walked table capture fit =
    let s = state table capture (knew table capture fit) in
    (walked table capture fit (state_with s.0 left) s.1 refl).named

module _ (script : ScriptTree) (frames : FlowFrames) (caller : Caller) (at : Pos) (of : Value) (arguments : List Value) (p : Part) (all : List Value) (all_is : all ≡ of ∷ arguments) (after : FlowFrames) (fits : Fits) (stood stands : Stands)
    (left rest : ℕ) (was is : Option (List Moment)) where
  -- what follows the answer
  abbrev pub made_then : ValuesView → (Task → Act) → Bool → Option Pos → Answer → Act
  made_then table next is_exception method answer =
      to (by_answer (here_seen script table frames.spot) (ret normal)
      (λ o. made_act script next (here_seen script table frames.spot) at (contents table of) (map (contents table) arguments) o is_exception method (gives_object script frames caller.eval p table next o)) answer)
      (resumes script next (map (frame_seen script table) frames.below.items) (λ how. ret how))

  comes : (table : ValuesView) (capture : Capture) (s : State) (next : Task → Act) (h : Happened) → operation capture at (op_seen table class_op) (map (contents table) all) s ≡ h
      → outcome capture (calling_so script frames caller at (Class of) arguments p table next) s
      ≡ elim h [ did answer came t ↦ outcome capture (made_then table next came.is_exception came.method answer) t | too_dear t ↦ spent t | lacked t ↦ lacking t ]
  comes table capture s next h happened =
      ap (λ vs. outcome capture (perform at (op 39) (map (contents table) vs) (λ answer came. made_then table next came.is_exception came.method answer)) s) (sym all_is)
      ∙ came_out capture at (op 39) (map (contents table) all) (λ answer came. made_then table next came.is_exception came.method answer) s h happened

  pub too_dear_made : HasWalked {E = Memory} at class_op all left rest fits stood stands was is (Ok TooDear) → StepsFrom {E = Memory} script (calling_so script frames caller at (Class of) arguments p) after left rest fits stood stands was is (Ok Spent)
  too_dear_made walked table capture fit s stood_so steps n enough =
      let d = walked table capture fit s stood_so steps in
      record { next = d.next; comes_out = comes table capture s (level script n) (too_dear d.next) d.happened; stands_so = d.stands; left_is = d.left_is; told_is = d.told_is; tells = d.tells }

  pub unanswered_made : HasWalked {E = Memory} at class_op all left rest fits stood stands was is (Ok UnansweredWalk)
      → StepsFrom {E = Memory} script (calling_so script frames caller at (Class of) arguments p) after left rest fits stood stands was is (Ok Unanswered)
  unanswered_made walked table capture fit s stood_so steps n enough =
      let d = walked table capture fit s stood_so steps in
      record {
        next = d.next;
        comes_out = comes table capture s (level script n) (lacked d.next) d.happened;
        stands_so = d.stands;
        left_is = d.left_is;
        told_is = d.told_is;
        tells = d.tells;
      }

  cut_as : (table : ValuesView) (capture : Capture) (s : State) (n : ℕ) → WasCut at class_op all (stands table capture) was is table capture s
      → IsCut capture (calling_so script frames caller at (Class of) arguments p table (level script n)) s (stands table capture) was is
  cut_as table capture s n (nothing_happened refused same) = record {
    rest = calling_so script frames caller at (Class of) arguments p table (level script n);
    next = s;
    news = [];
    few = tt;
    comes_out = refl;
    told_is = refl;
    refused = interrupted capture at (op_seen table class_op) (map (contents table) all) (stands table capture) s refused;
    tells = told_still was is same;
  }
  cut_as table capture s n (not_told answer came next moment told happened holds same) = record {
    rest = made_then table (level script n) came.is_exception came.method (answer_seen table answer);
    next = next;
    news = moment ∷ [];
    few = tt;
    comes_out = comes table capture s (level script n) (did (answer_seen table answer) came next) happened;
    told_is = told;
    refused = unasked (stands table capture) next holds;
    tells = told_weaker was is _ _ (λ told more same. inl same) same;
  }

  pub cut_made : (want : Memory) → HasWalked at class_op all left rest fits stood stands was is (Err want) → StepsFrom script (calling_so script frames caller at (Class of) arguments p) after left rest fits stood stands was is (Err want)
  cut_made want walked table capture fit s stood_so steps n enough = cut_as table capture s n (walked table capture fit s stood_so steps)

  module _ (answer : OneAnswer) (method : Option Pos) (has_set : Bool) (walked : HasWalked {E = Memory} at class_op all left rest fits stood stands was is (Ok (Did answer method has_set))) where
    pub did_made : (r : Result FlowNext Memory) → GoesOnFrom (λ script. making_so script frames caller at of arguments answer method has_set p) after r
        → StepsFrom script (calling_so script frames caller at (Class of) arguments p) after left rest fits stood stands was is r
    did_made (Ok More) means = λ table capture fit s stood_so steps n enough.
        let d = walked table capture fit s stood_so steps in
        record {
          next = d.next;
          news = d.moment ∷ [];
          few = tt;
          comes_out =
              comes table capture s (level script n) (did (answer_seen table answer) d.came d.next) d.happened
              ∙ ap (λ e. outcome capture (made_then table (level script n) e d.came.method (answer_seen table answer)) d.next) d.exception_is
              ∙ ap (λ m. outcome capture (made_then table (level script n) has_set m (answer_seen table answer)) d.next) d.method_is
              ∙ ap (λ a. outcome capture a d.next) (means script table (level script n));
          told_is = d.told_is;
          stands_so = d.stands;
          left_is = d.left_is;
          tells = d.tells;
        }
    did_made (Err want) means = λ table capture fit s stood_so steps n enough.
        let d = walked table capture fit s stood_so steps in
        record {
          rest = made_then table (level script n) d.came.is_exception d.came.method (answer_seen table answer);
          next = d.next;
          news = d.moment ∷ [];
          few = tt;
          comes_out = comes table capture s (level script n) (did (answer_seen table answer) d.came d.next) d.happened;
          told_is = d.told_is;
          refused = unasked (stands table capture) d.next d.stands;
          tells = told_weaker was is _ _ (λ told more same. inr same) d.tells;
        }
    did_made (Ok Finished) means = absurd means
    did_made (Ok (Raised o line)) means = absurd means
    did_made (Ok Spent) means = absurd means
    did_made (Ok Unanswered) means = absurd means
