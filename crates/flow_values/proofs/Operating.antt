-- An operation of a statement is performed: what comes of it, for a run.
use Rattle.std.proofs.Common.{◌≡◌, ◌⊎◌, inl, inr, ℕ, List, [], ◌∷◌, ◌++◌, map, Option, Ok, Err, refl, ap, sym, ◌∙◌, subst}
use Rattle.prov_base.specs.declared.place.Pos.{Pos}
use Rattle.prov_base.specs.declared.refusal.Memory.{Memory}
use Rattle.py_tree.specs.Erasure.{form_of}
use Rattle.py_tree.specs.Tree.{ScriptTree}
use Rattle.py_value.specs.Contents.{Contents, contents}
use Rattle.py_value.specs.Values.{ValuesView}
use Rattle.py_value.specs.declared.value.Value.{Value}
use Rattle.py_model.specs.Act.{Act, Walked, ret, to, perform, normal}
use Rattle.py_model.specs.Capture.{Capture}
use Rattle.py_model.specs.Doing.{Standing, standing, Fits, Stands, Knew, ForEach}
use Rattle.py_model.specs.Expressions.{Task, by_answer}
use Rattle.py_model.specs.Meaning.{level}
use Rattle.py_model.specs.Moment.{Moment}
use Rattle.py_model.specs.Operations.{Op}
use Rattle.py_model.specs.Plan.{Answer}
use Rattle.py_model.specs.Running.{State, Happened, did, too_dear, lacked, operation, outcome, spent, lacking}
use Rattle.py_model.specs.Told.{answer_seen, op_seen, TellsOn, IsNamedAnswer}
use Rattle.py_model.specs.declared.moment.Answer.{Answer as OneAnswer}
use Rattle.py_model.specs.declared.moment.Op.{Op as OneOp}
use Rattle.interp_eval.specs.declared.frames.Scope.{Scope}
use Rattle.interp_eval.proofs.Steps.{interrupted}
use Rattle.interp_eval.specs.Performing.{HasState, HasPerformed, WasCut, nothing_happened, not_told}
use Rattle.interp_eval.specs.declared.performing.Came.TheVariants.{Did, TooDear, Unanswered as UnansweredCame}
use Rattle.flow_frames.specs.Machine.{resumes, then_act}
use Rattle.flow_frames.specs.Seen.{frame_seen, here_seen, stage_seen}
use Rattle.flow_frames.specs.declared.codes.Code.{Code}
use Rattle.flow_frames.specs.declared.control.Part.{Part}
use Rattle.flow_frames.specs.declared.frames.FlowFrames.{FlowFrames}
use Rattle.flow_values.specs.declared.next.FlowNext.TheVariants.{More, Spent, Unanswered}
use Rattle.flow_values.specs.Step.{IsCut, StepsFrom, meant}
use Rattle.flow_values.specs.Value.{IsCodeOp, operating}
use Rattle.flow_values.proofs.Stepping.{unasked, told_weaker, told_same}

pub came_out : (capture : Capture) (at : Pos) (what : Op) (values : List Contents) (go : Answer → Walked → Act) (s : State) (h : Happened) → operation capture at what values s ≡ h
    → outcome capture (perform at what values go) s ≡ elim h [ did answer came t ↦ outcome capture (go answer came) t | too_dear t ↦ spent t | lacked t ↦ lacking t ]
came_out capture at what values go s h is = ap (λ h. elim h [ did answer came t ↦ outcome capture (go answer came) t | too_dear t ↦ spent t | lacked t ↦ lacking t ]) is

pub told_still : (was is : Option (List Moment)) → is ≡ was → TellsOn was is (λ told more. (more ≡ told) ⊎ (more ≡ [] ++ told))
told_still was is same = subst (λ is. TellsOn was is (λ told more. (more ≡ told) ⊎ (more ≡ [] ++ told))) (sym same) (told_weaker was was _ _ (λ told more same. inl same) (told_same was))

module _ (script : ScriptTree) (frames : FlowFrames) (at : Pos) (code : Code) (values : List Value) (p : Part) (op : OneOp) (after : FlowFrames) (first last : Fits) (stood between stands : Stands) (left rest : ℕ)
    (was is : Option (List Moment)) (knew : Knew first last) (made : ForEach first stood (λ table capture s. IsCodeOp script frames.spot.scope code op (between table capture) table s)) where
  -- what follows the answer
  abbrev pub answers : ValuesView → (Task → Act) → Answer → Act
  answers table next answer =
      to (by_answer (here_seen script table frames.spot) (ret normal) (then_act script next (here_seen script table frames.spot) p.stmt.now.pos (form_of p.stmt.now.form.value) (stage_seen table p.stage)) answer)
      (resumes script next (map (frame_seen script table) frames.below.items) (λ how. ret how))

  comes : (table : ValuesView) (capture : Capture) (s : State) (next : Task → Act) (h : Happened) → IsCodeOp script frames.spot.scope code op (between table capture) table s
      → operation capture at (op_seen table op) (map (contents table) values) s ≡ h
      → outcome capture (operating script frames at code values p table next) s ≡ elim h [ did answer came t ↦ outcome capture (answers table next answer) t | too_dear t ↦ spent t | lacked t ↦ lacking t ]
  comes table capture s next h known happened =
      ap (λ what. outcome capture (perform at what (map (contents table) values) (λ answer came. answers table next answer)) s) (sym (known.means (here_seen script table frames.spot) (record { activation_is = refl; function_is = refl })))
      ∙ came_out capture at (op_seen table op) (map (contents table) values) (λ answer came. answers table next answer) s h happened

  pub too_dear_from : HasPerformed {E = Memory} at op values left rest last between stands was is (Ok TooDear) → StepsFrom {E = Memory} script (operating script frames at code values p) after left rest last stood stands was is (Ok Spent)
  too_dear_from performed table capture fit s stood_so steps n enough =
      let known = made table capture (knew table capture fit) s stood_so in
      let d = performed table capture fit s known.stands steps in
      record { next = d.next; comes_out = comes table capture s (level script n) (too_dear d.next) known d.happened; stands_so = d.stands; left_is = d.left_is; told_is = d.told_is; tells = d.tells }

  pub unanswered_from : HasPerformed {E = Memory} at op values left rest last between stands was is (Ok UnansweredCame)
      → StepsFrom {E = Memory} script (operating script frames at code values p) after left rest last stood stands was is (Ok Unanswered)
  unanswered_from performed table capture fit s stood_so steps n enough =
      let known = made table capture (knew table capture fit) s stood_so in
      let d = performed table capture fit s known.stands steps in
      record {
        next = d.next;
        comes_out = comes table capture s (level script n) (lacked d.next) known d.happened;
        stands_so = d.stands;
        left_is = d.left_is;
        told_is = d.told_is;
        tells = d.tells;
      }

  cut_as : (table : ValuesView) (capture : Capture) (s : State) (n : ℕ) → IsCodeOp script frames.spot.scope code op (between table capture) table s → WasCut at op values (stands table capture) was is table capture s
      → IsCut capture (operating script frames at code values p table (level script n)) s (stands table capture) was is
  cut_as table capture s n known (nothing_happened refused same) =
      record { rest = operating script frames at code values p table (level script n); next = s; news = []; few = tt; comes_out = refl; told_is = refl; refused = interrupted capture at (op_seen table op) (map (contents table) values) (stands table capture) s refused; tells = told_still was is same }
  cut_as table capture s n known (not_told answer came next moment told happened holds same) = record {
    rest = answers table (level script n) (answer_seen table answer);
    next = next;
    news = moment ∷ [];
    few = tt;
    comes_out = comes table capture s (level script n) (did (answer_seen table answer) came next) known happened;
    told_is = told;
    refused = unasked (stands table capture) next holds;
    tells = told_weaker was is _ _ (λ told more same. inl same) same;
  }

  pub cut_performed : (want : Memory) → HasPerformed at op values left rest last between stands was is (Err want) → StepsFrom script (operating script frames at code values p) after left rest last stood stands was is (Err want)
  cut_performed want performed table capture fit s stood_so steps n enough =
      let known = made table capture (knew table capture fit) s stood_so in
      cut_as table capture s n known (performed table capture fit s known.stands steps)

  module _ (answer : OneAnswer) (method : Option Pos) (performed : HasPerformed {E = Memory} at op values left rest last between stands was is (Ok (Did answer method))) where
    pub did_from : ((script : ScriptTree) (next : Task → Act) (table : ValuesView)
        → to (by_answer (here_seen script table frames.spot) (ret normal) (then_act script next (here_seen script table frames.spot) p.stmt.now.pos (form_of p.stmt.now.form.value) (stage_seen table p.stage)) (answer_seen table answer))
        (resumes script next (map (frame_seen script table) frames.below.items) (λ how. ret how)) ≡ meant script after table next)
        → StepsFrom {E = Memory} script (operating script frames at code values p) after left rest last stood stands was is (Ok More)
    did_from took table capture fit s stood_so steps n enough =
        let known = made table capture (knew table capture fit) s stood_so in
        let d = performed table capture fit s known.stands steps in
        record {
          next = d.next;
          news = d.moment ∷ [];
          few = tt;
          comes_out = comes table capture s (level script n) (did (answer_seen table answer) d.came d.next) known d.happened ∙ ap (λ a. outcome capture a d.next) (took script (level script n) table);
          told_is = d.told_is;
          stands_so = d.stands;
          left_is = d.left_is;
          tells = d.tells;
        }

    pub cut_taking : (want : Memory) → StepsFrom script (operating script frames at code values p) after left rest last stood stands was is (Err want)
    cut_taking want table capture fit s stood_so steps n enough =
        let known = made table capture (knew table capture fit) s stood_so in
        let d = performed table capture fit s known.stands steps in
        record {
          rest = answers table (level script n) (answer_seen table answer);
          next = d.next;
          news = d.moment ∷ [];
          few = tt;
          comes_out = comes table capture s (level script n) (did (answer_seen table answer) d.came d.next) known d.happened;
          told_is = d.told_is;
          refused = unasked (stands table capture) d.next d.stands;
          tells = told_weaker was is _ _ (λ told more same. inr same) d.tells;
        }

-- a state, with no steps left
state_with : Standing → ℕ → State
state_with s left = record { store = s.store; left = left; entered = s.entered; told = []; askings = s.askings; fetches = s.fetches }

pub code_state : (script : ScriptTree) (scope : Scope) (code : Code) (op : OneOp) (first last : Fits) (stood between : Stands) → Knew first last → HasState first stood
    → ForEach last stood (λ table capture s. IsCodeOp script scope code op (between table capture) table s) → HasState last between
unfolding state_with
code_state script scope code op first last stood between knew state made table capture fit =
    let s = state table capture (knew table capture fit) in
    (s.0, (made table capture fit (state_with s.0 0) s.1).stands)

pub made_cut : (script : ScriptTree) (frames : FlowFrames) (at : Pos) (code : Code) (values : List Value) (p : Part) (table : ValuesView) (capture : Capture) (s : State) (n : ℕ) (stands : Standing → Type 0) (was : Option (List Moment))
    → stands (standing s) → IsCut capture (operating script frames at code values p table (level script n)) s stands was was
made_cut script frames at code values p table capture s n stands was holds =
    record { rest = operating script frames at code values p table (level script n); next = s; news = []; few = tt; comes_out = refl; told_is = refl; refused = unasked stands s holds; tells = told_still was was refl }

pub happened_named : (script : ScriptTree) (frames : FlowFrames) (at : Pos) (code : Code) (values : List Value) (p : Part) (op : OneOp) (after : FlowFrames) (first last : Fits) (stood between stands : Stands) (left rest : ℕ)
    (was is : Option (List Moment)) (knew : Knew first last) (made : ForEach first stood (λ table capture s. IsCodeOp script frames.spot.scope code op (between table capture) table s)) (answer : OneAnswer) (method : Option Pos)
    {zeroth : Fits} → HasState zeroth stood → Knew zeroth first → HasPerformed {E = Memory} at op values left rest last between stands was is (Ok (Did answer method))
    → (table : ValuesView) (capture : Capture) → last table capture → IsNamedAnswer table answer
unfolding state_with
happened_named script frames at code values p op after first last stood between stands left rest was is knew made answer method state known performed table capture fit =
    let s = state table capture (known table capture (knew table capture fit)) in
    let here = made table capture (knew table capture fit) (state_with s.0 left) s.1 in
    (performed table capture fit (state_with s.0 left) here.stands refl).named
