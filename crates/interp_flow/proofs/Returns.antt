-- An activation is left: what comes of it, for a run.
use Rattle.std.proofs.Common.{◌≡◌, ℕ, List, [], ◌∷◌, map, Option, Some, None, Result, Ok, Err, refl, ap, sym, ◌∙◌, inr}
use Rattle.std.specs.Prelude.{⊤, unwrap_or}
use Rattle.std.specs.Option.{option_map}
use Rattle.prov_base.specs.declared.refusal.Memory.{Memory}
use Rattle.py_tree.specs.Tree.{ScriptTree}
use Rattle.py_value.specs.Contents.{Contents, contents, nothing}
use Rattle.py_value.specs.Values.{ValuesView, IsNamed}
use Rattle.py_value.specs.declared.value.Value.{Value}
use Rattle.py_value.specs.declared.value.Value.TheVariants.{None as NoneValue}
use Rattle.py_model.specs.Act.{Act, leave, ret, threw, to}
use Rattle.py_model.specs.Capture.{Capture}
use Rattle.py_model.specs.Doing.{Standing, Fits, Stands, ForEach}
use Rattle.py_model.specs.Expressions.{Task, value_of_how}
use Rattle.py_model.specs.Meaning.{level}
use Rattle.py_model.specs.Moment.{Moment, leaves}
use Rattle.py_model.specs.Running.{State, outcome, tell}
use Rattle.py_tree.specs.Erasure.{form_of}
use Rattle.interp_eval.specs.Seen.{machine_seen}
use Rattle.interp_eval.specs.Step.{given}
use Rattle.interp_eval.specs.declared.frames.EvalFrames.{EvalFrames}
use Rattle.flow_frames.specs.Held.{IsHeldMade}
use Rattle.flow_frames.specs.Machine.{gives_back, resumes, then_act}
use Rattle.flow_frames.specs.Seen.{end_seen, frame_seen, here_seen, stage_seen}
use Rattle.flow_frames.specs.declared.control.End.{End}
use Rattle.flow_frames.specs.Telling.{WasTold}
use Rattle.flow_frames.specs.declared.control.End.TheVariants.{Normal, Broke, Continued, Returned, Threw}
use Rattle.flow_frames.specs.declared.control.Now.TheVariants.{Ended}
use Rattle.flow_frames.specs.declared.control.Part.{Part}
use Rattle.flow_frames.specs.declared.frames.FlowFrames.{FlowFrames}
use Rattle.flow_calls.specs.Calling.{HasLeft}
use Rattle.flow_values.specs.declared.next.FlowNext.{FlowNext}
use Rattle.flow_values.specs.declared.next.FlowNext.TheVariants.{More, Finished, Raised, Spent, Unanswered}
use Rattle.flow_values.specs.Step.{IsOn, IsCut, Before, StepsFrom, meant}
use Rattle.flow_values.specs.Value.{GoesOnFrom, evaluating, resuming, returning, throwing}
use Rattle.flow_values.proofs.Fronts.{goes_on}
use Rattle.flow_values.proofs.Stepping.{not_told, told_weaker, unasked}

module _ (capture : Capture) (before after : Act) (s : State) (left : ℕ) (stands : Standing → Type 0) (was is : Option (List Moment)) (v : Contents) (same : before ≡ leave v after) (told : WasTold (leaves v) stands was is s) where
  left_on : s.left ≡ left → (later : Act) → after ≡ later → IsOn capture before later s left stands was is
  left_on steps later on = record {
    next = tell (leaves v) s;
    news = leaves v ∷ [];
    few = tt;
    comes_out = ap (λ a. outcome capture a s) same ∙ ap (λ a. outcome capture a (tell (leaves v) s)) on;
    told_is = refl;
    stands_so = told.stands;
    left_is = steps;
    tells = told.tells;
  }

  left_cut : IsCut capture before s stands was is
  left_cut = record {
    rest = after;
    next = tell (leaves v) s;
    news = leaves v ∷ [];
    few = tt;
    comes_out = ap (λ a. outcome capture a s) same;
    told_is = refl;
    refused = unasked stands (tell (leaves v) s) told.stands;
    tells = told_weaker was is _ _ (λ told more same. inr same) told.tells;
  }

-- nothing was told
pub untold_from : (script : ScriptTree) (b : Before) (v : Value) (after : FlowFrames) (left : ℕ) (fits : Fits) (stood stands : Stands) (was is : Option (List Moment)) (want : Memory)
    → HasLeft {T = Unit {0}} {E = Memory} v fits stood stands was is (Err want) → StepsFrom script b after left left fits stood stands was is (Err want)
untold_from script b v after left fits stood stands was is want known = λ table capture fit s stood_so steps n enough.
    not_told capture (b table (level script n)) (b table (level script n)) s left left (stands table capture) was is (known table capture fit s stood_so)

-- an exception goes on to the caller
pub thrown_from : (script : ScriptTree) (frames after : FlowFrames) (o line left : ℕ) (fits : Fits) (stood stands : Stands) (was is : Option (List Moment))
    → ForEach fits stood (λ table capture s. WasTold (leaves (contents table NoneValue)) (stands table capture) was is s)
    → ((table : ValuesView) (next : Task → Act) → throwing script frames o line table next ≡ leave nothing (meant script after table next))
    → StepsFrom {E = Memory} script (throwing script frames o line) after left left fits stood stands was is (Ok More)
thrown_from script frames after o line left fits stood stands was is told same = λ table capture fit s stood_so steps n enough.
    left_on capture (throwing script frames o line table (level script n)) (meant script after table (level script n)) s left (stands table capture) was is nothing (same table (level script n)) (told table capture fit s stood_so) steps
    (meant script after table (level script n)) refl

pub throws_on : (script : ScriptTree) (frames : FlowFrames) (o line : ℕ) (table : ValuesView) (next : Task → Act)
    → throwing script frames o line table next ≡ leave nothing (meant script (record frames { now = Ended (Threw o line) }) table next)
throws_on script frames o line table next = ap (leave nothing) (goes_on script next table frames (record frames { now = Ended (Threw o line) }) (ret (threw o line)) refl refl)

module _ (script : ScriptTree) (frames : FlowFrames) (eval gone : EvalFrames) (made : Option Value) (p : Part) (v : Value) (after : FlowFrames) (left : ℕ) (fits : Fits) (stood stands : Stands) (was is : Option (List Moment))
    (gives : gone ≡ given (unwrap_or made v) eval)
    (told : ForEach fits stood (λ table capture s. WasTold (leaves (contents table v)) (stands table capture) was is s)) where
  -- the expression goes on with the value
  pub resumed_from : (result : Result FlowNext Memory) → GoesOnFrom (λ script. evaluating script frames gone p) after result → StepsFrom script (resuming script frames eval made p v) after left left fits stood stands was is result
  resumed_from (Ok More) means = λ table capture fit s stood_so steps n enough.
      left_on capture (resuming script frames eval made p v table (level script n)) (evaluating script frames (given (unwrap_or made v) eval) p table (level script n)) s left (stands table capture) was is (contents table v) refl (told table capture fit s stood_so) steps
      (meant script after table (level script n)) (ap (λ g. evaluating script frames g p table (level script n)) (sym gives) ∙ means script table (level script n))
  resumed_from (Err want) means = λ table capture fit s stood_so steps n enough.
      left_cut capture (resuming script frames eval made p v table (level script n)) (evaluating script frames (given (unwrap_or made v) eval) p table (level script n)) s left (stands table capture) was is (contents table v) refl (told table capture fit s stood_so)
  resumed_from (Ok Finished) means = absurd means
  resumed_from (Ok (Raised o line)) means = absurd means
  resumed_from (Ok Spent) means = absurd means
  resumed_from (Ok Unanswered) means = absurd means

-- an end that is no exception gives a value
abbrev pub GivesValue : End → Type 0
GivesValue (Threw o line) = ⊥
GivesValue end = ⊤

-- the value of the call is what was made for it, and else what the function returns
gives_value : (script : ScriptTree) (frames : FlowFrames) (eval : EvalFrames) (made : Option Value) (p : Part) (v : Value) (table : ValuesView) (next : Task → Act)
    → leave (contents table v) (to (gives_back script next (here_seen script table frames.spot) (machine_seen table eval) (then_act script next (here_seen script table frames.spot) p.stmt.now.pos (form_of p.stmt.now.form.value) (stage_seen table p.stage))
    (option_map (contents table) made) (contents table v)) (resumes script next (map (frame_seen script table) frames.below.items) (λ how. ret how)))
    ≡ resuming script frames eval made p v table next
gives_value script frames eval None p v table next = refl
gives_value script frames eval (Some o) p v table next = refl

-- what is made for a call and what a function returns are named
pub call_named : (table : ValuesView) (made : Option Value) (v : Value) → IsHeldMade table made → IsNamed table v → IsNamed table (unwrap_or made v)
call_named table None v held named = named
call_named table (Some o) v held named = held

module _ (script : ScriptTree) (frames : FlowFrames) (eval : EvalFrames) (made : Option Value) (p : Part) (v : Value) (table : ValuesView) (next : Task → Act) where
  abbrev pub with_value : Contents → Act
  with_value w =
      leave w (to (gives_back script next (here_seen script table frames.spot) (machine_seen table eval) (then_act script next (here_seen script table frames.spot) p.stmt.now.pos (form_of p.stmt.now.form.value) (stage_seen table p.stage)) (option_map (contents table) made) w)
      (resumes script next (map (frame_seen script table) frames.below.items) (λ how. ret how)))

  value_so : (w : Contents) → contents table v ≡ w → with_value w ≡ resuming script frames eval made p v table next
  value_so w is = ap with_value (sym is) ∙ gives_value script frames eval made p v table next

  by_end : (end : End) → GivesValue end → contents table v ≡ value_of_how (end_seen table end) → returning script frames eval made p end table next ≡ resuming script frames eval made p v table next
  by_end Normal gives is = value_so nothing is
  by_end Broke gives is = value_so nothing is
  by_end Continued gives is = value_so nothing is
  by_end (Returned u) gives is = value_so (contents table u) is
  by_end (Threw o line) gives is = absurd gives

  pub resumes_so : (end found : End) → end ≡ found → GivesValue found → contents table v ≡ value_of_how (end_seen table end) → returning script frames eval made p end table next ≡ resuming script frames eval made p v table next
  resumes_so end found is gives value_is =
      ap (λ e. returning script frames eval made p e table next) is ∙ by_end found gives (value_is ∙ ap (λ e. value_of_how (end_seen table e)) is)
