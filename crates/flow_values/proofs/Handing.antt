-- A call that a step of an expression came to is the call that waits.
use Rattle.std.proofs.Common.{◌≡◌, ◌∷◌, [], Bool, true, false, List, Option, Some, None, Result, Ok, Err, refl, ap, sym, ◌∙◌, subst}
use Rattle.std.specs.Prelude.{⊤}
use Rattle.prov_base.specs.declared.refusal.Memory.{Memory}
use Rattle.std.proofs.Math.Path.{fun_ext}
use Rattle.prov_base.specs.declared.place.Pos.{Pos}
use Rattle.py_tree.specs.Tree.{ScriptTree}
use Rattle.py_value.specs.Contents.{Contents, contents, nothing, function, class, exception_class}
use Rattle.py_value.specs.Values.{ValuesView, IsNamed}
use Rattle.py_value.specs.declared.value.Value.{Value}
use Rattle.py_value.specs.declared.value.Value.TheVariants.{None as NoneValue, Bool as TruthValue, Int as IntValue, Text as TextValue, Tuple as TupleValue, Range as RangeValue, Fn as FnValue, Class as ClassValue, Exc as ExcValue, Builtin as BuiltinValue, Object as ObjectValue}
use Rattle.py_model.specs.Act.{Act, Walked, perform}
use Rattle.py_model.specs.Expressions.{Here, Task, calling, calling_class, calling_function, giving, initialising, op, walking, without_init}
use Rattle.py_tree.specs.Functions.{function_at}
use Rattle.py_model.specs.Plan.{value}
use Rattle.interp_eval.specs.Machine.{Machine, remains}
use Rattle.interp_eval.specs.Seen.{machine_seen}
use Rattle.interp_eval.specs.Step.{given, remaining}
use Rattle.interp_eval.specs.declared.frames.EvalFrames.{EvalFrames}
use Rattle.flow_frames.specs.Machine.{call_act, given_to, made_act, without_method}
use Rattle.flow_frames.specs.Seen.{callee_seen}
use Rattle.flow_frames.specs.declared.control.Callee.{Callee}
use Rattle.flow_frames.specs.declared.control.Callee.TheVariants.{Function, Class}
use Rattle.flow_frames.specs.Held.{IsHeldCallee}
use Rattle.flow_frames.specs.declared.control.Caller.{Caller}
use Rattle.flow_frames.specs.declared.control.Part.{Part}
use Rattle.flow_frames.specs.declared.frames.FlowFrames.{FlowFrames}
use Rattle.flow_values.specs.Calls.{IsHandedOver, callee_for, calling_so}
use Rattle.flow_values.specs.Value.{GoesOnFrom}
use Rattle.flow_values.specs.declared.next.FlowNext.{FlowNext}
use Rattle.flow_values.specs.declared.next.FlowNext.TheVariants.{More, Finished, Raised, Spent, Unanswered}

-- the place of what is performed, and what follows a value of it
place_of : Pos → Act → Pos
place_of at (perform place what values follows) = place
place_of at a = at

some_walked : Walked
some_walked = record { method = None; is_exception = false }

follows_of : Contents → Act → Act
follows_of v (perform place what values follows) = follows (value v) some_walked
follows_of v a = a

module _ (script : ScriptTree) (next : Task → Act) (here : Here) where
  -- Where `give` of one value is what remains, it is so of each.
  given_all : (m : Machine) (go : Contents → Act) (at : Pos) (follows : Contents → Act) → remains script next here (given_to m nothing) go ≡ giving script next here at follows nothing
      → (v : Contents) → giving script next here at follows v ≡ remains script next here (given_to m v) go
  unfolding remains place_of follows_of some_walked
  given_all m go at follows is v =
      ap (λ (place : Pos). giving script next here place follows v) (sym (ap (place_of at) is))
      ∙ ap (λ (f : Contents → Act). giving script next here m.top.node.at f v) (fun_ext (λ w. sym (ap (follows_of w) is)))

  pub gives_all : (table : ValuesView) (eval : EvalFrames) (go : Contents → Act) (at : Pos) (follows : Contents → Act)
      → ((v : Value) → remaining script next here go table (given v eval) ≡ giving script next here at follows (contents table v))
      → (v : Contents) → giving script next here at follows v ≡ remains script next here (given_to (machine_seen table eval) v) go
  gives_all table eval go at follows resumes v = given_all (machine_seen table eval) go at follows (resumes NoneValue) v

  module _ (m : Machine) (go : Contents → Act) (at : Pos) (follows : Contents → Act) (same : (v : Contents) → giving script next here at follows v ≡ remains script next here (given_to m v) go) where
    without_so : (of o : Contents) (values : List Contents) (is_exception : Bool)
        → without_init script next here at of values o is_exception follows ≡ without_method script next here at of values is_exception (remains script next here (given_to m o) go)
    without_so of o values true = same o
    without_so of o [] false = same o
    without_so of o (v ∷ values) false = refl

    initial_so : (of o : Contents) (values : List Contents) (is_exception : Bool) (method : Option Pos)
        → initialising script next here at of values o is_exception method follows ≡ made_act script next here at of values o is_exception method (remains script next here (given_to m o) go)
    initial_so of o values is_exception None = without_so of o values is_exception
    initial_so of o values is_exception (Some init) =
        ap (λ a. calling_function script next here at (function init) (function_at script init) (o ∷ values) (λ v. a)) (same o)

    class_so : (of : Contents) (values : List Contents)
        → calling_class script next here at of values follows
        ≡ walking here at (op 39) (of ∷ values) (λ o walked. made_act script next here at of values o walked.is_exception walked.method (remains script next here (given_to m o) go))
    class_so of values = ap (walking here at (op 39) (of ∷ values)) (fun_ext (λ o. fun_ext (λ walked. initial_so of o values walked.is_exception walked.method)))

    pub calls_so : (table : ValuesView) (f : Value) (callee : Callee) (values : List Contents) → callee_for f ≡ Some callee
        → calling script next here at (contents table f) values follows ≡ call_act script next here m None at (callee_seen table callee) values go
    calls_so table (FnValue place) callee values is =
        ap (calling_function script next here at (function place) (function_at script place) values) (fun_ext same)
        ∙ ap (λ c. call_act script next here m None at (callee_seen table c) values go) (same_callee (Function place) callee is)
      where
        same_callee : (c d : Callee) → Some c ≡ Some d → c ≡ d
        same_callee c d is = cc
    calls_so table (ClassValue place) callee values is =
        class_so (class place) values ∙ ap (λ c. call_act script next here m None at (callee_seen table c) values go) (same_callee (Class (ClassValue place)) callee is)
      where
        same_callee : (c d : Callee) → Some c ≡ Some d → c ≡ d
        same_callee c d is = cc
    calls_so table (ExcValue number) callee values is =
        class_so (exception_class number) values ∙ ap (λ c. call_act script next here m None at (callee_seen table c) values go) (same_callee (Class (ExcValue number)) callee is)
      where
        same_callee : (c d : Callee) → Some c ≡ Some d → c ≡ d
        same_callee c d is = cc
    calls_so table NoneValue callee values is = absurd cc
    calls_so table (TruthValue b) callee values is = absurd cc
    calls_so table (IntValue i) callee values is = absurd cc
    calls_so table (TextValue n) callee values is = absurd cc
    calls_so table (TupleValue n) callee values is = absurd cc
    calls_so table (RangeValue a b c) callee values is = absurd cc
    calls_so table (BuiltinValue n) callee values is = absurd cc
    calls_so table (ObjectValue o) callee values is = absurd cc

abbrev pub IsHeldOption : ValuesView → Option Callee → Type 0
IsHeldOption table None = ⊤
IsHeldOption table (Some callee) = IsHeldCallee table callee

-- so a call that was handed over waits
pub handed_over : (f : Value) (arguments : List Value) (at : Pos) (eval : EvalFrames) (p : Part) (before after : FlowFrames) (caller : Caller) (callee : Callee) (r : Result FlowNext Memory) → callee_for f ≡ Some callee
    → caller ≡ record { eval = eval; made = None } → GoesOnFrom (λ script. calling_so script before caller at callee arguments p) after r → IsHandedOver f arguments at eval p before after r
handed_over f arguments at eval p before after caller callee (Ok More) is same means =
    record { callee = callee; callee_is = is; means = λ script table next. ap (λ (o : Caller). calling_so script before o at callee arguments p table next) (sym same) ∙ means script table next }
handed_over f arguments at eval p before after caller callee (Err want) is same means = tt
handed_over f arguments at eval p before after caller callee (Ok Finished) is same means = absurd means
handed_over f arguments at eval p before after caller callee (Ok (Raised o line)) is same means = absurd means
handed_over f arguments at eval p before after caller callee (Ok Spent) is same means = absurd means
handed_over f arguments at eval p before after caller callee (Ok Unanswered) is same means = absurd means

-- what is called is named where the value is
pub callee_named : (table : ValuesView) (f : Value) (callee : Callee) → callee_for f ≡ Some callee → IsNamed table f → IsHeldCallee table callee
callee_named table (FnValue place) callee is named = subst (λ o. IsHeldOption table o) is tt
callee_named table (ClassValue place) callee is named = subst (λ o. IsHeldOption table o) is named
callee_named table (ExcValue number) callee is named = subst (λ o. IsHeldOption table o) is named
callee_named table NoneValue callee is named = absurd cc
callee_named table (TruthValue b) callee is named = absurd cc
callee_named table (IntValue i) callee is named = absurd cc
callee_named table (TextValue n) callee is named = absurd cc
callee_named table (TupleValue n) callee is named = absurd cc
callee_named table (RangeValue a b c) callee is named = absurd cc
callee_named table (BuiltinValue n) callee is named = absurd cc
callee_named table (ObjectValue o) callee is named = absurd cc
