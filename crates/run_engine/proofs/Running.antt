-- What a run has come to so far, from its start to its last step.
use Rattle.std.proofs.Common.{◌≡◌, ◌⊎◌, inl, refl, sym, ap, subst, ◌∙◌, arith, ℕ, suc, ◌≤◌, List, [], ◌++◌, Option, Some, None, Result, Ok, Err}
use Rattle.flow_frames.specs.Held.{IsHeldFlow, IsHeldBy}
use Rattle.flow_frames.specs.Machine.{remaining}
use Rattle.flow_frames.specs.Seen.{flow_seen}
use Rattle.flow_frames.specs.declared.frames.FlowFrames.{FlowFrames}
use Rattle.interp_eval.specs.Performing.{HasState}
use Rattle.flow_values.proofs.Outcomes.{and_then, outcome_to}
use Rattle.flow_values.specs.Step.{Steps, HoldsNext, meant}
use Rattle.flow_values.specs.declared.next.FlowNext.{FlowNext}
use Rattle.flow_values.specs.declared.next.FlowNext.TheVariants.{More}
use Rattle.prov_base.specs.declared.refusal.Memory.{Memory}
use Rattle.py_model.specs.Act.{Act, ret, to}
use Rattle.py_model.specs.Capture.{Capture}
use Rattle.py_model.specs.Doing.{Fits, Stands, ForEach, Knew}
use Rattle.py_model.specs.Expressions.{Task}
use Rattle.py_model.specs.Meaning.{level, meaning, at_start}
use Rattle.py_model.specs.Moment.{Moment}
use Rattle.py_model.specs.Running.{Ended, over, spent, lacking, outcome}
use Rattle.py_model.specs.Statements.{suite}
use Rattle.py_model.specs.Told.{TellsOn}
use Rattle.py_tree.specs.Tree.{ScriptTree}
use Rattle.py_value.specs.Values.{ValuesView}
use Rattle.run_engine.proofs.Joined.{HasGone, on_more, last_step, cut_here}
use Rattle.run_engine.specs.Run.{Runs}

-- what comes out behind nothing
ended_same : (capture : Capture) (e : Ended) → and_then capture (λ how. ret how) e ≡ e
ended_same capture (over how s) = refl
ended_same capture (spent s) = refl
ended_same capture (lacking s) = refl

nothing_told : (was : Option (List Moment)) → TellsOn was was (λ told more. more ≡ [] ++ told)
nothing_told None = tt
nothing_told (Some told) = refl

-- So far a run began so, and stands here, with these frames.
pub record IsSoFar (script : ScriptTree) (frames : FlowFrames) (steps left : ℕ) (began fits : Fits) (stood stands : Stands) (was is : Option (List Moment)) : Type 0 where
  pub knew : Knew began fits
  pub state : HasState fits stands
  pub held : IsHeldBy fits frames
  pub so_far : ForEach fits stood (λ table capture s. s.left ≡ steps → HasGone capture (meaning script steps) (meant script frames table (level script (suc steps))) s left (stands table capture) was is)

pub begun : (script : ScriptTree) (frames : FlowFrames) (steps : ℕ) (fits : Fits) (stands : Stands) (was : Option (List Moment)) → HasState fits stands
    → ((next : Task → Act) (table : ValuesView) → remaining script next (flow_seen script table frames) ≡ to (suite script next at_start script.body) (λ how. ret how))
    → ((table : ValuesView) → IsHeldFlow table frames) → IsSoFar script frames steps steps fits fits stands stands was was
begun script frames steps fits stands was state means held = record {
  knew = λ table capture fit. fit;
  state = state;
  held = λ table capture fit. held table;
  so_far = λ table capture fit s stood left. record {
    next = s;
    news = [];
    comes_out = sym (ap (λ a. outcome capture a s) (means (level script (suc steps)) table)
        ∙ (outcome_to capture (λ how. ret how) (suite script (level script (suc steps)) at_start script.body) s ∙ ended_same capture _));
    told_is = refl;
    stands_so = stood;
    left_is = left;
    tells = nothing_told was;
  };
}

module _ (script : ScriptTree) (before after : FlowFrames) (steps left rest : ℕ) (began fits fitting : Fits) (stood stands standing_so : Stands) (was mid is : Option (List Moment))
    (so : IsSoFar script before steps left began fits stood stands was mid) (within : left ≤ steps) (known : Knew fits fitting) where
  -- one step more
  pub on : (r : Result FlowNext Memory) → r ≡ Ok More → HasState fitting standing_so → HoldsNext fitting after r → Steps script before after left rest fitting stands standing_so mid is r
      → IsSoFar script after steps rest began fitting stood standing_so was is
  on r more state held_then stepped =
      let held : HoldsNext {E = Memory} fitting after (Ok More) = subst (λ r. HoldsNext fitting after r) more held_then in
      let step : Steps {E = Memory} script before after left rest fitting stands standing_so mid is (Ok More) = subst (λ r. Steps script before after left rest fitting stands standing_so mid is r) more stepped in
      record {
        knew = λ table capture fit. so.knew table capture (known table capture fit);
        state = state;
        held = held;
        so_far = λ table capture fit s st left_is.
            let first = so.so_far table capture (known table capture fit) s st left_is in
            on_more script (level script (suc steps)) capture (meaning script steps) _ s left (stands table capture) was mid first _ rest (standing_so table capture) is
            (step table capture fit first.next first.stands_so first.left_is (suc steps) (omega (arith, within)));
      }

  -- the last step
  pub ends_so : (r : Result FlowNext Memory) → (r ≡ Ok More → ⊥) → Steps script before after left rest fitting stands standing_so mid is r → Runs script steps rest fitting stood standing_so was is r
  ends_so r other step = λ table capture fit s st left_is.
      let first = so.so_far table capture (known table capture fit) s st left_is in
      last_step script (level script (suc steps)) capture (meaning script steps) _ s left (stands table capture) was mid first after rest (standing_so table capture) is table r other
      (step table capture fit first.next first.stands_so first.left_is (suc steps) (omega (arith, within)))

  abbrev made : Result FlowNext Memory → FlowNext → FlowNext
  made (Ok next) other = next
  made (Err want) other = other

  pub ends_ok : (r : Result FlowNext Memory) (next : FlowNext) → r ≡ Ok next → (next ≡ More → ⊥) → Steps script before after left rest fitting stands standing_so mid is r
      → Runs {E = Memory} script steps rest fitting stood standing_so was is (Ok next)
  ends_ok r next same other step = ends_so (Ok next) (λ more. other (ap (λ r. made r next) more)) (subst (λ r. Steps script before after left rest fitting stands standing_so mid is r) same step)

  pub ends_err : (r : Result FlowNext Memory) (want : Memory) → r ≡ Err want → Steps script before after left rest fitting stands standing_so mid is r
      → Runs script steps rest fitting stood standing_so was is (Err want)
  ends_err r want same step = ends_so (Err want) (λ more. cc more) (subst (λ r. Steps script before after left rest fitting stands standing_so mid is r) same step)

-- nothing more is done
pub stops : (script : ScriptTree) (frames : FlowFrames) (steps left rest : ℕ) (began fits : Fits) (stood stands : Stands) (was is : Option (List Moment))
    → IsSoFar script frames steps left began fits stood stands was is → (want : Memory) → Runs script steps rest fits stood stands was is (Err want)
stops script frames steps left rest began fits stood stands was is so want = λ table capture fit s st left_is.
    cut_here script (level script (suc steps)) capture (meaning script steps) _ s left (stands table capture) was is (so.so_far table capture fit s st left_is) rest want

-- nothing is done
pub not_begun : (script : ScriptTree) (steps rest : ℕ) (fits : Fits) (stands : Stands) (was : Option (List Moment)) (want : Memory) → Runs script steps rest fits stands stands was was (Err want)
not_begun script steps rest fits stands was want = λ table capture fit s st left_is. record {
  rest = meaning script steps;
  next = s;
  news = [];
  last = [];
  few = tt;
  comes_out = refl;
  told_is = refl;
  refused = record { next = s; asked = inl refl; stands = st };
  tells = none_told was;
}
  where
    none_told : (was : Option (List Moment)) → TellsOn was was (λ told more. (more ≡ [] ++ told) ⊎ (more ≡ [] ++ ([] ++ told)))
    none_told None = tt
    none_told (Some told) = inl refl
