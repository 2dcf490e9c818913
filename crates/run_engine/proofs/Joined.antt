-- Steps one behind the other.
use Rattle.std.proofs.Common.{◌≡◌, refl, sym, ap, subst, ◌∙◌, append_assoc, inl, inr, ◌⊎◌, ℕ, List, [], ◌++◌, Option, Some, None, Result, Ok, Err}
use Rattle.flow_frames.specs.declared.frames.FlowFrames.{FlowFrames}
use Rattle.flow_values.specs.Step.{IsOn, IsOver, IsStep}
use Rattle.flow_values.specs.declared.next.FlowNext.{FlowNext}
use Rattle.flow_values.specs.declared.next.FlowNext.TheVariants.{More, Finished, Raised, Spent, Unanswered}
use Rattle.prov_base.specs.declared.refusal.Memory.{Memory}
use Rattle.py_model.specs.Act.{Act}
use Rattle.py_model.specs.Capture.{Capture}
use Rattle.py_model.specs.Doing.{Standing, standing}
use Rattle.py_model.specs.Expressions.{Task}
use Rattle.py_model.specs.Meaning.{RunEnd}
use Rattle.py_model.specs.Moment.{Moment}
use Rattle.py_model.specs.Running.{State, outcome}
use Rattle.py_model.specs.Told.{TellsOn}
use Rattle.py_tree.specs.Tree.{ScriptTree}
use Rattle.py_value.specs.Values.{ValuesView}
use Rattle.run_engine.specs.Run.{IsRunOver, RunsTo}

-- what was told in two steps
tells_then : (was mid is : Option (List Moment)) (P Q R : List Moment → List Moment → Type 0) → ((told between more : List Moment) → P told between → Q between more → R told more)
    → TellsOn was mid P → TellsOn mid is Q → TellsOn was is R
tells_then was mid None P Q R join one other = tt
tells_then was None (Some more) P Q R join one other = absurd other
tells_then None (Some between) (Some more) P Q R join one other = absurd one
tells_then (Some told) (Some between) (Some more) P Q R join one other = join told between more one other

both_told : (first second told between more : List Moment) → between ≡ first ++ told → more ≡ second ++ between → more ≡ (second ++ first) ++ told
both_told first second told between more one other = other ∙ (ap (λ b. second ++ b) one ∙ sym (append_assoc second first told))

same_told : (was mid is : Option (List Moment)) (P : List Moment → List Moment → Type 0) → is ≡ mid → TellsOn was mid P → TellsOn was is P
same_told was mid is P same one = subst (λ x. TellsOn was x P) (sym same) one

-- a run has gone on from here to there, by any number of moments
pub record HasGone (capture : Capture) (before after : Act) (s : State) (left : ℕ) (stands : Standing → Type 0) (was is : Option (List Moment)) : Type 0 where
  pub next : State
  pub news : List Moment
  pub comes_out : outcome capture before s ≡ outcome capture after next
  pub told_is : next.told ≡ news ++ s.told
  pub stands_so : stands (standing next)
  pub left_is : next.left ≡ left
  pub tells : TellsOn was is (λ told more. more ≡ news ++ told)

module _ (script : ScriptTree) (task : Task → Act) (capture : Capture) (before middle : Act) (s : State) (reached : ℕ) (stood : Standing → Type 0) (was mid : Option (List Moment))
    (first : HasGone capture before middle s reached stood was mid) where
  -- one step more
  pub on_more : (after : Act) (left : ℕ) (stands : Standing → Type 0) (is : Option (List Moment)) → IsOn capture middle after first.next left stands mid is → HasGone capture before after s left stands was is
  on_more after left stands is second = record {
    next = second.next;
    news = second.news ++ first.news;
    comes_out = first.comes_out ∙ second.comes_out;
    told_is = both_told first.news second.news s.told first.next.told second.next.told first.told_is second.told_is;
    stands_so = second.stands_so;
    left_is = second.left_is;
    tells = tells_then was mid is _ _ _ (both_told first.news second.news) first.tells second.tells;
  }

  -- the last step
  over_told : (end : RunEnd) (left : ℕ) (stands : Standing → Type 0) (is : Option (List Moment)) → IsOver capture middle first.next end left stands mid is → IsRunOver capture before s end left stands was is
  over_told end left stands is second = record {
    how = second.how;
    next = first.next;
    news = first.news;
    comes_out = first.comes_out ∙ second.comes_out;
    end_is = second.end_is;
    told_is = first.told_is;
    stands_so = second.stands_so;
    left_is = second.left_is;
    tells = same_told was mid is _ second.tells first.tells;
  }

  pub last_step : (frames : FlowFrames) (left : ℕ) (stands : Standing → Type 0) (is : Option (List Moment)) (table : ValuesView) (r : Result FlowNext Memory) → (r ≡ Ok More → ⊥)
      → IsStep script task middle frames left stands mid is table capture first.next r → RunsTo script task before left stands was is capture s r
  last_step frames left stands is table (Ok More) other second = other refl
  last_step frames left stands is table (Ok Finished) other second = over_told _ left stands is second
  last_step frames left stands is table (Ok (Raised o line)) other second = over_told _ left stands is second
  last_step frames left stands is table (Ok Spent) other second = record {
    next = second.next;
    news = first.news;
    comes_out = first.comes_out ∙ second.comes_out;
    told_is = second.told_is ∙ first.told_is;
    stands_so = second.stands_so;
    left_is = second.left_is;
    tells = same_told was mid is _ second.tells first.tells;
  }
  last_step frames left stands is table (Ok Unanswered) other second = record {
    next = second.next;
    news = first.news;
    comes_out = first.comes_out ∙ second.comes_out;
    told_is = second.told_is ∙ first.told_is;
    stands_so = second.stands_so;
    left_is = second.left_is;
    tells = same_told was mid is _ second.tells first.tells;
  }
  last_step frames left stands is table (Err want) other second = record {
    rest = second.rest;
    next = second.next;
    news = first.news;
    last = second.news;
    few = second.few;
    comes_out = first.comes_out ∙ second.comes_out;
    told_is = second.told_is ∙ ap (λ told. second.news ++ told) first.told_is;
    refused = second.refused;
    tells = tells_then was mid is _ _ _ (λ told between more one. either told between more one) first.tells second.tells;
  }
    where
      either : (told between more : List Moment) → between ≡ first.news ++ told → (more ≡ between) ⊎ (more ≡ second.news ++ between) → (more ≡ first.news ++ told) ⊎ (more ≡ second.news ++ (first.news ++ told))
      either told between more one (inl same) = inl (same ∙ one)
      either told between more one (inr told_too) = inr (told_too ∙ ap (λ b. second.news ++ b) one)

  -- nothing more is done
  pub cut_here : (left : ℕ) (want : Memory) → RunsTo script task before left stood was mid capture s (Err want)
  cut_here left want = record {
    rest = middle;
    next = first.next;
    news = first.news;
    last = [];
    few = tt;
    comes_out = first.comes_out;
    told_is = first.told_is;
    refused = record { next = first.next; asked = inl refl; stands = first.stands_so };
    tells = weaker was mid first.tells;
  }
    where
      weaker : (was mid : Option (List Moment)) → TellsOn was mid (λ told more. more ≡ first.news ++ told) → TellsOn was mid (λ told more. (more ≡ first.news ++ told) ⊎ (more ≡ [] ++ (first.news ++ told)))
      weaker was None tells = tt
      weaker None (Some more) tells = absurd tells
      weaker (Some told) (Some more) tells = inl tells
