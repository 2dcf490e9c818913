-- What a watch was told of a run that came to its end, or that was cut.
use Rattle.std.proofs.Common.{◌≡◌, ap, sym, ◌∙◌, append_assoc, ◌⊎◌, inl, inr, ℕ, Bool, true, false, List, [], ◌++◌, Some, Result, Ok, Err, is_ok}
use Rattle.flow_values.specs.declared.next.FlowNext.{FlowNext}
use Rattle.flow_values.specs.declared.next.FlowNext.TheVariants.{More, Finished, Raised, Spent, Unanswered}
use Rattle.prov_base.specs.declared.refusal.Memory.{Memory}
use Rattle.py_model.proofs.Budgets.{grows}
use Rattle.py_model.specs.Capture.{Capture}
use Rattle.py_model.specs.Doing.{Fits, Stands, ForEach, Standing}
use Rattle.py_model.specs.History.{Extends}
use Rattle.py_model.specs.Meaning.{meaning}
use Rattle.py_model.specs.Moment.{Moment}
use Rattle.py_model.specs.Running.{Ended, State, state_in, outcome}
use Rattle.py_model.specs.Act.{Act}
use Rattle.py_tree.specs.Tree.{ScriptTree}
use Rattle.run_engine.specs.Run.{Runs, IsRunCut}

-- What was told begins all moments of the run, and is all of them where it came to its end.
pub record IsToldOf (all told : List Moment) (ended : Bool) : Type 0 where
  pub begins : Extends told all
  pub whole : ended ≡ true → all ≡ told

all_told : (all told : List Moment) → all ≡ told → IsToldOf all told true
all_told all told same = record { begins = record { news = []; longer_is = same }; whole = λ ended. same }

some_told : (all told : List Moment) → Extends told all → IsToldOf all told false
some_told all told begins = record { begins = begins; whole = λ ended. cc }

-- what was told before the run, and of it
told_so : (told before was is news : List Moment) → told ≡ news ++ before → before ≡ was → is ≡ news ++ was → told ≡ is
told_so told before was is news told_is same tells = told_is ∙ (ap (λ ms. news ++ ms) same ∙ sym tells)

-- a run that was cut
cut_so : (capture : Capture) (before : Act) (s : State) (stands : Standing → Type 0) (was is : List Moment) → s.told ≡ was → IsRunCut capture before s stands (Some was) (Some is)
    → Extends is (state_in (outcome capture before s)).told
cut_so capture before s stands was is same cut = by_told cut.tells
  where
    whole : List Moment
    whole = (state_in (outcome capture before s)).told

    behind : Extends cut.next.told (state_in (outcome capture cut.rest cut.next)).told
    behind = grows capture cut.rest cut.next

    all_is : whole ≡ behind.news ++ (cut.last ++ (cut.news ++ was))
    all_is = ap (λ (e : Ended). (state_in e).told) cut.comes_out ∙ (behind.longer_is ∙ ap (λ (ms : List Moment). behind.news ++ ms) (cut.told_is ∙ ap (λ (ms : List Moment). cut.last ++ (cut.news ++ ms)) same))

    by_told : ((is ≡ cut.news ++ was) ⊎ (is ≡ cut.last ++ (cut.news ++ was))) → Extends is whole
    by_told (inl tells) = record {
      news = behind.news ++ cut.last;
      longer_is = all_is ∙ (sym (append_assoc behind.news cut.last (cut.news ++ was)) ∙ ap (λ (ms : List Moment). (behind.news ++ cut.last) ++ ms) (sym tells));
    }
    by_told (inr tells) = record { news = behind.news; longer_is = all_is ∙ ap (λ (ms : List Moment). behind.news ++ ms) (sym tells) }

pub ran : (script : ScriptTree) (steps left : ℕ) (fits : Fits) (stood stands : Stands) (was is : List Moment) (result : Result FlowNext Memory)
    → Runs {E = Memory} script steps left fits stood stands (Some was) (Some is) result
    → ForEach fits stood (λ table capture s. s.left ≡ steps → s.told ≡ was → IsToldOf (state_in (outcome capture (meaning script steps) s)).told is (is_ok result))
ran script steps left fits stood stands was is (Ok More) runs = λ table capture fit s st left_is same. absurd (runs table capture fit s st left_is)
ran script steps left fits stood stands was is (Ok Finished) runs = λ table capture fit s st left_is same.
    let r = runs table capture fit s st left_is in all_told _ is (ap (λ e. (state_in e).told) r.comes_out ∙ told_so r.next.told s.told was is r.news r.told_is same r.tells)
ran script steps left fits stood stands was is (Ok (Raised o line)) runs = λ table capture fit s st left_is same.
    let r = runs table capture fit s st left_is in all_told _ is (ap (λ e. (state_in e).told) r.comes_out ∙ told_so r.next.told s.told was is r.news r.told_is same r.tells)
ran script steps left fits stood stands was is (Ok Spent) runs = λ table capture fit s st left_is same.
    let r = runs table capture fit s st left_is in all_told _ is (ap (λ e. (state_in e).told) r.comes_out ∙ told_so r.next.told s.told was is r.news r.told_is same r.tells)
ran script steps left fits stood stands was is (Ok Unanswered) runs = λ table capture fit s st left_is same.
    let r = runs table capture fit s st left_is in all_told _ is (ap (λ e. (state_in e).told) r.comes_out ∙ told_so r.next.told s.told was is r.news r.told_is same r.tells)
ran script steps left fits stood stands was is (Err want) runs = λ table capture fit s st left_is same.
    some_told _ is (cut_so capture (meaning script steps) s (stands table capture) was is same (runs table capture fit s st left_is))
