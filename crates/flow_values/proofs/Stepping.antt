-- A step is what was told of it: how a run comes out from there.
use Rattle.std.proofs.Common.{◌≡◌, ℕ, ◌+◌, Bool, nat_le, List, [], ◌∷◌, Option, Some, None, if◌then◌else◌, refl, ap, sym, ◌∙◌, arith, le-leb, inl, inr, Result, Ok, Err, ◌<◌, subst}
use Rattle.prov_base.specs.declared.refusal.Memory.{Memory}
use Rattle.py_tree.specs.Tree.{ScriptTree}
use Rattle.py_value.specs.Values.{ValuesView}
use Rattle.py_model.specs.Act.{Act, How, ret, begin, close}
use Rattle.py_model.specs.Expressions.{Task}
use Rattle.py_model.specs.Meaning.{RunEnd, end_of, level}
use Rattle.py_model.specs.Capture.{Capture}
use Rattle.py_model.specs.Doing.{Standing, standing, Fits, Stands, IsInterrupted}
use Rattle.py_model.specs.Moment.{Moment, begins, Ending, ends}
use Rattle.py_model.specs.Running.{State, spent, outcome, beginning, tell}
use Rattle.py_model.specs.Told.{TellsOn}
use Rattle.flow_values.specs.Step.{IsOn, IsSpent, IsCut, IsStep, Before, StepsFrom, IsHeldNext, meant, next_end}
use Rattle.flow_frames.specs.Seen.{end_seen}
use Rattle.flow_frames.specs.Telling.{WasTold, WasNotTold, HasBegun}
use Rattle.flow_frames.specs.declared.control.End.{End}
use Rattle.flow_frames.specs.declared.frames.FlowFrames.{FlowFrames}
use Rattle.flow_values.specs.declared.next.FlowNext.{FlowNext}
use Rattle.flow_values.specs.declared.next.FlowNext.TheVariants.{More, Finished, Raised, Spent, Unanswered}

pub told_same : (was : Option (List Moment)) → TellsOn was was (λ told more. more ≡ told)
told_same None = tt
told_same (Some told) = refl

pub told_weaker : (was is : Option (List Moment)) (P Q : List Moment → List Moment → Type 0) → ((told more : List Moment) → P told more → Q told more) → TellsOn was is P → TellsOn was is Q
told_weaker was None P Q weaker tells = tt
told_weaker None (Some more) P Q weaker tells = absurd tells
told_weaker (Some told) (Some more) P Q weaker tells = weaker told more tells

pub unasked : {capture : Capture} (stands : Standing → Type 0) (s : State) → stands (standing s) → IsInterrupted capture stands s
unasked stands s holds = record { next = s; asked = inl refl; stands = holds }

module _ (capture : Capture) (before after : Act) (s : State) (left rest : ℕ) (stands : Standing → Type 0) (was is : Option (List Moment)) where
  -- nothing was performed
  pub stood_on : before ≡ after → stands (standing s) → s.left ≡ left → IsOn capture before after s left stands was was
  stood_on same holds steps =
      record { next = s; news = []; few = tt; comes_out = ap (λ a. outcome capture a s) same; told_is = refl; stands_so = holds; left_is = steps; tells = told_same was }

  pub not_told : WasNotTold stands was is s → IsCut capture before s stands was is
  not_told holds = record { rest = before; next = s; news = []; few = tt; comes_out = refl; told_is = refl; refused = unasked stands s holds.stands; tells = told_weaker was is _ _ (λ told more same. inl same) holds.tells }

  pub closed_on : (number : ℕ) (ended : Ending) → before ≡ close number ended after → s.left ≡ left → WasTold (ends number ended) stands was is s → IsOn capture before after s left stands was is
  closed_on number ended same steps told = record {
    next = tell (ends number ended) s;
    news = ends number ended ∷ [];
    few = tt;
    comes_out = ap (λ a. outcome capture a s) same;
    told_is = refl;
    stands_so = told.stands;
    left_is = steps;
    tells = told.tells;
  }

  module _ (number : ℕ) (same : before ≡ begin number after) (steps : s.left ≡ left) where
    begins_so : left ≡ 1 + rest → outcome capture before s ≡ outcome capture after (beginning number s)
    begins_so paid =
        ap (λ a. outcome capture a s) same
        ∙ ap (λ b. if b then outcome capture after (beginning number s) else spent s) (le-leb 1 s.left (omega (arith, steps, paid)))

    pub begun_on : left ≡ 1 + rest → WasTold (begins number) stands was is s → IsOn capture before after s rest stands was is
    begun_on paid told = record {
      next = beginning number s;
      news = begins number ∷ [];
      few = tt;
      comes_out = begins_so paid;
      told_is = refl;
      stands_so = told.stands;
      left_is = omega (arith, steps, paid);
      tells = told.tells;
    }

    pub begun_cut : left ≡ 1 + rest → WasTold (begins number) stands was is s → IsCut capture before s stands was is
    begun_cut paid told = record {
      rest = after;
      next = beginning number s;
      news = begins number ∷ [];
      few = tt;
      comes_out = begins_so paid;
      told_is = refl;
      refused = unasked stands (beginning number s) told.stands;
      tells = told_weaker was is _ _ (λ told more same. inr same) told.tells;
    }

    pub none_left : left ≡ 0 → rest ≡ 0 → is ≡ was → stands (standing s) → IsSpent capture before s rest stands was is
    none_left none left_none told holds = record {
      next = s;
      comes_out = ap (λ a. outcome capture a s) same ∙ ap (λ n. if nat_le 1 n then outcome capture after (beginning number s) else spent s) (steps ∙ none);
      stands_so = holds;
      left_is = steps ∙ none ∙ sym left_none;
      told_is = refl;
      tells = told;
    }

-- what is known of an answer is known of the truth value that it was found to be
pub begun_so : (number left rest : ℕ) (fits : Fits) (before after : Stands) (was is : Option (List Moment)) (b found : Bool) → b ≡ found
    → HasBegun {E = Memory} number left rest fits before after was is (Ok b) → HasBegun {E = Memory} number left rest fits before after was is (Ok found)
begun_so number left rest fits before after was is b found same known = subst (λ b. HasBegun {E = Memory} number left rest fits before after was is (Ok b)) same known

-- one act in place of another that comes out the same
module _ (script : ScriptTree) (next : Task → Act) (a b : Act) (frames : FlowFrames) (left : ℕ) (stands : Standing → Type 0) (was is : Option (List Moment)) (table : ValuesView) (capture : Capture) (s : State)
    (same : outcome capture a s ≡ outcome capture b s) where
  pub step_same : (r : Result FlowNext Memory) → IsStep script next b frames left stands was is table capture s r → IsStep script next a frames left stands was is table capture s r
  step_same (Ok More) h = record { next = h.next; news = h.news; few = h.few; comes_out = same ∙ h.comes_out; told_is = h.told_is; stands_so = h.stands_so; left_is = h.left_is; tells = h.tells }
  step_same (Ok Finished) h = record { how = h.how; comes_out = same ∙ h.comes_out; end_is = h.end_is; stands_so = h.stands_so; left_is = h.left_is; tells = h.tells }
  step_same (Ok (Raised o line)) h = record { how = h.how; comes_out = same ∙ h.comes_out; end_is = h.end_is; stands_so = h.stands_so; left_is = h.left_is; tells = h.tells }
  step_same (Ok Spent) h = record { next = h.next; comes_out = same ∙ h.comes_out; stands_so = h.stands_so; left_is = h.left_is; told_is = h.told_is; tells = h.tells }
  step_same (Ok Unanswered) h =
      record { next = h.next; comes_out = same ∙ h.comes_out; stands_so = h.stands_so; left_is = h.left_is; told_is = h.told_is; tells = h.tells }
  step_same (Err want) h = record { rest = h.rest; next = h.next; news = h.news; few = h.few; comes_out = same ∙ h.comes_out; told_is = h.told_is; refused = h.refused; tells = h.tells }

module _ (script : ScriptTree) (b c : Before) (frames : FlowFrames) (left rest : ℕ) (fits : Fits) (stood stands : Stands) (was is : Option (List Moment)) (r : Result FlowNext Memory) where
  pub steps_by : ((table : ValuesView) (capture : Capture) (s : State) (n : ℕ) → s.left < n → outcome capture (b table (level script n)) s ≡ outcome capture (c table (level script n)) s)
      → StepsFrom script c frames left rest fits stood stands was is r → StepsFrom script b frames left rest fits stood stands was is r
  steps_by same given table capture fit s stood_so steps n enough =
      step_same script (level script n) (b table (level script n)) (c table (level script n)) frames rest (stands table capture) was is table capture s
      (same table capture s n (omega (arith, steps, enough))) r (given table capture fit s stood_so steps n enough)

  pub steps_same : ((table : ValuesView) (next : Task → Act) → b table next ≡ c table next) → StepsFrom script c frames left rest fits stood stands was is r → StepsFrom script b frames left rest fits stood stands was is r
  steps_same same = steps_by (λ table capture s n enough. ap (λ a. outcome capture a s) (same table (level script n)))

-- nothing was performed, and as much remains
pub steps_on : (script : ScriptTree) (b : Before) (frames : FlowFrames) (left : ℕ) (fits : Fits) (stood : Stands) (was : Option (List Moment))
    → ((table : ValuesView) (capture : Capture) (s : State) (n : ℕ) → s.left < n → outcome capture (b table (level script n)) s ≡ outcome capture (meant script frames table (level script n)) s)
    → StepsFrom {E = Memory} script b frames left left fits stood stood was was (Ok More)
steps_on script b frames left fits stood was same =
    steps_by script b (meant script frames) frames left left fits stood stood was was (Ok More) same
    (λ table capture fit s stood_so steps n enough. stood_on capture (meant script frames table (level script n)) (meant script frames table (level script n)) s left left (stood table capture) was was refl stood_so steps)

-- so by each table that fits
pub steps_fitting : (script : ScriptTree) (b : Before) (frames : FlowFrames) (left : ℕ) (fits : Fits) (stood : Stands) (was : Option (List Moment))
    → ((table : ValuesView) (capture : Capture) → fits table capture → (next : Task → Act) → b table next ≡ meant script frames table next)
    → StepsFrom {E = Memory} script b frames left left fits stood stood was was (Ok More)
steps_fitting script b frames left fits stood was same = λ table capture fit s stood_so steps n enough.
    stood_on capture (b table (level script n)) (meant script frames table (level script n)) s left left (stood table capture) was was (same table capture fit (level script n)) stood_so steps

pub cut_from : (script : ScriptTree) (b : Before) (frames : FlowFrames) (left : ℕ) (fits : Fits) (stood : Stands) (was : Option (List Moment)) → (want : Memory) → StepsFrom script b frames left left fits stood stood was was (Err want)
cut_from script b frames left fits stood was want = λ table capture fit s stood_so steps n enough.
    record { rest = b table (level script n); next = s; news = []; few = tt; comes_out = refl; told_is = refl; refused = unasked (stood table capture) s stood_so; tells = told_weaker was was _ _ (λ told more same. inl same) (told_same was) }

-- the run is at its end
over_as : (script : ScriptTree) (next : Task → Act) (frames : FlowFrames) (left : ℕ) (stands : Standing → Type 0) (was : Option (List Moment)) (table : ValuesView) (capture : Capture) (s : State) (how : How)
    → (a : Act) → a ≡ ret how → (r : FlowNext) → next_end r ≡ Some (end_of how) → stands (standing s) → s.left ≡ left → IsStep script next {E = Memory} a frames left stands was was table capture s (Ok r)
over_as script next frames left stands was table capture s how a is Finished known holds steps = record { how = how; comes_out = ap (λ a. outcome capture a s) is; end_is = sym (same_end known); stands_so = holds; left_is = steps; tells = refl }
  where
    same_end : {x y : RunEnd} → Some x ≡ Some y → x ≡ y
    same_end is = cc
over_as script next frames left stands was table capture s how a is (Raised o line) known holds steps = record { how = how; comes_out = ap (λ a. outcome capture a s) is; end_is = sym (same_end known); stands_so = holds; left_is = steps; tells = refl }
  where
    same_end : {x y : RunEnd} → Some x ≡ Some y → x ≡ y
    same_end is = cc
over_as script next frames left stands was table capture s how a is More known holds steps = absurd cc
over_as script next frames left stands was table capture s how a is Spent known holds steps = absurd cc
over_as script next frames left stands was table capture s how a is Unanswered known holds steps = absurd cc

pub steps_over : (script : ScriptTree) (b : Before) (frames : FlowFrames) (end : End) (left : ℕ) (fits : Fits) (stood : Stands) (was : Option (List Moment)) (r : FlowNext) → ((table : ValuesView) → next_end r ≡ Some (end_of (end_seen table end)))
    → ((table : ValuesView) (next : Task → Act) → b table next ≡ ret (end_seen table end)) → StepsFrom {E = Memory} script b frames left left fits stood stood was was (Ok r)
steps_over script b frames end left fits stood was r known is = λ table capture fit s stood_so steps n enough.
    over_as script (level script n) frames left (stood table capture) was table capture s (end_seen table end) (b table (level script n)) (is table (level script n)) r (known table) stood_so steps

-- an answer that ends a run holds nothing
pub over_held : (table : ValuesView) (frames : FlowFrames) (r : FlowNext) (end : RunEnd) → next_end r ≡ Some end → IsHeldNext {E = Memory} table frames (Ok r)
over_held table frames Finished end known = tt
over_held table frames (Raised o line) end known = tt
over_held table frames More end known = absurd cc
over_held table frames Spent end known = tt
over_held table frames Unanswered end known = tt
