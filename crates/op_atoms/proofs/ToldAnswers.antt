-- What is told of an operation answers as its plan does.
use Rattle.std.proofs.Common.{◌≡◌, ◌↔◌, ◌&&◌, Bool, true, false, Result, Ok, Err, IfOk, refl, sym, subst, ap, ◌∙◌}
use Rattle.std.proofs.lemmas.Bool.{false≢true}
use Rattle.prov_base.specs.declared.refusal.Memory.{Memory as Want}
use Rattle.op_atoms.specs.Answers.{AnswersAs}
use Rattle.op_atoms.specs.Telling.{IsTold}
use Rattle.op_atoms.specs.declared.atomic.Atomic.{Atomic}
use Rattle.op_atoms.specs.declared.atomic.Atomic.TheVariants.{Gives, Raises, NotAtomic}
use Rattle.op_work.specs.Work.{WorkView, IsSeen, EndedSo, Ends}
use Rattle.op_work.specs.declared.stop.Stop.{Stop}
use Rattle.py_model.specs.Effect.{Effect}
use Rattle.py_model.specs.Plan.{Plan}
use Rattle.py_model.specs.declared.moment.Answer.{Answer as OneAnswer}
use Rattle.py_value.specs.Values.{ValuesView}

pub told_answers : (plan : ValuesView → Plan) {a b : WorkView} (came : Result OneAnswer Stop) (result : Result Atomic Want) → IsTold came result → Ends plan a b came → AnswersAs plan a b result
told_answers plan {a} {b} came (Ok (Gives v)) is ends = λ table store extends seen answers.
    ap (λ (e : Effect). e.outcome) ((subst (λ r. EndedSo plan table store a b r) is (ends.came table store extends seen)).effect_is answers)
told_answers plan {a} {b} came (Ok (Raises class text)) is ends = λ table store extends seen.
    let goes = subst (λ r. EndedSo plan table store a b r) is (ends.came table store extends seen) in
    record { touches = goes.touches; effect_is = goes.effect_is }
told_answers plan came (Ok NotAtomic) is ends = absurd is
told_answers plan came (Err want) is ends = λ table store extends seen. tt

-- the same of a work whose store is that with which the operation began
pub told_from : (plan : ValuesView → Plan) (old : WorkView) {a b : WorkView} → a.store ≡ old.store → (came : Result OneAnswer Stop) (result : Result Atomic Want) → IsTold came result → Ends plan a b came
    → AnswersAs plan old b result
told_from plan old same came result is ends = λ table store extends seen. told_answers plan came result is ends table store extends (subst (λ held. IsSeen table held store) (sym same) seen)

-- what is told is an answer, and none is told where none is
pub told_is_some : (came : Result OneAnswer Stop) (result : Result Atomic Want) → IsTold came result → (all : Bool) → all ≡ true → IfOk result (λ answer. (answer ≡ NotAtomic) ↔ (all ≡ false))
told_is_some came (Ok (Gives v)) is all holds = (λ none. cc, λ lacks. absurd (false≢true (sym lacks ∙ holds)))
told_is_some came (Ok (Raises class text)) is all holds = (λ none. cc, λ lacks. absurd (false≢true (sym lacks ∙ holds)))
told_is_some came (Ok NotAtomic) is all holds = absurd is
told_is_some came (Err want) is all holds = tt

pub none_is_told : (all : Bool) → all ≡ false → (NotAtomic ≡ NotAtomic) ↔ (all ≡ false)
none_is_told all lacks = (λ same. lacks, λ other. refl)

pub none_by_operands : (a b : Bool) → b ≡ false → (NotAtomic ≡ NotAtomic) ↔ ((a && b) ≡ false)
none_by_operands a b lacks = none_is_told (a && b) (by a)
  where
    by : (x : Bool) → (x && b) ≡ false
    by true = lacks
    by false = refl

pub both_true : (a b : Bool) → a ≡ true → b ≡ true → (a && b) ≡ true
both_true a b one other = ap (λ x. x && b) one ∙ other
