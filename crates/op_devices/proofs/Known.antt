-- What is known is what is given.
use Rattle.std.proofs.Common.{◌≡◌, ◌∙◌, refl, ap, subst, arith, List, [], ◌∷◌, map, length, Option, Some, None}
use Rattle.answer_source.specs.Sources.{ask_seen, given_seen}
use Rattle.capture.specs.declared.answer.Ask.{Ask as Question}
use Rattle.capture.specs.declared.answer.Ask.TheVariants.{Time}
use Rattle.capture.specs.declared.answer.Given.{Given as GivenThere}
use Rattle.op_devices.specs.Asking.{Known, answered_by}
use Rattle.op_devices.specs.Given.{IsGiven, asks, time_given}
use Rattle.py_model.specs.Faults.{wrong_number}
use Rattle.py_model.specs.Files.{device_failed, time_ns_plan}
use Rattle.py_model.specs.Plan.{Ask, time, Given, number, random_word, a_line, no_line, failed, Plan, ask}
use Rattle.py_value.specs.Contents.{Contents}
use Rattle.py_value.specs.declared.value.Value.{Value}

pub given_known : (k : Known) (asked : Option Question) (given : Option GivenThere) (what : Question) (g : GivenThere) → asked ≡ Some what → given ≡ Some g
    → IsGiven k asked given → k.given (ask_seen what) ≡ Some (given_seen g)
given_known k asked given what g asked_is given_is is = subst (λ (o : Option GivenThere). IsGiven k (Some what) o) given_is (subst (λ (o : Option Question). IsGiven k o given) asked_is is)

pub given_none : (k : Known) (asked : Option Question) (given : Option GivenThere) (what : Question) → asked ≡ Some what → given ≡ None → IsGiven k asked given → ⊥
given_none k asked given what asked_is given_is is = subst (λ (o : Option GivenThere). IsGiven k (Some what) o) given_is (subst (λ (o : Option Question). IsGiven k o given) asked_is is)

-- a question that is answered
pub known_ask : (k : Known) (what : Ask) (go : Given → Plan) (g : Given) → k.given what ≡ Some g → answered_by k (ask what go) ≡ answered_by k (go g)
known_ask k what go g is = ap (λ (o : Option Given). elim o [ None ↦ ask what go | Some given ↦ answered_by k (go given) ]) is

-- what a plan goes on with that asks
abbrev pub ask_go : Plan → Given → Plan
ask_go (ask what go) = go
ask_go other = λ g. device_failed

-- ---- the time

time_by : (k : Known) (v : Contents) (g : Given) → answered_by k (ask_go (time_ns_plan (v ∷ [])) g) ≡ time_given g
time_by k v (number i) = refl
time_by k v (random_word w) = refl
time_by k v (a_line bytes) = refl
time_by k v no_line = refl
time_by k v failed = refl

pub time_asks : (operands : List Value) → length operands ≡ 1 → asks 109 operands ≡ Some Time
time_asks [] is = absurd (omega (arith, is))
time_asks (v ∷ []) is = refl
time_asks (v ∷ w ∷ more) is = absurd (omega (arith, is))

pub time_is : (k : Known) (f : Value → Contents) (operands : List Value) (g : Given) → length operands ≡ 1 → k.given time ≡ Some g → answered_by k (time_ns_plan (map f operands)) ≡ time_given g
time_is k f [] g is known = absurd (omega (arith, is))
time_is k f (v ∷ []) g is known = known_ask k time (ask_go (time_ns_plan (f v ∷ []))) g known ∙ time_by k (f v) g
time_is k f (v ∷ w ∷ more) g is known = absurd (omega (arith, is))

pub time_other : (k : Known) (f : Value → Contents) (operands : List Value) → (length operands ≡ 1 → ⊥) → answered_by k (time_ns_plan (map f operands)) ≡ wrong_number
time_other k f [] apart = refl
time_other k f (v ∷ []) apart = absurd (apart refl)
time_other k f (v ∷ w ∷ more) apart = refl
