-- What came to its end as the plan of a number did so as that of the operation, with its askings answered.
use Rattle.std.proofs.Common.{◌≡◌, true, false, refl, ap, subst, ◌∙◌, ℕ, List, Option, Some, None, Result, Err}
use Rattle.std.proofs.lemmas.Bool.{false≢true}
use Rattle.answer_source.specs.Sources.{given_seen}
use Rattle.capture.specs.declared.answer.Ask.{Ask as Question}
use Rattle.capture.specs.declared.answer.Given.{Given as GivenThere}
use Rattle.op_devices.specs.Asking.{Known, answered_by}
use Rattle.op_devices.specs.Given.{asks, IsGiven}
use Rattle.op_parts.specs.Given.{EndsGiven, is_answered}
use Rattle.op_state.specs.Held.{HeldView, GoesOn, begun}
use Rattle.op_numbers.proofs.EndsAlike.{ends_as}
use Rattle.op_table.specs.Table.{planned, planned_at}
use Rattle.op_work.specs.declared.stop.Stop.{Stop}
use Rattle.op_work.specs.declared.stop.Stop.TheVariants.{Memory as NoMemory}
use Rattle.op_work.specs.Work.{WorkView, Ends}
use Rattle.op_work.proofs.Going.{extends_same}
use Rattle.py_model.specs.Plan.{Plan}
use Rattle.py_model.specs.declared.moment.Answer.{Answer as OneAnswer}
use Rattle.py_model.specs.declared.moment.Op.{Op}
use Rattle.py_value.specs.Values.{ValuesView}
use Rattle.py_value.specs.declared.value.Value.{Value}

pub at_number : (n : ℕ) (op : Op) (operands : List Value) (given : Option GivenThere) → op.no ≡ n → {plan : ValuesView → Plan} → ((table : ValuesView) → planned_at n op operands table ≡ plan table)
    → {a b : WorkView} {result : Result OneAnswer Stop} → EndsGiven n plan operands given a b result → EndsGiven op.no (planned op operands) operands given a b result
at_number n op operands given is {plan} same ends = λ k known. ends_as (λ table. answered_by k (planned op operands table)) (λ table. answered_by k (plan table))
    (λ table interned extends. ap (answered_by k) (ap (λ m. planned_at m op operands table) is ∙ same table)) (ends k (subst (λ m. IsGiven k (asks m operands) given) is known))

-- out of memory says nothing of a plan
pub given_missing : (n : ℕ) (plan : ValuesView → Plan) (operands : List Value) (given : Option GivenThere) (w : WorkView) → EndsGiven n plan operands given w w (Err NoMemory)
given_missing n plan operands given w = λ k known. record {
  store_is = refl;
  left_is = refl;
  extends = extends_same w.values;
  is_named = tt;
  came = λ table store extends seen. tt;
}

-- what is known where an answer was given
abbrev known_of : Option GivenThere → Known
known_of (Some given) = record { given = λ what. Some (given_seen given); found = λ path. None; opened = λ path. false }
known_of None = record { given = λ what. None; found = λ path. None; opened = λ path. false }

pub some_known : (asked : Option Question) (given : Option GivenThere) → is_answered asked given ≡ true → (k : Known) × IsGiven k asked given
some_known None given is = (known_of given, tt)
some_known (Some what) (Some given) is = (known_of (Some given), refl)
some_known (Some what) None is = absurd (false≢true is)

pub known_ends : (asked : Option Question) (given : Option GivenThere) → is_answered asked given ≡ true → (n : ℕ) (operands : List Value) → asked ≡ asks n operands → (plan : ValuesView → Plan)
    → {a b : WorkView} {result : Result OneAnswer Stop} → EndsGiven n plan operands given a b result → (k : Known) × Ends (λ table. answered_by k (plan table)) a b result
known_ends asked given is n operands asks_so plan ends = let known = some_known asked given is in (known.0, ends known.0 (subst (λ what. IsGiven known.0 what given) asks_so known.1))

-- nothing was done yet
pub goes_on_begun : (left : ℕ) (old : HeldView) → GoesOn (record old { work = begun left old.work }) old
goes_on_begun left old found table run extends stands = record { holds = stands.holds; printed_is = stands.printed_is; opened_are = stands.opened_are }
