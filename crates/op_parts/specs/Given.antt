-- No public clause cites this file.
-- Operations that ask, with their askings answered (this project's profile).
use Rattle.std.specs.Prelude.{ℕ, Bool, true, false, List, Option, Some, None, Result}
use Rattle.capture.specs.declared.answer.Ask.{Ask as Question}
use Rattle.capture.specs.declared.answer.Given.{Given as GivenThere}
use Rattle.op_devices.specs.Asking.{Known, answered_by}
use Rattle.op_devices.specs.Given.{asks, IsGiven}
use Rattle.op_work.specs.declared.stop.Stop.{Stop}
use Rattle.op_work.specs.Work.{WorkView, Ends}
use Rattle.py_model.specs.Plan.{Plan}
use Rattle.py_model.specs.declared.moment.Answer.{Answer as OneAnswer}
use Rattle.py_value.specs.Values.{ValuesView}
use Rattle.py_value.specs.declared.value.Value.{Value}

-- the plan came to its end with its asking answered, by whatever knows what was given
abbrev pub EndsGiven : ℕ → (ValuesView → Plan) → List Value → Option GivenThere → WorkView → WorkView → Result OneAnswer Stop → Type 0
EndsGiven n plan operands given old new result = (k : Known) → IsGiven k (asks n operands) given → Ends (λ table. answered_by k (plan table)) old new result

-- there is an answer, where something is asked
abbrev pub is_answered : Option Question → Option GivenThere → Bool
is_answered None given = true
is_answered (Some what) (Some given) = true
is_answered (Some what) None = false
