-- No public clause cites this file.
-- What is told of an operation that came to its end or stopped.
use Rattle.std.specs.Prelude.{◌≡◌, ⊤, Result, Ok, Err}
use Rattle.op_atoms.specs.declared.atomic.Atomic.{Atomic}
use Rattle.op_atoms.specs.declared.atomic.Atomic.TheVariants.{Gives, Raises, NotAtomic}
use Rattle.op_work.specs.declared.stop.Stop.{Stop}
use Rattle.op_work.specs.declared.stop.Stop.TheVariants.{Raises as Stopped}
use Rattle.py_model.specs.declared.moment.Answer.{Answer as OneAnswer}
use Rattle.py_model.specs.declared.moment.Answer.TheVariants.{Value as ValueAnswer}
use Rattle.py_value.specs.declared.value.Value.TheVariants.{Text}

-- a value is told as it is, and an exception with a text
abbrev pub IsTold : {E : Type 0} → Result OneAnswer Stop → Result Atomic E → Type 0
IsTold result (Ok (Gives v)) = result ≡ Ok (ValueAnswer v)
IsTold result (Ok (Raises class text)) = result ≡ Err (Stopped class (Text text))
IsTold result (Ok NotAtomic) = ⊥
IsTold result (Err want) = ⊤
