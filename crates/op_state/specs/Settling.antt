-- What an operation comes to (this project's profile): its answer, or more than can be paid for.
use Rattle.std.specs.Prelude.{⊤, Option, Some, None, Result, Ok, Err}
use Rattle.op_work.specs.Work.{WorkView, Extends, IsSeen, IsDear, Ends, under}
use Rattle.op_work.specs.declared.stop.Stop.{Stop}
use Rattle.op_work.specs.declared.stop.Stop.TheVariants.{Raises, TooDear, Memory as NoMemory}
use Rattle.prov_base.specs.declared.refusal.Memory.{Memory}
use Rattle.py_model.specs.Plan.{Plan}
use Rattle.py_model.specs.Store.{RunStore}
use Rattle.py_model.specs.declared.moment.Answer.{Answer as OneAnswer}
use Rattle.py_value.specs.Values.{ValuesView}

-- a plan costs more than is left, in any store that is seen
abbrev pub CostsMore : (ValuesView → Plan) → WorkView → WorkView → Type 0
CostsMore plan began new = (table : ValuesView) (store : RunStore) → Extends new.values table → IsSeen table began.store store → IsDear began (under store (plan table))

abbrev pub Settled : (ValuesView → Plan) → WorkView → WorkView → Result (Option OneAnswer) Memory → Type 0
Settled plan began new (Ok (Some answer)) = Ends plan began new (Ok answer)
Settled plan began new (Ok None) = CostsMore plan began new
Settled plan began new (Err want) = ⊤

-- what is answered of an operation that stopped
abbrev pub IsRefusal : {E : Type 0} → Stop → Result (Option OneAnswer) E → Type 0
IsRefusal TooDear (Ok None) = ⊤
IsRefusal TooDear (Ok (Some answer)) = ⊥
IsRefusal TooDear (Err want) = ⊥
IsRefusal (Raises class argument) (Ok answer) = ⊥
IsRefusal (Raises class argument) (Err want) = ⊤
IsRefusal NoMemory (Ok answer) = ⊥
IsRefusal NoMemory (Err want) = ⊤
