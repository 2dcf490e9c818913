use Rattle.std.proofs.Common.{ap}
use Rattle.py_value.specs.declared.value.Value.TheVariants.{Builtin}
use Rattle.op_work.proofs.Ending.{ends_gives, ends_fault}
use Rattle.op_attributes.specs.Methods.{given}
use Rattle.op_attributes.proofs.methods.operation.Goals as goal

pub returns-in-Some : goal.returns-in-Some
returns-in-Some c = ends_gives (λ table. given c.args.number) c.args.work.now (Builtin c.in-Some.method) c.requires.first tt (λ table interned extends. ap given c.in-Some.is)

pub returns-in-None : goal.returns-in-None
returns-in-None c = ends_fault (λ table. given c.args.number) 13 _ c.fault.result c.fault.ensures (λ table interned extends. ap given c.in-None.is)
