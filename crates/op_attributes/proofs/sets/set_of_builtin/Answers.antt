use Rattle.std.proofs.Common.{sym, ◌∙◌, true, false}
use Rattle.py_value.specs.Seen.{bytes_of}
use Rattle.op_work.proofs.Ending.{ends_fault}
use Rattle.op_attributes.specs.Owns.{builtin_refused}
use Rattle.op_attributes.proofs.HeldBy.{set_builtin}
use Rattle.op_attributes.proofs.Lacking.{lacks_ends}
use Rattle.op_attributes.proofs.sets.set_of_builtin.Goals as goal

pub returns-then-module : goal.returns-then-module
returns-then-module c = ends_fault (λ table. builtin_refused (bytes_of table c.args.name) c.args.number) 13 _ c.fault.result c.fault.ensures
    (λ table interned extends. set_builtin (bytes_of table c.args.name) c.args.number true (sym c.is_module-module.ensures ∙ c.if-module.true))

pub returns : goal.returns
returns c = lacks_ends (λ table. builtin_refused (bytes_of table c.args.name) c.args.number) c.args.name c.no_attribute.result c.requires.name c.no_attribute.ensures
    (λ table interned extends. set_builtin (bytes_of table c.args.name) c.args.number false (sym c.is_module-module.ensures ∙ c.if-module.false))
