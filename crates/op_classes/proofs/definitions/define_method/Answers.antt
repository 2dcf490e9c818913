use Rattle.std.proofs.Common.{sym, ap, ◌∙◌}
use Rattle.py_model.specs.Classes.{define_method}
use Rattle.py_value.specs.Contents.{contents}
use Rattle.py_value.specs.Seen.{bytes_of}
use Rattle.op_classes.proofs.EndsSame.{ends_same}
use Rattle.op_work.proofs.Ending.{ends_fault}
use Rattle.op_classes.proofs.Defining.{function_is, method_other}
use Rattle.op_classes.proofs.definitions.define_method.Goals as goal

pub returns-in-Some : goal.returns-in-Some
returns-in-Some c = ends_same (λ table. define_method (bytes_of table c.args.name) (contents table c.args.v) (contents table c.args.of))
    (λ table interned extends. ap (λ v. define_method (bytes_of table c.args.name) (contents table v) (contents table c.args.of)) (function_is c.args.v c.in-Some.place (sym c.function_of.ensures ∙ c.in-Some.is))) c.method_at.ensures

pub returns-in-None : goal.returns-in-None
returns-in-None c = ends_fault (λ table. define_method (bytes_of table c.args.name) (contents table c.args.v) (contents table c.args.of)) 9 _ c.fault.result c.fault.ensures
    (λ table interned extends. method_other table (bytes_of table c.args.name) c.args.v (contents table c.args.of) (sym c.function_of.ensures ∙ c.in-None.is))
