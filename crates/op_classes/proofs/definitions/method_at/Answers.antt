use Rattle.std.proofs.Common.{sym, ap, ◌∙◌}
use Rattle.py_model.specs.Classes.{define_method}
use Rattle.py_value.specs.Contents.{contents, function}
use Rattle.py_value.specs.Seen.{bytes_of}
use Rattle.op_classes.proofs.ClassWalks.{class_is}
use Rattle.op_classes.proofs.EndsSame.{ends_same}
use Rattle.op_work.proofs.Ending.{ends_fault}
use Rattle.op_classes.proofs.Defining.{owner_other}
use Rattle.op_classes.proofs.definitions.method_at.Goals as goal

pub returns-in-Some : goal.returns-in-Some
returns-in-Some c = ends_same (λ table. define_method (bytes_of table c.args.name) (function c.args.place) (contents table c.args.of))
    (λ table interned extends. ap (λ v. define_method (bytes_of table c.args.name) (function c.args.place) (contents table v)) (class_is c.args.of c.in-Some.at (sym c.class_of.ensures ∙ c.in-Some.is))) c.set_method.ensures

pub returns-in-None : goal.returns-in-None
returns-in-None c = ends_fault (λ table. define_method (bytes_of table c.args.name) (function c.args.place) (contents table c.args.of)) 9 _ c.fault.result c.fault.ensures
    (λ table interned extends. owner_other table (bytes_of table c.args.name) c.args.place c.args.of (sym c.class_of.ensures ∙ c.in-None.is))
