use Rattle.std.proofs.Common.{sym, ap, ◌∙◌}
use Rattle.py_model.specs.Classes.{class_begun}
use Rattle.py_value.specs.Contents.{contents}
use Rattle.py_value.specs.Seen.{bytes_of}
use Rattle.op_classes.proofs.ClassWalks.{class_is}
use Rattle.op_classes.proofs.EndsSame.{ends_same}
use Rattle.op_work.proofs.Ending.{ends_fault}
use Rattle.op_work.specs.Work.{seen_maybe}
use Rattle.op_classes.proofs.Defining.{begun_other}
use Rattle.op_classes.proofs.definitions.class_begun.Goals as goal

pub returns-in-Some : goal.returns-in-Some
returns-in-Some c = ends_same (λ table. class_begun (bytes_of table c.args.name) (contents table c.args.v) (seen_maybe table c.args.base))
    (λ table interned extends. ap (λ v. class_begun (bytes_of table c.args.name) (contents table v) (seen_maybe table c.args.base)) (class_is c.args.v c.in-Some.place (sym c.class_of.ensures ∙ c.in-Some.is))) c.set_base.ensures

pub returns-in-None : goal.returns-in-None
returns-in-None c = ends_fault (λ table. class_begun (bytes_of table c.args.name) (contents table c.args.v) (seen_maybe table c.args.base)) 9 _ c.fault.result c.fault.ensures
    (λ table interned extends. begun_other table (bytes_of table c.args.name) c.args.v (seen_maybe table c.args.base) (sym c.class_of.ensures ∙ c.in-None.is))
