use Rattle.std.proofs.Common.{sym, ap, ◌∙◌}
use Rattle.py_model.specs.Classes.{getattr as plan_getattr}
use Rattle.py_value.specs.Contents.{contents}
use Rattle.py_value.specs.Seen.{bytes_of}
use Rattle.op_classes.proofs.EndsSame.{ends_same}
use Rattle.op_work.proofs.Ending.{ends_fault}
use Rattle.op_attributes.proofs.HeldBy.{get_by, get_is}
use Rattle.op_attributes.proofs.Lacking.{lacks_ends}
use Rattle.op_attributes.proofs.gets.getattr.Goals as goal

pub returns-in-Object : goal.returns-in-Object
returns-in-Object c = ends_same (λ table. plan_getattr (bytes_of table c.args.name) (contents table c.args.v))
    (λ table interned extends. get_is table (bytes_of table c.args.name) c.args.v ∙ ap (get_by table (bytes_of table c.args.name) c.args.v) (sym c.holder_of.ensures ∙ c.in-Object.is)) c.get_of_object.ensures

pub returns-in-Class : goal.returns-in-Class
returns-in-Class c = ends_same (λ table. plan_getattr (bytes_of table c.args.name) (contents table c.args.v))
    (λ table interned extends. get_is table (bytes_of table c.args.name) c.args.v ∙ ap (get_by table (bytes_of table c.args.name) c.args.v) (sym c.holder_of.ensures ∙ c.in-Class.is)) c.get_of_class.ensures

pub returns-in-Text : goal.returns-in-Text
returns-in-Text c = ends_fault (λ table. plan_getattr (bytes_of table c.args.name) (contents table c.args.v)) 13 _ c.fault.result c.fault.ensures
    (λ table interned extends. get_is table (bytes_of table c.args.name) c.args.v ∙ ap (get_by table (bytes_of table c.args.name) c.args.v) (sym c.holder_of.ensures ∙ c.in-Text.is))

pub returns-in-Tuple : goal.returns-in-Tuple
returns-in-Tuple c = ends_fault (λ table. plan_getattr (bytes_of table c.args.name) (contents table c.args.v)) 13 _ c.fault-in-Tuple.result c.fault-in-Tuple.ensures
    (λ table interned extends. get_is table (bytes_of table c.args.name) c.args.v ∙ ap (get_by table (bytes_of table c.args.name) c.args.v) (sym c.holder_of.ensures ∙ c.in-Tuple.is))

pub returns-in-Builtin : goal.returns-in-Builtin
returns-in-Builtin c = ends_same (λ table. plan_getattr (bytes_of table c.args.name) (contents table c.args.v))
    (λ table interned extends. get_is table (bytes_of table c.args.name) c.args.v ∙ ap (get_by table (bytes_of table c.args.name) c.args.v) (sym c.holder_of.ensures ∙ c.in-Builtin.is)) c.get_of_builtin.ensures

pub returns-in-Plain : goal.returns-in-Plain
returns-in-Plain c = lacks_ends (λ table. plan_getattr (bytes_of table c.args.name) (contents table c.args.v)) c.args.name c.no_attribute.result c.requires.name c.no_attribute.ensures
    (λ table interned extends. get_is table (bytes_of table c.args.name) c.args.v ∙ ap (get_by table (bytes_of table c.args.name) c.args.v) (sym c.holder_of.ensures ∙ c.in-Plain.is))
