use Rattle.std.proofs.Common.{sym, ap, ◌∙◌}
use Rattle.py_model.specs.Classes.{find as plan_find, text_methods}
use Rattle.py_value.specs.Contents.{contents}
use Rattle.py_value.specs.Seen.{bytes_of}
use Rattle.op_classes.proofs.EndsSame.{ends_same}
use Rattle.op_work.proofs.Ending.{ends_fault}
use Rattle.op_work.proofs.Going.{extends_then}
use Rattle.op_attributes.proofs.HeldBy.{find_by, find_is}
use Rattle.op_attributes.proofs.Lacking.{lacks_ends, method_is}
use Rattle.op_attributes.proofs.finds.find.Goals as goal

pub returns-in-Object : goal.returns-in-Object
returns-in-Object c = ends_same (λ table. plan_find (bytes_of table c.args.name) (contents table c.args.v))
    (λ table interned extends. find_is table (bytes_of table c.args.name) c.args.v ∙ ap (find_by table (bytes_of table c.args.name) c.args.v) (sym c.holder_of.ensures ∙ c.in-Object.is)) c.find_in_object.ensures

pub returns-in-Class : goal.returns-in-Class
returns-in-Class c = ends_same (λ table. plan_find (bytes_of table c.args.name) (contents table c.args.v))
    (λ table interned extends. find_is table (bytes_of table c.args.name) c.args.v ∙ ap (find_by table (bytes_of table c.args.name) c.args.v) (sym c.holder_of.ensures ∙ c.in-Class.is)) c.find_in_class.ensures

pub returns-in-Text : goal.returns-in-Text
returns-in-Text c = ends_same (λ table. plan_find (bytes_of table c.args.name) (contents table c.args.v))
    (λ table interned extends. find_is table (bytes_of table c.args.name) c.args.v ∙ (ap (find_by table (bytes_of table c.args.name) c.args.v) (sym c.holder_of.ensures ∙ c.in-Text.is)
    ∙ method_is 91 text_methods c.args.work.now.values c.args.name c.text_of.result.now c.text_method-method.result c.requires.name (extends_then c.operation.ensures.extends extends) c.text_of.ensures c.text_method-method.ensures)) c.operation.ensures

pub returns-in-Tuple : goal.returns-in-Tuple
returns-in-Tuple c = ends_fault (λ table. plan_find (bytes_of table c.args.name) (contents table c.args.v)) 13 _ c.fault.result c.fault.ensures
    (λ table interned extends. find_is table (bytes_of table c.args.name) c.args.v ∙ ap (find_by table (bytes_of table c.args.name) c.args.v) (sym c.holder_of.ensures ∙ c.in-Tuple.is))

pub returns-in-Builtin : goal.returns-in-Builtin
returns-in-Builtin c = ends_same (λ table. plan_find (bytes_of table c.args.name) (contents table c.args.v))
    (λ table interned extends. find_is table (bytes_of table c.args.name) c.args.v ∙ ap (find_by table (bytes_of table c.args.name) c.args.v) (sym c.holder_of.ensures ∙ c.in-Builtin.is)) c.find_in_builtin.ensures

pub returns-in-Plain : goal.returns-in-Plain
returns-in-Plain c = lacks_ends (λ table. plan_find (bytes_of table c.args.name) (contents table c.args.v)) c.args.name c.no_attribute.result c.requires.name c.no_attribute.ensures
    (λ table interned extends. find_is table (bytes_of table c.args.name) c.args.v ∙ ap (find_by table (bytes_of table c.args.name) c.args.v) (sym c.holder_of.ensures ∙ c.in-Plain.is))
