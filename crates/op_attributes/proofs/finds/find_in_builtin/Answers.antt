use Rattle.std.proofs.Common.{refl, sym, ◌∙◌, true, false}
use Rattle.py_model.specs.Classes.{find as plan_find, time_methods, random_methods}
use Rattle.py_value.specs.Contents.{builtin}
use Rattle.py_value.specs.Seen.{bytes_of}
use Rattle.op_classes.proofs.EndsSame.{ends_same}
use Rattle.op_work.proofs.Going.{extends_then}
use Rattle.op_attributes.proofs.HeldBy.{find_builtin}
use Rattle.op_attributes.proofs.Lacking.{lacks_ends, method_is}
use Rattle.op_attributes.proofs.finds.find_in_builtin.Goals as goal

pub returns-then-of_sys : goal.returns-then-of_sys
returns-then-of_sys c = ends_same (λ table. plan_find (bytes_of table c.args.name) (builtin c.args.number))
    (λ table interned extends. find_builtin (bytes_of table c.args.name) c.args.number true _ _ (sym c.is_number-of_sys.ensures ∙ c.if-of_sys.true) refl refl) c.get_of_builtin.ensures

pub returns-then-of_time : goal.returns-then-of_time
returns-then-of_time c = ends_same (λ table. plan_find (bytes_of table c.args.name) (builtin c.args.number))
    (λ table interned extends. find_builtin (bytes_of table c.args.name) c.args.number false true _ (sym c.is_number-of_sys.ensures ∙ c.if-of_sys.false) (sym c.is_number-of_time.ensures ∙ c.if-of_time.true) refl
    ∙ method_is 109 time_methods c.args.work.now.values c.args.name c.text_of.result.now c.time_method-method.result c.requires.name (extends_then c.operation.ensures.extends extends) c.text_of.ensures c.time_method-method.ensures) c.operation.ensures

pub returns-then-of_random : goal.returns-then-of_random
returns-then-of_random c = ends_same (λ table. plan_find (bytes_of table c.args.name) (builtin c.args.number))
    (λ table interned extends. find_builtin (bytes_of table c.args.name) c.args.number false false true (sym c.is_number-of_sys.ensures ∙ c.if-of_sys.false) (sym c.is_number-of_time.ensures ∙ c.if-of_time.false) (sym c.is_number-of_random.ensures ∙ c.if-of_random.true)
    ∙ method_is 110 random_methods c.args.work.now.values c.args.name c.text_of-then-of_random.result.now c.random_method-method.result c.requires.name (extends_then c.operation-then-of_random.ensures.extends extends) c.text_of-then-of_random.ensures c.random_method-method.ensures) c.operation-then-of_random.ensures

pub returns : goal.returns
returns c = lacks_ends (λ table. plan_find (bytes_of table c.args.name) (builtin c.args.number)) c.args.name c.no_attribute.result c.requires.name c.no_attribute.ensures
    (λ table interned extends. find_builtin (bytes_of table c.args.name) c.args.number false false false (sym c.is_number-of_sys.ensures ∙ c.if-of_sys.false) (sym c.is_number-of_time.ensures ∙ c.if-of_time.false) (sym c.is_number-of_random.ensures ∙ c.if-of_random.false))
