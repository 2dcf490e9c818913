use Rattle.std.proofs.Common.{ap}
use Rattle.py_model.specs.Arithmetic.{repeated, repeats}
use Rattle.py_model.specs.Operands.{gives_text}
use Rattle.py_value.specs.Contents.{contents, object}
use Rattle.py_value.specs.Seen.{bytes_of}
use Rattle.py_value.specs.declared.value.Value.TheVariants.{Tuple}
use Rattle.op_numbers.proofs.EndsAlike.{ends_as}
use Rattle.op_work.proofs.Ending.{ends_fault}
use Rattle.op_joins.proofs.ProductPlans.{no_repeat}
use Rattle.op_joins.proofs.multiplying.repeat.Goals as goal

pub returns-in-Text : goal.returns-in-Text
returns-in-Text c = ends_as (λ table. repeats (contents table c.args.v) c.args.n) (λ table. gives_text (repeated c.args.n (bytes_of table c.in-Text.id)))
    (λ table interned extends. ap (λ v. repeats (contents table v) c.args.n) c.in-Text.is) c.repeat_text.ensures

pub returns-in-Tuple : goal.returns-in-Tuple
returns-in-Tuple c = ends_as (λ table. repeats (contents table c.args.v) c.args.n) (λ table. repeats (contents table (Tuple c.in-Tuple.id)) c.args.n)
    (λ table interned extends. ap (λ v. repeats (contents table v) c.args.n) c.in-Tuple.is) c.repeat_tuple.ensures

pub returns-in-Object : goal.returns-in-Object
returns-in-Object c = ends_as (λ table. repeats (contents table c.args.v) c.args.n) (λ table. repeats (object c.in-Object.o) c.args.n)
    (λ table interned extends. ap (λ v. repeats (contents table v) c.args.n) c.in-Object.is) c.repeat_list.ensures

pub returns-in_default : goal.returns-in_default
returns-in_default c = ends_fault (λ table. repeats (contents table c.args.v) c.args.n) 9 _ c.fault.result c.fault.ensures
    (λ table interned extends. no_repeat table c.args.v c.args.n c.in_default.not-Text c.in_default.not-Tuple c.in_default.not-Object)
