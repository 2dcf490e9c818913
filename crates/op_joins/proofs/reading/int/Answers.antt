use Rattle.std.proofs.Common.{◌∙◌, sym, ap, map}
use Rattle.py_model.specs.Arithmetic.{int_plan}
use Rattle.py_model.specs.Operands.{of_one}
use Rattle.py_value.specs.Contents.{contents}
use Rattle.op_numbers.proofs.EndsAlike.{ends_as}
use Rattle.op_work.specs.Work.{Ends}
use Rattle.op_work.proofs.Ending.{ends_then, ends_stop}
use Rattle.op_work.proofs.Going.{passes_err}
use Rattle.op_joins.proofs.WrittenPlans.{int_of, by_text, int_is, kind_is}
use Rattle.op_joins.proofs.reading.int.Goals as goal

pub returns-in_err-v : goal.returns-in_err-v
returns-in_err-v c = passes_err (λ result. Ends (λ table. int_plan (map (contents table) c.args.operands.now)) c.args.work.now c.one.new.work result)
    c.from_residual.result c.from_residual.ensures.1
    (ends_as (λ table. int_plan (map (contents table) c.args.operands.now)) (λ table. of_one int_of (map (contents table) c.args.operands.now)) (λ table interned extends. int_is (map (contents table) c.args.operands.now))
    (ends_stop (λ table v. int_of v) _ c.in_err-v.ensures))

pub returns-in-Some : goal.returns-in-Some
returns-in-Some c =
    ends_as (λ table. int_plan (map (contents table) c.args.operands.now)) (λ table. of_one int_of (map (contents table) c.args.operands.now)) (λ table interned extends. int_is (map (contents table) c.args.operands.now))
    (ends_then (λ table v. int_of v) c.in_ok-v.ensures (λ table interned extends. kind_is table c.in_ok-v.v ∙ ap (by_text table c.in_ok-v.v) (sym c.text_in.ensures ∙ c.in-Some.is)) c.int_of_text.ensures)

pub returns-in-None : goal.returns-in-None
returns-in-None c =
    ends_as (λ table. int_plan (map (contents table) c.args.operands.now)) (λ table. of_one int_of (map (contents table) c.args.operands.now)) (λ table interned extends. int_is (map (contents table) c.args.operands.now))
    (ends_then (λ table v. int_of v) c.in_ok-v.ensures (λ table interned extends. kind_is table c.in_ok-v.v ∙ ap (by_text table c.in_ok-v.v) (sym c.text_in.ensures ∙ c.in-None.is)) c.int_of_number.ensures)
