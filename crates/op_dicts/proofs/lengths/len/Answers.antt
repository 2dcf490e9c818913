use Rattle.std.proofs.Common.{rules, refl, map, pos}
use Rattle.op_work.specs.Work.{Ends}
use Rattle.py_model.specs.Arithmetic.{len_plan, length_of}
use Rattle.py_model.specs.Operands.{gives_int}
use Rattle.py_value.specs.Contents.{contents}
use Rattle.op_work.proofs.Ending.{ends_then, ends_stop}
use Rattle.op_work.proofs.Going.{passes_err}
use Rattle.op_dicts.proofs.lengths.len.Goals as goal

pub returns-in_err-v : goal.returns-in_err-v
returns-in_err-v c = passes_err (λ result. Ends (λ table. len_plan (map (contents table) c.args.operands.now)) c.args.work.now c.one.new.work result)
    c.from_residual.result c.from_residual.ensures.1 (ends_stop (λ table v. length_of v (λ n. gives_int (pos n))) _ c.in_err-v.ensures)

pub returns-in_err-n : goal.returns-in_err-n
returns-in_err-n c = passes_err (λ result. Ends (λ table. len_plan (map (contents table) c.args.operands.now)) c.args.work.now c.length_of.new.work result)
    c.from_residual-in_err-n.result c.from_residual-in_err-n.ensures.1
    (ends_then (λ table v. length_of v (λ n. gives_int (pos n))) c.in_ok-v.ensures (λ table interned extends. refl) (ends_stop (λ table n. gives_int (pos n)) _ c.in_err-n.ensures))

pub returns : goal.returns
returns c = ends_then (λ table v. length_of v (λ n. gives_int (pos n))) c.in_ok-v.ensures (λ table interned extends. refl)
    (ends_then (λ table n. gives_int (pos n)) c.in_ok-n.ensures (λ table interned extends. refl) (c.int_answer.ensures (pos c.in_ok-n.n) (search rules)))
