use Rattle.std.proofs.Common.{◌∙◌, refl, Some}
use Rattle.py_model.specs.Lists.{next_of}
use Rattle.py_model.specs.Operands.{gives}
use Rattle.py_model.specs.Plan.{ends}
use Rattle.py_model.specs.Walks.{read_value}
use Rattle.py_value.specs.Seen.{a_list}
use Rattle.op_work.specs.Work.{Ends}
use Rattle.op_work.proofs.Ending.{ends_then, ends_stop, ends_at_end}
use Rattle.op_work.proofs.Going.{passes_err}
use Rattle.op_items.proofs.TurnPlans.{before, is_before, not_before}
use Rattle.op_items.proofs.turns.next_in_list.Goals as goal

pub returns-in_err-count : goal.returns-in_err-count
returns-in_err-count c = λ file_line begun.
    let o = c.args.o in let n = c.args.n in
    passes_err (λ result. Ends (λ table. next_of file_line o n begun (Some a_list)) c.args.work.now c.read_len.new.self result) c.from_residual.result c.from_residual.ensures.1
    (ends_stop (λ table count. before n count (read_value o n gives)) _ c.in_err-count.ensures)

pub returns-in_err-item : goal.returns-in_err-item
returns-in_err-item c = λ file_line begun.
    let o = c.args.o in let n = c.args.n in
    passes_err (λ result. Ends (λ table. next_of file_line o n begun (Some a_list)) c.args.work.now c.value_at.new.work result) c.from_residual-in_err-item.result c.from_residual-in_err-item.ensures.1
    (ends_then (λ table count. before n count (read_value o n gives)) c.in_ok-count.ensures (λ table interned extends. is_before n c.in_ok-count.count (read_value o n gives) c.if-n-count.true)
    (ends_stop (λ table v. gives v) _ c.in_err-item.ensures))

pub returns-then-n-count : goal.returns-then-n-count
returns-then-n-count c = λ file_line begun.
    let o = c.args.o in let n = c.args.n in
    ends_then (λ table count. before n count (read_value o n gives)) c.in_ok-count.ensures (λ table interned extends. is_before n c.in_ok-count.count (read_value o n gives) c.if-n-count.true)
    (ends_then (λ table v. gives v) c.in_ok-item.ensures (λ table interned extends. refl) c.value_answer.ensures)

pub returns : goal.returns
returns c = λ file_line begun.
    let o = c.args.o in let n = c.args.n in
    ends_then (λ table count. before n count (read_value o n gives)) c.in_ok-count.ensures (λ table interned extends. not_before n c.in_ok-count.count (read_value o n gives) c.if-n-count.false)
    (ends_at_end (λ table. ends) c.read_len.new.self (c.read_len.ensures.kept.made_is ∙ c.requires.fresh) (λ table interned extends. refl))
