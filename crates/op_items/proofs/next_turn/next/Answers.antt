use Rattle.std.proofs.Common.{rules, ◌≡◌, ◌∙◌, refl, sym, ap, map, None}
use Rattle.op_items.specs.Operands.{of_three}
use Rattle.py_model.specs.Files.{next_line}
use Rattle.py_model.specs.Lists.{next}
use Rattle.py_value.specs.Contents.{contents}
use Rattle.op_work.specs.Work.{Ends}
use Rattle.op_work.proofs.Ending.{ends_then, ends_stop, ends_fault}
use Rattle.op_work.proofs.Going.{passes_err}
use Rattle.op_numbers.proofs.EndsAlike.{ends_as}
use Rattle.op_items.proofs.NextPlans.{turns_of, next_is, other_turn, turn_is}
use Rattle.op_items.proofs.next_turn.next.Goals as goal

pub returns-in_err-v : goal.returns-in_err-v
returns-in_err-v c = passes_err (λ result. Ends (λ table. next next_line (map (contents table) c.args.operands.now)) c.args.work.now c.three.new.work result)
    c.from_residual.result c.from_residual.ensures.1
    (ends_as (λ table. next next_line (map (contents table) c.args.operands.now)) (λ table. of_three turns_of (map (contents table) c.args.operands.now)) (λ table interned extends. next_is (map (contents table) c.args.operands.now))
    (ends_stop (λ table y. turns_of y.0 y.1.0 y.1.1) _ c.in_err-v.ensures))

pub returns-in_default : goal.returns-in_default
returns-in_default c =
    let none : c.turn_of.result ≡ None = search rules in
    ends_as (λ table. next next_line (map (contents table) c.args.operands.now)) (λ table. of_three turns_of (map (contents table) c.args.operands.now)) (λ table interned extends. next_is (map (contents table) c.args.operands.now))
    (ends_then (λ table y. turns_of y.0 y.1.0 y.1.1) c.in_ok-v.ensures (λ table interned extends. refl)
    (ends_fault (λ table. turns_of (contents table c.in_ok-v.v) (contents table c.in_ok-v.w) (contents table c.in_ok-v.begun)) 9 _ c.fault.result c.fault.ensures
    (λ table interned extends. other_turn table c.in_ok-v.v c.in_ok-v.w c.in_ok-v.begun (sym c.turn_of.ensures ∙ none))))

pub returns : goal.returns
returns c = ends_as (λ table. next next_line (map (contents table) c.args.operands.now)) (λ table. of_three turns_of (map (contents table) c.args.operands.now)) (λ table interned extends. next_is (map (contents table) c.args.operands.now))
    (ends_then (λ table y. turns_of y.0 y.1.0 y.1.1) c.in_ok-v.ensures
    (λ table interned extends. ap (λ x. turns_of (contents table c.in_ok-v.v) x (contents table c.in_ok-v.begun)) (turn_is table c.in_ok-v.w c.in-Some.n (sym c.turn_of.ensures ∙ c.in-Some.is))) c.next_in_value.ensures)
