use Rattle.std.proofs.Common.{sym, ap, subst, Option, map, List, ℕ}
use Rattle.std.specs.Option.{option_copied}
use Rattle.capture.specs.declared.answer.Ask.{Ask as Question}
use Rattle.op_devices.specs.Given.{IsGiven}
use Rattle.op_devices.specs.Asking.{Known, answered_by}
use Rattle.op_devices.proofs.LinePlans.{prompt_is}
use Rattle.op_dicts.proofs.EndsEqual.{ends_equal}
use Rattle.op_work.specs.Work.{Ends}
use Rattle.op_work.proofs.Ending.{ends_then, ends_stop}
use Rattle.op_work.proofs.Going.{passes_err}
use Rattle.py_model.specs.Files.{input_plan, input_with}
use Rattle.py_model.specs.Plan.{Plan}
use Rattle.py_value.specs.Contents.{contents}
use Rattle.py_value.specs.Values.{ValuesView}
use Rattle.op_devices.proofs.lines.input.Goals as goal

abbrev rest : Known → ValuesView → List ℕ → Plan
rest k table prompt = answered_by k (input_with prompt)

pub returns-in_err-prompt : goal.returns-in_err-prompt
returns-in_err-prompt c = λ k given_is. passes_err (λ result. Ends (λ table. answered_by k (input_plan (map (contents table) c.args.operands.now))) c.args.work.now c.prompt.new.work result) c.from_residual.result c.from_residual.ensures.1
    (ends_equal (λ table. answered_by k (input_plan (map (contents table) c.args.operands.now))) (λ table interned extends. prompt_is k (map (contents table) c.args.operands.now))
    (ends_stop (rest k) _ c.in_err-prompt.ensures.comes))

pub returns : goal.returns
returns c = λ k given_is.
    ends_equal (λ table. answered_by k (input_plan (map (contents table) c.args.operands.now))) (λ table interned extends. prompt_is k (map (contents table) c.args.operands.now))
    (ends_then (rest k) c.in_ok-prompt.ensures.comes (λ table interned extends. ap (λ (bs : List ℕ). answered_by k (input_with bs)) (sym c.as_str.ensures.value))
    (c.line_behind.ensures k (subst (λ (o : Option Question). IsGiven k o (option_copied c.args.given)) c.in_ok-prompt.ensures.asks given_is)))
