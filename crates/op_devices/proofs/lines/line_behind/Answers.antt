use Rattle.std.proofs.Common.{refl, sym, ap, Some, ℕ, List}
use Rattle.std.specs.Option.{option_copied}
use Rattle.answer_source.specs.Sources.{given_seen}
use Rattle.capture.specs.declared.answer.Ask.TheVariants.{Line}
use Rattle.op_devices.specs.Asking.{Known, answered_by}
use Rattle.op_devices.proofs.Known.{given_known}
use Rattle.op_devices.proofs.LinePlans.{asks_line, line_is}
use Rattle.op_dicts.proofs.EndsEqual.{ends_equal}
use Rattle.op_work.specs.Work.{Ends}
use Rattle.op_work.proofs.Ending.{ends_then, ends_stop}
use Rattle.op_work.proofs.Going.{passes_err}
use Rattle.py_model.specs.Files.{input_with}
use Rattle.py_model.specs.Plan.{Plan, counts, prints}
use Rattle.py_model.specs.Texts.{size}
use Rattle.py_value.specs.Values.{ValuesView}
use Rattle.op_devices.proofs.lines.line_behind.Goals as goal

abbrev first : Known → List ℕ → ValuesView → Unit {0} → Plan
first k prompt table x = counts (size prompt) (asks_line k prompt)

abbrev second : Known → List ℕ → ValuesView → Unit {0} → Plan
second k prompt table x = asks_line k prompt

pub returns-in_err-print : goal.returns-in_err-print
returns-in_err-print c = λ k given_is. passes_err (λ result. Ends (λ table. answered_by k (input_with c.args.prompt.now)) c.args.work.now c.print.new.self result) c.from_residual.result c.from_residual.ensures.1
    (ends_equal (λ table. answered_by k (input_with c.args.prompt.now)) (λ table interned extends. ap (λ (bs : List ℕ). prints bs (counts (size c.args.prompt.now) (asks_line k c.args.prompt.now))) (sym c.as_bytes.ensures.value))
    (ends_stop (first k c.args.prompt.now) _ c.in_err-print.ensures))

pub returns-in_err-count : goal.returns-in_err-count
returns-in_err-count c = λ k given_is. passes_err (λ result. Ends (λ table. answered_by k (input_with c.args.prompt.now)) c.args.work.now c.count.new.self result) c.from_residual-in_err-count.result c.from_residual-in_err-count.ensures.1
    (ends_equal (λ table. answered_by k (input_with c.args.prompt.now)) (λ table interned extends. ap (λ (bs : List ℕ). prints bs (counts (size c.args.prompt.now) (asks_line k c.args.prompt.now))) (sym c.as_bytes.ensures.value))
    (ends_then (first k c.args.prompt.now) c.in_ok-print.ensures (λ table interned extends. ap (λ n. counts n (asks_line k c.args.prompt.now)) (sym c.size.ensures.count))
    (ends_stop (second k c.args.prompt.now) _ c.in_err-count.ensures)))

pub returns : goal.returns
returns c = λ k given_is.
    let known = given_known k (Some Line) (option_copied c.args.given) Line c.in-Some.given.now refl (ap option_copied c.in-Some.is) given_is in
    ends_equal (λ table. answered_by k (input_with c.args.prompt.now)) (λ table interned extends. ap (λ (bs : List ℕ). prints bs (counts (size c.args.prompt.now) (asks_line k c.args.prompt.now))) (sym c.as_bytes.ensures.value))
    (ends_then (first k c.args.prompt.now) c.in_ok-print.ensures (λ table interned extends. ap (λ n. counts n (asks_line k c.args.prompt.now)) (sym c.size.ensures.count))
    (ends_then (second k c.args.prompt.now) c.in_ok-count.ensures (λ table interned extends. line_is k c.args.prompt.now (given_seen c.in-Some.given.now) known) c.line_answer.ensures))
