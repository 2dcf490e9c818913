use Rattle.std.proofs.Common.{refl}
use Rattle.py_model.specs.Operands.{gives}
use Rattle.py_model.specs.Plan.{counts}
use Rattle.py_value.specs.Contents.{text}
use Rattle.op_work.specs.Work.{Ends}
use Rattle.op_work.proofs.Ending.{ends_then, ends_stop}
use Rattle.op_work.proofs.Going.{passes_err}
use Rattle.op_items.proofs.letters.counted_text.Goals as goal

pub returns-in_err-count : goal.returns-in_err-count
returns-in_err-count c = passes_err (λ result. Ends (λ table. counts 1 (gives (text c.args.words.now))) c.args.work.now c.count.new.self result) c.from_residual.result c.from_residual.ensures.1
    (ends_stop (λ table x. gives (text c.args.words.now)) _ c.in_err-count.ensures)

pub returns-in_err-made : goal.returns-in_err-made
returns-in_err-made c = passes_err (λ result. Ends (λ table. counts 1 (gives (text c.args.words.now))) c.args.work.now c.text.new.self result) c.from_residual-in_err-made.result c.from_residual-in_err-made.ensures.1
    (ends_then (λ table x. gives (text c.args.words.now)) c.in_ok-count.ensures (λ table interned extends. refl) (ends_stop (λ table v. gives v) _ c.in_err-made.ensures.comes))

pub returns : goal.returns
returns c = ends_then (λ table x. gives (text c.args.words.now)) c.in_ok-count.ensures (λ table interned extends. refl)
    (ends_then (λ table v. gives v) c.in_ok-made.ensures.comes (λ table interned extends. refl) c.value_answer.ensures)
