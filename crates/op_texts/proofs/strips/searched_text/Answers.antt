use Rattle.std.proofs.Common.{refl, map, ℕ, List}
use Rattle.py_value.specs.Contents.{contents}
use Rattle.py_value.specs.Seen.{bytes_of}
use Rattle.py_value.specs.Values.{ValuesView}
use Rattle.py_model.specs.Plan.{Plan}
use Rattle.py_model.specs.TextMethods.{searched}
use Rattle.op_work.specs.Work.{Comes}
use Rattle.op_work.proofs.Going.{comes_then, comes_as, comes_stop, passes_err, text_stays}
use Rattle.op_texts.specs.Operands.{IsText, with_one_searched}
use Rattle.op_texts.proofs.strips.searched_text.Goals as goal

abbrev counted : ValuesView → List ℕ → (List ℕ → Plan) → Plan
counted table bytes go = searched bytes (go bytes)

pub returns-in_err-text : goal.returns-in_err-text
returns-in_err-text c = passes_err (λ result. Comes IsText bytes_of (λ table. with_one_searched (map (contents table) c.args.operands.now)) c.args.work.now c.one_text.new.work result)
    c.from_residual.result c.from_residual.ensures.1 (comes_stop counted c.in_err-text.ensures)

pub returns-in_err-searched : goal.returns-in_err-searched
returns-in_err-searched c = passes_err (λ result. Comes IsText bytes_of (λ table. with_one_searched (map (contents table) c.args.operands.now)) c.args.work.now c.searched.new.work result)
    c.from_residual-in_err-searched.result c.from_residual-in_err-searched.ensures.1
    (comes_then counted c.in_ok-text.ensures (λ table interned extends go. refl)
    (comes_stop (λ table x go. go (bytes_of table c.in_ok-text.text)) c.in_err-searched.ensures))

pub returns : goal.returns
returns c = comes_then counted c.in_ok-text.ensures (λ table interned extends go. refl)
    (comes_as (λ table x go. go (bytes_of table c.in_ok-text.text)) c.in_ok-text.text c.in_ok-searched.ensures
    (text_stays c.one_text.new.work.values c.searched.ensures.kept.extends c.in_ok-text.ensures.is_named) (λ table interned extends go. refl))
