use Rattle.std.proofs.Common.{sym, subst, List, [], ◌∷◌, Ok}
use Rattle.op_work.proofs.Going.{passes_err}
use Rattle.py_value.specs.declared.value.Value.{Value}
use Rattle.op_pieces.specs.Puts.{Puts}
use Rattle.op_pieces.proofs.Putting.{puts_unpaid, puts_one}
use Rattle.op_pieces.proofs.splits.put_text.Goals as goal

pub returns-in_err-count : goal.returns-in_err-count
returns-in_err-count c = passes_err (λ result. Puts (c.args.words.now ∷ []) c.args.made.now.items c.args.made.now.items c.args.work.now c.count.new.self result)
    c.from_residual.result c.from_residual.ensures.1 (puts_unpaid c.args.words.now c.size.result c.size.ensures.count c.in_err-count.ensures)

pub returns : goal.returns
returns c = subst (λ (vs : List Value). Puts (c.args.words.now ∷ []) c.args.made.now.items vs c.args.work.now c.number.new.self (Ok tt)) (sym c.in_ok-push.ensures.items)
    (puts_one c.args.words.now c.args.made.now.items c.in_ok-number.number c.size.result c.size.ensures.count c.in_ok-count.ensures c.in_ok-number.ensures.extends c.in_ok-number.ensures.same c.in_ok-number.ensures.name)
