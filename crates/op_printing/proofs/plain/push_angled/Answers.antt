use Rattle.std.proofs.Common.{ℕ, List, codes, ◌++◌}
use Rattle.py_model.specs.Plan.{Plan}
use Rattle.py_model.specs.Printing.{noted_name, angled}
use Rattle.op_work.proofs.Going.{passes_err}
use Rattle.op_printing.specs.Puts.{Puts}
use Rattle.op_printing.proofs.Putting.{word_then, then_word, puts_stop}
use Rattle.op_printing.proofs.plain.push_angled.Goals as goal

pub push_noted-requires : goal.push_noted-requires
push_noted-requires c = c.in_ok-push_word-2.ensures.named c.args.work.now.values (c.in_ok-push_word.ensures.named c.args.work.now.values c.requires)

pub returns-in_err-push_noted : goal.returns-in_err-push_noted
returns-in_err-push_noted c = passes_err
    (λ result. Puts (λ table (go : List ℕ → Plan). noted_name c.args.place (λ name. go (angled c.args.what.now name))) c.args.out.now.items c.push_noted.new.out.items c.args.work.now c.args.work.now result)
    c.from_residual-in_err-push_noted.result c.from_residual-in_err-push_noted.ensures.1
    (word_then c.in_ok-push_word.ensures (word_then c.in_ok-push_word-2.ensures (puts_stop (λ table name (go : List ℕ → Plan). go (name ++ codes ">")) c.in_err-push_noted.ensures)))

pub returns : goal.returns
returns c = word_then c.in_ok-push_word.ensures (word_then c.in_ok-push_word-2.ensures (then_word c.in_ok-push_noted.ensures c.in_ok-push_word-3.ensures))
