use Rattle.std.proofs.Common.{ℕ, List, ◌++◌}
use Rattle.py_model.specs.Plan.{Plan}
use Rattle.py_model.specs.Printing.{class_name}
use Rattle.py_value.specs.Contents.{contents}
use Rattle.op_work.proofs.Going.{passes_err}
use Rattle.op_printing.specs.Puts.{Puts}
use Rattle.op_printing.proofs.Putting.{word_then, then_word, puts_stop}
use Rattle.op_printing.proofs.plain.push_class_between.Goals as goal

pub push_class-requires : goal.push_class-requires
push_class-requires c = c.in_ok-push_word.ensures.named c.args.work.now.values c.requires

pub returns-in_err-push_class : goal.returns-in_err-push_class
returns-in_err-push_class c = passes_err
    (λ result. Puts (λ table (go : List ℕ → Plan). class_name (contents table c.args.of) (λ name. go (c.args.before.now ++ (name ++ c.args.behind.now)))) c.args.out.now.items c.push_class.new.out.items c.args.work.now c.args.work.now result)
    c.from_residual-in_err-push_class.result c.from_residual-in_err-push_class.ensures.1
    (word_then c.in_ok-push_word.ensures (puts_stop (λ table name (go : List ℕ → Plan). go (name ++ c.args.behind.now)) c.in_err-push_class.ensures))

pub returns : goal.returns
returns c = word_then c.in_ok-push_word.ensures (then_word c.in_ok-push_class.ensures c.in_ok-push_word-2.ensures)
