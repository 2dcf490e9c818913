use Rattle.std.proofs.Common.{sym, ap, ◌∙◌}
use Rattle.py_value.specs.Seen.{bytes_of}
use Rattle.py_model.specs.Plan.{Plan, counts}
use Rattle.py_model.specs.TextMethods.{searched}
use Rattle.py_model.specs.Texts.{size}
use Rattle.op_work.proofs.Going.{comes_same, extends_then}
use Rattle.op_texts.proofs.Taken.{bytes_stay}
use Rattle.op_texts.proofs.answers.searched.Goals as goal

pub returns : goal.returns
returns c = comes_same (λ table (go : Unit {0} → Plan). searched (bytes_of table c.args.text) (go tt))
    (λ table interned extends go. ap (λ n. counts n (go tt))
    (ap size (bytes_stay c.args.work.now.values table c.args.text c.text_of.result.now c.text_of.ensures (extends_then c.count.ensures.kept.extends extends)) ∙ sym c.size-count.ensures.count))
    c.count.ensures
