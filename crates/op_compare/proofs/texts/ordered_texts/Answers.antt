use Rattle.std.proofs.Common.{◌∙◌, sym, ap, ap₂}
use Rattle.py_model.specs.Plan.{counts}
use Rattle.py_model.specs.Walks.{order_of_texts, shorter}
use Rattle.py_value.specs.Seen.{bytes_of}
use Rattle.op_work.specs.Work.{Comes, is_any}
use Rattle.op_work.proofs.Going.{comes_same, comes_stop, comes_as, passes_err, extends_then}
use Rattle.op_compare.specs.Comparisons.{how_seen, texts_ordered}
use Rattle.op_compare.proofs.TextPlans.{bytes_are}
use Rattle.op_compare.proofs.texts.ordered_texts.Goals as goal

pub returns-in_err-count : goal.returns-in_err-count
returns-in_err-count c =
    let a = c.args.a in let b = c.args.b in
    passes_err (λ result. Comes is_any how_seen (λ table. texts_ordered (bytes_of table a) (bytes_of table b)) c.args.work.now c.count.new.self result)
    c.from_residual.result c.from_residual.ensures.1
    (comes_same (λ table. texts_ordered (bytes_of table a) (bytes_of table b))
    (λ table interned extends go. let more = extends_then c.count.ensures.kept.extends extends in ap (λ n. counts n (go (order_of_texts (bytes_of table a) (bytes_of table b))))
    (ap₂ shorter (bytes_are table a _ (more.texts a _ c.text_of.ensures)) (bytes_are table b _ (more.texts b _ c.text_of-2.ensures)) ∙ sym c.shorter.ensures))
    (comes_stop (λ table done go. go (order_of_texts (bytes_of table a) (bytes_of table b))) c.in_err-count.ensures))

pub returns : goal.returns
returns c =
    let a = c.args.a in let b = c.args.b in
    comes_same (λ table. texts_ordered (bytes_of table a) (bytes_of table b))
    (λ table interned extends go. let more = extends_then c.count.ensures.kept.extends extends in ap (λ n. counts n (go (order_of_texts (bytes_of table a) (bytes_of table b))))
    (ap₂ shorter (bytes_are table a _ (more.texts a _ c.text_of.ensures)) (bytes_are table b _ (more.texts b _ c.text_of-2.ensures)) ∙ sym c.shorter.ensures))
    (comes_as (λ table done go. go (order_of_texts (bytes_of table a) (bytes_of table b))) _ c.in_ok-count.ensures tt
    (λ table interned extends go. ap go (ap₂ order_of_texts (bytes_are table a _ (extends.texts a _ c.text_of-3.ensures)) (bytes_are table b _ (extends.texts b _ c.text_of-4.ensures)) ∙ sym c.order_of_texts.ensures)))
