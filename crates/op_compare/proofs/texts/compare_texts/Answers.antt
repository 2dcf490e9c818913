use Rattle.std.proofs.Common.{rules, ◌∙◌, sym, ap₂, bytes_eq}
use Rattle.py_model.specs.Walks.{compare_texts}
use Rattle.py_value.specs.Seen.{bytes_of}
use Rattle.op_work.proofs.Going.{comes_same, extends_then}
use Rattle.op_compare.proofs.TextPlans.{bytes_are, texts_are}
use Rattle.op_compare.proofs.texts.compare_texts.Goals as goal

pub returns : goal.returns
returns c =
    let a = c.args.a in let b = c.args.b in
    comes_same (λ table. compare_texts c.args.ordered (bytes_of table a) (bytes_of table b))
    (λ table interned extends go. let more = extends_then c.ordered_texts.ensures.kept.extends extends in
    texts_are c.args.ordered (bytes_of table a) (bytes_of table b) (search (rules, c.if-not-ordered.false))
    (ap₂ bytes_eq (bytes_are table a _ (more.texts a _ c.text_of.ensures)) (bytes_are table b _ (more.texts b _ c.text_of-2.ensures)) ∙ (sym c.same_text.ensures ∙ c.if-same_text.false)) go)
    c.ordered_texts.ensures
