use Rattle.std.proofs.Common.{◌∙◌, refl, sym, ap}
use Rattle.py_model.specs.Plan.{kind_of}
use Rattle.op_work.specs.Work.{seen_kind}
use Rattle.op_work.proofs.Going.{comes_then, comes_as}
use Rattle.op_compare.specs.Pairs.{shape_seen}
use Rattle.op_compare.proofs.Shapes.{shapes_same}
use Rattle.op_compare.proofs.pairs.shape_at.Goals as goal

pub returns : goal.returns
returns c = comes_then (λ table left go. kind_of c.args.p (λ right. go (shape_seen left right))) c.kind.ensures (λ table interned extends go. refl)
    (comes_as (λ table right go. go (shape_seen (seen_kind table c.kind.result) right)) _ c.kind-2.ensures tt
    (λ table interned extends go. ap go (shapes_same table c.kind.result c.kind-2.result ∙ sym c.shape_of.ensures)))
