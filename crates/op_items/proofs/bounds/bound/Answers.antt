use Rattle.std.proofs.Common.{◌∙◌, sym, ap}
use Rattle.op_work.proofs.Going.{fault_comes}
use Rattle.py_model.specs.Places.{with_bound}
use Rattle.py_value.specs.Contents.{contents}
use Rattle.op_items.proofs.SlicePlans.{bound_is, or_wrong}
use Rattle.op_items.proofs.bounds.bound.Goals as goal

pub returns-in-None : goal.returns-in-None
returns-in-None c = fault_comes (λ table. with_bound (contents table c.args.v)) 9 _ c.fault.result c.fault.ensures
    (λ table interned extends go. bound_is table c.args.v go ∙ ap (λ found. or_wrong found go) (sym c.bound_in.ensures ∙ c.in-None.is))
