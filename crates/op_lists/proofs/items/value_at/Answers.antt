use Rattle.std.proofs.Common.{◌∙◌, sym, ap, subst}
use Rattle.py_value.specs.Contents.{contents}
use Rattle.py_value.specs.Values.{IsNamed}
use Rattle.py_model.specs.Walks.{read_value}
use Rattle.op_work.specs.Work.{Comes}
use Rattle.op_work.proofs.Going.{comes_as, comes_stop, passes_err}
use Rattle.op_lists.proofs.OneItem.{or_nothing, item_seen, item_is_named}
use Rattle.op_lists.proofs.items.value_at.Goals as goal

pub returns-in_err-item : goal.returns-in_err-item
returns-in_err-item c = passes_err (λ result. Comes IsNamed contents (λ table. read_value c.args.o c.args.p) c.args.work.now c.read_item.new.self result)
    c.from_residual.result c.from_residual.ensures.1 (comes_stop or_nothing c.in_err-item.ensures)

pub returns : goal.returns
returns c = comes_as or_nothing c.unwrap_or.result c.in_ok-item.ensures
    (subst (IsNamed c.read_item.new.self.values) (sym c.unwrap_or.ensures) (item_is_named c.read_item.new.self.values c.in_ok-item.item c.in_ok-item.ensures.is_named))
    (λ table interned extends go. ap go (item_seen table c.in_ok-item.item ∙ ap (contents table) (sym c.unwrap_or.ensures)))
