use Rattle.std.proofs.Common.{sym, ap, subst, ◌∙◌, List, map}
use Rattle.object_store.specs.Store.{keys_at}
use Rattle.op_lists.specs.ValuesSeen.{values_seen}
use Rattle.op_work.specs.Work.{Comes}
use Rattle.py_model.specs.Plan.{Plan, read_order}
use Rattle.py_value.specs.Contents.{Contents, contents}
use Rattle.py_value.specs.Values.{ValuesView, AreNamed}
use Rattle.op_work.proofs.Going.{comes_stop, comes_as, passes_err}
use Rattle.op_lists.proofs.walk.walk_keys.Goals as goal

abbrev same_keys : ValuesView → List Contents → (List Contents → Plan) → Plan
same_keys table keys go = go keys

pub returns-in_err-count : goal.returns-in_err-count
returns-in_err-count c = passes_err
    (λ result. Comes (λ values vs. AreNamed values vs.items) (λ table vs. values_seen table vs.items) (λ table. read_order c.args.o) c.args.work.now c.read_order.new.self result)
    c.from_residual.result c.from_residual.ensures.1 (comes_stop same_keys c.in_err-count.ensures.comes)

pub returns : goal.returns
returns c =
    let store_is = ap (λ store. keys_at store c.args.o) c.read_order.ensures.comes.kept.store_is in
    let keys = c.in_ok-keys.ensures ∙ store_is in
    comes_as same_keys c.in_ok-keys.keys c.in_ok-count.ensures.comes
    (subst (AreNamed c.read_order.new.self.values) (sym keys) c.in_ok-count.ensures.comes.is_named)
    (λ table interned extends go. ap (λ vs. go (map (contents table) vs)) (sym keys))
