use Rattle.std.proofs.Common.{◌<◌, sym, ap, subst, map, length}
use Rattle.object_store.specs.Store.{StoreView}
use Rattle.py_model.specs.Lists.{extend}
use Rattle.py_value.specs.Contents.{contents, nothing}
use Rattle.op_numbers.proofs.EndsAlike.{ends_as}
use Rattle.op_numbers.proofs.NumberPlans.{two_named}
use Rattle.op_lists.proofs.NamedValues.{named_stays}
use Rattle.op_work.specs.Work.{Ends}
use Rattle.op_work.proofs.Ending.{ends_then, ends_stop}
use Rattle.op_work.proofs.Going.{passes_err}
use Rattle.op_joins.specs.Extended.{extended}
use Rattle.op_joins.specs.Receivers.{with_list}
use Rattle.op_joins.proofs.ReceiverPlans.{second, second_is, extend_is}
use Rattle.op_joins.proofs.extending.extend.Goals as goal

pub returns-in_err-o : goal.returns-in_err-o
returns-in_err-o c = passes_err (λ result. Ends (λ table. extend (map (contents table) c.args.operands.now)) c.args.work.now c.list_operand.new.work result) c.from_residual.result c.from_residual.ensures.1
    (ends_as (λ table. extend (map (contents table) c.args.operands.now)) (λ table. with_list 2 (map (contents table) c.args.operands.now) (λ o. extended o (second (map (contents table) c.args.operands.now)) nothing))
    (λ table interned extends. extend_is (map (contents table) c.args.operands.now))
    (ends_stop (λ table o. extended o (second (map (contents table) c.args.operands.now)) nothing) _ c.in_err-o.ensures.comes))

pub extend_list-requires-clause-other : goal.extend_list-requires-clause-other
extend_list-requires-clause-other c = named_stays c.args.work.now.values c.list_operand.new.work.values c.list_operand.ensures.comes.kept.extends.few _
    (two_named c.args.work.now.values c.args.operands.now c.requires.named c.in_ok-o.ensures.count).1

pub extend_list-requires-clause-within : goal.extend_list-requires-clause-within
extend_list-requires-clause-within c = subst (λ (s : StoreView). c.in_ok-o.o < length s.objects) (sym c.list_operand.ensures.comes.kept.store_is) c.in_ok-o.ensures.there

pub returns : goal.returns
returns c = ends_as (λ table. extend (map (contents table) c.args.operands.now)) (λ table. with_list 2 (map (contents table) c.args.operands.now) (λ o. extended o (second (map (contents table) c.args.operands.now)) nothing))
    (λ table interned extends. extend_is (map (contents table) c.args.operands.now))
    (ends_then (λ table o. extended o (second (map (contents table) c.args.operands.now)) nothing) c.in_ok-o.ensures.comes
    (λ table interned extends. ap (λ x. extended c.in_ok-o.o x nothing) (second_is (contents table) c.args.operands.now c.in_ok-o.ensures.count)) c.extend_list.ensures)
