use Rattle.std.proofs.Common.{◌<◌, refl, sym, subst, length, negsuc, [], ◌∷◌}
use Rattle.object_store.specs.Store.{StoreView}
use Rattle.op_work.specs.Work.{Ends}
use Rattle.py_model.specs.Lists.{pop, pop_item}
use Rattle.py_value.specs.Contents.{object}
use Rattle.op_work.proofs.Ending.{ends_then, ends_stop}
use Rattle.op_work.proofs.Going.{passes_err}
use Rattle.op_mutations.proofs.taking.pop_last.Goals as goal

pub returns-in_err-list : goal.returns-in_err-list
returns-in_err-list c = passes_err (λ result. Ends (λ table. pop (object c.args.o ∷ [])) c.args.work.now c.list.new.work result) c.from_residual.result c.from_residual.ensures.1
    (ends_stop (λ table x. pop_item c.args.o (negsuc 0)) _ c.in_err-list.ensures.comes)

pub pop_item-requires-clause-within : goal.pop_item-requires-clause-within
pop_item-requires-clause-within c = subst (λ (s : StoreView). c.args.o < length s.objects) (sym c.list.ensures.comes.kept.store_is) c.in_ok-list.ensures.there

pub returns : goal.returns
returns c = ends_then (λ table x. pop_item c.args.o (negsuc 0)) c.in_ok-list.ensures.comes (λ table interned extends. refl) c.pop_item.ensures
