use Rattle.std.proofs.Common.{rules, ◌≡◌, ◌∙◌, ◌<◌, refl, sym, ap, subst, length, ℤ, w64, to_z, of_z, [], ◌∷◌}
use Rattle.object_store.specs.Store.{StoreView}
use Rattle.op_work.specs.Work.{Ends}
use Rattle.py_model.specs.Lists.{pop, pop_item}
use Rattle.py_model.specs.Places.{with_index}
use Rattle.py_value.specs.Contents.{contents, object}
use Rattle.op_work.proofs.Ending.{ends_then, ends_stop}
use Rattle.op_work.proofs.Going.{passes_err}
use Rattle.op_mutations.proofs.taking.pop_at.Goals as goal

pub returns-in_err-list : goal.returns-in_err-list
returns-in_err-list c = passes_err (λ result. Ends (λ table. pop (object c.args.o ∷ contents table c.args.w ∷ [])) c.args.work.now c.list.new.work result) c.from_residual.result c.from_residual.ensures.1
    (ends_stop (λ table x. with_index (contents table c.args.w) (pop_item c.args.o)) _ c.in_err-list.ensures.comes)

pub returns-in_err-i : goal.returns-in_err-i
returns-in_err-i c = passes_err (λ result. Ends (λ table. pop (object c.args.o ∷ contents table c.args.w ∷ [])) c.args.work.now c.index.new.work result) c.from_residual-in_err-i.result c.from_residual-in_err-i.ensures.1
    (ends_then (λ table x. with_index (contents table c.args.w) (pop_item c.args.o)) c.in_ok-list.ensures.comes (λ table interned extends. refl)
    (ends_stop (λ table i. pop_item c.args.o i) _ c.in_err-i.ensures))

pub pop_item-requires-clause-within : goal.pop_item-requires-clause-within
pop_item-requires-clause-within c = subst (λ (s : StoreView). c.args.o < length s.objects) (sym (c.index.ensures.kept.store_is ∙ c.list.ensures.comes.kept.store_is)) c.in_ok-list.ensures.there

pub returns : goal.returns
returns c =
    let back : to_z w64 (of_z w64 c.in_ok-i.i) ≡ c.in_ok-i.i = search rules in
    ends_then (λ table x. with_index (contents table c.args.w) (pop_item c.args.o)) c.in_ok-list.ensures.comes (λ table interned extends. refl)
    (ends_then (λ table i. pop_item c.args.o i) c.in_ok-i.ensures (λ table interned extends. ap (λ (i : ℤ). pop_item c.args.o i) (sym back)) c.pop_item.ensures)
