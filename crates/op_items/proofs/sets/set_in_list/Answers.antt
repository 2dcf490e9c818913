use Rattle.std.proofs.Common.{rules, ◌≡◌, ◌∙◌, refl, subst, ℤ, w64, to_z, of_z, Ok, Err}
use Rattle.op_items.specs.Places.{at_index}
use Rattle.py_model.specs.Lists.{set_item}
use Rattle.py_model.specs.Places.{with_index}
use Rattle.py_model.specs.Plan.{write, done}
use Rattle.py_value.specs.Contents.{contents, nothing}
use Rattle.py_value.specs.Seen.{item_at, item_is}
use Rattle.py_value.specs.Values.{ValuesView}
use Rattle.op_lists.proofs.NamedValues.{named_stays}
use Rattle.op_work.specs.Work.{Comes, Ends, is_any, as_is}
use Rattle.op_work.proofs.Ending.{ends_then, ends_stop, ends_writes}
use Rattle.op_work.proofs.Going.{extends_then, passes_err}
use Rattle.op_items.proofs.SetPlans.{puts, within_still}
use Rattle.op_items.proofs.sets.set_in_list.Goals as goal

pub returns-in_err-i : goal.returns-in_err-i
returns-in_err-i c = passes_err (λ result. Ends (λ table. with_index (contents table c.args.w) (set_item c.args.o (contents table c.args.x))) c.args.work.now c.index.new.work result) c.from_residual.result c.from_residual.ensures.1
    (ends_stop (λ table i. set_item c.args.o (contents table c.args.x) i) _ c.in_err-i.ensures)

pub returns-in_err-found : goal.returns-in_err-found
returns-in_err-found c =
    let back : to_z w64 (of_z w64 c.in_ok-i.i) ≡ c.in_ok-i.i = search rules in
    let stopped = subst (λ (i : ℤ). Comes is_any as_is (λ (table : ValuesView). at_index c.args.o i) c.index.new.work c.length_and_place.new.work (Err c.in_err-found.field-0.0)) back c.in_err-found.ensures in
    passes_err (λ result. Ends (λ table. with_index (contents table c.args.w) (set_item c.args.o (contents table c.args.x))) c.args.work.now c.length_and_place.new.work result) c.from_residual-in_err-found.result c.from_residual-in_err-found.ensures.1
    (ends_then (λ table i. set_item c.args.o (contents table c.args.x) i) c.in_ok-i.ensures (λ table interned extends. refl) (ends_stop (λ table found. puts c.args.o (contents table c.args.x) found) _ stopped))

pub put_item-requires-clause-named : goal.put_item-requires-clause-named
put_item-requires-clause-named c =
    let extends = extends_then c.index.ensures.kept.extends c.length_and_place.ensures.kept.extends in
    named_stays c.args.work.now.values c.length_and_place.new.work.values extends.few c.args.x c.requires.named

pub put_item-requires-clause-within : goal.put_item-requires-clause-within
put_item-requires-clause-within c = within_still c.args.o c.length_and_place.new.work.made c.args.work.now.store c.length_and_place.new.work.store
    (c.length_and_place.ensures.kept.made_is ∙ (c.index.ensures.kept.made_is ∙ c.requires.fresh)) (c.length_and_place.ensures.kept.store_is ∙ c.index.ensures.kept.store_is) c.requires.within

pub returns : goal.returns
returns c =
    let back : to_z w64 (of_z w64 c.in_ok-i.i) ≡ c.in_ok-i.i = search rules in
    let found = subst (λ (i : ℤ). Comes is_any as_is (λ (table : ValuesView). at_index c.args.o i) c.index.new.work c.length_and_place.new.work (Ok c.in_ok-found.found)) back c.in_ok-found.ensures in
    ends_then (λ table i. set_item c.args.o (contents table c.args.x) i) c.in_ok-i.ensures (λ table interned extends. refl)
    (ends_then (λ table found. puts c.args.o (contents table c.args.x) found) found (λ table interned extends. refl)
    (ends_writes (λ table. puts c.args.o (contents table c.args.x) c.in_ok-found.found) (c.length_and_place.ensures.kept.made_is ∙ (c.index.ensures.kept.made_is ∙ c.requires.fresh))
    (λ table. write (item_at c.args.o c.in_ok-found.found.1) (item_is (contents table c.args.x)) (done nothing)) (λ table interned extends. refl) c.put_item.ensures))
