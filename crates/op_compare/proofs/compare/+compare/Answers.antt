use Rattle.std.proofs.Common.{rules, ◌≡◌, ◌∙◌, refl, sym, ap, ap₂, subst, arith, ◌-◌, suc, true, false, map, length, Some, slice_get}
use Rattle.object_store.specs.Store.{keys_at}
use Rattle.py_model.specs.Plan.{read_len, read_order}
use Rattle.py_model.specs.Walks.{compare_within, compare_parts, compare_lists, compare_items, compare_dicts, compare_entries, decided, is_alike, alike}
use Rattle.py_value.specs.Contents.{contents}
use Rattle.py_value.specs.Values.{AreNamed}
use Rattle.py_value.specs.declared.value.Value.TheVariants.{Text, Tuple, Object}
use Rattle.op_lists.proofs.NamedValues.{all_named_stay}
use Rattle.op_work.specs.Entries.{seen_entry}
use Rattle.std.proofs.lemmas.Bool.{ne_eqb}
use Rattle.op_work.specs.Work.{Comes, is_any}
use Rattle.op_work.proofs.Going.{comes_same, comes_stop, comes_then, comes_as, at_once, fault_comes, passes_err, extends_then}
use Rattle.op_work.proofs.Turning.{turns_then, turns_more, turns_same}
use Rattle.op_compare.specs.Comparisons.{how, how_seen}
use Rattle.op_lists.specs.Parts.{parts_in}
use Rattle.op_compare.proofs.Decided.{decided_on, decided_at, alike_or_apart, alike_on, apart_at}
use Rattle.op_compare.proofs.EntryWalks.{with_found, sizes, sizes_same, sizes_differ, left as entries_left, left_is as entries_left_is, left_none as entries_left_none, left_more as entries_left_more}
use Rattle.op_compare.proofs.ItemWalks.{lengths, lengths_differ, lengths_pass, next as items_next, left_is as items_left_is, left_more as items_left_more}
use Rattle.op_compare.proofs.Plain.{inside_of, text_plain, tuple_plain, object_plain, other_plain, plain_within, texts_within}
use Rattle.op_compare.proofs.Shapes.{by_shape, objects_at, ShapeComes, others_apart}
use Rattle.op_compare.proofs.TextOrder.{end_on}
use Rattle.op_compare.specs.declared.pairs.Shape.TheVariants.{Lists, Dicts, Others}
use Rattle.op_compare.proofs.TupleWalks.{left as parts_left, next as parts_next, left_is as parts_left_is, left_more as parts_left_more, tuples_step, tuples_deep, within_both, left_end_at as parts_left_end_at}
use Rattle.op_lists.proofs.TupleParts.{tuple_is, more_tuples}
use Rattle.op_compare.proofs.compare.+compare.Goals as goal

-- lists
pub compare_items-returns-in_err-v : goal.compare_items-returns-in_err-v
compare_items-returns-in_err-v t c =
    let pair = compare_within c.args.levels in let rest = how c.args.rest in let i = c.loop-i.i in
    passes_err (λ result. Comes is_any how_seen (λ table. compare_items pair c.args.ordered c.args.n c.args.o c.args.p 0 rest) c.args.work.now c.item_pair.new.work result)
    c.from_residual.result c.from_residual.ensures.1
    (turns_then (turns_same c.loop-i.invariant (λ table interned extends go. items_left_is pair c.args.ordered c.args.n c.args.o c.args.p rest i table c.loop-i-test.true go))
    (comes_stop (items_next pair c.args.ordered c.args.n c.args.o c.args.p rest i) c.in_err-v.ensures))

pub compare_items-returns-in_err-compared : goal.compare_items-returns-in_err-compared
compare_items-returns-in_err-compared t c =
    let pair = compare_within c.args.levels in let rest = how c.args.rest in let i = c.loop-i.i in let n = c.args.n in
    passes_err (λ result. Comes is_any how_seen (λ table. compare_items pair c.args.ordered n c.args.o c.args.p 0 rest) c.args.work.now c.compare_within.new.work result)
    c.from_residual-in_err-compared.result c.from_residual-in_err-compared.ensures.1
    (turns_then (turns_more (items_next pair c.args.ordered n c.args.o c.args.p rest i)
    (turns_same c.loop-i.invariant (λ table interned extends go. items_left_is pair c.args.ordered n c.args.o c.args.p rest i table c.loop-i-test.true go))
    c.in_ok-v.ensures (λ table interned extends go. refl))
    (comes_stop (λ table x go. decided go (compare_items pair c.args.ordered (n - suc i) c.args.o c.args.p (suc i) rest go) x) c.in_err-compared.ensures))

pub compare_items-returns-then-not-is_alike : goal.compare_items-returns-then-not-is_alike
compare_items-returns-then-not-is_alike t c =
    let pair = compare_within c.args.levels in let rest = how c.args.rest in let i = c.loop-i.i in let n = c.args.n in
    let differs : is_alike (how c.in_ok-compared.compared) ≡ false = sym c.is_alike.ensures ∙ search (rules, c.if-not-is_alike.true) in
    turns_then (turns_more (items_next pair c.args.ordered n c.args.o c.args.p rest i)
    (turns_same c.loop-i.invariant (λ table interned extends go. items_left_is pair c.args.ordered n c.args.o c.args.p rest i table c.loop-i-test.true go))
    c.in_ok-v.ensures (λ table interned extends go. refl))
    (comes_as (λ table x go. decided go (compare_items pair c.args.ordered (n - suc i) c.args.o c.args.p (suc i) rest go) x) c.in_ok-compared.compared c.in_ok-compared.ensures tt
    (λ table interned extends go. decided_at go (compare_items pair c.args.ordered (n - suc i) c.args.o c.args.p (suc i) rest go) (how c.in_ok-compared.compared) differs))

pub compare_items-loop-i-preserved : goal.compare_items-loop-i-preserved
compare_items-loop-i-preserved t c =
    let pair = compare_within c.args.levels in let rest = how c.args.rest in let i = c.loop-i.i in let n = c.args.n in
    let same : is_alike (how c.in_ok-compared.compared) ≡ true = sym c.is_alike.ensures ∙ search (rules, c.if-not-is_alike.false) in
    turns_more (λ table x go. decided go (compare_items pair c.args.ordered (n - suc i) c.args.o c.args.p (suc i) rest go) x)
    (turns_more (items_next pair c.args.ordered n c.args.o c.args.p rest i)
    (turns_same c.loop-i.invariant (λ table interned extends go. items_left_is pair c.args.ordered n c.args.o c.args.p rest i table c.loop-i-test.true go))
    c.in_ok-v.ensures (λ table interned extends go. refl))
    c.in_ok-compared.ensures
    (λ table interned extends go. decided_on go (compare_items pair c.args.ordered (n - suc i) c.args.o c.args.p (suc i) rest go) (how c.in_ok-compared.compared) same
    ∙ items_left_more pair c.args.ordered n c.args.o c.args.p rest i go)

pub compare_lists-returns-in_err-m : goal.compare_lists-returns-in_err-m
compare_lists-returns-in_err-m t c =
    passes_err (λ result. Comes is_any how_seen (λ table. compare_lists (compare_within c.args.levels) c.args.ordered c.args.o c.args.p) c.args.work.now c.read_len.new.self result)
    c.from_residual.result c.from_residual.ensures.1
    (comes_stop (λ table m go. read_len c.args.p (λ n. lengths (compare_within c.args.levels) c.args.ordered c.args.o c.args.p m n go)) c.in_err-m.ensures)

pub compare_lists-returns-in_err-n : goal.compare_lists-returns-in_err-n
compare_lists-returns-in_err-n t c =
    passes_err (λ result. Comes is_any how_seen (λ table. compare_lists (compare_within c.args.levels) c.args.ordered c.args.o c.args.p) c.args.work.now c.read_len-2.new.self result)
    c.from_residual-in_err-n.result c.from_residual-in_err-n.ensures.1
    (comes_then (λ table m go. read_len c.args.p (λ n. lengths (compare_within c.args.levels) c.args.ordered c.args.o c.args.p m n go)) c.in_ok-m.ensures (λ table interned extends go. refl)
    (comes_stop (λ table n go. lengths (compare_within c.args.levels) c.args.ordered c.args.o c.args.p c.in_ok-m.m n go) c.in_err-n.ensures))

pub compare_lists-returns-then-m-n : goal.compare_lists-returns-then-m-n
compare_lists-returns-then-m-n t c =
    comes_then (λ table m go. read_len c.args.p (λ n. lengths (compare_within c.args.levels) c.args.ordered c.args.o c.args.p m n go)) c.in_ok-m.ensures (λ table interned extends go. refl)
    (comes_as (λ table n go. lengths (compare_within c.args.levels) c.args.ordered c.args.o c.args.p c.in_ok-m.m n go) _ c.in_ok-n.ensures tt
    (λ table interned extends go. lengths_differ (compare_within c.args.levels) c.args.ordered c.args.o c.args.p c.in_ok-m.m c.in_ok-n.n go (search (rules, c.if-not-ordered.true)) (ne_eqb c.in_ok-m.m c.in_ok-n.n c.if-m-n.true)))

pub compare_lists-returns : goal.compare_lists-returns
compare_lists-returns t c =
    comes_then (λ table m go. read_len c.args.p (λ n. lengths (compare_within c.args.levels) c.args.ordered c.args.o c.args.p m n go)) c.in_ok-m.ensures (λ table interned extends go. refl)
    (comes_then (λ table n go. lengths (compare_within c.args.levels) c.args.ordered c.args.o c.args.p c.in_ok-m.m n go) c.in_ok-n.ensures
    (λ table interned extends go. lengths_pass (compare_within c.args.levels) c.args.ordered c.args.o c.args.p c.in_ok-m.m c.in_ok-n.n go c.else-not-ordered.either
    ∙ ap₂ (λ k rest. compare_items (compare_within c.args.levels) c.args.ordered k c.args.o c.args.p 0 rest go) (sym c.fewer.ensures) (sym c.by_length.ensures)) c.compare_items.ensures)

-- tuples
pub compare_parts-returns-in_err-v : goal.compare_parts-returns-in_err-v
compare_parts-returns-in_err-v t c =
    let pair = compare_within c.args.levels in let a = c.args.a in let b = c.args.b in let i = c.loop-i.i in
    passes_err (λ result. Comes is_any how_seen (λ table. compare_parts pair c.args.ordered (parts_in table a) (parts_in table b)) c.args.work.now c.part_pair.new.work result)
    c.from_residual.result c.from_residual.ensures.1
    (turns_then (turns_same c.loop-i.invariant (λ table interned extends go. let more = extends_then c.loop-i.invariant.kept.extends extends in parts_left_is pair c.args.ordered a b i table
    (within_both more a i _ _ _ c.tuple_of-m.ensures.items refl c.shorter_length-i-end.ensures.left c.loop-i-test.true)
    (within_both more b i _ _ _ c.tuple_of-n.ensures.items refl c.shorter_length-i-end.ensures.right c.loop-i-test.true) go))
    (comes_stop (parts_next pair c.args.ordered a b i) c.in_err-v.ensures))

pub compare_parts-returns-in_err-compared : goal.compare_parts-returns-in_err-compared
compare_parts-returns-in_err-compared t c =
    let pair = compare_within c.args.levels in let a = c.args.a in let b = c.args.b in let i = c.loop-i.i in
    passes_err (λ result. Comes is_any how_seen (λ table. compare_parts pair c.args.ordered (parts_in table a) (parts_in table b)) c.args.work.now c.compare_within.new.work result)
    c.from_residual-in_err-compared.result c.from_residual-in_err-compared.ensures.1
    (turns_then (turns_more (parts_next pair c.args.ordered a b i) (turns_same c.loop-i.invariant (λ table interned extends go. let more = extends_then c.loop-i.invariant.kept.extends extends in parts_left_is pair c.args.ordered a b i table
    (within_both more a i _ _ _ c.tuple_of-m.ensures.items refl c.shorter_length-i-end.ensures.left c.loop-i-test.true)
    (within_both more b i _ _ _ c.tuple_of-n.ensures.items refl c.shorter_length-i-end.ensures.right c.loop-i-test.true) go))
    c.in_ok-v.ensures (λ table interned extends go. refl))
    (comes_stop (λ table x go. decided go (parts_left pair c.args.ordered a b (suc i) table go) x) c.in_err-compared.ensures))

pub compare_parts-returns-then-not-is_alike : goal.compare_parts-returns-then-not-is_alike
compare_parts-returns-then-not-is_alike t c =
    let pair = compare_within c.args.levels in let a = c.args.a in let b = c.args.b in let i = c.loop-i.i in
    let differs : is_alike (how c.in_ok-compared.compared) ≡ false = sym c.is_alike.ensures ∙ search (rules, c.if-not-is_alike.true) in
    turns_then (turns_more (parts_next pair c.args.ordered a b i) (turns_same c.loop-i.invariant (λ table interned extends go. let more = extends_then c.loop-i.invariant.kept.extends extends in parts_left_is pair c.args.ordered a b i table
    (within_both more a i _ _ _ c.tuple_of-m.ensures.items refl c.shorter_length-i-end.ensures.left c.loop-i-test.true)
    (within_both more b i _ _ _ c.tuple_of-n.ensures.items refl c.shorter_length-i-end.ensures.right c.loop-i-test.true) go))
    c.in_ok-v.ensures (λ table interned extends go. refl))
    (comes_as (λ table x go. decided go (parts_left pair c.args.ordered a b (suc i) table go) x) c.in_ok-compared.compared c.in_ok-compared.ensures tt
    (λ table interned extends go. decided_at go (parts_left pair c.args.ordered a b (suc i) table go) (how c.in_ok-compared.compared) differs))

pub compare_parts-loop-i-preserved : goal.compare_parts-loop-i-preserved
compare_parts-loop-i-preserved t c =
    let pair = compare_within c.args.levels in let a = c.args.a in let b = c.args.b in let i = c.loop-i.i in
    let same : is_alike (how c.in_ok-compared.compared) ≡ true = sym c.is_alike.ensures ∙ search (rules, c.if-not-is_alike.false) in
    turns_more (λ table x go. decided go (parts_left pair c.args.ordered a b (suc i) table go) x)
    (turns_more (parts_next pair c.args.ordered a b i) (turns_same c.loop-i.invariant (λ table interned extends go. let more = extends_then c.loop-i.invariant.kept.extends extends in parts_left_is pair c.args.ordered a b i table
    (within_both more a i _ _ _ c.tuple_of-m.ensures.items refl c.shorter_length-i-end.ensures.left c.loop-i-test.true)
    (within_both more b i _ _ _ c.tuple_of-n.ensures.items refl c.shorter_length-i-end.ensures.right c.loop-i-test.true) go))
    c.in_ok-v.ensures (λ table interned extends go. refl))
    c.in_ok-compared.ensures
    (λ table interned extends go. decided_on go (parts_left pair c.args.ordered a b (suc i) table go) (how c.in_ok-compared.compared) same ∙ parts_left_more pair c.args.ordered a b i table go)

pub compare_parts-returns : goal.compare_parts-returns
compare_parts-returns t c =
    let pair = compare_within c.args.levels in let a = c.args.a in let b = c.args.b in let i = c.loop-i.i in
    turns_then (turns_same c.loop-i.invariant (λ table interned extends go. let more = extends_then c.loop-i.invariant.kept.extends extends in
    parts_left_end_at pair c.args.ordered more a b i c.tuple_of-m.result.now c.tuple_of-n.result.now c.tuple_of-m.ensures.items c.tuple_of-n.ensures.items
    (omega (arith, c.loop-i.auto.i-end, c.shorter_length-i-end.ensures.left)) (omega (arith, c.loop-i.auto.i-end, c.shorter_length-i-end.ensures.right))
    (end_on c.shorter_length-i-end.ensures.end c.loop-i-test.false) go ∙ ap go (sym c.by_length.ensures)))
    (at_once (λ table go. go (how c.by_length.result)) c.loop-i.work c.by_length.result tt (λ table interned extends go. refl))

pub compare_tuples-returns-then-levels-eq0 : goal.compare_tuples-returns-then-levels-eq0
compare_tuples-returns-then-levels-eq0 t c = fault_comes (λ table. compare_within c.args.levels c.args.ordered (contents table (Tuple c.args.a)) (contents table (Tuple c.args.b))) 14 _ c.fault.result c.fault.ensures
    (λ table interned extends go. tuples_deep c.args.levels c.args.ordered table c.args.a c.args.b go c.if-levels-eq0.true)

pub compare_tuples-returns : goal.compare_tuples-returns
compare_tuples-returns t c =
    let levels : c.args.levels ≡ suc (c.args.levels - 1) = omega (arith, c.if-levels-eq0.false) in
    comes_same (λ table. compare_within c.args.levels c.args.ordered (contents table (Tuple c.args.a)) (contents table (Tuple c.args.b)))
    (λ table interned extends go. let more = extends_then c.compare_parts.ensures.kept.extends extends in
    ap (λ n. compare_within n c.args.ordered (contents table (Tuple c.args.a)) (contents table (Tuple c.args.b)) go) levels
    ∙ tuples_step (c.args.levels - 1) c.args.ordered table c.args.a c.args.b go
    (tuple_is c.tuples_are_their_parts.ensures table interned c.args.a (more_tuples more c.args.a c.requires.one))
    (tuple_is c.tuples_are_their_parts.ensures table interned c.args.b (more_tuples more c.args.b c.requires.other)))
    c.compare_parts.ensures

-- objects
pub compare_objects-returns-in-Others : goal.compare_objects-returns-in-Others
compare_objects-returns-in-Others t c = objects_at c.args.levels c.args.ordered c.args.o c.args.p c.if-o-p.false (subst (λ shape. ShapeComes c.args.o c.args.p c.args.work.now shape) c.in-Others.is c.shape_at.ensures)
    (at_once (λ table go. by_shape (inside_of c.args.levels) c.args.ordered c.args.o c.args.p go Others) c.args.work.now _ tt (λ table interned extends go. others_apart (inside_of c.args.levels) c.args.ordered c.args.o c.args.p go))

pub compare_objects-returns-then-levels-eq0 : goal.compare_objects-returns-then-levels-eq0
compare_objects-returns-then-levels-eq0 t c = objects_at c.args.levels c.args.ordered c.args.o c.args.p c.if-o-p.false (subst (λ shape. ShapeComes c.args.o c.args.p c.args.work.now shape) c.in-Lists.is c.shape_at.ensures)
    (fault_comes (λ table go. by_shape (inside_of c.args.levels) c.args.ordered c.args.o c.args.p go Lists) 14 _ c.fault.result c.fault.ensures
    (λ table interned extends go. ap (λ n. by_shape (inside_of n) c.args.ordered c.args.o c.args.p go Lists) c.if-levels-eq0.true))

pub compare_objects-returns-then-levels-eq0-2 : goal.compare_objects-returns-then-levels-eq0-2
compare_objects-returns-then-levels-eq0-2 t c = objects_at c.args.levels c.args.ordered c.args.o c.args.p c.if-o-p.false (subst (λ shape. ShapeComes c.args.o c.args.p c.args.work.now shape) c.in-Dicts.is c.shape_at.ensures)
    (fault_comes (λ table go. by_shape (inside_of c.args.levels) c.args.ordered c.args.o c.args.p go Dicts) 14 _ c.fault-then-levels-eq0-2.result c.fault-then-levels-eq0-2.ensures
    (λ table interned extends go. ap (λ n. by_shape (inside_of n) c.args.ordered c.args.o c.args.p go Dicts) c.if-levels-eq0-2.true))

pub compare_objects-returns-else-levels-eq0 : goal.compare_objects-returns-else-levels-eq0
compare_objects-returns-else-levels-eq0 t c =
    let levels : c.args.levels ≡ suc (c.args.levels - 1) = omega (arith, c.if-levels-eq0.false) in
    objects_at c.args.levels c.args.ordered c.args.o c.args.p c.if-o-p.false (subst (λ shape. ShapeComes c.args.o c.args.p c.args.work.now shape) c.in-Lists.is c.shape_at.ensures)
    (comes_same (λ table go. by_shape (inside_of c.args.levels) c.args.ordered c.args.o c.args.p go Lists)
    (λ table interned extends go. ap (λ n. by_shape (inside_of n) c.args.ordered c.args.o c.args.p go Lists) levels) c.compare_lists.ensures)

pub compare_objects-returns-else-levels-eq0-2 : goal.compare_objects-returns-else-levels-eq0-2
compare_objects-returns-else-levels-eq0-2 t c =
    let levels : c.args.levels ≡ suc (c.args.levels - 1) = omega (arith, c.if-levels-eq0-2.false) in
    objects_at c.args.levels c.args.ordered c.args.o c.args.p c.if-o-p.false (subst (λ shape. ShapeComes c.args.o c.args.p c.args.work.now shape) c.in-Dicts.is c.shape_at.ensures)
    (comes_same (λ table go. by_shape (inside_of c.args.levels) c.args.ordered c.args.o c.args.p go Dicts)
    (λ table interned extends go. ap (λ n. by_shape (inside_of n) c.args.ordered c.args.o c.args.p go Dicts) levels) c.compare_dicts.ensures)

-- dictionaries
pub compare_dicts-returns-in_err-m : goal.compare_dicts-returns-in_err-m
compare_dicts-returns-in_err-m t c =
    passes_err (λ result. Comes is_any how_seen (λ table. compare_dicts (compare_within c.args.levels) c.args.o c.args.p) c.args.work.now c.read_order.new.self result)
    c.from_residual.result c.from_residual.ensures.1
    (comes_stop (λ table ks go. read_order c.args.p (λ ls. sizes (compare_within c.args.levels) c.args.o c.args.p ks ls go)) c.in_err-m.ensures.comes)

pub compare_dicts-returns-in_err-n : goal.compare_dicts-returns-in_err-n
compare_dicts-returns-in_err-n t c =
    passes_err (λ result. Comes is_any how_seen (λ table. compare_dicts (compare_within c.args.levels) c.args.o c.args.p) c.args.work.now c.read_order-2.new.self result)
    c.from_residual-in_err-n.result c.from_residual-in_err-n.ensures.1
    (comes_then (λ table ks go. read_order c.args.p (λ ls. sizes (compare_within c.args.levels) c.args.o c.args.p ks ls go)) c.in_ok-m.ensures.comes (λ table interned extends go. refl)
    (comes_stop (λ table ls go. sizes (compare_within c.args.levels) c.args.o c.args.p (map (contents table) (keys_at c.args.work.now.store c.args.o)) ls go) c.in_err-n.ensures.comes))

pub compare_dicts-returns-then-m-n : goal.compare_dicts-returns-then-m-n
compare_dicts-returns-then-m-n t c =
    comes_then (λ table ks go. read_order c.args.p (λ ls. sizes (compare_within c.args.levels) c.args.o c.args.p ks ls go)) c.in_ok-m.ensures.comes (λ table interned extends go. refl)
    (comes_as (λ table ls go. sizes (compare_within c.args.levels) c.args.o c.args.p (map (contents table) (keys_at c.args.work.now.store c.args.o)) ls go) _ c.in_ok-n.ensures.comes tt
    (λ table interned extends go. sizes_differ (compare_within c.args.levels) c.args.o c.args.p (contents table) (keys_at c.args.work.now.store c.args.o) (keys_at c.read_order.new.self.store c.args.p) go
    (λ is. c.if-m-n.true (c.in_ok-m.ensures.count ∙ (is ∙ sym c.in_ok-n.ensures.count)))))

pub compare_dicts-compare_entries-requires : goal.compare_dicts-compare_entries-requires
compare_dicts-compare_entries-requires t c =
    let store_is = ap (λ store. keys_at store c.args.o) (c.in_ok-n.ensures.comes.kept.store_is ∙ c.in_ok-m.ensures.comes.kept.store_is) in (
      omega arith,
      (
        c.in_ok-m.ensures.count ∙ ap length (sym store_is),
        subst (AreNamed c.read_order-2.new.self.values) (sym store_is)
            (all_named_stay c.read_order.new.self.values c.read_order-2.new.self.values c.in_ok-n.ensures.comes.kept.extends.few (keys_at c.args.work.now.store c.args.o) c.in_ok-m.ensures.comes.is_named),
      ),
    )

pub compare_dicts-returns : goal.compare_dicts-returns
compare_dicts-returns t c =
    let store_is = ap (λ store. keys_at store c.args.o) (c.in_ok-n.ensures.comes.kept.store_is ∙ c.in_ok-m.ensures.comes.kept.store_is) in
    comes_then (λ table ks go. read_order c.args.p (λ ls. sizes (compare_within c.args.levels) c.args.o c.args.p ks ls go)) c.in_ok-m.ensures.comes (λ table interned extends go. refl)
    (comes_then (λ table ls go. sizes (compare_within c.args.levels) c.args.o c.args.p (map (contents table) (keys_at c.args.work.now.store c.args.o)) ls go) c.in_ok-n.ensures.comes
    (λ table interned extends go. sizes_same (compare_within c.args.levels) c.args.o c.args.p (contents table) (keys_at c.args.work.now.store c.args.o) (keys_at c.read_order.new.self.store c.args.p) go
    (sym c.in_ok-m.ensures.count ∙ (c.if-m-n.false ∙ c.in_ok-n.ensures.count)) ∙ ap (λ ks. compare_entries (compare_within c.args.levels) (map (contents table) ks) c.args.o c.args.p go) (sym store_is))
    c.compare_entries.ensures)

pub compare_entries-entry_pair-requires : goal.compare_entries-entry_pair-requires
compare_entries-entry_pair-requires t c =
    let keys = keys_at c.args.work.now.store c.args.o in
    all_named_stay c.args.work.now.values c.loop-i.work.values c.loop-i.invariant.kept.extends.few keys c.requires.named c.loop-i.i c.key-key.result
    (ap (λ store. slice_get (keys_at store c.args.o) c.loop-i.i) (sym c.loop-i.invariant.kept.store_is) ∙ c.key-key.ensures)

pub compare_entries-returns-in_err-pair : goal.compare_entries-returns-in_err-pair
compare_entries-returns-in_err-pair t c =
    let pair = compare_within c.args.levels in let o = c.args.o in let p = c.args.p in let keys = keys_at c.args.work.now.store o in let i = c.loop-i.i in
    let at : slice_get keys i ≡ Some c.key-key.result = ap (λ store. slice_get (keys_at store o) i) (sym c.loop-i.invariant.kept.store_is) ∙ c.key-key.ensures in
    passes_err (λ result. Comes is_any how_seen (λ table. compare_entries pair (map (contents table) keys) o p) c.args.work.now c.entry_pair.new.work result)
    c.from_residual.result c.from_residual.ensures.1
    (turns_then (turns_same c.loop-i.invariant (λ table interned extends go. entries_left_is pair keys o p i c.key-key.result at table go))
    (comes_stop (λ table found go. with_found pair go (entries_left pair keys o p (suc i) table go) found) c.in_err-pair.ensures))

pub compare_entries-returns-in-None : goal.compare_entries-returns-in-None
compare_entries-returns-in-None t c =
    let pair = compare_within c.args.levels in let o = c.args.o in let p = c.args.p in let keys = keys_at c.args.work.now.store o in let i = c.loop-i.i in
    let at : slice_get keys i ≡ Some c.key-key.result = ap (λ store. slice_get (keys_at store o) i) (sym c.loop-i.invariant.kept.store_is) ∙ c.key-key.ensures in
    turns_then (turns_same c.loop-i.invariant (λ table interned extends go. entries_left_is pair keys o p i c.key-key.result at table go))
    (comes_as (λ table found go. with_found pair go (entries_left pair keys o p (suc i) table go) found) _ c.in_ok-pair.ensures tt
    (λ table interned extends go. ap (λ found. with_found pair go (entries_left pair keys o p (suc i) table go) (seen_entry table found)) c.in-None.is))

pub compare_entries-returns-in_err-compared : goal.compare_entries-returns-in_err-compared
compare_entries-returns-in_err-compared t c =
    let pair = compare_within c.args.levels in let o = c.args.o in let p = c.args.p in let keys = keys_at c.args.work.now.store o in let i = c.loop-i.i in
    let at : slice_get keys i ≡ Some c.key-key.result = ap (λ store. slice_get (keys_at store o) i) (sym c.loop-i.invariant.kept.store_is) ∙ c.key-key.ensures in
    passes_err (λ result. Comes is_any how_seen (λ table. compare_entries pair (map (contents table) keys) o p) c.args.work.now c.compare_within.new.work result)
    c.from_residual-in_err-compared.result c.from_residual-in_err-compared.ensures.1
    (turns_then (turns_more (λ table found go. with_found pair go (entries_left pair keys o p (suc i) table go) found)
    (turns_same c.loop-i.invariant (λ table interned extends go. entries_left_is pair keys o p i c.key-key.result at table go)) c.in_ok-pair.ensures
    (λ table interned extends go. ap (λ found. with_found pair go (entries_left pair keys o p (suc i) table go) (seen_entry table found)) c.in-Some.is))
    (comes_stop (λ table x go. alike_or_apart go (entries_left pair keys o p (suc i) table go) x) c.in_err-compared.ensures))

pub compare_entries-returns-then-not-is_alike : goal.compare_entries-returns-then-not-is_alike
compare_entries-returns-then-not-is_alike t c =
    let pair = compare_within c.args.levels in let o = c.args.o in let p = c.args.p in let keys = keys_at c.args.work.now.store o in let i = c.loop-i.i in
    let at : slice_get keys i ≡ Some c.key-key.result = ap (λ store. slice_get (keys_at store o) i) (sym c.loop-i.invariant.kept.store_is) ∙ c.key-key.ensures in
    let differs : is_alike (how c.in_ok-compared.compared) ≡ false = sym c.is_alike.ensures ∙ search (rules, c.if-not-is_alike.true) in
    turns_then (turns_more (λ table found go. with_found pair go (entries_left pair keys o p (suc i) table go) found)
    (turns_same c.loop-i.invariant (λ table interned extends go. entries_left_is pair keys o p i c.key-key.result at table go)) c.in_ok-pair.ensures
    (λ table interned extends go. ap (λ found. with_found pair go (entries_left pair keys o p (suc i) table go) (seen_entry table found)) c.in-Some.is))
    (comes_as (λ table x go. alike_or_apart go (entries_left pair keys o p (suc i) table go) x) _ c.in_ok-compared.ensures tt
    (λ table interned extends go. apart_at go (entries_left pair keys o p (suc i) table go) (how c.in_ok-compared.compared) differs))

pub compare_entries-loop-i-preserved : goal.compare_entries-loop-i-preserved
compare_entries-loop-i-preserved t c =
    let pair = compare_within c.args.levels in let o = c.args.o in let p = c.args.p in let keys = keys_at c.args.work.now.store o in let i = c.loop-i.i in
    let at : slice_get keys i ≡ Some c.key-key.result = ap (λ store. slice_get (keys_at store o) i) (sym c.loop-i.invariant.kept.store_is) ∙ c.key-key.ensures in
    let same : is_alike (how c.in_ok-compared.compared) ≡ true = sym c.is_alike.ensures ∙ search (rules, c.if-not-is_alike.false) in
    turns_more (λ table x go. alike_or_apart go (entries_left pair keys o p (suc i) table go) x)
    (turns_more (λ table found go. with_found pair go (entries_left pair keys o p (suc i) table go) found)
    (turns_same c.loop-i.invariant (λ table interned extends go. entries_left_is pair keys o p i c.key-key.result at table go)) c.in_ok-pair.ensures
    (λ table interned extends go. ap (λ found. with_found pair go (entries_left pair keys o p (suc i) table go) (seen_entry table found)) c.in-Some.is))
    c.in_ok-compared.ensures
    (λ table interned extends go. alike_on go (entries_left pair keys o p (suc i) table go) (how c.in_ok-compared.compared) same ∙ entries_left_more pair keys o p i table go)

pub compare_entries-returns : goal.compare_entries-returns
compare_entries-returns t c =
    let pair = compare_within c.args.levels in let keys = keys_at c.args.work.now.store c.args.o in
    turns_then (turns_same c.loop-i.invariant (λ table interned extends go. entries_left_none pair keys c.args.o c.args.p c.loop-i.i (omega (arith, c.loop-i-test.false, c.requires.count)) table go))
    (at_once (λ table go. go alike) c.loop-i.work _ tt (λ table interned extends go. refl))

-- two values
pub compare_within-returns-in-Text-w : goal.compare_within-returns-in-Text-w
compare_within-returns-in-Text-w t c = comes_same (λ table. compare_within c.args.levels c.args.ordered (contents table c.args.v) (contents table c.args.w))
    (λ table interned extends go. ap₂ (λ v w. compare_within c.args.levels c.args.ordered (contents table v) (contents table w) go) c.in-Text.is c.in-Text-w.is
    ∙ texts_within c.args.levels c.args.ordered table c.in-Text.a c.in-Text-w.b go) c.compare_texts.ensures

pub compare_within-returns-in_default-w : goal.compare_within-returns-in_default-w
compare_within-returns-in_default-w t c = at_once (λ table. compare_within c.args.levels c.args.ordered (contents table c.args.v) (contents table c.args.w)) c.args.work.now _ tt
    (λ table interned extends go. ap (λ v. compare_within c.args.levels c.args.ordered (contents table v) (contents table c.args.w) go) c.in-Text.is
    ∙ plain_within c.args.levels c.args.ordered table (Text c.in-Text.a) c.args.w (text_plain c.in-Text.a c.args.w c.in_default-w.not-Text) go)

pub compare_within-returns-in-Tuple-w : goal.compare_within-returns-in-Tuple-w
compare_within-returns-in-Tuple-w t c = comes_same (λ table. compare_within c.args.levels c.args.ordered (contents table c.args.v) (contents table c.args.w))
    (λ table interned extends go. ap₂ (λ v w. compare_within c.args.levels c.args.ordered (contents table v) (contents table w) go) c.in-Tuple.is c.in-Tuple-w.is) c.compare_tuples.ensures

pub compare_within-returns-in_default-w-2 : goal.compare_within-returns-in_default-w-2
compare_within-returns-in_default-w-2 t c = at_once (λ table. compare_within c.args.levels c.args.ordered (contents table c.args.v) (contents table c.args.w)) c.args.work.now _ tt
    (λ table interned extends go. ap (λ v. compare_within c.args.levels c.args.ordered (contents table v) (contents table c.args.w) go) c.in-Tuple.is
    ∙ plain_within c.args.levels c.args.ordered table (Tuple c.in-Tuple.a) c.args.w (tuple_plain c.in-Tuple.a c.args.w c.in_default-w-2.not-Tuple) go)

pub compare_within-returns-in-Object-w : goal.compare_within-returns-in-Object-w
compare_within-returns-in-Object-w t c = comes_same (λ table. compare_within c.args.levels c.args.ordered (contents table c.args.v) (contents table c.args.w))
    (λ table interned extends go. ap₂ (λ v w. compare_within c.args.levels c.args.ordered (contents table v) (contents table w) go) c.in-Object.is c.in-Object-w.is) c.compare_objects.ensures

pub compare_within-returns-in_default-w-3 : goal.compare_within-returns-in_default-w-3
compare_within-returns-in_default-w-3 t c = at_once (λ table. compare_within c.args.levels c.args.ordered (contents table c.args.v) (contents table c.args.w)) c.args.work.now _ tt
    (λ table interned extends go. ap (λ v. compare_within c.args.levels c.args.ordered (contents table v) (contents table c.args.w) go) c.in-Object.is
    ∙ plain_within c.args.levels c.args.ordered table (Object c.in-Object.o) c.args.w (object_plain c.in-Object.o c.args.w c.in_default-w-3.not-Object) go)

pub compare_within-returns-in_default : goal.compare_within-returns-in_default
compare_within-returns-in_default t c = at_once (λ table. compare_within c.args.levels c.args.ordered (contents table c.args.v) (contents table c.args.w)) c.args.work.now _ tt
    (λ table interned extends go. plain_within c.args.levels c.args.ordered table c.args.v c.args.w
    (other_plain c.args.v c.args.w c.in_default.not-Text c.in_default.not-Tuple c.in_default.not-Object) go ∙ ap go (sym c.plain.ensures))
