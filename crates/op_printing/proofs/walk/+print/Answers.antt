use Rattle.std.proofs.Common.{rules, ◌≡◌, refl, sym, ap, ◌∙◌, subst, arith, ℕ, List, ◌-◌, ◌<◌, ◌≤◌, ◌==◌, ◌++◌, true, false, nat_lt, map, length, Some, slice_get, codes}
use Rattle.object_store.specs.Store.{keys_at}
use Rattle.py_model.specs.Plan.{Plan}
use Rattle.py_model.specs.Printing.{print_to, print_parts, commas, height, key_text}
use Rattle.py_value.specs.Contents.{contents}
use Rattle.py_value.specs.Values.{IsNamed, AreNamed}
use Rattle.op_texts.proofs.Taken.{named_stays}
use Rattle.op_lists.proofs.NamedValues.{all_named_stay}
use Rattle.op_work.proofs.Going.{comes_stop, fault_comes, at_once, passes_err, extends_then}
use Rattle.op_work.proofs.Turning.{turns_then, turns_more, turns_same}
use Rattle.spelling.specs.Spelling.{end_words}
use Rattle.op_printing.specs.Forms.{inner_seen}
use Rattle.op_pieces.specs.Parts.{separator}
use Rattle.op_lists.specs.Parts.{items_at, parts_in}
use Rattle.op_printing.specs.Inside.{deeper, inner_text, listed, print_row, keyed, print_keyed, tupled, print_joined}
use Rattle.op_pieces.specs.Pieces.{pieces_bytes}
use Rattle.op_printing.specs.Puts.{Puts}
use Rattle.op_printing.proofs.Putting.{puts_same, puts_stop, puts_fault, after_puts, after_stop, word_then, then_word}
use Rattle.op_printing.proofs.Rows.{next_of, next_is, row, row_on, row_ends, parts, parts_on, parts_end, entries, entry_next, entries_on, entries_end, tuple_by_end}
use Rattle.op_pieces.proofs.Joining.{pieces_stay}
use Rattle.op_lists.proofs.TupleParts.{items_are}
use Rattle.op_printing.proofs.Walking.{value_stops, value_puts, inner_stops, inner_on, inner_deep, low_on, deep_on, not_true, not_false, height_stays}
use Rattle.op_printing.proofs.walk.+print.Goals as goal

-- lists
pub print_list-print_items-requires : goal.print_list-print_items-requires
print_list-print_items-requires t c = (omega (arith), pieces_stay c.args.work.now.values c.read_len.new.self.values c.in_ok-n.ensures.kept.extends c.push_word.new.out.items (c.in_ok-push_word.ensures.named c.args.work.now.values c.requires))

pub print_list-returns-in_err-n : goal.print_list-returns-in_err-n
print_list-returns-in_err-n t c =
    let print = print_to c.args.levels in let inside = c.args.inside.now in let o = c.args.o in
    passes_err (λ result. Puts (λ table. listed print inside o) c.args.out.now.items c.push_word.new.out.items c.args.work.now c.read_len.new.self result)
    c.from_residual-in_err-n.result c.from_residual-in_err-n.ensures.1
    (word_then c.in_ok-push_word.ensures (after_stop (λ table n (go : List ℕ → Plan). print_row print inside o n (λ x. go (x ++ codes "]"))) c.in_err-n.ensures))

pub print_list-returns-in_err-print_items : goal.print_list-returns-in_err-print_items
print_list-returns-in_err-print_items t c =
    let print = print_to c.args.levels in let inside = c.args.inside.now in let o = c.args.o in
    passes_err (λ result. Puts (λ table. listed print inside o) c.args.out.now.items c.print_items.new.out.items c.args.work.now c.print_items.new.work result)
    c.from_residual-in_err-print_items.result c.from_residual-in_err-print_items.ensures.1
    (word_then c.in_ok-push_word.ensures (after_puts (λ table n (go : List ℕ → Plan). print_row print inside o n (λ x. go (x ++ codes "]"))) c.in_ok-n.ensures (λ table interned extends go. refl)
    (puts_stop (λ table x (go : List ℕ → Plan). go (x ++ codes "]")) c.in_err-print_items.ensures)))

pub print_list-returns : goal.print_list-returns
print_list-returns t c =
    let print = print_to c.args.levels in let inside = c.args.inside.now in let o = c.args.o in
    word_then c.in_ok-push_word.ensures (after_puts (λ table n (go : List ℕ → Plan). print_row print inside o n (λ x. go (x ++ codes "]"))) c.in_ok-n.ensures (λ table interned extends go. refl)
    (then_word c.in_ok-print_items.ensures c.in_ok-push_word-2.ensures))

pub print_items-print_value-requires : goal.print_items-print_value-requires
print_items-print_value-requires t c = (
  omega (arith),
  (
    pieces_stay c.loop-i.work.values c.value_at.new.work.values c.in_ok-v.ensures.kept.extends c.push_comma.new.out.items (c.in_ok-push_comma.ensures.named c.loop-i.work.values c.loop-i.invariant.1),
    c.in_ok-v.ensures.is_named,
  ),
)

pub print_items-returns-in_err-v : goal.print_items-returns-in_err-v
print_items-returns-in_err-v t c =
    let one = print_to c.args.levels true c.args.inside.now in let o = c.args.o in let n = c.args.n in let i = c.loop-i.i in let mid = c.push_comma.new.out.items in
    passes_err (λ result. Puts (λ table. print_row (print_to c.args.levels) c.args.inside.now o n) c.args.out.now.items mid c.args.work.now c.value_at.new.work result)
    c.from_residual-in_err-v.result c.from_residual-in_err-v.ensures.1
    (record {
      comes = turns_then (turns_same c.loop-i.invariant.0 (λ table interned extends go. row_on one n o i (pieces_bytes table c.loop-i.out.items) (pieces_bytes table mid) go c.loop-i-test.true (c.in_ok-push_comma.ensures.bytes_are table)))
          (comes_stop (λ table x (go : List ℕ → Plan). one x (λ bytes. next_of (row one n o) i (pieces_bytes table mid ++ bytes) go)) c.in_err-v.ensures);
    })

pub print_items-returns-in_err-print_value : goal.print_items-returns-in_err-print_value
print_items-returns-in_err-print_value t c =
    let one = print_to c.args.levels true c.args.inside.now in let o = c.args.o in let n = c.args.n in let i = c.loop-i.i in let mid = c.push_comma.new.out.items in
    passes_err (λ result. Puts (λ table. print_row (print_to c.args.levels) c.args.inside.now o n) c.args.out.now.items c.print_value.new.out.items c.args.work.now c.print_value.new.work result)
    c.from_residual-in_err-print_value.result c.from_residual-in_err-print_value.ensures.1
    (record {
      comes = turns_then (turns_more (λ table x (go : List ℕ → Plan). one x (λ bytes. next_of (row one n o) i (pieces_bytes table mid ++ bytes) go))
          (turns_same c.loop-i.invariant.0 (λ table interned extends go. row_on one n o i (pieces_bytes table c.loop-i.out.items) (pieces_bytes table mid) go c.loop-i-test.true (c.in_ok-push_comma.ensures.bytes_are table)))
          c.in_ok-v.ensures (λ table interned extends go. refl))
          (comes_stop (λ table made (go : List ℕ → Plan). next_of (row one n o) i made go) c.in_err-print_value.ensures.comes);
    })

pub print_items-loop-i-preserved : goal.print_items-loop-i-preserved
print_items-loop-i-preserved t c =
    let one = print_to c.args.levels true c.args.inside.now in let o = c.args.o in let n = c.args.n in let i = c.loop-i.i in let mid = c.push_comma.new.out.items in (
      turns_more (λ table made (go : List ℕ → Plan). next_of (row one n o) i made go)
          (turns_more (λ table x (go : List ℕ → Plan). one x (λ bytes. next_of (row one n o) i (pieces_bytes table mid ++ bytes) go))
          (turns_same c.loop-i.invariant.0 (λ table interned extends go. row_on one n o i (pieces_bytes table c.loop-i.out.items) (pieces_bytes table mid) go c.loop-i-test.true (c.in_ok-push_comma.ensures.bytes_are table)))
          c.in_ok-v.ensures (λ table interned extends go. refl))
          c.in_ok-print_value.ensures.comes (λ table interned extends go. next_is (row one n o) i (pieces_bytes table c.print_value.new.out.items) go),
      c.in_ok-print_value.ensures.comes.is_named,
    )

pub print_items-returns : goal.print_items-returns
print_items-returns t c =
    let one = print_to c.args.levels true c.args.inside.now in let out = c.loop-i.out.items in
    record {
      comes = turns_then (turns_same c.loop-i.invariant.0 (λ table interned extends go. row_ends one c.args.n c.args.o c.loop-i.i (pieces_bytes table out) go (omega (arith, c.loop-i-test.false))))
          (at_once (λ table (go : List ℕ → Plan). go (pieces_bytes table out)) c.loop-i.work tt c.loop-i.invariant.1 (λ table interned extends go. refl));
    }

-- tuples
pub print_tuple-print_parts-requires : goal.print_tuple-print_parts-requires
print_tuple-print_parts-requires t c = (omega (arith), (c.in_ok-push_word.ensures.named c.args.work.now.values c.requires.pieces, c.requires.named))

pub print_tuple-returns-in_err-print_parts : goal.print_tuple-returns-in_err-print_parts
print_tuple-returns-in_err-print_parts t c =
    let print = print_to c.args.levels in let inside = c.args.inside.now in let id = c.args.id in let items = c.tuple_of.result.now in
    passes_err (λ result. Puts (λ table. tupled print inside (parts_in table id)) c.args.out.now.items c.print_parts.new.out.items c.args.work.now c.print_parts.new.work result)
    c.from_residual-in_err-print_parts.result c.from_residual-in_err-print_parts.ensures.1
    (puts_same (λ table. tupled print inside (parts_in table id))
    (λ table interned extends go. tuple_by_end (print true inside) (contents table) (items_at table id) go
    ∙ ap (λ behind. print_parts (print true inside) (parts_in table id) (λ texts. go (codes "(" ++ (commas texts ++ behind))))
    (ap (λ vs. end_words (length vs)) (items_are table id items ((extends_then c.in_err-print_parts.ensures.comes.kept.extends extends).tuples id items c.tuple_of.ensures.items)) ∙ sym c.tuple_end-end.ensures))
    (word_then c.in_ok-push_word.ensures (puts_stop (λ table x (go : List ℕ → Plan). go (x ++ c.tuple_end-end.result.now)) c.in_err-print_parts.ensures)))

pub print_tuple-returns : goal.print_tuple-returns
print_tuple-returns t c =
    let print = print_to c.args.levels in let inside = c.args.inside.now in let id = c.args.id in let items = c.tuple_of.result.now in
    puts_same (λ table. tupled print inside (parts_in table id))
    (λ table interned extends go. tuple_by_end (print true inside) (contents table) (items_at table id) go
    ∙ ap (λ behind. print_parts (print true inside) (parts_in table id) (λ texts. go (codes "(" ++ (commas texts ++ behind))))
    (ap (λ vs. end_words (length vs)) (items_are table id items ((extends_then c.in_ok-print_parts.ensures.comes.kept.extends extends).tuples id items c.tuple_of.ensures.items)) ∙ sym c.tuple_end-end.ensures))
    (word_then c.in_ok-push_word.ensures (then_word c.in_ok-print_parts.ensures c.in_ok-push_word-2.ensures))

pub print_parts-print_value-requires : goal.print_parts-print_value-requires
print_parts-print_value-requires t c = (
  omega (arith),
  (
    pieces_stay c.loop-i.work.values c.look_part.new.work.values c.in_ok-v.ensures.kept.extends c.push_comma.new.out.items (c.in_ok-push_comma.ensures.named c.loop-i.work.values c.loop-i.invariant.1),
    c.in_ok-v.ensures.is_named,
  ),
)

pub print_parts-returns-in_err-v : goal.print_parts-returns-in_err-v
print_parts-returns-in_err-v t c =
    let one = print_to c.args.levels true c.args.inside.now in let id = c.args.id in let i = c.loop-i.i in let mid = c.push_comma.new.out.items in let items = c.tuple_of-i-end.result.now in
    passes_err (λ result. Puts (λ table. print_joined (print_to c.args.levels) c.args.inside.now (parts_in table id)) c.args.out.now.items mid c.args.work.now c.look_part.new.work result)
    c.from_residual-in_err-v.result c.from_residual-in_err-v.ensures.1
    (record {
      comes = turns_then (turns_same c.loop-i.invariant.0 (λ table interned extends go.
          parts_on one (contents table) (items_at table id) i (pieces_bytes table c.loop-i.out.items) (pieces_bytes table mid) go
          (subst (λ vs. i < length vs) (sym (items_are table id items ((extends_then c.loop-i.invariant.0.kept.extends extends).tuples id items c.tuple_of-i-end.ensures.items))) c.loop-i-test.true)
          (c.in_ok-push_comma.ensures.bytes_are table)))
          (comes_stop (λ table x (go : List ℕ → Plan). one x (λ bytes. next_of (parts one (contents table) (items_at table id)) i (pieces_bytes table mid ++ bytes) go)) c.in_err-v.ensures);
    })

pub print_parts-returns-in_err-print_value : goal.print_parts-returns-in_err-print_value
print_parts-returns-in_err-print_value t c =
    let one = print_to c.args.levels true c.args.inside.now in let id = c.args.id in let i = c.loop-i.i in let mid = c.push_comma.new.out.items in let items = c.tuple_of-i-end.result.now in
    passes_err (λ result. Puts (λ table. print_joined (print_to c.args.levels) c.args.inside.now (parts_in table id)) c.args.out.now.items c.print_value.new.out.items c.args.work.now c.print_value.new.work result)
    c.from_residual-in_err-print_value.result c.from_residual-in_err-print_value.ensures.1
    (record {
      comes = turns_then (turns_more (λ table x (go : List ℕ → Plan). one x (λ bytes. next_of (parts one (contents table) (items_at table id)) i (pieces_bytes table mid ++ bytes) go))
          (turns_same c.loop-i.invariant.0 (λ table interned extends go.
          parts_on one (contents table) (items_at table id) i (pieces_bytes table c.loop-i.out.items) (pieces_bytes table mid) go
          (subst (λ vs. i < length vs) (sym (items_are table id items ((extends_then c.loop-i.invariant.0.kept.extends extends).tuples id items c.tuple_of-i-end.ensures.items))) c.loop-i-test.true)
          (c.in_ok-push_comma.ensures.bytes_are table)))
          c.in_ok-v.ensures (λ table interned extends go. refl))
          (comes_stop (λ table made (go : List ℕ → Plan). next_of (parts one (contents table) (items_at table id)) i made go) c.in_err-print_value.ensures.comes);
    })

pub print_parts-loop-i-preserved : goal.print_parts-loop-i-preserved
print_parts-loop-i-preserved t c =
    let one = print_to c.args.levels true c.args.inside.now in let id = c.args.id in let i = c.loop-i.i in let mid = c.push_comma.new.out.items in let items = c.tuple_of-i-end.result.now in (
      turns_more (λ table made (go : List ℕ → Plan). next_of (parts one (contents table) (items_at table id)) i made go)
          (turns_more (λ table x (go : List ℕ → Plan). one x (λ bytes. next_of (parts one (contents table) (items_at table id)) i (pieces_bytes table mid ++ bytes) go))
          (turns_same c.loop-i.invariant.0 (λ table interned extends go.
          parts_on one (contents table) (items_at table id) i (pieces_bytes table c.loop-i.out.items) (pieces_bytes table mid) go
          (subst (λ vs. i < length vs) (sym (items_are table id items ((extends_then c.loop-i.invariant.0.kept.extends extends).tuples id items c.tuple_of-i-end.ensures.items))) c.loop-i-test.true)
          (c.in_ok-push_comma.ensures.bytes_are table)))
          c.in_ok-v.ensures (λ table interned extends go. refl))
          c.in_ok-print_value.ensures.comes (λ table interned extends go. next_is (parts one (contents table) (items_at table id)) i (pieces_bytes table c.print_value.new.out.items) go),
      c.in_ok-print_value.ensures.comes.is_named,
    )

pub print_parts-returns : goal.print_parts-returns
print_parts-returns t c =
    let one = print_to c.args.levels true c.args.inside.now in let id = c.args.id in let i = c.loop-i.i in let out = c.loop-i.out.items in let items = c.tuple_of-i-end.result.now in
    record {
      comes = turns_then (turns_same c.loop-i.invariant.0 (λ table interned extends go. parts_end one (contents table) (items_at table id) i (pieces_bytes table out) go
          (subst (λ vs. length vs ≤ i) (sym (items_are table id items ((extends_then c.loop-i.invariant.0.kept.extends extends).tuples id items c.tuple_of-i-end.ensures.items))) c.loop-i-test.false)))
          (at_once (λ table (go : List ℕ → Plan). go (pieces_bytes table out)) c.loop-i.work tt c.loop-i.invariant.1 (λ table interned extends go. refl));
    }

-- dictionaries
pub print_dict-print_entries-requires : goal.print_dict-print_entries-requires
print_dict-print_entries-requires t c = (
  omega (arith),
  (
    pieces_stay c.args.work.now.values c.read_order.new.self.values c.in_ok-count.ensures.comes.kept.extends c.push_word.new.out.items (c.in_ok-push_word.ensures.named c.args.work.now.values c.requires),
    (
      c.in_ok-count.ensures.count ∙ ap (λ store. length (keys_at store c.args.o)) (sym c.in_ok-count.ensures.comes.kept.store_is),
      subst (λ store. AreNamed c.read_order.new.self.values (keys_at store c.args.o)) (sym c.in_ok-count.ensures.comes.kept.store_is) c.in_ok-count.ensures.comes.is_named,
    ),
  ),
)

pub print_dict-returns-in_err-count : goal.print_dict-returns-in_err-count
print_dict-returns-in_err-count t c =
    let print = print_to c.args.levels in let inside = c.args.inside.now in let o = c.args.o in
    passes_err (λ result. Puts (λ table. keyed print c.args.levels inside o) c.args.out.now.items c.push_word.new.out.items c.args.work.now c.read_order.new.self result)
    c.from_residual-in_err-count.result c.from_residual-in_err-count.ensures.1
    (word_then c.in_ok-push_word.ensures (after_stop (λ table keys (go : List ℕ → Plan). print_keyed print c.args.levels inside o keys (λ x. go (x ++ codes "}"))) c.in_err-count.ensures.comes))

pub print_dict-returns-in_err-print_entries : goal.print_dict-returns-in_err-print_entries
print_dict-returns-in_err-print_entries t c =
    let print = print_to c.args.levels in let inside = c.args.inside.now in let o = c.args.o in
    passes_err (λ result. Puts (λ table. keyed print c.args.levels inside o) c.args.out.now.items c.print_entries.new.out.items c.args.work.now c.print_entries.new.work result)
    c.from_residual-in_err-print_entries.result c.from_residual-in_err-print_entries.ensures.1
    (word_then c.in_ok-push_word.ensures (after_puts (λ table keys (go : List ℕ → Plan). print_keyed print c.args.levels inside o keys (λ x. go (x ++ codes "}"))) c.in_ok-count.ensures.comes
    (λ table interned extends go. ap (λ store. print_keyed print c.args.levels inside o (map (contents table) (keys_at store o)) (λ x. go (x ++ codes "}"))) (sym c.in_ok-count.ensures.comes.kept.store_is))
    (puts_stop (λ table x (go : List ℕ → Plan). go (x ++ codes "}")) c.in_err-print_entries.ensures)))

pub print_dict-returns : goal.print_dict-returns
print_dict-returns t c =
    let print = print_to c.args.levels in let inside = c.args.inside.now in let o = c.args.o in
    word_then c.in_ok-push_word.ensures (after_puts (λ table keys (go : List ℕ → Plan). print_keyed print c.args.levels inside o keys (λ x. go (x ++ codes "}"))) c.in_ok-count.ensures.comes
    (λ table interned extends go. ap (λ store. print_keyed print c.args.levels inside o (map (contents table) (keys_at store o)) (λ x. go (x ++ codes "}"))) (sym c.in_ok-count.ensures.comes.kept.store_is))
    (then_word c.in_ok-print_entries.ensures c.in_ok-push_word-2.ensures))

pub print_entries-entry_value-requires : goal.print_entries-entry_value-requires
print_entries-entry_value-requires t c = all_named_stay c.args.work.now.values c.loop-i.work.values c.loop-i.invariant.0.kept.extends.few (keys_at c.args.work.now.store c.args.o) c.requires.named c.loop-i.i c.key-key.result
    (ap (λ store. slice_get (keys_at store c.args.o) c.loop-i.i) (sym c.loop-i.invariant.0.kept.store_is) ∙ c.key-key.ensures)

pub print_entries-is_low-requires : goal.print_entries-is_low-requires
print_entries-is_low-requires t c = subst (λ values. IsNamed values c.key-key.result) (sym c.values.ensures.values)
    (named_stays c.loop-i.work.values c.entry_value.new.work.values c.in_ok-v.ensures.kept.extends c.key-key.result (all_named_stay c.args.work.now.values c.loop-i.work.values c.loop-i.invariant.0.kept.extends.few (keys_at c.args.work.now.store c.args.o) c.requires.named c.loop-i.i c.key-key.result
    (ap (λ store. slice_get (keys_at store c.args.o) c.loop-i.i) (sym c.loop-i.invariant.0.kept.store_is) ∙ c.key-key.ensures)))

pub print_entries-print_value-requires : goal.print_entries-print_value-requires
print_entries-print_value-requires t c = (
  omega (arith),
  (
    c.in_ok-push_key.ensures.named c.entry_value.new.work.values (pieces_stay c.loop-i.work.values c.entry_value.new.work.values c.in_ok-v.ensures.kept.extends c.loop-i.out.items c.loop-i.invariant.1)
        (named_stays c.loop-i.work.values c.entry_value.new.work.values c.in_ok-v.ensures.kept.extends c.key-key.result (all_named_stay c.args.work.now.values c.loop-i.work.values c.loop-i.invariant.0.kept.extends.few (keys_at c.args.work.now.store c.args.o) c.requires.named c.loop-i.i c.key-key.result
        (ap (λ store. slice_get (keys_at store c.args.o) c.loop-i.i) (sym c.loop-i.invariant.0.kept.store_is) ∙ c.key-key.ensures))),
    c.in_ok-v.ensures.is_named,
  ),
)

pub print_entries-returns-in_err-v : goal.print_entries-returns-in_err-v
print_entries-returns-in_err-v t c =
    let one = print_to c.args.levels true c.args.inside.now in let o = c.args.o in let i = c.loop-i.i in let keys = keys_at c.args.work.now.store o in let key = c.key-key.result in let levels = c.args.levels in let first = c.loop-i.out.items in
    let at : slice_get keys i ≡ Some key = ap (λ store. slice_get (keys_at store o) i) (sym c.loop-i.invariant.0.kept.store_is) ∙ c.key-key.ensures in
    passes_err (λ result. Puts (λ table. print_keyed (print_to levels) levels c.args.inside.now o (map (contents table) keys)) c.args.out.now.items first c.args.work.now c.entry_value.new.work result)
    c.from_residual.result c.from_residual.ensures.1
    (record {
      comes = turns_then (turns_same c.loop-i.invariant.0 (λ table interned extends go. entries_on one levels o (contents table) keys i key (pieces_bytes table first) ((pieces_bytes table first ++ separator (i == 0)) ++ (key_text (contents table key) ++ codes ": ")) go at refl))
          (comes_stop (λ table x (go : List ℕ → Plan). entry_next levels (contents table key) (λ y. one y (λ bytes. next_of (entries one levels o (contents table) keys) i (((pieces_bytes table first ++ separator (i == 0)) ++ (key_text (contents table key) ++ codes ": ")) ++ bytes) go)) x) c.in_err-v.ensures);
    })

pub print_entries-returns-then-not-is_low : goal.print_entries-returns-then-not-is_low
print_entries-returns-then-not-is_low t c =
    let one = print_to c.args.levels true c.args.inside.now in let o = c.args.o in let i = c.loop-i.i in let keys = keys_at c.args.work.now.store o in let key = c.key-key.result in let levels = c.args.levels in let first = c.loop-i.out.items in
    let at : slice_get keys i ≡ Some key = ap (λ store. slice_get (keys_at store o) i) (sym c.loop-i.invariant.0.kept.store_is) ∙ c.key-key.ensures in
    let is_named = all_named_stay c.args.work.now.values c.loop-i.work.values c.loop-i.invariant.0.kept.extends.few keys c.requires.named i key at in
    let named = named_stays c.loop-i.work.values c.entry_value.new.work.values c.in_ok-v.ensures.kept.extends key is_named in
    let high : nat_lt levels (height (contents c.values.result.now key)) ≡ true = not_false _ _ c.is_low.ensures (search (rules, c.if-not-is_low.true)) in
    record {
      comes = turns_then (turns_more (λ table x (go : List ℕ → Plan). entry_next levels (contents table key) (λ y. one y (λ bytes. next_of (entries one levels o (contents table) keys) i (((pieces_bytes table first ++ separator (i == 0)) ++ (key_text (contents table key) ++ codes ": ")) ++ bytes) go)) x)
          (turns_same c.loop-i.invariant.0 (λ table interned extends go. entries_on one levels o (contents table) keys i key (pieces_bytes table first) ((pieces_bytes table first ++ separator (i == 0)) ++ (key_text (contents table key) ++ codes ": ")) go at refl)) c.in_ok-v.ensures (λ table interned extends go. refl))
          (fault_comes (λ table (go : List ℕ → Plan). entry_next levels (contents table key) (λ y. one y (λ bytes. next_of (entries one levels o (contents table) keys) i (((pieces_bytes table first ++ separator (i == 0)) ++ (key_text (contents table key) ++ codes ": ")) ++ bytes) go)) (contents table c.in_ok-v.v)) 14 _ c.fault.result c.fault.ensures
          (λ table interned extends go. deep_on levels (contents table key) (contents table c.in_ok-v.v) (λ y. one y (λ bytes. next_of (entries one levels o (contents table) keys) i (((pieces_bytes table first ++ separator (i == 0)) ++ (key_text (contents table key) ++ codes ": ")) ++ bytes) go))
          (height_stays c.contents_stay.ensures c.values.result.now key levels true c.values.ensures.values c.values.ensures.interned named (extends_then c.fault.ensures.kept.extends extends) high)));
    }

pub print_entries-returns-in_err-print_value : goal.print_entries-returns-in_err-print_value
print_entries-returns-in_err-print_value t c =
    let one = print_to c.args.levels true c.args.inside.now in let o = c.args.o in let i = c.loop-i.i in let keys = keys_at c.args.work.now.store o in let key = c.key-key.result in let levels = c.args.levels in let first = c.loop-i.out.items in
    let at : slice_get keys i ≡ Some key = ap (λ store. slice_get (keys_at store o) i) (sym c.loop-i.invariant.0.kept.store_is) ∙ c.key-key.ensures in
    let is_named = all_named_stay c.args.work.now.values c.loop-i.work.values c.loop-i.invariant.0.kept.extends.few keys c.requires.named i key at in
    let named = named_stays c.loop-i.work.values c.entry_value.new.work.values c.in_ok-v.ensures.kept.extends key is_named in
    let low : nat_lt levels (height (contents c.values.result.now key)) ≡ false = not_true _ _ c.is_low.ensures (search (rules, c.if-not-is_low.false)) in
    passes_err (λ result. Puts (λ table. print_keyed (print_to levels) levels c.args.inside.now o (map (contents table) keys)) c.args.out.now.items c.print_value.new.out.items c.args.work.now c.print_value.new.work result)
    c.from_residual-in_err-print_value.result c.from_residual-in_err-print_value.ensures.1
    (record {
      comes = turns_then (turns_more (λ table x (go : List ℕ → Plan). entry_next levels (contents table key) (λ y. one y (λ bytes. next_of (entries one levels o (contents table) keys) i ((pieces_bytes table c.push_key.new.out.items) ++ bytes) go)) x)
          (turns_same c.loop-i.invariant.0 (λ table interned extends go. entries_on one levels o (contents table) keys i key (pieces_bytes table first) (pieces_bytes table c.push_key.new.out.items) go at (c.in_ok-push_key.ensures.bytes table))) c.in_ok-v.ensures
          (λ table interned extends go. low_on levels (contents table key) (contents table c.in_ok-v.v) (λ y. one y (λ bytes. next_of (entries one levels o (contents table) keys) i (pieces_bytes table c.push_key.new.out.items ++ bytes) go))
          (height_stays c.contents_stay.ensures c.values.result.now key levels false c.values.ensures.values c.values.ensures.interned named extends low)))
          (comes_stop (λ table made (go : List ℕ → Plan). next_of (entries one levels o (contents table) keys) i made go) c.in_err-print_value.ensures.comes);
    })

pub print_entries-loop-i-preserved : goal.print_entries-loop-i-preserved
print_entries-loop-i-preserved t c =
    let one = print_to c.args.levels true c.args.inside.now in let o = c.args.o in let i = c.loop-i.i in let keys = keys_at c.args.work.now.store o in let key = c.key-key.result in let levels = c.args.levels in let first = c.loop-i.out.items in
    let at : slice_get keys i ≡ Some key = ap (λ store. slice_get (keys_at store o) i) (sym c.loop-i.invariant.0.kept.store_is) ∙ c.key-key.ensures in
    let is_named = all_named_stay c.args.work.now.values c.loop-i.work.values c.loop-i.invariant.0.kept.extends.few keys c.requires.named i key at in
    let named = named_stays c.loop-i.work.values c.entry_value.new.work.values c.in_ok-v.ensures.kept.extends key is_named in
    let low : nat_lt levels (height (contents c.values.result.now key)) ≡ false = not_true _ _ c.is_low.ensures (search (rules, c.if-not-is_low.false)) in (
      turns_more (λ table made (go : List ℕ → Plan). next_of (entries one levels o (contents table) keys) i made go)
          (turns_more (λ table x (go : List ℕ → Plan). entry_next levels (contents table key) (λ y. one y (λ bytes. next_of (entries one levels o (contents table) keys) i ((pieces_bytes table c.push_key.new.out.items) ++ bytes) go)) x)
          (turns_same c.loop-i.invariant.0 (λ table interned extends go. entries_on one levels o (contents table) keys i key (pieces_bytes table first) (pieces_bytes table c.push_key.new.out.items) go at (c.in_ok-push_key.ensures.bytes table))) c.in_ok-v.ensures
          (λ table interned extends go. low_on levels (contents table key) (contents table c.in_ok-v.v) (λ y. one y (λ bytes. next_of (entries one levels o (contents table) keys) i (pieces_bytes table c.push_key.new.out.items ++ bytes) go))
          (height_stays c.contents_stay.ensures c.values.result.now key levels false c.values.ensures.values c.values.ensures.interned named extends low)))
          c.in_ok-print_value.ensures.comes (λ table interned extends go. next_is (entries one levels o (contents table) keys) i (pieces_bytes table c.print_value.new.out.items) go),
      c.in_ok-print_value.ensures.comes.is_named,
    )

pub print_entries-returns : goal.print_entries-returns
print_entries-returns t c =
    let one = print_to c.args.levels true c.args.inside.now in let o = c.args.o in let i = c.loop-i.i in let keys = keys_at c.args.work.now.store o in let out = c.loop-i.out.items in
    record {
      comes = turns_then (turns_same c.loop-i.invariant.0 (λ table interned extends go. entries_end one c.args.levels o (contents table) keys i (pieces_bytes table out) go (omega (arith, c.loop-i-test.false, c.requires.count))))
          (at_once (λ table (go : List ℕ → Plan). go (pieces_bytes table out)) c.loop-i.work tt c.loop-i.invariant.1 (λ table interned extends go. refl));
    }

-- what lies inside
pub print_inner-returns-then-levels-eq0 : goal.print_inner-returns-then-levels-eq0
print_inner-returns-then-levels-eq0 t c =
    puts_fault (λ table. inner_text (c.args.levels - 1) (deeper c.args.levels) c.args.inside.now (inner_seen table c.args.rest)) 14 _ c.fault.result c.fault.ensures
    (λ table interned extends go. inner_deep c.args.levels c.args.inside.now table c.args.rest go c.if-levels-eq0.true c.in_default.not-Whole)

pub print_inner-returns-in-Items : goal.print_inner-returns-in-Items
print_inner-returns-in-Items t c = puts_same (λ table. inner_text (c.args.levels - 1) (deeper c.args.levels) c.args.inside.now (inner_seen table c.args.rest))
    (λ table interned extends go. inner_on c.args.levels c.args.inside.now (inner_seen table c.args.rest) go c.if-levels-eq0.false
    ∙ ap (λ r. inner_text (c.args.levels - 1) (Some (print_to (c.args.levels - 1))) c.args.inside.now (inner_seen table r) go) c.in-Items.is) c.print_list.ensures

pub print_inner-returns-in-Entries : goal.print_inner-returns-in-Entries
print_inner-returns-in-Entries t c = puts_same (λ table. inner_text (c.args.levels - 1) (deeper c.args.levels) c.args.inside.now (inner_seen table c.args.rest))
    (λ table interned extends go. inner_on c.args.levels c.args.inside.now (inner_seen table c.args.rest) go c.if-levels-eq0.false
    ∙ ap (λ r. inner_text (c.args.levels - 1) (Some (print_to (c.args.levels - 1))) c.args.inside.now (inner_seen table r) go) c.in-Entries.is) c.print_dict.ensures

pub print_inner-returns-in-Tuple : goal.print_inner-returns-in-Tuple
print_inner-returns-in-Tuple t c = puts_same (λ table. inner_text (c.args.levels - 1) (deeper c.args.levels) c.args.inside.now (inner_seen table c.args.rest))
    (λ table interned extends go. inner_on c.args.levels c.args.inside.now (inner_seen table c.args.rest) go c.if-levels-eq0.false
    ∙ ap (λ r. inner_text (c.args.levels - 1) (Some (print_to (c.args.levels - 1))) c.args.inside.now (inner_seen table r) go) c.in-Tuple.is) c.print_tuple.ensures

pub print_inner-returns-in-Bare : goal.print_inner-returns-in-Bare
print_inner-returns-in-Bare t c = puts_same (λ table. inner_text (c.args.levels - 1) (deeper c.args.levels) c.args.inside.now (inner_seen table c.args.rest))
    (λ table interned extends go. inner_on c.args.levels c.args.inside.now (inner_seen table c.args.rest) go c.if-levels-eq0.false
    ∙ ap (λ r. inner_text (c.args.levels - 1) (Some (print_to (c.args.levels - 1))) c.args.inside.now (inner_seen table r) go) c.in-Bare.is) c.print_parts.ensures

pub print_inner-returns-in_err-v-in-Only : goal.print_inner-returns-in_err-v-in-Only
print_inner-returns-in_err-v-in-Only t c =
    passes_err (λ result. Puts (λ table. inner_text (c.args.levels - 1) (deeper c.args.levels) c.args.inside.now (inner_seen table c.args.rest)) c.args.out.now.items c.args.out.now.items c.args.work.now c.look_part.new.work result)
    c.from_residual.result c.from_residual.ensures.1
    (puts_same (λ table. inner_text (c.args.levels - 1) (deeper c.args.levels) c.args.inside.now (inner_seen table c.args.rest))
    (λ table interned extends go. inner_on c.args.levels c.args.inside.now (inner_seen table c.args.rest) go c.if-levels-eq0.false
    ∙ ap (λ r. inner_text (c.args.levels - 1) (Some (print_to (c.args.levels - 1))) c.args.inside.now (inner_seen table r) go) c.in-Only.is)
    (after_stop (λ table x (go : List ℕ → Plan). print_to (c.args.levels - 1) c.in-Only.quoted c.args.inside.now x go) c.in_err-v-in-Only.ensures))

pub print_inner-print_value-requires : goal.print_inner-print_value-requires
print_inner-print_value-requires t c = (
  omega (arith, c.if-levels-eq0.false),
  (
    pieces_stay c.args.work.now.values c.look_part.new.work.values c.in_ok-v-in-Only.ensures.kept.extends c.args.out.now.items c.requires.pieces,
    c.in_ok-v-in-Only.ensures.is_named,
  ),
)

pub print_inner-returns-in_ok-v-in-Only : goal.print_inner-returns-in_ok-v-in-Only
print_inner-returns-in_ok-v-in-Only t c = puts_same (λ table. inner_text (c.args.levels - 1) (deeper c.args.levels) c.args.inside.now (inner_seen table c.args.rest))
    (λ table interned extends go. inner_on c.args.levels c.args.inside.now (inner_seen table c.args.rest) go c.if-levels-eq0.false
    ∙ ap (λ r. inner_text (c.args.levels - 1) (Some (print_to (c.args.levels - 1))) c.args.inside.now (inner_seen table r) go) c.in-Only.is)
    (after_puts (λ table x (go : List ℕ → Plan). print_to (c.args.levels - 1) c.in-Only.quoted c.args.inside.now x go) c.in_ok-v-in-Only.ensures (λ table interned extends go. refl) c.print_value.ensures)

-- values
pub print_value-returns-in_err-form : goal.print_value-returns-in_err-form
print_value-returns-in_err-form t c =
    passes_err (λ result. Puts (λ table. print_to c.args.levels c.args.quoted c.args.inside.now (contents table c.args.v)) c.args.out.now.items c.form_of.new.out.items c.args.work.now c.form_of.new.work result)
    c.from_residual-in_err-form.result c.from_residual-in_err-form.ensures.1
    (value_stops c.args.levels c.args.quoted c.args.inside.now c.in_ok-within.within.items c.args.v c.form_of.new.within.items c.args.out.now.items c.form_of.new.out.items c.form_of.new.out.items c.in_ok-within.ensures.items c.in_err-form.ensures)

pub print_value-returns-in_err-print_inner : goal.print_value-returns-in_err-print_inner
print_value-returns-in_err-print_inner t c =
    passes_err (λ result. Puts (λ table. print_to c.args.levels c.args.quoted c.args.inside.now (contents table c.args.v)) c.args.out.now.items c.print_inner.new.out.items c.args.work.now c.print_inner.new.work result)
    c.from_residual-in_err-print_inner.result c.from_residual-in_err-print_inner.ensures.1
    (inner_stops c.args.levels c.args.quoted c.args.inside.now c.in_ok-within.within.items c.args.v c.in_ok-form.form c.form_of.new.within.items c.as_slice.result.now c.args.out.now.items c.form_of.new.out.items c.print_inner.new.out.items
    c.print_inner.new.out.items c.in_ok-within.ensures.items c.as_slice.ensures.value c.in_ok-form.ensures c.in_err-print_inner.ensures)

pub print_value-returns : goal.print_value-returns
print_value-returns t c =
    value_puts c.args.levels c.args.quoted c.args.inside.now c.in_ok-within.within.items c.args.v c.in_ok-form.form c.form_of.new.within.items c.as_slice.result.now c.args.out.now.items c.form_of.new.out.items c.print_inner.new.out.items
    c.push_closers.new.out.items c.in_ok-within.ensures.items c.as_slice.ensures.value c.in_ok-form.ensures c.in_ok-print_inner.ensures c.in_ok-push_closers.ensures
