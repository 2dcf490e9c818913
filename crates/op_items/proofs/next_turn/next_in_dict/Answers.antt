use Rattle.std.proofs.Common.{rules, ◌≡◌, ◌∙◌, ◌≤◌, refl, sym, subst, true, false, None, Some, ℕ, slice_get}
use Rattle.object_store.specs.Store.{StoreView, keys_at}
use Rattle.py_model.specs.Files.{next_line}
use Rattle.py_model.specs.Lists.{next_of, changed_size}
use Rattle.py_model.specs.Plan.{ends}
use Rattle.py_value.specs.Contents.{contents}
use Rattle.py_value.specs.Seen.{a_dict}
use Rattle.op_dicts.proofs.EndsEqual.{ends_equal}
use Rattle.op_work.specs.Work.{Ends}
use Rattle.op_work.proofs.Ending.{ends_then, ends_stop, ends_fault, ends_at_end}
use Rattle.op_work.proofs.Going.{passes_err}
use Rattle.op_items.specs.Turns.{is_size}
use Rattle.op_items.proofs.NextPlans.{keys_turn, dict_is, no_size, turn_changed, turn_key, turn_end}
use Rattle.op_items.proofs.next_turn.next_in_dict.Goals as goal

pub returns-in_default : goal.returns-in_default
returns-in_default c =
    let none : c.size_in.result ≡ None = search rules in
    ends_fault (λ table. next_of next_line c.args.o c.args.n (contents table c.args.begun) (Some a_dict)) 9 _ c.fault.result c.fault.ensures
    (λ table interned extends. no_size table c.args.o c.args.n c.args.begun (sym c.size_in.ensures ∙ none))

pub returns-in_err-count : goal.returns-in_err-count
returns-in_err-count c = passes_err (λ result. Ends (λ table. next_of next_line c.args.o c.args.n (contents table c.args.begun) (Some a_dict)) c.args.work.now c.read_order.new.self result) c.from_residual.result c.from_residual.ensures.1
    (ends_equal (λ table. next_of next_line c.args.o c.args.n (contents table c.args.begun) (Some a_dict))
    (λ table interned extends. dict_is table c.args.o c.args.n c.args.begun c.in-Some.size (sym c.size_in.ensures ∙ c.in-Some.is))
    (ends_stop (λ table keys. keys_turn c.in-Some.size c.args.n keys) _ c.in_err-count.ensures.comes))

pub returns-then-not-is_size : goal.returns-then-not-is_size
returns-then-not-is_size c =
    let keys = keys_at c.args.work.now.store c.args.o in
    let other : is_size c.in-Some.size c.in_ok-count.count ≡ false = search rules in
    ends_equal (λ table. next_of next_line c.args.o c.args.n (contents table c.args.begun) (Some a_dict))
    (λ table interned extends. dict_is table c.args.o c.args.n c.args.begun c.in-Some.size (sym c.size_in.ensures ∙ c.in-Some.is))
    (ends_then (λ table ks. keys_turn c.in-Some.size c.args.n ks) c.in_ok-count.ensures.comes
    (λ table interned extends. turn_changed (contents table) keys c.in-Some.size c.args.n c.in_ok-count.count c.in_ok-count.ensures.count other)
    (ends_fault (λ table. changed_size) 12 _ c.fault-then-not-is_size.result c.fault-then-not-is_size.ensures (λ table interned extends. refl)))

pub returns-then-n-from : goal.returns-then-n-from
returns-then-n-from c =
    let keys = keys_at c.args.work.now.store c.args.o in
    let same : is_size c.in-Some.size c.in_ok-count.count ≡ true = sym c.is_size.ensures ∙ c.if-not-is_size.false in
    let there = subst (λ (s : StoreView). slice_get (keys_at s c.args.o) c.args.n ≡ Some c.key-key.result) c.read_order.ensures.comes.kept.store_is c.key-key.ensures in
    ends_equal (λ table. next_of next_line c.args.o c.args.n (contents table c.args.begun) (Some a_dict))
    (λ table interned extends. dict_is table c.args.o c.args.n c.args.begun c.in-Some.size (sym c.size_in.ensures ∙ c.in-Some.is))
    (ends_then (λ table ks. keys_turn c.in-Some.size c.args.n ks) c.in_ok-count.ensures.comes
    (λ table interned extends. turn_key (contents table) keys c.in-Some.size c.args.n c.in_ok-count.count c.in_ok-count.ensures.count same c.key-key.result there)
    c.value_answer.ensures)

pub returns : goal.returns
returns c =
    let keys = keys_at c.args.work.now.store c.args.o in
    let same : is_size c.in-Some.size c.in_ok-count.count ≡ true = sym c.is_size.ensures ∙ c.if-not-is_size.false in
    ends_equal (λ table. next_of next_line c.args.o c.args.n (contents table c.args.begun) (Some a_dict))
    (λ table interned extends. dict_is table c.args.o c.args.n c.args.begun c.in-Some.size (sym c.size_in.ensures ∙ c.in-Some.is))
    (ends_then (λ table ks. keys_turn c.in-Some.size c.args.n ks) c.in_ok-count.ensures.comes
    (λ table interned extends. turn_end (contents table) keys c.in-Some.size c.args.n c.in_ok-count.count c.in_ok-count.ensures.count same (subst (λ (m : ℕ). m ≤ c.args.n) c.from.ensures c.if-n-from.false))
    (ends_at_end (λ table. ends) c.read_order.new.self (c.read_order.ensures.comes.kept.made_is ∙ c.requires.fresh) (λ table interned extends. refl)))
