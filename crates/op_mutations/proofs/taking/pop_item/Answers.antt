use Rattle.std.proofs.Common.{rules, ◌≡◌, ◌∙◌, refl, subst, ℕ, ℤ, w64, to_z, of_z, Ok, Err}
use Rattle.op_work.specs.Work.{Comes, Ends, is_any, as_is}
use Rattle.py_model.specs.Lists.{pop_item, close_gap, with_place}
use Rattle.py_model.specs.Plan.{Plan, writes}
use Rattle.py_model.specs.Walks.{read_value}
use Rattle.py_value.specs.Contents.{Contents, contents}
use Rattle.py_value.specs.Values.{ValuesView}
use Rattle.op_work.proofs.Ending.{ends_then, ends_stop, ends_writes}
use Rattle.op_work.proofs.Going.{passes_err}
use Rattle.op_mutations.proofs.Moves.{within_fresh}
use Rattle.op_mutations.proofs.taking.pop_item.Goals as goal

abbrev third : ℕ → ℕ → ℕ → ValuesView → Contents → Plan
third o n p table item = writes (close_gap o n p item)

abbrev second : ℕ → ℕ → ValuesView → ℕ → Plan
second o n table p = read_value o p (third o n p table)

abbrev first : ℕ → ℤ → ValuesView → ℕ → Plan
first o i table n = with_place i n (second o n table)

pub returns-in_err-n : goal.returns-in_err-n
returns-in_err-n c = passes_err (λ result. Ends (λ table. pop_item c.args.o c.args.i) c.args.work.now c.read_len.new.self result) c.from_residual.result c.from_residual.ensures.1
    (ends_stop (first c.args.o c.args.i) _ c.in_err-n.ensures)

pub returns-in_err-p : goal.returns-in_err-p
returns-in_err-p c =
    let back : to_z w64 (of_z w64 c.args.i) ≡ c.args.i = search rules in
    let placed = subst (λ (i : ℤ). Comes is_any as_is (λ (table : ValuesView). with_place i c.in_ok-n.n) c.read_len.new.self c.place.new.work (Err c.in_err-p.field-0.0)) back c.in_err-p.ensures in
    passes_err (λ result. Ends (λ table. pop_item c.args.o c.args.i) c.args.work.now c.place.new.work result) c.from_residual-in_err-p.result c.from_residual-in_err-p.ensures.1
    (ends_then (first c.args.o c.args.i) c.in_ok-n.ensures (λ table interned extends. refl) (ends_stop (second c.args.o c.in_ok-n.n) _ placed))

pub returns-in_err-item : goal.returns-in_err-item
returns-in_err-item c =
    let back : to_z w64 (of_z w64 c.args.i) ≡ c.args.i = search rules in
    let placed = subst (λ (i : ℤ). Comes is_any as_is (λ (table : ValuesView). with_place i c.in_ok-n.n) c.read_len.new.self c.place.new.work (Ok c.in_ok-p.p)) back c.in_ok-p.ensures in
    passes_err (λ result. Ends (λ table. pop_item c.args.o c.args.i) c.args.work.now c.value_at.new.work result) c.from_residual-in_err-item.result c.from_residual-in_err-item.ensures.1
    (ends_then (first c.args.o c.args.i) c.in_ok-n.ensures (λ table interned extends. refl)
    (ends_then (second c.args.o c.in_ok-n.n) placed (λ table interned extends. refl) (ends_stop (third c.args.o c.in_ok-n.n c.in_ok-p.p) _ c.in_err-item.ensures)))

pub close_gap-requires-clause-named : goal.close_gap-requires-clause-named
close_gap-requires-clause-named c = c.in_ok-item.ensures.is_named

pub close_gap-requires-clause-within : goal.close_gap-requires-clause-within
close_gap-requires-clause-within c =
    within_fresh c.args.o c.value_at.new.work.made c.args.work.now.store c.value_at.new.work.store
    (c.value_at.ensures.kept.made_is ∙ (c.place.ensures.kept.made_is ∙ (c.read_len.ensures.kept.made_is ∙ c.requires.fresh)))
    (c.value_at.ensures.kept.store_is ∙ (c.place.ensures.kept.store_is ∙ c.read_len.ensures.kept.store_is)) c.requires.within

pub returns : goal.returns
returns c =
    let back : to_z w64 (of_z w64 c.args.i) ≡ c.args.i = search rules in
    let placed = subst (λ (i : ℤ). Comes is_any as_is (λ (table : ValuesView). with_place i c.in_ok-n.n) c.read_len.new.self c.place.new.work (Ok c.in_ok-p.p)) back c.in_ok-p.ensures in
    let none = c.value_at.ensures.kept.made_is ∙ (c.place.ensures.kept.made_is ∙ (c.read_len.ensures.kept.made_is ∙ c.requires.fresh)) in
    ends_then (first c.args.o c.args.i) c.in_ok-n.ensures (λ table interned extends. refl)
    (ends_then (second c.args.o c.in_ok-n.n) placed (λ table interned extends. refl)
    (ends_then (third c.args.o c.in_ok-n.n c.in_ok-p.p) c.in_ok-item.ensures (λ table interned extends. refl)
    (ends_writes (λ table. third c.args.o c.in_ok-n.n c.in_ok-p.p table (contents table c.in_ok-item.item)) none (λ table. close_gap c.args.o c.in_ok-n.n c.in_ok-p.p (contents table c.in_ok-item.item))
    (λ table interned extends. refl) c.close_gap.ensures)))
