use Rattle.std.proofs.Common.{rules, ◌≡◌, ◌∙◌, refl, subst, ℕ, ℤ, w64, to_z, of_z, Ok, Err}
use Rattle.op_work.specs.Work.{Comes, Ends, is_any, as_is}
use Rattle.py_model.specs.Lists.{del_item, close_gap, with_place}
use Rattle.py_model.specs.Places.{with_index}
use Rattle.py_model.specs.Plan.{Plan, writes}
use Rattle.py_value.specs.Contents.{contents, nothing}
use Rattle.py_value.specs.Values.{ValuesView}
use Rattle.op_work.proofs.Ending.{ends_then, ends_stop, ends_writes}
use Rattle.op_work.proofs.Going.{passes_err}
use Rattle.op_mutations.proofs.Moves.{within_fresh}
use Rattle.op_mutations.proofs.taking.del_in_list.Goals as goal

abbrev third : ℕ → ℕ → ValuesView → ℕ → Plan
third o n table p = writes (close_gap o n p nothing)

abbrev second : ℕ → ℤ → ValuesView → ℕ → Plan
second o i table n = with_place i n (third o n table)

abbrev first : ℕ → ValuesView → ℤ → Plan
first o table i = del_item o i

pub returns-in_err-i : goal.returns-in_err-i
returns-in_err-i c = passes_err (λ result. Ends (λ table. with_index (contents table c.args.w) (del_item c.args.o)) c.args.work.now c.index.new.work result) c.from_residual.result c.from_residual.ensures.1
    (ends_stop (first c.args.o) _ c.in_err-i.ensures)

pub returns-in_err-n : goal.returns-in_err-n
returns-in_err-n c = passes_err (λ result. Ends (λ table. with_index (contents table c.args.w) (del_item c.args.o)) c.args.work.now c.read_len.new.self result) c.from_residual-in_err-n.result c.from_residual-in_err-n.ensures.1
    (ends_then (first c.args.o) c.in_ok-i.ensures (λ table interned extends. refl) (ends_stop (second c.args.o c.in_ok-i.i) _ c.in_err-n.ensures))

pub returns-in_err-p : goal.returns-in_err-p
returns-in_err-p c =
    let back : to_z w64 (of_z w64 c.in_ok-i.i) ≡ c.in_ok-i.i = search rules in
    let placed = subst (λ (i : ℤ). Comes is_any as_is (λ (table : ValuesView). with_place i c.in_ok-n.n) c.read_len.new.self c.place.new.work (Err c.in_err-p.field-0.0)) back c.in_err-p.ensures in
    passes_err (λ result. Ends (λ table. with_index (contents table c.args.w) (del_item c.args.o)) c.args.work.now c.place.new.work result) c.from_residual-in_err-p.result c.from_residual-in_err-p.ensures.1
    (ends_then (first c.args.o) c.in_ok-i.ensures (λ table interned extends. refl)
    (ends_then (second c.args.o c.in_ok-i.i) c.in_ok-n.ensures (λ table interned extends. refl) (ends_stop (third c.args.o c.in_ok-n.n) _ placed)))

pub close_gap-requires-clause-within : goal.close_gap-requires-clause-within
close_gap-requires-clause-within c =
    within_fresh c.args.o c.place.new.work.made c.args.work.now.store c.place.new.work.store
    (c.place.ensures.kept.made_is ∙ (c.read_len.ensures.kept.made_is ∙ (c.index.ensures.kept.made_is ∙ c.requires.fresh)))
    (c.place.ensures.kept.store_is ∙ (c.read_len.ensures.kept.store_is ∙ c.index.ensures.kept.store_is)) c.requires.within

pub returns : goal.returns
returns c =
    let back : to_z w64 (of_z w64 c.in_ok-i.i) ≡ c.in_ok-i.i = search rules in
    let placed = subst (λ (i : ℤ). Comes is_any as_is (λ (table : ValuesView). with_place i c.in_ok-n.n) c.read_len.new.self c.place.new.work (Ok c.in_ok-p.p)) back c.in_ok-p.ensures in
    let none = c.place.ensures.kept.made_is ∙ (c.read_len.ensures.kept.made_is ∙ (c.index.ensures.kept.made_is ∙ c.requires.fresh)) in
    ends_then (first c.args.o) c.in_ok-i.ensures (λ table interned extends. refl)
    (ends_then (second c.args.o c.in_ok-i.i) c.in_ok-n.ensures (λ table interned extends. refl)
    (ends_then (third c.args.o c.in_ok-n.n) placed (λ table interned extends. refl)
    (ends_writes (λ table. third c.args.o c.in_ok-n.n table c.in_ok-p.p) none (λ table. close_gap c.args.o c.in_ok-n.n c.in_ok-p.p nothing) (λ table interned extends. refl) c.close_gap.ensures)))
