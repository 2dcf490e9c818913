use Rattle.std.proofs.Common.{rules, ◌≡◌, ◌∙◌, sym, ap, List, length, ℕ, ℤ, pos, w64, to_z, of_z}
use Rattle.std.proofs.lemmas.List.{length-map}
use Rattle.object_store.specs.Store.{keys_at}
use Rattle.py_model.specs.Operands.{gives}
use Rattle.py_model.specs.Plan.{Plan, read_order}
use Rattle.py_value.specs.Contents.{Contents, contents, int}
use Rattle.op_work.specs.Work.{Ends}
use Rattle.op_work.proofs.Ending.{ends_then, ends_stop}
use Rattle.op_work.proofs.Going.{passes_err}
use Rattle.op_items.proofs.starts.key_count.Goals as goal

abbrev counted : List Contents → Plan
counted keys = gives (int (pos (length keys)))

pub returns-in_err-count : goal.returns-in_err-count
returns-in_err-count c = passes_err (λ result. Ends (λ table. read_order c.args.o counted) c.args.work.now c.read_order.new.self result) c.from_residual.result c.from_residual.ensures.1
    (ends_stop (λ table keys. counted keys) _ c.in_err-count.ensures.comes)

pub returns : goal.returns
returns c =
    let back : to_z w64 (of_z w64 c.from.result) ≡ pos c.in_ok-count.count = search rules in
    ends_then (λ table keys. counted keys) c.in_ok-count.ensures.comes
    (λ table interned extends. ap (λ (n : ℕ). gives (int (pos n))) (length-map (keys_at c.args.work.now.store c.args.o) (contents table) ∙ sym c.in_ok-count.ensures.count) ∙ ap (λ (i : ℤ). gives (int i)) (sym back)) c.value_answer.ensures
