use Rattle.std.proofs.Common.{rules, ◌≡◌, refl, subst, ℕ, suc, Err}
use Rattle.op_work.specs.Work.{WroteAll}
use Rattle.py_model.specs.Plan.{write, done}
use Rattle.py_value.specs.Contents.{contents, nothing}
use Rattle.py_value.specs.Seen.{item_at, item_is}
use Rattle.py_value.specs.declared.value.Value.TheVariants.{None as NoneValue}
use Rattle.op_work.proofs.Ending.{writes_then, writes_stop, writes_done}
use Rattle.op_work.proofs.Going.{passes_err}
use Rattle.op_lists.proofs.ListKinds.{length_set, behind}
use Rattle.op_lists.proofs.append.put_behind.Goals as goal

pub returns-in_err-set : goal.returns-in_err-set
returns-in_err-set c = passes_err (λ result. WroteAll (λ table. behind c.args.o c.args.n (contents table c.args.item)) c.args.work.now c.set.new.self result) c.from_residual.result c.from_residual.ensures.1
    (writes_stop (λ table. length_set c.args.o (suc c.args.n)) c.in_err-set.field-0.0 c.in_err-set.ensures)

pub returns-in_err-set-2 : goal.returns-in_err-set-2
returns-in_err-set-2 c =
    let grown : c.in-Some.longer ≡ suc c.args.n = search rules in
    passes_err (λ result. WroteAll (λ table. behind c.args.o c.args.n (contents table c.args.item)) c.args.work.now c.set-2.new.self result) c.from_residual-in_err-set-2.result c.from_residual-in_err-set-2.ensures.1
    (subst (λ (m : ℕ). WroteAll (λ table. write (item_at c.args.o c.args.n) (item_is (contents table c.args.item)) (length_set c.args.o m)) c.args.work.now c.set-2.new.self (Err c.in_err-set-2.field-0.0)) grown
    (writes_then c.in_ok-set.ensures (writes_stop (λ table. done nothing) c.in_err-set-2.field-0.0 c.in_err-set-2.ensures)))

pub returns : goal.returns
returns c =
    let grown : c.in-Some.longer ≡ suc c.args.n = search rules in
    subst (λ (m : ℕ). WroteAll (λ table. write (item_at c.args.o c.args.n) (item_is (contents table c.args.item)) (length_set c.args.o m)) c.args.work.now c.set-2.new.self _) grown
    (writes_then c.in_ok-set.ensures (writes_then c.in_ok-set-2.ensures (writes_done c.set-2.new.self NoneValue (λ table. done nothing) tt (λ table extends. refl))))
