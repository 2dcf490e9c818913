use Rattle.std.proofs.Common.{rules, ◌≡◌, refl, subst, ℕ, suc, ◌-◌, Err}
use Rattle.op_work.specs.Work.{WroteAll}
use Rattle.py_model.specs.Lists.{move_up}
use Rattle.py_model.specs.Plan.{Writes, write, done}
use Rattle.py_value.specs.Contents.{contents, nothing}
use Rattle.py_value.specs.Seen.{item_at, item_is, len_at, len_is}
use Rattle.py_value.specs.Values.{ValuesView}
use Rattle.py_value.specs.declared.value.Value.{Value}
use Rattle.py_value.specs.declared.value.Value.TheVariants.{None as NoneValue}
use Rattle.op_lists.proofs.NamedValues.{named_stays}
use Rattle.op_work.proofs.Ending.{writes_then, writes_stop, writes_done}
use Rattle.op_work.proofs.Going.{passes_err}
use Rattle.op_mutations.proofs.Moves.{within_kept}
use Rattle.op_mutations.proofs.adding.put_at.Goals as goal

abbrev last : ℕ → ℕ → Writes
last o m = write (len_at o) (len_is m) (done nothing)

abbrev behind : ℕ → ℕ → Value → ℕ → ValuesView → Writes
behind o p item m table = write (item_at o p) (item_is (contents table item)) (last o m)

abbrev all : ℕ → ℕ → ℕ → Value → ℕ → ValuesView → Writes
all o n p item m table = move_up (n - p) o p (behind o p item m table)

pub returns-in_err-move_up : goal.returns-in_err-move_up
returns-in_err-move_up c = passes_err (λ result. WroteAll (all c.args.o c.args.n c.args.p c.args.item (suc c.args.n)) c.args.work.now c.move_up.new.work result) c.from_residual.result c.from_residual.ensures.1
    (writes_stop (behind c.args.o c.args.p c.args.item (suc c.args.n)) c.in_err-move_up.field-0.0 c.in_err-move_up.ensures)

pub returns-in_err-set : goal.returns-in_err-set
returns-in_err-set c = passes_err (λ result. WroteAll (all c.args.o c.args.n c.args.p c.args.item (suc c.args.n)) c.args.work.now c.set.new.self result) c.from_residual-in_err-set.result c.from_residual-in_err-set.ensures.1
    (writes_then c.in_ok-move_up.ensures (writes_stop (λ table. last c.args.o (suc c.args.n)) c.in_err-set.field-0.0 c.in_err-set.ensures))

pub returns-in_err-set-2 : goal.returns-in_err-set-2
returns-in_err-set-2 c =
    let grown : c.in-Some.longer ≡ suc c.args.n = search rules in
    passes_err (λ result. WroteAll (all c.args.o c.args.n c.args.p c.args.item (suc c.args.n)) c.args.work.now c.set-2.new.self result) c.from_residual-in_err-set-2.result c.from_residual-in_err-set-2.ensures.1
    (subst (λ (m : ℕ). WroteAll (all c.args.o c.args.n c.args.p c.args.item m) c.args.work.now c.set-2.new.self (Err c.in_err-set-2.field-0.0)) grown
    (writes_then c.in_ok-move_up.ensures (writes_then c.in_ok-set.ensures (writes_stop (λ table. done nothing) c.in_err-set-2.field-0.0 c.in_err-set-2.ensures))))

pub returns : goal.returns
returns c =
    let grown : c.in-Some.longer ≡ suc c.args.n = search rules in
    subst (λ (m : ℕ). WroteAll (all c.args.o c.args.n c.args.p c.args.item m) c.args.work.now c.set-2.new.self _) grown
    (writes_then c.in_ok-move_up.ensures (writes_then c.in_ok-set.ensures (writes_then c.in_ok-set-2.ensures (writes_done c.set-2.new.self NoneValue (λ table. done nothing) tt (λ table extends. refl)))))

pub set-requires-clause-named : goal.set-requires-clause-named
set-requires-clause-named c = (refl, (tt, named_stays c.args.work.now.values c.move_up.new.work.values c.move_up.ensures.kept.extends.few c.args.item c.requires.named))

pub set-requires-clause-within : goal.set-requires-clause-within
set-requires-clause-within c = within_kept c.args.o c.args.work.now.made c.move_up.new.work.made c.args.work.now.store c.move_up.new.work.store c.move_up.ensures.kept.made_is c.move_up.ensures.kept.store_is c.requires.within
