use Rattle.std.proofs.Common.{rules, ◌≡◌, refl, subst, map, length, ℕ, ◌+◌, Ok, Err}
use Rattle.py_model.specs.Making.{set_items}
use Rattle.py_model.specs.Plan.{write, done}
use Rattle.py_model.specs.declared.moment.Answer.TheVariants.{Value as ValueAnswer}
use Rattle.py_value.specs.Contents.{contents}
use Rattle.py_value.specs.Seen.{len_at, len_is}
use Rattle.op_work.specs.Work.{WroteAll}
use Rattle.op_work.proofs.Ending.{writes_then, writes_stop, writes_done}
use Rattle.op_work.proofs.Going.{extends_then, passes_err}
use Rattle.op_lists.proofs.NamedValues.{named_stays}
use Rattle.op_joins.proofs.extending.set_behind.Goals as goal

pub returns-in_err-set_items : goal.returns-in_err-set_items
returns-in_err-set_items c =
    passes_err (λ result. WroteAll (λ table. set_items c.args.o c.args.n (map (contents table) c.args.items.now) (write (len_at c.args.o) (len_is (c.args.n + length c.args.items.now)) (done (contents table c.args.answer)))) c.args.work.now c.set_items.new.work result) c.from_residual.result c.from_residual.ensures.1
    (writes_stop (λ table. write (len_at c.args.o) (len_is (c.args.n + length c.args.items.now)) (done (contents table c.args.answer))) c.in_err-set_items.field-0.0 c.in_err-set_items.ensures)

pub returns-in_err-set : goal.returns-in_err-set
returns-in_err-set c =
    let grown : c.in-Some.longer ≡ c.args.n + length c.args.items.now = search rules in
    passes_err (λ result. WroteAll (λ table. set_items c.args.o c.args.n (map (contents table) c.args.items.now) (write (len_at c.args.o) (len_is (c.args.n + length c.args.items.now)) (done (contents table c.args.answer)))) c.args.work.now c.set.new.self result) c.from_residual-in_err-set.result c.from_residual-in_err-set.ensures.1
    (subst (λ (m : ℕ). WroteAll (λ table. set_items c.args.o c.args.n (map (contents table) c.args.items.now) (write (len_at c.args.o) (len_is m) (done (contents table c.args.answer)))) c.args.work.now c.set.new.self (Err c.in_err-set.field-0.0)) grown
    (writes_then c.in_ok-set_items.ensures (writes_stop (λ table. done (contents table c.args.answer)) c.in_err-set.field-0.0 c.in_err-set.ensures)))

pub returns : goal.returns
returns c =
    let grown : c.in-Some.longer ≡ c.args.n + length c.args.items.now = search rules in
    let extends = extends_then c.set_items.ensures.kept.extends c.set.ensures.kept.extends in
    subst (λ (m : ℕ). WroteAll (λ table. set_items c.args.o c.args.n (map (contents table) c.args.items.now) (write (len_at c.args.o) (len_is m) (done (contents table c.args.answer)))) c.args.work.now c.set.new.self (Ok (ValueAnswer c.args.answer))) grown
    (writes_then c.in_ok-set_items.ensures (writes_then c.in_ok-set.ensures
    (writes_done c.set.new.self c.args.answer (λ table. done (contents table c.args.answer)) (named_stays c.args.work.now.values c.set.new.self.values extends.few c.args.answer c.requires.answer) (λ table extends. refl))))
