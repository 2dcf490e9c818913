use Rattle.std.proofs.Common.{rules, ◌≡◌, refl, subst, ℕ, suc, ◌-◌, Result}
use Rattle.op_work.specs.declared.stop.Stop.{Stop}
use Rattle.op_work.specs.Work.{WorkView, WroteAll}
use Rattle.py_model.specs.declared.moment.Answer.{Answer as OneAnswer}
use Rattle.py_model.specs.Lists.{close_gap, move_down}
use Rattle.py_model.specs.Plan.{Writes, write, done}
use Rattle.py_value.specs.Contents.{contents}
use Rattle.py_value.specs.Seen.{len_at, len_is}
use Rattle.py_value.specs.Values.{ValuesView}
use Rattle.py_value.specs.declared.value.Value.{Value}
use Rattle.op_lists.proofs.NamedValues.{named_stays}
use Rattle.op_work.proofs.Ending.{writes_then, writes_stop, writes_done}
use Rattle.op_work.proofs.Going.{extends_then, passes_err}
use Rattle.op_mutations.proofs.taking.close_gap.Goals as goal

abbrev last : ℕ → Value → ℕ → ValuesView → Writes
last o answer m table = write (len_at o) (len_is m) (done (contents table answer))

abbrev all : ℕ → ℕ → Value → ℕ → ℕ → ValuesView → Writes
all o p answer k m table = move_down k o p (last o answer m table)

-- so many move, and so many are left
by_counts : (o n p k m : ℕ) (answer : Value) {a b : WorkView} {result : Result OneAnswer Stop} → k ≡ n - suc p → m ≡ n - 1 → WroteAll (all o p answer k m) a b result
    → WroteAll (λ table. close_gap o n p (contents table answer)) a b result
by_counts o n p k m answer {a} {b} {result} later fewer wrote =
    subst (λ (k : ℕ). WroteAll (all o p answer k (n - 1)) a b result) later (subst (λ (m : ℕ). WroteAll (all o p answer k m) a b result) fewer wrote)

pub returns-in_err-move_down : goal.returns-in_err-move_down
returns-in_err-move_down c =
    let later : c.saturating_sub-behind.result ≡ c.args.n - suc c.args.p = search rules in
    let fewer : c.saturating_sub-fewer.result ≡ c.args.n - 1 = search rules in
    passes_err (λ result. WroteAll (λ table. close_gap c.args.o c.args.n c.args.p (contents table c.args.answer)) c.args.work.now c.move_down.new.work result) c.from_residual.result c.from_residual.ensures.1
    (by_counts c.args.o c.args.n c.args.p c.saturating_sub-behind.result c.saturating_sub-fewer.result c.args.answer later fewer
    (writes_stop (last c.args.o c.args.answer c.saturating_sub-fewer.result) c.in_err-move_down.field-0.0 c.in_err-move_down.ensures))

pub returns-in_err-set : goal.returns-in_err-set
returns-in_err-set c =
    let later : c.saturating_sub-behind.result ≡ c.args.n - suc c.args.p = search rules in
    let fewer : c.saturating_sub-fewer.result ≡ c.args.n - 1 = search rules in
    passes_err (λ result. WroteAll (λ table. close_gap c.args.o c.args.n c.args.p (contents table c.args.answer)) c.args.work.now c.set.new.self result) c.from_residual-in_err-set.result c.from_residual-in_err-set.ensures.1
    (by_counts c.args.o c.args.n c.args.p c.saturating_sub-behind.result c.saturating_sub-fewer.result c.args.answer later fewer
    (writes_then c.in_ok-move_down.ensures (writes_stop (λ table. done (contents table c.args.answer)) c.in_err-set.field-0.0 c.in_err-set.ensures)))

pub returns : goal.returns
returns c =
    let later : c.saturating_sub-behind.result ≡ c.args.n - suc c.args.p = search rules in
    let fewer : c.saturating_sub-fewer.result ≡ c.args.n - 1 = search rules in
    let extends = extends_then c.move_down.ensures.kept.extends c.set.ensures.kept.extends in
    by_counts c.args.o c.args.n c.args.p c.saturating_sub-behind.result c.saturating_sub-fewer.result c.args.answer later fewer
    (writes_then c.in_ok-move_down.ensures (writes_then c.in_ok-set.ensures
    (writes_done c.set.new.self c.args.answer (λ table. done (contents table c.args.answer)) (named_stays c.args.work.now.values c.set.new.self.values extends.few c.args.answer c.requires.named) (λ table extends. refl))))
