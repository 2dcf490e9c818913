use Rattle.std.proofs.Common.{refl, subst, map, Ok}
use Rattle.py_model.specs.Classes.{make_of as plan_make_of, end_of_chain as plan_end}
use Rattle.py_value.specs.Contents.{contents}
use Rattle.op_work.specs.Work.{Comes, Ends, is_any, as_is}
use Rattle.op_work.proofs.Ending.{ends_then, ends_stop}
use Rattle.op_work.proofs.EntryReads.{all_on}
use Rattle.op_work.proofs.Going.{passes_err, extends_then}
use Rattle.op_classes.proofs.OfClasses.{behind_method, behind_end}
use Rattle.op_classes.proofs.instances.make_of.Goals as goal

pub make_exception-requires-clause-named : goal.make_exception-requires-clause-named
make_exception-requires-clause-named c = all_on (extends_then c.in_ok-method.ensures.kept.extends c.in_ok-end.ensures.kept.extends) c.args.arguments.now c.requires.named

pub returns-in_err-method : goal.returns-in_err-method
returns-in_err-method c =
    passes_err (λ result. Ends (λ table. plan_make_of (contents table c.args.of) (map (contents table) c.args.arguments.now)) c.args.work.now c.begin_method.new.work result)
    c.from_residual.result c.from_residual.ensures.1
    (ends_stop (behind_method c.args.of c.args.arguments.now) c.in_err-method.field-0.0 c.in_err-method.ensures)

pub returns-in_err-end : goal.returns-in_err-end
returns-in_err-end c =
    passes_err (λ result. Ends (λ table. plan_make_of (contents table c.args.of) (map (contents table) c.args.arguments.now)) c.args.work.now c.end_of_chain.new.work result)
    c.from_residual-in_err-end.result c.from_residual-in_err-end.ensures.1
    (ends_then (behind_method c.args.of c.args.arguments.now) c.in_ok-method.ensures (λ table interned extends. refl)
    (ends_stop (behind_end c.args.of c.args.arguments.now) c.in_err-end.field-0.0 c.in_err-end.ensures))

pub returns-in-Some : goal.returns-in-Some
returns-in-Some c =
    let end = subst (λ e. Comes is_any as_is (λ table. plan_end (contents table c.args.of)) c.begin_method.new.work c.end_of_chain.new.work (Ok e)) c.in-Some.is c.in_ok-end.ensures in
    ends_then (behind_method c.args.of c.args.arguments.now) c.in_ok-method.ensures (λ table interned extends. refl)
    (ends_then (behind_end c.args.of c.args.arguments.now) end (λ table interned extends. refl) c.make_exception.ensures)

pub returns-in-None : goal.returns-in-None
returns-in-None c =
    let end = subst (λ e. Comes is_any as_is (λ table. plan_end (contents table c.args.of)) c.begin_method.new.work c.end_of_chain.new.work (Ok e)) c.in-None.is c.in_ok-end.ensures in
    ends_then (behind_method c.args.of c.args.arguments.now) c.in_ok-method.ensures (λ table interned extends. refl)
    (ends_then (behind_end c.args.of c.args.arguments.now) end (λ table interned extends. refl) c.make_plain.ensures)
