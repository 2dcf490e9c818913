use Rattle.std.proofs.Common.{◌∙◌, sym, ap, subst, not, ◌==◌}
use Rattle.op_work.specs.Work.{Comes, is_any, as_is}
use Rattle.py_model.specs.Arithmetic.{truth_of}
use Rattle.py_value.specs.Contents.{contents}
use Rattle.op_work.proofs.Going.{at_once}
use Rattle.op_numbers.proofs.TruthPlans.{as_many}
use Rattle.op_numbers.proofs.truths.truth_value.Goals as goal

pub returns-in-Tuple : goal.returns-in-Tuple
returns-in-Tuple c = at_once (λ table. truth_of (contents table c.args.v)) c.args.work.now _ tt
    (λ table interned extends go. ap (λ v. truth_of (contents table v) go) c.in-Tuple.is
    ∙ (ap (λ x. truth_of x go) (c.tuples_are_their_parts.ensures table c.in-Tuple.id c.tuple_of.result.now interned (extends.tuples c.in-Tuple.id c.tuple_of.result.now c.tuple_of.ensures.items))
    ∙ ap (λ n. go (not (n == 0))) (as_many (contents table) c.tuple_of.result.now)))

pub returns-in-Object : goal.returns-in-Object
returns-in-Object c = subst (λ v. Comes is_any as_is (λ table. truth_of (contents table v)) c.args.work.now c.object_truth.new.work c.object_truth.result) (sym c.in-Object.is) c.object_truth.ensures
