use Rattle.std.proofs.Common.{◌∙◌, sym, ap, subst, take, drop}
use Rattle.op_lists.proofs.Tuples.{one_item}
use Rattle.py_model.specs.Places.{part_from}
use Rattle.py_value.specs.Values.{AreNamed}
use Rattle.op_items.proofs.SlicePlans.{part_taken, part_named, count_is}
use Rattle.op_items.proofs.slices.parts_from.Goals as goal

pub returns-clause-parts : goal.returns-clause-parts
returns-clause-parts c = λ items is.
    c.in_ok-parts.ensures.items ∙ (ap (λ n. take n (drop c.args.first c.tuple_of-items.result.now)) (count_is c.args.first c.args.count)
    ∙ (part_taken c.args.first c.args.count c.tuple_of-items.result.now ∙ ap (part_from c.args.first c.args.count) (one_item _ items (sym c.tuple_of-items.ensures.items ∙ is))))

pub returns-clause-named : goal.returns-clause-named
returns-clause-named c = subst (AreNamed c.args.work.now.values)
    (sym (c.in_ok-parts.ensures.items ∙ (ap (λ n. take n (drop c.args.first c.tuple_of-items.result.now)) (count_is c.args.first c.args.count) ∙ part_taken c.args.first c.args.count c.tuple_of-items.result.now)))
    (part_named c.args.work.now.values c.args.first c.args.count c.tuple_of-items.result.now c.tuple_of-items.ensures.named)
