use Rattle.std.proofs.Common.{ap, sym, subst, ◌∙◌}
use Rattle.py_value.specs.Contents.{contents}
use Rattle.py_value.specs.Values.{IsNamed}
use Rattle.py_value.specs.declared.value.Value.{Value}
use Rattle.py_model.specs.Statements.{first_of, parts_in}
use Rattle.flow_frames.specs.Machine.{parts_from}
use Rattle.flow_targets.specs.Spreading.{IsTupleId}
use Rattle.flow_targets.proofs.ItemsOf.{none_from}
use Rattle.flow_targets.proofs.spreading.item_at.Goals as goal

pub returns-in-None-clause-means : goal.returns-in-None-clause-means
returns-in-None-clause-means c = λ table texts tuples. none_from c.args.number _ (subst (IsTupleId c.args.value) c.in-None.is c.tuple_id.ensures table)

pub tuple_item-requires : goal.tuple_item-requires
tuple_item-requires c = subst (IsNamed c.args.values.now) (subst (IsTupleId c.args.value) c.in-Some.is c.tuple_id.ensures) c.requires

pub returns-in-Some-clause-means : goal.returns-in-Some-clause-means
returns-in-Some-clause-means c = λ table texts tuples.
    c.tuple_item.ensures.means table texts tuples
    ∙ ap (λ (v : Value). first_of (parts_from c.args.number (parts_in (contents table v)))) (sym (subst (IsTupleId c.args.value) c.in-Some.is c.tuple_id.ensures))
