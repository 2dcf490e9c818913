use Rattle.std.proofs.Common.{◌≡◌, sym, ap, subst, ◌∙◌}
use Rattle.op_lists.specs.ValuesSeen.{values_seen}
use Rattle.op_work.specs.Work.{Comes}
use Rattle.py_model.specs.Walks.{walk}
use Rattle.py_value.specs.Contents.{contents}
use Rattle.py_value.specs.Values.{AreNamed}
use Rattle.py_value.specs.declared.value.Value.TheVariants.{Tuple}
use Rattle.op_work.proofs.Going.{comes_stop, comes_as, comes_same, passes_err}
use Rattle.op_lists.proofs.Tuples.{tuple_walk, one_item}
use Rattle.op_lists.proofs.walk.walk_tuple.Goals as goal

pub returns-in_err-look : goal.returns-in_err-look
returns-in_err-look c = passes_err
    (λ result. Comes (λ values vs. AreNamed values vs.items) (λ table vs. values_seen table vs.items) (λ table. walk (contents table (Tuple c.args.id))) c.args.work.now c.look.new.self result)
    c.from_residual.result c.from_residual.ensures.1
    (comes_same (λ table. walk (contents table (Tuple c.args.id)))
    (λ table interned extends go. tuple_walk table c.args.id c.tuple_of.result.now
    (c.tuples_are_their_parts.ensures table c.args.id c.tuple_of.result.now interned (extends.tuples c.args.id c.tuple_of.result.now (c.look.ensures.kept.extends.tuples c.args.id c.tuple_of.result.now c.tuple_of.ensures.items))) go)
    (comes_stop (λ table done go. go (values_seen table c.tuple_of.result.now)) c.in_err-look.ensures))

pub returns : goal.returns
returns c =
    let there = c.look.ensures.kept.extends.tuples c.args.id c.tuple_of.result.now c.tuple_of.ensures.items in
    let same : c.tuple_of.result.now ≡ c.in_ok-items.items.items = one_item _ _ (sym there ∙ c.tuple_of-2.ensures.items) ∙ sym c.in_ok-items.ensures.items in
    comes_same (λ table. walk (contents table (Tuple c.args.id)))
    (λ table interned extends go. tuple_walk table c.args.id c.tuple_of.result.now
    (c.tuples_are_their_parts.ensures table c.args.id c.tuple_of.result.now interned (extends.tuples c.args.id c.tuple_of.result.now there)) go)
    (comes_as (λ table done go. go (values_seen table c.tuple_of.result.now)) c.in_ok-items.items c.in_ok-look.ensures
    (subst (AreNamed c.look.new.self.values) (sym c.in_ok-items.ensures.items) c.tuple_of-2.ensures.named)
    (λ table interned extends go. ap (λ items. go (values_seen table items)) same))
