use Rattle.py_value.specs.declared.value.Value.TheVariants.{Tuple}
use Rattle.py_value.specs.Contents.{contents, parts_by, tuple}
use Rattle.graph_texts.specs.Seen.{parts_from}
use Rattle.graph_texts.specs.Steps.{step_tuple}
use Rattle.graph_texts.proofs.Numbering.{new_named, all_draws, known_draws}
use Rattle.graph_texts.proofs.TupleParts.{tuple_is}
use Rattle.graph_texts.proofs.page.Page.draw_tuple.Goals as goal

pub open_tuple-requires-clause-named : goal.open_tuple-requires-clause-named
open_tuple-requires-clause-named g c =
    new_named c.equality_is_same.ensures.values c.tests_are_equality.ensures.values c.same_contents_same_value.ensures (g.R.Reads.values c.args.reads.now) (g.R.Reads.store c.args.reads.now) c.requires.interned (Tuple c.args.id) c.requires.there
    c.args.self.now c.begin.new.self c.requires.named c.in_ok-begin.field-0 c.in_ok-begin.ensures.fresh c.in_ok-begin.ensures.things c.in_ok-begin.ensures.text c.if-branch.true

pub returns-then-branch : goal.returns-then-branch
returns-then-branch g c =
    all_draws c.equality_is_same.ensures.values c.tests_are_equality.ensures.values c.same_contents_same_value.ensures (g.R.Reads.values c.args.reads.now) (g.R.Reads.store c.args.reads.now) c.requires.interned (Tuple c.args.id) c.requires.there
    c.args.self.now c.begin.new.self c.requires.named c.in_ok-begin.field-0 c.in_ok-begin.ensures.fresh c.in_ok-begin.ensures.things c.in_ok-begin.ensures.text c.if-branch.true
    (tuple (parts_by (contents (g.R.Reads.values c.args.reads.now)) (parts_from (g.R.Reads.values c.args.reads.now) c.args.id 0))) (tuple_is c.tuples_are_their_parts.ensures (g.R.Reads.values c.args.reads.now) c.args.id c.requires.interned c.requires.there)
    (step_tuple (parts_by (contents (g.R.Reads.values c.args.reads.now)) (parts_from (g.R.Reads.values c.args.reads.now) c.args.id 0)))
    c.open_tuple.new.self c.open_tuple.result c.open_tuple.ensures

pub returns-else-branch : goal.returns-else-branch
returns-else-branch g c =
    known_draws c.equality_is_same.ensures.values c.tests_are_equality.ensures.values c.same_contents_same_value.ensures (g.R.Reads.values c.args.reads.now) (g.R.Reads.store c.args.reads.now) c.requires.interned (Tuple c.args.id) c.requires.there
    c.args.self.now c.begin.new.self c.requires.named c.in_ok-begin.field-0 c.in_ok-begin.ensures.fresh c.in_ok-begin.ensures.things c.in_ok-begin.ensures.text c.if-branch.false
    (tuple (parts_by (contents (g.R.Reads.values c.args.reads.now)) (parts_from (g.R.Reads.values c.args.reads.now) c.args.id 0))) (tuple_is c.tuples_are_their_parts.ensures (g.R.Reads.values c.args.reads.now) c.args.id c.requires.interned c.requires.there)
    (step_tuple (parts_by (contents (g.R.Reads.values c.args.reads.now)) (parts_from (g.R.Reads.values c.args.reads.now) c.args.id 0)))
