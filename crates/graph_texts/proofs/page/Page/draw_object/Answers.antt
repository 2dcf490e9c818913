use Rattle.std.proofs.Common.{slice_get, refl}
use Rattle.py_value.specs.declared.value.Value.TheVariants.{Object}
use Rattle.py_value.specs.Contents.{object}
use Rattle.graph_texts.specs.Steps.{step_object}
use Rattle.graph_texts.proofs.Numbering.{new_named, all_draws, known_draws}
use Rattle.graph_texts.proofs.page.Page.draw_object.Goals as goal

pub open_object-requires : goal.open_object-requires
open_object-requires g c =
    record {
      named = new_named c.equality_is_same.ensures.values c.tests_are_equality.ensures.values c.same_contents_same_value.ensures (g.R.Reads.values c.args.reads.now) (g.R.Reads.store c.args.reads.now) c.requires.interned (Object c.args.o) tt
          c.args.self.now c.begin.new.self c.requires.named c.in_ok-begin.field-0 c.in_ok-begin.ensures.fresh c.in_ok-begin.ensures.things c.in_ok-begin.ensures.text c.if-branch.true;
    }

pub returns-then-branch : goal.returns-then-branch
returns-then-branch g c =
    all_draws c.equality_is_same.ensures.values c.tests_are_equality.ensures.values c.same_contents_same_value.ensures (g.R.Reads.values c.args.reads.now) (g.R.Reads.store c.args.reads.now) c.requires.interned (Object c.args.o) tt
    c.args.self.now c.begin.new.self c.requires.named c.in_ok-begin.field-0 c.in_ok-begin.ensures.fresh c.in_ok-begin.ensures.things c.in_ok-begin.ensures.text c.if-branch.true
    (object c.args.o) refl
    (step_object c.args.names.now (g.R.Reads.store c.args.reads.now) c.args.o (slice_get (g.R.Reads.store c.args.reads.now).kinds c.args.o))
    c.open_object.new.self c.open_object.result c.open_object.ensures

pub returns-else-branch : goal.returns-else-branch
returns-else-branch g c =
    known_draws c.equality_is_same.ensures.values c.tests_are_equality.ensures.values c.same_contents_same_value.ensures (g.R.Reads.values c.args.reads.now) (g.R.Reads.store c.args.reads.now) c.requires.interned (Object c.args.o) tt
    c.args.self.now c.begin.new.self c.requires.named c.in_ok-begin.field-0 c.in_ok-begin.ensures.fresh c.in_ok-begin.ensures.things c.in_ok-begin.ensures.text c.if-branch.false
    (object c.args.o) refl
    (step_object c.args.names.now (g.R.Reads.store c.args.reads.now) c.args.o (slice_get (g.R.Reads.store c.args.reads.now).kinds c.args.o))
