use Rattle.std.proofs.Common.{Ok, refl, string_bytes}
use Rattle.prov_base.specs.declared.refusal.Memory.{Memory}
use Rattle.py_value.specs.declared.value.Value.TheVariants.{Text}
use Rattle.py_value.specs.Contents.{text}
use Rattle.py_value.specs.Seen.{bytes_of}
use Rattle.py_value.specs.Values.{AreNamed}
use Rattle.py_model.specs.Graph.{add}
use Rattle.py_model.specs.Printing.{literal}
use Rattle.graph_texts.specs.Steps.{did}
use Rattle.graph_texts.specs.declared.pending.Next.TheVariants.{Nothing}
use Rattle.graph_texts.proofs.Numbering.{new_named, all_draws, known_draws, long_words}
use Rattle.graph_texts.proofs.page.Page.draw_long.Goals as goal

pub returns-in_ok-push_str : goal.returns-in_ok-push_str
returns-in_ok-push_str g c =
    let named : AreNamed (g.R.Reads.values c.args.reads.now) c.begin.new.self.things.keys = new_named c.equality_is_same.ensures.values c.tests_are_equality.ensures.values c.same_contents_same_value.ensures (g.R.Reads.values c.args.reads.now) (g.R.Reads.store c.args.reads.now) c.requires.interned (Text c.args.id) c.requires.there
    c.args.self.now c.begin.new.self c.requires.named c.in_ok-begin.field-0 c.in_ok-begin.ensures.fresh c.in_ok-begin.ensures.things c.in_ok-begin.ensures.text c.if-branch.true in
    all_draws c.equality_is_same.ensures.values c.tests_are_equality.ensures.values c.same_contents_same_value.ensures (g.R.Reads.values c.args.reads.now) (g.R.Reads.store c.args.reads.now) c.requires.interned (Text c.args.id) c.requires.there
    c.args.self.now c.begin.new.self c.requires.named c.in_ok-begin.field-0 c.in_ok-begin.ensures.fresh c.in_ok-begin.ensures.things c.in_ok-begin.ensures.text c.if-branch.true
    (text (bytes_of (g.R.Reads.values c.args.reads.now) c.args.id)) refl
    (λ e. did (add (literal (bytes_of (g.R.Reads.values c.args.reads.now) c.args.id)) e))
    (record { text = c.push_str.new.self; things = c.begin.new.self.things }) {E = Memory} (Ok Nothing)
    (record {
      drawn = long_words (string_bytes c.begin.new.self.text) (string_bytes c.push_str.new.self) c.as_str.result.now (string_bytes c.in_ok-literal.field-0) c.text_of.result.now (g.R.Reads.values c.args.reads.now) c.args.id
          c.in_ok-push_str.ensures.bytes c.as_str.ensures.value c.in_ok-literal.ensures c.text_of.ensures;
      things = refl;
      tasks = refl;
      named = named;
      ready = tt;
    })

pub returns-else-branch : goal.returns-else-branch
returns-else-branch g c =
    known_draws c.equality_is_same.ensures.values c.tests_are_equality.ensures.values c.same_contents_same_value.ensures (g.R.Reads.values c.args.reads.now) (g.R.Reads.store c.args.reads.now) c.requires.interned (Text c.args.id) c.requires.there
    c.args.self.now c.begin.new.self c.requires.named c.in_ok-begin.field-0 c.in_ok-begin.ensures.fresh c.in_ok-begin.ensures.things c.in_ok-begin.ensures.text c.if-branch.false
    (text (bytes_of (g.R.Reads.values c.args.reads.now) c.args.id)) refl
    (λ e. did (add (literal (bytes_of (g.R.Reads.values c.args.reads.now) c.args.id)) e))
