use Rattle.std.proofs.Common.{◌≡◌, ◌+◌, suc, length, map}
use Rattle.py_model.specs.Graph.{names_in, object_drawn_to, value_drawn}
use Rattle.py_tree.specs.Tree.{ScriptTree}
use Rattle.py_value.specs.Contents.{contents}
use Rattle.py_value.specs.Values.{AreNamed}
use Rattle.graph_texts.specs.Seen.{AreReady, page_seen, pending_seen}
use Rattle.graph_texts.proofs.Meanings.{still}
use Rattle.graph_texts.proofs.Weights.{weights, left_in}
use Rattle.graph_texts.proofs.page.Page.draw_all.Given as goal

-- the tasks still draw what the value does
abbrev pub invariant-loop-task : goal.invariant-loop-task
invariant-loop-task g l = record {
  ready : AreReady (g.R.Reads.values l.reads) l.tasks.items;
  named : AreNamed (g.R.Reads.values l.reads) l.self.things.keys;
  same : (script : ScriptTree) → l.names ≡ names_in script.body
      → still script (g.R.Reads.store l.reads) (map (pending_seen (g.R.Reads.values l.reads) (g.R.Reads.store l.reads)) l.tasks.items) (page_seen (g.R.Reads.values l.reads) l.self)
      ≡ value_drawn script (g.R.Reads.store l.reads) (object_drawn_to script (g.R.Reads.store l.reads) (suc (length (g.R.Reads.store l.reads).kinds))) (contents (g.R.Reads.values l.reads) l.fn.value) (page_seen (g.R.Reads.values l.reads) l.fn.self);
}

abbrev pub decreases-loop-task : goal.decreases-loop-task
decreases-loop-task g l =
    weights (g.R.Reads.store l.reads) (map (pending_seen (g.R.Reads.values l.reads) (g.R.Reads.store l.reads)) l.tasks.items)
    + left_in (g.R.Reads.store l.reads) (page_seen (g.R.Reads.values l.reads) l.self).things
