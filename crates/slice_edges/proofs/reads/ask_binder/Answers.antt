use Rattle.std.proofs.Common.{◌&&◌, ◌||◌, map, sym, ap, ◌∙◌}
use Rattle.py_tree.specs.Erasure.{script_of}
use Rattle.slice_law.specs.Closed.{has}
use Rattle.slice_law.specs.Edges.{by_name, from_option}
use Rattle.slice_edges.specs.Asks.{among_by, is_by}
use Rattle.slice_edges.specs.Reading.{binder_for}
use Rattle.slice_edges.proofs.WritersLaws.{on_ok}
use Rattle.slice_edges.proofs.reads.ask_binder.Goals as goal

pub returns-clause-asked : goal.returns-clause-asked
returns-clause-asked c = on_ok c.ask_for.result c.ask_for.ensures (λ noted. λ known reason s r.
    noted reason s r
    ∙ ap (λ stmts. (is_by by_name c.args.asker reason s && has r stmts) || among_by c.args.asks.now.keys reason s r)
    (ap from_option (c.in_ok-binder.ensures.found known) ∙ ap (binder_for (script_of c.args.script.now) (map (λ k. k.now) c.args.names.now) c.args.asker) (sym c.in-Some.is)))
