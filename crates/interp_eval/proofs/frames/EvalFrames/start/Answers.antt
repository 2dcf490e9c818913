use Rattle.std.proofs.Common.{ap, ◌∙◌}
use Rattle.py_tree.specs.Erasure.{expr_of}
use Rattle.interp_eval.specs.Machine.{remains}
use Rattle.interp_eval.proofs.Remaining.{started_means}
use Rattle.interp_eval.proofs.Machines.{started, started_held}
use Rattle.interp_eval.proofs.frames.EvalFrames.start.Goals as goal

pub returns-clause-means : goal.returns-clause-means
returns-clause-means c = λ script next here go table.
    ap (λ m. remains script next here m go)
    (started table (record { scope = c.args.scope; top = record { node = c.node_for.result; have = c.new.result }; below = c.new-2.result }) _ (c.node_for.ensures table) c.new.ensures.items c.new-2.ensures.items)
    ∙ started_means script next here (expr_of c.args.expr.now) go

pub returns-clause-held : goal.returns-clause-held
returns-clause-held c = λ table.
    started_held table (record { scope = c.args.scope; top = record { node = c.node_for.result; have = c.new.result }; below = c.new-2.result }) (expr_of c.args.expr.now)
    (c.node_for.ensures table) c.new.ensures.items c.new-2.ensures.items
