use Rattle.std.proofs.Common.{ap, ◌∙◌}
use Rattle.py_tree.specs.Tree.{one_stmt}
use Rattle.py_tree.specs.Erasure.{form_of}
use Rattle.py_tree.proofs.StmtTrees.{stmt_tree}
use Rattle.py_tree.proofs.deletion.add_stmt.Goals as goal

pub returns : goal.returns
returns c = record { last = _; new_is = c.in_ok-push.ensures.items; tree_is = stmt_tree _ ∙ ap (λ f. one_stmt c.args.no c.args.stmt.now.pos c.args.stmt.now.span (form_of f)) c.in_ok-form.ensures.ok }
