use Rattle.std.proofs.Common.{ap, sym, ◌∙◌}
use Rattle.py_tree.specs.Binds.{handlers_bind}
use Rattle.py_tree.proofs.StmtTrees.{handlers_tree}
use Rattle.py_tree.proofs.BindsHandlers.{handlers_left}
use Rattle.script_names.proofs.locals.handlers_bind.Goals as goal

pub loop-bound-init : goal.loop-bound-init
loop-bound-init c = ap (handlers_left c.args.name.now) c.deref-bound-items.ensures.value ∙ ap (λ hs. handlers_bind hs c.args.name.now) (sym (handlers_tree c.args.handlers.now))
