use Rattle.std.proofs.Common.{rules, sym, ◌∙◌}
use Rattle.py_grammar.proofs.ForTargets.{targets_init, targets_next, targets_last, targets_end, next_refused, targets_kept, item_shorter}
use Rattle.py_grammar.proofs.names.more_targets.Goals as goal

-- src/names.rt
pub loop-alloc-init : goal.loop-alloc-init
loop-alloc-init c = targets_init _ _ _ c.requires.row_fits

-- src/names.rt
pub returns-in_err-next-clause-refused : goal.returns-in_err-next-clause-refused
returns-in_err-next-clause-refused c = let is = next_refused _ _ _ _ _ c.loop-alloc.invariant (sym c.at_expr.ensures ∙ c.loop-alloc-test.true) c.in_err-next.ensures.refused in search (rules, is)

-- src/names.rt
pub loop-alloc-preserved : goal.loop-alloc-preserved
loop-alloc-preserved c = targets_next _ _ _ _ _ _ _ _ _ _ c.loop-alloc.invariant c.in_ok-next.ensures.found c.in-Some.ensures.taken c.in_ok-push.ensures.list c.in_ok-push.ensures.height

-- src/names.rt
pub loop-alloc-smaller : goal.loop-alloc-smaller
loop-alloc-smaller c = item_shorter _ _ _ _ _ _ c.in_ok-next.ensures.found c.in-Some.ensures.taken

-- src/names.rt
pub returns-in_default-clause-found : goal.returns-in_default-clause-found
returns-in_default-clause-found c =
    targets_kept _ _ _ _ _ _ c.in_default.ensures.kept (targets_last _ _ _ _ _ _ _ _ c.loop-alloc.invariant c.in_ok-next.ensures.found c.in_default.ensures.absent c.in_ok-push.ensures.list c.in_ok-push.ensures.height)

-- src/names.rt
pub returns-clause-found : goal.returns-clause-found
returns-clause-found c = targets_end _ _ _ _ _ c.loop-alloc.invariant (sym c.at_expr.ensures ∙ c.loop-alloc-test.false)
