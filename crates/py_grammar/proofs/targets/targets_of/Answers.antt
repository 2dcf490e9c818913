use Rattle.std.proofs.Common.{List, Some, is_some, ap, sym, ◌∙◌, subst}
use Rattle.py_tree.specs.declared.expr.Expr.{Expr}
use Rattle.py_tree.specs.declared.expr.Target.{Target}
use Rattle.py_tree.proofs.ExprTrees.{exprs_tree}
use Rattle.py_tree.proofs.TargetTrees.{targets_tree}
use Rattle.py_grammar.specs.ParsedSimple.{targets_form}
use Rattle.py_grammar.proofs.TargetLists.{Turned, one_more, next_is_target, all_done, no_items}
use Rattle.py_grammar.proofs.targets.targets_of.Goals as goal

-- src/targets.rt
pub item_target-requires : goal.item_target-requires
item_target-requires c =
    let here = subst (λ (rest : List Expr). Turned c.args.exprs.list.items c.loop-expr.list.items rest) c.in-Some.ensures.steps.0 c.loop-expr.invariant in
    record { form = next_is_target _ _ _ _ here (ap (λ es. is_some (targets_form es)) (sym (exprs_tree c.args.exprs)) ∙ c.requires.form) }

-- src/targets.rt
pub loop-expr-preserved : goal.loop-expr-preserved
loop-expr-preserved c =
    let here = subst (λ (rest : List Expr). Turned c.args.exprs.list.items c.loop-expr.list.items rest) c.in-Some.ensures.steps.0 c.loop-expr.invariant in
    subst (λ (done : List Target). Turned c.args.exprs.list.items done c.next.new.self.rest.items) (sym {A = List Target} c.in_ok-push.ensures.items) (one_more _ _ _ _ _ here c.item_target.ensures)

-- src/targets.rt
pub returns : goal.returns
returns c =
    let none = no_items _ _ c.loop-expr.expr-iterator.rest.ok.0 c.in-None.ensures.steps.0 in
    let here = subst (λ (rest : List Expr). Turned c.args.exprs.list.items c.loop-expr.list.items rest) none c.loop-expr.invariant in
    ap targets_form (exprs_tree c.args.exprs) ∙ all_done _ _ here ∙ ap Some (sym (targets_tree (record { list = c.loop-expr.list })))
