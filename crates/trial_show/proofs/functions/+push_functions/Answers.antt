use Rattle.std.proofs.Common.{◌++◌, ℕ, List, ap, sym, ◌∙◌}
use Rattle.py_tree.specs.Tree.{SuiteTree}
use Rattle.py_tree.proofs.StmtTrees.{suite_tree}
use Rattle.trial_show.specs.Functions.{lines_in}
use Rattle.trial_show.proofs.Suites.{lines_left, other_has_none}
use Rattle.trial_show.proofs.functions.+push_functions.Goals as goal

pub push_form-returns-in_default : goal.push_form-returns-in_default
push_form-returns-in_default t c = other_has_none c.args.out.now.items c.args.rows.now c.args.at c.args.form.now c.in_default.not-Def c.in_default.not-Class

pub push_functions-loop-stmt-init : goal.push_functions-loop-stmt-init
push_functions-loop-stmt-init t c =
    ap (λ (xs : List ℕ). c.args.out.now.items ++ xs) (ap (lines_left c.args.rows.now) c.deref-stmt-items.ensures.value ∙ ap (λ (s : SuiteTree). lines_in c.args.rows.now s) (sym (suite_tree c.args.suite.now)))
