use Rattle.std.proofs.Common.{◌≡◌, drop}
use Rattle.py_tree.specs.Erasure.{suite_of, branches_of, handlers_of}
use Rattle.py_tree.specs.Functions.{suite_binds, branches_bind, handler_suites_bind}
use Rattle.script_names.proofs.LocalWalks.{stmts_left, branches_left, handlers_left}
use Rattle.script_names.proofs.locals.+suite_binds.Given as goal

abbrev pub invariant-suite_binds-loop-stmt : goal.invariant-suite_binds-loop-stmt
invariant-suite_binds-loop-stmt l = stmts_left l.name (drop l.stmt-index l.stmt-items) ≡ suite_binds (suite_of l.suite) l.name

abbrev pub invariant-branches_bind-loop-body : goal.invariant-branches_bind-loop-body
invariant-branches_bind-loop-body l = branches_left l.name (drop l.body-index l.body-items) ≡ branches_bind (branches_of l.branches) l.name

abbrev pub invariant-handler_suites_bind-loop-body : goal.invariant-handler_suites_bind-loop-body
invariant-handler_suites_bind-loop-body l = handlers_left l.name (drop l.body-index l.body-items) ≡ handler_suites_bind (handlers_of l.handlers) l.name
