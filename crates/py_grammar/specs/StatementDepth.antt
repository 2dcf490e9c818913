-- How deep targets, statements and what they hold lie (this project's profile), for the limits.
use Rattle.py_expressions.specs.Depth.{exprs_depth, prim_depth, expr_depth}
use Rattle.std.specs.Prelude.{ℕ, ◌+◌, max}
use Rattle.py_expressions.specs.Targets.{OneTarget, named, item, field, TargetRest, end_rest_target, last_target, more_target, Target, one_target, several_targets}
use Rattle.py_grammar.specs.Written.{Simple, expression, assign, augmented, del, return_value, raise_value, assert, assert_message, Kind, every_kind, one_kind, Stmt, simple, if_stmt, while_stmt, for_stmt, try_stmt, with_stmt, def_stmt, class_stmt, Suite, on_line, block, Body, last_stmt, more_stmt, Elifs, no_elif, elif, Else, no_else_part, else_part, Handlers, last_handler, more_handler, def_line, def_block, DefBody, end_def, stmt_in_def, global_in_def}

-- a target counts as the expression of its form, and several as a tuple of them
abbrev pub one_target_depth : OneTarget → ℕ
one_target_depth (named at bytes) = 1
one_target_depth (item e opening index closing) = 1 + max (prim_depth e) (exprs_depth index)
one_target_depth (field e dot name_at bytes) = 1 + prim_depth e

abbrev pub target_rest_depth : TargetRest → ℕ
target_rest_depth end_rest_target = 0
target_rest_depth (last_target t) = one_target_depth t
target_rest_depth (more_target t comma rest) = max (one_target_depth t) (target_rest_depth rest)

abbrev pub target_depth : Target → ℕ
target_depth (one_target t) = one_target_depth t
target_depth (several_targets t comma rest) = 1 + max (one_target_depth t) (target_rest_depth rest)

abbrev pub simple_depth : Simple → ℕ
simple_depth (expression e) = exprs_depth e
simple_depth (assign t equals e) = max (target_depth t) (exprs_depth e)
simple_depth (augmented t op at e) = max (one_target_depth t) (exprs_depth e)
simple_depth (del at t) = one_target_depth t
simple_depth (return_value at e) = exprs_depth e
simple_depth (raise_value at e) = expr_depth e
simple_depth (assert at e) = expr_depth e
simple_depth (assert_message at e comma message) = max (expr_depth e) (expr_depth message)
simple_depth _ = 0

abbrev pub kind_depth : Kind → ℕ
kind_depth every_kind = 0
kind_depth (one_kind e called) = expr_depth e

abbrev mutual
  -- the deepest expression of a statement and of those in it
  pub stmt_expr_depth : Stmt → ℕ
  stmt_expr_depth (simple line s) = simple_depth s
  stmt_expr_depth (if_stmt line at test colon suite elifs orelse) = max (expr_depth test) (max (suite_expr_depth suite) (max (elif_expr_depth elifs) (else_expr_depth orelse)))
  stmt_expr_depth (while_stmt line at test colon suite) = max (expr_depth test) (suite_expr_depth suite)
  stmt_expr_depth (for_stmt line at t in_word e colon suite) = max (max (target_depth t) (exprs_depth e)) (suite_expr_depth suite)
  stmt_expr_depth (try_stmt line at colon suite handlers) = max (suite_expr_depth suite) (handler_expr_depth handlers)
  stmt_expr_depth (with_stmt line at e called colon suite) = max (expr_depth e) (suite_expr_depth suite)
  stmt_expr_depth (def_stmt line at name_at bytes opening given closing colon (def_line s)) = simple_depth s
  stmt_expr_depth (def_stmt line at name_at bytes opening given closing colon (def_block inside body)) = def_expr_depth body
  stmt_expr_depth (class_stmt line at name_at bytes of colon suite) = max 1 (suite_expr_depth suite)

  pub suite_expr_depth : Suite → ℕ
  suite_expr_depth (on_line s) = simple_depth s
  suite_expr_depth (block inside body) = body_expr_depth body

  pub body_expr_depth : Body → ℕ
  body_expr_depth (last_stmt s) = stmt_expr_depth s
  body_expr_depth (more_stmt s rest) = max (stmt_expr_depth s) (body_expr_depth rest)

  pub elif_expr_depth : Elifs → ℕ
  elif_expr_depth no_elif = 0
  elif_expr_depth (elif line at test colon suite rest) = max (max (expr_depth test) (suite_expr_depth suite)) (elif_expr_depth rest)

  pub else_expr_depth : Else → ℕ
  else_expr_depth no_else_part = 0
  else_expr_depth (else_part line at colon suite) = suite_expr_depth suite

  pub handler_expr_depth : Handlers → ℕ
  handler_expr_depth (last_handler line at kind colon suite) = max (kind_depth kind) (suite_expr_depth suite)
  handler_expr_depth (more_handler line at kind colon suite rest) = max (max (kind_depth kind) (suite_expr_depth suite)) (handler_expr_depth rest)

  pub def_expr_depth : DefBody → ℕ
  def_expr_depth end_def = 0
  def_expr_depth (stmt_in_def s rest) = max (stmt_expr_depth s) (def_expr_depth rest)
  def_expr_depth (global_in_def line at names rest) = def_expr_depth rest

abbrev mutual
  -- how many suites lie in one another; one-line suites and the bodies of `def` and `class` count
  pub suites_in : Stmt → ℕ
  suites_in (simple line s) = 0
  suites_in (if_stmt line at test colon suite elifs orelse) = max (suite_depth suite) (max (elif_depth elifs) (else_depth orelse))
  suites_in (while_stmt line at test colon suite) = suite_depth suite
  suites_in (for_stmt line at t in_word e colon suite) = suite_depth suite
  suites_in (try_stmt line at colon suite handlers) = max (suite_depth suite) (handler_depth handlers)
  suites_in (with_stmt line at e called colon suite) = suite_depth suite
  suites_in (def_stmt line at name_at bytes opening given closing colon (def_line s)) = 1
  suites_in (def_stmt line at name_at bytes opening given closing colon (def_block inside body)) = 1 + def_depth body
  suites_in (class_stmt line at name_at bytes of colon suite) = suite_depth suite

  pub suite_depth : Suite → ℕ
  suite_depth (on_line s) = 1
  suite_depth (block inside body) = 1 + body_depth body

  pub body_depth : Body → ℕ
  body_depth (last_stmt s) = suites_in s
  body_depth (more_stmt s rest) = max (suites_in s) (body_depth rest)

  pub elif_depth : Elifs → ℕ
  elif_depth no_elif = 0
  elif_depth (elif line at test colon suite rest) = max (suite_depth suite) (elif_depth rest)

  pub else_depth : Else → ℕ
  else_depth no_else_part = 0
  else_depth (else_part line at colon suite) = suite_depth suite

  pub handler_depth : Handlers → ℕ
  handler_depth (last_handler line at kind colon suite) = suite_depth suite
  handler_depth (more_handler line at kind colon suite rest) = max (suite_depth suite) (handler_depth rest)

  pub def_depth : DefBody → ℕ
  def_depth end_def = 0
  def_depth (stmt_in_def s rest) = max (suites_in s) (def_depth rest)
  def_depth (global_in_def line at names rest) = def_depth rest
