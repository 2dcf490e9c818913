-- The tree of statements as they are written, each statement with its place and its bytes.
use Rattle.std.specs.Prelude.{ℕ, List, [], ◌∷◌, ◌++◌, Option, Some, None}
use Rattle.py_lines.specs.declared.parts.Line.{Line}
use Rattle.py_lines.specs.declared.parts.Token.{Token}
use Rattle.py_tree.specs.declared.expr.BinOp.{BinOp}
use Rattle.py_tree.specs.declared.expr.BinOp.TheVariants.{Add, Sub, Mul, FloorDiv, Mod}
use Rattle.py_tree.specs.declared.stmt.Bound.{Bound}
use Rattle.py_tree.specs.Tree.{ExprTree, TargetTree, TargetsTree, StmtTree, FormTree, SuiteTree, BranchesTree, ElseTree, HandlersTree, ScriptTree, var_expr, var_target, part_target, field_target, many_target, end_targets, more_targets, one_stmt, do_form, assign_form, aug_form, del_form, pass_form, break_form, continue_form, return_form, raise_form, assert_form, import_form, if_form, while_form, for_form, try_form, with_form, def_form, class_form, end_suite, more_suite, end_branches, more_branches, no_else, else_suite, end_handlers, more_handlers}
use Rattle.py_tree.specs.Numbering.{size_suite, numbered_suite}
use Rattle.py_expressions.specs.Concrete.{Spot}
use Rattle.py_expressions.specs.Trees.{expr_tree, prim_tree, exprs_tree}
use Rattle.py_grammar.specs.Written.{AugSign, add_to, take_from, multiply_by, divide_by, leave_of, Simple, expression, assign, augmented, del, pass, break, continue, return, return_value, raise, raise_value, assert, assert_message, import_module, Names, last_name, more_names, Params, no_params, params, params_comma, Naming, no_naming, naming, Kind, every_kind, one_kind, Base, no_base, empty_base, base, Stmt, simple, if_stmt, while_stmt, for_stmt, try_stmt, with_stmt, def_stmt, class_stmt, Suite, on_line, block, Body, last_stmt, more_stmt, Elifs, no_elif, elif, Else, no_else_part, else_part, Handlers, last_handler, more_handler, DefSuite, def_line, def_block, DefBody, end_def, stmt_in_def, global_in_def, Script, empty_script, script}
use Rattle.py_expressions.specs.Targets.{OneTarget, named, item, field, TargetRest, end_rest_target, last_target, more_target, Target, one_target, several_targets}
use Rattle.py_grammar.specs.StatementTokens.{simple_tokens}
use Rattle.py_grammar.specs.Layout.{suite_lines, elif_lines, else_lines, handler_lines, def_lines}

abbrev pub aug_op : AugSign → BinOp
aug_op add_to = Add
aug_op take_from = Sub
aug_op multiply_by = Mul
aug_op divide_by = FloorDiv
aug_op leave_of = Mod

abbrev pub one_target_tree : OneTarget → TargetTree
one_target_tree (named at bytes) = var_target at.at bytes
one_target_tree (item e opening index closing) = part_target opening.at (prim_tree e) (exprs_tree index)
one_target_tree (field e dot name_at bytes) = field_target dot.at (prim_tree e) bytes

abbrev pub target_rest_tree : TargetRest → TargetsTree
target_rest_tree end_rest_target = end_targets
target_rest_tree (last_target t) = more_targets (one_target_tree t) end_targets
target_rest_tree (more_target t comma rest) = more_targets (one_target_tree t) (target_rest_tree rest)

abbrev pub target_tree : Target → TargetTree
target_tree (one_target t) = one_target_tree t
target_tree (several_targets t comma rest) = many_target (more_targets (one_target_tree t) (target_rest_tree rest))

abbrev pub simple_form : Simple → FormTree
simple_form (expression e) = do_form (exprs_tree e)
simple_form (assign t equals e) = assign_form (target_tree t) (exprs_tree e)
simple_form (augmented t op at e) = aug_form (one_target_tree t) (aug_op op) at.at (exprs_tree e)
simple_form (del at t) = del_form (one_target_tree t)
simple_form (pass at) = pass_form
simple_form (break at) = break_form
simple_form (continue at) = continue_form
simple_form (return at) = return_form None
simple_form (return_value at e) = return_form (Some (exprs_tree e))
simple_form (raise at) = raise_form None
simple_form (raise_value at e) = raise_form (Some (expr_tree e))
simple_form (assert at e) = assert_form (expr_tree e) None
simple_form (assert_message at e comma message) = assert_form (expr_tree e) (Some (expr_tree message))
simple_form (import_module at module_at bytes) = import_form bytes

abbrev pub names_list : Names → List (List ℕ)
names_list (last_name at bytes) = bytes ∷ []
names_list (more_names at bytes comma rest) = bytes ∷ names_list rest

abbrev pub params_list : Params → List (List ℕ)
params_list no_params = []
params_list (params names) = names_list names
params_list (params_comma names comma) = names_list names

abbrev pub naming_bound : Naming → Option Bound
naming_bound no_naming = None
naming_bound (naming as_word name_at bytes) = Some (record { at = name_at.at; name = bytes })

abbrev pub kind_class : Kind → Option ExprTree
kind_class every_kind = None
kind_class (one_kind e name) = Some (expr_tree e)

abbrev pub kind_bound : Kind → Option Bound
kind_bound every_kind = None
kind_bound (one_kind e name) = naming_bound name

abbrev pub base_tree : Base → Option ExprTree
base_tree no_base = None
base_tree (empty_base opening closing) = None
base_tree (base opening name_at bytes closing) = Some (var_expr name_at.at bytes)

-- the end of the last of these lines, where the first ends here
abbrev pub end_of : ℕ → List Line → ℕ
end_of to [] = to
end_of to (line ∷ lines) = end_of line.span.to lines

-- a statement that begins with this token and whose last line ends here; statements are numbered afterwards
abbrev pub stmt_at : Spot → ℕ → FormTree → StmtTree
stmt_at first to form = one_stmt 0 first.at (record { from = first.span.from; to = to }) form

abbrev pub stmt_of_tokens : List Token → ℕ → FormTree → StmtTree
stmt_of_tokens [] to form = one_stmt 0 (record { line = 0; col = 0 }) (record { from = 0; to = to }) form
stmt_of_tokens (first ∷ tokens) to form = one_stmt 0 first.at (record { from = first.span.from; to = to }) form

abbrev pub simple_tree : ℕ → Simple → StmtTree
simple_tree to s = stmt_of_tokens (simple_tokens s) to (simple_form s)

abbrev pub def_globals : DefBody → List (List ℕ)
def_globals end_def = []
def_globals (stmt_in_def s rest) = def_globals rest
def_globals (global_in_def line at names rest) = names_list names ++ def_globals rest

abbrev pub globals_of : DefSuite → List (List ℕ)
globals_of (def_line s) = []
globals_of (def_block inside body) = def_globals body

abbrev mutual
  pub stmt_tree : Stmt → StmtTree
  stmt_tree (simple line s) = simple_tree line.span.to s
  stmt_tree (if_stmt line at test colon suite elifs orelse) =
      stmt_at at (end_of line.span.to (suite_lines suite ++ (elif_lines elifs ++ else_lines orelse)))
      (if_form (more_branches (expr_tree test) (suite_tree line suite) (elif_trees elifs)) (else_tree orelse))
  stmt_tree (while_stmt line at test colon suite) = stmt_at at (end_of line.span.to (suite_lines suite)) (while_form (expr_tree test) (suite_tree line suite))
  stmt_tree (for_stmt line at t in_word e colon suite) = stmt_at at (end_of line.span.to (suite_lines suite)) (for_form (target_tree t) (exprs_tree e) (suite_tree line suite))
  stmt_tree (try_stmt line at colon suite handlers) = stmt_at at (end_of line.span.to (suite_lines suite ++ handler_lines handlers)) (try_form (suite_tree line suite) (handler_trees handlers))
  stmt_tree (with_stmt line at e name colon suite) = stmt_at at (end_of line.span.to (suite_lines suite)) (with_form (expr_tree e) (naming_bound name) (suite_tree line suite))
  stmt_tree (def_stmt line at name_at bytes opening names closing colon suite) = stmt_at at (end_of line.span.to (def_lines suite)) (def_form bytes (params_list names) (globals_of suite) (def_tree line suite))
  stmt_tree (class_stmt line at name_at bytes of colon suite) = stmt_at at (end_of line.span.to (suite_lines suite)) (class_form bytes (base_tree of) (suite_tree line suite))

  -- the suite that this line begins
  pub suite_tree : Line → Suite → SuiteTree
  suite_tree line (on_line s) = more_suite (simple_tree line.span.to s) end_suite
  suite_tree line (block inside body) = body_tree body

  pub body_tree : Body → SuiteTree
  body_tree (last_stmt s) = more_suite (stmt_tree s) end_suite
  body_tree (more_stmt s rest) = more_suite (stmt_tree s) (body_tree rest)

  pub elif_trees : Elifs → BranchesTree
  elif_trees no_elif = end_branches
  elif_trees (elif line at test colon suite rest) = more_branches (expr_tree test) (suite_tree line suite) (elif_trees rest)

  pub else_tree : Else → ElseTree
  else_tree no_else_part = no_else
  else_tree (else_part line at colon suite) = else_suite (suite_tree line suite)

  pub handler_trees : Handlers → HandlersTree
  handler_trees (last_handler line at kind colon suite) = more_handlers (kind_class kind) (kind_bound kind) (suite_tree line suite) end_handlers
  handler_trees (more_handler line at kind colon suite rest) = more_handlers (kind_class kind) (kind_bound kind) (suite_tree line suite) (handler_trees rest)

  pub def_tree : Line → DefSuite → SuiteTree
  def_tree line (def_line s) = more_suite (simple_tree line.span.to s) end_suite
  def_tree line (def_block inside body) = def_body_tree body

  -- `global` lines are no statements
  pub def_body_tree : DefBody → SuiteTree
  def_body_tree end_def = end_suite
  def_body_tree (stmt_in_def s rest) = more_suite (stmt_tree s) (def_body_tree rest)
  def_body_tree (global_in_def line at names rest) = def_body_tree rest

abbrev pub script_body : Script → SuiteTree
script_body empty_script = end_suite
script_body (script body) = body_tree body

-- the statements are numbered from 0 in the order of the text
abbrev pub script_tree : Script → ScriptTree
script_tree s = record { body = numbered_suite 0 (script_body s); count = size_suite (script_body s) }
