-- The pure tree of each part of a script.
use Rattle.std.specs.Prelude.{List, [], ◌∷◌, Option, None, Some, option_map}
use Rattle.py_tree.specs.declared.expr.Expr.{Expr}
use Rattle.py_tree.specs.declared.expr.Exprs.{Exprs}
use Rattle.py_tree.specs.declared.expr.Pairs.{Pairs}
use Rattle.py_tree.specs.declared.expr.Expr.TheOpen.{Expr-F, Exprs-F, Pairs-F, Const, Var, Unary, Binary, Compare, Logic, Choose, Call, Attr, Part, Range, List as Listing, Dict, Tuple}
use Rattle.py_tree.specs.declared.expr.Expr.TheFolds.{fold-Expr, fold-Exprs, fold-Pairs}
use Rattle.py_tree.specs.declared.expr.Target.{Target}
use Rattle.py_tree.specs.declared.expr.Targets.{Targets}
use Rattle.py_tree.specs.declared.expr.Target.TheOpen.{Target-F, Targets-F, Var as TargetVar, Part as TargetPart, Field, Many}
use Rattle.py_tree.specs.declared.expr.Target.TheFolds.{fold-Target, fold-Targets}
use Rattle.py_tree.specs.declared.stmt.Bound.{Bound}
use Rattle.py_tree.specs.declared.stmt.Form.{Form}
use Rattle.py_tree.specs.declared.stmt.Branches.{Branches}
use Rattle.py_tree.specs.declared.stmt.Handlers.{Handlers}
use Rattle.py_tree.specs.declared.stmt.Stmt.{Stmt}
use Rattle.py_tree.specs.declared.stmt.Suite.{Suite}
use Rattle.py_tree.specs.declared.stmt.Script.{Script}
use Rattle.py_tree.specs.declared.stmt.Form.TheOpen.{Form-F, Branches-F, Handlers-F, Stmt-F, Suite-F, Do, Assign, Aug, Del, Pass, Break, Continue, Return, Raise, Assert, Import, If, While, For, Try, With, Def, Class}
use Rattle.py_tree.specs.declared.stmt.Form.TheFolds.{fold-Form, fold-Branches, fold-Handlers, fold-Stmt, fold-Suite}
use Rattle.py_tree.specs.Tree.{ExprTree, ExprsTree, PairsTree, MaybeTree, TargetTree, TargetsTree, StmtTree, FormTree, SuiteTree, BranchesTree, ElseTree, HandlersTree, ScriptTree, var_target, part_target, field_target, many_target, end_targets, more_targets, one_stmt, do_form, assign_form, aug_form, del_form, pass_form, break_form, continue_form, return_form, raise_form, assert_form, import_form, if_form, while_form, for_form, try_form, with_form, def_form, class_form, end_suite, more_suite, end_branches, more_branches, no_else, else_suite, end_handlers, more_handlers, const_expr, var_expr, unary_expr, binary_expr, compare_expr, logic_expr, choose_expr, call_expr, attr_expr, part_expr, range_expr, list_expr, dict_expr, tuple_expr, no_expr, some_expr, end_exprs, more_exprs, end_pairs, more_pairs}

-- the list of these trees
abbrev pub exprs_list : List ExprTree → ExprsTree
exprs_list [] = end_exprs
exprs_list (e ∷ es) = more_exprs e (exprs_list es)

abbrev pub pairs_list : List (ExprTree × ExprTree) → PairsTree
pairs_list [] = end_pairs
pairs_list (p ∷ ps) = more_pairs p.0 p.1 (pairs_list ps)

abbrev pub maybe_tree : Option ExprTree → MaybeTree
maybe_tree None = no_expr
maybe_tree (Some e) = some_expr e

-- the tree of an expression whose parts have these trees
abbrev pub expr_step : Expr-F ExprTree ExprsTree PairsTree → ExprTree
expr_step (Const at atom) = const_expr at atom
expr_step (Var at name) = var_expr at name
expr_step (Unary at op e) = unary_expr at op e.value
expr_step (Binary at op l r) = binary_expr at op l.value r.value
expr_step (Compare at op l r) = compare_expr at op l.value r.value
expr_step (Logic at op l r) = logic_expr at op l.value r.value
expr_step (Choose at test then else) = choose_expr at test.value then.value else.value
expr_step (Call at f args) = call_expr at f.value args
expr_step (Attr at e name) = attr_expr at e.value name
expr_step (Part at e index) = part_expr at e.value index.value
expr_step (Range at e low high) = range_expr at e.value (maybe_tree (option_map (λ b. b.value) low)) (maybe_tree (option_map (λ b. b.value) high))
expr_step (Listing at items) = list_expr at items
expr_step (Dict at pairs) = dict_expr at pairs
expr_step (Tuple at items) = tuple_expr at items

abbrev pub exprs_step : Exprs-F ExprTree ExprsTree PairsTree → ExprsTree
exprs_step es = exprs_list es.list.items

abbrev pub pairs_step : Pairs-F ExprTree ExprsTree PairsTree → PairsTree
pairs_step ps = pairs_list ps.list.items

unfoldable pub expr_of : Expr → ExprTree
expr_of = fold-Expr ExprTree ExprsTree PairsTree expr_step exprs_step pairs_step

unfoldable pub exprs_of : Exprs → ExprsTree
exprs_of = fold-Exprs ExprTree ExprsTree PairsTree expr_step exprs_step pairs_step

unfoldable pub pairs_of : Pairs → PairsTree
pairs_of = fold-Pairs ExprTree ExprsTree PairsTree expr_step exprs_step pairs_step

abbrev pub targets_list : List TargetTree → TargetsTree
targets_list [] = end_targets
targets_list (t ∷ ts) = more_targets t (targets_list ts)

abbrev pub target_step : Target-F TargetTree TargetsTree → TargetTree
target_step (TargetVar at name) = var_target at name
target_step (TargetPart at e index) = part_target at (expr_of e) (expr_of index)
target_step (Field at e name) = field_target at (expr_of e) name
target_step (Many ts) = many_target ts

abbrev pub targets_step : Targets-F TargetTree TargetsTree → TargetsTree
targets_step ts = targets_list ts.list.items

unfoldable pub target_of : Target → TargetTree
target_of = fold-Target TargetTree TargetsTree target_step targets_step

unfoldable pub targets_of : Targets → TargetsTree
targets_of = fold-Targets TargetTree TargetsTree target_step targets_step

abbrev pub suite_list : List StmtTree → SuiteTree
suite_list [] = end_suite
suite_list (s ∷ ss) = more_suite s (suite_list ss)

abbrev pub branches_list : List (Expr × SuiteTree) → BranchesTree
branches_list [] = end_branches
branches_list (b ∷ bs) = more_branches (expr_of b.0) b.1 (branches_list bs)

abbrev pub handlers_list : List (Option Expr × Option Bound × SuiteTree) → HandlersTree
handlers_list [] = end_handlers
handlers_list (h ∷ hs) = more_handlers (option_map expr_of h.0) h.1 h.2 (handlers_list hs)

abbrev pub else_tree : Option SuiteTree → ElseTree
else_tree None = no_else
else_tree (Some body) = else_suite body

abbrev pub form_step : Form-F FormTree BranchesTree HandlersTree StmtTree SuiteTree → FormTree
form_step (Do e) = do_form (expr_of e)
form_step (Assign t e) = assign_form (target_of t) (expr_of e)
form_step (Aug t op at e) = aug_form (target_of t) op at (expr_of e)
form_step (Del t) = del_form (target_of t)
form_step Pass = pass_form
form_step Break = break_form
form_step Continue = continue_form
form_step (Return e) = return_form (option_map expr_of e)
form_step (Raise e) = raise_form (option_map expr_of e)
form_step (Assert e message) = assert_form (expr_of e) (option_map expr_of message)
form_step (Import name) = import_form name
form_step (If branches orelse) = if_form branches (else_tree orelse)
form_step (While e body) = while_form (expr_of e) body
form_step (For t e body) = for_form (target_of t) (expr_of e) body
form_step (Try body handlers) = try_form body handlers
form_step (With e bound body) = with_form (expr_of e) bound body
form_step (Def name params globals body) = def_form name params.list.items globals.list.items body
form_step (Class name base body) = class_form name (option_map expr_of base) body

abbrev pub branches_step : Branches-F FormTree BranchesTree HandlersTree StmtTree SuiteTree → BranchesTree
branches_step bs = branches_list bs.list.items

abbrev pub handlers_step : Handlers-F FormTree BranchesTree HandlersTree StmtTree SuiteTree → HandlersTree
handlers_step hs = handlers_list hs.list.items

abbrev pub stmt_step : Stmt-F FormTree BranchesTree HandlersTree StmtTree SuiteTree → StmtTree
stmt_step s = one_stmt s.no s.pos s.span s.form.value

abbrev pub suite_step : Suite-F FormTree BranchesTree HandlersTree StmtTree SuiteTree → SuiteTree
suite_step s = suite_list s.list.items

unfoldable pub form_of : Form → FormTree
form_of = fold-Form FormTree BranchesTree HandlersTree StmtTree SuiteTree form_step branches_step handlers_step stmt_step suite_step

unfoldable pub branches_of : Branches → BranchesTree
branches_of = fold-Branches FormTree BranchesTree HandlersTree StmtTree SuiteTree form_step branches_step handlers_step stmt_step suite_step

unfoldable pub handlers_of : Handlers → HandlersTree
handlers_of = fold-Handlers FormTree BranchesTree HandlersTree StmtTree SuiteTree form_step branches_step handlers_step stmt_step suite_step

unfoldable pub stmt_of : Stmt → StmtTree
stmt_of = fold-Stmt FormTree BranchesTree HandlersTree StmtTree SuiteTree form_step branches_step handlers_step stmt_step suite_step

unfoldable pub suite_of : Suite → SuiteTree
suite_of = fold-Suite FormTree BranchesTree HandlersTree StmtTree SuiteTree form_step branches_step handlers_step stmt_step suite_step

abbrev pub script_of : Script → ScriptTree
script_of script = record { body = suite_of script.body; count = script.count }
