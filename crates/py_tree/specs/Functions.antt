-- Words of the syntax tree that the meaning of a run needs: the place of an expression, functions and classes by their
-- place, and the names that a function binds.
use Rattle.std.specs.Prelude.{ℕ, Bool, false, not, ◌&&◌, ◌||◌, List, [], ◌∷◌, ◌++◌, Option, Some, None, if◌then◌else◌}
use Rattle.std.specs.List.{find, list_any}
use Rattle.std.specs.Str.{bytes_eq}
use Rattle.prov_base.specs.declared.place.Pos.{Pos}
use Rattle.prov_base.specs.contracts.place.PosPartialEq.TheImpl.{ghosts as places}
use Rattle.py_tree.specs.Binds.{form_binds}
use Rattle.py_tree.specs.Tree.{ExprTree, StmtTree, FormTree, SuiteTree, BranchesTree, ElseTree, HandlersTree, ScriptTree, const_expr, var_expr, unary_expr, binary_expr, compare_expr, logic_expr, choose_expr, call_expr, attr_expr, part_expr, range_expr, list_expr, dict_expr, tuple_expr, one_stmt, if_form, while_form, for_form, try_form, with_form, def_form, class_form, end_suite, more_suite, end_branches, more_branches, no_else, else_suite, end_handlers, more_handlers}

-- the place of a node
abbrev pub expr_place : ExprTree → Pos
expr_place (const_expr at atom) = at
expr_place (var_expr at name) = at
expr_place (unary_expr at op e) = at
expr_place (binary_expr at op l r) = at
expr_place (compare_expr at op l r) = at
expr_place (logic_expr at op l r) = at
expr_place (choose_expr at test chosen other) = at
expr_place (call_expr at callee arguments) = at
expr_place (attr_expr at e name) = at
expr_place (part_expr at e index) = at
expr_place (range_expr at e low high) = at
expr_place (list_expr at items) = at
expr_place (dict_expr at pairs) = at
expr_place (tuple_expr at items) = at

-- a function: its place, its parameters, the names that it declares global, and its suite
pub record Function : Type 0 where
  pub place : Pos
  pub params : List (List ℕ)
  pub globals : List (List ℕ)
  pub body : SuiteTree

-- The functions of a suite, in the order of the text: those that stand in it, and those in its classes. The grammar has functions at
-- module level and directly in a class alone.
abbrev mutual
  pub functions_in : SuiteTree → List Function
  functions_in end_suite = []
  functions_in (more_suite stmt rest) = functions_of stmt ++ functions_in rest

  pub functions_of : StmtTree → List Function
  functions_of (one_stmt number at span form) = functions_at at form

  pub functions_at : Pos → FormTree → List Function
  functions_at at (def_form name params globals body) = record { place = at; params = params; globals = globals; body = body } ∷ []
  functions_at at (class_form name base body) = functions_in body
  functions_at at form = []

abbrev pub first_placed : Pos → List Function → Option Function
first_placed at [] = None
first_placed at (f ∷ fs) = if places.eq f.place at then Some f else first_placed at fs

-- the function at a place
abbrev pub function_at : ScriptTree → Pos → Option Function
function_at script at = first_placed at (functions_in script.body)

-- a class: its place, its name, the class that it derives from, and its suite
pub record Class : Type 0 where
  pub place : Pos
  pub name : List ℕ
  pub base : Option ExprTree
  pub body : SuiteTree

-- the classes that stand in a suite, in the order of the text; the grammar has classes at module level alone
abbrev pub classes_at : Pos → FormTree → List Class
classes_at at (class_form name base body) = record { place = at; name = name; base = base; body = body } ∷ []
classes_at at form = []

abbrev pub classes_of : StmtTree → List Class
classes_of (one_stmt number at span form) = classes_at at form

abbrev pub classes_in : SuiteTree → List Class
classes_in end_suite = []
classes_in (more_suite stmt rest) = classes_of stmt ++ classes_in rest

-- the class at a place
abbrev pub class_at : ScriptTree → Pos → Option Class
class_at script at = find (λ c. places.eq c.place at) (classes_in script.body)

-- the names that the statements of a suite bind, with those in their suites
abbrev mutual
  pub suite_binds : SuiteTree → List ℕ → Bool
  suite_binds end_suite name = false
  suite_binds (more_suite stmt rest) name = stmt_binds stmt name || suite_binds rest name

  pub stmt_binds : StmtTree → List ℕ → Bool
  stmt_binds (one_stmt number at span form) name = form_binds form name || inner_binds form name

  pub inner_binds : FormTree → List ℕ → Bool
  inner_binds (if_form branches orelse) name = branches_bind branches name || else_binds orelse name
  inner_binds (while_form test body) name = suite_binds body name
  inner_binds (for_form target items body) name = suite_binds body name
  inner_binds (try_form body handlers) name = suite_binds body name || handler_suites_bind handlers name
  inner_binds (with_form value bound body) name = suite_binds body name
  inner_binds form name = false

  pub branches_bind : BranchesTree → List ℕ → Bool
  branches_bind end_branches name = false
  branches_bind (more_branches test body rest) name = suite_binds body name || branches_bind rest name

  pub else_binds : ElseTree → List ℕ → Bool
  else_binds no_else name = false
  else_binds (else_suite body) name = suite_binds body name

  pub handler_suites_bind : HandlersTree → List ℕ → Bool
  handler_suites_bind end_handlers name = false
  handler_suites_bind (more_handlers kind bound body rest) name = suite_binds body name || handler_suites_bind rest name

-- A name is local in the whole function that binds it anywhere or has it as a parameter, unless the function declares it global.
abbrev pub is_local : Function → List ℕ → Bool
is_local f name = not (list_any (bytes_eq name) f.globals) && (list_any (bytes_eq name) f.params || suite_binds f.body name)
