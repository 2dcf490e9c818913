-- The places of a script's statements and nodes, and the bytes of its statements.
use Rattle.std.specs.Prelude.{nat_lt, nat_le, ◌==◌, Bool, true, ◌&&◌, ◌||◌, not, List, [], ◌∷◌, ◌++◌, Option, None, Some}
use Rattle.std.specs.List.{list_all, list_any}
use Rattle.prov_base.specs.declared.place.Pos.{Pos}
use Rattle.prov_base.specs.declared.place.Span.{Span}
use Rattle.py_tree.specs.declared.stmt.Bound.{Bound}
use Rattle.py_tree.specs.Tree.{ExprTree, MaybeTree, ExprsTree, PairsTree, TargetTree, TargetsTree, StmtTree, FormTree, SuiteTree, BranchesTree, ElseTree, HandlersTree, const_expr, var_expr, unary_expr, binary_expr, compare_expr, logic_expr, choose_expr, call_expr, attr_expr, part_expr, range_expr, list_expr, dict_expr, tuple_expr, no_expr, some_expr, end_exprs, more_exprs, end_pairs, more_pairs, var_target, part_target, field_target, many_target, end_targets, more_targets, one_stmt, do_form, assign_form, aug_form, del_form, pass_form, break_form, continue_form, return_form, raise_form, assert_form, import_form, if_form, while_form, for_form, try_form, with_form, def_form, class_form, end_suite, more_suite, end_branches, more_branches, no_else, else_suite, end_handlers, more_handlers}

abbrev mutual
  -- the places of the nodes of an expression
  pub expr_places : ExprTree → List Pos
  expr_places (const_expr at atom) = at ∷ []
  expr_places (var_expr at name) = at ∷ []
  expr_places (unary_expr at op e) = at ∷ expr_places e
  expr_places (binary_expr at op l r) = at ∷ expr_places l ++ expr_places r
  expr_places (compare_expr at op l r) = at ∷ expr_places l ++ expr_places r
  expr_places (logic_expr at op l r) = at ∷ expr_places l ++ expr_places r
  expr_places (choose_expr at test chosen other) = at ∷ expr_places test ++ (expr_places chosen ++ expr_places other)
  expr_places (call_expr at callee arguments) = at ∷ expr_places callee ++ exprs_places arguments
  expr_places (attr_expr at e name) = at ∷ expr_places e
  expr_places (part_expr at e index) = at ∷ expr_places e ++ expr_places index
  expr_places (range_expr at e low high) = at ∷ expr_places e ++ (maybe_places low ++ maybe_places high)
  expr_places (list_expr at items) = at ∷ exprs_places items
  expr_places (dict_expr at pairs) = at ∷ pairs_places pairs
  expr_places (tuple_expr at items) = at ∷ exprs_places items

  pub maybe_places : MaybeTree → List Pos
  maybe_places no_expr = []
  maybe_places (some_expr e) = expr_places e

  pub exprs_places : ExprsTree → List Pos
  exprs_places end_exprs = []
  exprs_places (more_exprs e rest) = expr_places e ++ exprs_places rest

  pub pairs_places : PairsTree → List Pos
  pairs_places end_pairs = []
  pairs_places (more_pairs key value rest) = expr_places key ++ (expr_places value ++ pairs_places rest)

abbrev mutual
  -- the places of the nodes of a target
  pub target_places : TargetTree → List Pos
  target_places (var_target at name) = at ∷ []
  target_places (part_target at e index) = at ∷ expr_places e ++ expr_places index
  target_places (field_target at e name) = at ∷ expr_places e
  target_places (many_target targets) = targets_places targets

  pub targets_places : TargetsTree → List Pos
  targets_places end_targets = []
  targets_places (more_targets t rest) = target_places t ++ targets_places rest

abbrev pub option_places : Option ExprTree → List Pos
option_places None = []
option_places (Some e) = expr_places e

abbrev pub bound_places : Option Bound → List Pos
bound_places None = []
bound_places (Some bound) = bound.at ∷ []

abbrev mutual
  -- The places of the nodes of a script: of its expressions and targets, of the operators of augmented assignments, and
  -- of the names after `as`. A statement has no place of its own beside these: it shares that of its first token.
  pub form_places : FormTree → List Pos
  form_places (do_form e) = expr_places e
  form_places (assign_form target value) = target_places target ++ expr_places value
  form_places (aug_form target op at value) = at ∷ target_places target ++ expr_places value
  form_places (del_form target) = target_places target
  form_places pass_form = []
  form_places break_form = []
  form_places continue_form = []
  form_places (return_form value) = option_places value
  form_places (raise_form value) = option_places value
  form_places (assert_form test message) = expr_places test ++ option_places message
  form_places (import_form name) = []
  form_places (if_form branches orelse) = branches_places branches ++ else_places orelse
  form_places (while_form test body) = expr_places test ++ suite_places body
  form_places (for_form target items body) = target_places target ++ (expr_places items ++ suite_places body)
  form_places (try_form body handlers) = suite_places body ++ handlers_places handlers
  form_places (with_form value bound body) = expr_places value ++ (bound_places bound ++ suite_places body)
  form_places (def_form name params globals body) = suite_places body
  form_places (class_form name base body) = option_places base ++ suite_places body

  pub suite_places : SuiteTree → List Pos
  suite_places end_suite = []
  suite_places (more_suite s rest) = stmt_places s ++ suite_places rest

  pub stmt_places : StmtTree → List Pos
  stmt_places (one_stmt number at span form) = form_places form

  pub branches_places : BranchesTree → List Pos
  branches_places end_branches = []
  branches_places (more_branches test body rest) = expr_places test ++ (suite_places body ++ branches_places rest)

  pub else_places : ElseTree → List Pos
  else_places no_else = []
  else_places (else_suite body) = suite_places body

  pub handlers_places : HandlersTree → List Pos
  handlers_places end_handlers = []
  handlers_places (more_handlers kind bound body rest) = option_places kind ++ (bound_places bound ++ (suite_places body ++ handlers_places rest))

abbrev mutual
  -- the places of the statements in the order of the text
  pub suite_starts : SuiteTree → List Pos
  suite_starts end_suite = []
  suite_starts (more_suite s rest) = stmt_starts s ++ suite_starts rest

  pub stmt_starts : StmtTree → List Pos
  stmt_starts (one_stmt number at span form) = at ∷ form_starts form

  pub form_starts : FormTree → List Pos
  form_starts (if_form branches orelse) = branches_starts branches ++ else_starts orelse
  form_starts (while_form test body) = suite_starts body
  form_starts (for_form target items body) = suite_starts body
  form_starts (try_form body handlers) = suite_starts body ++ handlers_starts handlers
  form_starts (with_form value bound body) = suite_starts body
  form_starts (def_form name params globals body) = suite_starts body
  form_starts (class_form name base body) = suite_starts body
  form_starts _ = []

  pub branches_starts : BranchesTree → List Pos
  branches_starts end_branches = []
  branches_starts (more_branches test body rest) = suite_starts body ++ branches_starts rest

  pub else_starts : ElseTree → List Pos
  else_starts no_else = []
  else_starts (else_suite body) = suite_starts body

  pub handlers_starts : HandlersTree → List Pos
  handlers_starts end_handlers = []
  handlers_starts (more_handlers kind bound body rest) = suite_starts body ++ handlers_starts rest

-- the order of the text: by line, and on one line by column
abbrev pub is_before : Pos → Pos → Bool
is_before p q = nat_lt p.line q.line || ((p.line == q.line) && nat_lt p.col q.col)

abbrev pub is_same : Pos → Pos → Bool
is_same p q = (p.line == q.line) && (p.col == q.col)

-- each place is before all that follow it
abbrev pub are_ascending : List Pos → Bool
are_ascending [] = true
are_ascending (p ∷ ps) = list_all (is_before p) ps && are_ascending ps

-- no place stands there twice
abbrev pub are_distinct : List Pos → Bool
are_distinct [] = true
are_distinct (p ∷ ps) = not (list_any (is_same p) ps) && are_distinct ps

-- the bytes of the first are among those of the second
abbrev pub is_inside : Span → Span → Bool
is_inside inner outer = nat_le outer.from inner.from && nat_le inner.to outer.to

abbrev mutual
  -- the bytes of each statement are among those of the statement that has it in a suite, here the one with the bytes `outer`
  pub suite_nests : Span → SuiteTree → Bool
  suite_nests outer end_suite = true
  suite_nests outer (more_suite s rest) = stmt_nests outer s && suite_nests outer rest

  pub stmt_nests : Span → StmtTree → Bool
  stmt_nests outer (one_stmt number at span form) = is_inside span outer && form_nests span form

  pub form_nests : Span → FormTree → Bool
  form_nests outer (if_form branches orelse) = branches_nests outer branches && else_nests outer orelse
  form_nests outer (while_form test body) = suite_nests outer body
  form_nests outer (for_form target items body) = suite_nests outer body
  form_nests outer (try_form body handlers) = suite_nests outer body && handlers_nests outer handlers
  form_nests outer (with_form value bound body) = suite_nests outer body
  form_nests outer (def_form name params globals body) = suite_nests outer body
  form_nests outer (class_form name base body) = suite_nests outer body
  form_nests outer _ = true

  pub branches_nests : Span → BranchesTree → Bool
  branches_nests outer end_branches = true
  branches_nests outer (more_branches test body rest) = suite_nests outer body && branches_nests outer rest

  pub else_nests : Span → ElseTree → Bool
  else_nests outer no_else = true
  else_nests outer (else_suite body) = suite_nests outer body

  pub handlers_nests : Span → HandlersTree → Bool
  handlers_nests outer end_handlers = true
  handlers_nests outer (more_handlers kind bound body rest) = suite_nests outer body && handlers_nests outer rest

-- the same of the statements of a script, which no statement has in a suite
abbrev pub body_nests : SuiteTree → Bool
body_nests end_suite = true
body_nests (more_suite (one_stmt number at span form) rest) = form_nests span form && body_nests rest
