-- Which values pass from one operation to another by the forms of a script (this project's profile). Operations are named by their places and by what they are to
-- others. An Enter counts as an operation, and so does a `return`.
use Rattle.std.specs.Prelude.{ℕ, suc, nat_lt, nat_le, ◌==◌, ◌&&◌, ◌||◌, List, [], ◌∷◌, ◌++◌, Option, Some, None, if◌then◌else◌}
use Rattle.prov_base.specs.declared.place.Pos.{Pos}
use Rattle.py_tree.specs.declared.stmt.Bound.{Bound}
use Rattle.py_tree.specs.Functions.{expr_place}
use Rattle.py_tree.specs.Tree.{ExprTree, MaybeTree, ExprsTree, PairsTree, TargetTree, TargetsTree, StmtTree, FormTree, SuiteTree, BranchesTree, ElseTree, HandlersTree, ScriptTree, const_expr, var_expr, unary_expr, binary_expr, compare_expr, logic_expr, choose_expr, call_expr, attr_expr, part_expr, range_expr, list_expr, dict_expr, tuple_expr, no_expr, some_expr, end_exprs, more_exprs, end_pairs, more_pairs, var_target, part_target, field_target, many_target, end_targets, more_targets, one_stmt, do_form, assign_form, aug_form, del_form, pass_form, break_form, continue_form, return_form, raise_form, assert_form, import_form, if_form, while_form, for_form, try_form, with_form, def_form, class_form, end_suite, more_suite, end_branches, more_branches, no_else, else_suite, end_handlers, more_handlers}
use Rattle.py_model.specs.Occurrences.{evaluates}
use Rattle.value_links.specs.declared.link.Point.{Point}
use Rattle.value_links.specs.declared.link.Link.{Link}

-- What an operation is to those that take its answer: any evaluation is 0.
abbrev pub given_as : ℕ → ℕ
given_as number = if evaluates number then 0 else number

-- What an operation is to those whose answers it takes: operators, displays, parts and attributes are 4, functions of the language 50, its methods 80.
abbrev pub taken_as : ℕ → ℕ
taken_as number =
    if (nat_le 4 number && nat_lt number 28) || (number == 30) then 4
    else if nat_le 50 number && nat_lt number 72 then 50
    else if nat_le 80 number && nat_lt number 112 then 80
    else number

-- An Enter and a `return` take values too.
abbrev pub an_enter : ℕ
an_enter = 200

abbrev pub a_return : ℕ
a_return = 201

-- an operation at a place, as others take its answer; that which gives the value of an expression
abbrev pub point : Pos → ℕ → Point
point at kind = record { at = at; kind = kind }

abbrev pub value_of : ExprTree → Point
value_of e = point (expr_place e) 0

-- An operation takes the answer of another one. If it has a rival, it takes that of the later of both. Some take it only with so many values or more.
abbrev pub link : Pos → ℕ → Point → Link
link at kind from = record { to = point at kind; least = 0; from = from; rival = None }

abbrev pub or_rather : Pos → ℕ → Point → Point → Link
or_rather at kind from rival = record { to = point at kind; least = 0; from = from; rival = Some rival }

abbrev pub of_many : ℕ → Link → Link
of_many least l = record l { least = least }

abbrev pub each_to : Pos → ℕ → ExprsTree → List Link
each_to at kind end_exprs = []
each_to at kind (more_exprs e rest) = link at kind (value_of e) ∷ each_to at kind rest

abbrev pub how_many : ExprsTree → ℕ
how_many end_exprs = 0
how_many (more_exprs e rest) = suc (how_many rest)

-- A call at a place, of what an operation found, with its arguments: a function, a method, a class, a failing call, an entered activation; and what it gives if a class
-- was called, which is made at its place after it was found.
abbrev pub call_links : Pos → Point → ExprsTree → List Link
call_links at called arguments =
    each_to at 50 arguments ++ (each_to at 80 arguments ++ (each_to at 39 arguments ++ (each_to at 38 arguments ++ (each_to at an_enter arguments
    ++ (link at 39 called ∷ link at 38 called ∷ or_rather at 2 (point at 39) called
    ∷ of_many (suc (how_many arguments)) (link at an_enter (point at 39)) ∷ of_many (suc (suc (how_many arguments))) (link at 38 (point at 39)) ∷ [])))))

-- what is called as an attribute gets the value that has it, unless an instance was made
abbrev pub owner_links : Pos → ExprTree → ExprsTree → List Link
owner_links at owner arguments =
    link at 80 (value_of owner) ∷ of_many (suc (how_many arguments)) (or_rather at an_enter (value_of owner) (point at 39))
    ∷ of_many (suc (suc (how_many arguments))) (or_rather at 38 (value_of owner) (point at 39)) ∷ []

abbrev mutual
  pub expr_links : ExprTree → List Link
  expr_links (const_expr at atom) = []
  expr_links (var_expr at name) = []
  expr_links (unary_expr at sign e) = link at 4 (value_of e) ∷ expr_links e
  expr_links (binary_expr at sign l r) = link at 4 (value_of l) ∷ link at 4 (value_of r) ∷ expr_links l ++ expr_links r
  expr_links (compare_expr at sign l r) = link at 4 (value_of l) ∷ link at 4 (value_of r) ∷ expr_links l ++ expr_links r
  expr_links (logic_expr at sign l r) =
      link (expr_place l) 3 (value_of l) ∷ or_rather at 2 (value_of l) (value_of r) ∷ or_rather at 2 (value_of r) (value_of l) ∷ expr_links l ++ expr_links r
  expr_links (choose_expr at test chosen other) =
      link (expr_place test) 3 (value_of test) ∷ or_rather at 2 (value_of chosen) (value_of other) ∷ or_rather at 2 (value_of other) (value_of chosen)
      ∷ expr_links test ++ (expr_links chosen ++ expr_links other)
  expr_links (call_expr at (attr_expr dot e name) arguments) =
      link dot 32 (value_of e) ∷ call_links at (point dot 32) arguments ++ (owner_links at e arguments ++ (expr_links e ++ exprs_links arguments))
  expr_links (call_expr at callee arguments) = call_links at (value_of callee) arguments ++ (expr_links callee ++ exprs_links arguments)
  expr_links (attr_expr at e name) = link at 4 (value_of e) ∷ expr_links e
  expr_links (part_expr at e index) = link at 4 (value_of e) ∷ link at 4 (value_of index) ∷ expr_links e ++ expr_links index
  expr_links (range_expr at e low high) = link at 4 (value_of e) ∷ expr_links e ++ (bound_links at low ++ bound_links at high)
  expr_links (list_expr at items) = each_to at 4 items ++ exprs_links items
  expr_links (dict_expr at pairs) = pairs_links at pairs
  expr_links (tuple_expr at items) = each_to at 4 items ++ exprs_links items

  pub bound_links : Pos → MaybeTree → List Link
  bound_links at no_expr = []
  bound_links at (some_expr e) = link at 4 (value_of e) ∷ expr_links e

  pub exprs_links : ExprsTree → List Link
  exprs_links end_exprs = []
  exprs_links (more_exprs e rest) = expr_links e ++ exprs_links rest

  pub pairs_links : Pos → PairsTree → List Link
  pairs_links at end_pairs = []
  pairs_links at (more_pairs key v rest) = link at 4 (value_of key) ∷ link at 4 (value_of v) ∷ expr_links key ++ (expr_links v ++ pairs_links at rest)

-- A value is stored in a target: it is taken from an operation, unless its rival is later. Several targets take it apart at the place of the statement, and each
-- takes from there. Among these several take from the last that was taken apart, if that is later than the whole value.
abbrev mutual
  pub target_links : Pos → Point → Point → Point → TargetTree → List Link
  target_links at whole from rival (var_target place name) = link place 33 from ∷ []
  target_links at whole from rival (part_target place e index) =
      link place 28 (value_of e) ∷ link place 28 (value_of index) ∷ link place 28 from ∷ expr_links e ++ expr_links index
  target_links at whole from rival (field_target place e name) = link place 31 (value_of e) ∷ link place 31 from ∷ expr_links e
  target_links at whole from rival (many_target targets) = or_rather at 35 from rival ∷ targets_links at whole targets

  pub targets_links : Pos → Point → TargetsTree → List Link
  targets_links at whole end_targets = []
  targets_links at whole (more_targets target rest) = target_links at whole (point at 35) whole target ++ targets_links at whole rest

abbrev pub stored : Pos → Point → TargetTree → List Link
stored at from target = target_links at from from (point at 35) target

-- an augmented assignment takes what stands at its target, and stores what it makes
abbrev pub augment_links : TargetTree → Pos → ExprTree → List Link
augment_links (var_target place name) at e = link at 4 (point place 0) ∷ link at 4 (value_of e) ∷ link place 33 (point at 0) ∷ expr_links e
augment_links (part_target place container index) at e =
    link place 4 (value_of container) ∷ link place 4 (value_of index) ∷ link at 4 (point place 0) ∷ link at 4 (value_of e)
    ∷ link place 28 (value_of container) ∷ link place 28 (value_of index) ∷ link place 28 (point at 0) ∷ expr_links container ++ (expr_links index ++ expr_links e)
augment_links (field_target place owner name) at e =
    link place 4 (value_of owner) ∷ link at 4 (point place 0) ∷ link at 4 (value_of e) ∷ link place 31 (value_of owner) ∷ link place 31 (point at 0)
    ∷ expr_links owner ++ expr_links e
augment_links (many_target targets) at e = []

abbrev pub unset_links : TargetTree → List Link
unset_links (part_target place e index) = link place 29 (value_of e) ∷ link place 29 (value_of index) ∷ expr_links e ++ expr_links index
unset_links other = []

-- an expression whose value an operation of the statement takes, if it is there; a test
abbrev pub taken_by : Pos → ℕ → Option ExprTree → List Link
taken_by at kind None = []
taken_by at kind (Some e) = link at kind (value_of e) ∷ expr_links e

abbrev pub test_links : ExprTree → List Link
test_links test = link (expr_place test) 3 (value_of test) ∷ expr_links test

abbrev pub binding_links : Point → Option Bound → List Link
binding_links from None = []
binding_links from (Some bound) = link bound.at 33 from ∷ []

-- The class of a handler is taken unless that of the next one was found since.
abbrev pub match_link : Pos → Point → HandlersTree → Link
match_link at from (more_handlers (Some kind) bound body rest) = or_rather at 41 from (value_of kind)
match_link at from handlers = link at 41 from

abbrev mutual
  pub form_links : Pos → FormTree → List Link
  form_links at (do_form e) = expr_links e
  form_links at (assign_form target e) = expr_links e ++ stored at (value_of e) target
  form_links at (aug_form target sign place e) = augment_links target place e
  form_links at (del_form target) = unset_links target
  form_links at pass_form = []
  form_links at break_form = []
  form_links at continue_form = []
  form_links at (return_form value) = taken_by at a_return value
  form_links at (raise_form value) = taken_by at 40 value
  form_links at (assert_form test message) = test_links test ++ taken_by at 47 message
  form_links at (import_form name) = []
  form_links at (if_form branches orelse) = branches_links branches ++ else_links orelse
  form_links at (while_form test body) = test_links test ++ suite_links body
  form_links at (for_form target e body) =
      link at 36 (value_of e) ∷ link at 37 (value_of e) ∷ link at 37 (point at 36) ∷ expr_links e ++ (stored at (point at 37) target ++ suite_links body)
  form_links at (try_form body handlers) = suite_links body ++ handlers_links at handlers
  form_links at (with_form e bound body) =
      link at 46 (value_of e) ∷ link at 45 (point at 46) ∷ expr_links e ++ (binding_links (point at 46) bound ++ suite_links body)
  form_links at (def_form name params globals body) = suite_links body
  form_links at (class_form name base body) = taken_by at 43 base ++ (link at 33 (point at 43) ∷ suite_links body)

  pub suite_links : SuiteTree → List Link
  suite_links end_suite = []
  suite_links (more_suite s rest) = stmt_links s ++ suite_links rest

  pub stmt_links : StmtTree → List Link
  stmt_links (one_stmt number at span form) = form_links at form

  pub branches_links : BranchesTree → List Link
  branches_links end_branches = []
  branches_links (more_branches test body rest) = test_links test ++ (suite_links body ++ branches_links rest)

  pub else_links : ElseTree → List Link
  else_links no_else = []
  else_links (else_suite body) = suite_links body

  pub handlers_links : Pos → HandlersTree → List Link
  handlers_links at end_handlers = []
  handlers_links at (more_handlers None bound body rest) = suite_links body ++ handlers_links at rest
  handlers_links at (more_handlers (Some kind) bound body rest) =
      match_link at (value_of kind) rest ∷ expr_links kind ++ (suite_links body ++ handlers_links at rest)

-- what passes values in a script
abbrev pub links : ScriptTree → List Link
links script = suite_links script.body
