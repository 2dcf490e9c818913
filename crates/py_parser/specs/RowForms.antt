-- No public clause cites this file.
-- The syntax tree of rows, as it grows line by line. No public clause speaks of it.
use Rattle.std.specs.Prelude.{ℕ, ◌+◌, List, [], ◌∷◌, ◌++◌, Option, Some, None, if◌then◌else◌}
use Rattle.py_lines.specs.declared.parts.Token.{Token}
use Rattle.py_tree.specs.declared.stmt.Bound.{Bound}
use Rattle.py_tree.specs.Tree.{ExprTree, StmtTree, FormTree, SuiteTree, BranchesTree, HandlersTree, one_stmt, pass_form, if_form, while_form, for_form, try_form, with_form, def_form, class_form, end_suite, more_suite, end_branches, more_branches, no_else, else_suite, end_handlers, more_handlers}
use Rattle.py_expressions.specs.Trees.{expr_tree, exprs_tree}
use Rattle.py_grammar.specs.Written.{Simple}
use Rattle.py_grammar.specs.StatementTokens.{simple_tokens}
use Rattle.py_grammar.specs.StatementTrees.{simple_form, target_tree, names_list, params_list, naming_bound, kind_class, kind_bound, base_tree, end_of}
use Rattle.py_grammar.specs.LineReader.{Head, simple_head, if_head, elif_head, else_head, while_head, for_head, try_head, except_head, with_head, def_head, class_head, global_head, head_tokens}
use Rattle.py_grammar.specs.ParsedHead.{behind_in}
use Rattle.py_parser.specs.Rows.{Rows, end_rows, row, Under, nothing, block as under, is_stmt, counted, under_lines, under_size}

abbrev pub suite_list : List StmtTree → SuiteTree
suite_list [] = end_suite
suite_list (s ∷ ss) = more_suite s (suite_list ss)

-- a statement with this number that begins with these tokens and whose last line ends here
abbrev pub begun : ℕ → List Token → ℕ → FormTree → StmtTree
begun number [] to form = one_stmt number (record { line = 0; col = 0 }) (record { from = 0; to = to }) form
begun number (first ∷ tokens) to form = one_stmt number first.at (record { from = first.span.from; to = to }) form

abbrev pub last_changed : (StmtTree → StmtTree) → List StmtTree → List StmtTree
last_changed f [] = []
last_changed f (s ∷ []) = f s ∷ []
last_changed f (s ∷ t ∷ ss) = s ∷ last_changed f (t ∷ ss)

abbrev pub branch_last : BranchesTree → ExprTree → SuiteTree → BranchesTree
branch_last end_branches test suite = more_branches test suite end_branches
branch_last (more_branches t s rest) test suite = more_branches t s (branch_last rest test suite)

abbrev pub handler_last : HandlersTree → Option ExprTree → Option Bound → SuiteTree → HandlersTree
handler_last end_handlers class bound suite = more_handlers class bound suite end_handlers
handler_last (more_handlers c b s rest) class bound suite = more_handlers c b s (handler_last rest class bound suite)

abbrev pub with_elif : ExprTree → SuiteTree → FormTree → FormTree
with_elif test suite (if_form branches orelse) = if_form (branch_last branches test suite) orelse
with_elif test suite form = form

abbrev pub with_else : SuiteTree → FormTree → FormTree
with_else suite (if_form branches _) = if_form branches (else_suite suite)
with_else suite form = form

abbrev pub with_handler : Option ExprTree → Option Bound → SuiteTree → FormTree → FormTree
with_handler class bound suite (try_form body handlers) = try_form body (handler_last handlers class bound suite)
with_handler class bound suite form = form

-- with the part that a line begins, which has this suite
abbrev pub with_part : Head → SuiteTree → FormTree → FormTree
with_part (elif_head at test colon b) suite form = with_elif (expr_tree test) suite form
with_part (else_head at colon b) suite form = with_else suite form
with_part (except_head at kind colon b) suite form = with_handler (kind_class kind) (kind_bound kind) suite form
with_part h suite form = form

-- a statement that has one part more, whose last line ends here
abbrev pub longer : (FormTree → FormTree) → ℕ → StmtTree → StmtTree
longer f to (one_stmt number at span form) = one_stmt number at (record { from = span.from; to = to }) (f form)

-- the statements so far, with a line that begins this, has this suite and these names declared global in it, and ends here
abbrev pub grown : ℕ → Head → SuiteTree → List (List ℕ) → ℕ → List StmtTree → List StmtTree
grown n (simple_head s) suite globals to ss = ss ++ (begun n (simple_tokens s) to (simple_form s) ∷ [])
grown n (if_head at test colon b) suite globals to ss = ss ++ (begun n (head_tokens (if_head at test colon b)) to (if_form (more_branches (expr_tree test) suite end_branches) no_else) ∷ [])
grown n (elif_head at test colon b) suite globals to ss = last_changed (longer (with_elif (expr_tree test) suite) to) ss
grown n (else_head at colon b) suite globals to ss = last_changed (longer (with_else suite) to) ss
grown n (while_head at test colon b) suite globals to ss = ss ++ (begun n (head_tokens (while_head at test colon b)) to (while_form (expr_tree test) suite) ∷ [])
grown n (for_head at t in_word e colon b) suite globals to ss = ss ++ (begun n (head_tokens (for_head at t in_word e colon b)) to (for_form (target_tree t) (exprs_tree e) suite) ∷ [])
grown n (try_head at colon b) suite globals to ss = ss ++ (begun n (head_tokens (try_head at colon b)) to (try_form suite end_handlers) ∷ [])
grown n (except_head at kind colon b) suite globals to ss = last_changed (longer (with_handler (kind_class kind) (kind_bound kind) suite) to) ss
grown n (with_head at e called colon b) suite globals to ss = ss ++ (begun n (head_tokens (with_head at e called colon b)) to (with_form (expr_tree e) (naming_bound called) suite) ∷ [])
grown n (def_head at name_at bytes opening names closing colon b) suite globals to ss =
    ss ++ (begun n (head_tokens (def_head at name_at bytes opening names closing colon b)) to (def_form bytes (params_list names) globals suite) ∷ [])
grown n (class_head at name_at bytes of colon b) suite globals to ss = ss ++ (begun n (head_tokens (class_head at name_at bytes of colon b)) to (class_form bytes (base_tree of) suite) ∷ [])
grown n (global_head at names) suite globals to ss = ss

-- the number of the first statement in the suite of a line
abbrev pub inner_number : ℕ → Head → ℕ
inner_number n h = n + (if is_stmt h then 1 else 0)

abbrev pub declared : Head → List (List ℕ)
declared (global_head at names) = names_list names
declared h = []

abbrev pub row_globals : Rows → List (List ℕ)
row_globals end_rows = []
row_globals (row line h below rest) = declared h ++ row_globals rest

abbrev pub under_globals : Under → List (List ℕ)
under_globals nothing = []
under_globals (under indent rows) = row_globals rows

abbrev mutual
  -- the statements so far, with those of these rows
  pub grow : ℕ → List StmtTree → Rows → List StmtTree
  grow n ss end_rows = ss
  grow n ss (row line h below rest) =
      grow (n + counted h + under_size below) (grown n h (below_tree (inner_number n h) line.span.to (behind_in h) below) (under_globals below) (end_of line.span.to (under_lines below)) ss) rest

  -- the suite of a line that ends here
  pub below_tree : ℕ → ℕ → Option Simple → Under → SuiteTree
  below_tree n to (Some s) below = more_suite (begun n (simple_tokens s) to (simple_form s)) end_suite
  below_tree n to None nothing = end_suite
  below_tree n to None (under indent rows) = suite_list (grow n [] rows)

-- the statement that a line begins, with this suite and these names declared global in it
abbrev pub form_begun : Head → SuiteTree → List (List ℕ) → FormTree
form_begun (simple_head s) suite globals = simple_form s
form_begun (if_head at test colon b) suite globals = if_form (more_branches (expr_tree test) suite end_branches) no_else
form_begun (while_head at test colon b) suite globals = while_form (expr_tree test) suite
form_begun (for_head at t in_word e colon b) suite globals = for_form (target_tree t) (exprs_tree e) suite
form_begun (try_head at colon b) suite globals = try_form suite end_handlers
form_begun (with_head at e called colon b) suite globals = with_form (expr_tree e) (naming_bound called) suite
form_begun (def_head at name_at bytes opening names closing colon b) suite globals = def_form bytes (params_list names) globals suite
form_begun (class_head at name_at bytes of colon b) suite globals = class_form bytes (base_tree of) suite
form_begun h suite globals = pass_form
