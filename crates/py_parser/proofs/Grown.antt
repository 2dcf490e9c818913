-- The tree that grows over the rows of a script is the script's.
use Rattle.std.proofs.Common.{◌≡◌, ℕ, ◌+◌, if◌then◌else◌, is_none, List, [], ◌∷◌, ◌++◌, Option, refl, ap, sym, ◌∙◌, arith, append_assoc, append-nil}
use Rattle.prov_base.specs.declared.place.Pos.{Pos}
use Rattle.py_lines.specs.declared.parts.Line.{Line}
use Rattle.py_lines.specs.declared.parts.Token.{Token}
use Rattle.py_tree.specs.declared.stmt.Bound.{Bound}
use Rattle.py_tree.specs.Tree.{ExprTree, StmtTree, FormTree, SuiteTree, BranchesTree, HandlersTree, one_stmt, if_form, while_form, for_form, try_form, with_form, def_form, class_form, end_suite, more_suite, end_branches, more_branches, no_else, else_suite, end_handlers, more_handlers}
use Rattle.py_tree.specs.Numbering.{size_stmt, size_form, size_suite, size_branches, size_else, size_handlers, numbered_stmt, numbered_form, numbered_suite, numbered_branches, numbered_else, numbered_handlers}
use Rattle.py_grammar.specs.Written.{Simple, expression, assign, augmented, del, pass, break, continue, return, return_value, raise, raise_value, assert, assert_message, import_module, Stmt, simple, if_stmt, while_stmt, for_stmt, try_stmt, with_stmt, def_stmt, class_stmt, Suite, on_line, block, Body, last_stmt, more_stmt, Elifs, no_elif, elif, Else, no_else_part, else_part, Handlers, last_handler, more_handler, DefSuite, def_line, def_block, DefBody, end_def, stmt_in_def, global_in_def, Script, empty_script, script}
use Rattle.py_grammar.specs.StatementTokens.{simple_tokens}
use Rattle.py_expressions.specs.Trees.{expr_tree, exprs_tree}
use Rattle.py_grammar.specs.StatementTrees.{target_tree, names_list, params_list, naming_bound, kind_class, kind_bound, base_tree, simple_form, simple_tree, stmt_of_tokens, end_of, globals_of, def_globals, stmt_tree, suite_tree, body_tree, elif_trees, else_tree, handler_trees, def_tree, def_body_tree, script_body}
use Rattle.py_grammar.specs.Layout.{suite_lines, elif_lines, else_lines, handler_lines}
use Rattle.py_parser.specs.Rows.{Rows, end_rows, under_lines, rows_size, under_size}
use Rattle.py_parser.specs.Grouped.{behind, behind_def, stmt_rows, suite_rows, body_rows, elif_rows, else_rows, handler_rows, def_suite_rows, def_rows, script_rows}
use Rattle.py_parser.specs.RowForms.{suite_list, begun, last_changed, branch_last, handler_last, row_globals, under_globals, grow, below_tree}
use Rattle.py_parser.proofs.RowLines.{suite_same, def_same}

-- ---- simple statements

pub simple_size : (s : Simple) → size_form (simple_form s) ≡ 0
simple_size (expression e) = refl
simple_size (assign t equals e) = refl
simple_size (augmented t op at e) = refl
simple_size (del at t) = refl
simple_size (pass at) = refl
simple_size (break at) = refl
simple_size (continue at) = refl
simple_size (return at) = refl
simple_size (return_value at e) = refl
simple_size (raise at) = refl
simple_size (raise_value at e) = refl
simple_size (assert at e) = refl
simple_size (assert_message at e comma message) = refl
simple_size (import_module at module_at bytes) = refl

simple_numbered : (n : ℕ) (s : Simple) → numbered_form n (simple_form s) ≡ simple_form s
simple_numbered n (expression e) = refl
simple_numbered n (assign t equals e) = refl
simple_numbered n (augmented t op at e) = refl
simple_numbered n (del at t) = refl
simple_numbered n (pass at) = refl
simple_numbered n (break at) = refl
simple_numbered n (continue at) = refl
simple_numbered n (return at) = refl
simple_numbered n (return_value at e) = refl
simple_numbered n (raise at) = refl
simple_numbered n (raise_value at e) = refl
simple_numbered n (assert at e) = refl
simple_numbered n (assert_message at e comma message) = refl
simple_numbered n (import_module at module_at bytes) = refl

begun_is : (n : ℕ) (ts : List Token) (to : ℕ) (form : FormTree) → numbered_form (n + 1) form ≡ form → begun n ts to form ≡ numbered_stmt n (stmt_of_tokens ts to form)
begun_is n [] to form is = ap (λ f. one_stmt n (record { line = 0; col = 0 }) (record { from = 0; to = to }) f) (sym is)
begun_is n (t ∷ ts) to form is = ap (λ f. one_stmt n t.at (record { from = t.span.from; to = to }) f) (sym is)

size_is : (ts : List Token) (to : ℕ) (form : FormTree) → size_form form ≡ 0 → size_stmt (stmt_of_tokens ts to form) ≡ 1
size_is [] to form is = ap (λ n. 1 + n) is
size_is (t ∷ ts) to form is = ap (λ n. 1 + n) is

one_is : (n to : ℕ) (s : Simple) → begun n (simple_tokens s) to (simple_form s) ≡ numbered_stmt n (simple_tree to s)
one_is n to s = begun_is n (simple_tokens s) to (simple_form s) (simple_numbered (n + 1) s)

pub one_size : (to : ℕ) (s : Simple) → size_stmt (simple_tree to s) ≡ 1
one_size to s = size_is (simple_tokens s) to (simple_form s) (simple_size s)

-- ---- sizes

abbrev behind_count : Option Simple → ℕ
behind_count b = if is_none b then 0 else 1

pub no_number : (n : ℕ) → n + 0 ≡ n
no_number n = omega arith

pub regroup : (a b c : ℕ) → a + b + c ≡ a + (b + c)
regroup a b c = omega arith

mutual
  pub stmt_size : (s : Stmt) (rest : Rows) → rows_size (stmt_rows s rest) ≡ size_stmt (stmt_tree s) + rows_size rest
  stmt_size (simple line s) rest = let one = one_size line.span.to s in omega (arith, one)
  stmt_size (if_stmt line at test colon suite elifs orelse) rest =
      let one = suite_size line suite in let two = elif_size elifs (else_rows orelse rest) in let three = else_part_size orelse rest in omega (arith, one, two, three)
  stmt_size (while_stmt line at test colon suite) rest = let one = suite_size line suite in omega (arith, one)
  stmt_size (for_stmt line at t in_word e colon suite) rest = let one = suite_size line suite in omega (arith, one)
  stmt_size (try_stmt line at colon suite handlers) rest = let one = suite_size line suite in let two = handler_size handlers rest in omega (arith, one, two)
  stmt_size (with_stmt line at e called colon suite) rest = let one = suite_size line suite in omega (arith, one)
  stmt_size (def_stmt line at name_at bytes opening names closing colon suite) rest = let one = def_size line suite in omega (arith, one)
  stmt_size (class_stmt line at name_at bytes of colon suite) rest = let one = suite_size line suite in omega (arith, one)

  pub suite_size : (line : Line) (s : Suite) → behind_count (behind s) + under_size (suite_rows s) ≡ size_suite (suite_tree line s)
  suite_size line (on_line s) = let one = one_size line.span.to s in omega (arith, one)
  suite_size line (block indent body) = let one = body_size body in omega (arith, one)

  pub body_size : (b : Body) → rows_size (body_rows b) ≡ size_suite (body_tree b)
  body_size (last_stmt s) = let one = stmt_size s end_rows in omega (arith, one)
  body_size (more_stmt s rest) = let one = stmt_size s (body_rows rest) in let two = body_size rest in omega (arith, one, two)

  pub elif_size : (e : Elifs) (rest : Rows) → rows_size (elif_rows e rest) ≡ size_branches (elif_trees e) + rows_size rest
  elif_size no_elif rest = omega arith
  elif_size (elif line at test colon suite more) rest = let one = suite_size line suite in let two = elif_size more rest in omega (arith, one, two)

  pub else_part_size : (e : Else) (rest : Rows) → rows_size (else_rows e rest) ≡ size_else (else_tree e) + rows_size rest
  else_part_size no_else_part rest = omega arith
  else_part_size (else_part line at colon suite) rest = let one = suite_size line suite in omega (arith, one)

  pub handler_size : (h : Handlers) (rest : Rows) → rows_size (handler_rows h rest) ≡ size_handlers (handler_trees h) + rows_size rest
  handler_size (last_handler line at kind colon suite) rest = let one = suite_size line suite in omega (arith, one)
  handler_size (more_handler line at kind colon suite more) rest = let one = suite_size line suite in let two = handler_size more rest in omega (arith, one, two)

  pub def_size : (line : Line) (s : DefSuite) → behind_count (behind_def s) + under_size (def_suite_rows s) ≡ size_suite (def_tree line s)
  def_size line (def_line s) = let one = one_size line.span.to s in omega (arith, one)
  def_size line (def_block indent body) = let one = def_body_size body in omega (arith, one)

  pub def_body_size : (b : DefBody) → rows_size (def_rows b) ≡ size_suite (def_body_tree b)
  def_body_size end_def = refl
  def_body_size (stmt_in_def s rest) = let one = stmt_size s (def_rows rest) in let two = def_body_size rest in omega (arith, one, two)
  def_body_size (global_in_def line at names rest) = let one = def_body_size rest in omega (arith, one)

-- ---- names declared global

nothing_declared : (gs : List (List ℕ)) → [] ++ gs ≡ gs
nothing_declared gs = refl

mutual
  stmt_globals : (s : Stmt) (rest : Rows) → row_globals (stmt_rows s rest) ≡ row_globals rest
  stmt_globals (simple line s) rest = refl
  stmt_globals (if_stmt line at test colon suite elifs orelse) rest = elif_globals elifs (else_rows orelse rest) ∙ else_globals orelse rest
  stmt_globals (while_stmt line at test colon suite) rest = refl
  stmt_globals (for_stmt line at t in_word e colon suite) rest = refl
  stmt_globals (try_stmt line at colon suite handlers) rest = handler_globals handlers rest
  stmt_globals (with_stmt line at e called colon suite) rest = refl
  stmt_globals (def_stmt line at name_at bytes opening names closing colon suite) rest = refl
  stmt_globals (class_stmt line at name_at bytes of colon suite) rest = refl

  elif_globals : (e : Elifs) (rest : Rows) → row_globals (elif_rows e rest) ≡ row_globals rest
  elif_globals no_elif rest = refl
  elif_globals (elif line at test colon suite more) rest = elif_globals more rest

  else_globals : (e : Else) (rest : Rows) → row_globals (else_rows e rest) ≡ row_globals rest
  else_globals no_else_part rest = refl
  else_globals (else_part line at colon suite) rest = refl

  handler_globals : (h : Handlers) (rest : Rows) → row_globals (handler_rows h rest) ≡ row_globals rest
  handler_globals (last_handler line at kind colon suite) rest = refl
  handler_globals (more_handler line at kind colon suite more) rest = handler_globals more rest

body_globals : (b : DefBody) → row_globals (def_rows b) ≡ def_globals b
body_globals end_def = refl
body_globals (stmt_in_def s rest) = stmt_globals s (def_rows rest) ∙ body_globals rest
body_globals (global_in_def line at names rest) = ap (λ gs. names_list names ++ gs) (body_globals rest)

globals_same : (s : DefSuite) → under_globals (def_suite_rows s) ≡ globals_of s
globals_same (def_line s) = refl
globals_same (def_block indent body) = body_globals body

-- ---- lists

abbrev items : SuiteTree → List StmtTree
items end_suite = []
items (more_suite s rest) = s ∷ items rest

listed : (t : SuiteTree) → suite_list (items t) ≡ t
listed end_suite = refl
listed (more_suite s rest) = ap (more_suite s) (listed rest)

last_is : (f : StmtTree → StmtTree) (ss : List StmtTree) (s : StmtTree) → last_changed f (ss ++ (s ∷ [])) ≡ ss ++ (f s ∷ [])
last_is f [] s = refl
last_is f (t ∷ []) s = refl
last_is f (t ∷ u ∷ ss) s = ap (λ r. t ∷ r) (last_is f (u ∷ ss) s)

pub end_append : (to : ℕ) (a b : List Line) → end_of to (a ++ b) ≡ end_of (end_of to a) b
end_append to [] b = refl
end_append to (line ∷ a) b = end_append line.span.to a b

abbrev branches_then : BranchesTree → BranchesTree → BranchesTree
branches_then end_branches more = more
branches_then (more_branches test suite rest) more = more_branches test suite (branches_then rest more)

no_more_branches : (b : BranchesTree) → branches_then b end_branches ≡ b
no_more_branches end_branches = refl
no_more_branches (more_branches test suite rest) = ap (more_branches test suite) (no_more_branches rest)

one_more_branch : (b : BranchesTree) (test : ExprTree) (suite : SuiteTree) (more : BranchesTree) → branches_then (branch_last b test suite) more ≡ branches_then b (more_branches test suite more)
one_more_branch end_branches test suite more = refl
one_more_branch (more_branches t s rest) test suite more = ap (more_branches t s) (one_more_branch rest test suite more)

abbrev handlers_then : HandlersTree → HandlersTree → HandlersTree
handlers_then end_handlers more = more
handlers_then (more_handlers class bound suite rest) more = more_handlers class bound suite (handlers_then rest more)

one_more_handler : (h : HandlersTree) (class : Option ExprTree) (bound : Option Bound) (suite : SuiteTree) (more : HandlersTree) → handlers_then (handler_last h class bound suite) more ≡ handlers_then h (more_handlers class bound suite more)
one_more_handler end_handlers class bound suite more = refl
one_more_handler (more_handlers c b s rest) class bound suite more = ap (more_handlers c b s) (one_more_handler rest class bound suite more)

no_more_handlers : (h : HandlersTree) → handlers_then h end_handlers ≡ h
no_more_handlers end_handlers = refl
no_more_handlers (more_handlers class bound suite rest) = ap (more_handlers class bound suite) (no_more_handlers rest)

-- ---- how the tree grows

grow_is : (n m : ℕ) (ss ts : List StmtTree) (rest : Rows) → n ≡ m → ss ≡ ts → grow n ss rest ≡ grow m ts rest
grow_is n m ss ts rest is same = ap (λ k. grow k ss rest) is ∙ ap (λ us. grow m us rest) same

-- one statement more
added : (ss : List StmtTree) (s t : StmtTree) → s ≡ t → ss ++ (s ∷ []) ≡ ss ++ (t ∷ [])
added ss s t is = ap (λ u. ss ++ (u ∷ [])) is

stmt_same_form : (n : ℕ) (at : Pos) (from to end : ℕ) (f g : FormTree) → to ≡ end → f ≡ g → one_stmt n at (record { from = from; to = to }) f ≡ one_stmt n at (record { from = from; to = end }) g
stmt_same_form n at from to end f g is same = ap (λ e. one_stmt n at (record { from = from; to = e }) f) is ∙ ap (λ h. one_stmt n at (record { from = from; to = end }) h) same

one_suite : (n : ℕ) (ss : List StmtTree) (line : Line) (suite : Suite) (rest : Rows) (at : Pos) (from : ℕ) (form : SuiteTree → FormTree)
    → below_tree (n + 1) line.span.to (behind suite) (suite_rows suite) ≡ numbered_suite (n + 1) (suite_tree line suite)
    → grow (n + (1 + behind_count (behind suite)) + under_size (suite_rows suite))
    (ss ++ (one_stmt n at (record { from = from; to = end_of line.span.to (under_lines (suite_rows suite)) }) (form (below_tree (n + 1) line.span.to (behind suite) (suite_rows suite))) ∷ [])) rest
    ≡ grow (n + (1 + size_suite (suite_tree line suite))) (ss ++ (one_stmt n at (record { from = from; to = end_of line.span.to (suite_lines suite) }) (form (numbered_suite (n + 1) (suite_tree line suite))) ∷ [])) rest
one_suite n ss line suite rest at from form inner =
    let sizes = suite_size line suite in
    grow_is _ _ _ _ rest (omega (arith, sizes)) (added ss _ _ (stmt_same_form n at from _ _ _ _ (ap (end_of line.span.to) (suite_same suite)) (ap form inner)))

mutual
  grow_stmt : (n : ℕ) (ss : List StmtTree) (s : Stmt) (rest : Rows) → grow n ss (stmt_rows s rest) ≡ grow (n + size_stmt (stmt_tree s)) (ss ++ (numbered_stmt n (stmt_tree s) ∷ [])) rest
  grow_stmt n ss (simple line s) rest =
      let one = one_size line.span.to s in
      grow_is _ _ _ _ rest (omega (arith, one)) (added ss _ _ (one_is n line.span.to s))
  grow_stmt n ss (if_stmt line at test colon suite elifs orelse) rest =
      let inner = suite_is (n + 1) line suite in
      let ends = ap (end_of line.span.to) (suite_same suite) in
      let sizes = suite_size line suite in
      let size : ℕ = size_suite (suite_tree line suite) in
      grow_is _ (n + 1 + size) _ (ss ++ (one_stmt n at.at (record { from = at.span.from; to = end_of line.span.to (suite_lines suite) }) (if_form (more_branches (expr_tree test) (numbered_suite (n + 1) (suite_tree line suite)) end_branches) no_else) ∷ []))
      (elif_rows elifs (else_rows orelse rest)) (omega (arith, sizes))
      (added ss _ _ (stmt_same_form n at.at at.span.from _ _ _ _ ends (ap (λ t. if_form (more_branches (expr_tree test) t end_branches) no_else) inner)))
      ∙ grow_elifs (n + 1 + size) n at.at at.span.from (end_of line.span.to (suite_lines suite)) (more_branches (expr_tree test) (numbered_suite (n + 1) (suite_tree line suite)) end_branches) ss elifs (else_rows orelse rest)
      ∙ grow_else (n + 1 + size + size_branches (elif_trees elifs)) n at.at at.span.from _ (more_branches (expr_tree test) (numbered_suite (n + 1) (suite_tree line suite)) (numbered_branches (n + 1 + size) (elif_trees elifs))) ss orelse rest
      ∙ grow_is _ _ _ _ rest (omega arith)
      (added ss _ _ (stmt_same_form n at.at at.span.from _ _ _ _
      (sym (end_append line.span.to (suite_lines suite) (elif_lines elifs ++ else_lines orelse) ∙ end_append (end_of line.span.to (suite_lines suite)) (elif_lines elifs) (else_lines orelse)))
      (ap (λ k. if_form (more_branches (expr_tree test) (numbered_suite (n + 1) (suite_tree line suite)) (numbered_branches (n + 1 + size) (elif_trees elifs))) (numbered_else k (else_tree orelse))) (regroup (n + 1) size (size_branches (elif_trees elifs))))))
  grow_stmt n ss (while_stmt line at test colon suite) rest = one_suite n ss line suite rest at.at at.span.from (while_form (expr_tree test)) (suite_is (n + 1) line suite)
  grow_stmt n ss (for_stmt line at t in_word e colon suite) rest = one_suite n ss line suite rest at.at at.span.from (for_form (target_tree t) (exprs_tree e)) (suite_is (n + 1) line suite)
  grow_stmt n ss (try_stmt line at colon suite handlers) rest =
      let inner = suite_is (n + 1) line suite in
      let ends = ap (end_of line.span.to) (suite_same suite) in
      let sizes = suite_size line suite in
      let size : ℕ = size_suite (suite_tree line suite) in
      grow_is _ (n + 1 + size) _ (ss ++ (one_stmt n at.at (record { from = at.span.from; to = end_of line.span.to (suite_lines suite) }) (try_form (numbered_suite (n + 1) (suite_tree line suite)) end_handlers) ∷ []))
      (handler_rows handlers rest) (omega (arith, sizes))
      (added ss _ _ (stmt_same_form n at.at at.span.from _ _ _ _ ends (ap (λ t. try_form t end_handlers) inner)))
      ∙ grow_handlers (n + 1 + size) n at.at at.span.from (end_of line.span.to (suite_lines suite)) (numbered_suite (n + 1) (suite_tree line suite)) end_handlers ss handlers rest
      ∙ grow_is _ _ _ _ rest (omega arith)
      (added ss _ _ (stmt_same_form n at.at at.span.from _ _ _ _ (sym (end_append line.span.to (suite_lines suite) (handler_lines handlers))) refl))
  grow_stmt n ss (with_stmt line at e called colon suite) rest = one_suite n ss line suite rest at.at at.span.from (with_form (expr_tree e) (naming_bound called)) (suite_is (n + 1) line suite)
  grow_stmt n ss (def_stmt line at name_at bytes opening names closing colon suite) rest =
      let inner = def_is (n + 1) line suite in
      let sizes = def_size line suite in
      grow_is _ _ _ _ rest (omega (arith, sizes))
      (added ss _ _ (stmt_same_form n at.at at.span.from _ _ _ _ (ap (end_of line.span.to) (def_same suite))
      (ap (λ t. def_form bytes (params_list names) (under_globals (def_suite_rows suite)) t) inner ∙ ap (λ gs. def_form bytes (params_list names) gs (numbered_suite (n + 1) (def_tree line suite))) (globals_same suite))))
  grow_stmt n ss (class_stmt line at name_at bytes of colon suite) rest = one_suite n ss line suite rest at.at at.span.from (class_form bytes (base_tree of)) (suite_is (n + 1) line suite)

  suite_is : (n : ℕ) (line : Line) (s : Suite) → below_tree n line.span.to (behind s) (suite_rows s) ≡ numbered_suite n (suite_tree line s)
  suite_is n line (on_line s) = ap (λ t. more_suite t end_suite) (one_is n line.span.to s)
  suite_is n line (block indent body) = ap suite_list (grow_body n [] body) ∙ listed (numbered_suite n (body_tree body))

  grow_body : (n : ℕ) (ss : List StmtTree) (b : Body) → grow n ss (body_rows b) ≡ ss ++ items (numbered_suite n (body_tree b))
  grow_body n ss (last_stmt s) = grow_stmt n ss s end_rows
  grow_body n ss (more_stmt s rest) =
      grow_stmt n ss s (body_rows rest) ∙ grow_body (n + size_stmt (stmt_tree s)) (ss ++ (numbered_stmt n (stmt_tree s) ∷ [])) rest
      ∙ append_assoc ss (numbered_stmt n (stmt_tree s) ∷ []) (items (numbered_suite (n + size_stmt (stmt_tree s)) (body_tree rest)))

  grow_elifs : (n k : ℕ) (at : Pos) (from to : ℕ) (bs : BranchesTree) (ss : List StmtTree) (e : Elifs) (rest : Rows)
      → grow n (ss ++ (one_stmt k at (record { from = from; to = to }) (if_form bs no_else) ∷ [])) (elif_rows e rest)
      ≡ grow (n + size_branches (elif_trees e)) (ss ++ (one_stmt k at (record { from = from; to = end_of to (elif_lines e) }) (if_form (branches_then bs (numbered_branches n (elif_trees e))) no_else) ∷ [])) rest
  grow_elifs n k at from to bs ss no_elif rest =
      grow_is _ _ _ _ rest (omega arith) (added ss _ _ (ap (λ b. one_stmt k at (record { from = from; to = to }) (if_form b no_else)) (sym (no_more_branches bs))))
  grow_elifs n k at from to bs ss (elif line test_at test colon suite more) rest =
      let sizes = suite_size line suite in
      let size : ℕ = size_suite (suite_tree line suite) in
      let tree : SuiteTree = numbered_suite n (suite_tree line suite) in
      grow_is _ (n + size) _ (ss ++ (one_stmt k at (record { from = from; to = end_of line.span.to (suite_lines suite) }) (if_form (branch_last bs (expr_tree test) tree) no_else) ∷ [])) (elif_rows more rest) (omega (arith, sizes))
      (last_is _ ss _ ∙ added ss _ _ (stmt_same_form k at from _ _ _ _ (ap (end_of line.span.to) (suite_same suite))
      (ap (λ t. if_form (branch_last bs (expr_tree test) t) no_else) (ap (λ m. below_tree m line.span.to (behind suite) (suite_rows suite)) (no_number n) ∙ suite_is n line suite))))
      ∙ grow_elifs (n + size) k at from (end_of line.span.to (suite_lines suite)) (branch_last bs (expr_tree test) tree) ss more rest
      ∙ grow_is _ _ _ _ rest (omega arith)
      (added ss _ _ (stmt_same_form k at from _ _ _ _ (sym (end_append line.span.to (suite_lines suite) (elif_lines more)))
      (ap (λ b. if_form b no_else) (one_more_branch bs (expr_tree test) tree (numbered_branches (n + size) (elif_trees more))))))

  grow_else : (n k : ℕ) (at : Pos) (from to : ℕ) (bs : BranchesTree) (ss : List StmtTree) (e : Else) (rest : Rows)
      → grow n (ss ++ (one_stmt k at (record { from = from; to = to }) (if_form bs no_else) ∷ [])) (else_rows e rest)
      ≡ grow (n + size_else (else_tree e)) (ss ++ (one_stmt k at (record { from = from; to = end_of to (else_lines e) }) (if_form bs (numbered_else n (else_tree e))) ∷ [])) rest
  grow_else n k at from to bs ss no_else_part rest = grow_is _ _ _ _ rest (omega arith) refl
  grow_else n k at from to bs ss (else_part line else_at colon suite) rest =
      let sizes = suite_size line suite in
      grow_is _ _ _ _ rest (omega (arith, sizes))
      (last_is _ ss _ ∙ added ss _ _ (stmt_same_form k at from _ _ _ _ (ap (end_of line.span.to) (suite_same suite))
      (ap (λ t. if_form bs (else_suite t)) (ap (λ m. below_tree m line.span.to (behind suite) (suite_rows suite)) (no_number n) ∙ suite_is n line suite))))

  grow_handlers : (n k : ℕ) (at : Pos) (from to : ℕ) (body : SuiteTree) (hs : HandlersTree) (ss : List StmtTree) (h : Handlers) (rest : Rows)
      → grow n (ss ++ (one_stmt k at (record { from = from; to = to }) (try_form body hs) ∷ [])) (handler_rows h rest)
      ≡ grow (n + size_handlers (handler_trees h)) (ss ++ (one_stmt k at (record { from = from; to = end_of to (handler_lines h) }) (try_form body (handlers_then hs (numbered_handlers n (handler_trees h)))) ∷ [])) rest
  grow_handlers n k at from to body hs ss (last_handler line except_at kind colon suite) rest =
      let sizes = suite_size line suite in
      let tree : SuiteTree = numbered_suite n (suite_tree line suite) in
      grow_is _ _ _ _ rest (omega (arith, sizes))
      (last_is _ ss _ ∙ added ss _ _ (stmt_same_form k at from _ _ _ _ (ap (end_of line.span.to) (suite_same suite))
      (ap (λ t. try_form body (handler_last hs (kind_class kind) (kind_bound kind) t)) (ap (λ m. below_tree m line.span.to (behind suite) (suite_rows suite)) (no_number n) ∙ suite_is n line suite)
      ∙ ap (try_form body) (sym (no_more_handlers _) ∙ one_more_handler hs (kind_class kind) (kind_bound kind) tree end_handlers))))
  grow_handlers n k at from to body hs ss (more_handler line except_at kind colon suite more) rest =
      let sizes = suite_size line suite in
      let size : ℕ = size_suite (suite_tree line suite) in
      let tree : SuiteTree = numbered_suite n (suite_tree line suite) in
      grow_is _ (n + size) _ (ss ++ (one_stmt k at (record { from = from; to = end_of line.span.to (suite_lines suite) }) (try_form body (handler_last hs (kind_class kind) (kind_bound kind) tree)) ∷ [])) (handler_rows more rest) (omega (arith, sizes))
      (last_is _ ss _ ∙ added ss _ _ (stmt_same_form k at from _ _ _ _ (ap (end_of line.span.to) (suite_same suite))
      (ap (λ t. try_form body (handler_last hs (kind_class kind) (kind_bound kind) t)) (ap (λ m. below_tree m line.span.to (behind suite) (suite_rows suite)) (no_number n) ∙ suite_is n line suite))))
      ∙ grow_handlers (n + size) k at from (end_of line.span.to (suite_lines suite)) body (handler_last hs (kind_class kind) (kind_bound kind) tree) ss more rest
      ∙ grow_is _ _ _ _ rest (omega arith)
      (added ss _ _ (stmt_same_form k at from _ _ _ _ (sym (end_append line.span.to (suite_lines suite) (handler_lines more)))
      (ap (try_form body) (one_more_handler hs (kind_class kind) (kind_bound kind) tree (numbered_handlers (n + size) (handler_trees more))))))

  def_is : (n : ℕ) (line : Line) (s : DefSuite) → below_tree n line.span.to (behind_def s) (def_suite_rows s) ≡ numbered_suite n (def_tree line s)
  def_is n line (def_line s) = ap (λ t. more_suite t end_suite) (one_is n line.span.to s)
  def_is n line (def_block indent body) = ap suite_list (grow_def n [] body) ∙ listed (numbered_suite n (def_body_tree body))

  grow_def : (n : ℕ) (ss : List StmtTree) (b : DefBody) → grow n ss (def_rows b) ≡ ss ++ items (numbered_suite n (def_body_tree b))
  grow_def n ss end_def = sym (append-nil ss)
  grow_def n ss (stmt_in_def s rest) =
      grow_stmt n ss s (def_rows rest) ∙ grow_def (n + size_stmt (stmt_tree s)) (ss ++ (numbered_stmt n (stmt_tree s) ∷ [])) rest
      ∙ append_assoc ss (numbered_stmt n (stmt_tree s) ∷ []) (items (numbered_suite (n + size_stmt (stmt_tree s)) (def_body_tree rest)))
  grow_def n ss (global_in_def line at names rest) = grow_is _ n ss ss (def_rows rest) (omega arith) refl ∙ grow_def n ss rest

pub script_grown : (s : Script) → suite_list (grow 0 [] (script_rows s)) ≡ numbered_suite 0 (script_body s)
script_grown empty_script = refl
script_grown (script body) = ap suite_list (grow_body 0 [] body) ∙ listed (numbered_suite 0 (body_tree body))

pub script_size : (s : Script) → rows_size (script_rows s) ≡ size_suite (script_body s)
script_size empty_script = refl
script_size (script body) = body_size body
