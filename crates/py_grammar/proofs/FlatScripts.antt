-- The targets of a script that is written are flat, and a deletion leaves them so.
use Rattle.std.proofs.Common.{◌≡◌, ℕ, ◌+◌, Bool, true, false, IsTrue, ◌&&◌, List, [], ◌∷◌, if◌then◌else◌, refl, ap, ◌∙◌}
use Rattle.std.proofs.lemmas.Bool.{and_parts}
use Rattle.py_lines.specs.declared.parts.Line.{Line}
use Rattle.py_lines.specs.declared.parts.Token.{Token}
use Rattle.py_tree.specs.Tree.{number_of, StmtTree, FormTree, SuiteTree, BranchesTree, ElseTree, HandlersTree, ScriptTree, one_stmt, if_form, while_form, for_form, try_form, with_form, def_form, class_form, end_suite, more_suite, end_branches, more_branches, no_else, else_suite, end_handlers, more_handlers}
use Rattle.py_tree.specs.Numbering.{size_stmt, size_suite, size_branches, numbered_stmt, numbered_form, numbered_suite, numbered_branches, numbered_else, numbered_handlers}
use Rattle.py_tree.specs.Deletion.{or_pass, kept_suite, kept_stmt, kept_form, kept_branches, kept_else, kept_handlers, deleted}
use Rattle.py_expressions.specs.Targets.{OneTarget, named, item, field, TargetRest, end_rest_target, last_target, more_target, Target, one_target, several_targets}
use Rattle.py_grammar.specs.Written.{Simple, expression, assign, augmented, del, pass, break, continue, return, return_value, raise, raise_value, assert, assert_message, import_module, Stmt, simple, if_stmt, while_stmt, for_stmt, try_stmt, with_stmt, def_stmt, class_stmt, Suite, on_line, block, Body, last_stmt, more_stmt, Elifs, no_elif, elif, Else, no_else_part, else_part, Handlers, last_handler, more_handler, DefSuite, def_line, def_block, DefBody, end_def, stmt_in_def, global_in_def, Script, empty_script, script}
use Rattle.py_grammar.specs.StatementTokens.{simple_tokens}
use Rattle.py_grammar.specs.StatementTrees.{one_target_tree, target_rest_tree, target_tree, simple_form, stmt_of_tokens, simple_tree, stmt_tree, suite_tree, body_tree, elif_trees, else_tree, handler_trees, def_tree, def_body_tree, script_body}
use Rattle.py_grammar.specs.Grammar.{InGrammar}
use Rattle.py_grammar.specs.FlatTargets.{is_one_target, are_one_each, target_is_flat, stmt_is_flat, form_is_flat, suite_is_flat, branches_are_flat, else_is_flat, handlers_are_flat, is_flat}

both : (a b : Bool) → a ≡ true → b ≡ true → (a && b) ≡ true
both a b one two = ap (λ (x : Bool). x && b) one ∙ two

same_and : (a c b d : Bool) → a ≡ c → b ≡ d → (a && b) ≡ (c && d)
same_and a c b d one two = ap (λ (x : Bool). x && b) one ∙ ap (λ (x : Bool). c && x) two

-- ---- targets

one_is : (t : OneTarget) → is_one_target (one_target_tree t) ≡ true
one_is (named at bytes) = refl
one_is (item e opening index closing) = refl
one_is (field e dot name_at bytes) = refl

one_flat : (t : OneTarget) → target_is_flat (one_target_tree t) ≡ true
one_flat (named at bytes) = refl
one_flat (item e opening index closing) = refl
one_flat (field e dot name_at bytes) = refl

rest_are : (rest : TargetRest) → are_one_each (target_rest_tree rest) ≡ true
rest_are end_rest_target = refl
rest_are (last_target t) = both (is_one_target (one_target_tree t)) true (one_is t) refl
rest_are (more_target t comma rest) = both (is_one_target (one_target_tree t)) (are_one_each (target_rest_tree rest)) (one_is t) (rest_are rest)

target_flat : (t : Target) → target_is_flat (target_tree t) ≡ true
target_flat (one_target t) = one_flat t
target_flat (several_targets t comma rest) = both (is_one_target (one_target_tree t)) (are_one_each (target_rest_tree rest)) (one_is t) (rest_are rest)

-- ---- what is written

simple_flat : (s : Simple) → form_is_flat (simple_form s) ≡ true
simple_flat (expression e) = refl
simple_flat (assign t equals e) = target_flat t
simple_flat (augmented t op at e) = one_flat t
simple_flat (del at t) = one_flat t
simple_flat (pass at) = refl
simple_flat (break at) = refl
simple_flat (continue at) = refl
simple_flat (return at) = refl
simple_flat (return_value at e) = refl
simple_flat (raise at) = refl
simple_flat (raise_value at e) = refl
simple_flat (assert at e) = refl
simple_flat (assert_message at e comma message) = refl
simple_flat (import_module at module_at bytes) = refl

of_tokens : (tokens : List Token) (to : ℕ) (form : FormTree) → stmt_is_flat (stmt_of_tokens tokens to form) ≡ form_is_flat form
of_tokens [] to form = refl
of_tokens (t ∷ ts) to form = refl

of_simple : (to : ℕ) (s : Simple) → stmt_is_flat (simple_tree to s) ≡ true
of_simple to s = of_tokens (simple_tokens s) to (simple_form s) ∙ simple_flat s

one_suite : (t : StmtTree) → stmt_is_flat t ≡ true → suite_is_flat (more_suite t end_suite) ≡ true
one_suite t is = both (stmt_is_flat t) true is refl

mutual
  stmt_flat : (s : Stmt) → stmt_is_flat (stmt_tree s) ≡ true
  stmt_flat (simple line s) = of_simple line.span.to s
  stmt_flat (if_stmt line at test colon suite elifs orelse) =
      both (suite_is_flat (suite_tree line suite) && branches_are_flat (elif_trees elifs)) (else_is_flat (else_tree orelse))
      (both (suite_is_flat (suite_tree line suite)) (branches_are_flat (elif_trees elifs)) (suite_flat line suite) (elifs_flat elifs)) (else_flat orelse)
  stmt_flat (while_stmt line at test colon suite) = suite_flat line suite
  stmt_flat (for_stmt line at t in_word e colon suite) = both (target_is_flat (target_tree t)) (suite_is_flat (suite_tree line suite)) (target_flat t) (suite_flat line suite)
  stmt_flat (try_stmt line at colon suite handlers) = both (suite_is_flat (suite_tree line suite)) (handlers_are_flat (handler_trees handlers)) (suite_flat line suite) (handlers_flat handlers)
  stmt_flat (with_stmt line at e called colon suite) = suite_flat line suite
  stmt_flat (def_stmt line at name_at bytes opening given closing colon suite) = def_flat line suite
  stmt_flat (class_stmt line at name_at bytes of colon suite) = suite_flat line suite

  suite_flat : (line : Line) (s : Suite) → suite_is_flat (suite_tree line s) ≡ true
  suite_flat line (on_line s) = one_suite (simple_tree line.span.to s) (of_simple line.span.to s)
  suite_flat line (block inside body) = body_flat body

  body_flat : (s : Body) → suite_is_flat (body_tree s) ≡ true
  body_flat (last_stmt s) = one_suite (stmt_tree s) (stmt_flat s)
  body_flat (more_stmt s rest) = both (stmt_is_flat (stmt_tree s)) (suite_is_flat (body_tree rest)) (stmt_flat s) (body_flat rest)

  elifs_flat : (s : Elifs) → branches_are_flat (elif_trees s) ≡ true
  elifs_flat no_elif = refl
  elifs_flat (elif line at test colon suite rest) = both (suite_is_flat (suite_tree line suite)) (branches_are_flat (elif_trees rest)) (suite_flat line suite) (elifs_flat rest)

  else_flat : (s : Else) → else_is_flat (else_tree s) ≡ true
  else_flat no_else_part = refl
  else_flat (else_part line at colon suite) = suite_flat line suite

  handlers_flat : (s : Handlers) → handlers_are_flat (handler_trees s) ≡ true
  handlers_flat (last_handler line at kind colon suite) = both (suite_is_flat (suite_tree line suite)) true (suite_flat line suite) refl
  handlers_flat (more_handler line at kind colon suite rest) = both (suite_is_flat (suite_tree line suite)) (handlers_are_flat (handler_trees rest)) (suite_flat line suite) (handlers_flat rest)

  def_flat : (line : Line) (s : DefSuite) → suite_is_flat (def_tree line s) ≡ true
  def_flat line (def_line s) = one_suite (simple_tree line.span.to s) (of_simple line.span.to s)
  def_flat line (def_block inside body) = def_body_flat body

  def_body_flat : (s : DefBody) → suite_is_flat (def_body_tree s) ≡ true
  def_body_flat end_def = refl
  def_body_flat (stmt_in_def s rest) = both (stmt_is_flat (stmt_tree s)) (suite_is_flat (def_body_tree rest)) (stmt_flat s) (def_body_flat rest)
  def_body_flat (global_in_def line at names rest) = def_body_flat rest

body_of_script : (s : Script) → suite_is_flat (script_body s) ≡ true
body_of_script empty_script = refl
body_of_script (script body) = body_flat body

-- ---- numbers change nothing

mutual
  suite_same : (n : ℕ) (t : SuiteTree) → suite_is_flat (numbered_suite n t) ≡ suite_is_flat t
  suite_same n end_suite = refl
  suite_same n (more_suite s rest) =
      same_and (stmt_is_flat (numbered_stmt n s)) (stmt_is_flat s) (suite_is_flat (numbered_suite (n + size_stmt s) rest)) (suite_is_flat rest) (stmt_same n s) (suite_same (n + size_stmt s) rest)

  stmt_same : (n : ℕ) (t : StmtTree) → stmt_is_flat (numbered_stmt n t) ≡ stmt_is_flat t
  stmt_same n (one_stmt number at span form) = form_same (n + 1) form

  form_same : (n : ℕ) (t : FormTree) → form_is_flat (numbered_form n t) ≡ form_is_flat t
  form_same n (if_form branches orelse) =
      same_and (branches_are_flat (numbered_branches n branches)) (branches_are_flat branches) (else_is_flat (numbered_else (n + size_branches branches) orelse)) (else_is_flat orelse)
      (branches_same n branches) (else_same (n + size_branches branches) orelse)
  form_same n (while_form test body) = suite_same n body
  form_same n (for_form target items body) = ap (λ (x : Bool). target_is_flat target && x) (suite_same n body)
  form_same n (try_form body handlers) =
      same_and (suite_is_flat (numbered_suite n body)) (suite_is_flat body) (handlers_are_flat (numbered_handlers (n + size_suite body) handlers)) (handlers_are_flat handlers)
      (suite_same n body) (handlers_same (n + size_suite body) handlers)
  form_same n (with_form value bound body) = suite_same n body
  form_same n (def_form name params globals body) = suite_same n body
  form_same n (class_form name base body) = suite_same n body
  form_same n form = refl

  branches_same : (n : ℕ) (t : BranchesTree) → branches_are_flat (numbered_branches n t) ≡ branches_are_flat t
  branches_same n end_branches = refl
  branches_same n (more_branches test body rest) =
      same_and (suite_is_flat (numbered_suite n body)) (suite_is_flat body) (branches_are_flat (numbered_branches (n + size_suite body) rest)) (branches_are_flat rest)
      (suite_same n body) (branches_same (n + size_suite body) rest)

  else_same : (n : ℕ) (t : ElseTree) → else_is_flat (numbered_else n t) ≡ else_is_flat t
  else_same n no_else = refl
  else_same n (else_suite body) = suite_same n body

  handlers_same : (n : ℕ) (t : HandlersTree) → handlers_are_flat (numbered_handlers n t) ≡ handlers_are_flat t
  handlers_same n end_handlers = refl
  handlers_same n (more_handlers kind bound body rest) =
      same_and (suite_is_flat (numbered_suite n body)) (suite_is_flat body) (handlers_are_flat (numbered_handlers (n + size_suite body) rest)) (handlers_are_flat rest)
      (suite_same n body) (handlers_same (n + size_suite body) rest)

pub script_is_flat : (lines : List Line) (tree : ScriptTree) → InGrammar lines tree → IsTrue (is_flat tree)
script_is_flat lines tree is = ap is_flat is.tree_is ∙ (suite_same 0 (script_body is.written) ∙ body_of_script is.written)

-- ---- a deletion

or_pass_flat : (body kept : SuiteTree) → suite_is_flat kept ≡ true → suite_is_flat (or_pass body kept) ≡ true
or_pass_flat end_suite end_suite is = is
or_pass_flat end_suite (more_suite s others) is = is
or_pass_flat (more_suite (one_stmt number at span form) rest) end_suite is = refl
or_pass_flat (more_suite (one_stmt number at span form) rest) (more_suite s others) is = is

chosen : (b : Bool) (s : StmtTree) (rest : SuiteTree) → stmt_is_flat s ≡ true → suite_is_flat rest ≡ true → suite_is_flat (if b then more_suite s rest else rest) ≡ true
chosen true s rest one two = both (stmt_is_flat s) (suite_is_flat rest) one two
chosen false s rest one two = two

mutual
  suite_kept : (keep : ℕ → Bool) (t : SuiteTree) → suite_is_flat t ≡ true → suite_is_flat (kept_suite keep t) ≡ true
  suite_kept keep end_suite is = refl
  suite_kept keep (more_suite s rest) is =
      let parts = and_parts (stmt_is_flat s) (suite_is_flat rest) is in
      chosen (keep (number_of s)) (kept_stmt keep s) (kept_suite keep rest) (stmt_kept keep s parts.0) (suite_kept keep rest parts.1)

  -- of a suite whose owner stays
  inner_kept : (keep : ℕ → Bool) (t : SuiteTree) → suite_is_flat t ≡ true → suite_is_flat (or_pass t (kept_suite keep t)) ≡ true
  inner_kept keep end_suite is = refl
  inner_kept keep (more_suite s rest) is =
      let parts = and_parts (stmt_is_flat s) (suite_is_flat rest) is in
      or_pass_flat (more_suite s rest) (if keep (number_of s) then more_suite (kept_stmt keep s) (kept_suite keep rest) else kept_suite keep rest)
      (chosen (keep (number_of s)) (kept_stmt keep s) (kept_suite keep rest) (stmt_kept keep s parts.0) (suite_kept keep rest parts.1))

  stmt_kept : (keep : ℕ → Bool) (t : StmtTree) → stmt_is_flat t ≡ true → stmt_is_flat (kept_stmt keep t) ≡ true
  stmt_kept keep (one_stmt number at span form) is = form_kept keep form is

  form_kept : (keep : ℕ → Bool) (t : FormTree) → form_is_flat t ≡ true → form_is_flat (kept_form keep t) ≡ true
  form_kept keep (if_form branches orelse) is =
      let parts = and_parts (branches_are_flat branches) (else_is_flat orelse) is in
      both (branches_are_flat (kept_branches keep branches)) (else_is_flat (kept_else keep orelse)) (branches_kept keep branches parts.0) (else_kept keep orelse parts.1)
  form_kept keep (while_form test body) is = inner_kept keep body is
  form_kept keep (for_form target items body) is =
      let parts = and_parts (target_is_flat target) (suite_is_flat body) is in
      both (target_is_flat target) (suite_is_flat (or_pass body (kept_suite keep body))) parts.0 (inner_kept keep body parts.1)
  form_kept keep (try_form body handlers) is =
      let parts = and_parts (suite_is_flat body) (handlers_are_flat handlers) is in
      both (suite_is_flat (or_pass body (kept_suite keep body))) (handlers_are_flat (kept_handlers keep handlers)) (inner_kept keep body parts.0) (handlers_kept keep handlers parts.1)
  form_kept keep (with_form value bound body) is = inner_kept keep body is
  form_kept keep (def_form name params globals body) is = inner_kept keep body is
  form_kept keep (class_form name base body) is = inner_kept keep body is
  form_kept keep form is = is

  branches_kept : (keep : ℕ → Bool) (t : BranchesTree) → branches_are_flat t ≡ true → branches_are_flat (kept_branches keep t) ≡ true
  branches_kept keep end_branches is = refl
  branches_kept keep (more_branches test body rest) is =
      let parts = and_parts (suite_is_flat body) (branches_are_flat rest) is in
      both (suite_is_flat (or_pass body (kept_suite keep body))) (branches_are_flat (kept_branches keep rest)) (inner_kept keep body parts.0) (branches_kept keep rest parts.1)

  else_kept : (keep : ℕ → Bool) (t : ElseTree) → else_is_flat t ≡ true → else_is_flat (kept_else keep t) ≡ true
  else_kept keep no_else is = refl
  else_kept keep (else_suite body) is = inner_kept keep body is

  handlers_kept : (keep : ℕ → Bool) (t : HandlersTree) → handlers_are_flat t ≡ true → handlers_are_flat (kept_handlers keep t) ≡ true
  handlers_kept keep end_handlers is = refl
  handlers_kept keep (more_handlers kind bound body rest) is =
      let parts = and_parts (suite_is_flat body) (handlers_are_flat rest) is in
      both (suite_is_flat (or_pass body (kept_suite keep body))) (handlers_are_flat (kept_handlers keep rest)) (inner_kept keep body parts.0) (handlers_kept keep rest parts.1)

pub deleted_is_flat : (keep : ℕ → Bool) (tree : ScriptTree) → IsTrue (is_flat tree) → IsTrue (is_flat (deleted keep tree))
deleted_is_flat keep tree is = suite_same 0 (kept_suite keep tree.body) ∙ suite_kept keep tree.body is
