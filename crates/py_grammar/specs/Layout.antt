-- The lines of statements as they are written: which they are, and that each line has its tokens and its indentation.
use Rattle.std.specs.Prelude.{◌≡◌, ℕ, ◌<◌, Bool, true, false, IsTrue, ⊤, List, [], ◌∷◌, ◌++◌, codes}
use Rattle.py_lines.specs.declared.parts.Line.{Line}
use Rattle.py_lines.specs.declared.parts.Token.{Token}
use Rattle.py_expressions.specs.Tokens.{keyword, sign, word, expr_tokens, exprs_tokens}
use Rattle.py_grammar.specs.Written.{Stmt, simple, if_stmt, while_stmt, for_stmt, try_stmt, with_stmt, def_stmt, class_stmt, Suite, on_line, block, Body, last_stmt, more_stmt, Elifs, no_elif, elif, Else, no_else_part, else_part, Handlers, last_handler, more_handler, DefSuite, def_line, def_block, DefBody, end_def, stmt_in_def, global_in_def}
use Rattle.py_grammar.specs.StatementTokens.{simple_tokens, target_tokens, names_tokens, params_tokens, naming_tokens, kind_tokens, base_tokens, suite_tokens, def_suite_tokens}

abbrev mutual
  pub stmt_lines : Stmt → List Line
  stmt_lines (simple line s) = line ∷ []
  stmt_lines (if_stmt line at test colon suite elifs orelse) = line ∷ suite_lines suite ++ (elif_lines elifs ++ else_lines orelse)
  stmt_lines (while_stmt line at test colon suite) = line ∷ suite_lines suite
  stmt_lines (for_stmt line at t in_word e colon suite) = line ∷ suite_lines suite
  stmt_lines (try_stmt line at colon suite handlers) = line ∷ suite_lines suite ++ handler_lines handlers
  stmt_lines (with_stmt line at e name colon suite) = line ∷ suite_lines suite
  stmt_lines (def_stmt line at name_at bytes opening names closing colon suite) = line ∷ def_lines suite
  stmt_lines (class_stmt line at name_at bytes of colon suite) = line ∷ suite_lines suite

  pub suite_lines : Suite → List Line
  suite_lines (on_line s) = []
  suite_lines (block inside body) = body_lines body

  pub body_lines : Body → List Line
  body_lines (last_stmt s) = stmt_lines s
  body_lines (more_stmt s rest) = stmt_lines s ++ body_lines rest

  pub elif_lines : Elifs → List Line
  elif_lines no_elif = []
  elif_lines (elif line at test colon suite rest) = line ∷ suite_lines suite ++ elif_lines rest

  pub else_lines : Else → List Line
  else_lines no_else_part = []
  else_lines (else_part line at colon suite) = line ∷ suite_lines suite

  pub handler_lines : Handlers → List Line
  handler_lines (last_handler line at kind colon suite) = line ∷ suite_lines suite
  handler_lines (more_handler line at kind colon suite rest) = line ∷ suite_lines suite ++ handler_lines rest

  pub def_lines : DefSuite → List Line
  def_lines (def_line s) = []
  def_lines (def_block inside body) = def_body_lines body

  pub def_body_lines : DefBody → List Line
  def_body_lines end_def = []
  def_body_lines (stmt_in_def s rest) = stmt_lines s ++ def_body_lines rest
  def_body_lines (global_in_def line at names rest) = line ∷ def_body_lines rest

-- the line has this indentation and these tokens
pub record IsLine (line : Line) (indent : ℕ) (tokens : List Token) : Type 0 where
  pub indent_is : line.indent ≡ indent
  pub tokens_are : line.tokens ≡ tokens

-- at least one statement stands in the suite of a `def`
abbrev pub has_stmt : DefBody → Bool
has_stmt end_def = false
has_stmt (stmt_in_def s rest) = true
has_stmt (global_in_def line at names rest) = has_stmt rest

abbrev mutual
  -- each line has the tokens that stand on it, and a block is indented more than the line before it
  pub FitsStmt : ℕ → Stmt → Type 0
  FitsStmt indent (simple line s) = IsLine line indent (simple_tokens s)
  FitsStmt indent (if_stmt line at test colon suite elifs orelse) =
      IsLine line indent (keyword (codes "if") at ++ (expr_tokens test ++ (sign (codes ":") colon ++ suite_tokens suite)))
      × FitsSuite indent suite × FitsElifs indent elifs × FitsElse indent orelse
  FitsStmt indent (while_stmt line at test colon suite) =
      IsLine line indent (keyword (codes "while") at ++ (expr_tokens test ++ (sign (codes ":") colon ++ suite_tokens suite))) × FitsSuite indent suite
  FitsStmt indent (for_stmt line at t in_word e colon suite) =
      IsLine line indent (keyword (codes "for") at ++ (target_tokens t ++ (keyword (codes "in") in_word ++ (exprs_tokens e ++ (sign (codes ":") colon ++ suite_tokens suite)))))
      × FitsSuite indent suite
  FitsStmt indent (try_stmt line at colon suite handlers) =
      IsLine line indent (keyword (codes "try") at ++ (sign (codes ":") colon ++ suite_tokens suite)) × FitsSuite indent suite × FitsHandlers indent handlers
  FitsStmt indent (with_stmt line at e name colon suite) =
      IsLine line indent (keyword (codes "with") at ++ (expr_tokens e ++ (naming_tokens name ++ (sign (codes ":") colon ++ suite_tokens suite)))) × FitsSuite indent suite
  FitsStmt indent (def_stmt line at name_at bytes opening names closing colon suite) =
      IsLine line indent (keyword (codes "def") at ++ (word bytes name_at ++ (sign (codes "(") opening ++ (params_tokens names ++ (sign (codes ")") closing ++ (sign (codes ":") colon ++ def_suite_tokens suite))))))
      × FitsDef indent suite
  FitsStmt indent (class_stmt line at name_at bytes of colon suite) =
      IsLine line indent (keyword (codes "class") at ++ (word bytes name_at ++ (base_tokens of ++ (sign (codes ":") colon ++ suite_tokens suite)))) × FitsSuite indent suite

  pub FitsSuite : ℕ → Suite → Type 0
  FitsSuite indent (on_line s) = ⊤
  FitsSuite indent (block inside body) = (indent < inside) × FitsBody inside body

  pub FitsBody : ℕ → Body → Type 0
  FitsBody indent (last_stmt s) = FitsStmt indent s
  FitsBody indent (more_stmt s rest) = FitsStmt indent s × FitsBody indent rest

  pub FitsElifs : ℕ → Elifs → Type 0
  FitsElifs indent no_elif = ⊤
  FitsElifs indent (elif line at test colon suite rest) =
      IsLine line indent (keyword (codes "elif") at ++ (expr_tokens test ++ (sign (codes ":") colon ++ suite_tokens suite))) × FitsSuite indent suite × FitsElifs indent rest

  pub FitsElse : ℕ → Else → Type 0
  FitsElse indent no_else_part = ⊤
  FitsElse indent (else_part line at colon suite) = IsLine line indent (keyword (codes "else") at ++ (sign (codes ":") colon ++ suite_tokens suite)) × FitsSuite indent suite

  pub FitsHandlers : ℕ → Handlers → Type 0
  FitsHandlers indent (last_handler line at kind colon suite) =
      IsLine line indent (keyword (codes "except") at ++ (kind_tokens kind ++ (sign (codes ":") colon ++ suite_tokens suite))) × FitsSuite indent suite
  FitsHandlers indent (more_handler line at kind colon suite rest) =
      IsLine line indent (keyword (codes "except") at ++ (kind_tokens kind ++ (sign (codes ":") colon ++ suite_tokens suite))) × FitsSuite indent suite × FitsHandlers indent rest

  pub FitsDef : ℕ → DefSuite → Type 0
  FitsDef indent (def_line s) = ⊤
  FitsDef indent (def_block inside body) = (indent < inside) × IsTrue (has_stmt body) × FitsDefBody inside body

  pub FitsDefBody : ℕ → DefBody → Type 0
  FitsDefBody indent end_def = ⊤
  FitsDefBody indent (stmt_in_def s rest) = FitsStmt indent s × FitsDefBody indent rest
  FitsDefBody indent (global_in_def line at names rest) = IsLine line indent (keyword (codes "global") at ++ names_tokens names) × FitsDefBody indent rest
