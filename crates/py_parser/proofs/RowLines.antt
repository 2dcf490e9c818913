-- The rows of a script have its lines.
use Rattle.std.proofs.Common.{◌≡◌, List, ◌∷◌, ◌++◌, refl, ap, sym, ◌∙◌, append_assoc, append-nil}
use Rattle.py_lines.specs.declared.parts.Line.{Line}
use Rattle.py_grammar.specs.Written.{Stmt, simple, if_stmt, while_stmt, for_stmt, try_stmt, with_stmt, def_stmt, class_stmt, Suite, on_line, block, Body, last_stmt, more_stmt, Elifs, no_elif, elif, Else, no_else_part, else_part, Handlers, last_handler, more_handler, DefSuite, def_line, def_block, DefBody, end_def, stmt_in_def, global_in_def, Script, empty_script, script}
use Rattle.py_grammar.specs.Layout.{stmt_lines, suite_lines, body_lines, elif_lines, else_lines, handler_lines, def_lines, def_body_lines}
use Rattle.py_grammar.specs.Grammar.{script_lines}
use Rattle.py_parser.specs.Rows.{Rows, end_rows, rows_lines, under_lines}
use Rattle.py_parser.specs.Grouped.{stmt_rows, suite_rows, body_rows, elif_rows, else_rows, handler_rows, def_suite_rows, def_rows, script_rows}

-- a first line, what stands under it, and more parts
three : (line : Line) (a b c d : List Line) → d ≡ b ++ c → line ∷ a ++ d ≡ (line ∷ a ++ b) ++ c
three line a b c d is = ap (λ ls. line ∷ a ++ ls) is ∙ ap (λ ls. line ∷ ls) (sym (append_assoc a b c))

mutual
  pub stmt_same : (s : Stmt) (rest : Rows) → rows_lines (stmt_rows s rest) ≡ stmt_lines s ++ rows_lines rest
  stmt_same (simple line s) rest = refl
  stmt_same (if_stmt line at test colon suite elifs orelse) rest =
      ap (λ a. line ∷ a ++ rows_lines (elif_rows elifs (else_rows orelse rest))) (suite_same suite)
      ∙ three line (suite_lines suite) (elif_lines elifs ++ else_lines orelse) (rows_lines rest) (rows_lines (elif_rows elifs (else_rows orelse rest)))
      (elif_same elifs (else_rows orelse rest) ∙ ap (λ ls. elif_lines elifs ++ ls) (else_same orelse rest) ∙ sym (append_assoc (elif_lines elifs) (else_lines orelse) (rows_lines rest)))
  stmt_same (while_stmt line at test colon suite) rest = ap (λ a. line ∷ a ++ rows_lines rest) (suite_same suite)
  stmt_same (for_stmt line at t in_word e colon suite) rest = ap (λ a. line ∷ a ++ rows_lines rest) (suite_same suite)
  stmt_same (try_stmt line at colon suite handlers) rest =
      ap (λ a. line ∷ a ++ rows_lines (handler_rows handlers rest)) (suite_same suite)
      ∙ three line (suite_lines suite) (handler_lines handlers) (rows_lines rest) (rows_lines (handler_rows handlers rest)) (handler_same handlers rest)
  stmt_same (with_stmt line at e called colon suite) rest = ap (λ a. line ∷ a ++ rows_lines rest) (suite_same suite)
  stmt_same (def_stmt line at name_at bytes opening names closing colon suite) rest = ap (λ a. line ∷ a ++ rows_lines rest) (def_same suite)
  stmt_same (class_stmt line at name_at bytes of colon suite) rest = ap (λ a. line ∷ a ++ rows_lines rest) (suite_same suite)

  pub suite_same : (s : Suite) → under_lines (suite_rows s) ≡ suite_lines s
  suite_same (on_line s) = refl
  suite_same (block inside body) = body_same body

  pub body_same : (b : Body) → rows_lines (body_rows b) ≡ body_lines b
  body_same (last_stmt s) = stmt_same s end_rows ∙ append-nil (stmt_lines s)
  body_same (more_stmt s rest) = stmt_same s (body_rows rest) ∙ ap (λ ls. stmt_lines s ++ ls) (body_same rest)

  pub elif_same : (e : Elifs) (rest : Rows) → rows_lines (elif_rows e rest) ≡ elif_lines e ++ rows_lines rest
  elif_same no_elif rest = refl
  elif_same (elif line at test colon suite more) rest =
      ap (λ a. line ∷ a ++ rows_lines (elif_rows more rest)) (suite_same suite)
      ∙ three line (suite_lines suite) (elif_lines more) (rows_lines rest) (rows_lines (elif_rows more rest)) (elif_same more rest)

  pub else_same : (e : Else) (rest : Rows) → rows_lines (else_rows e rest) ≡ else_lines e ++ rows_lines rest
  else_same no_else_part rest = refl
  else_same (else_part line at colon suite) rest = ap (λ a. line ∷ a ++ rows_lines rest) (suite_same suite)

  pub handler_same : (h : Handlers) (rest : Rows) → rows_lines (handler_rows h rest) ≡ handler_lines h ++ rows_lines rest
  handler_same (last_handler line at kind colon suite) rest = ap (λ a. line ∷ a ++ rows_lines rest) (suite_same suite)
  handler_same (more_handler line at kind colon suite more) rest =
      ap (λ a. line ∷ a ++ rows_lines (handler_rows more rest)) (suite_same suite)
      ∙ three line (suite_lines suite) (handler_lines more) (rows_lines rest) (rows_lines (handler_rows more rest)) (handler_same more rest)

  pub def_same : (s : DefSuite) → under_lines (def_suite_rows s) ≡ def_lines s
  def_same (def_line s) = refl
  def_same (def_block inside body) = def_body_same body

  pub def_body_same : (b : DefBody) → rows_lines (def_rows b) ≡ def_body_lines b
  def_body_same end_def = refl
  def_body_same (stmt_in_def s rest) = stmt_same s (def_rows rest) ∙ ap (λ ls. stmt_lines s ++ ls) (def_body_same rest)
  def_body_same (global_in_def line at names rest) = ap (λ ls. line ∷ ls) (def_body_same rest)

pub script_same : (s : Script) → rows_lines (script_rows s) ≡ script_lines s
script_same empty_script = refl
script_same (script body) = body_same body
