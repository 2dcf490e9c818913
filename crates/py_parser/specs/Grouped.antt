-- No public clause cites this file.
-- The statements that rows spell: the lines of one statement put together. No public clause speaks of it.
use Rattle.std.specs.Prelude.{[], Option, Some, None}
use Rattle.py_lines.specs.declared.parts.Line.{Line}
use Rattle.py_expressions.specs.Concrete.{Spot}
use Rattle.py_grammar.specs.Written.{Simple, pass, Kind, every_kind, Stmt, simple, if_stmt, while_stmt, for_stmt, try_stmt, with_stmt, def_stmt, class_stmt, Suite, on_line, block, Body, last_stmt, more_stmt, Elifs, no_elif, elif, Else, no_else_part, else_part, Handlers, last_handler, more_handler, DefSuite, def_line, def_block, DefBody, end_def, stmt_in_def, global_in_def, Script, empty_script, script}
use Rattle.py_grammar.specs.LineReader.{simple_head, if_head, elif_head, else_head, while_head, for_head, try_head, except_head, with_head, def_head, class_head, global_head}
use Rattle.py_parser.specs.Rows.{Rows, end_rows, row, Under, nothing, block as under}

-- what stands on some rows: parts of the statement before them, and then statements
pub record Grouped : Type 0 where
  pub elifs : Elifs
  pub orelse : Else
  pub handlers : Option Handlers
  pub rest : DefBody

abbrev pub no_spot : Spot
no_spot = record { at = record { line = 0; col = 0 }; span = record { from = 0; to = 0 } }

abbrev no_line : Line
no_line = record { indent = 0; span = record { from = 0; to = 0 }; tokens = [] }

-- stands where there is no statement, which no rows that fit have
abbrev no_body : Body
no_body = last_stmt (simple no_line (pass no_spot))

abbrev pub body_of : DefBody → Body
body_of end_def = no_body
body_of (stmt_in_def s end_def) = last_stmt s
body_of (stmt_in_def s rest) = more_stmt s (body_of rest)
body_of (global_in_def line at names rest) = body_of rest

abbrev pub handlers_of : Option Handlers → Handlers
handlers_of None = last_handler no_line no_spot every_kind no_spot (on_line (pass no_spot))
handlers_of (Some handlers) = handlers

abbrev pub one_handler : Line → Spot → Kind → Spot → Suite → Option Handlers → Handlers
one_handler line at kind colon suite None = last_handler line at kind colon suite
one_handler line at kind colon suite (Some rest) = more_handler line at kind colon suite rest

abbrev pub statements : DefBody → Grouped
statements rest = record { elifs = no_elif; orelse = no_else_part; handlers = None; rest = rest }

abbrev mutual
  pub grouped : Rows → Grouped
  grouped end_rows = statements end_def
  grouped (row line (simple_head s) below rest) = statements (stmt_in_def (simple line s) (grouped rest).rest)
  grouped (row line (if_head at test colon behind) below rest) =
      let g = grouped rest in statements (stmt_in_def (if_stmt line at test colon (suite_of behind below) g.elifs g.orelse) g.rest)
  grouped (row line (elif_head at test colon behind) below rest) =
      let g = grouped rest in record { elifs = elif line at test colon (suite_of behind below) g.elifs; orelse = g.orelse; handlers = None; rest = g.rest }
  grouped (row line (else_head at colon behind) below rest) =
      record { elifs = no_elif; orelse = else_part line at colon (suite_of behind below); handlers = None; rest = (grouped rest).rest }
  grouped (row line (while_head at test colon behind) below rest) = statements (stmt_in_def (while_stmt line at test colon (suite_of behind below)) (grouped rest).rest)
  grouped (row line (for_head at t in_word e colon behind) below rest) = statements (stmt_in_def (for_stmt line at t in_word e colon (suite_of behind below)) (grouped rest).rest)
  grouped (row line (try_head at colon behind) below rest) =
      let g = grouped rest in statements (stmt_in_def (try_stmt line at colon (suite_of behind below) (handlers_of g.handlers)) g.rest)
  grouped (row line (except_head at kind colon behind) below rest) =
      let g = grouped rest in record { elifs = no_elif; orelse = no_else_part; handlers = Some (one_handler line at kind colon (suite_of behind below) g.handlers); rest = g.rest }
  grouped (row line (with_head at e called colon behind) below rest) = statements (stmt_in_def (with_stmt line at e called colon (suite_of behind below)) (grouped rest).rest)
  grouped (row line (def_head at name_at bytes opening names closing colon behind) below rest) =
      statements (stmt_in_def (def_stmt line at name_at bytes opening names closing colon (def_suite_of behind below)) (grouped rest).rest)
  grouped (row line (class_head at name_at bytes of colon behind) below rest) = statements (stmt_in_def (class_stmt line at name_at bytes of colon (suite_of behind below)) (grouped rest).rest)
  grouped (row line (global_head at names) below rest) = statements (global_in_def line at names (grouped rest).rest)

  pub suite_of : Option Simple → Under → Suite
  suite_of (Some s) below = on_line s
  suite_of None nothing = block 0 no_body
  suite_of None (under inside rows) = block inside (body_of (grouped rows).rest)

  pub def_suite_of : Option Simple → Under → DefSuite
  def_suite_of (Some s) below = def_line s
  def_suite_of None nothing = def_block 0 end_def
  def_suite_of None (under inside rows) = def_block inside (grouped rows).rest

abbrev pub script_of : Rows → Script
script_of end_rows = empty_script
script_of (row line h below rest) = script (body_of (grouped (row line h below rest)).rest)

-- ---- the rows of a script

abbrev pub behind : Suite → Option Simple
behind (on_line s) = Some s
behind (block inside body) = None

abbrev pub behind_def : DefSuite → Option Simple
behind_def (def_line s) = Some s
behind_def (def_block inside body) = None

abbrev mutual
  -- the rows of a statement, with these behind them
  pub stmt_rows : Stmt → Rows → Rows
  stmt_rows (simple line s) rest = row line (simple_head s) nothing rest
  stmt_rows (if_stmt line at test colon suite elifs orelse) rest = row line (if_head at test colon (behind suite)) (suite_rows suite) (elif_rows elifs (else_rows orelse rest))
  stmt_rows (while_stmt line at test colon suite) rest = row line (while_head at test colon (behind suite)) (suite_rows suite) rest
  stmt_rows (for_stmt line at t in_word e colon suite) rest = row line (for_head at t in_word e colon (behind suite)) (suite_rows suite) rest
  stmt_rows (try_stmt line at colon suite handlers) rest = row line (try_head at colon (behind suite)) (suite_rows suite) (handler_rows handlers rest)
  stmt_rows (with_stmt line at e called colon suite) rest = row line (with_head at e called colon (behind suite)) (suite_rows suite) rest
  stmt_rows (def_stmt line at name_at bytes opening names closing colon suite) rest =
      row line (def_head at name_at bytes opening names closing colon (behind_def suite)) (def_suite_rows suite) rest
  stmt_rows (class_stmt line at name_at bytes of colon suite) rest = row line (class_head at name_at bytes of colon (behind suite)) (suite_rows suite) rest

  pub suite_rows : Suite → Under
  suite_rows (on_line s) = nothing
  suite_rows (block inside body) = under inside (body_rows body)

  pub body_rows : Body → Rows
  body_rows (last_stmt s) = stmt_rows s end_rows
  body_rows (more_stmt s rest) = stmt_rows s (body_rows rest)

  pub elif_rows : Elifs → Rows → Rows
  elif_rows no_elif rest = rest
  elif_rows (elif line at test colon suite more) rest = row line (elif_head at test colon (behind suite)) (suite_rows suite) (elif_rows more rest)

  pub else_rows : Else → Rows → Rows
  else_rows no_else_part rest = rest
  else_rows (else_part line at colon suite) rest = row line (else_head at colon (behind suite)) (suite_rows suite) rest

  pub handler_rows : Handlers → Rows → Rows
  handler_rows (last_handler line at kind colon suite) rest = row line (except_head at kind colon (behind suite)) (suite_rows suite) rest
  handler_rows (more_handler line at kind colon suite more) rest = row line (except_head at kind colon (behind suite)) (suite_rows suite) (handler_rows more rest)

  pub def_suite_rows : DefSuite → Under
  def_suite_rows (def_line s) = nothing
  def_suite_rows (def_block inside body) = under inside (def_rows body)

  pub def_rows : DefBody → Rows
  def_rows end_def = end_rows
  def_rows (stmt_in_def s rest) = stmt_rows s (def_rows rest)
  def_rows (global_in_def line at names rest) = row line (global_head at names) nothing (def_rows rest)

abbrev pub script_rows : Script → Rows
script_rows empty_script = end_rows
script_rows (script body) = body_rows body
