-- A script as it is written, without the statements outside a set: what a cut leaves, with its lines as they were. The byte
-- spans are those of the uncut text.
use Rattle.std.specs.Prelude.{ℕ, ◌+◌, ◌-◌, Bool, true, false, List, [], ◌∷◌, ◌++◌, length, take, drop, codes, Option, None, Some, unwrap_or, if◌then◌else◌}
use Rattle.py_lines.specs.declared.parts.Line.{Line}
use Rattle.py_lines.specs.declared.parts.Token.{Token}
use Rattle.py_tree.specs.Numbering.{size_suite, size_stmt, size_branches, numbered_suite}
use Rattle.py_expressions.specs.Concrete.{Spot}
use Rattle.py_expressions.specs.Tokens.{keyword}
use Rattle.py_grammar.specs.Written.{Simple, pass, Stmt, simple, if_stmt, while_stmt, for_stmt, try_stmt, with_stmt, def_stmt, class_stmt, Suite, on_line, block, Body, last_stmt, more_stmt, Elifs, no_elif, elif, Else, no_else_part, else_part, Handlers, last_handler, more_handler, DefSuite, def_line, def_block, DefBody, end_def, stmt_in_def, global_in_def, Script, empty_script, script}
use Rattle.py_grammar.specs.StatementTokens.{simple_tokens}
use Rattle.py_grammar.specs.StatementTrees.{stmt_tree, suite_tree, body_tree, elif_trees, def_body_tree}
use Rattle.slice_text.specs.Cut.{loses_all}

-- ---- `pass` in a line

-- where `pass` stands when it takes the place of these tokens
abbrev pub pass_spot : List Token → Spot
pass_spot [] = record { at = record { line = 0; col = 0 }; span = record { from = 0; to = 4 } }
pass_spot (token ∷ tokens) = record { at = token.at; span = record { from = token.span.from; to = token.span.from + 4 } }

-- the line with `pass` behind so many of its tokens, in place of the others
abbrev pub pass_line : ℕ → Line → Line
pass_line n line = record { indent = line.indent; tokens = take n line.tokens ++ keyword (codes "pass") (pass_spot (drop n line.tokens)); span = line.span }

-- how many tokens of a line stand before this simple statement at its end
abbrev pub before : Line → Simple → ℕ
before line s = length line.tokens - length (simple_tokens s)

-- ---- the script that is left

-- the line that begins a suite: where that stands on the line itself and goes, it is `pass`
abbrev pub cut_head : (ℕ → Bool) → ℕ → Line → Suite → Line
cut_head keep n line (on_line s) = if keep n then line else pass_line (before line s) line
cut_head keep n line (block inside body) = line

abbrev pub cut_def_head : (ℕ → Bool) → ℕ → Line → DefSuite → Line
cut_def_head keep n line (def_line s) = if keep n then line else pass_line (before line s) line
cut_def_head keep n line (def_block inside body) = line

abbrev pub pass_for : Line → Simple → Simple
pass_for line s = pass (pass_spot (drop (before line s) line.tokens))

-- the first line of a statement
abbrev pub first_line : Stmt → Line
first_line (simple line s) = line
first_line (if_stmt line at test colon suite elifs orelse) = line
first_line (while_stmt line at test colon suite) = line
first_line (for_stmt line at t in_word e colon suite) = line
first_line (try_stmt line at colon suite handlers) = line
first_line (with_stmt line at e name colon suite) = line
first_line (def_stmt line at name_at bytes opening names closing colon suite) = line
first_line (class_stmt line at name_at bytes of colon suite) = line

-- `pass` on the first line of a statement, in its place
abbrev pub pass_stmt : Line → Stmt
pass_stmt line = simple (pass_line 0 line) (pass (pass_spot line.tokens))

-- a statement before others, or alone
abbrev pub with_first : Stmt → Option Body → Body
with_first s None = last_stmt s
with_first s (Some rest) = more_stmt s rest

-- what takes the place of a statement that goes
abbrev pub in_place : Bool → Stmt → Option Body → Option Body
in_place true s rest = Some (with_first (pass_stmt (first_line s)) rest)
in_place false s rest = rest

abbrev pub in_def_place : Bool → Stmt → DefBody → DefBody
in_def_place true s rest = stmt_in_def (pass_stmt (first_line s)) rest
in_def_place false s rest = rest

abbrev mutual
  -- A statement that stays. Its number is n.
  pub cut_stmt : (ℕ → Bool) → ℕ → Stmt → Stmt
  cut_stmt keep n (simple line s) = simple line s
  cut_stmt keep n (if_stmt line at test colon suite elifs orelse) =
      if_stmt (cut_head keep (n + 1) line suite) at test colon (cut_suite keep (n + 1) line suite) (cut_elifs keep (n + 1 + size_suite (suite_tree line suite)) elifs)
      (cut_else keep (n + 1 + (size_suite (suite_tree line suite) + size_branches (elif_trees elifs))) orelse)
  cut_stmt keep n (while_stmt line at test colon suite) = while_stmt (cut_head keep (n + 1) line suite) at test colon (cut_suite keep (n + 1) line suite)
  cut_stmt keep n (for_stmt line at t in_word e colon suite) = for_stmt (cut_head keep (n + 1) line suite) at t in_word e colon (cut_suite keep (n + 1) line suite)
  cut_stmt keep n (try_stmt line at colon suite handlers) =
      try_stmt (cut_head keep (n + 1) line suite) at colon (cut_suite keep (n + 1) line suite) (cut_handlers keep (n + 1 + size_suite (suite_tree line suite)) handlers)
  cut_stmt keep n (with_stmt line at e name colon suite) = with_stmt (cut_head keep (n + 1) line suite) at e name colon (cut_suite keep (n + 1) line suite)
  cut_stmt keep n (def_stmt line at name_at bytes opening names closing colon suite) = def_stmt (cut_def_head keep (n + 1) line suite) at name_at bytes opening names closing colon (cut_def keep (n + 1) line suite)
  cut_stmt keep n (class_stmt line at name_at bytes of colon suite) = class_stmt (cut_head keep (n + 1) line suite) at name_at bytes of colon (cut_suite keep (n + 1) line suite)

  -- the suite of a statement that stays, from statement n on, begun by this line
  pub cut_suite : (ℕ → Bool) → ℕ → Line → Suite → Suite
  cut_suite keep n line (on_line s) = on_line (if keep n then s else pass_for line s)
  cut_suite keep n line (block inside body) = block inside (unwrap_or (cut_body keep (loses_all keep (numbered_suite n (body_tree body))) n body) body)

  -- Statements in a row; it may be that none is left. `filled` says whether `pass` takes the place of the first.
  pub cut_body : (ℕ → Bool) → (filled : Bool) → ℕ → Body → Option Body
  cut_body keep filled n (last_stmt s) = if keep n then Some (last_stmt (cut_stmt keep n s)) else in_place filled s None
  cut_body keep filled n (more_stmt s rest) =
      if keep n then Some (with_first (cut_stmt keep n s) (cut_body keep false (n + size_stmt (stmt_tree s)) rest)) else in_place filled s (cut_body keep false (n + size_stmt (stmt_tree s)) rest)

  pub cut_elifs : (ℕ → Bool) → ℕ → Elifs → Elifs
  cut_elifs keep n no_elif = no_elif
  cut_elifs keep n (elif line at test colon suite rest) = elif (cut_head keep n line suite) at test colon (cut_suite keep n line suite) (cut_elifs keep (n + size_suite (suite_tree line suite)) rest)

  pub cut_else : (ℕ → Bool) → ℕ → Else → Else
  cut_else keep n no_else_part = no_else_part
  cut_else keep n (else_part line at colon suite) = else_part (cut_head keep n line suite) at colon (cut_suite keep n line suite)

  pub cut_handlers : (ℕ → Bool) → ℕ → Handlers → Handlers
  cut_handlers keep n (last_handler line at kind colon suite) = last_handler (cut_head keep n line suite) at kind colon (cut_suite keep n line suite)
  cut_handlers keep n (more_handler line at kind colon suite rest) = more_handler (cut_head keep n line suite) at kind colon (cut_suite keep n line suite) (cut_handlers keep (n + size_suite (suite_tree line suite)) rest)

  pub cut_def : (ℕ → Bool) → ℕ → Line → DefSuite → DefSuite
  cut_def keep n line (def_line s) = def_line (if keep n then s else pass_for line s)
  cut_def keep n line (def_block inside body) = def_block inside (cut_def_body keep (loses_all keep (numbered_suite n (def_body_tree body))) n body)

  -- `global` lines are no statements, and stay
  pub cut_def_body : (ℕ → Bool) → (filled : Bool) → ℕ → DefBody → DefBody
  cut_def_body keep filled n end_def = end_def
  cut_def_body keep filled n (stmt_in_def s rest) =
      if keep n then stmt_in_def (cut_stmt keep n s) (cut_def_body keep false (n + size_stmt (stmt_tree s)) rest) else in_def_place filled s (cut_def_body keep false (n + size_stmt (stmt_tree s)) rest)
  cut_def_body keep filled n (global_in_def line at names rest) = global_in_def line at names (cut_def_body keep filled n rest)

abbrev pub script_of_body : Option Body → Script
script_of_body None = empty_script
script_of_body (Some body) = script body

abbrev pub cut_script : (ℕ → Bool) → Script → Script
cut_script keep empty_script = empty_script
cut_script keep (script body) = script_of_body (cut_body keep false 0 body)
