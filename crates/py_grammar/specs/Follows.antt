-- What a statement's first line begins, and what may follow a statement. Of it public clauses cite `Below` alone.
use Rattle.std.specs.Prelude.{◌≡◌, ⊤, ◌⊎◌, ℕ, ◌<◌, ◌≤◌, Bool, true, false, ◌||◌, List, [], ◌∷◌, ◌++◌, Option, Some, None}
use Rattle.py_lines.specs.declared.parts.Line.{Line}
use Rattle.py_grammar.specs.Written.{Simple, Stmt, simple, if_stmt, while_stmt, for_stmt, try_stmt, with_stmt, def_stmt, class_stmt, Suite, on_line, block, DefSuite, def_line, def_block}
use Rattle.py_grammar.specs.Layout.{suite_lines, elif_lines, else_lines, handler_lines, def_lines}
use Rattle.py_grammar.specs.LineReader.{Head, simple_head, if_head, elif_head, else_head, while_head, for_head, try_head, except_head, with_head, def_head, class_head, head_tokens}

abbrev pub behind_of : Suite → Option Simple
behind_of (on_line s) = Some s
behind_of (block inside body) = None

abbrev pub def_behind : DefSuite → Option Simple
def_behind (def_line s) = Some s
def_behind (def_block inside body) = None

abbrev pub line_of : Stmt → Line
line_of (simple line s) = line
line_of (if_stmt line at test colon suite elifs orelse) = line
line_of (while_stmt line at test colon suite) = line
line_of (for_stmt line at t in_word e colon suite) = line
line_of (try_stmt line at colon suite handlers) = line
line_of (with_stmt line at e called colon suite) = line
line_of (def_stmt line at name_at bytes opening given closing colon suite) = line
line_of (class_stmt line at name_at bytes of colon suite) = line

abbrev pub head_of : Stmt → Head
head_of (simple line s) = simple_head s
head_of (if_stmt line at test colon suite elifs orelse) = if_head at test colon (behind_of suite)
head_of (while_stmt line at test colon suite) = while_head at test colon (behind_of suite)
head_of (for_stmt line at t in_word e colon suite) = for_head at t in_word e colon (behind_of suite)
head_of (try_stmt line at colon suite handlers) = try_head at colon (behind_of suite)
head_of (with_stmt line at e called colon suite) = with_head at e called colon (behind_of suite)
head_of (def_stmt line at name_at bytes opening given closing colon suite) = def_head at name_at bytes opening given closing colon (def_behind suite)
head_of (class_stmt line at name_at bytes of colon suite) = class_head at name_at bytes of colon (behind_of suite)

abbrev pub more_lines : Stmt → List Line
more_lines (simple line s) = []
more_lines (if_stmt line at test colon suite elifs orelse) = suite_lines suite ++ (elif_lines elifs ++ else_lines orelse)
more_lines (while_stmt line at test colon suite) = suite_lines suite
more_lines (for_stmt line at t in_word e colon suite) = suite_lines suite
more_lines (try_stmt line at colon suite handlers) = suite_lines suite ++ handler_lines handlers
more_lines (with_stmt line at e called colon suite) = suite_lines suite
more_lines (def_stmt line at name_at bytes opening given closing colon suite) = def_lines suite
more_lines (class_stmt line at name_at bytes of colon suite) = suite_lines suite

-- ---- what may follow

abbrev pub is_elif : Head → Bool
is_elif (elif_head at test colon behind) = true
is_elif h = false

abbrev pub is_else : Head → Bool
is_else (else_head at colon behind) = true
is_else h = false

abbrev pub is_except : Head → Bool
is_except (except_head at kind colon behind) = true
is_except h = false

abbrev pub goes_on : Head → Bool
goes_on h = is_elif h || (is_else h || is_except h)

-- a line that is indented less follows, or none
abbrev pub Below : ℕ → List Line → Type 0
Below d [] = ⊤
Below d (line ∷ lines) = line.indent < d

abbrev pub Low : ℕ → List Line → Type 0
Low d [] = ⊤
Low d (line ∷ lines) = line.indent ≤ d

-- a line with this indentation that does not begin such a part
pub record Begins (part : Head → Bool) (d : ℕ) (line : Line) : Type 0 where
  pub indent_is : line.indent ≡ d
  pub head : Head
  pub tokens_are : line.tokens ≡ head_tokens head
  pub no_part : part head ≡ false

-- a line that is indented less, one that begins no such part, or none
abbrev pub Without : (Head → Bool) → ℕ → List Line → Type 0
Without part d [] = ⊤
Without part d (line ∷ lines) = (line.indent < d) ⊎ Begins part d line
