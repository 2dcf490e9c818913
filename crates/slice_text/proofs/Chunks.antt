-- What becomes of the lines of a script in a cut, in order.
use Rattle.std.proofs.Common.{ℕ, ◌+◌, Bool, true, false, List, [], ◌∷◌, ◌++◌, drop, if◌then◌else◌}
use Rattle.py_lines.specs.declared.parts.Line.{Line}
use Rattle.py_tree.specs.Numbering.{size_suite, size_stmt, size_branches, numbered_suite}
use Rattle.py_grammar.specs.Written.{Stmt, simple, if_stmt, while_stmt, for_stmt, try_stmt, with_stmt, def_stmt, class_stmt, Suite, on_line, block, Body, last_stmt, more_stmt, Elifs, no_elif, elif, Else, no_else_part, else_part, Handlers, last_handler, more_handler, DefSuite, def_line, def_block, DefBody, end_def, stmt_in_def, global_in_def, Script, empty_script, script}
use Rattle.py_grammar.specs.StatementTrees.{end_of, stmt_tree, suite_tree, body_tree, elif_trees, def_body_tree}
use Rattle.py_grammar.specs.Layout.{stmt_lines}
use Rattle.slice_text.specs.declared.gaps.Gap.{Gap}
use Rattle.slice_text.specs.Cut.{loses_all}
use Rattle.slice_text.specs.CutScript.{pass_spot, pass_line, before, first_line}

-- A line that stays; one that stays up to so many tokens, with `pass` behind them; the lines of a statement that goes, with
-- or without `pass` in its place.
pub data Chunk : Type 0 where
  kept : Line → Chunk
  passed : Line → (tokens : ℕ) → Chunk
  gone : (filled : Bool) → (first : Line) → (others : List Line) → Chunk

-- its lines in the text
abbrev pub chunk_lines : Chunk → List Line
chunk_lines (kept line) = line ∷ []
chunk_lines (passed line tokens) = line ∷ []
chunk_lines (gone filled first others) = first ∷ others

-- what is left of them
abbrev pub chunk_left : Chunk → List Line
chunk_left (kept line) = line ∷ []
chunk_left (passed line tokens) = pass_line tokens line ∷ []
chunk_left (gone true first others) = pass_line 0 first ∷ []
chunk_left (gone false first others) = []

-- the gap that it makes
abbrev pub chunk_gaps : Chunk → List Gap
chunk_gaps (kept line) = []
chunk_gaps (passed line tokens) = record { span = record { from = (pass_spot (drop tokens line.tokens)).span.from; to = line.span.to }; filled = true } ∷ []
chunk_gaps (gone filled first others) = record { span = record { from = (pass_spot first.tokens).span.from; to = end_of first.span.to others }; filled = filled } ∷ []

abbrev pub gone_stmt : Bool → Stmt → Chunk
gone_stmt filled s = gone filled (first_line s) (drop 1 (stmt_lines s))

abbrev pub plan_head : (ℕ → Bool) → ℕ → Line → Suite → Chunk
plan_head keep n line (on_line s) = if keep n then kept line else passed line (before line s)
plan_head keep n line (block inside body) = kept line

abbrev pub plan_def_head : (ℕ → Bool) → ℕ → Line → DefSuite → Chunk
plan_def_head keep n line (def_line s) = if keep n then kept line else passed line (before line s)
plan_def_head keep n line (def_block inside body) = kept line

abbrev mutual
  -- a statement that stays
  pub plan_stmt : (ℕ → Bool) → ℕ → Stmt → List Chunk
  plan_stmt keep n (simple line s) = kept line ∷ []
  plan_stmt keep n (if_stmt line at test colon suite elifs orelse) =
      plan_head keep (n + 1) line suite ∷ plan_suite keep (n + 1) suite
      ++ (plan_elifs keep (n + 1 + size_suite (suite_tree line suite)) elifs ++ plan_else keep (n + 1 + (size_suite (suite_tree line suite) + size_branches (elif_trees elifs))) orelse)
  plan_stmt keep n (while_stmt line at test colon suite) = plan_head keep (n + 1) line suite ∷ plan_suite keep (n + 1) suite
  plan_stmt keep n (for_stmt line at t in_word e colon suite) = plan_head keep (n + 1) line suite ∷ plan_suite keep (n + 1) suite
  plan_stmt keep n (try_stmt line at colon suite handlers) = plan_head keep (n + 1) line suite ∷ plan_suite keep (n + 1) suite ++ plan_handlers keep (n + 1 + size_suite (suite_tree line suite)) handlers
  plan_stmt keep n (with_stmt line at e name colon suite) = plan_head keep (n + 1) line suite ∷ plan_suite keep (n + 1) suite
  plan_stmt keep n (def_stmt line at name_at bytes opening names closing colon suite) = plan_def_head keep (n + 1) line suite ∷ plan_def keep (n + 1) suite
  plan_stmt keep n (class_stmt line at name_at bytes of colon suite) = plan_head keep (n + 1) line suite ∷ plan_suite keep (n + 1) suite

  pub plan_suite : (ℕ → Bool) → ℕ → Suite → List Chunk
  plan_suite keep n (on_line s) = []
  plan_suite keep n (block inside body) = plan_body keep (loses_all keep (numbered_suite n (body_tree body))) n body

  pub plan_body : (ℕ → Bool) → (filled : Bool) → ℕ → Body → List Chunk
  plan_body keep filled n (last_stmt s) = if keep n then plan_stmt keep n s else gone_stmt filled s ∷ []
  plan_body keep filled n (more_stmt s rest) = (if keep n then plan_stmt keep n s else gone_stmt filled s ∷ []) ++ plan_body keep false (n + size_stmt (stmt_tree s)) rest

  pub plan_elifs : (ℕ → Bool) → ℕ → Elifs → List Chunk
  plan_elifs keep n no_elif = []
  plan_elifs keep n (elif line at test colon suite rest) = plan_head keep n line suite ∷ plan_suite keep n suite ++ plan_elifs keep (n + size_suite (suite_tree line suite)) rest

  pub plan_else : (ℕ → Bool) → ℕ → Else → List Chunk
  plan_else keep n no_else_part = []
  plan_else keep n (else_part line at colon suite) = plan_head keep n line suite ∷ plan_suite keep n suite

  pub plan_handlers : (ℕ → Bool) → ℕ → Handlers → List Chunk
  plan_handlers keep n (last_handler line at kind colon suite) = plan_head keep n line suite ∷ plan_suite keep n suite
  plan_handlers keep n (more_handler line at kind colon suite rest) = plan_head keep n line suite ∷ plan_suite keep n suite ++ plan_handlers keep (n + size_suite (suite_tree line suite)) rest

  pub plan_def : (ℕ → Bool) → ℕ → DefSuite → List Chunk
  plan_def keep n (def_line s) = []
  plan_def keep n (def_block inside body) = plan_def_body keep (loses_all keep (numbered_suite n (def_body_tree body))) n body

  pub plan_def_body : (ℕ → Bool) → (filled : Bool) → ℕ → DefBody → List Chunk
  plan_def_body keep filled n end_def = []
  plan_def_body keep filled n (stmt_in_def s rest) = (if keep n then plan_stmt keep n s else gone_stmt filled s ∷ []) ++ plan_def_body keep false (n + size_stmt (stmt_tree s)) rest
  plan_def_body keep filled n (global_in_def line at names rest) = kept line ∷ plan_def_body keep filled n rest

abbrev pub plan_script : (ℕ → Bool) → Script → List Chunk
plan_script keep empty_script = []
plan_script keep (script body) = plan_body keep false 0 body
