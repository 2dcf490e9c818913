-- The chunks of a script have its lines.
use Rattle.std.proofs.Common.{◌≡◌, ℕ, ◌+◌, Bool, true, false, List, [], ◌∷◌, ◌++◌, drop, if◌then◌else◌, refl, ap, ◌∙◌}
use Rattle.std.specs.List.{flat_map}
use Rattle.std.proofs.lemmas.Grind.{flat_map-append}
use Rattle.py_lines.specs.declared.parts.Line.{Line}
use Rattle.py_tree.specs.Numbering.{size_suite, size_stmt, size_branches, numbered_suite}
use Rattle.py_grammar.specs.Written.{Stmt, simple, if_stmt, while_stmt, for_stmt, try_stmt, with_stmt, def_stmt, class_stmt, Suite, on_line, block, Body, last_stmt, more_stmt, Elifs, no_elif, elif, Else, no_else_part, else_part, Handlers, last_handler, more_handler, DefSuite, def_line, def_block, DefBody, end_def, stmt_in_def, global_in_def, Script, empty_script, script}
use Rattle.py_grammar.specs.StatementTrees.{stmt_tree, suite_tree, body_tree, elif_trees, def_body_tree}
use Rattle.py_grammar.specs.Layout.{stmt_lines, suite_lines, body_lines, elif_lines, else_lines, handler_lines, def_lines, def_body_lines}
use Rattle.py_grammar.specs.Grammar.{script_lines}
use Rattle.slice_text.specs.Cut.{loses_all}
use Rattle.slice_text.specs.CutScript.{before, first_line}
use Rattle.slice_text.proofs.Chunks.{Chunk, kept, passed, chunk_lines, gone_stmt, plan_head, plan_def_head, plan_stmt, plan_suite, plan_body, plan_elifs, plan_else, plan_handlers, plan_def, plan_def_body, plan_script}

abbrev lines : List Chunk → List Line
lines cs = flat_map chunk_lines cs

both : (a b : List Chunk) (x y : List Line) → lines a ≡ x → lines b ≡ y → lines (a ++ b) ≡ x ++ y
both a b x y one two = flat_map-append chunk_lines a b ∙ (ap (λ (ls : List Line). ls ++ lines b) one ∙ ap (λ (ls : List Line). x ++ ls) two)

head_line : (keep : ℕ → Bool) (n : ℕ) (line : Line) (suite : Suite) → chunk_lines (plan_head keep n line suite) ≡ line ∷ []
head_line keep n line (block inside body) = refl
head_line keep n line (on_line s) = chosen (keep n)
  where
    chosen : (b : Bool) → chunk_lines (if b then kept line else passed line (before line s)) ≡ line ∷ []
    chosen true = refl
    chosen false = refl

def_head_line : (keep : ℕ → Bool) (n : ℕ) (line : Line) (suite : DefSuite) → chunk_lines (plan_def_head keep n line suite) ≡ line ∷ []
def_head_line keep n line (def_block inside body) = refl
def_head_line keep n line (def_line s) = chosen (keep n)
  where
    chosen : (b : Bool) → chunk_lines (if b then kept line else passed line (before line s)) ≡ line ∷ []
    chosen true = refl
    chosen false = refl

behind : (c : Chunk) (cs : List Chunk) (line : Line) (x : List Line) → chunk_lines c ≡ line ∷ [] → lines cs ≡ x → lines (c ∷ cs) ≡ line ∷ x
behind c cs line x one two = ap (λ (ls : List Line). ls ++ lines cs) one ∙ ap (λ (ls : List Line). line ∷ ls) two

pub all_of : (s : Stmt) → first_line s ∷ drop 1 (stmt_lines s) ≡ stmt_lines s
all_of (simple line s) = refl
all_of (if_stmt line at test colon suite elifs orelse) = refl
all_of (while_stmt line at test colon suite) = refl
all_of (for_stmt line at t in_word e colon suite) = refl
all_of (try_stmt line at colon suite handlers) = refl
all_of (with_stmt line at e name colon suite) = refl
all_of (def_stmt line at name_at bytes opening names closing colon suite) = refl
all_of (class_stmt line at name_at bytes of colon suite) = refl

pub no_more : (x : List Line) → x ++ [] ≡ x
no_more [] = refl
no_more (line ∷ x) = ap (λ (ls : List Line). line ∷ ls) (no_more x)

either : (keep : ℕ → Bool) (filled : Bool) (n : ℕ) (s : Stmt) (b : Bool) → lines (plan_stmt keep n s) ≡ stmt_lines s → lines (if b then plan_stmt keep n s else gone_stmt filled s ∷ []) ≡ stmt_lines s
either keep filled n s true is = is
either keep filled n s false is = no_more (first_line s ∷ drop 1 (stmt_lines s)) ∙ all_of s

mutual
  pub stmt_all : (keep : ℕ → Bool) (n : ℕ) (s : Stmt) → lines (plan_stmt keep n s) ≡ stmt_lines s
  stmt_all keep n (simple line s) = refl
  stmt_all keep n (if_stmt line at test colon suite elifs orelse) =
      behind (plan_head keep (n + 1) line suite) _ line _ (head_line keep (n + 1) line suite)
      (both (plan_suite keep (n + 1) suite) (plan_elifs keep (n + 1 + size_suite (suite_tree line suite)) elifs ++ plan_else keep (n + 1 + (size_suite (suite_tree line suite) + size_branches (elif_trees elifs))) orelse)
      (suite_lines suite) (elif_lines elifs ++ else_lines orelse) (suite_all keep (n + 1) suite)
      (both (plan_elifs keep (n + 1 + size_suite (suite_tree line suite)) elifs) (plan_else keep (n + 1 + (size_suite (suite_tree line suite) + size_branches (elif_trees elifs))) orelse) (elif_lines elifs) (else_lines orelse)
      (elifs_all keep (n + 1 + size_suite (suite_tree line suite)) elifs) (else_all keep (n + 1 + (size_suite (suite_tree line suite) + size_branches (elif_trees elifs))) orelse)))
  stmt_all keep n (while_stmt line at test colon suite) = behind (plan_head keep (n + 1) line suite) (plan_suite keep (n + 1) suite) line (suite_lines suite) (head_line keep (n + 1) line suite) (suite_all keep (n + 1) suite)
  stmt_all keep n (for_stmt line at t in_word e colon suite) = behind (plan_head keep (n + 1) line suite) (plan_suite keep (n + 1) suite) line (suite_lines suite) (head_line keep (n + 1) line suite) (suite_all keep (n + 1) suite)
  stmt_all keep n (try_stmt line at colon suite handlers) =
      behind (plan_head keep (n + 1) line suite) _ line _ (head_line keep (n + 1) line suite)
      (both (plan_suite keep (n + 1) suite) (plan_handlers keep (n + 1 + size_suite (suite_tree line suite)) handlers) (suite_lines suite) (handler_lines handlers) (suite_all keep (n + 1) suite) (handlers_all keep (n + 1 + size_suite (suite_tree line suite)) handlers))
  stmt_all keep n (with_stmt line at e name colon suite) = behind (plan_head keep (n + 1) line suite) (plan_suite keep (n + 1) suite) line (suite_lines suite) (head_line keep (n + 1) line suite) (suite_all keep (n + 1) suite)
  stmt_all keep n (def_stmt line at name_at bytes opening names closing colon suite) = behind (plan_def_head keep (n + 1) line suite) (plan_def keep (n + 1) suite) line (def_lines suite) (def_head_line keep (n + 1) line suite) (def_all keep (n + 1) suite)
  stmt_all keep n (class_stmt line at name_at bytes of colon suite) = behind (plan_head keep (n + 1) line suite) (plan_suite keep (n + 1) suite) line (suite_lines suite) (head_line keep (n + 1) line suite) (suite_all keep (n + 1) suite)

  pub suite_all : (keep : ℕ → Bool) (n : ℕ) (s : Suite) → lines (plan_suite keep n s) ≡ suite_lines s
  suite_all keep n (on_line s) = refl
  suite_all keep n (block inside body) = body_all keep (loses_all keep (numbered_suite n (body_tree body))) n body

  pub body_all : (keep : ℕ → Bool) (filled : Bool) (n : ℕ) (s : Body) → lines (plan_body keep filled n s) ≡ body_lines s
  body_all keep filled n (last_stmt s) = either keep filled n s (keep n) (stmt_all keep n s)
  body_all keep filled n (more_stmt s rest) =
      both (if keep n then plan_stmt keep n s else gone_stmt filled s ∷ []) (plan_body keep false (n + size_stmt (stmt_tree s)) rest) (stmt_lines s) (body_lines rest) (either keep filled n s (keep n) (stmt_all keep n s)) (body_all keep false (n + size_stmt (stmt_tree s)) rest)

  pub elifs_all : (keep : ℕ → Bool) (n : ℕ) (s : Elifs) → lines (plan_elifs keep n s) ≡ elif_lines s
  elifs_all keep n no_elif = refl
  elifs_all keep n (elif line at test colon suite rest) =
      behind (plan_head keep n line suite) _ line _ (head_line keep n line suite)
      (both (plan_suite keep n suite) (plan_elifs keep (n + size_suite (suite_tree line suite)) rest) (suite_lines suite) (elif_lines rest) (suite_all keep n suite) (elifs_all keep (n + size_suite (suite_tree line suite)) rest))

  pub else_all : (keep : ℕ → Bool) (n : ℕ) (s : Else) → lines (plan_else keep n s) ≡ else_lines s
  else_all keep n no_else_part = refl
  else_all keep n (else_part line at colon suite) = behind (plan_head keep n line suite) (plan_suite keep n suite) line (suite_lines suite) (head_line keep n line suite) (suite_all keep n suite)

  pub handlers_all : (keep : ℕ → Bool) (n : ℕ) (s : Handlers) → lines (plan_handlers keep n s) ≡ handler_lines s
  handlers_all keep n (last_handler line at kind colon suite) = behind (plan_head keep n line suite) (plan_suite keep n suite) line (suite_lines suite) (head_line keep n line suite) (suite_all keep n suite)
  handlers_all keep n (more_handler line at kind colon suite rest) =
      behind (plan_head keep n line suite) _ line _ (head_line keep n line suite)
      (both (plan_suite keep n suite) (plan_handlers keep (n + size_suite (suite_tree line suite)) rest) (suite_lines suite) (handler_lines rest) (suite_all keep n suite) (handlers_all keep (n + size_suite (suite_tree line suite)) rest))

  pub def_all : (keep : ℕ → Bool) (n : ℕ) (s : DefSuite) → lines (plan_def keep n s) ≡ def_lines s
  def_all keep n (def_line s) = refl
  def_all keep n (def_block inside body) = def_body_all keep (loses_all keep (numbered_suite n (def_body_tree body))) n body

  pub def_body_all : (keep : ℕ → Bool) (filled : Bool) (n : ℕ) (s : DefBody) → lines (plan_def_body keep filled n s) ≡ def_body_lines s
  def_body_all keep filled n end_def = refl
  def_body_all keep filled n (stmt_in_def s rest) =
      both (if keep n then plan_stmt keep n s else gone_stmt filled s ∷ []) (plan_def_body keep false (n + size_stmt (stmt_tree s)) rest) (stmt_lines s) (def_body_lines rest) (either keep filled n s (keep n) (stmt_all keep n s)) (def_body_all keep false (n + size_stmt (stmt_tree s)) rest)
  def_body_all keep filled n (global_in_def line at names rest) = ap (λ (ls : List Line). line ∷ ls) (def_body_all keep filled n rest)

pub script_all : (keep : ℕ → Bool) (s : Script) → lines (plan_script keep s) ≡ script_lines s
script_all keep empty_script = refl
script_all keep (script body) = body_all keep false 0 body
