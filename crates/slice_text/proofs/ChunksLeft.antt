-- What the chunks of a script leave are the lines of the cut script.
use Rattle.std.proofs.Common.{◌≡◌, ℕ, ◌+◌, Bool, true, false, ◌||◌, not, List, [], ◌∷◌, ◌++◌, Option, None, Some, unwrap_or, if◌then◌else◌, refl, sym, ap, ◌∙◌}
use Rattle.std.specs.List.{flat_map, list_any}
use Rattle.std.proofs.lemmas.Bool.{false≢true}
use Rattle.std.proofs.lemmas.Grind.{flat_map-append}
use Rattle.py_lines.specs.declared.parts.Line.{Line}
use Rattle.py_tree.specs.Numbering.{size_suite, size_stmt, size_branches, numbered_stmt, numbered_suite}
use Rattle.py_tree.specs.Tree.{number_of}
use Rattle.py_tree.specs.Descent.{row_numbers}
use Rattle.py_grammar.specs.Written.{Stmt, simple, if_stmt, while_stmt, for_stmt, try_stmt, with_stmt, def_stmt, class_stmt, Suite, on_line, block, Body, last_stmt, more_stmt, Elifs, no_elif, elif, Else, no_else_part, else_part, Handlers, last_handler, more_handler, DefSuite, def_line, def_block, DefBody, end_def, stmt_in_def, global_in_def, Script, empty_script, script}
use Rattle.py_grammar.specs.StatementTrees.{stmt_tree, suite_tree, body_tree, elif_trees, def_body_tree}
use Rattle.py_grammar.specs.Layout.{stmt_lines, suite_lines, body_lines, elif_lines, else_lines, handler_lines, def_lines, def_body_lines}
use Rattle.py_grammar.specs.Grammar.{script_lines}
use Rattle.slice_text.specs.Cut.{loses_all}
use Rattle.slice_text.specs.CutScript.{before, pass_line, first_line, pass_stmt, with_first, in_place, in_def_place, cut_head, cut_def_head, cut_stmt, cut_suite, cut_body, cut_elifs, cut_else, cut_handlers, cut_def, cut_def_body, script_of_body, cut_script}
use Rattle.slice_text.proofs.CutFits.{number_numbered}
use Rattle.slice_text.proofs.ChunkLines.{no_more}
use Rattle.slice_text.proofs.Chunks.{Chunk, kept, passed, chunk_left, gone_stmt, plan_head, plan_def_head, plan_stmt, plan_suite, plan_body, plan_elifs, plan_else, plan_handlers, plan_def, plan_def_body, plan_script}

abbrev left : List Chunk → List Line
left cs = flat_map chunk_left cs

both : (a b : List Chunk) (x y : List Line) → left a ≡ x → left b ≡ y → left (a ++ b) ≡ x ++ y
both a b x y one two = flat_map-append chunk_left a b ∙ (ap (λ (ls : List Line). ls ++ left b) one ∙ ap (λ (ls : List Line). x ++ ls) two)

head_left : (keep : ℕ → Bool) (n : ℕ) (line : Line) (suite : Suite) → chunk_left (plan_head keep n line suite) ≡ cut_head keep n line suite ∷ []
head_left keep n line (block inside body) = refl
head_left keep n line (on_line s) = chosen (keep n)
  where
    chosen : (b : Bool) → chunk_left (if b then kept line else passed line (before line s)) ≡ (if b then line else pass_line (before line s) line) ∷ []
    chosen true = refl
    chosen false = refl

def_head_left : (keep : ℕ → Bool) (n : ℕ) (line : Line) (suite : DefSuite) → chunk_left (plan_def_head keep n line suite) ≡ cut_def_head keep n line suite ∷ []
def_head_left keep n line (def_block inside body) = refl
def_head_left keep n line (def_line s) = chosen (keep n)
  where
    chosen : (b : Bool) → chunk_left (if b then kept line else passed line (before line s)) ≡ (if b then line else pass_line (before line s) line) ∷ []
    chosen true = refl
    chosen false = refl

behind : (c : Chunk) (cs : List Chunk) (line : Line) (x : List Line) → chunk_left c ≡ line ∷ [] → left cs ≡ x → left (c ∷ cs) ≡ line ∷ x
behind c cs line x one two = ap (λ (ls : List Line). ls ++ left cs) one ∙ ap (λ (ls : List Line). line ∷ ls) two

-- ---- in a suite of a statement that stays a statement is left

abbrev is_left : Option Body → Bool
is_left None = false
is_left (Some body) = true

abbrev option_lines : Option Body → List Line
option_lines None = []
option_lines (Some body) = body_lines body

left_lines : (o : Option Body) (body : Body) → is_left o ≡ true → body_lines (unwrap_or o body) ≡ option_lines o
left_lines None body is = absurd (false≢true is)
left_lines (Some b) body is = refl

some_stays : (keep : ℕ → Bool) (n : ℕ) (body : Body) → loses_all keep (numbered_suite n (body_tree body)) ≡ false → is_left (cut_body keep false n body) ≡ true
some_stays keep n (last_stmt s) is = chosen (keep n) refl
  where
    chosen : (b : Bool) → keep n ≡ b → is_left (if b then Some (last_stmt (cut_stmt keep n s)) else None) ≡ true
    chosen true stays = refl
    chosen false goes = absurd (false≢true (sym (sym (ap (λ b. not (b || false)) (ap keep (number_numbered n (stmt_tree s)) ∙ goes)) ∙ is)))
some_stays keep n (more_stmt s rest) is = chosen (keep n) refl (some_stays keep (n + size_stmt (stmt_tree s)) rest)
  where
    chosen : (b : Bool) → keep n ≡ b → (loses_all keep (numbered_suite (n + size_stmt (stmt_tree s)) (body_tree rest)) ≡ false → is_left (cut_body keep false (n + size_stmt (stmt_tree s)) rest) ≡ true)
        → is_left (if b then Some (with_first (cut_stmt keep n s) (cut_body keep false (n + size_stmt (stmt_tree s)) rest)) else cut_body keep false (n + size_stmt (stmt_tree s)) rest) ≡ true
    chosen true stays later = refl
    chosen false goes later =
        let first : keep (number_of (numbered_stmt n (stmt_tree s))) ≡ false = ap keep (number_numbered n (stmt_tree s)) ∙ goes in
        later (sym (ap (λ b. not (b || list_any keep (row_numbers (numbered_suite (n + size_stmt (stmt_tree s)) (body_tree rest))))) first) ∙ is)

always_left : (keep : ℕ → Bool) (filled : Bool) (n : ℕ) (body : Body) → loses_all keep (numbered_suite n (body_tree body)) ≡ filled → is_left (cut_body keep filled n body) ≡ true
always_left keep false n body is = some_stays keep n body is
always_left keep true n (last_stmt s) is = chosen (keep n)
  where
    chosen : (b : Bool) → is_left (if b then Some (last_stmt (cut_stmt keep n s)) else Some (last_stmt (pass_stmt (first_line s)))) ≡ true
    chosen true = refl
    chosen false = refl
always_left keep true n (more_stmt s rest) is = chosen (keep n)
  where
    chosen : (b : Bool) → is_left (if b then Some (with_first (cut_stmt keep n s) (cut_body keep false (n + size_stmt (stmt_tree s)) rest)) else Some (with_first (pass_stmt (first_line s)) (cut_body keep false (n + size_stmt (stmt_tree s)) rest))) ≡ true
    chosen true = refl
    chosen false = refl

first_lines : (s : Stmt) (rest : Option Body) → body_lines (with_first s rest) ≡ stmt_lines s ++ option_lines rest
first_lines s None = sym (no_more (stmt_lines s))
first_lines s (Some rest) = refl

either : (keep : ℕ → Bool) (n : ℕ) (s : Stmt) (b filled : Bool) (cs : List Chunk) (rest : Option Body) → left (plan_stmt keep n s) ≡ stmt_lines (cut_stmt keep n s) → left cs ≡ option_lines rest
    → left ((if b then plan_stmt keep n s else gone_stmt filled s ∷ []) ++ cs) ≡ option_lines (if b then Some (with_first (cut_stmt keep n s) rest) else in_place filled s rest)
either keep n s true filled cs rest one two = both (plan_stmt keep n s) cs (stmt_lines (cut_stmt keep n s)) (option_lines rest) one two ∙ sym (first_lines (cut_stmt keep n s) rest)
either keep n s false true cs rest one two = ap (λ (ls : List Line). pass_line 0 (first_line s) ∷ ls) two ∙ sym (first_lines (pass_stmt (first_line s)) rest)
either keep n s false false cs rest one two = two

def_either : (keep : ℕ → Bool) (n : ℕ) (s : Stmt) (b filled : Bool) (cs : List Chunk) (rest : DefBody) → left (plan_stmt keep n s) ≡ stmt_lines (cut_stmt keep n s) → left cs ≡ def_body_lines rest
    → left ((if b then plan_stmt keep n s else gone_stmt filled s ∷ []) ++ cs) ≡ def_body_lines (if b then stmt_in_def (cut_stmt keep n s) rest else in_def_place filled s rest)
def_either keep n s true filled cs rest one two = both (plan_stmt keep n s) cs (stmt_lines (cut_stmt keep n s)) (def_body_lines rest) one two
def_either keep n s false true cs rest one two = ap (λ (ls : List Line). pass_line 0 (first_line s) ∷ ls) two
def_either keep n s false false cs rest one two = two

last_either : (keep : ℕ → Bool) (n : ℕ) (s : Stmt) (b filled : Bool) → left (plan_stmt keep n s) ≡ stmt_lines (cut_stmt keep n s)
    → left (if b then plan_stmt keep n s else gone_stmt filled s ∷ []) ≡ option_lines (if b then Some (last_stmt (cut_stmt keep n s)) else in_place filled s None)
last_either keep n s true filled one = one
last_either keep n s false true one = refl
last_either keep n s false false one = refl

mutual
  pub stmt_rest : (keep : ℕ → Bool) (n : ℕ) (s : Stmt) → left (plan_stmt keep n s) ≡ stmt_lines (cut_stmt keep n s)
  stmt_rest keep n (simple line s) = refl
  stmt_rest keep n (if_stmt line at test colon suite elifs orelse) =
      behind (plan_head keep (n + 1) line suite) (plan_suite keep (n + 1) suite ++ (plan_elifs keep (n + 1 + size_suite (suite_tree line suite)) elifs ++ plan_else keep (n + 1 + (size_suite (suite_tree line suite) + size_branches (elif_trees elifs))) orelse)) (cut_head keep (n + 1) line suite) (suite_lines (cut_suite keep (n + 1) line suite) ++ (elif_lines (cut_elifs keep (n + 1 + size_suite (suite_tree line suite)) elifs) ++ else_lines (cut_else keep (n + 1 + (size_suite (suite_tree line suite) + size_branches (elif_trees elifs))) orelse))) (head_left keep (n + 1) line suite)
      (both (plan_suite keep (n + 1) suite) (plan_elifs keep (n + 1 + size_suite (suite_tree line suite)) elifs ++ plan_else keep (n + 1 + (size_suite (suite_tree line suite) + size_branches (elif_trees elifs))) orelse)
      (suite_lines (cut_suite keep (n + 1) line suite)) (elif_lines (cut_elifs keep (n + 1 + size_suite (suite_tree line suite)) elifs) ++ else_lines (cut_else keep (n + 1 + (size_suite (suite_tree line suite) + size_branches (elif_trees elifs))) orelse)) (suite_rest keep (n + 1) line suite)
      (both (plan_elifs keep (n + 1 + size_suite (suite_tree line suite)) elifs) (plan_else keep (n + 1 + (size_suite (suite_tree line suite) + size_branches (elif_trees elifs))) orelse) (elif_lines (cut_elifs keep (n + 1 + size_suite (suite_tree line suite)) elifs)) (else_lines (cut_else keep (n + 1 + (size_suite (suite_tree line suite) + size_branches (elif_trees elifs))) orelse)) (elifs_rest keep (n + 1 + size_suite (suite_tree line suite)) elifs) (else_rest keep (n + 1 + (size_suite (suite_tree line suite) + size_branches (elif_trees elifs))) orelse)))
  stmt_rest keep n (while_stmt line at test colon suite) = behind (plan_head keep (n + 1) line suite) (plan_suite keep (n + 1) suite) (cut_head keep (n + 1) line suite) (suite_lines (cut_suite keep (n + 1) line suite)) (head_left keep (n + 1) line suite) (suite_rest keep (n + 1) line suite)
  stmt_rest keep n (for_stmt line at t in_word e colon suite) = behind (plan_head keep (n + 1) line suite) (plan_suite keep (n + 1) suite) (cut_head keep (n + 1) line suite) (suite_lines (cut_suite keep (n + 1) line suite)) (head_left keep (n + 1) line suite) (suite_rest keep (n + 1) line suite)
  stmt_rest keep n (try_stmt line at colon suite handlers) =
      behind (plan_head keep (n + 1) line suite) (plan_suite keep (n + 1) suite ++ plan_handlers keep (n + 1 + size_suite (suite_tree line suite)) handlers) (cut_head keep (n + 1) line suite) (suite_lines (cut_suite keep (n + 1) line suite) ++ handler_lines (cut_handlers keep (n + 1 + size_suite (suite_tree line suite)) handlers)) (head_left keep (n + 1) line suite)
      (both (plan_suite keep (n + 1) suite) (plan_handlers keep (n + 1 + size_suite (suite_tree line suite)) handlers) (suite_lines (cut_suite keep (n + 1) line suite)) (handler_lines (cut_handlers keep (n + 1 + size_suite (suite_tree line suite)) handlers)) (suite_rest keep (n + 1) line suite) (handlers_rest keep (n + 1 + size_suite (suite_tree line suite)) handlers))
  stmt_rest keep n (with_stmt line at e name colon suite) = behind (plan_head keep (n + 1) line suite) (plan_suite keep (n + 1) suite) (cut_head keep (n + 1) line suite) (suite_lines (cut_suite keep (n + 1) line suite)) (head_left keep (n + 1) line suite) (suite_rest keep (n + 1) line suite)
  stmt_rest keep n (def_stmt line at name_at bytes opening names closing colon suite) = behind (plan_def_head keep (n + 1) line suite) (plan_def keep (n + 1) suite) (cut_def_head keep (n + 1) line suite) (def_lines (cut_def keep (n + 1) line suite)) (def_head_left keep (n + 1) line suite) (def_rest keep (n + 1) line suite)
  stmt_rest keep n (class_stmt line at name_at bytes of colon suite) = behind (plan_head keep (n + 1) line suite) (plan_suite keep (n + 1) suite) (cut_head keep (n + 1) line suite) (suite_lines (cut_suite keep (n + 1) line suite)) (head_left keep (n + 1) line suite) (suite_rest keep (n + 1) line suite)

  pub suite_rest : (keep : ℕ → Bool) (n : ℕ) (line : Line) (s : Suite) → left (plan_suite keep n s) ≡ suite_lines (cut_suite keep n line s)
  suite_rest keep n line (on_line s) = refl
  suite_rest keep n line (block inside body) =
      let row = numbered_suite n (body_tree body) in
      body_rest keep (loses_all keep row) n body ∙ sym (left_lines (cut_body keep (loses_all keep row) n body) body (always_left keep (loses_all keep row) n body refl))

  pub body_rest : (keep : ℕ → Bool) (filled : Bool) (n : ℕ) (s : Body) → left (plan_body keep filled n s) ≡ option_lines (cut_body keep filled n s)
  body_rest keep filled n (last_stmt s) = last_either keep n s (keep n) filled (stmt_rest keep n s)
  body_rest keep filled n (more_stmt s rest) =
      either keep n s (keep n) filled (plan_body keep false (n + size_stmt (stmt_tree s)) rest) (cut_body keep false (n + size_stmt (stmt_tree s)) rest) (stmt_rest keep n s) (body_rest keep false (n + size_stmt (stmt_tree s)) rest)

  pub elifs_rest : (keep : ℕ → Bool) (n : ℕ) (s : Elifs) → left (plan_elifs keep n s) ≡ elif_lines (cut_elifs keep n s)
  elifs_rest keep n no_elif = refl
  elifs_rest keep n (elif line at test colon suite rest) =
      behind (plan_head keep n line suite) (plan_suite keep n suite ++ plan_elifs keep (n + size_suite (suite_tree line suite)) rest) (cut_head keep n line suite) (suite_lines (cut_suite keep n line suite) ++ elif_lines (cut_elifs keep (n + size_suite (suite_tree line suite)) rest)) (head_left keep n line suite)
      (both (plan_suite keep n suite) (plan_elifs keep (n + size_suite (suite_tree line suite)) rest) (suite_lines (cut_suite keep n line suite)) (elif_lines (cut_elifs keep (n + size_suite (suite_tree line suite)) rest)) (suite_rest keep n line suite) (elifs_rest keep (n + size_suite (suite_tree line suite)) rest))

  pub else_rest : (keep : ℕ → Bool) (n : ℕ) (s : Else) → left (plan_else keep n s) ≡ else_lines (cut_else keep n s)
  else_rest keep n no_else_part = refl
  else_rest keep n (else_part line at colon suite) = behind (plan_head keep n line suite) (plan_suite keep n suite) (cut_head keep n line suite) (suite_lines (cut_suite keep n line suite)) (head_left keep n line suite) (suite_rest keep n line suite)

  pub handlers_rest : (keep : ℕ → Bool) (n : ℕ) (s : Handlers) → left (plan_handlers keep n s) ≡ handler_lines (cut_handlers keep n s)
  handlers_rest keep n (last_handler line at kind colon suite) = behind (plan_head keep n line suite) (plan_suite keep n suite) (cut_head keep n line suite) (suite_lines (cut_suite keep n line suite)) (head_left keep n line suite) (suite_rest keep n line suite)
  handlers_rest keep n (more_handler line at kind colon suite rest) =
      behind (plan_head keep n line suite) (plan_suite keep n suite ++ plan_handlers keep (n + size_suite (suite_tree line suite)) rest) (cut_head keep n line suite) (suite_lines (cut_suite keep n line suite) ++ handler_lines (cut_handlers keep (n + size_suite (suite_tree line suite)) rest)) (head_left keep n line suite)
      (both (plan_suite keep n suite) (plan_handlers keep (n + size_suite (suite_tree line suite)) rest) (suite_lines (cut_suite keep n line suite)) (handler_lines (cut_handlers keep (n + size_suite (suite_tree line suite)) rest)) (suite_rest keep n line suite) (handlers_rest keep (n + size_suite (suite_tree line suite)) rest))

  pub def_rest : (keep : ℕ → Bool) (n : ℕ) (line : Line) (s : DefSuite) → left (plan_def keep n s) ≡ def_lines (cut_def keep n line s)
  def_rest keep n line (def_line s) = refl
  def_rest keep n line (def_block inside body) = def_body_rest keep (loses_all keep (numbered_suite n (def_body_tree body))) n body

  pub def_body_rest : (keep : ℕ → Bool) (filled : Bool) (n : ℕ) (s : DefBody) → left (plan_def_body keep filled n s) ≡ def_body_lines (cut_def_body keep filled n s)
  def_body_rest keep filled n end_def = refl
  def_body_rest keep filled n (stmt_in_def s rest) =
      def_either keep n s (keep n) filled (plan_def_body keep false (n + size_stmt (stmt_tree s)) rest) (cut_def_body keep false (n + size_stmt (stmt_tree s)) rest) (stmt_rest keep n s) (def_body_rest keep false (n + size_stmt (stmt_tree s)) rest)
  def_body_rest keep filled n (global_in_def line at names rest) = ap (λ (ls : List Line). line ∷ ls) (def_body_rest keep filled n rest)

option_script : (o : Option Body) → option_lines o ≡ script_lines (script_of_body o)
option_script None = refl
option_script (Some body) = refl

pub script_rest : (keep : ℕ → Bool) (s : Script) → left (plan_script keep s) ≡ script_lines (cut_script keep s)
script_rest keep empty_script = refl
script_rest keep (script body) = body_rest keep false 0 body ∙ option_script (cut_body keep false 0 body)
