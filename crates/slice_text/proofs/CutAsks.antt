-- Of what a cut leaves of a script no more is asked than of the script: it stands where that stands, and lies no deeper.
use Rattle.std.proofs.Common.{◌≡◌, ℕ, ◌+◌, Bool, true, false, ◌&&◌, ◌||◌, not, Option, None, Some, unwrap_or, if◌then◌else◌, refl, arith}
use Rattle.std.specs.Prelude.{⊤, drop}
use Rattle.std.proofs.lemmas.Bool.{and_parts}
use Rattle.py_lines.specs.declared.parts.Line.{Line}
use Rattle.py_tree.specs.Numbering.{size_suite, size_stmt, size_branches, numbered_suite}
use Rattle.py_expressions.specs.Concrete.{Spot}
use Rattle.py_grammar.specs.Written.{Simple, pass, Stmt, simple, if_stmt, while_stmt, for_stmt, try_stmt, with_stmt, def_stmt, class_stmt, Suite, on_line, block, Body, last_stmt, more_stmt, Elifs, no_elif, elif, Else, no_else_part, else_part, Handlers, last_handler, more_handler, DefSuite, def_line, def_block, DefBody, end_def, stmt_in_def, global_in_def, Script, empty_script, script}
use Rattle.py_grammar.specs.StatementTrees.{stmt_tree, suite_tree, body_tree, elif_trees, def_body_tree}
use Rattle.py_grammar.specs.WellPlaced.{Around, module_level, simple_stands, stmt_stands, body_stands}
use Rattle.slice_text.specs.Cut.{loses_all}
use Rattle.slice_text.specs.CutScript.{pass_spot, before, cut_head, cut_def_head, pass_for, first_line, pass_stmt, with_first, in_place, in_def_place, cut_stmt, cut_suite, cut_body, cut_elifs, cut_else, cut_handlers, cut_def, cut_def_body, script_of_body, cut_script}
use Rattle.slice_text.proofs.NoMore.{SimpleNoMore, StmtNoMore, SuiteNoMore, BodyNoMore, ElifsNoMore, ElseNoMore, HandlersNoMore, DefNoMore, DefBodyNoMore, ScriptNoMore, while_no_more, if_no_more, for_no_more, try_no_more, with_no_more, class_no_more, elif_no_more, else_no_more, last_no_more, handler_no_more, def_no_more, simple_no_more, on_line_no_more, block_no_more, one_no_more, more_no_more, elifs_same, else_same, def_line_no_more, def_block_no_more, end_def_same, in_def_no_more, out_of_def_no_more, global_no_more}

-- ---- `pass` stands everywhere

pass_stands : (spot : Spot) (around : Around) → simple_stands around (pass spot) ≡ true
pass_stands spot around = by around.in_class
  where
    by : (b : Bool) → ((not b || true) && true) ≡ true
    by true = refl
    by false = refl

simple_same : (s : Simple) → SimpleNoMore s s
simple_same s = record { stands = λ around is. is; alone = λ is. is; low = omega arith }

pass_no_more : (spot : Spot) (s : Simple) → SimpleNoMore (pass spot) s
pass_no_more spot s = record { stands = λ around is. pass_stands spot around; alone = λ is. refl; low = omega arith }

chosen_no_more : (b : Bool) (line : Line) (s : Simple) → SimpleNoMore (if b then s else pass_for line s) s
chosen_no_more true line s = simple_same s
chosen_no_more false line s = pass_no_more (pass_spot (drop (before line s) line.tokens)) s

pass_stmt_no_more : (line : Line) (s : Stmt) → StmtNoMore (pass_stmt line) s
pass_stmt_no_more line s = record { stands = λ around is. pass_stands (pass_spot line.tokens) around; alone = λ is. refl; low = omega arith; deep = omega arith }

-- ---- statements in a row, of which it may be that none is left

abbrev LeftNoMore : Option Body → Body → Type 0
LeftNoMore None old = ⊤
LeftNoMore (Some new) old = BodyNoMore new old

last_left : (s' s : Stmt) → StmtNoMore s' s → BodyNoMore (with_first s' None) (last_stmt s)
last_left s' s one = one_no_more s' s one

-- a statement alone, where others followed
alone_left : (s' s : Stmt) (rest : Body) → StmtNoMore s' s → BodyNoMore (last_stmt s') (more_stmt s rest)
alone_left s' s rest one = record {
  stands = λ around is. one.stands around (and_parts (stmt_stands around s) (body_stands around rest) is).0;
  low = let l = one.low in omega (arith, l);
  deep = let d = one.deep in omega (arith, d);
}

first_left : (s' s : Stmt) (left : Option Body) (rest : Body) → StmtNoMore s' s → LeftNoMore left rest → BodyNoMore (with_first s' left) (more_stmt s rest)
first_left s' s None rest one two = alone_left s' s rest one
first_left s' s (Some left) rest one two = more_no_more s' s left rest one two

-- without its first statement
later_left : (s : Stmt) (left : Option Body) (rest : Body) → LeftNoMore left rest → LeftNoMore left (more_stmt s rest)
later_left s None rest two = tt
later_left s (Some left) rest two = record {
  stands = λ around is. two.stands around (and_parts (stmt_stands around s) (body_stands around rest) is).1;
  low = let l = two.low in omega (arith, l);
  deep = let d = two.deep in omega (arith, d);
}

body_same : (body : Body) → BodyNoMore body body
body_same body = record { stands = λ around is. is; low = omega arith; deep = omega arith }

unwrapped : (left : Option Body) (body : Body) → LeftNoMore left body → BodyNoMore (unwrap_or left body) body
unwrapped None body one = body_same body
unwrapped (Some left) body one = one

row_left : (keep filled : Bool) (s' s : Stmt) (left : Option Body) (rest : Body) → StmtNoMore s' s → LeftNoMore left rest → LeftNoMore (if keep then Some (with_first s' left) else in_place filled s left) (more_stmt s rest)
row_left true filled s' s left rest one two = first_left s' s left rest one two
row_left false true s' s left rest one two = first_left (pass_stmt (first_line s)) s left rest (pass_stmt_no_more (first_line s) s) two
row_left false false s' s left rest one two = later_left s left rest two

one_left : (keep filled : Bool) (s' s : Stmt) → StmtNoMore s' s → LeftNoMore (if keep then Some (last_stmt s') else in_place filled s None) (last_stmt s)
one_left true filled s' s one = one_no_more s' s one
one_left false true s' s one = one_no_more (pass_stmt (first_line s)) s (pass_stmt_no_more (first_line s) s)
one_left false false s' s one = tt

def_row_left : (keep filled : Bool) (s' s : Stmt) (left rest : DefBody) → StmtNoMore s' s → DefBodyNoMore left rest → DefBodyNoMore (if keep then stmt_in_def s' left else in_def_place filled s left) (stmt_in_def s rest)
def_row_left true filled s' s left rest one two = in_def_no_more s' s left rest one two
def_row_left false true s' s left rest one two = in_def_no_more (pass_stmt (first_line s)) s left rest (pass_stmt_no_more (first_line s) s) two
def_row_left false false s' s left rest one two = out_of_def_no_more s left rest two

-- ---- the walk of the cut

mutual
  stmt_cut : (keep : ℕ → Bool) (n : ℕ) (s : Stmt) → StmtNoMore (cut_stmt keep n s) s
  stmt_cut keep n (simple line s) = simple_no_more line line s s (simple_same s)
  stmt_cut keep n (if_stmt line at test colon suite elifs orelse) =
      if_no_more (cut_head keep (n + 1) line suite) line at at colon colon test test (cut_suite keep (n + 1) line suite) suite (cut_elifs keep (n + 1 + size_suite (suite_tree line suite)) elifs) elifs
      (cut_else keep (n + 1 + (size_suite (suite_tree line suite) + size_branches (elif_trees elifs))) orelse) orelse (omega arith)
      (suite_cut keep (n + 1) line suite) (elifs_cut keep (n + 1 + size_suite (suite_tree line suite)) elifs) (else_cut keep (n + 1 + (size_suite (suite_tree line suite) + size_branches (elif_trees elifs))) orelse)
  stmt_cut keep n (while_stmt line at test colon suite) = while_no_more (cut_head keep (n + 1) line suite) line at at colon colon test test (cut_suite keep (n + 1) line suite) suite (omega arith) (suite_cut keep (n + 1) line suite)
  stmt_cut keep n (for_stmt line at t in_word e colon suite) = for_no_more (cut_head keep (n + 1) line suite) line at at colon colon t t in_word in_word e e (cut_suite keep (n + 1) line suite) suite (omega arith) (omega arith) (suite_cut keep (n + 1) line suite)
  stmt_cut keep n (try_stmt line at colon suite handlers) =
      try_no_more (cut_head keep (n + 1) line suite) line at at colon colon (cut_suite keep (n + 1) line suite) suite (cut_handlers keep (n + 1 + size_suite (suite_tree line suite)) handlers) handlers
      (suite_cut keep (n + 1) line suite) (handlers_cut keep (n + 1 + size_suite (suite_tree line suite)) handlers)
  stmt_cut keep n (with_stmt line at e called colon suite) = with_no_more (cut_head keep (n + 1) line suite) line at at colon colon e e called called (cut_suite keep (n + 1) line suite) suite (omega arith) (suite_cut keep (n + 1) line suite)
  stmt_cut keep n (def_stmt line at name_at bytes opening names closing colon suite) =
      def_no_more (cut_def_head keep (n + 1) line suite) line at at colon colon name_at name_at bytes opening opening closing closing names names (cut_def keep (n + 1) line suite) suite refl (def_cut keep (n + 1) line suite)
  stmt_cut keep n (class_stmt line at name_at bytes of colon suite) = class_no_more (cut_head keep (n + 1) line suite) line at at colon colon name_at name_at bytes of of (cut_suite keep (n + 1) line suite) suite (suite_cut keep (n + 1) line suite)

  suite_cut : (keep : ℕ → Bool) (n : ℕ) (line : Line) (s : Suite) → SuiteNoMore (cut_suite keep n line s) s
  suite_cut keep n line (on_line s) = on_line_no_more (if keep n then s else pass_for line s) s (chosen_no_more (keep n) line s)
  suite_cut keep n line (block inside body) =
      let left : Option Body = cut_body keep (loses_all keep (numbered_suite n (body_tree body))) n body in
      block_no_more inside (unwrap_or left body) body (unwrapped left body (body_cut keep (loses_all keep (numbered_suite n (body_tree body))) n body))

  body_cut : (keep : ℕ → Bool) (filled : Bool) (n : ℕ) (s : Body) → LeftNoMore (cut_body keep filled n s) s
  body_cut keep filled n (last_stmt s) = one_left (keep n) filled (cut_stmt keep n s) s (stmt_cut keep n s)
  body_cut keep filled n (more_stmt s rest) =
      row_left (keep n) filled (cut_stmt keep n s) s (cut_body keep false (n + size_stmt (stmt_tree s)) rest) rest (stmt_cut keep n s) (body_cut keep false (n + size_stmt (stmt_tree s)) rest)

  elifs_cut : (keep : ℕ → Bool) (n : ℕ) (s : Elifs) → ElifsNoMore (cut_elifs keep n s) s
  elifs_cut keep n no_elif = elifs_same
  elifs_cut keep n (elif line at test colon suite rest) =
      elif_no_more (cut_head keep n line suite) line at at colon colon test test (cut_suite keep n line suite) suite (cut_elifs keep (n + size_suite (suite_tree line suite)) rest) rest (omega arith) (suite_cut keep n line suite) (elifs_cut keep (n + size_suite (suite_tree line suite)) rest)

  else_cut : (keep : ℕ → Bool) (n : ℕ) (s : Else) → ElseNoMore (cut_else keep n s) s
  else_cut keep n no_else_part = else_same
  else_cut keep n (else_part line at colon suite) = else_no_more (cut_head keep n line suite) line at at colon colon (cut_suite keep n line suite) suite (suite_cut keep n line suite)

  handlers_cut : (keep : ℕ → Bool) (n : ℕ) (s : Handlers) → HandlersNoMore (cut_handlers keep n s) s
  handlers_cut keep n (last_handler line at kind colon suite) = last_no_more (cut_head keep n line suite) line at at colon colon kind kind (cut_suite keep n line suite) suite (omega arith) (suite_cut keep n line suite)
  handlers_cut keep n (more_handler line at kind colon suite rest) =
      handler_no_more (cut_head keep n line suite) line at at colon colon kind kind (cut_suite keep n line suite) suite (cut_handlers keep (n + size_suite (suite_tree line suite)) rest) rest (λ is. is) (omega arith)
      (suite_cut keep n line suite) (handlers_cut keep (n + size_suite (suite_tree line suite)) rest)

  def_cut : (keep : ℕ → Bool) (n : ℕ) (line : Line) (s : DefSuite) → DefNoMore (cut_def keep n line s) s
  def_cut keep n line (def_line s) = def_line_no_more (if keep n then s else pass_for line s) s (chosen_no_more (keep n) line s)
  def_cut keep n line (def_block inside body) =
      def_block_no_more inside (cut_def_body keep (loses_all keep (numbered_suite n (def_body_tree body))) n body) body (def_body_cut keep (loses_all keep (numbered_suite n (def_body_tree body))) n body)

  def_body_cut : (keep : ℕ → Bool) (filled : Bool) (n : ℕ) (s : DefBody) → DefBodyNoMore (cut_def_body keep filled n s) s
  def_body_cut keep filled n end_def = end_def_same
  def_body_cut keep filled n (stmt_in_def s rest) =
      def_row_left (keep n) filled (cut_stmt keep n s) s (cut_def_body keep false (n + size_stmt (stmt_tree s)) rest) rest (stmt_cut keep n s) (def_body_cut keep false (n + size_stmt (stmt_tree s)) rest)
  def_body_cut keep filled n (global_in_def line at names rest) =
      global_no_more line line at at names names (cut_def_body keep filled n rest) rest refl (def_body_cut keep filled n rest)

script_left : (left : Option Body) (body : Body) → LeftNoMore left body → ScriptNoMore (script_of_body left) (script body)
script_left None body one = record { stands = λ is. refl; low = omega arith; deep = omega arith }
script_left (Some left) body one = record { stands = one.stands module_level; low = one.low; deep = one.deep }

pub script_cut : (keep : ℕ → Bool) (s : Script) → ScriptNoMore (cut_script keep s) s
script_cut keep empty_script = record { stands = λ is. is; low = omega arith; deep = omega arith }
script_cut keep (script body) = script_left (cut_body keep false 0 body) body (body_cut keep false 0 body)
