-- The bytes of a statement are among those of the statement that has it in a suite, where the tokens of lines stand in order.
use Rattle.std.proofs.Common.{◌≡◌, ℕ, ◌≤◌, Bool, true, ◌&&◌, List, [], ◌∷◌, ◌++◌, refl, ap, subst, ◌∙◌, arith}
use Rattle.std.specs.Prelude.{codes, nat_le, ⊤}
use Rattle.std.proofs.lemmas.Bool.{and_parts}
use Rattle.std.proofs.lemmas.Bool.{le-leb}
use Rattle.prov_base.specs.declared.place.Span.{Span}
use Rattle.py_lines.specs.declared.parts.Line.{Line}
use Rattle.py_lines.specs.declared.parts.Token.{Token}
use Rattle.py_tree.specs.Tree.{FormTree, SuiteTree, one_stmt, end_suite, more_suite}
use Rattle.py_tree.specs.Places.{is_inside, suite_nests, stmt_nests, form_nests, branches_nests, else_nests, handlers_nests, body_nests}
use Rattle.py_expressions.specs.Concrete.{Spot}
use Rattle.py_expressions.specs.Tokens.{keyword, sign, word, expr_tokens, exprs_tokens}
use Rattle.py_grammar.specs.Written.{Simple, expression, assign, augmented, del, pass, break, continue, return, return_value, raise, raise_value, assert, assert_message, import_module, Stmt, simple, if_stmt, while_stmt, for_stmt, try_stmt, with_stmt, def_stmt, class_stmt, Suite, on_line, block, Body, last_stmt, more_stmt, Elifs, no_elif, elif, Else, no_else_part, else_part, Handlers, last_handler, more_handler, DefSuite, def_line, def_block, DefBody, end_def, stmt_in_def, global_in_def}
use Rattle.py_grammar.specs.StatementTokens.{simple_tokens, target_tokens, params_tokens, naming_tokens, kind_tokens, base_tokens, suite_tokens, def_suite_tokens}
use Rattle.py_grammar.specs.StatementTrees.{simple_form, end_of, stmt_of_tokens, simple_tree, stmt_tree, suite_tree, body_tree, elif_trees, else_tree, handler_trees, def_tree, def_body_tree}
use Rattle.py_grammar.specs.Layout.{stmt_lines, suite_lines, body_lines, elif_lines, else_lines, handler_lines, def_lines, def_body_lines, FitsStmt, FitsSuite, FitsBody, FitsElifs, FitsElse, FitsHandlers, FitsDef, FitsDefBody}
use Rattle.py_grammar.proofs.LineFirsts.{simple_some}

-- ---- bytes in order

-- these tokens begin in order, none before the one offset, and end by the other
abbrev pub Rises : ℕ → ℕ → List Token → Type 0
Rises lo hi [] = lo ≤ hi
Rises lo hi (t ∷ ts) = (lo ≤ t.span.from) × Rises t.span.from hi ts

-- and so do lines, each ending before the next begins
abbrev pub Runs : ℕ → List Line → Type 0
Runs lo [] = ⊤
Runs lo (line ∷ lines) = Rises lo line.span.to line.tokens × Runs line.span.to lines

rises_on : (lo hi : ℕ) (ts : List Token) → Rises lo hi ts → lo ≤ hi
rises_on lo hi [] rises = rises
rises_on lo hi (t ∷ ts) rises = let first = rises.0 in let later = rises_on t.span.from hi ts rises.1 in omega (arith, first, later)

pub rises_sooner : (lo from hi : ℕ) (ts : List Token) → lo ≤ from → Rises from hi ts → Rises lo hi ts
rises_sooner lo from hi [] sooner rises = omega (arith, sooner, rises)
rises_sooner lo from hi (t ∷ ts) sooner rises = let first = rises.0 in (omega (arith, sooner, first), rises.1)

rises_behind : (lo hi : ℕ) (a b : List Token) → Rises lo hi (a ++ b) → Rises lo hi b
rises_behind lo hi [] b rises = rises
rises_behind lo hi (t ∷ a) b rises = rises_sooner lo t.span.from hi b rises.0 (rises_behind t.span.from hi a b rises.1)

end_from : (to : ℕ) (lines : List Line) → Runs to lines → to ≤ end_of to lines
end_from to [] runs = omega arith
end_from to (line ∷ lines) runs = let here = rises_on to line.span.to line.tokens runs.0 in let later = end_from line.span.to lines runs.1 in omega (arith, here, later)

end_both : (to : ℕ) (a b : List Line) → end_of to (a ++ b) ≡ end_of (end_of to a) b
end_both to [] b = refl
end_both to (line ∷ a) b = end_both line.span.to a b

runs_both : (lo : ℕ) (a b : List Line) → Runs lo (a ++ b) → Runs lo a × Runs (end_of lo a) b
runs_both lo [] b runs = (tt, runs)
runs_both lo (line ∷ a) b runs = let more = runs_both line.span.to a b runs.1 in ((runs.0, more.0), more.1)

both : (a b : Bool) → a ≡ true → b ≡ true → (a && b) ≡ true
both a b one two = ap (λ (x : Bool). x && b) one ∙ two

inside_is : (inner outer : Span) → outer.from ≤ inner.from → inner.to ≤ outer.to → is_inside inner outer ≡ true
inside_is inner outer one two = both (nat_le outer.from inner.from) (nat_le inner.to outer.to) (le-leb outer.from inner.from one) (le-leb inner.to outer.to two)

-- ---- statements

no_suites : (outer : Span) (s : Simple) → form_nests outer (simple_form s) ≡ true
no_suites outer (expression e) = refl
no_suites outer (assign t equals e) = refl
no_suites outer (augmented t op at e) = refl
no_suites outer (del at t) = refl
no_suites outer (pass at) = refl
no_suites outer (break at) = refl
no_suites outer (continue at) = refl
no_suites outer (return at) = refl
no_suites outer (return_value at e) = refl
no_suites outer (raise at) = refl
no_suites outer (raise_value at e) = refl
no_suites outer (assert at e) = refl
no_suites outer (assert_message at e comma message) = refl
no_suites outer (import_module at module_at bytes) = refl

leaf_nested : (outer : Span) (lo to : ℕ) (tokens : List Token) (form : FormTree) → (tokens ≡ [] → ⊥) → Rises lo to tokens → outer.from ≤ lo → to ≤ outer.to → ((inner : Span) → form_nests inner form ≡ true) → stmt_nests outer (stmt_of_tokens tokens to form) ≡ true
leaf_nested outer lo to [] form some rises front back none = absurd (some refl)
leaf_nested outer lo to (t ∷ ts) form some rises front back none =
    let first = rises.0 in
    let span : Span = record { from = t.span.from; to = to } in
    both (is_inside span outer) (form_nests span form) (inside_is span outer (omega (arith, front, first)) back) (none span)

simple_nested : (outer : Span) (lo to : ℕ) (s : Simple) → Rises lo to (simple_tokens s) → outer.from ≤ lo → to ≤ outer.to → stmt_nests outer (simple_tree to s) ≡ true
simple_nested outer lo to s rises front back = leaf_nested outer lo to (simple_tokens s) (simple_form s) (simple_some s) rises front back (λ inner. no_suites inner s)

alone_nested : (outer : Span) (lo to : ℕ) (s : Simple) → Rises lo to (simple_tokens s) → outer.from ≤ lo → to ≤ outer.to → suite_nests outer (more_suite (simple_tree to s) end_suite) ≡ true
alone_nested outer lo to s rises front back = both (stmt_nests outer (simple_tree to s)) true (simple_nested outer lo to s rises front back) refl

-- the line that begins this, and the tokens behind its first one
line_rises : (lo hi : ℕ) (tokens others : List Token) → tokens ≡ others → Rises lo hi tokens → Rises lo hi others
line_rises lo hi tokens others same rises = subst (λ (ts : List Token). Rises lo hi ts) same rises

behind_2 : (lo hi : ℕ) (a b s : List Token) → Rises lo hi (a ++ (b ++ s)) → Rises lo hi s
behind_2 lo hi a b s rises = rises_behind lo hi b s (rises_behind lo hi a (b ++ s) rises)

behind_3 : (lo hi : ℕ) (a b c s : List Token) → Rises lo hi (a ++ (b ++ (c ++ s))) → Rises lo hi s
behind_3 lo hi a b c s rises = behind_2 lo hi b c s (rises_behind lo hi a (b ++ (c ++ s)) rises)

behind_4 : (lo hi : ℕ) (a b c d s : List Token) → Rises lo hi (a ++ (b ++ (c ++ (d ++ s)))) → Rises lo hi s
behind_4 lo hi a b c d s rises = behind_2 lo hi c d s (behind_2 lo hi a b (c ++ (d ++ s)) rises)

behind_5 : (lo hi : ℕ) (a b c d e s : List Token) → Rises lo hi (a ++ (b ++ (c ++ (d ++ (e ++ s))))) → Rises lo hi s
behind_5 lo hi a b c d e s rises = behind_3 lo hi c d e s (behind_2 lo hi a b (c ++ (d ++ (e ++ s))) rises)

-- a compound statement, from what nests in its own bytes
whole_nested : (outer : Span) (lo : ℕ) (at : Spot) (to : ℕ) (nests : Bool) → outer.from ≤ lo → lo ≤ at.span.from → to ≤ outer.to → nests ≡ true → (is_inside (record { from = at.span.from; to = to }) outer && nests) ≡ true
whole_nested outer lo at to nests front first back is =
    both (is_inside (record { from = at.span.from; to = to }) outer) nests (inside_is (record { from = at.span.from; to = to }) outer (omega (arith, front, first)) back) is

mutual
  stmt_nested : (outer : Span) (indent lo : ℕ) (s : Stmt) → FitsStmt indent s → Runs lo (stmt_lines s) → outer.from ≤ lo → end_of lo (stmt_lines s) ≤ outer.to → stmt_nests outer (stmt_tree s) ≡ true
  stmt_nested outer indent lo (simple line s) fits runs front back = simple_nested outer lo line.span.to s (line_rises lo line.span.to line.tokens (simple_tokens s) fits.tokens_are runs.0) front back
  stmt_nested outer indent lo (if_stmt line at test colon suite elifs orelse) fits runs front back =
      let rises = line_rises lo line.span.to line.tokens (keyword (codes "if") at ++ (expr_tokens test ++ (sign (codes ":") colon ++ suite_tokens suite))) fits.0.tokens_are runs.0 in
      let parts = runs_both line.span.to (suite_lines suite) (elif_lines elifs ++ else_lines orelse) runs.1 in
      let others = runs_both (end_of line.span.to (suite_lines suite)) (elif_lines elifs) (else_lines orelse) parts.1 in
      let to : ℕ = end_of line.span.to (suite_lines suite ++ (elif_lines elifs ++ else_lines orelse)) in
      let span : Span = record { from = at.span.from; to = to } in
      let e1 = end_both line.span.to (suite_lines suite) (elif_lines elifs ++ else_lines orelse) in
      let e2 = end_both (end_of line.span.to (suite_lines suite)) (elif_lines elifs) (else_lines orelse) in
      let f0 = end_from line.span.to (suite_lines suite) parts.0 in
      let f1 = end_from (end_of line.span.to (suite_lines suite)) (elif_lines elifs) others.0 in
      let f2 = end_from (end_of (end_of line.span.to (suite_lines suite)) (elif_lines elifs)) (else_lines orelse) others.1 in
      let on = rises_on at.span.from line.span.to (expr_tokens test ++ (sign (codes ":") colon ++ suite_tokens suite)) rises.1 in
      whole_nested outer lo at to (suite_nests span (suite_tree line suite) && branches_nests span (elif_trees elifs) && else_nests span (else_tree orelse)) front rises.0 back
      (both (suite_nests span (suite_tree line suite) && branches_nests span (elif_trees elifs)) (else_nests span (else_tree orelse))
      (both (suite_nests span (suite_tree line suite)) (branches_nests span (elif_trees elifs))
      (suite_nested span indent at.span.from line suite fits.1 (behind_2 at.span.from line.span.to (expr_tokens test) (sign (codes ":") colon) (suite_tokens suite) rises.1) parts.0 (omega arith) (omega (arith, e1, e2, f1, f2)))
      (elifs_nested span indent (end_of line.span.to (suite_lines suite)) elifs fits.2 others.0 (omega (arith, on, f0)) (omega (arith, e1, e2, f2))))
      (else_nested span indent (end_of (end_of line.span.to (suite_lines suite)) (elif_lines elifs)) orelse fits.3 others.1 (omega (arith, on, f0, f1)) (omega (arith, e1, e2))))
  stmt_nested outer indent lo (while_stmt line at test colon suite) fits runs front back =
      let rises = line_rises lo line.span.to line.tokens (keyword (codes "while") at ++ (expr_tokens test ++ (sign (codes ":") colon ++ suite_tokens suite))) fits.0.tokens_are runs.0 in
      let span : Span = record { from = at.span.from; to = end_of line.span.to (suite_lines suite) } in
      whole_nested outer lo at (end_of line.span.to (suite_lines suite)) (suite_nests span (suite_tree line suite)) front rises.0 back
      (suite_nested span indent at.span.from line suite fits.1 (behind_2 at.span.from line.span.to (expr_tokens test) (sign (codes ":") colon) (suite_tokens suite) rises.1) runs.1 (omega arith) (omega arith))
  stmt_nested outer indent lo (for_stmt line at t in_word e colon suite) fits runs front back =
      let rises = line_rises lo line.span.to line.tokens (keyword (codes "for") at ++ (target_tokens t ++ (keyword (codes "in") in_word ++ (exprs_tokens e ++ (sign (codes ":") colon ++ suite_tokens suite))))) fits.0.tokens_are runs.0 in
      let span : Span = record { from = at.span.from; to = end_of line.span.to (suite_lines suite) } in
      whole_nested outer lo at (end_of line.span.to (suite_lines suite)) (suite_nests span (suite_tree line suite)) front rises.0 back
      (suite_nested span indent at.span.from line suite fits.1 (behind_4 at.span.from line.span.to (target_tokens t) (keyword (codes "in") in_word) (exprs_tokens e) (sign (codes ":") colon) (suite_tokens suite) rises.1) runs.1 (omega arith) (omega arith))
  stmt_nested outer indent lo (try_stmt line at colon suite handlers) fits runs front back =
      let rises = line_rises lo line.span.to line.tokens (keyword (codes "try") at ++ (sign (codes ":") colon ++ suite_tokens suite)) fits.0.tokens_are runs.0 in
      let parts = runs_both line.span.to (suite_lines suite) (handler_lines handlers) runs.1 in
      let to : ℕ = end_of line.span.to (suite_lines suite ++ handler_lines handlers) in
      let span : Span = record { from = at.span.from; to = to } in
      let e1 = end_both line.span.to (suite_lines suite) (handler_lines handlers) in
      let f0 = end_from line.span.to (suite_lines suite) parts.0 in
      let f1 = end_from (end_of line.span.to (suite_lines suite)) (handler_lines handlers) parts.1 in
      let on = rises_on at.span.from line.span.to (sign (codes ":") colon ++ suite_tokens suite) rises.1 in
      whole_nested outer lo at to (suite_nests span (suite_tree line suite) && handlers_nests span (handler_trees handlers)) front rises.0 back
      (both (suite_nests span (suite_tree line suite)) (handlers_nests span (handler_trees handlers))
      (suite_nested span indent at.span.from line suite fits.1 (rises_behind at.span.from line.span.to (sign (codes ":") colon) (suite_tokens suite) rises.1) parts.0 (omega arith) (omega (arith, e1, f1)))
      (handlers_nested span indent (end_of line.span.to (suite_lines suite)) handlers fits.2 parts.1 (omega (arith, on, f0)) (omega (arith, e1))))
  stmt_nested outer indent lo (with_stmt line at e called colon suite) fits runs front back =
      let rises = line_rises lo line.span.to line.tokens (keyword (codes "with") at ++ (expr_tokens e ++ (naming_tokens called ++ (sign (codes ":") colon ++ suite_tokens suite)))) fits.0.tokens_are runs.0 in
      let span : Span = record { from = at.span.from; to = end_of line.span.to (suite_lines suite) } in
      whole_nested outer lo at (end_of line.span.to (suite_lines suite)) (suite_nests span (suite_tree line suite)) front rises.0 back
      (suite_nested span indent at.span.from line suite fits.1 (behind_3 at.span.from line.span.to (expr_tokens e) (naming_tokens called) (sign (codes ":") colon) (suite_tokens suite) rises.1) runs.1 (omega arith) (omega arith))
  stmt_nested outer indent lo (def_stmt line at name_at bytes opening given closing colon suite) fits runs front back =
      let rises = line_rises lo line.span.to line.tokens (keyword (codes "def") at ++ (word bytes name_at ++ (sign (codes "(") opening ++ (params_tokens given ++ (sign (codes ")") closing ++ (sign (codes ":") colon ++ def_suite_tokens suite)))))) fits.0.tokens_are runs.0 in
      let span : Span = record { from = at.span.from; to = end_of line.span.to (def_lines suite) } in
      whole_nested outer lo at (end_of line.span.to (def_lines suite)) (suite_nests span (def_tree line suite)) front rises.0 back
      (def_nested span indent at.span.from line suite fits.1 (behind_5 at.span.from line.span.to (word bytes name_at) (sign (codes "(") opening) (params_tokens given) (sign (codes ")") closing) (sign (codes ":") colon) (def_suite_tokens suite) rises.1) runs.1 (omega arith) (omega arith))
  stmt_nested outer indent lo (class_stmt line at name_at bytes of colon suite) fits runs front back =
      let rises = line_rises lo line.span.to line.tokens (keyword (codes "class") at ++ (word bytes name_at ++ (base_tokens of ++ (sign (codes ":") colon ++ suite_tokens suite)))) fits.0.tokens_are runs.0 in
      let span : Span = record { from = at.span.from; to = end_of line.span.to (suite_lines suite) } in
      whole_nested outer lo at (end_of line.span.to (suite_lines suite)) (suite_nests span (suite_tree line suite)) front rises.0 back
      (suite_nested span indent at.span.from line suite fits.1 (behind_3 at.span.from line.span.to (word bytes name_at) (base_tokens of) (sign (codes ":") colon) (suite_tokens suite) rises.1) runs.1 (omega arith) (omega arith))

  suite_nested : (outer : Span) (indent lo : ℕ) (line : Line) (s : Suite) → FitsSuite indent s → Rises lo line.span.to (suite_tokens s) → Runs line.span.to (suite_lines s) → outer.from ≤ lo → end_of line.span.to (suite_lines s) ≤ outer.to
      → suite_nests outer (suite_tree line s) ≡ true
  suite_nested outer indent lo line (on_line s) fits rises runs front back = alone_nested outer lo line.span.to s rises front back
  suite_nested outer indent lo line (block inside body) fits rises runs front back = body_nested outer inside line.span.to body fits.1 runs (omega (arith, front, rises)) back

  pub body_nested : (outer : Span) (indent lo : ℕ) (s : Body) → FitsBody indent s → Runs lo (body_lines s) → outer.from ≤ lo → end_of lo (body_lines s) ≤ outer.to → suite_nests outer (body_tree s) ≡ true
  body_nested outer indent lo (last_stmt s) fits runs front back = both (stmt_nests outer (stmt_tree s)) true (stmt_nested outer indent lo s fits runs front back) refl
  body_nested outer indent lo (more_stmt s rest) fits runs front back =
      let parts = runs_both lo (stmt_lines s) (body_lines rest) runs in
      let e1 = end_both lo (stmt_lines s) (body_lines rest) in
      let f0 = end_from lo (stmt_lines s) parts.0 in
      let f1 = end_from (end_of lo (stmt_lines s)) (body_lines rest) parts.1 in
      both (stmt_nests outer (stmt_tree s)) (suite_nests outer (body_tree rest)) (stmt_nested outer indent lo s fits.0 parts.0 front (omega (arith, e1, f1, back)))
      (body_nested outer indent (end_of lo (stmt_lines s)) rest fits.1 parts.1 (omega (arith, front, f0)) (omega (arith, e1, back)))

  elifs_nested : (outer : Span) (indent lo : ℕ) (s : Elifs) → FitsElifs indent s → Runs lo (elif_lines s) → outer.from ≤ lo → end_of lo (elif_lines s) ≤ outer.to → branches_nests outer (elif_trees s) ≡ true
  elifs_nested outer indent lo no_elif fits runs front back = refl
  elifs_nested outer indent lo (elif line at test colon suite rest) fits runs front back =
      let rises = line_rises lo line.span.to line.tokens (keyword (codes "elif") at ++ (expr_tokens test ++ (sign (codes ":") colon ++ suite_tokens suite))) fits.0.tokens_are runs.0 in
      let parts = runs_both line.span.to (suite_lines suite) (elif_lines rest) runs.1 in
      let e1 = end_both line.span.to (suite_lines suite) (elif_lines rest) in
      let f0 = end_from line.span.to (suite_lines suite) parts.0 in
      let f1 = end_from (end_of line.span.to (suite_lines suite)) (elif_lines rest) parts.1 in
      let on = rises_on lo line.span.to (keyword (codes "elif") at ++ (expr_tokens test ++ (sign (codes ":") colon ++ suite_tokens suite))) rises in
      both (suite_nests outer (suite_tree line suite)) (branches_nests outer (elif_trees rest))
      (suite_nested outer indent lo line suite fits.1 (behind_3 lo line.span.to (keyword (codes "elif") at) (expr_tokens test) (sign (codes ":") colon) (suite_tokens suite) rises) parts.0 front (omega (arith, e1, f1, back)))
      (elifs_nested outer indent (end_of line.span.to (suite_lines suite)) rest fits.2 parts.1 (omega (arith, front, on, f0)) (omega (arith, e1, back)))

  else_nested : (outer : Span) (indent lo : ℕ) (s : Else) → FitsElse indent s → Runs lo (else_lines s) → outer.from ≤ lo → end_of lo (else_lines s) ≤ outer.to → else_nests outer (else_tree s) ≡ true
  else_nested outer indent lo no_else_part fits runs front back = refl
  else_nested outer indent lo (else_part line at colon suite) fits runs front back =
      let rises = line_rises lo line.span.to line.tokens (keyword (codes "else") at ++ (sign (codes ":") colon ++ suite_tokens suite)) fits.0.tokens_are runs.0 in
      suite_nested outer indent lo line suite fits.1 (behind_2 lo line.span.to (keyword (codes "else") at) (sign (codes ":") colon) (suite_tokens suite) rises) runs.1 front back

  handlers_nested : (outer : Span) (indent lo : ℕ) (s : Handlers) → FitsHandlers indent s → Runs lo (handler_lines s) → outer.from ≤ lo → end_of lo (handler_lines s) ≤ outer.to → handlers_nests outer (handler_trees s) ≡ true
  handlers_nested outer indent lo (last_handler line at kind colon suite) fits runs front back =
      let rises = line_rises lo line.span.to line.tokens (keyword (codes "except") at ++ (kind_tokens kind ++ (sign (codes ":") colon ++ suite_tokens suite))) fits.0.tokens_are runs.0 in
      both (suite_nests outer (suite_tree line suite)) true
      (suite_nested outer indent lo line suite fits.1 (behind_3 lo line.span.to (keyword (codes "except") at) (kind_tokens kind) (sign (codes ":") colon) (suite_tokens suite) rises) runs.1 front back) refl
  handlers_nested outer indent lo (more_handler line at kind colon suite rest) fits runs front back =
      let rises = line_rises lo line.span.to line.tokens (keyword (codes "except") at ++ (kind_tokens kind ++ (sign (codes ":") colon ++ suite_tokens suite))) fits.0.tokens_are runs.0 in
      let parts = runs_both line.span.to (suite_lines suite) (handler_lines rest) runs.1 in
      let e1 = end_both line.span.to (suite_lines suite) (handler_lines rest) in
      let f0 = end_from line.span.to (suite_lines suite) parts.0 in
      let f1 = end_from (end_of line.span.to (suite_lines suite)) (handler_lines rest) parts.1 in
      let on = rises_on lo line.span.to (keyword (codes "except") at ++ (kind_tokens kind ++ (sign (codes ":") colon ++ suite_tokens suite))) rises in
      both (suite_nests outer (suite_tree line suite)) (handlers_nests outer (handler_trees rest))
      (suite_nested outer indent lo line suite fits.1 (behind_3 lo line.span.to (keyword (codes "except") at) (kind_tokens kind) (sign (codes ":") colon) (suite_tokens suite) rises) parts.0 front (omega (arith, e1, f1, back)))
      (handlers_nested outer indent (end_of line.span.to (suite_lines suite)) rest fits.2 parts.1 (omega (arith, front, on, f0)) (omega (arith, e1, back)))

  def_nested : (outer : Span) (indent lo : ℕ) (line : Line) (s : DefSuite) → FitsDef indent s → Rises lo line.span.to (def_suite_tokens s) → Runs line.span.to (def_lines s) → outer.from ≤ lo → end_of line.span.to (def_lines s) ≤ outer.to
      → suite_nests outer (def_tree line s) ≡ true
  def_nested outer indent lo line (def_line s) fits rises runs front back = alone_nested outer lo line.span.to s rises front back
  def_nested outer indent lo line (def_block inside body) fits rises runs front back = def_body_nested outer inside line.span.to body fits.2 runs (omega (arith, front, rises)) back

  def_body_nested : (outer : Span) (indent lo : ℕ) (s : DefBody) → FitsDefBody indent s → Runs lo (def_body_lines s) → outer.from ≤ lo → end_of lo (def_body_lines s) ≤ outer.to → suite_nests outer (def_body_tree s) ≡ true
  def_body_nested outer indent lo end_def fits runs front back = refl
  def_body_nested outer indent lo (stmt_in_def s rest) fits runs front back =
      let parts = runs_both lo (stmt_lines s) (def_body_lines rest) runs in
      let e1 = end_both lo (stmt_lines s) (def_body_lines rest) in
      let f0 = end_from lo (stmt_lines s) parts.0 in
      let f1 = end_from (end_of lo (stmt_lines s)) (def_body_lines rest) parts.1 in
      both (stmt_nests outer (stmt_tree s)) (suite_nests outer (def_body_tree rest)) (stmt_nested outer indent lo s fits.0 parts.0 front (omega (arith, e1, f1, back)))
      (def_body_nested outer indent (end_of lo (stmt_lines s)) rest fits.1 parts.1 (omega (arith, front, f0)) (omega (arith, e1, back)))
  def_body_nested outer indent lo (global_in_def line at names rest) fits runs front back =
      let on = rises_on lo line.span.to line.tokens runs.0 in
      def_body_nested outer indent line.span.to rest fits.1 runs.1 (omega (arith, front, on)) back

-- what nests in some bytes nests in a script, which has none
pub nests_alone : (outer : Span) (t : SuiteTree) → suite_nests outer t ≡ true → body_nests t ≡ true
nests_alone outer end_suite is = refl
nests_alone outer (more_suite (one_stmt number at span form) rest) is =
    let parts = and_parts (is_inside span outer && form_nests span form) (suite_nests outer rest) is in
    let first = and_parts (is_inside span outer) (form_nests span form) parts.0 in
    both (form_nests span form) (body_nests rest) first.1 (nests_alone outer rest parts.1)
