-- The gaps of a script's chunks are the gaps of its cut.
use Rattle.std.proofs.Common.{◌≡◌, ℕ, ◌+◌, Bool, true, false, ◌||◌, not, List, [], ◌∷◌, ◌++◌, drop, if◌then◌else◌, refl, sym, ap, ◌∙◌}
use Rattle.std.specs.List.{flat_map}
use Rattle.std.proofs.lemmas.Grind.{flat_map-append}
use Rattle.py_lines.specs.declared.parts.Line.{Line}
use Rattle.py_tree.specs.Numbering.{size_suite, size_stmt, size_branches, numbered_stmt, numbered_form, numbered_suite, numbered_branches, numbered_else, numbered_handlers}
use Rattle.py_tree.specs.Tree.{number_of, StmtTree, FormTree, one_stmt, end_suite, more_suite}
use Rattle.std.specs.Prelude.{codes}
use Rattle.prov_base.specs.declared.place.Span.{Span}
use Rattle.py_lines.specs.declared.parts.Token.{Token}
use Rattle.py_tree.specs.Owners.{form_in}
use Rattle.py_expressions.specs.Tokens.{keyword, sign, word, expr_tokens, exprs_tokens}
use Rattle.py_grammar.specs.StatementTokens.{simple_tokens, target_tokens, params_tokens, naming_tokens, kind_tokens, base_tokens, suite_tokens, def_suite_tokens}
use Rattle.py_grammar.specs.Written.{Simple, expression, assign, augmented, del, pass, break, continue, return, return_value, raise, raise_value, assert, assert_message, import_module, Stmt, simple, if_stmt, while_stmt, for_stmt, try_stmt, with_stmt, def_stmt, class_stmt, Suite, on_line, block, Body, last_stmt, more_stmt, Elifs, no_elif, elif, Else, no_else_part, else_part, Handlers, last_handler, more_handler, DefSuite, def_line, def_block, DefBody, end_def, stmt_in_def, global_in_def, Script, empty_script, script}
use Rattle.py_grammar.specs.StatementTrees.{end_of, simple_form, stmt_of_tokens, simple_tree, stmt_tree, suite_tree, body_tree, elif_trees, else_tree, handler_trees, def_tree, def_body_tree, script_body}
use Rattle.py_grammar.specs.Layout.{stmt_lines, FitsStmt, FitsSuite, FitsBody, FitsElifs, FitsElse, FitsHandlers, FitsDef, FitsDefBody}
use Rattle.py_grammar.specs.Grammar.{FitsScript}
use Rattle.slice_text.specs.declared.gaps.Gap.{Gap}
use Rattle.slice_text.specs.Cut.{loses_all, suite_gaps, stmt_gaps, form_gaps, branches_gaps, else_gaps, handlers_gaps}
use Rattle.slice_text.specs.CutScript.{before, pass_spot, first_line}
use Rattle.slice_text.proofs.CutFits.{number_numbered, back_is}
use Rattle.slice_text.proofs.CutTreeLaws.{EndsWith, ends_2, ends_3, ends_4, ends_5, ends_6}
use Rattle.slice_text.proofs.Chunks.{Chunk, kept, passed, chunk_gaps, gone_stmt, plan_head, plan_def_head, plan_stmt, plan_suite, plan_body, plan_elifs, plan_else, plan_handlers, plan_def, plan_def_body, plan_script}

abbrev gaps : List Chunk → List Gap
gaps cs = flat_map chunk_gaps cs

both : (a b : List Chunk) (x y : List Gap) → gaps a ≡ x → gaps b ≡ y → gaps (a ++ b) ≡ x ++ y
both a b x y one two = flat_map-append chunk_gaps a b ∙ (ap (λ (ls : List Gap). ls ++ gaps b) one ∙ ap (λ (ls : List Gap). x ++ ls) two)

no_more : (x : List Gap) → x ++ [] ≡ x
no_more [] = refl
no_more (gap ∷ x) = ap (λ (ls : List Gap). gap ∷ ls) (no_more x)

-- ---- the gap of one statement

abbrev span_of : StmtTree → Span
span_of (one_stmt number at span form) = span

abbrev one_gap : Span → Bool → List Gap
one_gap span filled = record { span = span; filled = filled } ∷ []

stmt_gaps_are : (keep : ℕ → Bool) (filled : Bool) (x : StmtTree) → stmt_gaps keep filled x ≡ (if keep (number_of x) then form_gaps keep (form_in x) else one_gap (span_of x) filled)
stmt_gaps_are keep filled (one_stmt number at span form) = refl

numbered_gaps : (keep : ℕ → Bool) (filled : Bool) (n : ℕ) (t : StmtTree) → stmt_gaps keep filled (numbered_stmt n t) ≡ (if keep n then form_gaps keep (form_in (numbered_stmt n t)) else one_gap (span_of t) filled)
numbered_gaps keep filled n (one_stmt number at span form) = refl

abbrev span_from : List Token → ℕ → Span
span_from tokens to = record { from = (pass_spot tokens).span.from; to = to }

simple_span : (tokens : List Token) (to : ℕ) (form : FormTree) → span_of (stmt_of_tokens tokens to form) ≡ span_from tokens to
simple_span [] to form = refl
simple_span (token ∷ tokens) to form = refl

simple_form_in : (n to : ℕ) (tokens : List Token) (form : FormTree) → form_in (numbered_stmt n (stmt_of_tokens tokens to form)) ≡ numbered_form (n + 1) form
simple_form_in n to [] form = refl
simple_form_in n to (token ∷ tokens) form = refl

no_gaps : (keep : ℕ → Bool) (n : ℕ) (s : Simple) → form_gaps keep (numbered_form n (simple_form s)) ≡ []
no_gaps keep n (expression e) = refl
no_gaps keep n (assign t equals e) = refl
no_gaps keep n (augmented t op at e) = refl
no_gaps keep n (del at t) = refl
no_gaps keep n (pass at) = refl
no_gaps keep n (break at) = refl
no_gaps keep n (continue at) = refl
no_gaps keep n (return at) = refl
no_gaps keep n (return_value at e) = refl
no_gaps keep n (raise at) = refl
no_gaps keep n (raise_value at e) = refl
no_gaps keep n (assert at e) = refl
no_gaps keep n (assert_message at e comma message) = refl
no_gaps keep n (import_module at module_at bytes) = refl

simple_gaps : (keep : ℕ → Bool) (n to : ℕ) (s : Simple) → form_gaps keep (form_in (numbered_stmt n (simple_tree to s))) ≡ []
simple_gaps keep n to s = ap (form_gaps keep) (simple_form_in n to (simple_tokens s) (simple_form s)) ∙ no_gaps keep (n + 1) s

first_span : (indent : ℕ) (s : Stmt) → FitsStmt indent s → span_from (first_line s).tokens (end_of (first_line s).span.to (drop 1 (stmt_lines s))) ≡ span_of (stmt_tree s)
first_span indent (simple line s) fits = ap (λ (ts : List Token). span_from ts line.span.to) fits.tokens_are ∙ sym (simple_span (simple_tokens s) line.span.to (simple_form s))
first_span indent (if_stmt line at test colon suite elifs orelse) fits = ap (λ (ts : List Token). span_from ts (end_of line.span.to (drop 1 (stmt_lines (if_stmt line at test colon suite elifs orelse))))) fits.0.tokens_are
first_span indent (while_stmt line at test colon suite) fits = ap (λ (ts : List Token). span_from ts (end_of line.span.to (drop 1 (stmt_lines (while_stmt line at test colon suite))))) fits.0.tokens_are
first_span indent (for_stmt line at t in_word e colon suite) fits = ap (λ (ts : List Token). span_from ts (end_of line.span.to (drop 1 (stmt_lines (for_stmt line at t in_word e colon suite))))) fits.0.tokens_are
first_span indent (try_stmt line at colon suite handlers) fits = ap (λ (ts : List Token). span_from ts (end_of line.span.to (drop 1 (stmt_lines (try_stmt line at colon suite handlers))))) fits.0.tokens_are
first_span indent (with_stmt line at e name colon suite) fits = ap (λ (ts : List Token). span_from ts (end_of line.span.to (drop 1 (stmt_lines (with_stmt line at e name colon suite))))) fits.0.tokens_are
first_span indent (def_stmt line at name_at bytes opening names closing colon suite) fits = ap (λ (ts : List Token). span_from ts (end_of line.span.to (drop 1 (stmt_lines (def_stmt line at name_at bytes opening names closing colon suite))))) fits.0.tokens_are
first_span indent (class_stmt line at name_at bytes of colon suite) fits = ap (λ (ts : List Token). span_from ts (end_of line.span.to (drop 1 (stmt_lines (class_stmt line at name_at bytes of colon suite))))) fits.0.tokens_are

either : (keep : ℕ → Bool) (filled : Bool) (n indent : ℕ) (s : Stmt) → FitsStmt indent s → gaps (plan_stmt keep n s) ≡ form_gaps keep (form_in (numbered_stmt n (stmt_tree s)))
    → gaps (if keep n then plan_stmt keep n s else gone_stmt filled s ∷ []) ≡ stmt_gaps keep filled (numbered_stmt n (stmt_tree s))
either keep filled n indent s fits is = chosen (keep n) ∙ sym (numbered_gaps keep filled n (stmt_tree s))
  where
    chosen : (b : Bool) → gaps (if b then plan_stmt keep n s else gone_stmt filled s ∷ []) ≡ (if b then form_gaps keep (form_in (numbered_stmt n (stmt_tree s))) else one_gap (span_of (stmt_tree s)) filled)
    chosen true = is
    chosen false = ap (λ span. one_gap span filled) (first_span indent s fits)

on_line_gaps : (keep : ℕ → Bool) (n : ℕ) (line : Line) (s : Simple) → EndsWith line (simple_tokens s)
    → chunk_gaps (if keep n then kept line else passed line (before line s)) ++ [] ≡ suite_gaps keep (loses_all keep (numbered_suite n (more_suite (simple_tree line.span.to s) end_suite))) (numbered_suite n (more_suite (simple_tree line.span.to s) end_suite))
on_line_gaps keep n line s ends =
    no_more (chunk_gaps (if keep n then kept line else passed line (before line s)))
    ∙ (chosen (keep n)
    ∙ (ap (λ b. if keep n then form_gaps keep (form_in (numbered_stmt n (simple_tree line.span.to s))) else one_gap (span_of (simple_tree line.span.to s)) (not (b || false))) (sym (ap keep (number_numbered n (simple_tree line.span.to s))))
    ∙ (sym (numbered_gaps keep (not (keep (number_of (numbered_stmt n (simple_tree line.span.to s))) || false)) n (simple_tree line.span.to s))
    ∙ sym (no_more (stmt_gaps keep (not (keep (number_of (numbered_stmt n (simple_tree line.span.to s))) || false)) (numbered_stmt n (simple_tree line.span.to s)))))))
  where
    here : span_from (drop (before line s) line.tokens) line.span.to ≡ span_of (simple_tree line.span.to s)
    here = ap (λ (ts : List Token). span_from ts line.span.to) (back_is line.tokens ends.front (simple_tokens s) ends.is) ∙ sym (simple_span (simple_tokens s) line.span.to (simple_form s))

    chosen : (b : Bool) → chunk_gaps (if b then kept line else passed line (before line s)) ≡ (if b then form_gaps keep (form_in (numbered_stmt n (simple_tree line.span.to s))) else one_gap (span_of (simple_tree line.span.to s)) (not (b || false)))
    chosen true = sym (simple_gaps keep n line.span.to s)
    chosen false = ap (λ span. one_gap span true) here

group : (a b c : List Gap) (x y : List Gap) → a ++ b ≡ x → c ≡ y → a ++ (b ++ c) ≡ x ++ y
group a b c x y one two = regroup a b c ∙ (ap (λ (ls : List Gap). ls ++ c) one ∙ ap (λ (ls : List Gap). x ++ ls) two)
  where
    regroup : (a b c : List Gap) → a ++ (b ++ c) ≡ (a ++ b) ++ c
    regroup [] b c = refl
    regroup (gap ∷ a) b c = ap (λ (ls : List Gap). gap ∷ ls) (regroup a b c)

-- (a ++ b) ++ c is a ++ (b ++ c)
regroup_if : (a b c : List Gap) → (a ++ b) ++ c ≡ a ++ (b ++ c)
regroup_if [] b c = refl
regroup_if (gap ∷ a) b c = ap (λ (ls : List Gap). gap ∷ ls) (regroup_if a b c)

-- a head and its suite, with what follows
with_more : (c : Chunk) (cs more : List Chunk) (x y : List Gap) → chunk_gaps c ++ gaps cs ≡ x → gaps more ≡ y → chunk_gaps c ++ gaps (cs ++ more) ≡ x ++ y
with_more c cs more x y one two = ap (λ (ls : List Gap). chunk_gaps c ++ ls) (flat_map-append chunk_gaps cs more) ∙ group (chunk_gaps c) (gaps cs) (gaps more) x y one two

mutual
  pub stmt_gap : (keep : ℕ → Bool) (n indent : ℕ) (s : Stmt) → FitsStmt indent s → gaps (plan_stmt keep n s) ≡ form_gaps keep (form_in (numbered_stmt n (stmt_tree s)))
  stmt_gap keep n indent (simple line s) fits = sym (simple_gaps keep n line.span.to s)
  stmt_gap keep n indent (if_stmt line at test colon suite elifs orelse) fits =
      with_more (plan_head keep (n + 1) line suite) (plan_suite keep (n + 1) suite) (plan_elifs keep (n + 1 + size_suite (suite_tree line suite)) elifs ++ plan_else keep (n + 1 + (size_suite (suite_tree line suite) + size_branches (elif_trees elifs))) orelse)
      (suite_gaps keep (loses_all keep (numbered_suite (n + 1) (suite_tree line suite))) (numbered_suite (n + 1) (suite_tree line suite)))
      (branches_gaps keep (numbered_branches (n + 1 + size_suite (suite_tree line suite)) (elif_trees elifs)) ++ else_gaps keep (numbered_else (n + 1 + (size_suite (suite_tree line suite) + size_branches (elif_trees elifs))) (else_tree orelse)))
      (suite_gap keep (n + 1) indent line suite (ends_3 line indent (keyword (codes "if") at) (expr_tokens test) (sign (codes ":") colon) (suite_tokens suite) fits.0) fits.1)
      (both (plan_elifs keep (n + 1 + size_suite (suite_tree line suite)) elifs) (plan_else keep (n + 1 + (size_suite (suite_tree line suite) + size_branches (elif_trees elifs))) orelse) (branches_gaps keep (numbered_branches (n + 1 + size_suite (suite_tree line suite)) (elif_trees elifs))) (else_gaps keep (numbered_else (n + 1 + (size_suite (suite_tree line suite) + size_branches (elif_trees elifs))) (else_tree orelse))) (elifs_gap keep (n + 1 + size_suite (suite_tree line suite)) indent elifs fits.2) (else_gap keep (n + 1 + (size_suite (suite_tree line suite) + size_branches (elif_trees elifs))) indent orelse fits.3))
      ∙ sym (regroup_if (suite_gaps keep (loses_all keep (numbered_suite (n + 1) (suite_tree line suite))) (numbered_suite (n + 1) (suite_tree line suite))) (branches_gaps keep (numbered_branches (n + 1 + size_suite (suite_tree line suite)) (elif_trees elifs))) (else_gaps keep (numbered_else (n + 1 + (size_suite (suite_tree line suite) + size_branches (elif_trees elifs))) (else_tree orelse))))
  stmt_gap keep n indent (while_stmt line at test colon suite) fits = suite_gap keep (n + 1) indent line suite (ends_3 line indent (keyword (codes "while") at) (expr_tokens test) (sign (codes ":") colon) (suite_tokens suite) fits.0) fits.1
  stmt_gap keep n indent (for_stmt line at t in_word e colon suite) fits = suite_gap keep (n + 1) indent line suite (ends_5 line indent (keyword (codes "for") at) (target_tokens t) (keyword (codes "in") in_word) (exprs_tokens e) (sign (codes ":") colon) (suite_tokens suite) fits.0) fits.1
  stmt_gap keep n indent (try_stmt line at colon suite handlers) fits =
      with_more (plan_head keep (n + 1) line suite) (plan_suite keep (n + 1) suite) (plan_handlers keep (n + 1 + size_suite (suite_tree line suite)) handlers)
      (suite_gaps keep (loses_all keep (numbered_suite (n + 1) (suite_tree line suite))) (numbered_suite (n + 1) (suite_tree line suite))) (handlers_gaps keep (numbered_handlers (n + 1 + size_suite (suite_tree line suite)) (handler_trees handlers)))
      (suite_gap keep (n + 1) indent line suite (ends_2 line indent (keyword (codes "try") at) (sign (codes ":") colon) (suite_tokens suite) fits.0) fits.1) (handlers_gap keep (n + 1 + size_suite (suite_tree line suite)) indent handlers fits.2)
  stmt_gap keep n indent (with_stmt line at e name colon suite) fits = suite_gap keep (n + 1) indent line suite (ends_4 line indent (keyword (codes "with") at) (expr_tokens e) (naming_tokens name) (sign (codes ":") colon) (suite_tokens suite) fits.0) fits.1
  stmt_gap keep n indent (def_stmt line at name_at bytes opening names closing colon suite) fits =
      def_gap keep (n + 1) indent line suite (ends_6 line indent (keyword (codes "def") at) (word bytes name_at) (sign (codes "(") opening) (params_tokens names) (sign (codes ")") closing) (sign (codes ":") colon) (def_suite_tokens suite) fits.0) fits.1
  stmt_gap keep n indent (class_stmt line at name_at bytes of colon suite) fits = suite_gap keep (n + 1) indent line suite (ends_4 line indent (keyword (codes "class") at) (word bytes name_at) (base_tokens of) (sign (codes ":") colon) (suite_tokens suite) fits.0) fits.1

  pub suite_gap : (keep : ℕ → Bool) (n indent : ℕ) (line : Line) (s : Suite) → EndsWith line (suite_tokens s) → FitsSuite indent s
      → chunk_gaps (plan_head keep n line s) ++ gaps (plan_suite keep n s) ≡ suite_gaps keep (loses_all keep (numbered_suite n (suite_tree line s))) (numbered_suite n (suite_tree line s))
  suite_gap keep n indent line (on_line s) ends fits = on_line_gaps keep n line s ends
  suite_gap keep n indent line (block inside body) ends fits = body_gap keep (loses_all keep (numbered_suite n (body_tree body))) n inside body fits.1

  pub body_gap : (keep : ℕ → Bool) (filled : Bool) (n indent : ℕ) (s : Body) → FitsBody indent s → gaps (plan_body keep filled n s) ≡ suite_gaps keep filled (numbered_suite n (body_tree s))
  body_gap keep filled n indent (last_stmt s) fits = either keep filled n indent s fits (stmt_gap keep n indent s fits) ∙ sym (no_more (stmt_gaps keep filled (numbered_stmt n (stmt_tree s))))
  body_gap keep filled n indent (more_stmt s rest) fits =
      both (if keep n then plan_stmt keep n s else gone_stmt filled s ∷ []) (plan_body keep false (n + size_stmt (stmt_tree s)) rest) (stmt_gaps keep filled (numbered_stmt n (stmt_tree s))) (suite_gaps keep false (numbered_suite (n + size_stmt (stmt_tree s)) (body_tree rest)))
      (either keep filled n indent s fits.0 (stmt_gap keep n indent s fits.0)) (body_gap keep false (n + size_stmt (stmt_tree s)) indent rest fits.1)

  pub elifs_gap : (keep : ℕ → Bool) (n indent : ℕ) (s : Elifs) → FitsElifs indent s → gaps (plan_elifs keep n s) ≡ branches_gaps keep (numbered_branches n (elif_trees s))
  elifs_gap keep n indent no_elif fits = refl
  elifs_gap keep n indent (elif line at test colon suite rest) fits =
      with_more (plan_head keep n line suite) (plan_suite keep n suite) (plan_elifs keep (n + size_suite (suite_tree line suite)) rest)
      (suite_gaps keep (loses_all keep (numbered_suite n (suite_tree line suite))) (numbered_suite n (suite_tree line suite))) (branches_gaps keep (numbered_branches (n + size_suite (suite_tree line suite)) (elif_trees rest)))
      (suite_gap keep n indent line suite (ends_3 line indent (keyword (codes "elif") at) (expr_tokens test) (sign (codes ":") colon) (suite_tokens suite) fits.0) fits.1) (elifs_gap keep (n + size_suite (suite_tree line suite)) indent rest fits.2)

  pub else_gap : (keep : ℕ → Bool) (n indent : ℕ) (s : Else) → FitsElse indent s → gaps (plan_else keep n s) ≡ else_gaps keep (numbered_else n (else_tree s))
  else_gap keep n indent no_else_part fits = refl
  else_gap keep n indent (else_part line at colon suite) fits = suite_gap keep n indent line suite (ends_2 line indent (keyword (codes "else") at) (sign (codes ":") colon) (suite_tokens suite) fits.0) fits.1

  pub handlers_gap : (keep : ℕ → Bool) (n indent : ℕ) (s : Handlers) → FitsHandlers indent s → gaps (plan_handlers keep n s) ≡ handlers_gaps keep (numbered_handlers n (handler_trees s))
  handlers_gap keep n indent (last_handler line at kind colon suite) fits =
      suite_gap keep n indent line suite (ends_3 line indent (keyword (codes "except") at) (kind_tokens kind) (sign (codes ":") colon) (suite_tokens suite) fits.0) fits.1
      ∙ sym (no_more (suite_gaps keep (loses_all keep (numbered_suite n (suite_tree line suite))) (numbered_suite n (suite_tree line suite))))
  handlers_gap keep n indent (more_handler line at kind colon suite rest) fits =
      with_more (plan_head keep n line suite) (plan_suite keep n suite) (plan_handlers keep (n + size_suite (suite_tree line suite)) rest)
      (suite_gaps keep (loses_all keep (numbered_suite n (suite_tree line suite))) (numbered_suite n (suite_tree line suite))) (handlers_gaps keep (numbered_handlers (n + size_suite (suite_tree line suite)) (handler_trees rest)))
      (suite_gap keep n indent line suite (ends_3 line indent (keyword (codes "except") at) (kind_tokens kind) (sign (codes ":") colon) (suite_tokens suite) fits.0) fits.1) (handlers_gap keep (n + size_suite (suite_tree line suite)) indent rest fits.2)

  pub def_gap : (keep : ℕ → Bool) (n indent : ℕ) (line : Line) (s : DefSuite) → EndsWith line (def_suite_tokens s) → FitsDef indent s
      → chunk_gaps (plan_def_head keep n line s) ++ gaps (plan_def keep n s) ≡ suite_gaps keep (loses_all keep (numbered_suite n (def_tree line s))) (numbered_suite n (def_tree line s))
  def_gap keep n indent line (def_line s) ends fits = on_line_gaps keep n line s ends
  def_gap keep n indent line (def_block inside body) ends fits = def_body_gap keep (loses_all keep (numbered_suite n (def_body_tree body))) n inside body fits.2

  pub def_body_gap : (keep : ℕ → Bool) (filled : Bool) (n indent : ℕ) (s : DefBody) → FitsDefBody indent s → gaps (plan_def_body keep filled n s) ≡ suite_gaps keep filled (numbered_suite n (def_body_tree s))
  def_body_gap keep filled n indent end_def fits = refl
  def_body_gap keep filled n indent (stmt_in_def s rest) fits =
      both (if keep n then plan_stmt keep n s else gone_stmt filled s ∷ []) (plan_def_body keep false (n + size_stmt (stmt_tree s)) rest) (stmt_gaps keep filled (numbered_stmt n (stmt_tree s))) (suite_gaps keep false (numbered_suite (n + size_stmt (stmt_tree s)) (def_body_tree rest)))
      (either keep filled n indent s fits.0 (stmt_gap keep n indent s fits.0)) (def_body_gap keep false (n + size_stmt (stmt_tree s)) indent rest fits.1)
  def_body_gap keep filled n indent (global_in_def line at names rest) fits = def_body_gap keep filled n indent rest fits.1

pub script_gap : (keep : ℕ → Bool) (s : Script) → FitsScript s → gaps (plan_script keep s) ≡ suite_gaps keep false (numbered_suite 0 (script_body s))
script_gap keep empty_script fits = refl
script_gap keep (script body) fits = body_gap keep false 0 0 body fits
