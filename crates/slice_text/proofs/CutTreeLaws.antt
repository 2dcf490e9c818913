-- The tree of what a cut leaves of a script is the tree of the script with the statements deleted, but for numbers and bytes.
use Rattle.std.proofs.Common.{◌≡◌, ℕ, ◌+◌, Bool, true, false, List, [], ◌∷◌, ◌++◌, drop, Option, None, Some, unwrap_or, if◌then◌else◌, refl, sym, ap, ◌∙◌}
use Rattle.std.specs.Prelude.{codes}
use Rattle.std.proofs.lemmas.Bool.{false≢true}
use Rattle.prov_base.specs.declared.place.Pos.{Pos}
use Rattle.py_lines.specs.declared.parts.Line.{Line}
use Rattle.py_lines.specs.declared.parts.Token.{Token}
use Rattle.py_tree.specs.Tree.{StmtTree, FormTree, SuiteTree, ScriptTree, one_stmt, pass_form, while_form, for_form, with_form, def_form, class_form, end_suite, more_suite, else_suite, end_handlers, more_handlers}
use Rattle.py_tree.specs.Numbering.{size_stmt, size_suite, size_branches, numbered_stmt, numbered_form, numbered_suite, numbered_branches, numbered_else, numbered_handlers}
use Rattle.py_tree.specs.Deletion.{pass_at, or_pass, kept_suite, kept_stmt, kept_form, kept_branches, kept_else, kept_handlers, deleted}
use Rattle.py_tree.specs.Unplaced.{no_bytes}
use Rattle.py_expressions.specs.Trees.{expr_tree, exprs_tree}
use Rattle.py_expressions.specs.Tokens.{keyword, sign, word, expr_tokens, exprs_tokens}
use Rattle.py_grammar.specs.Written.{Simple, expression, assign, augmented, del, pass, break, continue, return, return_value, raise, raise_value, assert, assert_message, import_module, Stmt, simple, if_stmt, while_stmt, for_stmt, try_stmt, with_stmt, def_stmt, class_stmt, Suite, on_line, block, Body, last_stmt, more_stmt, Elifs, no_elif, elif, Else, no_else_part, else_part, Handlers, last_handler, more_handler, DefSuite, def_line, def_block, DefBody, end_def, stmt_in_def, global_in_def, Script, empty_script, script}
use Rattle.py_grammar.specs.StatementTokens.{simple_tokens, target_tokens, params_tokens, naming_tokens, kind_tokens, base_tokens, suite_tokens, def_suite_tokens}
use Rattle.py_grammar.specs.StatementTrees.{simple_form, target_tree, naming_bound, kind_class, kind_bound, base_tree, params_list, names_list, globals_of, def_globals, stmt_of_tokens, simple_tree, stmt_tree, suite_tree, body_tree, elif_trees, else_tree, handler_trees, def_tree, def_body_tree, script_body, script_tree}
use Rattle.py_grammar.specs.Layout.{IsLine, FitsStmt, FitsSuite, FitsBody, FitsElifs, FitsElse, FitsHandlers, FitsDef, FitsDefBody}
use Rattle.py_grammar.specs.Grammar.{FitsScript}
use Rattle.slice_text.specs.Cut.{loses_all}
use Rattle.slice_text.specs.Spanless.{spanless, spanless_suite}
use Rattle.slice_text.proofs.Bare.{bare_suite, bare_stmt, bare_form, bare_branches, bare_else, bare_handlers, suite_size, suite_anew}
use Rattle.slice_text.specs.CutScript.{pass_spot, before, cut_head, cut_def_head, pass_for, first_line, pass_stmt, with_first, in_place, in_def_place, cut_stmt, cut_suite, cut_body, cut_elifs, cut_else, cut_handlers, cut_def, cut_def_body, script_of_body, cut_script}
use Rattle.slice_text.proofs.CutFits.{back_is, number_numbered, group_2, group_3, group_4, group_5, group_6}
use Rattle.slice_text.proofs.CutTrees.{filled_suite, not_filled, or_filled}

-- ---- simple statements

abbrev place_of : StmtTree → Pos
place_of (one_stmt number at span form) = at

pub bare_first : (tokens : List Token) (to : ℕ) (form : FormTree) → bare_stmt (stmt_of_tokens tokens to form) ≡ one_stmt 0 (pass_spot tokens).at no_bytes (bare_form form)
bare_first [] to form = refl
bare_first (token ∷ tokens) to form = refl

place_first : (tokens : List Token) (to : ℕ) (form : FormTree) → place_of (stmt_of_tokens tokens to form) ≡ (pass_spot tokens).at
place_first [] to form = refl
place_first (token ∷ tokens) to form = refl

simple_stays : (keep : ℕ → Bool) (n : ℕ) (s : Simple) → kept_form keep (numbered_form n (simple_form s)) ≡ simple_form s
simple_stays keep n (expression e) = refl
simple_stays keep n (assign t equals e) = refl
simple_stays keep n (augmented t op at e) = refl
simple_stays keep n (del at t) = refl
simple_stays keep n (pass at) = refl
simple_stays keep n (break at) = refl
simple_stays keep n (continue at) = refl
simple_stays keep n (return at) = refl
simple_stays keep n (return_value at e) = refl
simple_stays keep n (raise at) = refl
simple_stays keep n (raise_value at e) = refl
simple_stays keep n (assert at e) = refl
simple_stays keep n (assert_message at e comma message) = refl
simple_stays keep n (import_module at module_at bytes) = refl

leaf_stays : (keep : ℕ → Bool) (n to : ℕ) (tokens : List Token) (form : FormTree) → kept_form keep (numbered_form (n + 1) form) ≡ form → bare_stmt (stmt_of_tokens tokens to form) ≡ bare_stmt (kept_stmt keep (numbered_stmt n (stmt_of_tokens tokens to form)))
leaf_stays keep n to [] form is = ap (λ f. one_stmt 0 (record { line = 0; col = 0 }) no_bytes (bare_form f)) (sym is)
leaf_stays keep n to (token ∷ tokens) form is = ap (λ f. one_stmt 0 token.at no_bytes (bare_form f)) (sym is)

simple_kept : (keep : ℕ → Bool) (n to to' : ℕ) (s : Simple) → bare_stmt (simple_tree to' s) ≡ bare_stmt (kept_stmt keep (numbered_stmt n (simple_tree to s)))
simple_kept keep n to to' s = bare_first (simple_tokens s) to' (simple_form s) ∙ (sym (bare_first (simple_tokens s) to (simple_form s)) ∙ leaf_stays keep n to (simple_tokens s) (simple_form s) (simple_stays keep (n + 1) s))

-- `pass` in the place of a statement
bare_pass : (n : ℕ) (t : StmtTree) → bare_stmt (pass_at (numbered_stmt n t)) ≡ one_stmt 0 (place_of t) no_bytes pass_form
bare_pass n (one_stmt number at span form) = refl

pass_is : (n to : ℕ) (tokens : List Token) (t : StmtTree) → (pass_spot tokens).at ≡ place_of t → bare_stmt (simple_tree to (pass (pass_spot tokens))) ≡ bare_stmt (pass_at (numbered_stmt n t))
pass_is n to tokens t is = ap (λ at. one_stmt 0 at no_bytes pass_form) is ∙ sym (bare_pass n t)

-- ---- a suite on the line that begins it

-- the line ends with these tokens
pub record EndsWith (line : Line) (tokens : List Token) : Type 0 where
  pub front : List Token
  pub is : line.tokens ≡ front ++ tokens

on_line_left : (keep : ℕ → Bool) (n to' : ℕ) (line : Line) (s : Simple) → EndsWith line (simple_tokens s)
    → bare_suite (more_suite (simple_tree to' (if keep n then s else pass_for line s)) end_suite) ≡ bare_suite (or_pass (numbered_suite n (more_suite (simple_tree line.span.to s) end_suite)) (kept_suite keep (numbered_suite n (more_suite (simple_tree line.span.to s) end_suite))))
on_line_left keep n to' line s ends =
    chosen (keep n) ∙ ap (λ b. bare_suite (or_pass (more_suite (numbered_stmt n t) end_suite) (if b then more_suite (kept_stmt keep (numbered_stmt n t)) end_suite else end_suite))) (sym (ap keep (number_numbered n t)))
  where
    t : StmtTree
    t = simple_tree line.span.to s

    here : (pass_spot (drop (before line s) line.tokens)).at ≡ place_of (simple_tree line.span.to s)
    here = ap (λ (ts : List Token). (pass_spot ts).at) (back_is line.tokens ends.front (simple_tokens s) ends.is) ∙ sym (place_first (simple_tokens s) line.span.to (simple_form s))

    chosen : (b : Bool) → bare_suite (more_suite (simple_tree to' (if b then s else pass_for line s)) end_suite)
        ≡ bare_suite (or_pass (more_suite (numbered_stmt n (simple_tree line.span.to s)) end_suite) (if b then more_suite (kept_stmt keep (numbered_stmt n (simple_tree line.span.to s))) end_suite else end_suite))
    chosen true = ap (λ x. more_suite x end_suite) (simple_kept keep n line.span.to to' s)
    chosen false = ap (λ x. more_suite x end_suite) (pass_is n to' (drop (before line s) line.tokens) (simple_tree line.span.to s) here)

-- ---- statements in a row

abbrev option_tree : Option Body → SuiteTree
option_tree None = end_suite
option_tree (Some body) = body_tree body

first_tree : (s : Stmt) (rest : Option Body) → body_tree (with_first s rest) ≡ more_suite (stmt_tree s) (option_tree rest)
first_tree s None = refl
first_tree s (Some rest) = refl

abbrev is_more : SuiteTree → Bool
is_more end_suite = false
is_more (more_suite s rest) = true

is_more_bare : (t : SuiteTree) → is_more (bare_suite t) ≡ is_more t
is_more_bare end_suite = refl
is_more_bare (more_suite s rest) = refl

or_pass_more : (n : ℕ) (body : Body) (k : SuiteTree) → is_more (or_pass (numbered_suite n (body_tree body)) k) ≡ true
or_pass_more n (last_stmt s) end_suite = refl
or_pass_more n (last_stmt s) (more_suite x xs) = refl
or_pass_more n (more_stmt s rest) end_suite = refl
or_pass_more n (more_stmt s rest) (more_suite x xs) = refl

left_tree : (left : Option Body) (body : Body) (t : SuiteTree) → is_more t ≡ true → bare_suite (option_tree left) ≡ bare_suite t → bare_suite (body_tree (unwrap_or left body)) ≡ bare_suite t
left_tree None body t more is = absurd (false≢true (ap is_more is ∙ (is_more_bare t ∙ more)))
left_tree (Some b) body t more is = is

-- the first line of a statement begins at its place
first_place : (indent : ℕ) (s : Stmt) → FitsStmt indent s → (pass_spot (first_line s).tokens).at ≡ place_of (stmt_tree s)
first_place indent (simple line s) fits = ap (λ (ts : List Token). (pass_spot ts).at) fits.tokens_are ∙ sym (place_first (simple_tokens s) line.span.to (simple_form s))
first_place indent (if_stmt line at test colon suite elifs orelse) fits = ap (λ (ts : List Token). (pass_spot ts).at) fits.0.tokens_are
first_place indent (while_stmt line at test colon suite) fits = ap (λ (ts : List Token). (pass_spot ts).at) fits.0.tokens_are
first_place indent (for_stmt line at t in_word e colon suite) fits = ap (λ (ts : List Token). (pass_spot ts).at) fits.0.tokens_are
first_place indent (try_stmt line at colon suite handlers) fits = ap (λ (ts : List Token). (pass_spot ts).at) fits.0.tokens_are
first_place indent (with_stmt line at e name colon suite) fits = ap (λ (ts : List Token). (pass_spot ts).at) fits.0.tokens_are
first_place indent (def_stmt line at name_at bytes opening names closing colon suite) fits = ap (λ (ts : List Token). (pass_spot ts).at) fits.0.tokens_are
first_place indent (class_stmt line at name_at bytes of colon suite) fits = ap (λ (ts : List Token). (pass_spot ts).at) fits.0.tokens_are

abbrev row_left : (ℕ → Bool) → StmtTree → Bool → Bool → SuiteTree → SuiteTree
row_left keep s stays filled rest = if stays then more_suite (kept_stmt keep s) rest else (if filled then more_suite (pass_at s) rest else rest)

module _ (keep : ℕ → Bool) (n indent : ℕ) (s : Stmt) (fits : FitsStmt indent s) (stays_is : bare_stmt (stmt_tree (cut_stmt keep n s)) ≡ bare_stmt (kept_stmt keep (numbered_stmt n (stmt_tree s)))) where
  pass_here : bare_stmt (stmt_tree (pass_stmt (first_line s))) ≡ bare_stmt (pass_at (numbered_stmt n (stmt_tree s)))
  pass_here = pass_is n (first_line s).span.to (first_line s).tokens (stmt_tree s) (first_place indent s fits)

  both_parts : (x x' : StmtTree) (r r' : SuiteTree) → bare_stmt x ≡ bare_stmt x' → bare_suite r ≡ bare_suite r' → bare_suite (more_suite x r) ≡ bare_suite (more_suite x' r')
  both_parts x x' r r' one two = ap (λ y. more_suite y (bare_suite r)) one ∙ ap (more_suite (bare_stmt x')) two

  chosen_row : (b filled : Bool) (rest : Option Body) (left : SuiteTree) → bare_suite (option_tree rest) ≡ bare_suite left
      → bare_suite (option_tree (if b then Some (with_first (cut_stmt keep n s) rest) else in_place filled s rest)) ≡ bare_suite (row_left keep (numbered_stmt n (stmt_tree s)) b filled left)
  chosen_row true filled rest left is = ap bare_suite (first_tree (cut_stmt keep n s) rest) ∙ both_parts (stmt_tree (cut_stmt keep n s)) (kept_stmt keep (numbered_stmt n (stmt_tree s))) (option_tree rest) left stays_is is
  chosen_row false true rest left is = ap bare_suite (first_tree (pass_stmt (first_line s)) rest) ∙ both_parts (stmt_tree (pass_stmt (first_line s))) (pass_at (numbered_stmt n (stmt_tree s))) (option_tree rest) left pass_here is
  chosen_row false false rest left is = is

  row_is : (filled : Bool) (rest : Option Body) (others : SuiteTree) → bare_suite (option_tree rest) ≡ bare_suite (filled_suite keep false others)
      → bare_suite (option_tree (if keep n then Some (with_first (cut_stmt keep n s) rest) else in_place filled s rest)) ≡ bare_suite (filled_suite keep filled (more_suite (numbered_stmt n (stmt_tree s)) others))
  row_is filled rest others is =
      chosen_row (keep n) filled rest (filled_suite keep false others) is ∙ ap (λ b. bare_suite (row_left keep (numbered_stmt n (stmt_tree s)) b filled (filled_suite keep false others))) (sym (ap keep (number_numbered n (stmt_tree s))))

  chosen_def : (b filled : Bool) (rest : DefBody) (left : SuiteTree) → bare_suite (def_body_tree rest) ≡ bare_suite left
      → bare_suite (def_body_tree (if b then stmt_in_def (cut_stmt keep n s) rest else in_def_place filled s rest)) ≡ bare_suite (row_left keep (numbered_stmt n (stmt_tree s)) b filled left)
  chosen_def true filled rest left is = both_parts (stmt_tree (cut_stmt keep n s)) (kept_stmt keep (numbered_stmt n (stmt_tree s))) (def_body_tree rest) left stays_is is
  chosen_def false true rest left is = both_parts (stmt_tree (pass_stmt (first_line s))) (pass_at (numbered_stmt n (stmt_tree s))) (def_body_tree rest) left pass_here is
  chosen_def false false rest left is = is

  def_row_is : (filled : Bool) (rest : DefBody) (others : SuiteTree) → bare_suite (def_body_tree rest) ≡ bare_suite (filled_suite keep false others)
      → bare_suite (def_body_tree (if keep n then stmt_in_def (cut_stmt keep n s) rest else in_def_place filled s rest)) ≡ bare_suite (filled_suite keep filled (more_suite (numbered_stmt n (stmt_tree s)) others))
  def_row_is filled rest others is =
      chosen_def (keep n) filled rest (filled_suite keep false others) is ∙ ap (λ b. bare_suite (row_left keep (numbered_stmt n (stmt_tree s)) b filled (filled_suite keep false others))) (sym (ap keep (number_numbered n (stmt_tree s))))

-- ---- what a line ends with

pub ends_2 : (line : Line) (indent : ℕ) (a b x : List Token) → IsLine line indent (a ++ (b ++ x)) → EndsWith line x
ends_2 line indent a b x is = record { front = a ++ b; is = is.tokens_are ∙ sym (group_2 a b x) }

pub ends_3 : (line : Line) (indent : ℕ) (a b c x : List Token) → IsLine line indent (a ++ (b ++ (c ++ x))) → EndsWith line x
ends_3 line indent a b c x is = record { front = a ++ (b ++ c); is = is.tokens_are ∙ sym (group_3 a b c x) }

pub ends_4 : (line : Line) (indent : ℕ) (a b c d x : List Token) → IsLine line indent (a ++ (b ++ (c ++ (d ++ x)))) → EndsWith line x
ends_4 line indent a b c d x is = record { front = a ++ (b ++ (c ++ d)); is = is.tokens_are ∙ sym (group_4 a b c d x) }

pub ends_5 : (line : Line) (indent : ℕ) (a b c d e x : List Token) → IsLine line indent (a ++ (b ++ (c ++ (d ++ (e ++ x))))) → EndsWith line x
ends_5 line indent a b c d e x is = record { front = a ++ (b ++ (c ++ (d ++ e))); is = is.tokens_are ∙ sym (group_5 a b c d e x) }

pub ends_6 : (line : Line) (indent : ℕ) (a b c d e f x : List Token) → IsLine line indent (a ++ (b ++ (c ++ (d ++ (e ++ (f ++ x)))))) → EndsWith line x
ends_6 line indent a b c d e f x is = record { front = a ++ (b ++ (c ++ (d ++ (e ++ f)))); is = is.tokens_are ∙ sym (group_6 a b c d e f x) }

-- ---- `global` lines stay

globals_stay : (keep : ℕ → Bool) (filled : Bool) (n : ℕ) (body : DefBody) → def_globals (cut_def_body keep filled n body) ≡ def_globals body
globals_stay keep filled n end_def = refl
globals_stay keep filled n (global_in_def line at names rest) = ap (λ (more : List (List ℕ)). names_list names ++ more) (globals_stay keep filled n rest)
globals_stay keep filled n (stmt_in_def s rest) = chosen (keep n) filled (cut_def_body keep false (n + size_stmt (stmt_tree s)) rest) ∙ globals_stay keep false (n + size_stmt (stmt_tree s)) rest
  where
    chosen : (b full : Bool) (others : DefBody) → def_globals (if b then stmt_in_def (cut_stmt keep n s) others else in_def_place full s others) ≡ def_globals others
    chosen true full others = refl
    chosen false true others = refl
    chosen false false others = refl

suite_globals : (keep : ℕ → Bool) (n : ℕ) (line : Line) (suite : DefSuite) → globals_of (cut_def keep n line suite) ≡ globals_of suite
suite_globals keep n line (def_line s) = refl
suite_globals keep n line (def_block inside body) = globals_stay keep (loses_all keep (numbered_suite n (def_body_tree body))) n body

-- ---- all statements

mutual
  pub stmt_left : (keep : ℕ → Bool) (n indent : ℕ) (s : Stmt) → FitsStmt indent s → bare_stmt (stmt_tree (cut_stmt keep n s)) ≡ bare_stmt (kept_stmt keep (numbered_stmt n (stmt_tree s)))
  stmt_left keep n indent (simple line s) fits = simple_kept keep n line.span.to line.span.to s
  stmt_left keep n indent (if_stmt line at test colon suite elifs orelse) fits =
      rw (
        suite_left keep (n + 1) indent line suite (ends_3 line indent (keyword (codes "if") at) (expr_tokens test) (sign (codes ":") colon) (suite_tokens suite) fits.0) fits.1,
        elifs_left keep (n + 1 + size_suite (suite_tree line suite)) indent elifs fits.2,
        else_left keep (n + 1 + (size_suite (suite_tree line suite) + size_branches (elif_trees elifs))) indent orelse fits.3,
      )
  stmt_left keep n indent (while_stmt line at test colon suite) fits =
      ap (λ b. one_stmt 0 at.at no_bytes (while_form (expr_tree test) b))
      (suite_left keep (n + 1) indent line suite (ends_3 line indent (keyword (codes "while") at) (expr_tokens test) (sign (codes ":") colon) (suite_tokens suite) fits.0) fits.1)
  stmt_left keep n indent (for_stmt line at t in_word e colon suite) fits =
      ap (λ b. one_stmt 0 at.at no_bytes (for_form (target_tree t) (exprs_tree e) b))
      (suite_left keep (n + 1) indent line suite (ends_5 line indent (keyword (codes "for") at) (target_tokens t) (keyword (codes "in") in_word) (exprs_tokens e) (sign (codes ":") colon) (suite_tokens suite) fits.0) fits.1)
  stmt_left keep n indent (try_stmt line at colon suite handlers) fits =
      rw (
        suite_left keep (n + 1) indent line suite (ends_2 line indent (keyword (codes "try") at) (sign (codes ":") colon) (suite_tokens suite) fits.0) fits.1,
        handlers_left keep (n + 1 + size_suite (suite_tree line suite)) indent handlers fits.2,
      )
  stmt_left keep n indent (with_stmt line at e name colon suite) fits =
      ap (λ b. one_stmt 0 at.at no_bytes (with_form (expr_tree e) (naming_bound name) b))
      (suite_left keep (n + 1) indent line suite (ends_4 line indent (keyword (codes "with") at) (expr_tokens e) (naming_tokens name) (sign (codes ":") colon) (suite_tokens suite) fits.0) fits.1)
  stmt_left keep n indent (def_stmt line at name_at bytes opening names closing colon suite) fits =
      ap (λ g. one_stmt 0 at.at no_bytes (def_form bytes (params_list names) g (bare_suite (def_tree (cut_def_head keep (n + 1) line suite) (cut_def keep (n + 1) line suite))))) (suite_globals keep (n + 1) line suite)
      ∙ ap (λ b. one_stmt 0 at.at no_bytes (def_form bytes (params_list names) (globals_of suite) b))
      (def_left keep (n + 1) indent line suite (ends_6 line indent (keyword (codes "def") at) (word bytes name_at) (sign (codes "(") opening) (params_tokens names) (sign (codes ")") closing) (sign (codes ":") colon) (def_suite_tokens suite) fits.0) fits.1)
  stmt_left keep n indent (class_stmt line at name_at bytes of colon suite) fits =
      ap (λ b. one_stmt 0 at.at no_bytes (class_form bytes (base_tree of) b))
      (suite_left keep (n + 1) indent line suite (ends_4 line indent (keyword (codes "class") at) (word bytes name_at) (base_tokens of) (sign (codes ":") colon) (suite_tokens suite) fits.0) fits.1)

  pub suite_left : (keep : ℕ → Bool) (n indent : ℕ) (line : Line) (suite : Suite) → EndsWith line (suite_tokens suite) → FitsSuite indent suite
      → bare_suite (suite_tree (cut_head keep n line suite) (cut_suite keep n line suite)) ≡ bare_suite (or_pass (numbered_suite n (suite_tree line suite)) (kept_suite keep (numbered_suite n (suite_tree line suite))))
  suite_left keep n indent line (on_line s) ends fits = on_line_left keep n (cut_head keep n line (on_line s)).span.to line s ends
  suite_left keep n indent line (block inside body) ends fits =
      let row = numbered_suite n (body_tree body) in
      left_tree (cut_body keep (loses_all keep row) n body) body (or_pass row (kept_suite keep row)) (or_pass_more n body (kept_suite keep row))
      (body_left keep (loses_all keep row) n inside body fits.1 ∙ ap bare_suite (sym (or_filled keep row)))

  pub body_left : (keep : ℕ → Bool) (filled : Bool) (n indent : ℕ) (body : Body) → FitsBody indent body → bare_suite (option_tree (cut_body keep filled n body)) ≡ bare_suite (filled_suite keep filled (numbered_suite n (body_tree body)))
  body_left keep filled n indent (last_stmt s) fits = row_is keep n indent s fits (stmt_left keep n indent s fits) filled None end_suite refl
  body_left keep filled n indent (more_stmt s rest) fits =
      row_is keep n indent s fits.0 (stmt_left keep n indent s fits.0) filled (cut_body keep false (n + size_stmt (stmt_tree s)) rest) (numbered_suite (n + size_stmt (stmt_tree s)) (body_tree rest))
      (body_left keep false (n + size_stmt (stmt_tree s)) indent rest fits.1)

  pub elifs_left : (keep : ℕ → Bool) (n indent : ℕ) (elifs : Elifs) → FitsElifs indent elifs → bare_branches (elif_trees (cut_elifs keep n elifs)) ≡ bare_branches (kept_branches keep (numbered_branches n (elif_trees elifs)))
  elifs_left keep n indent no_elif fits = refl
  elifs_left keep n indent (elif line at test colon suite rest) fits =
      rw (
        suite_left keep n indent line suite (ends_3 line indent (keyword (codes "elif") at) (expr_tokens test) (sign (codes ":") colon) (suite_tokens suite) fits.0) fits.1,
        elifs_left keep (n + size_suite (suite_tree line suite)) indent rest fits.2,
      )

  pub else_left : (keep : ℕ → Bool) (n indent : ℕ) (orelse : Else) → FitsElse indent orelse → bare_else (else_tree (cut_else keep n orelse)) ≡ bare_else (kept_else keep (numbered_else n (else_tree orelse)))
  else_left keep n indent no_else_part fits = refl
  else_left keep n indent (else_part line at colon suite) fits =
      ap else_suite (suite_left keep n indent line suite (ends_2 line indent (keyword (codes "else") at) (sign (codes ":") colon) (suite_tokens suite) fits.0) fits.1)

  pub handlers_left : (keep : ℕ → Bool) (n indent : ℕ) (handlers : Handlers) → FitsHandlers indent handlers → bare_handlers (handler_trees (cut_handlers keep n handlers)) ≡ bare_handlers (kept_handlers keep (numbered_handlers n (handler_trees handlers)))
  handlers_left keep n indent (last_handler line at kind colon suite) fits =
      ap (λ b. more_handlers (kind_class kind) (kind_bound kind) b end_handlers)
      (suite_left keep n indent line suite (ends_3 line indent (keyword (codes "except") at) (kind_tokens kind) (sign (codes ":") colon) (suite_tokens suite) fits.0) fits.1)
  handlers_left keep n indent (more_handler line at kind colon suite rest) fits =
      rw (
        suite_left keep n indent line suite (ends_3 line indent (keyword (codes "except") at) (kind_tokens kind) (sign (codes ":") colon) (suite_tokens suite) fits.0) fits.1,
        handlers_left keep (n + size_suite (suite_tree line suite)) indent rest fits.2,
      )

  pub def_left : (keep : ℕ → Bool) (n indent : ℕ) (line : Line) (suite : DefSuite) → EndsWith line (def_suite_tokens suite) → FitsDef indent suite
      → bare_suite (def_tree (cut_def_head keep n line suite) (cut_def keep n line suite)) ≡ bare_suite (or_pass (numbered_suite n (def_tree line suite)) (kept_suite keep (numbered_suite n (def_tree line suite))))
  def_left keep n indent line (def_line s) ends fits = on_line_left keep n (cut_def_head keep n line (def_line s)).span.to line s ends
  def_left keep n indent line (def_block inside body) ends fits =
      let row = numbered_suite n (def_body_tree body) in
      def_body_left keep (loses_all keep row) n inside body fits.2 ∙ ap bare_suite (sym (or_filled keep row))

  pub def_body_left : (keep : ℕ → Bool) (filled : Bool) (n indent : ℕ) (body : DefBody) → FitsDefBody indent body → bare_suite (def_body_tree (cut_def_body keep filled n body)) ≡ bare_suite (filled_suite keep filled (numbered_suite n (def_body_tree body)))
  def_body_left keep filled n indent end_def fits = refl
  def_body_left keep filled n indent (stmt_in_def s rest) fits =
      def_row_is keep n indent s fits.0 (stmt_left keep n indent s fits.0) filled (cut_def_body keep false (n + size_stmt (stmt_tree s)) rest) (numbered_suite (n + size_stmt (stmt_tree s)) (def_body_tree rest))
      (def_body_left keep false (n + size_stmt (stmt_tree s)) indent rest fits.1)
  def_body_left keep filled n indent (global_in_def line at names rest) fits = def_body_left keep filled n indent rest fits.1

body_of_option : (left : Option Body) → script_body (script_of_body left) ≡ option_tree left
body_of_option None = refl
body_of_option (Some body) = refl

pub script_left : (keep : ℕ → Bool) (s : Script) → FitsScript s → bare_suite (script_body (cut_script keep s)) ≡ bare_suite (kept_suite keep (numbered_suite 0 (script_body s)))
script_left keep empty_script fits = refl
script_left keep (script body) fits =
    ap bare_suite (body_of_option (cut_body keep false 0 body)) ∙ (body_left keep false 0 0 body fits ∙ ap bare_suite (not_filled keep (numbered_suite 0 (body_tree body))))

abbrev script_with : SuiteTree → ℕ → ScriptTree
script_with body count = record { body = body; count = count }

pub same_script : (a b : SuiteTree) → bare_suite a ≡ bare_suite b → script_with (spanless_suite (numbered_suite 0 a)) (size_suite a) ≡ script_with (spanless_suite (numbered_suite 0 b)) (size_suite b)
same_script a b is =
    let bodies : spanless_suite (numbered_suite 0 a) ≡ spanless_suite (numbered_suite 0 b) = suite_anew 0 a ∙ (ap (numbered_suite 0) is ∙ sym (suite_anew 0 b)) in
    let counts : size_suite a ≡ size_suite b = sym (suite_size a) ∙ (ap size_suite is ∙ suite_size b) in
    ap (λ body. script_with body (size_suite a)) bodies ∙ ap (script_with (spanless_suite (numbered_suite 0 b))) counts

-- what a cut leaves of a script has the tree of the deletion
pub script_same : (keep : ℕ → Bool) (s : Script) → FitsScript s → spanless (script_tree (cut_script keep s)) ≡ spanless (deleted keep (script_tree s))
script_same keep s fits = same_script (script_body (cut_script keep s)) (kept_suite keep (numbered_suite 0 (script_body s))) (script_left keep s fits)
