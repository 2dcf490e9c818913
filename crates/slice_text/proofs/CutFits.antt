-- What a cut leaves of a script fits its lines: the lines that stay have their tokens, and `pass` stands where it should.
use Rattle.std.proofs.Common.{◌≡◌, ℕ, ◌+◌, ◌-◌, Bool, true, false, IsTrue, ◌||◌, not, List, ◌++◌, length, take, drop, Option, None, Some, unwrap_or, if◌then◌else◌, refl, sym, ap, ◌∙◌, arith}
use Rattle.std.specs.Prelude.{codes, ⊤}
use Rattle.std.specs.List.{list_any}
use Rattle.py_tree.specs.Descent.{row_numbers}
use Rattle.std.proofs.lemmas.Bool.{false≢true}
use Rattle.std.proofs.lemmas.List.{append_assoc, length-append}
use Rattle.std.proofs.Math.Seq.{take-append_seam, drop-append_seam}
use Rattle.py_lines.specs.declared.parts.Line.{Line}
use Rattle.py_lines.specs.declared.parts.Token.{Token}
use Rattle.py_tree.specs.Tree.{number_of, StmtTree, SuiteTree, one_stmt}
use Rattle.py_tree.specs.Numbering.{size_stmt, size_suite, size_branches, numbered_stmt, numbered_suite}
use Rattle.py_expressions.specs.Tokens.{keyword, sign, word, expr_tokens, exprs_tokens}
use Rattle.py_grammar.specs.Written.{Simple, Stmt, simple, if_stmt, while_stmt, for_stmt, try_stmt, with_stmt, def_stmt, class_stmt, Suite, on_line, block, Body, last_stmt, more_stmt, Elifs, no_elif, elif, Else, no_else_part, else_part, Handlers, last_handler, more_handler, DefSuite, def_line, def_block, DefBody, end_def, stmt_in_def, global_in_def, Script, empty_script, script}
use Rattle.py_grammar.specs.StatementTokens.{simple_tokens, target_tokens, params_tokens, naming_tokens, kind_tokens, base_tokens, suite_tokens, def_suite_tokens}
use Rattle.py_grammar.specs.StatementTrees.{stmt_tree, suite_tree, body_tree, elif_trees, def_body_tree}
use Rattle.py_grammar.specs.Layout.{IsLine, has_stmt, FitsStmt, FitsSuite, FitsBody, FitsElifs, FitsElse, FitsHandlers, FitsDef, FitsDefBody}
use Rattle.py_grammar.specs.Grammar.{FitsScript}
use Rattle.slice_text.specs.Cut.{loses_all}
use Rattle.slice_text.specs.CutScript.{pass_spot, pass_line, before, cut_head, cut_def_head, pass_for, first_line, pass_stmt, with_first, in_place, in_def_place, cut_stmt, cut_suite, cut_body, cut_elifs, cut_else, cut_handlers, cut_def, cut_def_body, script_of_body, cut_script}

-- ---- lines

line_as : (line : Line) (indent : ℕ) (a b : List Token) → a ≡ b → IsLine line indent a → IsLine line indent b
line_as line indent a b same is = record { indent_is = is.indent_is; tokens_are = is.tokens_are ∙ same }

front_length : (front back : List Token) → length (front ++ back) - length back ≡ length front
front_length front back = let both = length-append front back in omega (arith, both)

pub front_is : (tokens front back : List Token) → tokens ≡ front ++ back → take (length tokens - length back) tokens ≡ front
front_is tokens front back is =
    ap (λ (ts : List Token). take (length ts - length back) ts) is ∙ (ap (λ n. take n (front ++ back)) (front_length front back) ∙ take-append_seam front back)

pub back_is : (tokens front back : List Token) → tokens ≡ front ++ back → drop (length tokens - length back) tokens ≡ back
back_is tokens front back is =
    ap (λ (ts : List Token). drop (length ts - length back) ts) is ∙ (ap (λ n. drop n (front ++ back)) (front_length front back) ∙ drop-append_seam front back)

-- `pass` behind what stands before the simple statement at the end of a line
pass_fits : (line : Line) (indent : ℕ) (front : List Token) (s : Simple) → IsLine line indent (front ++ simple_tokens s) → IsLine (pass_line (before line s) line) indent (front ++ simple_tokens (pass_for line s))
pass_fits line indent front s is = record {
  indent_is = is.indent_is;
  tokens_are = ap (λ (ts : List Token). ts ++ keyword (codes "pass") (pass_spot (drop (before line s) line.tokens))) (front_is line.tokens front (simple_tokens s) is.tokens_are);
}

head_fits : (keep : ℕ → Bool) (n : ℕ) (line : Line) (indent : ℕ) (front : List Token) (suite : Suite) → IsLine line indent (front ++ suite_tokens suite) → IsLine (cut_head keep n line suite) indent (front ++ suite_tokens (cut_suite keep n line suite))
head_fits keep n line indent front (block inside body) is = is
head_fits keep n line indent front (on_line s) is = chosen (keep n)
  where
    chosen : (b : Bool) → IsLine (if b then line else pass_line (before line s) line) indent (front ++ simple_tokens (if b then s else pass_for line s))
    chosen true = is
    chosen false = pass_fits line indent front s is

def_head_fits : (keep : ℕ → Bool) (n : ℕ) (line : Line) (indent : ℕ) (front : List Token) (suite : DefSuite) → IsLine line indent (front ++ def_suite_tokens suite) → IsLine (cut_def_head keep n line suite) indent (front ++ def_suite_tokens (cut_def keep n line suite))
def_head_fits keep n line indent front (def_block inside body) is = is
def_head_fits keep n line indent front (def_line s) is = chosen (keep n)
  where
    chosen : (b : Bool) → IsLine (if b then line else pass_line (before line s) line) indent (front ++ simple_tokens (if b then s else pass_for line s))
    chosen true = is
    chosen false = pass_fits line indent front s is

-- the same, where so many parts stand before the suite
pub group_2 : (a b x : List Token) → (a ++ b) ++ x ≡ a ++ (b ++ x)
group_2 a b x = append_assoc a b x

pub group_3 : (a b c x : List Token) → (a ++ (b ++ c)) ++ x ≡ a ++ (b ++ (c ++ x))
group_3 a b c x = append_assoc a (b ++ c) x ∙ ap (λ (ts : List Token). a ++ ts) (group_2 b c x)

pub group_4 : (a b c d x : List Token) → (a ++ (b ++ (c ++ d))) ++ x ≡ a ++ (b ++ (c ++ (d ++ x)))
group_4 a b c d x = append_assoc a (b ++ (c ++ d)) x ∙ ap (λ (ts : List Token). a ++ ts) (group_3 b c d x)

pub group_5 : (a b c d e x : List Token) → (a ++ (b ++ (c ++ (d ++ e)))) ++ x ≡ a ++ (b ++ (c ++ (d ++ (e ++ x))))
group_5 a b c d e x = append_assoc a (b ++ (c ++ (d ++ e))) x ∙ ap (λ (ts : List Token). a ++ ts) (group_4 b c d e x)

pub group_6 : (a b c d e f x : List Token) → (a ++ (b ++ (c ++ (d ++ (e ++ f))))) ++ x ≡ a ++ (b ++ (c ++ (d ++ (e ++ (f ++ x)))))
group_6 a b c d e f x = append_assoc a (b ++ (c ++ (d ++ (e ++ f)))) x ∙ ap (λ (ts : List Token). a ++ ts) (group_5 b c d e f x)

module _ (keep : ℕ → Bool) (n : ℕ) (line : Line) (indent : ℕ) (suite : Suite) where
  fits_2 : (a b : List Token) → IsLine line indent (a ++ (b ++ suite_tokens suite)) → IsLine (cut_head keep n line suite) indent (a ++ (b ++ suite_tokens (cut_suite keep n line suite)))
  fits_2 a b is = line_as _ indent _ _ (group_2 a b _) (head_fits keep n line indent (a ++ b) suite (line_as line indent _ _ (sym (group_2 a b _)) is))

  fits_3 : (a b c : List Token) → IsLine line indent (a ++ (b ++ (c ++ suite_tokens suite))) → IsLine (cut_head keep n line suite) indent (a ++ (b ++ (c ++ suite_tokens (cut_suite keep n line suite))))
  fits_3 a b c is = line_as _ indent _ _ (group_3 a b c _) (head_fits keep n line indent (a ++ (b ++ c)) suite (line_as line indent _ _ (sym (group_3 a b c _)) is))

  fits_4 : (a b c d : List Token) → IsLine line indent (a ++ (b ++ (c ++ (d ++ suite_tokens suite)))) → IsLine (cut_head keep n line suite) indent (a ++ (b ++ (c ++ (d ++ suite_tokens (cut_suite keep n line suite)))))
  fits_4 a b c d is = line_as _ indent _ _ (group_4 a b c d _) (head_fits keep n line indent (a ++ (b ++ (c ++ d))) suite (line_as line indent _ _ (sym (group_4 a b c d _)) is))

  fits_5 : (a b c d e : List Token) → IsLine line indent (a ++ (b ++ (c ++ (d ++ (e ++ suite_tokens suite))))) → IsLine (cut_head keep n line suite) indent (a ++ (b ++ (c ++ (d ++ (e ++ suite_tokens (cut_suite keep n line suite))))))
  fits_5 a b c d e is = line_as _ indent _ _ (group_5 a b c d e _) (head_fits keep n line indent (a ++ (b ++ (c ++ (d ++ e)))) suite (line_as line indent _ _ (sym (group_5 a b c d e _)) is))

def_fits_6 : (keep : ℕ → Bool) (n : ℕ) (line : Line) (indent : ℕ) (suite : DefSuite) (a b c d e f : List Token) → IsLine line indent (a ++ (b ++ (c ++ (d ++ (e ++ (f ++ def_suite_tokens suite))))))
    → IsLine (cut_def_head keep n line suite) indent (a ++ (b ++ (c ++ (d ++ (e ++ (f ++ def_suite_tokens (cut_def keep n line suite)))))))
def_fits_6 keep n line indent suite a b c d e f is =
    line_as _ indent _ _ (group_6 a b c d e f _) (def_head_fits keep n line indent (a ++ (b ++ (c ++ (d ++ (e ++ f))))) suite (line_as line indent _ _ (sym (group_6 a b c d e f _)) is))

-- ---- statements that go

pub first_indent : (indent : ℕ) (s : Stmt) → FitsStmt indent s → (first_line s).indent ≡ indent
first_indent indent (simple line s) fits = fits.indent_is
first_indent indent (if_stmt line at test colon suite elifs orelse) fits = fits.0.indent_is
first_indent indent (while_stmt line at test colon suite) fits = fits.0.indent_is
first_indent indent (for_stmt line at t in_word e colon suite) fits = fits.0.indent_is
first_indent indent (try_stmt line at colon suite handlers) fits = fits.0.indent_is
first_indent indent (with_stmt line at e name colon suite) fits = fits.0.indent_is
first_indent indent (def_stmt line at name_at bytes opening names closing colon suite) fits = fits.0.indent_is
first_indent indent (class_stmt line at name_at bytes of colon suite) fits = fits.0.indent_is

pass_stmt_fits : (indent : ℕ) (s : Stmt) → FitsStmt indent s → FitsStmt indent (pass_stmt (first_line s))
pass_stmt_fits indent s fits = record { indent_is = first_indent indent s fits; tokens_are = refl }

pub number_numbered : (n : ℕ) (t : StmtTree) → number_of (numbered_stmt n t) ≡ n
number_numbered n (one_stmt number at span form) = refl

-- ---- what is left

abbrev pub FitsOption : ℕ → Option Body → Type 0
FitsOption indent None = ⊤
FitsOption indent (Some body) = FitsBody indent body

pick : (indent : ℕ) (b : Bool) (x y : Option Body) → FitsOption indent x → FitsOption indent y → FitsOption indent (if b then x else y)
pick indent true x y one two = one
pick indent false x y one two = two

pick_def : (indent : ℕ) (b : Bool) (x y : DefBody) → FitsDefBody indent x → FitsDefBody indent y → FitsDefBody indent (if b then x else y)
pick_def indent true x y one two = one
pick_def indent false x y one two = two

first_fits : (indent : ℕ) (s : Stmt) (rest : Option Body) → FitsStmt indent s → FitsOption indent rest → FitsBody indent (with_first s rest)
first_fits indent s None fits left = fits
first_fits indent s (Some rest) fits left = (fits, left)

place_fits : (indent : ℕ) (filled : Bool) (s : Stmt) (rest : Option Body) → FitsStmt indent s → FitsOption indent rest → FitsOption indent (in_place filled s rest)
place_fits indent true s rest fits left = first_fits indent (pass_stmt (first_line s)) rest (pass_stmt_fits indent s fits) left
place_fits indent false s rest fits left = left

def_place_fits : (indent : ℕ) (filled : Bool) (s : Stmt) (rest : DefBody) → FitsStmt indent s → FitsDefBody indent rest → FitsDefBody indent (in_def_place filled s rest)
def_place_fits indent true s rest fits left = (pass_stmt_fits indent s fits, left)
def_place_fits indent false s rest fits left = left

left_fits : (indent : ℕ) (left : Option Body) (body : Body) → FitsOption indent left → FitsBody indent body → FitsBody indent (unwrap_or left body)
left_fits indent None body one two = two
left_fits indent (Some b) body one two = one

-- where some statement of a `def` stays, one is left, and where all go there is `pass`
some_left : (keep : ℕ → Bool) (n : ℕ) (body : DefBody) → loses_all keep (numbered_suite n (def_body_tree body)) ≡ false → IsTrue (has_stmt (cut_def_body keep false n body))
some_left keep n end_def is = absurd (false≢true (sym is))
some_left keep n (global_in_def line at names rest) is = some_left keep n rest is
some_left keep n (stmt_in_def s rest) is = chosen (keep n) refl (some_left keep (n + size_stmt (stmt_tree s)) rest)
  where
    others : SuiteTree
    others = numbered_suite (n + size_stmt (stmt_tree s)) (def_body_tree rest)

    chosen : (b : Bool) → keep n ≡ b → (loses_all keep others ≡ false → IsTrue (has_stmt (cut_def_body keep false (n + size_stmt (stmt_tree s)) rest)))
        → IsTrue (has_stmt (if b then stmt_in_def (cut_stmt keep n s) (cut_def_body keep false (n + size_stmt (stmt_tree s)) rest) else cut_def_body keep false (n + size_stmt (stmt_tree s)) rest))
    chosen true stays later = refl
    chosen false goes later =
        let first : keep (number_of (numbered_stmt n (stmt_tree s))) ≡ false = ap keep (number_numbered n (stmt_tree s)) ∙ goes in
        later (sym (ap (λ b. not (b || list_any keep (row_numbers others))) first) ∙ is)

def_has : (keep : ℕ → Bool) (filled : Bool) (n : ℕ) (body : DefBody) → loses_all keep (numbered_suite n (def_body_tree body)) ≡ filled → IsTrue (has_stmt body) → IsTrue (has_stmt (cut_def_body keep filled n body))
def_has keep false n body is has = some_left keep n body is
def_has keep true n end_def is has = has
def_has keep true n (global_in_def line at names rest) is has = def_has keep true n rest is has
def_has keep true n (stmt_in_def s rest) is has = chosen (keep n)
  where
    chosen : (b : Bool) → IsTrue (has_stmt (if b then stmt_in_def (cut_stmt keep n s) (cut_def_body keep false (n + size_stmt (stmt_tree s)) rest) else stmt_in_def (pass_stmt (first_line s)) (cut_def_body keep false (n + size_stmt (stmt_tree s)) rest)))
    chosen true = refl
    chosen false = refl

mutual
  pub stmt_fits : (keep : ℕ → Bool) (n indent : ℕ) (s : Stmt) → FitsStmt indent s → FitsStmt indent (cut_stmt keep n s)
  stmt_fits keep n indent (simple line s) fits = fits
  stmt_fits keep n indent (if_stmt line at test colon suite elifs orelse) fits = (
    fits_3 keep (n + 1) line indent suite (keyword (codes "if") at) (expr_tokens test) (sign (codes ":") colon) fits.0,
    suite_fits keep (n + 1) indent line suite fits.1,
    elifs_fit keep (n + 1 + size_suite (suite_tree line suite)) indent elifs fits.2,
    else_fits keep (n + 1 + (size_suite (suite_tree line suite) + size_branches (elif_trees elifs))) indent orelse fits.3,
  )
  stmt_fits keep n indent (while_stmt line at test colon suite) fits =
      (fits_3 keep (n + 1) line indent suite (keyword (codes "while") at) (expr_tokens test) (sign (codes ":") colon) fits.0, suite_fits keep (n + 1) indent line suite fits.1)
  stmt_fits keep n indent (for_stmt line at t in_word e colon suite) fits =
      (fits_5 keep (n + 1) line indent suite (keyword (codes "for") at) (target_tokens t) (keyword (codes "in") in_word) (exprs_tokens e) (sign (codes ":") colon) fits.0, suite_fits keep (n + 1) indent line suite fits.1)
  stmt_fits keep n indent (try_stmt line at colon suite handlers) fits =
      (fits_2 keep (n + 1) line indent suite (keyword (codes "try") at) (sign (codes ":") colon) fits.0, suite_fits keep (n + 1) indent line suite fits.1, handlers_fit keep (n + 1 + size_suite (suite_tree line suite)) indent handlers fits.2)
  stmt_fits keep n indent (with_stmt line at e name colon suite) fits =
      (fits_4 keep (n + 1) line indent suite (keyword (codes "with") at) (expr_tokens e) (naming_tokens name) (sign (codes ":") colon) fits.0, suite_fits keep (n + 1) indent line suite fits.1)
  stmt_fits keep n indent (def_stmt line at name_at bytes opening names closing colon suite) fits =
      (def_fits_6 keep (n + 1) line indent suite (keyword (codes "def") at) (word bytes name_at) (sign (codes "(") opening) (params_tokens names) (sign (codes ")") closing) (sign (codes ":") colon) fits.0, def_fits keep (n + 1) indent line suite fits.1)
  stmt_fits keep n indent (class_stmt line at name_at bytes of colon suite) fits =
      (fits_4 keep (n + 1) line indent suite (keyword (codes "class") at) (word bytes name_at) (base_tokens of) (sign (codes ":") colon) fits.0, suite_fits keep (n + 1) indent line suite fits.1)

  pub suite_fits : (keep : ℕ → Bool) (n indent : ℕ) (line : Line) (suite : Suite) → FitsSuite indent suite → FitsSuite indent (cut_suite keep n line suite)
  suite_fits keep n indent line (on_line s) fits = fits
  suite_fits keep n indent line (block inside body) fits =
      (fits.0, left_fits inside (cut_body keep (loses_all keep (numbered_suite n (body_tree body))) n body) body (body_fits keep (loses_all keep (numbered_suite n (body_tree body))) n inside body fits.1) fits.1)

  pub body_fits : (keep : ℕ → Bool) (filled : Bool) (n indent : ℕ) (body : Body) → FitsBody indent body → FitsOption indent (cut_body keep filled n body)
  body_fits keep filled n indent (last_stmt s) fits =
      let left : FitsOption indent None = tt in
      pick indent (keep n) (Some (last_stmt (cut_stmt keep n s))) (in_place filled s None) (stmt_fits keep n indent s fits) (place_fits indent filled s None fits left)
  body_fits keep filled n indent (more_stmt s rest) fits =
      let left = body_fits keep false (n + size_stmt (stmt_tree s)) indent rest fits.1 in
      let others = cut_body keep false (n + size_stmt (stmt_tree s)) rest in
      pick indent (keep n) (Some (with_first (cut_stmt keep n s) others)) (in_place filled s others)
      (first_fits indent (cut_stmt keep n s) others (stmt_fits keep n indent s fits.0) left) (place_fits indent filled s others fits.0 left)

  pub elifs_fit : (keep : ℕ → Bool) (n indent : ℕ) (elifs : Elifs) → FitsElifs indent elifs → FitsElifs indent (cut_elifs keep n elifs)
  elifs_fit keep n indent no_elif fits = fits
  elifs_fit keep n indent (elif line at test colon suite rest) fits =
      (fits_3 keep n line indent suite (keyword (codes "elif") at) (expr_tokens test) (sign (codes ":") colon) fits.0, suite_fits keep n indent line suite fits.1, elifs_fit keep (n + size_suite (suite_tree line suite)) indent rest fits.2)

  pub else_fits : (keep : ℕ → Bool) (n indent : ℕ) (orelse : Else) → FitsElse indent orelse → FitsElse indent (cut_else keep n orelse)
  else_fits keep n indent no_else_part fits = fits
  else_fits keep n indent (else_part line at colon suite) fits =
      (fits_2 keep n line indent suite (keyword (codes "else") at) (sign (codes ":") colon) fits.0, suite_fits keep n indent line suite fits.1)

  pub handlers_fit : (keep : ℕ → Bool) (n indent : ℕ) (handlers : Handlers) → FitsHandlers indent handlers → FitsHandlers indent (cut_handlers keep n handlers)
  handlers_fit keep n indent (last_handler line at kind colon suite) fits =
      (fits_3 keep n line indent suite (keyword (codes "except") at) (kind_tokens kind) (sign (codes ":") colon) fits.0, suite_fits keep n indent line suite fits.1)
  handlers_fit keep n indent (more_handler line at kind colon suite rest) fits =
      (fits_3 keep n line indent suite (keyword (codes "except") at) (kind_tokens kind) (sign (codes ":") colon) fits.0, suite_fits keep n indent line suite fits.1, handlers_fit keep (n + size_suite (suite_tree line suite)) indent rest fits.2)

  pub def_fits : (keep : ℕ → Bool) (n indent : ℕ) (line : Line) (suite : DefSuite) → FitsDef indent suite → FitsDef indent (cut_def keep n line suite)
  def_fits keep n indent line (def_line s) fits = fits
  def_fits keep n indent line (def_block inside body) fits =
      (fits.0, def_has keep (loses_all keep (numbered_suite n (def_body_tree body))) n body refl fits.1, def_body_fits keep (loses_all keep (numbered_suite n (def_body_tree body))) n inside body fits.2)

  pub def_body_fits : (keep : ℕ → Bool) (filled : Bool) (n indent : ℕ) (body : DefBody) → FitsDefBody indent body → FitsDefBody indent (cut_def_body keep filled n body)
  def_body_fits keep filled n indent end_def fits = fits
  def_body_fits keep filled n indent (stmt_in_def s rest) fits =
      let left = def_body_fits keep false (n + size_stmt (stmt_tree s)) indent rest fits.1 in
      let others = cut_def_body keep false (n + size_stmt (stmt_tree s)) rest in
      pick_def indent (keep n) (stmt_in_def (cut_stmt keep n s) others) (in_def_place filled s others) (stmt_fits keep n indent s fits.0, left) (def_place_fits indent filled s others fits.0 left)
  def_body_fits keep filled n indent (global_in_def line at names rest) fits = (fits.0, def_body_fits keep filled n indent rest fits.1)

script_fits_body : (left : Option Body) → FitsOption 0 left → FitsScript (script_of_body left)
script_fits_body None fits = fits
script_fits_body (Some body) fits = fits

pub script_fits : (keep : ℕ → Bool) (s : Script) → FitsScript s → FitsScript (cut_script keep s)
script_fits keep empty_script fits = fits
script_fits keep (script body) fits = script_fits_body (cut_body keep false 0 body) (body_fits keep false 0 0 body fits)
