-- The rows of a script of the grammar fit.
use Rattle.std.proofs.Common.{◌≡◌, ℕ, Bool, true, false, ◌&&◌, ◌||◌, not, List, ◌++◌, codes, Option, Some, None, is_none, refl, ap, sym, ◌∙◌, subst}
use Rattle.std.proofs.lemmas.Bool.{false≢true}
use Rattle.py_lines.specs.declared.parts.Line.{Line}
use Rattle.py_lines.specs.declared.parts.Token.{Token}
use Rattle.py_grammar.specs.declared.context.Last.{Last}
use Rattle.py_grammar.specs.declared.context.Last.TheVariants.{Nothing, Loop, If, Try, Handler, Every}
use Rattle.py_expressions.specs.Concrete.{Spot}
use Rattle.py_grammar.specs.Written.{Simple, Params, Kind, every_kind, one_kind, Stmt, simple, if_stmt, while_stmt, for_stmt, try_stmt, with_stmt, def_stmt, class_stmt, Suite, on_line, block, Body, last_stmt, more_stmt, Elifs, no_elif, elif, Else, no_else_part, else_part, Handlers, last_handler, more_handler, DefSuite, def_line, def_block, DefBody, end_def, stmt_in_def, global_in_def, Script, empty_script, script}
use Rattle.py_expressions.specs.Tokens.{keyword, sign, word, expr_tokens, exprs_tokens}
use Rattle.py_grammar.specs.StatementTokens.{suite_tokens, def_suite_tokens, target_tokens, naming_tokens, kind_tokens, params_tokens, base_tokens}
use Rattle.py_grammar.specs.Layout.{IsLine, FitsStmt, FitsSuite, FitsBody, FitsElifs, FitsElse, FitsHandlers, FitsDef, FitsDefBody, has_stmt}
use Rattle.py_grammar.specs.Grammar.{FitsScript}
use Rattle.py_grammar.specs.LineReader.{Head, simple_head, if_head, elif_head, else_head, while_head, for_head, try_head, except_head, with_head, def_head, class_head, global_head, behind_tokens}
use Rattle.py_grammar.specs.ParsedHead.{takes_branch, takes_handler, lacks_handler}
use Rattle.py_parser.specs.Rows.{Rows, end_rows, Level, start, opens, last_after, after, inside, is_every, FitsUnder, FitsRows, FitsStart}
use Rattle.py_parser.specs.Grouped.{no_spot, behind, behind_def, stmt_rows, suite_rows, body_rows, elif_rows, else_rows, handler_rows, def_suite_rows, def_rows, script_rows}

pub tokens_behind : (s : Suite) → suite_tokens s ≡ behind_tokens (behind s)
tokens_behind (on_line s) = refl
tokens_behind (block inside body) = refl

pub def_tokens_behind : (s : DefSuite) → def_suite_tokens s ≡ behind_tokens (behind_def s)
def_tokens_behind (def_line s) = refl
def_tokens_behind (def_block inside body) = refl

pub other_tokens : (line : Line) (indent : ℕ) (ts us : List Token) → ts ≡ us → IsLine line indent ts → IsLine line indent us
other_tokens line indent ts us is fits = record { indent_is = fits.indent_is; tokens_are = fits.tokens_are ∙ is }

-- Rows fit behind a statement, whichever it is, if they fit wherever no handler is missing.
pub record Behind (l : Level) (rest : Rows) : Type 0 where
  pub fits : (m : Level) → m.indent ≡ l.indent → m.of_def ≡ l.of_def → m.has_stmt ≡ true → lacks_handler m.context.last ≡ false → FitsRows m rest

-- behind the parts of an `if`
record BehindParts (l : Level) (rest : Rows) : Type 0 where
  fits : (m : Level) → m.indent ≡ l.indent → m.of_def ≡ l.of_def → m.has_stmt ≡ true → takes_branch m.context.last ≡ true → FitsRows m rest

either : (a : Bool) → (a || true) ≡ true
either true = refl
either false = refl

branch_is_none : (last : Last) → takes_branch last ≡ true → lacks_handler last ≡ false
branch_is_none If is = refl
branch_is_none Nothing is = absurd (false≢true is)
branch_is_none Loop is = absurd (false≢true is)
branch_is_none Try is = absurd (false≢true is)
branch_is_none Handler is = absurd (false≢true is)
branch_is_none Every is = absurd (false≢true is)

fine : (b : Bool) → b ≡ false → not b ≡ true
fine true is = absurd (let no : true ≡ false = is in cc)
fine false is = refl

both : (a b : Bool) → a ≡ true → b ≡ true → (a && b) ≡ true
both true true one other = refl
both true false one other = absurd (false≢true other)
both false b one other = absurd (false≢true one)

first_of_either : (a b : Bool) → a ≡ true → (a || b) ≡ true
first_of_either true b is = refl
first_of_either false b is = absurd (false≢true is)

-- neither changes by a `global` line
same_either : (a b : Bool) → (a || b) ≡ true → ((a || false) || b) ≡ true
same_either true b is = refl
same_either false b is = is

without : (a : Bool) → (a || false) ≡ true → a ≡ true
without true is = refl
without false is = is

after_handler : (kind : Kind) → lacks_handler (last_after (except_head no_spot kind no_spot None)) ≡ false
after_handler every_kind = refl
after_handler (one_kind e called) = refl

more_handlers : (kind : Kind) → (takes_handler (last_after (except_head no_spot kind no_spot None)) || is_every (last_after (except_head no_spot kind no_spot None))) ≡ true
more_handlers every_kind = refl
more_handlers (one_kind e called) = refl

moved : (l m : Level) (rest : Rows) → m.indent ≡ l.indent → m.of_def ≡ l.of_def → Behind l rest → Behind m rest
moved l m rest indent def b = record { fits = λ k i d has lacks. b.fits k (i ∙ indent) (d ∙ def) has lacks }

mutual
  pub stmt_fits : (l : Level) (s : Stmt) (rest : Rows) → FitsStmt l.indent s → lacks_handler l.context.last ≡ false → Behind l rest → FitsRows l (stmt_rows s rest)
  stmt_fits l (simple line s) rest fits lacks b = (fits, fine _ lacks, refl, b.fits (after l (simple_head s)) refl refl (either l.has_stmt) refl)
  stmt_fits l (if_stmt line at test colon suite elifs orelse) rest fits lacks b = (
    other_tokens line l.indent _ _ (ap (λ ts. keyword (codes "if") at ++ (expr_tokens test ++ (sign (codes ":") colon ++ ts))) (tokens_behind suite)) fits.0,
    fine _ lacks,
    suite_fits l (if_head at test colon) suite fits.1 (λ s. refl),
    elifs_fit (after l (if_head at test colon (behind suite))) elifs (else_rows orelse rest) fits.2 refl (either l.has_stmt)
        (record { fits = λ m indent def has takes. else_fits m orelse rest (subst (λ d. FitsElse d orelse) (sym indent) fits.3) takes has (moved l m rest indent def b) }),
  )
  stmt_fits l (while_stmt line at test colon suite) rest fits lacks b = (
    other_tokens line l.indent _ _ (ap (λ ts. keyword (codes "while") at ++ (expr_tokens test ++ (sign (codes ":") colon ++ ts))) (tokens_behind suite)) fits.0,
    fine _ lacks,
    suite_fits l (while_head at test colon) suite fits.1 (λ s. refl),
    b.fits (after l (while_head at test colon (behind suite))) refl refl (either l.has_stmt) refl,
  )
  stmt_fits l (for_stmt line at t in_word e colon suite) rest fits lacks b = (
    other_tokens line l.indent _ _ (ap (λ ts. keyword (codes "for") at ++ (target_tokens t ++ (keyword (codes "in") in_word ++ (exprs_tokens e ++ (sign (codes ":") colon ++ ts))))) (tokens_behind suite)) fits.0,
    fine _ lacks,
    suite_fits l (for_head at t in_word e colon) suite fits.1 (λ s. refl),
    b.fits (after l (for_head at t in_word e colon (behind suite))) refl refl (either l.has_stmt) refl,
  )
  stmt_fits l (try_stmt line at colon suite handlers) rest fits lacks b = (
    other_tokens line l.indent _ _ (ap (λ ts. keyword (codes "try") at ++ (sign (codes ":") colon ++ ts)) (tokens_behind suite)) fits.0,
    fine _ lacks,
    suite_fits l (try_head at colon) suite fits.1 (λ s. refl),
    handlers_fit (after l (try_head at colon (behind suite))) handlers rest fits.2 refl (moved l (after l (try_head at colon (behind suite))) rest refl refl b),
  )
  stmt_fits l (with_stmt line at e called colon suite) rest fits lacks b = (
    other_tokens line l.indent _ _ (ap (λ ts. keyword (codes "with") at ++ (expr_tokens e ++ (naming_tokens called ++ (sign (codes ":") colon ++ ts)))) (tokens_behind suite)) fits.0,
    fine _ lacks,
    suite_fits l (with_head at e called colon) suite fits.1 (λ s. refl),
    b.fits (after l (with_head at e called colon (behind suite))) refl refl (either l.has_stmt) refl,
  )
  stmt_fits l (def_stmt line at name_at bytes opening names closing colon suite) rest fits lacks b = (
    other_tokens line l.indent _ _ (ap (λ ts. keyword (codes "def") at ++ (word bytes name_at ++ (sign (codes "(") opening ++ (params_tokens names ++ (sign (codes ")") closing ++ (sign (codes ":") colon ++ ts)))))) (def_tokens_behind suite)) fits.0,
    fine _ lacks,
    def_fits l at name_at bytes opening names closing colon suite fits.1,
    b.fits (after l (def_head at name_at bytes opening names closing colon (behind_def suite))) refl refl (either l.has_stmt) refl,
  )
  stmt_fits l (class_stmt line at name_at bytes of colon suite) rest fits lacks b = (
    other_tokens line l.indent _ _ (ap (λ ts. keyword (codes "class") at ++ (word bytes name_at ++ (base_tokens of ++ (sign (codes ":") colon ++ ts)))) (tokens_behind suite)) fits.0,
    fine _ lacks,
    suite_fits l (class_head at name_at bytes of colon) suite fits.1 (λ s. refl),
    b.fits (after l (class_head at name_at bytes of colon (behind suite))) refl refl (either l.has_stmt) refl,
  )

  suite_fits : (l : Level) (h : Option Simple → Head) (s : Suite) → FitsSuite l.indent s → ((b : Option Simple) → opens (h b) ≡ is_none b) → FitsUnder l (h (behind s)) (suite_rows s)
  suite_fits l h (on_line s) fits open_is = open_is (Some s)
  suite_fits l h (block indent body) fits open_is = (open_is None, fits.0, body_fits (inside l (h None) indent) body fits.1 refl)

  pub body_fits : (l : Level) (b : Body) → FitsBody l.indent b → lacks_handler l.context.last ≡ false → FitsRows l (body_rows b)
  body_fits l (last_stmt s) fits lacks = stmt_fits l s end_rows fits lacks (record { fits = λ m indent def has none. both _ _ has (fine _ none) })
  body_fits l (more_stmt s rest) fits lacks = stmt_fits l s (body_rows rest) fits.0 lacks
      (record { fits = λ m indent def has none. body_fits m rest (subst (λ d. FitsBody d rest) (sym indent) fits.1) none })

  elifs_fit : (l : Level) (e : Elifs) (rest : Rows) → FitsElifs l.indent e → takes_branch l.context.last ≡ true → l.has_stmt ≡ true → BehindParts l rest → FitsRows l (elif_rows e rest)
  elifs_fit l no_elif rest fits takes has p = p.fits l refl refl has takes
  elifs_fit l (elif line at test colon suite more) rest fits takes has p = (
    other_tokens line l.indent _ _ (ap (λ ts. keyword (codes "elif") at ++ (expr_tokens test ++ (sign (codes ":") colon ++ ts))) (tokens_behind suite)) fits.0,
    takes,
    suite_fits l (elif_head at test colon) suite fits.1 (λ s. refl),
    elifs_fit (after l (elif_head at test colon (behind suite))) more rest fits.2 refl (either l.has_stmt) (record { fits = p.fits }),
  )

  else_fits : (l : Level) (e : Else) (rest : Rows) → FitsElse l.indent e → takes_branch l.context.last ≡ true → l.has_stmt ≡ true → Behind l rest → FitsRows l (else_rows e rest)
  else_fits l no_else_part rest fits takes has b = b.fits l refl refl has (branch_is_none l.context.last takes)
  else_fits l (else_part line at colon suite) rest fits takes has b = (
    other_tokens line l.indent _ _ (ap (λ ts. keyword (codes "else") at ++ (sign (codes ":") colon ++ ts)) (tokens_behind suite)) fits.0,
    takes,
    suite_fits l (else_head at colon) suite fits.1 (λ s. refl),
    b.fits (after l (else_head at colon (behind suite))) refl refl (either l.has_stmt) refl,
  )

  handlers_fit : (l : Level) (h : Handlers) (rest : Rows) → FitsHandlers l.indent h → (takes_handler l.context.last || is_every l.context.last) ≡ true → Behind l rest → FitsRows l (handler_rows h rest)
  handlers_fit l (last_handler line at kind colon suite) rest fits takes b = (
    other_tokens line l.indent _ _ (ap (λ ts. keyword (codes "except") at ++ (kind_tokens kind ++ (sign (codes ":") colon ++ ts))) (tokens_behind suite)) fits.0,
    takes,
    suite_fits l (except_head at kind colon) suite fits.1 (λ s. refl),
    b.fits (after l (except_head at kind colon (behind suite))) refl refl (either l.has_stmt) (after_handler kind),
  )
  handlers_fit l (more_handler line at kind colon suite more) rest fits takes b = (
    other_tokens line l.indent _ _ (ap (λ ts. keyword (codes "except") at ++ (kind_tokens kind ++ (sign (codes ":") colon ++ ts))) (tokens_behind suite)) fits.0,
    takes,
    suite_fits l (except_head at kind colon) suite fits.1 (λ s. refl),
    handlers_fit (after l (except_head at kind colon (behind suite))) more rest fits.2 (more_handlers kind) (moved l (after l (except_head at kind colon (behind suite))) rest refl refl b),
  )

  def_fits : (l : Level) (at name_at : Spot) (bytes : List ℕ) (opening : Spot) (names : Params) (closing colon : Spot) (s : DefSuite) → FitsDef l.indent s
      → FitsUnder l (def_head at name_at bytes opening names closing colon (behind_def s)) (def_suite_rows s)
  def_fits l at name_at bytes opening names closing colon (def_line s) fits = refl
  def_fits l at name_at bytes opening names closing colon (def_block indent body) fits =
      (refl, fits.0, def_body_fits (inside l (def_head at name_at bytes opening names closing colon None) indent) body fits.2 refl fits.1 refl)

  def_body_fits : (l : Level) (b : DefBody) → FitsDefBody l.indent b → l.of_def ≡ true → (l.has_stmt || has_stmt b) ≡ true → lacks_handler l.context.last ≡ false → FitsRows l (def_rows b)
  def_body_fits l end_def fits of has lacks = both _ _ (without l.has_stmt has) (fine _ lacks)
  def_body_fits l (stmt_in_def s rest) fits of has lacks = stmt_fits l s (def_rows rest) fits.0 lacks
      (record { fits = λ m indent def some none. def_body_fits m rest (subst (λ d. FitsDefBody d rest) (sym indent) fits.1) (def ∙ of) (first_of_either m.has_stmt (has_stmt rest) some) none })
  def_body_fits l (global_in_def line at names rest) fits of has lacks =
      (fits.0, both _ _ of (fine _ lacks), refl, def_body_fits (after l (global_head at names)) rest fits.1 of (same_either l.has_stmt (has_stmt rest) has) refl)

begins : (s : Stmt) (rest : Rows) → FitsRows start (stmt_rows s rest) → FitsStart (stmt_rows s rest)
begins (simple line s) rest fits = fits
begins (if_stmt line at test colon suite elifs orelse) rest fits = fits
begins (while_stmt line at test colon suite) rest fits = fits
begins (for_stmt line at t in_word e colon suite) rest fits = fits
begins (try_stmt line at colon suite handlers) rest fits = fits
begins (with_stmt line at e called colon suite) rest fits = fits
begins (def_stmt line at name_at bytes opening names closing colon suite) rest fits = fits
begins (class_stmt line at name_at bytes of colon suite) rest fits = fits

pub script_fits : (s : Script) → FitsScript s → FitsStart (script_rows s)
script_fits empty_script fits = tt
script_fits (script (last_stmt s)) fits = begins s end_rows (body_fits start (last_stmt s) fits refl)
script_fits (script (more_stmt s rest)) fits = begins s (body_rows rest) (body_fits start (more_stmt s rest) fits refl)
