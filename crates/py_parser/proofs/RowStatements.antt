-- Rows that fit are those of statements of the grammar.
use Rattle.std.proofs.Common.{◌≡◌, ℕ, Bool, true, false, ◌&&◌, ◌||◌, not, List, ◌++◌, codes, Option, Some, None, is_none, refl, ap, sym, ◌∙◌}
use Rattle.std.proofs.lemmas.Bool.{false≢true}
use Rattle.py_lines.specs.declared.parts.Line.{Line}
use Rattle.py_lines.specs.declared.parts.Token.{Token}
use Rattle.py_grammar.specs.declared.context.Last.{Last}
use Rattle.py_grammar.specs.declared.context.Last.TheVariants.{Nothing, Loop, If, Try, Handler, Every}
use Rattle.py_expressions.specs.Concrete.{Spot}
use Rattle.py_expressions.specs.Tokens.{keyword, sign, word, expr_tokens, exprs_tokens}
use Rattle.py_grammar.specs.Written.{Simple, Kind, every_kind, one_kind, Stmt, simple, if_stmt, while_stmt, for_stmt, try_stmt, with_stmt, def_stmt, class_stmt, Suite, no_elif, no_else_part, Handlers, DefSuite, DefBody, end_def, stmt_in_def, global_in_def, Script}
use Rattle.py_grammar.specs.StatementTokens.{suite_tokens, target_tokens, naming_tokens, kind_tokens, params_tokens, base_tokens}
use Rattle.py_grammar.specs.Layout.{IsLine, FitsStmt, FitsSuite, FitsBody, FitsElifs, FitsElse, FitsHandlers, FitsDef, FitsDefBody, has_stmt}
use Rattle.py_grammar.specs.Grammar.{FitsScript}
use Rattle.py_grammar.specs.LineReader.{Head, simple_head, if_head, elif_head, else_head, while_head, for_head, try_head, except_head, with_head, def_head, class_head, global_head, behind_tokens}
use Rattle.py_grammar.specs.ParsedHead.{takes_branch, takes_handler, lacks_handler}
use Rattle.py_parser.specs.Rows.{Rows, end_rows, row, Under, nothing, block as under, Level, start, is_def, opens, last_after, after, inside, is_every, FitsUnder, FitsRows, FitsStart}
use Rattle.py_parser.specs.Grouped.{Grouped, grouped, statements, handlers_of, one_handler, body_of, suite_of, def_suite_of, script_of, no_spot, behind, behind_def, stmt_rows, suite_rows, body_rows, elif_rows, else_rows, handler_rows, def_suite_rows, def_rows, script_rows}
use Rattle.py_parser.proofs.RowFits.{tokens_behind, def_tokens_behind, other_tokens}

-- ---- handlers, which may be none

abbrev maybe_rows : Option Handlers → Rows → Rows
maybe_rows None rest = rest
maybe_rows (Some handlers) rest = handler_rows handlers rest

abbrev FitsMaybe : ℕ → Option Handlers → Type 0
FitsMaybe d None = Unit {0}
FitsMaybe d (Some handlers) = FitsHandlers d handlers

-- no `global` line is left
abbrev without_globals : DefBody → Bool
without_globals end_def = true
without_globals (stmt_in_def s rest) = without_globals rest
without_globals (global_in_def line at names rest) = false

abbrev takes_some : Last → Bool
takes_some last = takes_handler last || is_every last

-- what is known of the statements that rows spell
record IsGrouped (l : Level) (rows : Rows) (g : Grouped) : Type 0 where
  rows_are : elif_rows g.elifs (else_rows g.orelse (maybe_rows g.handlers (def_rows g.rest))) ≡ rows
  elifs_fit : FitsElifs l.indent g.elifs
  else_fits : FitsElse l.indent g.orelse
  handlers_fit : FitsMaybe l.indent g.handlers
  rest_fits : FitsDefBody l.indent g.rest
  no_elif_part : takes_branch l.context.last ≡ false → g.elifs ≡ no_elif
  no_else : takes_branch l.context.last ≡ false → g.orelse ≡ no_else_part
  no_handler : takes_some l.context.last ≡ false → g.handlers ≡ None
  a_handler : lacks_handler l.context.last ≡ true → is_none g.handlers ≡ false
  has : (l.has_stmt || has_stmt g.rest) ≡ true
  globals : l.of_def ≡ false → without_globals g.rest ≡ true

-- ---- bodies

body_is : (b : DefBody) → has_stmt b ≡ true → without_globals b ≡ true → body_rows (body_of b) ≡ def_rows b
body_is end_def has no_globals = absurd (false≢true has)
body_is (stmt_in_def s end_def) has no_globals = refl
body_is (stmt_in_def s (stmt_in_def t rest)) has no_globals = ap (stmt_rows s) (body_is (stmt_in_def t rest) refl no_globals)
body_is (stmt_in_def s (global_in_def line at names rest)) has no_globals = absurd (false≢true no_globals)
body_is (global_in_def line at names rest) has no_globals = absurd (false≢true no_globals)

body_fits : (d : ℕ) (b : DefBody) → has_stmt b ≡ true → without_globals b ≡ true → FitsDefBody d b → FitsBody d (body_of b)
body_fits d end_def has no_globals fits = absurd (false≢true has)
body_fits d (stmt_in_def s end_def) has no_globals fits = fits.0
body_fits d (stmt_in_def s (stmt_in_def t rest)) has no_globals fits = (fits.0, body_fits d (stmt_in_def t rest) refl no_globals fits.1)
body_fits d (stmt_in_def s (global_in_def line at names rest)) has no_globals fits = absurd (false≢true no_globals)
body_fits d (global_in_def line at names rest) has no_globals fits = absurd (false≢true no_globals)

-- ---- rows put together

row_is : (line : Line) (h : Option Simple → Head) (b c : Option Simple) (u v : Under) (r s : Rows) → b ≡ c → u ≡ v → r ≡ s → row line (h b) u r ≡ row line (h c) v s
row_is line h b c u v r s is one other = ap (λ x. row line (h x) u r) is ∙ ap (λ x. row line (h c) x r) one ∙ ap (λ x. row line (h c) v x) other

-- no part of a statement stands first
plain : (l : Level) (rows : Rows) (g : Grouped) → takes_branch l.context.last ≡ false → takes_some l.context.last ≡ false → IsGrouped l rows g → def_rows g.rest ≡ rows
plain l rows g none none_2 is =
    sym (ap (λ e. elif_rows e (else_rows g.orelse (maybe_rows g.handlers (def_rows g.rest)))) (is.no_elif_part none)
    ∙ ap (λ e. else_rows e (maybe_rows g.handlers (def_rows g.rest))) (is.no_else none) ∙ ap (λ h. maybe_rows h (def_rows g.rest)) (is.no_handler none_2))
    ∙ is.rows_are

-- no handler stands first
branches : (l : Level) (rows : Rows) (g : Grouped) → takes_some l.context.last ≡ false → IsGrouped l rows g → elif_rows g.elifs (else_rows g.orelse (def_rows g.rest)) ≡ rows
branches l rows g none is = sym (ap (λ h. elif_rows g.elifs (else_rows g.orelse (maybe_rows h (def_rows g.rest)))) (is.no_handler none)) ∙ is.rows_are

-- no branch stands first
handled : (l : Level) (rows : Rows) (g : Grouped) → takes_branch l.context.last ≡ false → IsGrouped l rows g → maybe_rows g.handlers (def_rows g.rest) ≡ rows
handled l rows g none is =
    sym (ap (λ e. elif_rows e (else_rows g.orelse (maybe_rows g.handlers (def_rows g.rest)))) (is.no_elif_part none) ∙ ap (λ e. else_rows e (maybe_rows g.handlers (def_rows g.rest))) (is.no_else none))
    ∙ is.rows_are

-- a statement stands first
starts_with : (l : Level) (rows : Rows) (s : Stmt) (rest : DefBody) → lacks_handler l.context.last ≡ false → FitsStmt l.indent s → FitsDefBody l.indent rest → (l.of_def ≡ false → without_globals rest ≡ true)
    → stmt_rows s (def_rows rest) ≡ rows → IsGrouped l rows (statements (stmt_in_def s rest))
starts_with l rows s rest lacks fits more globals is = record {
  rows_are = is;
  elifs_fit = tt;
  else_fits = tt;
  handlers_fit = tt;
  rest_fits = (fits, more);
  no_elif_part = λ _. refl;
  no_else = λ _. refl;
  no_handler = λ _. refl;
  a_handler = λ none. absurd (false≢true (sym lacks ∙ none));
  has = yes l.has_stmt;
  globals = globals;
}
  where
    yes : (a : Bool) → (a || true) ≡ true
    yes true = refl
    yes false = refl

-- the suite of a line
record IsSuite (d : ℕ) (b : Option Simple) (below : Under) (s : Suite) : Type 0 where
  behind_is : behind s ≡ b
  rows_are : suite_rows s ≡ below
  fits : FitsSuite d s

record IsDefSuite (d : ℕ) (b : Option Simple) (below : Under) (s : DefSuite) : Type 0 where
  behind_is : behind_def s ≡ b
  rows_are : def_suite_rows s ≡ below
  fits : FitsDef d s

-- the tokens of a line with its suite
with_suite : (line : Line) (d : ℕ) (tokens : List Token → List Token) (b : Option Simple) (below : Under) (s : Suite) → IsSuite d b below s → IsLine line d (tokens (behind_tokens b)) → IsLine line d (tokens (suite_tokens s))
with_suite line d tokens b below s is fits = other_tokens line d _ _ (sym (ap tokens (tokens_behind s ∙ ap behind_tokens is.behind_is))) fits

not_lacking : (b : Bool) → not b ≡ true → b ≡ false
not_lacking true is = absurd (false≢true is)
not_lacking false is = refl

nothing_below : (l : Level) (h : Head) (below : Under) → opens h ≡ false → FitsUnder l h below → nothing ≡ below
nothing_below l h nothing shut fits = refl
nothing_below l h (under indent rows) shut fits = absurd (false≢true (sym shut ∙ fits.0))

second : (a b : Bool) → (a && b) ≡ true → b ≡ true
second true b is = is
second false b is = absurd (false≢true is)

first : (a b : Bool) → (a && b) ≡ true → a ≡ true
first true b is = refl
first false b is = absurd (false≢true is)

kind_takes : (kind : Kind) → takes_branch (last_after (except_head no_spot kind no_spot None)) ≡ false
kind_takes every_kind = refl
kind_takes (one_kind e called) = refl

none_taken : (last : Last) → takes_some last ≡ true → takes_branch last ≡ false
none_taken Nothing is = refl
none_taken Loop is = refl
none_taken If is = absurd (false≢true is)
none_taken Try is = refl
none_taken Handler is = refl
none_taken Every is = refl

branch_takes : (last : Last) → takes_branch last ≡ true → takes_some last ≡ false
branch_takes Nothing is = refl
branch_takes Loop is = refl
branch_takes If is = refl
branch_takes Try is = absurd (false≢true is)
branch_takes Handler is = absurd (false≢true is)
branch_takes Every is = absurd (false≢true is)

branch_lacks : (last : Last) → takes_branch last ≡ true → lacks_handler last ≡ false
branch_lacks Nothing is = refl
branch_lacks Loop is = refl
branch_lacks If is = refl
branch_lacks Try is = absurd (false≢true is)
branch_lacks Handler is = refl
branch_lacks Every is = refl

one_handler_rows : (line : Line) (at : Spot) (kind : Kind) (colon : Spot) (suite : Suite) (hs : Option Handlers) (rest : Rows)
    → handler_rows (one_handler line at kind colon suite hs) rest ≡ row line (except_head at kind colon (behind suite)) (suite_rows suite) (maybe_rows hs rest)
one_handler_rows line at kind colon suite None rest = refl
one_handler_rows line at kind colon suite (Some hs) rest = refl

one_handler_fits : (d : ℕ) (line : Line) (at : Spot) (kind : Kind) (colon : Spot) (suite : Suite) (hs : Option Handlers)
    → IsLine line d (keyword (codes "except") at ++ (kind_tokens kind ++ (sign (codes ":") colon ++ suite_tokens suite))) → FitsSuite d suite → FitsMaybe d hs → FitsHandlers d (one_handler line at kind colon suite hs)
one_handler_fits d line at kind colon suite None is fits more = (is, fits)
one_handler_fits d line at kind colon suite (Some hs) is fits more = (is, fits, more)

some_handlers : (hs : Option Handlers) (rest : Rows) → is_none hs ≡ false → handler_rows (handlers_of hs) rest ≡ maybe_rows hs rest
some_handlers None rest is = absurd (false≢true (sym is))
some_handlers (Some hs) rest is = refl

some_handlers_fit : (d : ℕ) (hs : Option Handlers) → is_none hs ≡ false → FitsMaybe d hs → FitsHandlers d (handlers_of hs)
some_handlers_fit d None is fits = absurd (false≢true (sym is))
some_handlers_fit d (Some hs) is fits = fits

yes : (a : Bool) → (a || true) ≡ true
yes true = refl
yes false = refl

first_of_either : (a b : Bool) → a ≡ true → (a || b) ≡ true
first_of_either true b is = refl
first_of_either false b is = absurd (false≢true is)

same_either : (a b : Bool) → ((a || false) || b) ≡ true → (a || b) ≡ true
same_either true b is = refl
same_either false b is = is

without : (a : Bool) → a ≡ true → (a || false) ≡ true
without true is = refl
without false is = is

-- where a part may follow, a statement stands before it
abbrev Sane : Level → Type 0
Sane l = (takes_branch l.context.last || takes_some l.context.last) ≡ true → l.has_stmt ≡ true

second_of_either : (a b : Bool) → b ≡ true → (a || b) ≡ true
second_of_either true b is = refl
second_of_either false b is = is

mutual
  grouped_is : (l : Level) (rows : Rows) → Sane l → FitsRows l rows → IsGrouped l rows (grouped rows)
  grouped_is l end_rows sane fits = record {
    rows_are = refl;
    elifs_fit = tt;
    else_fits = tt;
    handlers_fit = tt;
    rest_fits = tt;
    no_elif_part = λ _. refl;
    no_else = λ _. refl;
    no_handler = λ _. refl;
    a_handler = λ lacking. absurd (false≢true (sym (not_lacking _ (second l.has_stmt _ fits)) ∙ lacking));
    has = without l.has_stmt (first l.has_stmt _ fits);
    globals = λ _. refl;
  }
  grouped_is l (row line (simple_head s) below rest) sane fits =
      let g = grouped_is (after l (simple_head s)) rest (λ _. yes l.has_stmt) fits.3 in
      starts_with l _ (simple line s) (grouped rest).rest (not_lacking _ fits.1) fits.0 g.rest_fits g.globals
      (row_is line (λ _. simple_head s) None None _ _ _ _ refl (nothing_below l (simple_head s) below refl fits.2) (plain (after l (simple_head s)) rest (grouped rest) refl refl g))
  grouped_is l (row line (if_head at test colon b) below rest) sane fits =
      let s = suite_is l (if_head at test colon) b below fits.2 (λ _. refl) (λ _. refl) in
      let g = grouped_is (after l (if_head at test colon b)) rest (λ _. yes l.has_stmt) fits.3 in
      starts_with l _ (if_stmt line at test colon (suite_of b below) (grouped rest).elifs (grouped rest).orelse) (grouped rest).rest (not_lacking _ fits.1)
      (with_suite line l.indent (λ ts. keyword (codes "if") at ++ (expr_tokens test ++ (sign (codes ":") colon ++ ts))) b below _ s fits.0, s.fits, g.elifs_fit, g.else_fits) g.rest_fits g.globals
      (row_is line (if_head at test colon) _ _ _ _ _ _ s.behind_is s.rows_are (branches (after l (if_head at test colon b)) rest (grouped rest) refl g))
  grouped_is l (row line (elif_head at test colon b) below rest) sane fits =
      let s = suite_is l (elif_head at test colon) b below fits.2 (λ _. refl) (λ _. refl) in
      let g = grouped_is (after l (elif_head at test colon b)) rest (λ _. yes l.has_stmt) fits.3 in
      record {
        rows_are = row_is line (elif_head at test colon) _ _ _ _ _ _ s.behind_is s.rows_are (branches (after l (elif_head at test colon b)) rest (grouped rest) refl g);
        elifs_fit = (with_suite line l.indent (λ ts. keyword (codes "elif") at ++ (expr_tokens test ++ (sign (codes ":") colon ++ ts))) b below _ s fits.0, s.fits, g.elifs_fit);
        else_fits = g.else_fits;
        handlers_fit = tt;
        rest_fits = g.rest_fits;
        no_elif_part = λ none. absurd (false≢true (sym none ∙ fits.1));
        no_else = λ none. absurd (false≢true (sym none ∙ fits.1));
        no_handler = λ _. refl;
        a_handler = λ lacking. absurd (false≢true (sym (branch_lacks l.context.last fits.1) ∙ lacking));
        has = first_of_either l.has_stmt _ (sane (first_of_either _ _ fits.1));
        globals = g.globals;
      }
  grouped_is l (row line (else_head at colon b) below rest) sane fits =
      let s = suite_is l (else_head at colon) b below fits.2 (λ _. refl) (λ _. refl) in
      let g = grouped_is (after l (else_head at colon b)) rest (λ _. yes l.has_stmt) fits.3 in
      record {
        rows_are = row_is line (else_head at colon) _ _ _ _ _ _ s.behind_is s.rows_are (plain (after l (else_head at colon b)) rest (grouped rest) refl refl g);
        elifs_fit = tt;
        else_fits = (with_suite line l.indent (λ ts. keyword (codes "else") at ++ (sign (codes ":") colon ++ ts)) b below _ s fits.0, s.fits);
        handlers_fit = tt;
        rest_fits = g.rest_fits;
        no_elif_part = λ _. refl;
        no_else = λ none. absurd (false≢true (sym none ∙ fits.1));
        no_handler = λ _. refl;
        a_handler = λ lacking. absurd (false≢true (sym (branch_lacks l.context.last fits.1) ∙ lacking));
        has = first_of_either l.has_stmt _ (sane (first_of_either _ _ fits.1));
        globals = g.globals;
      }
  grouped_is l (row line (while_head at test colon b) below rest) sane fits =
      let s = suite_is l (while_head at test colon) b below fits.2 (λ _. refl) (λ _. refl) in
      let g = grouped_is (after l (while_head at test colon b)) rest (λ _. yes l.has_stmt) fits.3 in
      starts_with l _ (while_stmt line at test colon (suite_of b below)) (grouped rest).rest (not_lacking _ fits.1)
      (with_suite line l.indent (λ ts. keyword (codes "while") at ++ (expr_tokens test ++ (sign (codes ":") colon ++ ts))) b below _ s fits.0, s.fits) g.rest_fits g.globals
      (row_is line (while_head at test colon) _ _ _ _ _ _ s.behind_is s.rows_are (plain (after l (while_head at test colon b)) rest (grouped rest) refl refl g))
  grouped_is l (row line (for_head at t in_word e colon b) below rest) sane fits =
      let s = suite_is l (for_head at t in_word e colon) b below fits.2 (λ _. refl) (λ _. refl) in
      let g = grouped_is (after l (for_head at t in_word e colon b)) rest (λ _. yes l.has_stmt) fits.3 in
      starts_with l _ (for_stmt line at t in_word e colon (suite_of b below)) (grouped rest).rest (not_lacking _ fits.1)
      (with_suite line l.indent (λ ts. keyword (codes "for") at ++ (target_tokens t ++ (keyword (codes "in") in_word ++ (exprs_tokens e ++ (sign (codes ":") colon ++ ts))))) b below _ s fits.0, s.fits) g.rest_fits g.globals
      (row_is line (for_head at t in_word e colon) _ _ _ _ _ _ s.behind_is s.rows_are (plain (after l (for_head at t in_word e colon b)) rest (grouped rest) refl refl g))
  grouped_is l (row line (try_head at colon b) below rest) sane fits =
      let s = suite_is l (try_head at colon) b below fits.2 (λ _. refl) (λ _. refl) in
      let g = grouped_is (after l (try_head at colon b)) rest (λ _. yes l.has_stmt) fits.3 in
      starts_with l _ (try_stmt line at colon (suite_of b below) (handlers_of (grouped rest).handlers)) (grouped rest).rest (not_lacking _ fits.1)
      (with_suite line l.indent (λ ts. keyword (codes "try") at ++ (sign (codes ":") colon ++ ts)) b below _ s fits.0, s.fits, some_handlers_fit l.indent (grouped rest).handlers (g.a_handler refl) g.handlers_fit) g.rest_fits g.globals
      (row_is line (try_head at colon) _ _ _ _ _ _ s.behind_is s.rows_are
      (some_handlers (grouped rest).handlers (def_rows (grouped rest).rest) (g.a_handler refl) ∙ handled (after l (try_head at colon b)) rest (grouped rest) refl g))
  grouped_is l (row line (except_head at kind colon b) below rest) sane fits =
      let s = suite_is l (except_head at kind colon) b below fits.2 (λ _. refl) (λ _. refl) in
      let g = grouped_is (after l (except_head at kind colon b)) rest (λ _. yes l.has_stmt) fits.3 in
      record {
        rows_are = one_handler_rows line at kind colon (suite_of b below) (grouped rest).handlers (def_rows (grouped rest).rest)
            ∙ row_is line (except_head at kind colon) _ _ _ _ _ _ s.behind_is s.rows_are (handled (after l (except_head at kind colon b)) rest (grouped rest) (kind_takes kind) g);
        elifs_fit = tt;
        else_fits = tt;
        handlers_fit = one_handler_fits l.indent line at kind colon (suite_of b below) (grouped rest).handlers
            (with_suite line l.indent (λ ts. keyword (codes "except") at ++ (kind_tokens kind ++ (sign (codes ":") colon ++ ts))) b below _ s fits.0) s.fits g.handlers_fit;
        rest_fits = g.rest_fits;
        no_elif_part = λ _. refl;
        no_else = λ _. refl;
        no_handler = λ none. absurd (false≢true (sym none ∙ fits.1));
        a_handler = λ _. refl;
        has = first_of_either l.has_stmt _ (sane (second_of_either _ _ fits.1));
        globals = g.globals;
      }
  grouped_is l (row line (with_head at e called colon b) below rest) sane fits =
      let s = suite_is l (with_head at e called colon) b below fits.2 (λ _. refl) (λ _. refl) in
      let g = grouped_is (after l (with_head at e called colon b)) rest (λ _. yes l.has_stmt) fits.3 in
      starts_with l _ (with_stmt line at e called colon (suite_of b below)) (grouped rest).rest (not_lacking _ fits.1)
      (with_suite line l.indent (λ ts. keyword (codes "with") at ++ (expr_tokens e ++ (naming_tokens called ++ (sign (codes ":") colon ++ ts)))) b below _ s fits.0, s.fits) g.rest_fits g.globals
      (row_is line (with_head at e called colon) _ _ _ _ _ _ s.behind_is s.rows_are (plain (after l (with_head at e called colon b)) rest (grouped rest) refl refl g))
  grouped_is l (row line (def_head at name_at bytes opening names closing colon b) below rest) sane fits =
      let s = def_suite_is l (def_head at name_at bytes opening names closing colon) b below fits.2 (λ _. refl) in
      let g = grouped_is (after l (def_head at name_at bytes opening names closing colon b)) rest (λ _. yes l.has_stmt) fits.3 in
      starts_with l _ (def_stmt line at name_at bytes opening names closing colon (def_suite_of b below)) (grouped rest).rest (not_lacking _ fits.1) (
        other_tokens line l.indent _ _ (sym (ap (λ ts. keyword (codes "def") at ++ (word bytes name_at ++ (sign (codes "(") opening ++ (params_tokens names ++ (sign (codes ")") closing ++ (sign (codes ":") colon ++ ts))))))
            (def_tokens_behind (def_suite_of b below) ∙ ap behind_tokens s.behind_is))) fits.0,
        s.fits,
      ) g.rest_fits g.globals
      (row_is line (def_head at name_at bytes opening names closing colon) _ _ _ _ _ _ s.behind_is s.rows_are (plain (after l (def_head at name_at bytes opening names closing colon b)) rest (grouped rest) refl refl g))
  grouped_is l (row line (class_head at name_at bytes of colon b) below rest) sane fits =
      let s = suite_is l (class_head at name_at bytes of colon) b below fits.2 (λ _. refl) (λ _. refl) in
      let g = grouped_is (after l (class_head at name_at bytes of colon b)) rest (λ _. yes l.has_stmt) fits.3 in
      starts_with l _ (class_stmt line at name_at bytes of colon (suite_of b below)) (grouped rest).rest (not_lacking _ fits.1)
      (with_suite line l.indent (λ ts. keyword (codes "class") at ++ (word bytes name_at ++ (base_tokens of ++ (sign (codes ":") colon ++ ts)))) b below _ s fits.0, s.fits) g.rest_fits g.globals
      (row_is line (class_head at name_at bytes of colon) _ _ _ _ _ _ s.behind_is s.rows_are (plain (after l (class_head at name_at bytes of colon b)) rest (grouped rest) refl refl g))
  grouped_is l (row line (global_head at names) below rest) sane fits =
      let g = grouped_is (after l (global_head at names)) rest (λ none. absurd (false≢true none)) fits.3 in
      record {
        rows_are = row_is line (λ _. global_head at names) None None _ _ _ _ refl (nothing_below l (global_head at names) below refl fits.2) (plain (after l (global_head at names)) rest (grouped rest) refl refl g);
        elifs_fit = tt;
        else_fits = tt;
        handlers_fit = tt;
        rest_fits = (fits.0, g.rest_fits);
        no_elif_part = λ _. refl;
        no_else = λ _. refl;
        no_handler = λ _. refl;
        a_handler = λ lacking. absurd (false≢true (sym (not_lacking _ (second l.of_def _ fits.1)) ∙ lacking));
        has = same_either l.has_stmt _ g.has;
        globals = λ none. absurd (false≢true (sym none ∙ first l.of_def _ fits.1));
      }

  suite_is : (l : Level) (h : Option Simple → Head) (b : Option Simple) (below : Under) → FitsUnder l (h b) below → ((x : Option Simple) → opens (h x) ≡ is_none x) → ((x : Option Simple) → is_def (h x) ≡ false)
      → IsSuite l.indent b below (suite_of b below)
  suite_is l h (Some s) nothing fits open_is def = record { behind_is = refl; rows_are = refl; fits = tt }
  suite_is l h (Some s) (under k rows) fits open_is def = absurd (false≢true (sym (open_is (Some s)) ∙ fits.0))
  suite_is l h None nothing fits open_is def = absurd (false≢true (sym fits ∙ open_is None))
  suite_is l h None (under k rows) fits open_is def =
      let g = grouped_is (inside l (h None) k) rows (λ none. absurd (false≢true none)) fits.2 in
      record {
        behind_is = refl;
        rows_are = ap (under k) (body_is (grouped rows).rest g.has (g.globals (def None)) ∙ plain (inside l (h None) k) rows (grouped rows) refl refl g);
        fits = (fits.1, body_fits k (grouped rows).rest g.has (g.globals (def None)) g.rest_fits);
      }

  def_suite_is : (l : Level) (h : Option Simple → Head) (b : Option Simple) (below : Under) → FitsUnder l (h b) below → ((x : Option Simple) → opens (h x) ≡ is_none x) → IsDefSuite l.indent b below (def_suite_of b below)
  def_suite_is l h (Some s) nothing fits open_is = record { behind_is = refl; rows_are = refl; fits = tt }
  def_suite_is l h (Some s) (under k rows) fits open_is = absurd (false≢true (sym (open_is (Some s)) ∙ fits.0))
  def_suite_is l h None nothing fits open_is = absurd (false≢true (sym fits ∙ open_is None))
  def_suite_is l h None (under k rows) fits open_is =
      let g = grouped_is (inside l (h None) k) rows (λ none. absurd (false≢true none)) fits.2 in
      record {
        behind_is = refl;
        rows_are = ap (under k) (plain (inside l (h None) k) rows (grouped rows) refl refl g);
        fits = (fits.1, g.has, g.rest_fits);
      }

-- ---- a whole script

pub record IsScriptOf (rows : Rows) (s : Script) : Type 0 where
  pub rows_are : script_rows s ≡ rows
  pub fits : FitsScript s

pub script_is : (rows : Rows) → FitsStart rows → IsScriptOf rows (script_of rows)
script_is end_rows fits = record { rows_are = refl; fits = tt }
script_is (row line h below rest) fits =
    let rows : Rows = row line h below rest in
    let g = grouped_is start rows (λ none. absurd (false≢true none)) fits in
    record {
      rows_are = body_is (grouped rows).rest g.has (g.globals refl) ∙ plain start rows (grouped rows) refl refl g;
      fits = body_fits 0 (grouped rows).rest g.has (g.globals refl) g.rest_fits;
    }
