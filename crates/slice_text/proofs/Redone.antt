-- The grammar looks at no byte spans: lines whose tokens have other spans have a script too, with the same tree but for its
-- byte spans.
use Rattle.std.proofs.Common.{◌≡◌, ℕ, ◌≤◌, Bool, true, ◌&&◌, ◌||◌, not, List, [], ◌∷◌, ◌++◌, map, refl, sym, ap, ◌∙◌, arith}
use Rattle.std.specs.Prelude.{codes, ⊤}
use Rattle.py_lines.specs.declared.parts.Line.{Line}
use Rattle.py_lines.specs.declared.parts.Token.{Token}
use Rattle.py_tree.specs.Tree.{FormTree, one_stmt, end_suite, more_suite, else_suite}
use Rattle.py_tree.specs.Unplaced.{no_bytes}
use Rattle.py_expressions.specs.Tokens.{keyword, sign, word, expr_tokens, exprs_tokens}
use Rattle.py_grammar.specs.Written.{Simple, Kind, every_kind, one_kind, Stmt, simple, if_stmt, while_stmt, for_stmt, try_stmt, with_stmt, def_stmt, class_stmt, Suite, on_line, block, Body, last_stmt, more_stmt, Elifs, no_elif, elif, Else, no_else_part, else_part, Handlers, last_handler, more_handler, DefSuite, def_line, def_block, DefBody, end_def, stmt_in_def, global_in_def}
use Rattle.py_grammar.specs.StatementTokens.{simple_tokens, target_tokens, names_tokens, params_tokens, naming_tokens, kind_tokens, base_tokens, suite_tokens, def_suite_tokens}
use Rattle.py_grammar.specs.StatementTrees.{simple_form, def_globals, globals_of, simple_tree, stmt_tree, suite_tree, body_tree, elif_trees, else_tree, handler_trees, def_tree, def_body_tree}
use Rattle.py_grammar.specs.Layout.{IsLine, has_stmt, stmt_lines, suite_lines, body_lines, elif_lines, else_lines, handler_lines, def_lines, def_body_lines, FitsStmt, FitsSuite, FitsBody, FitsElifs, FitsElse, FitsHandlers, FitsDef, FitsDefBody}
use Rattle.py_grammar.specs.StatementDepth.{simple_depth}
use Rattle.py_grammar.specs.WellPlaced.{form_stands, are_alone, has_class}
use Rattle.slice_text.specs.CutScript.{pass_spot}
use Rattle.slice_text.proofs.Bare.{bare_suite, bare_stmt, bare_form, bare_branches, bare_else, bare_handlers}
use Rattle.slice_text.proofs.CutTreeLaws.{bare_first}
use Rattle.slice_text.proofs.Moved.{Move, moved_spot, moved_token, moved_expr, moved_exprs, moved_target, moved_simple, moved_names, moved_params, moved_naming, moved_kind, moved_base}
use Rattle.slice_text.proofs.MovedDepths.{expr_depth_same, exprs_depth_same, target_depth_same, simple_depth_same, kind_depth_same}
use Rattle.slice_text.proofs.MovedTokens.{both, expr_tokens_moved, exprs_tokens_moved}
use Rattle.slice_text.proofs.MovedTrees.{expr_tree_same, exprs_tree_same}
use Rattle.slice_text.proofs.MovedSimples.{simple_tokens_moved, target_tokens_moved, names_tokens_moved, params_tokens_moved, naming_tokens_moved, kind_tokens_moved, base_tokens_moved, target_tree_same, simple_form_same, names_list_same, params_list_same, naming_bound_same, kind_class_same, kind_bound_same, base_tree_same}
use Rattle.slice_text.proofs.NoMore.{SimpleNoMore, StmtNoMore, SuiteNoMore, BodyNoMore, ElifsNoMore, ElseNoMore, HandlersNoMore, DefNoMore, DefBodyNoMore, while_no_more, if_no_more, for_no_more, try_no_more, with_no_more, class_no_more, elif_no_more, else_no_more, last_no_more, handler_no_more, def_no_more, simple_no_more, on_line_no_more, block_no_more, one_no_more, more_no_more, elifs_same, else_same, def_line_no_more, def_block_no_more, end_def_same, in_def_no_more, global_no_more}

-- ---- lines

-- the other line has the same tokens at the same places
pub record IsMoved (m : Move) (line other : Line) : Type 0 where
  pub indent_is : other.indent ≡ line.indent
  pub tokens_are : other.tokens ≡ map (moved_token m) line.tokens

abbrev pub AreMoved : Move → List Line → List Line → Type 0
AreMoved m [] [] = ⊤
AreMoved m [] (other ∷ others) = ⊥
AreMoved m (line ∷ lines) [] = ⊥
AreMoved m (line ∷ lines) (other ∷ others) = IsMoved m line other × AreMoved m lines others

record Parted (m : Move) (a b others : List Line) : Type 0 where
  pub first : List Line
  pub second : List Line
  pub are : others ≡ first ++ second
  pub one : AreMoved m a first
  pub two : AreMoved m b second

parted : (m : Move) (a b others : List Line) → AreMoved m (a ++ b) others → Parted m a b others
parted m [] b others are = record { first = []; second = others; are = refl; one = tt; two = are }
parted m (line ∷ a) b [] are = absurd are
parted m (line ∷ a) b (other ∷ others) are =
    let rest = parted m a b others are.1 in
    record { first = other ∷ rest.first; second = rest.second; are = ap (λ (ls : List Line). other ∷ ls) rest.are; one = (are.0, rest.one); two = rest.two }

line_moved : (m : Move) (line other : Line) (indent : ℕ) (tokens tokens' : List Token) → IsMoved m line other → IsLine line indent tokens → tokens' ≡ map (moved_token m) tokens → IsLine other indent tokens'
line_moved m line other indent tokens tokens' moved is same = record {
  indent_is = moved.indent_is ∙ is.indent_is;
  tokens_are = moved.tokens_are ∙ (ap (map (moved_token m)) is.tokens_are ∙ sym same);
}

joined : (a b x y all : List Line) → x ≡ a → y ≡ b → all ≡ a ++ b → x ++ y ≡ all
joined a b x y all one two are = ap (λ (ls : List Line). ls ++ y) one ∙ (ap (λ (ls : List Line). a ++ ls) two ∙ sym are)

pub none_moved : (m : Move) (others : List Line) → AreMoved m [] others → [] ≡ others
none_moved m [] are = refl
none_moved m (other ∷ others) are = absurd are

-- ---- simple statements

place_moved : (m : Move) (tokens : List Token) → (pass_spot (map (moved_token m) tokens)).at ≡ (pass_spot tokens).at
place_moved m [] = refl
place_moved m (token ∷ tokens) = refl

simple_moved : (m : Move) (to to' : ℕ) (s : Simple) → bare_stmt (simple_tree to (moved_simple m s)) ≡ bare_stmt (simple_tree to' s)
simple_moved m to to' s =
    bare_first (simple_tokens (moved_simple m s)) to (simple_form (moved_simple m s))
    ∙ (ap (λ (ts : List Token). one_stmt 0 (pass_spot ts).at no_bytes (bare_form (simple_form (moved_simple m s)))) (simple_tokens_moved m s)
    ∙ (ap (λ at. one_stmt 0 at no_bytes (bare_form (simple_form (moved_simple m s)))) (place_moved m (simple_tokens s))
    ∙ (ap (λ f. one_stmt 0 (pass_spot (simple_tokens s)).at no_bytes (bare_form f)) (simple_form_same m s)
    ∙ sym (bare_first (simple_tokens s) to' (simple_form s)))))

-- ---- what is asked of simple statements

alone_moved : (m : Move) (ts : List Token) → are_alone (map (moved_token m) ts) ≡ are_alone ts
alone_moved m [] = refl
alone_moved m (t ∷ []) = refl
alone_moved m (t ∷ u ∷ ts) = refl

no_deeper : (a b : ℕ) → a ≡ b → a ≤ b
no_deeper a b same = omega (arith, same)

simple_asks : (m : Move) (s : Simple) → SimpleNoMore (moved_simple m s) s
simple_asks m s =
    let alone : are_alone (simple_tokens (moved_simple m s)) ≡ are_alone (simple_tokens s) = ap are_alone (simple_tokens_moved m s) ∙ alone_moved m (simple_tokens s) in
    record {
      stands = λ around is.
          ap (λ (b : Bool). (not around.in_class || b) && form_stands around (simple_form (moved_simple m s))) alone
          ∙ ap (λ (f : FormTree). (not around.in_class || are_alone (simple_tokens s)) && form_stands around f) (simple_form_same m s)
          ∙ is;
      alone = λ is. alone ∙ is;
      low = no_deeper (simple_depth (moved_simple m s)) (simple_depth s) (simple_depth_same m s);
    }

kind_asks : (m : Move) (k : Kind) → has_class k ≡ true → has_class (moved_kind m k) ≡ true
kind_asks m every_kind is = is
kind_asks m (one_kind e called) is = is

-- ---- what is written, over other lines

pub record NewStmt (m : Move) (indent : ℕ) (s : Stmt) (others : List Line) : Type 0 where
  pub new : Stmt
  pub lines_are : stmt_lines new ≡ others
  pub fits : FitsStmt indent new
  pub tree : bare_stmt (stmt_tree new) ≡ bare_stmt (stmt_tree s)
  pub asks : StmtNoMore new s

record NewSuite (m : Move) (indent : ℕ) (s : Suite) (others : List Line) : Type 0 where
  pub new : Suite
  pub lines_are : suite_lines new ≡ others
  pub fits : FitsSuite indent new
  pub tokens : suite_tokens new ≡ map (moved_token m) (suite_tokens s)
  pub tree : (line line' : Line) → bare_suite (suite_tree line new) ≡ bare_suite (suite_tree line' s)
  pub asks : SuiteNoMore new s

pub record NewBody (m : Move) (indent : ℕ) (s : Body) (others : List Line) : Type 0 where
  pub new : Body
  pub lines_are : body_lines new ≡ others
  pub fits : FitsBody indent new
  pub tree : bare_suite (body_tree new) ≡ bare_suite (body_tree s)
  pub asks : BodyNoMore new s

record NewElifs (m : Move) (indent : ℕ) (s : Elifs) (others : List Line) : Type 0 where
  pub new : Elifs
  pub lines_are : elif_lines new ≡ others
  pub fits : FitsElifs indent new
  pub tree : bare_branches (elif_trees new) ≡ bare_branches (elif_trees s)
  pub asks : ElifsNoMore new s

record NewElse (m : Move) (indent : ℕ) (s : Else) (others : List Line) : Type 0 where
  pub new : Else
  pub lines_are : else_lines new ≡ others
  pub fits : FitsElse indent new
  pub tree : bare_else (else_tree new) ≡ bare_else (else_tree s)
  pub asks : ElseNoMore new s

record NewHandlers (m : Move) (indent : ℕ) (s : Handlers) (others : List Line) : Type 0 where
  pub new : Handlers
  pub lines_are : handler_lines new ≡ others
  pub fits : FitsHandlers indent new
  pub tree : bare_handlers (handler_trees new) ≡ bare_handlers (handler_trees s)
  pub asks : HandlersNoMore new s

record NewDef (m : Move) (indent : ℕ) (s : DefSuite) (others : List Line) : Type 0 where
  pub new : DefSuite
  pub lines_are : def_lines new ≡ others
  pub fits : FitsDef indent new
  pub tokens : def_suite_tokens new ≡ map (moved_token m) (def_suite_tokens s)
  pub globals : globals_of new ≡ globals_of s
  pub tree : (line line' : Line) → bare_suite (def_tree line new) ≡ bare_suite (def_tree line' s)
  pub asks : DefNoMore new s

record NewDefBody (m : Move) (indent : ℕ) (s : DefBody) (others : List Line) : Type 0 where
  pub new : DefBody
  pub lines_are : def_body_lines new ≡ others
  pub fits : FitsDefBody indent new
  pub has : has_stmt new ≡ has_stmt s
  pub globals : def_globals new ≡ def_globals s
  pub tree : bare_suite (def_body_tree new) ≡ bare_suite (def_body_tree s)
  pub asks : DefBodyNoMore new s

tokens_2 : (m : Move) (a b x a' b' x' : List Token) → a' ≡ map (moved_token m) a → b' ≡ map (moved_token m) b → x' ≡ map (moved_token m) x → a' ++ (b' ++ x') ≡ map (moved_token m) (a ++ (b ++ x))
tokens_2 m a b x a' b' x' p q r = both m a (b ++ x) a' (b' ++ x') p (both m b x b' x' q r)

tokens_3 : (m : Move) (a b c x a' b' c' x' : List Token) → a' ≡ map (moved_token m) a → b' ≡ map (moved_token m) b → c' ≡ map (moved_token m) c → x' ≡ map (moved_token m) x
    → a' ++ (b' ++ (c' ++ x')) ≡ map (moved_token m) (a ++ (b ++ (c ++ x)))
tokens_3 m a b c x a' b' c' x' p q r s = both m a (b ++ (c ++ x)) a' (b' ++ (c' ++ x')) p (tokens_2 m b c x b' c' x' q r s)

tokens_4 : (m : Move) (a b c d x a' b' c' d' x' : List Token) → a' ≡ map (moved_token m) a → b' ≡ map (moved_token m) b → c' ≡ map (moved_token m) c → d' ≡ map (moved_token m) d → x' ≡ map (moved_token m) x
    → a' ++ (b' ++ (c' ++ (d' ++ x'))) ≡ map (moved_token m) (a ++ (b ++ (c ++ (d ++ x))))
tokens_4 m a b c d x a' b' c' d' x' p q r s t = both m a (b ++ (c ++ (d ++ x))) a' (b' ++ (c' ++ (d' ++ x'))) p (tokens_3 m b c d x b' c' d' x' q r s t)

tokens_5 : (m : Move) (a b c d e x a' b' c' d' e' x' : List Token) → a' ≡ map (moved_token m) a → b' ≡ map (moved_token m) b → c' ≡ map (moved_token m) c → d' ≡ map (moved_token m) d → e' ≡ map (moved_token m) e
    → x' ≡ map (moved_token m) x → a' ++ (b' ++ (c' ++ (d' ++ (e' ++ x')))) ≡ map (moved_token m) (a ++ (b ++ (c ++ (d ++ (e ++ x)))))
tokens_5 m a b c d e x a' b' c' d' e' x' p q r s t u = both m a (b ++ (c ++ (d ++ (e ++ x)))) a' (b' ++ (c' ++ (d' ++ (e' ++ x')))) p (tokens_4 m b c d e x b' c' d' e' x' q r s t u)

tokens_6 : (m : Move) (a b c d e f x a' b' c' d' e' f' x' : List Token) → a' ≡ map (moved_token m) a → b' ≡ map (moved_token m) b → c' ≡ map (moved_token m) c → d' ≡ map (moved_token m) d → e' ≡ map (moved_token m) e
    → f' ≡ map (moved_token m) f → x' ≡ map (moved_token m) x → a' ++ (b' ++ (c' ++ (d' ++ (e' ++ (f' ++ x'))))) ≡ map (moved_token m) (a ++ (b ++ (c ++ (d ++ (e ++ (f ++ x))))))
tokens_6 m a b c d e f x a' b' c' d' e' f' x' p q r s t u v = both m a (b ++ (c ++ (d ++ (e ++ (f ++ x))))) a' (b' ++ (c' ++ (d' ++ (e' ++ (f' ++ x'))))) p (tokens_5 m b c d e f x b' c' d' e' f' x' q r s t u v)

mutual
  stmt_new : (m : Move) (indent : ℕ) (s : Stmt) (others : List Line) → FitsStmt indent s → AreMoved m (stmt_lines s) others → NewStmt m indent s others
  stmt_new m indent (simple line s) [] fits are = absurd are
  stmt_new m indent (simple line s) (o ∷ os) fits are = record {
    new = simple o (moved_simple m s);
    lines_are = ap (λ (ls : List Line). o ∷ ls) (none_moved m os are.1);
    fits = line_moved m line o indent (simple_tokens s) (simple_tokens (moved_simple m s)) are.0 fits (simple_tokens_moved m s);
    tree = simple_moved m o.span.to line.span.to s;
    asks = simple_no_more o line (moved_simple m s) s (simple_asks m s);
  }
  stmt_new m indent (if_stmt line at test colon suite elifs orelse) [] fits are = absurd are
  stmt_new m indent (if_stmt line at test colon suite elifs orelse) (o ∷ os) fits are =
      let p = parted m (suite_lines suite) (elif_lines elifs ++ else_lines orelse) os are.1 in
      let q = parted m (elif_lines elifs) (else_lines orelse) p.second p.two in
      let a = suite_new m indent suite p.first fits.1 p.one in
      let b = elifs_new m indent elifs q.first fits.2 q.one in
      let c = else_new m indent orelse q.second fits.3 q.two in
      record {
        new = if_stmt o (moved_spot m at) (moved_expr m test) (moved_spot m colon) a.new b.new c.new;
        lines_are = ap (λ (ls : List Line). o ∷ ls) (joined p.first p.second (suite_lines a.new) (elif_lines b.new ++ else_lines c.new) os a.lines_are (joined q.first q.second (elif_lines b.new) (else_lines c.new) p.second b.lines_are c.lines_are q.are) p.are);
        fits = (line_moved m line o indent ((keyword (codes "if") at) ++ ((expr_tokens test) ++ ((sign (codes ":") colon) ++ suite_tokens suite))) ((keyword (codes "if") (moved_spot m at)) ++ ((expr_tokens (moved_expr m test)) ++ ((sign (codes ":") (moved_spot m colon)) ++ suite_tokens a.new))) are.0 fits.0 (tokens_3 m (keyword (codes "if") at) (expr_tokens test) (sign (codes ":") colon) (suite_tokens suite) (keyword (codes "if") (moved_spot m at)) (expr_tokens (moved_expr m test)) (sign (codes ":") (moved_spot m colon)) (suite_tokens a.new) refl (expr_tokens_moved m test) refl a.tokens), a.fits, b.fits, c.fits);
        tree = rw (expr_tree_same m test, a.tree o line, b.tree, c.tree);
        asks = if_no_more o line (moved_spot m at) at (moved_spot m colon) colon (moved_expr m test) test a.new suite b.new elifs c.new orelse (no_deeper _ _ (expr_depth_same m test)) a.asks b.asks c.asks;
      }
  stmt_new m indent (while_stmt line at test colon suite) [] fits are = absurd are
  stmt_new m indent (while_stmt line at test colon suite) (o ∷ os) fits are =
      let a = suite_new m indent suite os fits.1 are.1 in
      record {
        new = while_stmt o (moved_spot m at) (moved_expr m test) (moved_spot m colon) a.new;
        lines_are = ap (λ (ls : List Line). o ∷ ls) (a.lines_are);
        fits = (line_moved m line o indent ((keyword (codes "while") at) ++ ((expr_tokens test) ++ ((sign (codes ":") colon) ++ suite_tokens suite))) ((keyword (codes "while") (moved_spot m at)) ++ ((expr_tokens (moved_expr m test)) ++ ((sign (codes ":") (moved_spot m colon)) ++ suite_tokens a.new))) are.0 fits.0 (tokens_3 m (keyword (codes "while") at) (expr_tokens test) (sign (codes ":") colon) (suite_tokens suite) (keyword (codes "while") (moved_spot m at)) (expr_tokens (moved_expr m test)) (sign (codes ":") (moved_spot m colon)) (suite_tokens a.new) refl (expr_tokens_moved m test) refl a.tokens), a.fits);
        tree = rw (expr_tree_same m test, a.tree o line);
        asks = while_no_more o line (moved_spot m at) at (moved_spot m colon) colon (moved_expr m test) test a.new suite (no_deeper _ _ (expr_depth_same m test)) a.asks;
      }
  stmt_new m indent (for_stmt line at t in_word e colon suite) [] fits are = absurd are
  stmt_new m indent (for_stmt line at t in_word e colon suite) (o ∷ os) fits are =
      let a = suite_new m indent suite os fits.1 are.1 in
      record {
        new = for_stmt o (moved_spot m at) (moved_target m t) (moved_spot m in_word) (moved_exprs m e) (moved_spot m colon) a.new;
        lines_are = ap (λ (ls : List Line). o ∷ ls) (a.lines_are);
        fits = (line_moved m line o indent ((keyword (codes "for") at) ++ ((target_tokens t) ++ ((keyword (codes "in") in_word) ++ ((exprs_tokens e) ++ ((sign (codes ":") colon) ++ suite_tokens suite))))) ((keyword (codes "for") (moved_spot m at)) ++ ((target_tokens (moved_target m t)) ++ ((keyword (codes "in") (moved_spot m in_word)) ++ ((exprs_tokens (moved_exprs m e)) ++ ((sign (codes ":") (moved_spot m colon)) ++ suite_tokens a.new))))) are.0 fits.0 (tokens_5 m (keyword (codes "for") at) (target_tokens t) (keyword (codes "in") in_word) (exprs_tokens e) (sign (codes ":") colon) (suite_tokens suite) (keyword (codes "for") (moved_spot m at)) (target_tokens (moved_target m t)) (keyword (codes "in") (moved_spot m in_word)) (exprs_tokens (moved_exprs m e)) (sign (codes ":") (moved_spot m colon)) (suite_tokens a.new) refl (target_tokens_moved m t) refl (exprs_tokens_moved m e) refl a.tokens), a.fits);
        tree = rw (target_tree_same m t, exprs_tree_same m e, a.tree o line);
        asks = for_no_more o line (moved_spot m at) at (moved_spot m colon) colon (moved_target m t) t (moved_spot m in_word) in_word (moved_exprs m e) e a.new suite (no_deeper _ _ (target_depth_same m t)) (no_deeper _ _ (exprs_depth_same m e)) a.asks;
      }
  stmt_new m indent (try_stmt line at colon suite handlers) [] fits are = absurd are
  stmt_new m indent (try_stmt line at colon suite handlers) (o ∷ os) fits are =
      let p = parted m (suite_lines suite) (handler_lines handlers) os are.1 in
      let a = suite_new m indent suite p.first fits.1 p.one in
      let b = handlers_new m indent handlers p.second fits.2 p.two in
      record {
        new = try_stmt o (moved_spot m at) (moved_spot m colon) a.new b.new;
        lines_are = ap (λ (ls : List Line). o ∷ ls) (joined p.first p.second (suite_lines a.new) (handler_lines b.new) os a.lines_are b.lines_are p.are);
        fits = (line_moved m line o indent ((keyword (codes "try") at) ++ ((sign (codes ":") colon) ++ suite_tokens suite)) ((keyword (codes "try") (moved_spot m at)) ++ ((sign (codes ":") (moved_spot m colon)) ++ suite_tokens a.new)) are.0 fits.0 (tokens_2 m (keyword (codes "try") at) (sign (codes ":") colon) (suite_tokens suite) (keyword (codes "try") (moved_spot m at)) (sign (codes ":") (moved_spot m colon)) (suite_tokens a.new) refl refl a.tokens), a.fits, b.fits);
        tree = rw (a.tree o line, b.tree);
        asks = try_no_more o line (moved_spot m at) at (moved_spot m colon) colon a.new suite b.new handlers a.asks b.asks;
      }
  stmt_new m indent (with_stmt line at e name colon suite) [] fits are = absurd are
  stmt_new m indent (with_stmt line at e name colon suite) (o ∷ os) fits are =
      let a = suite_new m indent suite os fits.1 are.1 in
      record {
        new = with_stmt o (moved_spot m at) (moved_expr m e) (moved_naming m name) (moved_spot m colon) a.new;
        lines_are = ap (λ (ls : List Line). o ∷ ls) (a.lines_are);
        fits = (line_moved m line o indent ((keyword (codes "with") at) ++ ((expr_tokens e) ++ ((naming_tokens name) ++ ((sign (codes ":") colon) ++ suite_tokens suite)))) ((keyword (codes "with") (moved_spot m at)) ++ ((expr_tokens (moved_expr m e)) ++ ((naming_tokens (moved_naming m name)) ++ ((sign (codes ":") (moved_spot m colon)) ++ suite_tokens a.new)))) are.0 fits.0 (tokens_4 m (keyword (codes "with") at) (expr_tokens e) (naming_tokens name) (sign (codes ":") colon) (suite_tokens suite) (keyword (codes "with") (moved_spot m at)) (expr_tokens (moved_expr m e)) (naming_tokens (moved_naming m name)) (sign (codes ":") (moved_spot m colon)) (suite_tokens a.new) refl (expr_tokens_moved m e) (naming_tokens_moved m name) refl a.tokens), a.fits);
        tree = rw (expr_tree_same m e, naming_bound_same m name, a.tree o line);
        asks = with_no_more o line (moved_spot m at) at (moved_spot m colon) colon (moved_expr m e) e (moved_naming m name) name a.new suite (no_deeper _ _ (expr_depth_same m e)) a.asks;
      }
  stmt_new m indent (def_stmt line at name_at bytes opening names closing colon suite) [] fits are = absurd are
  stmt_new m indent (def_stmt line at name_at bytes opening names closing colon suite) (o ∷ os) fits are =
      let a = def_new m indent suite os fits.1 are.1 in
      record {
        new = def_stmt o (moved_spot m at) (moved_spot m name_at) bytes (moved_spot m opening) (moved_params m names) (moved_spot m closing) (moved_spot m colon) a.new;
        lines_are = ap (λ (ls : List Line). o ∷ ls) (a.lines_are);
        fits = (line_moved m line o indent ((keyword (codes "def") at) ++ ((word bytes name_at) ++ ((sign (codes "(") opening) ++ ((params_tokens names) ++ ((sign (codes ")") closing) ++ ((sign (codes ":") colon) ++ def_suite_tokens suite)))))) ((keyword (codes "def") (moved_spot m at)) ++ ((word bytes (moved_spot m name_at)) ++ ((sign (codes "(") (moved_spot m opening)) ++ ((params_tokens (moved_params m names)) ++ ((sign (codes ")") (moved_spot m closing)) ++ ((sign (codes ":") (moved_spot m colon)) ++ def_suite_tokens a.new)))))) are.0 fits.0 (tokens_6 m (keyword (codes "def") at) (word bytes name_at) (sign (codes "(") opening) (params_tokens names) (sign (codes ")") closing) (sign (codes ":") colon) (def_suite_tokens suite) (keyword (codes "def") (moved_spot m at)) (word bytes (moved_spot m name_at)) (sign (codes "(") (moved_spot m opening)) (params_tokens (moved_params m names)) (sign (codes ")") (moved_spot m closing)) (sign (codes ":") (moved_spot m colon)) (def_suite_tokens a.new) refl refl refl (params_tokens_moved m names) refl refl a.tokens), a.fits);
        tree = rw (params_list_same m names, a.globals, a.tree o line);
        asks = def_no_more o line (moved_spot m at) at (moved_spot m colon) colon (moved_spot m name_at) name_at bytes (moved_spot m opening) opening (moved_spot m closing) closing (moved_params m names) names a.new suite (params_list_same m names) a.asks;
      }
  stmt_new m indent (class_stmt line at name_at bytes of colon suite) [] fits are = absurd are
  stmt_new m indent (class_stmt line at name_at bytes of colon suite) (o ∷ os) fits are =
      let a = suite_new m indent suite os fits.1 are.1 in
      record {
        new = class_stmt o (moved_spot m at) (moved_spot m name_at) bytes (moved_base m of) (moved_spot m colon) a.new;
        lines_are = ap (λ (ls : List Line). o ∷ ls) (a.lines_are);
        fits = (line_moved m line o indent ((keyword (codes "class") at) ++ ((word bytes name_at) ++ ((base_tokens of) ++ ((sign (codes ":") colon) ++ suite_tokens suite)))) ((keyword (codes "class") (moved_spot m at)) ++ ((word bytes (moved_spot m name_at)) ++ ((base_tokens (moved_base m of)) ++ ((sign (codes ":") (moved_spot m colon)) ++ suite_tokens a.new)))) are.0 fits.0 (tokens_4 m (keyword (codes "class") at) (word bytes name_at) (base_tokens of) (sign (codes ":") colon) (suite_tokens suite) (keyword (codes "class") (moved_spot m at)) (word bytes (moved_spot m name_at)) (base_tokens (moved_base m of)) (sign (codes ":") (moved_spot m colon)) (suite_tokens a.new) refl refl (base_tokens_moved m of) refl a.tokens), a.fits);
        tree = rw (base_tree_same m of, a.tree o line);
        asks = class_no_more o line (moved_spot m at) at (moved_spot m colon) colon (moved_spot m name_at) name_at bytes (moved_base m of) of a.new suite a.asks;
      }

  suite_new : (m : Move) (indent : ℕ) (s : Suite) (others : List Line) → FitsSuite indent s → AreMoved m (suite_lines s) others → NewSuite m indent s others
  suite_new m indent (on_line s) others fits are = record {
    new = on_line (moved_simple m s);
    lines_are = none_moved m others are;
    fits = fits;
    tokens = simple_tokens_moved m s;
    tree = λ line line'. ap (λ t. more_suite t end_suite) (simple_moved m line.span.to line'.span.to s);
    asks = on_line_no_more (moved_simple m s) s (simple_asks m s);
  }
  suite_new m indent (block inside body) others fits are =
      let a = body_new m inside body others fits.1 are in
      record { new = block inside a.new; lines_are = a.lines_are; fits = (fits.0, a.fits); tokens = refl; tree = λ line line'. a.tree; asks = block_no_more inside a.new body a.asks }

  pub body_new : (m : Move) (indent : ℕ) (s : Body) (others : List Line) → FitsBody indent s → AreMoved m (body_lines s) others → NewBody m indent s others
  body_new m indent (last_stmt s) others fits are =
      let a = stmt_new m indent s others fits are in
      record { new = last_stmt a.new; lines_are = a.lines_are; fits = a.fits; tree = ap (λ t. more_suite t end_suite) a.tree; asks = one_no_more a.new s a.asks }
  body_new m indent (more_stmt s rest) others fits are =
      let p = parted m (stmt_lines s) (body_lines rest) others are in
      let a = stmt_new m indent s p.first fits.0 p.one in
      let b = body_new m indent rest p.second fits.1 p.two in
      record { new = more_stmt a.new b.new; lines_are = joined p.first p.second (stmt_lines a.new) (body_lines b.new) others a.lines_are b.lines_are p.are; fits = (a.fits, b.fits); tree = rw (a.tree, b.tree); asks = more_no_more a.new s b.new rest a.asks b.asks }

  elifs_new : (m : Move) (indent : ℕ) (s : Elifs) (others : List Line) → FitsElifs indent s → AreMoved m (elif_lines s) others → NewElifs m indent s others
  elifs_new m indent no_elif others fits are = record { new = no_elif; lines_are = none_moved m others are; fits = fits; tree = refl; asks = elifs_same }
  elifs_new m indent (elif line at test colon suite rest) [] fits are = absurd are
  elifs_new m indent (elif line at test colon suite rest) (o ∷ os) fits are =
      let p = parted m (suite_lines suite) (elif_lines rest) os are.1 in
      let a = suite_new m indent suite p.first fits.1 p.one in
      let b = elifs_new m indent rest p.second fits.2 p.two in
      record {
        new = elif o (moved_spot m at) (moved_expr m test) (moved_spot m colon) a.new b.new;
        lines_are = ap (λ (ls : List Line). o ∷ ls) (joined p.first p.second (suite_lines a.new) (elif_lines b.new) os a.lines_are b.lines_are p.are);
        fits = (line_moved m line o indent ((keyword (codes "elif") at) ++ ((expr_tokens test) ++ ((sign (codes ":") colon) ++ suite_tokens suite))) ((keyword (codes "elif") (moved_spot m at)) ++ ((expr_tokens (moved_expr m test)) ++ ((sign (codes ":") (moved_spot m colon)) ++ suite_tokens a.new))) are.0 fits.0 (tokens_3 m (keyword (codes "elif") at) (expr_tokens test) (sign (codes ":") colon) (suite_tokens suite) (keyword (codes "elif") (moved_spot m at)) (expr_tokens (moved_expr m test)) (sign (codes ":") (moved_spot m colon)) (suite_tokens a.new) refl (expr_tokens_moved m test) refl a.tokens), a.fits, b.fits);
        tree = rw (expr_tree_same m test, a.tree o line, b.tree);
        asks = elif_no_more o line (moved_spot m at) at (moved_spot m colon) colon (moved_expr m test) test a.new suite b.new rest (no_deeper _ _ (expr_depth_same m test)) a.asks b.asks;
      }

  else_new : (m : Move) (indent : ℕ) (s : Else) (others : List Line) → FitsElse indent s → AreMoved m (else_lines s) others → NewElse m indent s others
  else_new m indent no_else_part others fits are = record { new = no_else_part; lines_are = none_moved m others are; fits = fits; tree = refl; asks = else_same }
  else_new m indent (else_part line at colon suite) [] fits are = absurd are
  else_new m indent (else_part line at colon suite) (o ∷ os) fits are =
      let a = suite_new m indent suite os fits.1 are.1 in
      record {
        new = else_part o (moved_spot m at) (moved_spot m colon) a.new;
        lines_are = ap (λ (ls : List Line). o ∷ ls) a.lines_are;
        fits = (line_moved m line o indent ((keyword (codes "else") at) ++ ((sign (codes ":") colon) ++ suite_tokens suite)) ((keyword (codes "else") (moved_spot m at)) ++ ((sign (codes ":") (moved_spot m colon)) ++ suite_tokens a.new)) are.0 fits.0 (tokens_2 m (keyword (codes "else") at) (sign (codes ":") colon) (suite_tokens suite) (keyword (codes "else") (moved_spot m at)) (sign (codes ":") (moved_spot m colon)) (suite_tokens a.new) refl refl a.tokens), a.fits);
        tree = ap else_suite (a.tree o line);
        asks = else_no_more o line (moved_spot m at) at (moved_spot m colon) colon a.new suite a.asks;
      }

  handlers_new : (m : Move) (indent : ℕ) (s : Handlers) (others : List Line) → FitsHandlers indent s → AreMoved m (handler_lines s) others → NewHandlers m indent s others
  handlers_new m indent (last_handler line at kind colon suite) [] fits are = absurd are
  handlers_new m indent (last_handler line at kind colon suite) (o ∷ os) fits are =
      let a = suite_new m indent suite os fits.1 are.1 in
      record {
        new = last_handler o (moved_spot m at) (moved_kind m kind) (moved_spot m colon) a.new;
        lines_are = ap (λ (ls : List Line). o ∷ ls) a.lines_are;
        fits = (line_moved m line o indent ((keyword (codes "except") at) ++ ((kind_tokens kind) ++ ((sign (codes ":") colon) ++ suite_tokens suite))) ((keyword (codes "except") (moved_spot m at)) ++ ((kind_tokens (moved_kind m kind)) ++ ((sign (codes ":") (moved_spot m colon)) ++ suite_tokens a.new))) are.0 fits.0 (tokens_3 m (keyword (codes "except") at) (kind_tokens kind) (sign (codes ":") colon) (suite_tokens suite) (keyword (codes "except") (moved_spot m at)) (kind_tokens (moved_kind m kind)) (sign (codes ":") (moved_spot m colon)) (suite_tokens a.new) refl (kind_tokens_moved m kind) refl a.tokens), a.fits);
        tree = rw (kind_class_same m kind, kind_bound_same m kind, a.tree o line);
        asks = last_no_more o line (moved_spot m at) at (moved_spot m colon) colon (moved_kind m kind) kind a.new suite (no_deeper _ _ (kind_depth_same m kind)) a.asks;
      }
  handlers_new m indent (more_handler line at kind colon suite rest) [] fits are = absurd are
  handlers_new m indent (more_handler line at kind colon suite rest) (o ∷ os) fits are =
      let p = parted m (suite_lines suite) (handler_lines rest) os are.1 in
      let a = suite_new m indent suite p.first fits.1 p.one in
      let b = handlers_new m indent rest p.second fits.2 p.two in
      record {
        new = more_handler o (moved_spot m at) (moved_kind m kind) (moved_spot m colon) a.new b.new;
        lines_are = ap (λ (ls : List Line). o ∷ ls) (joined p.first p.second (suite_lines a.new) (handler_lines b.new) os a.lines_are b.lines_are p.are);
        fits = (line_moved m line o indent ((keyword (codes "except") at) ++ ((kind_tokens kind) ++ ((sign (codes ":") colon) ++ suite_tokens suite))) ((keyword (codes "except") (moved_spot m at)) ++ ((kind_tokens (moved_kind m kind)) ++ ((sign (codes ":") (moved_spot m colon)) ++ suite_tokens a.new))) are.0 fits.0 (tokens_3 m (keyword (codes "except") at) (kind_tokens kind) (sign (codes ":") colon) (suite_tokens suite) (keyword (codes "except") (moved_spot m at)) (kind_tokens (moved_kind m kind)) (sign (codes ":") (moved_spot m colon)) (suite_tokens a.new) refl (kind_tokens_moved m kind) refl a.tokens), a.fits, b.fits);
        tree = rw (kind_class_same m kind, kind_bound_same m kind, a.tree o line, b.tree);
        asks = handler_no_more o line (moved_spot m at) at (moved_spot m colon) colon (moved_kind m kind) kind a.new suite b.new rest (kind_asks m kind) (no_deeper _ _ (kind_depth_same m kind)) a.asks b.asks;
      }

  def_new : (m : Move) (indent : ℕ) (s : DefSuite) (others : List Line) → FitsDef indent s → AreMoved m (def_lines s) others → NewDef m indent s others
  def_new m indent (def_line s) others fits are = record {
    new = def_line (moved_simple m s);
    lines_are = none_moved m others are;
    fits = fits;
    tokens = simple_tokens_moved m s;
    globals = refl;
    tree = λ line line'. ap (λ t. more_suite t end_suite) (simple_moved m line.span.to line'.span.to s);
    asks = def_line_no_more (moved_simple m s) s (simple_asks m s);
  }
  def_new m indent (def_block inside body) others fits are =
      let a = def_body_new m inside body others fits.2 are in
      record { new = def_block inside a.new; lines_are = a.lines_are; fits = (fits.0, a.has ∙ fits.1, a.fits); tokens = refl; globals = a.globals; tree = λ line line'. a.tree; asks = def_block_no_more inside a.new body a.asks }

  def_body_new : (m : Move) (indent : ℕ) (s : DefBody) (others : List Line) → FitsDefBody indent s → AreMoved m (def_body_lines s) others → NewDefBody m indent s others
  def_body_new m indent end_def others fits are = record { new = end_def; lines_are = none_moved m others are; fits = fits; has = refl; globals = refl; tree = refl; asks = end_def_same }
  def_body_new m indent (stmt_in_def s rest) others fits are =
      let p = parted m (stmt_lines s) (def_body_lines rest) others are in
      let a = stmt_new m indent s p.first fits.0 p.one in
      let b = def_body_new m indent rest p.second fits.1 p.two in
      record { new = stmt_in_def a.new b.new; lines_are = joined p.first p.second (stmt_lines a.new) (def_body_lines b.new) others a.lines_are b.lines_are p.are; fits = (a.fits, b.fits); has = refl; globals = b.globals; tree = rw (a.tree, b.tree); asks = in_def_no_more a.new s b.new rest a.asks b.asks }
  def_body_new m indent (global_in_def line at names rest) [] fits are = absurd are
  def_body_new m indent (global_in_def line at names rest) (o ∷ os) fits are =
      let b = def_body_new m indent rest os fits.1 are.1 in
      record {
        new = global_in_def o (moved_spot m at) (moved_names m names) b.new;
        lines_are = ap (λ (ls : List Line). o ∷ ls) b.lines_are;
        fits = (
          line_moved m line o indent (keyword (codes "global") at ++ names_tokens names) (keyword (codes "global") (moved_spot m at) ++ names_tokens (moved_names m names)) are.0 fits.0
              (both m (keyword (codes "global") at) (names_tokens names) (keyword (codes "global") (moved_spot m at)) (names_tokens (moved_names m names)) refl (names_tokens_moved m names)),
          b.fits,
        );
        has = b.has;
        globals = rw (names_list_same m names, b.globals);
        tree = b.tree;
        asks = global_no_more o line (moved_spot m at) at (moved_names m names) names b.new rest (names_list_same m names) b.asks;
      }
