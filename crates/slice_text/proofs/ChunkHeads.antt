-- Where a suite on the line itself goes, a `:` stands before it, and its tokens close what they open.
use Rattle.std.proofs.Common.{◌≡◌, ℕ, ◌+◌, Bool, true, false, List, [], ◌∷◌, ◌++◌, take, drop, if◌then◌else◌, refl, sym, ap, subst, ◌∙◌}
use Rattle.std.specs.Prelude.{codes, ⊤}
use Rattle.std.proofs.lemmas.List.{append_assoc}
use Rattle.py_lines.specs.declared.parts.Line.{Line}
use Rattle.py_lines.specs.declared.parts.Token.{Token}
use Rattle.py_tree.specs.Numbering.{size_suite, size_stmt, size_branches, numbered_suite}
use Rattle.py_expressions.specs.Concrete.{Spot}
use Rattle.py_expressions.specs.Tokens.{keyword, sign, word, expr_tokens, exprs_tokens}
use Rattle.py_grammar.specs.Written.{Simple, Stmt, simple, if_stmt, while_stmt, for_stmt, try_stmt, with_stmt, def_stmt, class_stmt, Suite, on_line, block, Body, last_stmt, more_stmt, Elifs, no_elif, elif, Else, no_else_part, else_part, Handlers, last_handler, more_handler, DefSuite, def_line, def_block, DefBody, end_def, stmt_in_def, global_in_def, Script, empty_script, script}
use Rattle.py_grammar.specs.StatementTokens.{simple_tokens, target_tokens, params_tokens, naming_tokens, kind_tokens, base_tokens, suite_tokens, def_suite_tokens}
use Rattle.py_grammar.specs.StatementTrees.{stmt_tree, suite_tree, body_tree, elif_trees, def_body_tree}
use Rattle.py_grammar.specs.Layout.{IsLine, FitsStmt, FitsSuite, FitsBody, FitsElifs, FitsElse, FitsHandlers, FitsDef, FitsDefBody}
use Rattle.py_grammar.specs.Grammar.{FitsScript}
use Rattle.slice_text.proofs.SomeTokens.{HasTokens, simple_some}
use Rattle.slice_text.specs.Cut.{loses_all}
use Rattle.slice_text.specs.CutScript.{before}
use Rattle.slice_text.proofs.Balanced.{Passes}
use Rattle.slice_text.proofs.BalancedSimples.{simple_tokens_passes}
use Rattle.slice_text.proofs.Chunks.{Chunk, kept, passed, gone, gone_stmt, plan_head, plan_def_head, plan_stmt, plan_suite, plan_body, plan_elifs, plan_else, plan_handlers, plan_def, plan_def_body, plan_script}
use Rattle.slice_text.proofs.CutFits.{front_is, back_is, group_2, group_3, group_4, group_5}
use Rattle.slice_text.proofs.Recut.{EndsColon}

-- so many tokens of a line stand before its suite, the last of them a `:`
pub record Headed (line : Line) (n : ℕ) : Type 0 where
  pub ahead : List Token
  pub first : Token
  pub behind : List Token
  pub tokens_are : line.tokens ≡ ahead ++ first ∷ behind
  pub taken : take n line.tokens ≡ ahead
  pub dropped : drop n line.tokens ≡ first ∷ behind
  pub passes : Passes (first ∷ behind)
  pub colon : EndsColon ahead

abbrev pub IsHeaded : Chunk → Type 0
IsHeaded (kept line) = ⊤
IsHeaded (passed line n) = Headed line n
IsHeaded (gone filled first others) = ⊤

abbrev pub AreHeaded : List Chunk → Type 0
AreHeaded [] = ⊤
AreHeaded (c ∷ cs) = IsHeaded c × AreHeaded cs

both : (a b : List Chunk) → AreHeaded a → AreHeaded b → AreHeaded (a ++ b)
both [] b one two = two
both (c ∷ a) b one two = (one.0, both a b one.1 two)

colon_last : (front : List Token) (colon : Spot) → EndsColon (front ++ sign (codes ":") colon)
colon_last [] colon = refl
colon_last (t ∷ []) colon = refl
colon_last (t ∷ u ∷ front) colon = colon_last (u ∷ front) colon

as_line : (line : Line) (indent : ℕ) (a b : List Token) → a ≡ b → IsLine line indent a → IsLine line indent b
as_line line indent a b same is = record { indent_is = is.indent_is; tokens_are = is.tokens_are ∙ same }

headed_line : (line : Line) (indent : ℕ) (front : List Token) (colon : Spot) (s : Simple) → IsLine line indent (front ++ (sign (codes ":") colon ++ simple_tokens s)) → Headed line (before line s)
headed_line line indent front colon s is = by (simple_tokens s) refl
  where
    tokens : line.tokens ≡ (front ++ sign (codes ":") colon) ++ simple_tokens s
    tokens = is.tokens_are ∙ sym (append_assoc front (sign (codes ":") colon) (simple_tokens s))

    by : (ts : List Token) → simple_tokens s ≡ ts → Headed line (before line s)
    by [] none = absurd (subst (λ (us : List Token). HasTokens us) none (simple_some s))
    by (t ∷ ts) some = record {
      ahead = front ++ sign (codes ":") colon;
      first = t;
      behind = ts;
      tokens_are = tokens ∙ ap (λ (us : List Token). (front ++ sign (codes ":") colon) ++ us) some;
      taken = front_is line.tokens (front ++ sign (codes ":") colon) (simple_tokens s) tokens;
      dropped = back_is line.tokens (front ++ sign (codes ":") colon) (simple_tokens s) tokens ∙ some;
      passes = subst (λ (us : List Token). Passes us) some (simple_tokens_passes s);
      colon = colon_last front colon;
    }

head_is : (keep : ℕ → Bool) (n : ℕ) (line : Line) (indent : ℕ) (front : List Token) (colon : Spot) (suite : Suite) → IsLine line indent (front ++ (sign (codes ":") colon ++ suite_tokens suite)) → IsHeaded (plan_head keep n line suite)
head_is keep n line indent front colon (block inside body) is = tt
head_is keep n line indent front colon (on_line s) is = chosen (keep n)
  where
    chosen : (b : Bool) → IsHeaded (if b then kept line else passed line (before line s))
    chosen true = tt
    chosen false = headed_line line indent front colon s is

def_head_is : (keep : ℕ → Bool) (n : ℕ) (line : Line) (indent : ℕ) (front : List Token) (colon : Spot) (suite : DefSuite) → IsLine line indent (front ++ (sign (codes ":") colon ++ def_suite_tokens suite)) → IsHeaded (plan_def_head keep n line suite)
def_head_is keep n line indent front colon (def_block inside body) is = tt
def_head_is keep n line indent front colon (def_line s) is = chosen (keep n)
  where
    chosen : (b : Bool) → IsHeaded (if b then kept line else passed line (before line s))
    chosen true = tt
    chosen false = headed_line line indent front colon s is

-- with so many parts before the `:`
module _ (keep : ℕ → Bool) (n : ℕ) (line : Line) (indent : ℕ) (colon : Spot) (suite : Suite) where
  head_1 : (a : List Token) → IsLine line indent (a ++ (sign (codes ":") colon ++ suite_tokens suite)) → IsHeaded (plan_head keep n line suite)
  head_1 a is = head_is keep n line indent a colon suite is

  head_2 : (a b : List Token) → IsLine line indent (a ++ (b ++ (sign (codes ":") colon ++ suite_tokens suite))) → IsHeaded (plan_head keep n line suite)
  head_2 a b is = head_is keep n line indent (a ++ b) colon suite (as_line line indent (a ++ (b ++ (sign (codes ":") colon ++ suite_tokens suite))) ((a ++ b) ++ (sign (codes ":") colon ++ suite_tokens suite)) (sym (group_2 a b (sign (codes ":") colon ++ suite_tokens suite))) is)

  head_3 : (a b c : List Token) → IsLine line indent (a ++ (b ++ (c ++ (sign (codes ":") colon ++ suite_tokens suite)))) → IsHeaded (plan_head keep n line suite)
  head_3 a b c is =
      head_is keep n line indent (a ++ (b ++ c)) colon suite
      (as_line line indent (a ++ (b ++ (c ++ (sign (codes ":") colon ++ suite_tokens suite)))) ((a ++ (b ++ c)) ++ (sign (codes ":") colon ++ suite_tokens suite)) (sym (group_3 a b c (sign (codes ":") colon ++ suite_tokens suite))) is)

  head_4 : (a b c d : List Token) → IsLine line indent (a ++ (b ++ (c ++ (d ++ (sign (codes ":") colon ++ suite_tokens suite))))) → IsHeaded (plan_head keep n line suite)
  head_4 a b c d is =
      head_is keep n line indent (a ++ (b ++ (c ++ d))) colon suite
      (as_line line indent (a ++ (b ++ (c ++ (d ++ (sign (codes ":") colon ++ suite_tokens suite))))) ((a ++ (b ++ (c ++ d))) ++ (sign (codes ":") colon ++ suite_tokens suite)) (sym (group_4 a b c d (sign (codes ":") colon ++ suite_tokens suite))) is)

def_head_5 : (keep : ℕ → Bool) (n : ℕ) (line : Line) (indent : ℕ) (colon : Spot) (suite : DefSuite) (a b c d e : List Token) → IsLine line indent (a ++ (b ++ (c ++ (d ++ (e ++ (sign (codes ":") colon ++ def_suite_tokens suite)))))) → IsHeaded (plan_def_head keep n line suite)
def_head_5 keep n line indent colon suite a b c d e is =
    def_head_is keep n line indent (a ++ (b ++ (c ++ (d ++ e)))) colon suite
    (as_line line indent (a ++ (b ++ (c ++ (d ++ (e ++ (sign (codes ":") colon ++ def_suite_tokens suite)))))) ((a ++ (b ++ (c ++ (d ++ e)))) ++ (sign (codes ":") colon ++ def_suite_tokens suite))
    (sym (group_5 a b c d e (sign (codes ":") colon ++ def_suite_tokens suite))) is)

either : (keep : ℕ → Bool) (filled : Bool) (n : ℕ) (s : Stmt) (b : Bool) → AreHeaded (plan_stmt keep n s) → AreHeaded (if b then plan_stmt keep n s else gone_stmt filled s ∷ [])
either keep filled n s true are = are
either keep filled n s false are = (tt, tt)

mutual
  pub stmt_heads : (keep : ℕ → Bool) (n indent : ℕ) (s : Stmt) → FitsStmt indent s → AreHeaded (plan_stmt keep n s)
  stmt_heads keep n indent (simple line s) fits = (tt, tt)
  stmt_heads keep n indent (if_stmt line at test colon suite elifs orelse) fits =
      let rest : ℕ = n + 1 + size_suite (suite_tree line suite) in
      let last : ℕ = n + 1 + (size_suite (suite_tree line suite) + size_branches (elif_trees elifs)) in (
        head_2 keep (n + 1) line indent colon suite (keyword (codes "if") at) (expr_tokens test) fits.0,
        both (plan_suite keep (n + 1) suite) (plan_elifs keep rest elifs ++ plan_else keep last orelse) (suite_heads keep (n + 1) indent suite fits.1)
            (both (plan_elifs keep rest elifs) (plan_else keep last orelse) (elif_heads keep rest indent elifs fits.2) (else_heads keep last indent orelse fits.3)),
      )
  stmt_heads keep n indent (while_stmt line at test colon suite) fits = (head_2 keep (n + 1) line indent colon suite (keyword (codes "while") at) (expr_tokens test) fits.0, suite_heads keep (n + 1) indent suite fits.1)
  stmt_heads keep n indent (for_stmt line at t in_word e colon suite) fits =
      (head_4 keep (n + 1) line indent colon suite (keyword (codes "for") at) (target_tokens t) (keyword (codes "in") in_word) (exprs_tokens e) fits.0, suite_heads keep (n + 1) indent suite fits.1)
  stmt_heads keep n indent (try_stmt line at colon suite handlers) fits =
      let rest : ℕ = n + 1 + size_suite (suite_tree line suite) in (
        head_1 keep (n + 1) line indent colon suite (keyword (codes "try") at) fits.0,
        both (plan_suite keep (n + 1) suite) (plan_handlers keep rest handlers) (suite_heads keep (n + 1) indent suite fits.1) (handler_heads keep rest indent handlers fits.2),
      )
  stmt_heads keep n indent (with_stmt line at e name colon suite) fits =
      (head_3 keep (n + 1) line indent colon suite (keyword (codes "with") at) (expr_tokens e) (naming_tokens name) fits.0, suite_heads keep (n + 1) indent suite fits.1)
  stmt_heads keep n indent (def_stmt line at name_at bytes opening names closing colon suite) fits =
      (def_head_5 keep (n + 1) line indent colon suite (keyword (codes "def") at) (word bytes name_at) (sign (codes "(") opening) (params_tokens names) (sign (codes ")") closing) fits.0, def_heads keep (n + 1) indent suite fits.1)
  stmt_heads keep n indent (class_stmt line at name_at bytes of colon suite) fits =
      (head_3 keep (n + 1) line indent colon suite (keyword (codes "class") at) (word bytes name_at) (base_tokens of) fits.0, suite_heads keep (n + 1) indent suite fits.1)

  pub suite_heads : (keep : ℕ → Bool) (n indent : ℕ) (s : Suite) → FitsSuite indent s → AreHeaded (plan_suite keep n s)
  suite_heads keep n indent (on_line s) fits = tt
  suite_heads keep n indent (block inside body) fits = body_heads keep (loses_all keep (numbered_suite n (body_tree body))) n inside body fits.1

  pub body_heads : (keep : ℕ → Bool) (filled : Bool) (n indent : ℕ) (s : Body) → FitsBody indent s → AreHeaded (plan_body keep filled n s)
  body_heads keep filled n indent (last_stmt s) fits = either keep filled n s (keep n) (stmt_heads keep n indent s fits)
  body_heads keep filled n indent (more_stmt s rest) fits =
      both (if keep n then plan_stmt keep n s else gone_stmt filled s ∷ []) (plan_body keep false (n + size_stmt (stmt_tree s)) rest) (either keep filled n s (keep n) (stmt_heads keep n indent s fits.0))
      (body_heads keep false (n + size_stmt (stmt_tree s)) indent rest fits.1)

  pub elif_heads : (keep : ℕ → Bool) (n indent : ℕ) (s : Elifs) → FitsElifs indent s → AreHeaded (plan_elifs keep n s)
  elif_heads keep n indent no_elif fits = tt
  elif_heads keep n indent (elif line at test colon suite rest) fits =
      let next : ℕ = n + size_suite (suite_tree line suite) in (
        head_2 keep n line indent colon suite (keyword (codes "elif") at) (expr_tokens test) fits.0,
        both (plan_suite keep n suite) (plan_elifs keep next rest) (suite_heads keep n indent suite fits.1) (elif_heads keep next indent rest fits.2),
      )

  pub else_heads : (keep : ℕ → Bool) (n indent : ℕ) (s : Else) → FitsElse indent s → AreHeaded (plan_else keep n s)
  else_heads keep n indent no_else_part fits = tt
  else_heads keep n indent (else_part line at colon suite) fits = (head_1 keep n line indent colon suite (keyword (codes "else") at) fits.0, suite_heads keep n indent suite fits.1)

  pub handler_heads : (keep : ℕ → Bool) (n indent : ℕ) (s : Handlers) → FitsHandlers indent s → AreHeaded (plan_handlers keep n s)
  handler_heads keep n indent (last_handler line at kind colon suite) fits = (head_2 keep n line indent colon suite (keyword (codes "except") at) (kind_tokens kind) fits.0, suite_heads keep n indent suite fits.1)
  handler_heads keep n indent (more_handler line at kind colon suite rest) fits =
      let next : ℕ = n + size_suite (suite_tree line suite) in (
        head_2 keep n line indent colon suite (keyword (codes "except") at) (kind_tokens kind) fits.0,
        both (plan_suite keep n suite) (plan_handlers keep next rest) (suite_heads keep n indent suite fits.1) (handler_heads keep next indent rest fits.2),
      )

  pub def_heads : (keep : ℕ → Bool) (n indent : ℕ) (s : DefSuite) → FitsDef indent s → AreHeaded (plan_def keep n s)
  def_heads keep n indent (def_line s) fits = tt
  def_heads keep n indent (def_block inside body) fits = def_body_heads keep (loses_all keep (numbered_suite n (def_body_tree body))) n inside body fits.2

  pub def_body_heads : (keep : ℕ → Bool) (filled : Bool) (n indent : ℕ) (s : DefBody) → FitsDefBody indent s → AreHeaded (plan_def_body keep filled n s)
  def_body_heads keep filled n indent end_def fits = tt
  def_body_heads keep filled n indent (stmt_in_def s rest) fits =
      both (if keep n then plan_stmt keep n s else gone_stmt filled s ∷ []) (plan_def_body keep false (n + size_stmt (stmt_tree s)) rest) (either keep filled n s (keep n) (stmt_heads keep n indent s fits.0))
      (def_body_heads keep false (n + size_stmt (stmt_tree s)) indent rest fits.1)
  def_body_heads keep filled n indent (global_in_def line at names rest) fits = (tt, def_body_heads keep filled n indent rest fits.1)

pub script_heads : (keep : ℕ → Bool) (s : Script) → FitsScript s → AreHeaded (plan_script keep s)
script_heads keep empty_script fits = tt
script_heads keep (script body) fits = body_heads keep false 0 0 body fits
