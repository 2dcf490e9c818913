-- Lines have at most one script: what each line begins is known, and blocks follow by their indentation.
use Rattle.std.proofs.Common.{◌≡◌, inl, inr, ℕ, ◌<◌, Bool, true, false, ◌||◌, List, [], ◌∷◌, ◌++◌, refl, ap, sym, ◌∙◌, arith, subst, append_assoc}
use Rattle.std.specs.Prelude.{codes}
use Rattle.py_lines.specs.declared.parts.Line.{Line}
use Rattle.py_lines.specs.declared.parts.Token.{Token}
use Rattle.py_grammar.specs.Written.{Kind, Names, Script, empty_script, script, Stmt, simple, if_stmt, while_stmt, for_stmt, try_stmt, with_stmt, def_stmt, class_stmt, Suite, on_line, block, Body, last_stmt, more_stmt, Elifs, no_elif, elif, Else, no_else_part, else_part, Handlers, last_handler, more_handler, DefSuite, def_line, def_block, DefBody, end_def, stmt_in_def, global_in_def}
use Rattle.py_grammar.specs.Layout.{stmt_lines, suite_lines, body_lines, elif_lines, else_lines, handler_lines, def_lines, def_body_lines, has_stmt, IsLine, FitsStmt, FitsSuite, FitsBody, FitsElifs, FitsElse, FitsHandlers, FitsDef, FitsDefBody}
use Rattle.py_expressions.specs.Concrete.{Spot, Expr}
use Rattle.py_expressions.specs.Tokens.{keyword, sign, word, expr_tokens, exprs_tokens}
use Rattle.py_grammar.specs.StatementTokens.{suite_tokens, def_suite_tokens, target_tokens, params_tokens, naming_tokens, kind_tokens, base_tokens, names_tokens}
use Rattle.py_tree.specs.Tree.{ScriptTree}
use Rattle.py_grammar.specs.StatementTrees.{script_tree}
use Rattle.py_grammar.specs.Grammar.{script_lines, FitsScript, InGrammar}
use Rattle.py_grammar.specs.LineReader.{Head, elif_head, else_head, except_head, global_head, head_tokens, behind_tokens}
use Rattle.py_grammar.specs.Follows.{behind_of, def_behind, line_of, head_of, more_lines, is_elif, is_else, is_except, goes_on, Below, Low, Without}
use Rattle.py_grammar.proofs.HeadReading.{same_head}

-- ---- what may follow

pub low_without : (part : Head → Bool) (d : ℕ) (lines : List Line) → Without part d lines → Low d lines
low_without part d [] is = tt
low_without part d (line ∷ lines) (inl less) = omega (arith, less)
low_without part d (line ∷ lines) (inr is) = let at = is.indent_is in omega (arith, at)

pub below_without : (part : Head → Bool) (d : ℕ) (lines : List Line) → Below d lines → Without part d lines
below_without part d [] is = tt
below_without part d (line ∷ lines) is = inl is

pub below_low : (d inside : ℕ) (lines : List Line) → d < inside → Low d lines → Below inside lines
below_low d inside [] more is = tt
below_low d inside (line ∷ lines) more is = omega (arith, more, is)

pub weaker : (part other : Head → Bool) (d : ℕ) (lines : List Line) → ((h : Head) → part h ≡ false → other h ≡ false) → Without part d lines → Without other d lines
weaker part other d [] less is = tt
weaker part other d (line ∷ lines) less (inl below) = inl below
weaker part other d (line ∷ lines) less (inr is) = inr (record { indent_is = is.indent_is; head = is.head; tokens_are = is.tokens_are; no_part = less is.head is.no_part })

pub no_elif_next : (h : Head) → goes_on h ≡ false → is_elif h ≡ false
no_elif_next h is = first (is_elif h) (is_else h || is_except h) is
  where
    first : (a b : Bool) → (a || b) ≡ false → a ≡ false
    first false b is = refl
    first true b is = is

second_of : (a b : Bool) → (a || b) ≡ false → b ≡ false
second_of false b is = is
second_of true b is = cc

pub no_else_next : (h : Head) → goes_on h ≡ false → is_else h ≡ false
no_else_next h is = first (is_else h) (is_except h) (second_of (is_elif h) (is_else h || is_except h) is)
  where
    first : (a b : Bool) → (a || b) ≡ false → a ≡ false
    first false b is = refl
    first true b is = is

pub no_except_next : (h : Head) → goes_on h ≡ false → is_except h ≡ false
no_except_next h is = second_of (is_else h) (is_except h) (second_of (is_elif h) (is_else h || is_except h) is)

-- a line that begins such a part cannot follow
pub clash : (part : Head → Bool) (d : ℕ) (line : Line) (lines : List Line) (h : Head) → Without part d (line ∷ lines) → IsLine line d (head_tokens h) → part h ≡ true → ⊥
clash part d line lines h (inl less) is begun = let at = is.indent_is in omega (arith, less, at)
clash part d line lines h (inr begins) is begun = both (ap part (same_head begins.head h (sym begins.tokens_are ∙ is.tokens_are)))
  where
    both : part begins.head ≡ part h → ⊥
    both same = cc (begins.no_part, begun, same)

pub first_same : (a b : Line) (as_lines bs : List Line) → (a ∷ as_lines) ≡ (b ∷ bs) → a ≡ b
first_same a b as_lines bs is = cc

pub rest_same : (a b : Line) (as_lines bs : List Line) → (a ∷ as_lines) ≡ (b ∷ bs) → as_lines ≡ bs
rest_same a b as_lines bs is = cc

-- one line begins one thing
pub one_head : (a b : Line) (d e : ℕ) (h i : Head) → a ≡ b → IsLine a d (head_tokens h) → IsLine b e (head_tokens i) → h ≡ i
one_head a b d e h i same is_a is_b = same_head h i (sym is_a.tokens_are ∙ ap (λ (l : Line). l.tokens) same ∙ is_b.tokens_are)

pub behind_is : (suite : Suite) → suite_tokens suite ≡ behind_tokens (behind_of suite)
behind_is (on_line s) = refl
behind_is (block inside body) = refl

pub def_behind_is : (suite : DefSuite) → def_suite_tokens suite ≡ behind_tokens (def_behind suite)
def_behind_is (def_line s) = refl
def_behind_is (def_block inside body) = refl

pub with_tokens : (line : Line) (d : ℕ) (ts us : List Token) → ts ≡ us → IsLine line d ts → IsLine line d us
with_tokens line d ts us same is = record { indent_is = is.indent_is; tokens_are = is.tokens_are ∙ same }

pub line_fits : (d : ℕ) (s : Stmt) → FitsStmt d s → IsLine (line_of s) d (head_tokens (head_of s))
line_fits d (simple line s) fits = fits
line_fits d (if_stmt line at test colon suite elifs orelse) fits = with_tokens line d _ _ (ap (λ ts. keyword (codes "if") at ++ (expr_tokens test ++ (sign (codes ":") colon ++ ts))) (behind_is suite)) fits.0
line_fits d (while_stmt line at test colon suite) fits = with_tokens line d _ _ (ap (λ ts. keyword (codes "while") at ++ (expr_tokens test ++ (sign (codes ":") colon ++ ts))) (behind_is suite)) fits.0
line_fits d (for_stmt line at t in_word e colon suite) fits = with_tokens line d _ _ (ap (λ ts. keyword (codes "for") at ++ (target_tokens t ++ (keyword (codes "in") in_word ++ (exprs_tokens e ++ (sign (codes ":") colon ++ ts))))) (behind_is suite)) fits.0
line_fits d (try_stmt line at colon suite handlers) fits = with_tokens line d _ _ (ap (λ ts. keyword (codes "try") at ++ (sign (codes ":") colon ++ ts)) (behind_is suite)) fits.0
line_fits d (with_stmt line at e called colon suite) fits = with_tokens line d _ _ (ap (λ ts. keyword (codes "with") at ++ (expr_tokens e ++ (naming_tokens called ++ (sign (codes ":") colon ++ ts)))) (behind_is suite)) fits.0
line_fits d (def_stmt line at name_at bytes opening given closing colon suite) fits =
    with_tokens line d _ _ (ap (λ ts. keyword (codes "def") at ++ (word bytes name_at ++ (sign (codes "(") opening ++ (params_tokens given ++ (sign (codes ")") closing ++ (sign (codes ":") colon ++ ts)))))) (def_behind_is suite)) fits.0
line_fits d (class_stmt line at name_at bytes of colon suite) fits = with_tokens line d _ _ (ap (λ ts. keyword (codes "class") at ++ (word bytes name_at ++ (base_tokens of ++ (sign (codes ":") colon ++ ts)))) (behind_is suite)) fits.0

pub begins_stmt : (s : Stmt) → goes_on (head_of s) ≡ false
begins_stmt (simple line s) = refl
begins_stmt (if_stmt line at test colon suite elifs orelse) = refl
begins_stmt (while_stmt line at test colon suite) = refl
begins_stmt (for_stmt line at t in_word e colon suite) = refl
begins_stmt (try_stmt line at colon suite handlers) = refl
begins_stmt (with_stmt line at e called colon suite) = refl
begins_stmt (def_stmt line at name_at bytes opening given closing colon suite) = refl
begins_stmt (class_stmt line at name_at bytes of colon suite) = refl

pub stmt_first : (s : Stmt) → stmt_lines s ≡ line_of s ∷ more_lines s
stmt_first (simple line s) = refl
stmt_first (if_stmt line at test colon suite elifs orelse) = refl
stmt_first (while_stmt line at test colon suite) = refl
stmt_first (for_stmt line at t in_word e colon suite) = refl
stmt_first (try_stmt line at colon suite handlers) = refl
stmt_first (with_stmt line at e called colon suite) = refl
stmt_first (def_stmt line at name_at bytes opening given closing colon suite) = refl
stmt_first (class_stmt line at name_at bytes of colon suite) = refl

-- a statement follows
pub stmt_follows : (d : ℕ) (s : Stmt) (rest : List Line) → FitsStmt d s → Without goes_on d (stmt_lines s ++ rest)
stmt_follows d s rest fits =
    let is = line_fits d s fits in
    subst (λ ls. Without goes_on d (ls ++ rest)) (sym (stmt_first s)) (inr (record { indent_is = is.indent_is; head = head_of s; tokens_are = is.tokens_are; no_part = begins_stmt s }))

pub stmt_indent : (d : ℕ) (s : Stmt) (rest : List Line) → FitsStmt d s → Below d (stmt_lines s ++ rest) → ⊥
stmt_indent d s rest fits below =
    let is = line_fits d s fits in
    let at = is.indent_is in
    let less = subst (λ ls. Below d (ls ++ rest)) (stmt_first s) below in
    omega (arith, at, less)

pub body_follows : (d : ℕ) (b : Body) (rest : List Line) → FitsBody d b → Without goes_on d (body_lines b ++ rest)
body_follows d (last_stmt s) rest fits = stmt_follows d s rest fits
body_follows d (more_stmt s more) rest fits = subst (Without goes_on d) (sym (append_assoc (stmt_lines s) (body_lines more) rest)) (stmt_follows d s (body_lines more ++ rest) fits.0)

pub body_indent : (d : ℕ) (b : Body) (rest : List Line) → FitsBody d b → Below d (body_lines b ++ rest) → ⊥
body_indent d (last_stmt s) rest fits below = stmt_indent d s rest fits below
body_indent d (more_stmt s more) rest fits below = stmt_indent d s (body_lines more ++ rest) fits.0 (subst (Below d) (append_assoc (stmt_lines s) (body_lines more) rest) below)

-- ---- the parts of a compound statement

pub elif_line_fits : (d : ℕ) (line : Line) (at : Spot) (test : Expr) (colon : Spot) (suite : Suite) → IsLine line d (keyword (codes "elif") at ++ (expr_tokens test ++ (sign (codes ":") colon ++ suite_tokens suite))) → IsLine line d (head_tokens (elif_head at test colon (behind_of suite)))
elif_line_fits d line at test colon suite is = with_tokens line d _ _ (ap (λ ts. keyword (codes "elif") at ++ (expr_tokens test ++ (sign (codes ":") colon ++ ts))) (behind_is suite)) is

pub else_line_fits : (d : ℕ) (line : Line) (at colon : Spot) (suite : Suite) → IsLine line d (keyword (codes "else") at ++ (sign (codes ":") colon ++ suite_tokens suite)) → IsLine line d (head_tokens (else_head at colon (behind_of suite)))
else_line_fits d line at colon suite is = with_tokens line d _ _ (ap (λ ts. keyword (codes "else") at ++ (sign (codes ":") colon ++ ts)) (behind_is suite)) is

pub except_line_fits : (d : ℕ) (line : Line) (at : Spot) (kind : Kind) (colon : Spot) (suite : Suite) → IsLine line d (keyword (codes "except") at ++ (kind_tokens kind ++ (sign (codes ":") colon ++ suite_tokens suite))) → IsLine line d (head_tokens (except_head at kind colon (behind_of suite)))
except_line_fits d line at kind colon suite is = with_tokens line d _ _ (ap (λ ts. keyword (codes "except") at ++ (kind_tokens kind ++ (sign (codes ":") colon ++ ts))) (behind_is suite)) is

-- behind `elif` parts
else_low : (d : ℕ) (o : Else) (rest : List Line) → FitsElse d o → Low d rest → Low d (else_lines o ++ rest)
else_low d no_else_part rest fits low = low
else_low d (else_part line at colon suite) rest fits low = let at_d = fits.0.indent_is in omega (arith, at_d)

elif_low : (d : ℕ) (e : Elifs) (rest : List Line) → FitsElifs d e → Low d rest → Low d (elif_lines e ++ rest)
elif_low d no_elif rest fits low = low
elif_low d (elif line at test colon suite more) rest fits low = let at_d = fits.0.indent_is in omega (arith, at_d)

handler_low : (d : ℕ) (h : Handlers) (rest : List Line) → FitsHandlers d h → Low d (handler_lines h ++ rest)
handler_low d (last_handler line at kind colon suite) rest fits = let at_d = fits.0.indent_is in omega (arith, at_d)
handler_low d (more_handler line at kind colon suite more) rest fits = let at_d = fits.0.indent_is in omega (arith, at_d)

-- no `elif` follows an `else` or what comes behind
else_without_elif : (d : ℕ) (o : Else) (rest : List Line) → FitsElse d o → Without goes_on d rest → Without is_elif d (else_lines o ++ rest)
else_without_elif d no_else_part rest fits next = weaker goes_on is_elif d rest no_elif_next next
else_without_elif d (else_part line at colon suite) rest fits next =
    let is = else_line_fits d line at colon suite fits.0 in
    inr (record { indent_is = is.indent_is; head = else_head at colon (behind_of suite); tokens_are = is.tokens_are; no_part = refl })

pub block_first : (d : ℕ) (b : Body) → FitsBody d b → (line : Line) × (lines : List Line) × (body_lines b ≡ line ∷ lines) × (line.indent ≡ d)
block_first d (last_stmt s) fits = (line_of s, more_lines s, stmt_first s, (line_fits d s fits).indent_is)
block_first d (more_stmt s more) fits = (line_of s, more_lines s ++ body_lines more, ap (λ ls. ls ++ body_lines more) (stmt_first s), (line_fits d s fits.0).indent_is)

same_inside : (d e : ℕ) (a b : Body) (r q : List Line) → FitsBody d a → FitsBody e b → body_lines a ++ r ≡ body_lines b ++ q → d ≡ e
same_inside d e a b r q fits_a fits_b same =
    let x = block_first d a fits_a in
    let y = block_first e b fits_b in
    let both : (x.0 ∷ (x.1 ++ r)) ≡ (y.0 ∷ (y.1 ++ q)) = ap (λ ls. ls ++ r) (sym x.2) ∙ same ∙ ap (λ ls. ls ++ q) y.2 in
    sym x.3 ∙ ap (λ (l : Line). l.indent) (first_same _ _ _ _ both) ∙ y.3

-- ---- the suites of functions

pub global_fits : (d : ℕ) (line : Line) (at : Spot) (names : Names) → IsLine line d (keyword (codes "global") at ++ names_tokens names) → IsLine line d (head_tokens (global_head at names))
global_fits d line at names is = is

def_follows : (d : ℕ) (b : DefBody) (rest : List Line) → FitsDefBody d b → Below d rest → Without goes_on d (def_body_lines b ++ rest)
def_follows d end_def rest fits below = below_without goes_on d rest below
def_follows d (stmt_in_def s more) rest fits below = subst (Without goes_on d) (sym (append_assoc (stmt_lines s) (def_body_lines more) rest)) (stmt_follows d s (def_body_lines more ++ rest) fits.0)
def_follows d (global_in_def line at names more) rest fits below =
    let is = global_fits d line at names fits.0 in
    inr (record { indent_is = is.indent_is; head = global_head at names; tokens_are = is.tokens_are; no_part = refl })

def_first : (d : ℕ) (b : DefBody) → has_stmt b ≡ true → FitsDefBody d b → (line : Line) × (lines : List Line) × (def_body_lines b ≡ line ∷ lines) × (line.indent ≡ d)
def_first d end_def some fits = absurd (none_there some)
  where
    none_there : false ≡ true → ⊥
    none_there is = cc
def_first d (stmt_in_def s more) some fits = (line_of s, more_lines s ++ def_body_lines more, ap (λ ls. ls ++ def_body_lines more) (stmt_first s), (line_fits d s fits.0).indent_is)
def_first d (global_in_def line at names more) some fits = (line, def_body_lines more, refl, fits.0.indent_is)

same_def_inside : (d e : ℕ) (a b : DefBody) (r q : List Line) → has_stmt a ≡ true → has_stmt b ≡ true → FitsDefBody d a → FitsDefBody e b → def_body_lines a ++ r ≡ def_body_lines b ++ q → d ≡ e
same_def_inside d e a b r q some_a some_b fits_a fits_b same =
    let x = def_first d a some_a fits_a in
    let y = def_first e b some_b fits_b in
    let both : (x.0 ∷ (x.1 ++ r)) ≡ (y.0 ∷ (y.1 ++ q)) = ap (λ ls. ls ++ r) (sym x.2) ∙ same ∙ ap (λ ls. ls ++ q) y.2 in
    sym x.3 ∙ ap (λ (l : Line). l.indent) (first_same _ _ _ _ both) ∙ y.3

-- ---- every statement

pub heads_same : (d : ℕ) (s t : Stmt) (r q : List Line) → FitsStmt d s → FitsStmt d t → stmt_lines s ++ r ≡ stmt_lines t ++ q
    → (line_of s ≡ line_of t) × (head_of s ≡ head_of t) × (more_lines s ++ r ≡ more_lines t ++ q)
heads_same d s t r q fits_s fits_t same =
    let both : (line_of s ∷ (more_lines s ++ r)) ≡ (line_of t ∷ (more_lines t ++ q)) = ap (λ ls. ls ++ r) (sym (stmt_first s)) ∙ same ∙ ap (λ ls. ls ++ q) (stmt_first t) in
    let line = first_same _ _ _ _ both in
    (line, one_head (line_of s) (line_of t) d d (head_of s) (head_of t) line (line_fits d s fits_s) (line_fits d t fits_t), rest_same _ _ _ _ both)

-- two lists behind two, grouped to the right
pub regroup : (a b r c e q : List Line) → (a ++ b) ++ r ≡ (c ++ e) ++ q → a ++ (b ++ r) ≡ c ++ (e ++ q)
regroup a b r c e q same = sym (append_assoc a b r) ∙ same ∙ append_assoc c e q

handler_clash : (d : ℕ) (h : Handlers) (rest : List Line) → FitsHandlers d h → Without is_except d (handler_lines h ++ rest) → ⊥
handler_clash d (last_handler line at kind colon suite) rest fits without = clash is_except d line (suite_lines suite ++ rest) (except_head at kind colon (behind_of suite)) without (except_line_fits d line at kind colon suite fits.0) refl
handler_clash d (more_handler line at kind colon suite more) rest fits without = clash is_except d line ((suite_lines suite ++ handler_lines more) ++ rest) (except_head at kind colon (behind_of suite)) without (except_line_fits d line at kind colon suite fits.0) refl

abbrev pub is_global : Head → Bool
is_global (global_head at names) = true
is_global h = false

no_global : (s : Stmt) → is_global (head_of s) ≡ false
no_global (simple line s) = refl
no_global (if_stmt line at test colon suite elifs orelse) = refl
no_global (while_stmt line at test colon suite) = refl
no_global (for_stmt line at t in_word e colon suite) = refl
no_global (try_stmt line at colon suite handlers) = refl
no_global (with_stmt line at e called colon suite) = refl
no_global (def_stmt line at name_at bytes opening given closing colon suite) = refl
no_global (class_stmt line at name_at bytes of colon suite) = refl

stmt_is_no_global : (d : ℕ) (s : Stmt) (line : Line) (at : Spot) (names : Names) (r q : List Line) → FitsStmt d s → IsLine line d (keyword (codes "global") at ++ names_tokens names) → stmt_lines s ++ r ≡ line ∷ q → ⊥
stmt_is_no_global d s line at names r q fits is same =
    let both : (line_of s ∷ (more_lines s ++ r)) ≡ (line ∷ q) = ap (λ ls. ls ++ r) (sym (stmt_first s)) ∙ same in
    let h = one_head (line_of s) line d d (head_of s) (global_head at names) (first_same _ _ _ _ both) (line_fits d s fits) (global_fits d line at names is) in
    differ (sym (no_global s) ∙ ap is_global h)
  where
    differ : false ≡ true → ⊥
    differ is = cc

mutual
  one_stmt : (d : ℕ) (s t : Stmt) (r q : List Line) → FitsStmt d s → FitsStmt d t → Without goes_on d r → Without goes_on d q → stmt_lines s ++ r ≡ stmt_lines t ++ q → (s ≡ t) × (r ≡ q)
  one_stmt d (simple line s) (simple line_2 s_2) r q fits fits_2 next next_2 same =
      let h = heads_same d (simple line s) (simple line_2 s_2) r q fits fits_2 same in
      (cc (h.0, h.1), h.2)
  one_stmt d (if_stmt line at test colon suite elifs orelse) (if_stmt line_2 at_2 test_2 colon_2 suite_2 elifs_2 orelse_2) r q fits fits_2 next next_2 same =
      let h = heads_same d (if_stmt line at test colon suite elifs orelse) (if_stmt line_2 at_2 test_2 colon_2 suite_2 elifs_2 orelse_2) r q fits fits_2 same in
      let low = subst (Low d) (sym (append_assoc (elif_lines elifs) (else_lines orelse) r)) (elif_low d elifs (else_lines orelse ++ r) fits.2 (else_low d orelse r fits.3 (low_without goes_on d r next))) in
      let low_2 = subst (Low d) (sym (append_assoc (elif_lines elifs_2) (else_lines orelse_2) q)) (elif_low d elifs_2 (else_lines orelse_2 ++ q) fits_2.2 (else_low d orelse_2 q fits_2.3 (low_without goes_on d q next_2))) in
      let x = one_suite d suite suite_2 ((elif_lines elifs ++ else_lines orelse) ++ r) ((elif_lines elifs_2 ++ else_lines orelse_2) ++ q) fits.1 fits_2.1 low low_2 (cc (h.1)) (regroup (suite_lines suite) (elif_lines elifs ++ else_lines orelse) r (suite_lines suite_2) (elif_lines elifs_2 ++ else_lines orelse_2) q h.2) in
      let y = one_elifs d elifs elifs_2 (else_lines orelse ++ r) (else_lines orelse_2 ++ q) fits.2 fits_2.2 (else_without_elif d orelse r fits.3 next) (else_without_elif d orelse_2 q fits_2.3 next_2) (regroup (elif_lines elifs) (else_lines orelse) r (elif_lines elifs_2) (else_lines orelse_2) q x.1) in
      let z = one_else d orelse orelse_2 r q fits.3 fits_2.3 (weaker goes_on is_else d r no_else_next next) (weaker goes_on is_else d q no_else_next next_2) y.1 in
      (cc (h.0, h.1, x.0, y.0, z.0), z.1)
  one_stmt d (while_stmt line at test colon suite) (while_stmt line_2 at_2 test_2 colon_2 suite_2) r q fits fits_2 next next_2 same =
      let h = heads_same d (while_stmt line at test colon suite) (while_stmt line_2 at_2 test_2 colon_2 suite_2) r q fits fits_2 same in
      let x = one_suite d suite suite_2 r q fits.1 fits_2.1 (low_without goes_on d r next) (low_without goes_on d q next_2) (cc (h.1)) h.2 in
      (cc (h.0, h.1, x.0), x.1)
  one_stmt d (for_stmt line at t in_word e colon suite) (for_stmt line_2 at_2 t_2 in_word_2 e_2 colon_2 suite_2) r q fits fits_2 next next_2 same =
      let h = heads_same d (for_stmt line at t in_word e colon suite) (for_stmt line_2 at_2 t_2 in_word_2 e_2 colon_2 suite_2) r q fits fits_2 same in
      let x = one_suite d suite suite_2 r q fits.1 fits_2.1 (low_without goes_on d r next) (low_without goes_on d q next_2) (cc (h.1)) h.2 in
      (cc (h.0, h.1, x.0), x.1)
  one_stmt d (with_stmt line at e called colon suite) (with_stmt line_2 at_2 e_2 called_2 colon_2 suite_2) r q fits fits_2 next next_2 same =
      let h = heads_same d (with_stmt line at e called colon suite) (with_stmt line_2 at_2 e_2 called_2 colon_2 suite_2) r q fits fits_2 same in
      let x = one_suite d suite suite_2 r q fits.1 fits_2.1 (low_without goes_on d r next) (low_without goes_on d q next_2) (cc (h.1)) h.2 in
      (cc (h.0, h.1, x.0), x.1)
  one_stmt d (class_stmt line at name_at bytes of colon suite) (class_stmt line_2 at_2 name_at_2 bytes_2 of_2 colon_2 suite_2) r q fits fits_2 next next_2 same =
      let h = heads_same d (class_stmt line at name_at bytes of colon suite) (class_stmt line_2 at_2 name_at_2 bytes_2 of_2 colon_2 suite_2) r q fits fits_2 same in
      let x = one_suite d suite suite_2 r q fits.1 fits_2.1 (low_without goes_on d r next) (low_without goes_on d q next_2) (cc (h.1)) h.2 in
      (cc (h.0, h.1, x.0), x.1)
  one_stmt d (try_stmt line at colon suite handlers) (try_stmt line_2 at_2 colon_2 suite_2 handlers_2) r q fits fits_2 next next_2 same =
      let h = heads_same d (try_stmt line at colon suite handlers) (try_stmt line_2 at_2 colon_2 suite_2 handlers_2) r q fits fits_2 same in
      let x = one_suite d suite suite_2 (handler_lines handlers ++ r) (handler_lines handlers_2 ++ q) fits.1 fits_2.1 (handler_low d handlers r fits.2) (handler_low d handlers_2 q fits_2.2) (cc (h.1)) (regroup (suite_lines suite) (handler_lines handlers) r (suite_lines suite_2) (handler_lines handlers_2) q h.2) in
      let y = one_handlers d handlers handlers_2 r q fits.2 fits_2.2 (weaker goes_on is_except d r no_except_next next) (weaker goes_on is_except d q no_except_next next_2) x.1 in
      (cc (h.0, h.1, x.0, y.0), y.1)
  one_stmt d (def_stmt line at name_at bytes opening given closing colon suite) (def_stmt line_2 at_2 name_at_2 bytes_2 opening_2 given_2 closing_2 colon_2 suite_2) r q fits fits_2 next next_2 same =
      let h = heads_same d (def_stmt line at name_at bytes opening given closing colon suite) (def_stmt line_2 at_2 name_at_2 bytes_2 opening_2 given_2 closing_2 colon_2 suite_2) r q fits fits_2 same in
      let x = one_def d suite suite_2 r q fits.1 fits_2.1 (low_without goes_on d r next) (low_without goes_on d q next_2) (cc (h.1)) h.2 in
      (cc (h.0, h.1, x.0), x.1)
  one_stmt d s t r q fits fits_2 next next_2 same = let h = (heads_same d s t r q fits fits_2 same).1 in absurd (cc (h))

  one_suite : (d : ℕ) (s t : Suite) (r q : List Line) → FitsSuite d s → FitsSuite d t → Low d r → Low d q → behind_of s ≡ behind_of t → suite_lines s ++ r ≡ suite_lines t ++ q → (s ≡ t) × (r ≡ q)
  one_suite d (on_line s) (on_line t) r q fits fits_2 low low_2 behind same = (cc (behind), same)
  one_suite d (on_line s) (block inside body) r q fits fits_2 low low_2 behind same = absurd (cc (behind))
  one_suite d (block inside body) (on_line s) r q fits fits_2 low low_2 behind same = absurd (cc (behind))
  one_suite d (block inside body) (block inside_2 body_2) r q fits fits_2 low low_2 behind same =
      let i = same_inside inside inside_2 body body_2 r q fits.1 fits_2.1 same in
      let x = one_body inside body body_2 r q fits.1 (subst (λ n. FitsBody n body_2) (sym i) fits_2.1) (below_low d inside r fits.0 low) (below_low d inside q fits.0 low_2) same in
      (cc (i, x.0), x.1)

  one_body : (d : ℕ) (a b : Body) (r q : List Line) → FitsBody d a → FitsBody d b → Below d r → Below d q → body_lines a ++ r ≡ body_lines b ++ q → (a ≡ b) × (r ≡ q)
  one_body d (last_stmt s) (last_stmt t) r q fits fits_2 below below_2 same =
      let x = one_stmt d s t r q fits fits_2 (below_without goes_on d r below) (below_without goes_on d q below_2) same in
      (ap last_stmt x.0, x.1)
  one_body d (last_stmt s) (more_stmt t more) r q fits fits_2 below below_2 same =
      let x = one_stmt d s t r (body_lines more ++ q) fits fits_2.0 (below_without goes_on d r below) (body_follows d more q fits_2.1) (same ∙ append_assoc (stmt_lines t) (body_lines more) q) in
      absurd (body_indent d more q fits_2.1 (subst (Below d) x.1 below))
  one_body d (more_stmt s more) (last_stmt t) r q fits fits_2 below below_2 same =
      let x = one_stmt d s t (body_lines more ++ r) q fits.0 fits_2 (body_follows d more r fits.1) (below_without goes_on d q below_2) (sym (append_assoc (stmt_lines s) (body_lines more) r) ∙ same) in
      absurd (body_indent d more r fits.1 (subst (Below d) (sym x.1) below_2))
  one_body d (more_stmt s more) (more_stmt t more_2) r q fits fits_2 below below_2 same =
      let x = one_stmt d s t (body_lines more ++ r) (body_lines more_2 ++ q) fits.0 fits_2.0 (body_follows d more r fits.1) (body_follows d more_2 q fits_2.1) (regroup (stmt_lines s) (body_lines more) r (stmt_lines t) (body_lines more_2) q same) in
      let y = one_body d more more_2 r q fits.1 fits_2.1 below below_2 x.1 in
      (cc (x.0, y.0), y.1)

  one_elifs : (d : ℕ) (a b : Elifs) (r q : List Line) → FitsElifs d a → FitsElifs d b → Without is_elif d r → Without is_elif d q → elif_lines a ++ r ≡ elif_lines b ++ q → (a ≡ b) × (r ≡ q)
  one_elifs d no_elif no_elif r q fits fits_2 no_more no_more_2 same = (refl, same)
  one_elifs d no_elif (elif line at test colon suite rest) r q fits fits_2 no_more no_more_2 same =
      absurd (clash is_elif d line ((suite_lines suite ++ elif_lines rest) ++ q) (elif_head at test colon (behind_of suite)) (subst (Without is_elif d) same no_more) (elif_line_fits d line at test colon suite fits_2.0) refl)
  one_elifs d (elif line at test colon suite rest) no_elif r q fits fits_2 no_more no_more_2 same =
      absurd (clash is_elif d line ((suite_lines suite ++ elif_lines rest) ++ r) (elif_head at test colon (behind_of suite)) (subst (Without is_elif d) (sym same) no_more_2) (elif_line_fits d line at test colon suite fits.0) refl)
  one_elifs d (elif line at test colon suite rest) (elif line_2 at_2 test_2 colon_2 suite_2 rest_2) r q fits fits_2 no_more no_more_2 same =
      let l = first_same line line_2 ((suite_lines suite ++ elif_lines rest) ++ r) ((suite_lines suite_2 ++ elif_lines rest_2) ++ q) same in
      let h = one_head line line_2 d d (elif_head at test colon (behind_of suite)) (elif_head at_2 test_2 colon_2 (behind_of suite_2)) l (elif_line_fits d line at test colon suite fits.0) (elif_line_fits d line_2 at_2 test_2 colon_2 suite_2 fits_2.0) in
      let x = one_suite d suite suite_2 (elif_lines rest ++ r) (elif_lines rest_2 ++ q) fits.1 fits_2.1 (elif_low d rest r fits.2 (low_without is_elif d r no_more)) (elif_low d rest_2 q fits_2.2 (low_without is_elif d q no_more_2)) (cc (h)) (regroup (suite_lines suite) (elif_lines rest) r (suite_lines suite_2) (elif_lines rest_2) q (rest_same line line_2 ((suite_lines suite ++ elif_lines rest) ++ r) ((suite_lines suite_2 ++ elif_lines rest_2) ++ q) same)) in
      let y = one_elifs d rest rest_2 r q fits.2 fits_2.2 no_more no_more_2 x.1 in
      (cc (l, h, x.0, y.0), y.1)

  one_else : (d : ℕ) (a b : Else) (r q : List Line) → FitsElse d a → FitsElse d b → Without is_else d r → Without is_else d q → else_lines a ++ r ≡ else_lines b ++ q → (a ≡ b) × (r ≡ q)
  one_else d no_else_part no_else_part r q fits fits_2 no_more no_more_2 same = (refl, same)
  one_else d no_else_part (else_part line at colon suite) r q fits fits_2 no_more no_more_2 same =
      absurd (clash is_else d line (suite_lines suite ++ q) (else_head at colon (behind_of suite)) (subst (Without is_else d) same no_more) (else_line_fits d line at colon suite fits_2.0) refl)
  one_else d (else_part line at colon suite) no_else_part r q fits fits_2 no_more no_more_2 same =
      absurd (clash is_else d line (suite_lines suite ++ r) (else_head at colon (behind_of suite)) (subst (Without is_else d) (sym same) no_more_2) (else_line_fits d line at colon suite fits.0) refl)
  one_else d (else_part line at colon suite) (else_part line_2 at_2 colon_2 suite_2) r q fits fits_2 no_more no_more_2 same =
      let l = first_same line line_2 (suite_lines suite ++ r) (suite_lines suite_2 ++ q) same in
      let h = one_head line line_2 d d (else_head at colon (behind_of suite)) (else_head at_2 colon_2 (behind_of suite_2)) l (else_line_fits d line at colon suite fits.0) (else_line_fits d line_2 at_2 colon_2 suite_2 fits_2.0) in
      let x = one_suite d suite suite_2 r q fits.1 fits_2.1 (low_without is_else d r no_more) (low_without is_else d q no_more_2) (cc (h)) (rest_same line line_2 (suite_lines suite ++ r) (suite_lines suite_2 ++ q) same) in
      (cc (l, h, x.0), x.1)

  one_handlers : (d : ℕ) (a b : Handlers) (r q : List Line) → FitsHandlers d a → FitsHandlers d b → Without is_except d r → Without is_except d q → handler_lines a ++ r ≡ handler_lines b ++ q → (a ≡ b) × (r ≡ q)
  one_handlers d (last_handler line at kind colon suite) (last_handler line_2 at_2 kind_2 colon_2 suite_2) r q fits fits_2 no_more no_more_2 same =
      let l = first_same line line_2 (suite_lines suite ++ r) (suite_lines suite_2 ++ q) same in
      let h = one_head line line_2 d d (except_head at kind colon (behind_of suite)) (except_head at_2 kind_2 colon_2 (behind_of suite_2)) l (except_line_fits d line at kind colon suite fits.0) (except_line_fits d line_2 at_2 kind_2 colon_2 suite_2 fits_2.0) in
      let x = one_suite d suite suite_2 r q fits.1 fits_2.1 (low_without is_except d r no_more) (low_without is_except d q no_more_2) (cc (h)) (rest_same line line_2 (suite_lines suite ++ r) (suite_lines suite_2 ++ q) same) in
      (cc (l, h, x.0), x.1)
  one_handlers d (last_handler line at kind colon suite) (more_handler line_2 at_2 kind_2 colon_2 suite_2 rest_2) r q fits fits_2 no_more no_more_2 same =
      let l = first_same line line_2 (suite_lines suite ++ r) ((suite_lines suite_2 ++ handler_lines rest_2) ++ q) same in
      let h = one_head line line_2 d d (except_head at kind colon (behind_of suite)) (except_head at_2 kind_2 colon_2 (behind_of suite_2)) l (except_line_fits d line at kind colon suite fits.0) (except_line_fits d line_2 at_2 kind_2 colon_2 suite_2 fits_2.0) in
      let x = one_suite d suite suite_2 r (handler_lines rest_2 ++ q) fits.1 fits_2.1 (low_without is_except d r no_more) (handler_low d rest_2 q fits_2.2) (cc (h)) (rest_same line line_2 (suite_lines suite ++ r) ((suite_lines suite_2 ++ handler_lines rest_2) ++ q) same ∙ append_assoc (suite_lines suite_2) (handler_lines rest_2) q) in
      absurd (handler_clash d rest_2 q fits_2.2 (subst (Without is_except d) x.1 no_more))
  one_handlers d (more_handler line at kind colon suite rest) (last_handler line_2 at_2 kind_2 colon_2 suite_2) r q fits fits_2 no_more no_more_2 same =
      let l = first_same line line_2 ((suite_lines suite ++ handler_lines rest) ++ r) (suite_lines suite_2 ++ q) same in
      let h = one_head line line_2 d d (except_head at kind colon (behind_of suite)) (except_head at_2 kind_2 colon_2 (behind_of suite_2)) l (except_line_fits d line at kind colon suite fits.0) (except_line_fits d line_2 at_2 kind_2 colon_2 suite_2 fits_2.0) in
      let x = one_suite d suite suite_2 (handler_lines rest ++ r) q fits.1 fits_2.1 (handler_low d rest r fits.2) (low_without is_except d q no_more_2) (cc (h)) (sym (append_assoc (suite_lines suite) (handler_lines rest) r) ∙ rest_same line line_2 ((suite_lines suite ++ handler_lines rest) ++ r) (suite_lines suite_2 ++ q) same) in
      absurd (handler_clash d rest r fits.2 (subst (Without is_except d) (sym x.1) no_more_2))
  one_handlers d (more_handler line at kind colon suite rest) (more_handler line_2 at_2 kind_2 colon_2 suite_2 rest_2) r q fits fits_2 no_more no_more_2 same =
      let l = first_same line line_2 ((suite_lines suite ++ handler_lines rest) ++ r) ((suite_lines suite_2 ++ handler_lines rest_2) ++ q) same in
      let h = one_head line line_2 d d (except_head at kind colon (behind_of suite)) (except_head at_2 kind_2 colon_2 (behind_of suite_2)) l (except_line_fits d line at kind colon suite fits.0) (except_line_fits d line_2 at_2 kind_2 colon_2 suite_2 fits_2.0) in
      let x = one_suite d suite suite_2 (handler_lines rest ++ r) (handler_lines rest_2 ++ q) fits.1 fits_2.1 (handler_low d rest r fits.2) (handler_low d rest_2 q fits_2.2) (cc (h)) (regroup (suite_lines suite) (handler_lines rest) r (suite_lines suite_2) (handler_lines rest_2) q (rest_same line line_2 ((suite_lines suite ++ handler_lines rest) ++ r) ((suite_lines suite_2 ++ handler_lines rest_2) ++ q) same)) in
      let y = one_handlers d rest rest_2 r q fits.2 fits_2.2 no_more no_more_2 x.1 in
      (cc (l, h, x.0, y.0), y.1)

  one_def : (d : ℕ) (s t : DefSuite) (r q : List Line) → FitsDef d s → FitsDef d t → Low d r → Low d q → def_behind s ≡ def_behind t → def_lines s ++ r ≡ def_lines t ++ q → (s ≡ t) × (r ≡ q)
  one_def d (def_line s) (def_line t) r q fits fits_2 low low_2 behind same = (cc (behind), same)
  one_def d (def_line s) (def_block inside body) r q fits fits_2 low low_2 behind same = absurd (cc (behind))
  one_def d (def_block inside body) (def_line s) r q fits fits_2 low low_2 behind same = absurd (cc (behind))
  one_def d (def_block inside body) (def_block inside_2 body_2) r q fits fits_2 low low_2 behind same =
      let i = same_def_inside inside inside_2 body body_2 r q fits.1 fits_2.1 fits.2 fits_2.2 same in
      let x = one_def_body inside body body_2 r q fits.2 (subst (λ n. FitsDefBody n body_2) (sym i) fits_2.2) (below_low d inside r fits.0 low) (below_low d inside q fits.0 low_2) same in
      (cc (i, x.0), x.1)

  one_def_body : (d : ℕ) (a b : DefBody) (r q : List Line) → FitsDefBody d a → FitsDefBody d b → Below d r → Below d q → def_body_lines a ++ r ≡ def_body_lines b ++ q → (a ≡ b) × (r ≡ q)
  one_def_body d end_def end_def r q fits fits_2 below below_2 same = (refl, same)
  one_def_body d end_def (stmt_in_def t more) r q fits fits_2 below below_2 same =
      absurd (stmt_indent d t (def_body_lines more ++ q) fits_2.0 (subst (Below d) (same ∙ append_assoc (stmt_lines t) (def_body_lines more) q) below))
  one_def_body d end_def (global_in_def line at names more) r q fits fits_2 below below_2 same =
      let less = subst (Below d) same below in let at_d = fits_2.0.indent_is in absurd (omega (arith, less, at_d))
  one_def_body d (stmt_in_def s more) end_def r q fits fits_2 below below_2 same =
      absurd (stmt_indent d s (def_body_lines more ++ r) fits.0 (subst (Below d) (sym same ∙ append_assoc (stmt_lines s) (def_body_lines more) r) below_2))
  one_def_body d (global_in_def line at names more) end_def r q fits fits_2 below below_2 same =
      let less = subst (Below d) (sym same) below_2 in let at_d = fits.0.indent_is in absurd (omega (arith, less, at_d))
  one_def_body d (stmt_in_def s more) (stmt_in_def t more_2) r q fits fits_2 below below_2 same =
      let x = one_stmt d s t (def_body_lines more ++ r) (def_body_lines more_2 ++ q) fits.0 fits_2.0 (def_follows d more r fits.1 below) (def_follows d more_2 q fits_2.1 below_2) (regroup (stmt_lines s) (def_body_lines more) r (stmt_lines t) (def_body_lines more_2) q same) in
      let y = one_def_body d more more_2 r q fits.1 fits_2.1 below below_2 x.1 in
      (cc (x.0, y.0), y.1)
  one_def_body d (stmt_in_def s more) (global_in_def line at names more_2) r q fits fits_2 below below_2 same = absurd (stmt_is_no_global d s line at names (def_body_lines more ++ r) (def_body_lines more_2 ++ q) fits.0 fits_2.0 (sym (append_assoc (stmt_lines s) (def_body_lines more) r) ∙ same))
  one_def_body d (global_in_def line at names more) (stmt_in_def t more_2) r q fits fits_2 below below_2 same = absurd (stmt_is_no_global d t line at names (def_body_lines more_2 ++ q) (def_body_lines more ++ r) fits_2.0 fits.0 (sym (append_assoc (stmt_lines t) (def_body_lines more_2) q) ∙ sym same))
  one_def_body d (global_in_def line at names more) (global_in_def line_2 at_2 names_2 more_2) r q fits fits_2 below below_2 same =
      let l = first_same line line_2 (def_body_lines more ++ r) (def_body_lines more_2 ++ q) same in
      let h = one_head line line_2 d d (global_head at names) (global_head at_2 names_2) l (global_fits d line at names fits.0) (global_fits d line_2 at_2 names_2 fits_2.0) in
      let y = one_def_body d more more_2 r q fits.1 fits_2.1 below below_2 (rest_same line line_2 (def_body_lines more ++ r) (def_body_lines more_2 ++ q) same) in
      (cc (l, h, y.0), y.1)

-- ---- the whole script

not_empty : (b : Body) → FitsBody 0 b → [] ≡ body_lines b → ⊥
not_empty b fits none = nothing (none ∙ (block_first 0 b fits).2)
  where
    nothing : {line : Line} {lines : List Line} → [] ≡ line ∷ lines → ⊥
    nothing is = cc

one_written : (a b : Script) → FitsScript a → FitsScript b → script_lines a ≡ script_lines b → a ≡ b
one_written empty_script empty_script fits fits_2 same = refl
one_written empty_script (script b) fits fits_2 same = absurd (not_empty b fits_2 same)
one_written (script a) empty_script fits fits_2 same = absurd (not_empty a fits (sym same))
one_written (script a) (script b) fits fits_2 same = ap script (one_body 0 a b [] [] fits fits_2 tt tt (ap (λ ls. ls ++ []) same)).0

pub one_tree : (lines : List Line) (a b : ScriptTree) → InGrammar lines a → InGrammar lines b → a ≡ b
one_tree lines a b x y = x.tree_is ∙ ap script_tree (one_written x.written y.written x.fits y.fits (sym x.lines_are ∙ y.lines_are)) ∙ sym y.tree_is
