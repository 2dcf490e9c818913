-- What the lines of a script begin.
use Rattle.std.proofs.Common.{◌≡◌, ℕ, suc, ◌+◌, ◌≤◌, Bool, true, false, List, [], ◌∷◌, ◌++◌, refl, ap, sym, ◌∙◌, subst, arith, leb-true, nat_le, is_none}
use Rattle.std.specs.Prelude.{⊤, ◌==◌, ◌||◌, not}
use Rattle.std.proofs.lemmas.Bool.{false≢true, eqb-true}
use Rattle.py_tree.specs.Numbering.{size_suite}
use Rattle.py_lines.specs.declared.parts.Line.{Line}
use Rattle.py_lines.specs.declared.parts.Token.{Token}
use Rattle.py_lines.specs.declared.parts.TokenKind.{TokenKind}
use Rattle.py_lines.specs.declared.parts.TokenKind.TheVariants.{Keyword}
use Rattle.py_expressions.specs.Concrete.{Spot}
use Rattle.py_expressions.specs.Tokens.{token}
use Rattle.py_grammar.specs.Layout.{IsLine}
use Rattle.py_grammar.specs.LineReader.{Head, simple_head, if_head, elif_head, else_head, while_head, for_head, try_head, except_head, with_head, def_head, class_head, global_head, head_tokens}
use Rattle.py_grammar.specs.ParsedHead.{is_compound, is_compound_kind, head_stands, head_depth, behind_in}
use Rattle.py_grammar.specs.Written.{Script, empty_script, script}
use Rattle.py_grammar.specs.Grammar.{script_lines, FitsScript}
use Rattle.py_grammar.specs.StatementTrees.{script_body}
use Rattle.py_grammar.specs.WellPlaced.{script_stands}
use Rattle.py_grammar.proofs.HeadReading.{same_head}
use Rattle.py_grammar.proofs.LineFirsts.{simple_not_compound}
use Rattle.py_parser.specs.Limits.{IsFine}
use Rattle.py_grammar.specs.Limits.{Limits, script_expr_depth, script_suites}
use Rattle.py_parser.specs.Faults.{is_stmt_kind}
use Rattle.py_parser.specs.Grouped.{script_rows}
use Rattle.py_parser.specs.Rows.{Rows, end_rows, row, Under, nothing, block, rows_lines, under_lines, Level, start, is_stmt, opens, counted, after, inside, FitsUnder, FitsRows, FitsStart, may, rows_may, under_may, under_size}
use Rattle.py_parser.proofs.RowLines.{script_same}
use Rattle.py_parser.proofs.RowFits.{script_fits}
use Rattle.py_parser.proofs.RowLimits.{second, three_of, four_of, script_may}

-- ---- the limits of a script

-- a script keeps the limits that it needs
abbrev pub own : Script → Limits
own s = record { height = script_expr_depth s; suites = script_suites s; number = size_suite (script_body s) }

pub own_fine : (s : Script) → script_stands s ≡ true → IsFine (own s) s
own_fine s stands = record { stands = stands; within = record { low = same (script_expr_depth s); deep = same (script_suites s); few = same (size_suite (script_body s)) } }
  where
    same : (a : ℕ) → a ≤ a
    same a = omega arith

-- ---- the first token of a line

same_first : (a b : Token) (x y : List Token) → a ∷ x ≡ b ∷ y → a ≡ b
same_first a b x y is = cc

no_part : (p q r s : Bool) → p ≡ false → q ≡ false → r ≡ false → s ≡ false → not (p || q || r || s) ≡ true
no_part false false false false one two three four = refl
no_part true q r s one two three four = absurd (false≢true (sym one))
no_part false true r s one two three four = absurd (false≢true (sym two))
no_part false false true s one two three four = absurd (false≢true (sym three))
no_part false false false true one two three four = absurd (false≢true (sym four))

-- what is no keyword of a line that is more than a simple statement begins a statement
begins_simple : (kind : TokenKind) → is_compound_kind kind ≡ false → is_stmt_kind kind ≡ true
begins_simple (Keyword n) other = no_part (n == 13) (n == 14) (n == 15) (n == 19) (differs 13 refl) (differs 14 refl) (differs 15 refl) (differs 19 refl)
  where
    by : (k : ℕ) (b : Bool) → (n == k) ≡ b → is_compound k ≡ true → b ≡ false
    by k false is compound = refl
    by k true is compound = absurd (false≢true (sym other ∙ (ap is_compound (eqb-true n k is) ∙ compound)))

    differs : (k : ℕ) → is_compound k ≡ true → (n == k) ≡ false
    differs k compound = by k (n == k) refl compound
begins_simple kind other = refl

by_word : (k : ℕ) (spot : Spot) (rest : List Token) (t : Token) (ts : List Token) → token (Keyword k) spot ∷ rest ≡ t ∷ ts → is_stmt_kind t.kind ≡ is_stmt_kind (Keyword k)
by_word k spot rest t ts is = ap (λ (u : Token). is_stmt_kind u.kind) (sym (same_first (token (Keyword k) spot) t rest ts is))

-- the first token tells whether a statement begins on the line
pub kind_tells : (h : Head) (t : Token) (ts : List Token) → head_tokens h ≡ t ∷ ts → is_stmt_kind t.kind ≡ is_stmt h
kind_tells (simple_head s) t ts is = begins_simple t.kind (simple_not_compound s t ts is)
kind_tells (if_head at test colon b) t ts is = by_word 20 at _ t ts is
kind_tells (elif_head at test colon b) t ts is = by_word 13 at _ t ts is
kind_tells (else_head at colon b) t ts is = by_word 14 at _ t ts is
kind_tells (while_head at test colon b) t ts is = by_word 32 at _ t ts is
kind_tells (for_head at target in_word e colon b) t ts is = by_word 17 at _ t ts is
kind_tells (try_head at colon b) t ts is = by_word 31 at _ t ts is
kind_tells (except_head at kind colon b) t ts is = by_word 15 at _ t ts is
kind_tells (with_head at e called colon b) t ts is = by_word 33 at _ t ts is
kind_tells (def_head at name_at bytes opening given closing colon b) t ts is = by_word 11 at _ t ts is
kind_tells (class_head at name_at bytes of colon b) t ts is = by_word 9 at _ t ts is
kind_tells (global_head at names) t ts is = by_word 19 at _ t ts is

-- nothing stands behind the `:` of a line that begins a suite
pub opens_alone : (h : Head) → opens h ≡ true → is_none (behind_in h) ≡ true
opens_alone (simple_head s) is = absurd (false≢true is)
opens_alone (global_head at names) is = absurd (false≢true is)
opens_alone (if_head at test colon b) is = is
opens_alone (elif_head at test colon b) is = is
opens_alone (else_head at colon b) is = is
opens_alone (while_head at test colon b) is = is
opens_alone (for_head at target in_word e colon b) is = is
opens_alone (try_head at colon b) is = is
opens_alone (except_head at kind colon b) is = is
opens_alone (with_head at e called colon b) is = is
opens_alone (def_head at name_at bytes opening given closing colon b) is = is
opens_alone (class_head at name_at bytes of colon b) is = is

-- ---- the rows of a script

-- the rows of a script with lines fit
pub fits_start : (s : Script) (x : List Line) → FitsScript s → script_lines s ≡ x → (x ≡ [] → ⊥) → FitsRows start (script_rows s)
fits_start empty_script x fits same some = absurd (some (sym same))
fits_start (script body) x fits same some = by (script_rows (script body)) (script_fits (script body) fits) refl
  where
    by : (rows : Rows) → FitsStart rows → script_rows (script body) ≡ rows → FitsRows start (script_rows (script body))
    by end_rows all is = absurd (some (sym same ∙ sym (script_same (script body)) ∙ ap rows_lines is))
    by (row line h under rest) all is = subst (FitsRows start) (sym is) all

-- ---- how deep the lines of a script go

-- whatever this line begins lies at most 100 deep
abbrev pub LowLine : Line → Type 0
LowLine line = (h : Head) → line.tokens ≡ head_tokens h → head_depth h ≤ 100

abbrev pub AllLow : List Line → Type 0
AllLow [] = ⊤
AllLow (line ∷ lines) = LowLine line × AllLow lines

both_low : (a b : List Line) → AllLow a → AllLow b → AllLow (a ++ b)
both_low [] b one other = other
both_low (line ∷ a) b one other = (one.0, both_low a b one.1 other)

one_low : (front : List Line) (line : Line) (more : List Line) → AllLow (front ++ line ∷ more) → LowLine line
one_low [] line more all = all.0
one_low (other ∷ front) line more all = one_low front line more all.1

head_low_there : (q : Limits) (l : Level) (n : ℕ) (line : Line) (h : Head) → q.height ≤ 100 → IsLine line l.indent (head_tokens h) → may q l n h ≡ true → LowLine line
head_low_there q l n line h low is may_be g same =
    let one : g ≡ h = same_head g h (sym same ∙ is.tokens_are) in
    let depth = leb-true (head_depth h) q.height (four_of (head_stands l.context l.given h) (nat_le (head_depth h) q.height) (nat_le (n + counted h) q.number) _ may_be).two in
    let moved = ap head_depth one in
    omega (arith, depth, low, moved)

mutual
  rows_all_low : (q : Limits) (l : Level) (n : ℕ) (rows : Rows) → q.height ≤ 100 → FitsRows l rows → rows_may q l n rows ≡ true → AllLow (rows_lines rows)
  rows_all_low q l n end_rows low fits may_be = tt
  rows_all_low q l n (row line h under rest) low fits may_be =
      let p = three_of (may q l n h) (under_may q l (n + counted h) h under) _ may_be in
      (head_low_there q l n line h low fits.0 p.one, both_low (under_lines under) (rows_lines rest) (under_all_low q l (n + counted h) h under low fits.2 p.two) (rows_all_low q (after l h) (n + counted h + under_size under) rest low fits.3 p.three))

  under_all_low : (q : Limits) (l : Level) (n : ℕ) (h : Head) (under : Under) → q.height ≤ 100 → FitsUnder l h under → under_may q l n h under ≡ true → AllLow (under_lines under)
  under_all_low q l n h nothing low fits may_be = tt
  under_all_low q l n h (block indent rows) low fits may_be = rows_all_low q (inside l h indent) n rows low fits.2 (second (nat_le (suc l.depth) q.suites) _ may_be)

-- the lines of a script within the limit go no deeper
pub line_low : (s : Script) (front : List Line) (line : Line) (more : List Line) → FitsScript s → script_stands s ≡ true → script_expr_depth s ≤ 100 → script_lines s ≡ front ++ line ∷ more → LowLine line
line_low s front line more fits stands low is =
    one_low front line more (subst AllLow (script_same s ∙ is) (rows_all_low (own s) start 0 (script_rows s) low (fits_start s (front ++ line ∷ more) fits is (some front)) (script_may (own s) s (own_fine s stands))))
  where
    some : (front : List Line) → front ++ line ∷ more ≡ [] → ⊥
    some [] none = cc
    some (other ∷ front) none = cc

-- ---- each line of a script begins something

pub record SomeHead (line : Line) : Type 0 where
  pub head : Head
  pub tokens_are : line.tokens ≡ head_tokens head

abbrev AllHeads : List Line → Type 0
AllHeads [] = ⊤
AllHeads (line ∷ lines) = SomeHead line × AllHeads lines

both_heads : (a b : List Line) → AllHeads a → AllHeads b → AllHeads (a ++ b)
both_heads [] b one other = other
both_heads (line ∷ a) b one other = (one.0, both_heads a b one.1 other)

one_head : (front : List Line) (line : Line) (more : List Line) → AllHeads (front ++ line ∷ more) → SomeHead line
one_head [] line more all = all.0
one_head (other ∷ front) line more all = one_head front line more all.1

mutual
  rows_heads : (l : Level) (rows : Rows) → FitsRows l rows → AllHeads (rows_lines rows)
  rows_heads l end_rows fits = tt
  rows_heads l (row line h under rest) fits = (record { head = h; tokens_are = fits.0.tokens_are }, both_heads (under_lines under) (rows_lines rest) (under_heads l h under fits.2) (rows_heads (after l h) rest fits.3))

  under_heads : (l : Level) (h : Head) (under : Under) → FitsUnder l h under → AllHeads (under_lines under)
  under_heads l h nothing fits = tt
  under_heads l h (block indent rows) fits = rows_heads (inside l h indent) rows fits.2

pub some_front : (front : List Line) (line : Line) (more : List Line) → front ++ line ∷ more ≡ [] → ⊥
some_front [] line more none = cc
some_front (other ∷ front) line more none = cc

pub line_head : (s : Script) (front : List Line) (line : Line) (more : List Line) → FitsScript s → script_lines s ≡ front ++ line ∷ more → SomeHead line
line_head s front line more fits is = one_head front line more (subst AllHeads (script_same s ∙ is) (rows_heads start (script_rows s) (fits_start s (front ++ line ∷ more) fits is (some_front front line more))))
