-- Behind a line that begins a suite no handler stands before the suite has a statement.
use Rattle.std.proofs.Common.{◌≡◌, ℕ, ◌+◌, suc, Bool, true, false, List, [], ◌∷◌, ◌++◌, refl, ap, sym, ◌∙◌, subst, append_assoc, append-nil, nat_le}
use Rattle.std.specs.Prelude.{⊤, ◌==◌, ◌&&◌, ◌||◌, not}
use Rattle.std.proofs.lemmas.Bool.{false≢true, eqb-true}
use Rattle.py_lines.specs.declared.parts.Line.{Line}
use Rattle.py_lines.specs.declared.parts.Token.{Token}
use Rattle.py_lines.specs.declared.parts.TokenKind.{TokenKind}
use Rattle.py_lines.specs.declared.parts.TokenKind.TheVariants.{Keyword}
use Rattle.py_expressions.specs.Concrete.{Spot}
use Rattle.py_expressions.specs.Tokens.{token}
use Rattle.py_grammar.specs.Layout.{IsLine}
use Rattle.py_grammar.specs.LineReader.{Head, simple_head, if_head, elif_head, else_head, while_head, for_head, try_head, except_head, with_head, def_head, class_head, global_head, head_tokens}
use Rattle.py_grammar.specs.ParsedHead.{is_compound, is_compound_kind, lacks_handler, takes_handler, head_stands}
use Rattle.py_grammar.specs.Written.{Script}
use Rattle.py_grammar.specs.Grammar.{script_lines, FitsScript}
use Rattle.py_grammar.specs.WellPlaced.{script_stands}
use Rattle.py_grammar.proofs.HeadReading.{same_head}
use Rattle.py_grammar.proofs.LineFirsts.{simple_not_compound, misplaced_head}
use Rattle.py_grammar.specs.Limits.{Limits}
use Rattle.py_parser.specs.Faults.{BeginsSuite, AreGlobal, IsHandler, LacksStatement}
use Rattle.py_parser.specs.Grouped.{script_rows}
use Rattle.py_parser.specs.Rows.{Rows, end_rows, row, Under, nothing, block, rows_lines, under_lines, Level, start, is_global, opens, counted, after, inside, FitsUnder, FitsRows, may, rows_may, under_may, under_size}
use Rattle.py_parser.proofs.RowLines.{script_same}
use Rattle.py_parser.proofs.RowLimits.{second, three_of, script_may}
use Rattle.py_parser.proofs.ScriptHeads.{own, own_fine, fits_start, some_front}

first_same : (a b : Line) (x y : List Line) → a ∷ x ≡ b ∷ y → a ≡ b
first_same a b x y is = cc

rest_same : (a b : Line) (x y : List Line) → a ∷ x ≡ b ∷ y → x ≡ y
rest_same a b x y is = cc

-- where a line begins a suite, no handler stands behind it and `global` lines
abbrev NoHandlerBehind : List Line → Type 0
NoHandlerBehind [] = ⊤
NoHandlerBehind (first ∷ rest) = BeginsSuite first → (k : ℕ) (globals : List Line) (line : Line) (more : List Line) → rest ≡ globals ++ line ∷ more → AreGlobal k globals → IsHandler line → ⊥

abbrev AllTails : List Line → List Line → Type 0
AllTails [] behind = ⊤
AllTails (line ∷ lines) behind = NoHandlerBehind (line ∷ (lines ++ behind)) × AllTails lines behind

both_tails : (a b behind : List Line) → AllTails a (b ++ behind) → AllTails b behind → AllTails (a ++ b) behind
both_tails [] b behind one other = other
both_tails (line ∷ a) b behind one other = (subst (λ ls. NoHandlerBehind (line ∷ ls)) (sym (append_assoc a b behind)) one.0, both_tails a b behind one.1 other)

tail_at : (front : List Line) (line : Line) (lines behind : List Line) → AllTails (front ++ line ∷ lines) behind → NoHandlerBehind (line ∷ (lines ++ behind))
tail_at [] line lines behind all = all.0
tail_at (other ∷ front) line lines behind all = tail_at front line lines behind all.1

-- the keyword of a `global` line
abbrev is_nineteen : TokenKind → Bool
is_nineteen (Keyword n) = n == 19
is_nineteen kind = false

nineteen_apart : (kind : TokenKind) → is_compound_kind kind ≡ false → is_nineteen kind ≡ false
nineteen_apart (Keyword n) other = by (n == 19) refl
  where
    by : (b : Bool) → (n == 19) ≡ b → b ≡ false
    by false is = refl
    by true is = absurd (false≢true (sym other ∙ ap is_compound (eqb-true n 19 is)))
nineteen_apart kind other = refl

by_nineteen : (k : ℕ) (spot : Spot) (rest : List Token) (t : Token) (ts : List Token) → token (Keyword k) spot ∷ rest ≡ t ∷ ts → is_nineteen t.kind ≡ is_nineteen (Keyword k)
by_nineteen k spot rest t ts is = ap (λ (u : Token). is_nineteen u.kind) (sym (one_token (token (Keyword k) spot) t rest ts is))
  where
    one_token : (a b : Token) (x y : List Token) → a ∷ x ≡ b ∷ y → a ≡ b
    one_token a b x y is = cc

global_tells : (h : Head) (t : Token) (ts : List Token) → head_tokens h ≡ t ∷ ts → is_nineteen t.kind ≡ is_global h
global_tells (simple_head s) t ts is = nineteen_apart t.kind (simple_not_compound s t ts is)
global_tells (if_head at test colon b) t ts is = by_nineteen 20 at _ t ts is
global_tells (elif_head at test colon b) t ts is = by_nineteen 13 at _ t ts is
global_tells (else_head at colon b) t ts is = by_nineteen 14 at _ t ts is
global_tells (while_head at test colon b) t ts is = by_nineteen 32 at _ t ts is
global_tells (for_head at target in_word e colon b) t ts is = by_nineteen 17 at _ t ts is
global_tells (try_head at colon b) t ts is = by_nineteen 31 at _ t ts is
global_tells (except_head at kind colon b) t ts is = by_nineteen 15 at _ t ts is
global_tells (with_head at e called colon b) t ts is = by_nineteen 33 at _ t ts is
global_tells (def_head at name_at bytes opening given closing colon b) t ts is = by_nineteen 11 at _ t ts is
global_tells (class_head at name_at bytes of colon b) t ts is = by_nineteen 9 at _ t ts is
global_tells (global_head at names) t ts is = by_nineteen 19 at _ t ts is

begins_global : (h : Head) (at : Spot) (more : List Token) → head_tokens h ≡ token (Keyword 19) at ∷ more → is_global h ≡ true
begins_global h at more is = sym (global_tells h (token (Keyword 19) at) more is)

-- such a level goes on behind a `global` line
record Fresh (m : Level) : Type 0 where
  empty : m.has_stmt ≡ false
  no_handler : takes_handler m.context.last ≡ false

fresh_after : (m : Level) (h : Head) → is_global h ≡ true → Fresh m → Fresh (after m h)
fresh_after m (global_head at names) is f = record { empty = either m.has_stmt f.empty; no_handler = refl }
  where
    either : (b : Bool) → b ≡ false → (b || not true) ≡ false
    either false is = refl
    either true is = absurd (false≢true (sym is))
fresh_after m (simple_head s) is f = absurd (false≢true is)
fresh_after m (if_head at test colon behind) is f = absurd (false≢true is)
fresh_after m (elif_head at test colon behind) is f = absurd (false≢true is)
fresh_after m (else_head at colon behind) is f = absurd (false≢true is)
fresh_after m (while_head at test colon behind) is f = absurd (false≢true is)
fresh_after m (for_head at t in_word e colon behind) is f = absurd (false≢true is)
fresh_after m (try_head at colon behind) is f = absurd (false≢true is)
fresh_after m (except_head at kind colon behind) is f = absurd (false≢true is)
fresh_after m (with_head at e called colon behind) is f = absurd (false≢true is)
fresh_after m (def_head at name_at bytes opening names closing colon behind) is f = absurd (false≢true is)
fresh_after m (class_head at name_at bytes of colon behind) is f = absurd (false≢true is)

global_shut : (m : Level) (h : Head) (under : Under) → is_global h ≡ true → FitsUnder m h under → under_lines under ≡ []
global_shut m h nothing is fits = refl
global_shut m (global_head at names) (block k rows) is fits = absurd (false≢true fits.0)
global_shut m (simple_head s) (block k rows) is fits = absurd (false≢true is)
global_shut m (if_head at test colon behind) (block k rows) is fits = absurd (false≢true is)
global_shut m (elif_head at test colon behind) (block k rows) is fits = absurd (false≢true is)
global_shut m (else_head at colon behind) (block k rows) is fits = absurd (false≢true is)
global_shut m (while_head at test colon behind) (block k rows) is fits = absurd (false≢true is)
global_shut m (for_head at t in_word e colon behind) (block k rows) is fits = absurd (false≢true is)
global_shut m (try_head at colon behind) (block k rows) is fits = absurd (false≢true is)
global_shut m (except_head at kind colon behind) (block k rows) is fits = absurd (false≢true is)
global_shut m (with_head at e called colon behind) (block k rows) is fits = absurd (false≢true is)
global_shut m (def_head at name_at bytes opening names closing colon behind) (block k rows) is fits = absurd (false≢true is)
global_shut m (class_head at name_at bytes of colon behind) (block k rows) is fits = absurd (false≢true is)

first_of_four : (a b c d : Bool) → (a && b && c && d) ≡ true → a ≡ true
first_of_four true b c d is = refl
first_of_four false b c d is = absurd (false≢true is)

none_inside : (q : Limits) (m : Level) (n : ℕ) (rows : Rows) (s : List Line) (k : ℕ) (globals : List Line) (line : Line) (more : List Line) → Fresh m → FitsRows m rows → rows_may q m n rows ≡ true → rows_lines rows ++ s ≡ globals ++ line ∷ more → AreGlobal k globals → IsHandler line → ⊥
none_inside q m n end_rows s k globals line more f fits may_be is all handler = false≢true (sym (shut m.has_stmt (not (lacks_handler m.context.last)) f.empty) ∙ fits)
  where
    shut : (a b : Bool) → a ≡ false → (a && b) ≡ false
    shut false b is = refl
    shut true b is = absurd (false≢true (sym is))
none_inside q m n (row first h under rest) s k [] line more f fits may_be is all handler =
    let p = three_of (may q m n h) (under_may q m (n + counted h) h under) _ may_be in
    let tokens : head_tokens h ≡ token (Keyword 15) handler.at ∷ handler.more = sym fits.0.tokens_are ∙ ap (λ (l : Line). l.tokens) (first_same first line ((under_lines under ++ rows_lines rest) ++ s) more is) ∙ handler.tokens_are in
    false≢true (sym (misplaced_head m.context m.given h (token (Keyword 15) handler.at) handler.more tokens f.no_handler) ∙ first_of_four (head_stands m.context m.given h) _ _ _ p.one)
none_inside q m n (row first h under rest) s k (g ∷ gs) line more f fits may_be is all handler =
    let p = three_of (may q m n h) (under_may q m (n + counted h) h under) _ may_be in
    let same = first_same first g ((under_lines under ++ rows_lines rest) ++ s) (gs ++ line ∷ more) is in
    let tokens : head_tokens h ≡ token (Keyword 19) all.1.at ∷ all.1.more = sym fits.0.tokens_are ∙ ap (λ (l : Line). l.tokens) same ∙ all.1.tokens_are in
    let global : is_global h ≡ true = begins_global h all.1.at all.1.more tokens in
    let left = rest_same first g ((under_lines under ++ rows_lines rest) ++ s) (gs ++ line ∷ more) is in
    none_inside q (after m h) (n + counted h + under_size under) rest s k gs line more (fresh_after m h global f) fits.3 p.three
    (sym (ap (λ ls. (ls ++ rows_lines rest) ++ s) (global_shut m h under global fits.2)) ∙ left) all.2 handler

mutual
  rows_tails : (q : Limits) (l : Level) (n : ℕ) (rows : Rows) (behind : List Line) → FitsRows l rows → rows_may q l n rows ≡ true → AllTails (rows_lines rows) behind
  rows_tails q l n end_rows behind fits may_be = tt
  rows_tails q l n (row line h under rest) behind fits may_be =
      let p = three_of (may q l n h) (under_may q l (n + counted h) h under) _ may_be in (
        row_tail q l (n + counted h) line h under (rows_lines rest) behind fits.0 fits.2 p.two,
        both_tails (under_lines under) (rows_lines rest) behind (under_tails q l (n + counted h) h under (rows_lines rest ++ behind) fits.2 p.two) (rows_tails q (after l h) (n + counted h + under_size under) rest behind fits.3 p.three),
      )

  under_tails : (q : Limits) (l : Level) (n : ℕ) (h : Head) (under : Under) (behind : List Line) → FitsUnder l h under → under_may q l n h under ≡ true → AllTails (under_lines under) behind
  under_tails q l n h nothing behind fits may_be = tt
  under_tails q l n h (block k rows) behind fits may_be = rows_tails q (inside l h k) n rows behind fits.2 (second (nat_le (suc l.depth) q.suites) _ may_be)

  row_tail : (q : Limits) (l : Level) (n : ℕ) (line : Line) (h : Head) (under : Under) (rest behind : List Line) → IsLine line l.indent (head_tokens h) → FitsUnder l h under → under_may q l n h under ≡ true → NoHandlerBehind (line ∷ ((under_lines under ++ rest) ++ behind))
  row_tail q l n line h nothing rest behind is fits may_be = λ suite k globals other more same all handler.
      false≢true (sym fits ∙ ap opens (same_head h suite.head (sym is.tokens_are ∙ suite.tokens_are)) ∙ suite.opens_it)
  row_tail q l n line h (block j rows) rest behind is fits may_be = λ suite k globals other more same all handler.
      none_inside q (inside l h j) n rows (rest ++ behind) k globals other more (record { empty = refl; no_handler = refl }) fits.2 (second (nat_le (suc l.depth) q.suites) _ may_be)
      (sym (append_assoc (rows_lines rows) rest behind) ∙ same) all handler

pub lacks_no_handler : (d : ℕ) (front : List Line) → LacksStatement d front → (s : Script) (line : Line) (more : List Line) → FitsScript s → script_stands s ≡ true → script_lines s ≡ front ++ line ∷ more → IsHandler line → ⊥
lacks_no_handler d front k s line more fits stands is handler =
    let lines = script_same s ∙ is ∙ ap (λ ls. ls ++ line ∷ more) k.front_is ∙ append_assoc k.before (k.line ∷ k.globals) (line ∷ more) in
    let all = subst (λ ls. AllTails ls []) lines (rows_tails (own s) start 0 (script_rows s) [] (fits_start s (front ++ line ∷ more) fits is (some_front front line more)) (script_may (own s) s (own_fine s stands))) in
    tail_at k.before k.line (k.globals ++ line ∷ more) [] all k.suite d k.globals line more (append-nil (k.globals ++ line ∷ more)) k.globals_are handler
