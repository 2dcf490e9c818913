-- The lines of a suite that are read so far, and one line more.
use Rattle.std.proofs.Common.{◌≡◌, ℕ, ◌+◌, ◌<◌, ◌≤◌, Bool, true, false, ◌&&◌, List, [], ◌∷◌, ◌++◌, length, refl, ap, sym, ◌∙◌, subst, arith, append_assoc, append-nil}
use Rattle.std.proofs.lemmas.Bool.{false≢true}
use Rattle.prov_base.specs.declared.place.Pos.{Pos}
use Rattle.py_lines.specs.declared.parts.Line.{Line}
use Rattle.py_tree.specs.Tree.{StmtTree}
use Rattle.py_parser.specs.declared.blocks.Place.{Place}
use Rattle.py_parser.specs.declared.blocks.Built.{Built}
use Rattle.py_parser.specs.declared.fault.Halt.{Halt}
use Rattle.py_parser.specs.declared.fault.Halt.TheVariants.{AtToken, AtEnd, NoLine, BadIndent, TooDeep, TooMany, Memory}
use Rattle.py_grammar.specs.LineReader.{Head, head_tokens}
use Rattle.py_grammar.specs.StatementTrees.{end_of}
use Rattle.py_grammar.specs.Layout.{IsLine}
use Rattle.py_grammar.specs.ParsedHead.{behind_in}
use Rattle.py_grammar.specs.Limits.{profile}
use Rattle.py_parser.specs.Rows.{Rows, end_rows, row, Under, rows_lines, under_lines, Level, counted, after, follows, Leads, FitsUnder, may, rows_may, under_may, rows_size, under_size, Edge, LastEdge, Begun}
use Rattle.py_parser.specs.RowForms.{grown, inner_number, declared, row_globals, under_globals, grow, below_tree}
use Rattle.py_parser.specs.Faults.{last_token}
use Rattle.py_parser.specs.ParsedBlocks.{AreBelow, level_at, level_of, is_here, trees_of, Standing, RowsRead, RowRead, Refused, RowsStopped, NotClosed, IsClosed}
use Rattle.py_parser.proofs.Grown.{end_append}
use Rattle.py_parser.proofs.RowRefusals.{refused_behind, refused_end, suite_fits, tokens_append}

-- ---- one row more

abbrev and_row : Rows → Line → Head → Under → Rows
and_row end_rows line h under = row line h under end_rows
and_row (row first g below rest) line h under = row first g below (and_row rest line h under)

lines_more : (rows : Rows) (line : Line) (h : Head) (under : Under) → rows_lines (and_row rows line h under) ≡ rows_lines rows ++ (line ∷ under_lines under)
lines_more end_rows line h under = ap (λ ls. line ∷ ls) (append-nil (under_lines under))
lines_more (row first g below rest) line h under = ap (λ ls. first ∷ under_lines below ++ ls) (lines_more rest line h under) ∙ ap (λ ls. first ∷ ls) (sym (append_assoc (under_lines below) (rows_lines rest) (line ∷ under_lines under)))

leads_more : (l m : Level) (rows : Rows) (line : Line) (h : Head) (under : Under) → Leads l rows m → IsLine line m.indent (head_tokens h) → follows m h ≡ true → FitsUnder m h under → Leads l (and_row rows line h under) (after m h)
leads_more l m end_rows line h under leads is may_follow fits =
    (subst (λ (k : Level). IsLine line k.indent (head_tokens h)) leads is, subst (λ (k : Level). follows k h ≡ true) leads may_follow, subst (λ (k : Level). FitsUnder k h under) leads fits, ap (λ (k : Level). after k h) leads)
leads_more l m (row first g below rest) line h under leads is may_follow fits = (leads.0, leads.1, leads.2, leads_more (after l g) m rest line h under leads.3 is may_follow fits)

both : (a b : Bool) → a ≡ true → b ≡ true → (a && b) ≡ true
both true true one other = refl
both true false one other = absurd (false≢true other)
both false b one other = absurd (false≢true one)

all_three : (a b c : Bool) → a ≡ true → b ≡ true → c ≡ true → (a && b && c) ≡ true
all_three true true true one two three = refl
all_three true true false one two three = absurd (false≢true three)
all_three true false c one two three = absurd (false≢true two)
all_three false b c one two three = absurd (false≢true one)

first : (a b : Bool) → (a && b) ≡ true → a ≡ true
first true b is = refl
first false b is = absurd (false≢true is)

record Three (a b c : Bool) : Type 0 where
  one : a ≡ true
  two : b ≡ true
  three : c ≡ true

three_of : (a b c : Bool) → (a && b && c) ≡ true → Three a b c
three_of true true true is = record { one = refl; two = refl; three = refl }
three_of true true false is = absurd (false≢true is)
three_of true false c is = absurd (false≢true is)
three_of false b c is = absurd (false≢true is)

may_more : (l m : Level) (n k : ℕ) (rows : Rows) (line : Line) (h : Head) (under : Under) → Leads l rows m → k ≡ n + rows_size rows → rows_may profile l n rows ≡ true → may profile m k h ≡ true → under_may profile m (k + counted h) h under ≡ true
    → rows_may profile l n (and_row rows line h under) ≡ true
may_more l m n k end_rows line h under leads count may_be one two =
    let same : k ≡ n = omega (arith, count) in
    all_three _ _ _ (subst (λ j. may profile l j h ≡ true) same (subst (λ (x : Level). may profile x k h ≡ true) leads one)) (subst (λ j. under_may profile l (j + counted h) h under ≡ true) same (subst (λ (x : Level). under_may profile x (k + counted h) h under ≡ true) leads two)) refl
may_more l m n k (row first g below rest) line h under leads count may_be one two =
    let p = three_of (may profile l n g) (under_may profile l (n + counted g) g below) _ may_be in
    all_three _ _ _ p.one p.two (may_more (after l g) m (n + counted g + under_size below) k rest line h under leads.3 (omega (arith, count)) p.three one two)

size_more : (rows : Rows) (line : Line) (h : Head) (under : Under) → rows_size (and_row rows line h under) ≡ rows_size rows + counted h + under_size under
size_more end_rows line h under = omega arith
size_more (row first g below rest) line h under = let more = size_more rest line h under in omega (arith, more)

grow_more : (n k : ℕ) (ss : List StmtTree) (rows : Rows) (line : Line) (h : Head) (under : Under) → k ≡ n + rows_size rows
    → grow n ss (and_row rows line h under) ≡ grown k h (below_tree (inner_number k h) line.span.to (behind_in h) under) (under_globals under) (end_of line.span.to (under_lines under)) (grow n ss rows)
grow_more n k ss end_rows line h under count =
    let same : k ≡ n = omega (arith, count) in
    sym (ap (λ j. grown j h (below_tree (inner_number j h) line.span.to (behind_in h) under) (under_globals under) (end_of line.span.to (under_lines under)) ss) same)
grow_more n k ss (row first g below rest) line h under count = grow_more (n + counted g + under_size below) k _ rest line h under (omega (arith, count))

globals_more : (rows : Rows) (line : Line) (h : Head) (under : Under) → row_globals (and_row rows line h under) ≡ row_globals rows ++ declared h
globals_more end_rows line h under = append-nil (declared h)
globals_more (row first g below rest) line h under = ap (λ gs. declared g ++ gs) (globals_more rest line h under) ∙ sym (append_assoc (declared g) (row_globals rest) (declared h))

edge_more : (rows : Rows) (line : Line) (h : Head) (under : Under) (x : List Line) → Edge under x → LastEdge (and_row rows line h under) x
edge_more end_rows line h under x edge = edge
edge_more (row first g below end_rows) line h under x edge = edge
edge_more (row first g below (row line_2 h_2 under_2 rest)) line h under x edge = edge_more (row line_2 h_2 under_2 rest) line h under x edge

-- ---- where a suite stands

pub standing_start : (l : Level) (n : ℕ) (at : Pos) (before : List Line) (m : Level) (built : Built) → m ≡ l → trees_of built ≡ [] → built.globals.items ≡ [] → built.to ≡ 0 → n ≤ 20000 → Standing l n at before m built n at before
standing_start l n at before m built level trees globals to few = record {
  rows = end_rows;
  lines_are = refl;
  leads = level;
  may_be = refl;
  trees_are = trees;
  globals_are = globals;
  to_is = to;
  count_is = omega arith;
  few = few;
  now_is = refl;
  edge = tt;
}

pub standing_more : (l m k : Level) (n count next : ℕ) (at now then_at : Pos) (before left rest : List Line) (built more : Built) → Standing l n at before m built count now left → RowRead m count now left built more k next then_at rest
    → Standing l n at before k more next then_at rest
standing_more l m k n count next at now then_at before left rest built more s r = record {
  rows = and_row s.rows r.line r.head r.under;
  lines_are = s.lines_are ∙ ap (λ ls. rows_lines s.rows ++ ls) r.lines_are ∙ sym (append_assoc (rows_lines s.rows) (r.line ∷ under_lines r.under) rest) ∙ ap (λ ls. ls ++ rest) (sym (lines_more s.rows r.line r.head r.under));
  leads = subst (λ (x : Level). Leads l (and_row s.rows r.line r.head r.under) x) (sym r.level_is) (leads_more l m s.rows r.line r.head r.under s.leads r.is_line r.follows_is r.fits);
  may_be = may_more l m n count s.rows r.line r.head r.under s.leads s.count_is s.may_be r.may_be r.under_may_be;
  trees_are = r.trees_are
      ∙ ap (grown count r.head (below_tree (inner_number count r.head) r.line.span.to (behind_in r.head) r.under) (under_globals r.under) (end_of r.line.span.to (under_lines r.under))) s.trees_are
      ∙ sym (grow_more n count [] s.rows r.line r.head r.under s.count_is);
  globals_are = r.globals_are ∙ ap (λ gs. gs ++ declared r.head) s.globals_are ∙ sym (globals_more s.rows r.line r.head r.under);
  to_is = r.to_is ∙ sym (ap (end_of 0) (lines_more s.rows r.line r.head r.under) ∙ end_append 0 (rows_lines s.rows) (r.line ∷ under_lines r.under));
  count_is = let one = r.count_is in let two = s.count_is in let three = size_more s.rows r.line r.head r.under in omega (arith, one, two, three);
  few = r.few;
  now_is = r.now_is ∙ ap (λ p. last_token p (r.line ∷ under_lines r.under)) s.now_is ∙ sym (ap (last_token at) (lines_more s.rows r.line r.head r.under) ∙ tokens_append at (rows_lines s.rows) (r.line ∷ under_lines r.under));
  edge = edge_more s.rows r.line r.head r.under rest r.edge;
}

-- fewer lines are left
pub fewer_lines : (m k : Level) (n next : ℕ) (at then_at : Pos) (left rest : List Line) (built more : Built) → RowRead m n at left built more k next then_at rest → length rest < length left
fewer_lines m k n next at then_at left rest built more r =
    let one = ap length r.lines_are in
    let two = lengths (under_lines r.under) rest in
    omega (arith, one, two)
  where
    lengths : (a b : List Line) → length (a ++ b) ≡ length a + length b
    lengths [] b = omega arith
    lengths (x ∷ a) b = let more = lengths a b in omega (arith, more)

stopped_behind : (cs : List ℕ) (l m : Level) (n count : ℕ) (at now : Pos) (before left : List Line) (built : Built) (fault : Halt) → Standing l n at before m built count now left → RowsStopped cs m count now left fault → RowsStopped cs l n at before fault
stopped_behind cs l m n count at now before left built Memory s r = tt
stopped_behind cs l m n count at now before left built (AtToken lines_left tokens_left) s r = refused_behind cs l m n count at now before left s.rows (AtToken lines_left tokens_left) s.lines_are s.leads s.may_be s.count_is s.now_is r
stopped_behind cs l m n count at now before left built (AtEnd lines_left place) s r = refused_behind cs l m n count at now before left s.rows (AtEnd lines_left place) s.lines_are s.leads s.may_be s.count_is s.now_is r
stopped_behind cs l m n count at now before left built (NoLine place) s r = refused_behind cs l m n count at now before left s.rows (NoLine place) s.lines_are s.leads s.may_be s.count_is s.now_is r
stopped_behind cs l m n count at now before left built (BadIndent place) s r = refused_behind cs l m n count at now before left s.rows (BadIndent place) s.lines_are s.leads s.may_be s.count_is s.now_is r
stopped_behind cs l m n count at now before left built (TooDeep place) s r = refused_behind cs l m n count at now before left s.rows (TooDeep place) s.lines_are s.leads s.may_be s.count_is s.now_is r
stopped_behind cs l m n count at now before left built (TooMany place) s r = refused_behind cs l m n count at now before left s.rows (TooMany place) s.lines_are s.leads s.may_be s.count_is s.now_is r

-- rows were read, since the first line stands here and the next one does not
begun_behind : (l m : Level) (rows : Rows) (before left : List Line) → before ≡ rows_lines rows ++ left → Leads l rows m → is_here l.indent before ≡ true → is_here l.indent left ≡ false → (x : List Line) → Begun l.indent (rows_lines rows ++ x)
begun_behind l m end_rows before left is leads here gone x = absurd (false≢true (sym gone ∙ sym (ap (is_here l.indent) is) ∙ here))
begun_behind l m (row line h under rest) before left is leads here gone x = leads.0.indent_is

as_stopped : (cs : List ℕ) (l : Level) (n : ℕ) (at : Pos) (lines : List Line) (fault : Halt) → (fault ≡ Memory → ⊥) → Refused cs l n at lines fault → RowsStopped cs l n at lines fault
as_stopped cs l n at lines Memory other r = tt
as_stopped cs l n at lines (AtToken lines_left tokens_left) other r = r
as_stopped cs l n at lines (AtEnd lines_left place) other r = r
as_stopped cs l n at lines (NoLine place) other r = r
as_stopped cs l n at lines (BadIndent place) other r = r
as_stopped cs l n at lines (TooDeep place) other r = r
as_stopped cs l n at lines (TooMany place) other r = r

stopped_end : (cs : List ℕ) (p : Place) (given : List (List ℕ)) (n count : ℕ) (at now : Pos) (before left : List Line) (built : Built) (fault : Halt) → p.depth ≤ 50 → is_here p.indent before ≡ true → is_here p.indent left ≡ false
    → Standing (level_of p given) n at before (level_at p given built) built count now left → NotClosed cs p built now left fault → RowsStopped cs (level_of p given) n at before fault
stopped_end cs p given n count at now before left built fault deep here gone s r =
    as_stopped cs (level_of p given) n at before fault r.other
    (refused_end cs (level_of p given) (level_at p given built) n count at now before left s.rows fault s.lines_are s.leads s.may_be s.count_is s.now_is s.few s.edge
    (begun_behind (level_of p given) (level_at p given built) s.rows before left s.lines_are s.leads here gone) (r.there given count deep))

pub rows_read : (p : Place) (given : List (List ℕ)) (n count : ℕ) (at now : Pos) (before left : List Line) (built : Built) → Standing (level_of p given) n at before (level_at p given built) built count now left → IsClosed p built left
    → RowsRead (level_of p given) n at before built count now left
rows_read p given n count at now before left built s c = record {
  rows = s.rows;
  lines_are = s.lines_are;
  fits = suite_fits (level_of p given) (level_at p given built) s.rows s.leads (c.done given);
  may_be = s.may_be;
  trees_are = s.trees_are;
  globals_are = s.globals_are;
  to_is = s.to_is;
  count_is = s.count_is;
  few = s.few;
  now_is = s.now_is;
  low = c.low;
}

-- a `global` line may stand only in the suite of a `def`
declares_kept : (l m : Level) (rows : Rows) → Leads l rows m → (l.context.may_declare ≡ true → l.of_def ≡ true) → m.context.may_declare ≡ true → l.of_def ≡ true
declares_kept l m end_rows leads from is = from (subst (λ (k : Level). k.context.may_declare ≡ true) leads is)
declares_kept l m (row line h under rest) leads from is = declares_kept (after l h) m rest leads.3 (λ may. from (first l.context.may_declare _ may)) is

pub standing_declares : (p : Place) (given : List (List ℕ)) (n count : ℕ) (at now : Pos) (before left : List Line) (built : Built) → Standing (level_of p given) n at before (level_at p given built) built count now left
    → built.may_declare ≡ true → p.of_def ≡ true
standing_declares p given n count at now before left built s is = declares_kept (level_of p given) (level_at p given built) s.rows s.leads (λ may. may) is

-- the same, where the columns around are known to be these
pub stopped_behind_there : (cs ds : List ℕ) (l m : Level) (n count : ℕ) (at now : Pos) (before left : List Line) (built : Built) (fault : Halt) → ds ≡ cs → Standing l n at before m built count now left → RowsStopped ds m count now left fault
    → RowsStopped cs l n at before fault
stopped_behind_there cs ds l m n count at now before left built fault columns s r =
    stopped_behind cs l m n count at now before left built fault s (subst (λ (xs : List ℕ). RowsStopped xs m count now left fault) columns r)

pub stopped_end_there : (cs ds : List ℕ) (p : Place) (given : List (List ℕ)) (n count : ℕ) (at now : Pos) (before left : List Line) (built : Built) (fault : Halt) → p.depth ≤ 50 → ds ≡ cs → is_here p.indent before ≡ true → is_here p.indent left ≡ false
    → Standing (level_of p given) n at before (level_at p given built) built count now left → NotClosed ds p built now left fault → RowsStopped cs (level_of p given) n at before fault
stopped_end_there cs ds p given n count at now before left built fault deep columns here gone s r =
    stopped_end cs p given n count at now before left built fault deep here gone s (subst (λ (xs : List ℕ). NotClosed xs p built now left fault) columns r)

pub still_below : (d : ℕ) (cs ds : List ℕ) → ds ≡ cs → AreBelow d cs → AreBelow d ds
still_below d cs ds same all = subst (AreBelow d) (sym same) all
