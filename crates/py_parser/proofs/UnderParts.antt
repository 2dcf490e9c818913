-- What stands under a line, and the line with it.
use Rattle.std.proofs.Common.{◌≡◌, ℕ, ◌+◌, ◌<◌, ◌≤◌, suc, nat_le, Bool, true, false, ◌&&◌, not, List, [], ◌∷◌, ◌++◌, Option, Some, None, is_none, if◌then◌else◌, refl, ap, sym, ◌∙◌, subst, arith, le-leb, leb-true}
use Rattle.std.proofs.lemmas.Bool.{false≢true}
use Rattle.prov_base.specs.declared.place.Pos.{Pos}
use Rattle.py_lines.specs.declared.parts.Line.{Line}
use Rattle.py_tree.specs.Tree.{end_suite, more_suite}
use Rattle.py_parser.specs.declared.blocks.Place.{Place}
use Rattle.py_parser.specs.declared.blocks.Built.{Built}
use Rattle.py_grammar.specs.declared.head.Behind.{Behind}
use Rattle.py_grammar.specs.declared.head.LineHead.{LineHead}
use Rattle.py_parser.specs.declared.fault.Halt.{Halt}
use Rattle.py_parser.specs.declared.fault.Halt.TheVariants.{AtToken, AtEnd, NoLine, BadIndent, TooDeep, TooMany, Memory}
use Rattle.py_grammar.specs.declared.context.Last.TheVariants.{Nothing}
use Rattle.py_grammar.specs.Written.{Simple}
use Rattle.py_grammar.specs.StatementTokens.{simple_tokens}
use Rattle.py_grammar.specs.StatementTrees.{simple_form, end_of}
use Rattle.py_grammar.specs.WellPlaced.{Around}
use Rattle.py_grammar.specs.LineReader.{Head, simple_head, if_head, elif_head, else_head, while_head, for_head, try_head, except_head, with_head, def_head, class_head, global_head, head_tokens}
use Rattle.py_grammar.specs.Layout.{IsLine}
use Rattle.py_grammar.specs.ParsedSimple.{around_of}
use Rattle.py_grammar.specs.ParsedHead.{IsThere, IsBehind, behind_in, lacks_handler, head_stands, head_depth}
use Rattle.py_grammar.specs.Limits.{profile}
use Rattle.py_parser.specs.Rows.{Rows, end_rows, row, nothing, block, rows_lines, Level, is_def, is_stmt, counted, opens, head_around, head_given, after, inside, follows, FitsRows, may, rows_may}
use Rattle.py_parser.specs.RowForms.{suite_list, begun, grown, inner_number, declared, under_globals, grow, below_tree}
use Rattle.py_parser.specs.Faults.{last_place}
use Rattle.py_parser.specs.ParsedBlocks.{columns_under, level_of, level_at, trees_of, IsUnderOf, LineRead, UnderRead, RowRead, RowsRead, RowsStopped, UnderStopped, LineStopped}
use Rattle.py_parser.proofs.RowLimits.{four_of}
use Rattle.py_parser.proofs.RowRefusals.{refused_under, refused_line, refused_inside}

-- ---- the statement behind a `:`

-- a line with a statement behind its `:` has nothing under it
shut : (h : Head) → is_none (behind_in h) ≡ false → opens h ≡ false
shut (simple_head s) is = refl
shut (if_head at test colon b) is = is
shut (elif_head at test colon b) is = is
shut (else_head at colon b) is = is
shut (while_head at test colon b) is = is
shut (for_head at t in_word e colon b) is = is
shut (try_head at colon b) is = is
shut (except_head at kind colon b) is = is
shut (with_head at e called colon b) is = is
shut (def_head at name_at bytes opening names closing colon b) is = is
shut (class_head at name_at bytes of colon b) is = is
shut (global_head at names) is = refl

-- what stands behind the `:` is a written statement
record ThereIs (b : Behind) (h : Head) : Type 0 where
  written : Simple
  behind_is : behind_in h ≡ Some written
  there : IsThere b written

there_is : (b : Behind) (h : Head) → IsBehind (Some b) (behind_in h) → ThereIs b h
there_is b h is = by (behind_in h) refl is
  where
    by : (o : Option Simple) → behind_in h ≡ o → IsBehind (Some b) o → ThereIs b h
    by None same there = absurd there
    by (Some s) same there = record { written = s; behind_is = same; there = there }

none_behind : (h : Head) → IsBehind None (behind_in h) → behind_in h ≡ None
none_behind h is = by (behind_in h) refl is
  where
    by : (o : Option Simple) → behind_in h ≡ o → IsBehind None o → behind_in h ≡ None
    by None same there = same
    by (Some s) same there = absurd there

-- the statements that begin on a line are within the limit
pub few_of : (m : Level) (n : ℕ) (h : Head) → may profile m n h ≡ true → n + counted h ≤ 20000
few_of m n h is = leb-true (n + counted h) 20000 (four_of (head_stands m.context m.given h) (nat_le (head_depth h) 100) (nat_le (n + counted h) 20000) _ is).three

counted_behind : (n : ℕ) (h : Head) (s : Simple) → behind_in h ≡ Some s → n + counted h ≡ inner_number n h + 1
counted_behind n h s is = ap (λ (b : Option Simple). n + ((if is_stmt h then 1 else 0) + (if is_none b then 0 else 1))) is ∙ numbers n (if is_stmt h then 1 else 0)
  where
    numbers : (a b : ℕ) → a + (b + 1) ≡ (a + b) + 1
    numbers a b = omega arith

pub counted_alone : (n : ℕ) (h : Head) → behind_in h ≡ None → n + counted h ≡ inner_number n h
counted_alone n h is = ap (λ (b : Option Simple). n + ((if is_stmt h then 1 else 0) + (if is_none b then 0 else 1))) is ∙ numbers n (if is_stmt h then 1 else 0)
  where
    numbers : (a b : ℕ) → a + (b + 0) ≡ a + b
    numbers a b = omega arith

pub behind_read : (p : Place) (count next to : ℕ) (m : Level) (n : ℕ) (h : Head) (b : Behind) (at : Pos) (lines : List Line) (built : Built) → IsUnderOf p count m n h → IsBehind (Some b) (behind_in h) → next ≡ count + 1
    → ((s : Simple) → IsThere b s → suite_list (trees_of built) ≡ more_suite (begun count (simple_tokens s) to (simple_form s)) end_suite) → built.globals.items ≡ [] → built.to ≡ to
    → UnderRead m n h to at lines built next at lines
behind_read p count next to m n h b at lines built u is one tree globals end =
    let t = there_is b h is in
    let few = few_of m n h u.may_be in
    let all = counted_behind n h t.written t.behind_is in
    let so_far = u.count_is in
    record {
      under = nothing;
      lines_are = refl;
      fits = shut h (ap is_none t.behind_is);
      may_be = refl;
      tree_is = tree t.written t.there ∙ ap (λ k. more_suite (begun k (simple_tokens t.written) to (simple_form t.written)) end_suite) u.count_is ∙ sym (ap (λ o. below_tree (inner_number n h) to o nothing) t.behind_is);
      globals_are = globals;
      to_is = end;
      count_is = omega (arith, one, all, so_far);
      few = omega (arith, one, all, so_far, few);
      now_is = refl;
      edge = tt;
    }

-- nothing stands under a line that begins nothing more
pub nothing_read : (p : Place) (count to : ℕ) (m : Level) (n : ℕ) (h : Head) (at : Pos) (lines : List Line) (built : Built) → IsUnderOf p count m n h → IsBehind None (behind_in h) → opens h ≡ false
    → trees_of built ≡ [] → built.globals.items ≡ [] → built.to ≡ to → UnderRead m n h to at lines built count at lines
nothing_read p count to m n h at lines built u is open_is trees globals end =
    let few = few_of m n h u.may_be in
    let all = counted_alone n h (none_behind h is) in
    let so_far = u.count_is in
    record {
      under = nothing;
      lines_are = refl;
      fits = open_is;
      may_be = refl;
      tree_is = ap suite_list trees ∙ sym (ap (λ o. below_tree (inner_number n h) to o nothing) (none_behind h is));
      globals_are = globals;
      to_is = end;
      count_is = omega (arith, all, so_far);
      few = omega (arith, all, so_far, few);
      now_is = refl;
      edge = tt;
    }

-- ---- the suite on the lines below

-- the level at which the lines of a suite begin
abbrev one_level : ℕ → ℕ → Around → Bool → List (List ℕ) → Level
one_level i d a x g = record { indent = i; depth = d; context = record { around = a; last = Nothing; may_declare = x }; of_def = x; given = g; has_stmt = false }

-- where the lines of a suite stand, in the words of the grammar
pub inner_level : (p q : Place) (given : List (List ℕ)) (m : Level) (n count : ℕ) (h : Head) → IsUnderOf p count m n h → q.depth ≡ p.depth + 1 → around_of q.around ≡ head_around (around_of p.around) h → q.of_def ≡ is_def h → given ≡ head_given h
    → level_of q given ≡ inside m h q.indent
inner_level p q given m n count h u depth around def params =
    same q.indent q.depth (suc m.depth) (around_of q.around) (head_around m.context.around h) q.of_def (is_def h) given (head_given h)
    (let one = depth in let two = u.depth_is in omega (arith, one, two)) (around ∙ ap (λ a. head_around a h) (sym u.around_is)) def params
  where
    same : (i d e : ℕ) (a b : Around) (x y : Bool) (g k : List (List ℕ)) → d ≡ e → a ≡ b → x ≡ y → g ≡ k
        → one_level i d a x g ≡ one_level i e b y k
    same i d e a b x y g k depth_is around_is def_is given_is =
        ap (λ z. one_level i z a x g) depth_is ∙ ap (λ z. one_level i e z x g) around_is ∙ ap (λ z. one_level i e b z g) def_is ∙ ap (λ z. one_level i e b y z) given_is

ends_alike : (a b : ℕ) (line : Line) (lines : List Line) → end_of a (line ∷ lines) ≡ end_of b (line ∷ lines)
ends_alike a b line lines = refl

some_rows : (l : Level) (rows : Rows) (a b : ℕ) → l.has_stmt ≡ false → FitsRows l rows → end_of a (rows_lines rows) ≡ end_of b (rows_lines rows)
some_rows l end_rows a b has fits = absurd (false≢true (sym (ap (λ x. x && not (lacks_handler l.context.last)) has) ∙ fits))
some_rows l (row line h under rest) a b has fits = refl

pub suite_read : (p : Place) (k n count next to : ℕ) (m : Level) (h : Head) (at now : Pos) (lines left : List Line) (built : Built) → IsUnderOf p count m n h → IsBehind None (behind_in h) → opens h ≡ true → m.indent < k → suc m.depth ≤ 50
    → RowsRead (inside m h k) count at lines built next now left → UnderRead m n h to at lines built next now left
suite_read p k n count next to m h at now lines left built u is open_is deeper deep r =
    let all = counted_alone n h (none_behind h is) in
    let same : count ≡ n + counted h = u.count_is ∙ sym all in
    record {
      under = block k r.rows;
      lines_are = r.lines_are;
      fits = (open_is, deeper, r.fits);
      may_be = both _ _ (le-leb (suc m.depth) 50 deep) (subst (λ j. rows_may profile (inside m h k) j r.rows ≡ true) same r.may_be);
      tree_is = ap suite_list r.trees_are ∙ ap (λ j. suite_list (grow j [] r.rows)) u.count_is ∙ sym (ap (λ o. below_tree (inner_number n h) to o (block k r.rows)) (none_behind h is));
      globals_are = r.globals_are;
      to_is = r.to_is ∙ some_rows (inside m h k) r.rows 0 to refl r.fits;
      count_is = let one = r.count_is in omega (arith, one, same);
      few = r.few;
      now_is = r.now_is;
      edge = r.low;
    }
  where
    both : (a b : Bool) → a ≡ true → b ≡ true → (a && b) ≡ true
    both true true one other = refl
    both true false one other = absurd (false≢true other)
    both false b one other = absurd (false≢true one)

pub suite_stopped : (cs : List ℕ) (p : Place) (k n count : ℕ) (m : Level) (h : Head) (at : Pos) (lines : List Line) (fault : Halt) → IsUnderOf p count m n h → IsBehind None (behind_in h) → opens h ≡ true → m.indent < k → m.depth < 50
    → RowsStopped (columns_under cs m) (inside m h k) count at lines fault → UnderStopped cs m (n + counted h) h at lines fault
suite_stopped cs p k n count m h at lines fault u is open_is deeper low r = by fault (subst (λ j. RowsStopped (columns_under cs m) (inside m h k) j at lines fault) (u.count_is ∙ sym (counted_alone n h (none_behind h is))) r)
  where
    by : (f : Halt) → RowsStopped (columns_under cs m) (inside m h k) (n + counted h) at lines f → UnderStopped cs m (n + counted h) h at lines f
    by Memory r = tt
    by (AtToken lines_left tokens_left) r = refused_inside cs m (n + counted h) k h at lines (AtToken lines_left tokens_left) open_is deeper low r
    by (AtEnd lines_left place) r = refused_inside cs m (n + counted h) k h at lines (AtEnd lines_left place) open_is deeper low r
    by (NoLine place) r = refused_inside cs m (n + counted h) k h at lines (NoLine place) open_is deeper low r
    by (BadIndent place) r = refused_inside cs m (n + counted h) k h at lines (BadIndent place) open_is deeper low r
    by (TooDeep place) r = refused_inside cs m (n + counted h) k h at lines (TooDeep place) open_is deeper low r
    by (TooMany place) r = refused_inside cs m (n + counted h) k h at lines (TooMany place) open_is deeper low r

-- ---- a whole row

pub row_read : (p : Place) (given : List (List ℕ)) (n middle next : ℕ) (at now : Pos) (line : Line) (rest left : List Line) (old more built : Built) (head : LineHead)
    → (l : LineRead (level_at p given old) n line head middle) → line.indent ≡ p.indent → UnderRead (level_at p given old) n l.written line.span.to (last_place at line.tokens) rest built next now left
    → trees_of more ≡ grown n l.written (suite_list (trees_of built)) built.globals.items built.to (trees_of old) → more.globals.items ≡ old.globals.items ++ declared l.written → more.to ≡ built.to
    → level_at p given more ≡ after (level_at p given old) l.written
    → RowRead (level_at p given old) n at (line ∷ rest) old more (level_at p given more) next now left
row_read p given n middle next at now line rest left old more built head l indent u trees globals end level = record {
  line = line;
  head = l.written;
  under = u.under;
  lines_are = ap (λ ls. line ∷ ls) u.lines_are;
  is_line = record { indent_is = indent; tokens_are = l.tokens_are };
  follows_is = l.follows_is;
  may_be = l.may_be;
  fits = u.fits;
  under_may_be = u.may_be;
  trees_are = trees ∙ ap (λ t. grown n l.written t built.globals.items built.to (trees_of old)) u.tree_is
      ∙ ap (λ gs. grown n l.written (below_tree (inner_number n l.written) line.span.to (behind_in l.written) u.under) gs built.to (trees_of old)) u.globals_are
      ∙ ap (λ to. grown n l.written (below_tree (inner_number n l.written) line.span.to (behind_in l.written) u.under) (under_globals u.under) to (trees_of old)) u.to_is;
  globals_are = globals;
  to_is = end ∙ u.to_is;
  count_is = u.count_is;
  few = u.few;
  now_is = u.now_is;
  level_is = level;
  edge = u.edge;
}

pub row_stopped : (cs : List ℕ) (m : Level) (n : ℕ) (h : Head) (at : Pos) (line : Line) (lines : List Line) (fault : Halt) → IsLine line m.indent (head_tokens h) → follows m h ≡ true → may profile m n h ≡ true → m.depth ≤ 50
    → UnderStopped cs m (n + counted h) h (last_place at line.tokens) lines fault → RowsStopped cs m n at (line ∷ lines) fault
row_stopped cs m n h at line lines Memory is may_follow kept deep r = tt
row_stopped cs m n h at line lines (AtToken lines_left tokens_left) is may_follow kept deep r = refused_under cs m n h at line lines (AtToken lines_left tokens_left) is may_follow kept deep r
row_stopped cs m n h at line lines (AtEnd lines_left place) is may_follow kept deep r = refused_under cs m n h at line lines (AtEnd lines_left place) is may_follow kept deep r
row_stopped cs m n h at line lines (NoLine place) is may_follow kept deep r = refused_under cs m n h at line lines (NoLine place) is may_follow kept deep r
row_stopped cs m n h at line lines (BadIndent place) is may_follow kept deep r = refused_under cs m n h at line lines (BadIndent place) is may_follow kept deep r
row_stopped cs m n h at line lines (TooDeep place) is may_follow kept deep r = refused_under cs m n h at line lines (TooDeep place) is may_follow kept deep r
row_stopped cs m n h at line lines (TooMany place) is may_follow kept deep r = refused_under cs m n h at line lines (TooMany place) is may_follow kept deep r

pub line_stopped : (cs : List ℕ) (m : Level) (n : ℕ) (at : Pos) (line : Line) (lines : List Line) (fault : Halt) → m.depth ≤ 50 → n ≤ 20000 → line.indent ≡ m.indent → LineStopped m n at line lines fault → RowsStopped cs m n at (line ∷ lines) fault
line_stopped cs m n at line lines Memory deep few is r = tt
line_stopped cs m n at line lines (AtToken lines_left tokens_left) deep few is r = refused_line cs m n at line lines (AtToken lines_left tokens_left) deep few is r
line_stopped cs m n at line lines (AtEnd lines_left place) deep few is r = refused_line cs m n at line lines (AtEnd lines_left place) deep few is r
line_stopped cs m n at line lines (NoLine place) deep few is r = refused_line cs m n at line lines (NoLine place) deep few is r
line_stopped cs m n at line lines (BadIndent place) deep few is r = refused_line cs m n at line lines (BadIndent place) deep few is r
line_stopped cs m n at line lines (TooDeep place) deep few is r = refused_line cs m n at line lines (TooDeep place) deep few is r
line_stopped cs m n at line lines (TooMany place) deep few is r = refused_line cs m n at line lines (TooMany place) deep few is r
