-- In how many suites the lines before a fault lie: none of them in a 51st.
use Rattle.std.proofs.Common.{◌≡◌, inl, inr, ◌⊎◌, ℕ, ◌+◌, ◌<◌, ◌≤◌, suc, nat_le, Bool, true, false, List, [], ◌∷◌, ◌++◌, Some, None, refl, ap, sym, ◌∙◌, subst, arith, append_assoc, append-nil, le-leb, leb-true}
use Rattle.std.proofs.lemmas.Bool.{false≢true}
use Rattle.py_lines.specs.declared.parts.Line.{Line}
use Rattle.py_expressions.specs.Concrete.{Spot}
use Rattle.py_grammar.specs.Written.{every_kind, one_kind}
use Rattle.py_grammar.specs.LineReader.{Head, simple_head, if_head, elif_head, else_head, while_head, for_head, try_head, except_head, with_head, def_head, class_head, global_head, head_tokens}
use Rattle.py_grammar.specs.Layout.{IsLine}
use Rattle.py_grammar.specs.ParsedHead.{lacks_handler, head_stands, head_depth}
use Rattle.py_grammar.specs.Limits.{profile}
use Rattle.py_parser.specs.Faults.{StandsFor}
use Rattle.py_parser.specs.Rows.{Rows, end_rows, row, Under, nothing, block, rows_lines, under_lines, Level, counted, opens, last_after, after, inside, follows, Leads, FitsUnder, may, rows_may, under_may, rows_size, under_size}
use Rattle.py_parser.specs.ParsedBlocks.{wide, RowsWithin, UnderWithin, HasRoom, RowsLie, UnderLie}
use Rattle.py_parser.proofs.Peeled.{join}
use Rattle.py_parser.proofs.RowLimits.{both, first, all_three, three_of, four_of}
use Rattle.py_parser.proofs.Endings.{ending, ending_fits, ending_may, join_lines, join_fits, join_may, join_size, rows_wide, may_wide, line_of, pass_at, passed_at, passed_fits, passed_may, within_behind, within_under, within_inside}

room_is : (d : ℕ) → d < 50 → suc d ≤ 50
room_is d low = omega (arith, low)

-- ---- a handler that is missing

-- behind a line that keeps the limits, where its suite has room
head_room : (m : Level) (n : ℕ) (h : Head) → may profile m n h ≡ true → (opens h ≡ true → m.depth < 50) → lacks_handler (last_after h) ≡ true → m.depth < 50
head_room m n (simple_head s) may_be suite lacks = absurd (false≢true lacks)
head_room m n (if_head at test colon b) may_be suite lacks = absurd (false≢true lacks)
head_room m n (elif_head at test colon b) may_be suite lacks = absurd (false≢true lacks)
head_room m n (else_head at colon b) may_be suite lacks = absurd (false≢true lacks)
head_room m n (while_head at test colon b) may_be suite lacks = absurd (false≢true lacks)
head_room m n (for_head at t in_word e colon b) may_be suite lacks = absurd (false≢true lacks)
head_room m n (try_head at colon None) may_be suite lacks = suite refl
head_room m n (try_head at colon (Some s)) may_be suite lacks =
    let h : Head = try_head at colon (Some s) in
    let low = leb-true (suc m.depth) 50 (four_of (head_stands m.context m.given h) (nat_le (head_depth h) 100) (nat_le (n + counted h) 20000) (nat_le (suc m.depth) 50) may_be).four in
    omega (arith, low)
head_room m n (except_head at every_kind colon b) may_be suite lacks = absurd (false≢true lacks)
head_room m n (except_head at (one_kind e called) colon b) may_be suite lacks = absurd (false≢true lacks)
head_room m n (with_head at e called colon b) may_be suite lacks = absurd (false≢true lacks)
head_room m n (def_head at name_at bytes opening names closing colon b) may_be suite lacks = absurd (false≢true lacks)
head_room m n (class_head at name_at bytes of colon b) may_be suite lacks = absurd (false≢true lacks)
head_room m n (global_head at names) may_be suite lacks = absurd (false≢true lacks)

suite_room : (l : Level) (n : ℕ) (h : Head) (under : Under) → FitsUnder l h under → under_may profile l n h under ≡ true → opens h ≡ true → l.depth < 50
suite_room l n h nothing fits may_be open_is = absurd (false≢true (sym fits ∙ open_is))
suite_room l n h (block indent rows) fits may_be open_is = let low = leb-true (suc l.depth) 50 (first (nat_le (suc l.depth) 50) _ may_be) in omega (arith, low)

pub rows_room : (l m : Level) (n : ℕ) (rows : Rows) → Leads l rows m → rows_may profile l n rows ≡ true → HasRoom l → HasRoom m
rows_room l m n end_rows leads may_be room = subst (λ (k : Level). HasRoom k) (sym leads) room
rows_room l m n (row line h under rest) leads may_be room =
    let p = three_of (may profile l n h) (under_may profile l (n + counted h) h under) _ may_be in
    rows_room (after l h) m (n + counted h + under_size under) rest leads.3 p.three (head_room l n h p.one (suite_room l (n + counted h) h under leads.2 p.two))

-- ---- behind rows

first_same : (a b : Line) (x y : List Line) → a ∷ x ≡ b ∷ y → a ≡ b
first_same a b x y is = cc

rest_same : (a b : Line) (x y : List Line) → a ∷ x ≡ b ∷ y → x ≡ y
rest_same a b x y is = cc

pub no_last : (before : List Line) (last : Line) → [] ≡ before ++ last ∷ [] → ⊥
no_last [] last is = cc
no_last (line ∷ before) last is = cc

pub same_last : (before front : List Line) (one other : Line) → before ++ one ∷ [] ≡ front ++ other ∷ [] → (before ≡ front) × (one ≡ other)
same_last [] [] one other is = (refl, first_same one other [] [] is)
same_last [] (b ∷ front) one other is = absurd (no_last front other (rest_same one b [] (front ++ other ∷ []) is))
same_last (a ∷ before) [] one other is = absurd (no_last before one (sym (rest_same a other (before ++ one ∷ []) [] is)))
same_last (a ∷ before) (b ∷ front) one other is =
    let more = same_last before front one other (rest_same a b (before ++ one ∷ []) (front ++ other ∷ []) is) in
    (ap (λ (line : Line). line ∷ before) (first_same a b (before ++ one ∷ []) (front ++ other ∷ []) is) ∙ ap (λ (ls : List Line). b ∷ ls) more.0, more.1)

-- the last of some lines
record EndLine (xs : List Line) : Type 0 where
  before : List Line
  last : Line
  is : xs ≡ before ++ last ∷ []

last_line : (xs : List Line) → (xs ≡ []) ⊎ EndLine xs
last_line [] = inl refl
last_line (x ∷ xs) = inr (by (last_line xs))
  where
    by : (xs ≡ []) ⊎ EndLine xs → EndLine (x ∷ xs)
    by (inl none) = record { before = []; last = x; is = ap (λ (ys : List Line). x ∷ ys) none }
    by (inr e) = record { before = x ∷ e.before; last = e.last; is = ap (λ (ys : List Line). x ∷ ys) e.is }

pub rows_lie : (l m : Level) (n : ℕ) (rows : Rows) → Leads l rows m → rows_may profile l n rows ≡ true → HasRoom m → RowsLie l n (rows_lines rows)
rows_lie l m n rows leads may_be room = by (last_line (rows_lines rows))
  where
    may_now : (k : ℕ) → n + rows_size (join rows (ending m)) ≤ k → rows_may (wide 50 k) l n (join rows (ending m)) ≡ true
    may_now k fewer =
        let size = join_size rows (ending m) in
        join_may (wide 50 k) l m n rows (ending m) leads (rows_wide 50 l n rows k (omega arith) may_be (omega (arith, size, fewer))) (ending_may 50 m (n + rows_size rows) k (λ lacks. room_is m.depth (room lacks)) (omega (arith, size, fewer)))

    by : (rows_lines rows ≡ []) ⊎ EndLine (rows_lines rows) → RowsLie l n (rows_lines rows)
    by (inl none) = inl none
    by (inr e) = inr (record {
      before = e.before;
      last = e.last;
      front_is = e.is;
      goes_on = λ at. record {
        rows = join rows (ending m);
        fits = join_fits l m rows (ending m) leads (ending_fits m);
        may_be = may_now;
        line = e.last;
        more = rows_lines (ending m);
        lines_are = join_lines rows (ending m) ∙ ap (λ ls. ls ++ rows_lines (ending m)) e.is ∙ append_assoc e.before (e.last ∷ []) (rows_lines (ending m));
        line_is = inl refl;
      };
    })

pub lie_behind : (l m : Level) (n k : ℕ) (rows : Rows) (front : List Line) → Leads l rows m → rows_may profile l n rows ≡ true → k ≡ n + rows_size rows → HasRoom l → (HasRoom m → RowsLie m k front) → RowsLie l n (rows_lines rows ++ front)
lie_behind l m n k rows front leads may_be count_is room lie = by (lie (rows_room l m n rows leads may_be room))
  where
    by : RowsLie m k front → RowsLie l n (rows_lines rows ++ front)
    by (inl none) = subst (λ ls. RowsLie l n ls) (sym (ap (λ ls. rows_lines rows ++ ls) none ∙ append-nil (rows_lines rows))) (rows_lie l m n rows leads may_be (rows_room l m n rows leads may_be room))
    by (inr e) = inr (record {
      before = rows_lines rows ++ e.before;
      last = e.last;
      front_is = ap (λ ls. rows_lines rows ++ ls) e.front_is ∙ sym (append_assoc (rows_lines rows) e.before (e.last ∷ []));
      goes_on = λ at. within_behind 50 l m n rows (StandsFor at e.last) e.before (omega arith) leads may_be (subst (λ j. RowsWithin 50 m j (StandsFor at e.last) e.before) count_is (e.goes_on at));
    })

-- ---- under a line

module _ (m : Level) (n : ℕ) (h : Head) (line : Line) (is : IsLine line m.indent (head_tokens h)) (may_follow : follows m h ≡ true) (may_be : may profile m n h ≡ true) where
  -- the line, with this under it
  with_under : (at : Spot) (under : Under) → FitsUnder m h under → ((k : ℕ) → n + counted h + under_size under ≤ k → under_may (wide 50 k) m (n + counted h) h under ≡ true) → (lacks_handler (last_after h) ≡ true → suc m.depth ≤ 50) → RowsWithin 50 m n (StandsFor at line) []
  with_under at under fits under_may_be deep = record {
    rows = row line h under (ending (after m h));
    fits = (is, may_follow, fits, ending_fits (after m h));
    may_be = λ k fewer. all_three (may (wide 50 k) m n h) _ _ (may_wide 50 m n h k (omega arith) may_be (omega (arith, fewer))) (under_may_be k (omega (arith, fewer))) (ending_may 50 (after m h) (n + counted h + under_size under) k deep (omega (arith, fewer)));
    line = line;
    more = under_lines under ++ rows_lines (ending (after m h));
    lines_are = refl;
    line_is = inl refl;
  }

  -- the line itself; `pass` stands for it where its suite may be the 51st
  line_lies : (at : Spot) → HasRoom m → RowsWithin 50 m n (StandsFor at line) []
  line_lies at room = by (opens h) refl (lacks_handler m.context.last) refl
    where
      by : (a : Bool) → opens h ≡ a → (b : Bool) → lacks_handler m.context.last ≡ b → RowsWithin 50 m n (StandsFor at line) []
      by false closed b lacks = with_under at nothing closed (λ k fewer. refl) (λ behind_lacks. room_is m.depth (head_room m n h may_be (λ open_is. absurd (false≢true (sym closed ∙ open_is))) behind_lacks))
      by true open_is true lacks =
          let deep = room_is m.depth (room lacks) in
          with_under at (block (suc m.indent) (ending (inside m h (suc m.indent)))) (open_is, omega arith, ending_fits (inside m h (suc m.indent)))
          (λ k fewer. both (nat_le (suc m.depth) 50) _ (le-leb (suc m.depth) 50 deep) (ending_may 50 (inside m h (suc m.indent)) (n + counted h) k (λ never. absurd (false≢true never)) fewer)) (λ behind_lacks. deep)
      by true open_is false lacks = record {
        rows = passed_at at m;
        fits = passed_fits at m lacks;
        may_be = passed_may 50 at m n lacks;
        line = line_of m.indent (pass_at at);
        more = [];
        lines_are = refl;
        line_is = inr (record { head = h; tokens_are = is.tokens_are; opens_it = open_is }, record { indent_is = sym is.indent_is; tokens_are = refl });
      }

  -- lines under it lie in its suite
  pub under_room : (so : Line → Type 0) (front : List Line) → UnderWithin 50 m (n + counted h) h so front → m.depth < 50
  under_room so front g = by g.under (n + counted h + under_size g.under) (g.may_be (n + counted h + under_size g.under) (omega arith)) g.lines_are
    where
      some_line : (ls : List Line) (first : Line) (more : List Line) → [] ≡ ls ++ first ∷ more → ⊥
      some_line [] first more same = cc
      some_line (other ∷ ls) first more same = cc

      by : (under : Under) (k : ℕ) → under_may (wide 50 k) m (n + counted h) h under ≡ true → under_lines under ≡ front ++ g.line ∷ g.more → m.depth < 50
      by nothing k kept same = absurd (some_line front g.line g.more same)
      by (block indent rows) k kept same = let low = leb-true (suc m.depth) 50 (first (nat_le (suc m.depth) 50) _ kept) in omega (arith, low)

  pub lie_under : (front : List Line) → HasRoom m → UnderLie m (n + counted h) h front → RowsLie m n (line ∷ front)
  lie_under front room (inl none) = inr (record { before = []; last = line; front_is = ap (λ (ls : List Line). line ∷ ls) none; goes_on = λ at. line_lies at room })
  lie_under front room (inr e) = inr (record {
    before = line ∷ e.before;
    last = e.last;
    front_is = ap (λ (ls : List Line). line ∷ ls) e.front_is;
    goes_on = λ at. within_under 50 m n h line (StandsFor at e.last) e.before (omega arith) is may_follow may_be (λ lacks. room_is m.depth (under_room (StandsFor at e.last) e.before (e.goes_on at))) (e.goes_on at);
  })

-- ---- the suite under a line

pub lie_inside : (m : Level) (n k : ℕ) (h : Head) (front : List Line) → opens h ≡ true → m.indent < k → m.depth < 50 → (HasRoom (inside m h k) → RowsLie (inside m h k) n front) → UnderLie m n h front
lie_inside m n k h front open_is deeper low lie = by (lie (λ lacks. absurd (false≢true lacks)))
  where
    by : RowsLie (inside m h k) n front → UnderLie m n h front
    by (inl none) = inl none
    by (inr e) = inr (record { before = e.before; last = e.last; front_is = e.front_is; goes_on = λ at. within_inside 50 m n h k (StandsFor at e.last) e.before open_is deeper (room_is m.depth low) (e.goes_on at) })
