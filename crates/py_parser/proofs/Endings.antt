-- How rows that have begun may go on to their end, so that the lines before a fault are those of some script.
use Rattle.std.proofs.Common.{◌≡◌, inl, inr, ℕ, ◌+◌, ◌<◌, ◌≤◌, suc, nat_le, Bool, true, false, ◌&&◌, ◌||◌, not, List, [], ◌∷◌, ◌++◌, Some, is_none, codes, refl, ap, sym, ◌∙◌, subst, arith, append_assoc, append-nil, le-leb, leb-true}
use Rattle.std.proofs.lemmas.Bool.{false≢true}
use Rattle.prov_base.specs.declared.place.Pos.{Pos}
use Rattle.py_lines.specs.declared.parts.Line.{Line}
use Rattle.py_lines.specs.declared.parts.Token.{Token}
use Rattle.py_grammar.specs.declared.context.Last.{Last}
use Rattle.py_grammar.specs.declared.context.Last.TheVariants.{Nothing, Loop, If, Try, Handler, Every}
use Rattle.py_expressions.specs.Concrete.{Spot}
use Rattle.py_expressions.specs.Tokens.{keyword}
use Rattle.py_grammar.specs.Written.{pass, every_kind}
use Rattle.py_grammar.specs.StatementTokens.{simple_tokens}
use Rattle.py_grammar.specs.LineReader.{Head, simple_head, except_head, head_tokens}
use Rattle.py_grammar.specs.Layout.{IsLine}
use Rattle.py_grammar.specs.ParsedHead.{takes_handler, lacks_handler, head_stands, head_depth, head_lies, behind_in, del_name}
use Rattle.py_grammar.specs.Limits.{Limits, profile}
use Rattle.py_parser.specs.Faults.{Said, LiesSaid, IsLow, Opens, GoesOnWith, Point, at_token, at_end, at_line, below, no_line, tokens_before, Next, IsAt, IsPass, IsPassBefore, IsHandler}
use Rattle.py_parser.specs.Rows.{Rows, end_rows, row, Under, nothing, block, rows_lines, under_lines, Level, is_every, counted, opens, last_after, after, inside, follows, Leads, FitsUnder, FitsRows, may, rows_may, under_may, rows_stand, under_stand, rows_size, under_size}
use Rattle.py_parser.specs.Grouped.{no_spot}
use Rattle.py_parser.specs.ParsedBlocks.{wide, RowsBegin, UnderBegins, RowsWithin, UnderWithin, RowsGoOn, UnderGoesOn, RowsFollow, UnderFollows}
use Rattle.py_parser.proofs.Peeled.{join}
use Rattle.py_parser.proofs.RowLimits.{both, first, second, all_three, all_four, three_of, four_of}

-- ---- the shortest end of a suite

abbrev pub pass_at : Spot → Head
pass_at spot = simple_head (pass spot)

abbrev pub pass_head : Head
pass_head = pass_at no_spot

abbrev handler : Head
handler = except_head no_spot every_kind no_spot (Some (pass no_spot))

abbrev pub line_of : ℕ → Head → Line
line_of indent h = record { indent = indent; span = record { from = 0; to = 0 }; tokens = head_tokens h }

abbrev ending_by : (lacks has_stmt : Bool) → ℕ → Rows
ending_by true has_stmt indent = row (line_of indent handler) handler nothing end_rows
ending_by false true indent = end_rows
ending_by false false indent = row (line_of indent pass_head) pass_head nothing end_rows

abbrev pub ending : Level → Rows
ending l = ending_by (lacks_handler l.context.last) l.has_stmt l.indent

takes_there : (last : Last) → lacks_handler last ≡ true → (takes_handler last || is_every last) ≡ true
takes_there Nothing is = absurd (false≢true is)
takes_there Loop is = absurd (false≢true is)
takes_there If is = absurd (false≢true is)
takes_there Try is = refl
takes_there Handler is = absurd (false≢true is)
takes_there Every is = absurd (false≢true is)

or_true : (b : Bool) → ((b || true) && true) ≡ true
or_true true = refl
or_true false = refl

fine : (b : Bool) → b ≡ false → not b ≡ true
fine true is = absurd (false≢true (sym is))
fine false is = refl

pub ending_fits : (l : Level) → FitsRows l (ending l)
ending_fits l = by (lacks_handler l.context.last) refl l.has_stmt refl
  where
    done : (a b : Bool) → a ≡ true → b ≡ false → (a && not b) ≡ true
    done true false one other = refl
    done true true one other = absurd (false≢true (sym other))
    done false b one other = absurd (false≢true one)

    by : (lacks : Bool) → lacks_handler l.context.last ≡ lacks → (has : Bool) → l.has_stmt ≡ has → FitsRows l (ending_by lacks has l.indent)
    by true lacks has is = (record { indent_is = refl; tokens_are = refl }, takes_there l.context.last lacks, refl, or_true l.has_stmt)
    by false lacks true is = done l.has_stmt (lacks_handler l.context.last) is lacks
    by false lacks false is = (record { indent_is = refl; tokens_are = refl }, fine (lacks_handler l.context.last) lacks, refl, or_true l.has_stmt)

-- ---- rows behind rows

pub join_lines : (a b : Rows) → rows_lines (join a b) ≡ rows_lines a ++ rows_lines b
join_lines end_rows b = refl
join_lines (row line h under rest) b = ap (λ ls. line ∷ under_lines under ++ ls) (join_lines rest b) ∙ ap (λ ls. line ∷ ls) (sym (append_assoc (under_lines under) (rows_lines rest) (rows_lines b)))

pub join_fits : (l m : Level) (a b : Rows) → Leads l a m → FitsRows m b → FitsRows l (join a b)
join_fits l m end_rows b leads fits = subst (λ (k : Level). FitsRows k b) leads fits
join_fits l m (row line h under rest) b leads fits = (leads.0, leads.1, leads.2, join_fits (after l h) m rest b leads.3 fits)

-- ---- what may stand there, of any depth and number

takes_handler_there : (last : Last) → lacks_handler last ≡ true → takes_handler last ≡ true
takes_handler_there Nothing is = absurd (false≢true is)
takes_handler_there Loop is = absurd (false≢true is)
takes_handler_there If is = absurd (false≢true is)
takes_handler_there Try is = refl
takes_handler_there Handler is = refl
takes_handler_there Every is = absurd (false≢true is)

handler_stands : (l : Level) → lacks_handler l.context.last ≡ true → head_stands l.context l.given handler ≡ true
handler_stands l lacks = both (takes_handler l.context.last) true (takes_handler_there l.context.last lacks) refl

pass_stands : (spot : Spot) (l : Level) → lacks_handler l.context.last ≡ false → head_stands l.context l.given (pass_at spot) ≡ true
pass_stands spot l lacks = both _ _ (fine (lacks_handler l.context.last) lacks) (or_true (not l.context.around.in_class))

ending_stands : (l : Level) → rows_stand l (ending l) ≡ true
ending_stands l = by (lacks_handler l.context.last) refl l.has_stmt
  where
    by : (lacks : Bool) → lacks_handler l.context.last ≡ lacks → (has : Bool) → rows_stand l (ending_by lacks has l.indent) ≡ true
    by true lacks has = all_three (head_stands l.context l.given handler) true true (handler_stands l lacks) refl refl
    by false lacks true = refl
    by false lacks false = all_three (head_stands l.context l.given pass_head) true true (pass_stands no_spot l lacks) refl refl

join_stands : (l m : Level) (a b : Rows) → Leads l a m → rows_stand l a ≡ true → rows_stand m b ≡ true → rows_stand l (join a b) ≡ true
join_stands l m end_rows b leads one other = subst (λ (k : Level). rows_stand k b ≡ true) leads other
join_stands l m (row line h under rest) b leads one other =
    let p = three_of (head_stands l.context l.given h) (under_stand l h under) _ one in
    all_three (head_stands l.context l.given h) _ _ p.one p.two (join_stands (after l h) m rest b leads.3 p.three other)

-- ---- what stands next

opens_more : (so : (Pos → ℕ) → List Token → Type 0) (indent : ℕ) (tokens : List Token) (x y : List Line) → Opens so indent tokens x → Opens so indent tokens (x ++ y)
opens_more so indent tokens [] y is = absurd is
opens_more so indent tokens (line ∷ x) y is = is

goes_more : (said : Said) (indent : ℕ) (tokens : List Token) (x y : List Line) → GoesOnWith said indent tokens x → GoesOnWith said indent tokens (x ++ y)
goes_more said indent [] x y is = tt
goes_more said indent (f ∷ fs) x y (inl is) = inl (opens_more (LiesSaid said (f ∷ fs)) indent (f ∷ fs) x y is)
goes_more said indent (f ∷ fs) x y (inr (inl d)) =
    inr (inl (record { opened = d.opened; spot = d.spot; opens = opens_more IsLow indent (d.opened ++ simple_tokens (del_name d.spot)) x y d.opens; inside = d.inside; begins = d.begins; spot_is = d.spot_is; tokens_are = d.tokens_are }))
goes_more said indent (f ∷ fs) x y (inr (inr d)) =
    inr (inr (record { spot = d.spot; opens = opens_more IsLow indent (keyword (codes "for") d.spot) x y d.opens; inside = d.inside; begins = d.begins; tokens_are = d.tokens_are }))

next_more : (said : Said) (p : Point) (x y : List Line) → Next said p x → Next said p (x ++ y)
next_more said (at_token indent tokens t) x y is = goes_more said indent tokens x y is
next_more said (at_end indent tokens) x y is = goes_more said indent tokens x y is
next_more said (at_line indent) x y is = tt
next_more said (below indent) x y is = tt
next_more said no_line x y is = tt

pub next_here : (said : Said) (p : Point) (x : List Line) → tokens_before p ≡ [] → Next said p x
next_here said (at_token indent [] t) x is = tt
next_here said (at_token indent (f ∷ fs) t) x is = cc
next_here said (at_end indent []) x is = tt
next_here said (at_end indent (f ∷ fs)) x is = cc
next_here said (at_line indent) x is = tt
next_here said (below indent) x is = tt
next_here said no_line x is = tt

-- ---- where rows begin so

pub begins_here : {said : Said} (m : Level) (p : Point) → tokens_before p ≡ [] → RowsBegin said m [] p
begins_here m p is = record { rows = ending m; fits = ending_fits m; more = rows_lines (ending m); lines_are = refl; next = next_here _ p (rows_lines (ending m)) is; stands = ending_stands m }

abbrev under_by : Bool → Level → Head → Under
under_by true m h = block (suc m.indent) (ending (inside m h (suc m.indent)))
under_by false m h = nothing

under_fits : (m : Level) (h : Head) → FitsUnder m h (under_by (opens h) m h)
under_fits m h = by (opens h) refl
  where
    by : (b : Bool) → opens h ≡ b → FitsUnder m h (under_by b m h)
    by true is = (is, omega arith, ending_fits (inside m h (suc m.indent)))
    by false is = is

under_stands : (m : Level) (h : Head) → under_stand m h (under_by (opens h) m h) ≡ true
under_stands m h = by (opens h)
  where
    by : (b : Bool) → under_stand m h (under_by b m h) ≡ true
    by true = ending_stands (inside m h (suc m.indent))
    by false = refl

-- a line that begins with these tokens
pub begins_line : {said : Said} (m : Level) (h : Head) (tokens rest : List Token) (p : Point) → head_tokens h ≡ tokens ++ rest → follows m h ≡ true → head_stands m.context m.given h ≡ true → (so : (Pos → ℕ) → List Token → Type 0)
    → so (head_lies h) rest → ((x : List Line) → Opens so m.indent tokens x → Next said p x) → RowsBegin said m [] p
begins_line m h tokens rest p is may_follow may_stand so lies_so next = record {
  rows = row (line_of m.indent h) h (under_by (opens h) m h) (ending (after m h));
  fits = (record { indent_is = refl; tokens_are = refl }, may_follow, under_fits m h, ending_fits (after m h));
  more = line_of m.indent h ∷ under_lines (under_by (opens h) m h) ++ rows_lines (ending (after m h));
  lines_are = refl;
  next = next (line_of m.indent h ∷ under_lines (under_by (opens h) m h) ++ rows_lines (ending (after m h))) (refl, record { head = h; line_is = refl; more = rest; tokens_are = is; lies_so = lies_so });
  stands = all_three (head_stands m.context m.given h) _ _ may_stand (under_stands m h) (ending_stands (after m h));
}

pub begins_behind : {said : Said} (l m : Level) (rows : Rows) (front : List Line) (p : Point) → Leads l rows m → rows_stand l rows ≡ true → RowsBegin said m front p → RowsBegin said l (rows_lines rows ++ front) p
begins_behind l m rows front p leads standing b = record {
  rows = join rows b.rows;
  fits = join_fits l m rows b.rows leads b.fits;
  more = b.more;
  lines_are = join_lines rows b.rows ∙ ap (λ ls. rows_lines rows ++ ls) b.lines_are ∙ sym (append_assoc (rows_lines rows) front b.more);
  next = b.next;
  stands = join_stands l m rows b.rows leads standing b.stands;
}

pub begins_end : {said : Said} (l m : Level) (rows : Rows) (p : Point) → Leads l rows m → rows_stand l rows ≡ true → RowsBegin said m [] p → RowsBegin said l (rows_lines rows) p
begins_end {said} l m rows p leads standing b = subst (λ ls. RowsBegin said l ls p) (append-nil (rows_lines rows)) (begins_behind l m rows [] p leads standing b)

pub begins_under : {said : Said} (m : Level) (h : Head) (line : Line) (front : List Line) (p : Point) → IsLine line m.indent (head_tokens h) → follows m h ≡ true → head_stands m.context m.given h ≡ true → UnderBegins said m h front p → RowsBegin said m (line ∷ front) p
begins_under m h line front p is may_follow may_stand b = record {
  rows = row line h b.under (ending (after m h));
  fits = (is, may_follow, b.fits, ending_fits (after m h));
  more = b.more ++ rows_lines (ending (after m h));
  lines_are = ap (λ ls. line ∷ ls ++ rows_lines (ending (after m h))) b.lines_are ∙ ap (λ ls. line ∷ ls) (append_assoc front b.more (rows_lines (ending (after m h))));
  next = next_more _ p b.more (rows_lines (ending (after m h))) b.next;
  stands = all_three (head_stands m.context m.given h) _ _ may_stand b.stands (ending_stands (after m h));
}

pub begins_inside : {said : Said} (m : Level) (h : Head) (k : ℕ) (front : List Line) (p : Point) → opens h ≡ true → m.indent < k → RowsBegin said (inside m h k) front p → UnderBegins said m h front p
begins_inside m h k front p open_is deeper b = record { under = block k b.rows; fits = (open_is, deeper, b.fits); more = b.more; lines_are = b.lines_are; next = b.next; stands = b.stands }

pub begins_suite : {said : Said} (m : Level) (h : Head) (p : Point) → opens h ≡ true → tokens_before p ≡ [] → UnderBegins said m h [] p
begins_suite m h p open_is is = begins_inside m h (suc m.indent) [] p open_is (omega arith) (begins_here (inside m h (suc m.indent)) p is)

-- ---- what may stand there

-- what keeps the limits keeps wider ones
wider : (s : ℕ) (a : Bool) (d : ℕ) → 50 ≤ s → (a || nat_le (suc d) 50) ≡ true → (a || nat_le (suc d) s) ≡ true
wider s true d more is = refl
wider s false d more is = let low = leb-true (suc d) 50 is in le-leb (suc d) s (omega (arith, low, more))

pub may_wide : (s : ℕ) (l : Level) (n : ℕ) (h : Head) (k : ℕ) → 50 ≤ s → may profile l n h ≡ true → n + counted h ≤ k → may (wide s k) l n h ≡ true
may_wide s l n h k more is room =
    let p = four_of (head_stands l.context l.given h) (nat_le (head_depth h) 100) (nat_le (n + counted h) 20000) (is_none (behind_in h) || nat_le (suc l.depth) 50) is in
    all_four (head_stands l.context l.given h) (nat_le (head_depth h) 100) (nat_le (n + counted h) k) _ p.one p.two (le-leb (n + counted h) k room) (wider s (is_none (behind_in h)) l.depth more p.four)

mutual
  pub rows_wide : (s : ℕ) (l : Level) (n : ℕ) (rows : Rows) (k : ℕ) → 50 ≤ s → rows_may profile l n rows ≡ true → n + rows_size rows ≤ k → rows_may (wide s k) l n rows ≡ true
  rows_wide s l n end_rows k more is room = refl
  rows_wide s l n (row line h under rest) k more is room =
      let p = three_of (may profile l n h) (under_may profile l (n + counted h) h under) _ is in
      all_three (may (wide s k) l n h) _ _ (may_wide s l n h k more p.one (omega (arith, room))) (under_wide s l (n + counted h) h under k more p.two (omega (arith, room)))
      (rows_wide s (after l h) (n + counted h + under_size under) rest k more p.three (omega (arith, room)))

  under_wide : (s : ℕ) (l : Level) (n : ℕ) (h : Head) (under : Under) (k : ℕ) → 50 ≤ s → under_may profile l n h under ≡ true → n + under_size under ≤ k → under_may (wide s k) l n h under ≡ true
  under_wide s l n h nothing k more is room = refl
  under_wide s l n h (block indent rows) k more is room =
      let low = leb-true (suc l.depth) 50 (first (nat_le (suc l.depth) 50) _ is) in
      both _ _ (le-leb (suc l.depth) s (omega (arith, low, more))) (rows_wide s (inside l h indent) n rows k more (second (nat_le (suc l.depth) 50) _ is) room)

pub join_may : (q : Limits) (l m : Level) (n : ℕ) (a b : Rows) → Leads l a m → rows_may q l n a ≡ true → rows_may q m (n + rows_size a) b ≡ true → rows_may q l n (join a b) ≡ true
join_may q l m n end_rows b leads one other = subst (λ (k : Level). rows_may q k n b ≡ true) leads (subst (λ j. rows_may q m j b ≡ true) (omega arith) other)
join_may q l m n (row line h under rest) b leads one other =
    let p = three_of (may q l n h) (under_may q l (n + counted h) h under) _ one in
    all_three (may q l n h) _ _ p.one p.two (join_may q (after l h) m (n + counted h + under_size under) rest b leads.3 p.three (subst (λ j. rows_may q m j b ≡ true) (omega arith) other))

pub join_size : (a b : Rows) → rows_size (join a b) ≡ rows_size a + rows_size b
join_size end_rows b = omega arith
join_size (row line h under rest) b = let more = join_size rest b in omega (arith, more)

handler_may : (s : ℕ) (l : Level) (n k : ℕ) → lacks_handler l.context.last ≡ true → suc l.depth ≤ s → n + 1 ≤ k → may (wide s k) l n handler ≡ true
handler_may s l n k lacks deep room =
    all_four (takes_handler l.context.last && true) true (nat_le (n + 1) k) (nat_le (suc l.depth) s) (handler_stands l lacks) refl (le-leb (n + 1) k room) (le-leb (suc l.depth) s deep)

pass_may : (s : ℕ) (spot : Spot) (l : Level) (n k : ℕ) → lacks_handler l.context.last ≡ false → n + 1 ≤ k → may (wide s k) l n (pass_at spot) ≡ true
pass_may s spot l n k lacks room =
    all_four (head_stands l.context l.given (pass_at spot)) true (nat_le (n + 1) k) true (pass_stands spot l lacks) refl (le-leb (n + 1) k room) refl

pub ending_may : (s : ℕ) (l : Level) (n k : ℕ) → (lacks_handler l.context.last ≡ true → suc l.depth ≤ s) → n + rows_size (ending l) ≤ k → rows_may (wide s k) l n (ending l) ≡ true
ending_may s l n k deep room = by (lacks_handler l.context.last) refl l.has_stmt refl room
  where
    by : (lacks : Bool) → lacks_handler l.context.last ≡ lacks → (has : Bool) → l.has_stmt ≡ has → n + rows_size (ending_by lacks has l.indent) ≤ k → rows_may (wide s k) l n (ending_by lacks has l.indent) ≡ true
    by true lacks has is room = all_three (may (wide s k) l n handler) true true (handler_may s l n k lacks (deep lacks) (omega (arith, room))) refl refl
    by false lacks true is room = refl
    by false lacks false is room = all_three (may (wide s k) l n pass_head) true true (pass_may s no_spot l n k lacks (omega (arith, room))) refl refl

-- ---- a line that stands next

one_wider : (d : ℕ) → d ≤ 50 → suc d ≤ 51
one_wider d is = omega (arith, is)

abbrev handled : Level → Rows
handled l = row (line_of l.indent handler) handler nothing end_rows

abbrev pub passed_at : Spot → Level → Rows
passed_at spot l = row (line_of l.indent (pass_at spot)) (pass_at spot) nothing end_rows

abbrev passed : Level → Rows
passed l = passed_at no_spot l

handled_fits : (l : Level) → lacks_handler l.context.last ≡ true → FitsRows l (handled l)
handled_fits l lacks = (record { indent_is = refl; tokens_are = refl }, takes_there l.context.last lacks, refl, or_true l.has_stmt)

pub passed_fits : (spot : Spot) (l : Level) → lacks_handler l.context.last ≡ false → FitsRows l (passed_at spot l)
passed_fits spot l lacks = (record { indent_is = refl; tokens_are = refl }, fine (lacks_handler l.context.last) lacks, refl, or_true l.has_stmt)

handled_may : (l : Level) (n : ℕ) → l.depth ≤ 50 → lacks_handler l.context.last ≡ true → (k : ℕ) → n + rows_size (handled l) ≤ k → rows_may (wide 51 k) l n (handled l) ≡ true
handled_may l n deep lacks k room = all_three (may (wide 51 k) l n handler) true true (handler_may 51 l n k lacks (one_wider l.depth deep) (omega (arith, room))) refl refl

pub passed_may : (s : ℕ) (spot : Spot) (l : Level) (n : ℕ) → lacks_handler l.context.last ≡ false → (k : ℕ) → n + rows_size (passed_at spot l) ≤ k → rows_may (wide s k) l n (passed_at spot l) ≡ true
passed_may s spot l n lacks k room = all_three (may (wide s k) l n (pass_at spot)) true true (pass_may s spot l n k lacks (omega (arith, room))) refl refl

pub handler_next : (m : Level) (n : ℕ) → m.depth ≤ 50 → lacks_handler m.context.last ≡ true → RowsGoOn m n IsHandler []
handler_next m n deep lacks = record {
  rows = handled m;
  fits = handled_fits m lacks;
  may_be = handled_may m n deep lacks;
  line = line_of m.indent handler;
  more = [];
  lines_are = refl;
  line_is = record { at = no_spot; more = _; tokens_are = refl };
}

pub pass_next : (m : Level) (n d : ℕ) → lacks_handler m.context.last ≡ false → d ≤ m.indent → RowsGoOn m n (IsPass d) []
pass_next m n d lacks low = record {
  rows = passed m;
  fits = passed_fits no_spot m lacks;
  may_be = passed_may 51 no_spot m n lacks;
  line = line_of m.indent pass_head;
  more = [];
  lines_are = refl;
  line_is = (low, record { at = no_spot; more = []; tokens_are = refl });
}

pub pass_before : (m : Level) (n d : ℕ) → lacks_handler m.context.last ≡ false → m.indent < d → RowsGoOn m n (IsPassBefore d) []
pass_before m n d lacks less = record {
  rows = passed m;
  fits = passed_fits no_spot m lacks;
  may_be = passed_may 51 no_spot m n lacks;
  line = line_of m.indent pass_head;
  more = [];
  lines_are = refl;
  line_is = (less, record { at = no_spot; more = []; tokens_are = refl });
}

-- a line at this level: a handler where one is missing, and else `pass`
pub line_next : (m : Level) (n : ℕ) → ((lacks_handler m.context.last ≡ true) → m.depth ≤ 50) → RowsGoOn m n (IsAt m.indent) []
line_next m n deep = by (lacks_handler m.context.last) refl
  where
    by : (b : Bool) → lacks_handler m.context.last ≡ b → RowsGoOn m n (IsAt m.indent) []
    by true lacks = record { rows = handled m; fits = handled_fits m lacks; may_be = handled_may m n (deep lacks) lacks; line = line_of m.indent handler; more = []; lines_are = refl; line_is = refl }
    by false lacks = record { rows = passed m; fits = passed_fits no_spot m lacks; may_be = passed_may 51 no_spot m n lacks; line = line_of m.indent pass_head; more = []; lines_are = refl; line_is = refl }

pub within_behind : (s : ℕ) (l m : Level) (n : ℕ) (rows : Rows) (is : Line → Type 0) (front : List Line) → 50 ≤ s → Leads l rows m → rows_may profile l n rows ≡ true → RowsWithin s m (n + rows_size rows) is front → RowsWithin s l n is (rows_lines rows ++ front)
within_behind s l m n rows is front low leads may_be g = record {
  rows = join rows g.rows;
  fits = join_fits l m rows g.rows leads g.fits;
  may_be = may_now;
  line = g.line;
  more = g.more;
  lines_are = join_lines rows g.rows ∙ ap (λ ls. rows_lines rows ++ ls) g.lines_are ∙ sym (append_assoc (rows_lines rows) front (g.line ∷ g.more));
  line_is = g.line_is;
}
  where
    may_now : (k : ℕ) → n + rows_size (join rows g.rows) ≤ k → rows_may (wide s k) l n (join rows g.rows) ≡ true
    may_now k room =
        let size = join_size rows g.rows in
        join_may (wide s k) l m n rows g.rows leads (rows_wide s l n rows k low may_be (omega (arith, size, room))) (g.may_be k (omega (arith, size, room)))

pub within_under : (s : ℕ) (m : Level) (n : ℕ) (h : Head) (line : Line) (is : Line → Type 0) (front : List Line) → 50 ≤ s → IsLine line m.indent (head_tokens h) → follows m h ≡ true → may profile m n h ≡ true → (lacks_handler (last_after h) ≡ true → suc m.depth ≤ s)
    → UnderWithin s m (n + counted h) h is front → RowsWithin s m n is (line ∷ front)
within_under s m n h line is front low this may_follow may_be deep g = record {
  rows = row line h g.under (ending (after m h));
  fits = (this, may_follow, g.fits, ending_fits (after m h));
  may_be = λ k room. all_three (may (wide s k) m n h) _ _ (may_wide s m n h k low may_be (omega (arith, room))) (g.may_be k (omega (arith, room))) (ending_may s (after m h) (n + counted h + under_size g.under) k deep (omega (arith, room)));
  line = g.line;
  more = g.more ++ rows_lines (ending (after m h));
  lines_are = ap (λ ls. line ∷ ls ++ rows_lines (ending (after m h))) g.lines_are ∙ ap (λ ls. line ∷ ls) (append_assoc front (g.line ∷ g.more) (rows_lines (ending (after m h))));
  line_is = g.line_is;
}

pub within_inside : (s : ℕ) (m : Level) (n : ℕ) (h : Head) (d : ℕ) (is : Line → Type 0) (front : List Line) → opens h ≡ true → m.indent < d → suc m.depth ≤ s → RowsWithin s (inside m h d) n is front → UnderWithin s m n h is front
within_inside s m n h d is front open_is deeper deep g = record {
  under = block d g.rows;
  fits = (open_is, deeper, g.fits);
  may_be = λ k room. both (nat_le (suc m.depth) s) _ (le-leb (suc m.depth) s deep) (g.may_be k room);
  line = g.line;
  more = g.more;
  lines_are = g.lines_are;
  line_is = g.line_is;
}

pub goes_behind : (l m : Level) (n : ℕ) (rows : Rows) (is : Line → Type 0) (front : List Line) → Leads l rows m → rows_may profile l n rows ≡ true → RowsGoOn m (n + rows_size rows) is front → RowsGoOn l n is (rows_lines rows ++ front)
goes_behind l m n rows is front leads may_be g = within_behind 51 l m n rows is front (omega arith) leads may_be g

pub goes_end : (l m : Level) (n : ℕ) (rows : Rows) (is : Line → Type 0) → Leads l rows m → rows_may profile l n rows ≡ true → RowsGoOn m (n + rows_size rows) is [] → RowsGoOn l n is (rows_lines rows)
goes_end l m n rows is leads may_be g = subst (RowsGoOn l n is) (append-nil (rows_lines rows)) (goes_behind l m n rows is [] leads may_be g)

pub goes_under : (m : Level) (n : ℕ) (h : Head) (line : Line) (is : Line → Type 0) (front : List Line) → IsLine line m.indent (head_tokens h) → follows m h ≡ true → may profile m n h ≡ true → m.depth ≤ 50 → UnderGoesOn m (n + counted h) h is front
    → RowsGoOn m n is (line ∷ front)
goes_under m n h line is front this may_follow may_be deep g = within_under 51 m n h line is front (omega arith) this may_follow may_be (λ lacks. one_wider m.depth deep) g

pub goes_inside : (m : Level) (n : ℕ) (h : Head) (d : ℕ) (is : Line → Type 0) (front : List Line) → opens h ≡ true → m.indent < d → m.depth ≤ 50 → RowsGoOn (inside m h d) n is front → UnderGoesOn m n h is front
goes_inside m n h d is front open_is deeper deep g = within_inside 51 m n h d is front open_is deeper (one_wider m.depth deep) g

-- ---- what follows, of any depth and number

pub follows_behind : (l m : Level) (rows : Rows) (is : Line → Type 0) (front : List Line) → Leads l rows m → rows_stand l rows ≡ true → RowsFollow m is front → RowsFollow l is (rows_lines rows ++ front)
follows_behind l m rows is front leads standing g = record {
  rows = join rows g.rows;
  fits = join_fits l m rows g.rows leads g.fits;
  line = g.line;
  more = g.more;
  lines_are = join_lines rows g.rows ∙ ap (λ ls. rows_lines rows ++ ls) g.lines_are ∙ sym (append_assoc (rows_lines rows) front (g.line ∷ g.more));
  line_is = g.line_is;
  stands = join_stands l m rows g.rows leads standing g.stands;
}

pub follows_under : (m : Level) (h : Head) (line : Line) (is : Line → Type 0) (front : List Line) → IsLine line m.indent (head_tokens h) → follows m h ≡ true → head_stands m.context m.given h ≡ true → UnderFollows m h is front → RowsFollow m is (line ∷ front)
follows_under m h line is front this may_follow may_stand g = record {
  rows = row line h g.under (ending (after m h));
  fits = (this, may_follow, g.fits, ending_fits (after m h));
  line = g.line;
  more = g.more ++ rows_lines (ending (after m h));
  lines_are = ap (λ ls. line ∷ ls ++ rows_lines (ending (after m h))) g.lines_are ∙ ap (λ ls. line ∷ ls) (append_assoc front (g.line ∷ g.more) (rows_lines (ending (after m h))));
  line_is = g.line_is;
  stands = all_three (head_stands m.context m.given h) _ _ may_stand g.stands (ending_stands (after m h));
}

pub follows_inside : (m : Level) (h : Head) (d : ℕ) (is : Line → Type 0) (front : List Line) → opens h ≡ true → m.indent < d → RowsFollow (inside m h d) is front → UnderFollows m h is front
follows_inside m h d is front open_is deeper g = record { under = block d g.rows; fits = (open_is, deeper, g.fits); line = g.line; more = g.more; lines_are = g.lines_are; line_is = g.line_is; stands = g.stands }

-- a line that begins this
pub follows_line : (m : Level) (h : Head) (is : Line → Type 0) → follows m h ≡ true → head_stands m.context m.given h ≡ true → is (line_of m.indent h) → RowsFollow m is []
follows_line m h is may_follow may_stand so = record {
  rows = row (line_of m.indent h) h (under_by (opens h) m h) (ending (after m h));
  fits = (record { indent_is = refl; tokens_are = refl }, may_follow, under_fits m h, ending_fits (after m h));
  line = line_of m.indent h;
  more = under_lines (under_by (opens h) m h) ++ rows_lines (ending (after m h));
  lines_are = refl;
  line_is = so;
  stands = all_three (head_stands m.context m.given h) _ _ may_stand (under_stands m h) (ending_stands (after m h));
}

-- the statement `pass`
pub follows_pass : (m : Level) (is : Line → Type 0) → lacks_handler m.context.last ≡ false → is (line_of m.indent pass_head) → RowsFollow m is []
follows_pass m is lacks so = record { rows = passed m; fits = passed_fits no_spot m lacks; line = line_of m.indent pass_head; more = []; lines_are = refl; line_is = so; stands = all_three (head_stands m.context m.given pass_head) true true (pass_stands no_spot m lacks) refl refl }

-- a line that begins this, with its end within 50 suites
pub line_within : (m : Level) (n : ℕ) (h : Head) (is : Line → Type 0) → follows m h ≡ true → may profile m n h ≡ true → m.depth < 50 → is (line_of m.indent h) → RowsWithin 50 m n is []
line_within m n h is may_follow may_be low so = record {
  rows = row (line_of m.indent h) h (under_by (opens h) m h) (ending (after m h));
  fits = (record { indent_is = refl; tokens_are = refl }, may_follow, under_fits m h, ending_fits (after m h));
  may_be = λ k room. all_three (may (wide 50 k) m n h) (under_may (wide 50 k) m (n + counted h) h (under_by (opens h) m h)) _
      (may_wide 50 m n h k (omega arith) may_be (omega (arith, room)))
      (under_within (opens h) k (omega (arith, room)))
      (ending_may 50 (after m h) (n + counted h + under_size (under_by (opens h) m h)) k (λ lacks. omega (arith, low)) (omega (arith, room)));
  line = line_of m.indent h;
  more = under_lines (under_by (opens h) m h) ++ rows_lines (ending (after m h));
  lines_are = refl;
  line_is = so;
}
  where
    deep : suc m.depth ≤ 50
    deep = omega (arith, low)

    under_within : (b : Bool) (k : ℕ) → n + counted h + under_size (under_by b m h) ≤ k → under_may (wide 50 k) m (n + counted h) h (under_by b m h) ≡ true
    under_within true k room = both (nat_le (suc m.depth) 50) _ (le-leb (suc m.depth) 50 deep) (ending_may 50 (inside m h (suc m.indent)) (n + counted h) k (λ never. absurd (false≢true never)) room)
    under_within false k room = refl
