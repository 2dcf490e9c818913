-- Two faults of the same lines are shown behind the same lines.
use Rattle.std.proofs.Common.{◌≡◌, inl, inr, ◌⊎◌, ℕ, ◌+◌, ◌<◌, ◌≤◌, Bool, true, false, List, [], ◌∷◌, ◌++◌, refl, ap, sym, ◌∙◌, subst, arith, append_assoc, append-nil, codes, Option, Some, None, is_none, if◌then◌else◌}
use Rattle.std.proofs.lemmas.Bool.{false≢true}
use Rattle.prov_base.specs.declared.place.Pos.{Pos}
use Rattle.py_lines.specs.declared.parts.Line.{Line}
use Rattle.py_lines.specs.declared.parts.Token.{Token}
use Rattle.py_expressions.specs.Concrete.{Spot}
use Rattle.py_expressions.specs.Tokens.{keyword}
use Rattle.py_grammar.specs.Layout.{IsLine}
use Rattle.py_grammar.specs.LineReader.{Head}
use Rattle.py_grammar.specs.ParsedHead.{head_lies, behind_in}
use Rattle.py_grammar.specs.Written.{Simple, Script}
use Rattle.py_grammar.specs.Grammar.{script_lines, FitsScript}
use Rattle.py_grammar.specs.WellPlaced.{script_stands}
use Rattle.py_grammar.proofs.LineFirsts.{head_some}
use Rattle.py_grammar.proofs.LyingLines.{head_low}
use Rattle.py_parser.specs.declared.fault.ParseFault.{ParseFault}
use Rattle.py_parser.specs.declared.fault.ParseFault.TheVariants.{Unexpected, Unsupported, BadIndent, TooDeep, TooMany, Memory}
use Rattle.py_grammar.specs.Limits.{Limits, script_expr_depth, script_suites}
use Rattle.py_parser.specs.Faults.{Point, at_token, at_end, at_line, below, no_line, shows, Asks, names_limit, origin, BeginsSuite, StandsFor, FollowsWithin, MayFollow, MayStandAt, IsAt, IsPass, IsPassBefore, IsHandler, InColumn, IsDeepAt, Counts, IsOneMore, FirstFault}
use Rattle.py_parser.specs.Grouped.{no_spot}
use Rattle.py_parser.specs.Rows.{is_stmt, counted}
use Rattle.py_parser.proofs.PassedLimits.{Laws, counts_once, pass_counts}
use Rattle.py_parser.proofs.ScriptHeads.{own, own_fine, LowLine, line_low, line_head, kind_tells, opens_alone}

-- the lines before one fault are some of those before another
pub record Earlier (front other behind further : List Line) : Type 0 where
  pub line : Line
  pub between : List Line
  pub front_is : other ≡ front ++ line ∷ between
  pub behind_is : behind ≡ line ∷ (between ++ further)

first_same : (a b : Line) (x y : List Line) → a ∷ x ≡ b ∷ y → a ≡ b
first_same a b x y is = cc

rest_same : (a b : Line) (x y : List Line) → a ∷ x ≡ b ∷ y → x ≡ y
rest_same a b x y is = cc

pub compared : (a b x y : List Line) → a ++ x ≡ b ++ y → ((a ≡ b) × (x ≡ y)) ⊎ (Earlier a b x y ⊎ Earlier b a y x)
compared [] [] x y is = inl (refl, is)
compared [] (l ∷ b) x y is = inr (inl (record { line = l; between = b; front_is = refl; behind_is = is }))
compared (l ∷ a) [] x y is = inr (inr (record { line = l; between = a; front_is = refl; behind_is = sym is }))
compared (l ∷ a) (k ∷ b) x y is = by (compared a b x y (rest_same l k (a ++ x) (b ++ y) is))
  where
    one : l ≡ k
    one = first_same l k (a ++ x) (b ++ y) is

    by : ((a ≡ b) × (x ≡ y)) ⊎ (Earlier a b x y ⊎ Earlier b a y x) → (((l ∷ a) ≡ (k ∷ b)) × (x ≡ y)) ⊎ (Earlier (l ∷ a) (k ∷ b) x y ⊎ Earlier (k ∷ b) (l ∷ a) y x)
    by (inl same) = inl (ap (λ (e : Line). e ∷ a) one ∙ ap (λ (ls : List Line). k ∷ ls) same.0, same.1)
    by (inr (inl e)) = inr (inl (record { line = e.line; between = e.between; front_is = ap (λ (ls : List Line). k ∷ ls) e.front_is ∙ ap (λ (f : Line). f ∷ (a ++ e.line ∷ e.between)) (sym one); behind_is = e.behind_is }))
    by (inr (inr e)) = inr (inr (record { line = e.line; between = e.between; front_is = ap (λ (ls : List Line). l ∷ ls) e.front_is ∙ ap (λ (f : Line). f ∷ (b ++ e.line ∷ e.between)) one; behind_is = e.behind_is }))

-- what shows a fault is its first line
shows_first : (p : Point) (line : Line) (x y : List Line) → shows p (line ∷ x) → shows p (line ∷ y)
shows_first (at_token indent front t) line x y is = is
shows_first (at_end indent tokens) line x y is = is
shows_first (at_line indent) line x y is = is
shows_first (below indent) line x y is = is
shows_first no_line line x y is = is

no_asks : (fault : ParseFault) (q : Limits) → names_limit fault ≡ false → Asks fault q
no_asks (Unexpected place) q is = tt
no_asks (Unsupported place) q is = tt
no_asks (BadIndent place) q is = tt
no_asks (TooDeep place) q is = absurd (false≢true (sym is))
no_asks (TooMany place) q is = absurd (false≢true (sym is))
no_asks Memory q is = tt

-- a fault that names no limit is not shown before another
pub none_before : (lines : List Line) (a b : ParseFault) (f : FirstFault lines a) (g : FirstFault lines b) → names_limit a ≡ false → Earlier f.front g.front f.behind g.behind → ⊥
none_before lines a b f g none e =
    let s = g.begins origin in
    f.none (own s.some) (no_asks a (own s.some) none) s.some s.fits (own_fine s.some s.stands) (e.line ∷ (e.between ++ s.more))
    (shows_first f.point e.line (e.between ++ g.behind) (e.between ++ s.more) (subst (shows f.point) e.behind_is f.shown))
    (s.lines_are ∙ ap (λ ls. ls ++ s.more) e.front_is ∙ append_assoc f.front (e.line ∷ e.between) s.more)

-- ---- TooDeep is not shown before another fault

-- lines that are not none have a last one
pub record LastOf (line : Line) (lines : List Line) : Type 0 where
  pub before : List Line
  pub last : Line
  pub is : line ∷ lines ≡ before ++ last ∷ []
  pub where_it_is : ((before ≡ []) × (last ≡ line)) ⊎ ((rest : List Line) × (before ≡ line ∷ rest))

last_of : (line : Line) (lines : List Line) → LastOf line lines
last_of line [] = record { before = []; last = line; is = refl; where_it_is = inl (refl, refl) }
last_of line (other ∷ lines) =
    let more = last_of other lines in
    record { before = line ∷ more.before; last = more.last; is = ap (λ (ls : List Line). line ∷ ls) more.is; where_it_is = inr (more.before, refl) }

-- a script within the limits of depth that has the line where TooDeep is shown
has_none : (lines : List Line) (at : Pos) (f : FirstFault lines (TooDeep at)) (line : Line) (x behind : List Line) (s : Script) → FitsScript s → script_stands s ≡ true → script_expr_depth s ≤ 100 → script_suites s ≤ 50
    → shows f.point (line ∷ x) → script_lines s ≡ f.front ++ line ∷ behind → ⊥
has_none lines at f line x behind s fits stands low deep shown is = f.none (own s) (low, deep) s fits (own_fine s stands) (line ∷ behind) (shows_first f.point line x behind shown) is

-- What may still be: the line where it is shown is the last one before the other fault and begins a suite, and a script within the limits has `pass` in its place.
pub record SuiteLast (lines : List Line) (at : Pos) (f : FirstFault lines (TooDeep at)) (line : Line) : Type 0 where
  pub suite : BeginsSuite line
  pub goes_on : (spot : Spot) → FollowsWithin 50 (λ other. IsLine other line.indent (keyword (codes "pass") spot)) f.front

-- nothing else may be: no line that is the one where it is shown lies within the limits
pub deep_left : (lines : List Line) (at : Pos) (b : ParseFault) (f : FirstFault lines (TooDeep at)) (g : FirstFault lines b) → (e : Earlier f.front g.front f.behind g.behind) → SuiteLast lines at f e.line
deep_left lines at b f g e = by l.where_it_is
  where
    l : LastOf e.line e.between
    l = last_of e.line e.between

    front_is : g.front ≡ (f.front ++ l.before) ++ l.last ∷ []
    front_is = e.front_is ∙ ap (λ ls. f.front ++ ls) l.is ∙ sym (append_assoc f.front l.before (l.last ∷ []))

    shown : shows f.point (e.line ∷ (e.between ++ g.behind))
    shown = subst (shows f.point) e.behind_is f.shown

    by : ((l.before ≡ []) × (l.last ≡ e.line)) ⊎ ((rest : List Line) × (l.before ≡ e.line ∷ rest)) → SuiteLast lines at f e.line
    by (inr further) =
        let w = g.shallow (f.front ++ l.before) l.last no_spot front_is in
        absurd (has_none lines at f e.line (e.between ++ g.behind) (further.0 ++ w.line ∷ w.more) w.some w.fits w.stands w.low w.deep shown
        (w.lines_are ∙ ap (λ ls. (f.front ++ ls) ++ w.line ∷ w.more) further.1 ∙ append_assoc f.front (e.line ∷ further.0) (w.line ∷ w.more)))
    by (inl alone) = record { suite = (stands_for no_spot).0; goes_on = λ spot. (stands_for spot).1 }
      where
        follows_here : (spot : Spot) → FollowsWithin 50 (StandsFor spot e.line) f.front
        follows_here spot = subst (λ last. FollowsWithin 50 (StandsFor spot last) f.front) alone.1
            (subst (λ ls. FollowsWithin 50 (StandsFor spot l.last) ls) (ap (λ ls. f.front ++ ls) alone.0 ∙ append-nil f.front) (g.shallow (f.front ++ l.before) l.last spot front_is))

        stands_for : (spot : Spot) → BeginsSuite e.line × FollowsWithin 50 (λ other. IsLine other e.line.indent (keyword (codes "pass") spot)) f.front
        stands_for spot = this (follows_here spot)
          where
            this : FollowsWithin 50 (StandsFor spot e.line) f.front → BeginsSuite e.line × FollowsWithin 50 (λ other. IsLine other e.line.indent (keyword (codes "pass") spot)) f.front
            this w = so w.line_is
              where
                so : StandsFor spot e.line w.line → BeginsSuite e.line × FollowsWithin 50 (λ other. IsLine other e.line.indent (keyword (codes "pass") spot)) f.front
                so (inl same) = absurd (has_none lines at f e.line (e.between ++ g.behind) w.more w.some w.fits w.stands w.low w.deep shown (w.lines_are ∙ ap (λ (other : Line). f.front ++ other ∷ w.more) same))
                so (inr stood) = (stood.0, record { some = w.some; fits = w.fits; line = w.line; more = w.more; lines_are = w.lines_are; line_is = stood.1; stands = w.stands; low = w.low; deep = w.deep })

-- ---- a line that begins a suite

pub suite_left : Laws → (lines : List Line) (at : Pos) (f : FirstFault lines (TooDeep at)) (line : Line) (x : List Line) → shows f.point (line ∷ x) → LowLine line → SuiteLast lines at f line → ⊥
suite_left laws lines at f line x shown low s = by f.point shown f.limit
  where
    h : Head
    h = s.suite.head

    lies : (place : Pos) → 100 < head_lies h place → ⊥
    lies place high = let most = low h s.suite.tokens_are in let law = head_low h place in omega (arith, high, most, law)

    by : (p : Point) → shows p (line ∷ x) → IsDeepAt at f.front p → ⊥
    by (at_token indent tokens t) shown (inl deep) =
        lies at (deep.there h shown.1.more (sym s.suite.tokens_are ∙ shown.1.tokens_are))
    by (at_token indent [] t) shown (inr suite) =
        let w = s.goes_on suite.1.at in
        suite.1.none (own w.some) w.deep w.some w.fits (own_fine w.some w.stands) (w.line ∷ w.more) (w.line_is.indent_is ∙ shown.0, w.line_is.tokens_are) w.lines_are
    by (at_token indent (u ∷ us) t) shown (inr suite) =
        let g = suite.1.goes_on in
        let k = line_head g.some f.front g.line g.more g.fits g.lines_are in
        false≢true (sym (laws.behind k.head h (u ∷ us) t shown.1.more suite.1.at (not_none u us) (sym k.tokens_are ∙ g.line_is.tokens_are) (sym s.suite.tokens_are ∙ shown.1.tokens_are)) ∙ opens_alone h s.suite.opens_it)
      where
        not_none : (u : Token) (us : List Token) → u ∷ us ≡ [] → ⊥
        not_none u us is = cc
    by (at_end indent tokens) shown (none, passes) = head_some h (sym s.suite.tokens_are ∙ shown.1 ∙ none)
    by (at_line indent) shown limit = limit
    by (below indent) shown limit = limit
    by no_line shown limit = limit

-- some script within the limit of depth has the lines before a fault
pub record WithinHundred (front : List Line) : Type 0 where
  pub some : Script
  pub fits : FitsScript some
  pub more : List Line
  pub lines_are : script_lines some ≡ front ++ more
  pub stands : script_stands some ≡ true
  pub low : script_expr_depth some ≤ 100

hundred : (is : Line → Type 0) (front : List Line) → MayFollow is front → WithinHundred front
hundred is front m = record { some = m.some; fits = m.fits; more = m.line ∷ m.more; lines_are = m.lines_are; stands = m.stands; low = m.low }

may_hundred : (d : ℕ) (front : List Line) → MayStandAt d front → WithinHundred front
may_hundred d front (inl m) = hundred (IsAt d) front m
may_hundred d front (inr (o, m)) = hundred IsHandler front m

complete_hundred : (d : ℕ) (front : List Line) → MayFollow (IsPassBefore d) front ⊎ MayFollow IsHandler front → WithinHundred front
complete_hundred d front (inl m) = hundred (IsPassBefore d) front m
complete_hundred d front (inr m) = hundred IsHandler front m

column_hundred : (front : List Line) (p : Point) → InColumn front p → WithinHundred front
column_hundred front (at_token d tokens t) c = may_hundred d front c
column_hundred front (at_end d tokens) c = may_hundred d front c
column_hundred front (at_line d) c = complete_hundred d front c.complete
column_hundred front (below d) c = hundred (IsPass d) front c.0
column_hundred front no_line c = hundred IsHandler front c

-- TooDeep is not shown before another fault
pub deep_before : Laws → (lines : List Line) (at : Pos) (b : ParseFault) (f : FirstFault lines (TooDeep at)) (g : FirstFault lines b) → Earlier f.front g.front f.behind g.behind → ⊥
deep_before laws lines at b f g e =
    let w = column_hundred g.front g.point g.column in
    suite_left laws lines at f e.line (e.between ++ g.behind) (subst (shows f.point) e.behind_is f.shown)
    (line_low w.some f.front e.line (e.between ++ w.more) w.fits w.stands w.low (w.lines_are ∙ ap (λ ls. ls ++ w.more) e.front_is ∙ append_assoc f.front (e.line ∷ e.between) w.more))
    (deep_left lines at b f g e)

-- ---- TooMany is not shown before another fault

-- how many statements begin on the first lines and on the others
record CountsApart (n : ℕ) (a b : List Line) : Type 0 where
  front : ℕ
  behind : ℕ
  front_counts : Counts front a
  behind_counts : Counts behind b
  sum : n ≡ front + behind

counts_apart : (n : ℕ) (a b : List Line) → Counts n (a ++ b) → CountsApart n a b
counts_apart n [] b counts = record { front = 0; behind = n; front_counts = refl; behind_counts = counts; sum = omega arith }
counts_apart n (line ∷ a) b counts =
    let more = counts_apart counts.2 a b counts.4 in
    record {
      front = counted counts.0 + more.front;
      behind = more.behind;
      front_counts = (counts.0, counts.1, more.front, refl, more.front_counts);
      behind_counts = more.behind_counts;
      sum = let all = counts.3 in let part = more.sum in omega (arith, all, part);
    }

one_least : (is : Bool) (rest : ℕ) → is ≡ true → 1 ≤ (if is then 1 else 0) + rest
one_least true rest same = omega arith
one_least false rest same = absurd (false≢true same)

-- a line counts as many statements as the same with `pass` behind its `:`
as_many : (a b : Bool) (x y : Option Simple) → a ≡ b → is_none y ≡ false → (if a then 1 else 0) + (if is_none x then 0 else 1) ≤ (if b then 1 else 0) + (if is_none y then 0 else 1)
as_many true true None (Some s) same some = omega arith
as_many true true (Some r) (Some s) same some = omega arith
as_many false false None (Some s) same some = omega arith
as_many false false (Some r) (Some s) same some = omega arith
as_many true false x y same some = absurd (false≢true (sym same))
as_many false true x y same some = absurd (false≢true same)
as_many a b x None same some = absurd (false≢true (sym some))

pub many_before : Laws → (lines : List Line) (at : Pos) (b : ParseFault) (f : FirstFault lines (TooMany at)) (g : FirstFault lines b) → Earlier f.front g.front f.behind g.behind → ⊥
many_before laws lines at b f g e = by f.point (subst (shows f.point) e.behind_is f.shown) f.limit
  where
    all : CountsApart g.few.number f.front (e.line ∷ e.between)
    all = counts_apart g.few.number f.front (e.line ∷ e.between) (subst (Counts g.few.number) e.front_is g.few.counts)

    h : Head
    h = all.behind_counts.0

    over : (before next : ℕ) → before ≡ all.front → before + next ≡ 20001 → next ≤ counted h → ⊥
    over before next same full least =
        let sum = all.sum in
        let line = all.behind_counts.3 in
        let most = g.few.within in
        omega (arith, same, full, least, sum, line, most)

    by : (p : Point) → shows p (e.line ∷ (e.between ++ g.behind)) → IsOneMore f.front p → ⊥
    by (at_token indent [] t) shown one =
        let c = one.1 in
        let tokens = sym all.behind_counts.1 ∙ shown.1.tokens_are in
        let single = pass_counts c.next c.at c.next_is in
        over c.before (counted c.next) (counts_once c.before all.front f.front c.counts all.front_counts) c.number_is
        (let least = one_least (is_stmt h) (if is_none (behind_in h) then 0 else 1) (sym (kind_tells h t shown.1.more tokens) ∙ one.2) in omega (arith, single, least))
    by (at_token indent (u ∷ us) t) shown one =
        let c = one.1 in
        let tokens = sym all.behind_counts.1 ∙ shown.1.tokens_are in
        let same : is_stmt c.next ≡ is_stmt h = sym (kind_tells c.next u (us ++ keyword (codes "pass") c.at) c.next_is) ∙ kind_tells h u (us ++ t ∷ shown.1.more) tokens in
        over c.before (counted c.next) (counts_once c.before all.front f.front c.counts all.front_counts) c.number_is
        (as_many (is_stmt c.next) (is_stmt h) (behind_in c.next) (behind_in h) same (laws.behind c.next h (u ∷ us) t shown.1.more c.at (not_none u us) c.next_is tokens))
      where
        not_none : (u : Token) (us : List Token) → u ∷ us ≡ [] → ⊥
        not_none u us is = cc
    by (at_end indent tokens) shown one = one
    by (at_line indent) shown one = one
    by (below indent) shown one = one
    by no_line shown one = one

-- ---- none is shown before another

pub never_before : Laws → (lines : List Line) (a b : ParseFault) (f : FirstFault lines a) (g : FirstFault lines b) → Earlier f.front g.front f.behind g.behind → ⊥
never_before laws lines (TooDeep at) b f g e = deep_before laws lines at b f g e
never_before laws lines (TooMany at) b f g e = many_before laws lines at b f g e
never_before laws lines (Unexpected at) b f g e = none_before lines (Unexpected at) b f g refl e
never_before laws lines (Unsupported at) b f g e = none_before lines (Unsupported at) b f g refl e
never_before laws lines (BadIndent at) b f g e = none_before lines (BadIndent at) b f g refl e
never_before laws lines Memory b f g e = none_before lines Memory b f g refl e

-- two faults of the same lines are shown behind the same lines
pub same_front : Laws → (lines : List Line) (a b : ParseFault) (f : FirstFault lines a) (g : FirstFault lines b) → (f.front ≡ g.front) × (f.behind ≡ g.behind)
same_front laws lines a b f g = elim (compared f.front g.front f.behind g.behind (sym f.lines_are ∙ g.lines_are)) [
  | inl same ↦ same
  | inr other ↦ absurd (elim other [ inl e ↦ never_before laws lines a b f g e | inr e ↦ never_before laws lines b a g f e ])
]
