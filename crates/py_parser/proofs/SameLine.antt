-- Two faults that are shown on the same line are one.
use Rattle.std.proofs.Common.{◌≡◌, inl, inr, ◌⊎◌, ℕ, suc, ◌≤◌, ◌<◌, true, List, [], ◌∷◌, ◌++◌, refl, ap, sym, ◌∙◌, subst, arith, append_assoc}
use Rattle.std.specs.Prelude.{⊤, max}
use Rattle.std.proofs.lemmas.Bool.{false≢true}
use Rattle.prov_base.specs.declared.place.Pos.{Pos}
use Rattle.py_lines.specs.declared.parts.Line.{Line}
use Rattle.py_lines.specs.declared.parts.Token.{Token}
use Rattle.py_lines.specs.declared.parts.TokenKind.TheVariants.{Keyword}
use Rattle.refused_forms.specs.LineForms.{standing}
use Rattle.py_expressions.specs.declared.fault.Fault.TheVariants.{Unexpected as OnLine, TooDeep as DeepOnLine}
use Rattle.py_expressions.specs.Concrete.{Spot, Expr, Sum}
use Rattle.py_expressions.specs.Targets.{OneTarget}
use Rattle.py_expressions.specs.Tokens.{token, expr_tokens, sum_tokens}
use Rattle.py_expressions.specs.Lies.{IsApart, expr_lies, sum_lies}
use Rattle.py_grammar.specs.LineReader.{Head, head_tokens}
use Rattle.py_grammar.specs.ParsedHead.{head_lies, UnreadLine, passed_tokens, passed_lies, room_behind}
use Rattle.py_parser.specs.declared.fault.ParseFault.{ParseFault}
use Rattle.py_parser.specs.declared.fault.ParseFault.TheVariants.{Unexpected, Unsupported, BadIndent, TooDeep, TooMany, Memory}
use Rattle.py_parser.specs.Faults.{Point, at_token, at_end, at_line, below, no_line, shows, names, Asks, NamesLimit, names_limit, deep_place, Said, low_elsewhere, first_deep_at, LiesSaid, IsLow, BeginsScript, ReadsBehindDel, ReadsBehindFor, NoneWithin, few_suites, PassesLimit, KeepsNumber, PassesNone, begins_there, LiesDeep, KeepsOrder, InOrder, PassesNoneThere, ReadsNoFurther, ArePlacedApart}
use Rattle.py_parser.proofs.LineWalks.{Ahead, one_token, same_rest, two_cuts, LineOf, Past, past}
use Rattle.py_parser.proofs.ScriptHeads.{own, own_fine}
use Rattle.py_parser.proofs.PassedLimits.{Laws, not_many, no_suite_passed, no_number_passed}

-- ---- what is read behind `del` and `for` goes on with a token

-- an expression behind `del`
record ReadDel (inside : List Token) (t : Token) (said : (Pos → ℕ) → Type 0) : Type 0 where
  some : Expr
  more : List Token
  tokens_are : expr_tokens some ≡ inside ++ t ∷ more
  lies_so : said (expr_lies some)

-- targets and a sum behind `for`
record ReadFor (inside : List Token) (t : Token) (said : ℕ → (Pos → ℕ) → Type 0) : Type 0 where
  passed : List (OneTarget × Spot)
  some : Sum
  more : List Token
  tokens_are : passed_tokens passed ++ sum_tokens some ≡ inside ++ t ∷ more
  lies_so : said (room_behind 100 passed) (λ at. max (passed_lies passed at) (sum_lies some at))

-- what lies elsewhere does not lie too deep
abbrev Within : Pos → ℕ → (Pos → ℕ) → Type 0
Within at room lies = (other : Pos) → (other ≡ at → ⊥) → lies other ≤ room

low_del : (at : Pos) (spot : Spot) (inside : List Token) (t : Token) (between : List Token) → ReadsBehindDel (low_elsewhere at) (token (Keyword 12) spot ∷ inside ++ t ∷ between) → ReadDel inside t (Within at 100)
low_del at spot inside t between b = record {
  some = b.some;
  more = between ++ b.more;
  tokens_are = same_rest (token (Keyword 12) b.spot) (token (Keyword 12) spot) (expr_tokens b.some) ((inside ++ t ∷ between) ++ b.more) b.tokens_are ∙ append_assoc inside (t ∷ between) b.more;
  lies_so = b.within;
}

low_for : (at : Pos) (inside : List Token) (t : Token) (between : List Token) → ReadsBehindFor (low_elsewhere at) (inside ++ t ∷ between) → ReadFor inside t (Within at)
low_for at inside t between b = record {
  passed = b.passed;
  some = b.some;
  more = between ++ b.more;
  tokens_are = b.tokens_are ∙ append_assoc inside (t ∷ between) b.more;
  lies_so = b.within;
}

-- of what lies too deep the first begins at this place
record First (place : Pos) (tokens : List Token) (room : ℕ) (lies : Pos → ℕ) : Type 0 where
  ahead : List Token
  named : Token
  between : List Token
  tokens_are : tokens ≡ ahead ++ named ∷ between
  named_is : named.at ≡ place
  within : (other : Pos) → IsApart other (named ∷ between) → lies other ≤ room

deep_del : (place : Pos) (spot : Spot) (inside : List Token) (t : Token) (between : List Token) → ReadsBehindDel (first_deep_at place) (token (Keyword 12) spot ∷ inside ++ t ∷ between) → ReadDel inside t (First place (token (Keyword 12) spot ∷ inside ++ t ∷ between) 100)
deep_del place spot inside t between b = record {
  some = b.some;
  more = between ++ b.more;
  tokens_are = same_rest (token (Keyword 12) b.spot) (token (Keyword 12) spot) (expr_tokens b.some) ((inside ++ t ∷ between) ++ b.more) b.tokens_are ∙ append_assoc inside (t ∷ between) b.more;
  lies_so = record { ahead = b.ahead; named = b.named; between = b.between; tokens_are = b.front_is; named_is = b.named_is; within = b.within };
}

deep_for : (place : Pos) (inside : List Token) (t : Token) (between : List Token) → ReadsBehindFor (first_deep_at place) (inside ++ t ∷ between) → ReadFor inside t (First place (inside ++ t ∷ between))
deep_for place inside t between b = record {
  passed = b.passed;
  some = b.some;
  more = between ++ b.more;
  tokens_are = b.tokens_are ∙ append_assoc inside (t ∷ between) b.more;
  lies_so = record { ahead = b.ahead; named = b.named; between = b.between; tokens_are = b.front_is; named_is = b.named_is; within = b.within };
}

-- something is read, whatever is said of it
read_del : (said : Said) (spot : Spot) (inside : List Token) (t : Token) (between : List Token) → ReadsBehindDel said (token (Keyword 12) spot ∷ inside ++ t ∷ between) → ReadDel inside t (λ lies. ⊤)
read_del (low_elsewhere at) spot inside t between b = let r = low_del at spot inside t between b in record { some = r.some; more = r.more; tokens_are = r.tokens_are; lies_so = tt }
read_del (first_deep_at at) spot inside t between b = let r = deep_del at spot inside t between b in record { some = r.some; more = r.more; tokens_are = r.tokens_are; lies_so = tt }

read_for : (said : Said) (inside : List Token) (t : Token) (between : List Token) → ReadsBehindFor said (inside ++ t ∷ between) → ReadFor inside t (λ room lies. ⊤)
read_for (low_elsewhere at) inside t between b = let r = low_for at inside t between b in record { passed = r.passed; some = r.some; more = r.more; tokens_are = r.tokens_are; lies_so = tt }
read_for (first_deep_at at) inside t between b = let r = deep_for at inside t between b in record { passed = r.passed; some = r.some; more = r.more; tokens_are = r.tokens_are; lies_so = tt }

-- ---- what no script goes on with

-- no script goes on with this token, and nothing that is read behind `del` or `for`
record Never (front : List Line) (indent : ℕ) (before : List Token) (t : Token) : Type 0 where
  none : NoneWithin (λ q. ⊤) front (at_token indent before t)
  reads : UnreadLine before t (OnLine 0)

never_past : (said : Said) (front : List Line) (indent : ℕ) (before : List Token) (t : Token) (between : List Token) → Never front indent before t → Past said front indent before t between → ⊥
never_past said front indent before t between n past = by past
  where
    line : (so : (Pos → ℕ) → List Token → Type 0) → LineOf so front indent (before ++ t ∷ []) → ⊥
    line so l = n.none (own l.some) tt l.some l.fits (own_fine l.some l.stands) (l.line ∷ l.more)
        (l.indent_is, record { more = l.rest; tokens_are = l.line_is ∙ l.tokens_are ∙ append_assoc before (t ∷ []) l.rest }) l.lines_are

    by : Past said front indent before t between → ⊥
    by (inl l) = line (LiesSaid said (before ++ t ∷ between)) l
    by (inr (inl l)) = line IsLow l
    by (inr (inr (inl d))) = let r = read_del said d.spot d.inside t between d.begins in n.reads.del_unread d.opened d.spot d.inside d.front_is r.some r.more r.tokens_are
    by (inr (inr (inr d))) = let r = read_for said d.inside t between d.begins in n.reads.for_unread d.spot d.inside d.front_is r.passed r.some r.more r.tokens_are

-- whatever goes on with this token lies deeper than 100 at this place
record Deeper (place : Pos) (before : List Token) (t : Token) : Type 0 where
  there : (h : Head) (more : List Token) → head_tokens h ≡ before ++ t ∷ more → 100 < head_lies h place
  reads : UnreadLine before t (DeepOnLine place)

high_line : (place : Pos) (so : (Pos → ℕ) → List Token → Type 0) (front : List Line) (indent : ℕ) (before : List Token) (t : Token) → Deeper place before t → (l : LineOf so front indent (before ++ t ∷ [])) → 100 < head_lies l.head place
high_line place so front indent before t d l = d.there l.head l.rest (l.tokens_are ∙ append_assoc before (t ∷ []) l.rest)

not_both : (n room : ℕ) → room < n → n ≤ room → ⊥
not_both n room high low = omega (arith, high, low)

-- a place other than this one
abbrev beside : Pos → Pos
beside place = record { line = suc place.line; col = 0 }

is_beside : (place : Pos) → place ≡ beside place → ⊥
is_beside place is = let line = ap (λ (p : Pos). p.line) is in longer place.line line
  where
    longer : (n : ℕ) → n ≡ suc n → ⊥
    longer n same = omega (arith, same)

deeper_past : (place : Pos) (front : List Line) (indent : ℕ) (before : List Token) (t : Token) (between : List Token) → Deeper place before t → Past (low_elsewhere (beside place)) front indent before t between → ⊥
deeper_past place front indent before t between n past = by past
  where
    by : Past (low_elsewhere (beside place)) front indent before t between → ⊥
    by (inl l) = not_both (head_lies l.head place) 100 (high_line place (LiesSaid (low_elsewhere (beside place)) (before ++ t ∷ between)) front indent before t n l) (l.lies_so.1 place (is_beside place))
    by (inr (inl l)) = not_both (head_lies l.head place) 100 (high_line place IsLow front indent before t n l) (l.lies_so.1 place)
    by (inr (inr (inl d))) =
        let r = low_del (beside place) d.spot d.inside t between d.begins in
        not_both (expr_lies r.some place) 100 (n.reads.del_unread d.opened d.spot d.inside d.front_is r.some r.more r.tokens_are) (r.lies_so place (is_beside place))
    by (inr (inr (inr d))) =
        let r = low_for (beside place) d.inside t between d.begins in
        not_both (max (passed_lies r.passed place) (sum_lies r.some place)) (room_behind 100 r.passed) (n.reads.for_unread d.spot d.inside d.front_is r.passed r.some r.more r.tokens_are) (r.lies_so place (is_beside place))

-- ---- the place that TooDeep names

-- a token at the one place stands in these, and from it on one at the other
record Reaches (place other : Pos) (tokens : List Token) : Type 0 where
  ahead : List Token
  named : Token
  between : List Token
  tokens_are : tokens ≡ ahead ++ named ∷ between
  named_is : named.at ≡ place
  meets : IsApart other (named ∷ between) → ⊥

deep_deep : (place other : Pos) (front : List Line) (indent : ℕ) (before : List Token) (t : Token) → Deeper other before t → Past (first_deep_at place) front indent before t [] → Reaches place other (before ++ t ∷ [])
deep_deep place other front indent before t n past = by past
  where
    by : Past (first_deep_at place) front indent before t [] → Reaches place other (before ++ t ∷ [])
    by (inl l) =
        let lies = l.lies_so.1 in
        record {
          ahead = lies.ahead;
          named = lies.named;
          between = lies.between;
          tokens_are = lies.tokens_are;
          named_is = lies.named_is;
          meets = λ apart. not_both (head_lies l.head other) 100 (high_line other (LiesSaid (first_deep_at place) (before ++ t ∷ [])) front indent before t n l) (lies.within other apart);
        }
    by (inr (inl l)) = absurd (not_both (head_lies l.head other) 100 (high_line other IsLow front indent before t n l) (l.lies_so.1 other))
    by (inr (inr (inl d))) =
        let r = deep_del place d.spot d.inside t [] d.begins in
        let lies = r.lies_so in
        record {
          ahead = d.opened ++ lies.ahead;
          named = lies.named;
          between = lies.between;
          tokens_are = ap (λ ts. ts ++ t ∷ []) d.front_is ∙ append_assoc d.opened (token (Keyword 12) d.spot ∷ d.inside) (t ∷ []) ∙ ap (λ ts. d.opened ++ ts) lies.tokens_are ∙ sym (append_assoc d.opened lies.ahead (lies.named ∷ lies.between));
          named_is = lies.named_is;
          meets = λ apart. not_both (expr_lies r.some other) 100 (n.reads.del_unread d.opened d.spot d.inside d.front_is r.some r.more r.tokens_are) (lies.within other apart);
        }
    by (inr (inr (inr d))) =
        let r = deep_for place d.inside t [] d.begins in
        let lies = r.lies_so in
        record {
          ahead = token (Keyword 17) d.spot ∷ lies.ahead;
          named = lies.named;
          between = lies.between;
          tokens_are = ap (λ ts. ts ++ t ∷ []) d.front_is ∙ ap (λ (ts : List Token). token (Keyword 17) d.spot ∷ ts) lies.tokens_are;
          named_is = lies.named_is;
          meets = λ apart. not_both (max (passed_lies r.passed other) (sum_lies r.some other)) (room_behind 100 r.passed) (n.reads.for_unread d.spot d.inside d.front_is r.passed r.some r.more r.tokens_are) (lies.within other apart);
        }

-- a token stands elsewhere than those behind it
apart_behind : (ahead : List Token) (named : Token) (between : List Token) → ArePlacedApart (ahead ++ named ∷ between) → IsApart named.at between
apart_behind [] named between apart = apart.0
apart_behind (t ∷ ahead) named between apart = apart_behind ahead named between apart.1

some_apart : (at : Pos) (front behind : List Token) → IsApart at (front ++ behind) → IsApart at behind
some_apart at [] behind apart = apart
some_apart at (t ∷ front) behind apart = some_apart at front behind apart.1

first_apart : (at : Pos) (front behind : List Token) → IsApart at (front ++ behind) → IsApart at front
first_apart at [] behind apart = tt
first_apart at (t ∷ front) behind apart = (apart.0, first_apart at front behind apart.1)

pub first_placed : (front behind : List Token) → ArePlacedApart (front ++ behind) → ArePlacedApart front
first_placed [] behind apart = tt
first_placed (t ∷ front) behind apart = (first_apart t.at front behind apart.0, first_placed front behind apart.1)

one_reach : (place other : Pos) (tokens : List Token) → ArePlacedApart tokens → Reaches place other tokens → Reaches other place tokens → place ≡ other
one_reach place other tokens apart r q = by (two_cuts r.ahead q.ahead (r.named ∷ r.between) (q.named ∷ q.between) (sym r.tokens_are ∙ q.tokens_are))
  where
    -- the token of the one stands ahead of that of the other, and so elsewhere than all from that one on
    never : (x y : Pos) (r : Reaches x y tokens) (q : Reaches y x tokens) → Ahead r.ahead q.ahead (r.named ∷ r.between) (q.named ∷ q.between) → ⊥
    never x y r q e =
        let behind = apart_behind r.ahead r.named r.between (subst ArePlacedApart r.tokens_are apart) in
        q.meets (subst (λ at. IsApart at (q.named ∷ q.between)) r.named_is (some_apart r.named.at e.between (q.named ∷ q.between) (subst (IsApart r.named.at) (same_rest r.named e.token r.between (e.between ++ q.named ∷ q.between) e.behind_is) behind)))

    by : ((r.ahead ≡ q.ahead) × (r.named ∷ r.between ≡ q.named ∷ q.between)) ⊎ (Ahead r.ahead q.ahead (r.named ∷ r.between) (q.named ∷ q.between) ⊎ Ahead q.ahead r.ahead (q.named ∷ q.between) (r.named ∷ r.between)) → place ≡ other
    by (inl same) = sym r.named_is ∙ ap (λ (t : Token). t.at) (one_token r.named q.named r.between q.between same.1) ∙ q.named_is
    by (inr (inl e)) = absurd (never place other r q e)
    by (inr (inr e)) = absurd (never other place q r e)

-- ---- a fault that is shown further on

-- what stands before a fault on a line
record Later (front : List Line) (indent : ℕ) (tokens : List Token) : Type 0 where
  begins : (at : Pos) → BeginsScript (low_elsewhere at) front (at_end indent tokens)
  order : KeepsOrder front indent tokens

-- what is known of a fault that is shown there
pub record There (front behind : List Line) (fault : ParseFault) (point : Point) : Type 0 where
  pub shown : shows point behind
  pub named : names front behind point fault
  pub limit : NamesLimit fault front point
  pub begins : (at : Pos) → BeginsScript (low_elsewhere at) front point
  pub reads : ReadsNoFurther (deep_place fault) point
  pub order : InOrder front point
  pub passes : PassesNoneThere (names_limit fault) front point
  pub none : NoneWithin (Asks fault) front point

later_token : (front behind : List Line) (fault : ParseFault) (indent : ℕ) (before : List Token) (t : Token) → There front behind fault (at_token indent before t) → Later front indent before
later_token front behind fault indent before t f = record {
  begins = λ at. let b = f.begins at in record { some = b.some; fits = b.fits; more = b.more; lines_are = b.lines_are; next = b.next; stands = b.stands };
  order = f.order;
}

later_end : (front behind : List Line) (fault : ParseFault) (indent : ℕ) (tokens : List Token) → There front behind fault (at_end indent tokens) → Later front indent tokens
later_end front behind fault indent tokens f = record { begins = f.begins; order = f.order }

-- what no script goes on with is not passed
never_before : (front : List Line) (indent : ℕ) (before : List Token) (t : Token) (between : List Token) → Never front indent before t → Later front indent (before ++ t ∷ between) → ⊥
never_before front indent before t between n l = never_past (low_elsewhere t.at) front indent before t between n (past (low_elsewhere t.at) front indent before t between (l.begins t.at))

deeper_before : (place : Pos) (front : List Line) (indent : ℕ) (before : List Token) (t : Token) (between : List Token) → Deeper place before t → Later front indent (before ++ t ∷ between) → ⊥
deeper_before place front indent before t between n l = deeper_past place front indent before t between n (past (low_elsewhere (beside place)) front indent before t between (l.begins (beside place)))

-- no fault is shown behind the token that shows another
earlier : Laws → (front behind : List Line) (a : ParseFault) (indent : ℕ) (before : List Token) (t : Token) (between : List Token) → There front behind a (at_token indent before t) → Later front indent (before ++ t ∷ between) → ⊥
earlier laws front behind (Unexpected place) indent before t between f l = never_before front indent before t between (record { none = f.none; reads = f.reads }) l
earlier laws front behind (Unsupported place) indent before t between f l = never_before front indent before t between (record { none = f.none; reads = f.reads }) l
earlier laws front behind (BadIndent place) indent before t between f l = f.named
earlier laws front behind Memory indent before t between f l = f.named
earlier laws front behind (TooMany place) indent before t between f l = no_number_passed laws front indent before t (l.order before t between refl) f.limit.2 f.limit.0 f.limit.1
earlier laws front behind (TooDeep place) indent before t between f l = by f.limit
  where
    by : LiesDeep place front indent before t ⊎ ((place ≡ t.at) × PassesLimit few_suites front indent before × (begins_there before t ≡ true) × KeepsNumber front before) → ⊥
    by (inl deep) = deeper_before place front indent before t between (record { there = deep.there; reads = f.reads }) l
    by (inr suite) = no_suite_passed laws front indent before t (l.order before t between refl) suite.2 suite.1

-- ---- the same token

-- TooDeep by an expression where no script goes on with the token
not_deep : (place : Pos) (front : List Line) (indent : ℕ) (before : List Token) (t : Token) → Never front indent before t → LiesDeep place front indent before t → ⊥
not_deep place front indent before t n deep = never_past (first_deep_at place) front indent before t [] n (past (first_deep_at place) front indent before t [] deep.goes_on)

-- one names a limit, and the other none
free : Laws → (front behind : List Line) (b : ParseFault) (indent : ℕ) (before : List Token) (t : Token) → Never front indent before t → PassesNone front indent before t → There front behind b (at_token indent before t) → names_limit b ≡ true → ⊥
free laws front behind (Unexpected place) indent before t n passes g limit = false≢true limit
free laws front behind (Unsupported place) indent before t n passes g limit = false≢true limit
free laws front behind (BadIndent place) indent before t n passes g limit = false≢true limit
free laws front behind Memory indent before t n passes g limit = false≢true limit
free laws front behind (TooMany place) indent before t n passes g limit = no_number_passed laws front indent before t passes g.limit.2 g.limit.0 g.limit.1
free laws front behind (TooDeep place) indent before t n passes g limit = by g.limit
  where
    by : LiesDeep place front indent before t ⊎ ((place ≡ t.at) × PassesLimit few_suites front indent before × (begins_there before t ≡ true) × KeepsNumber front before) → ⊥
    by (inl deep) = not_deep place front indent before t n deep
    by (inr suite) = no_suite_passed laws front indent before t passes suite.2 suite.1

-- TooMany and TooDeep
many_deep : Laws → (front behind : List Line) (p q : Pos) (indent : ℕ) (before : List Token) (t : Token) → There front behind (TooMany p) (at_token indent before t) → There front behind (TooDeep q) (at_token indent before t) → ⊥
many_deep laws front behind p q indent before t f g = by g.limit
  where
    by : LiesDeep q front indent before t ⊎ ((q ≡ t.at) × PassesLimit few_suites front indent before × (begins_there before t ≡ true) × KeepsNumber front before) → ⊥
    by (inl deep) = no_number_passed laws front indent before t deep.order f.limit.2 f.limit.0 f.limit.1
    by (inr suite) = not_many laws front before suite.3 f.limit.1

-- TooDeep twice
deep_twice : Laws → (front behind : List Line) (p q : Pos) (indent : ℕ) (before : List Token) (t : Token) → ArePlacedApart (before ++ t ∷ []) → There front behind (TooDeep p) (at_token indent before t) → There front behind (TooDeep q) (at_token indent before t) → p ≡ q
deep_twice laws front behind p q indent before t apart f g = by f.limit g.limit
  where
    by : LiesDeep p front indent before t ⊎ ((p ≡ t.at) × PassesLimit few_suites front indent before × (begins_there before t ≡ true) × KeepsNumber front before)
        → LiesDeep q front indent before t ⊎ ((q ≡ t.at) × PassesLimit few_suites front indent before × (begins_there before t ≡ true) × KeepsNumber front before) → p ≡ q
    by (inl one) (inl other) = one_reach p q (before ++ t ∷ []) apart
        (deep_deep p q front indent before t (record { there = other.there; reads = g.reads }) (past (first_deep_at p) front indent before t [] one.goes_on))
        (deep_deep q p front indent before t (record { there = one.there; reads = f.reads }) (past (first_deep_at q) front indent before t [] other.goes_on))
    by (inl one) (inr other) = absurd (no_suite_passed laws front indent before t one.order other.2 other.1)
    by (inr one) (inl other) = absurd (no_suite_passed laws front indent before t other.order one.2 one.1)
    by (inr one) (inr other) = one.0 ∙ sym other.0

same_token : Laws → (front behind : List Line) (a b : ParseFault) (indent : ℕ) (before : List Token) (t : Token) → ArePlacedApart (before ++ t ∷ []) → There front behind a (at_token indent before t) → There front behind b (at_token indent before t) → a ≡ b
same_token laws front behind (BadIndent p) b indent before t apart f g = absurd f.named
same_token laws front behind Memory b indent before t apart f g = absurd f.named
same_token laws front behind a (BadIndent q) indent before t apart f g = absurd g.named
same_token laws front behind a Memory indent before t apart f g = absurd g.named
same_token laws front behind (Unexpected p) (Unexpected q) indent before t apart f g = ap Unexpected (f.named.0 ∙ sym g.named.0)
same_token laws front behind (Unexpected p) (Unsupported q) indent before t apart f g = absurd (f.named.1 q g.named)
same_token laws front behind (Unsupported p) (Unexpected q) indent before t apart f g = absurd (g.named.1 p f.named)
same_token laws front behind (Unsupported p) (Unsupported q) indent before t apart f g = ap Unsupported (laws.place _ _ _ p q f.named g.named)
same_token laws front behind (Unexpected p) (TooDeep q) indent before t apart f g = absurd (free laws front behind (TooDeep q) indent before t (record { none = f.none; reads = f.reads }) f.passes g refl)
same_token laws front behind (Unexpected p) (TooMany q) indent before t apart f g = absurd (free laws front behind (TooMany q) indent before t (record { none = f.none; reads = f.reads }) f.passes g refl)
same_token laws front behind (Unsupported p) (TooDeep q) indent before t apart f g = absurd (free laws front behind (TooDeep q) indent before t (record { none = f.none; reads = f.reads }) f.passes g refl)
same_token laws front behind (Unsupported p) (TooMany q) indent before t apart f g = absurd (free laws front behind (TooMany q) indent before t (record { none = f.none; reads = f.reads }) f.passes g refl)
same_token laws front behind (TooDeep p) (Unexpected q) indent before t apart f g = absurd (free laws front behind (TooDeep p) indent before t (record { none = g.none; reads = g.reads }) g.passes f refl)
same_token laws front behind (TooMany p) (Unexpected q) indent before t apart f g = absurd (free laws front behind (TooMany p) indent before t (record { none = g.none; reads = g.reads }) g.passes f refl)
same_token laws front behind (TooDeep p) (Unsupported q) indent before t apart f g = absurd (free laws front behind (TooDeep p) indent before t (record { none = g.none; reads = g.reads }) g.passes f refl)
same_token laws front behind (TooMany p) (Unsupported q) indent before t apart f g = absurd (free laws front behind (TooMany p) indent before t (record { none = g.none; reads = g.reads }) g.passes f refl)
same_token laws front behind (TooMany p) (TooMany q) indent before t apart f g = ap TooMany (f.named ∙ sym g.named)
same_token laws front behind (TooMany p) (TooDeep q) indent before t apart f g = absurd (many_deep laws front behind p q indent before t f g)
same_token laws front behind (TooDeep p) (TooMany q) indent before t apart f g = absurd (many_deep laws front behind q p indent before t g f)
same_token laws front behind (TooDeep p) (TooDeep q) indent before t apart f g = ap TooDeep (deep_twice laws front behind p q indent before t apart f g)

-- ---- the end of a line twice

same_end : Laws → (front behind : List Line) (a b : ParseFault) (indent : ℕ) (tokens : List Token) → (tokens ≡ [] → ⊥) → There front behind a (at_end indent tokens) → There front behind b (at_end indent tokens) → a ≡ b
same_end laws front behind (BadIndent p) b indent tokens some f g = absurd f.named
same_end laws front behind Memory b indent tokens some f g = absurd f.named
same_end laws front behind (TooMany p) b indent tokens some f g = absurd f.named
same_end laws front behind (TooDeep p) b indent tokens some f g = absurd (some f.limit.0)
same_end laws front behind a (BadIndent q) indent tokens some f g = absurd g.named
same_end laws front behind a Memory indent tokens some f g = absurd g.named
same_end laws front behind a (TooMany q) indent tokens some f g = absurd g.named
same_end laws front behind a (TooDeep q) indent tokens some f g = absurd (some g.limit.0)
same_end laws front behind (Unexpected p) (Unexpected q) indent tokens some f g = ap Unexpected (f.named.0 ∙ sym g.named.0)
same_end laws front behind (Unexpected p) (Unsupported q) indent tokens some f g = absurd (f.named.1 q g.named)
same_end laws front behind (Unsupported p) (Unexpected q) indent tokens some f g = absurd (g.named.1 p f.named)
same_end laws front behind (Unsupported p) (Unsupported q) indent tokens some f g = ap Unsupported (laws.place (standing indent front) tokens [] p q f.named g.named)

-- ---- on one line

-- a token, or the end of the line, shows it
abbrev pub IsOnLine : Point → Type 0
IsOnLine (at_token indent before t) = ⊤
IsOnLine (at_end indent tokens) = ⊤
IsOnLine point = ⊥

-- nor at the end of its line
token_end : Laws → (front : List Line) (line : Line) (more : List Line) (a b : ParseFault) (indent other : ℕ) (before : List Token) (t : Token) (tokens : List Token) → There front (line ∷ more) a (at_token indent before t) → There front (line ∷ more) b (at_end other tokens) → ⊥
token_end laws front line more a b indent other before t tokens f g = earlier laws front (line ∷ more) a indent before t f.shown.1.more f
    (subst (λ ts. Later front indent ts) (sym g.shown.1 ∙ f.shown.1.tokens_are) (subst (λ at. Later front at tokens) (sym g.shown.0 ∙ f.shown.0) (later_end front (line ∷ more) b other tokens g)))

token_token : Laws → (front : List Line) (line : Line) (more : List Line) → ArePlacedApart line.tokens → (a b : ParseFault) (indent other : ℕ) (before ahead : List Token) (t u : Token)
    → There front (line ∷ more) a (at_token indent before t) → There front (line ∷ more) b (at_token other ahead u) → a ≡ b
token_token laws front line more apart a b indent other before ahead t u f g = by (two_cuts before ahead (t ∷ f.shown.1.more) (u ∷ g.shown.1.more) (sym f.shown.1.tokens_are ∙ g.shown.1.tokens_are))
  where
    apart_here : ArePlacedApart (before ++ t ∷ [])
    apart_here = first_placed (before ++ t ∷ []) f.shown.1.more (subst ArePlacedApart (f.shown.1.tokens_are ∙ sym (append_assoc before (t ∷ []) f.shown.1.more)) apart)

    same_indent : other ≡ indent
    same_indent = sym g.shown.0 ∙ f.shown.0

    by : ((before ≡ ahead) × (t ∷ f.shown.1.more ≡ u ∷ g.shown.1.more)) ⊎ (Ahead before ahead (t ∷ f.shown.1.more) (u ∷ g.shown.1.more) ⊎ Ahead ahead before (u ∷ g.shown.1.more) (t ∷ f.shown.1.more)) → a ≡ b
    by (inl same) = same_token laws front (line ∷ more) a b indent before t apart_here f
        (subst (λ v. There front (line ∷ more) b (at_token indent before v)) (sym (one_token t u f.shown.1.more g.shown.1.more same.1)) (subst (λ ts. There front (line ∷ more) b (at_token indent ts u)) (sym same.0) (subst (λ at. There front (line ∷ more) b (at_token at ahead u)) same_indent g)))
    by (inr (inl e)) = absurd (earlier laws front (line ∷ more) a indent before t e.between f
        (subst (λ ts. Later front indent ts) (e.front_is ∙ ap (λ (v : Token). before ++ v ∷ e.between) (sym (one_token t e.token f.shown.1.more (e.between ++ u ∷ g.shown.1.more) e.behind_is))) (subst (λ at. Later front at ahead) same_indent (later_token front (line ∷ more) b other ahead u g))))
    by (inr (inr e)) = absurd (earlier laws front (line ∷ more) b other ahead u e.between g
        (subst (λ ts. Later front other ts) (e.front_is ∙ ap (λ (v : Token). ahead ++ v ∷ e.between) (sym (one_token u e.token g.shown.1.more (e.between ++ t ∷ f.shown.1.more) e.behind_is))) (subst (λ at. Later front at before) (sym same_indent) (later_token front (line ∷ more) a indent before t f))))

pub same_line : Laws → (front : List Line) (line : Line) (more : List Line) → (line.tokens ≡ [] → ⊥) → ArePlacedApart line.tokens → (a b : ParseFault) (p q : Point) → IsOnLine p → IsOnLine q → There front (line ∷ more) a p → There front (line ∷ more) b q → a ≡ b
same_line laws front line more some apart a b (at_token i before t) (at_token j ahead u) on also f g = token_token laws front line more apart a b i j before ahead t u f g
same_line laws front line more some apart a b (at_token i before t) (at_end j tokens) on also f g = absurd (token_end laws front line more a b i j before t tokens f g)
same_line laws front line more some apart a b (at_end i tokens) (at_token j ahead u) on also f g = absurd (token_end laws front line more b a j i ahead u tokens g f)
same_line laws front line more some apart a b (at_end i tokens) (at_end j others) on also f g = same_end laws front (line ∷ more) a b i tokens (λ none. some (f.shown.1 ∙ none)) f
    (subst (λ ts. There front (line ∷ more) b (at_end i ts)) (sym g.shown.1 ∙ f.shown.1) (subst (λ at. There front (line ∷ more) b (at_end at others)) (sym g.shown.0 ∙ f.shown.0) g))
same_line laws front line more some apart a b (at_line i) q on also f g = absurd on
same_line laws front line more some apart a b (below i) q on also f g = absurd on
same_line laws front line more some apart a b no_line q on also f g = absurd on
same_line laws front line more some apart a b p (at_line i) on also f g = absurd also
same_line laws front line more some apart a b p (below i) on also f g = absurd also
same_line laws front line more some apart a b p no_line on also f g = absurd also
