-- What is read of a line of a suite: what the first token tells, the limits, and what is refused.
use Rattle.std.proofs.Common.{◌≡◌, inl, inr, ℕ, ◌+◌, ◌<◌, ◌≤◌, suc, nat_le, Bool, true, false, not, ◌&&◌, ◌||◌, List, [], ◌∷◌, ◌++◌, length, Option, Some, None, is_some, is_none, if◌then◌else◌, refl, ap, sym, ◌∙◌, arith, subst, append_assoc, append-nil, ◌⊎◌, codes}
use Rattle.std.specs.Prelude.{⊤, slice_get}
use Rattle.std.specs.Int.{from_bool}
use Rattle.std.proofs.lemmas.Bool.{leb-true, leb-false, le-leb, false≢true}
use Rattle.std.proofs.lemmas.Option.{same_Some}
use Rattle.prov_base.specs.declared.place.Pos.{Pos}
use Rattle.py_lines.specs.declared.parts.Line.{Line}
use Rattle.py_lines.specs.declared.parts.Token.{Token}
use Rattle.py_lines.specs.declared.parts.TokenKind.TheVariants.{Keyword}
use Rattle.py_grammar.specs.declared.context.Limit.{Limit}
use Rattle.py_grammar.specs.declared.context.Limit.TheVariants.{Number, Depth}
use Rattle.py_expressions.specs.declared.fault.Fault.{Fault}
use Rattle.py_expressions.specs.declared.fault.Fault.TheVariants.{Unexpected, TooDeep, TooMany, Memory}
use Rattle.py_parser.specs.declared.fault.Halt.TheVariants.{AtEnd, TooMany as ManyHalt, AtToken}
use Rattle.py_expressions.specs.declared.fault.Stop.{Stop}
use Rattle.py_expressions.specs.declared.fault.Stop.TheVariants.{Here, End}
use Rattle.py_grammar.specs.declared.head.LineHead.{LineHead}
use Rattle.py_expressions.specs.Concrete.{Spot, plain_expr, plain_or, plain_and, plain_not, plain_cmp, plain_sum, plain_term, plain_unary, plain_prim, none as none_atom, one_expr}
use Rattle.py_expressions.specs.Tokens.{token, keyword}
use Rattle.py_grammar.specs.Layout.{IsLine}
use Rattle.py_grammar.specs.StatementTokens.{simple_tokens, one_target_tokens}
use Rattle.py_grammar.specs.Written.{Simple, pass}
use Rattle.py_expressions.specs.Targets.{named as named_target, one_target}
use Rattle.py_grammar.specs.LineReader.{Head, simple_head, if_head, elif_head, else_head, while_head, for_head, try_head, except_head, with_head, def_head, class_head, global_head, head_tokens, colon_tokens}
use Rattle.py_grammar.specs.ParsedHead.{Context, lacks_handler, word_may, head_stands, head_depth, behind_in, HeadFound, HeadRefused, IsAmissHead, ShownBy, GoesOnLine, ReadsDel, ReadsFor, BeginsHead, DeepHead, kind_may, may_begin, FirstMay, ShowsOnLine, head_lies, behind_first, StartsBehind, IsFreeBehind, DelStarts, del_name, IsAheadOnLine, UnreadLine}
use Rattle.py_expressions.specs.Lies.{over, is_place}
use Rattle.py_expressions.specs.Parsed.{IsAtFirst}
use Rattle.py_grammar.specs.Limits.{Limits, profile}
use Rattle.py_parser.specs.Rows.{Level, Begun, is_stmt, is_every, counted, follows, may}
use Rattle.py_parser.specs.Faults.{last_place, Point, at_token, at_end, shows, Said, low_elsewhere, first_deep_at, LiesSaid, IsLow, del_spot, ReadsBehindDel, ReadsBehindFor, Opens, OpensDel, OpensFor, GoesOnWith, Next, few_suites, few_statements, is_stmt_kind, begins_there, line_fault}
use Rattle.py_parser.specs.ParsedBlocks.{limit_by, limit_at, RowsBegin, LineRead, RefusedLine, LineStopped, Asks, MarksToken, halt_of, RowsFollow, NoneRows, Passes, RowsLimit, KeepsBy, CountsFrom, KeepsOrderBy, PassesThere, IsPassAt, NonePass, KeepsPass, halt_limit, deep_at}
use Rattle.py_grammar.proofs.LyingLines.{head_low}
use Rattle.py_grammar.proofs.LineFirsts.{same_first, head_some, both_true, misplaced_head}
use Rattle.py_parser.specs.Grouped.{no_spot}
use Rattle.py_grammar.proofs.HeadReading.{same_head}
use Rattle.py_parser.proofs.Endings.{line_of, passed_at, passed_fits, passed_may, begins_here, begins_line, follows_line, follows_pass, line_within}
use Rattle.py_grammar.proofs.BehindColon.{pass_there}
use Rattle.py_parser.proofs.ScriptHeads.{kind_tells}
use Rattle.py_parser.proofs.RowRefusals.{none_line, ends_begun, first_reads}
use Rattle.py_parser.proofs.Ordered.{none_split}

-- ---- truth values

left_of : (a b : Bool) → (a && b) ≡ true → a ≡ true
left_of true b is = refl
left_of false b is = is

right_of : (a b : Bool) → (a && b) ≡ true → b ≡ true
right_of true b is = is
right_of false b is = absurd (false≢true is)

or_left : (a b : Bool) → a ≡ true → (a || b) ≡ true
or_left true b is = refl
or_left false b is = absurd (false≢true is)

or_other : (a b : Bool) → b ≡ true → (a || b) ≡ true
or_other true b is = refl
or_other false b is = is

all_true : (a b c d : Bool) → a ≡ true → b ≡ true → c ≡ true → d ≡ true → (a && b && c && d) ≡ true
all_true true true true true one two three four = refl
all_true false b c d one two three four = absurd (false≢true one)
all_true true false c d one two three four = absurd (false≢true two)
all_true true true false d one two three four = absurd (false≢true three)
all_true true true true false one two three four = absurd (false≢true four)

each_true : (a b c d : Bool) → (a && b && c && d) ≡ true → (a ≡ true) × (b ≡ true) × (c ≡ true) × (d ≡ true)
each_true true true true true is = (refl, refl, refl, refl)
each_true false b c d is = absurd (false≢true is)
each_true true false c d is = absurd (false≢true is)
each_true true true false d is = absurd (false≢true is)
each_true true true true false is = absurd (false≢true is)

pub none_lacks : (lacks a : Bool) → a ≡ not lacks → a ≡ true → lacks ≡ false
none_lacks false a is one = refl
none_lacks true a is one = absurd (false≢true (sym is ∙ one))

pub not_false : (a b : Bool) → a ≡ not b → a ≡ false → b ≡ true
not_false a true is none = refl
not_false a false is none = absurd (false≢true (sym none ∙ is))

-- ---- the first token

pub first_there : (ts : List Token) (t : Token) → Some t ≡ slice_get ts 0 → (rest : List Token) × (ts ≡ t ∷ rest)
first_there [] t is = cc
first_there (u ∷ us) t is = (us, ap (λ v. v ∷ us) (sym (same_Some t u is)))

pub none_there : (ts : List Token) → None ≡ slice_get ts 0 → ts ≡ []
none_there [] is = refl
none_there (u ∷ us) is = cc

-- ---- what may stand there follows

follows_there : (m : Level) (h : Head) → (m.context.may_declare ≡ true → m.of_def ≡ true) → head_stands m.context m.given h ≡ true → follows m h ≡ true
follows_there m (simple_head s) declares stands = left_of _ _ stands
follows_there m (if_head at test colon b) declares stands = left_of _ _ (left_of _ _ stands)
follows_there m (elif_head at test colon b) declares stands = left_of _ _ stands
follows_there m (else_head at colon b) declares stands = left_of _ _ stands
follows_there m (while_head at test colon b) declares stands = left_of _ _ (left_of _ _ stands)
follows_there m (for_head at target in_word e colon b) declares stands = left_of _ _ (left_of _ _ stands)
follows_there m (try_head at colon b) declares stands = left_of _ _ (left_of _ _ stands)
follows_there m (except_head at kind colon b) declares stands = or_left (word_may m.context 15) (is_every m.context.last) (left_of (word_may m.context 15) _ stands)
follows_there m (with_head at e called colon b) declares stands = left_of _ _ (left_of _ _ stands)
follows_there m (def_head at name_at bytes opening given closing colon b) declares stands = left_of _ _ (left_of (word_may m.context 11) _ (left_of _ _ stands))
follows_there m (class_head at name_at bytes of colon b) declares stands = left_of _ _ (left_of _ _ stands)
follows_there m (global_head at names) declares stands =
    let word : word_may m.context 19 ≡ true = left_of _ _ stands in
    ap (λ b. b && not (lacks_handler m.context.last)) (declares (right_of (not (lacks_handler m.context.last)) m.context.may_declare word)) ∙ left_of (not (lacks_handler m.context.last)) m.context.may_declare word

-- ---- the limits

or_false : (a b : Bool) → (a || b) ≡ false → (a ≡ false) × (b ≡ false)
or_false false b is = (refl, is)
or_false true b is = absurd (false≢true (sym is))

as_number : (b : Bool) → from_bool b ≡ (if b then 1 else 0)
as_number true = refl
as_number false = refl

not_limited : (s : Simple) (limit : Option Limit) → (is_some limit ≡ true → Some s ≡ None) → limit ≡ None
not_limited s None within = refl
not_limited s (Some l) within = let none = within refl in cc

none_by : (a b : Bool) → limit_by a b ≡ None → (a ≡ false) × (b ≡ false)
none_by false false is = (refl, refl)
none_by false true is = cc
none_by true b is = cc

number_by : (a b : Bool) → limit_by a b ≡ Some Number → a ≡ true
number_by true b is = refl
number_by false true is = cc
number_by false false is = cc

depth_by : (a b : Bool) → limit_by a b ≡ Some Depth → b ≡ true
depth_by true b is = cc
depth_by false true is = refl
depth_by false false is = cc

abbrev number_fits : Limits → ℕ → Bool → Option Simple → Bool
number_fits q n begins behind = nat_le (n + ((if begins then 1 else 0) + (if is_none behind then 0 else 1))) q.number

within_limits : (n depth : ℕ) (begins : Bool) (behind : Option Simple) (limit : Option Limit) → n ≤ 20000 → (begins ≡ true → n < 20000) → limit ≡ limit_at (n + from_bool begins) depth → (is_some limit ≡ true → behind ≡ None)
    → (number_fits profile n begins behind ≡ true) × ((is_none behind || nat_le (suc depth) 50) ≡ true)
within_limits n depth true None limit few fewer is within = (le-leb _ _ (omega (arith, fewer refl)), refl)
within_limits n depth false None limit few fewer is within = (le-leb _ _ (omega (arith, few)), refl)
within_limits n depth true (Some s) limit few fewer is within =
    let free = none_by (nat_le 20000 (n + 1)) (nat_le 50 depth) (sym is ∙ not_limited s limit within) in
    (le-leb _ _ (omega (arith, leb-false 20000 (n + 1) free.0)), le-leb _ _ (omega (arith, leb-false 50 depth free.1)))
within_limits n depth false (Some s) limit few fewer is within =
    let free = none_by (nat_le 20000 (n + 0)) (nat_le 50 depth) (sym is ∙ not_limited s limit within) in
    (le-leb _ _ (omega (arith, leb-false 20000 (n + 0) free.0)), le-leb _ _ (omega (arith, leb-false 50 depth free.1)))

number_passed : (q : Limits) (n depth : ℕ) (begins : Bool) (behind : Option Simple) → q.number ≤ 20000 → limit_at (n + from_bool begins) depth ≡ Some Number → is_some behind ≡ true → number_fits q n begins behind ≡ true → ⊥
number_passed q n depth begins None most is some low = false≢true some
number_passed q n depth true (Some s) most is some low = omega (arith, most, leb-true 20000 (n + 1) (number_by _ _ is), leb-true (n + (1 + 1)) q.number low)
number_passed q n depth false (Some s) most is some low = omega (arith, most, leb-true 20000 (n + 0) (number_by _ _ is), leb-true (n + (0 + 1)) q.number low)

depth_passed : (q : Limits) (n depth : ℕ) (behind : Option Simple) → q.suites ≤ 50 → limit_at n depth ≡ Some Depth → is_some behind ≡ true → (is_none behind || nat_le (suc depth) q.suites) ≡ true → ⊥
depth_passed q n depth None most is some deep = false≢true some
depth_passed q n depth (Some s) most is some deep = omega (arith, most, leb-true 50 depth (depth_by _ _ is), leb-true (suc depth) q.suites deep)

-- ---- what was read

-- what the code knows of a line with this first token
pub record Opened (m : Level) (n : ℕ) (line : Line) (t : Token) (begins : Bool) (limit : Option Limit) : Type 0 where
  pub rest : List Token
  pub tokens_are : line.tokens ≡ t ∷ rest
  pub begins_is : begins ≡ is_stmt_kind t.kind
  pub limit_is : limit ≡ limit_at (n + from_bool begins) m.depth

begins_as : (m : Level) (n : ℕ) (line : Line) (t : Token) (begins : Bool) (limit : Option Limit) (o : Opened m n line t begins limit) (h : Head) (more : List Token) → head_tokens h ≡ t ∷ more → begins ≡ is_stmt h
begins_as m n line t begins limit o h more is = o.begins_is ∙ kind_tells h t more is

-- a statement stands only where no handler is missing
stmt_finished : (m : Level) (h : Head) → is_stmt h ≡ true → follows m h ≡ true → not (lacks_handler m.context.last) ≡ true
stmt_finished m (simple_head s) is may_follow = may_follow
stmt_finished m (if_head at test colon b) is may_follow = may_follow
stmt_finished m (elif_head at test colon b) is may_follow = absurd (false≢true is)
stmt_finished m (else_head at colon b) is may_follow = absurd (false≢true is)
stmt_finished m (while_head at test colon b) is may_follow = may_follow
stmt_finished m (for_head at target in_word e colon b) is may_follow = may_follow
stmt_finished m (try_head at colon b) is may_follow = may_follow
stmt_finished m (except_head at kind colon b) is may_follow = absurd (false≢true is)
stmt_finished m (with_head at e called colon b) is may_follow = may_follow
stmt_finished m (def_head at name_at bytes opening given closing colon b) is may_follow = may_follow
stmt_finished m (class_head at name_at bytes of colon b) is may_follow = may_follow
stmt_finished m (global_head at names) is may_follow = absurd (false≢true is)

never_both : (b : Bool) → b ≡ true → not b ≡ true → ⊥
never_both true one other = false≢true other
never_both false one other = false≢true one

-- a line that begins a statement was read, so there may be one more
fewer_there : (m : Level) (n : ℕ) (h : Head) (begins : Bool) → begins ≡ is_stmt h → (m.context.may_declare ≡ true → m.of_def ≡ true) → head_stands m.context m.given h ≡ true → (begins ≡ true → (n < 20000) ⊎ (lacks_handler m.context.last ≡ true))
    → begins ≡ true → n < 20000
fewer_there m n h begins same declares stands few is = elim (few is) [ inl less ↦ less | inr lacks ↦ absurd (never_both (lacks_handler m.context.last) lacks (stmt_finished m h (sym same ∙ is) (follows_there m h declares stands))) ]

few_now : (n : ℕ) (begins : Bool) → n ≤ 20000 → (begins ≡ true → n < 20000) → n + from_bool begins ≤ 20000
few_now n true few fewer = let less = fewer refl in omega (arith, less)
few_now n false few fewer = omega (arith, few)

line_found : (m : Level) (n : ℕ) (line : Line) (head : LineHead) (t : Token) (begins : Bool) (limit : Option Limit) → Opened m n line t begins limit → (m.context.may_declare ≡ true → m.of_def ≡ true) → n ≤ 20000 → (begins ≡ true → (n < 20000) ⊎ (lacks_handler m.context.last ≡ true))
    → HeadFound m.context m.given limit line.tokens head → LineRead m n line head (n + from_bool begins)
line_found m n line head t begins limit o declares few unless_lacking found =
    let same : begins ≡ is_stmt found.written = begins_as m n line t begins limit o found.written o.rest (sym found.before_is ∙ o.tokens_are) in
    let fewer = fewer_there m n found.written begins same declares found.stands unless_lacking in
    let fits = within_limits n m.depth (is_stmt found.written) (behind_in found.written) limit few (λ is. fewer (same ∙ is)) (o.limit_is ∙ ap (λ b. limit_at (n + from_bool b) m.depth) same) found.within in
    record {
      written = found.written;
      tokens_are = found.before_is;
      what_is = found.what_is;
      behind_is = found.behind_is;
      follows_is = follows_there m found.written declares found.stands;
      may_be = all_true (head_stands m.context m.given found.written) (nat_le (head_depth found.written) 100) (nat_le (n + counted found.written) 20000) _ found.stands (le-leb _ _ found.fits) fits.0 fits.1;
      count_is = ap (λ b. n + from_bool b) same ∙ ap (λ k. n + k) (as_number (is_stmt found.written));
      few = few_now n begins few fewer;
    }

pub opened : (m : Level) (n : ℕ) (line : Line) (tokens : List Token) (t : Token) (begins : Bool) (limit : Option Limit) (k : ℕ) → tokens ≡ line.tokens → Some t ≡ slice_get tokens 0 → begins ≡ is_stmt_kind t.kind → k ≡ from_bool begins
    → limit ≡ limit_at (n + k) m.depth → Opened m n line t begins limit
opened m n line tokens t begins limit k same first begins_is one is =
    let there = first_there tokens t first in
    record { rest = there.0; tokens_are = sym same ∙ there.1; begins_is = begins_is; limit_is = is ∙ ap (λ k. limit_at (n + k) m.depth) one }

pub found_there : (m : Level) (n : ℕ) (line : Line) (head : LineHead) (tokens : List Token) (t : Token) (begins : Bool) (limit : Option Limit) (k : ℕ) → Opened m n line t begins limit → (m.context.may_declare ≡ true → m.of_def ≡ true) → n ≤ 20000 → (begins ≡ true → (n < 20000) ⊎ (lacks_handler m.context.last ≡ true))
    → k ≡ from_bool begins → tokens ≡ line.tokens → HeadFound m.context m.given limit tokens head → LineRead m n line head (n + k)
found_there m n line head tokens t begins limit k o declares few fewer one same found =
    subst (λ k. LineRead m n line head (n + k)) (sym one) (line_found m n line head t begins limit o declares few fewer (subst (λ (ts : List Token). HeadFound m.context m.given limit ts head) same found))

-- ---- what is refused

begun_token : (indent : ℕ) (front : List Token) (t : Token) (rest : List Line) → shows (at_token indent front t) rest → Begun indent rest
begun_token indent front t [] there = absurd there
begun_token indent front t (line ∷ lines) there = there.0

begun_end : (indent : ℕ) (tokens : List Token) (rest : List Line) → shows (at_end indent tokens) rest → Begun indent rest
begun_end indent tokens [] there = absurd there
begun_end indent tokens (line ∷ lines) there = there.0

-- lines with the same tokens up to one have the same first token
front_first : (front : List Token) (shown : Token) (behind more : List Token) (t : Token) (rest : List Token) → front ++ shown ∷ behind ≡ t ∷ rest → (r : List Token) × (front ++ shown ∷ more ≡ t ∷ r)
front_first [] shown behind more t rest is = (more, ap (λ (u : Token). u ∷ more) (same_first shown t behind rest is))
front_first (f ∷ fs) shown behind more t rest is = (fs ++ shown ∷ more, ap (λ (u : Token). u ∷ (fs ++ shown ∷ more)) (same_first f t (fs ++ shown ∷ behind) rest is))

some_behind : (b : Option Simple) (at : Pos) → behind_first b at → is_some b ≡ true
some_behind None at first = absurd first
some_behind (Some s) at first = refl

-- what is amiss of a line is no line that may stand there
amiss : (q : Limits) (m : Level) (n : ℕ) (begins : Bool) (limit : Option Limit) (h : Head) (k : ℕ) (fault : Fault) → Asks (halt_of k fault) q → begins ≡ is_stmt h → limit ≡ limit_at (n + from_bool begins) m.depth → may q m n h ≡ true
    → IsAmissHead m.context m.given limit (Here fault) h → ⊥
amiss q m n begins limit h k fault asks same is fine bad = by fault asks bad
  where
    parts : (head_stands m.context m.given h ≡ true) × (nat_le (head_depth h) q.height ≡ true) × (nat_le (n + counted h) q.number ≡ true) × ((is_none (behind_in h) || nat_le (suc m.depth) q.suites) ≡ true)
    parts = each_true (head_stands m.context m.given h) (nat_le (head_depth h) q.height) (nat_le (n + counted h) q.number) (is_none (behind_in h) || nat_le (suc m.depth) q.suites) fine

    limit_now : limit ≡ limit_at (n + from_bool (is_stmt h)) m.depth
    limit_now = is ∙ ap (λ b. limit_at (n + from_bool b) m.depth) same

    by : (fault : Fault) → Asks (halt_of k fault) q → IsAmissHead m.context m.given limit (Here fault) h → ⊥
    by (TooDeep at) asks (inl deep) = let most = asks.0 in let low = head_low h at in omega (arith, most, deep, low, leb-true (head_depth h) q.height parts.1)
    by (TooDeep at) asks (inr over) = depth_passed q (n + from_bool (is_stmt h)) m.depth (behind_in h) asks.1 (sym limit_now ∙ over.0) (some_behind (behind_in h) at over.1) parts.3
    by (TooMany at) asks over = number_passed q n m.depth (is_stmt h) (behind_in h) asks (sym limit_now ∙ over.0) over.1 parts.2
    by (Unexpected at) asks no_place = false≢true (sym no_place ∙ parts.0)
    by Memory asks bad = bad

-- ---- the tokens before the faulty one

goes_with : (said : Said) (indent : ℕ) (tokens : List Token) (x : List Line) → Opens (LiesSaid said tokens) indent tokens x ⊎ (OpensDel said indent tokens x ⊎ OpensFor said indent tokens x) → GoesOnWith said indent tokens x
goes_with said indent [] x is = tt
goes_with said indent (f ∷ fs) x is = is

-- a line with `del` and a name
record DelLine (spot : Spot) (c : Context) (given : List (List ℕ)) (opened : List Token) : Type 0 where
  line : Head
  tokens_are : head_tokens line ≡ (opened ++ simple_tokens (del_name spot)) ++ []
  stands : head_stands c given line ≡ true
  low : (other : Pos) → head_lies line other ≤ 100

-- a name lies at depth 1
name_lies : (b : Bool) → over b 0 ≤ 1
name_lies true = omega arith
name_lies false = omega arith

del_line : (spot : Spot) (c : Context) (given : List (List ℕ)) (opened : List Token) → DelStarts c given opened → DelLine spot c given opened
del_line spot c given opened (inl start) = record {
  line = simple_head (del_name spot);
  tokens_are = ap (λ ts. ts ++ simple_tokens (del_name spot)) (sym start.0) ∙ sym (append-nil (opened ++ simple_tokens (del_name spot)));
  stands = start.1 spot;
  low = λ other. let one = name_lies (is_place spot.at other) in omega (arith, one);
}
del_line spot c given opened (inr b) = record {
  line = b.made (del_name spot);
  tokens_are = b.tokens_are (del_name spot) ∙ sym (append-nil (opened ++ simple_tokens (del_name spot)));
  stands = b.stands spot;
  low = λ other. let one = name_lies (is_place spot.at other) in let most = b.within (del_name spot) other in omega (arith, one, most);
}

-- `for name in None:`
abbrev for_line : Spot → Head
for_line spot = for_head spot (one_target (named_target no_spot (codes "name"))) no_spot (one_expr (plain_expr (plain_or (plain_and (plain_not (plain_cmp (plain_sum (plain_term (plain_unary (plain_prim (none_atom no_spot))))))))))) no_spot None

abbrev behind_for : List Token
behind_for = one_target_tokens (named_target no_spot (codes "name")) ++ (keyword (codes "in") no_spot ++ (keyword (codes "None") no_spot ++ colon_tokens no_spot None))

for_low : (spot : Spot) (other : Pos) → head_lies (for_line spot) other ≤ 100
for_low spot other = let one = name_lies (is_place no_spot.at other) in omega (arith, one)

-- the first tokens of a line that may stand there, or of what is read of it, of which this is said
record SomeLine (said : Said) (c : Context) (given : List (List ℕ)) (tokens : List Token) : Type 0 where
  head : Head
  stands : head_stands c given head ≡ true
  more : List Token
  tokens_are : head_tokens head ≡ tokens ++ more
  lies_so : LiesSaid said tokens (head_lies head) more

abbrev LineStarts : Said → Context → List (List ℕ) → List Token → Type 0
LineStarts said c given tokens = SomeLine said c given tokens ⊎ (ReadsDel c given (ReadsBehindDel said) tokens ⊎ ReadsFor c (ReadsBehindFor said) tokens)

deep_first : (place : Pos) (c : Context) (given : List (List ℕ)) (tokens : List Token) → DeepHead c given tokens place → LineStarts (first_deep_at place) c given tokens
deep_first place c given tokens (inl b) = inl (record {
  head = b.some;
  stands = b.is_so;
  more = b.more;
  tokens_are = b.tokens_are;
  lies_so = record { ahead = b.ahead; named = b.named; between = b.between; tokens_are = b.front_is; named_is = b.named_is; deep = b.deep; within = b.within };
})
deep_first place c given tokens (inr (inl d)) = inr (inl (record { opened = d.opened; starts = d.starts; inside = d.inside; begins = d.begins; front_is = d.front_is }))
deep_first place c given tokens (inr (inr f)) = inr (inr (record { may = f.may; spot = f.spot; inside = f.inside; begins = f.begins; front_is = f.front_is }))

elsewhere : (at : Pos) (c : Context) (given : List (List ℕ)) (tokens : List Token) → BeginsHead c given tokens → LineStarts (low_elsewhere at) c given tokens
elsewhere at c given tokens (inl b) = let one = b at in inl (record { head = one.some; stands = one.is_so; more = one.more; tokens_are = one.tokens_are; lies_so = one.within })
elsewhere at c given tokens (inr (inl d)) = inr (inl (record { opened = d.opened; starts = d.starts; inside = d.inside; begins = d.begins at; front_is = d.front_is }))
elsewhere at c given tokens (inr (inr f)) = inr (inr (record { may = f.may; spot = f.spot; inside = f.inside; begins = f.begins at; front_is = f.front_is }))

begins_head : (said : Said) (m : Level) (tokens : List Token) (p : Point) → (m.context.may_declare ≡ true → m.of_def ≡ true) → LineStarts said m.context m.given tokens → ((x : List Line) → GoesOnWith said m.indent tokens x → Next said p x) → RowsBegin said m [] p
begins_head said m tokens p declares (inl b) next =
    begins_line m b.head tokens b.more p b.tokens_are (follows_there m b.head declares b.stands) b.stands (LiesSaid said tokens) b.lies_so (λ x opens. next x (goes_with said m.indent tokens x (inl opens)))
begins_head said m tokens p declares (inr (inl d)) next =
    let spot = del_spot said d.inside d.begins in
    let l = del_line spot m.context m.given d.opened d.starts in
    begins_line m l.line (d.opened ++ simple_tokens (del_name spot)) [] p l.tokens_are (follows_there m l.line declares l.stands) l.stands IsLow l.low
    (λ x opens. next x (goes_with said m.indent tokens x (inr (inl (record { opened = d.opened; spot = spot; opens = opens; inside = d.inside; begins = d.begins; spot_is = refl; tokens_are = d.front_is })))))
begins_head said m tokens p declares (inr (inr f)) next =
    let stands : head_stands m.context m.given (for_line f.spot) ≡ true = both_true _ _ f.may refl in
    begins_line m (for_line f.spot) (keyword (codes "for") f.spot) behind_for p refl (follows_there m (for_line f.spot) declares stands) stands IsLow (for_low f.spot)
    (λ x opens. next x (goes_with said m.indent tokens x (inr (inr (record { spot = f.spot; opens = opens; inside = f.inside; begins = f.begins; tokens_are = f.front_is })))))

begins_token : (m : Level) (indent : ℕ) (front : List Token) (shown : Token) → (m.context.may_declare ≡ true → m.of_def ≡ true) → BeginsHead m.context m.given front → indent ≡ m.indent → (place : Pos) → RowsBegin (low_elsewhere place) m [] (at_token indent front shown)
begins_token m indent front shown declares begun same place =
    begins_head (low_elsewhere place) m front (at_token indent front shown) declares (elsewhere place m.context m.given front begun) (λ x goes. subst (λ d. GoesOnWith (low_elsewhere place) d front x) (sym same) goes)

begins_ended : (said : Said) (m : Level) (indent : ℕ) (tokens : List Token) → (m.context.may_declare ≡ true → m.of_def ≡ true) → LineStarts said m.context m.given tokens → indent ≡ m.indent → RowsBegin said m [] (at_end indent tokens)
begins_ended said m indent tokens declares begun same = begins_head said m tokens (at_end indent tokens) declares begun (λ x goes. subst (λ d. GoesOnWith said d tokens x) (sym same) goes)

-- the token that shows the fault, and what stands behind it
marked_shown : (line : Line) (lines : List Line) (front : List Token) (t : Token) (behind : List Token) (fault : Fault) → line.tokens ≡ front ++ t ∷ behind → ShowsOnLine t behind fault
    → MarksToken front t (line ∷ lines) (halt_of (length lines) fault)
marked_shown line lines front t behind (Unexpected left) tokens is = (refl, let counted = ap length tokens in let sum = lengths front (t ∷ behind) in omega (arith, counted, sum, is))
  where
    lengths : (a b : List Token) → length (a ++ b) ≡ length a + length b
    lengths [] b = omega arith
    lengths (x ∷ a) b = let more = lengths a b in omega (arith, more)
marked_shown line lines front t behind (TooDeep place) tokens is = tt
marked_shown line lines front t behind (TooMany place) tokens is = is
marked_shown line lines front t behind Memory tokens is = absurd is

-- ---- what passes a limit

-- tokens behind which a simple statement stands behind a `:` are not none
starts_some : (c : Context) (given : List (List ℕ)) (front : List Token) → StartsBehind c given pass front → front ≡ [] → ⊥
starts_some c given front b none =
    let one = same_head (b.made (pass no_spot)) (simple_head (pass no_spot)) (b.tokens_are (pass no_spot) ∙ ap (λ ts. ts ++ simple_tokens (pass no_spot)) none) in
    never (behind_in (b.made (pass no_spot))) (b.behind_is (pass no_spot)) (ap behind_in one)
  where
    never : (o : Option Simple) → o ≡ Some (pass no_spot) → o ≡ None → ⊥
    never None is none = cc
    never (Some s) is none = cc

some_there : (front : List Token) (t : Token) → (front ≡ [] → ⊥) → begins_there front t ≡ true
some_there [] t some = absurd (some refl)
some_there (f ∷ fs) t some = refl

first_kept : (front ts behind : List Token) (shown t : Token) (rest : List Token) → (front ≡ [] → ⊥) → front ++ shown ∷ behind ≡ t ∷ rest → (r : List Token) × (front ++ ts ≡ t ∷ r)
first_kept [] ts behind shown t rest some is = absurd (some refl)
first_kept (f ∷ fs) ts behind shown t rest some is = (fs ++ ts, ap (λ (u : Token). u ∷ (fs ++ ts)) (same_first f t (fs ++ shown ∷ behind) rest is))

-- a line passes a limit where a statement stands behind its `:`
suites_passing : (m : Level) (n : ℕ) (line : Line) (t : Token) (begins : Bool) (limit : Option Limit) → Opened m n line t begins limit → limit ≡ Some Depth → (q : Limits) → q.suites ≤ 50 → (h : Head) (more : List Token) → head_tokens h ≡ t ∷ more
    → is_some (behind_in h) ≡ true → may q m n h ≡ true → ⊥
suites_passing m n line t begins limit o passed q few h more is some fine =
    let parts = each_true (head_stands m.context m.given h) (nat_le (head_depth h) q.height) (nat_le (n + counted h) q.number) (is_none (behind_in h) || nat_le (suc m.depth) q.suites) fine in
    depth_passed q (n + from_bool begins) m.depth (behind_in h) few (sym o.limit_is ∙ passed) some parts.3

number_passing : (m : Level) (n : ℕ) (line : Line) (t : Token) (begins : Bool) (limit : Option Limit) → Opened m n line t begins limit → limit ≡ Some Number → (q : Limits) → q.number ≤ 20000 → (h : Head) (more : List Token) → head_tokens h ≡ t ∷ more
    → is_some (behind_in h) ≡ true → may q m n h ≡ true → ⊥
number_passing m n line t begins limit o passed q few h more is some fine =
    let parts = each_true (head_stands m.context m.given h) (nat_le (head_depth h) q.height) (nat_le (n + counted h) q.number) (is_none (behind_in h) || nat_le (suc m.depth) q.suites) fine in
    number_passed q n m.depth (is_stmt h) (behind_in h) few (sym (o.limit_is ∙ ap (λ b. limit_at (n + from_bool b) m.depth) (begins_as m n line t begins limit o h more is)) ∙ passed) some parts.2

-- no line goes on so, at this indentation
none_ends : (within : Limits → Type 0) (m : Level) (n d : ℕ) (tokens : List Token) → d ≡ m.indent → ((q : Limits) → within q → (h : Head) → head_tokens h ≡ tokens → may q m n h ≡ true → ⊥) → NoneRows within m n [] (at_end d tokens)
none_ends within m n d tokens same none =
    none_line within m n (at_end d tokens) (λ rest shown. subst (λ e. Begun e rest) same (ends_begun d tokens rest shown)) (λ q asks other more h there tokens_are may_follow fine. none q asks h (sym tokens_are ∙ there.1) fine)

-- the statement behind the `:` passes a limit
passes_there : (within : Limits → Type 0) (m : Level) (n : ℕ) (line : Line) (t : Token) (rest front : List Token) (shown : Token) (behind : List Token) → (m.context.may_declare ≡ true → m.of_def ≡ true) → line.tokens ≡ t ∷ rest
    → line.tokens ≡ front ++ shown ∷ behind → StartsBehind m.context m.given pass front → line.indent ≡ m.indent
    → ((q : Limits) → within q → (h : Head) (more : List Token) → head_tokens h ≡ t ∷ more → is_some (behind_in h) ≡ true → may q m n h ≡ true → ⊥)
    → Passes (λ is. RowsFollow m is []) (λ d tokens. NoneRows within m n [] (at_end d tokens)) line.indent front
passes_there within m n line t rest front shown behind declares tokens before b same passing =
    let first_is = first_kept front (keyword (codes "pass") no_spot) behind shown t rest (starts_some m.context m.given front b) (sym before ∙ tokens) in
    record {
      at = no_spot;
      goes_on = follows_line m (b.made (pass no_spot)) (λ other. IsLine other line.indent (front ++ keyword (codes "pass") no_spot))
          (follows_there m (b.made (pass no_spot)) declares (b.stands no_spot)) (b.stands no_spot) (record { indent_is = sym same; tokens_are = b.tokens_are (pass no_spot) });
      none_so = none_ends within m n line.indent (front ++ keyword (codes "pass") no_spot) same (λ q asks h is fine.
          let one : h ≡ b.made (pass no_spot) = same_head h (b.made (pass no_spot)) (is ∙ sym (b.tokens_are (pass no_spot))) in
          passing q asks h first_is.0 (is ∙ first_is.1) (ap (λ g. is_some (behind_in g)) one ∙ ap is_some (b.behind_is (pass no_spot))) fine);
    }

free_number : (a b : Bool) → limit_by a b ≡ Some Depth → a ≡ false
free_number true b is = cc
free_number false true is = refl
free_number false false is = cc

-- how many statements there are with the one behind the `:`
number_there : (m : Level) (n : ℕ) (line : Line) (t : Token) (begins : Bool) (limit : Option Limit) (front : List Token) (shown : Token) (behind : List Token) → Opened m n line t begins limit → line.tokens ≡ front ++ shown ∷ behind → StartsBehind m.context m.given pass front
    → CountsFrom n [] (n + from_bool begins + 1) front
number_there m n line t begins limit front shown behind o before b =
    let first_is = first_kept front (keyword (codes "pass") no_spot) behind shown t o.rest (starts_some m.context m.given front b) (sym before ∙ o.tokens_are) in
    let made = b.made (pass no_spot) in
    let same : begins ≡ is_stmt made = begins_as m n line t begins limit o made first_is.0 (b.tokens_are (pass no_spot) ∙ first_is.1) in
    record {
      at = no_spot;
      next = made;
      next_is = b.tokens_are (pass no_spot);
      before = 0;
      counts = refl;
      number_is = all n begins (is_stmt made) (behind_in made) same (b.behind_is (pass no_spot));
    }
  where
    all : (n : ℕ) (begins is : Bool) (behind : Option Simple) → begins ≡ is → behind ≡ Some (pass no_spot) → n + 0 + ((if is then 1 else 0) + (if is_none behind then 0 else 1)) ≡ n + from_bool begins + 1
    all n true true (Some s) same there = omega arith
    all n false false (Some s) same there = omega arith
    all n true false behind same there = absurd (false≢true (sym same))
    all n false true behind same there = absurd (false≢true same)
    all n begins is None same there = cc

-- there are 20,001
counts_there : (m : Level) (n : ℕ) (line : Line) (t : Token) (begins : Bool) (limit : Option Limit) (front : List Token) (shown : Token) (behind : List Token) → Opened m n line t begins limit → (m.context.may_declare ≡ true → m.of_def ≡ true)
    → n ≤ 20000 → (begins ≡ true → (n < 20000) ⊎ (lacks_handler m.context.last ≡ true)) → line.tokens ≡ front ++ shown ∷ behind → StartsBehind m.context m.given pass front → limit ≡ Some Number → CountsFrom n [] 20001 front
counts_there m n line t begins limit front shown behind o declares few unless_lacking before b passed =
    let first_is = first_kept front (keyword (codes "pass") no_spot) behind shown t o.rest (starts_some m.context m.given front b) (sym before ∙ o.tokens_are) in
    let made = b.made (pass no_spot) in
    let same : begins ≡ is_stmt made = begins_as m n line t begins limit o made first_is.0 (b.tokens_are (pass no_spot) ∙ first_is.1) in
    let fewer = fewer_there m n made begins same declares (b.stands no_spot) unless_lacking in
    let low = few_now n begins few fewer in
    let high = leb-true 20000 (n + from_bool begins) (number_by _ _ (sym o.limit_is ∙ passed)) in
    subst (λ k. CountsFrom n [] k front) (full (n + from_bool begins) low high) (number_there m n line t begins limit front shown behind o before b)
  where
    full : (a : ℕ) → a ≤ 20000 → 20000 ≤ a → a + 1 ≡ 20001
    full a low high = omega (arith, low, high)

-- there are no more than there may be
keeps_there : (m : Level) (n : ℕ) (line : Line) (t : Token) (begins : Bool) (limit : Option Limit) (front : List Token) (shown : Token) (behind : List Token) → Opened m n line t begins limit → line.tokens ≡ front ++ shown ∷ behind → StartsBehind m.context m.given pass front
    → limit ≡ Some Depth → KeepsBy (CountsFrom n []) front
keeps_there m n line t begins limit front shown behind o before b passed = record {
  number = n + from_bool begins + 1;
  counts_are = number_there m n line t begins limit front shown behind o before b;
  within = let less = leb-false 20000 (n + from_bool begins) (free_number _ _ (sym o.limit_is ∙ passed)) in omega (arith, less);
}

-- a first token with which a statement begins passes no limit, where one may stand
order_first : (m : Level) (n d : ℕ) (t : Token) → d ≡ m.indent → (is_stmt_kind t.kind ≡ true → (n < 20000) ⊎ (lacks_handler m.context.last ≡ true)) → is_stmt_kind t.kind ≡ true → NonePass m n [] d [] ⊎ KeepsPass m n [] d []
order_first m n d t same fewer stmt = by (lacks_handler m.context.last) refl
  where
    absent : lacks_handler m.context.last ≡ true → NonePass m n [] d []
    absent lacks at = none_ends (λ q. ⊤) m n d (keyword (codes "pass") at) same (λ q asks h is fine.
        let one : h ≡ simple_head (pass at) = same_head h (simple_head (pass at)) is in
        let stands : head_stands m.context m.given h ≡ true = (each_true (head_stands m.context m.given h) (nat_le (head_depth h) q.height) (nat_le (n + counted h) q.number) (is_none (behind_in h) || nat_le (suc m.depth) q.suites) fine).0 in
        never_both (lacks_handler m.context.last) lacks (left_of (not (lacks_handler m.context.last)) _ (sym (ap (head_stands m.context m.given) one) ∙ stands)))

    keeps : n < 20000 → lacks_handler m.context.last ≡ false → KeepsPass m n [] d []
    keeps less lacks = record {
      number = record { number = n + 1; counts_are = record { at = no_spot; next = simple_head (pass no_spot); next_is = refl; before = 0; counts = refl; number_is = omega arith }; within = omega (arith, less) };
      suites = λ room at. record {
        rows = passed_at at m;
        fits = passed_fits at m lacks;
        may_be = passed_may 50 at m n lacks;
        line = line_of m.indent (simple_head (pass at));
        more = [];
        lines_are = refl;
        line_is = record { indent_is = sym same; tokens_are = refl };
      };
    }

    by : (b : Bool) → lacks_handler m.context.last ≡ b → NonePass m n [] d [] ⊎ KeepsPass m n [] d []
    by true lacks = inl (absent lacks)
    by false lacks = elim (fewer stmt) [ inl less ↦ inr (keeps less lacks) | inr lacking ↦ absurd (false≢true (sym lacks ∙ lacking)) ]

-- a statement behind the `:` of a line that may stand there passes no limit, where none is given
keeps_line : (m : Level) (n d : ℕ) (begins : Bool) (h : Head) (opened : List Token) (at : Spot) → d ≡ m.indent → (m.context.may_declare ≡ true → m.of_def ≡ true) → begins ≡ is_stmt h → n + from_bool begins < 20000 → m.depth < 50 → (opened ≡ [] → ⊥)
    → head_tokens h ≡ opened ++ keyword (codes "pass") at
    → ((g : Head) (other : Spot) → head_tokens g ≡ opened ++ keyword (codes "pass") other → (head_stands m.context m.given g ≡ true) × (head_depth g ≤ 100)) → KeepsPass m n [] d opened
keeps_line m n d begins h opened at same declares begins_is less low some tokens free = record {
  number = record { number = n + counted h; counts_are = record { at = at; next = h; next_is = tokens; before = 0; counts = refl; number_is = omega arith }; within = fits h begins_is };
  suites = λ room other.
      let p = pass_there h opened at other some tokens in
      let one = free p.head other p.tokens_are in
      line_within m n p.head (IsPassAt other d opened) (follows_there m p.head declares one.0) (may_be p.head one.0 one.1 (first_is p.head other p.tokens_are)) low (record { indent_is = sym same; tokens_are = p.tokens_are });
}
  where
    one_more : (begins is : Bool) (behind : Option Simple) → begins ≡ is → n + from_bool begins < 20000 → n + ((if is then 1 else 0) + (if is_none behind then 0 else 1)) ≤ 20000
    one_more true true None is less = omega (arith, less)
    one_more true true (Some s) is less = omega (arith, less)
    one_more false false None is less = omega (arith, less)
    one_more false false (Some s) is less = omega (arith, less)
    one_more true false behind is less = absurd (false≢true (sym is))
    one_more false true behind is less = absurd (false≢true is)

    fits : (g : Head) → begins ≡ is_stmt g → n + counted g ≤ 20000
    fits g is = one_more begins (is_stmt g) (behind_in g) is less

    first_is : (g : Head) (other : Spot) → head_tokens g ≡ opened ++ keyword (codes "pass") other → begins ≡ is_stmt g
    first_is g other is = by opened some tokens is
      where
        by : (opened : List Token) → (opened ≡ [] → ⊥) → head_tokens h ≡ opened ++ keyword (codes "pass") at → head_tokens g ≡ opened ++ keyword (codes "pass") other → begins ≡ is_stmt g
        by [] some one two = absurd (some refl)
        by (f ∷ fs) some one two = begins_is ∙ sym (kind_tells h f (fs ++ keyword (codes "pass") at) one) ∙ kind_tells g f (fs ++ keyword (codes "pass") other) two

    may_be : (g : Head) → head_stands m.context m.given g ≡ true → head_depth g ≤ 100 → begins ≡ is_stmt g → may profile m n g ≡ true
    may_be g stands most is = all_true (head_stands m.context m.given g) (nat_le (head_depth g) 100) (nat_le (n + counted g) 20000) (is_none (behind_in g) || nat_le (suc m.depth) 50)
        stands (le-leb _ _ most) (le-leb _ _ (fits g is)) (or_other (is_none (behind_in g)) (nat_le (suc m.depth) 50) (le-leb (suc m.depth) 50 (omega (arith, low))))

-- no token of a line passes a limit, where a statement begins with it, up to where nothing behind a `:` does
line_keeps : (m : Level) (n : ℕ) (line : Line) (t : Token) (begins : Bool) (limit : Option Limit) → Opened m n line t begins limit → (m.context.may_declare ≡ true → m.of_def ≡ true) → (begins ≡ true → (n < 20000) ⊎ (lacks_handler m.context.last ≡ true))
    → (tokens behind : List Token) → line.tokens ≡ tokens ++ behind → IsFreeBehind m.context m.given limit tokens → line.indent ≡ m.indent → KeepsOrderBy (NonePass m n []) (KeepsPass m n []) line.indent tokens
line_keeps m n line t begins limit o declares fewer tokens behind is free same [] u rest split =
    λ stmt h at opened_is. order_first m n line.indent u same (λ is_one. fewer (o.begins_is ∙ ap (λ (v : Token). is_stmt_kind v.kind) (same_first t u o.rest (rest ++ behind) (sym o.tokens_are ∙ is ∙ ap (λ ts. ts ++ behind) split)) ∙ is_one)) stmt
line_keeps m n line t begins limit o declares fewer tokens behind is free same (f ∷ fs) u rest split =
    λ stmt h at opened_is.
    let some : f ∷ fs ≡ [] → ⊥ = λ none. cc in
    let first_is : t ≡ f = same_first t f o.rest ((fs ++ u ∷ rest) ++ behind) (sym o.tokens_are ∙ is ∙ ap (λ ts. ts ++ behind) split) in
    let clear = none_by (nat_le 20000 (n + from_bool begins)) (nat_le 50 m.depth) (sym o.limit_is ∙ (free (f ∷ fs) u rest split some h at opened_is).0) in
    let less = leb-false 20000 (n + from_bool begins) clear.0 in
    let low = leb-false 50 m.depth clear.1 in
    inr (keeps_line m n line.indent begins h (f ∷ fs) at same declares (o.begins_is ∙ ap (λ (v : Token). is_stmt_kind v.kind) first_is ∙ kind_tells h f (fs ++ keyword (codes "pass") at) opened_is) (omega (arith, less)) (omega (arith, low)) some opened_is
    (λ g other g_is. let one = free (f ∷ fs) u rest split some g other g_is in (one.1, one.2)))

-- the same of fewer tokens
free_less : (c : Context) (given : List (List ℕ)) (limit : Option Limit) (a b : List Token) → IsFreeBehind c given limit (a ++ b) → IsFreeBehind c given limit a
free_less c given limit a b free opened u rest split = free opened u (rest ++ b) (ap (λ ts. ts ++ b) split ∙ append_assoc opened (u ∷ rest) b)

free_before : (c : Context) (given : List (List ℕ)) (limit : Option Limit) (front : List Token) (t : Token) (behind : List Token) (fault : Fault) → ShowsOnLine t behind fault → GoesOnLine c given limit front t fault → IsFreeBehind c given limit front
free_before c given limit front t behind (Unexpected left) shown goes = free_less c given limit front (t ∷ []) goes
free_before c given limit front t behind (TooDeep place) shown (inl goes) = free_less c given limit front (t ∷ []) goes.2
free_before c given limit front t behind (TooDeep place) shown (inr goes) = goes.3
free_before c given limit front t behind (TooMany place) shown goes = goes.2
free_before c given limit front t behind Memory shown goes = absurd shown

all_before : (front : List Token) (t : Token) (behind : List Token) → front ++ t ∷ behind ≡ (front ++ t ∷ []) ++ behind
all_before front t behind = sym (append_assoc front (t ∷ []) behind)

-- the token that shows a fault which names no limit
line_passes : (m : Level) (n : ℕ) (line : Line) (t : Token) (begins : Bool) (limit : Option Limit) (k : ℕ) → Opened m n line t begins limit → (m.context.may_declare ≡ true → m.of_def ≡ true) → (begins ≡ true → (n < 20000) ⊎ (lacks_handler m.context.last ≡ true))
    → (front : List Token) (shown : Token) (behind : List Token) (fault : Fault) → ShowsOnLine shown behind fault → line.tokens ≡ front ++ shown ∷ behind → GoesOnLine m.context m.given limit front shown fault → line.indent ≡ m.indent
    → PassesThere (NonePass m n []) (KeepsPass m n []) (halt_limit (halt_of k fault)) (at_token line.indent front shown)
line_passes m n line t begins limit k o declares fewer front shown behind (Unexpected left) shows_it is goes same =
    line_keeps m n line t begins limit o declares fewer (front ++ shown ∷ []) behind (is ∙ all_before front shown behind) goes same front shown [] refl
line_passes m n line t begins limit k o declares fewer front shown behind (TooDeep place) shows_it is goes same = tt
line_passes m n line t begins limit k o declares fewer front shown behind (TooMany place) shows_it is goes same = tt
line_passes m n line t begins limit k o declares fewer front shown behind Memory shows_it is goes same = absurd shows_it

-- with TooDeep and TooMany, what passes the limit
limit_shown : (m : Level) (n : ℕ) (line : Line) (t : Token) (begins : Bool) (limit : Option Limit) (k : ℕ) (front : List Token) (shown : Token) (behind : List Token) (fault : Fault) → Opened m n line t begins limit
    → (m.context.may_declare ≡ true → m.of_def ≡ true) → n ≤ 20000 → (begins ≡ true → (n < 20000) ⊎ (lacks_handler m.context.last ≡ true)) → line.tokens ≡ front ++ shown ∷ behind → GoesOnLine m.context m.given limit front shown fault
    → ((h : Head) (more : List Token) → head_tokens h ≡ front ++ shown ∷ more → IsAmissHead m.context m.given limit (Here fault) h) → line.indent ≡ m.indent → RowsLimit m n [] (halt_of k fault) (at_token line.indent front shown)
limit_shown m n line t begins limit k front shown behind (Unexpected left) o declares most fewer before goes none same = tt
limit_shown m n line t begins limit k front shown behind Memory o declares most fewer before goes none same = tt
limit_shown m n line t begins limit k front shown behind (TooMany place) o declares most fewer before goes none same = (
  passes_there few_statements m n line t o.rest front shown behind declares o.tokens_are before goes.1 same (number_passing m n line t begins limit o goes.0),
  counts_there m n line t begins limit front shown behind o declares most fewer before goes.1 goes.0,
  some_there front shown (starts_some m.context m.given front goes.1),
)
limit_shown m n line t begins limit k front shown behind (TooDeep place) o declares most fewer before (inr goes) none same =
    inr (
      goes.2,
      passes_there few_suites m n line t o.rest front shown behind declares o.tokens_are before goes.1 same (suites_passing m n line t begins limit o goes.0),
      some_there front shown (starts_some m.context m.given front goes.1),
      keeps_there m n line t begins limit front shown behind o before goes.1 goes.0,
    )
limit_shown m n line t begins limit k front shown behind (TooDeep place) o declares most fewer before (inl goes) none same =
    inl (record {
      goes_on = begins_ended (first_deep_at place) m line.indent (front ++ shown ∷ []) declares (deep_first place m.context m.given (front ++ shown ∷ []) goes.0) same;
      there = goes.1;
      order = line_keeps m n line t begins limit o declares fewer (front ++ shown ∷ []) behind (before ∙ all_before front shown behind) goes.2 same front shown [] refl;
    })

-- what is read behind `del` and `for`
line_reads : (k : ℕ) (front : List Token) (t : Token) (fault : Fault) → UnreadLine front t fault → UnreadLine front t (line_fault (deep_at (halt_of k fault)))
line_reads k front t (Unexpected left) u = record { del_unread = u.del_unread; for_unread = u.for_unread }
line_reads k front t (TooDeep place) u = u
line_reads k front t (TooMany place) u = record { del_unread = u.del_unread; for_unread = u.for_unread }
line_reads k front t Memory u = record { del_unread = u.del_unread; for_unread = u.for_unread }

shown_line : (m : Level) (n : ℕ) (at : Pos) (line : Line) (lines : List Line) (t : Token) (begins : Bool) (limit : Option Limit) (fault : Fault) → Opened m n line t begins limit → (m.context.may_declare ≡ true → m.of_def ≡ true)
    → n ≤ 20000 → (begins ≡ true → (n < 20000) ⊎ (lacks_handler m.context.last ≡ true)) → ShownBy (BeginsHead m.context m.given) (IsAheadOnLine m.context m.given limit) head_tokens (λ fault h. IsAmissHead m.context m.given limit (Here fault) h) line.tokens fault → RefusedLine m n at line lines (halt_of (length lines) fault)
shown_line m n at line lines t begins limit fault o declares most fewer s = record {
  point = at_token line.indent s.front s.shown_by;
  on_line = tt;
  shown = (refl, record { more = s.behind; tokens_are = s.before_is });
  marked = marked_shown line lines s.front s.shown_by s.behind fault s.before_is s.left_is;
  limit = limit_shown m n line t begins limit (length lines) s.front s.shown_by s.behind fault o declares most fewer s.before_is s.goes_on.0 s.none;
  begun = begun_token line.indent s.front s.shown_by;
  begins = begins_token m line.indent s.front s.shown_by declares s.begun;
  reads = line_reads (length lines) s.front s.shown_by fault s.goes_on.1;
  order = λ same. line_keeps m n line t begins limit o declares fewer s.front (s.shown_by ∷ s.behind) s.before_is (free_before m.context m.given limit s.front s.shown_by s.behind fault s.left_is s.goes_on.0) same;
  passes = λ same. line_passes m n line t begins limit (length lines) o declares fewer s.front s.shown_by s.behind fault s.left_is s.before_is s.goes_on.0 same;
  none = λ q asks other more h there tokens_are goes_on fine.
      let is = sym tokens_are ∙ there.1.tokens_are in
      let opens = front_first s.front s.shown_by s.behind there.1.more t o.rest (sym s.before_is ∙ o.tokens_are) in
      amiss q m n begins limit h (length lines) fault asks (begins_as m n line t begins limit o h opens.0 (is ∙ opens.1)) o.limit_is fine (s.none h there.1.more is);
}

-- the first token may stand there
line_goes_on : (m : Level) (n : ℕ) (at : Pos) (line : Line) (lines : List Line) (t : Token) (begins : Bool) (limit : Option Limit) (fault : Fault) → Opened m n line t begins limit → (m.context.may_declare ≡ true → m.of_def ≡ true)
    → n ≤ 20000 → (begins ≡ true → (n < 20000) ⊎ (lacks_handler m.context.last ≡ true)) → HeadRefused m.context m.given limit line.tokens (Here fault) → LineStopped m n at line lines (halt_of (length lines) fault)
line_goes_on m n at line lines t begins limit (Unexpected left) o declares most fewer is = shown_line m n at line lines t begins limit (Unexpected left) o declares most fewer is
line_goes_on m n at line lines t begins limit (TooMany place) o declares most fewer is = shown_line m n at line lines t begins limit (TooMany place) o declares most fewer is
line_goes_on m n at line lines t begins limit (TooDeep place) o declares most fewer is = shown_line m n at line lines t begins limit (TooDeep place) o declares most fewer is
line_goes_on m n at line lines t begins limit Memory o declares most fewer is = tt

-- the first token may not stand there
line_never : (m : Level) (n : ℕ) (at : Pos) (line : Line) (lines : List Line) (t : Token) (rest : List Token) (fault : Fault) → (is_stmt_kind t.kind ≡ true → (n < 20000) ⊎ (lacks_handler m.context.last ≡ true)) → line.tokens ≡ t ∷ rest → kind_may m.context t.kind ≡ false → IsAtFirst (t ∷ rest) (Here fault)
    → LineStopped m n at line lines (halt_of (length lines) fault)
line_never m n at line lines t rest fault fewer tokens absent first = by fault first
  where
    refused : (left : ℕ) → left ≡ length rest → RefusedLine m n at line lines (AtToken (length lines) left)
    refused left left_is = record {
      point = at_token line.indent [] t;
      on_line = tt;
      shown = (refl, record { more = rest; tokens_are = tokens });
      marked = marked_shown line lines [] t rest (Unexpected left) tokens left_is;
      limit = λ same. tt;
      begun = begun_token line.indent [] t;
      begins = λ same place. begins_here m (at_token line.indent [] t) refl;
      reads = first_reads None (at_token line.indent [] t) refl;
      order = λ same opened u inside is. absurd (none_split opened u inside is);
      passes = λ same stmt h at is. order_first m n line.indent t same fewer stmt;
      none = λ q asks other more h there tokens_are goes_on fine.
          false≢true (sym (misplaced_head m.context m.given h t there.1.more (sym tokens_are ∙ there.1.tokens_are) absent)
          ∙ (each_true (head_stands m.context m.given h) (nat_le (head_depth h) q.height) (nat_le (n + counted h) q.number) (is_none (behind_in h) || nat_le (suc m.depth) q.suites) fine).0);
    }

    by : (fault : Fault) → IsAtFirst (t ∷ rest) (Here fault) → LineStopped m n at line lines (halt_of (length lines) fault)
    by (Unexpected left) first = refused left first
    by (TooDeep place) first = absurd first
    by (TooMany place) first = absurd first
    by Memory first = absurd first

pub line_refused : (m : Level) (n : ℕ) (at : Pos) (line : Line) (lines : List Line) (t : Token) (begins : Bool) (limit : Option Limit) (fault : Fault) → Opened m n line t begins limit → (m.context.may_declare ≡ true → m.of_def ≡ true)
    → n ≤ 20000 → (begins ≡ true → (n < 20000) ⊎ (lacks_handler m.context.last ≡ true)) → FirstMay m.context line.tokens (Here fault) → HeadRefused m.context m.given limit line.tokens (Here fault) → LineStopped m n at line lines (halt_of (length lines) fault)
line_refused m n at line lines t begins limit fault o declares most fewer (inl may) is = line_goes_on m n at line lines t begins limit fault o declares most fewer is
line_refused m n at line lines t begins limit fault o declares most fewer (inr first) is =
    line_never m n at line lines t o.rest fault (λ is. fewer (o.begins_is ∙ is)) o.tokens_are (sym (ap (may_begin m.context) o.tokens_are) ∙ first.0) (subst (λ (ts : List Token). IsAtFirst ts (Here fault)) o.tokens_are first.1)

-- a line that ends too early
pub line_ends : (m : Level) (n : ℕ) (at place : Pos) (line : Line) (lines : List Line) (t : Token) (begins : Bool) (limit : Option Limit) → Opened m n line t begins limit → (m.context.may_declare ≡ true → m.of_def ≡ true) → (begins ≡ true → (n < 20000) ⊎ (lacks_handler m.context.last ≡ true)) → place ≡ last_place at line.tokens
    → HeadRefused m.context m.given limit line.tokens End → RefusedLine m n at line lines (AtEnd (length lines) place)
line_ends m n at place line lines t begins limit o declares fewer named e = record {
  point = at_end line.indent line.tokens;
  on_line = tt;
  shown = (refl, refl);
  marked = (refl, named);
  limit = λ same. tt;
  begun = begun_end line.indent line.tokens;
  begins = λ same place. begins_ended (low_elsewhere place) m line.indent line.tokens declares (elsewhere place m.context m.given line.tokens e.begun.0) same;
  reads = tt;
  order = λ same. line_keeps m n line t begins limit o declares fewer line.tokens [] (sym (append-nil line.tokens)) e.begun.1 same;
  passes = λ same. tt;
  none = λ q asks other more h there tokens_are goes_on fine.
      false≢true (sym (e.none h (sym tokens_are ∙ there.1))
      ∙ (each_true (head_stands m.context m.given h) (nat_le (head_depth h) q.height) (nat_le (n + counted h) q.number) (is_none (behind_in h) || nat_le (suc m.depth) q.suites) fine).0);
}

pub refused_at : (m : Level) (limit : Option Limit) (ts us : List Token) (s r : Stop) → ts ≡ us → s ≡ r → HeadRefused m.context m.given limit ts s → HeadRefused m.context m.given limit us r
refused_at m limit ts us s r same stop is = subst (λ (l : List Token). HeadRefused m.context m.given limit l r) same (subst (λ (x : Stop). HeadRefused m.context m.given limit ts x) stop is)

pub first_at : (m : Level) (ts us : List Token) (s r : Stop) → ts ≡ us → s ≡ r → FirstMay m.context ts s → FirstMay m.context us r
first_at m ts us s r same stop is = subst (λ (l : List Token). FirstMay m.context l r) same (subst (λ (x : Stop). FirstMay m.context ts x) stop is)

-- no line is without tokens
pub line_is_empty : (m : Level) (n : ℕ) (at : Pos) (line : Line) (lines : List Line) → line.tokens ≡ [] → RefusedLine m n at line lines (AtEnd (length lines) at)
line_is_empty m n at line lines empty = record {
  point = at_end line.indent [];
  on_line = tt;
  shown = (refl, empty);
  marked = (refl, refl);
  limit = λ same. tt;
  begun = begun_end line.indent [];
  begins = λ same place. begins_here m (at_end line.indent []) refl;
  reads = tt;
  order = λ same opened u inside is. absurd (none_split opened u inside is);
  passes = λ same. tt;
  none = λ q asks other more h there tokens_are goes_on fine. head_some h (sym tokens_are ∙ there.1);
}

-- a statement more than there may be
pub one_too_many : (m : Level) (n : ℕ) (at : Pos) (line : Line) (lines : List Line) (t : Token) (rest : List Token) → line.tokens ≡ t ∷ rest → true ≡ is_stmt_kind t.kind → lacks_handler m.context.last ≡ false → 20000 ≤ n → n ≤ 20000
    → RefusedLine m n at line lines (ManyHalt t.at)
one_too_many m n at line lines t rest tokens begins lacks many few = record {
  point = at_token line.indent [] t;
  on_line = tt;
  shown = (refl, record { more = rest; tokens_are = tokens });
  marked = refl;
  limit = λ same. (
    record {
      at = no_spot;
      goes_on = follows_pass m (λ other. IsLine other line.indent (keyword (codes "pass") no_spot)) lacks (record { indent_is = sym same; tokens_are = refl });
      none_so = none_ends few_statements m n line.indent (keyword (codes "pass") no_spot) same (λ q most h is fine. no_more q most h pass_token [] refl is fine);
    },
    record { at = no_spot; next = simple_head (pass no_spot); next_is = refl; before = 0; counts = refl; number_is = omega (arith, many, few) },
    sym begins,
  );
  begun = begun_token line.indent [] t;
  begins = λ same place. begins_here m (at_token line.indent [] t) refl;
  reads = first_reads None (at_token line.indent [] t) refl;
  order = λ same opened u inside is. absurd (none_split opened u inside is);
  passes = λ same. tt;
  none = λ q asks other more h there tokens_are goes_on fine. no_more q asks h t there.1.more begins (sym tokens_are ∙ there.1.tokens_are) fine;
}
  where
    pass_token : Token
    pass_token = token (Keyword 28) no_spot

    over : (q : Limits) → q.number ≤ 20000 → (s : Bool) (b : Option Simple) → true ≡ s → number_fits q n s b ≡ true → ⊥
    over q most false b is low = false≢true (sym is)
    over q most true None is low = omega (arith, most, many, leb-true (n + (1 + 0)) q.number low)
    over q most true (Some s) is low = omega (arith, most, many, leb-true (n + (1 + 1)) q.number low)

    no_more : (q : Limits) → q.number ≤ 20000 → (h : Head) (u : Token) (more : List Token) → true ≡ is_stmt_kind u.kind → head_tokens h ≡ u ∷ more → may q m n h ≡ true → ⊥
    no_more q most h u more begins_it is fine =
        let parts = each_true (head_stands m.context m.given h) (nat_le (head_depth h) q.height) (nat_le (n + counted h) q.number) (is_none (behind_in h) || nat_le (suc m.depth) q.suites) fine in
        over q most (is_stmt h) (behind_in h) (begins_it ∙ kind_tells h u more is) parts.2
