-- The lines that have no `:` or nothing before it, and the tokens with which none may begin.
use Rattle.std.proofs.Common.{◌≡◌, inl, inr, ℕ, Bool, true, false, not, List, [], ◌∷◌, ◌++◌, length, Option, None, refl, ap, sym, ◌∙◌, arith, subst, Some, ◌<◌}
use Rattle.std.specs.Bool.{⊤}
use Rattle.std.proofs.Math.Nat.{le-max_right}
use Rattle.prov_base.specs.declared.place.Pos.{Pos}
use Rattle.py_lines.specs.declared.parts.Token.{Token}
use Rattle.py_lines.specs.declared.parts.TokenKind.TheVariants.{Keyword, Sign}
use Rattle.py_tree.specs.declared.stmt.Form.{Form}
use Rattle.py_tree.specs.declared.stmt.Globals.{Globals}
use Rattle.py_grammar.specs.declared.context.Last.{Last}
use Rattle.py_grammar.specs.declared.context.Last.TheVariants.{Nothing, Loop, If as AfterIf, Try as AfterTry, Handler, Every}
use Rattle.py_grammar.specs.declared.context.Limit.{Limit}
use Rattle.py_expressions.specs.declared.fault.Fault.{Fault}
use Rattle.py_expressions.specs.declared.fault.Fault.TheVariants.{Unexpected, TooDeep, TooMany, Memory}
use Rattle.py_expressions.specs.declared.fault.Stop.{Stop}
use Rattle.py_expressions.specs.declared.fault.Stop.TheVariants.{Here, End}
use Rattle.py_grammar.specs.declared.head.What.{What}
use Rattle.py_grammar.specs.declared.head.What.TheVariants.{Simple as SimpleIs, Else, Try, Global}
use Rattle.py_grammar.specs.declared.head.Behind.{Behind}
use Rattle.py_expressions.specs.Concrete.{Spot}
use Rattle.py_expressions.specs.Tokens.{token}
use Rattle.py_grammar.specs.Written.{Simple, pass, every_kind}
use Rattle.py_grammar.specs.StatementTokens.{simple_tokens}
use Rattle.py_grammar.specs.WellPlaced.{Around, simple_stands}
use Rattle.py_grammar.specs.LineReader.{Head, simple_head, else_head, try_head, except_head, global_head, head_tokens}
use Rattle.py_grammar.specs.StatementLies.{simple_lies}
use Rattle.py_expressions.specs.Parsed.{IsAtFirst, Taken, Refused, one_sign}
use Rattle.py_grammar.specs.ParsedHead.{Context, lacks_handler, takes_handler, BeginsPlaced, DeepPlaced, kind_may, may_begin, is_compound_kind, begins_compound, PlacedFound, HeadFound, OpeningFound, OpeningRefused, BehindFound, BehindRefused, inner_around, is_compound, IsAmissPlaced, IsAmissHead, BeginsHead, DeepHead, GoesOnPlaced, IsAheadPlaced, GoesOnLine, IsAheadOnLine, ShownBy, EndedBy, PlacedRefused, HeadRefused, IsFirstRefused, GlobalFound, GlobalRefused, word_may, Misplaced, IsFreeBehind, EndsHead, head_lies, BeginsThere}
use Rattle.py_expressions.proofs.Stops.{some_spot, spot_at}
use Rattle.py_grammar.proofs.HeadParts.{spelled_head, past_opening, is_free}
use Rattle.py_grammar.proofs.Unread.{unread_at_first, unread_simple}
use Rattle.py_grammar.proofs.ColonParts.{colon_refused, behind_refused, line_found}
use Rattle.py_grammar.proofs.PlacedParts.{none_there, pass_stands, del_stands}
use Rattle.py_grammar.proofs.LineFirsts.{and_false, both_true, not_nothing, simple_some, head_some, head_simple, may_as_simple, may_as_word, misplaced_head}
use Rattle.py_grammar.specs.declared.context.Limit.TheVariants.{Number as ByNumber, Depth}
use Rattle.py_grammar.proofs.BehindColon.{simple_stays, shown_some}

-- ---- where no line may begin

handler_may : (last : Last) → lacks_handler last ≡ true → takes_handler last ≡ true
handler_may Nothing is = cc
handler_may Loop is = cc
handler_may AfterIf is = cc
handler_may AfterTry is = refl
handler_may Handler is = cc
handler_may Every is = cc

-- some line may stand there: `pass`, or `except: pass` where a handler is missing
some_line : (c : Context) (given : List (List ℕ)) → BeginsHead c given []
some_line c given = by (lacks_handler c.last) refl
  where
    by : (b : Bool) → lacks_handler c.last ≡ b → BeginsHead c given []
    by true is = spelled_head c given (λ at. except_head (spot_at at) every_kind (spot_at at) (Some (pass (spot_at at)))) [] (λ at. head_tokens (except_head (spot_at at) every_kind (spot_at at) (Some (pass (spot_at at)))))
        (λ at. both_true (takes_handler c.last) _ (handler_may c.last is) refl) (λ at. refl) (λ at other apart. omega arith)
    by false is = spelled_head c given (λ at. simple_head (pass (spot_at at))) [] (λ at. simple_tokens (pass (spot_at at))) (λ at. both_true _ _ (ap not is) (pass_stands c.around (spot_at at))) (λ at. refl) (λ at other apart. omega arith)

-- a line's first token stands behind no `:`
first_free : (c : Context) (given : List (List ℕ)) (limit : Option Limit) (t : Token) → IsFreeBehind c given limit (t ∷ [])
first_free c given limit t [] u rest is some h at same = absurd (some refl)
first_free c given limit t (o ∷ os) u rest is some h at same = absurd (never os u rest (rest_same t o (os ++ u ∷ rest) is))
  where
    rest_same : (a b : Token) (x : List Token) → a ∷ [] ≡ b ∷ x → [] ≡ x
    rest_same a b x is = cc

    never : (os : List Token) (u : Token) (rest : List Token) → [] ≡ os ++ u ∷ rest → ⊥
    never [] u rest is = cc
    never (o ∷ os) u rest is = cc

at_first_token : (c : Context) (given : List (List ℕ)) (limit : Option Limit) (t : Token) (behind : List Token) (left : ℕ) → left ≡ length behind → ((h : Head) (more : List Token) → head_tokens h ≡ t ∷ more → IsAmissHead c given limit (Here (Unexpected left)) h)
    → ShownBy (BeginsHead c given) (IsAheadOnLine c given limit) head_tokens (λ fault a. IsAmissHead c given limit (Here fault) a) (t ∷ behind) (Unexpected left)
at_first_token c given limit t behind left at_it none = record {
  front = [];
  shown_by = t;
  behind = behind;
  before_is = refl;
  left_is = at_it;
  begun = some_line c given;
  goes_on = (first_free c given limit t, unread_at_first t (Unexpected left));
  none = none;
}

pub misplaced_refused : (c : Context) (t : Token) (behind : List Token) (stop : Stop) → kind_may c t.kind ≡ false → IsAtFirst (t ∷ behind) stop → Misplaced c (t ∷ behind) stop
misplaced_refused c t behind (Here (Unexpected place)) absent at = record { there = λ given limit. at_first_token c given limit t behind place at (λ h more same. misplaced_head c given h t more same absent) }
misplaced_refused c t behind (Here (TooDeep place)) absent at = absurd at
misplaced_refused c t behind (Here (TooMany place)) absent at = absurd at
misplaced_refused c t behind (Here Memory) absent at = absurd at
misplaced_refused c t behind End absent at = absurd at

-- a keyword with which a line may begin there
pub word_is_placed : (c : Context) (n : ℕ) (spot : Spot) (before rest : List Token) → before ≡ token (Keyword n) spot ∷ rest → is_compound_kind (Keyword n) ≡ true → may_begin c before ≡ true → word_may c n ≡ true
word_is_placed c n spot before rest is present may = sym (may_as_word c n present) ∙ sym (ap (may_begin c) is) ∙ may

-- ---- simple statements

may_be_simple : (c : Context) (before : List Token) → begins_compound before ≡ false → may_begin c before ≡ true → (before ≡ [] → ⊥) → not (lacks_handler c.last) ≡ true
may_be_simple c [] absent may some = absurd (some refl)
may_be_simple c (t ∷ ts) absent may some = sym (may_as_simple c t.kind absent) ∙ may

no_handler_lacks : (c : Context) (before : List Token) (s : Simple) → before ≡ simple_tokens s → begins_compound before ≡ false → may_begin c before ≡ true → not (lacks_handler c.last) ≡ true
no_handler_lacks c before s is absent may = may_be_simple c before absent may (λ none. simple_some s (sym is ∙ none))

pub simple_line : (c : Context) (given : List (List ℕ)) (limit : Option Limit) (before : List Token) (form : Form) → may_begin c before ≡ true → begins_compound before ≡ false → PlacedFound c.around before form
    → HeadFound c given limit before (record { what = SimpleIs form; behind = None })
simple_line c given limit before form may absent f = record {
  written = simple_head f.written;
  before_is = f.before_is;
  what_is = f.tree_is;
  behind_is = tt;
  fits = f.fits;
  stands = both_true _ _ (no_handler_lacks c before f.written f.before_is absent may) f.stands;
  within = λ passed. refl;
}

-- with TooDeep, an expression that begins at the place lies too deep in it
abbrev IsDeepLine : Fault → Head → Type 0
IsDeepLine (TooDeep at) h = 100 < head_lies h at
IsDeepLine fault h = ⊤

deep_simple : (c : Context) (fault : Fault) (s : Simple) → IsAmissPlaced c.around None (Here fault) s → IsDeepLine fault (simple_head s)
deep_simple c (TooDeep at) s (inl deep) = deep
deep_simple c (TooDeep at) s (inr absent) = absurd (let no : None ≡ Some Depth = absent.0 in cc)
deep_simple c (TooMany at) s amiss = tt
deep_simple c (Unexpected left) s amiss = tt
deep_simple c Memory s amiss = tt

amiss_simple : (c : Context) (given : List (List ℕ)) (limit : Option Limit) (stop : Stop) (s : Simple) → IsAmissPlaced c.around None stop s → IsAmissHead c given limit stop (simple_head s)
amiss_simple c given limit (Here (TooDeep at)) s (inl deep) = inl deep
amiss_simple c given limit (Here (TooDeep at)) s (inr absent) = absurd (let no : None ≡ Some Depth = absent.0 in cc)
amiss_simple c given limit (Here (TooMany at)) s absent = cc
amiss_simple c given limit (Here (Unexpected at)) s amiss = and_false _ (simple_stands c.around s) amiss
amiss_simple c given limit (Here Memory) s amiss = absurd amiss
amiss_simple c given limit End s amiss = and_false _ (simple_stands c.around s) amiss

begins_simple_line : (c : Context) (given : List (List ℕ)) (tokens : List Token) → not (lacks_handler c.last) ≡ true → BeginsPlaced c.around tokens → BeginsHead c given tokens
begins_simple_line c given tokens free (inl b) = inl (λ at. let k = b at in record { some = simple_head k.some; is_so = both_true _ _ free k.is_so; more = k.more; tokens_are = k.tokens_are; within = k.within })
begins_simple_line c given tokens free (inr b) =
    inr (inl (record { opened = []; starts = inl (refl, λ spot. both_true _ _ free (del_stands c.around b.0 spot)); inside = tokens; begins = b.1; front_is = refl }))

deep_simple_line : (c : Context) (given : List (List ℕ)) (tokens : List Token) (place : Pos) → not (lacks_handler c.last) ≡ true → DeepPlaced c.around tokens place → DeepHead c given tokens place
deep_simple_line c given tokens place free (inl b) = inl (record {
  some = simple_head b.some;
  is_so = both_true _ _ free b.is_so;
  more = b.more;
  tokens_are = b.tokens_are;
  ahead = b.ahead;
  named = b.named;
  between = b.between;
  front_is = b.front_is;
  named_is = b.named_is;
  deep = b.deep;
  within = b.within;
})
deep_simple_line c given tokens place free (inr b) =
    inr (inl (record { opened = []; starts = inl (refl, λ spot. both_true _ _ free (del_stands c.around b.0 spot)); inside = tokens; begins = b.1; front_is = refl }))

goes_simple : (c : Context) (given : List (List ℕ)) (limit : Option Limit) (tokens : List Token) (t : Token) (fault : Fault) → not (lacks_handler c.last) ≡ true → begins_compound (tokens ++ t ∷ []) ≡ false
    → ((h : Head) (more : List Token) → head_tokens h ≡ tokens ++ t ∷ more → IsDeepLine fault h) → GoesOnPlaced c.around None tokens t fault → GoesOnLine c given limit tokens t fault
goes_simple c given limit tokens t (TooDeep at) free absent lies (inl b) = inl (deep_simple_line c given (tokens ++ t ∷ []) at free b.1, lies, is_free c given limit (tokens ++ t ∷ []) (simple_stays (tokens ++ t ∷ []) absent))
goes_simple c given limit tokens t (TooDeep at) free absent lies (inr passed) = absurd (let no : None ≡ Some Depth = passed.0 in cc)
goes_simple c given limit tokens t (TooMany at) free absent lies passed = absurd (let no : None ≡ Some ByNumber = passed.0 in cc)
goes_simple c given limit tokens t (Unexpected left) free absent lies goes = is_free c given limit (tokens ++ t ∷ []) (simple_stays (tokens ++ t ∷ []) absent)
goes_simple c given limit tokens t Memory free absent lies goes = tt

-- a line with these tokens is a simple statement
only_simple : (P : Head → Type 0) (before : List Token) (h : Head) → begins_compound before ≡ false → head_tokens h ≡ before → ((s : Simple) → simple_tokens s ≡ before → P (simple_head s)) → P h
only_simple P [] h absent same each = absurd (head_some h same)
only_simple P (t ∷ ts) h absent same each =
    let is = head_simple h t ts same absent in
    subst P (sym is.is) (each is.s (sym (ap head_tokens is.is) ∙ same))

same_begins : (front : List Token) (t : Token) (a b : List Token) → begins_compound (front ++ t ∷ a) ≡ begins_compound (front ++ t ∷ b)
same_begins [] t a b = refl
same_begins (first ∷ front) t a b = refl

simple_shown : (c : Context) (given : List (List ℕ)) (limit : Option Limit) (before : List Token) (fault : Fault) → begins_compound before ≡ false → may_begin c before ≡ true → ShownBy (BeginsThere c.around None) (IsAheadPlaced c.around None) simple_tokens (λ fault a. IsAmissPlaced c.around None (Here fault) a) before fault
    → ShownBy (BeginsHead c given) (IsAheadOnLine c given limit) head_tokens (λ fault a. IsAmissHead c given limit (Here fault) a) before fault
simple_shown c given limit before fault absent may s = record {
  front = s.front;
  shown_by = s.shown_by;
  behind = s.behind;
  before_is = s.before_is;
  left_is = s.left_is;
  begun = begins_simple_line c given s.front free s.begun.1;
  goes_on = (
    goes_simple c given limit s.front s.shown_by fault free (simple [])
        (λ h more same. only_simple (IsDeepLine fault) (s.front ++ s.shown_by ∷ more) h (simple more) same (λ a is. deep_simple c fault a (s.none a more is))) s.goes_on.0,
    unread_simple c.around s.front s.shown_by fault s.begun.1 s.goes_on.1 (λ spot inside is. no_for spot inside is),
  );
  none = λ h more same. only_simple (IsAmissHead c given limit (Here fault)) (s.front ++ s.shown_by ∷ more) h (simple more) same (λ a is. amiss_simple c given limit (Here fault) a (s.none a more is));
}
  where
    free : not (lacks_handler c.last) ≡ true
    free = may_be_simple c before absent may (λ none. shown_some s.front s.shown_by s.behind (sym s.before_is ∙ none))

    simple : (more : List Token) → begins_compound (s.front ++ s.shown_by ∷ more) ≡ false
    simple more = same_begins s.front s.shown_by more s.behind ∙ sym (ap begins_compound s.before_is) ∙ absent

    no_for : (spot : Spot) (inside : List Token) → s.front ≡ token (Keyword 17) spot ∷ inside → ⊥
    no_for spot inside is = let no : true ≡ false = sym (ap (λ (ts : List Token). begins_compound (ts ++ s.shown_by ∷ s.behind)) is) ∙ sym (ap begins_compound s.before_is) ∙ absent in cc

simple_ended : (c : Context) (given : List (List ℕ)) (limit : Option Limit) (before : List Token) (stop : Stop) → begins_compound before ≡ false → may_begin c before ≡ true → EndedBy (BeginsThere c.around None) simple_tokens (IsAmissPlaced c.around None stop) before
    → EndedBy (EndsHead c given limit) head_tokens (IsAmissHead c given limit stop) before
simple_ended c given limit before stop absent may e = record {
  begun = (by before absent may e.begun.1, is_free c given limit before (simple_stays before absent));
  none = λ h same. only_simple (IsAmissHead c given limit stop) before h absent same (λ a is. amiss_simple c given limit stop a (e.none a is));
}
  where
    by : (before : List Token) → begins_compound before ≡ false → may_begin c before ≡ true → BeginsPlaced c.around before → BeginsHead c given before
    by [] absent may begun = some_line c given
    by (t ∷ ts) absent may begun = begins_simple_line c given (t ∷ ts) (may_be_simple c (t ∷ ts) absent may (not_nothing t ts)) begun

pub simple_line_refused : (c : Context) (given : List (List ℕ)) (limit : Option Limit) (before : List Token) (stop : Stop) → begins_compound before ≡ false → may_begin c before ≡ true → PlacedRefused c.around None before stop → HeadRefused c given limit before stop
simple_line_refused c given limit before (Here Memory) absent may is = tt
simple_line_refused c given limit before (Here (Unexpected at)) absent may is = simple_shown c given limit before (Unexpected at) absent may is
simple_line_refused c given limit before (Here (TooDeep at)) absent may is = simple_shown c given limit before (TooDeep at) absent may is
simple_line_refused c given limit before (Here (TooMany at)) absent may is = simple_shown c given limit before (TooMany at) absent may is
simple_line_refused c given limit before End absent may is = simple_ended c given limit before End absent may is

-- ---- `global`

pub global_line : (c : Context) (given : List (List ℕ)) (limit : Option Limit) (spot : Spot) (before rest : List Token) (names : Globals) → before ≡ token (Keyword 19) spot ∷ rest → may_begin c before ≡ true → GlobalFound given rest names
    → HeadFound c given limit before (record { what = Global names; behind = None })
global_line c given limit spot before rest names is may g = record {
  written = global_head spot g.written;
  before_is = is ∙ ap (λ ts. token (Keyword 19) spot ∷ ts) g.before_is;
  what_is = g.names_are;
  behind_is = tt;
  fits = omega arith;
  stands = both_true _ _ (word_is_placed c 19 spot before rest is refl may) g.none;
  within = λ passed. refl;
}

-- ---- `else`, `try`

pub else_found : (c : Context) (before : List Token) → OpeningFound c 14 before Else before
else_found c before spot = record {
  front = token (Keyword 14) spot ∷ [];
  made = else_head spot;
  before_is = refl;
  tokens_are = λ colon behind. refl;
  steps = 0;
  left = 0;
  reads = λ n more first. refl;
  what_is = λ colon behind. tt;
  behind_is = λ colon behind. refl;
  past = past_opening 14 spot [] (else_head spot some_spot None) some_spot refl refl refl refl;
  depth = 0;
  low = omega arith;
  depth_is = λ colon behind. refl;
  lies_behind = λ colon s at. le-max_right _ (simple_lies s at);
  lies_within = λ colon s at. omega arith;
  stands = λ given colon behind. refl;
}

pub try_found : (c : Context) (before : List Token) → OpeningFound c 31 before Try before
try_found c before spot = record {
  front = token (Keyword 31) spot ∷ [];
  made = try_head spot;
  before_is = refl;
  tokens_are = λ colon behind. refl;
  steps = 0;
  left = 0;
  reads = λ n more first. refl;
  what_is = λ colon behind. tt;
  behind_is = λ colon behind. refl;
  past = past_opening 31 spot [] (try_head spot some_spot None) some_spot refl refl refl refl;
  depth = 0;
  low = omega arith;
  depth_is = λ colon behind. refl;
  lies_behind = λ colon s at. le-max_right _ (simple_lies s at);
  lies_within = λ colon s at. omega arith;
  stands = λ given colon behind. refl;
}

-- ---- with what was taken

abbrev RefusedThere : Context → List (List ℕ) → (limit : Option Limit) → Stop → List Token → Type 0
RefusedThere c given limit stop ts = HeadRefused c given limit ts stop

pub opening_refused_there : (c : Context) (given : List (List ℕ)) (limit : Option Limit) (word : ℕ) (at : Pos) (before rest : List Token) (stop : Stop) → Taken (Keyword word) before at rest → is_compound word ≡ true → may_begin c before ≡ true → OpeningRefused c word rest stop → HeadRefused c given limit before stop
opening_refused_there c given limit word at before rest stop t word_is may refused =
    subst (RefusedThere c given limit stop) (sym t.before_is) (refused.there given limit t.spot (word_is_placed c word t.spot before rest t.before_is word_is may))

pub sign_refused_there : (c : Context) (given : List (List ℕ)) (limit : Option Limit) (word : ℕ) (at : Pos) (before rest after : List Token) (what : What) (stop : Stop) → Taken (Keyword word) before at rest → is_compound word ≡ true → may_begin c before ≡ true → OpeningFound c word rest what after
    → Refused (one_sign 7) 0 after stop → HeadRefused c given limit before stop
sign_refused_there c given limit word at before rest after what stop t word_is may found refused =
    subst (RefusedThere c given limit stop) (sym t.before_is) (colon_refused c given limit word (token (Keyword word) t.spot ∷ rest) after what stop (found t.spot) (word_is_placed c word t.spot before rest t.before_is word_is may) refused)

pub behind_refused_there : (c : Context) (given : List (List ℕ)) (limit : Option Limit) (word : ℕ) (at colon_at : Pos) (before rest after behind : List Token) (what : What) (around : Around) (stop : Stop) → Taken (Keyword word) before at rest
    → is_compound word ≡ true → may_begin c before ≡ true → OpeningFound c word rest what after → Taken (Sign 7) after colon_at behind → around ≡ inner_around word c.around → BehindRefused around limit behind stop → HeadRefused c given limit before stop
behind_refused_there c given limit word at colon_at before rest after behind what around stop t word_is may found colon is refused =
    subst (RefusedThere c given limit stop) (sym t.before_is)
    (behind_refused c given limit word (token (Keyword word) t.spot ∷ rest) after behind what colon.spot stop (found t.spot) (word_is_placed c word t.spot before rest t.before_is word_is may) colon.before_is (subst (λ (a : Around). BehindRefused a limit behind stop) is refused))

pub line_there : (c : Context) (given : List (List ℕ)) (limit : Option Limit) (word : ℕ) (at colon_at : Pos) (before rest after behind : List Token) (what : What) (written : Option Behind) (around : Around) → Taken (Keyword word) before at rest
    → is_compound word ≡ true → may_begin c before ≡ true → OpeningFound c word rest what after → Taken (Sign 7) after colon_at behind → around ≡ inner_around word c.around → BehindFound around limit behind written
    → HeadFound c given limit before (record { what = what; behind = written })
line_there c given limit word at colon_at before rest after behind what written around t word_is may found colon is b =
    subst (λ (ts : List Token). HeadFound c given limit ts (record { what = what; behind = written })) (sym t.before_is)
    (line_found c given limit word (token (Keyword word) t.spot ∷ rest) after behind (record { what = what; behind = written }) colon.spot (found t.spot) colon.before_is
    (word_is_placed c word t.spot before rest t.before_is word_is may) (subst (λ (a : Around). BehindFound a limit behind written) is b))

pub global_refused_there : (c : Context) (given : List (List ℕ)) (limit : Option Limit) (word : ℕ) (at : Pos) (before rest : List Token) (stop : Stop) → Taken (Keyword word) before at rest → word ≡ 19 → may_begin c before ≡ true → GlobalRefused given rest stop → HeadRefused c given limit before stop
global_refused_there c given limit word at before rest stop t is may refused =
    let same : before ≡ token (Keyword 19) t.spot ∷ rest = t.before_is ∙ ap (λ n. token (Keyword n) t.spot ∷ rest) is in
    subst (RefusedThere c given limit stop) (sym same) (refused.there c limit t.spot (word_is_placed c 19 t.spot before rest same refl may))

pub global_there : (c : Context) (given : List (List ℕ)) (limit : Option Limit) (word : ℕ) (at : Pos) (before rest : List Token) (names : Globals) → Taken (Keyword word) before at rest → word ≡ 19 → may_begin c before ≡ true → GlobalFound given rest names
    → HeadFound c given limit before (record { what = Global names; behind = None })
global_there c given limit word at before rest names t is may g =
    global_line c given limit t.spot before rest names (t.before_is ∙ ap (λ n. token (Keyword n) t.spot ∷ rest) is) may g

-- where no keyword was taken
pub simple_there : (c : Context) (given : List (List ℕ)) (limit : Option Limit) (before kept : List Token) (form : Form) → kept ≡ before → may_begin c before ≡ true → begins_compound before ≡ false → PlacedFound c.around kept form
    → HeadFound c given limit before (record { what = SimpleIs form; behind = None })
simple_there c given limit before kept form is may other f = simple_line c given limit before form may other (subst (λ (ts : List Token). PlacedFound c.around ts form) is f)

pub simple_refused_there : (c : Context) (given : List (List ℕ)) (limit : Option Limit) (before kept : List Token) (stop : Stop) → kept ≡ before → may_begin c before ≡ true → begins_compound before ≡ false → PlacedRefused c.around None kept stop → HeadRefused c given limit before stop
simple_refused_there c given limit before kept stop is may other refused = simple_line_refused c given limit before stop other may (subst (λ (ts : List Token). PlacedRefused c.around None ts stop) is refused)

-- ---- tokens that may not begin a line

pub misplaced_there : (c : Context) (before : List Token) (t : Token) (ts : List Token) (may : Bool) (stop : Stop) → before ≡ t ∷ ts → may ≡ kind_may c t.kind → may ≡ false → IsAtFirst (t ∷ ts) stop → Misplaced c before stop
misplaced_there c before t ts may stop is may_is other at = subst (λ (us : List Token). Misplaced c us stop) (sym is) (misplaced_refused c t ts stop (sym may_is ∙ other) at)

pub first_refused_there : (c : Context) (before : List Token) (t : Token) (ts : List Token) (may : Bool) (stop : Stop) → before ≡ t ∷ ts → may ≡ kind_may c t.kind → may ≡ false → IsAtFirst (t ∷ ts) stop → IsFirstRefused c before stop
first_refused_there c before t ts may stop is may_is other at = subst (λ (us : List Token). IsFirstRefused c us stop) (sym is) (sym may_is ∙ other, at)

pub may_begin_there : (c : Context) (before : List Token) (t : Token) (ts : List Token) (may : Bool) → before ≡ t ∷ ts → may ≡ kind_may c t.kind → may ≡ true → may_begin c before ≡ true
may_begin_there c before t ts may is may_is so = ap (may_begin c) is ∙ sym may_is ∙ so

pub may_begin_end : (c : Context) (before : List Token) → length before ≡ 0 → may_begin c before ≡ true
may_begin_end c before none = ap (may_begin c) (none_there before none)

pub else_there : (c : Context) (word : ℕ) (before : List Token) → word ≡ 14 → OpeningFound c word before Else before
else_there c word before is = subst (λ n. OpeningFound c n before Else before) (sym is) (else_found c before)

pub try_there : (c : Context) (word : ℕ) (before : List Token) → word ≡ 31 → OpeningFound c word before Try before
try_there c word before is = subst (λ n. OpeningFound c n before Try before) (sym is) (try_found c before)
