-- Simple statements: how what is read of a part, or not, tells what is read of the statement.
use Rattle.std.proofs.Common.{◌≡◌, inl, ℕ, ◌+◌, ◌≤◌, ◌<◌, Bool, true, false, List, [], ◌∷◌, ◌++◌, Option, Some, None, option_map, option_and_then, refl, ap, sym, ◌∙◌, arith, subst, append_assoc, append-nil, length, is_some, IfNone, if◌then◌else◌}
use Rattle.prov_base.specs.declared.place.Pos.{Pos}
use Rattle.py_lines.specs.declared.parts.Token.{Token}
use Rattle.py_lines.specs.declared.parts.TokenKind.TheVariants.{Keyword}
use Rattle.py_expressions.specs.declared.fault.Fault.{Fault}
use Rattle.py_expressions.specs.declared.fault.Fault.TheVariants.{Unexpected, TooDeep, TooMany, Memory}
use Rattle.py_expressions.specs.declared.fault.Stop.{Stop}
use Rattle.py_expressions.specs.declared.fault.Stop.TheVariants.{Here, End}
use Rattle.py_expressions.specs.declared.part.Part.{Part}
use Rattle.py_expressions.specs.Concrete.{Spot, Expr}
use Rattle.py_expressions.specs.Tokens.{token, expr_tokens, exprs_tokens}
use Rattle.py_expressions.specs.Trees.{expr_tree}
use Rattle.py_grammar.specs.Written.{Simple, pass}
use Rattle.py_grammar.specs.StatementTokens.{simple_tokens}
use Rattle.py_expressions.specs.Depth.{expr_depth, exprs_depth}
use Rattle.py_grammar.specs.StatementDepth.{simple_depth}
use Rattle.py_expressions.specs.Lies.{expr_lies}
use Rattle.py_grammar.specs.StatementLies.{simple_lies}
use Rattle.py_grammar.specs.WellPlaced.{Around}
use Rattle.py_expressions.specs.Reader.{Read, next_level, starts, read_expr, read_exprs}
use Rattle.py_grammar.specs.StatementReader.{whole, alone, read_simple}
use Rattle.py_expressions.specs.Parsed.{Production, IsDeep, Only, Finds, BeginsWithin, IsFirstDeep, GoesDeep, Shown, is_keyword_next, Refused, Found, FoundRow, expr_part}
use Rattle.py_grammar.specs.ParsedSimple.{leaving_none, simple_part, NamesDeep, BeginsSimple, DeepSimple, has_place, UnreadDel, IsAmiss, SimpleShown, SimpleEnds, SimpleRefused, IsMore}
use Rattle.py_expressions.proofs.Reading.{expr_reads}
use Rattle.py_expressions.proofs.RowReads.{row_reads}
use Rattle.py_expressions.proofs.Refusals.{first_of, only_is, finds_same, finds_weaker}
use Rattle.py_expressions.proofs.Lying.{expr_low}
use Rattle.py_grammar.proofs.LyingLines.{simple_low}
use Rattle.py_expressions.proofs.Stops.{spot_at}

-- ---- what the reader gives

-- no statement is read
pub record ReadsNone (ts : List Token) : Type 0 where
  pub steps : ℕ
  pub none : (n : ℕ) → read_simple (n + steps) ts ≡ None

pub none_found : (P : Simple → Type 0) (ts : List Token) → ReadsNone ts → Finds P simple_part.read ts
none_found P ts is = record { steps = is.steps; only = λ n. only_is P (leaving_none (read_simple (n + is.steps) ts)) None (ap leaving_none (is.none n)) tt }

pub one_found : (P : Simple → Type 0) (ts : List Token) (s : Simple) (steps : ℕ) → ((n : ℕ) → read_simple (n + steps) ts ≡ Some s) → P s → Finds P simple_part.read ts
one_found P ts s steps is holds = record { steps = steps; only = λ n. only_is P (leaving_none (read_simple (n + steps) ts)) (Some (s, [])) (ap leaving_none (is n)) holds }

-- what is read goes by what is read of a part of it
pub record Turns {B : Type 0} (q : Production B) (ts more : List Token) (g : ℕ → B → List Token → Option Simple) : Type 0 where
  pub before : ℕ
  pub behind : ℕ
  pub turns : (n : ℕ) → read_simple (n + before) ts ≡ option_and_then (λ found. g n found.0 found.1) (q.read (n + behind) more)

-- nothing is read where the part is read, and what follows fits nothing
pub turned_none : {B : Type 0} (q : Production B) (ts more rest : List Token) (g : ℕ → B → List Token → Option Simple) (b : B) (steps : ℕ) → Turns q ts more g
    → ((n : ℕ) → q.read (n + steps) more ≡ Some (b, rest)) → ((n : ℕ) → g n b rest ≡ None) → ReadsNone ts
turned_none q ts more rest g b steps is reads none = record {
  steps = steps + is.before;
  none = λ n.
      let up : n + (steps + is.before) ≡ (n + steps) + is.before = omega arith in
      let over : (n + steps) + is.behind ≡ (n + is.behind) + steps = omega arith in
      ap (λ m. read_simple m ts) up ∙ is.turns (n + steps) ∙ ap (λ m. option_and_then (λ found. g (n + steps) found.0 found.1) (q.read m more)) over
      ∙ ap (option_and_then (λ found. g (n + steps) found.0 found.1)) (reads (n + is.behind)) ∙ none (n + steps);
}

-- what is found of the part tells what is found of the statement
pub turned_found : {B : Type 0} (Q : B → Type 0) (P : Simple → Type 0) (q : Production B) (ts more : List Token) (g : ℕ → B → List Token → Option Simple) → Turns q ts more g
    → ((n : ℕ) (b : B) (rest : List Token) → Q b → Only P (leaving_none (g n b rest))) → Finds Q q.read more → Finds P simple_part.read ts
turned_found Q P q ts more g is each finds = record {
  steps = finds.steps + is.before;
  only = λ n.
      let up : n + (finds.steps + is.before) ≡ (n + finds.steps) + is.before = omega arith in
      let over : (n + finds.steps) + is.behind ≡ (n + is.behind) + finds.steps = omega arith in
      only_is P _ _ (ap leaving_none (ap (λ m. read_simple m ts) up ∙ is.turns (n + finds.steps) ∙ ap (λ m. option_and_then (λ found. g (n + finds.steps) found.0 found.1) (q.read m more)) over))
      (behind (g (n + finds.steps)) (q.read ((n + is.behind) + finds.steps) more) (finds.only (n + is.behind)) (each (n + finds.steps)));
}
  where
    behind : (h : _ → List Token → Option Simple) (r : Read _) → Only Q r → ((b : _) (rest : List Token) → Q b → Only P (leaving_none (h b rest))) → Only P (leaving_none (option_and_then (λ found. h found.0 found.1) r))
    behind h None only all = tt
    behind h (Some (b, rest)) only all = all b rest only

-- all tokens are this part
abbrev pub as_whole : {B : Type 0} → (B → Option Simple) → ℕ → B → List Token → Option Simple
as_whole f n b [] = f b
as_whole f n b (t ∷ ts) = None

pub whole_then : {B : Type 0} (f : B → Option Simple) (n : ℕ) (r : Read B) → option_and_then f (whole r) ≡ option_and_then (λ found. as_whole f n found.0 found.1) r
whole_then f n None = refl
whole_then f n (Some (b, [])) = refl
whole_then f n (Some (b, t ∷ ts)) = refl

pub map_whole : {B : Type 0} (f : B → Simple) (n : ℕ) (r : Read B) → option_map f (whole r) ≡ option_and_then (λ found. as_whole (λ b. Some (f b)) n found.0 found.1) r
map_whole f n None = refl
map_whole f n (Some (b, [])) = refl
map_whole f n (Some (b, t ∷ ts)) = refl

pub only_whole : {B : Type 0} (P : Simple → Type 0) (f : B → Option Simple) (n : ℕ) (b : B) (rest : List Token) → Only P (leaving_none (f b)) → Only P (leaving_none (as_whole f n b rest))
only_whole P f n b [] only = only
only_whole P f n b (t ∷ ts) only = tt

pub only_map : {B : Type 0} (P : Simple → Type 0) (f : B → Simple) (o : Option B) → ((b : B) → P (f b)) → Only P (leaving_none (option_map f o))
only_map P f None each = tt
only_map P f (Some b) each = each b

pub only_alone : (P : Simple → Type 0) (s : Simple) (more : List Token) → P s → Only P (leaving_none (alone s more))
only_alone P s [] holds = holds
only_alone P s (t ∷ ts) holds = tt

pub only_if_simple : (P : Simple → Type 0) (b : Bool) (x y : Option Simple) → Only P (leaving_none x) → Only P (leaving_none y) → Only P (leaving_none (if b then x else y))
only_if_simple P true x y one other = one
only_if_simple P false x y one other = other

pub turns_same : {B : Type 0} (q : Production B) (ts us more : List Token) (g : ℕ → B → List Token → Option Simple) → ts ≡ us → Turns q us more g → Turns q ts more g
turns_same q ts us more g is turns = subst (λ (ts : List Token). Turns q ts more g) (sym is) turns

-- ---- how it is refused

-- what lies in a statement of at most this depth lies within it
pub simple_within : (s : Simple) → simple_depth s ≤ 100 → (at : Pos) → simple_lies s at ≤ 100
simple_within s fits at = let low = simple_low s at in omega (arith, low, fits)

pub expr_within : (e : Expr) → expr_depth e ≤ 100 → (at : Pos) → expr_lies e at ≤ 100
expr_within e fits at = let low = expr_low e at in omega (arith, low, fits)

-- how deep what was read is
pub expr_fits : {before after : List Token} {part : Part} → (f : Found expr_part expr_tree 7 100 before part after) → expr_depth f.written ≤ 100
expr_fits f = let high = f.height_is in let low = f.fits in omega (arith, high, low)

pub row_fits : {before after : List Token} {part : Part} → (f : FoundRow 100 before part after) → exprs_depth f.written ≤ 100
row_fits f = let high = f.height_is in let low = f.fits in omega (arith, high, low)

pub spelled : (is : Simple → Bool) (s : Simple) (tokens : List Token) → is s ≡ true → simple_depth s ≤ 100 → simple_tokens s ≡ tokens → BeginsSimple is tokens
spelled is s tokens so fits same = inl (λ at. record { some = s; is_so = so; more = []; tokens_are = same ∙ sym (append-nil tokens); within = λ other apart. simple_within s fits other })

-- whatever stands there, a statement can begin so far
nothing_yet : (around : Around) → BeginsSimple (has_place around) []
nothing_yet around = inl (λ at. record { some = pass (spot_at at); is_so = refl; more = simple_tokens (pass (spot_at at)); tokens_are = refl; within = λ other apart. omega arith })

-- A part begins behind these tokens, and so does what it stands in: within the room where the part does, and what lies too deep first
-- in the part does so in the whole.
pub record Carries {B : Type 0} (q : Production B) (inner : ℕ) (front : List Token) (begins : List Token → Type 0) (deep : List Token → Pos → Type 0) : Type 0 where
  pub within : (tokens : List Token) → BeginsWithin q inner tokens → begins (front ++ tokens)
  pub first : (tokens : List Token) (place : Pos) → IsFirstDeep q inner tokens place → deep (front ++ tokens) place

pub begins_part : {B : Type 0} (is : Simple → Bool) (q : Production B) (inner : ℕ) (front : List Token) (s : B → Simple) → ((b : B) → is (s b) ≡ true) → ((b : B) → simple_tokens (s b) ≡ front ++ q.tokens b)
    → ((b : B) (at : Pos) → q.lies b at ≤ inner → simple_lies (s b) at ≤ 100) → ((b : B) (at : Pos) → inner < q.lies b at → 100 < simple_lies (s b) at) → Carries q inner front (BeginsSimple is) (DeepSimple is)
begins_part is q inner front s so spells low high = record {
  within = λ tokens b. inl (λ at. let c = b at in record {
    some = s c.some;
    is_so = so c.some;
    more = c.more;
    tokens_are = spells c.some ∙ ap (λ ts. front ++ ts) c.tokens_are ∙ sym (append_assoc front tokens c.more);
    within = λ other apart. low c.some other (c.within other apart);
  });
  first = λ tokens place f. inl (record {
    some = s f.some;
    is_so = so f.some;
    more = f.more;
    tokens_are = spells f.some ∙ ap (λ ts. front ++ ts) f.tokens_are ∙ sym (append_assoc front tokens f.more);
    ahead = front ++ f.ahead;
    named = f.named;
    between = f.between;
    front_is = ap (λ ts. front ++ ts) f.front_is ∙ sym (append_assoc front f.ahead (f.named ∷ f.between));
    named_is = f.named_is;
    deep = high f.some place f.deep;
    within = λ other apart. low f.some other (f.within other apart);
  });
}

first_alike : (f : List Token) (t : Token) (more behind : List Token) → first_of (f ++ t ∷ more) ≡ first_of (f ++ t ∷ behind)
first_alike [] t more behind = refl
first_alike (first ∷ f) t more behind = refl

-- a statement that does not begin with `del`
pub other_statement : (before front : List Token) (t : Token) (behind : List Token) (fault : Fault) → is_keyword_next 12 before ≡ false → before ≡ front ++ t ∷ behind → UnreadDel front t fault
other_statement before front t behind fault other is = record {
  there = λ spot inside at e more same. absurd (let no : true ≡ false = sym (ap (λ ts. is_keyword_next 12 (ts ++ t ∷ behind)) at) ∙ sym (ap (is_keyword_next 12) is) ∙ other in cc);
}

-- with TooDeep, what lies too deep first in a part that is refused does so behind these tokens too
goes_behind : {B : Type 0} (deep : List Token → Pos → Type 0) (q : Production B) (inner : ℕ) (front inside : List Token) (t : Token) (fault : Fault) → ((tokens : List Token) (place : Pos) → IsFirstDeep q inner tokens place → deep (front ++ tokens) place) → GoesDeep q inner inside t fault
    → NamesDeep deep (front ++ inside) t fault
goes_behind deep q inner front inside t (TooDeep at) first goes = subst (λ (ts : List Token). deep ts at) (sym (append_assoc front inside (t ∷ []))) (first (inside ++ t ∷ []) at goes)
goes_behind deep q inner front inside t (Unexpected left) first goes = tt
goes_behind deep q inner front inside t (TooMany at) first goes = tt
goes_behind deep q inner front inside t Memory first goes = tt

abbrev IsWeaker : Around → Stop → Type 0
IsWeaker around stop = (s : Simple) → IsDeep stop 100 (simple_lies s) → IsAmiss around stop s

-- a part stands behind these tokens: how it begins, and what is read there
record Stands {B : Type 0} (around : Around) (q : Production B) (inner : ℕ) (front rest : List Token) : Type 0 where
  begins : Carries q inner front (BeginsSimple (has_place around)) (DeepSimple (has_place around))
  finds : (why : Stop) (more : List Token) → first_of more ≡ first_of rest → Finds (λ b. IsDeep why inner (q.lies b)) q.read more → Finds (λ s. IsDeep why 100 (simple_lies s)) simple_part.read (front ++ more)
  unread : (fault : Fault) (s : Shown q inner rest fault) → UnreadDel (front ++ s.front) s.shown_by fault

shown_part : {B : Type 0} (around : Around) (q : Production B) (inner : ℕ) (front rest before : List Token) (fault : Fault) → before ≡ front ++ rest → Stands around q inner front rest → IsWeaker around (Here fault)
    → Shown q inner rest fault → SimpleShown around before fault
shown_part around q inner front rest before fault is part weaker s = record {
  front = front ++ s.front;
  shown_by = s.shown_by;
  behind = s.behind;
  before_is = is ∙ ap (λ ts. front ++ ts) s.before_is ∙ sym (append_assoc front s.front (s.shown_by ∷ s.behind));
  left_is = s.left_is;
  begins = part.begins.within s.front s.begins;
  goes_on = goes_behind (DeepSimple (has_place around)) q inner front s.front s.shown_by fault part.begins.first s.goes_on;
  unread = part.unread fault s;
  none = λ more. finds_same _ simple_part.read _ _ (append_assoc front s.front (s.shown_by ∷ more))
      (finds_weaker _ _ simple_part.read _ weaker (part.finds (Here fault) (s.front ++ s.shown_by ∷ more) (first_alike s.front s.shown_by more s.behind ∙ sym (ap first_of s.before_is)) (s.none more)));
}

refused_there : {B : Type 0} (around : Around) (q : Production B) (inner : ℕ) (front rest before : List Token) (stop : Stop) → before ≡ front ++ rest → Stands around q inner front rest → Refused q inner rest stop → SimpleRefused around before stop
refused_there around q inner front rest before (Here Memory) is part refused = tt
refused_there around q inner front rest before (Here (Unexpected at)) is part refused = shown_part around q inner front rest before (Unexpected at) is part (λ s deep. absurd deep) refused
refused_there around q inner front rest before (Here (TooDeep at)) is part refused = shown_part around q inner front rest before (TooDeep at) is part (λ s deep. deep) refused
refused_there around q inner front rest before (Here (TooMany at)) is part refused = absurd refused.left_is
refused_there around q inner front rest before End is part refused =
    subst (λ (ts : List Token). SimpleEnds around ts End) (sym is)
    (record { begins = part.begins.within rest refused.0; none = finds_weaker _ _ simple_part.read _ (λ s deep. absurd deep) (part.finds End rest refl refused.1) })

-- a part is refused behind these tokens
pub refused_behind : {B : Type 0} (around : Around) (q : Production B) (inner : ℕ) (front rest before : List Token) (stop : Stop) (g : ℕ → B → List Token → Option Simple) → before ≡ front ++ rest
    → ((fault : Fault) (s : Shown q inner rest fault) → UnreadDel (front ++ s.front) s.shown_by fault)
    → Carries q inner front (BeginsSimple (has_place around)) (DeepSimple (has_place around)) → ((more : List Token) → first_of more ≡ first_of rest → Turns q (front ++ more) more g)
    → ((why : Stop) (n : ℕ) (b : B) (left : List Token) → IsDeep why inner (q.lies b) → Only (λ s. IsDeep why 100 (simple_lies s)) (leaving_none (g n b left)))
    → Refused q inner rest stop → SimpleRefused around before stop
refused_behind around q inner front rest before stop g is unread begins turns deep refused = refused_there around q inner front rest before stop is
    (record { begins = begins; finds = λ why more first finds. turned_found _ _ q (front ++ more) more g (turns more first) (deep why) finds; unread = unread })
    refused

pub refused_part : {B : Type 0} (around : Around) (q : Production B) (inner : ℕ) (front rest before : List Token) (stop : Stop) (g : ℕ → B → List Token → Option Simple) → is_keyword_next 12 before ≡ false → before ≡ front ++ rest
    → Carries q inner front (BeginsSimple (has_place around)) (DeepSimple (has_place around)) → ((more : List Token) → first_of more ≡ first_of rest → Turns q (front ++ more) more g)
    → ((why : Stop) (n : ℕ) (b : B) (left : List Token) → IsDeep why inner (q.lies b) → Only (λ s. IsDeep why 100 (simple_lies s)) (leaving_none (g n b left)))
    → Refused q inner rest stop → SimpleRefused around before stop
refused_part around q inner front rest before stop g other is begins turns deep refused = refused_behind around q inner front rest before stop g is
    (λ fault s. other_statement before (front ++ s.front) s.shown_by s.behind fault other (is ∙ ap (λ ts. front ++ ts) s.before_is ∙ sym (append_assoc front s.front (s.shown_by ∷ s.behind))))
    begins turns deep refused

-- the tokens are a statement, and something stands behind them
pub at_token : (around : Around) (tokens : List Token) (t : Token) (ts before : List Token) (left : ℕ) → BeginsSimple (has_place around) tokens → UnreadDel tokens t (Unexpected left) → before ≡ tokens ++ t ∷ ts → left ≡ length ts
    → ((more : List Token) → ReadsNone (tokens ++ t ∷ more)) → SimpleShown around before (Unexpected left)
at_token around tokens t ts before left begun unread is named none = record {
  front = tokens;
  shown_by = t;
  behind = ts;
  before_is = is;
  left_is = named;
  begins = begun;
  goes_on = tt;
  unread = unread;
  none = λ more. none_found _ (tokens ++ t ∷ more) (none more);
}

pub ended_behind : (around : Around) (tokens behind before : List Token) (stop : Stop) → BeginsSimple (has_place around) tokens → ((t : Token) (ts : List Token) (left : ℕ) → behind ≡ t ∷ ts → UnreadDel tokens t (Unexpected left)) → before ≡ tokens ++ behind
    → IsMore behind stop → ((t : Token) (ts more : List Token) → behind ≡ t ∷ ts → ReadsNone (tokens ++ t ∷ more)) → SimpleRefused around before stop
ended_behind around tokens [] before stop begun unread is more none = absurd more
ended_behind around tokens (t ∷ ts) before (Here (Unexpected left)) begun unread is more none = at_token around tokens t ts before left begun (unread t ts left refl) is more (λ rest. none t ts rest refl)
ended_behind around tokens (t ∷ ts) before (Here (TooDeep at)) begun unread is more none = absurd more
ended_behind around tokens (t ∷ ts) before (Here (TooMany at)) begun unread is more none = absurd more
ended_behind around tokens (t ∷ ts) before (Here Memory) begun unread is more none = absurd more
ended_behind around tokens (t ∷ ts) before End begun unread is more none = absurd more

pub ended : (around : Around) (tokens behind before : List Token) (stop : Stop) (s : Simple) → has_place around s ≡ true → simple_depth s ≤ 100 → is_keyword_next 12 before ≡ false → before ≡ tokens ++ behind → simple_tokens s ≡ tokens → IsMore behind stop
    → ((t : Token) (ts more : List Token) → behind ≡ t ∷ ts → ReadsNone (tokens ++ t ∷ more)) → SimpleRefused around before stop
ended around tokens behind before stop s so fits other is spells more none = ended_behind around tokens behind before stop (spelled (has_place around) s tokens so fits spells)
    (λ t ts left next. other_statement before tokens t ts (Unexpected left) other (is ∙ ap (λ us. tokens ++ us) next)) is more none

-- a word that no statement may begin with there
pub misplaced : (around : Around) (t : Token) (behind : List Token) (left : ℕ) → left ≡ length behind
    → ((n : ℕ) (more : List Token) → Only (IsAmiss around (Here (Unexpected left))) (leaving_none (read_simple n (t ∷ more)))) → SimpleShown around (t ∷ behind) (Unexpected left)
misplaced around t behind left named amiss = record {
  front = [];
  shown_by = t;
  behind = behind;
  before_is = refl;
  left_is = named;
  begins = nothing_yet around;
  goes_on = tt;
  unread = record { there = λ spot inside at e more same. absurd (nothing_first spot inside at) };
  none = λ more. record { steps = 0; only = λ n. amiss (n + 0) more };
}
  where
    nothing_first : (spot : Spot) (inside : List Token) → [] ≡ token (Keyword 12) spot ∷ inside → ⊥
    nothing_first spot inside is = cc

-- ---- expressions that were read

pub expr_all : {room : ℕ} {before after : List Token} {part : Part} → (f : Found expr_part expr_tree 7 room before part after) → after ≡ [] → before ≡ expr_tokens f.written
expr_all f is = f.before_is ∙ ap (λ ts. expr_tokens f.written ++ ts) is ∙ append-nil (expr_tokens f.written)

-- they are read too where other tokens follow the next one
pub expr_goes : {room : ℕ} {before after : List Token} {part : Part} → (f : Found expr_part expr_tree 7 room before part after) → (t : Token) (ts rest : List Token) → after ≡ t ∷ ts
    → (n : ℕ) → read_expr (n + (expr_reads f.written).steps) (expr_tokens f.written ++ t ∷ rest) ≡ Some (f.written, t ∷ rest)
expr_goes f t ts rest is n = (expr_reads f.written).reads n (t ∷ rest) (subst (λ (ts : List Token). 7 < next_level ts) is f.beyond)

pub row_goes : {room : ℕ} {before after : List Token} {part : Part} → (f : FoundRow room before part after) → (t : Token) (ts rest : List Token) → after ≡ t ∷ ts
    → (n : ℕ) → read_exprs (n + (row_reads f.written).steps) (exprs_tokens f.written ++ t ∷ rest) ≡ Some (f.written, t ∷ rest)
row_goes f t ts rest is n = (row_reads f.written).reads n (t ∷ rest) (λ ends. subst (λ (ts : List Token). 8 < next_level ts) is (f.beyond ends)) (λ ends. subst (λ (ts : List Token). starts ts ≡ 0) is (f.no_more ends))

-- nothing is deeper than it is
pub not_deeper : (why : Stop) (depth : ℕ) → IsDeep why depth (λ at. depth) → ⊥
not_deeper (Here (TooDeep at)) depth deep = absurd (omega (arith, deep))
not_deeper (Here (Unexpected at)) depth deep = deep
not_deeper (Here (TooMany at)) depth deep = deep
not_deeper (Here Memory) depth deep = deep
not_deeper End depth deep = deep

-- nothing lies too deep where nothing does
pub none_deeper : (room : ℕ) → room < 0 → ⊥
none_deeper room deep = absurd (omega (arith, deep))

-- what holds where nothing was taken
pub from_none : {X : Type 0} (P : Type 0) (o : Option X) (b : Bool) → b ≡ is_some o → b ≡ false → IfNone o P → P
from_none P None b is none holds = holds
from_none P (Some x) b is none holds = absurd (let no : true ≡ false = sym is ∙ none in cc)
