-- Refusals where something may be read all the same: how one of a part is one of what it stands in, and one of a line.
use Rattle.std.proofs.Common.{◌≡◌, ℕ, ◌≤◌, true, false, List, [], ◌∷◌, ◌++◌, Option, None, refl, ap, sym, ◌∙◌, subst, append_assoc, append-nil}
use Rattle.py_lines.specs.declared.parts.Token.{Token}
use Rattle.py_grammar.specs.declared.context.Limit.{Limit}
use Rattle.py_expressions.specs.declared.fault.Fault.{Fault}
use Rattle.py_expressions.specs.declared.fault.Fault.TheVariants.{Unexpected, TooDeep, TooMany, Memory}
use Rattle.py_expressions.specs.declared.fault.Stop.{Stop}
use Rattle.py_expressions.specs.declared.fault.Stop.TheVariants.{Here, End}
use Rattle.py_expressions.specs.Parsed.{Production, ShowsAt, IsAtFirst, IsDeep, Finds, Begins, Refused}
use Rattle.py_expressions.specs.ParsedRows.{first_token}
use Rattle.py_grammar.specs.ParsedHead.{Context, head_stands, head_depth, behind_in, IsAmissHead, BeginsHead, GoesOnLine, IsAheadOnLine, ShownBy, HeadRefused}
use Rattle.py_grammar.specs.LineReader.{Head, head_tokens}
use Rattle.py_grammar.specs.ParsedNames.{BeginsFine, IsNotDeep, ShownAmiss, RefusedAmiss}
use Rattle.py_expressions.proofs.Refusals.{begins_so, finds_same, finds_weaker}
use Rattle.py_grammar.proofs.ShownLines.{shows_on_line}
use Rattle.py_expressions.proofs.Stops.{some_spot}
use Rattle.py_grammar.proofs.NoDel.{is_simple_head}
use Rattle.py_grammar.proofs.Unread.{PassesFor}
use Rattle.py_grammar.proofs.HeadParts.{OnlyHead, HeadTurns, turned_head, BeginsOpening, begins_opening, shown_head, ahead_of_part, ended_line, finds_head_same, first_shown, is_free}
use Rattle.py_lines.specs.declared.parts.TokenKind.TheVariants.{Sign}
use Rattle.py_grammar.proofs.BehindColon.{StaysAhead, stays_front}
use Rattle.py_expressions.specs.Tokens.{token}

-- ---- refusals as such

-- nothing is amiss of any
abbrev pub NoneAmiss : {A : Type 0} → Stop → A → Type 0
NoneAmiss stop a = ⊥

all_fine : {A : Type 0} (p : Production A) (tokens : List Token) → Begins p tokens → BeginsFine p NoneAmiss tokens
all_fine p tokens b = record { some = b.some; fine = λ stop no. no; more = b.more; tokens_are = b.tokens_are }

-- a part without depth that is refused because nothing is read
pub amiss_of_refused : {A : Type 0} (p : Production A) (before : List Token) (stop : Stop) → ((why : Stop) (a : A) → IsDeep why 0 (p.lies a) → ⊥) → Refused p 0 before stop → RefusedAmiss p NoneAmiss before stop
amiss_of_refused p before (Here Memory) low is = tt
amiss_of_refused p before (Here (Unexpected at)) low is = record { front = is.front; shown_by = is.shown_by; behind = is.behind; before_is = is.before_is; left_is = is.left_is; begins = all_fine p is.front (begins_so p 0 is.front is.begins); not_deep = tt; none = λ more. finds_weaker _ _ p.read _ (low (Here (Unexpected at))) (is.none more) }
amiss_of_refused p before (Here (TooDeep at)) low is = absurd (low (Here (TooDeep at)) is.goes_on.some is.goes_on.deep)
amiss_of_refused p before (Here (TooMany at)) low is = absurd is.left_is
amiss_of_refused p before End low is = (all_fine p before (begins_so p 0 before is.0), is.1)

pub amiss_same : {A : Type 0} (p : Production A) (amiss : Stop → A → Type 0) (before other : List Token) (stop : Stop) → before ≡ other → RefusedAmiss p amiss other stop → RefusedAmiss p amiss before stop
amiss_same p amiss before other stop is refused = subst (λ (ts : List Token). RefusedAmiss p amiss ts stop) (sym is) refused

-- A part stands in another behind these tokens: any such part is the beginning of one there, and where only what is amiss is
-- read that begins with the same token, so it is of the other.
pub record AmissInside {A B : Type 0} (p : Production A) (amiss : Stop → A → Type 0) (q : Production B) (inner : Stop → B → Type 0) (front rest : List Token) : Type 0 where
  pub begins : (tokens : List Token) → BeginsFine q inner tokens → BeginsFine p amiss (front ++ tokens)
  pub finds : (stop : Stop) (more : List Token) → first_token more ≡ first_token rest → Finds (inner stop) q.read more → Finds (amiss stop) p.read (front ++ more)

shown_inside : {A B : Type 0} (p : Production A) (amiss : Stop → A → Type 0) (q : Production B) (inner : Stop → B → Type 0) (front rest : List Token) (fault : Fault) → AmissInside p amiss q inner front rest → ShownAmiss q inner rest fault → ShownAmiss p amiss (front ++ rest) fault
shown_inside p amiss q inner front rest fault inside s = record {
  front = front ++ s.front;
  shown_by = s.shown_by;
  behind = s.behind;
  before_is = ap (λ ts. front ++ ts) s.before_is ∙ sym (append_assoc front s.front (s.shown_by ∷ s.behind));
  left_is = s.left_is;
  begins = inside.begins s.front s.begins;
  not_deep = s.not_deep;
  none = λ more. finds_same _ p.read _ _ (append_assoc front s.front (s.shown_by ∷ more))
      (inside.finds (Here fault) (s.front ++ s.shown_by ∷ more) (first_shown s.front s.shown_by more s.behind ∙ sym (ap first_token s.before_is)) (s.none more));
}

pub amiss_inside : {A B : Type 0} (p : Production A) (amiss : Stop → A → Type 0) (q : Production B) (inner : Stop → B → Type 0) (front rest : List Token) (stop : Stop) → AmissInside p amiss q inner front rest → RefusedAmiss q inner rest stop → RefusedAmiss p amiss (front ++ rest) stop
amiss_inside p amiss q inner front rest (Here Memory) inside is = tt
amiss_inside p amiss q inner front rest (Here (Unexpected at)) inside is = shown_inside p amiss q inner front rest (Unexpected at) inside is
amiss_inside p amiss q inner front rest (Here (TooDeep at)) inside is = shown_inside p amiss q inner front rest (TooDeep at) inside is
amiss_inside p amiss q inner front rest (Here (TooMany at)) inside is = shown_inside p amiss q inner front rest (TooMany at) inside is
amiss_inside p amiss q inner front rest End inside is = (inside.begins rest is.0, inside.finds End rest refl is.1)

-- a part begins behind these tokens, and so does what it stands in
pub begins_with : {A B : Type 0} (p : Production A) (amiss : Stop → A → Type 0) (q : Production B) (inner : Stop → B → Type 0) (front : List Token) (whole : B → A) (tail : B → List Token) → ((stop : Stop) (b : B) → amiss stop (whole b) → inner stop b)
    → ((b : B) → p.tokens (whole b) ≡ front ++ (q.tokens b ++ tail b)) → (tokens : List Token) → BeginsFine q inner tokens → BeginsFine p amiss (front ++ tokens)
begins_with p amiss q inner front whole tail fine spells tokens b = record {
  some = whole b.some;
  fine = λ stop is. b.fine stop (fine stop b.some is);
  more = b.more ++ tail b.some;
  tokens_are = spells b.some ∙ ap (λ ts. front ++ (ts ++ tail b.some)) b.tokens_are ∙ regroup front tokens b.more (tail b.some);
}
  where
    regroup : (w x y z : List Token) → w ++ ((x ++ y) ++ z) ≡ (w ++ x) ++ (y ++ z)
    regroup w x y z = ap (λ ts. w ++ ts) (append_assoc x y z) ∙ sym (append_assoc w x (y ++ z))

-- reading stops behind these tokens, where nothing fits that stands there
pub amiss_here : {A : Type 0} (p : Production A) (amiss : Stop → A → Type 0) (before front rest : List Token) (stop : Stop) → before ≡ front ++ rest → IsAtFirst rest stop → BeginsFine p amiss front → (rest ≡ [] → Finds (λ a. ⊥) p.read (front ++ []))
    → ((t : Token) (ts more : List Token) → rest ≡ t ∷ ts → Finds (λ a. ⊥) p.read (front ++ t ∷ more)) → RefusedAmiss p amiss before stop
amiss_here p amiss before front [] End is at begins none_end none_there =
    (subst (BeginsFine p amiss) (sym (is ∙ append-nil front)) begins, subst (Finds (amiss End) p.read) (sym is) (finds_weaker _ _ p.read _ (λ a no. absurd no) (none_end refl)))
amiss_here p amiss before front [] (Here fault) is at begins none_end none_there = cc
amiss_here p amiss before front (t ∷ ts) (Here (Unexpected place)) is at begins none_end none_there = record { front = front; shown_by = t; behind = ts; before_is = is; left_is = at; begins = begins; not_deep = tt; none = λ more. finds_weaker _ _ p.read _ (λ a no. absurd no) (none_there t ts more refl) }
amiss_here p amiss before front (t ∷ ts) (Here (TooDeep place)) is at begins none_end none_there = absurd at
amiss_here p amiss before front (t ∷ ts) (Here (TooMany place)) is at begins none_end none_there = absurd at
amiss_here p amiss before front (t ∷ ts) (Here Memory) is at begins none_end none_there = absurd at
amiss_here p amiss before front (t ∷ ts) End is at begins none_end none_there = absurd at

-- ---- refusals of a line

-- a part of which nothing is amiss begins behind these tokens, and so does a line that may stand there
pub begins_fine_head : {B : Type 0} (c : Context) (given : List (List ℕ)) (q : Production B) (inner : Stop → B → Type 0) (front : List Token) (h : B → Head) (tail : B → List Token)
    → ((b : B) → ((stop : Stop) → inner stop b → ⊥) → head_stands c given (h b) ≡ true) → ((b : B) → is_simple_head (h b) ≡ false) → ((b : B) → behind_in (h b) ≡ None) → ((b : B) → tail b ≡ [] → ⊥) → ((b : B) → head_tokens (h b) ≡ front ++ (q.tokens b ++ tail b))
    → ((b : B) → head_depth (h b) ≤ 100)
    → (tokens : List Token) → BeginsFine q inner tokens → BeginsOpening c given (front ++ tokens)
begins_fine_head c given q inner front h tail stands compound empty some spells fits tokens b =
    begins_opening c given q front h tail b.some (stands b.some b.fine) (compound b.some) (empty b.some) (some b.some) (spells b.some) (fits b.some) tokens b.more b.tokens_are

-- a part of a line stands behind these tokens: how it begins, and what is read there
record StandsSo {B : Type 0} (c : Context) (given : List (List ℕ)) (limit : Option Limit) (q : Production B) (inner : Stop → B → Type 0) (front rest : List Token) : Type 0 where
  begins : (tokens : List Token) → BeginsFine q inner tokens → BeginsOpening c given (front ++ tokens)
  other : PassesFor front rest
  g : ℕ → B → List Token → Option Head
  turns : HeadTurns q front rest g
  each : (why : Stop) (n : ℕ) (b : B) (left : List Token) → inner why b → OnlyHead (IsAmissHead c given limit why) (g n b left)

not_deep_line : (c : Context) (given : List (List ℕ)) (limit : Option Limit) (front : List Token) (t : Token) (behind : List Token) (fault : Fault) → StaysAhead (front ++ t ∷ []) → ShowsAt behind fault → IsNotDeep fault → GoesOnLine c given limit front t fault
not_deep_line c given limit front t behind (Unexpected left) ahead shows low = is_free c given limit (front ++ t ∷ []) ahead
not_deep_line c given limit front t behind (TooDeep at) ahead shows low = absurd low
not_deep_line c given limit front t behind (TooMany at) ahead shows low = absurd shows
not_deep_line c given limit front t behind Memory ahead shows low = absurd shows

shown_so : {B : Type 0} (c : Context) (given : List (List ℕ)) (limit : Option Limit) (q : Production B) (inner : Stop → B → Type 0) (front rest before : List Token) (fault : Fault) → before ≡ front ++ rest → StandsSo c given limit q inner front rest
    → ShownAmiss q inner rest fault → ShownBy (BeginsHead c given) (IsAheadOnLine c given limit) head_tokens (λ fault a. IsAmissHead c given limit (Here fault) a) before fault
shown_so c given limit q inner front rest before fault is part s = shown_head c given limit (front ++ s.front) s.shown_by s.behind before fault
    (is ∙ ap (λ ts. front ++ ts) s.before_is ∙ sym (append_assoc front s.front (s.shown_by ∷ s.behind))) (shows_on_line s.shown_by s.behind fault s.left_is) (part.begins s.front s.begins).begun
    (ahead_of_part c given limit front rest s.front s.shown_by s.behind fault part.other (sym (ap first_token s.before_is)) (part.begins s.front s.begins).clear (not_deep_line c given limit (front ++ s.front) s.shown_by s.behind fault ((part.begins s.front s.begins).ahead s.shown_by) s.left_is s.not_deep))
    (λ more. finds_head_same _ _ _ (append_assoc front s.front (s.shown_by ∷ more))
    (turned_head _ _ q front rest (s.front ++ s.shown_by ∷ more) part.g part.turns (first_shown s.front s.shown_by more s.behind ∙ sym (ap first_token s.before_is)) (part.each (Here fault)) (s.none more)))

refused_so : {B : Type 0} (c : Context) (given : List (List ℕ)) (limit : Option Limit) (q : Production B) (inner : Stop → B → Type 0) (front rest before : List Token) (stop : Stop) → before ≡ front ++ rest → StandsSo c given limit q inner front rest → RefusedAmiss q inner rest stop → HeadRefused c given limit before stop
refused_so c given limit q inner front rest before (Here Memory) is part refused = tt
refused_so c given limit q inner front rest before (Here (Unexpected at)) is part refused = shown_so c given limit q inner front rest before (Unexpected at) is part refused
refused_so c given limit q inner front rest before (Here (TooDeep at)) is part refused = shown_so c given limit q inner front rest before (TooDeep at) is part refused
refused_so c given limit q inner front rest before (Here (TooMany at)) is part refused = absurd refused.left_is
refused_so c given limit q inner front rest before End is part refused =
    ended_line c given limit (front ++ rest) before End is (part.begins rest refused.0).begun (stays_front (front ++ rest) (token (Sign 7) some_spot ∷ []) ((part.begins rest refused.0).ahead (token (Sign 7) some_spot))) (turned_head _ _ q front rest rest part.g part.turns refl (part.each End) refused.1)

-- a part is refused behind these tokens
pub amiss_head : {B : Type 0} (c : Context) (given : List (List ℕ)) (limit : Option Limit) (q : Production B) (inner : Stop → B → Type 0) (front rest before : List Token) (stop : Stop) (g : ℕ → B → List Token → Option Head) → before ≡ front ++ rest
    → ((tokens : List Token) → BeginsFine q inner tokens → BeginsOpening c given (front ++ tokens)) → PassesFor front rest → HeadTurns q front rest g
    → ((why : Stop) (n : ℕ) (b : B) (left : List Token) → inner why b → OnlyHead (IsAmissHead c given limit why) (g n b left))
    → RefusedAmiss q inner rest stop → HeadRefused c given limit before stop
amiss_head c given limit q inner front rest before stop g is begins other turns each refused = refused_so c given limit q inner front rest before stop is
    (record { begins = begins; other = other; g = g; turns = turns; each = each }) refused
