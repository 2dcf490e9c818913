-- The lines that begin compound statements: how what is read of a part, or not, tells what is read of the line.
use Rattle.std.proofs.Common.{◌≡◌, inl, ℕ, ◌+◌, ◌≤◌, ◌<◌, true, false, List, [], ◌∷◌, ◌++◌, Option, Some, None, refl, ap, sym, ◌∙◌, arith, subst, append_assoc, if◌then◌else◌}
use Rattle.std.specs.Bool.{⊤}
use Rattle.prov_base.specs.declared.place.Pos.{Pos}
use Rattle.py_lines.specs.declared.parts.Token.{Token}
use Rattle.py_lines.specs.declared.parts.TokenKind.TheVariants.{Keyword, Sign}
use Rattle.py_grammar.specs.declared.context.Limit.{Limit}
use Rattle.py_expressions.specs.declared.fault.Fault.{Fault}
use Rattle.py_expressions.specs.declared.fault.Fault.TheVariants.{Unexpected, TooDeep, TooMany, Memory}
use Rattle.py_expressions.specs.declared.fault.Stop.{Stop}
use Rattle.py_expressions.specs.declared.fault.Stop.TheVariants.{Here, End}
use Rattle.py_expressions.specs.declared.part.Part.{Part}
use Rattle.py_expressions.specs.Concrete.{Spot}
use Rattle.py_expressions.specs.Tokens.{token}
use Rattle.py_expressions.specs.Trees.{expr_tree}
use Rattle.py_grammar.specs.Written.{Simple}
use Rattle.py_grammar.specs.LineReader.{Head, colon_tokens, head_tokens, then_read, read_colon, read_head}
use Rattle.py_expressions.specs.Reader.{Read, next_level, starts, is_keyword, is_sign}
use Rattle.py_expressions.specs.Parsed.{Production, ShowsAt, IsDeep, Only, Finds, Begins, BeginsWithin, IsFirstDeep, GoesDeep, Shown, Refused, Found, FoundRow, one_keyword, one_sign, one_name, expr_part, exprs_part}
use Rattle.py_expressions.specs.ParsedRows.{first_token, IsRead}
use Rattle.py_grammar.specs.ParsedHead.{Context, head_stands, head_depth, head_lies, behind_in, IsPast, IsAmissHead, ShowsOnLine, BeginsHead, DeepHead, IsFreeBehind, GoesOnLine, IsAheadOnLine, ShownBy, EndedBy, EndsHead, HeadRefused}
use Rattle.py_expressions.proofs.Reading.{expr_reads}
use Rattle.py_expressions.proofs.RowReads.{row_reads}
use Rattle.py_expressions.proofs.Refusals.{begins_so, first_of, next_level_same}
use Rattle.py_expressions.specs.Lies.{nowhere}
use Rattle.py_expressions.proofs.Deepest.{apart_there}
use Rattle.py_grammar.proofs.LyingLines.{head_low}
use Rattle.py_grammar.proofs.HeadReading.{head_reads}
use Rattle.py_grammar.proofs.ShownLines.{shows_on_line}
use Rattle.py_expressions.proofs.Stops.{some_spot}
use Rattle.py_grammar.proofs.NoDel.{has_del, no_del_front, del_absent, is_simple_head, no_del_head}
use Rattle.py_grammar.proofs.Unread.{PassesFor, other_word, unread_clear}
use Rattle.py_grammar.proofs.BehindColon.{StaysAhead, stays, stays_front}

-- ---- what the reader gives

abbrev pub OnlyHead : (Head → Type 0) → Option Head → Type 0
OnlyHead P None = ⊤
OnlyHead P (Some h) = P h

-- with enough steps no line is read but one that is so
pub record FindsHead (P : Head → Type 0) (ts : List Token) : Type 0 where
  pub steps : ℕ
  pub only : (n : ℕ) → OnlyHead P (read_head (n + steps) ts)

pub only_head_is : (P : Head → Type 0) (x y : Option Head) → x ≡ y → OnlyHead P y → OnlyHead P x
only_head_is P x y is only = subst (OnlyHead P) (sym is) only

pub finds_head_weaker : (P Q : Head → Type 0) (ts : List Token) → ((h : Head) → P h → Q h) → FindsHead P ts → FindsHead Q ts
finds_head_weaker P Q ts weaker finds = record { steps = finds.steps; only = λ n. weaken (read_head (n + finds.steps) ts) (finds.only n) }
  where
    weaken : (o : Option Head) → OnlyHead P o → OnlyHead Q o
    weaken None only = tt
    weaken (Some h) only = weaker h only

pub finds_head_same : (P : Head → Type 0) (ts us : List Token) → ts ≡ us → FindsHead P us → FindsHead P ts
finds_head_same P ts us is finds = subst (FindsHead P) (sym is) finds

-- every line that has these tokens is so
pub finds_written : (P : Head → Type 0) (ts : List Token) (h : Head) → FindsHead P ts → head_tokens h ≡ ts → P h
finds_written P ts h finds is =
    let r = head_reads h in
    let sum : r.steps + finds.steps ≡ finds.steps + r.steps = omega arith in
    subst (OnlyHead P) (ap (read_head (r.steps + finds.steps)) (sym is) ∙ ap (λ m. read_head m (head_tokens h)) sum ∙ r.reads finds.steps) (finds.only r.steps)

-- ---- the next token

pub first_same : (a b : List Token) → first_token a ≡ first_token b → first_of a ≡ first_of b
first_same [] [] is = refl
first_same [] (t ∷ ts) is = cc
first_same (t ∷ ts) [] is = cc
first_same (t ∷ ts) (u ∷ us) is = is

pub first_behind : (ts a b : List Token) → first_token a ≡ first_token b → first_token (ts ++ a) ≡ first_token (ts ++ b)
first_behind [] a b is = is
first_behind (t ∷ ts) a b is = refl

pub first_shown : (f : List Token) (t : Token) (more behind : List Token) → first_token (f ++ t ∷ more) ≡ first_token (f ++ t ∷ behind)
first_shown f t more behind = first_behind f (t ∷ more) (t ∷ behind) refl

pub level_same : (a b : List Token) → first_token a ≡ first_token b → next_level a ≡ next_level b
level_same a b is = next_level_same a b (first_same a b is)

pub starts_same : (a b : List Token) → first_token a ≡ first_token b → starts a ≡ starts b
starts_same [] [] is = refl
starts_same [] (t ∷ ts) is = cc
starts_same (t ∷ ts) [] is = cc
starts_same (t ∷ ts) (u ∷ us) is = by t u is
  where
    by : (t u : Token) → Some t ≡ Some u → starts (t ∷ ts) ≡ starts (u ∷ us)
    by t u same = ap (λ (v : Token). starts (v ∷ [])) (one t u same)
      where
        one : (t u : Token) → Some t ≡ Some u → t ≡ u
        one t u eq = cc

-- ---- a part of a line

-- Behind these tokens, where the next one is the first of these, what is read of the line goes by what is read of a part.
pub record HeadTurns {B : Type 0} (q : Production B) (front next : List Token) (g : ℕ → B → List Token → Option Head) : Type 0 where
  pub before : ℕ
  pub behind : ℕ
  pub turns : (n : ℕ) (more : List Token) → first_token more ≡ first_token next → read_head (n + before) (front ++ more) ≡ then_read (q.read (n + behind) more) (g n)

-- what is found of the part tells what is found of the line
pub turned_head : {B : Type 0} (Q : B → Type 0) (P : Head → Type 0) (q : Production B) (front next more : List Token) (g : ℕ → B → List Token → Option Head) → HeadTurns q front next g → first_token more ≡ first_token next
    → ((n : ℕ) (b : B) (rest : List Token) → Q b → OnlyHead P (g n b rest)) → Finds Q q.read more → FindsHead P (front ++ more)
turned_head Q P q front next more g is first each finds = record {
  steps = finds.steps + is.before;
  only = λ n.
      let up : n + (finds.steps + is.before) ≡ (n + finds.steps) + is.before = omega arith in
      let over : (n + finds.steps) + is.behind ≡ (n + is.behind) + finds.steps = omega arith in
      only_head_is P _ _ (ap (λ m. read_head m (front ++ more)) up ∙ is.turns (n + finds.steps) more first ∙ ap (λ m. then_read (q.read m more) (g (n + finds.steps))) over)
      (behind (g (n + finds.steps)) (q.read ((n + is.behind) + finds.steps) more) (finds.only (n + is.behind)) (each (n + finds.steps)));
}
  where
    behind : (h : _ → List Token → Option Head) (r : Read _) → Only Q r → ((b : _) (rest : List Token) → Q b → OnlyHead P (h b rest)) → OnlyHead P (then_read r h)
    behind h None only all = tt
    behind h (Some (b, rest)) only all = all b rest only

-- behind a part that was read
pub turned_behind : {B : Type 0} (P : Head → Type 0) (q : Production B) (front next more : List Token) (g : ℕ → B → List Token → Option Head) (b : B) → HeadTurns q front next g → (is_read : IsRead q b more)
    → first_token (q.tokens b ++ more) ≡ first_token next → ((n : ℕ) → OnlyHead P (g n b more)) → FindsHead P (front ++ (q.tokens b ++ more))
turned_behind P q front next more g b is is_read first each = record {
  steps = is_read.steps + is.before;
  only = λ n.
      let up : n + (is_read.steps + is.before) ≡ (n + is_read.steps) + is.before = omega arith in
      let over : (n + is_read.steps) + is.behind ≡ (n + is.behind) + is_read.steps = omega arith in
      only_head_is P _ _ (ap (λ m. read_head m (front ++ (q.tokens b ++ more))) up ∙ is.turns (n + is_read.steps) (q.tokens b ++ more) first
      ∙ ap (λ m. then_read (q.read m (q.tokens b ++ more)) (g (n + is_read.steps))) over ∙ ap (λ r. then_read r (g (n + is_read.steps))) (is_read.reads (n + is.behind) more refl))
      (each (n + is_read.steps));
}

-- a part behind a part that was read
pub turns_on : {B C : Type 0} (q : Production B) (r : Production C) (front next after : List Token) (g : ℕ → B → List Token → Option Head) (k : ℕ) (f : ℕ → C → List Token → Option Head) (b : B)
    → HeadTurns q front next g → (is_read : IsRead q b after) → next ≡ q.tokens b ++ after
    → ((n : ℕ) (more : List Token) → first_token more ≡ first_token after → g n b more ≡ then_read (r.read (n + k) more) (f n))
    → HeadTurns r (front ++ q.tokens b) after (λ n. f (n + is_read.steps))
turns_on q r front next after g k f b is is_read next_is turns = record {
  before = is_read.steps + is.before;
  behind = is_read.steps + k;
  turns = λ n more first.
      let up : n + (is_read.steps + is.before) ≡ (n + is_read.steps) + is.before = omega arith in
      let over : (n + is_read.steps) + is.behind ≡ (n + is.behind) + is_read.steps = omega arith in
      let same : (n + is_read.steps) + k ≡ n + (is_read.steps + k) = omega arith in
      ap (read_head (n + (is_read.steps + is.before))) (append_assoc front (q.tokens b) more)
      ∙ ap (λ m. read_head m (front ++ (q.tokens b ++ more))) up
      ∙ is.turns (n + is_read.steps) (q.tokens b ++ more) (first_behind (q.tokens b) more after first ∙ sym (ap first_token next_is))
      ∙ ap (λ m. then_read (q.read m (q.tokens b ++ more)) (g (n + is_read.steps))) over
      ∙ ap (λ r. then_read r (g (n + is_read.steps))) (is_read.reads (n + is.behind) more first)
      ∙ turns (n + is_read.steps) more first
      ∙ ap (λ m. then_read (r.read m more) (f (n + is_read.steps))) same;
}

-- the `:` behind a part that was read: what `Opening` asks of the reader
pub record ColonReads (front after : List Token) (made : Spot → Option Simple → Head) : Type 0 where
  pub steps : ℕ
  pub left : ℕ
  pub reads : (n : ℕ) (more : List Token) → first_token more ≡ first_token after → read_head (n + steps) (front ++ more) ≡ read_colon (n + left) made more

pub colon_on : {B : Type 0} (q : Production B) (front next after : List Token) (g : ℕ → B → List Token → Option Head) (k : ℕ) (made : Spot → Option Simple → Head) (b : B)
    → HeadTurns q front next g → IsRead q b after → next ≡ q.tokens b ++ after
    → ((n : ℕ) (more : List Token) → first_token more ≡ first_token after → g n b more ≡ read_colon (n + k) made more)
    → ColonReads (front ++ q.tokens b) after made
colon_on q front next after g k made b is is_read next_is turns = record {
  steps = is_read.steps + is.before;
  left = is_read.steps + k;
  reads = λ n more first.
      let up : n + (is_read.steps + is.before) ≡ (n + is_read.steps) + is.before = omega arith in
      let over : (n + is_read.steps) + is.behind ≡ (n + is.behind) + is_read.steps = omega arith in
      let same : (n + is_read.steps) + k ≡ n + (is_read.steps + k) = omega arith in
      ap (read_head (n + (is_read.steps + is.before))) (append_assoc front (q.tokens b) more)
      ∙ ap (λ m. read_head m (front ++ (q.tokens b ++ more))) up
      ∙ is.turns (n + is_read.steps) (q.tokens b ++ more) (first_behind (q.tokens b) more after first ∙ sym (ap first_token next_is))
      ∙ ap (λ m. then_read (q.read m (q.tokens b ++ more)) (g (n + is_read.steps))) over
      ∙ ap (λ r. then_read r (g (n + is_read.steps))) (is_read.reads (n + is.behind) more first)
      ∙ turns (n + is_read.steps) more first
      ∙ ap (λ m. read_colon m made more) same;
}

-- ---- parts that were read

pub expr_is_read : {room : ℕ} {before after : List Token} {part : Part} → (f : Found expr_part expr_tree 7 room before part after) → IsRead expr_part f.written after
expr_is_read f = record {
  steps = (expr_reads f.written).steps;
  reads = λ n more first. (expr_reads f.written).reads n more (let level = level_same more _ first in let beyond = f.beyond in omega (arith, level, beyond));
}

pub row_is_read : {room : ℕ} {before after : List Token} {part : Part} → (f : FoundRow room before part after) → IsRead exprs_part f.written after
row_is_read f = record {
  steps = (row_reads f.written).steps;
  reads = λ n more first. (row_reads f.written).reads n more
      (λ ends. let level = level_same more _ first in let beyond = f.beyond ends in omega (arith, level, beyond)) (λ ends. starts_same more _ first ∙ f.no_more ends);
}

-- a keyword or a sign, whose number is itself
pub keyword_is_read : (number : ℕ) (spot : Spot) (after : List Token) → is_keyword number (Keyword number) ≡ true → IsRead (one_keyword number) spot after
keyword_is_read number spot after itself = record { steps = 0; reads = λ n more first. ap (λ b. if b then Some (spot, more) else None) itself }

pub sign_is_read : (number : ℕ) (spot : Spot) (after : List Token) → is_sign number (Sign number) ≡ true → IsRead (one_sign number) spot after
sign_is_read number spot after itself = record { steps = 0; reads = λ n more first. ap (λ b. if b then Some (spot, more) else None) itself }

pub name_is_read : (spot : Spot) (bytes : List ℕ) (after : List Token) → IsRead one_name (spot, bytes) after
name_is_read spot bytes after = record { steps = 0; reads = λ n more first. refl }

-- ---- how a line begins

-- a line of at most this depth lies within it
pub head_within : (h : Head) → head_depth h ≤ 100 → (at : Pos) → head_lies h at ≤ 100
head_within h fits at = let low = head_low h at in omega (arith, low, fits)

-- a line has these first tokens, whatever place is chosen for what is put behind
pub spelled_head : (c : Context) (given : List (List ℕ)) (h : Pos → Head) (front : List Token) (more : Pos → List Token) → ((at : Pos) → head_stands c given (h at) ≡ true) → ((at : Pos) → head_tokens (h at) ≡ front ++ more at)
    → ((at other : Pos) → (other ≡ at → ⊥) → head_lies (h at) other ≤ 100) → BeginsHead c given front
spelled_head c given h front more stands is low = inl (λ at. record { some = h at; is_so = stands at; more = more at; tokens_are = is at; within = low at })

-- a part begins, behind these tokens, and so does a line
pub spelled_part : {B : Type 0} (q : Production B) (front : List Token) (h : B → Head) (tail : B → List Token) (b : B) → head_tokens (h b) ≡ front ++ (q.tokens b ++ tail b) → (tokens more : List Token) → q.tokens b ≡ tokens ++ more
    → head_tokens (h b) ≡ (front ++ tokens) ++ (more ++ tail b)
spelled_part q front h tail b spells tokens more is = spells ∙ ap (λ ts. front ++ (ts ++ tail b)) is ∙ regroup front tokens more (tail b)
  where
    regroup : (w x y z : List Token) → w ++ ((x ++ y) ++ z) ≡ (w ++ x) ++ (y ++ z)
    regroup w x y z = ap (λ ts. w ++ ts) (append_assoc x y z) ∙ sym (append_assoc w x (y ++ z))

-- A line that may stand there begins so, and no `del` stands in it. Nothing that has begun lies too deep, nor anything behind a `:`, whatever
-- comes next.
pub record BeginsOpening (c : Context) (given : List (List ℕ)) (front : List Token) : Type 0 where
  pub begun : BeginsHead c given front
  pub clear : has_del front ≡ false
  pub ahead : (t : Token) → StaysAhead (front ++ t ∷ [])

-- A part begins behind these tokens, and so does a line, in which no `del` stands: within the room where the part does, and what lies too
-- deep first in the part does so in the line.
pub record CarriesHead {B : Type 0} (c : Context) (given : List (List ℕ)) (q : Production B) (inner : ℕ) (front : List Token) : Type 0 where
  pub within : (tokens : List Token) → BeginsWithin q inner tokens → BeginsHead c given (front ++ tokens)
  pub first : (tokens : List Token) (place : Pos) → IsFirstDeep q inner tokens place → DeepHead c given (front ++ tokens) place
  pub clear : (tokens : List Token) → Begins q tokens → has_del (front ++ tokens) ≡ false
  pub ahead : (tokens : List Token) (t : Token) → Begins q tokens → (why : Stop) → ((more : List Token) → Finds (λ b. IsDeep why inner (q.lies b)) q.read (tokens ++ t ∷ more)) → StaysAhead ((front ++ tokens) ++ t ∷ [])
  pub ended : (tokens : List Token) → Begins q tokens → Finds (λ b. ⊥) q.read tokens → StaysAhead (front ++ tokens)

-- what begins a compound statement, a part of one or a `global` line, with nothing behind its `:`
pub clear_before : (h : Head) (front more : List Token) → is_simple_head h ≡ false → behind_in h ≡ None → head_tokens h ≡ front ++ more → has_del front ≡ false
clear_before h front more compound empty is = no_del_front front more (subst (λ (ts : List Token). has_del ts ≡ false) is (no_del_head h compound empty))

-- nothing stands behind the `:` yet, where a line with nothing behind it goes on with something
pub stays_before : (h : Head) (front more tail : List Token) → behind_in h ≡ None → (tail ≡ [] → ⊥) → head_tokens h ≡ front ++ (more ++ tail) → (t : Token) → StaysAhead (front ++ t ∷ [])
stays_before h front [] [] empty some is t = absurd (some refl)
stays_before h front [] (u ∷ us) empty some is t = stays h empty front u us is t
stays_before h front (m ∷ ms) tail empty some is t = stays h empty front m (ms ++ tail) is t

pub begins_opening : {B : Type 0} (c : Context) (given : List (List ℕ)) (q : Production B) (front : List Token) (h : B → Head) (tail : B → List Token) (b : B) → head_stands c given (h b) ≡ true → is_simple_head (h b) ≡ false → behind_in (h b) ≡ None
    → (tail b ≡ [] → ⊥) → head_tokens (h b) ≡ front ++ (q.tokens b ++ tail b) → head_depth (h b) ≤ 100 → (tokens more : List Token) → q.tokens b ≡ tokens ++ more → BeginsOpening c given (front ++ tokens)
begins_opening c given q front h tail b stands compound empty some spells fits tokens more same =
    let is = spelled_part q front h tail b spells tokens more same in
    record {
      begun = spelled_head c given (λ at. h b) (front ++ tokens) (λ at. more ++ tail b) (λ at. stands) (λ at. is) (λ at other apart. head_within (h b) fits other);
      clear = clear_before (h b) (front ++ tokens) (more ++ tail b) compound empty is;
      ahead = stays_before (h b) (front ++ tokens) more (tail b) empty some is;
    }

-- what is put behind the part stands at the chosen place
pub begins_part_head : {B : Type 0} (c : Context) (given : List (List ℕ)) (q : Production B) (inner : ℕ) (front : List Token) (h : Pos → B → Head) (tail : Pos → B → List Token) → ((at : Pos) (b : B) → head_stands c given (h at b) ≡ true)
    → ((at : Pos) (b : B) → is_simple_head (h at b) ≡ false) → ((at : Pos) (b : B) → behind_in (h at b) ≡ None) → ((at : Pos) (b : B) → tail at b ≡ [] → ⊥) → ((at : Pos) (b : B) → head_tokens (h at b) ≡ front ++ (q.tokens b ++ tail at b))
    → ((at other : Pos) → (other ≡ at → ⊥) → (b : B) → q.lies b other ≤ inner → head_lies (h at b) other ≤ 100)
    → ((at place : Pos) (b : B) → inner < q.lies b place → 100 < head_lies (h at b) place) → CarriesHead c given q inner front
begins_part_head c given q inner front h tail stands compound empty some spells low high = record {
  within = λ tokens b. inl (λ at. let k = b at in record {
    some = h at k.some;
    is_so = stands at k.some;
    more = k.more ++ tail at k.some;
    tokens_are = spelled_part q front (h at) (tail at) k.some (spells at k.some) tokens k.more k.tokens_are;
    within = λ other apart. low at other apart k.some (k.within other apart);
  });
  first = λ tokens place f. inl (record {
    some = h place f.some;
    is_so = stands place f.some;
    more = f.more ++ tail place f.some;
    tokens_are = spelled_part q front (h place) (tail place) f.some (spells place f.some) tokens f.more f.tokens_are;
    ahead = front ++ f.ahead;
    named = f.named;
    between = f.between;
    front_is = ap (λ ts. front ++ ts) f.front_is ∙ sym (append_assoc front f.ahead (f.named ∷ f.between));
    named_is = f.named_is;
    deep = high place place f.some f.deep;
    within = λ other apart. low place other (apart_there f.named.at other place apart.0 f.named_is) f.some (f.within other apart);
  });
  clear = λ tokens b.
      clear_before (h nowhere b.some) (front ++ tokens) (b.more ++ tail nowhere b.some) (compound nowhere b.some) (empty nowhere b.some)
      (spelled_part q front (h nowhere) (tail nowhere) b.some (spells nowhere b.some) tokens b.more b.tokens_are);
  ahead = λ tokens t b why none. there tokens b t;
  ended = λ tokens b none. stays_front (front ++ tokens) (token (Sign 7) some_spot ∷ []) (there tokens b (token (Sign 7) some_spot));
}
  where
    there : (tokens : List Token) → Begins q tokens → (t : Token) → StaysAhead ((front ++ tokens) ++ t ∷ [])
    there tokens b = stays_before (h nowhere b.some) (front ++ tokens) b.more (tail nowhere b.some) (empty nowhere b.some) (some nowhere b.some)
        (spelled_part q front (h nowhere) (tail nowhere) b.some (spells nowhere b.some) tokens b.more b.tokens_are)

-- what begins so up to its `:`, with another keyword than `for`
pub past_opening : (word : ℕ) (spot : Spot) (tokens : List Token) (h : Head) (colon : Spot) → is_keyword 17 (Keyword word) ≡ false → is_simple_head h ≡ false → behind_in h ≡ None → head_tokens h ≡ (token (Keyword word) spot ∷ tokens) ++ colon_tokens colon None
    → IsPast (token (Keyword word) spot ∷ tokens)
past_opening word spot tokens h colon other compound empty is = record {
  no_del = λ opened at inside there. del_absent (token (Keyword word) spot ∷ tokens) opened at inside (clear_before h (token (Keyword word) spot ∷ tokens) (colon_tokens colon None) compound empty is) there;
  no_for = λ at behind inside there passed s more same. other_word word spot at (tokens ++ behind) inside other there;
}

-- ---- how it is refused

amiss_deep : (c : Context) (given : List (List ℕ)) (limit : Option Limit) (stop : Stop) (h : Head) → IsDeep stop 100 (head_lies h) → IsAmissHead c given limit stop h
amiss_deep c given limit (Here (TooDeep at)) h deep = inl deep
amiss_deep c given limit (Here (Unexpected at)) h deep = absurd deep
amiss_deep c given limit (Here (TooMany at)) h deep = absurd deep
amiss_deep c given limit (Here Memory) h deep = absurd deep
amiss_deep c given limit End h deep = absurd deep

-- the tokens begin a line, and those up to and with the next one none that may stand there
pub shown_head : (c : Context) (given : List (List ℕ)) (limit : Option Limit) (front : List Token) (t : Token) (behind before : List Token) (fault : Fault) → before ≡ front ++ t ∷ behind → ShowsOnLine t behind fault → BeginsHead c given front → IsAheadOnLine c given limit front t fault
    → ((more : List Token) → FindsHead (IsAmissHead c given limit (Here fault)) (front ++ t ∷ more)) → ShownBy (BeginsHead c given) (IsAheadOnLine c given limit) head_tokens (λ fault a. IsAmissHead c given limit (Here fault) a) before fault
shown_head c given limit front t behind before fault is named begun goes finds = record {
  front = front;
  shown_by = t;
  behind = behind;
  before_is = is;
  left_is = named;
  begun = begun;
  goes_on = goes;
  none = λ h more same. finds_written _ (front ++ t ∷ more) h (finds more) same;
}

-- where nothing stands behind a `:`, no limit is passed there
pub is_free : (c : Context) (given : List (List ℕ)) (limit : Option Limit) (tokens : List Token) → StaysAhead tokens → IsFreeBehind c given limit tokens
is_free c given limit tokens ahead opened t rest is some h at same = absurd (ahead opened t rest is some h at same)

pub ended_line : (c : Context) (given : List (List ℕ)) (limit : Option Limit) (tokens before : List Token) (stop : Stop) → before ≡ tokens → BeginsHead c given tokens → StaysAhead tokens → FindsHead (IsAmissHead c given limit stop) tokens
    → EndedBy (EndsHead c given limit) head_tokens (IsAmissHead c given limit stop) before
ended_line c given limit tokens before stop is begun ahead finds = subst (λ (ts : List Token). EndedBy (EndsHead c given limit) head_tokens (IsAmissHead c given limit stop) ts) (sym is)
    (record { begun = (begun, is_free c given limit tokens ahead); none = λ h same. finds_written _ tokens h finds same })

-- a part goes on with this token, and so does the line
goes_on_line : {B : Type 0} (c : Context) (given : List (List ℕ)) (limit : Option Limit) (q : Production B) (inner : ℕ) (front tokens : List Token) (t : Token) (behind : List Token) (fault : Fault)
    → ((ts : List Token) (place : Pos) → IsFirstDeep q inner ts place → DeepHead c given (front ++ ts) place) → StaysAhead ((front ++ tokens) ++ t ∷ []) → ((h : Head) (more : List Token) → head_tokens h ≡ (front ++ tokens) ++ t ∷ more → IsDeep (Here fault) 100 (head_lies h))
    → ShowsAt behind fault → GoesDeep q inner tokens t fault → GoesOnLine c given limit (front ++ tokens) t fault
goes_on_line c given limit q inner front tokens t behind (Unexpected left) first ahead lies shows goes = is_free c given limit ((front ++ tokens) ++ t ∷ []) ahead
goes_on_line c given limit q inner front tokens t behind (TooDeep at) first ahead lies shows goes =
    inl (subst (λ (ts : List Token). DeepHead c given ts at) (sym (append_assoc front tokens (t ∷ []))) (first (tokens ++ t ∷ []) at goes), lies, is_free c given limit ((front ++ tokens) ++ t ∷ []) ahead)
goes_on_line c given limit q inner front tokens t behind (TooMany at) first ahead lies shows goes = absurd shows
goes_on_line c given limit q inner front tokens t behind Memory first ahead lies shows goes = absurd shows

-- of what goes on so, where no `del` stands and nothing goes on behind a `for`
pub ahead_of_part : (c : Context) (given : List (List ℕ)) (limit : Option Limit) (front rest tokens : List Token) (t : Token) (behind : List Token) (fault : Fault) → PassesFor front rest → first_token (tokens ++ t ∷ behind) ≡ first_token rest
    → has_del (front ++ tokens) ≡ false → GoesOnLine c given limit (front ++ tokens) t fault → IsAheadOnLine c given limit (front ++ tokens) t fault
ahead_of_part c given limit front rest tokens t behind fault other first clear goes = (goes, unread_clear (front ++ tokens) t fault clear (other tokens t behind fault first))

-- a part stands behind these tokens: how it begins, and what is read there
record StandsThere {B : Type 0} (c : Context) (given : List (List ℕ)) (q : Production B) (inner : ℕ) (front rest : List Token) : Type 0 where
  begins : CarriesHead c given q inner front
  other : PassesFor front rest
  finds : (why : Stop) (more : List Token) → first_token more ≡ first_token rest → Finds (λ b. IsDeep why inner (q.lies b)) q.read more → FindsHead (λ h. IsDeep why 100 (head_lies h)) (front ++ more)

shown_there : {B : Type 0} (c : Context) (given : List (List ℕ)) (limit : Option Limit) (q : Production B) (inner : ℕ) (front rest before : List Token) (fault : Fault) → before ≡ front ++ rest → StandsThere c given q inner front rest
    → Shown q inner rest fault → ShownBy (BeginsHead c given) (IsAheadOnLine c given limit) head_tokens (λ fault a. IsAmissHead c given limit (Here fault) a) before fault
shown_there c given limit q inner front rest before fault is part s = shown_head c given limit (front ++ s.front) s.shown_by s.behind before fault
    (is ∙ ap (λ ts. front ++ ts) s.before_is ∙ sym (append_assoc front s.front (s.shown_by ∷ s.behind))) (shows_on_line s.shown_by s.behind fault s.left_is) (part.begins.within s.front s.begins)
    (ahead_of_part c given limit front rest s.front s.shown_by s.behind fault part.other (sym (ap first_token s.before_is)) (part.begins.clear s.front (begins_so q inner s.front s.begins))
    (goes_on_line c given limit q inner front s.front s.shown_by s.behind fault part.begins.first (part.begins.ahead s.front s.shown_by (begins_so q inner s.front s.begins) (Here fault) s.none)
    (λ h more same. finds_written _ ((front ++ s.front) ++ s.shown_by ∷ more) h (lies more) same) s.left_is s.goes_on))
    (λ more. finds_head_weaker _ _ _ (amiss_deep c given limit (Here fault)) (lies more))
  where
    lies : (more : List Token) → FindsHead (λ h. IsDeep (Here fault) 100 (head_lies h)) ((front ++ s.front) ++ s.shown_by ∷ more)
    lies more = finds_head_same _ _ _ (append_assoc front s.front (s.shown_by ∷ more))
        (part.finds (Here fault) (s.front ++ s.shown_by ∷ more) (first_shown s.front s.shown_by more s.behind ∙ sym (ap first_token s.before_is)) (s.none more))

refused_there : {B : Type 0} (c : Context) (given : List (List ℕ)) (limit : Option Limit) (q : Production B) (inner : ℕ) (front rest before : List Token) (stop : Stop) → before ≡ front ++ rest → StandsThere c given q inner front rest → Refused q inner rest stop → HeadRefused c given limit before stop
refused_there c given limit q inner front rest before (Here Memory) is part refused = tt
refused_there c given limit q inner front rest before (Here (Unexpected at)) is part refused = shown_there c given limit q inner front rest before (Unexpected at) is part refused
refused_there c given limit q inner front rest before (Here (TooDeep at)) is part refused = shown_there c given limit q inner front rest before (TooDeep at) is part refused
refused_there c given limit q inner front rest before (Here (TooMany at)) is part refused = absurd refused.left_is
refused_there c given limit q inner front rest before End is part refused =
    ended_line c given limit (front ++ rest) before End is (part.begins.within rest refused.0) (part.begins.ended rest (begins_so q inner rest refused.0) refused.1) (finds_head_weaker _ _ _ (amiss_deep c given limit End) (part.finds End rest refl refused.1))

-- a part is refused behind these tokens
pub refused_part_head : {B : Type 0} (c : Context) (given : List (List ℕ)) (limit : Option Limit) (q : Production B) (inner : ℕ) (front rest before : List Token) (stop : Stop) (g : ℕ → B → List Token → Option Head) → before ≡ front ++ rest
    → CarriesHead c given q inner front → PassesFor front rest → HeadTurns q front rest g
    → ((why : Stop) (n : ℕ) (b : B) (left : List Token) → IsDeep why inner (q.lies b) → OnlyHead (λ h. IsDeep why 100 (head_lies h)) (g n b left))
    → Refused q inner rest stop → HeadRefused c given limit before stop
refused_part_head c given limit q inner front rest before stop g is begins other turns deep refused = refused_there c given limit q inner front rest before stop is
    (record { begins = begins; other = other; finds = λ why more first finds. turned_head _ _ q front rest more g turns first (deep why) finds })
    refused
