-- The `:` of a line and what stands behind it: what is read there, and how it is refused.
use Rattle.std.proofs.Common.{◌≡◌, inl, inr, ℕ, ◌+◌, ◌≤◌, max, Bool, true, false, List, [], ◌∷◌, ◌++◌, Option, Some, None, option_map, is_some, refl, ap, sym, ◌∙◌, arith, subst, append_assoc, if◌then◌else◌, append-nil, ◌<◌}
use Rattle.std.specs.Bool.{⊤}
use Rattle.prov_base.specs.declared.place.Pos.{Pos}
use Rattle.py_lines.specs.declared.parts.Token.{Token}
use Rattle.py_lines.specs.declared.parts.TokenKind.TheVariants.{Sign}
use Rattle.py_grammar.specs.declared.context.Limit.{Limit}
use Rattle.py_expressions.specs.declared.fault.Fault.{Fault}
use Rattle.py_expressions.specs.declared.fault.Fault.TheVariants.{Unexpected, TooDeep, TooMany, Memory}
use Rattle.py_expressions.specs.declared.fault.Stop.{Stop}
use Rattle.py_expressions.specs.declared.fault.Stop.TheVariants.{Here, End}
use Rattle.py_grammar.specs.declared.head.What.{What}
use Rattle.py_grammar.specs.declared.head.LineHead.{LineHead}
use Rattle.py_expressions.specs.Concrete.{Spot}
use Rattle.py_expressions.specs.Tokens.{token}
use Rattle.py_grammar.specs.Written.{Simple, pass}
use Rattle.py_grammar.specs.StatementTokens.{simple_tokens}
use Rattle.py_grammar.specs.WellPlaced.{simple_stands}
use Rattle.py_grammar.specs.LineReader.{Head, head_tokens, then_read, read_colon, read_behind}
use Rattle.py_expressions.specs.Reader.{is_sign, spot_of, read_sign}
use Rattle.py_expressions.specs.Parsed.{Refused, one_sign, Begins, Finds, IsDeep, Only}
use Rattle.py_grammar.specs.ParsedHead.{Context, word_may, inner_around, behind_depth, IsBehind, BehindFound, HeadFound, Opening, IsAmissPlaced, IsAmissHead, BeginsPlaced, DeepPlaced, BeginsHead, DeepHead, StartsBehind, del_name, GoesOnPlaced, IsAheadPlaced, GoesOnLine, IsAheadOnLine, ShownBy, EndedBy, BehindRefused, HeadRefused, behind_first, BeginsThere, IsFreeBehind, EndsHead, head_lies}
use Rattle.py_expressions.proofs.Refusals.{max_below}
use Rattle.py_grammar.proofs.SimpleParts.{none_deeper, not_deeper}
use Rattle.py_grammar.proofs.LyingLines.{head_low}
use Rattle.py_grammar.proofs.HeadParts.{spelled_part, refused_part_head, is_free}
use Rattle.py_grammar.proofs.PlacedParts.{pass_stands, del_stands}
use Rattle.py_grammar.proofs.NoDel.{has_del, without, no_del_front}
use Rattle.py_grammar.proofs.Unread.{past_clear, passes_past, unread_behind}
use Rattle.py_grammar.proofs.LineFirsts.{and_false, both_true}
use Rattle.py_grammar.proofs.BehindColon.{StaysAhead, stays, stays_front, free_behind, made_of, made_with, shown_some}
use Rattle.py_grammar.specs.declared.context.Limit.TheVariants.{Depth}

-- ---- the `:`

colon_turn : (n : ℕ) (made : Spot → Option Simple → Head) (more : List Token) → read_colon n made more ≡ then_read (read_sign 7 more) (λ colon rest. option_map (made colon) (read_behind n rest))
colon_turn n made [] = refl
colon_turn n made (t ∷ ts) = by (is_sign 7 t.kind)
  where
    by : (b : Bool) → (if b then option_map (made (spot_of t)) (read_behind n ts) else None) ≡ then_read (if b then Some (spot_of t, ts) else None) (λ colon rest. option_map (made colon) (read_behind n rest))
    by true = refl
    by false = refl

-- Up to its `:` nothing stands behind one.
module _ (c : Context) (word : ℕ) (before after : List Token) (what : What) (o : Opening c word before what after) where
  colon_ahead : (k : Spot) (tokens more : List Token) → token (Sign 7) k ∷ [] ≡ tokens ++ more → (tokens ≡ token (Sign 7) k ∷ [] → ⊥) → (t : Token) → StaysAhead ((o.front ++ tokens) ++ t ∷ [])
  colon_ahead k tokens [] is part t = absurd (part (sym (append-nil tokens) ∙ sym is))
  colon_ahead k tokens (m ∷ ms) is part t =
      stays (o.made k None) (o.behind_is k None) (o.front ++ tokens) m (ms ++ []) (spelled_part (one_sign 7) o.front (λ colon. o.made colon None) (λ colon. []) k (o.tokens_are k None) tokens (m ∷ ms) is) t

  -- the `:` alone is read
  unread_colon : (k : Token) (P : Spot → Type 0) → is_sign 7 k.kind ≡ true → (more : List Token) → Finds P (λ n ts. read_sign 7 ts) (k ∷ more) → P (spot_of k)
  unread_colon k P is more finds = by (is_sign 7 k.kind) is (finds.only 0)
    where
      by : (b : Bool) → b ≡ true → Only P (if b then Some (spot_of k, more) else None) → P (spot_of k)
      by true same only = only
      by false same only = cc

  pub shown_ahead : (tokens : List Token) (t : Token) → Begins (one_sign 7) tokens → (why : Stop) → ((more : List Token) → Finds (λ b. IsDeep why 0 (λ at. 0)) (λ n ts. read_sign 7 ts) (tokens ++ t ∷ more)) → StaysAhead ((o.front ++ tokens) ++ t ∷ [])
  shown_ahead tokens t b why none = colon_ahead b.some tokens b.more b.tokens_are (λ whole. not_deeper why 0
      (unread_colon (token (Sign 7) b.some) (λ spot. IsDeep why 0 (λ at. 0)) refl (t ∷ []) (subst (λ ts. Finds (λ spot. IsDeep why 0 (λ at. 0)) (λ n ts. read_sign 7 ts) (ts ++ t ∷ [])) whole (none [])))) t

  pub ended_ahead : (tokens : List Token) → Begins (one_sign 7) tokens → Finds (λ b. ⊥) (λ n ts. read_sign 7 ts) tokens → StaysAhead (o.front ++ tokens)
  ended_ahead tokens b none = stays_front (o.front ++ tokens) (token (Sign 7) b.some ∷ [])
      (colon_ahead b.some tokens b.more b.tokens_are (λ whole. unread_colon (token (Sign 7) b.some) (λ spot. ⊥) refl [] (subst (Finds (λ spot. ⊥) (λ n ts. read_sign 7 ts)) whole none)) (token (Sign 7) b.some))

-- no `:` stands where one has to
pub colon_refused : (c : Context) (given : List (List ℕ)) (limit : Option Limit) (word : ℕ) (before after : List Token) (what : What) (stop : Stop) → Opening c word before what after → word_may c word ≡ true → Refused (one_sign 7) 0 after stop → HeadRefused c given limit before stop
colon_refused c given limit word before after what stop o may refused =
    refused_part_head c given limit (one_sign 7) 0 o.front after before stop (λ n colon rest. option_map (o.made colon) (read_behind (n + o.left) rest)) o.before_is
    (record {
      within = λ tokens b. inl (λ at. let k = b at in record {
        some = o.made k.some None;
        is_so = o.stands given k.some None ∙ both_true (word_may c word) true may refl;
        more = k.more ++ [];
        tokens_are = spelled_part (one_sign 7) o.front (λ colon. o.made colon None) (λ colon. []) k.some (o.tokens_are k.some None) tokens k.more k.tokens_are;
        within = λ other apart. let deep = o.depth_is k.some None in let low = head_low (o.made k.some None) other in let fits = o.low in omega (arith, deep, low, fits);
      });
      first = λ tokens place f. absurd (none_deeper 0 f.deep);
      clear = λ tokens b. without o.front tokens (past_clear o.front o.past) (no_del_front tokens b.more (subst (λ (ts : List Token). has_del ts ≡ false) b.tokens_are refl));
      ahead = shown_ahead c word before after what o;
      ended = ended_ahead c word before after what o;
    })
    (passes_past o.front after o.past)
    (record { before = o.steps; behind = 0; turns = λ n more first. o.reads n more first ∙ colon_turn (n + o.left) o.made more })
    (λ why n colon left deep. absurd (not_deeper why 0 deep)) refused

-- ---- what stands behind it

-- what is amiss of the statement is amiss of the line
amiss_line : (c : Context) (given : List (List ℕ)) (limit : Option Limit) (word : ℕ) (before after : List Token) (what : What) (spot : Spot) → (o : Opening c word before what after) → (stop : Stop) (s : Simple)
    → IsAmissPlaced (inner_around word c.around) limit stop s → IsAmissHead c given limit stop (o.made spot (Some s))
amiss_line c given limit word before after what spot o (Here (TooDeep at)) s (inl deep) =
    inl (let high = o.lies_behind spot s at in omega (arith, deep, high))
amiss_line c given limit word before after what spot o (Here (TooDeep at)) s (inr passed) = inr (passed.0, subst (λ (b : Option Simple). behind_first b at) (sym (o.behind_is spot (Some s))) passed.1)
amiss_line c given limit word before after what spot o (Here (TooMany at)) s passed = (passed, ap is_some (o.behind_is spot (Some s)))
amiss_line c given limit word before after what spot o (Here (Unexpected at)) s amiss = o.stands given spot (Some s) ∙ and_false (word_may c word) _ amiss
amiss_line c given limit word before after what spot o (Here Memory) s amiss = absurd amiss
amiss_line c given limit word before after what spot o End s amiss = o.stands given spot (Some s) ∙ and_false (word_may c word) _ amiss

-- behind the `:` the grammar has any statement
starts_behind : (c : Context) (given : List (List ℕ)) (word : ℕ) (before after : List Token) (what : What) (spot : Spot) → (o : Opening c word before what after) → word_may c word ≡ true → (one : Spot → Simple)
    → ((at : Spot) → simple_stands (inner_around word c.around) (one at) ≡ true) → StartsBehind c given one (o.front ++ token (Sign 7) spot ∷ [])
starts_behind c given word before after what spot o may one stands = record {
  made = λ s. o.made spot (Some s);
  tokens_are = λ s. o.tokens_are spot (Some s) ∙ sym (append_assoc o.front (token (Sign 7) spot ∷ []) (simple_tokens s));
  behind_is = λ s. o.behind_is spot (Some s);
  stands = λ at. o.stands given spot (Some (one at)) ∙ both_true (word_may c word) _ may (stands at);
  within = λ s at. let high = o.lies_within spot s at in let fits = o.low in omega (arith, high, fits);
}

-- a statement begins behind the `:`, and so does the line
begins_line : (c : Context) (given : List (List ℕ)) (word : ℕ) (before after : List Token) (what : What) (spot : Spot) → (o : Opening c word before what after) → word_may c word ≡ true → (tokens : List Token) → BeginsPlaced (inner_around word c.around) tokens
    → BeginsHead c given (o.front ++ token (Sign 7) spot ∷ tokens)
begins_line c given word before after what spot o may tokens (inl b) = inl (λ at. let k = b at in record {
  some = o.made spot (Some k.some);
  is_so = o.stands given spot (Some k.some) ∙ both_true (word_may c word) _ may k.is_so;
  more = k.more;
  tokens_are = o.tokens_are spot (Some k.some) ∙ ap (λ ts. o.front ++ token (Sign 7) spot ∷ ts) k.tokens_are ∙ sym (append_assoc o.front (token (Sign 7) spot ∷ tokens) k.more);
  within = λ other apart. let high = o.lies_within spot k.some other in let fits = o.low in let low = k.within other apart in omega (arith, high, fits, low);
})
begins_line c given word before after what spot o may tokens (inr b) = inr (inl (record {
  opened = o.front ++ token (Sign 7) spot ∷ [];
  starts = inr (starts_behind c given word before after what spot o may del_name (del_stands (inner_around word c.around) b.0));
  inside = tokens;
  begins = b.1;
  front_is = sym (append_assoc o.front (token (Sign 7) spot ∷ []) tokens);
}))

-- what lies too deep first in a statement does so in the line
deep_line : (c : Context) (given : List (List ℕ)) (word : ℕ) (before after : List Token) (what : What) (spot : Spot) → (o : Opening c word before what after) → word_may c word ≡ true → (tokens : List Token) (place : Pos)
    → DeepPlaced (inner_around word c.around) tokens place → DeepHead c given (o.front ++ token (Sign 7) spot ∷ tokens) place
deep_line c given word before after what spot o may tokens place (inl b) = inl (record {
  some = o.made spot (Some b.some);
  is_so = o.stands given spot (Some b.some) ∙ both_true (word_may c word) _ may b.is_so;
  more = b.more;
  tokens_are = o.tokens_are spot (Some b.some) ∙ ap (λ ts. o.front ++ token (Sign 7) spot ∷ ts) b.tokens_are ∙ sym (append_assoc o.front (token (Sign 7) spot ∷ tokens) b.more);
  ahead = o.front ++ token (Sign 7) spot ∷ b.ahead;
  named = b.named;
  between = b.between;
  front_is = ap (λ ts. o.front ++ token (Sign 7) spot ∷ ts) b.front_is ∙ sym (append_assoc o.front (token (Sign 7) spot ∷ b.ahead) (b.named ∷ b.between));
  named_is = b.named_is;
  deep = let deep = b.deep in let high = o.lies_behind spot b.some place in omega (arith, deep, high);
  within = λ other apart. let high = o.lies_within spot b.some other in let fits = o.low in let low = b.within other apart in omega (arith, high, fits, low);
})
deep_line c given word before after what spot o may tokens place (inr b) = inr (inl (record {
  opened = o.front ++ token (Sign 7) spot ∷ [];
  starts = inr (starts_behind c given word before after what spot o may del_name (del_stands (inner_around word c.around) b.0));
  inside = tokens;
  begins = b.1;
  front_is = sym (append_assoc o.front (token (Sign 7) spot ∷ []) tokens);
}))

-- with TooDeep, an expression that begins at the place lies too deep in it, where no limit is given
abbrev IsDeepThere : (limit : Option Limit) → Fault → Head → Type 0
IsDeepThere None (TooDeep at) h = 100 < head_lies h at
IsDeepThere limit fault h = ⊤

deep_there : (c : Context) (given : List (List ℕ)) (limit : Option Limit) (fault : Fault) (h : Head) → IsAmissHead c given limit (Here fault) h → IsDeepThere limit fault h
deep_there c given None (TooDeep at) h (inl deep) = deep
deep_there c given None (TooDeep at) h (inr passed) = absurd (let no : None ≡ Some Depth = passed.0 in cc)
deep_there c given None (TooMany at) h amiss = tt
deep_there c given None (Unexpected left) h amiss = tt
deep_there c given None Memory h amiss = tt
deep_there c given (Some l) fault h amiss = tt

-- a statement goes on behind the `:`, and so does the line; where a limit is passed, any may stand there
goes_behind : (c : Context) (given : List (List ℕ)) (limit : Option Limit) (word : ℕ) (before after rest : List Token) (what : What) (spot : Spot) → (o : Opening c word before what after) → word_may c word ≡ true → after ≡ token (Sign 7) spot ∷ rest → (tokens : List Token) (t : Token) (fault : Fault)
    → ((h : Head) (more : List Token) → head_tokens h ≡ (o.front ++ token (Sign 7) spot ∷ tokens) ++ t ∷ more → IsDeepThere limit fault h)
    → GoesOnPlaced (inner_around word c.around) limit tokens t fault → GoesOnLine c given limit (o.front ++ token (Sign 7) spot ∷ tokens) t fault
goes_behind c given limit word before after rest what spot o may is tokens t fault lies goes = by fault lies goes
  where
    front : List Token
    front = o.front ++ token (Sign 7) spot ∷ tokens

    -- no limit is given
    unlimited : limit ≡ None → IsFreeBehind c given limit (front ++ t ∷ [])
    unlimited free = subst (IsFreeBehind c given limit) (sym (append_assoc o.front (token (Sign 7) spot ∷ tokens) (t ∷ []))) (free_behind c given limit word before after rest what spot o may is free (tokens ++ t ∷ []))

    -- nothing has begun behind the `:`
    alone : tokens ≡ [] → IsFreeBehind c given limit front
    alone none = subst (λ ts. IsFreeBehind c given limit (o.front ++ token (Sign 7) spot ∷ ts)) (sym none)
        (is_free c given limit (o.front ++ token (Sign 7) spot ∷ []) (stays (o.made spot None) (o.behind_is spot None) o.front (token (Sign 7) spot) [] (o.tokens_are spot None) (token (Sign 7) spot)))

    starts : tokens ≡ [] → StartsBehind c given pass front
    starts none = subst (λ (ts : List Token). StartsBehind c given pass (o.front ++ token (Sign 7) spot ∷ ts)) (sym none) (starts_behind c given word before after what spot o may pass (pass_stands (inner_around word c.around)))

    by : (fault : Fault) → ((h : Head) (more : List Token) → head_tokens h ≡ front ++ t ∷ more → IsDeepThere limit fault h) → GoesOnPlaced (inner_around word c.around) limit tokens t fault → GoesOnLine c given limit front t fault
    by (TooDeep at) lies (inl b) = inl (
      subst (λ (ts : List Token). DeepHead c given ts at) (sym (append_assoc o.front (token (Sign 7) spot ∷ tokens) (t ∷ []))) (deep_line c given word before after what spot o may (tokens ++ t ∷ []) at b.1),
      (λ h more same. subst (λ (l : Option Limit). IsDeepThere l (TooDeep at) h) b.0 (lies h more same)),
      unlimited b.0,
    )
    by (TooDeep at) lies (inr passed) = inr (passed.0, starts passed.1, passed.2, alone passed.1)
    by (TooMany at) lies passed = (passed.0, starts passed.1, alone passed.1)
    by (Unexpected left) lies free = unlimited free
    by Memory lies goes = tt

behind_shown : (c : Context) (given : List (List ℕ)) (limit : Option Limit) (word : ℕ) (before after rest : List Token) (what : What) (spot : Spot) → (o : Opening c word before what after) → word_may c word ≡ true → after ≡ token (Sign 7) spot ∷ rest → (fault : Fault)
    → ShownBy (BeginsThere (inner_around word c.around) limit) (IsAheadPlaced (inner_around word c.around) limit) simple_tokens (λ fault a. IsAmissPlaced (inner_around word c.around) limit (Here fault) a) rest fault → ShownBy (BeginsHead c given) (IsAheadOnLine c given limit) head_tokens (λ fault a. IsAmissHead c given limit (Here fault) a) before fault
behind_shown c given limit word before after rest what spot o may is fault s = record {
  front = o.front ++ token (Sign 7) spot ∷ s.front;
  shown_by = s.shown_by;
  behind = s.behind;
  before_is = o.before_is ∙ ap (λ ts. o.front ++ ts) (is ∙ ap (λ ts. token (Sign 7) spot ∷ ts) s.before_is) ∙ sym (append_assoc o.front (token (Sign 7) spot ∷ s.front) (s.shown_by ∷ s.behind));
  left_is = s.left_is;
  begun = begins_line c given word before after what spot o may s.front s.begun.1;
  goes_on = (
    goes_behind c given limit word before after rest what spot o may is s.front s.shown_by fault (λ h more same. deep_there c given limit fault h (none_there h more same)) s.goes_on.0,
    unread_behind (inner_around word c.around) o.front (token (Sign 7) spot) s.front s.shown_by fault o.past refl s.begun.1 s.goes_on.1,
  );
  none = λ h more same. none_there h more same;
}
  where
    none_there : (h : Head) (more : List Token) → head_tokens h ≡ (o.front ++ token (Sign 7) spot ∷ s.front) ++ s.shown_by ∷ more → IsAmissHead c given limit (Here fault) h
    none_there h more same =
        let m = made_with (o.made spot) (s.front ++ s.shown_by ∷ more) h (shown_some s.front s.shown_by more)
        (made_of c word before after rest what spot o is (s.front ++ s.shown_by ∷ more) h (same ∙ append_assoc o.front (token (Sign 7) spot ∷ s.front) (s.shown_by ∷ more))) in
        subst (IsAmissHead c given limit (Here fault)) (sym m.is) (amiss_line c given limit word before after what spot o (Here fault) m.s (s.none m.s more m.tokens_are))

behind_ended : (c : Context) (given : List (List ℕ)) (limit : Option Limit) (word : ℕ) (before after rest : List Token) (what : What) (spot : Spot) → (o : Opening c word before what after) → word_may c word ≡ true → after ≡ token (Sign 7) spot ∷ rest → (stop : Stop) → (rest ≡ [] → ⊥)
    → EndedBy (BeginsThere (inner_around word c.around) limit) simple_tokens (IsAmissPlaced (inner_around word c.around) limit stop) rest → EndedBy (EndsHead c given limit) head_tokens (IsAmissHead c given limit stop) before
behind_ended c given limit word before after rest what spot o may is stop some e = record {
  begun = subst (EndsHead c given limit) (sym (o.before_is ∙ ap (λ ts. o.front ++ ts) is))
      (begins_line c given word before after what spot o may rest e.begun.1, free_behind c given limit word before after rest what spot o may is (unlimited limit e.begun.0) rest);
  none = λ h same. none_there h same;
}
  where
    unlimited : (limit : Option Limit) → (is_some limit ≡ true → rest ≡ []) → limit ≡ None
    unlimited None begun = refl
    unlimited (Some l) begun = absurd (some (begun refl))

    none_there : (h : Head) → head_tokens h ≡ before → IsAmissHead c given limit stop h
    none_there h same =
        let m = made_with (o.made spot) rest h some (made_of c word before after rest what spot o is rest h (same ∙ o.before_is ∙ ap (λ ts. o.front ++ ts) is)) in
        subst (IsAmissHead c given limit stop) (sym m.is) (amiss_line c given limit word before after what spot o stop m.s (e.none m.s m.tokens_are))

-- what stands behind the `:` is refused
pub behind_refused : (c : Context) (given : List (List ℕ)) (limit : Option Limit) (word : ℕ) (before after rest : List Token) (what : What) (spot : Spot) (stop : Stop) → Opening c word before what after → word_may c word ≡ true → after ≡ token (Sign 7) spot ∷ rest
    → BehindRefused (inner_around word c.around) limit rest stop → HeadRefused c given limit before stop
behind_refused c given limit word before after rest what spot (Here Memory) o may is refused = tt
behind_refused c given limit word before after rest what spot (Here (Unexpected at)) o may is refused = behind_shown c given limit word before after rest what spot o may is (Unexpected at) refused.placed
behind_refused c given limit word before after rest what spot (Here (TooDeep at)) o may is refused = behind_shown c given limit word before after rest what spot o may is (TooDeep at) refused.placed
behind_refused c given limit word before after rest what spot (Here (TooMany at)) o may is refused = behind_shown c given limit word before after rest what spot o may is (TooMany at) refused.placed
behind_refused c given limit word before after rest what spot End o may is refused = behind_ended c given limit word before after rest what spot o may is End refused.some refused.placed

-- ---- a line that may stand there

behind_low : (b : Option Simple) → behind_depth b ≤ 100 → (depth : ℕ) → depth ≤ 100 → max depth (behind_depth b) ≤ 100
behind_low b low depth other = max_below depth (behind_depth b) 100 other low

pub line_found : (c : Context) (given : List (List ℕ)) (limit : Option Limit) (word : ℕ) (before after rest : List Token) (line : LineHead) (spot : Spot) → Opening c word before line.what after → after ≡ token (Sign 7) spot ∷ rest
    → word_may c word ≡ true → BehindFound (inner_around word c.around) limit rest line.behind → HeadFound c given limit before line
line_found c given limit word before after rest line spot o is may b = record {
  written = o.made spot b.written;
  before_is = o.before_is ∙ ap (λ ts. o.front ++ ts) (is ∙ ap (λ ts. token (Sign 7) spot ∷ ts) b.before_is) ∙ sym (o.tokens_are spot b.written);
  what_is = o.what_is spot b.written;
  behind_is = subst (IsBehind line.behind) (sym (o.behind_is spot b.written)) b.what_is;
  fits = let deep = o.depth_is spot b.written in let low = behind_low b.written b.fits o.depth o.low in omega (arith, deep, low);
  stands = o.stands given spot b.written ∙ both_true (word_may c word) _ may b.stands;
  within = λ passed. o.behind_is spot b.written ∙ b.within passed;
}
