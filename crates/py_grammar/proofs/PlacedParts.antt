-- A simple statement where one has to stand: what is found and refused, of what is written.
use Rattle.std.proofs.Common.{◌≡◌, inl, inr, ℕ, ◌+◌, ◌≤◌, ◌<◌, Bool, true, false, not, List, [], ◌∷◌, ◌++◌, length, Option, Some, None, is_some, refl, ap, sym, ◌∙◌, arith, subst, append-nil}
use Rattle.std.specs.Prelude.{◌&&◌, ◌||◌, ◌==◌}
use Rattle.std.proofs.lemmas.Bool.{eqb-true}
use Rattle.prov_base.specs.declared.place.Pos.{Pos}
use Rattle.py_lines.specs.declared.parts.Token.{Token}
use Rattle.py_lines.specs.declared.parts.TokenKind.{TokenKind}
use Rattle.py_lines.specs.declared.parts.TokenKind.TheVariants.{Word, Keyword, Number, Text, Sign}
use Rattle.py_tree.specs.declared.stmt.Form.{Form}
use Rattle.py_grammar.specs.declared.context.Limit.{Limit}
use Rattle.py_grammar.specs.declared.context.Limit.TheVariants.{Number as ByNumber, Depth as ByDepth}
use Rattle.py_expressions.specs.declared.fault.Fault.{Fault}
use Rattle.py_expressions.specs.declared.fault.Fault.TheVariants.{Unexpected, TooDeep, TooMany, Memory}
use Rattle.py_expressions.specs.declared.fault.Stop.{Stop}
use Rattle.py_expressions.specs.declared.fault.Stop.TheVariants.{Here, End}
use Rattle.py_expressions.specs.Concrete.{Spot, plain_expr, plain_or, plain_and, plain_not, plain_cmp, plain_sum, plain_term, plain_unary, plain_prim, text, one_expr}
use Rattle.py_expressions.specs.Tokens.{token, expr_tokens}
use Rattle.py_grammar.specs.Written.{Simple, expression, pass}
use Rattle.py_grammar.specs.StatementTokens.{simple_tokens}
use Rattle.py_grammar.specs.StatementTrees.{simple_form}
use Rattle.py_grammar.specs.WellPlaced.{Around, form_stands, simple_stands, are_alone, alone_kind}
use Rattle.py_expressions.specs.Reader.{spot_of, is_keyword}
use Rattle.py_grammar.specs.StatementReader.{read_simple}
use Rattle.py_expressions.specs.Parsed.{ShowsAt, Only, Finds}
use Rattle.py_grammar.specs.ParsedSimple.{leaving_none, simple_part, has_place, SimpleFound, IsAmiss, NamesDeep, BeginsSimple, DeepSimple, SimpleShown, SimpleEnds, SimpleRefused}
use Rattle.py_grammar.specs.ParsedHead.{PlacedFound, IsAmissPlaced, del_name, BeginsPlaced, BeginsThere, DeepPlaced, GoesOnPlaced, IsAheadPlaced, begins_at, ShownBy, EndedBy, PlacedRefused, BehindRefused, BehindFound, is_compound_kind, may_be_alone, is_refused_kind, is_text_kind, limit_fault, IsRefusedInClass, ShowsOnLine, left_in_class, stands_first}
use Rattle.py_grammar.specs.StatementDepth.{simple_depth}
use Rattle.py_expressions.specs.Lies.{nowhere}
use Rattle.py_grammar.specs.StatementLies.{simple_lies}
use Rattle.py_grammar.proofs.NoDel.{no_del_unread}
use Rattle.py_expressions.proofs.Stops.{spot_at}
use Rattle.py_grammar.proofs.ShownLines.{shows_on_line}
use Rattle.py_grammar.proofs.SimpleReading.{simple_reads}
use Rattle.py_grammar.proofs.SimpleParts.{simple_within}
use Rattle.py_expressions.proofs.RowReads.{nothing_there}
use Rattle.py_grammar.proofs.LineFirsts.{and_false, simple_not_compound, simple_some, pass_is_alone, not_nothing, same_first, same_behind}

-- a text or `pass` alone
alone_stands : (inside : Bool) → ((not inside || true) && true) ≡ true
alone_stands true = refl
alone_stands false = refl

-- every simple statement that has these tokens is so
finds_simple : (P : Simple → Type 0) (ts : List Token) (s : Simple) → Finds P simple_part.read ts → simple_tokens s ≡ ts → P s
finds_simple P ts s finds is =
    let r = simple_reads s in
    let sum : r.steps + finds.steps ≡ finds.steps + r.steps = omega arith in
    subst (Only P) (ap leaving_none (ap (read_simple (r.steps + finds.steps)) (sym is) ∙ ap (λ m. read_simple m (simple_tokens s)) sum ∙ r.reads finds.steps)) (finds.only r.steps)

-- ---- what is refused

amiss_placed : (around : Around) (limit : Option Limit) (stop : Stop) (s : Simple) → IsAmiss around stop s → IsAmissPlaced around limit stop s
amiss_placed around limit (Here (TooDeep at)) s deep = inl deep
amiss_placed around limit (Here (Unexpected at)) s amiss = and_false _ (form_stands around (simple_form s)) amiss
amiss_placed around limit (Here (TooMany at)) s amiss = absurd amiss
amiss_placed around limit (Here Memory) s amiss = absurd amiss
amiss_placed around limit End s amiss = and_false _ (form_stands around (simple_form s)) amiss

-- a limit is none of the grammar's faults
goes_placed : (around : Around) (front : List Token) (t : Token) (behind : List Token) (fault : Fault) → ShowsAt behind fault → NamesDeep (DeepPlaced around) front t fault → GoesOnPlaced around None front t fault
goes_placed around front t behind (TooDeep at) named goes = inl (refl, goes)
goes_placed around front t behind (Unexpected left) named goes = refl
goes_placed around front t behind (TooMany at) named goes = absurd named
goes_placed around front t behind Memory named goes = tt

-- where no limit is given any tokens may have begun
begun_free : (around : Around) (front : List Token) → BeginsPlaced around front → BeginsThere around None front
begun_free around front b = ((λ some. let wrong : false ≡ true = some in cc), b)

-- what has begun in these tokens may stand there, beside its form
record Places (around : Around) (before : List Token) : Type 0 where
  within : (tokens rest : List Token) → before ≡ tokens ++ rest → BeginsSimple (has_place around) tokens → BeginsPlaced around tokens
  first : (fault : Fault) (s : SimpleShown around before fault) → NamesDeep (DeepPlaced around) s.front s.shown_by fault

placed_shown : (around : Around) (before : List Token) (fault : Fault) → Places around before → SimpleShown around before fault
    → ShownBy (BeginsThere around None) (IsAheadPlaced around None) simple_tokens (λ fault a. IsAmissPlaced around None (Here fault) a) before fault
placed_shown around before fault places s = record {
  front = s.front;
  shown_by = s.shown_by;
  behind = s.behind;
  before_is = s.before_is;
  left_is = shows_on_line s.shown_by s.behind fault s.left_is;
  begun = begun_free around s.front (places.within s.front (s.shown_by ∷ s.behind) s.before_is s.begins);
  goes_on = (goes_placed around s.front s.shown_by s.behind fault s.left_is (places.first fault s), s.unread);
  none = λ a more same. amiss_placed around None (Here fault) a (finds_simple _ (s.front ++ s.shown_by ∷ more) a (s.none more) same);
}

placed_ended : (around : Around) (before : List Token) (stop : Stop) → Places around before → SimpleEnds around before stop → EndedBy (BeginsThere around None) simple_tokens (IsAmissPlaced around None stop) before
placed_ended around before stop places e = record { begun = begun_free around before (places.within before [] (sym (append-nil before)) e.begins); none = λ a same. amiss_placed around None stop a (finds_simple _ before a e.none same) }

placed_refused : (around : Around) (before : List Token) (stop : Stop) → Places around before → SimpleRefused around before stop → PlacedRefused around None before stop
placed_refused around before (Here Memory) places is = tt
placed_refused around before (Here (Unexpected at)) places is = placed_shown around before (Unexpected at) places is
placed_refused around before (Here (TooDeep at)) places is = placed_shown around before (TooDeep at) places is
placed_refused around before (Here (TooMany at)) places is = absurd is.left_is
placed_refused around before End places is = placed_ended around before End places is

-- `pass` may stand everywhere
pub pass_stands : (around : Around) (spot : Spot) → simple_stands around (pass spot) ≡ true
pass_stands around spot = alone_stands around.in_class

-- outside a class `del` with a name may
pub del_stands : (around : Around) → around.in_class ≡ false → (spot : Spot) → simple_stands around (del_name spot) ≡ true
del_stands around out spot = ap (λ inside. (not inside || false) && true) out

pass_begins : (around : Around) → BeginsPlaced around []
pass_begins around = inl (λ at. record { some = pass (spot_at at); is_so = pass_stands around (spot_at at); more = simple_tokens (pass (spot_at at)); tokens_are = refl; within = λ other apart. omega arith })

-- nothing stands there
pub placed_end : (around : Around) (limit : Option Limit) (before : List Token) → before ≡ [] → PlacedRefused around limit before End
placed_end around limit before is = subst (λ (ts : List Token). PlacedRefused around limit ts End) (sym is)
    (record { begun = ((λ some. refl), pass_begins around); none = λ s same. absurd (simple_some s same) })

-- the first token shows it
at_first_token : (around : Around) (limit : Option Limit) (t : Token) (behind : List Token) (fault : Fault) → ShowsOnLine t behind fault → GoesOnPlaced around limit [] t fault
    → ((s : Simple) (more : List Token) → simple_tokens s ≡ t ∷ more → IsAmissPlaced around limit (Here fault) s) → ShownBy (BeginsThere around limit) (IsAheadPlaced around limit) simple_tokens (λ fault a. IsAmissPlaced around limit (Here fault) a) (t ∷ behind) fault
at_first_token around limit t behind fault named goes none = record {
  front = [];
  shown_by = t;
  behind = behind;
  before_is = refl;
  left_is = named;
  begun = ((λ some. refl), pass_begins around);
  goes_on = (goes, no_del_unread [] t fault refl);
  none = none;
}

-- a limit is passed
pub placed_limited : (around : Around) (l : Limit) (t : Token) (behind : List Token) → PlacedRefused around (Some l) (t ∷ behind) (Here (limit_fault l t.at))
placed_limited around ByNumber t behind = at_first_token around (Some ByNumber) t behind (TooMany t.at) refl (refl, refl) (λ s more same. refl)
placed_limited around ByDepth t behind = at_first_token around (Some ByDepth) t behind (TooDeep t.at) tt (inr (refl, refl, refl)) (λ s more same. inr (refl, subst (λ (ts : List Token). stands_first ts t.at) (sym same) refl))

-- `def`, `class` and `global`
refused_is_compound : (kind : TokenKind) → is_refused_kind kind ≡ true → is_compound_kind kind ≡ true
refused_is_compound (Word bytes) is = cc
refused_is_compound (Number value) is = cc
refused_is_compound (Text bytes) is = cc
refused_is_compound (Sign n) is = cc
refused_is_compound (Keyword n) is = by (n == 11) refl (n == 9) refl (n == 19) refl is
  where
    by : (a : Bool) → (n == 11) ≡ a → (b : Bool) → (n == 9) ≡ b → (d : Bool) → (n == 19) ≡ d → (a || b || d) ≡ true → is_compound_kind (Keyword n) ≡ true
    by true one b other d last any = ap (λ m. is_compound_kind (Keyword m)) (eqb-true n 11 one)
    by false one true other d last any = ap (λ m. is_compound_kind (Keyword m)) (eqb-true n 9 other)
    by false one false other true last any = ap (λ m. is_compound_kind (Keyword m)) (eqb-true n 19 last)
    by false one false other false last any = cc

pub placed_word : (around : Around) (limit : Option Limit) (t : Token) (behind : List Token) (left : ℕ) → limit ≡ None → is_refused_kind t.kind ≡ true → left ≡ length behind → PlacedRefused around limit (t ∷ behind) (Here (Unexpected left))
placed_word around limit t behind left free is counted = at_first_token around limit t behind (Unexpected left) counted free (λ s more same. absurd (no_such s more same))
  where
    no_such : (s : Simple) (more : List Token) → simple_tokens s ≡ t ∷ more → ⊥
    no_such s more same = let absent : true ≡ false = sym (refused_is_compound t.kind is) ∙ simple_not_compound s t more same in cc

-- ---- in a class

not_alone : (around : Around) (s : Simple) → around.in_class ≡ true → are_alone (simple_tokens s) ≡ false → simple_stands around s ≡ false
not_alone around s inside other = by around.in_class (are_alone (simple_tokens s)) inside other (form_stands around (simple_form s))
  where
    by : (a b : Bool) → a ≡ true → b ≡ false → (d : Bool) → ((not a || b) && d) ≡ false
    by true false one other d = refl
    by false b one other d = cc
    by true true one other d = cc

kind_not_alone : (t : Token) (more : List Token) → alone_kind t.kind ≡ false → are_alone (t ∷ more) ≡ false
kind_not_alone t [] absent = absent
kind_not_alone t (u ∷ us) absent = refl

other_kind : (kind : TokenKind) (behind : List Token) → may_be_alone kind behind ≡ false → is_text_kind kind ≡ false → alone_kind kind ≡ false
other_kind (Word bytes) behind absent other = refl
other_kind (Number value) behind absent other = refl
other_kind (Text bytes) behind absent other = cc
other_kind (Sign n) behind absent other = refl
other_kind (Keyword n) behind absent other = absent

amiss_in_class : (around : Around) (t : Token) (behind : List Token) → around.in_class ≡ true → may_be_alone t.kind behind ≡ false → is_text_kind t.kind ≡ false → (s : Simple) (more : List Token) → simple_tokens s ≡ t ∷ more → simple_stands around s ≡ false
amiss_in_class around t behind inside absent other s more same = not_alone around s inside (ap are_alone same ∙ kind_not_alone t more (other_kind t.kind behind absent other))

abbrev text_statement : Token → List ℕ → Simple
text_statement t bytes = expression (one_expr (plain_expr (plain_or (plain_and (plain_not (plain_cmp (plain_sum (plain_term (plain_unary (plain_prim (text (spot_of t) bytes)))))))))))

-- a text, behind which something stands, which shows it
begins_text : (around : Around) (t : Token) → is_text_kind t.kind ≡ true → BeginsPlaced around (t ∷ [])
begins_text around t is = by t.kind is refl
  where
    by : (kind : TokenKind) → is_text_kind kind ≡ true → t.kind ≡ kind → BeginsPlaced around (t ∷ [])
    by (Text bytes) is same = inl (λ at. record {
      some = text_statement t bytes;
      is_so = alone_stands around.in_class;
      more = [];
      tokens_are = ap (λ k. record { at = t.at; span = t.span; kind = k } ∷ []) (sym same);
      within = λ other apart. simple_within (text_statement t bytes) (omega arith) other;
    })
    by (Word bytes) is same = cc
    by (Number value) is same = cc
    by (Keyword n) is same = cc
    by (Sign n) is same = cc

text_no_del : (kind : TokenKind) → is_text_kind kind ≡ true → (is_keyword 12 kind || false) ≡ false
text_no_del (Text bytes) is = refl
text_no_del (Word bytes) is = cc
text_no_del (Number value) is = cc
text_no_del (Keyword n) is = cc
text_no_del (Sign n) is = cc

text_behind : (kind : TokenKind) → is_text_kind kind ≡ true → may_be_alone kind [] ≡ false → ⊥
text_behind (Text bytes) is absent = cc
text_behind (Word bytes) is absent = cc
text_behind (Number value) is absent = cc
text_behind (Keyword n) is absent = cc
text_behind (Sign n) is absent = cc

text_in_class : (around : Around) (t : Token) (behind : List Token) (left : ℕ) → around.in_class ≡ true → may_be_alone t.kind behind ≡ false → is_text_kind t.kind ≡ true → left ≡ left_in_class true behind
    → ShownBy (BeginsThere around None) (IsAheadPlaced around None) simple_tokens (λ fault a. IsAmissPlaced around None (Here fault) a) (t ∷ behind) (Unexpected left)
text_in_class around t [] left inside absent is counted = absurd (text_behind t.kind is absent)
text_in_class around t (u ∷ us) left inside absent is counted = record {
  front = t ∷ [];
  shown_by = u;
  behind = us;
  goes_on = (refl, no_del_unread (t ∷ []) u (Unexpected left) (text_no_del t.kind is));
  before_is = refl;
  left_is = counted;
  begun = begun_free around (t ∷ []) (begins_text around t is);
  none = λ s more same. not_alone around s inside (ap are_alone same);
}

other_in_class : (around : Around) (t : Token) (behind : List Token) (left : ℕ) → around.in_class ≡ true → may_be_alone t.kind behind ≡ false → (b : Bool) → is_text_kind t.kind ≡ b → left ≡ left_in_class b behind
    → ShownBy (BeginsThere around None) (IsAheadPlaced around None) simple_tokens (λ fault a. IsAmissPlaced around None (Here fault) a) (t ∷ behind) (Unexpected left)
other_in_class around t behind left inside absent true is counted = text_in_class around t behind left inside absent is counted
other_in_class around t behind left inside absent false is counted = at_first_token around None t behind (Unexpected left) counted refl (λ s more same. amiss_in_class around t behind inside absent is s more same)

pub placed_in_class : (around : Around) (t : Token) (behind : List Token) (stop : Stop) → around.in_class ≡ true → may_be_alone t.kind behind ≡ false → IsRefusedInClass (t ∷ behind) stop → PlacedRefused around None (t ∷ behind) stop
placed_in_class around t behind (Here (Unexpected left)) inside absent is = other_in_class around t behind left inside absent (is_text_kind t.kind) refl is
placed_in_class around t behind (Here (TooDeep place)) inside absent is = absurd is
placed_in_class around t behind (Here (TooMany place)) inside absent is = absurd is
placed_in_class around t behind (Here Memory) inside absent is = absurd is
placed_in_class around t behind End inside absent is = absurd is

-- ---- what is found

alone_there : (t : Token) (behind : List Token) (s : Simple) → simple_tokens s ≡ t ∷ behind → may_be_alone t.kind behind ≡ true → are_alone (t ∷ behind) ≡ true
alone_there t behind s same may = by t.kind refl may
  where
    with_nothing : (kind : TokenKind) → t.kind ≡ kind → alone_kind kind ≡ true → behind ≡ [] → are_alone (t ∷ behind) ≡ true
    with_nothing kind is alone nothing = ap (λ (ts : List Token). are_alone (t ∷ ts)) nothing ∙ ap alone_kind is ∙ alone

    by : (kind : TokenKind) → t.kind ≡ kind → may_be_alone kind behind ≡ true → are_alone (t ∷ behind) ≡ true
    by (Text bytes) is may = with_nothing (Text bytes) is refl (nothing_there behind (length behind == 0) refl may)
    by (Keyword n) is may = with_nothing (Keyword n) is may (pass_is_alone s t behind same (is ∙ ap Keyword (eqb-true n 28 may)))
    by (Word bytes) is may = cc
    by (Number value) is may = cc
    by (Sign n) is may = cc

-- in a class it is a text alone, or `pass`
pub placed_found : (around : Around) (t : Token) (behind : List Token) (form : Form) → (around.in_class ≡ true → may_be_alone t.kind behind ≡ true) → SimpleFound around (t ∷ behind) form → PlacedFound around (t ∷ behind) form
placed_found around t behind form alone f = record {
  written = f.written;
  before_is = f.before_is;
  tree_is = f.tree_is;
  fits = f.fits;
  stands = by around.in_class refl (form_stands around (simple_form f.written)) f.stands;
}
  where
    by : (inside : Bool) → around.in_class ≡ inside → (b : Bool) → b ≡ true → ((not inside || are_alone (simple_tokens f.written)) && b) ≡ true
    by false is true stands = refl
    by true is true stands = ap (λ c. c && true) (ap are_alone (sym f.before_is) ∙ alone_there t behind f.written (sym f.before_is) (alone is))
    by inside is false stands = cc

-- ---- what has begun where one may stand

-- outside a class nothing more is asked
may_outside : (around : Around) (s : Simple) → around.in_class ≡ false → has_place around s ≡ true → simple_stands around s ≡ true
may_outside around s out so = ap (λ inside. (not inside || are_alone (simple_tokens s)) && has_place around s) out ∙ so

within_outside : (around : Around) (tokens : List Token) → around.in_class ≡ false → BeginsSimple (has_place around) tokens → BeginsPlaced around tokens
within_outside around tokens out (inl b) = inl (λ at. let c = b at in record { some = c.some; is_so = may_outside around c.some out c.is_so; more = c.more; tokens_are = c.tokens_are; within = c.within })
within_outside around tokens out (inr b) = inr (out, b)

deep_outside : (around : Around) (tokens : List Token) (place : Pos) → around.in_class ≡ false → DeepSimple (has_place around) tokens place → DeepPlaced around tokens place
deep_outside around tokens place out (inl b) = inl (record {
  some = b.some;
  is_so = may_outside around b.some out b.is_so;
  more = b.more;
  tokens_are = b.tokens_are;
  ahead = b.ahead;
  named = b.named;
  between = b.between;
  front_is = b.front_is;
  named_is = b.named_is;
  deep = b.deep;
  within = b.within;
})
deep_outside around tokens place out (inr b) = inr (out, b)

names_outside : (around : Around) (front : List Token) (t : Token) (fault : Fault) → around.in_class ≡ false → NamesDeep (DeepSimple (has_place around)) front t fault → NamesDeep (DeepPlaced around) front t fault
names_outside around front t (TooDeep place) out goes = deep_outside around (front ++ t ∷ []) place out goes
names_outside around front t (Unexpected left) out goes = tt
names_outside around front t (TooMany at) out goes = tt
names_outside around front t Memory out goes = tt

-- `del` is not `pass`
no_pass : (t : Token) (spot : Spot) (tokens rest : List Token) → token (Keyword 12) spot ∷ tokens ≡ t ∷ rest → t.kind ≡ Keyword 28 → ⊥
no_pass t spot tokens rest is kind = let same : Keyword 12 ≡ Keyword 28 = ap (λ (t : Token). t.kind) (same_first (token (Keyword 12) spot) t tokens rest is) ∙ kind in cc

-- behind `pass` nothing begins
placed_pass : (around : Around) (t : Token) (ts : List Token) → t.kind ≡ Keyword 28 → BeginsSimple (has_place around) (t ∷ ts) → BeginsPlaced around (t ∷ ts)
placed_pass around t ts kind (inl b) = let c = b nowhere in by ts c.more (pass_is_alone c.some t (ts ++ c.more) c.tokens_are kind)
  where
    by : (ts more : List Token) → ts ++ more ≡ [] → BeginsPlaced around (t ∷ ts)
    by [] more none = inl (λ at. record { some = pass (spot_of t); is_so = pass_stands around (spot_of t); more = []; tokens_are = ap (λ k. record { at = t.at; span = t.span; kind = k } ∷ []) (sym kind); within = λ other apart. omega arith })
    by (u ∷ us) more none = absurd (not_nothing u (us ++ more) none)
placed_pass around t ts kind (inr b) = absurd (let c = b nowhere in no_pass t c.spot (expr_tokens c.some) (ts ++ c.more) c.tokens_are kind)

-- in a class a text alone or `pass` has begun
placed_inside : (around : Around) (t : Token) (behind : List Token) → may_be_alone t.kind behind ≡ true → (tokens rest : List Token) → t ∷ behind ≡ tokens ++ rest → BeginsSimple (has_place around) tokens → BeginsPlaced around tokens
placed_inside around t behind may [] rest is begun = pass_begins around
placed_inside around t behind may (u ∷ us) rest is begun = subst (λ (u : Token). BeginsPlaced around (u ∷ us)) first (by t.kind refl may)
  where
    first : t ≡ u
    first = same_first t u behind (us ++ rest) is

    alone : (us rest : List Token) → us ++ rest ≡ [] → us ≡ []
    alone [] rest is = refl
    alone (v ∷ us) rest is = absurd (not_nothing v (us ++ rest) is)

    by : (kind : TokenKind) → t.kind ≡ kind → may_be_alone kind behind ≡ true → BeginsPlaced around (t ∷ us)
    by (Text bytes) kind may =
        let nothing : behind ≡ [] = nothing_there behind (length behind == 0) refl may in
        subst (λ (ts : List Token). BeginsPlaced around (t ∷ ts)) (sym (alone us rest (sym (same_behind t u behind (us ++ rest) is) ∙ nothing))) (begins_text around t (ap is_text_kind kind))
    by (Keyword n) kind may = placed_pass around t us (kind ∙ ap Keyword (eqb-true n 28 may)) (subst (λ (v : Token). BeginsSimple (has_place around) (v ∷ us)) (sym first) begun)
    by (Word bytes) kind may = cc
    by (Number value) kind may = cc
    by (Sign n) kind may = cc

-- there nothing lies too deep
low_alone : (around : Around) (place : Pos) (t : Token) (s : Simple) → simple_tokens s ≡ t ∷ [] → simple_depth s ≤ 100 → Finds (IsAmiss around (Here (TooDeep place))) simple_part.read (t ∷ []) → ⊥
low_alone around place t s is fits finds = let deep : 100 < simple_lies s place = finds_simple (IsAmiss around (Here (TooDeep place))) (t ∷ []) s finds is in let low = simple_within s fits place in absurd (omega (arith, deep, low))

-- nor does what begins with `pass` go on
pass_shown : (around : Around) (t : Token) (behind : List Token) (place : Pos) → t.kind ≡ Keyword 28 → (front : List Token) (u : Token) (rest : List Token) → t ∷ behind ≡ front ++ u ∷ rest → DeepSimple (has_place around) (front ++ u ∷ []) place
    → ((more : List Token) → Finds (IsAmiss around (Here (TooDeep place))) simple_part.read (front ++ u ∷ more)) → ⊥
pass_shown around t behind place kind [] u rest is goes none =
    low_alone around place t (pass (spot_of t)) (ap (λ k. record { at = t.at; span = t.span; kind = k } ∷ []) (sym kind)) (omega arith) (subst (λ (v : Token). Finds (IsAmiss around (Here (TooDeep place))) simple_part.read (v ∷ [])) (sym (same_first t u behind rest is)) (none []))
pass_shown around t behind place kind (v ∷ vs) u rest is (inl b) none =
    let first : v ≡ t = sym (same_first t v behind (vs ++ u ∷ rest) is) in
    more_behind vs u b.more (pass_is_alone b.some v ((vs ++ u ∷ []) ++ b.more) b.tokens_are (ap (λ (t : Token). t.kind) first ∙ kind))
  where
    more_behind : (vs : List Token) (u : Token) (more : List Token) → (vs ++ u ∷ []) ++ more ≡ [] → ⊥
    more_behind [] u more none = not_nothing u more none
    more_behind (w ∷ ws) u more none = not_nothing w ((ws ++ u ∷ []) ++ more) none
pass_shown around t behind place kind (v ∷ vs) u rest is (inr b) none =
    let first : v ≡ t = sym (same_first t v behind (vs ++ u ∷ rest) is) in
    no_pass v b.spot (expr_tokens b.some) ((vs ++ u ∷ []) ++ b.more) b.tokens_are (ap (λ (t : Token). t.kind) first ∙ kind)

text_shown : (around : Around) (t : Token) (behind : List Token) (place : Pos) (bytes : List ℕ) → t.kind ≡ Text bytes → behind ≡ [] → (front : List Token) (u : Token) (rest : List Token) → t ∷ behind ≡ front ++ u ∷ rest
    → ((more : List Token) → Finds (IsAmiss around (Here (TooDeep place))) simple_part.read (front ++ u ∷ more)) → ⊥
text_shown around t behind place bytes kind nothing [] u rest is none =
    low_alone around place t (text_statement t bytes) (ap (λ k. record { at = t.at; span = t.span; kind = k } ∷ []) (sym kind)) (omega arith) (subst (λ (v : Token). Finds (IsAmiss around (Here (TooDeep place))) simple_part.read (v ∷ [])) (sym (same_first t u behind rest is)) (none []))
text_shown around t behind place bytes kind nothing (v ∷ vs) u rest is none = more_behind vs u rest (sym (same_behind t v behind (vs ++ u ∷ rest) is) ∙ nothing)
  where
    more_behind : (vs : List Token) (u : Token) (rest : List Token) → vs ++ u ∷ rest ≡ [] → ⊥
    more_behind [] u rest none = not_nothing u rest none
    more_behind (w ∷ ws) u rest none = not_nothing w (ws ++ u ∷ rest) none

never_deep : (around : Around) (t : Token) (behind : List Token) → may_be_alone t.kind behind ≡ true → (place : Pos) → SimpleShown around (t ∷ behind) (TooDeep place) → ⊥
never_deep around t behind may place s = by t.kind refl may
  where
    by : (kind : TokenKind) → t.kind ≡ kind → may_be_alone kind behind ≡ true → ⊥
    by (Text bytes) kind may = text_shown around t behind place bytes kind (nothing_there behind (length behind == 0) refl may) s.front s.shown_by s.behind s.before_is s.none
    by (Keyword n) kind may = pass_shown around t behind place (kind ∙ ap Keyword (eqb-true n 28 may)) s.front s.shown_by s.behind s.before_is s.goes_on s.none
    by (Word bytes) kind may = cc
    by (Number value) kind may = cc
    by (Sign n) kind may = cc

names_inside : (around : Around) (t : Token) (behind : List Token) → may_be_alone t.kind behind ≡ true → (fault : Fault) (s : SimpleShown around (t ∷ behind) fault) → NamesDeep (DeepPlaced around) s.front s.shown_by fault
names_inside around t behind may (TooDeep place) s = absurd (never_deep around t behind may place s)
names_inside around t behind may (Unexpected left) s = tt
names_inside around t behind may (TooMany at) s = tt
names_inside around t behind may Memory s = tt

places : (around : Around) (t : Token) (behind : List Token) → (around.in_class ≡ true → may_be_alone t.kind behind ≡ true) → Places around (t ∷ behind)
places around t behind alone = by around.in_class refl
  where
    by : (inside : Bool) → around.in_class ≡ inside → Places around (t ∷ behind)
    by true inside = record {
      within = λ tokens rest is begun. placed_inside around t behind (alone inside) tokens rest is begun;
      first = λ fault s. names_inside around t behind (alone inside) fault s;
    }
    by false out = record { within = λ tokens rest is begun. within_outside around tokens out begun; first = λ fault s. names_outside around s.front s.shown_by fault out s.goes_on }

-- ---- with what is known of the tokens

abbrev PlacedThere : Around → (limit : Option Limit) → Stop → List Token → Type 0
PlacedThere around limit stop ts = PlacedRefused around limit ts stop

pub limit_there : (around : Around) (limit : Option Limit) (l : Limit) (before : List Token) (t : Token) (behind : List Token) (fault : Fault) → limit ≡ Some l → before ≡ t ∷ behind → fault ≡ limit_fault l t.at → PlacedRefused around limit before (Here fault)
limit_there around limit l before t behind fault some is at =
    subst (λ w. PlacedRefused around limit before (Here w)) (sym at)
    (subst (λ o. PlacedRefused around o before (Here (limit_fault l t.at))) (sym some) (subst (PlacedThere around (Some l) (Here (limit_fault l t.at))) (sym is) (placed_limited around l t behind)))

pub word_there : (around : Around) (limit : Option Limit) (before : List Token) (t : Token) (behind : List Token) (left : ℕ) → limit ≡ None → before ≡ t ∷ behind → is_refused_kind t.kind ≡ true → left ≡ length behind → PlacedRefused around limit before (Here (Unexpected left))
word_there around limit before t behind left free is kind counted = subst (PlacedThere around limit (Here (Unexpected left))) (sym is) (placed_word around limit t behind left free kind counted)

pub class_there : (around : Around) (limit : Option Limit) (before : List Token) (t : Token) (behind : List Token) (stop : Stop) → limit ≡ None → before ≡ t ∷ behind → around.in_class ≡ true → may_be_alone t.kind behind ≡ false → IsRefusedInClass before stop → PlacedRefused around limit before stop
class_there around limit before t behind stop free is inside alone refused =
    subst (λ l. PlacedRefused around l before stop) (sym free) (subst (PlacedThere around None stop) (sym is) (placed_in_class around t behind stop inside alone (subst (λ (ts : List Token). IsRefusedInClass ts stop) is refused)))

pub refused_there : (around : Around) (limit : Option Limit) (before : List Token) (t : Token) (behind : List Token) (stop : Stop) → limit ≡ None → before ≡ t ∷ behind → (around.in_class ≡ true → may_be_alone t.kind behind ≡ true) → SimpleRefused around before stop
    → PlacedRefused around limit before stop
refused_there around limit before t behind stop free is alone refused =
    subst (λ l. PlacedRefused around l before stop) (sym free) (subst (PlacedThere around None stop) (sym is) (placed_refused around (t ∷ behind) stop (places around t behind alone) (subst (λ (ts : List Token). SimpleRefused around ts stop) is refused)))

pub found_there : (around : Around) (before : List Token) (t : Token) (behind : List Token) (form : Form) → before ≡ t ∷ behind → (around.in_class ≡ true → may_be_alone t.kind behind ≡ true) → SimpleFound around before form → PlacedFound around before form
found_there around before t behind form is alone f =
    subst (λ (ts : List Token). PlacedFound around ts form) (sym is) (placed_found around t behind form alone (subst (λ (ts : List Token). SimpleFound around ts form) is f))

-- ---- behind a `:`

pub behind_none : (around : Around) (limit : Option Limit) (before : List Token) → before ≡ [] → BehindFound around limit before None
behind_none around limit before is = record { written = None; before_is = is; what_is = tt; fits = omega arith; stands = refl; within = λ passed. refl }

pub behind_some : (around : Around) (limit : Option Limit) (before : List Token) (t : Token) (ts : List Token) (form : Form) → before ≡ t ∷ ts → is_some limit ≡ false → PlacedFound around before form
    → BehindFound around limit before (Some (record { at = t.at; from = t.span.from; form = form }))
behind_some around limit before t ts form is free f = record {
  written = Some f.written;
  before_is = f.before_is;
  what_is = record { form_is = f.tree_is; begins = subst (λ (us : List Token). begins_at us t.at t.span.from) (sym is ∙ f.before_is) (refl, refl) };
  fits = f.fits;
  stands = f.stands;
  within = λ passed. let wrong : true ≡ false = sym passed ∙ free in cc;
}

pub behind_is_refused : (around : Around) (limit : Option Limit) (before : List Token) (t : Token) (ts : List Token) (stop : Stop) → before ≡ t ∷ ts → PlacedRefused around limit before stop → BehindRefused around limit before stop
behind_is_refused around limit before t ts stop is refused = record { placed = refused; some = λ none. not_nothing t ts (sym is ∙ none) }

-- what is asked in a class is asked nowhere else
pub outside : (inside alone : Bool) → inside ≡ false → inside ≡ true → alone ≡ true
outside false alone other is = cc
outside true alone other is = cc

pub none_there : (ts : List Token) → length ts ≡ 0 → ts ≡ []
none_there [] is = refl
none_there (t ∷ ts) is = absurd (omega (arith, is))
