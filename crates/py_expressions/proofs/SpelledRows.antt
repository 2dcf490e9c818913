-- Expressions in a row that all the tokens are, read one by one: where the first of another form than a target's begins.
use Rattle.std.proofs.Common.{◌≡◌, suc, ◌+◌, ◌≤◌, ◌<◌, length, Bool, true, false, List, [], ◌∷◌, ◌++◌, Option, Some, None, option_map, option_and_then, is_some, refl, ap, sym, ◌∙◌, arith, subst, append-nil}
use Rattle.std.proofs.Math.Nat.{le-max_left, le-max_right}
use Rattle.prov_base.specs.declared.place.Pos.{Pos}
use Rattle.py_lines.specs.declared.parts.Token.{Token}
use Rattle.py_lines.specs.declared.parts.TokenKind.TheVariants.{Sign}
use Rattle.py_expressions.specs.declared.fault.Stop.{Stop}
use Rattle.py_expressions.specs.declared.part.Part.{Part}
use Rattle.py_expressions.specs.declared.spelled.Spelled.{Spelled}
use Rattle.py_expressions.specs.declared.spelled.Spelled.TheVariants.{Nothing, Target, Field, Wrong}
use Rattle.py_expressions.specs.Concrete.{Spot, Expr, Exprs, one_expr, several, Rest, end_rest, last_rest, more_rest}
use Rattle.py_expressions.specs.Tokens.{token, expr_tokens, exprs_tokens, rest_tokens}
use Rattle.py_expressions.specs.Depth.{expr_depth, exprs_depth, rest_depth}
use Rattle.py_expressions.specs.Trees.{expr_tree}
use Rattle.py_expressions.specs.Reader.{starts, next_level, read_exprs}
use Rattle.py_expressions.specs.Targets.{OneTarget, TargetRest, last_target, more_target, one_target, several_targets, expr_target, rest_target, exprs_target}
use Rattle.py_expressions.specs.Parsed.{Found, FoundRow, Refused, Taken, is_form, is_sign_next, ends_open, expr_part, exprs_part}
use Rattle.py_expressions.specs.Spelled.{SpellsRow, IsRowForm, IsRow, TellsRow, first_place, rest_wrong, exprs_wrong, is_memory, FormRead}
use Rattle.py_expressions.proofs.Reading.{if_true, if_false}
use Rattle.py_expressions.proofs.RowReads.{row_reads, row_all}
use Rattle.py_expressions.proofs.SpelledForms.{no_tokens, expr_some}
use Rattle.py_expressions.proofs.SpelledWhole.{ReadsSome, ReadsWhole, not_refused, same_value, same_left, none_refused, none_left}
use Rattle.py_expressions.proofs.Lying.{expr_low, exprs_low}

-- ---- what is left of a row

-- this is left of these expressions
pub record Remains (e : Exprs) (after : List Token) : Type 0 where
  pub rest : Rest
  pub after_is : after ≡ rest_tokens rest
  pub low : rest_depth rest ≤ 100
  pub wrong_is : rest_wrong rest ≡ exprs_wrong e

-- of whatever expressions in a row have all the tokens, what is left has these, and the first of another form stands in it
abbrev pub Left : List Token → List Token → Type 0
Left tokens after = (e : Exprs) → SpellsRow tokens e → Remains e after

all_remains : (tokens : List Token) (e : Exprs) → tokens ≡ exprs_tokens e → exprs_depth e ≤ 100 → Remains e tokens
all_remains tokens (one_expr e) is low = record { rest = last_rest e; after_is = is; low = low; wrong_is = refl }
all_remains tokens (several e comma rest) is low = record { rest = more_rest e comma rest; after_is = is; low = omega (arith, low); wrong_is = refl }

pub left_init : (tokens : List Token) → Left tokens tokens
left_init tokens e s = all_remains tokens e s.tokens_are s.low

-- the first of what is left, with what stands behind it
record First (r : Rest) (after : List Token) : Type 0 where
  first : Expr
  behind : List Token
  after_is : after ≡ expr_tokens first ++ behind
  beyond : 7 < next_level behind
  low : expr_depth first ≤ rest_depth r
  wrong : is_some (expr_target first) ≡ false → rest_wrong r ≡ first_place (expr_tokens first)
  fine : is_some (expr_target first) ≡ true → is_sign_next 6 behind ≡ false → rest_wrong r ≡ None
  next : is_some (expr_target first) ≡ true → (spot : Spot) (ts : List Token) → behind ≡ token (Sign 6) spot ∷ ts → (q : Rest) × (ts ≡ rest_tokens q) × (rest_depth q ≤ rest_depth r) × (rest_wrong q ≡ rest_wrong r)

tail_is : (t u : Token) (ts us : List Token) → t ∷ ts ≡ u ∷ us → us ≡ ts
tail_is t u ts us is = cc

first_is : (r : Rest) (t : Token) (after : List Token) → t ∷ after ≡ rest_tokens r → First r (t ∷ after)
first_is end_rest t after is = cc
first_is (last_rest e) t after is = record {
  first = e;
  behind = [];
  after_is = is ∙ sym (append-nil (expr_tokens e));
  beyond = omega arith;
  low = omega arith;
  wrong = λ no. if_false (is_some (expr_target e)) _ _ no;
  fine = λ yes none. if_true (is_some (expr_target e)) _ _ yes;
  next = λ yes spot ts no. absurd (let no : [] ≡ token (Sign 6) spot ∷ ts = no in cc);
}
first_is (more_rest e comma rest) t after is = record {
  first = e;
  behind = token (Sign 6) comma ∷ rest_tokens rest;
  after_is = is;
  beyond = omega arith;
  low = le-max_left (expr_depth e) (rest_depth rest);
  wrong = λ no. if_false (is_some (expr_target e)) _ _ no;
  fine = λ yes none. absurd (let no : true ≡ false = none in cc);
  next = λ yes spot ts same. (rest, tail_is _ _ _ _ same, le-max_right (expr_depth e) (rest_depth rest), sym (if_true (is_some (expr_target e)) _ _ yes));
}

-- ---- steps of the loop

is_some_form : (o : Option OneTarget) → is_form o ≡ is_some o
is_some_form None = refl
is_some_form (Some t) = refl

-- an expression was read
pub form_read : (before after : List Token) (part : Part) (fine : Bool) → Found expr_part expr_tree 7 100 before part after → fine ≡ part.is_target → FormRead before fine after
form_read before after part fine f is = record { written = f.written; before_is = f.before_is; form_is = is ∙ f.form_is; beyond = f.beyond }

-- it is the first of what is left
record ReadFirst (r : Rest) (before : List Token) (fine : Bool) (after : List Token) : Type 0 where
  f : First r before
  same : fine ≡ is_some (expr_target f.first)
  behind_is : f.behind ≡ after

read_first : (r : Rest) (t : Token) (ts before after : List Token) (fine : Bool) → before ≡ t ∷ ts → before ≡ rest_tokens r → FormRead before fine after → ReadFirst r before fine after
read_first r t ts before after fine there is found =
    let f : First r before = subst (λ (us : List Token). First r us) (sym there) (first_is r t ts (sym there ∙ is)) in
    let one = expr_some before found.written after found.before_is found.beyond in
    let other = expr_some before f.first f.behind f.after_is f.beyond in
    record {
      f = f;
      same = found.form_is ∙ is_some_form (expr_target found.written) ∙ ap (λ e. is_some (expr_target e)) (same_value expr_part before after f.behind found.written f.first one other);
      behind_is = sym (same_left expr_part before after f.behind found.written f.first one other);
    }

-- an expression stands there, so reading it is not refused
pub first_refused : (tokens before : List Token) (t : Token) (ts : List Token) (stop : Stop) → Left tokens before → before ≡ t ∷ ts → is_memory stop ≡ false → Refused expr_part 100 before stop → TellsRow tokens Nothing
first_refused tokens before t ts stop left there other refused e s =
    let m = left e s in
    let f : First m.rest before = subst (λ (us : List Token). First m.rest us) (sym there) (first_is m.rest t ts (sym there ∙ m.after_is)) in
    absurd (not_refused expr_part 100 before f.behind stop f.first (expr_some before f.first f.behind f.after_is f.beyond) (λ at. let lies = expr_low f.first at in let one = f.low in let all = m.low in omega (arith, lies, one, all)) other refused)

place_of : (before : List Token) (t : Token) (ts : List Token) (e : Expr) (behind : List Token) → before ≡ t ∷ ts → before ≡ expr_tokens e ++ behind → first_place (expr_tokens e) ≡ Some t.at
place_of before t ts e behind there is = by (expr_tokens e) (no_tokens e) (sym there ∙ is)
  where
    by : (us : List Token) → (us ≡ [] → ⊥) → t ∷ ts ≡ us ++ behind → first_place us ≡ Some t.at
    by [] some same = absurd (some refl)
    by (u ∷ us) some same = sym (ap first_place same)

form_some : (o : Option Pos) (at : Pos) → o ≡ Some at → IsRowForm o (Wrong at)
form_some o at is = subst (λ (o : Option Pos). IsRowForm o (Wrong at)) (sym is) refl

form_none : (o : Option Pos) → o ≡ None → IsRowForm o Target
form_none o is = subst (λ (o : Option Pos). IsRowForm o Target) (sym is) tt

-- it is the first of another form
pub first_other : (tokens before after : List Token) (t : Token) (ts : List Token) (fine : Bool) → Left tokens before → before ≡ t ∷ ts → FormRead before fine after → fine ≡ false → TellsRow tokens (Wrong t.at)
first_other tokens before after t ts fine left there found wrong e s =
    let m = left e s in
    let r = read_first m.rest t ts before after fine there m.after_is found in
    form_some (exprs_wrong e) t.at (sym m.wrong_is ∙ r.f.wrong (sym r.same ∙ wrong) ∙ place_of before t ts r.f.first r.f.behind there r.f.after_is)

-- it is the last one, and so all have a target's form
pub last_fine : (tokens before after : List Token) (t : Token) (ts : List Token) (fine : Bool) → Left tokens before → before ≡ t ∷ ts → FormRead before fine after → fine ≡ true → is_sign_next 6 after ≡ false → TellsRow tokens Target
last_fine tokens before after t ts fine left there found is none e s =
    let m = left e s in
    let r = read_first m.rest t ts before after fine there m.after_is found in
    form_none (exprs_wrong e) (sym m.wrong_is ∙ r.f.fine (sym r.same ∙ is) (ap (is_sign_next 6) r.behind_is ∙ none))

-- the next one stands behind a comma
pub left_next : (tokens before middle after : List Token) (t : Token) (ts : List Token) (fine : Bool) (at : Pos) → Left tokens before → before ≡ t ∷ ts → FormRead before fine middle → fine ≡ true → Taken (Sign 6) middle at after
    → Left tokens after
left_next tokens before middle after t ts fine at left there found is comma e s =
    let m = left e s in
    let r = read_first m.rest t ts before middle fine there m.after_is found in
    let q = r.f.next (sym r.same ∙ is) comma.spot after (r.behind_is ∙ comma.before_is) in
    record { rest = q.0; after_is = q.1; low = let one = q.2 in let all = m.low in omega (arith, one, all); wrong_is = q.3 ∙ m.wrong_is }

longer : (xs ys : List Token) → length ys ≤ length (xs ++ ys)
longer [] ys = omega arith
longer (x ∷ xs) ys = let more = longer xs ys in omega (arith, more)

pub left_shorter : (before middle after : List Token) (fine : Bool) (at : Pos) → FormRead before fine middle → Taken (Sign 6) middle at after → length after < length before
left_shorter before middle after fine at f k =
    let all : length before ≡ length (expr_tokens f.written ++ middle) = ap length f.before_is in
    let next : length middle ≡ suc (length after) = ap length k.before_is in
    let more = longer (expr_tokens f.written) middle in
    omega (arith, all, next, more)

-- none is left
end_wrong : (r : Rest) → [] ≡ rest_tokens r → rest_wrong r ≡ None
end_wrong end_rest is = refl
end_wrong (last_rest e) is = absurd (no_tokens e (sym is))
end_wrong (more_rest e comma rest) is = absurd (no_such (expr_tokens e) is)
  where
    no_such : (ts : List Token) → [] ≡ ts ++ (token (Sign 6) comma ∷ rest_tokens rest) → ⊥
    no_such [] is = cc
    no_such (t ∷ ts) is = cc

pub left_end : (tokens after : List Token) → Left tokens after → length after ≡ 0 → TellsRow tokens Target
left_end tokens [] left none e s = let m = left e s in form_none (exprs_wrong e) (sym m.wrong_is ∙ end_wrong m.rest m.after_is)
left_end tokens (t ∷ ts) left none e s = absurd (omega (arith, none))

-- ---- the whole row

row_some : (before : List Token) (e : Exprs) (after : List Token) → before ≡ exprs_tokens e ++ after → (ends_open e ≡ false → 8 < next_level after) → (ends_open e ≡ true → starts after ≡ 0) → ReadsSome exprs_part before e after
row_some before e after is beyond no_more = record { steps = (row_reads e).steps; reads = λ n. ap (read_exprs (n + (row_reads e).steps)) is ∙ (row_reads e).reads n after beyond no_more }

row_whole : ReadsWhole exprs_part
row_whole = record { reads = λ before e is. row_some before e [] (is ∙ sym (append-nil (exprs_tokens e))) (λ ends. omega arith) (λ ends. refl) }

pub row_refused : (tokens : List Token) (stop : Stop) → is_memory stop ≡ false → Refused exprs_part 100 tokens stop → IsRow tokens Nothing
row_refused tokens stop other refused e s = none_refused exprs_part tokens stop row_whole other refused e s.tokens_are (λ at. let lies = exprs_low e at in let low = s.low in omega (arith, lies, low))

pub row_left : (tokens after : List Token) (part : Part) → FoundRow 100 tokens part after → (after ≡ [] → ⊥) → IsRow tokens Nothing
row_left tokens after part f more e s = none_left exprs_part tokens after f.written row_whole (row_some tokens f.written after f.before_is f.beyond f.no_more) more e s.tokens_are

spells : {tokens after : List Token} {part : Part} → (f : FoundRow 100 tokens part after) → after ≡ [] → SpellsRow tokens f.written
spells f ends = record { tokens_are = row_all f ends; low = let high = f.height_is in let low = f.fits in omega (arith, high, low) }

no_form : (o : Option Pos) → IsRowForm o Nothing → ⊥
no_form None is = is
no_form (Some at) is = is

no_field : (o : Option Pos) (at : Pos) → IsRowForm o (Field at) → ⊥
no_field None at is = is
no_field (Some place) at is = is

is_row : (tokens : List Token) (e : Exprs) (spelled : Spelled) → SpellsRow tokens e → IsRowForm (exprs_wrong e) spelled → IsRow tokens spelled
is_row tokens e Nothing s is = absurd (no_form (exprs_wrong e) is)
is_row tokens e Target s is = (e, s, is)
is_row tokens e (Field at) s is = absurd (no_field (exprs_wrong e) at is)
is_row tokens e (Wrong at) s is = (e, s, is)

-- read once more
pub row_told : (tokens after : List Token) (part : Part) (spelled : Spelled) → FoundRow 100 tokens part after → after ≡ [] → TellsRow tokens spelled → IsRow tokens spelled
row_told tokens after part spelled f ends tells = let s = spells f ends in is_row tokens f.written spelled s (tells f.written s)

-- ---- a row of a target's form has no part of another

map_some : {B : Type 0} (o : Option OneTarget) (f : OneTarget → B) → is_some (option_map f o) ≡ true → is_some o ≡ true
map_some None f is = absurd (let no : false ≡ true = is in cc)
map_some (Some t) f is = refl

both_some : {B : Type 0} (o : Option OneTarget) (p : Option TargetRest) (f : OneTarget → TargetRest → B) → is_some (option_and_then (λ t. option_map (f t) p) o) ≡ true → (is_some o ≡ true) × (is_some p ≡ true)
both_some None p f is = absurd (let no : false ≡ true = is in cc)
both_some (Some t) None f is = absurd (let no : false ≡ true = is in cc)
both_some (Some t) (Some q) f is = (refl, refl)

rest_fine : (r : Rest) → is_some (rest_target r) ≡ true → rest_wrong r ≡ None
rest_fine end_rest is = refl
rest_fine (last_rest e) is = if_true (is_some (expr_target e)) _ _ (map_some (expr_target e) last_target is)
rest_fine (more_rest e comma rest) is =
    let b = both_some (expr_target e) (rest_target rest) (λ (t : OneTarget). more_target t comma) is in
    if_true (is_some (expr_target e)) _ _ b.0 ∙ rest_fine rest b.1

exprs_fine : (e : Exprs) → is_some (exprs_target e) ≡ true → exprs_wrong e ≡ None
exprs_fine (one_expr e) is = if_true (is_some (expr_target e)) _ _ (map_some (expr_target e) one_target is)
exprs_fine (several e comma rest) is =
    let b = both_some (expr_target e) (rest_target rest) (λ (t : OneTarget). several_targets t comma) is in
    if_true (is_some (expr_target e)) _ _ b.0 ∙ rest_fine rest b.1

pub row_fine : (tokens after : List Token) (part : Part) → FoundRow 100 tokens part after → after ≡ [] → part.is_target ≡ true → IsRow tokens Target
row_fine tokens after part f ends fine = is_row tokens f.written Target (spells f ends) (form_none (exprs_wrong f.written) (exprs_fine f.written (sym f.form_is ∙ fine)))
