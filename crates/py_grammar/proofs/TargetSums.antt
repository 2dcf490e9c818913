-- Targets that are read as sums: how they begin, and where they go on.
use Rattle.std.proofs.Common.{◌≡◌, inl, ℕ, ◌+◌, max, ◌≤◌, ◌<◌, true, false, List, [], ◌∷◌, ◌++◌, Some, refl, ap, sym, ◌∙◌, arith, subst, append_assoc, append-nil}
use Rattle.std.proofs.lemmas.Option.{same_Some}
use Rattle.prov_base.specs.declared.place.Pos.{Pos}
use Rattle.py_lines.specs.declared.parts.Token.{Token}
use Rattle.py_lines.specs.declared.parts.TokenKind.TheVariants.{Sign}
use Rattle.py_expressions.specs.declared.fault.Fault.TheVariants.{TooDeep}
use Rattle.py_expressions.specs.declared.fault.Stop.{Stop}
use Rattle.py_expressions.specs.declared.fault.Stop.TheVariants.{Here, End}
use Rattle.py_expressions.specs.Concrete.{Spot, Expr, plain_expr, plain_or, plain_and, plain_not, plain_cmp, Sum, plain_sum, plain_term, plain_unary}
use Rattle.py_expressions.specs.Tokens.{token, sum_tokens}
use Rattle.py_expressions.specs.Lies.{sum_lies}
use Rattle.py_grammar.specs.StatementLies.{one_target_lies}
use Rattle.py_expressions.specs.Reader.{next_level, starts, is_sign, read_sum}
use Rattle.py_expressions.specs.Targets.{OneTarget, named, item, field, one_target, expr_target}
use Rattle.py_grammar.specs.StatementTokens.{one_target_tokens}
use Rattle.py_grammar.specs.LineReader.{read_one_target}
use Rattle.py_expressions.specs.Parsed.{IsDeep, Only, Finds, is_form}
use Rattle.py_grammar.specs.ParsedHead.{passed_tokens, passed_lies, room_behind}
use Rattle.py_expressions.proofs.Leading.{Reads}
use Rattle.py_expressions.proofs.Reading.{sum_leads, sum_stops}
use Rattle.py_expressions.proofs.Firsts.{sum_starts, is_above}
use Rattle.py_expressions.proofs.Refusals.{deeper}
use Rattle.py_expressions.proofs.RowParts.{more_steps}
use Rattle.py_grammar.proofs.LineFirsts.{same_first, same_behind, not_nothing}
use Rattle.py_grammar.proofs.HeadReading.{target_prim, one_target_reads, target_begins}

-- ---- a target is read as a sum

abbrev pub lift : Sum → Expr
lift s = plain_expr (plain_or (plain_and (plain_not (plain_cmp s))))

abbrev pub target_sum : OneTarget → Sum
target_sum t = plain_sum (plain_term (plain_unary (target_prim t)))

pub sum_spells : (t : OneTarget) → one_target_tokens t ≡ sum_tokens (target_sum t)
sum_spells (named at bytes) = refl
sum_spells (item p opening index closing) = refl
sum_spells (field p dot name_at bytes) = refl

pub sum_lies_so : (t : OneTarget) (at : Pos) → sum_lies (target_sum t) at ≡ one_target_lies t at
sum_lies_so (named spot bytes) at = refl
sum_lies_so (item p opening index closing) at = refl
sum_lies_so (field p dot name_at bytes) at = refl

pub sum_form : (t : OneTarget) → is_form (expr_target (lift (target_sum t))) ≡ true
sum_form (named at bytes) = refl
sum_form (item p opening index closing) = refl
sum_form (field p dot name_at bytes) = refl

pub sum_reads : (s : Sum) → Reads read_sum 3 (sum_tokens s) s
sum_reads s = sum_stops s (sum_leads s)

-- two readings of the same tokens
same_read : {A : Type 0} (a b : A) (x y : List Token) (p : A × List Token) (q : A × List Token) → p ≡ (a, x) → q ≡ (b, y) → p ≡ q → (a ≡ b) × (x ≡ y)
same_read a b x y p q one other is = (ap (λ (v : _ × List Token). v.0) (sym one ∙ is ∙ other), ap (λ (v : _ × List Token). v.1) (sym one ∙ is ∙ other))

pub same_sum : (s r : Sum) (a b : List Token) → 3 < next_level a → 3 < next_level b → sum_tokens s ++ a ≡ sum_tokens r ++ b → (s ≡ r) × (a ≡ b)
same_sum s r a b above high is =
    let one = sum_reads s in
    let other = sum_reads r in
    let both : Some (s, a) ≡ Some (r, b) =
    sym (one.reads other.steps a above) ∙ more_steps (λ n. read_sum n (sum_tokens s ++ a)) (other.steps + one.steps) (one.steps + other.steps) (omega arith) ∙ ap (read_sum (one.steps + other.steps)) is ∙ other.reads one.steps b high in
    same_read s r a b (s, a) (r, b) refl refl (same_Some _ _ both)

pub same_target : (t u : OneTarget) (a b : List Token) → 1 < next_level a → 1 < next_level b → one_target_tokens t ++ a ≡ one_target_tokens u ++ b → (t ≡ u) × (a ≡ b)
same_target t u a b above high is =
    let one = one_target_reads t in
    let other = one_target_reads u in
    let both : Some (t, a) ≡ Some (u, b) =
    sym (one.reads other.steps a above) ∙ more_steps (λ n. read_one_target n (one_target_tokens t ++ a)) (other.steps + one.steps) (one.steps + other.steps) (omega arith) ∙ ap (read_one_target (one.steps + other.steps)) is ∙ other.reads one.steps b high in
    same_read t u a b (t, a) (u, b) refl refl (same_Some _ _ both)

-- ---- targets and a sum that go on

-- whatever targets and sum have these tokens lie too deep
abbrev pub Unread : Stop → ℕ → List Token → Type 0
Unread why room ts = (passed : List (OneTarget × Spot)) (s : Sum) → passed_tokens passed ++ sum_tokens s ≡ ts → IsDeep why (room_behind room passed) (λ at. max (passed_lies passed at) (sum_lies s at))

abbrev IsDeepBehind : Stop → ℕ → Sum → List (OneTarget × Spot) → Type 0
IsDeepBehind why room s passed = IsDeep why (room_behind room passed) (λ at. max (passed_lies passed at) (sum_lies s at))

-- the comma behind the first target, and what stands behind it
comma_first : (p : OneTarget × Spot) (passed : List (OneTarget × Spot)) (s : Sum) → passed_tokens (p ∷ passed) ++ sum_tokens s ≡ one_target_tokens p.0 ++ token (Sign 6) p.1 ∷ (passed_tokens passed ++ sum_tokens s)
comma_first p passed s = append_assoc (one_target_tokens p.0) (token (Sign 6) p.1 ∷ passed_tokens passed) (sum_tokens s)

sum_first : (p : OneTarget × Spot) (passed : List (OneTarget × Spot)) (s : Sum) (ts : List Token) → passed_tokens (p ∷ passed) ++ sum_tokens s ≡ ts → sum_tokens (target_sum p.0) ++ token (Sign 6) p.1 ∷ (passed_tokens passed ++ sum_tokens s) ≡ ts
sum_first p passed s ts is = ap (λ us. us ++ token (Sign 6) p.1 ∷ (passed_tokens passed ++ sum_tokens s)) (sym (sum_spells p.0)) ∙ sym (comma_first p passed s) ∙ is

-- the first sum that is read there
record FirstSum (passed : List (OneTarget × Spot)) (s : Sum) (ts : List Token) : Type 0 where
  sum : Sum
  tail : List Token
  tokens_are : sum_tokens sum ++ tail ≡ ts
  beyond : 3 < next_level tail
  higher : (at : Pos) → sum_lies sum at ≤ max (passed_lies passed at) (sum_lies s at)

high_right : (a b : ℕ) → b ≤ max a b
high_right a b = omega arith

high_first : (a b c d : ℕ) → a ≡ b → a ≤ max (max b c) d
high_first a b c d is = omega (arith, is)

first_sum : (passed : List (OneTarget × Spot)) (s : Sum) (ts : List Token) → passed_tokens passed ++ sum_tokens s ≡ ts → FirstSum passed s ts
first_sum [] s ts is = record { sum = s; tail = []; tokens_are = append-nil (sum_tokens s) ∙ is; beyond = omega arith; higher = λ at. high_right 0 (sum_lies s at) }
first_sum (p ∷ passed) s ts is = record {
  sum = target_sum p.0;
  tail = token (Sign 6) p.1 ∷ (passed_tokens passed ++ sum_tokens s);
  tokens_are = sum_first p passed s ts is;
  beyond = omega arith;
  higher = λ at. high_first (sum_lies (target_sum p.0) at) (one_target_lies p.0 at) (passed_lies passed at) (sum_lies s at) (sum_lies_so p.0 at);
}

behind_low : (room : ℕ) (passed : List (OneTarget × Spot)) → 99 ≤ room → room_behind room passed ≤ room
behind_low room [] low = omega arith
behind_low room (p ∷ passed) low = low

behind_high : (room : ℕ) (passed : List (OneTarget × Spot)) → 99 ≤ room → 99 ≤ room_behind room passed
behind_high room [] low = low
behind_high room (p ∷ passed) low = omega arith

-- no sum was read there
pub unread_sum : (why : Stop) (room : ℕ) (ts : List Token) → 99 ≤ room → Finds (λ s. IsDeep why room (sum_lies s)) read_sum ts → Unread why room ts
unread_sum why room ts low finds passed s is =
    let f = first_sum passed s ts is in
    let one = sum_reads f.sum in
    let read : read_sum (one.steps + finds.steps) ts ≡ Some (f.sum, f.tail) =
    more_steps (λ n. read_sum n ts) (one.steps + finds.steps) (finds.steps + one.steps) (omega arith) ∙ ap (read_sum (finds.steps + one.steps)) (sym f.tokens_are) ∙ one.reads finds.steps f.tail f.beyond in
    let deep : IsDeep why room (sum_lies f.sum) = subst (Only (λ s. IsDeep why room (sum_lies s))) read (finds.only one.steps) in
    deeper why room (sum_lies f.sum) (room_behind room passed) (λ at. max (passed_lies passed at) (sum_lies s at)) deep (λ at some. let less = behind_low room passed low in let high = f.higher at in omega (arith, less, high))

-- a sum was read that is no target, and here one stands behind which something is left
pub unread_wrong : (why : Stop) (room : ℕ) (wrong : Sum) (t : Token) (more : List Token) → is_form (expr_target (lift wrong)) ≡ false → 3 < next_level (t ∷ more) → Unread why room (sum_tokens wrong ++ t ∷ more)
unread_wrong why room wrong t more other beyond [] s is =
    absurd (not_nothing t more (sym (same_sum s wrong [] (t ∷ more) (omega arith) beyond (append-nil (sum_tokens s) ∙ is)).1))
unread_wrong why room wrong t more other beyond (p ∷ passed) s is =
    let same = same_sum (target_sum p.0) wrong (token (Sign 6) p.1 ∷ (passed_tokens passed ++ sum_tokens s)) (t ∷ more) (omega arith) beyond (sum_first p passed s (sum_tokens wrong ++ t ∷ more) is) in
    absurd (let no : true ≡ false = sym (sum_form p.0) ∙ ap (λ s. is_form (expr_target (lift s))) same.0 ∙ other in cc)

-- behind a target and a token that does not go on with it
record OneMore (passed : List (OneTarget × Spot)) (s : Sum) (t : OneTarget) (u : Token) (us : List Token) : Type 0 where
  comma : Spot
  behind : List (OneTarget × Spot)
  passed_is : passed ≡ (t, comma) ∷ behind
  comma_is : u ≡ token (Sign 6) comma
  tokens_are : passed_tokens behind ++ sum_tokens s ≡ us

one_more : (passed : List (OneTarget × Spot)) (s : Sum) (t : OneTarget) (u : Token) (us : List Token) → 3 < next_level (u ∷ us) → passed_tokens passed ++ sum_tokens s ≡ one_target_tokens t ++ u ∷ us → OneMore passed s t u us
one_more [] s t u us beyond is =
    absurd (not_nothing u us (sym (same_sum s (target_sum t) [] (u ∷ us) (omega arith) beyond (append-nil (sum_tokens s) ∙ is ∙ ap (λ ts. ts ++ u ∷ us) (sum_spells t))).1))
one_more (p ∷ passed) s t u us beyond is =
    let rest : List Token = passed_tokens passed ++ sum_tokens s in
    let both = same_target p.0 t (token (Sign 6) p.1 ∷ rest) (u ∷ us) (omega arith) (omega (arith, beyond)) (sym (comma_first p passed s) ∙ is) in
    record {
      comma = p.1;
      behind = passed;
      passed_is = ap (λ t. (t, p.1) ∷ passed) both.0;
      comma_is = sym (same_first (token (Sign 6) p.1) u rest us both.1);
      tokens_are = same_behind (token (Sign 6) p.1) u rest us both.1;
    }

wider : (a b c room : ℕ) → 99 ≤ room → 99 + max b c ≤ room + max (max a b) c
wider a b c room low = omega (arith, low)

-- behind one target and its comma
pub unread_one : (why : Stop) (inner room : ℕ) (t : OneTarget) (comma : Spot) (ts : List Token) → 99 ≤ inner → Unread why inner ts → Unread why room (one_target_tokens t ++ token (Sign 6) comma ∷ ts)
unread_one why inner room t comma ts low unread passed s is =
    let m = one_more passed s t (token (Sign 6) comma) ts (omega arith) is in
    subst (IsDeepBehind why room s) (sym m.passed_is)
    (deeper why (room_behind inner m.behind) (λ at. max (passed_lies m.behind at) (sum_lies s at)) 99 (λ at. max (max (one_target_lies t at) (passed_lies m.behind at)) (sum_lies s at)) (unread m.behind s m.tokens_are)
    (λ at some. wider (one_target_lies t at) (passed_lies m.behind at) (sum_lies s at) (room_behind inner m.behind) (behind_high inner m.behind low)))

-- behind several, each with a comma
pub unread_passed : (why : Stop) (room : ℕ) (passed : List (OneTarget × Spot)) (ts : List Token) → 99 ≤ room → Unread why room ts → Unread why room (passed_tokens passed ++ ts)
unread_passed why room [] ts low unread ps s is = unread ps s is
unread_passed why room (p ∷ passed) ts low unread ps s is =
    unread_one why room room p.0 p.1 (passed_tokens passed ++ ts) low (unread_passed why room passed ts low unread) ps s (is ∙ append_assoc (one_target_tokens p.0) (token (Sign 6) p.1 ∷ passed_tokens passed) ts)

-- the target itself lies too deep for several
pub unread_full : (room : ℕ) (place : Pos) (t : OneTarget) (comma : Spot) (ts : List Token) → 99 < one_target_lies t place → Unread (Here (TooDeep place)) room (one_target_tokens t ++ token (Sign 6) comma ∷ ts)
unread_full room place t comma ts deep passed s is =
    let m = one_more passed s t (token (Sign 6) comma) ts (omega arith) is in
    subst (IsDeepBehind (Here (TooDeep place)) room s) (sym m.passed_is) (higher (one_target_lies t place) (passed_lies m.behind place) (sum_lies s place) deep)
  where
    higher : (a b c : ℕ) → 99 < a → 99 < max (max a b) c
    higher a b c deep = omega (arith, deep)

-- ---- where they end

-- behind a target a token that is no comma
pub ends_one : (t : OneTarget) (u : Token) (us : List Token) → 3 < next_level (u ∷ us) → is_sign 6 u.kind ≡ false → Unread End 99 (one_target_tokens t ++ u ∷ us)
ends_one t u us beyond other passed s is =
    let m = one_more passed s t u us beyond is in
    absurd (let no : true ≡ false = sym (ap (λ (t : Token). is_sign 6 t.kind) m.comma_is) ∙ other in cc)

none_above : (class : ℕ) → class ≡ 0 → 0 < class → ⊥
none_above class is above = absurd (omega (arith, is, above))

-- a token with which no sum begins
pub ends_none : (ts : List Token) → starts ts ≡ 0 → Unread End 99 ts
ends_none ts none [] s is = none_above (starts ts) none (subst (λ us. 0 < starts us) (append-nil (sum_tokens s) ∙ is) (is_above (starts (sum_tokens s ++ [])) (inl (sum_starts s []))))
ends_none ts none (p ∷ passed) s is =
    none_above (starts ts) none (subst (λ us. 0 < starts us) (sym (comma_first p passed s) ∙ is) (is_above (starts (one_target_tokens p.0 ++ token (Sign 6) p.1 ∷ (passed_tokens passed ++ sum_tokens s))) (target_begins (one_target p.0) (token (Sign 6) p.1 ∷ (passed_tokens passed ++ sum_tokens s)))))
