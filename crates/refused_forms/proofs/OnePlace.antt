-- A refused form names one place: each row of the table names one, and where two rows stand together they name the same.
use Rattle.std.proofs.Common.{◌≡◌, ◌⊎◌, inl, inr, ℕ, suc, Bool, true, false, List, [], ◌∷◌, ◌++◌, Option, Some, None, refl, ap, sym, ◌∙◌, subst, arith, append-nil, if◌then◌else◌}
use Rattle.std.proofs.lemmas.Option.{same_Some, none-some}
use Rattle.std.proofs.lemmas.Bool.{eqb-true}
use Rattle.std.specs.Prelude.{unwrap_or}
use Rattle.prov_base.specs.declared.place.Pos.{Pos}
use Rattle.py_lines.specs.declared.parts.Token.{Token}
use Rattle.py_lines.specs.declared.parts.TokenKind.{TokenKind}
use Rattle.py_lines.specs.declared.parts.TokenKind.TheVariants.{Word, Keyword, Number, Text, Sign}
use Rattle.py_expressions.specs.Concrete.{Spot, Expr, plain_expr, plain_or, plain_and, plain_not, plain_cmp, plain_sum, plain_term, plain_unary, plain_prim, text, Exprs, one_expr}
use Rattle.py_expressions.specs.Tokens.{exprs_tokens}
use Rattle.py_expressions.specs.Reader.{start_class, starts}
use Rattle.py_expressions.specs.Targets.{expr_target}
use Rattle.py_expressions.specs.Spelled.{first_place, IsForm, SpellsExpr, SpellsRow, exprs_wrong}
use Rattle.py_expressions.proofs.Firsts.{exprs_starts, is_above}
use Rattle.refused_forms.specs.declared.standing.Standing.{Standing}
use Rattle.refused_forms.specs.LineForms.{is_word, is_text, is_equals, is_augmenting, is_first, behind_colon, statement, in_class}
use Rattle.refused_forms.specs.RefusedForms.{text_place, text_in_class, WrongTarget, WrongAugmented, behind_word, goes_on, WrongDeleted, named_place, last_target, loop_target, WrongLoop, raise_place, bare_raise, IsRefusedBefore, IsRefusedForm}
use Rattle.refused_forms.proofs.OneSpelling.{OneRow, same_row, same_expr, one_form}

-- ---- tests of what may be none

if_so : {A : Type 0} (c : Bool) (x y : A) → (if c then Some x else None) ≡ Some y → (c ≡ true) × (x ≡ y)
if_so true x y is = (refl, same_Some _ _ is)
if_so false x y is = absurd (none-some _ is)

then_so : {A : Type 0} (c : Bool) (o : Option A) (y : A) → (if c then o else None) ≡ Some y → o ≡ Some y
then_so true o y is = is
then_so false o y is = absurd (none-some _ is)

else_so : {A : Type 0} (c : Bool) (o : Option A) (y : A) → (if c then None else o) ≡ Some y → o ≡ Some y
else_so true o y is = absurd (none-some _ is)
else_so false o y is = is

-- ---- what tokens begin with: one more than a keyword's number, or nothing of the kind

abbrev code : TokenKind → ℕ
code (Word bytes) = 0
code (Keyword n) = suc n
code (Number value) = 0
code (Text bytes) = 0
code (Sign n) = 0

abbrev begun : List Token → ℕ
begun [] = 0
begun (t ∷ ts) = code t.kind

text_code : (kind : TokenKind) (at place : Pos) → (if is_text kind then Some at else None) ≡ Some place → code kind ≡ 0
text_code (Word bytes) at place is = refl
text_code (Keyword n) at place is = absurd (none-some _ is)
text_code (Number value) at place is = refl
text_code (Text bytes) at place is = refl
text_code (Sign n) at place is = refl

text_begins : (ts : List Token) (place : Pos) → text_place ts ≡ Some place → begun ts ≡ 0
text_begins [] place is = refl
text_begins (t ∷ []) place is = text_code t.kind t.at place is
text_begins (t ∷ u ∷ ts) place is = absurd (none-some _ is)

word_code : (n : ℕ) (kind : TokenKind) → is_word n kind ≡ true → code kind ≡ suc n
word_code n (Word bytes) is = cc
word_code n (Keyword m) is = ap suc (eqb-true m n is)
word_code n (Number value) is = cc
word_code n (Text bytes) is = cc
word_code n (Sign m) is = cc

word_begins : (n : ℕ) (ts tokens : List Token) → behind_word n ts ≡ Some tokens → begun ts ≡ suc n
word_begins n [] tokens is = absurd (none-some _ is)
word_begins n (t ∷ ts) tokens is = word_code n t.kind (if_so (is_word n t.kind) ts tokens is).0

raise_begins : (ts : List Token) (place : Pos) → raise_place ts ≡ Some place → begun ts ≡ 30
raise_begins [] place is = absurd (none-some _ is)
raise_begins (t ∷ []) place is = word_code 29 t.kind (if_so (is_word 29 t.kind) t.at place is).0
raise_begins (t ∷ u ∷ ts) place is = absurd (none-some _ is)

bare_begins : (front rest : List Token) (place : Pos) → bare_raise front rest ≡ Some place → begun (statement front) ≡ 30
bare_begins front [] place is = raise_begins (statement front) place is
bare_begins front (t ∷ rest) place is = absurd (none-some _ is)

-- expressions begin with none of the keywords that begin a statement
keyword_class : (n : ℕ) (kind : TokenKind) → start_class (Keyword n) ≡ 0 → code kind ≡ suc n → start_class kind ≡ 0
keyword_class n (Word bytes) none is = absurd (omega (arith, is))
keyword_class n (Keyword m) none is = let same : m ≡ n = omega (arith, is) in ap (λ (k : ℕ). start_class (Keyword k)) same ∙ none
keyword_class n (Number value) none is = absurd (omega (arith, is))
keyword_class n (Text bytes) none is = absurd (omega (arith, is))
keyword_class n (Sign m) none is = absurd (omega (arith, is))

starts_none : (n : ℕ) (ts : List Token) → start_class (Keyword n) ≡ 0 → begun ts ≡ suc n → starts ts ≡ 0
starts_none n [] none is = refl
starts_none n (t ∷ ts) none is = keyword_class n t.kind none is

row_begins : (n : ℕ) (ts : List Token) (e : Exprs) → start_class (Keyword n) ≡ 0 → ts ≡ exprs_tokens e → begun ts ≡ suc n → ⊥
row_begins n ts e none are is =
    let zero_is : starts ts ≡ 0 = starts_none n ts none is in
    let above = is_above (starts (exprs_tokens e ++ [])) (exprs_starts e []) in
    let same : starts (exprs_tokens e ++ []) ≡ starts ts = ap starts (append-nil (exprs_tokens e) ∙ sym are) in
    omega (arith, zero_is, above, same)

-- ---- what each row tells of the statement so far

target_row : (front rest : List Token) (place : Pos) (w : WrongTarget front rest place) → (is_first is_equals rest ≡ true) × (statement front ≡ w.tokens)
target_row front rest place w = if_so (is_first is_equals rest) (statement front) w.tokens w.tokens_are

augmented_row : (front rest : List Token) (place : Pos) (w : WrongAugmented front rest place) → (is_first is_augmenting rest ≡ true) × (statement front ≡ w.tokens)
augmented_row front rest place w = if_so (is_first is_augmenting rest) (statement front) w.tokens w.tokens_are

deleted_begins : (front rest : List Token) (place : Pos) → WrongDeleted front rest place → begun (statement front) ≡ 13
deleted_begins front rest place w = word_begins 12 (statement front) w.tokens (else_so (is_first goes_on rest) (behind_word 12 (statement front)) w.tokens w.tokens_are)

last_begins : (front tokens : List Token) (o : Option (List Token)) → behind_word 17 front ≡ o → last_target o ≡ Some tokens → begun front ≡ 18
last_begins front tokens None is found = absurd (none-some _ found)
last_begins front tokens (Some ts) is found = word_begins 17 front ts is

loop_by : (front tokens : List Token) (o : Option (List Token)) → behind_colon 0 front ≡ o → loop_target front ≡ Some tokens → begun (unwrap_or o front) ≡ 18
loop_by front tokens None is found = last_begins front tokens (behind_word 17 front) refl (rw is at found)
loop_by front tokens (Some ts) is found = absurd (none-some _ (rw is at found))

loop_begins : (front : List Token) (place : Pos) → WrongLoop front place → begun (statement front) ≡ 18
loop_begins front place w = loop_by front w.tokens (behind_colon 0 front) refl w.tokens_are

-- ---- each row names one place

targets_alike : OneRow → (front rest : List Token) (a b : Pos) → WrongTarget front rest a → WrongTarget front rest b → a ≡ b
targets_alike one front rest a b p q =
    let same : p.tokens ≡ q.tokens = same_Some _ _ (sym p.tokens_are ∙ q.tokens_are) in
    let there = subst (λ (ts : List Token). SpellsRow ts q.value) (sym same) q.spells in
    same_Some _ _ (sym p.place_is ∙ ap exprs_wrong (same_row one p.tokens p.value q.value p.spells there) ∙ q.place_is)

augmented_alike : (front rest : List Token) (a b : Pos) → WrongAugmented front rest a → WrongAugmented front rest b → a ≡ b
augmented_alike front rest a b p q =
    let same : p.tokens ≡ q.tokens = same_Some _ _ (sym p.tokens_are ∙ q.tokens_are) in
    same_Some _ _ (sym p.place_is ∙ ap first_place same ∙ q.place_is)

deleted_alike : OneRow → (front rest : List Token) (a b : Pos) → WrongDeleted front rest a → WrongDeleted front rest b → a ≡ b
deleted_alike one front rest a b p q =
    let same : p.tokens ≡ q.tokens = same_Some _ _ (sym p.tokens_are ∙ q.tokens_are) in
    let there = subst (λ (ts : List Token). SpellsExpr ts q.value) (sym same) q.spells in
    let form = subst (λ (ts : List Token). IsForm (expr_target q.value) ts q.spelled) (sym same) q.form_is in
    let theirs = subst (λ (e : Expr). IsForm (expr_target e) p.tokens q.spelled) (sym (same_expr one p.tokens p.value q.value p.spells there)) form in
    same_Some _ _ (sym p.place_is ∙ ap named_place (one_form p.tokens (expr_target p.value) p.spelled q.spelled p.form_is theirs) ∙ q.place_is)

loops_alike : (front : List Token) (a b : Pos) → WrongLoop front a → WrongLoop front b → a ≡ b
loops_alike front a b p q =
    let same : p.tokens ≡ q.tokens = same_Some _ _ (sym p.tokens_are ∙ q.tokens_are) in
    same_Some _ _ (sym p.place_is ∙ ap first_place same ∙ q.place_is)

found_alike : (found : Option Pos) (a b : Pos) → found ≡ Some a → found ≡ Some b → a ≡ b
found_alike found a b p q = same_Some _ _ (sym p ∙ q)

-- ---- a text that is a wrong target too

abbrev text_row : Spot → List ℕ → Exprs
text_row spot bytes = one_expr (plain_expr (plain_or (plain_and (plain_not (plain_cmp (plain_sum (plain_term (plain_unary (plain_prim (text spot bytes))))))))))

alone_named : OneRow → (t : Token) (kind : TokenKind) (e : Exprs) (a b : Pos) → t.kind ≡ kind → (if is_text kind then Some t.at else None) ≡ Some a → t ∷ [] ≡ exprs_tokens e → exprs_wrong e ≡ Some b → a ≡ b
alone_named one t (Word bytes) e a b kind_is is are wrong = absurd (none-some _ is)
alone_named one t (Keyword n) e a b kind_is is are wrong = absurd (none-some _ is)
alone_named one t (Number value) e a b kind_is is are wrong = absurd (none-some _ is)
alone_named one t (Sign n) e a b kind_is is are wrong = absurd (none-some _ is)
alone_named one t (Text bytes) e a b kind_is is are wrong =
    let spot : Spot = record { at = t.at; span = t.span } in
    let tokens : exprs_tokens (text_row spot bytes) ≡ t ∷ [] = ap (λ (k : TokenKind). record { at = t.at; span = t.span; kind = k } ∷ []) (sym kind_is) in
    let named : exprs_wrong (text_row spot bytes) ≡ exprs_wrong e = ap exprs_wrong (one (text_row spot bytes) e (tokens ∙ are)) in
    same_Some _ _ (sym is ∙ named ∙ wrong)

text_named : OneRow → (ts : List Token) (e : Exprs) (a b : Pos) → text_place ts ≡ Some a → ts ≡ exprs_tokens e → exprs_wrong e ≡ Some b → a ≡ b
text_named one [] e a b is are wrong = absurd (none-some _ is)
text_named one (t ∷ []) e a b is are wrong = alone_named one t t.kind e a b refl is are wrong
text_named one (t ∷ u ∷ ts) e a b is are wrong = absurd (none-some _ is)

text_first : (ts : List Token) (a b : Pos) → text_place ts ≡ Some a → first_place ts ≡ Some b → a ≡ b
text_first [] a b is first = absurd (none-some _ is)
text_first (t ∷ []) a b is first = same_Some _ _ (sym (then_so (is_text t.kind) (Some t.at) a is) ∙ first)
text_first (t ∷ u ∷ ts) a b is first = absurd (none-some _ is)

-- ---- two rows

-- `=` is no operator of an augmented assignment
sign_once : (kind : TokenKind) → is_equals kind ≡ true → is_augmenting kind ≡ true → ⊥
sign_once (Word bytes) is other = cc
sign_once (Keyword n) is other = cc
sign_once (Number value) is other = cc
sign_once (Text bytes) is other = cc
sign_once (Sign n) is other = let no : false ≡ true = subst (λ (m : ℕ). is_augmenting (Sign m) ≡ true) (eqb-true n 9 is) other in cc

first_once : (rest : List Token) → is_first is_equals rest ≡ true → is_first is_augmenting rest ≡ true → ⊥
first_once [] is other = cc
first_once (t ∷ rest) is other = sign_once t.kind is other

abbrev OfLoop : List Token → List Token → Pos → Type 0
OfLoop front rest place = WrongLoop front place ⊎ (bare_raise front rest ≡ Some place)

abbrev OfDeleted : List Token → List Token → Pos → Type 0
OfDeleted front rest place = WrongDeleted front rest place ⊎ OfLoop front rest place

abbrev OfAugmented : List Token → List Token → Pos → Type 0
OfAugmented front rest place = WrongAugmented front rest place ⊎ OfDeleted front rest place

abbrev OfTarget : List Token → List Token → Pos → Type 0
OfTarget front rest place = WrongTarget front rest place ⊎ OfAugmented front rest place

loop_and_raise : (front rest : List Token) (a b : Pos) → WrongLoop front a → bare_raise front rest ≡ Some b → a ≡ b
loop_and_raise front rest a b p q =
    let is = loop_begins front a p in
    let other = bare_begins front rest b q in
    absurd (omega (arith, is, other))

deleted_and : (front rest : List Token) (a b : Pos) → WrongDeleted front rest a → OfLoop front rest b → a ≡ b
deleted_and front rest a b p (inl q) =
    let is = deleted_begins front rest a p in
    let other = loop_begins front b q in
    absurd (omega (arith, is, other))
deleted_and front rest a b p (inr q) =
    let is = deleted_begins front rest a p in
    let other = bare_begins front rest b q in
    absurd (omega (arith, is, other))

-- what expressions begin, no keyword begins
row_and : {A : Type 0} (front rest tokens : List Token) (e : Exprs) (b : Pos) → statement front ≡ tokens → tokens ≡ exprs_tokens e → OfDeleted front rest b → A
row_and front rest tokens e b is are (inl q) = absurd (row_begins 12 (statement front) e refl (is ∙ are) (deleted_begins front rest b q))
row_and front rest tokens e b is are (inr (inl q)) = absurd (row_begins 17 (statement front) e refl (is ∙ are) (loop_begins front b q))
row_and front rest tokens e b is are (inr (inr q)) = absurd (row_begins 29 (statement front) e refl (is ∙ are) (bare_begins front rest b q))

augmented_and : (front rest : List Token) (a b : Pos) → WrongAugmented front rest a → OfDeleted front rest b → a ≡ b
augmented_and front rest a b p q = row_and front rest p.tokens p.value b (augmented_row front rest a p).1 p.spells.tokens_are q

target_and : (front rest : List Token) (a b : Pos) → WrongTarget front rest a → OfAugmented front rest b → a ≡ b
target_and front rest a b p (inl q) = absurd (first_once rest (target_row front rest a p).0 (augmented_row front rest b q).0)
target_and front rest a b p (inr q) = row_and front rest p.tokens p.value b (target_row front rest a p).1 p.spells.tokens_are q

text_and : OneRow → (front rest : List Token) (a b : Pos) → text_place (statement front) ≡ Some a → OfTarget front rest b → a ≡ b
text_and one front rest a b p (inl q) = text_named one (statement front) q.value a b p ((target_row front rest b q).1 ∙ q.spells.tokens_are) q.place_is
text_and one front rest a b p (inr (inl q)) = text_first (statement front) a b p (ap first_place (augmented_row front rest b q).1 ∙ q.place_is)
text_and one front rest a b p (inr (inr (inl q))) =
    let is = text_begins (statement front) a p in
    let other = deleted_begins front rest b q in
    absurd (omega (arith, is, other))
text_and one front rest a b p (inr (inr (inr (inl q)))) =
    let is = text_begins (statement front) a p in
    let other = loop_begins front b q in
    absurd (omega (arith, is, other))
text_and one front rest a b p (inr (inr (inr (inr q)))) =
    let is = text_begins (statement front) a p in
    let other = bare_begins front rest b q in
    absurd (omega (arith, is, other))

-- ---- all rows

-- a row and those behind it in the table
two_alike : (P Q : Pos → Type 0) → ((a b : Pos) → P a → P b → a ≡ b) → ((a b : Pos) → P a → Q b → a ≡ b) → ((a b : Pos) → Q a → Q b → a ≡ b) → (a b : Pos) → P a ⊎ Q a → P b ⊎ Q b → a ≡ b
two_alike P Q one both other a b (inl p) (inl q) = one a b p q
two_alike P Q one both other a b (inl p) (inr q) = both a b p q
two_alike P Q one both other a b (inr p) (inl q) = sym (both b a q p)
two_alike P Q one both other a b (inr p) (inr q) = other a b p q

of_loop : (front rest : List Token) (a b : Pos) → OfLoop front rest a → OfLoop front rest b → a ≡ b
of_loop front rest = two_alike (WrongLoop front) (λ (place : Pos). bare_raise front rest ≡ Some place) (loops_alike front) (loop_and_raise front rest) (found_alike (bare_raise front rest))

of_deleted : OneRow → (front rest : List Token) (a b : Pos) → OfDeleted front rest a → OfDeleted front rest b → a ≡ b
of_deleted one front rest = two_alike (WrongDeleted front rest) (OfLoop front rest) (deleted_alike one front rest) (deleted_and front rest) (of_loop front rest)

of_augmented : OneRow → (front rest : List Token) (a b : Pos) → OfAugmented front rest a → OfAugmented front rest b → a ≡ b
of_augmented one front rest = two_alike (WrongAugmented front rest) (OfDeleted front rest) (augmented_alike front rest) (augmented_and front rest) (of_deleted one front rest)

of_target : OneRow → (front rest : List Token) (a b : Pos) → OfTarget front rest a → OfTarget front rest b → a ≡ b
of_target one front rest = two_alike (WrongTarget front rest) (OfAugmented front rest) (targets_alike one front rest) (target_and front rest) (of_augmented one front rest)

before_alike : OneRow → (s : Standing) (front rest : List Token) (a b : Pos) → IsRefusedBefore s front rest a → IsRefusedBefore s front rest b → a ≡ b
before_alike one s front rest = two_alike (λ (place : Pos). text_in_class s front ≡ Some place) (OfTarget front rest) (found_alike (text_in_class s front))
    (λ (a b : Pos) p q. text_and one front rest a b (then_so (in_class s front) (text_place (statement front)) a p) q) (of_target one front rest)

pub one_named : OneRow → (s : Standing) (front rest : List Token) (a b : Pos) → IsRefusedForm s front rest a → IsRefusedForm s front rest b → a ≡ b
one_named one s front rest a b (inl p) (inl q) = before_alike one s front rest a b p q
one_named one s front rest a b (inl p) (inr q) = absurd (q.0 a p)
one_named one s front rest a b (inr p) (inl q) = absurd (p.0 b q)
one_named one s front rest a b (inr p) (inr q) = same_Some _ _ (sym p.2 ∙ q.2)
