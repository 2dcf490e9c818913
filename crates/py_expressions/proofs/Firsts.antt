-- What the first token of an expression tells its reader.
use Rattle.std.proofs.Common.{◌≡◌, ◌⊎◌, inl, inr, ⊎_elim, ℕ, suc, nat_lt, ◌<◌, Bool, true, false, List, [], ◌∷◌, ◌++◌, Some, None, refl, ap, sym, ◌∙◌, arith, subst, append_assoc, if◌then◌else◌}
use Rattle.std.specs.Prelude.{codes}
use Rattle.std.proofs.lemmas.Bool.{eqb-true, leb-false}
use Rattle.std.specs.Option.{option_map_or}
use Rattle.py_lines.specs.declared.parts.Token.{Token}
use Rattle.py_lines.specs.declared.parts.TokenKind.{TokenKind}
use Rattle.py_lines.specs.declared.parts.TokenKind.TheVariants.{Word, Keyword, Number, Text, Sign}
use Rattle.py_expressions.specs.Concrete.{plus, minus, times, floor, modulo, Expr, plain_expr, choice, Or, plain_or, or_more, And, plain_and, and_more, Not, plain_not, not_of, Cmp, plain_cmp, compared, Sum, plain_sum, sum_more, Term, plain_term, term_more, Unary, plain_unary, signed, Prim, plain_prim, call, part, attribute, Atom, name, number, text, none, true_word, false_word, empty_tuple, group, list, dict, Exprs, one_expr, several, end_rest, no_items, items}
use Rattle.py_expressions.specs.Tokens.{keyword, sign, word, add_sign, mul_sign, cmp_tokens, items_tokens, index_tokens, rest_tokens, expr_tokens, or_tokens, and_tokens, not_tokens, cmp_tokens_of, sum_tokens, term_tokens, unary_tokens, prim_tokens, atom_tokens, exprs_tokens}
use Rattle.py_expressions.specs.Reader.{go_on, next_level, kind_level, start_class, starts, is_sign, is_keyword, read_keyword, add_sign_of, mul_sign_of, spot_of, read_term, read_unary, read_prim, read_not, read_cmp, read_items, read_exprs, read_rest, read_expr, rest_rest, sum_rest, term_rest, prim_rest}

pub sign_is : (k : ℕ) (kind : TokenKind) → is_sign k kind ≡ true → kind ≡ Sign k
sign_is k (Sign n) is = ap Sign (eqb-true n k is)
sign_is k (Word bytes) is = cc
sign_is k (Keyword n) is = cc
sign_is k (Number value) is = cc
sign_is k (Text bytes) is = cc

pub keyword_is : (k : ℕ) (kind : TokenKind) → is_keyword k kind ≡ true → kind ≡ Keyword k
keyword_is k (Keyword n) is = ap Keyword (eqb-true n k is)
keyword_is k (Word bytes) is = cc
keyword_is k (Sign n) is = cc
keyword_is k (Number value) is = cc
keyword_is k (Text bytes) is = cc

pub not_sign : (k : ℕ) (kind : TokenKind) → (kind ≡ Sign k → ⊥) → is_sign k kind ≡ false
not_sign k kind other = by (is_sign k kind) refl
  where
    by : (b : Bool) → is_sign k kind ≡ b → b ≡ false
    by false is = refl
    by true is = absurd (other (sign_is k kind is))

pub not_keyword : (k : ℕ) (kind : TokenKind) → (kind ≡ Keyword k → ⊥) → is_keyword k kind ≡ false
not_keyword k kind other = by (is_keyword k kind) refl
  where
    by : (b : Bool) → is_keyword k kind ≡ b → b ≡ false
    by false is = refl
    by true is = absurd (other (keyword_is k kind is))

-- a sign of another level, or of another class
pub by_level : (k : ℕ) (kind : TokenKind) → kind_level (Sign k) < kind_level kind → is_sign k kind ≡ false
by_level k kind more = not_sign k kind (λ is. let same = ap kind_level is in omega (arith, more, same))

pub by_class : (k : ℕ) (kind : TokenKind) → start_class (Sign k) < start_class kind → is_sign k kind ≡ false
by_class k kind more = not_sign k kind (λ is. let same = ap start_class is in omega (arith, more, same))

no_add : (kind : TokenKind) → is_sign 10 kind ≡ false → is_sign 11 kind ≡ false → add_sign_of kind ≡ None
no_add kind one two = ap (λ b. if b then Some plus else (if is_sign 11 kind then Some minus else None)) one ∙ ap (λ b. if b then Some minus else None) two

pub no_add_beyond : (kind : TokenKind) → 3 < kind_level kind → add_sign_of kind ≡ None
no_add_beyond kind more = no_add kind (by_level 10 kind more) (by_level 11 kind more)

pub no_mul_beyond : (kind : TokenKind) → 2 < kind_level kind → mul_sign_of kind ≡ None
no_mul_beyond kind more =
    ap (λ b. if b then Some times else (if is_sign 13 kind then Some floor else (if is_sign 14 kind then Some modulo else None))) (by_level 12 kind more)
    ∙ ap (λ b. if b then Some floor else (if is_sign 14 kind then Some modulo else None)) (by_level 13 kind more)
    ∙ ap (λ b. if b then Some modulo else None) (by_level 14 kind more)

no_add_atom : (kind : TokenKind) → start_class kind ≡ 1 → add_sign_of kind ≡ None
no_add_atom kind one = no_add kind (not_sign 10 kind (λ is. let same = ap start_class is in omega (arith, one, same))) (not_sign 11 kind (λ is. let same = ap start_class is in omega (arith, one, same)))

-- where reading ends
pub sum_ends : (m : ℕ) (left : Sum) (rest : List Token) → 3 < next_level rest → sum_rest (suc m) left rest ≡ Some (left, rest)
sum_ends m left [] more = refl
sum_ends m left (t ∷ ts) more = ap (λ o. option_map_or (λ op. go_on (read_term m ts) (λ right rest. sum_rest m (sum_more left (spot_of t) op right) rest)) o (Some (left, t ∷ ts))) (no_add_beyond t.kind more)

pub term_ends : (m : ℕ) (left : Term) (rest : List Token) → 2 < next_level rest → term_rest (suc m) left rest ≡ Some (left, rest)
term_ends m left [] more = refl
term_ends m left (t ∷ ts) more = ap (λ o. option_map_or (λ op. go_on (read_unary m ts) (λ right rest. term_rest m (term_more left (spot_of t) op right) rest)) o (Some (left, t ∷ ts))) (no_mul_beyond t.kind more)

three_ways : {A : Type 0} (a b c : Bool) (x y z w : A) → a ≡ false → b ≡ false → c ≡ false → (if a then x else (if b then y else (if c then z else w))) ≡ w
three_ways false false false x y z w one two three = refl
three_ways true b c x y z w one two three = cc
three_ways false true c x y z w one two three = cc
three_ways false false true x y z w one two three = cc

pub prim_ends : (m : ℕ) (e : Prim) (rest : List Token) → 1 < next_level rest → prim_rest (suc m) e rest ≡ Some (e, rest)
prim_ends m e [] more = refl
prim_ends m e (t ∷ ts) more = three_ways (is_sign 0 t.kind) (is_sign 2 t.kind) (is_sign 8 t.kind) _ _ _ _ (by_level 0 t.kind more) (by_level 2 t.kind more) (by_level 8 t.kind more)

-- ---- the first token

abbrev pub IsPlain : ℕ → Type 0
IsPlain class = (class ≡ 1) ⊎ (class ≡ 2)

abbrev pub IsStart : ℕ → Type 0
IsStart class = IsPlain class ⊎ (class ≡ 3)

atom_starts : (a : Atom) (rest : List Token) → starts (atom_tokens a ++ rest) ≡ 1
atom_starts (name at bytes) rest = refl
atom_starts (number at n) rest = refl
atom_starts (text at bytes) rest = refl
atom_starts (none at) rest = refl
atom_starts (true_word at) rest = refl
atom_starts (false_word at) rest = refl
atom_starts (empty_tuple opening closing) rest = refl
atom_starts (group opening e closing) rest = refl
atom_starts (list opening e closing) rest = refl
atom_starts (dict opening pairs closing) rest = refl

pub prim_starts : (p : Prim) (rest : List Token) → starts (prim_tokens p ++ rest) ≡ 1
prim_starts (plain_prim a) rest = atom_starts a rest
prim_starts (call p opening arguments closing) rest = ap starts (append_assoc (prim_tokens p) (sign (codes "(") opening ++ items_tokens arguments ++ sign (codes ")") closing) rest) ∙ prim_starts p ((sign (codes "(") opening ++ items_tokens arguments ++ sign (codes ")") closing) ++ rest)
prim_starts (part p opening index closing) rest = ap starts (append_assoc (prim_tokens p) (sign (codes "[") opening ++ (index_tokens index ++ sign (codes "]") closing)) rest) ∙ prim_starts p ((sign (codes "[") opening ++ (index_tokens index ++ sign (codes "]") closing)) ++ rest)
prim_starts (attribute p dot name_at bytes) rest = ap starts (append_assoc (prim_tokens p) (sign (codes ".") dot ++ word bytes name_at) rest) ∙ prim_starts p ((sign (codes ".") dot ++ word bytes name_at) ++ rest)

pub unary_starts : (u : Unary) (rest : List Token) → IsPlain (starts (unary_tokens u ++ rest))
unary_starts (plain_unary p) rest = inl (prim_starts p rest)
unary_starts (signed at plus u) rest = inr refl
unary_starts (signed at minus u) rest = inr refl

term_starts : (t : Term) (rest : List Token) → IsPlain (starts (term_tokens t ++ rest))
term_starts (plain_term u) rest = unary_starts u rest
term_starts (term_more left at op right) rest = subst (λ ts. IsPlain (starts ts)) (sym (append_assoc (term_tokens left) (sign (mul_sign op) at ++ unary_tokens right) rest)) (term_starts left ((sign (mul_sign op) at ++ unary_tokens right) ++ rest))

pub sum_starts : (s : Sum) (rest : List Token) → IsPlain (starts (sum_tokens s ++ rest))
sum_starts (plain_sum t) rest = term_starts t rest
sum_starts (sum_more left at op right) rest = subst (λ ts. IsPlain (starts ts)) (sym (append_assoc (sum_tokens left) (sign (add_sign op) at ++ term_tokens right) rest)) (sum_starts left ((sign (add_sign op) at ++ term_tokens right) ++ rest))

pub cmp_starts : (c : Cmp) (rest : List Token) → IsPlain (starts (cmp_tokens_of c ++ rest))
cmp_starts (plain_cmp s) rest = sum_starts s rest
cmp_starts (compared left op right) rest = subst (λ ts. IsPlain (starts ts)) (sym (append_assoc (sum_tokens left) (cmp_tokens op ++ sum_tokens right) rest)) (sum_starts left ((cmp_tokens op ++ sum_tokens right) ++ rest))

not_starts : (e : Not) (rest : List Token) → IsStart (starts (not_tokens e ++ rest))
not_starts (plain_not c) rest = inl (cmp_starts c rest)
not_starts (not_of at e) rest = inr refl

and_starts : (e : And) (rest : List Token) → IsStart (starts (and_tokens e ++ rest))
and_starts (plain_and e) rest = not_starts e rest
and_starts (and_more left at right) rest = subst (λ ts. IsStart (starts ts)) (sym (append_assoc (and_tokens left) (keyword (codes "and") at ++ not_tokens right) rest)) (and_starts left ((keyword (codes "and") at ++ not_tokens right) ++ rest))

or_starts : (e : Or) (rest : List Token) → IsStart (starts (or_tokens e ++ rest))
or_starts (plain_or e) rest = and_starts e rest
or_starts (or_more left at right) rest = subst (λ ts. IsStart (starts ts)) (sym (append_assoc (or_tokens left) (keyword (codes "or") at ++ and_tokens right) rest)) (or_starts left ((keyword (codes "or") at ++ and_tokens right) ++ rest))

pub expr_starts : (e : Expr) (rest : List Token) → IsStart (starts (expr_tokens e ++ rest))
expr_starts (plain_expr e) rest = or_starts e rest
expr_starts (choice chosen if_word test else_word other) rest = subst (λ ts. IsStart (starts ts)) (sym (append_assoc (or_tokens chosen) (keyword (codes "if") if_word ++ (or_tokens test ++ (keyword (codes "else") else_word ++ expr_tokens other))) rest)) (or_starts chosen ((keyword (codes "if") if_word ++ (or_tokens test ++ (keyword (codes "else") else_word ++ expr_tokens other))) ++ rest))

pub exprs_starts : (e : Exprs) (rest : List Token) → IsStart (starts (exprs_tokens e ++ rest))
exprs_starts (one_expr e) rest = expr_starts e rest
exprs_starts (several e comma more) rest = subst (λ ts. IsStart (starts ts)) (sym (append_assoc (expr_tokens e) (sign (codes ",") comma ++ rest_tokens more) rest)) (expr_starts e ((sign (codes ",") comma ++ rest_tokens more) ++ rest))

pub is_above : (class : ℕ) → IsStart class → 0 < class
is_above class (inl (inl is)) = omega (arith, is)
is_above class (inl (inr is)) = omega (arith, is)
is_above class (inr is) = omega (arith, is)

-- ---- what a reader does there

pub unary_is : (m : ℕ) (ts : List Token) → starts ts ≡ 1 → read_unary (suc m) ts ≡ go_on (read_prim m ts) (λ e rest. Some (plain_unary e, rest))
unary_is m [] one = cc
unary_is m (t ∷ ts) one = ap (λ o. option_map_or (λ op. go_on (read_unary m ts) (λ e rest. Some (signed (spot_of t) op e, rest))) o (go_on (read_prim m (t ∷ ts)) (λ e rest. Some (plain_unary e, rest)))) (no_add_atom t.kind one)

pub no_not : (ts : List Token) → IsPlain (starts ts) → read_keyword 26 ts ≡ None
no_not [] plain = refl
no_not (t ∷ ts) plain = ap (λ b. if b then Some (spot_of t, ts) else None) (not_keyword 26 t.kind (λ is. let same = ap start_class is in ⊎_elim (λ one. omega (arith, one, same)) (λ two. omega (arith, two, same)) plain))

pub not_is : (m : ℕ) (ts : List Token) → IsPlain (starts ts) → read_not (suc m) ts ≡ go_on (read_cmp m ts) (λ e rest. Some (plain_not e, rest))
not_is m ts plain = ap (λ o. option_map_or (λ found. go_on (read_not m found.1) (λ e rest. Some (not_of found.0 e, rest))) o (go_on (read_cmp m ts) (λ e rest. Some (plain_not e, rest)))) (no_not ts plain)

pub items_is : (m closing : ℕ) (ts : List Token) → start_class (Sign closing) ≡ 0 → IsStart (starts ts) → read_items (suc m) closing ts ≡ go_on (read_exprs m ts) (λ e rest. Some (items e, rest))
items_is m closing [] closes start = absurd (omega (arith, is_above 0 start))
items_is m closing (t ∷ ts) closes start = ap (λ b. if b then Some (no_items, t ∷ ts) else go_on (read_exprs m (t ∷ ts)) (λ e rest. Some (items e, rest))) (by_class closing t.kind (let above = is_above (start_class t.kind) start in omega (arith, above, closes)))

positive : (n : ℕ) → 0 < n → nat_lt 0 n ≡ true
positive n above = by (nat_lt 0 n) refl
  where
    by : (b : Bool) → nat_lt 0 n ≡ b → b ≡ true
    by true is = refl
    by false is = absurd (omega (arith, above, leb-false 1 n is))

pub rest_is : (m : ℕ) (ts : List Token) → IsStart (starts ts) → read_rest (suc m) ts ≡ go_on (read_expr m ts) (λ e rest. rest_rest m e rest)
rest_is m ts start = ap (λ b. if b then go_on (read_expr m ts) (λ e rest. rest_rest m e rest) else Some (end_rest, ts)) (positive (starts ts) (is_above (starts ts) start))
