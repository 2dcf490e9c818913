-- Each expression is read from its tokens.
use Rattle.std.proofs.Common.{◌≡◌, ℕ, suc, ◌+◌, nat_lt, ◌<◌, Bool, true, false, List, [], ◌∷◌, ◌++◌, Some, refl, ap, ◌∙◌, arith, append_assoc, if◌then◌else◌}
use Rattle.std.specs.Prelude.{◌==◌, codes, pos}
use Rattle.std.proofs.lemmas.Bool.{eqb-false}
use Rattle.py_lines.specs.declared.parts.Token.{Token}
use Rattle.py_lines.specs.declared.parts.TokenKind.{TokenKind}
use Rattle.py_lines.specs.declared.parts.TokenKind.TheVariants.{Keyword, Number, Text, Sign}
use Rattle.py_expressions.specs.Concrete.{Spot, AddSign, plus, minus, MulSign, times, floor, modulo, CmpSign, equal, unequal, less, less_equal, greater, greater_equal, within, not_within, same, not_same, Expr, plain_expr, choice, Or, plain_or, or_more, And, plain_and, and_more, Not, plain_not, not_of, Cmp, plain_cmp, compared, Sum, plain_sum, sum_more, Term, plain_term, term_more, Unary, plain_unary, signed, Prim, plain_prim, call, part, attribute, Index, one_index, range_index, Bound, no_bound, bound, Atom, name, number, text, none, true_word, false_word, empty_tuple, group, list, dict, Exprs, one_expr, several, Rest, end_rest, last_rest, more_rest, Items, no_items, items, Pairs, no_pairs, last_pair, more_pairs}
use Rattle.py_expressions.specs.Tokens.{token, keyword, sign, word, add_sign, mul_sign, cmp_tokens, items_tokens, index_tokens, rest_tokens, bound_tokens, pairs_tokens, expr_tokens, or_tokens, and_tokens, not_tokens, cmp_tokens_of, sum_tokens, term_tokens, unary_tokens, prim_tokens, atom_tokens, exprs_tokens}
use Rattle.py_expressions.specs.Reader.{Read, go_on, next_level, kind_level, start_class, starts, grouped, is_sign, read_keyword, read_sign, is_or_is_not, no_second, read_cmp_sign, read_expr, choice_rest, read_or, or_rest, read_and, and_rest, read_not, read_cmp, cmp_rest, read_sum, sum_rest, read_term, term_rest, read_unary, read_prim, prim_rest, read_atom, read_items, read_exprs, exprs_rest, read_rest, rest_rest, read_index, index_rest, read_bound, read_pairs, pairs_rest}
use Rattle.py_expressions.proofs.Leading.{Beyond, Reads, Leads, lead_one, lead_more, stop, no_such}
use Rattle.py_expressions.proofs.Firsts.{IsPlain, IsStart, prim_starts, sum_starts, cmp_starts, expr_starts, exprs_starts, is_above, unary_is, no_not, not_is, items_is, rest_is, sum_ends, term_ends, prim_ends, by_class}

-- the tokens are read as this value, where this sign stands behind them
pub record ReadsTo {A : Type 0} (read : ℕ → List Token → Read A) (closing : ℕ) (tokens : List Token) (value : A) : Type 0 where
  pub steps : ℕ
  pub reads : (n : ℕ) (t : Token) (rest : List Token) → t.kind ≡ Sign closing → read (n + steps) (tokens ++ t ∷ rest) ≡ Some (value, t ∷ rest)

-- the tokens are read as this value, where neither a comma nor an expression follows
pub record ReadsAll {A : Type 0} (read : ℕ → List Token → Read A) (tokens : List Token) (value : A) : Type 0 where
  pub steps : ℕ
  pub reads : (n : ℕ) (rest : List Token) → Beyond 8 rest → starts rest ≡ 0 → read (n + steps) (tokens ++ rest) ≡ Some (value, rest)

pub if_true : {A : Type 0} (b : Bool) (x y : A) → b ≡ true → (if b then x else y) ≡ x
if_true true x y is = refl
if_true false x y is = cc

pub if_false : {A : Type 0} (b : Bool) (x y : A) → b ≡ false → (if b then x else y) ≡ y
if_false false x y is = refl
if_false true x y is = cc

or_ends : (m : ℕ) (left : Or) (rest : List Token) → Beyond 6 rest → or_rest (suc m) left rest ≡ Some (left, rest)
or_ends m left rest beyond = if_false (next_level rest == 6) _ _ (no_such (next_level rest) 6 beyond)

and_ends : (m : ℕ) (left : And) (rest : List Token) → Beyond 5 rest → and_rest (suc m) left rest ≡ Some (left, rest)
and_ends m left rest beyond = if_false (next_level rest == 5) _ _ (no_such (next_level rest) 5 beyond)

lead_or_one : (tokens : List Token) (e : And) → Reads read_and 5 tokens e → Leads read_or or_rest 5 tokens (plain_or e)
lead_or_one tokens e is = lead_one read_or or_rest read_and plain_or 5 (λ n ts. refl) tokens e is

lead_or_more : (tokens : List Token) (left : Or) (at : Spot) (more : List Token) (right : And) → Leads read_or or_rest 5 tokens left → Reads read_and 5 more right
    → Leads read_or or_rest 5 (tokens ++ (keyword (codes "or") at ++ more)) (or_more left at right)
lead_or_more tokens left at more right is sub = lead_more read_or or_rest 5 tokens left (or_more left at right) (token (Keyword 27) at) more sub.steps is (omega arith)
    (λ m tail beyond. ap (λ r. go_on r (λ e rest. or_rest (m + sub.steps) (or_more left at e) rest)) (sub.reads m tail beyond))

lead_and_one : (tokens : List Token) (e : Not) → Reads read_not 4 tokens e → Leads read_and and_rest 4 tokens (plain_and e)
lead_and_one tokens e is = lead_one read_and and_rest read_not plain_and 4 (λ n ts. refl) tokens e is

lead_and_more : (tokens : List Token) (left : And) (at : Spot) (more : List Token) (right : Not) → Leads read_and and_rest 4 tokens left → Reads read_not 4 more right
    → Leads read_and and_rest 4 (tokens ++ (keyword (codes "and") at ++ more)) (and_more left at right)
lead_and_more tokens left at more right is sub = lead_more read_and and_rest 4 tokens left (and_more left at right) (token (Keyword 3) at) more sub.steps is (omega arith)
    (λ m tail beyond. ap (λ r. go_on r (λ e rest. and_rest (m + sub.steps) (and_more left at e) rest)) (sub.reads m tail beyond))

lead_sum_one : (tokens : List Token) (e : Term) → Reads read_term 2 tokens e → Leads read_sum sum_rest 2 tokens (plain_sum e)
lead_sum_one tokens e is = lead_one read_sum sum_rest read_term plain_sum 2 (λ n ts. refl) tokens e is

lead_sum_more : (tokens : List Token) (left : Sum) (at : Spot) (op : AddSign) (more : List Token) (right : Term) → Leads read_sum sum_rest 2 tokens left → Reads read_term 2 more right
    → Leads read_sum sum_rest 2 (tokens ++ (sign (add_sign op) at ++ more)) (sum_more left at op right)
lead_sum_more tokens left at plus more right is sub = lead_more read_sum sum_rest 2 tokens left (sum_more left at plus right) (token (Sign 10) at) more sub.steps is (omega arith)
    (λ m tail beyond. ap (λ r. go_on r (λ e rest. sum_rest (m + sub.steps) (sum_more left at plus e) rest)) (sub.reads m tail beyond))
lead_sum_more tokens left at minus more right is sub = lead_more read_sum sum_rest 2 tokens left (sum_more left at minus right) (token (Sign 11) at) more sub.steps is (omega arith)
    (λ m tail beyond. ap (λ r. go_on r (λ e rest. sum_rest (m + sub.steps) (sum_more left at minus e) rest)) (sub.reads m tail beyond))

lead_term_one : (tokens : List Token) (e : Unary) → Reads read_unary 1 tokens e → Leads read_term term_rest 1 tokens (plain_term e)
lead_term_one tokens e is = lead_one read_term term_rest read_unary plain_term 1 (λ n ts. refl) tokens e is

lead_term_more : (tokens : List Token) (left : Term) (at : Spot) (op : MulSign) (more : List Token) (right : Unary) → Leads read_term term_rest 1 tokens left → Reads read_unary 1 more right
    → Leads read_term term_rest 1 (tokens ++ (sign (mul_sign op) at ++ more)) (term_more left at op right)
lead_term_more tokens left at times more right is sub = lead_more read_term term_rest 1 tokens left (term_more left at times right) (token (Sign 12) at) more sub.steps is (omega arith)
    (λ m tail beyond. ap (λ r. go_on r (λ e rest. term_rest (m + sub.steps) (term_more left at times e) rest)) (sub.reads m tail beyond))
lead_term_more tokens left at floor more right is sub = lead_more read_term term_rest 1 tokens left (term_more left at floor right) (token (Sign 13) at) more sub.steps is (omega arith)
    (λ m tail beyond. ap (λ r. go_on r (λ e rest. term_rest (m + sub.steps) (term_more left at floor e) rest)) (sub.reads m tail beyond))
lead_term_more tokens left at modulo more right is sub = lead_more read_term term_rest 1 tokens left (term_more left at modulo right) (token (Sign 14) at) more sub.steps is (omega arith)
    (λ m tail beyond. ap (λ r. go_on r (λ e rest. term_rest (m + sub.steps) (term_more left at modulo e) rest)) (sub.reads m tail beyond))

-- ---- one token and what it begins

itself : (k : ℕ) → (k == k) ≡ true
itself k = by (k == k) refl
  where
    by : (b : Bool) → (k == k) ≡ b → b ≡ true
    by true is = refl
    by false is = absurd (eqb-false k k is refl)

is_closing : (k : ℕ) (kind : TokenKind) → kind ≡ Sign k → is_sign k kind ≡ true
is_closing k kind is = ap (is_sign k) is ∙ itself k

level_of : (k : ℕ) (t : Token) → t.kind ≡ Sign k → kind_level (Sign k) ≡ 9 → 8 < kind_level t.kind
level_of k t is nine = let same = ap kind_level is in omega (arith, same, nine)

class_of : (k : ℕ) (t : Token) → t.kind ≡ Sign k → start_class (Sign k) ≡ 0 → start_class t.kind ≡ 0
class_of k t is none_there = ap start_class is ∙ none_there

more_steps : {A : Type 0} (f : ℕ → A) (m n : ℕ) → m ≡ n → f m ≡ f n
more_steps f m n is = ap f is

-- ---- items up to a closing sign

items_of : (closing : ℕ) (tokens : List Token) (e : Exprs) → kind_level (Sign closing) ≡ 9 → start_class (Sign closing) ≡ 0 → ((rest : List Token) → IsStart (starts (tokens ++ rest)))
    → ReadsAll read_exprs tokens e → ReadsTo (λ n ts. read_items n closing ts) closing tokens (items e)
items_of closing tokens e nine no_start start is = record {
  steps = suc is.steps;
  reads = λ n t rest closes.
      more_steps (λ m. read_items m closing (tokens ++ t ∷ rest)) (n + suc is.steps) (suc (n + is.steps)) (omega arith)
      ∙ items_is (n + is.steps) closing (tokens ++ t ∷ rest) no_start (start (t ∷ rest))
      ∙ ap (λ r. go_on r (λ e rest. Some (items e, rest))) (is.reads n (t ∷ rest) (level_of closing t closes nine) (class_of closing t closes no_start));
}

no_items_of : (closing : ℕ) → ReadsTo (λ n ts. read_items n closing ts) closing [] no_items
no_items_of closing = record {
  steps = 1;
  reads = λ n t rest closes.
      more_steps (λ m. read_items m closing (t ∷ rest)) (n + 1) (suc n) (omega arith)
      ∙ if_true (is_sign closing t.kind) _ _ (is_closing closing t.kind closes);
}

-- ---- expressions in a row

one_of : (tokens : List Token) (e : Expr) → Reads read_expr 7 tokens e → ReadsAll read_exprs tokens (one_expr e)
one_of tokens e is = record {
  steps = suc (suc is.steps);
  reads = λ n rest beyond ends.
      more_steps (λ m. read_exprs m (tokens ++ rest)) (n + suc (suc is.steps)) (suc (suc n + is.steps)) (omega arith)
      ∙ ap (λ r. go_on r (λ e rest. exprs_rest (suc n + is.steps) e rest)) (is.reads (suc n) rest (omega (arith, beyond)))
      ∙ more_steps (λ m. exprs_rest m e rest) (suc n + is.steps) (suc (n + is.steps)) (omega arith)
      ∙ if_false (next_level rest == 8) _ _ (no_such (next_level rest) 8 beyond);
}

several_of : (tokens : List Token) (e : Expr) (comma : Spot) (more : List Token) (found : Rest) → Reads read_expr 7 tokens e → ReadsAll read_rest more found
    → ReadsAll read_exprs (tokens ++ (sign (codes ",") comma ++ more)) (several e comma found)
several_of tokens e comma more found is next = record {
  steps = suc (suc (is.steps + next.steps));
  reads = λ n rest beyond ends.
      let t : Token = token (Sign 6) comma in
      more_steps (λ m. read_exprs m ((tokens ++ t ∷ more) ++ rest)) (n + suc (suc (is.steps + next.steps))) (suc ((suc n + next.steps) + is.steps)) (omega arith)
      ∙ ap (read_exprs (suc ((suc n + next.steps) + is.steps))) (append_assoc tokens (t ∷ more) rest)
      ∙ ap (λ r. go_on r (λ e rest. exprs_rest ((suc n + next.steps) + is.steps) e rest)) (is.reads (suc n + next.steps) (t ∷ more ++ rest) (omega arith))
      ∙ more_steps (λ m. exprs_rest m e (t ∷ more ++ rest)) ((suc n + next.steps) + is.steps) (suc ((n + is.steps) + next.steps)) (omega arith)
      ∙ ap (λ r. go_on r (λ found rest. Some (several e comma found, rest))) (next.reads (n + is.steps) rest beyond ends);
}

end_rest_of : ReadsAll read_rest [] end_rest
end_rest_of = record {
  steps = 1;
  reads = λ n rest beyond ends.
      more_steps (λ m. read_rest m rest) (n + 1) (suc n) (omega arith)
      ∙ ap (λ c. if nat_lt 0 c then go_on (read_expr n rest) (λ e rest. rest_rest n e rest) else Some (end_rest, rest)) ends;
}

last_rest_of : (tokens : List Token) (e : Expr) → ((rest : List Token) → IsStart (starts (tokens ++ rest))) → Reads read_expr 7 tokens e → ReadsAll read_rest tokens (last_rest e)
last_rest_of tokens e start is = record {
  steps = suc (suc is.steps);
  reads = λ n rest beyond ends.
      more_steps (λ m. read_rest m (tokens ++ rest)) (n + suc (suc is.steps)) (suc (suc n + is.steps)) (omega arith)
      ∙ rest_is (suc n + is.steps) (tokens ++ rest) (start rest)
      ∙ ap (λ r. go_on r (λ e rest. rest_rest (suc n + is.steps) e rest)) (is.reads (suc n) rest (omega (arith, beyond)))
      ∙ more_steps (λ m. rest_rest m e rest) (suc n + is.steps) (suc (n + is.steps)) (omega arith)
      ∙ if_false (next_level rest == 8) _ _ (no_such (next_level rest) 8 beyond);
}

more_rest_of : (tokens : List Token) (e : Expr) (comma : Spot) (more : List Token) (found : Rest) → ((rest : List Token) → IsStart (starts (tokens ++ rest))) → Reads read_expr 7 tokens e → ReadsAll read_rest more found
    → ReadsAll read_rest (tokens ++ (sign (codes ",") comma ++ more)) (more_rest e comma found)
more_rest_of tokens e comma more found start is next = record {
  steps = suc (suc (is.steps + next.steps));
  reads = λ n rest beyond ends.
      let t : Token = token (Sign 6) comma in
      more_steps (λ m. read_rest m ((tokens ++ t ∷ more) ++ rest)) (n + suc (suc (is.steps + next.steps))) (suc ((suc n + next.steps) + is.steps)) (omega arith)
      ∙ ap (read_rest (suc ((suc n + next.steps) + is.steps))) (append_assoc tokens (t ∷ more) rest)
      ∙ rest_is ((suc n + next.steps) + is.steps) (tokens ++ (t ∷ more ++ rest)) (start (t ∷ more ++ rest))
      ∙ ap (λ r. go_on r (λ e rest. rest_rest ((suc n + next.steps) + is.steps) e rest)) (is.reads (suc n + next.steps) (t ∷ more ++ rest) (omega arith))
      ∙ more_steps (λ m. rest_rest m e (t ∷ more ++ rest)) ((suc n + next.steps) + is.steps) (suc ((n + is.steps) + next.steps)) (omega arith)
      ∙ ap (λ r. go_on r (λ found rest. Some (more_rest e comma found, rest))) (next.reads (n + is.steps) rest beyond ends);
}

-- ---- unary operators and comparisons

plain_unary_of : (p : Prim) → Reads read_prim 1 (prim_tokens p) p → Reads read_unary 1 (prim_tokens p) (plain_unary p)
plain_unary_of p is = record {
  steps = suc is.steps;
  reads = λ n rest beyond.
      more_steps (λ m. read_unary m (prim_tokens p ++ rest)) (n + suc is.steps) (suc (n + is.steps)) (omega arith)
      ∙ unary_is (n + is.steps) (prim_tokens p ++ rest) (prim_starts p rest)
      ∙ ap (λ r. go_on r (λ e rest. Some (plain_unary e, rest))) (is.reads n rest beyond);
}

signed_of : (at : Spot) (op : AddSign) (tokens : List Token) (u : Unary) → Reads read_unary 1 tokens u → Reads read_unary 1 (sign (add_sign op) at ++ tokens) (signed at op u)
signed_of at plus tokens u is = record {
  steps = suc is.steps;
  reads = λ n rest beyond.
      more_steps (λ m. read_unary m (token (Sign 10) at ∷ tokens ++ rest)) (n + suc is.steps) (suc (n + is.steps)) (omega arith)
      ∙ ap (λ r. go_on r (λ e rest. Some (signed at plus e, rest))) (is.reads n rest beyond);
}
signed_of at minus tokens u is = record {
  steps = suc is.steps;
  reads = λ n rest beyond.
      more_steps (λ m. read_unary m (token (Sign 11) at ∷ tokens ++ rest)) (n + suc is.steps) (suc (n + is.steps)) (omega arith)
      ∙ ap (λ r. go_on r (λ e rest. Some (signed at minus e, rest))) (is.reads n rest beyond);
}

plain_cmp_of : (tokens : List Token) (e : Sum) → Reads read_sum 3 tokens e → Reads read_cmp 4 tokens (plain_cmp e)
plain_cmp_of tokens e is = record {
  steps = suc (suc is.steps);
  reads = λ n rest beyond.
      more_steps (λ m. read_cmp m (tokens ++ rest)) (n + suc (suc is.steps)) (suc (suc n + is.steps)) (omega arith)
      ∙ ap (λ r. go_on r (λ e rest. cmp_rest (suc n + is.steps) e rest)) (is.reads (suc n) rest (omega (arith, beyond)))
      ∙ more_steps (λ m. cmp_rest m e rest) (suc n + is.steps) (suc (n + is.steps)) (omega arith)
      ∙ if_false (next_level rest == 4) _ _ (no_such (next_level rest) 4 beyond);
}

pub cmp_level : (op : CmpSign) (rest : List Token) → next_level (cmp_tokens op ++ rest) ≡ 4
cmp_level (equal at) rest = refl
cmp_level (unequal at) rest = refl
cmp_level (less at) rest = refl
cmp_level (less_equal at) rest = refl
cmp_level (greater at) rest = refl
cmp_level (greater_equal at) rest = refl
cmp_level (within at) rest = refl
cmp_level (not_within not_at in_at) rest = refl
cmp_level (same at) rest = refl
cmp_level (not_same is_at not_at) rest = refl

read_sign_of : (op : CmpSign) (rest : List Token) → IsPlain (starts rest) → read_cmp_sign (cmp_tokens op ++ rest) ≡ Some (op, rest)
read_sign_of (equal at) rest plain = refl
read_sign_of (unequal at) rest plain = refl
read_sign_of (less at) rest plain = refl
read_sign_of (less_equal at) rest plain = refl
read_sign_of (greater at) rest plain = refl
read_sign_of (greater_equal at) rest plain = refl
read_sign_of (within at) rest plain = refl
read_sign_of (not_within not_at in_at) rest plain = refl
read_sign_of (same at) rest plain = ap (λ o. is_or_is_not at o rest) (no_not rest plain)
read_sign_of (not_same is_at not_at) rest plain = refl

compared_of : (tokens : List Token) (left : Sum) (op : CmpSign) (more : List Token) (right : Sum) → ((rest : List Token) → IsPlain (starts (more ++ rest))) → Reads read_sum 3 tokens left → Reads read_sum 3 more right
    → Reads read_cmp 4 (tokens ++ (cmp_tokens op ++ more)) (compared left op right)
compared_of tokens left op more right start is next = record {
  steps = suc (suc (is.steps + next.steps));
  reads = λ n rest beyond.
      let level : next_level (cmp_tokens op ++ (more ++ rest)) ≡ 4 = cmp_level op (more ++ rest) in
      more_steps (λ m. read_cmp m ((tokens ++ (cmp_tokens op ++ more)) ++ rest)) (n + suc (suc (is.steps + next.steps))) (suc ((suc n + next.steps) + is.steps)) (omega arith)
      ∙ ap (read_cmp (suc ((suc n + next.steps) + is.steps))) (append_assoc tokens (cmp_tokens op ++ more) rest ∙ ap (λ ts. tokens ++ ts) (append_assoc (cmp_tokens op) more rest))
      ∙ ap (λ r. go_on r (λ e rest. cmp_rest ((suc n + next.steps) + is.steps) e rest)) (is.reads (suc n + next.steps) (cmp_tokens op ++ (more ++ rest)) (omega (arith, level)))
      ∙ more_steps (λ m. cmp_rest m left (cmp_tokens op ++ (more ++ rest))) ((suc n + next.steps) + is.steps) (suc ((n + is.steps) + next.steps)) (omega arith)
      ∙ if_true (next_level (cmp_tokens op ++ (more ++ rest)) == 4) _ _ (ap (λ l. l == 4) level)
      ∙ ap (λ r. go_on r (λ op more. go_on (read_sum ((n + is.steps) + next.steps) more) (λ right rest. no_second (compared left op right) rest))) (read_sign_of op (more ++ rest) (start rest))
      ∙ ap (λ r. go_on r (λ right rest. no_second (compared left op right) rest)) (next.reads (n + is.steps) rest (omega (arith, beyond)))
      ∙ if_false (next_level rest == 4) _ _ (no_such (next_level rest) 4 beyond);
}

plain_not_of : (c : Cmp) → Reads read_cmp 4 (cmp_tokens_of c) c → Reads read_not 4 (cmp_tokens_of c) (plain_not c)
plain_not_of c is = record {
  steps = suc is.steps;
  reads = λ n rest beyond.
      more_steps (λ m. read_not m (cmp_tokens_of c ++ rest)) (n + suc is.steps) (suc (n + is.steps)) (omega arith)
      ∙ not_is (n + is.steps) (cmp_tokens_of c ++ rest) (cmp_starts c rest)
      ∙ ap (λ r. go_on r (λ e rest. Some (plain_not e, rest))) (is.reads n rest beyond);
}

not_of_of : (at : Spot) (tokens : List Token) (e : Not) → Reads read_not 4 tokens e → Reads read_not 4 (keyword (codes "not") at ++ tokens) (not_of at e)
not_of_of at tokens e is = record {
  steps = suc is.steps;
  reads = λ n rest beyond.
      more_steps (λ m. read_not m (token (Keyword 26) at ∷ tokens ++ rest)) (n + suc is.steps) (suc (n + is.steps)) (omega arith)
      ∙ ap (λ r. go_on r (λ e rest. Some (not_of at e, rest))) (is.reads n rest beyond);
}

plain_expr_of : (tokens : List Token) (e : Or) → Reads read_or 6 tokens e → Reads read_expr 7 tokens (plain_expr e)
plain_expr_of tokens e is = record {
  steps = suc (suc is.steps);
  reads = λ n rest beyond.
      more_steps (λ m. read_expr m (tokens ++ rest)) (n + suc (suc is.steps)) (suc (suc n + is.steps)) (omega arith)
      ∙ ap (λ r. go_on r (λ e rest. choice_rest (suc n + is.steps) e rest)) (is.reads (suc n) rest (omega (arith, beyond)))
      ∙ more_steps (λ m. choice_rest m e rest) (suc n + is.steps) (suc (n + is.steps)) (omega arith)
      ∙ if_false (next_level rest == 7) _ _ (no_such (next_level rest) 7 beyond);
}

choice_of : (first : List Token) (chosen : Or) (if_word : Spot) (second : List Token) (test : Or) (else_word : Spot) (third : List Token) (other : Expr)
    → Reads read_or 6 first chosen → Reads read_or 6 second test → Reads read_expr 7 third other
    → Reads read_expr 7 (first ++ (keyword (codes "if") if_word ++ (second ++ (keyword (codes "else") else_word ++ third)))) (choice chosen if_word test else_word other)
choice_of first chosen if_word second test else_word third other is_1 is_2 is_3 = record {
  steps = suc (suc (is_1.steps + (is_2.steps + is_3.steps)));
  reads = λ n rest beyond.
      let k : ℕ = n + (is_1.steps + (is_2.steps + is_3.steps)) in
      let else_rest : List Token = token (Keyword 14) else_word ∷ third ++ rest in
      let if_rest : List Token = token (Keyword 20) if_word ∷ second ++ else_rest in
      more_steps (λ m. read_expr m ((first ++ (token (Keyword 20) if_word ∷ second ++ (token (Keyword 14) else_word ∷ third))) ++ rest)) (n + suc (suc (is_1.steps + (is_2.steps + is_3.steps)))) (suc ((suc n + (is_2.steps + is_3.steps)) + is_1.steps)) (omega arith)
      ∙ ap (read_expr (suc ((suc n + (is_2.steps + is_3.steps)) + is_1.steps))) (append_assoc first (token (Keyword 20) if_word ∷ second ++ (token (Keyword 14) else_word ∷ third)) rest
      ∙ ap (λ ts. first ++ (token (Keyword 20) if_word ∷ ts)) (append_assoc second (token (Keyword 14) else_word ∷ third) rest))
      ∙ ap (λ r. go_on r (λ e rest. choice_rest ((suc n + (is_2.steps + is_3.steps)) + is_1.steps) e rest)) (is_1.reads (suc n + (is_2.steps + is_3.steps)) if_rest (omega arith))
      ∙ more_steps (λ m. choice_rest m chosen if_rest) ((suc n + (is_2.steps + is_3.steps)) + is_1.steps) (suc k) (omega arith)
      ∙ more_steps (λ m. go_on (read_or m (second ++ else_rest)) (λ test more_2. go_on (read_keyword 14 more_2) (λ else_word more_3. go_on (read_expr k more_3) (λ other rest. Some (choice chosen if_word test else_word other, rest))))) k ((n + (is_1.steps + is_3.steps)) + is_2.steps) (omega arith)
      ∙ ap (λ r. go_on r (λ test more_2. go_on (read_keyword 14 more_2) (λ else_word more_3. go_on (read_expr k more_3) (λ other rest. Some (choice chosen if_word test else_word other, rest))))) (is_2.reads (n + (is_1.steps + is_3.steps)) else_rest (omega arith))
      ∙ more_steps (λ m. go_on (read_expr m (third ++ rest)) (λ other rest. Some (choice chosen if_word test else_word other, rest))) k ((n + (is_1.steps + is_2.steps)) + is_3.steps) (omega arith)
      ∙ ap (λ r. go_on r (λ other rest. Some (choice chosen if_word test else_word other, rest))) (is_3.reads (n + (is_1.steps + is_2.steps)) rest beyond);
}

-- ---- brackets

abbrev pub Items_to : ℕ → List Token → Items → Type 0
Items_to closing tokens e = ReadsTo (λ n ts. read_items n closing ts) closing tokens e

pub index_is : (m : ℕ) (ts : List Token) → IsStart (starts ts) → read_index (suc m) ts ≡ go_on (read_exprs m ts) (λ e rest. index_rest m e rest)
index_is m [] start = absurd (omega (arith, is_above 0 start))
index_is m (t ∷ ts) start = if_false (is_sign 7 t.kind) _ _ (by_class 7 t.kind (let above = is_above (start_class t.kind) start in omega (arith, above)))

index_ends : (m : ℕ) (e : Exprs) (t : Token) (rest : List Token) → t.kind ≡ Sign 3 → index_rest (suc m) e (t ∷ rest) ≡ Some (one_index e, t ∷ rest)
index_ends m (several e comma more) t rest closes = refl
index_ends m (one_expr e) t rest closes = if_false (is_sign 7 t.kind) _ _ (ap (is_sign 7) closes)

one_index_of : (tokens : List Token) (e : Exprs) → ((rest : List Token) → IsStart (starts (tokens ++ rest))) → ReadsAll read_exprs tokens e → ReadsTo read_index 3 tokens (one_index e)
one_index_of tokens e start is = record {
  steps = suc (suc is.steps);
  reads = λ n t rest closes.
      more_steps (λ m. read_index m (tokens ++ t ∷ rest)) (n + suc (suc is.steps)) (suc (suc n + is.steps)) (omega arith)
      ∙ index_is (suc n + is.steps) (tokens ++ t ∷ rest) (start (t ∷ rest))
      ∙ ap (λ r. go_on r (λ e rest. index_rest (suc n + is.steps) e rest)) (is.reads (suc n) (t ∷ rest) (level_of 3 t closes refl) (class_of 3 t closes refl))
      ∙ more_steps (λ m. index_rest m e (t ∷ rest)) (suc n + is.steps) (suc (n + is.steps)) (omega arith)
      ∙ index_ends (n + is.steps) e t rest closes;
}

no_bound_of : ReadsTo read_bound 3 [] no_bound
no_bound_of = record {
  steps = 1;
  reads = λ n t rest closes. more_steps (λ m. read_bound m (t ∷ rest)) (n + 1) (suc n) (omega arith) ∙ if_true (is_sign 3 t.kind) _ _ (is_closing 3 t.kind closes);
}

pub bound_is : (m : ℕ) (ts : List Token) → IsStart (starts ts) → read_bound (suc m) ts ≡ go_on (read_expr m ts) (λ e rest. Some (bound e, rest))
bound_is m [] start = absurd (omega (arith, is_above 0 start))
bound_is m (t ∷ ts) start = if_false (is_sign 3 t.kind) _ _ (by_class 3 t.kind (let above = is_above (start_class t.kind) start in omega (arith, above)))

bound_of : (tokens : List Token) (e : Expr) → ((rest : List Token) → IsStart (starts (tokens ++ rest))) → Reads read_expr 7 tokens e → ReadsTo read_bound 3 tokens (bound e)
bound_of tokens e start is = record {
  steps = suc is.steps;
  reads = λ n t rest closes.
      more_steps (λ m. read_bound m (tokens ++ t ∷ rest)) (n + suc is.steps) (suc (n + is.steps)) (omega arith)
      ∙ bound_is (n + is.steps) (tokens ++ t ∷ rest) (start (t ∷ rest))
      ∙ ap (λ r. go_on r (λ e rest. Some (bound e, rest))) (is.reads n (t ∷ rest) (let level = level_of 3 t closes refl in omega (arith, level)));
}

range_from_start : (colon : Spot) (tokens : List Token) (high : Bound) → ReadsTo read_bound 3 tokens high → ReadsTo read_index 3 (sign (codes ":") colon ++ tokens) (range_index no_bound colon high)
range_from_start colon tokens high is = record {
  steps = suc is.steps;
  reads = λ n t rest closes.
      more_steps (λ m. read_index m (token (Sign 7) colon ∷ tokens ++ t ∷ rest)) (n + suc is.steps) (suc (n + is.steps)) (omega arith)
      ∙ ap (λ r. go_on r (λ high rest. Some (range_index no_bound colon high, rest))) (is.reads n t rest closes);
}

range_of : (tokens : List Token) (low : Expr) (colon : Spot) (more : List Token) (high : Bound) → ((rest : List Token) → IsStart (starts (tokens ++ rest))) → Reads read_expr 7 tokens low → ReadsTo read_bound 3 more high
    → ReadsTo read_index 3 (tokens ++ (sign (codes ":") colon ++ more)) (range_index (bound low) colon high)
range_of tokens low colon more high start is next =
    let one = one_of tokens low is in
    record {
      steps = suc (suc (one.steps + next.steps));
      reads = λ n t rest closes.
          let c : Token = token (Sign 7) colon in
          more_steps (λ m. read_index m ((tokens ++ c ∷ more) ++ t ∷ rest)) (n + suc (suc (one.steps + next.steps))) (suc ((suc n + next.steps) + one.steps)) (omega arith)
          ∙ ap (read_index (suc ((suc n + next.steps) + one.steps))) (append_assoc tokens (c ∷ more) (t ∷ rest))
          ∙ index_is ((suc n + next.steps) + one.steps) (tokens ++ (c ∷ more ++ t ∷ rest)) (start (c ∷ more ++ t ∷ rest))
          ∙ ap (λ r. go_on r (λ e rest. index_rest ((suc n + next.steps) + one.steps) e rest)) (one.reads (suc n + next.steps) (c ∷ more ++ t ∷ rest) (omega arith) refl)
          ∙ more_steps (λ m. index_rest m (one_expr low) (c ∷ more ++ t ∷ rest)) ((suc n + next.steps) + one.steps) (suc ((n + one.steps) + next.steps)) (omega arith)
          ∙ ap (λ r. go_on r (λ high rest. Some (range_index (bound low) colon high, rest))) (next.reads (n + one.steps) t rest closes);
    }

no_pairs_of : ReadsTo read_pairs 5 [] no_pairs
no_pairs_of = record {
  steps = 1;
  reads = λ n t rest closes. more_steps (λ m. read_pairs m (t ∷ rest)) (n + 1) (suc n) (omega arith) ∙ if_true (is_sign 5 t.kind) _ _ (is_closing 5 t.kind closes);
}

abbrev pub after_key : ℕ → Expr → List Token → Read Pairs
after_key m key more = go_on (read_sign 7 more) (λ colon more_2. go_on (read_expr m more_2) (λ value rest. pairs_rest m key colon value rest))

pub pairs_is : (m : ℕ) (ts : List Token) → IsStart (starts ts) → read_pairs (suc m) ts ≡ go_on (read_expr m ts) (λ key more. after_key m key more)
pairs_is m [] start = absurd (omega (arith, is_above 0 start))
pairs_is m (t ∷ ts) start = if_false (is_sign 5 t.kind) _ _ (by_class 5 t.kind (let above = is_above (start_class t.kind) start in omega (arith, above)))

-- a key and its value, and what follows them
pub pair_of : (first : List Token) (key : Expr) (colon : Spot) (second : List Token) (value : Expr) (extra : ℕ) → ((rest : List Token) → IsStart (starts (first ++ rest))) → (is_1 : Reads read_expr 7 first key) → (is_2 : Reads read_expr 7 second value)
    → (n : ℕ) (rest : List Token) → Beyond 7 rest
    → read_pairs (n + suc (suc (extra + (is_1.steps + is_2.steps)))) (first ++ (token (Sign 7) colon ∷ second ++ rest)) ≡ pairs_rest (suc (n + (extra + (is_1.steps + is_2.steps)))) key colon value rest
pair_of first key colon second value extra start is_1 is_2 n rest beyond =
    let c : Token = token (Sign 7) colon in
    let k : ℕ = n + (extra + (is_1.steps + is_2.steps)) in
    more_steps (λ m. read_pairs m (first ++ (c ∷ second ++ rest))) (n + suc (suc (extra + (is_1.steps + is_2.steps)))) (suc (suc k)) (omega arith)
    ∙ pairs_is (suc k) (first ++ (c ∷ second ++ rest)) (start (c ∷ second ++ rest))
    ∙ more_steps (λ m. go_on (read_expr m (first ++ (c ∷ second ++ rest))) (λ key more. after_key (suc k) key more)) (suc k) ((suc n + (extra + is_2.steps)) + is_1.steps) (omega arith)
    ∙ ap (λ r. go_on r (λ key more. after_key (suc k) key more)) (is_1.reads (suc n + (extra + is_2.steps)) (c ∷ second ++ rest) (omega arith))
    ∙ more_steps (λ m. go_on (read_expr m (second ++ rest)) (λ value rest. pairs_rest (suc k) key colon value rest)) (suc k) ((suc n + (extra + is_1.steps)) + is_2.steps) (omega arith)
    ∙ ap (λ r. go_on r (λ value rest. pairs_rest (suc k) key colon value rest)) (is_2.reads (suc n + (extra + is_1.steps)) rest beyond)

last_pair_of : (first : List Token) (key : Expr) (colon : Spot) (second : List Token) (value : Expr) → ((rest : List Token) → IsStart (starts (first ++ rest))) → Reads read_expr 7 first key → Reads read_expr 7 second value
    → ReadsTo read_pairs 5 (first ++ (sign (codes ":") colon ++ second)) (last_pair key colon value)
last_pair_of first key colon second value start is_1 is_2 = record {
  steps = suc (suc (0 + (is_1.steps + is_2.steps)));
  reads = λ n t rest closes.
      let c : Token = token (Sign 7) colon in
      ap (read_pairs (n + suc (suc (0 + (is_1.steps + is_2.steps))))) (append_assoc first (c ∷ second) (t ∷ rest))
      ∙ pair_of first key colon second value 0 start is_1 is_2 n (t ∷ rest) (let level = level_of 5 t closes refl in omega (arith, level))
      ∙ if_false (kind_level t.kind == 8) _ _ (ap (λ kind. kind_level kind == 8) closes);
}

more_pairs_of : (first : List Token) (key : Expr) (colon : Spot) (second : List Token) (value : Expr) (comma : Spot) (third : List Token) (more : Pairs) → ((rest : List Token) → IsStart (starts (first ++ rest)))
    → Reads read_expr 7 first key → Reads read_expr 7 second value → ReadsTo read_pairs 5 third more
    → ReadsTo read_pairs 5 (first ++ (sign (codes ":") colon ++ (second ++ (sign (codes ",") comma ++ third)))) (more_pairs key colon value comma more)
more_pairs_of first key colon second value comma third more start is_1 is_2 is_3 = record {
  steps = suc (suc (is_3.steps + (is_1.steps + is_2.steps)));
  reads = λ n t rest closes.
      let c : Token = token (Sign 7) colon in
      let d : Token = token (Sign 6) comma in
      ap (read_pairs (n + suc (suc (is_3.steps + (is_1.steps + is_2.steps))))) (append_assoc first (c ∷ second ++ (d ∷ third)) (t ∷ rest) ∙ ap (λ ts. first ++ (c ∷ ts)) (append_assoc second (d ∷ third) (t ∷ rest)))
      ∙ pair_of first key colon second value is_3.steps start is_1 is_2 n (d ∷ third ++ t ∷ rest) (omega arith)
      ∙ more_steps (λ m. go_on (read_pairs m (third ++ t ∷ rest)) (λ found rest. Some (more_pairs key colon value comma found, rest))) (n + (is_3.steps + (is_1.steps + is_2.steps))) ((n + (is_1.steps + is_2.steps)) + is_3.steps) (omega arith)
      ∙ ap (λ r. go_on r (λ found rest. Some (more_pairs key colon value comma found, rest))) (is_3.reads (n + (is_1.steps + is_2.steps)) t rest closes);
}

to_one : (tokens : List Token) (e : Exprs) → ((rest : List Token) → IsStart (starts (tokens ++ rest))) → ReadsAll read_exprs tokens e → Items_to 1 tokens (items e)
to_one tokens e start is = items_of 1 tokens e refl refl start is

to_three : (tokens : List Token) (e : Exprs) → ((rest : List Token) → IsStart (starts (tokens ++ rest))) → ReadsAll read_exprs tokens e → Items_to 3 tokens (items e)
to_three tokens e start is = items_of 3 tokens e refl refl start is

no_to_three : Items_to 3 [] no_items
no_to_three = no_items_of 3

-- ---- atoms and primaries

list_of : (opening : Spot) (tokens : List Token) (e : Items) (closing : Spot) → Items_to 3 tokens e → Reads read_atom 0 (sign (codes "[") opening ++ (tokens ++ sign (codes "]") closing)) (list opening e closing)
list_of opening tokens e closing is = record {
  steps = suc (suc is.steps);
  reads = λ n rest beyond.
      more_steps (λ m. read_atom m (token (Sign 2) opening ∷ (tokens ++ (token (Sign 3) closing ∷ [])) ++ rest)) (n + suc (suc is.steps)) (suc (suc (n + is.steps))) (omega arith)
      ∙ ap (λ ts. go_on (read_items (n + is.steps) 3 ts) (λ found more. go_on (read_sign 3 more) (λ closing rest. Some (list opening found closing, rest)))) (append_assoc tokens (token (Sign 3) closing ∷ []) rest)
      ∙ ap (λ r. go_on r (λ found more. go_on (read_sign 3 more) (λ closing rest. Some (list opening found closing, rest)))) (is.reads n (token (Sign 3) closing) rest refl);
}

group_of : (opening : Spot) (tokens : List Token) (e : Items) (closing : Spot) → Items_to 1 tokens e → Reads read_atom 0 (sign (codes "(") opening ++ (tokens ++ sign (codes ")") closing)) (grouped opening e closing)
group_of opening tokens e closing is = record {
  steps = suc (suc is.steps);
  reads = λ n rest beyond.
      more_steps (λ m. read_atom m (token (Sign 0) opening ∷ (tokens ++ (token (Sign 1) closing ∷ [])) ++ rest)) (n + suc (suc is.steps)) (suc (suc (n + is.steps))) (omega arith)
      ∙ ap (λ ts. go_on (read_items (n + is.steps) 1 ts) (λ found more. go_on (read_sign 1 more) (λ closing rest. Some (grouped opening found closing, rest)))) (append_assoc tokens (token (Sign 1) closing ∷ []) rest)
      ∙ ap (λ r. go_on r (λ found more. go_on (read_sign 1 more) (λ closing rest. Some (grouped opening found closing, rest)))) (is.reads n (token (Sign 1) closing) rest refl);
}

dict_of : (opening : Spot) (tokens : List Token) (pairs : Pairs) (closing : Spot) → ReadsTo read_pairs 5 tokens pairs → Reads read_atom 0 (sign (codes "{") opening ++ (tokens ++ sign (codes "}") closing)) (dict opening pairs closing)
dict_of opening tokens pairs closing is = record {
  steps = suc (suc is.steps);
  reads = λ n rest beyond.
      more_steps (λ m. read_atom m (token (Sign 4) opening ∷ (tokens ++ (token (Sign 5) closing ∷ [])) ++ rest)) (n + suc (suc is.steps)) (suc (suc (n + is.steps))) (omega arith)
      ∙ ap (λ ts. go_on (read_pairs (n + is.steps) ts) (λ found more. go_on (read_sign 5 more) (λ closing rest. Some (dict opening found closing, rest)))) (append_assoc tokens (token (Sign 5) closing ∷ []) rest)
      ∙ ap (λ r. go_on r (λ found more. go_on (read_sign 5 more) (λ closing rest. Some (dict opening found closing, rest)))) (is.reads n (token (Sign 5) closing) rest refl);
}

-- an atom of one token
word_of : (at : Spot) (bytes : List ℕ) → Reads read_atom 0 (word bytes at) (name at bytes)
word_of at bytes = record { steps = 2; reads = λ n rest beyond. more_steps (λ m. read_atom m (word bytes at ++ rest)) (n + 2) (suc (suc n)) (omega arith) }

number_of : (at : Spot) (value : ℕ) → Reads read_atom 0 (token (Number (pos value)) at ∷ []) (number at value)
number_of at value = record { steps = 2; reads = λ n rest beyond. more_steps (λ m. read_atom m (token (Number (pos value)) at ∷ rest)) (n + 2) (suc (suc n)) (omega arith) }

text_of : (at : Spot) (bytes : List ℕ) → Reads read_atom 0 (token (Text bytes) at ∷ []) (text at bytes)
text_of at bytes = record { steps = 2; reads = λ n rest beyond. more_steps (λ m. read_atom m (token (Text bytes) at ∷ rest)) (n + 2) (suc (suc n)) (omega arith) }

none_of : (at : Spot) → Reads read_atom 0 (keyword (codes "None") at) (none at)
none_of at = record { steps = 2; reads = λ n rest beyond. more_steps (λ m. read_atom m (keyword (codes "None") at ++ rest)) (n + 2) (suc (suc n)) (omega arith) }

true_of : (at : Spot) → Reads read_atom 0 (keyword (codes "True") at) (true_word at)
true_of at = record { steps = 2; reads = λ n rest beyond. more_steps (λ m. read_atom m (keyword (codes "True") at ++ rest)) (n + 2) (suc (suc n)) (omega arith) }

false_of : (at : Spot) → Reads read_atom 0 (keyword (codes "False") at) (false_word at)
false_of at = record { steps = 2; reads = λ n rest beyond. more_steps (λ m. read_atom m (keyword (codes "False") at ++ rest)) (n + 2) (suc (suc n)) (omega arith) }

empty_of : (opening closing : Spot) → Reads read_atom 0 (sign (codes "(") opening ++ sign (codes ")") closing) (empty_tuple opening closing)
empty_of opening closing = record { steps = 3; reads = λ n rest beyond. more_steps (λ m. read_atom m (sign (codes "(") opening ++ (sign (codes ")") closing ++ rest))) (n + 3) (suc (suc (suc n))) (omega arith) }

lead_prim_one : (tokens : List Token) (a : Atom) → Reads read_atom 0 tokens a → Leads read_prim prim_rest 0 tokens (plain_prim a)
lead_prim_one tokens a is = lead_one read_prim prim_rest read_atom plain_prim 0 (λ n ts. refl) tokens a is

lead_call : (tokens : List Token) (p : Prim) (opening : Spot) (more : List Token) (arguments : Items) (closing : Spot) → Leads read_prim prim_rest 0 tokens p → Items_to 1 more arguments
    → Leads read_prim prim_rest 0 (tokens ++ (sign (codes "(") opening ++ (more ++ sign (codes ")") closing))) (call p opening arguments closing)
lead_call tokens p opening more arguments closing is next = lead_more read_prim prim_rest 0 tokens p (call p opening arguments closing) (token (Sign 0) opening) (more ++ sign (codes ")") closing) next.steps is (omega arith)
    (λ m tail beyond.
    ap (λ ts. go_on (read_items (m + next.steps) 1 ts) (λ found left. go_on (read_sign 1 left) (λ closing rest. prim_rest (m + next.steps) (call p opening found closing) rest))) (append_assoc more (token (Sign 1) closing ∷ []) tail)
    ∙ ap (λ r. go_on r (λ found left. go_on (read_sign 1 left) (λ closing rest. prim_rest (m + next.steps) (call p opening found closing) rest))) (next.reads m (token (Sign 1) closing) tail refl))

lead_part : (tokens : List Token) (p : Prim) (opening : Spot) (more : List Token) (index : Index) (closing : Spot) → Leads read_prim prim_rest 0 tokens p → ReadsTo read_index 3 more index
    → Leads read_prim prim_rest 0 (tokens ++ (sign (codes "[") opening ++ (more ++ sign (codes "]") closing))) (part p opening index closing)
lead_part tokens p opening more index closing is next = lead_more read_prim prim_rest 0 tokens p (part p opening index closing) (token (Sign 2) opening) (more ++ sign (codes "]") closing) next.steps is (omega arith)
    (λ m tail beyond.
    ap (λ ts. go_on (read_index (m + next.steps) ts) (λ found left. go_on (read_sign 3 left) (λ closing rest. prim_rest (m + next.steps) (part p opening found closing) rest))) (append_assoc more (token (Sign 3) closing ∷ []) tail)
    ∙ ap (λ r. go_on r (λ found left. go_on (read_sign 3 left) (λ closing rest. prim_rest (m + next.steps) (part p opening found closing) rest))) (next.reads m (token (Sign 3) closing) tail refl))

lead_attribute : (tokens : List Token) (p : Prim) (dot name_at : Spot) (bytes : List ℕ) → Leads read_prim prim_rest 0 tokens p
    → Leads read_prim prim_rest 0 (tokens ++ (sign (codes ".") dot ++ word bytes name_at)) (attribute p dot name_at bytes)
lead_attribute tokens p dot name_at bytes is = lead_more read_prim prim_rest 0 tokens p (attribute p dot name_at bytes) (token (Sign 8) dot) (word bytes name_at) 0 is (omega arith)
    (λ m tail beyond. refl)

-- ---- every expression

pub or_stops : (e : Or) → Leads read_or or_rest 5 (or_tokens e) e → Reads read_or 6 (or_tokens e) e
or_stops e is = stop read_or or_rest 5 6 (or_tokens e) e (omega arith) is (λ m rest beyond. or_ends m e rest beyond)

pub and_stops : (e : And) → Leads read_and and_rest 4 (and_tokens e) e → Reads read_and 5 (and_tokens e) e
and_stops e is = stop read_and and_rest 4 5 (and_tokens e) e (omega arith) is (λ m rest beyond. and_ends m e rest beyond)

pub sum_stops : (e : Sum) → Leads read_sum sum_rest 2 (sum_tokens e) e → Reads read_sum 3 (sum_tokens e) e
sum_stops e is = stop read_sum sum_rest 2 3 (sum_tokens e) e (omega arith) is (λ m rest beyond. sum_ends m e rest beyond)

pub term_stops : (e : Term) → Leads read_term term_rest 1 (term_tokens e) e → Reads read_term 2 (term_tokens e) e
term_stops e is = stop read_term term_rest 1 2 (term_tokens e) e (omega arith) is (λ m rest beyond. term_ends m e rest beyond)

pub prim_stops : (e : Prim) → Leads read_prim prim_rest 0 (prim_tokens e) e → Reads read_prim 1 (prim_tokens e) e
prim_stops e is = stop read_prim prim_rest 0 1 (prim_tokens e) e (omega arith) is (λ m rest beyond. prim_ends m e rest beyond)

mutual
  pub expr_reads : (e : Expr) → Reads read_expr 7 (expr_tokens e) e
  expr_reads (plain_expr e) = plain_expr_of (or_tokens e) e (or_stops e (or_leads e))
  expr_reads (choice chosen if_word test else_word other) =
      choice_of (or_tokens chosen) chosen if_word (or_tokens test) test else_word (expr_tokens other) other (or_stops chosen (or_leads chosen)) (or_stops test (or_leads test)) (expr_reads other)

  pub or_leads : (e : Or) → Leads read_or or_rest 5 (or_tokens e) e
  or_leads (plain_or e) = lead_or_one (and_tokens e) e (and_stops e (and_leads e))
  or_leads (or_more left at right) = lead_or_more (or_tokens left) left at (and_tokens right) right (or_leads left) (and_stops right (and_leads right))

  pub and_leads : (e : And) → Leads read_and and_rest 4 (and_tokens e) e
  and_leads (plain_and e) = lead_and_one (not_tokens e) e (not_reads e)
  and_leads (and_more left at right) = lead_and_more (and_tokens left) left at (not_tokens right) right (and_leads left) (not_reads right)

  pub not_reads : (e : Not) → Reads read_not 4 (not_tokens e) e
  not_reads (plain_not c) = plain_not_of c (cmp_reads c)
  not_reads (not_of at e) = not_of_of at (not_tokens e) e (not_reads e)

  pub cmp_reads : (c : Cmp) → Reads read_cmp 4 (cmp_tokens_of c) c
  cmp_reads (plain_cmp e) = plain_cmp_of (sum_tokens e) e (sum_stops e (sum_leads e))
  cmp_reads (compared left op right) = compared_of (sum_tokens left) left op (sum_tokens right) right (λ rest. sum_starts right rest) (sum_stops left (sum_leads left)) (sum_stops right (sum_leads right))

  pub sum_leads : (e : Sum) → Leads read_sum sum_rest 2 (sum_tokens e) e
  sum_leads (plain_sum e) = lead_sum_one (term_tokens e) e (term_stops e (term_leads e))
  sum_leads (sum_more left at op right) = lead_sum_more (sum_tokens left) left at op (term_tokens right) right (sum_leads left) (term_stops right (term_leads right))

  pub term_leads : (e : Term) → Leads read_term term_rest 1 (term_tokens e) e
  term_leads (plain_term e) = lead_term_one (unary_tokens e) e (unary_reads e)
  term_leads (term_more left at op right) = lead_term_more (term_tokens left) left at op (unary_tokens right) right (term_leads left) (unary_reads right)

  pub unary_reads : (u : Unary) → Reads read_unary 1 (unary_tokens u) u
  unary_reads (plain_unary p) = plain_unary_of p (prim_stops p (prim_leads p))
  unary_reads (signed at op u) = signed_of at op (unary_tokens u) u (unary_reads u)

  pub prim_leads : (p : Prim) → Leads read_prim prim_rest 0 (prim_tokens p) p
  prim_leads (plain_prim a) = lead_prim_one (atom_tokens a) a (atom_reads a)
  prim_leads (call p opening arguments closing) = lead_call (prim_tokens p) p opening (items_tokens arguments) arguments closing (prim_leads p) (items_read arguments)
  prim_leads (part p opening index closing) = lead_part (prim_tokens p) p opening (index_tokens index) index closing (prim_leads p) (index_reads index)
  prim_leads (attribute p dot name_at bytes) = lead_attribute (prim_tokens p) p dot name_at bytes (prim_leads p)

  items_read : (i : Items) → Items_to 1 (items_tokens i) i
  items_read no_items = no_items_of 1
  items_read (items e) = items_of 1 (exprs_tokens e) e refl refl (λ rest. exprs_starts e rest) (exprs_read e)

  index_reads : (i : Index) → ReadsTo read_index 3 (index_tokens i) i
  index_reads (one_index e) = one_index_of (exprs_tokens e) e (λ rest. exprs_starts e rest) (exprs_read e)
  index_reads (range_index no_bound colon high) = range_from_start colon (bound_tokens high) high (bound_reads high)
  index_reads (range_index (bound low) colon high) = range_of (expr_tokens low) low colon (bound_tokens high) high (λ rest. expr_starts low rest) (expr_reads low) (bound_reads high)

  bound_reads : (b : Bound) → ReadsTo read_bound 3 (bound_tokens b) b
  bound_reads no_bound = no_bound_of
  bound_reads (bound e) = bound_of (expr_tokens e) e (λ rest. expr_starts e rest) (expr_reads e)

  atom_reads : (a : Atom) → Reads read_atom 0 (atom_tokens a) a
  atom_reads (name at bytes) = word_of at bytes
  atom_reads (number at value) = number_of at value
  atom_reads (text at bytes) = text_of at bytes
  atom_reads (none at) = none_of at
  atom_reads (true_word at) = true_of at
  atom_reads (false_word at) = false_of at
  atom_reads (empty_tuple opening closing) = empty_of opening closing
  atom_reads (group opening e closing) = group_of opening (exprs_tokens e) (items e) closing (to_one (exprs_tokens e) e (λ rest. exprs_starts e rest) (exprs_read e))
  atom_reads (list opening no_items closing) = list_of opening [] no_items closing (no_to_three)
  atom_reads (list opening (items e) closing) = list_of opening (exprs_tokens e) (items e) closing (to_three (exprs_tokens e) e (λ rest. exprs_starts e rest) (exprs_read e))
  atom_reads (dict opening pairs closing) = dict_of opening (pairs_tokens pairs) pairs closing (pairs_read pairs)

  pub exprs_read : (e : Exprs) → ReadsAll read_exprs (exprs_tokens e) e
  exprs_read (one_expr e) = one_of (expr_tokens e) e (expr_reads e)
  exprs_read (several e comma rest) = several_of (expr_tokens e) e comma (rest_tokens rest) rest (expr_reads e) (rest_reads rest)

  rest_reads : (r : Rest) → ReadsAll read_rest (rest_tokens r) r
  rest_reads end_rest = end_rest_of
  rest_reads (last_rest e) = last_rest_of (expr_tokens e) e (λ rest. expr_starts e rest) (expr_reads e)
  rest_reads (more_rest e comma r) = more_rest_of (expr_tokens e) e comma (rest_tokens r) r (λ rest. expr_starts e rest) (expr_reads e) (rest_reads r)

  pairs_read : (p : Pairs) → ReadsTo read_pairs 5 (pairs_tokens p) p
  pairs_read no_pairs = no_pairs_of
  pairs_read (last_pair key colon value) = last_pair_of (expr_tokens key) key colon (expr_tokens value) value (λ rest. expr_starts key rest) (expr_reads key) (expr_reads value)
  pairs_read (more_pairs key colon value comma p) = more_pairs_of (expr_tokens key) key colon (expr_tokens value) value comma (pairs_tokens p) p (λ rest. expr_starts key rest) (expr_reads key) (expr_reads value) (pairs_read p)
