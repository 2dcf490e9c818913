-- Where the first of the deepest expressions begins: as deep as the whole goes, and nothing that begins ahead of it does.
use Rattle.std.proofs.Common.{◌≡◌, ℕ, zero, suc, ◌+◌, max, ◌≤◌, ◌<◌, Bool, true, false, List, [], ◌∷◌, ◌++◌, refl, ap, sym, ◌∙◌, arith, subst, append_assoc, if◌then◌else◌}
use Rattle.std.specs.Prelude.{nat_lt, codes}
use Rattle.std.proofs.lemmas.Bool.{leb-true, leb-false}
use Rattle.prov_base.specs.declared.place.Pos.{Pos}
use Rattle.py_lines.specs.declared.parts.Token.{Token}
use Rattle.py_expressions.specs.Concrete.{Expr, plain_expr, choice, Or, plain_or, or_more, And, plain_and, and_more, Not, plain_not, not_of, Cmp, plain_cmp, compared, Sum, plain_sum, sum_more, Term, plain_term, term_more, Unary, plain_unary, signed, Prim, plain_prim, call, part, attribute, Index, one_index, range_index, Bound, no_bound, bound, Atom, name, number, text, none, true_word, false_word, empty_tuple, group, list, dict, Exprs, one_expr, several, Rest, end_rest, last_rest, more_rest, Items, no_items, items, Pairs, no_pairs, last_pair, more_pairs}
use Rattle.py_expressions.specs.Tokens.{keyword, sign, word, add_sign, mul_sign, cmp_tokens, expr_tokens, or_tokens, and_tokens, not_tokens, cmp_tokens_of, sum_tokens, term_tokens, unary_tokens, prim_tokens, index_tokens, bound_tokens, atom_tokens, exprs_tokens, rest_tokens, items_tokens, pairs_tokens}
use Rattle.py_expressions.specs.Depth.{expr_depth, or_depth, and_depth, not_depth, cmp_depth, sum_depth, term_depth, unary_depth, prim_depth, index_depth, bound_depth, atom_depth, exprs_depth, rest_depth, items_depth, pairs_depth}
use Rattle.py_expressions.specs.Lies.{is_place, begins, over, expr_lies, or_lies, and_lies, not_lies, cmp_lies, sum_lies, term_lies, unary_lies, prim_lies, index_lies, bound_lies, atom_lies, exprs_lies, rest_lies, items_lies, pairs_lies, deeper_of, expr_deepest, or_deepest, and_deepest, not_deepest, cmp_deepest, sum_deepest, term_deepest, unary_deepest, prim_deepest, index_deepest, bound_deepest, atom_deepest, exprs_deepest, rest_deepest, items_deepest, pairs_deepest, IsApart, IsFirst}
use Rattle.py_expressions.proofs.Lying.{expr_low, or_low, and_low, sum_low, term_low, unary_low, not_low, prim_low, index_low, bound_low, rest_low, items_low, pairs_low, both_low, expr_above, or_above, and_above, not_above, sum_above, term_above, unary_above, prim_above, exprs_above, same_place, alone_here, over_is, is_here}

-- ---- of two neighbours

either_way : (P : Type 0) (m n : ℕ) → (m < n → P) → (n ≤ m → P) → P
either_way P m n one other = by (nat_lt m n) refl
  where
    by : (b : Bool) → nat_lt m n ≡ b → P
    by true is = one (leb-true (suc m) n is)
    by false is = let low = leb-false (suc m) n is in other (omega (arith, low))

pub deeper_later : (m n : ℕ) (a b : Pos) → m < n → deeper_of m a n b ≡ b
deeper_later m n a b less = by (nat_lt m n) refl
  where
    by : (second : Bool) → nat_lt m n ≡ second → (if nat_lt m n then b else a) ≡ b
    by true is = ap (λ s. if s then b else a) is
    by false is = let low = leb-false (suc m) n is in absurd (omega (arith, low, less))

pub deeper_first : (m n : ℕ) (a b : Pos) → n ≤ m → deeper_of m a n b ≡ a
deeper_first m n a b low = by (nat_lt m n) refl
  where
    by : (second : Bool) → nat_lt m n ≡ second → (if nat_lt m n then b else a) ≡ a
    by true is = let less = leb-true (suc m) n is in absurd (omega (arith, low, less))
    by false is = ap (λ s. if s then b else a) is

pub deeper_same : (m n x y : ℕ) (a b c d : Pos) → m ≡ x → a ≡ c → n ≡ y → b ≡ d → deeper_of m a n b ≡ deeper_of x c y d
deeper_same m n x y a b c d one two three four =
    ap (λ k. deeper_of k a n b) one ∙ ap (λ p. deeper_of x p n b) two ∙ ap (λ k. deeper_of x c k b) three ∙ ap (λ p. deeper_of x c y p) four

-- what is beside a bracket is deeper than it, or it is not there
pub deeper_bracket : (m n : ℕ) (a b c : Pos) → deeper_of m a n (deeper_of 0 c n b) ≡ deeper_of m a n b
deeper_bracket m n a b c = either_way _ m n
    (λ less. ap (deeper_of m a n) (deeper_later 0 n c b (omega (arith, less))))
    (λ low. deeper_first m n a (deeper_of 0 c n b) low ∙ sym (deeper_first m n a b low))

-- of three the first two, or the last two
pub deeper_group : (x y z : ℕ) (a b c : Pos) → deeper_of x a (max y z) (deeper_of y b z c) ≡ deeper_of (max x y) (deeper_of x a y b) z c
deeper_group x y z a b c = either_way _ x y
    (λ less. either_way _ y z
    (λ more. deeper_later x (max y z) a (deeper_of y b z c) (omega (arith, less)) ∙ deeper_later y z b c more ∙ sym (deeper_later (max x y) z (deeper_of x a y b) c (omega (arith, less, more))))
    (λ low. deeper_later x (max y z) a (deeper_of y b z c) (omega (arith, less)) ∙ deeper_first y z b c low ∙ sym (deeper_first (max x y) z (deeper_of x a y b) c (omega (arith, low)) ∙ deeper_later x y a b less)))
    (λ low. either_way _ x z
    (λ more. deeper_later x (max y z) a (deeper_of y b z c) (omega (arith, more)) ∙ deeper_later y z b c (omega (arith, low, more)) ∙ sym (deeper_later (max x y) z (deeper_of x a y b) c (omega (arith, low, more))))
    (λ not_more. deeper_first x (max y z) a (deeper_of y b z c) (omega (arith, low, not_more)) ∙ sym (deeper_first (max x y) z (deeper_of x a y b) c (omega (arith, not_more)) ∙ deeper_first x y a b low)))

-- ---- tokens that stand elsewhere

pub apart_front : (at : Pos) (xs ys : List Token) → IsApart at (xs ++ ys) → IsApart at xs
apart_front at [] ys is = tt
apart_front at (x ∷ xs) ys is = (is.0, apart_front at xs ys is.1)

pub apart_behind : (at : Pos) (xs ys : List Token) → IsApart at (xs ++ ys) → IsApart at ys
apart_behind at [] ys is = is
apart_behind at (x ∷ xs) ys is = apart_behind at xs ys is.1

pub apart_there : (spot other place : Pos) → is_place spot other ≡ false → spot ≡ place → other ≡ place → ⊥
apart_there spot other place apart named same = let yes : true ≡ false = sym (is_here spot other (named ∙ sym same)) ∙ apart in cc

-- ---- the first of the deepest, with more tokens around it

pub first_front : {ts : List Token} {f : Pos → ℕ} {m : ℕ} {d : Pos} (front : List Token) → IsFirst ts f m d → IsFirst (front ++ ts) f m d
first_front front is = record {
  ahead = front ++ is.ahead;
  named = is.named;
  later = is.later;
  tokens_are = ap (λ us. front ++ us) is.tokens_are ∙ sym (append_assoc front is.ahead (is.named ∷ is.later));
  named_is = is.named_is;
  lies_is = is.lies_is;
  less = is.less;
}

pub first_behind : {ts : List Token} {f : Pos → ℕ} {m : ℕ} {d : Pos} (behind : List Token) → IsFirst ts f m d → IsFirst (ts ++ behind) f m d
first_behind behind is = record {
  ahead = is.ahead;
  named = is.named;
  later = is.later ++ behind;
  tokens_are = ap (λ us. us ++ behind) is.tokens_are ∙ append_assoc is.ahead (is.named ∷ is.later) behind;
  named_is = is.named_is;
  lies_is = is.lies_is;
  less = λ other apart. is.less other (apart_front other (is.named ∷ is.later) behind apart);
}

first_moved : {ts us : List Token} {f : Pos → ℕ} {m : ℕ} {d : Pos} → ts ≡ us → IsFirst us f m d → IsFirst ts f m d
first_moved same is = record { ahead = is.ahead; named = is.named; later = is.later; tokens_are = same ∙ is.tokens_are; named_is = is.named_is; lies_is = is.lies_is; less = is.less }

-- ---- under a node, and beside something

over_less : (here : Bool) (a m : ℕ) → 1 ≤ m → a < m → over here a < 1 + m
over_less true zero m some less = omega (arith, some)
over_less false zero m some less = omega arith
over_less here (suc a) m some less = omega (arith, less)

pub first_over : {ts : List Token} {m : ℕ} {d : Pos} (here : Pos → Bool) (f : Pos → ℕ) → 1 ≤ m → IsFirst ts f m d → IsFirst ts (λ at. over (here at) (f at)) (1 + m) d
first_over {ts} {m} {d} here f some is = record {
  ahead = is.ahead;
  named = is.named;
  later = is.later;
  tokens_are = is.tokens_are;
  named_is = is.named_is;
  lies_is = over_is (here d) (f d) m is.lies_is some;
  less = λ other apart. over_less (here other) (f other) m some (is.less other apart);
}

later_lies : (x y m n : ℕ) → x ≤ m → y ≡ n → m < n → max x y ≡ max m n
later_lies x y m n low is less = omega (arith, low, is, less)

first_lies : (x y m n : ℕ) → x ≡ m → y ≤ n → n ≤ m → max x y ≡ max m n
first_lies x y m n is low least = omega (arith, low, is, least)

later_less : (x y m n : ℕ) → x ≤ m → y < n → m < n → max x y < max m n
later_less x y m n low one less = omega (arith, low, one, less)

first_less : (x y m n : ℕ) → x < m → y < m → max x y < max m n
first_less x y m n one other = omega (arith, one, other)

pub first_pair : {ts us : List Token} {m n : ℕ} {a b : Pos} (f g : Pos → ℕ) → (1 ≤ m → IsFirst ts f m a) → (1 ≤ n → IsFirst us g n b) → ((at : Pos) → f at ≤ m) → ((at : Pos) → g at ≤ n) → 1 ≤ max m n
    → IsFirst (ts ++ us) (λ at. max (f at) (g at)) (max m n) (deeper_of m a n b)
first_pair {ts} {us} {m} {n} {a} {b} f g left right low_f low_g some = either_way (IsFirst (ts ++ us) (λ at. max (f at) (g at)) (max m n) (deeper_of m a n b)) m n second first
  where
    second : m < n → IsFirst (ts ++ us) (λ at. max (f at) (g at)) (max m n) (deeper_of m a n b)
    second less =
        let r = right (omega (arith, less)) in
        let there : deeper_of m a n b ≡ b = deeper_later m n a b less in
        record {
          ahead = ts ++ r.ahead;
          named = r.named;
          later = r.later;
          tokens_are = ap (λ vs. ts ++ vs) r.tokens_are ∙ sym (append_assoc ts r.ahead (r.named ∷ r.later));
          named_is = r.named_is ∙ sym there;
          lies_is = ap (λ p. max (f p) (g p)) there ∙ later_lies (f b) (g b) m n (low_f b) r.lies_is less;
          less = λ other apart. later_less (f other) (g other) m n (low_f other) (r.less other apart) less;
        }

    beside : (other : Pos) → n ≤ m → IsApart other us → g other < m
    beside other least apart = either_way (g other < m) n m
        (λ less. let low = low_g other in omega (arith, low, less))
        (λ high.
        let r = right (omega (arith, some, least, high)) in
        let under = r.less other (apart_behind other r.ahead (r.named ∷ r.later) (subst (IsApart other) r.tokens_are apart)) in
        omega (arith, under, least))

    first : n ≤ m → IsFirst (ts ++ us) (λ at. max (f at) (g at)) (max m n) (deeper_of m a n b)
    first least =
        let l = left (omega (arith, some, least)) in
        let there : deeper_of m a n b ≡ a = deeper_first m n a b least in
        record {
          ahead = l.ahead;
          named = l.named;
          later = l.later ++ us;
          tokens_are = ap (λ vs. vs ++ us) l.tokens_are ∙ append_assoc l.ahead (l.named ∷ l.later) us;
          named_is = l.named_is ∙ sym there;
          lies_is = ap (λ p. max (f p) (g p)) there ∙ first_lies (f a) (g a) m n l.lies_is (low_g a) least;
          less = λ other apart. first_less (f other) (g other) m n (l.less other (apart_front other (l.named ∷ l.later) us apart)) (beside other least (apart_behind other (l.named ∷ l.later) us apart));
        }

some_left : (m n : ℕ) → 1 ≤ m → 1 ≤ max m n
some_left m n some = omega (arith, some)

-- a node over two, of which the first is there
pub first_node : {ts us : List Token} {m n : ℕ} {a b : Pos} (here : Pos → Bool) (f g : Pos → ℕ) → IsFirst ts f m a → (1 ≤ n → IsFirst us g n b) → ((at : Pos) → f at ≤ m) → ((at : Pos) → g at ≤ n) → 1 ≤ m
    → IsFirst (ts ++ us) (λ at. over (here at) (max (f at) (g at))) (1 + max m n) (deeper_of m a n b)
first_node {ts} {us} {m} {n} {a} {b} here f g left right low_f low_g some =
    first_over here (λ at. max (f at) (g at)) (some_left m n some) (first_pair f g (λ _. left) right low_f low_g (some_left m n some))

-- one token
pub first_alone : (t : Token) → IsFirst (t ∷ []) (λ at. over (is_place t.at at) 0) 1 t.at
first_alone t = record {
  ahead = [];
  named = t;
  later = [];
  tokens_are = refl;
  named_is = refl;
  lies_is = alone_here (is_place t.at t.at) (same_place t.at);
  less = λ other apart. let none : over (is_place t.at other) 0 ≡ 0 = ap (λ b. over b 0) apart.0 in omega (arith, none);
}

-- brackets, which may hold nothing
pub first_bracket : {ts : List Token} {d : Pos} (t : Token) (behind : List Token) (f : Pos → ℕ) (m : ℕ) → (1 ≤ m → IsFirst ts f m d) → ((at : Pos) → f at ≤ m)
    → IsFirst (t ∷ (ts ++ behind)) (λ at. over (is_place t.at at) (f at)) (1 + m) (deeper_of 0 t.at m d)
first_bracket {ts} {d} t behind f zero inside low =
    let there : deeper_of 0 t.at 0 d ≡ t.at = deeper_first 0 0 t.at d (omega arith) in
    record {
      ahead = [];
      named = t;
      later = ts ++ behind;
      tokens_are = refl;
      named_is = sym there;
      lies_is = ap (over (is_place t.at (deeper_of 0 t.at 0 d))) (none (f (deeper_of 0 t.at 0 d)) (low (deeper_of 0 t.at 0 d))) ∙ alone_here (is_place t.at (deeper_of 0 t.at 0 d)) (is_here t.at (deeper_of 0 t.at 0 d) (sym there));
      less = λ other apart. let nothing : over (is_place t.at other) (f other) ≡ 0 = ap (over (is_place t.at other)) (none (f other) (low other)) ∙ ap (λ b. over b 0) apart.0 in omega (arith, nothing);
    }
  where
    none : (n : ℕ) → n ≤ 0 → n ≡ 0
    none n least = omega (arith, least)
first_bracket {ts} {d} t behind f (suc m) inside low =
    subst (IsFirst (t ∷ (ts ++ behind)) (λ at. over (is_place t.at at) (f at)) (1 + suc m)) (sym (deeper_later 0 (suc m) t.at d (omega arith)))
    (first_front (t ∷ []) (first_behind behind (first_over (is_place t.at) f (omega arith) (inside (omega arith)))))

-- ---- the law

pairs_moved : (key : List Token) (colon : Token) (value : List Token) (comma : Token) (rest : List Token) → key ++ colon ∷ (value ++ comma ∷ rest) ≡ (key ++ colon ∷ value) ++ comma ∷ rest
pairs_moved key colon value comma rest = sym (append_assoc key (colon ∷ value) (comma ∷ rest))

mutual
  pub expr_is_first : (e : Expr) → IsFirst (expr_tokens e) (expr_lies e) (expr_depth e) (expr_deepest e)
  expr_is_first (plain_expr e) = or_is_first e
  expr_is_first (choice chosen if_word test else_word other) = first_node (begins (or_tokens chosen)) (or_lies chosen) (λ at. max (or_lies test at) (expr_lies other at)) (or_is_first chosen)
      (λ some. first_front (keyword (codes "if") if_word) (first_pair (or_lies test) (expr_lies other) (λ _. or_is_first test) (λ _. first_front (keyword (codes "else") else_word) (expr_is_first other)) (or_low test) (expr_low other) some))
      (or_low chosen) (λ at. both_low _ _ _ _ (or_low test at) (expr_low other at)) (or_above chosen)

  pub or_is_first : (e : Or) → IsFirst (or_tokens e) (or_lies e) (or_depth e) (or_deepest e)
  or_is_first (plain_or e) = and_is_first e
  or_is_first (or_more left at right) = first_node (begins (or_tokens left)) (or_lies left) (and_lies right) (or_is_first left) (λ _. first_front (keyword (codes "or") at) (and_is_first right)) (or_low left) (and_low right) (or_above left)

  pub and_is_first : (e : And) → IsFirst (and_tokens e) (and_lies e) (and_depth e) (and_deepest e)
  and_is_first (plain_and e) = not_is_first e
  and_is_first (and_more left at right) = first_node (begins (and_tokens left)) (and_lies left) (not_lies right) (and_is_first left) (λ _. first_front (keyword (codes "and") at) (not_is_first right)) (and_low left) (not_low right) (and_above left)

  pub not_is_first : (e : Not) → IsFirst (not_tokens e) (not_lies e) (not_depth e) (not_deepest e)
  not_is_first (plain_not e) = cmp_is_first e
  not_is_first (not_of at e) = first_front (keyword (codes "not") at) (first_over (is_place at.at) (not_lies e) (not_above e) (not_is_first e))

  pub cmp_is_first : (e : Cmp) → IsFirst (cmp_tokens_of e) (cmp_lies e) (cmp_depth e) (cmp_deepest e)
  cmp_is_first (plain_cmp e) = sum_is_first e
  cmp_is_first (compared left op right) = first_node (begins (sum_tokens left)) (sum_lies left) (sum_lies right) (sum_is_first left) (λ _. first_front (cmp_tokens op) (sum_is_first right)) (sum_low left) (sum_low right) (sum_above left)

  pub sum_is_first : (e : Sum) → IsFirst (sum_tokens e) (sum_lies e) (sum_depth e) (sum_deepest e)
  sum_is_first (plain_sum e) = term_is_first e
  sum_is_first (sum_more left at op right) = first_node (begins (sum_tokens left)) (sum_lies left) (term_lies right) (sum_is_first left) (λ _. first_front (sign (add_sign op) at) (term_is_first right)) (sum_low left) (term_low right) (sum_above left)

  pub term_is_first : (e : Term) → IsFirst (term_tokens e) (term_lies e) (term_depth e) (term_deepest e)
  term_is_first (plain_term e) = unary_is_first e
  term_is_first (term_more left at op right) = first_node (begins (term_tokens left)) (term_lies left) (unary_lies right) (term_is_first left) (λ _. first_front (sign (mul_sign op) at) (unary_is_first right)) (term_low left) (unary_low right) (term_above left)

  pub unary_is_first : (e : Unary) → IsFirst (unary_tokens e) (unary_lies e) (unary_depth e) (unary_deepest e)
  unary_is_first (plain_unary e) = prim_is_first e
  unary_is_first (signed at op e) = first_front (sign (add_sign op) at) (first_over (is_place at.at) (unary_lies e) (unary_above e) (unary_is_first e))

  pub prim_is_first : (e : Prim) → IsFirst (prim_tokens e) (prim_lies e) (prim_depth e) (prim_deepest e)
  prim_is_first (plain_prim e) = atom_is_first e
  prim_is_first (call callee opening arguments closing) = first_node (begins (prim_tokens callee)) (prim_lies callee) (items_lies arguments) (prim_is_first callee)
      (λ some. first_front (sign (codes "(") opening) (first_behind (sign (codes ")") closing) (items_are_first arguments some))) (prim_low callee) (items_low arguments) (prim_above callee)
  prim_is_first (part e opening index closing) = first_node (begins (prim_tokens e)) (prim_lies e) (index_lies index) (prim_is_first e)
      (λ some. first_front (sign (codes "[") opening) (first_behind (sign (codes "]") closing) (index_is_first index some))) (prim_low e) (index_low index) (prim_above e)
  prim_is_first (attribute e dot name_at bytes) = first_behind (sign (codes ".") dot ++ word bytes name_at) (first_over (begins (prim_tokens e)) (prim_lies e) (prim_above e) (prim_is_first e))

  pub index_is_first : (i : Index) → 1 ≤ index_depth i → IsFirst (index_tokens i) (index_lies i) (index_depth i) (index_deepest i)
  index_is_first (one_index e) some = exprs_are_first e
  index_is_first (range_index low colon high) some = first_pair (bound_lies low) (bound_lies high) (bound_is_first low) (λ more. first_front (sign (codes ":") colon) (bound_is_first high more)) (bound_low low) (bound_low high) some

  pub bound_is_first : (b : Bound) → 1 ≤ bound_depth b → IsFirst (bound_tokens b) (bound_lies b) (bound_depth b) (bound_deepest b)
  bound_is_first no_bound some = absurd (omega (arith, some))
  bound_is_first (bound e) some = expr_is_first e

  pub atom_is_first : (a : Atom) → IsFirst (atom_tokens a) (atom_lies a) (atom_depth a) (atom_deepest a)
  atom_is_first (name at bytes) = first_alone _
  atom_is_first (number at n) = first_alone _
  atom_is_first (text at bytes) = first_alone _
  atom_is_first (none at) = first_alone _
  atom_is_first (true_word at) = first_alone _
  atom_is_first (false_word at) = first_alone _
  atom_is_first (empty_tuple opening closing) = first_behind (sign (codes ")") closing) (first_alone _)
  atom_is_first (group opening e closing) = first_front (sign (codes "(") opening) (first_behind (sign (codes ")") closing) (first_over (is_place opening.at) (exprs_lies e) (exprs_above e) (exprs_are_first e)))
  atom_is_first (list opening e closing) = first_bracket _ (sign (codes "]") closing) (items_lies e) (items_depth e) (items_are_first e) (items_low e)
  atom_is_first (dict opening pairs closing) = first_bracket _ (sign (codes "}") closing) (pairs_lies pairs) (pairs_depth pairs) (pairs_are_first pairs) (pairs_low pairs)

  pub exprs_are_first : (e : Exprs) → IsFirst (exprs_tokens e) (exprs_lies e) (exprs_depth e) (exprs_deepest e)
  exprs_are_first (one_expr e) = expr_is_first e
  exprs_are_first (several e comma rest) = first_node (begins (expr_tokens e)) (expr_lies e) (rest_lies rest) (expr_is_first e) (λ some. first_front (sign (codes ",") comma) (rest_is_first rest some)) (expr_low e) (rest_low rest) (expr_above e)

  pub rest_is_first : (r : Rest) → 1 ≤ rest_depth r → IsFirst (rest_tokens r) (rest_lies r) (rest_depth r) (rest_deepest r)
  rest_is_first end_rest some = absurd (omega (arith, some))
  rest_is_first (last_rest e) some = expr_is_first e
  rest_is_first (more_rest e comma rest) some = first_pair (expr_lies e) (rest_lies rest) (λ _. expr_is_first e) (λ more. first_front (sign (codes ",") comma) (rest_is_first rest more)) (expr_low e) (rest_low rest) some

  pub items_are_first : (i : Items) → 1 ≤ items_depth i → IsFirst (items_tokens i) (items_lies i) (items_depth i) (items_deepest i)
  items_are_first no_items some = absurd (omega (arith, some))
  items_are_first (items (one_expr e)) some = expr_is_first e
  items_are_first (items (several e comma rest)) some = first_pair (expr_lies e) (rest_lies rest) (λ _. expr_is_first e) (λ more. first_front (sign (codes ",") comma) (rest_is_first rest more)) (expr_low e) (rest_low rest) some

  pub pairs_are_first : (p : Pairs) → 1 ≤ pairs_depth p → IsFirst (pairs_tokens p) (pairs_lies p) (pairs_depth p) (pairs_deepest p)
  pairs_are_first no_pairs some = absurd (omega (arith, some))
  pairs_are_first (last_pair key colon value) some = first_pair (expr_lies key) (expr_lies value) (λ _. expr_is_first key) (λ _. first_front (sign (codes ":") colon) (expr_is_first value)) (expr_low key) (expr_low value) some
  pairs_are_first (more_pairs key colon value comma rest) some = first_moved (pairs_moved (expr_tokens key) _ (expr_tokens value) _ (pairs_tokens rest))
      (first_pair (λ at. max (expr_lies key at) (expr_lies value at)) (pairs_lies rest)
      (λ more. first_pair (expr_lies key) (expr_lies value) (λ _. expr_is_first key) (λ _. first_front (sign (codes ":") colon) (expr_is_first value)) (expr_low key) (expr_low value) more)
      (λ more. first_front (sign (codes ",") comma) (pairs_are_first rest more)) (λ at. both_low _ _ _ _ (expr_low key at) (expr_low value at)) (pairs_low rest) some)
