-- The tokens of expressions and of simple statements leave the brackets that are open as they are.
use Rattle.std.proofs.Common.{◌≡◌, ℕ, ◌==◌, List, [], ◌∷◌, ◌++◌, Option, None, Some, if◌then◌else◌, refl, ap, ◌∙◌}
use Rattle.std.specs.Prelude.{codes, option_and_then, ◌||◌}
use Rattle.std.proofs.lemmas.List.{append_assoc}
use Rattle.py_lines.specs.declared.parts.Token.{Token}
use Rattle.py_lines.specs.declared.parts.TokenKind.{TokenKind}
use Rattle.py_lines.specs.declared.parts.TokenKind.TheVariants.{Sign}
use Rattle.py_expressions.specs.Concrete.{Spot, AddSign, plus, minus, MulSign, times, floor, modulo, CmpSign, equal, unequal, less, less_equal, greater, greater_equal, within, not_within, same, not_same, Expr, plain_expr, choice, Or, plain_or, or_more, And, plain_and, and_more, Not, plain_not, not_of, Cmp, plain_cmp, compared, Sum, plain_sum, sum_more, Term, plain_term, term_more, Unary, plain_unary, signed, Prim, plain_prim, call, part, attribute, Index, one_index, range_index, Bound, no_bound, bound, Atom, name, number, text, none, true_word, false_word, empty_tuple, group, list, dict, Exprs, one_expr, several, Rest, end_rest, last_rest, more_rest, Items, no_items, items, Pairs, no_pairs, last_pair, more_pairs}
use Rattle.py_expressions.specs.Tokens.{keyword, sign, word, add_sign, mul_sign, cmp_tokens, expr_tokens, or_tokens, and_tokens, not_tokens, cmp_tokens_of, sum_tokens, term_tokens, unary_tokens, prim_tokens, index_tokens, bound_tokens, atom_tokens, exprs_tokens, rest_tokens, items_tokens, pairs_tokens}

-- the innermost open bracket is closed by this sign
abbrev pub close : ℕ → List ℕ → Option (List ℕ)
close n [] = None
close n (inner ∷ opened) = if inner == n then Some opened else None

-- the signs that close what is open behind this token
abbrev pub after_kind : TokenKind → List ℕ → Option (List ℕ)
after_kind (Sign n) opened = if n == 0 then Some (1 ∷ opened) else (if n == 2 then Some (3 ∷ opened) else (if n == 4 then Some (5 ∷ opened) else (if (n == 1) || (n == 3) || (n == 5) then close n opened else Some opened)))
after_kind kind opened = Some opened

abbrev pub after : List Token → List ℕ → Option (List ℕ)
after [] opened = Some opened
after (t ∷ ts) opened = option_and_then (λ now. after ts now) (after_kind t.kind opened)

abbrev pub Passes : List Token → Type 0
Passes ts = (more : List Token) (opened : List ℕ) → after (ts ++ more) opened ≡ after more opened

pub both : (a b : List Token) → Passes a → Passes b → Passes (a ++ b)
both a b p q more opened = ap (λ (ts : List Token). after ts opened) (append_assoc a b more) ∙ (p (b ++ more) opened ∙ q more opened)

pub round : (o c : Spot) (x : List Token) → Passes x → Passes (sign (codes "(") o ++ (x ++ sign (codes ")") c))
round o c x p more opened = ap (λ (ts : List Token). after ts (1 ∷ opened)) (append_assoc x (sign (codes ")") c) more) ∙ p (sign (codes ")") c ++ more) (1 ∷ opened)

pub square : (o c : Spot) (x : List Token) → Passes x → Passes (sign (codes "[") o ++ (x ++ sign (codes "]") c))
square o c x p more opened = ap (λ (ts : List Token). after ts (3 ∷ opened)) (append_assoc x (sign (codes "]") c) more) ∙ p (sign (codes "]") c ++ more) (3 ∷ opened)

pub curly : (o c : Spot) (x : List Token) → Passes x → Passes (sign (codes "{") o ++ (x ++ sign (codes "}") c))
curly o c x p more opened = ap (λ (ts : List Token). after ts (5 ∷ opened)) (append_assoc x (sign (codes "}") c) more) ∙ p (sign (codes "}") c ++ more) (5 ∷ opened)

add_passes : (op : AddSign) (at : Spot) → Passes (sign (add_sign op) at)
add_passes plus at = λ rest st. refl
add_passes minus at = λ rest st. refl

mul_passes : (op : MulSign) (at : Spot) → Passes (sign (mul_sign op) at)
mul_passes times at = λ rest st. refl
mul_passes floor at = λ rest st. refl
mul_passes modulo at = λ rest st. refl

pub cmp_tokens_passes : (x : CmpSign) → Passes (cmp_tokens x)
cmp_tokens_passes (equal at) = λ rest st. refl
cmp_tokens_passes (unequal at) = λ rest st. refl
cmp_tokens_passes (less at) = λ rest st. refl
cmp_tokens_passes (less_equal at) = λ rest st. refl
cmp_tokens_passes (greater at) = λ rest st. refl
cmp_tokens_passes (greater_equal at) = λ rest st. refl
cmp_tokens_passes (within at) = λ rest st. refl
cmp_tokens_passes (not_within not_at in_at) = both (keyword (codes "not") not_at) (keyword (codes "in") in_at) (λ rest st. refl) (λ rest st. refl)
cmp_tokens_passes (same at) = λ rest st. refl
cmp_tokens_passes (not_same is_at not_at) = both (keyword (codes "is") is_at) (keyword (codes "not") not_at) (λ rest st. refl) (λ rest st. refl)

mutual
  pub expr_tokens_passes : (x : Expr) → Passes (expr_tokens x)
  expr_tokens_passes (plain_expr e) = or_tokens_passes e
  expr_tokens_passes (choice chosen if_word test else_word other) = both (or_tokens chosen) (keyword (codes "if") if_word ++ (or_tokens test ++ (keyword (codes "else") else_word ++ expr_tokens other))) (or_tokens_passes chosen) (both (keyword (codes "if") if_word) (or_tokens test ++ (keyword (codes "else") else_word ++ expr_tokens other)) (λ rest st. refl) (both (or_tokens test) (keyword (codes "else") else_word ++ expr_tokens other) (or_tokens_passes test) (both (keyword (codes "else") else_word) (expr_tokens other) (λ rest st. refl) (expr_tokens_passes other))))

  pub or_tokens_passes : (x : Or) → Passes (or_tokens x)
  or_tokens_passes (plain_or e) = and_tokens_passes e
  or_tokens_passes (or_more left at right) = both (or_tokens left) (keyword (codes "or") at ++ and_tokens right) (or_tokens_passes left) (both (keyword (codes "or") at) (and_tokens right) (λ rest st. refl) (and_tokens_passes right))

  pub and_tokens_passes : (x : And) → Passes (and_tokens x)
  and_tokens_passes (plain_and e) = not_tokens_passes e
  and_tokens_passes (and_more left at right) = both (and_tokens left) (keyword (codes "and") at ++ not_tokens right) (and_tokens_passes left) (both (keyword (codes "and") at) (not_tokens right) (λ rest st. refl) (not_tokens_passes right))

  pub not_tokens_passes : (x : Not) → Passes (not_tokens x)
  not_tokens_passes (plain_not e) = cmp_tokens_of_passes e
  not_tokens_passes (not_of at e) = both (keyword (codes "not") at) (not_tokens e) (λ rest st. refl) (not_tokens_passes e)

  pub cmp_tokens_of_passes : (x : Cmp) → Passes (cmp_tokens_of x)
  cmp_tokens_of_passes (plain_cmp e) = sum_tokens_passes e
  cmp_tokens_of_passes (compared left op right) = both (sum_tokens left) (cmp_tokens op ++ sum_tokens right) (sum_tokens_passes left) (both (cmp_tokens op) (sum_tokens right) (cmp_tokens_passes op) (sum_tokens_passes right))

  pub sum_tokens_passes : (x : Sum) → Passes (sum_tokens x)
  sum_tokens_passes (plain_sum e) = term_tokens_passes e
  sum_tokens_passes (sum_more left at op right) = both (sum_tokens left) (sign (add_sign op) at ++ term_tokens right) (sum_tokens_passes left) (both (sign (add_sign op) at) (term_tokens right) (add_passes op at) (term_tokens_passes right))

  pub term_tokens_passes : (x : Term) → Passes (term_tokens x)
  term_tokens_passes (plain_term e) = unary_tokens_passes e
  term_tokens_passes (term_more left at op right) = both (term_tokens left) (sign (mul_sign op) at ++ unary_tokens right) (term_tokens_passes left) (both (sign (mul_sign op) at) (unary_tokens right) (mul_passes op at) (unary_tokens_passes right))

  pub unary_tokens_passes : (x : Unary) → Passes (unary_tokens x)
  unary_tokens_passes (plain_unary e) = prim_tokens_passes e
  unary_tokens_passes (signed at op e) = both (sign (add_sign op) at) (unary_tokens e) (add_passes op at) (unary_tokens_passes e)

  pub prim_tokens_passes : (x : Prim) → Passes (prim_tokens x)
  prim_tokens_passes (plain_prim e) = atom_tokens_passes e
  prim_tokens_passes (call callee opening arguments closing) = both (prim_tokens callee) (sign (codes "(") opening ++ (items_tokens arguments ++ sign (codes ")") closing)) (prim_tokens_passes callee) (round opening closing (items_tokens arguments) (items_tokens_passes arguments))
  prim_tokens_passes (part e opening index closing) = both (prim_tokens e) (sign (codes "[") opening ++ (index_tokens index ++ sign (codes "]") closing)) (prim_tokens_passes e) (square opening closing (index_tokens index) (index_tokens_passes index))
  prim_tokens_passes (attribute e dot name_at bytes) = both (prim_tokens e) (sign (codes ".") dot ++ word bytes name_at) (prim_tokens_passes e) (both (sign (codes ".") dot) (word bytes name_at) (λ rest st. refl) (λ rest st. refl))

  pub index_tokens_passes : (x : Index) → Passes (index_tokens x)
  index_tokens_passes (one_index e) = exprs_tokens_passes e
  index_tokens_passes (range_index low colon high) = both (bound_tokens low) (sign (codes ":") colon ++ bound_tokens high) (bound_tokens_passes low) (both (sign (codes ":") colon) (bound_tokens high) (λ rest st. refl) (bound_tokens_passes high))

  pub bound_tokens_passes : (x : Bound) → Passes (bound_tokens x)
  bound_tokens_passes no_bound = λ rest st. refl
  bound_tokens_passes (bound e) = expr_tokens_passes e

  pub atom_tokens_passes : (x : Atom) → Passes (atom_tokens x)
  atom_tokens_passes (name at bytes) = λ rest st. refl
  atom_tokens_passes (number at n) = λ rest st. refl
  atom_tokens_passes (text at bytes) = λ rest st. refl
  atom_tokens_passes (none at) = λ rest st. refl
  atom_tokens_passes (true_word at) = λ rest st. refl
  atom_tokens_passes (false_word at) = λ rest st. refl
  atom_tokens_passes (empty_tuple opening closing) = λ rest st. refl
  atom_tokens_passes (group opening e closing) = round opening closing (exprs_tokens e) (exprs_tokens_passes e)
  atom_tokens_passes (list opening e closing) = square opening closing (items_tokens e) (items_tokens_passes e)
  atom_tokens_passes (dict opening pairs closing) = curly opening closing (pairs_tokens pairs) (pairs_tokens_passes pairs)

  pub exprs_tokens_passes : (x : Exprs) → Passes (exprs_tokens x)
  exprs_tokens_passes (one_expr e) = expr_tokens_passes e
  exprs_tokens_passes (several e comma rest) = both (expr_tokens e) (sign (codes ",") comma ++ rest_tokens rest) (expr_tokens_passes e) (both (sign (codes ",") comma) (rest_tokens rest) (λ rest st. refl) (rest_tokens_passes rest))

  pub rest_tokens_passes : (x : Rest) → Passes (rest_tokens x)
  rest_tokens_passes end_rest = λ rest st. refl
  rest_tokens_passes (last_rest e) = expr_tokens_passes e
  rest_tokens_passes (more_rest e comma rest) = both (expr_tokens e) (sign (codes ",") comma ++ rest_tokens rest) (expr_tokens_passes e) (both (sign (codes ",") comma) (rest_tokens rest) (λ rest st. refl) (rest_tokens_passes rest))

  pub items_tokens_passes : (x : Items) → Passes (items_tokens x)
  items_tokens_passes no_items = λ rest st. refl
  items_tokens_passes (items e) = exprs_tokens_passes e

  pub pairs_tokens_passes : (x : Pairs) → Passes (pairs_tokens x)
  pairs_tokens_passes no_pairs = λ rest st. refl
  pairs_tokens_passes (last_pair key colon value) = both (expr_tokens key) (sign (codes ":") colon ++ expr_tokens value) (expr_tokens_passes key) (both (sign (codes ":") colon) (expr_tokens value) (λ rest st. refl) (expr_tokens_passes value))
  pairs_tokens_passes (more_pairs key colon value comma rest) = both (expr_tokens key) (sign (codes ":") colon ++ (expr_tokens value ++ (sign (codes ",") comma ++ pairs_tokens rest))) (expr_tokens_passes key) (both (sign (codes ":") colon) (expr_tokens value ++ (sign (codes ",") comma ++ pairs_tokens rest)) (λ rest st. refl) (both (expr_tokens value) (sign (codes ",") comma ++ pairs_tokens rest) (expr_tokens_passes value) (both (sign (codes ",") comma) (pairs_tokens rest) (λ rest st. refl) (pairs_tokens_passes rest))))
