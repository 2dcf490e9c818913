-- Moved expressions have the moved tokens.
use Rattle.std.proofs.Common.{◌≡◌, List, ◌++◌, map, refl, sym, ap, ◌∙◌}
use Rattle.std.specs.Prelude.{codes}
use Rattle.std.proofs.lemmas.List.{map-append}
use Rattle.py_lines.specs.declared.parts.Token.{Token}
use Rattle.py_expressions.specs.Concrete.{CmpSign, equal, unequal, less, less_equal, greater, greater_equal, within, not_within, same, not_same, Expr, plain_expr, choice, Or, plain_or, or_more, And, plain_and, and_more, Not, plain_not, not_of, Cmp, plain_cmp, compared, Sum, plain_sum, sum_more, Term, plain_term, term_more, Unary, plain_unary, signed, Prim, plain_prim, call, part, attribute, Index, one_index, range_index, Bound, no_bound, bound, Atom, name, number, text, none, true_word, false_word, empty_tuple, group, list, dict, Exprs, one_expr, several, Rest, end_rest, last_rest, more_rest, Items, no_items, items, Pairs, no_pairs, last_pair, more_pairs}
use Rattle.py_expressions.specs.Tokens.{keyword, sign, word, add_sign, mul_sign, cmp_tokens, expr_tokens, or_tokens, and_tokens, not_tokens, cmp_tokens_of, sum_tokens, term_tokens, unary_tokens, prim_tokens, index_tokens, bound_tokens, atom_tokens, exprs_tokens, rest_tokens, items_tokens, pairs_tokens}
use Rattle.slice_text.proofs.Moved.{Move, moved_spot, moved_token, moved_cmp_sign, moved_expr, moved_or, moved_and, moved_not, moved_cmp, moved_sum, moved_term, moved_unary, moved_prim, moved_index, moved_bound, moved_atom, moved_exprs, moved_rest, moved_items, moved_pairs}

-- two parts, one behind the other
pub both : (m : Move) (a b a' b' : List Token) → a' ≡ map (moved_token m) a → b' ≡ map (moved_token m) b → a' ++ b' ≡ map (moved_token m) (a ++ b)
both m a b a' b' one two = ap (λ (x : List Token). x ++ b') one ∙ (ap (λ (x : List Token). map (moved_token m) a ++ x) two ∙ sym (map-append (moved_token m) a b))

pub cmp_tokens_moved : (m : Move) (x : CmpSign) → cmp_tokens (moved_cmp_sign m x) ≡ map (moved_token m) (cmp_tokens x)
cmp_tokens_moved m (equal at) = refl
cmp_tokens_moved m (unequal at) = refl
cmp_tokens_moved m (less at) = refl
cmp_tokens_moved m (less_equal at) = refl
cmp_tokens_moved m (greater at) = refl
cmp_tokens_moved m (greater_equal at) = refl
cmp_tokens_moved m (within at) = refl
cmp_tokens_moved m (not_within not_at in_at) = both m (keyword (codes "not") not_at) (keyword (codes "in") in_at) (keyword (codes "not") (moved_spot m not_at)) (keyword (codes "in") (moved_spot m in_at)) refl refl
cmp_tokens_moved m (same at) = refl
cmp_tokens_moved m (not_same is_at not_at) = both m (keyword (codes "is") is_at) (keyword (codes "not") not_at) (keyword (codes "is") (moved_spot m is_at)) (keyword (codes "not") (moved_spot m not_at)) refl refl

mutual
  pub expr_tokens_moved : (m : Move) (x : Expr) → expr_tokens (moved_expr m x) ≡ map (moved_token m) (expr_tokens x)
  expr_tokens_moved m (plain_expr e) = or_tokens_moved m e
  expr_tokens_moved m (choice chosen if_word test else_word other) = both m (or_tokens chosen) (keyword (codes "if") if_word ++ (or_tokens test ++ (keyword (codes "else") else_word ++ expr_tokens other))) (or_tokens (moved_or m chosen)) (keyword (codes "if") (moved_spot m if_word) ++ (or_tokens (moved_or m test) ++ (keyword (codes "else") (moved_spot m else_word) ++ expr_tokens (moved_expr m other)))) (or_tokens_moved m chosen) (both m (keyword (codes "if") if_word) (or_tokens test ++ (keyword (codes "else") else_word ++ expr_tokens other)) (keyword (codes "if") (moved_spot m if_word)) (or_tokens (moved_or m test) ++ (keyword (codes "else") (moved_spot m else_word) ++ expr_tokens (moved_expr m other))) refl (both m (or_tokens test) (keyword (codes "else") else_word ++ expr_tokens other) (or_tokens (moved_or m test)) (keyword (codes "else") (moved_spot m else_word) ++ expr_tokens (moved_expr m other)) (or_tokens_moved m test) (both m (keyword (codes "else") else_word) (expr_tokens other) (keyword (codes "else") (moved_spot m else_word)) (expr_tokens (moved_expr m other)) refl (expr_tokens_moved m other))))

  pub or_tokens_moved : (m : Move) (x : Or) → or_tokens (moved_or m x) ≡ map (moved_token m) (or_tokens x)
  or_tokens_moved m (plain_or e) = and_tokens_moved m e
  or_tokens_moved m (or_more left at right) = both m (or_tokens left) (keyword (codes "or") at ++ and_tokens right) (or_tokens (moved_or m left)) (keyword (codes "or") (moved_spot m at) ++ and_tokens (moved_and m right)) (or_tokens_moved m left) (both m (keyword (codes "or") at) (and_tokens right) (keyword (codes "or") (moved_spot m at)) (and_tokens (moved_and m right)) refl (and_tokens_moved m right))

  pub and_tokens_moved : (m : Move) (x : And) → and_tokens (moved_and m x) ≡ map (moved_token m) (and_tokens x)
  and_tokens_moved m (plain_and e) = not_tokens_moved m e
  and_tokens_moved m (and_more left at right) = both m (and_tokens left) (keyword (codes "and") at ++ not_tokens right) (and_tokens (moved_and m left)) (keyword (codes "and") (moved_spot m at) ++ not_tokens (moved_not m right)) (and_tokens_moved m left) (both m (keyword (codes "and") at) (not_tokens right) (keyword (codes "and") (moved_spot m at)) (not_tokens (moved_not m right)) refl (not_tokens_moved m right))

  pub not_tokens_moved : (m : Move) (x : Not) → not_tokens (moved_not m x) ≡ map (moved_token m) (not_tokens x)
  not_tokens_moved m (plain_not e) = cmp_tokens_of_moved m e
  not_tokens_moved m (not_of at e) = both m (keyword (codes "not") at) (not_tokens e) (keyword (codes "not") (moved_spot m at)) (not_tokens (moved_not m e)) refl (not_tokens_moved m e)

  pub cmp_tokens_of_moved : (m : Move) (x : Cmp) → cmp_tokens_of (moved_cmp m x) ≡ map (moved_token m) (cmp_tokens_of x)
  cmp_tokens_of_moved m (plain_cmp e) = sum_tokens_moved m e
  cmp_tokens_of_moved m (compared left op right) = both m (sum_tokens left) (cmp_tokens op ++ sum_tokens right) (sum_tokens (moved_sum m left)) (cmp_tokens (moved_cmp_sign m op) ++ sum_tokens (moved_sum m right)) (sum_tokens_moved m left) (both m (cmp_tokens op) (sum_tokens right) (cmp_tokens (moved_cmp_sign m op)) (sum_tokens (moved_sum m right)) (cmp_tokens_moved m op) (sum_tokens_moved m right))

  pub sum_tokens_moved : (m : Move) (x : Sum) → sum_tokens (moved_sum m x) ≡ map (moved_token m) (sum_tokens x)
  sum_tokens_moved m (plain_sum e) = term_tokens_moved m e
  sum_tokens_moved m (sum_more left at op right) = both m (sum_tokens left) (sign (add_sign op) at ++ term_tokens right) (sum_tokens (moved_sum m left)) (sign (add_sign op) (moved_spot m at) ++ term_tokens (moved_term m right)) (sum_tokens_moved m left) (both m (sign (add_sign op) at) (term_tokens right) (sign (add_sign op) (moved_spot m at)) (term_tokens (moved_term m right)) refl (term_tokens_moved m right))

  pub term_tokens_moved : (m : Move) (x : Term) → term_tokens (moved_term m x) ≡ map (moved_token m) (term_tokens x)
  term_tokens_moved m (plain_term e) = unary_tokens_moved m e
  term_tokens_moved m (term_more left at op right) = both m (term_tokens left) (sign (mul_sign op) at ++ unary_tokens right) (term_tokens (moved_term m left)) (sign (mul_sign op) (moved_spot m at) ++ unary_tokens (moved_unary m right)) (term_tokens_moved m left) (both m (sign (mul_sign op) at) (unary_tokens right) (sign (mul_sign op) (moved_spot m at)) (unary_tokens (moved_unary m right)) refl (unary_tokens_moved m right))

  pub unary_tokens_moved : (m : Move) (x : Unary) → unary_tokens (moved_unary m x) ≡ map (moved_token m) (unary_tokens x)
  unary_tokens_moved m (plain_unary e) = prim_tokens_moved m e
  unary_tokens_moved m (signed at op e) = both m (sign (add_sign op) at) (unary_tokens e) (sign (add_sign op) (moved_spot m at)) (unary_tokens (moved_unary m e)) refl (unary_tokens_moved m e)

  pub prim_tokens_moved : (m : Move) (x : Prim) → prim_tokens (moved_prim m x) ≡ map (moved_token m) (prim_tokens x)
  prim_tokens_moved m (plain_prim e) = atom_tokens_moved m e
  prim_tokens_moved m (call callee opening arguments closing) = both m (prim_tokens callee) (sign (codes "(") opening ++ (items_tokens arguments ++ sign (codes ")") closing)) (prim_tokens (moved_prim m callee)) (sign (codes "(") (moved_spot m opening) ++ (items_tokens (moved_items m arguments) ++ sign (codes ")") (moved_spot m closing))) (prim_tokens_moved m callee) (both m (sign (codes "(") opening) (items_tokens arguments ++ sign (codes ")") closing) (sign (codes "(") (moved_spot m opening)) (items_tokens (moved_items m arguments) ++ sign (codes ")") (moved_spot m closing)) refl (both m (items_tokens arguments) (sign (codes ")") closing) (items_tokens (moved_items m arguments)) (sign (codes ")") (moved_spot m closing)) (items_tokens_moved m arguments) refl))
  prim_tokens_moved m (part e opening index closing) = both m (prim_tokens e) (sign (codes "[") opening ++ (index_tokens index ++ sign (codes "]") closing)) (prim_tokens (moved_prim m e)) (sign (codes "[") (moved_spot m opening) ++ (index_tokens (moved_index m index) ++ sign (codes "]") (moved_spot m closing))) (prim_tokens_moved m e) (both m (sign (codes "[") opening) (index_tokens index ++ sign (codes "]") closing) (sign (codes "[") (moved_spot m opening)) (index_tokens (moved_index m index) ++ sign (codes "]") (moved_spot m closing)) refl (both m (index_tokens index) (sign (codes "]") closing) (index_tokens (moved_index m index)) (sign (codes "]") (moved_spot m closing)) (index_tokens_moved m index) refl))
  prim_tokens_moved m (attribute e dot name_at bytes) = both m (prim_tokens e) (sign (codes ".") dot ++ word bytes name_at) (prim_tokens (moved_prim m e)) (sign (codes ".") (moved_spot m dot) ++ word bytes (moved_spot m name_at)) (prim_tokens_moved m e) (both m (sign (codes ".") dot) (word bytes name_at) (sign (codes ".") (moved_spot m dot)) (word bytes (moved_spot m name_at)) refl refl)

  pub index_tokens_moved : (m : Move) (x : Index) → index_tokens (moved_index m x) ≡ map (moved_token m) (index_tokens x)
  index_tokens_moved m (one_index e) = exprs_tokens_moved m e
  index_tokens_moved m (range_index low colon high) = both m (bound_tokens low) (sign (codes ":") colon ++ bound_tokens high) (bound_tokens (moved_bound m low)) (sign (codes ":") (moved_spot m colon) ++ bound_tokens (moved_bound m high)) (bound_tokens_moved m low) (both m (sign (codes ":") colon) (bound_tokens high) (sign (codes ":") (moved_spot m colon)) (bound_tokens (moved_bound m high)) refl (bound_tokens_moved m high))

  pub bound_tokens_moved : (m : Move) (x : Bound) → bound_tokens (moved_bound m x) ≡ map (moved_token m) (bound_tokens x)
  bound_tokens_moved m no_bound = refl
  bound_tokens_moved m (bound e) = expr_tokens_moved m e

  pub atom_tokens_moved : (m : Move) (x : Atom) → atom_tokens (moved_atom m x) ≡ map (moved_token m) (atom_tokens x)
  atom_tokens_moved m (name at bytes) = refl
  atom_tokens_moved m (number at n) = refl
  atom_tokens_moved m (text at bytes) = refl
  atom_tokens_moved m (none at) = refl
  atom_tokens_moved m (true_word at) = refl
  atom_tokens_moved m (false_word at) = refl
  atom_tokens_moved m (empty_tuple opening closing) = both m (sign (codes "(") opening) (sign (codes ")") closing) (sign (codes "(") (moved_spot m opening)) (sign (codes ")") (moved_spot m closing)) refl refl
  atom_tokens_moved m (group opening e closing) = both m (sign (codes "(") opening) (exprs_tokens e ++ sign (codes ")") closing) (sign (codes "(") (moved_spot m opening)) (exprs_tokens (moved_exprs m e) ++ sign (codes ")") (moved_spot m closing)) refl (both m (exprs_tokens e) (sign (codes ")") closing) (exprs_tokens (moved_exprs m e)) (sign (codes ")") (moved_spot m closing)) (exprs_tokens_moved m e) refl)
  atom_tokens_moved m (list opening e closing) = both m (sign (codes "[") opening) (items_tokens e ++ sign (codes "]") closing) (sign (codes "[") (moved_spot m opening)) (items_tokens (moved_items m e) ++ sign (codes "]") (moved_spot m closing)) refl (both m (items_tokens e) (sign (codes "]") closing) (items_tokens (moved_items m e)) (sign (codes "]") (moved_spot m closing)) (items_tokens_moved m e) refl)
  atom_tokens_moved m (dict opening pairs closing) = both m (sign (codes "{") opening) (pairs_tokens pairs ++ sign (codes "}") closing) (sign (codes "{") (moved_spot m opening)) (pairs_tokens (moved_pairs m pairs) ++ sign (codes "}") (moved_spot m closing)) refl (both m (pairs_tokens pairs) (sign (codes "}") closing) (pairs_tokens (moved_pairs m pairs)) (sign (codes "}") (moved_spot m closing)) (pairs_tokens_moved m pairs) refl)

  pub exprs_tokens_moved : (m : Move) (x : Exprs) → exprs_tokens (moved_exprs m x) ≡ map (moved_token m) (exprs_tokens x)
  exprs_tokens_moved m (one_expr e) = expr_tokens_moved m e
  exprs_tokens_moved m (several e comma rest) = both m (expr_tokens e) (sign (codes ",") comma ++ rest_tokens rest) (expr_tokens (moved_expr m e)) (sign (codes ",") (moved_spot m comma) ++ rest_tokens (moved_rest m rest)) (expr_tokens_moved m e) (both m (sign (codes ",") comma) (rest_tokens rest) (sign (codes ",") (moved_spot m comma)) (rest_tokens (moved_rest m rest)) refl (rest_tokens_moved m rest))

  pub rest_tokens_moved : (m : Move) (x : Rest) → rest_tokens (moved_rest m x) ≡ map (moved_token m) (rest_tokens x)
  rest_tokens_moved m end_rest = refl
  rest_tokens_moved m (last_rest e) = expr_tokens_moved m e
  rest_tokens_moved m (more_rest e comma rest) = both m (expr_tokens e) (sign (codes ",") comma ++ rest_tokens rest) (expr_tokens (moved_expr m e)) (sign (codes ",") (moved_spot m comma) ++ rest_tokens (moved_rest m rest)) (expr_tokens_moved m e) (both m (sign (codes ",") comma) (rest_tokens rest) (sign (codes ",") (moved_spot m comma)) (rest_tokens (moved_rest m rest)) refl (rest_tokens_moved m rest))

  pub items_tokens_moved : (m : Move) (x : Items) → items_tokens (moved_items m x) ≡ map (moved_token m) (items_tokens x)
  items_tokens_moved m no_items = refl
  items_tokens_moved m (items e) = exprs_tokens_moved m e

  pub pairs_tokens_moved : (m : Move) (x : Pairs) → pairs_tokens (moved_pairs m x) ≡ map (moved_token m) (pairs_tokens x)
  pairs_tokens_moved m no_pairs = refl
  pairs_tokens_moved m (last_pair key colon value) = both m (expr_tokens key) (sign (codes ":") colon ++ expr_tokens value) (expr_tokens (moved_expr m key)) (sign (codes ":") (moved_spot m colon) ++ expr_tokens (moved_expr m value)) (expr_tokens_moved m key) (both m (sign (codes ":") colon) (expr_tokens value) (sign (codes ":") (moved_spot m colon)) (expr_tokens (moved_expr m value)) refl (expr_tokens_moved m value))
  pairs_tokens_moved m (more_pairs key colon value comma rest) = both m (expr_tokens key) (sign (codes ":") colon ++ (expr_tokens value ++ (sign (codes ",") comma ++ pairs_tokens rest))) (expr_tokens (moved_expr m key)) (sign (codes ":") (moved_spot m colon) ++ (expr_tokens (moved_expr m value) ++ (sign (codes ",") (moved_spot m comma) ++ pairs_tokens (moved_pairs m rest)))) (expr_tokens_moved m key) (both m (sign (codes ":") colon) (expr_tokens value ++ (sign (codes ",") comma ++ pairs_tokens rest)) (sign (codes ":") (moved_spot m colon)) (expr_tokens (moved_expr m value) ++ (sign (codes ",") (moved_spot m comma) ++ pairs_tokens (moved_pairs m rest))) refl (both m (expr_tokens value) (sign (codes ",") comma ++ pairs_tokens rest) (expr_tokens (moved_expr m value)) (sign (codes ",") (moved_spot m comma) ++ pairs_tokens (moved_pairs m rest)) (expr_tokens_moved m value) (both m (sign (codes ",") comma) (pairs_tokens rest) (sign (codes ",") (moved_spot m comma)) (pairs_tokens (moved_pairs m rest)) refl (pairs_tokens_moved m rest))))
