-- Moved expressions have the same trees.
use Rattle.std.proofs.Common.{◌≡◌, refl}
use Rattle.py_expressions.specs.Concrete.{CmpSign, equal, unequal, less, less_equal, greater, greater_equal, within, not_within, same, not_same, Expr, plain_expr, choice, Or, plain_or, or_more, And, plain_and, and_more, Not, plain_not, not_of, Cmp, plain_cmp, compared, Sum, plain_sum, sum_more, Term, plain_term, term_more, Unary, plain_unary, signed, Prim, plain_prim, call, part, attribute, one_index, range_index, Bound, no_bound, bound, Atom, name, number, text, none, true_word, false_word, empty_tuple, group, list, dict, Exprs, one_expr, several, Rest, end_rest, last_rest, more_rest, Items, no_items, items, Pairs, no_pairs, last_pair, more_pairs}
use Rattle.py_expressions.specs.Trees.{cmp_op, cmp_at, expr_tree, or_tree, and_tree, not_tree, cmp_tree, sum_tree, term_tree, unary_tree, prim_tree, bound_tree, atom_tree, exprs_tree, rest_tree, items_tree, pairs_tree}
use Rattle.slice_text.proofs.Moved.{Move, moved_cmp_sign, moved_expr, moved_or, moved_and, moved_not, moved_cmp, moved_sum, moved_term, moved_unary, moved_prim, moved_bound, moved_atom, moved_exprs, moved_rest, moved_items, moved_pairs}

pub cmp_op_same : (m : Move) (x : CmpSign) → cmp_op (moved_cmp_sign m x) ≡ cmp_op x
cmp_op_same m (equal at) = refl
cmp_op_same m (unequal at) = refl
cmp_op_same m (less at) = refl
cmp_op_same m (less_equal at) = refl
cmp_op_same m (greater at) = refl
cmp_op_same m (greater_equal at) = refl
cmp_op_same m (within at) = refl
cmp_op_same m (not_within not_at in_at) = refl
cmp_op_same m (same at) = refl
cmp_op_same m (not_same is_at not_at) = refl

pub cmp_at_same : (m : Move) (x : CmpSign) → cmp_at (moved_cmp_sign m x) ≡ cmp_at x
cmp_at_same m (equal at) = refl
cmp_at_same m (unequal at) = refl
cmp_at_same m (less at) = refl
cmp_at_same m (less_equal at) = refl
cmp_at_same m (greater at) = refl
cmp_at_same m (greater_equal at) = refl
cmp_at_same m (within at) = refl
cmp_at_same m (not_within not_at in_at) = refl
cmp_at_same m (same at) = refl
cmp_at_same m (not_same is_at not_at) = refl

mutual
  pub expr_tree_same : (m : Move) (x : Expr) → expr_tree (moved_expr m x) ≡ expr_tree x
  expr_tree_same m (plain_expr e) = or_tree_same m e
  expr_tree_same m (choice chosen if_word test else_word other) = rw (expr_tree_same m other, or_tree_same m test, or_tree_same m chosen)

  pub or_tree_same : (m : Move) (x : Or) → or_tree (moved_or m x) ≡ or_tree x
  or_tree_same m (plain_or e) = and_tree_same m e
  or_tree_same m (or_more left at right) = rw (or_tree_same m left, and_tree_same m right)

  pub and_tree_same : (m : Move) (x : And) → and_tree (moved_and m x) ≡ and_tree x
  and_tree_same m (plain_and e) = not_tree_same m e
  and_tree_same m (and_more left at right) = rw (and_tree_same m left, not_tree_same m right)

  pub not_tree_same : (m : Move) (x : Not) → not_tree (moved_not m x) ≡ not_tree x
  not_tree_same m (plain_not e) = cmp_tree_same m e
  not_tree_same m (not_of at e) = rw (not_tree_same m e)

  pub cmp_tree_same : (m : Move) (x : Cmp) → cmp_tree (moved_cmp m x) ≡ cmp_tree x
  cmp_tree_same m (plain_cmp e) = sum_tree_same m e
  cmp_tree_same m (compared left op right) = rw (cmp_op_same m op, cmp_at_same m op, sum_tree_same m left, sum_tree_same m right)

  pub sum_tree_same : (m : Move) (x : Sum) → sum_tree (moved_sum m x) ≡ sum_tree x
  sum_tree_same m (plain_sum e) = term_tree_same m e
  sum_tree_same m (sum_more left at op right) = rw (sum_tree_same m left, term_tree_same m right)

  pub term_tree_same : (m : Move) (x : Term) → term_tree (moved_term m x) ≡ term_tree x
  term_tree_same m (plain_term e) = unary_tree_same m e
  term_tree_same m (term_more left at op right) = rw (term_tree_same m left, unary_tree_same m right)

  pub unary_tree_same : (m : Move) (x : Unary) → unary_tree (moved_unary m x) ≡ unary_tree x
  unary_tree_same m (plain_unary e) = prim_tree_same m e
  unary_tree_same m (signed at op e) = rw (unary_tree_same m e)

  pub prim_tree_same : (m : Move) (x : Prim) → prim_tree (moved_prim m x) ≡ prim_tree x
  prim_tree_same m (plain_prim e) = atom_tree_same m e
  prim_tree_same m (call callee opening arguments closing) = rw (prim_tree_same m callee, items_tree_same m arguments)
  prim_tree_same m (part e opening (one_index index) closing) = rw (prim_tree_same m e, exprs_tree_same m index)
  prim_tree_same m (part e opening (range_index low colon high) closing) = rw (prim_tree_same m e, bound_tree_same m low, bound_tree_same m high)
  prim_tree_same m (attribute e dot name_at bytes) = rw (prim_tree_same m e)

  pub bound_tree_same : (m : Move) (x : Bound) → bound_tree (moved_bound m x) ≡ bound_tree x
  bound_tree_same m no_bound = refl
  bound_tree_same m (bound e) = rw (expr_tree_same m e)

  pub atom_tree_same : (m : Move) (x : Atom) → atom_tree (moved_atom m x) ≡ atom_tree x
  atom_tree_same m (name at bytes) = refl
  atom_tree_same m (number at n) = refl
  atom_tree_same m (text at bytes) = refl
  atom_tree_same m (none at) = refl
  atom_tree_same m (true_word at) = refl
  atom_tree_same m (false_word at) = refl
  atom_tree_same m (empty_tuple opening closing) = refl
  atom_tree_same m (group opening e closing) = exprs_tree_same m e
  atom_tree_same m (list opening e closing) = rw (items_tree_same m e)
  atom_tree_same m (dict opening pairs closing) = rw (pairs_tree_same m pairs)

  pub exprs_tree_same : (m : Move) (x : Exprs) → exprs_tree (moved_exprs m x) ≡ exprs_tree x
  exprs_tree_same m (one_expr e) = expr_tree_same m e
  exprs_tree_same m (several e comma rest) = rw (expr_tree_same m e, rest_tree_same m rest)

  pub rest_tree_same : (m : Move) (x : Rest) → rest_tree (moved_rest m x) ≡ rest_tree x
  rest_tree_same m end_rest = refl
  rest_tree_same m (last_rest e) = rw (expr_tree_same m e)
  rest_tree_same m (more_rest e comma rest) = rw (expr_tree_same m e, rest_tree_same m rest)

  pub items_tree_same : (m : Move) (x : Items) → items_tree (moved_items m x) ≡ items_tree x
  items_tree_same m no_items = refl
  items_tree_same m (items (one_expr e)) = rw (expr_tree_same m e)
  items_tree_same m (items (several e comma rest)) = rw (expr_tree_same m e, rest_tree_same m rest)

  pub pairs_tree_same : (m : Move) (x : Pairs) → pairs_tree (moved_pairs m x) ≡ pairs_tree x
  pairs_tree_same m no_pairs = refl
  pairs_tree_same m (last_pair key colon value) = rw (expr_tree_same m key, expr_tree_same m value)
  pairs_tree_same m (more_pairs key colon value comma rest) = rw (expr_tree_same m key, expr_tree_same m value, pairs_tree_same m rest)
