-- How deep expressions lie (this project's profile), for the limits.
use Rattle.std.specs.Prelude.{ℕ, ◌+◌, max}
use Rattle.py_expressions.specs.Concrete.{Expr, plain_expr, choice, Or, plain_or, or_more, And, plain_and, and_more, Not, plain_not, not_of, Cmp, plain_cmp, compared, Sum, plain_sum, sum_more, Term, plain_term, term_more, Unary, plain_unary, signed, Prim, plain_prim, call, part, attribute, Index, one_index, range_index, Bound, no_bound, bound, Atom, group, list, dict, Exprs, one_expr, several, Rest, end_rest, last_rest, more_rest, Items, no_items, items, Pairs, no_pairs, last_pair, more_pairs}

abbrev mutual
  -- How many expressions lie in one another, the outermost counted: an operand, argument, item, callee, object or index lies
  -- one deeper than its node, and what stands in grouping brackets one deeper than the brackets.
  pub expr_depth : Expr → ℕ
  expr_depth (plain_expr e) = or_depth e
  expr_depth (choice chosen if_word test else_word other) = 1 + max (or_depth chosen) (max (or_depth test) (expr_depth other))

  pub or_depth : Or → ℕ
  or_depth (plain_or e) = and_depth e
  or_depth (or_more left at right) = 1 + max (or_depth left) (and_depth right)

  pub and_depth : And → ℕ
  and_depth (plain_and e) = not_depth e
  and_depth (and_more left at right) = 1 + max (and_depth left) (not_depth right)

  pub not_depth : Not → ℕ
  not_depth (plain_not e) = cmp_depth e
  not_depth (not_of at e) = 1 + not_depth e

  pub cmp_depth : Cmp → ℕ
  cmp_depth (plain_cmp e) = sum_depth e
  cmp_depth (compared left op right) = 1 + max (sum_depth left) (sum_depth right)

  pub sum_depth : Sum → ℕ
  sum_depth (plain_sum e) = term_depth e
  sum_depth (sum_more left at op right) = 1 + max (sum_depth left) (term_depth right)

  pub term_depth : Term → ℕ
  term_depth (plain_term e) = unary_depth e
  term_depth (term_more left at op right) = 1 + max (term_depth left) (unary_depth right)

  pub unary_depth : Unary → ℕ
  unary_depth (plain_unary e) = prim_depth e
  unary_depth (signed at op e) = 1 + unary_depth e

  pub prim_depth : Prim → ℕ
  prim_depth (plain_prim e) = atom_depth e
  prim_depth (call callee opening arguments closing) = 1 + max (prim_depth callee) (items_depth arguments)
  prim_depth (part e opening index closing) = 1 + max (prim_depth e) (index_depth index)
  prim_depth (attribute e dot name_at bytes) = 1 + prim_depth e

  pub index_depth : Index → ℕ
  index_depth (one_index e) = exprs_depth e
  index_depth (range_index low colon high) = max (bound_depth low) (bound_depth high)

  pub bound_depth : Bound → ℕ
  bound_depth no_bound = 0
  bound_depth (bound e) = expr_depth e

  pub atom_depth : Atom → ℕ
  atom_depth (group opening e closing) = 1 + exprs_depth e
  atom_depth (list opening e closing) = 1 + items_depth e
  atom_depth (dict opening pairs closing) = 1 + pairs_depth pairs
  atom_depth _ = 1

  -- with a comma it is a tuple, and its items lie one deeper
  pub exprs_depth : Exprs → ℕ
  exprs_depth (one_expr e) = expr_depth e
  exprs_depth (several e comma rest) = 1 + max (expr_depth e) (rest_depth rest)

  pub rest_depth : Rest → ℕ
  rest_depth end_rest = 0
  rest_depth (last_rest e) = expr_depth e
  rest_depth (more_rest e comma rest) = max (expr_depth e) (rest_depth rest)

  -- the deepest of arguments or items, which are no tuple
  pub items_depth : Items → ℕ
  items_depth no_items = 0
  items_depth (items (one_expr e)) = expr_depth e
  items_depth (items (several e comma rest)) = max (expr_depth e) (rest_depth rest)

  pub pairs_depth : Pairs → ℕ
  pairs_depth no_pairs = 0
  pairs_depth (last_pair key colon value) = max (expr_depth key) (expr_depth value)
  pairs_depth (more_pairs key colon value comma rest) = max (max (expr_depth key) (expr_depth value)) (pairs_depth rest)
