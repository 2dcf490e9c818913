-- The tree of an expression as it is written, each node at its place.
use Rattle.std.specs.Prelude.{true, false, pos}
use Rattle.prov_base.specs.declared.place.Pos.{Pos}
use Rattle.py_tree.specs.declared.expr.UnOp.{UnOp}
use Rattle.py_tree.specs.declared.expr.UnOp.TheVariants.{Minus, Plus, Not as Negation}
use Rattle.py_tree.specs.declared.expr.LogicOp.TheVariants.{And as Both, Or as Either}
use Rattle.py_tree.specs.declared.expr.BinOp.{BinOp}
use Rattle.py_tree.specs.declared.expr.BinOp.TheVariants.{Add, Sub, Mul, FloorDiv, Mod}
use Rattle.py_tree.specs.declared.expr.CmpOp.{CmpOp}
use Rattle.py_tree.specs.declared.expr.CmpOp.TheVariants.{Eq, Ne, Lt, Le, Gt, Ge, In, NotIn, Is, IsNot}
use Rattle.py_tree.specs.declared.expr.Atom.TheVariants.{None as Nothing, Bool as Truth, Int, Text as Words}
use Rattle.py_tree.specs.Tree.{ExprTree, ExprsTree, PairsTree, MaybeTree, const_expr, var_expr, unary_expr, binary_expr, compare_expr, logic_expr, choose_expr, call_expr, attr_expr, part_expr, range_expr, list_expr, dict_expr, tuple_expr, no_expr, some_expr, end_exprs, more_exprs, end_pairs, more_pairs as pair_more}
use Rattle.py_expressions.specs.Concrete.{AddSign, plus, minus, MulSign, times, floor, modulo, CmpSign, equal, unequal, less, less_equal, greater, greater_equal, within, not_within, same, not_same, Expr, plain_expr, choice, Or, plain_or, or_more, And, plain_and, and_more, Not, plain_not, not_of, Cmp, plain_cmp, compared, Sum, plain_sum, sum_more, Term, plain_term, term_more, Unary, plain_unary, signed, Prim, plain_prim, call, part, attribute, one_index, range_index, Bound, no_bound, bound, Atom, name, number, text, none, true_word, false_word, empty_tuple, group, list, dict, Exprs, one_expr, several, Rest, end_rest, last_rest, more_rest, Items, no_items, items, Pairs, no_pairs, last_pair, more_pairs}

abbrev pub unary_op : AddSign → UnOp
unary_op plus = Plus
unary_op minus = Minus

abbrev pub add_op : AddSign → BinOp
add_op plus = Add
add_op minus = Sub

abbrev pub mul_op : MulSign → BinOp
mul_op times = Mul
mul_op floor = FloorDiv
mul_op modulo = Mod

abbrev pub cmp_op : CmpSign → CmpOp
cmp_op (equal at) = Eq
cmp_op (unequal at) = Ne
cmp_op (less at) = Lt
cmp_op (less_equal at) = Le
cmp_op (greater at) = Gt
cmp_op (greater_equal at) = Ge
cmp_op (within at) = In
cmp_op (not_within not_at in_at) = NotIn
cmp_op (same at) = Is
cmp_op (not_same is_at not_at) = IsNot

-- the place of a comparison's first token
abbrev pub cmp_at : CmpSign → Pos
cmp_at (equal at) = at.at
cmp_at (unequal at) = at.at
cmp_at (less at) = at.at
cmp_at (less_equal at) = at.at
cmp_at (greater at) = at.at
cmp_at (greater_equal at) = at.at
cmp_at (within at) = at.at
cmp_at (not_within not_at in_at) = not_at.at
cmp_at (same at) = at.at
cmp_at (not_same is_at not_at) = is_at.at

abbrev mutual
  pub expr_tree : Expr → ExprTree
  expr_tree (plain_expr e) = or_tree e
  expr_tree (choice chosen if_word test else_word other) = choose_expr if_word.at (or_tree test) (or_tree chosen) (expr_tree other)

  pub or_tree : Or → ExprTree
  or_tree (plain_or e) = and_tree e
  or_tree (or_more left at right) = logic_expr at.at Either (or_tree left) (and_tree right)

  pub and_tree : And → ExprTree
  and_tree (plain_and e) = not_tree e
  and_tree (and_more left at right) = logic_expr at.at Both (and_tree left) (not_tree right)

  pub not_tree : Not → ExprTree
  not_tree (plain_not e) = cmp_tree e
  not_tree (not_of at e) = unary_expr at.at Negation (not_tree e)

  pub cmp_tree : Cmp → ExprTree
  cmp_tree (plain_cmp e) = sum_tree e
  cmp_tree (compared left op right) = compare_expr (cmp_at op) (cmp_op op) (sum_tree left) (sum_tree right)

  pub sum_tree : Sum → ExprTree
  sum_tree (plain_sum e) = term_tree e
  sum_tree (sum_more left at op right) = binary_expr at.at (add_op op) (sum_tree left) (term_tree right)

  pub term_tree : Term → ExprTree
  term_tree (plain_term e) = unary_tree e
  term_tree (term_more left at op right) = binary_expr at.at (mul_op op) (term_tree left) (unary_tree right)

  pub unary_tree : Unary → ExprTree
  unary_tree (plain_unary e) = prim_tree e
  unary_tree (signed at op e) = unary_expr at.at (unary_op op) (unary_tree e)

  pub prim_tree : Prim → ExprTree
  prim_tree (plain_prim e) = atom_tree e
  prim_tree (call callee opening arguments closing) = call_expr opening.at (prim_tree callee) (items_tree arguments)
  prim_tree (part e opening (one_index index) closing) = part_expr opening.at (prim_tree e) (exprs_tree index)
  prim_tree (part e opening (range_index low colon high) closing) = range_expr opening.at (prim_tree e) (bound_tree low) (bound_tree high)
  prim_tree (attribute e dot name_at bytes) = attr_expr dot.at (prim_tree e) bytes

  pub bound_tree : Bound → MaybeTree
  bound_tree no_bound = no_expr
  bound_tree (bound e) = some_expr (expr_tree e)

  -- grouping brackets leave no node
  pub atom_tree : Atom → ExprTree
  atom_tree (name at bytes) = var_expr at.at bytes
  atom_tree (number at n) = const_expr at.at (Int (pos n))
  atom_tree (text at bytes) = const_expr at.at (Words bytes)
  atom_tree (none at) = const_expr at.at Nothing
  atom_tree (true_word at) = const_expr at.at (Truth true)
  atom_tree (false_word at) = const_expr at.at (Truth false)
  atom_tree (empty_tuple opening closing) = tuple_expr opening.at end_exprs
  atom_tree (group opening e closing) = exprs_tree e
  atom_tree (list opening e closing) = list_expr opening.at (items_tree e)
  atom_tree (dict opening pairs closing) = dict_expr opening.at (pairs_tree pairs)

  -- with a comma it is a tuple, which stands at the first comma
  pub exprs_tree : Exprs → ExprTree
  exprs_tree (one_expr e) = expr_tree e
  exprs_tree (several e comma rest) = tuple_expr comma.at (more_exprs (expr_tree e) (rest_tree rest))

  pub rest_tree : Rest → ExprsTree
  rest_tree end_rest = end_exprs
  rest_tree (last_rest e) = more_exprs (expr_tree e) end_exprs
  rest_tree (more_rest e comma rest) = more_exprs (expr_tree e) (rest_tree rest)

  pub items_tree : Items → ExprsTree
  items_tree no_items = end_exprs
  items_tree (items (one_expr e)) = more_exprs (expr_tree e) end_exprs
  items_tree (items (several e comma rest)) = more_exprs (expr_tree e) (rest_tree rest)

  pub pairs_tree : Pairs → PairsTree
  pairs_tree no_pairs = end_pairs
  pairs_tree (last_pair key colon value) = pair_more (expr_tree key) (expr_tree value) end_pairs
  pairs_tree (more_pairs key colon value comma rest) = pair_more (expr_tree key) (expr_tree value) (pairs_tree rest)
