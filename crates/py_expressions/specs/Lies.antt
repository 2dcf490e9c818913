-- How deep the expressions that begin at a place lie (this project's profile), for the place that a fault of depth names.
use Rattle.std.specs.Prelude.{◌≡◌, ⊤, ℕ, zero, suc, ◌<◌, max, Bool, false, List, [], ◌∷◌, ◌++◌, ◌==◌, ◌&&◌, nat_lt, if◌then◌else◌}
use Rattle.prov_base.specs.declared.place.Pos.{Pos}
use Rattle.py_lines.specs.declared.parts.Token.{Token}
use Rattle.py_expressions.specs.Concrete.{Expr, plain_expr, choice, Or, plain_or, or_more, And, plain_and, and_more, Not, plain_not, not_of, Cmp, plain_cmp, compared, Sum, plain_sum, sum_more, Term, plain_term, term_more, Unary, plain_unary, signed, Prim, plain_prim, call, part, attribute, Index, one_index, range_index, Bound, no_bound, bound, Atom, name, number, text, none, true_word, false_word, empty_tuple, group, list, dict, Exprs, one_expr, several, Rest, end_rest, last_rest, more_rest, Items, no_items, items, Pairs, no_pairs, last_pair, more_pairs}
use Rattle.py_expressions.specs.Tokens.{or_tokens, and_tokens, sum_tokens, term_tokens, prim_tokens, atom_tokens, expr_tokens}
use Rattle.py_expressions.specs.Depth.{expr_depth, or_depth, and_depth, not_depth, sum_depth, term_depth, unary_depth, prim_depth, index_depth, bound_depth, rest_depth, items_depth, pairs_depth}

abbrev pub is_place : Pos → Pos → Bool
is_place one other = (one.line == other.line) && (one.col == other.col)

-- the first of these tokens stands at this place
abbrev pub begins : List Token → Pos → Bool
begins [] at = false
begins (t ∷ ts) at = is_place t.at at

-- An expression and its parts: what lies in a part lies one deeper in the whole. Where nothing in the parts begins at the
-- place, the expression itself may: it lies at depth 1.
abbrev pub over : Bool → ℕ → ℕ
over here zero = if here then 1 else 0
over here (suc depth) = suc (suc depth)

abbrev mutual
  -- The greatest depth, counted from the whole, of an expression in it that begins at this place; 0 where none does. Depth is
  -- counted as in `Depth`.
  pub expr_lies : Expr → Pos → ℕ
  expr_lies (plain_expr e) at = or_lies e at
  expr_lies (choice chosen if_word test else_word other) at = over (begins (or_tokens chosen) at) (max (or_lies chosen at) (max (or_lies test at) (expr_lies other at)))

  pub or_lies : Or → Pos → ℕ
  or_lies (plain_or e) at = and_lies e at
  or_lies (or_more left word right) at = over (begins (or_tokens left) at) (max (or_lies left at) (and_lies right at))

  pub and_lies : And → Pos → ℕ
  and_lies (plain_and e) at = not_lies e at
  and_lies (and_more left word right) at = over (begins (and_tokens left) at) (max (and_lies left at) (not_lies right at))

  pub not_lies : Not → Pos → ℕ
  not_lies (plain_not e) at = cmp_lies e at
  not_lies (not_of word e) at = over (is_place word.at at) (not_lies e at)

  pub cmp_lies : Cmp → Pos → ℕ
  cmp_lies (plain_cmp e) at = sum_lies e at
  cmp_lies (compared left op right) at = over (begins (sum_tokens left) at) (max (sum_lies left at) (sum_lies right at))

  pub sum_lies : Sum → Pos → ℕ
  sum_lies (plain_sum e) at = term_lies e at
  sum_lies (sum_more left sign op right) at = over (begins (sum_tokens left) at) (max (sum_lies left at) (term_lies right at))

  pub term_lies : Term → Pos → ℕ
  term_lies (plain_term e) at = unary_lies e at
  term_lies (term_more left sign op right) at = over (begins (term_tokens left) at) (max (term_lies left at) (unary_lies right at))

  pub unary_lies : Unary → Pos → ℕ
  unary_lies (plain_unary e) at = prim_lies e at
  unary_lies (signed sign op e) at = over (is_place sign.at at) (unary_lies e at)

  pub prim_lies : Prim → Pos → ℕ
  prim_lies (plain_prim e) at = atom_lies e at
  prim_lies (call callee opening arguments closing) at = over (begins (prim_tokens callee) at) (max (prim_lies callee at) (items_lies arguments at))
  prim_lies (part e opening index closing) at = over (begins (prim_tokens e) at) (max (prim_lies e at) (index_lies index at))
  prim_lies (attribute e dot name_at bytes) at = over (begins (prim_tokens e) at) (prim_lies e at)

  pub index_lies : Index → Pos → ℕ
  index_lies (one_index e) at = exprs_lies e at
  index_lies (range_index low colon high) at = max (bound_lies low at) (bound_lies high at)

  pub bound_lies : Bound → Pos → ℕ
  bound_lies no_bound at = 0
  bound_lies (bound e) at = expr_lies e at

  pub atom_lies : Atom → Pos → ℕ
  atom_lies (group opening e closing) at = over (is_place opening.at at) (exprs_lies e at)
  atom_lies (list opening e closing) at = over (is_place opening.at at) (items_lies e at)
  atom_lies (dict opening pairs closing) at = over (is_place opening.at at) (pairs_lies pairs at)
  atom_lies leaf at = over (begins (atom_tokens leaf) at) 0

  -- with a comma it is a tuple, which begins where its first item does
  pub exprs_lies : Exprs → Pos → ℕ
  exprs_lies (one_expr e) at = expr_lies e at
  exprs_lies (several e comma rest) at = over (begins (expr_tokens e) at) (max (expr_lies e at) (rest_lies rest at))

  pub rest_lies : Rest → Pos → ℕ
  rest_lies end_rest at = 0
  rest_lies (last_rest e) at = expr_lies e at
  rest_lies (more_rest e comma rest) at = max (expr_lies e at) (rest_lies rest at)

  -- arguments or items, which are no tuple
  pub items_lies : Items → Pos → ℕ
  items_lies no_items at = 0
  items_lies (items (one_expr e)) at = expr_lies e at
  items_lies (items (several e comma rest)) at = max (expr_lies e at) (rest_lies rest at)

  pub pairs_lies : Pairs → Pos → ℕ
  pairs_lies no_pairs at = 0
  pairs_lies (last_pair key colon value) at = max (expr_lies key at) (expr_lies value at)
  pairs_lies (more_pairs key colon value comma rest) at = max (max (expr_lies key at) (expr_lies value at)) (pairs_lies rest at)

-- an expression that lies at this depth begins somewhere
pub record IsReached (lies : Pos → ℕ) (depth : ℕ) : Type 0 where
  pub at : Pos
  pub lies_at : lies at ≡ depth

-- of two neighbours the place of the one that goes deeper, and of the first where they go as deep
abbrev pub deeper_of : ℕ → Pos → ℕ → Pos → Pos
deeper_of left_depth left right_depth right = if nat_lt left_depth right_depth then right else left

-- the place of what is not there
abbrev pub nowhere : Pos
nowhere = record { line = 0; col = 0 }

abbrev mutual
  -- Where the first of the expressions begins that lie deepest in it, in the order in which they are read. What has no parts
  -- is deepest itself; what has some begins no deeper than they do.
  pub expr_deepest : Expr → Pos
  expr_deepest (plain_expr e) = or_deepest e
  expr_deepest (choice chosen if_word test else_word other) = deeper_of (or_depth chosen) (or_deepest chosen) (max (or_depth test) (expr_depth other)) (deeper_of (or_depth test) (or_deepest test) (expr_depth other) (expr_deepest other))

  pub or_deepest : Or → Pos
  or_deepest (plain_or e) = and_deepest e
  or_deepest (or_more left word right) = deeper_of (or_depth left) (or_deepest left) (and_depth right) (and_deepest right)

  pub and_deepest : And → Pos
  and_deepest (plain_and e) = not_deepest e
  and_deepest (and_more left word right) = deeper_of (and_depth left) (and_deepest left) (not_depth right) (not_deepest right)

  pub not_deepest : Not → Pos
  not_deepest (plain_not e) = cmp_deepest e
  not_deepest (not_of word e) = not_deepest e

  pub cmp_deepest : Cmp → Pos
  cmp_deepest (plain_cmp e) = sum_deepest e
  cmp_deepest (compared left op right) = deeper_of (sum_depth left) (sum_deepest left) (sum_depth right) (sum_deepest right)

  pub sum_deepest : Sum → Pos
  sum_deepest (plain_sum e) = term_deepest e
  sum_deepest (sum_more left sign op right) = deeper_of (sum_depth left) (sum_deepest left) (term_depth right) (term_deepest right)

  pub term_deepest : Term → Pos
  term_deepest (plain_term e) = unary_deepest e
  term_deepest (term_more left sign op right) = deeper_of (term_depth left) (term_deepest left) (unary_depth right) (unary_deepest right)

  pub unary_deepest : Unary → Pos
  unary_deepest (plain_unary e) = prim_deepest e
  unary_deepest (signed sign op e) = unary_deepest e

  pub prim_deepest : Prim → Pos
  prim_deepest (plain_prim e) = atom_deepest e
  prim_deepest (call callee opening arguments closing) = deeper_of (prim_depth callee) (prim_deepest callee) (items_depth arguments) (items_deepest arguments)
  prim_deepest (part e opening index closing) = deeper_of (prim_depth e) (prim_deepest e) (index_depth index) (index_deepest index)
  prim_deepest (attribute e dot name_at bytes) = prim_deepest e

  pub index_deepest : Index → Pos
  index_deepest (one_index e) = exprs_deepest e
  index_deepest (range_index low colon high) = deeper_of (bound_depth low) (bound_deepest low) (bound_depth high) (bound_deepest high)

  pub bound_deepest : Bound → Pos
  bound_deepest no_bound = nowhere
  bound_deepest (bound e) = expr_deepest e

  -- in brackets that hold something the deepest of it, else the bracket
  pub atom_deepest : Atom → Pos
  atom_deepest (name spot bytes) = spot.at
  atom_deepest (number spot n) = spot.at
  atom_deepest (text spot bytes) = spot.at
  atom_deepest (none spot) = spot.at
  atom_deepest (true_word spot) = spot.at
  atom_deepest (false_word spot) = spot.at
  atom_deepest (empty_tuple opening closing) = opening.at
  atom_deepest (group opening e closing) = exprs_deepest e
  atom_deepest (list opening e closing) = deeper_of 0 opening.at (items_depth e) (items_deepest e)
  atom_deepest (dict opening pairs closing) = deeper_of 0 opening.at (pairs_depth pairs) (pairs_deepest pairs)

  pub exprs_deepest : Exprs → Pos
  exprs_deepest (one_expr e) = expr_deepest e
  exprs_deepest (several e comma rest) = deeper_of (expr_depth e) (expr_deepest e) (rest_depth rest) (rest_deepest rest)

  pub rest_deepest : Rest → Pos
  rest_deepest end_rest = nowhere
  rest_deepest (last_rest e) = expr_deepest e
  rest_deepest (more_rest e comma rest) = deeper_of (expr_depth e) (expr_deepest e) (rest_depth rest) (rest_deepest rest)

  pub items_deepest : Items → Pos
  items_deepest no_items = nowhere
  items_deepest (items e) = exprs_deepest e

  pub pairs_deepest : Pairs → Pos
  pairs_deepest no_pairs = nowhere
  pairs_deepest (last_pair key colon value) = deeper_of (expr_depth key) (expr_deepest key) (expr_depth value) (expr_deepest value)
  pairs_deepest (more_pairs key colon value comma rest) = deeper_of (max (expr_depth key) (expr_depth value)) (deeper_of (expr_depth key) (expr_deepest key) (expr_depth value) (expr_deepest value)) (pairs_depth rest) (pairs_deepest rest)

-- none of these tokens stands there
abbrev pub IsApart : Pos → List Token → Type 0
IsApart at [] = ⊤
IsApart at (t ∷ ts) = (is_place t.at at ≡ false) × IsApart at ts

-- In these tokens, in which this lies and goes this deep, the first that lies deepest begins at this place: a token stands
-- there, and what begins at no token from that one on lies less deep.
pub record IsFirst (tokens : List Token) (lies : Pos → ℕ) (depth : ℕ) (place : Pos) : Type 0 where
  pub ahead : List Token
  pub named : Token
  pub later : List Token
  pub tokens_are : tokens ≡ ahead ++ named ∷ later
  pub named_is : named.at ≡ place
  pub lies_is : lies place ≡ depth
  pub less : (other : Pos) → IsApart other (named ∷ later) → lies other < depth
