-- How deep the expressions that begin at a place lie: never deeper than the whole goes.
use Rattle.std.proofs.Common.{◌≡◌, ℕ, zero, suc, ◌+◌, max, ◌≤◌, ◌<◌, Bool, true, false, refl, ap, sym, ◌∙◌, arith, if◌then◌else◌}
use Rattle.std.specs.Prelude.{◌==◌, ◌&&◌}
use Rattle.std.proofs.Math.Nat.{le-max_left, le-max_right}
use Rattle.std.proofs.lemmas.Bool.{eqb-false}
use Rattle.prov_base.specs.declared.place.Pos.{Pos}
use Rattle.py_expressions.specs.Concrete.{Expr, plain_expr, choice, Or, plain_or, or_more, And, plain_and, and_more, Not, plain_not, not_of, Cmp, plain_cmp, compared, Sum, plain_sum, sum_more, Term, plain_term, term_more, Unary, plain_unary, signed, Prim, plain_prim, call, part, attribute, Index, one_index, range_index, Bound, no_bound, bound, Atom, name, number, text, none, true_word, false_word, empty_tuple, group, list, dict, Exprs, one_expr, several, Rest, end_rest, last_rest, more_rest, Items, no_items, items, Pairs, no_pairs, last_pair, more_pairs}
use Rattle.py_expressions.specs.Depth.{expr_depth, or_depth, and_depth, not_depth, cmp_depth, sum_depth, term_depth, unary_depth, prim_depth, index_depth, bound_depth, atom_depth, exprs_depth, rest_depth, items_depth, pairs_depth}
use Rattle.py_expressions.specs.Lies.{is_place, over, expr_lies, or_lies, and_lies, not_lies, cmp_lies, sum_lies, term_lies, unary_lies, prim_lies, index_lies, bound_lies, atom_lies, exprs_lies, rest_lies, items_lies, pairs_lies}

-- ---- no deeper than the whole goes

pub over_low : (here : Bool) (a m : ℕ) → a ≤ m → over here a ≤ 1 + m
over_low true zero m less = omega arith
over_low false zero m less = omega arith
over_low here (suc a) m less = omega (arith, less)

pub both_low : (a b m n : ℕ) → a ≤ m → b ≤ n → max a b ≤ max m n
both_low a b m n one other = omega (arith, one, other)

mutual
  pub expr_low : (e : Expr) (at : Pos) → expr_lies e at ≤ expr_depth e
  expr_low (plain_expr e) at = or_low e at
  expr_low (choice chosen if_word test else_word other) at = over_low _ _ _ (both_low _ _ _ _ (or_low chosen at) (both_low _ _ _ _ (or_low test at) (expr_low other at)))

  pub or_low : (e : Or) (at : Pos) → or_lies e at ≤ or_depth e
  or_low (plain_or e) at = and_low e at
  or_low (or_more left word right) at = over_low _ _ _ (both_low _ _ _ _ (or_low left at) (and_low right at))

  pub and_low : (e : And) (at : Pos) → and_lies e at ≤ and_depth e
  and_low (plain_and e) at = not_low e at
  and_low (and_more left word right) at = over_low _ _ _ (both_low _ _ _ _ (and_low left at) (not_low right at))

  pub not_low : (e : Not) (at : Pos) → not_lies e at ≤ not_depth e
  not_low (plain_not e) at = cmp_low e at
  not_low (not_of word e) at = over_low _ _ _ (not_low e at)

  pub cmp_low : (e : Cmp) (at : Pos) → cmp_lies e at ≤ cmp_depth e
  cmp_low (plain_cmp e) at = sum_low e at
  cmp_low (compared left op right) at = over_low _ _ _ (both_low _ _ _ _ (sum_low left at) (sum_low right at))

  pub sum_low : (e : Sum) (at : Pos) → sum_lies e at ≤ sum_depth e
  sum_low (plain_sum e) at = term_low e at
  sum_low (sum_more left sign op right) at = over_low _ _ _ (both_low _ _ _ _ (sum_low left at) (term_low right at))

  pub term_low : (e : Term) (at : Pos) → term_lies e at ≤ term_depth e
  term_low (plain_term e) at = unary_low e at
  term_low (term_more left sign op right) at = over_low _ _ _ (both_low _ _ _ _ (term_low left at) (unary_low right at))

  pub unary_low : (e : Unary) (at : Pos) → unary_lies e at ≤ unary_depth e
  unary_low (plain_unary e) at = prim_low e at
  unary_low (signed sign op e) at = over_low _ _ _ (unary_low e at)

  pub prim_low : (e : Prim) (at : Pos) → prim_lies e at ≤ prim_depth e
  prim_low (plain_prim e) at = atom_low e at
  prim_low (call callee opening arguments closing) at = over_low _ _ _ (both_low _ _ _ _ (prim_low callee at) (items_low arguments at))
  prim_low (part e opening index closing) at = over_low _ _ _ (both_low _ _ _ _ (prim_low e at) (index_low index at))
  prim_low (attribute e dot name_at bytes) at = over_low _ _ _ (prim_low e at)

  pub index_low : (i : Index) (at : Pos) → index_lies i at ≤ index_depth i
  index_low (one_index e) at = exprs_low e at
  index_low (range_index low colon high) at = both_low _ _ _ _ (bound_low low at) (bound_low high at)

  pub bound_low : (b : Bound) (at : Pos) → bound_lies b at ≤ bound_depth b
  bound_low no_bound at = omega arith
  bound_low (bound e) at = expr_low e at

  pub atom_low : (a : Atom) (at : Pos) → atom_lies a at ≤ atom_depth a
  atom_low (name spot bytes) at = over_low _ 0 0 (omega arith)
  atom_low (number spot n) at = over_low _ 0 0 (omega arith)
  atom_low (text spot bytes) at = over_low _ 0 0 (omega arith)
  atom_low (none spot) at = over_low _ 0 0 (omega arith)
  atom_low (true_word spot) at = over_low _ 0 0 (omega arith)
  atom_low (false_word spot) at = over_low _ 0 0 (omega arith)
  atom_low (empty_tuple opening closing) at = over_low _ 0 0 (omega arith)
  atom_low (group opening e closing) at = over_low _ _ _ (exprs_low e at)
  atom_low (list opening e closing) at = over_low _ _ _ (items_low e at)
  atom_low (dict opening pairs closing) at = over_low _ _ _ (pairs_low pairs at)

  pub exprs_low : (e : Exprs) (at : Pos) → exprs_lies e at ≤ exprs_depth e
  exprs_low (one_expr e) at = expr_low e at
  exprs_low (several e comma rest) at = over_low _ _ _ (both_low _ _ _ _ (expr_low e at) (rest_low rest at))

  pub rest_low : (r : Rest) (at : Pos) → rest_lies r at ≤ rest_depth r
  rest_low end_rest at = omega arith
  rest_low (last_rest e) at = expr_low e at
  rest_low (more_rest e comma rest) at = both_low _ _ _ _ (expr_low e at) (rest_low rest at)

  pub items_low : (i : Items) (at : Pos) → items_lies i at ≤ items_depth i
  items_low no_items at = omega arith
  items_low (items (one_expr e)) at = expr_low e at
  items_low (items (several e comma rest)) at = both_low _ _ _ _ (expr_low e at) (rest_low rest at)

  pub pairs_low : (p : Pairs) (at : Pos) → pairs_lies p at ≤ pairs_depth p
  pairs_low no_pairs at = omega arith
  pairs_low (last_pair key colon value) at = both_low _ _ _ _ (expr_low key at) (expr_low value at)
  pairs_low (more_pairs key colon value comma rest) at = both_low _ _ _ _ (both_low _ _ _ _ (expr_low key at) (expr_low value at)) (pairs_low rest at)

-- ---- each expression goes at least one deep

one_above : (m : ℕ) → 1 ≤ 1 + m
one_above m = omega arith

mutual
  pub expr_above : (e : Expr) → 1 ≤ expr_depth e
  expr_above (plain_expr e) = or_above e
  expr_above (choice chosen if_word test else_word other) = one_above _

  pub or_above : (e : Or) → 1 ≤ or_depth e
  or_above (plain_or e) = and_above e
  or_above (or_more left word right) = one_above _

  pub and_above : (e : And) → 1 ≤ and_depth e
  and_above (plain_and e) = not_above e
  and_above (and_more left word right) = one_above _

  pub not_above : (e : Not) → 1 ≤ not_depth e
  not_above (plain_not e) = cmp_above e
  not_above (not_of word e) = one_above _

  pub cmp_above : (e : Cmp) → 1 ≤ cmp_depth e
  cmp_above (plain_cmp e) = sum_above e
  cmp_above (compared left op right) = one_above _

  pub sum_above : (e : Sum) → 1 ≤ sum_depth e
  sum_above (plain_sum e) = term_above e
  sum_above (sum_more left sign op right) = one_above _

  pub term_above : (e : Term) → 1 ≤ term_depth e
  term_above (plain_term e) = unary_above e
  term_above (term_more left sign op right) = one_above _

  pub unary_above : (e : Unary) → 1 ≤ unary_depth e
  unary_above (plain_unary e) = prim_above e
  unary_above (signed sign op e) = one_above _

  pub prim_above : (e : Prim) → 1 ≤ prim_depth e
  prim_above (plain_prim e) = atom_above e
  prim_above (call callee opening arguments closing) = one_above _
  prim_above (part e opening index closing) = one_above _
  prim_above (attribute e dot name_at bytes) = one_above _

  pub atom_above : (a : Atom) → 1 ≤ atom_depth a
  atom_above (name spot bytes) = one_above 0
  atom_above (number spot n) = one_above 0
  atom_above (text spot bytes) = one_above 0
  atom_above (none spot) = one_above 0
  atom_above (true_word spot) = one_above 0
  atom_above (false_word spot) = one_above 0
  atom_above (empty_tuple opening closing) = one_above 0
  atom_above (group opening e closing) = one_above _
  atom_above (list opening e closing) = one_above _
  atom_above (dict opening pairs closing) = one_above _

pub exprs_above : (e : Exprs) → 1 ≤ exprs_depth e
exprs_above (one_expr e) = expr_above e
exprs_above (several e comma rest) = one_above _

-- ---- places

same_number : (n : ℕ) → (n == n) ≡ true
same_number n = by (n == n) refl
  where
    by : (b : Bool) → (n == n) ≡ b → (n == n) ≡ true
    by true is = is
    by false is = absurd (eqb-false n n is refl)

pub same_place : (at : Pos) → is_place at at ≡ true
same_place at = both (at.line == at.line) (at.col == at.col) (same_number at.line) (same_number at.col)
  where
    both : (a b : Bool) → a ≡ true → b ≡ true → (a && b) ≡ true
    both a b one other = cc

pub alone_here : (here : Bool) → here ≡ true → over here 0 ≡ 1
alone_here here is = ap (λ b. if b then 1 else 0) is

-- ---- over what lies in a part

-- over what goes one deep at least it is one deeper
pub over_is : (here : Bool) (a m : ℕ) → a ≡ m → 1 ≤ m → over here a ≡ 1 + m
over_is here zero m is above = absurd (omega (arith, is, above))
over_is here (suc a) m is above = omega (arith, is)

-- what lies in a part lies one deeper at least in the whole
pub over_more : (here : Bool) (a : ℕ) → 1 ≤ a → suc a ≤ over here a
over_more here zero some = absurd (omega (arith, some))
over_more here (suc a) some = omega arith

pub over_left : (here : Bool) (a b : ℕ) → 1 ≤ a → suc a ≤ over here (max a b)
over_left here a b some = let high = le-max_left a b in let more = over_more here (max a b) (omega (arith, some, high)) in omega (arith, high, more)

pub over_right : (here : Bool) (a b : ℕ) → 1 ≤ b → suc b ≤ over here (max a b)
over_right here a b some = let high = le-max_right a b in let more = over_more here (max a b) (omega (arith, some, high)) in omega (arith, high, more)

pub over_least : (here : Bool) (a : ℕ) → a ≤ over here a
over_least here zero = omega arith
over_least here (suc a) = omega arith

-- something lies where the node begins
pub over_here : (here : Bool) (a : ℕ) → here ≡ true → 1 ≤ over here a
over_here here zero is = let one : over here 0 ≡ 1 = alone_here here is in omega (arith, one)
over_here here (suc a) is = omega arith

pub is_here : (spot at : Pos) → spot ≡ at → is_place spot at ≡ true
is_here spot at is = ap (is_place spot) (sym is) ∙ same_place spot

-- over what is this high something is higher
pub above_left : (here : Bool) (a b height depth : ℕ) → height ≡ depth → a ≡ depth → 1 ≤ depth → height < over here (max a b)
above_left here a b height depth is there some = let more = over_left here a b (omega (arith, there, some)) in omega (arith, is, there, more)

pub above_one : (here : Bool) (a height depth : ℕ) → height ≡ depth → a ≡ depth → 1 ≤ depth → height < over here a
above_one here a height depth is there some = let more = over_more here a (omega (arith, there, some)) in omega (arith, is, there, more)
