-- Moved expressions, targets and simple statements go as deep.
use Rattle.std.proofs.Common.{◌≡◌, ℕ, ◌+◌, refl, ap, ◌∙◌}
use Rattle.std.specs.Prelude.{max}
use Rattle.py_expressions.specs.Concrete.{Expr, plain_expr, choice, Or, plain_or, or_more, And, plain_and, and_more, Not, plain_not, not_of, Cmp, plain_cmp, compared, Sum, plain_sum, sum_more, Term, plain_term, term_more, Unary, plain_unary, signed, Prim, plain_prim, call, part, attribute, Index, one_index, range_index, Bound, no_bound, bound, Atom, name, number, text, none, true_word, false_word, empty_tuple, group, list, dict, Exprs, one_expr, several, Rest, end_rest, last_rest, more_rest, Items, no_items, items, Pairs, no_pairs, last_pair, more_pairs}
use Rattle.py_expressions.specs.Depth.{expr_depth, or_depth, and_depth, not_depth, cmp_depth, sum_depth, term_depth, unary_depth, prim_depth, index_depth, bound_depth, atom_depth, exprs_depth, rest_depth, items_depth, pairs_depth}
use Rattle.py_expressions.specs.Targets.{OneTarget, named, item, field, TargetRest, end_rest_target, last_target, more_target, Target, one_target, several_targets}
use Rattle.py_grammar.specs.Written.{Simple, expression, assign, augmented, del, pass, break, continue, return, return_value, raise, raise_value, assert, assert_message, import_module, Kind, every_kind, one_kind}
use Rattle.py_grammar.specs.StatementDepth.{one_target_depth, target_rest_depth, target_depth, simple_depth, kind_depth}
use Rattle.slice_text.proofs.Moved.{Move, moved_expr, moved_or, moved_and, moved_not, moved_cmp, moved_sum, moved_term, moved_unary, moved_prim, moved_index, moved_bound, moved_atom, moved_exprs, moved_rest, moved_items, moved_pairs, moved_one_target, moved_target_rest, moved_target, moved_simple, moved_kind}

max_same : (a b c d : ℕ) → a ≡ c → b ≡ d → max a b ≡ max c d
max_same a b c d one two = ap (λ (x : ℕ). max x b) one ∙ ap (λ (x : ℕ). max c x) two

over_same : (a b : ℕ) → a ≡ b → 1 + a ≡ 1 + b
over_same a b one = ap (λ (x : ℕ). 1 + x) one

over_max : (a b c d : ℕ) → a ≡ c → b ≡ d → 1 + max a b ≡ 1 + max c d
over_max a b c d one two = over_same (max a b) (max c d) (max_same a b c d one two)

mutual
  pub expr_depth_same : (m : Move) (x : Expr) → expr_depth (moved_expr m x) ≡ expr_depth x
  expr_depth_same m (plain_expr e) = or_depth_same m e
  expr_depth_same m (choice chosen if_word test else_word other) = over_max (or_depth (moved_or m chosen)) (max (or_depth (moved_or m test)) (expr_depth (moved_expr m other))) (or_depth chosen) (max (or_depth test) (expr_depth other)) (or_depth_same m chosen) (max_same (or_depth (moved_or m test)) (expr_depth (moved_expr m other)) (or_depth test) (expr_depth other) (or_depth_same m test) (expr_depth_same m other))

  pub or_depth_same : (m : Move) (x : Or) → or_depth (moved_or m x) ≡ or_depth x
  or_depth_same m (plain_or e) = and_depth_same m e
  or_depth_same m (or_more left at right) = over_max (or_depth (moved_or m left)) (and_depth (moved_and m right)) (or_depth left) (and_depth right) (or_depth_same m left) (and_depth_same m right)

  pub and_depth_same : (m : Move) (x : And) → and_depth (moved_and m x) ≡ and_depth x
  and_depth_same m (plain_and e) = not_depth_same m e
  and_depth_same m (and_more left at right) = over_max (and_depth (moved_and m left)) (not_depth (moved_not m right)) (and_depth left) (not_depth right) (and_depth_same m left) (not_depth_same m right)

  pub not_depth_same : (m : Move) (x : Not) → not_depth (moved_not m x) ≡ not_depth x
  not_depth_same m (plain_not e) = cmp_depth_same m e
  not_depth_same m (not_of at e) = over_same (not_depth (moved_not m e)) (not_depth e) (not_depth_same m e)

  pub cmp_depth_same : (m : Move) (x : Cmp) → cmp_depth (moved_cmp m x) ≡ cmp_depth x
  cmp_depth_same m (plain_cmp e) = sum_depth_same m e
  cmp_depth_same m (compared left op right) = over_max (sum_depth (moved_sum m left)) (sum_depth (moved_sum m right)) (sum_depth left) (sum_depth right) (sum_depth_same m left) (sum_depth_same m right)

  pub sum_depth_same : (m : Move) (x : Sum) → sum_depth (moved_sum m x) ≡ sum_depth x
  sum_depth_same m (plain_sum e) = term_depth_same m e
  sum_depth_same m (sum_more left at op right) = over_max (sum_depth (moved_sum m left)) (term_depth (moved_term m right)) (sum_depth left) (term_depth right) (sum_depth_same m left) (term_depth_same m right)

  pub term_depth_same : (m : Move) (x : Term) → term_depth (moved_term m x) ≡ term_depth x
  term_depth_same m (plain_term e) = unary_depth_same m e
  term_depth_same m (term_more left at op right) = over_max (term_depth (moved_term m left)) (unary_depth (moved_unary m right)) (term_depth left) (unary_depth right) (term_depth_same m left) (unary_depth_same m right)

  pub unary_depth_same : (m : Move) (x : Unary) → unary_depth (moved_unary m x) ≡ unary_depth x
  unary_depth_same m (plain_unary e) = prim_depth_same m e
  unary_depth_same m (signed at op e) = over_same (unary_depth (moved_unary m e)) (unary_depth e) (unary_depth_same m e)

  pub prim_depth_same : (m : Move) (x : Prim) → prim_depth (moved_prim m x) ≡ prim_depth x
  prim_depth_same m (plain_prim e) = atom_depth_same m e
  prim_depth_same m (call callee opening arguments closing) = over_max (prim_depth (moved_prim m callee)) (items_depth (moved_items m arguments)) (prim_depth callee) (items_depth arguments) (prim_depth_same m callee) (items_depth_same m arguments)
  prim_depth_same m (part e opening index closing) = over_max (prim_depth (moved_prim m e)) (index_depth (moved_index m index)) (prim_depth e) (index_depth index) (prim_depth_same m e) (index_depth_same m index)
  prim_depth_same m (attribute e dot name_at bytes) = over_same (prim_depth (moved_prim m e)) (prim_depth e) (prim_depth_same m e)

  pub index_depth_same : (m : Move) (x : Index) → index_depth (moved_index m x) ≡ index_depth x
  index_depth_same m (one_index e) = exprs_depth_same m e
  index_depth_same m (range_index low colon high) = max_same (bound_depth (moved_bound m low)) (bound_depth (moved_bound m high)) (bound_depth low) (bound_depth high) (bound_depth_same m low) (bound_depth_same m high)

  pub bound_depth_same : (m : Move) (x : Bound) → bound_depth (moved_bound m x) ≡ bound_depth x
  bound_depth_same m no_bound = refl
  bound_depth_same m (bound e) = expr_depth_same m e

  pub atom_depth_same : (m : Move) (x : Atom) → atom_depth (moved_atom m x) ≡ atom_depth x
  atom_depth_same m (name at bytes) = refl
  atom_depth_same m (number at n) = refl
  atom_depth_same m (text at bytes) = refl
  atom_depth_same m (none at) = refl
  atom_depth_same m (true_word at) = refl
  atom_depth_same m (false_word at) = refl
  atom_depth_same m (empty_tuple opening closing) = refl
  atom_depth_same m (group opening e closing) = over_same (exprs_depth (moved_exprs m e)) (exprs_depth e) (exprs_depth_same m e)
  atom_depth_same m (list opening e closing) = over_same (items_depth (moved_items m e)) (items_depth e) (items_depth_same m e)
  atom_depth_same m (dict opening pairs closing) = over_same (pairs_depth (moved_pairs m pairs)) (pairs_depth pairs) (pairs_depth_same m pairs)

  pub exprs_depth_same : (m : Move) (x : Exprs) → exprs_depth (moved_exprs m x) ≡ exprs_depth x
  exprs_depth_same m (one_expr e) = expr_depth_same m e
  exprs_depth_same m (several e comma rest) = over_max (expr_depth (moved_expr m e)) (rest_depth (moved_rest m rest)) (expr_depth e) (rest_depth rest) (expr_depth_same m e) (rest_depth_same m rest)

  pub rest_depth_same : (m : Move) (x : Rest) → rest_depth (moved_rest m x) ≡ rest_depth x
  rest_depth_same m end_rest = refl
  rest_depth_same m (last_rest e) = expr_depth_same m e
  rest_depth_same m (more_rest e comma rest) = max_same (expr_depth (moved_expr m e)) (rest_depth (moved_rest m rest)) (expr_depth e) (rest_depth rest) (expr_depth_same m e) (rest_depth_same m rest)

  pub items_depth_same : (m : Move) (x : Items) → items_depth (moved_items m x) ≡ items_depth x
  items_depth_same m no_items = refl
  items_depth_same m (items (one_expr e)) = expr_depth_same m e
  items_depth_same m (items (several e comma rest)) = max_same (expr_depth (moved_expr m e)) (rest_depth (moved_rest m rest)) (expr_depth e) (rest_depth rest) (expr_depth_same m e) (rest_depth_same m rest)

  pub pairs_depth_same : (m : Move) (x : Pairs) → pairs_depth (moved_pairs m x) ≡ pairs_depth x
  pairs_depth_same m no_pairs = refl
  pairs_depth_same m (last_pair key colon value) = max_same (expr_depth (moved_expr m key)) (expr_depth (moved_expr m value)) (expr_depth key) (expr_depth value) (expr_depth_same m key) (expr_depth_same m value)
  pairs_depth_same m (more_pairs key colon value comma rest) = max_same (max (expr_depth (moved_expr m key)) (expr_depth (moved_expr m value))) (pairs_depth (moved_pairs m rest)) (max (expr_depth key) (expr_depth value)) (pairs_depth rest) (max_same (expr_depth (moved_expr m key)) (expr_depth (moved_expr m value)) (expr_depth key) (expr_depth value) (expr_depth_same m key) (expr_depth_same m value)) (pairs_depth_same m rest)

pub one_target_depth_same : (m : Move) (x : OneTarget) → one_target_depth (moved_one_target m x) ≡ one_target_depth x
one_target_depth_same m (named at bytes) = refl
one_target_depth_same m (item e opening index closing) = over_max (prim_depth (moved_prim m e)) (exprs_depth (moved_exprs m index)) (prim_depth e) (exprs_depth index) (prim_depth_same m e) (exprs_depth_same m index)
one_target_depth_same m (field e dot name_at bytes) = over_same (prim_depth (moved_prim m e)) (prim_depth e) (prim_depth_same m e)

pub target_rest_depth_same : (m : Move) (x : TargetRest) → target_rest_depth (moved_target_rest m x) ≡ target_rest_depth x
target_rest_depth_same m end_rest_target = refl
target_rest_depth_same m (last_target t) = one_target_depth_same m t
target_rest_depth_same m (more_target t comma rest) = max_same (one_target_depth (moved_one_target m t)) (target_rest_depth (moved_target_rest m rest)) (one_target_depth t) (target_rest_depth rest) (one_target_depth_same m t) (target_rest_depth_same m rest)

pub target_depth_same : (m : Move) (x : Target) → target_depth (moved_target m x) ≡ target_depth x
target_depth_same m (one_target t) = one_target_depth_same m t
target_depth_same m (several_targets t comma rest) = over_max (one_target_depth (moved_one_target m t)) (target_rest_depth (moved_target_rest m rest)) (one_target_depth t) (target_rest_depth rest) (one_target_depth_same m t) (target_rest_depth_same m rest)

pub simple_depth_same : (m : Move) (x : Simple) → simple_depth (moved_simple m x) ≡ simple_depth x
simple_depth_same m (expression e) = exprs_depth_same m e
simple_depth_same m (assign t equals e) = max_same (target_depth (moved_target m t)) (exprs_depth (moved_exprs m e)) (target_depth t) (exprs_depth e) (target_depth_same m t) (exprs_depth_same m e)
simple_depth_same m (augmented t op at e) = max_same (one_target_depth (moved_one_target m t)) (exprs_depth (moved_exprs m e)) (one_target_depth t) (exprs_depth e) (one_target_depth_same m t) (exprs_depth_same m e)
simple_depth_same m (del at t) = one_target_depth_same m t
simple_depth_same m (pass at) = refl
simple_depth_same m (break at) = refl
simple_depth_same m (continue at) = refl
simple_depth_same m (return at) = refl
simple_depth_same m (return_value at e) = exprs_depth_same m e
simple_depth_same m (raise at) = refl
simple_depth_same m (raise_value at e) = expr_depth_same m e
simple_depth_same m (assert at e) = expr_depth_same m e
simple_depth_same m (assert_message at e comma message) = max_same (expr_depth (moved_expr m e)) (expr_depth (moved_expr m message)) (expr_depth e) (expr_depth message) (expr_depth_same m e) (expr_depth_same m message)
simple_depth_same m (import_module at module_at bytes) = refl

pub kind_depth_same : (m : Move) (x : Kind) → kind_depth (moved_kind m x) ≡ kind_depth x
kind_depth_same m every_kind = refl
kind_depth_same m (one_kind e called) = expr_depth_same m e
