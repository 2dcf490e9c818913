-- The grammar looks at no byte spans: expressions and simple statements whose tokens have other spans. Their syntax trees are
-- the same, since these have places alone.
use Rattle.prov_base.specs.declared.place.Pos.{Pos}
use Rattle.prov_base.specs.declared.place.Span.{Span}
use Rattle.py_lines.specs.declared.parts.Token.{Token}
use Rattle.py_expressions.specs.Concrete.{Spot, CmpSign, equal, unequal, less, less_equal, greater, greater_equal, within, not_within, same, not_same, Expr, plain_expr, choice, Or, plain_or, or_more, And, plain_and, and_more, Not, plain_not, not_of, Cmp, plain_cmp, compared, Sum, plain_sum, sum_more, Term, plain_term, term_more, Unary, plain_unary, signed, Prim, plain_prim, call, part, attribute, Index, one_index, range_index, Bound, no_bound, bound, Atom, name, number, text, none, true_word, false_word, empty_tuple, group, list, dict, Exprs, one_expr, several, Rest, end_rest, last_rest, more_rest, Items, no_items, items, Pairs, no_pairs, last_pair, more_pairs}
use Rattle.py_expressions.specs.Targets.{OneTarget, named, item, field, TargetRest, end_rest_target, last_target, more_target, Target, one_target, several_targets}
use Rattle.py_grammar.specs.Written.{Simple, expression, assign, augmented, del, pass, break, continue, return, return_value, raise, raise_value, assert, assert_message, import_module, Names, last_name, more_names, Params, no_params, params, params_comma, Naming, no_naming, naming, Kind, every_kind, one_kind, Base, no_base, empty_base, base}

-- the new span of a token, from its place and its span
abbrev pub Move : Type 0
Move = Pos → Span → Span

abbrev pub moved_spot : Move → Spot → Spot
moved_spot m spot = record { at = spot.at; span = m spot.at spot.span }

abbrev pub moved_token : Move → Token → Token
moved_token m token = record { at = token.at; span = m token.at token.span; kind = token.kind }

abbrev pub moved_cmp_sign : Move → CmpSign → CmpSign
moved_cmp_sign m (equal x0) = equal (moved_spot m x0)
moved_cmp_sign m (unequal x0) = unequal (moved_spot m x0)
moved_cmp_sign m (less x0) = less (moved_spot m x0)
moved_cmp_sign m (less_equal x0) = less_equal (moved_spot m x0)
moved_cmp_sign m (greater x0) = greater (moved_spot m x0)
moved_cmp_sign m (greater_equal x0) = greater_equal (moved_spot m x0)
moved_cmp_sign m (within x0) = within (moved_spot m x0)
moved_cmp_sign m (not_within x0 x1) = not_within (moved_spot m x0) (moved_spot m x1)
moved_cmp_sign m (same x0) = same (moved_spot m x0)
moved_cmp_sign m (not_same x0 x1) = not_same (moved_spot m x0) (moved_spot m x1)

abbrev mutual
  pub moved_expr : Move → Expr → Expr
  moved_expr m (plain_expr x0) = plain_expr (moved_or m x0)
  moved_expr m (choice x0 x1 x2 x3 x4) = choice (moved_or m x0) (moved_spot m x1) (moved_or m x2) (moved_spot m x3) (moved_expr m x4)

  pub moved_or : Move → Or → Or
  moved_or m (plain_or x0) = plain_or (moved_and m x0)
  moved_or m (or_more x0 x1 x2) = or_more (moved_or m x0) (moved_spot m x1) (moved_and m x2)

  pub moved_and : Move → And → And
  moved_and m (plain_and x0) = plain_and (moved_not m x0)
  moved_and m (and_more x0 x1 x2) = and_more (moved_and m x0) (moved_spot m x1) (moved_not m x2)

  pub moved_not : Move → Not → Not
  moved_not m (plain_not x0) = plain_not (moved_cmp m x0)
  moved_not m (not_of x0 x1) = not_of (moved_spot m x0) (moved_not m x1)

  pub moved_cmp : Move → Cmp → Cmp
  moved_cmp m (plain_cmp x0) = plain_cmp (moved_sum m x0)
  moved_cmp m (compared x0 x1 x2) = compared (moved_sum m x0) (moved_cmp_sign m x1) (moved_sum m x2)

  pub moved_sum : Move → Sum → Sum
  moved_sum m (plain_sum x0) = plain_sum (moved_term m x0)
  moved_sum m (sum_more x0 x1 x2 x3) = sum_more (moved_sum m x0) (moved_spot m x1) x2 (moved_term m x3)

  pub moved_term : Move → Term → Term
  moved_term m (plain_term x0) = plain_term (moved_unary m x0)
  moved_term m (term_more x0 x1 x2 x3) = term_more (moved_term m x0) (moved_spot m x1) x2 (moved_unary m x3)

  pub moved_unary : Move → Unary → Unary
  moved_unary m (plain_unary x0) = plain_unary (moved_prim m x0)
  moved_unary m (signed x0 x1 x2) = signed (moved_spot m x0) x1 (moved_unary m x2)

  pub moved_prim : Move → Prim → Prim
  moved_prim m (plain_prim x0) = plain_prim (moved_atom m x0)
  moved_prim m (call x0 x1 x2 x3) = call (moved_prim m x0) (moved_spot m x1) (moved_items m x2) (moved_spot m x3)
  moved_prim m (part x0 x1 x2 x3) = part (moved_prim m x0) (moved_spot m x1) (moved_index m x2) (moved_spot m x3)
  moved_prim m (attribute x0 x1 x2 x3) = attribute (moved_prim m x0) (moved_spot m x1) (moved_spot m x2) x3

  pub moved_index : Move → Index → Index
  moved_index m (one_index x0) = one_index (moved_exprs m x0)
  moved_index m (range_index x0 x1 x2) = range_index (moved_bound m x0) (moved_spot m x1) (moved_bound m x2)

  pub moved_bound : Move → Bound → Bound
  moved_bound m no_bound = no_bound
  moved_bound m (bound x0) = bound (moved_expr m x0)

  pub moved_atom : Move → Atom → Atom
  moved_atom m (name x0 x1) = name (moved_spot m x0) x1
  moved_atom m (number x0 x1) = number (moved_spot m x0) x1
  moved_atom m (text x0 x1) = text (moved_spot m x0) x1
  moved_atom m (none x0) = none (moved_spot m x0)
  moved_atom m (true_word x0) = true_word (moved_spot m x0)
  moved_atom m (false_word x0) = false_word (moved_spot m x0)
  moved_atom m (empty_tuple x0 x1) = empty_tuple (moved_spot m x0) (moved_spot m x1)
  moved_atom m (group x0 x1 x2) = group (moved_spot m x0) (moved_exprs m x1) (moved_spot m x2)
  moved_atom m (list x0 x1 x2) = list (moved_spot m x0) (moved_items m x1) (moved_spot m x2)
  moved_atom m (dict x0 x1 x2) = dict (moved_spot m x0) (moved_pairs m x1) (moved_spot m x2)

  pub moved_exprs : Move → Exprs → Exprs
  moved_exprs m (one_expr x0) = one_expr (moved_expr m x0)
  moved_exprs m (several x0 x1 x2) = several (moved_expr m x0) (moved_spot m x1) (moved_rest m x2)

  pub moved_rest : Move → Rest → Rest
  moved_rest m end_rest = end_rest
  moved_rest m (last_rest x0) = last_rest (moved_expr m x0)
  moved_rest m (more_rest x0 x1 x2) = more_rest (moved_expr m x0) (moved_spot m x1) (moved_rest m x2)

  pub moved_items : Move → Items → Items
  moved_items m no_items = no_items
  moved_items m (items x0) = items (moved_exprs m x0)

  pub moved_pairs : Move → Pairs → Pairs
  moved_pairs m no_pairs = no_pairs
  moved_pairs m (last_pair x0 x1 x2) = last_pair (moved_expr m x0) (moved_spot m x1) (moved_expr m x2)
  moved_pairs m (more_pairs x0 x1 x2 x3 x4) = more_pairs (moved_expr m x0) (moved_spot m x1) (moved_expr m x2) (moved_spot m x3) (moved_pairs m x4)

abbrev pub moved_one_target : Move → OneTarget → OneTarget
moved_one_target m (named x0 x1) = named (moved_spot m x0) x1
moved_one_target m (item x0 x1 x2 x3) = item (moved_prim m x0) (moved_spot m x1) (moved_exprs m x2) (moved_spot m x3)
moved_one_target m (field x0 x1 x2 x3) = field (moved_prim m x0) (moved_spot m x1) (moved_spot m x2) x3

abbrev pub moved_target_rest : Move → TargetRest → TargetRest
moved_target_rest m end_rest_target = end_rest_target
moved_target_rest m (last_target x0) = last_target (moved_one_target m x0)
moved_target_rest m (more_target x0 x1 x2) = more_target (moved_one_target m x0) (moved_spot m x1) (moved_target_rest m x2)

abbrev pub moved_target : Move → Target → Target
moved_target m (one_target x0) = one_target (moved_one_target m x0)
moved_target m (several_targets x0 x1 x2) = several_targets (moved_one_target m x0) (moved_spot m x1) (moved_target_rest m x2)

abbrev pub moved_simple : Move → Simple → Simple
moved_simple m (expression x0) = expression (moved_exprs m x0)
moved_simple m (assign x0 x1 x2) = assign (moved_target m x0) (moved_spot m x1) (moved_exprs m x2)
moved_simple m (augmented x0 x1 x2 x3) = augmented (moved_one_target m x0) x1 (moved_spot m x2) (moved_exprs m x3)
moved_simple m (del x0 x1) = del (moved_spot m x0) (moved_one_target m x1)
moved_simple m (pass x0) = pass (moved_spot m x0)
moved_simple m (break x0) = break (moved_spot m x0)
moved_simple m (continue x0) = continue (moved_spot m x0)
moved_simple m (return x0) = return (moved_spot m x0)
moved_simple m (return_value x0 x1) = return_value (moved_spot m x0) (moved_exprs m x1)
moved_simple m (raise x0) = raise (moved_spot m x0)
moved_simple m (raise_value x0 x1) = raise_value (moved_spot m x0) (moved_expr m x1)
moved_simple m (assert x0 x1) = assert (moved_spot m x0) (moved_expr m x1)
moved_simple m (assert_message x0 x1 x2 x3) = assert_message (moved_spot m x0) (moved_expr m x1) (moved_spot m x2) (moved_expr m x3)
moved_simple m (import_module x0 x1 x2) = import_module (moved_spot m x0) (moved_spot m x1) x2

abbrev pub moved_names : Move → Names → Names
moved_names m (last_name x0 x1) = last_name (moved_spot m x0) x1
moved_names m (more_names x0 x1 x2 x3) = more_names (moved_spot m x0) x1 (moved_spot m x2) (moved_names m x3)

abbrev pub moved_params : Move → Params → Params
moved_params m no_params = no_params
moved_params m (params x0) = params (moved_names m x0)
moved_params m (params_comma x0 x1) = params_comma (moved_names m x0) (moved_spot m x1)

abbrev pub moved_naming : Move → Naming → Naming
moved_naming m no_naming = no_naming
moved_naming m (naming x0 x1 x2) = naming (moved_spot m x0) (moved_spot m x1) x2

abbrev pub moved_kind : Move → Kind → Kind
moved_kind m every_kind = every_kind
moved_kind m (one_kind x0 x1) = one_kind (moved_expr m x0) (moved_naming m x1)

abbrev pub moved_base : Move → Base → Base
moved_base m no_base = no_base
moved_base m (empty_base x0 x1) = empty_base (moved_spot m x0) (moved_spot m x1)
moved_base m (base x0 x1 x2 x3) = base (moved_spot m x0) (moved_spot m x1) x2 (moved_spot m x3)
