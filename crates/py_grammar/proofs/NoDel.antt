-- `del` stands nowhere but where a statement begins with it.
use Rattle.std.proofs.Common.{◌≡◌, inl, inr, Bool, true, false, List, [], ◌∷◌, ◌++◌, Some, None, refl, ap, sym, ◌∙◌, subst, append_assoc}
use Rattle.std.specs.Prelude.{◌||◌}
use Rattle.py_lines.specs.declared.parts.Token.{Token}
use Rattle.py_lines.specs.declared.parts.TokenKind.TheVariants.{Keyword}
use Rattle.py_expressions.specs.declared.fault.Fault.{Fault}
use Rattle.py_expressions.specs.Concrete.{Spot, CmpSign, equal, unequal, less, less_equal, greater, greater_equal, within, not_within, same, not_same, Expr, plain_expr, choice, Or, plain_or, or_more, And, plain_and, and_more, Not, plain_not, not_of, Cmp, plain_cmp, compared, Sum, plain_sum, sum_more, Term, plain_term, term_more, Unary, plain_unary, signed, Prim, plain_prim, call, part, attribute, Index, one_index, range_index, Bound, no_bound, bound, Atom, name, number, text, none, true_word, false_word, empty_tuple, group, list, dict, Exprs, one_expr, several, Rest, end_rest, last_rest, more_rest, Items, no_items, items, Pairs, no_pairs, last_pair, more_pairs}
use Rattle.py_expressions.specs.Tokens.{token, cmp_tokens, expr_tokens, or_tokens, and_tokens, not_tokens, cmp_tokens_of, sum_tokens, term_tokens, unary_tokens, prim_tokens, atom_tokens, exprs_tokens, rest_tokens, items_tokens, index_tokens, bound_tokens, pairs_tokens}
use Rattle.py_expressions.specs.Targets.{OneTarget, named, item, field, TargetRest, end_rest_target, last_target, more_target, Target, one_target, several_targets}
use Rattle.py_grammar.specs.Written.{Simple, expression, assign, augmented, del, pass, break, continue, return, return_value, raise, raise_value, assert, assert_message, import_module, Names, last_name, more_names, Params, no_params, params, params_comma, Naming, no_naming, naming, Kind, every_kind, one_kind, Base, no_base, empty_base, base}
use Rattle.py_grammar.specs.StatementTokens.{one_target_tokens, target_rest_tokens, target_tokens, simple_tokens, names_tokens, params_tokens, naming_tokens, kind_tokens, base_tokens}
use Rattle.py_grammar.specs.LineReader.{Head, simple_head, if_head, elif_head, else_head, while_head, for_head, try_head, except_head, with_head, def_head, class_head, global_head, head_tokens}
use Rattle.py_expressions.specs.Reader.{is_keyword}
use Rattle.py_grammar.specs.WellPlaced.{Around}
use Rattle.py_grammar.specs.ParsedSimple.{UnreadDel}
use Rattle.py_grammar.specs.ParsedHead.{behind_in, BeginsPlaced}
use Rattle.py_expressions.specs.Lies.{nowhere}

abbrev pub has_del : List Token → Bool
has_del [] = false
has_del (t ∷ ts) = is_keyword 12 t.kind || has_del ts

-- ---- tokens put together

both : (x y z : Bool) → (x || y) ≡ false → (y ≡ false → z ≡ false) → (x || z) ≡ false
both true y z is next = let no : true ≡ false = is in cc
both false y z is next = next is

pub without : (a b : List Token) → has_del a ≡ false → has_del b ≡ false → has_del (a ++ b) ≡ false
without [] b one other = other
without (t ∷ ts) b one other = both (is_keyword 12 t.kind) (has_del ts) (has_del (ts ++ b)) one (λ rest. without ts b rest other)

pub no_del_front : (a b : List Token) → has_del (a ++ b) ≡ false → has_del a ≡ false
no_del_front [] b is = refl
no_del_front (t ∷ ts) b is = both (is_keyword 12 t.kind) (has_del (ts ++ b)) (has_del ts) is (λ rest. no_del_front ts b rest)

or_true : (x y : Bool) → y ≡ true → (x || y) ≡ true
or_true true y is = refl
or_true false y is = is

has_inside : (opened : List Token) (spot : Spot) (inside : List Token) → has_del (opened ++ token (Keyword 12) spot ∷ inside) ≡ true
has_inside [] spot inside = refl
has_inside (t ∷ ts) spot inside = or_true (is_keyword 12 t.kind) _ (has_inside ts spot inside)

-- none stands there
pub del_absent : (front opened : List Token) (spot : Spot) (inside : List Token) → has_del front ≡ false → front ≡ opened ++ token (Keyword 12) spot ∷ inside → ⊥
del_absent front opened spot inside clear is = let no : true ≡ false = sym (has_inside opened spot inside) ∙ ap has_del (sym is) ∙ clear in cc

pub no_del_unread : (front : List Token) (t : Token) (fault : Fault) → has_del front ≡ false → UnreadDel front t fault
no_del_unread front t fault none_of = record { there = λ spot inside at e more same. absurd (del_absent front [] spot inside none_of at) }

-- ---- expressions

no_del_cmp : (op : CmpSign) → has_del (cmp_tokens op) ≡ false
no_del_cmp (equal at) = refl
no_del_cmp (unequal at) = refl
no_del_cmp (less at) = refl
no_del_cmp (less_equal at) = refl
no_del_cmp (greater at) = refl
no_del_cmp (greater_equal at) = refl
no_del_cmp (within at) = refl
no_del_cmp (not_within not_at in_at) = refl
no_del_cmp (same at) = refl
no_del_cmp (not_same is_at not_at) = refl

mutual
  pub no_del_expr : (e : Expr) → has_del (expr_tokens e) ≡ false
  no_del_expr (plain_expr e) = no_del_or e
  no_del_expr (choice chosen if_word test else_word other) = without (or_tokens chosen) _ (no_del_or chosen) (without (or_tokens test) _ (no_del_or test) (no_del_expr other))

  pub no_del_or : (e : Or) → has_del (or_tokens e) ≡ false
  no_del_or (plain_or e) = no_del_and e
  no_del_or (or_more left at right) = without (or_tokens left) _ (no_del_or left) (no_del_and right)

  no_del_and : (e : And) → has_del (and_tokens e) ≡ false
  no_del_and (plain_and e) = no_del_not e
  no_del_and (and_more left at right) = without (and_tokens left) _ (no_del_and left) (no_del_not right)

  no_del_not : (e : Not) → has_del (not_tokens e) ≡ false
  no_del_not (plain_not e) = no_del_comparison e
  no_del_not (not_of at e) = no_del_not e

  no_del_comparison : (e : Cmp) → has_del (cmp_tokens_of e) ≡ false
  no_del_comparison (plain_cmp e) = no_del_sum e
  no_del_comparison (compared left op right) = without (sum_tokens left) _ (no_del_sum left) (without (cmp_tokens op) (sum_tokens right) (no_del_cmp op) (no_del_sum right))

  pub no_del_sum : (e : Sum) → has_del (sum_tokens e) ≡ false
  no_del_sum (plain_sum e) = no_del_term e
  no_del_sum (sum_more left at op right) = without (sum_tokens left) _ (no_del_sum left) (no_del_term right)

  no_del_term : (e : Term) → has_del (term_tokens e) ≡ false
  no_del_term (plain_term e) = no_del_unary e
  no_del_term (term_more left at op right) = without (term_tokens left) _ (no_del_term left) (no_del_unary right)

  no_del_unary : (e : Unary) → has_del (unary_tokens e) ≡ false
  no_del_unary (plain_unary e) = no_del_prim e
  no_del_unary (signed at op e) = no_del_unary e

  pub no_del_prim : (e : Prim) → has_del (prim_tokens e) ≡ false
  no_del_prim (plain_prim e) = no_del_atom e
  no_del_prim (call callee opening arguments closing) = without (prim_tokens callee) _ (no_del_prim callee) (without (items_tokens arguments) _ (no_del_items arguments) refl)
  no_del_prim (part e opening index closing) = without (prim_tokens e) _ (no_del_prim e) (without (index_tokens index) _ (no_del_index index) refl)
  no_del_prim (attribute e dot name_at bytes) = without (prim_tokens e) _ (no_del_prim e) refl

  no_del_index : (e : Index) → has_del (index_tokens e) ≡ false
  no_del_index (one_index e) = no_del_exprs e
  no_del_index (range_index low colon high) = without (bound_tokens low) _ (no_del_bound low) (no_del_bound high)

  no_del_bound : (e : Bound) → has_del (bound_tokens e) ≡ false
  no_del_bound no_bound = refl
  no_del_bound (bound e) = no_del_expr e

  no_del_atom : (e : Atom) → has_del (atom_tokens e) ≡ false
  no_del_atom (name at bytes) = refl
  no_del_atom (number at n) = refl
  no_del_atom (text at bytes) = refl
  no_del_atom (none at) = refl
  no_del_atom (true_word at) = refl
  no_del_atom (false_word at) = refl
  no_del_atom (empty_tuple opening closing) = refl
  no_del_atom (group opening e closing) = without (exprs_tokens e) _ (no_del_exprs e) refl
  no_del_atom (list opening e closing) = without (items_tokens e) _ (no_del_items e) refl
  no_del_atom (dict opening pairs closing) = without (pairs_tokens pairs) _ (no_del_pairs pairs) refl

  pub no_del_exprs : (e : Exprs) → has_del (exprs_tokens e) ≡ false
  no_del_exprs (one_expr e) = no_del_expr e
  no_del_exprs (several e comma rest) = without (expr_tokens e) _ (no_del_expr e) (no_del_rest rest)

  no_del_rest : (e : Rest) → has_del (rest_tokens e) ≡ false
  no_del_rest end_rest = refl
  no_del_rest (last_rest e) = no_del_expr e
  no_del_rest (more_rest e comma rest) = without (expr_tokens e) _ (no_del_expr e) (no_del_rest rest)

  no_del_items : (e : Items) → has_del (items_tokens e) ≡ false
  no_del_items no_items = refl
  no_del_items (items e) = no_del_exprs e

  no_del_pairs : (e : Pairs) → has_del (pairs_tokens e) ≡ false
  no_del_pairs no_pairs = refl
  no_del_pairs (last_pair key colon value) = without (expr_tokens key) _ (no_del_expr key) (no_del_expr value)
  no_del_pairs (more_pairs key colon value comma rest) = without (expr_tokens key) _ (no_del_expr key) (without (expr_tokens value) _ (no_del_expr value) (no_del_pairs rest))

-- ---- targets and names

pub no_del_one_target : (t : OneTarget) → has_del (one_target_tokens t) ≡ false
no_del_one_target (named at bytes) = refl
no_del_one_target (item e opening index closing) = without (prim_tokens e) _ (no_del_prim e) (without (exprs_tokens index) _ (no_del_exprs index) refl)
no_del_one_target (field e dot name_at bytes) = without (prim_tokens e) _ (no_del_prim e) refl

no_del_target_rest : (r : TargetRest) → has_del (target_rest_tokens r) ≡ false
no_del_target_rest end_rest_target = refl
no_del_target_rest (last_target t) = no_del_one_target t
no_del_target_rest (more_target t comma rest) = without (one_target_tokens t) _ (no_del_one_target t) (no_del_target_rest rest)

pub no_del_target : (t : Target) → has_del (target_tokens t) ≡ false
no_del_target (one_target t) = no_del_one_target t
no_del_target (several_targets t comma rest) = without (one_target_tokens t) _ (no_del_one_target t) (no_del_target_rest rest)

pub no_del_names : (names : Names) → has_del (names_tokens names) ≡ false
no_del_names (last_name at bytes) = refl
no_del_names (more_names at bytes comma rest) = no_del_names rest

pub no_del_params : (given : Params) → has_del (params_tokens given) ≡ false
no_del_params no_params = refl
no_del_params (params names) = no_del_names names
no_del_params (params_comma names comma) = without (names_tokens names) _ (no_del_names names) refl

pub no_del_naming : (called : Naming) → has_del (naming_tokens called) ≡ false
no_del_naming no_naming = refl
no_del_naming (naming as_word name_at bytes) = refl

pub no_del_kind : (kind : Kind) → has_del (kind_tokens kind) ≡ false
no_del_kind every_kind = refl
no_del_kind (one_kind e called) = without (expr_tokens e) _ (no_del_expr e) (no_del_naming called)

pub no_del_base : (of : Base) → has_del (base_tokens of) ≡ false
no_del_base no_base = refl
no_del_base (empty_base opening closing) = refl
no_del_base (base opening name_at bytes closing) = refl

-- ---- lines

abbrev pub is_simple_head : Head → Bool
is_simple_head (simple_head s) = true
is_simple_head h = false

-- what begins a compound statement or a part of it, or a `global` line, has none before its `:`
pub no_del_head : (h : Head) → is_simple_head h ≡ false → behind_in h ≡ None → has_del (head_tokens h) ≡ false
no_del_head (simple_head s) compound empty = let no : true ≡ false = compound in cc
no_del_head (if_head at test colon None) compound empty = without (expr_tokens test) _ (no_del_expr test) refl
no_del_head (if_head at test colon (Some s)) compound empty = cc
no_del_head (elif_head at test colon None) compound empty = without (expr_tokens test) _ (no_del_expr test) refl
no_del_head (elif_head at test colon (Some s)) compound empty = cc
no_del_head (else_head at colon None) compound empty = refl
no_del_head (else_head at colon (Some s)) compound empty = cc
no_del_head (while_head at test colon None) compound empty = without (expr_tokens test) _ (no_del_expr test) refl
no_del_head (while_head at test colon (Some s)) compound empty = cc
no_del_head (for_head at t in_word e colon None) compound empty = without (target_tokens t) _ (no_del_target t) (without (exprs_tokens e) _ (no_del_exprs e) refl)
no_del_head (for_head at t in_word e colon (Some s)) compound empty = cc
no_del_head (try_head at colon None) compound empty = refl
no_del_head (try_head at colon (Some s)) compound empty = cc
no_del_head (except_head at kind colon None) compound empty = without (kind_tokens kind) _ (no_del_kind kind) refl
no_del_head (except_head at kind colon (Some s)) compound empty = cc
no_del_head (with_head at e called colon None) compound empty = without (expr_tokens e) _ (no_del_expr e) (without (naming_tokens called) _ (no_del_naming called) refl)
no_del_head (with_head at e called colon (Some s)) compound empty = cc
no_del_head (def_head at name_at bytes opening given closing colon None) compound empty = without (params_tokens given) _ (no_del_params given) refl
no_del_head (def_head at name_at bytes opening given closing colon (Some s)) compound empty = cc
no_del_head (class_head at name_at bytes of colon None) compound empty = without (base_tokens of) _ (no_del_base of) refl
no_del_head (class_head at name_at bytes of colon (Some s)) compound empty = cc
no_del_head (global_head at names) compound empty = no_del_names names

-- ---- simple statements

-- behind the first token of a statement there is none
no_del_tail : (t : Token) (ts front more opened : List Token) (spot : Spot) (inside : List Token) → has_del ts ≡ false → t ∷ ts ≡ front ++ more → front ≡ opened ++ token (Keyword 12) spot ∷ inside → opened ≡ []
no_del_tail t ts front more [] spot inside clear is at = refl
no_del_tail t ts front more (o ∷ opened) spot inside clear is at =
    absurd (del_absent ts opened spot (inside ++ more) clear (tail_same t o ts _ (is ∙ ap (λ xs. xs ++ more) at ∙ ap (λ xs. o ∷ xs) (append_assoc opened (token (Keyword 12) spot ∷ inside) more))))
  where
    tail_same : (a b : Token) (xs ys : List Token) → a ∷ xs ≡ b ∷ ys → xs ≡ ys
    tail_same a b xs ys is = cc

none_there : (ts front more opened : List Token) (spot : Spot) (inside : List Token) → has_del ts ≡ false → ts ≡ front ++ more → front ≡ opened ++ token (Keyword 12) spot ∷ inside → opened ≡ []
none_there ts front more opened spot inside clear is at = absurd (del_absent front opened spot inside (no_del_front front more (subst (λ xs. has_del xs ≡ false) is clear)) at)

in_simple : (s : Simple) (front more opened : List Token) (spot : Spot) (inside : List Token) → simple_tokens s ≡ front ++ more → front ≡ opened ++ token (Keyword 12) spot ∷ inside → opened ≡ []
in_simple (expression e) front more opened spot inside is at = none_there (exprs_tokens e) front more opened spot inside (no_del_exprs e) is at
in_simple (assign t equals e) front more opened spot inside is at = none_there _ front more opened spot inside (without (target_tokens t) _ (no_del_target t) (no_del_exprs e)) is at
in_simple (augmented t op sign e) front more opened spot inside is at = none_there _ front more opened spot inside (without (one_target_tokens t) _ (no_del_one_target t) (no_del_exprs e)) is at
in_simple (del word t) front more opened spot inside is at = no_del_tail _ (one_target_tokens t) front more opened spot inside (no_del_one_target t) is at
in_simple (pass word) front more opened spot inside is at = no_del_tail _ [] front more opened spot inside refl is at
in_simple (break word) front more opened spot inside is at = no_del_tail _ [] front more opened spot inside refl is at
in_simple (continue word) front more opened spot inside is at = no_del_tail _ [] front more opened spot inside refl is at
in_simple (return word) front more opened spot inside is at = no_del_tail _ [] front more opened spot inside refl is at
in_simple (return_value word e) front more opened spot inside is at = no_del_tail _ (exprs_tokens e) front more opened spot inside (no_del_exprs e) is at
in_simple (raise word) front more opened spot inside is at = no_del_tail _ [] front more opened spot inside refl is at
in_simple (raise_value word e) front more opened spot inside is at = no_del_tail _ (expr_tokens e) front more opened spot inside (no_del_expr e) is at
in_simple (assert word e) front more opened spot inside is at = no_del_tail _ (expr_tokens e) front more opened spot inside (no_del_expr e) is at
in_simple (assert_message word e comma message) front more opened spot inside is at =
    no_del_tail _ _ front more opened spot inside (without (expr_tokens e) _ (no_del_expr e) (no_del_expr message)) is at
in_simple (import_module word module_at bytes) front more opened spot inside is at = no_del_tail _ _ front more opened spot inside refl is at

-- a statement that has one begins with it
pub del_first : (around : Around) (front opened : List Token) (spot : Spot) (inside : List Token) → BeginsPlaced around front → front ≡ opened ++ token (Keyword 12) spot ∷ inside → opened ≡ []
del_first around front opened spot inside (inl b) at = let c = b nowhere in in_simple c.some front c.more opened spot inside c.tokens_are at
del_first around front opened spot inside (inr b) at = let c = b.1 nowhere in no_del_tail _ (expr_tokens c.some) front c.more opened spot inside (no_del_expr c.some) c.tokens_are at
