-- Moved simple statements, and moved parts of compound ones, have the moved tokens and the same trees.
use Rattle.std.proofs.Common.{◌≡◌, ◌++◌, map, refl}
use Rattle.std.specs.Prelude.{codes}
use Rattle.py_expressions.specs.Targets.{OneTarget, named, item, field, TargetRest, end_rest_target, last_target, more_target, Target, one_target, several_targets}
use Rattle.py_grammar.specs.Written.{Simple, expression, assign, augmented, del, pass, break, continue, return, return_value, raise, raise_value, assert, assert_message, import_module, Names, last_name, more_names, Params, no_params, params, params_comma, Naming, no_naming, naming, Kind, every_kind, one_kind, Base, no_base, empty_base, base}
use Rattle.py_expressions.specs.Tokens.{keyword, sign, word, expr_tokens, prim_tokens, exprs_tokens}
use Rattle.py_grammar.specs.StatementTokens.{aug_sign, one_target_tokens, target_rest_tokens, target_tokens, simple_tokens, names_tokens, params_tokens, naming_tokens, kind_tokens, base_tokens}
use Rattle.py_grammar.specs.StatementTrees.{one_target_tree, target_rest_tree, target_tree, simple_form, names_list, params_list, naming_bound, kind_class, kind_bound, base_tree}
use Rattle.slice_text.proofs.Moved.{Move, moved_spot, moved_token, moved_expr, moved_prim, moved_exprs, moved_one_target, moved_target_rest, moved_target, moved_simple, moved_names, moved_params, moved_naming, moved_kind, moved_base}
use Rattle.slice_text.proofs.MovedTokens.{both, expr_tokens_moved, prim_tokens_moved, exprs_tokens_moved}
use Rattle.slice_text.proofs.MovedTrees.{expr_tree_same, prim_tree_same, exprs_tree_same}

pub one_target_tokens_moved : (m : Move) (x : OneTarget) → one_target_tokens (moved_one_target m x) ≡ map (moved_token m) (one_target_tokens x)
one_target_tokens_moved m (named at bytes) = refl
one_target_tokens_moved m (item e opening index closing) = both m (prim_tokens e) (sign (codes "[") opening ++ (exprs_tokens index ++ sign (codes "]") closing)) (prim_tokens (moved_prim m e)) (sign (codes "[") (moved_spot m opening) ++ (exprs_tokens (moved_exprs m index) ++ sign (codes "]") (moved_spot m closing))) (prim_tokens_moved m e) (both m (sign (codes "[") opening) (exprs_tokens index ++ sign (codes "]") closing) (sign (codes "[") (moved_spot m opening)) (exprs_tokens (moved_exprs m index) ++ sign (codes "]") (moved_spot m closing)) refl (both m (exprs_tokens index) (sign (codes "]") closing) (exprs_tokens (moved_exprs m index)) (sign (codes "]") (moved_spot m closing)) (exprs_tokens_moved m index) refl))
one_target_tokens_moved m (field e dot name_at bytes) = both m (prim_tokens e) (sign (codes ".") dot ++ word bytes name_at) (prim_tokens (moved_prim m e)) (sign (codes ".") (moved_spot m dot) ++ word bytes (moved_spot m name_at)) (prim_tokens_moved m e) (both m (sign (codes ".") dot) (word bytes name_at) (sign (codes ".") (moved_spot m dot)) (word bytes (moved_spot m name_at)) refl refl)

pub target_rest_tokens_moved : (m : Move) (x : TargetRest) → target_rest_tokens (moved_target_rest m x) ≡ map (moved_token m) (target_rest_tokens x)
target_rest_tokens_moved m end_rest_target = refl
target_rest_tokens_moved m (last_target t) = one_target_tokens_moved m t
target_rest_tokens_moved m (more_target t comma rest) = both m (one_target_tokens t) (sign (codes ",") comma ++ target_rest_tokens rest) (one_target_tokens (moved_one_target m t)) (sign (codes ",") (moved_spot m comma) ++ target_rest_tokens (moved_target_rest m rest)) (one_target_tokens_moved m t) (both m (sign (codes ",") comma) (target_rest_tokens rest) (sign (codes ",") (moved_spot m comma)) (target_rest_tokens (moved_target_rest m rest)) refl (target_rest_tokens_moved m rest))

pub target_tokens_moved : (m : Move) (x : Target) → target_tokens (moved_target m x) ≡ map (moved_token m) (target_tokens x)
target_tokens_moved m (one_target t) = one_target_tokens_moved m t
target_tokens_moved m (several_targets t comma rest) = both m (one_target_tokens t) (sign (codes ",") comma ++ target_rest_tokens rest) (one_target_tokens (moved_one_target m t)) (sign (codes ",") (moved_spot m comma) ++ target_rest_tokens (moved_target_rest m rest)) (one_target_tokens_moved m t) (both m (sign (codes ",") comma) (target_rest_tokens rest) (sign (codes ",") (moved_spot m comma)) (target_rest_tokens (moved_target_rest m rest)) refl (target_rest_tokens_moved m rest))

pub simple_tokens_moved : (m : Move) (x : Simple) → simple_tokens (moved_simple m x) ≡ map (moved_token m) (simple_tokens x)
simple_tokens_moved m (expression e) = exprs_tokens_moved m e
simple_tokens_moved m (assign t equals e) = both m (target_tokens t) (sign (codes "=") equals ++ exprs_tokens e) (target_tokens (moved_target m t)) (sign (codes "=") (moved_spot m equals) ++ exprs_tokens (moved_exprs m e)) (target_tokens_moved m t) (both m (sign (codes "=") equals) (exprs_tokens e) (sign (codes "=") (moved_spot m equals)) (exprs_tokens (moved_exprs m e)) refl (exprs_tokens_moved m e))
simple_tokens_moved m (augmented t op at e) = both m (one_target_tokens t) (sign (aug_sign op) at ++ exprs_tokens e) (one_target_tokens (moved_one_target m t)) (sign (aug_sign op) (moved_spot m at) ++ exprs_tokens (moved_exprs m e)) (one_target_tokens_moved m t) (both m (sign (aug_sign op) at) (exprs_tokens e) (sign (aug_sign op) (moved_spot m at)) (exprs_tokens (moved_exprs m e)) refl (exprs_tokens_moved m e))
simple_tokens_moved m (del at t) = both m (keyword (codes "del") at) (one_target_tokens t) (keyword (codes "del") (moved_spot m at)) (one_target_tokens (moved_one_target m t)) refl (one_target_tokens_moved m t)
simple_tokens_moved m (pass at) = refl
simple_tokens_moved m (break at) = refl
simple_tokens_moved m (continue at) = refl
simple_tokens_moved m (return at) = refl
simple_tokens_moved m (return_value at e) = both m (keyword (codes "return") at) (exprs_tokens e) (keyword (codes "return") (moved_spot m at)) (exprs_tokens (moved_exprs m e)) refl (exprs_tokens_moved m e)
simple_tokens_moved m (raise at) = refl
simple_tokens_moved m (raise_value at e) = both m (keyword (codes "raise") at) (expr_tokens e) (keyword (codes "raise") (moved_spot m at)) (expr_tokens (moved_expr m e)) refl (expr_tokens_moved m e)
simple_tokens_moved m (assert at e) = both m (keyword (codes "assert") at) (expr_tokens e) (keyword (codes "assert") (moved_spot m at)) (expr_tokens (moved_expr m e)) refl (expr_tokens_moved m e)
simple_tokens_moved m (assert_message at e comma message) = both m (keyword (codes "assert") at) (expr_tokens e ++ (sign (codes ",") comma ++ expr_tokens message)) (keyword (codes "assert") (moved_spot m at)) (expr_tokens (moved_expr m e) ++ (sign (codes ",") (moved_spot m comma) ++ expr_tokens (moved_expr m message))) refl (both m (expr_tokens e) (sign (codes ",") comma ++ expr_tokens message) (expr_tokens (moved_expr m e)) (sign (codes ",") (moved_spot m comma) ++ expr_tokens (moved_expr m message)) (expr_tokens_moved m e) (both m (sign (codes ",") comma) (expr_tokens message) (sign (codes ",") (moved_spot m comma)) (expr_tokens (moved_expr m message)) refl (expr_tokens_moved m message)))
simple_tokens_moved m (import_module at module_at bytes) = both m (keyword (codes "import") at) (word bytes module_at) (keyword (codes "import") (moved_spot m at)) (word bytes (moved_spot m module_at)) refl refl

pub names_tokens_moved : (m : Move) (x : Names) → names_tokens (moved_names m x) ≡ map (moved_token m) (names_tokens x)
names_tokens_moved m (last_name at bytes) = refl
names_tokens_moved m (more_names at bytes comma rest) = both m (word bytes at) (sign (codes ",") comma ++ names_tokens rest) (word bytes (moved_spot m at)) (sign (codes ",") (moved_spot m comma) ++ names_tokens (moved_names m rest)) refl (both m (sign (codes ",") comma) (names_tokens rest) (sign (codes ",") (moved_spot m comma)) (names_tokens (moved_names m rest)) refl (names_tokens_moved m rest))

pub params_tokens_moved : (m : Move) (x : Params) → params_tokens (moved_params m x) ≡ map (moved_token m) (params_tokens x)
params_tokens_moved m no_params = refl
params_tokens_moved m (params names) = names_tokens_moved m names
params_tokens_moved m (params_comma names comma) = both m (names_tokens names) (sign (codes ",") comma) (names_tokens (moved_names m names)) (sign (codes ",") (moved_spot m comma)) (names_tokens_moved m names) refl

pub naming_tokens_moved : (m : Move) (x : Naming) → naming_tokens (moved_naming m x) ≡ map (moved_token m) (naming_tokens x)
naming_tokens_moved m no_naming = refl
naming_tokens_moved m (naming as_word name_at bytes) = both m (keyword (codes "as") as_word) (word bytes name_at) (keyword (codes "as") (moved_spot m as_word)) (word bytes (moved_spot m name_at)) refl refl

pub kind_tokens_moved : (m : Move) (x : Kind) → kind_tokens (moved_kind m x) ≡ map (moved_token m) (kind_tokens x)
kind_tokens_moved m every_kind = refl
kind_tokens_moved m (one_kind e name) = both m (expr_tokens e) (naming_tokens name) (expr_tokens (moved_expr m e)) (naming_tokens (moved_naming m name)) (expr_tokens_moved m e) (naming_tokens_moved m name)

pub base_tokens_moved : (m : Move) (x : Base) → base_tokens (moved_base m x) ≡ map (moved_token m) (base_tokens x)
base_tokens_moved m no_base = refl
base_tokens_moved m (empty_base opening closing) = both m (sign (codes "(") opening) (sign (codes ")") closing) (sign (codes "(") (moved_spot m opening)) (sign (codes ")") (moved_spot m closing)) refl refl
base_tokens_moved m (base opening name_at bytes closing) = both m (sign (codes "(") opening) (word bytes name_at ++ sign (codes ")") closing) (sign (codes "(") (moved_spot m opening)) (word bytes (moved_spot m name_at) ++ sign (codes ")") (moved_spot m closing)) refl (both m (word bytes name_at) (sign (codes ")") closing) (word bytes (moved_spot m name_at)) (sign (codes ")") (moved_spot m closing)) refl refl)

pub one_target_tree_same : (m : Move) (x : OneTarget) → one_target_tree (moved_one_target m x) ≡ one_target_tree x
one_target_tree_same m (named at bytes) = refl
one_target_tree_same m (item e opening index closing) = rw (prim_tree_same m e, exprs_tree_same m index)
one_target_tree_same m (field e dot name_at bytes) = rw (prim_tree_same m e)

pub target_rest_tree_same : (m : Move) (x : TargetRest) → target_rest_tree (moved_target_rest m x) ≡ target_rest_tree x
target_rest_tree_same m end_rest_target = refl
target_rest_tree_same m (last_target t) = rw (one_target_tree_same m t)
target_rest_tree_same m (more_target t comma rest) = rw (one_target_tree_same m t, target_rest_tree_same m rest)

pub target_tree_same : (m : Move) (x : Target) → target_tree (moved_target m x) ≡ target_tree x
target_tree_same m (one_target t) = one_target_tree_same m t
target_tree_same m (several_targets t comma rest) = rw (one_target_tree_same m t, target_rest_tree_same m rest)

pub simple_form_same : (m : Move) (x : Simple) → simple_form (moved_simple m x) ≡ simple_form x
simple_form_same m (expression e) = rw (exprs_tree_same m e)
simple_form_same m (assign t equals e) = rw (exprs_tree_same m e, target_tree_same m t)
simple_form_same m (augmented t op at e) = rw (exprs_tree_same m e, one_target_tree_same m t)
simple_form_same m (del at t) = rw (one_target_tree_same m t)
simple_form_same m (pass at) = refl
simple_form_same m (break at) = refl
simple_form_same m (continue at) = refl
simple_form_same m (return at) = refl
simple_form_same m (return_value at e) = rw (exprs_tree_same m e)
simple_form_same m (raise at) = refl
simple_form_same m (raise_value at e) = rw (expr_tree_same m e)
simple_form_same m (assert at e) = rw (expr_tree_same m e)
simple_form_same m (assert_message at e comma message) = rw (expr_tree_same m e, expr_tree_same m message)
simple_form_same m (import_module at module_at bytes) = refl

pub names_list_same : (m : Move) (x : Names) → names_list (moved_names m x) ≡ names_list x
names_list_same m (last_name at bytes) = refl
names_list_same m (more_names at bytes comma rest) = rw (names_list_same m rest)

pub params_list_same : (m : Move) (x : Params) → params_list (moved_params m x) ≡ params_list x
params_list_same m no_params = refl
params_list_same m (params names) = names_list_same m names
params_list_same m (params_comma names comma) = names_list_same m names

pub naming_bound_same : (m : Move) (x : Naming) → naming_bound (moved_naming m x) ≡ naming_bound x
naming_bound_same m no_naming = refl
naming_bound_same m (naming as_word name_at bytes) = refl

pub kind_class_same : (m : Move) (x : Kind) → kind_class (moved_kind m x) ≡ kind_class x
kind_class_same m every_kind = refl
kind_class_same m (one_kind e name) = rw (expr_tree_same m e)

pub kind_bound_same : (m : Move) (x : Kind) → kind_bound (moved_kind m x) ≡ kind_bound x
kind_bound_same m every_kind = refl
kind_bound_same m (one_kind e name) = naming_bound_same m name

pub base_tree_same : (m : Move) (x : Base) → base_tree (moved_base m x) ≡ base_tree x
base_tree_same m no_base = refl
base_tree_same m (empty_base opening closing) = refl
base_tree_same m (base opening name_at bytes closing) = refl
