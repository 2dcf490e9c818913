-- The same of simple statements, and of the parts of compound ones.
use Rattle.std.proofs.Common.{◌++◌, refl}
use Rattle.std.specs.Prelude.{codes}
use Rattle.py_expressions.specs.Concrete.{Spot}
use Rattle.py_grammar.specs.Written.{AugSign, add_to, take_from, multiply_by, divide_by, leave_of, Simple, expression, assign, augmented, del, pass, break, continue, return, return_value, raise, raise_value, assert, assert_message, import_module, Names, last_name, more_names, Params, no_params, params, params_comma, Naming, no_naming, naming, Kind, every_kind, one_kind, Base, no_base, empty_base, base}
use Rattle.py_expressions.specs.Targets.{OneTarget, named, item, field, TargetRest, end_rest_target, last_target, more_target, Target, one_target, several_targets}
use Rattle.py_expressions.specs.Tokens.{keyword, sign, word, expr_tokens, prim_tokens, exprs_tokens}
use Rattle.py_grammar.specs.StatementTokens.{aug_sign, one_target_tokens, target_rest_tokens, target_tokens, simple_tokens, names_tokens, params_tokens, naming_tokens, kind_tokens, base_tokens}
use Rattle.slice_text.proofs.Balanced.{Passes, both, round, square, expr_tokens_passes, prim_tokens_passes, exprs_tokens_passes}

aug_passes : (op : AugSign) (at : Spot) → Passes (sign (aug_sign op) at)
aug_passes add_to at = λ rest st. refl
aug_passes take_from at = λ rest st. refl
aug_passes multiply_by at = λ rest st. refl
aug_passes divide_by at = λ rest st. refl
aug_passes leave_of at = λ rest st. refl

pub one_target_tokens_passes : (x : OneTarget) → Passes (one_target_tokens x)
one_target_tokens_passes (named at bytes) = λ rest st. refl
one_target_tokens_passes (item e opening index closing) = both (prim_tokens e) (sign (codes "[") opening ++ (exprs_tokens index ++ sign (codes "]") closing)) (prim_tokens_passes e) (square opening closing (exprs_tokens index) (exprs_tokens_passes index))
one_target_tokens_passes (field e dot name_at bytes) = both (prim_tokens e) (sign (codes ".") dot ++ word bytes name_at) (prim_tokens_passes e) (both (sign (codes ".") dot) (word bytes name_at) (λ rest st. refl) (λ rest st. refl))

pub target_rest_tokens_passes : (x : TargetRest) → Passes (target_rest_tokens x)
target_rest_tokens_passes end_rest_target = λ rest st. refl
target_rest_tokens_passes (last_target t) = one_target_tokens_passes t
target_rest_tokens_passes (more_target t comma rest) = both (one_target_tokens t) (sign (codes ",") comma ++ target_rest_tokens rest) (one_target_tokens_passes t) (both (sign (codes ",") comma) (target_rest_tokens rest) (λ rest st. refl) (target_rest_tokens_passes rest))

pub target_tokens_passes : (x : Target) → Passes (target_tokens x)
target_tokens_passes (one_target t) = one_target_tokens_passes t
target_tokens_passes (several_targets t comma rest) = both (one_target_tokens t) (sign (codes ",") comma ++ target_rest_tokens rest) (one_target_tokens_passes t) (both (sign (codes ",") comma) (target_rest_tokens rest) (λ rest st. refl) (target_rest_tokens_passes rest))

pub simple_tokens_passes : (x : Simple) → Passes (simple_tokens x)
simple_tokens_passes (expression e) = exprs_tokens_passes e
simple_tokens_passes (assign t equals e) = both (target_tokens t) (sign (codes "=") equals ++ exprs_tokens e) (target_tokens_passes t) (both (sign (codes "=") equals) (exprs_tokens e) (λ rest st. refl) (exprs_tokens_passes e))
simple_tokens_passes (augmented t op at e) = both (one_target_tokens t) (sign (aug_sign op) at ++ exprs_tokens e) (one_target_tokens_passes t) (both (sign (aug_sign op) at) (exprs_tokens e) (aug_passes op at) (exprs_tokens_passes e))
simple_tokens_passes (del at t) = both (keyword (codes "del") at) (one_target_tokens t) (λ rest st. refl) (one_target_tokens_passes t)
simple_tokens_passes (pass at) = λ rest st. refl
simple_tokens_passes (break at) = λ rest st. refl
simple_tokens_passes (continue at) = λ rest st. refl
simple_tokens_passes (return at) = λ rest st. refl
simple_tokens_passes (return_value at e) = both (keyword (codes "return") at) (exprs_tokens e) (λ rest st. refl) (exprs_tokens_passes e)
simple_tokens_passes (raise at) = λ rest st. refl
simple_tokens_passes (raise_value at e) = both (keyword (codes "raise") at) (expr_tokens e) (λ rest st. refl) (expr_tokens_passes e)
simple_tokens_passes (assert at e) = both (keyword (codes "assert") at) (expr_tokens e) (λ rest st. refl) (expr_tokens_passes e)
simple_tokens_passes (assert_message at e comma message) = both (keyword (codes "assert") at) (expr_tokens e ++ (sign (codes ",") comma ++ expr_tokens message)) (λ rest st. refl) (both (expr_tokens e) (sign (codes ",") comma ++ expr_tokens message) (expr_tokens_passes e) (both (sign (codes ",") comma) (expr_tokens message) (λ rest st. refl) (expr_tokens_passes message)))
simple_tokens_passes (import_module at module_at bytes) = both (keyword (codes "import") at) (word bytes module_at) (λ rest st. refl) (λ rest st. refl)

pub names_tokens_passes : (x : Names) → Passes (names_tokens x)
names_tokens_passes (last_name at bytes) = λ rest st. refl
names_tokens_passes (more_names at bytes comma rest) = both (word bytes at) (sign (codes ",") comma ++ names_tokens rest) (λ rest st. refl) (both (sign (codes ",") comma) (names_tokens rest) (λ rest st. refl) (names_tokens_passes rest))

pub params_tokens_passes : (x : Params) → Passes (params_tokens x)
params_tokens_passes no_params = λ rest st. refl
params_tokens_passes (params names) = names_tokens_passes names
params_tokens_passes (params_comma names comma) = both (names_tokens names) (sign (codes ",") comma) (names_tokens_passes names) (λ rest st. refl)

pub naming_tokens_passes : (x : Naming) → Passes (naming_tokens x)
naming_tokens_passes no_naming = λ rest st. refl
naming_tokens_passes (naming as_word name_at bytes) = both (keyword (codes "as") as_word) (word bytes name_at) (λ rest st. refl) (λ rest st. refl)

pub kind_tokens_passes : (x : Kind) → Passes (kind_tokens x)
kind_tokens_passes every_kind = λ rest st. refl
kind_tokens_passes (one_kind e name) = both (expr_tokens e) (naming_tokens name) (expr_tokens_passes e) (naming_tokens_passes name)

pub base_tokens_passes : (x : Base) → Passes (base_tokens x)
base_tokens_passes no_base = λ rest st. refl
base_tokens_passes (empty_base opening closing) = λ rest st. refl
base_tokens_passes (base opening name_at bytes closing) = round opening closing (word bytes name_at) (λ rest st. refl)
