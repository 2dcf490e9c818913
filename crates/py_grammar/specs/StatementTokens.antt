-- The tokens of statements as they are written.
use Rattle.std.specs.Prelude.{ℕ, List, [], ◌++◌, codes}
use Rattle.py_lines.specs.declared.parts.Token.{Token}
use Rattle.py_expressions.specs.Tokens.{keyword, sign, word, expr_tokens, prim_tokens, exprs_tokens}
use Rattle.py_grammar.specs.Written.{AugSign, add_to, take_from, multiply_by, divide_by, leave_of, Simple, expression, assign, augmented, del, pass, break, continue, return, return_value, raise, raise_value, assert, assert_message, import_module, Names, last_name, more_names, Params, no_params, params, params_comma, Naming, no_naming, naming, Kind, every_kind, one_kind, Base, no_base, empty_base, base, Suite, on_line, block, DefSuite, def_line, def_block}
use Rattle.py_expressions.specs.Targets.{OneTarget, named, item, field, TargetRest, end_rest_target, last_target, more_target, Target, one_target, several_targets}

abbrev pub aug_sign : AugSign → List ℕ
aug_sign add_to = codes "+="
aug_sign take_from = codes "-="
aug_sign multiply_by = codes "*="
aug_sign divide_by = codes "//="
aug_sign leave_of = codes "%="

abbrev pub one_target_tokens : OneTarget → List Token
one_target_tokens (named at bytes) = word bytes at
one_target_tokens (item e opening index closing) = prim_tokens e ++ (sign (codes "[") opening ++ (exprs_tokens index ++ sign (codes "]") closing))
one_target_tokens (field e dot name_at bytes) = prim_tokens e ++ (sign (codes ".") dot ++ word bytes name_at)

abbrev pub target_rest_tokens : TargetRest → List Token
target_rest_tokens end_rest_target = []
target_rest_tokens (last_target t) = one_target_tokens t
target_rest_tokens (more_target t comma rest) = one_target_tokens t ++ (sign (codes ",") comma ++ target_rest_tokens rest)

abbrev pub target_tokens : Target → List Token
target_tokens (one_target t) = one_target_tokens t
target_tokens (several_targets t comma rest) = one_target_tokens t ++ (sign (codes ",") comma ++ target_rest_tokens rest)

abbrev pub simple_tokens : Simple → List Token
simple_tokens (expression e) = exprs_tokens e
simple_tokens (assign t equals e) = target_tokens t ++ (sign (codes "=") equals ++ exprs_tokens e)
simple_tokens (augmented t op at e) = one_target_tokens t ++ (sign (aug_sign op) at ++ exprs_tokens e)
simple_tokens (del at t) = keyword (codes "del") at ++ one_target_tokens t
simple_tokens (pass at) = keyword (codes "pass") at
simple_tokens (break at) = keyword (codes "break") at
simple_tokens (continue at) = keyword (codes "continue") at
simple_tokens (return at) = keyword (codes "return") at
simple_tokens (return_value at e) = keyword (codes "return") at ++ exprs_tokens e
simple_tokens (raise at) = keyword (codes "raise") at
simple_tokens (raise_value at e) = keyword (codes "raise") at ++ expr_tokens e
simple_tokens (assert at e) = keyword (codes "assert") at ++ expr_tokens e
simple_tokens (assert_message at e comma message) = keyword (codes "assert") at ++ (expr_tokens e ++ (sign (codes ",") comma ++ expr_tokens message))
simple_tokens (import_module at module_at bytes) = keyword (codes "import") at ++ word bytes module_at

abbrev pub names_tokens : Names → List Token
names_tokens (last_name at bytes) = word bytes at
names_tokens (more_names at bytes comma rest) = word bytes at ++ (sign (codes ",") comma ++ names_tokens rest)

abbrev pub params_tokens : Params → List Token
params_tokens no_params = []
params_tokens (params names) = names_tokens names
params_tokens (params_comma names comma) = names_tokens names ++ sign (codes ",") comma

abbrev pub naming_tokens : Naming → List Token
naming_tokens no_naming = []
naming_tokens (naming as_word name_at bytes) = keyword (codes "as") as_word ++ word bytes name_at

abbrev pub kind_tokens : Kind → List Token
kind_tokens every_kind = []
kind_tokens (one_kind e name) = expr_tokens e ++ naming_tokens name

abbrev pub base_tokens : Base → List Token
base_tokens no_base = []
base_tokens (empty_base opening closing) = sign (codes "(") opening ++ sign (codes ")") closing
base_tokens (base opening name_at bytes closing) = sign (codes "(") opening ++ (word bytes name_at ++ sign (codes ")") closing)

-- what stands behind the `:` on its line
abbrev pub suite_tokens : Suite → List Token
suite_tokens (on_line s) = simple_tokens s
suite_tokens (block inside body) = []

abbrev pub def_suite_tokens : DefSuite → List Token
def_suite_tokens (def_line s) = simple_tokens s
def_suite_tokens (def_block inside body) = []
