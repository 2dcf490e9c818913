-- How deep the expressions of a statement that begin at a place lie (this project's profile).
use Rattle.py_expressions.specs.Lies.{is_place, prim_lies, exprs_lies, begins, over, expr_lies, deeper_of, prim_deepest, exprs_deepest, nowhere, expr_deepest}
use Rattle.std.specs.Prelude.{ℕ, max}
use Rattle.prov_base.specs.declared.place.Pos.{Pos}
use Rattle.py_expressions.specs.Targets.{OneTarget, named, item, field, TargetRest, end_rest_target, last_target, more_target, Target, one_target, several_targets}
use Rattle.py_grammar.specs.Written.{Simple, expression, assign, augmented, del, return_value, raise_value, assert, assert_message, Kind, every_kind, one_kind, Base, base}
use Rattle.py_grammar.specs.StatementTokens.{one_target_tokens}
use Rattle.py_expressions.specs.Tokens.{prim_tokens}
use Rattle.py_expressions.specs.Depth.{expr_depth, prim_depth, exprs_depth}
use Rattle.py_grammar.specs.StatementDepth.{one_target_depth, target_rest_depth, target_depth}

-- a target counts as the expression of its form, and several as a tuple of them
abbrev pub one_target_lies : OneTarget → Pos → ℕ
one_target_lies (named spot bytes) at = over (is_place spot.at at) 0
one_target_lies (item e opening index closing) at = over (begins (prim_tokens e) at) (max (prim_lies e at) (exprs_lies index at))
one_target_lies (field e dot name_at bytes) at = over (begins (prim_tokens e) at) (prim_lies e at)

abbrev pub target_rest_lies : TargetRest → Pos → ℕ
target_rest_lies end_rest_target at = 0
target_rest_lies (last_target t) at = one_target_lies t at
target_rest_lies (more_target t comma rest) at = max (one_target_lies t at) (target_rest_lies rest at)

abbrev pub target_lies : Target → Pos → ℕ
target_lies (one_target t) at = one_target_lies t at
target_lies (several_targets t comma rest) at = over (begins (one_target_tokens t) at) (max (one_target_lies t at) (target_rest_lies rest at))

abbrev pub simple_lies : Simple → Pos → ℕ
simple_lies (expression e) at = exprs_lies e at
simple_lies (assign t equals e) at = max (target_lies t at) (exprs_lies e at)
simple_lies (augmented t op sign e) at = max (one_target_lies t at) (exprs_lies e at)
simple_lies (del word t) at = one_target_lies t at
simple_lies (return_value word e) at = exprs_lies e at
simple_lies (raise_value word e) at = expr_lies e at
simple_lies (assert word e) at = expr_lies e at
simple_lies (assert_message word e comma message) at = max (expr_lies e at) (expr_lies message at)
simple_lies _ at = 0

abbrev pub kind_lies : Kind → Pos → ℕ
kind_lies every_kind at = 0
kind_lies (one_kind e called) at = expr_lies e at

-- the class that another is made of
abbrev pub base_lies : Base → Pos → ℕ
base_lies (base opening name_at bytes closing) at = over (is_place name_at.at at) 0
base_lies _ at = 0

abbrev pub one_target_deepest : OneTarget → Pos
one_target_deepest (named spot bytes) = spot.at
one_target_deepest (item e opening index closing) = deeper_of (prim_depth e) (prim_deepest e) (exprs_depth index) (exprs_deepest index)
one_target_deepest (field e dot name_at bytes) = prim_deepest e

abbrev pub target_rest_deepest : TargetRest → Pos
target_rest_deepest end_rest_target = nowhere
target_rest_deepest (last_target t) = one_target_deepest t
target_rest_deepest (more_target t comma rest) = deeper_of (one_target_depth t) (one_target_deepest t) (target_rest_depth rest) (target_rest_deepest rest)

abbrev pub target_deepest : Target → Pos
target_deepest (one_target t) = one_target_deepest t
target_deepest (several_targets t comma rest) = deeper_of (one_target_depth t) (one_target_deepest t) (target_rest_depth rest) (target_rest_deepest rest)

abbrev pub simple_deepest : Simple → Pos
simple_deepest (expression e) = exprs_deepest e
simple_deepest (assign t equals e) = deeper_of (target_depth t) (target_deepest t) (exprs_depth e) (exprs_deepest e)
simple_deepest (augmented t op sign e) = deeper_of (one_target_depth t) (one_target_deepest t) (exprs_depth e) (exprs_deepest e)
simple_deepest (del word t) = one_target_deepest t
simple_deepest (return_value word e) = exprs_deepest e
simple_deepest (raise_value word e) = expr_deepest e
simple_deepest (assert word e) = expr_deepest e
simple_deepest (assert_message word e comma message) = deeper_of (expr_depth e) (expr_deepest e) (expr_depth message) (expr_deepest message)
simple_deepest _ = nowhere

abbrev pub kind_deepest : Kind → Pos
kind_deepest every_kind = nowhere
kind_deepest (one_kind e called) = expr_deepest e
