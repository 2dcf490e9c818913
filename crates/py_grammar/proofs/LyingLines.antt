-- How deep the expressions of statements and lines lie that begin at a place: never deeper than they go.
use Rattle.std.proofs.Common.{◌≤◌, Option, Some, None, arith}
use Rattle.prov_base.specs.declared.place.Pos.{Pos}
use Rattle.py_expressions.specs.Targets.{OneTarget, named, item, field, TargetRest, end_rest_target, last_target, more_target, Target, one_target, several_targets}
use Rattle.py_grammar.specs.Written.{Simple, expression, assign, augmented, del, pass, break, continue, return, return_value, raise, raise_value, assert, assert_message, import_module, Kind, every_kind, one_kind, Base, no_base, empty_base, base}
use Rattle.py_grammar.specs.StatementDepth.{one_target_depth, target_rest_depth, target_depth, simple_depth, kind_depth}
use Rattle.py_grammar.specs.StatementLies.{one_target_lies, target_rest_lies, target_lies, simple_lies, kind_lies, base_lies}
use Rattle.py_grammar.specs.LineReader.{Head, simple_head, if_head, elif_head, else_head, while_head, for_head, try_head, except_head, with_head, def_head, class_head, global_head}
use Rattle.py_grammar.specs.ParsedHead.{behind_depth, behind_lies, head_depth, head_lies}
use Rattle.py_expressions.proofs.Lying.{over_low, both_low, expr_low, exprs_low, prim_low}

pub one_target_low : (t : OneTarget) (at : Pos) → one_target_lies t at ≤ one_target_depth t
one_target_low (named spot bytes) at = over_low _ 0 0 (omega arith)
one_target_low (item e opening index closing) at = over_low _ _ _ (both_low _ _ _ _ (prim_low e at) (exprs_low index at))
one_target_low (field e dot name_at bytes) at = over_low _ _ _ (prim_low e at)

pub target_rest_low : (t : TargetRest) (at : Pos) → target_rest_lies t at ≤ target_rest_depth t
target_rest_low end_rest_target at = omega arith
target_rest_low (last_target t) at = one_target_low t at
target_rest_low (more_target t comma rest) at = both_low _ _ _ _ (one_target_low t at) (target_rest_low rest at)

pub target_low : (t : Target) (at : Pos) → target_lies t at ≤ target_depth t
target_low (one_target t) at = one_target_low t at
target_low (several_targets t comma rest) at = over_low _ _ _ (both_low _ _ _ _ (one_target_low t at) (target_rest_low rest at))

pub simple_low : (s : Simple) (at : Pos) → simple_lies s at ≤ simple_depth s
simple_low (expression e) at = exprs_low e at
simple_low (assign t equals e) at = both_low _ _ _ _ (target_low t at) (exprs_low e at)
simple_low (augmented t op sign e) at = both_low _ _ _ _ (one_target_low t at) (exprs_low e at)
simple_low (del word t) at = one_target_low t at
simple_low (return_value word e) at = exprs_low e at
simple_low (raise_value word e) at = expr_low e at
simple_low (assert word e) at = expr_low e at
simple_low (assert_message word e comma message) at = both_low _ _ _ _ (expr_low e at) (expr_low message at)
simple_low (pass word) at = omega arith
simple_low (break word) at = omega arith
simple_low (continue word) at = omega arith
simple_low (return word) at = omega arith
simple_low (raise word) at = omega arith
simple_low (import_module a b c) at = omega arith

behind_low : (b : Option Simple) (at : Pos) → behind_lies b at ≤ behind_depth b
behind_low None at = omega arith
behind_low (Some s) at = simple_low s at

kind_low : (k : Kind) (at : Pos) → kind_lies k at ≤ kind_depth k
kind_low every_kind at = omega arith
kind_low (one_kind e called) at = expr_low e at

pub base_low : (b : Base) (at : Pos) → base_lies b at ≤ 1
base_low no_base at = omega arith
base_low (empty_base opening closing) at = omega arith
base_low (base opening name_at bytes closing) at = over_low _ 0 0 (omega arith)

pub head_low : (h : Head) (at : Pos) → head_lies h at ≤ head_depth h
head_low (simple_head s) at = simple_low s at
head_low (if_head word test colon behind) at = both_low _ _ _ _ (expr_low test at) (behind_low behind at)
head_low (elif_head word test colon behind) at = both_low _ _ _ _ (expr_low test at) (behind_low behind at)
head_low (else_head word colon behind) at = both_low 0 _ 0 _ (omega arith) (behind_low behind at)
head_low (while_head word test colon behind) at = both_low _ _ _ _ (expr_low test at) (behind_low behind at)
head_low (for_head word t in_word e colon behind) at = both_low _ _ _ _ (both_low _ _ _ _ (target_low t at) (exprs_low e at)) (behind_low behind at)
head_low (try_head word colon behind) at = both_low 0 _ 0 _ (omega arith) (behind_low behind at)
head_low (except_head word kind colon behind) at = both_low _ _ _ _ (kind_low kind at) (behind_low behind at)
head_low (with_head word e called colon behind) at = both_low _ _ _ _ (expr_low e at) (behind_low behind at)
head_low (def_head word name_at bytes opening names closing colon behind) at = both_low 0 _ 0 _ (omega arith) (behind_low behind at)
head_low (class_head word name_at bytes of colon behind) at = both_low _ _ _ _ (base_low of at) (behind_low behind at)
head_low (global_head word names) at = omega arith
