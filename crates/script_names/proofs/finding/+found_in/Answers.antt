use Rattle.std.proofs.Common.{true, false, ap, sym, ◌∙◌}
use Rattle.std.specs.Option.{option_map}
use Rattle.py_tree.specs.Erasure.{stmt_of}
use Rattle.py_tree.proofs.StmtTrees.{suite_tree}
use Rattle.script_names.proofs.LocalWalks.{first_here, first_next}
use Rattle.script_names.specs.Finding.{defs_in, defs_of, first_def, found_seen, key_test}
use Rattle.script_names.proofs.Defs.{def_has, defs_left, more_defs, other_has_none}
use Rattle.script_names.proofs.finding.+found_in.Goals as goal

pub found_in-loop-stmt-init : goal.found_in-loop-stmt-init
found_in-loop-stmt-init t c = ap (defs_left (key_test c.args.key)) c.deref-stmt-items.ensures.value ∙ ap (λ s. first_def (key_test c.args.key) (defs_in s)) (sym (suite_tree c.args.suite.now))

pub found_at-returns-in_default : goal.found_at-returns-in_default
found_at-returns-in_default t c = other_has_none (key_test c.args.key) c.args.number c.args.at c.args.form.now c.in_default.not-Def c.in_default.not-Class

pub found_at-returns-then-has_key : goal.found_at-returns-then-has_key
found_at-returns-then-has_key t c =
    def_has (key_test c.args.key) c.args.number c.args.at c.in-Def.field-0 c.in-Def.params c.in-Def.globals c.in-Def.body c.args.form.now c.in-Def.is true (sym c.has_key.ensures ∙ c.if-has_key.true)

pub found_at-returns-else-has_key : goal.found_at-returns-else-has_key
found_at-returns-else-has_key t c =
    def_has (key_test c.args.key) c.args.number c.args.at c.in-Def.field-0 c.in-Def.params c.in-Def.globals c.in-Def.body c.args.form.now c.in-Def.is false (sym c.has_key.ensures ∙ c.if-has_key.false)

pub found_in-loop-stmt-preserved : goal.found_in-loop-stmt-preserved
found_in-loop-stmt-preserved t c =
    first_next (defs_left (key_test c.args.key)) (λ s. first_def (key_test c.args.key) (defs_of (stmt_of s))) (more_defs (key_test c.args.key)) _ _ c.stmt-item.result c.loop-stmt-test.true c.stmt-item.is
    (sym c.found_by.ensures ∙ ap (option_map found_seen) c.in-None.is) ∙ c.loop-stmt.invariant

pub found_in-returns-in-Some : goal.found_in-returns-in-Some
found_in-returns-in-Some t c =
    ap (option_map found_seen) (sym c.in-Some.is) ∙ c.found_by.ensures
    ∙ first_here (defs_left (key_test c.args.key)) (λ s. first_def (key_test c.args.key) (defs_of (stmt_of s))) (more_defs (key_test c.args.key)) _ _ c.stmt-item.result c.loop-stmt-test.true c.stmt-item.is
    (found_seen c.in-Some.found) (sym c.found_by.ensures ∙ ap (option_map found_seen) c.in-Some.is) ∙ c.loop-stmt.invariant
