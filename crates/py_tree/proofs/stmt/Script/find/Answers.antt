use Rattle.std.proofs.Common.{refl, ap, sym, subst, ◌∙◌, option_map}
use Rattle.py_tree.specs.declared.stmt.Form.{Form}
use Rattle.py_tree.specs.Erasure.{form_of}
use Rattle.py_tree.specs.Descent.{RiseFrom, first_numbers, form_suites, suite_by}
use Rattle.py_tree.specs.Found.{standing_of}
use Rattle.py_tree.proofs.OwnersNumbered.{numbers_rise}
use Rattle.py_tree.proofs.OwnersLaws.{row_numbers_rise}
use Rattle.py_tree.proofs.OwnersFinds.{no_row, found_here, no_suite, step_down, suites_rise}
use Rattle.py_tree.proofs.stmt.Script.find.Goals as goal

pub loop-stmt-init : goal.loop-stmt-init
loop-stmt-init c = record { same = refl; rise = numbers_rise _ c.requires }

pub loop-stmt-preserved : goal.loop-stmt-preserved
loop-stmt-preserved c = (step_down _ _ _ _ _ c.in_ok-stmt.stmt.now _ c.loop-stmt.invariant (c.in_ok-stmt.ensures (row_numbers_rise 0 _ _ c.loop-stmt.invariant.rise)) c.if-stmt-s.false c.within-around.ensures (c.in_ok-suite.ensures (subst (λ (f : Form). RiseFrom 0 (first_numbers (form_suites (form_of f)))) (sym c.deref.ensures) (suites_rise _ _ _ _ c.in_ok-stmt.stmt.now c.loop-stmt.invariant (c.in_ok-stmt.ensures (row_numbers_rise 0 _ _ c.loop-stmt.invariant.rise)))) ∙ ap (λ (f : Form). suite_by c.args.s (form_of f)) c.deref.ensures)).looks

pub loop-stmt-smaller : goal.loop-stmt-smaller
loop-stmt-smaller c = (step_down _ _ _ _ _ c.in_ok-stmt.stmt.now _ c.loop-stmt.invariant (c.in_ok-stmt.ensures (row_numbers_rise 0 _ _ c.loop-stmt.invariant.rise)) c.if-stmt-s.false c.within-around.ensures (c.in_ok-suite.ensures (subst (λ (f : Form). RiseFrom 0 (first_numbers (form_suites (form_of f)))) (sym c.deref.ensures) (suites_rise _ _ _ _ c.in_ok-stmt.stmt.now c.loop-stmt.invariant (c.in_ok-stmt.ensures (row_numbers_rise 0 _ _ c.loop-stmt.invariant.rise)))) ∙ ap (λ (f : Form). suite_by c.args.s (form_of f)) c.deref.ensures)).shorter

pub returns-in_err-stmt : goal.returns-in_err-stmt
returns-in_err-stmt c = ap (option_map standing_of) c.from_residual.ensures ∙ no_row _ _ _ _ c.loop-stmt.invariant (c.in_err-stmt.ensures (row_numbers_rise 0 _ _ c.loop-stmt.invariant.rise))

pub returns-then-stmt-s : goal.returns-then-stmt-s
returns-then-stmt-s c = found_here _ _ _ _ c.in_ok-stmt.stmt.now c.loop-stmt.invariant (c.in_ok-stmt.ensures (row_numbers_rise 0 _ _ c.loop-stmt.invariant.rise)) c.if-stmt-s.true

pub returns-in_err-suite : goal.returns-in_err-suite
returns-in_err-suite c = ap (option_map standing_of) c.from_residual-in_err-suite.ensures ∙ no_suite _ _ _ _ c.in_ok-stmt.stmt.now c.loop-stmt.invariant (c.in_ok-stmt.ensures (row_numbers_rise 0 _ _ c.loop-stmt.invariant.rise)) c.if-stmt-s.false (c.in_err-suite.ensures (subst (λ (f : Form). RiseFrom 0 (first_numbers (form_suites (form_of f)))) (sym c.deref.ensures) (suites_rise _ _ _ _ c.in_ok-stmt.stmt.now c.loop-stmt.invariant (c.in_ok-stmt.ensures (row_numbers_rise 0 _ _ c.loop-stmt.invariant.rise)))) ∙ ap (λ (f : Form). suite_by c.args.s (form_of f)) c.deref.ensures)
