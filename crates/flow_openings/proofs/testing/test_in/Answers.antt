use Rattle.std.proofs.Common.{sym, ap, ◌∙◌}
use Rattle.py_tree.specs.declared.stmt.Form.{Form}
use Rattle.std.specs.Option.{option_map}
use Rattle.py_tree.specs.Erasure.{branches_of, else_tree, form_of, suite_of}
use Rattle.py_tree.proofs.StmtTrees.{branches_tree, if_tree}
use Rattle.flow_openings.proofs.Tests.{branches_seen, test_none, test_some}
use Rattle.flow_openings.proofs.testing.test_in.Goals as goal

pub returns-in-None : goal.returns-in-None
returns-in-None c =
    sym (test_none (form_of c.args.stmt.now.form.value) c.args.number (branches_of c.in-If.branches) (else_tree (option_map suite_of c.in-If.field-1)) c.as_slice.result.now
    (ap form_of (sym {A = Form} c.deref.ensures ∙ c.in-If.is) ∙ if_tree c.in-If.branches c.in-If.field-1) (branches_tree c.in-If.branches ∙ ap branches_seen (sym c.as_slice.ensures.value))
    (sym c.branch_at.ensures ∙ ap (option_map (λ b. b.now)) c.in-None.is))

pub returns-in-Some : goal.returns-in-Some
returns-in-Some c =
    sym (test_some (form_of c.args.stmt.now.form.value) c.args.number (branches_of c.in-If.branches) (else_tree (option_map suite_of c.in-If.field-1)) c.as_slice.result.now
    (ap form_of (sym {A = Form} c.deref.ensures ∙ c.in-If.is) ∙ if_tree c.in-If.branches c.in-If.field-1) (branches_tree c.in-If.branches ∙ ap branches_seen (sym c.as_slice.ensures.value))
    c.in-Some.branch.now (sym c.branch_at.ensures ∙ ap (option_map (λ b. b.now)) c.in-Some.is))
