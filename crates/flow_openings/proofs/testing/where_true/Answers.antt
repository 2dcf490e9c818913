use Rattle.std.proofs.Common.{sym, ap, ◌∙◌}
use Rattle.py_tree.specs.declared.stmt.Form.{Form}
use Rattle.std.specs.Option.{option_map}
use Rattle.py_tree.specs.Erasure.{branches_of, else_tree, form_of, suite_of}
use Rattle.py_tree.proofs.StmtTrees.{branches_tree, if_tree, suite_tree}
use Rattle.py_model.specs.Act.{ret, normal}
use Rattle.py_model.specs.Statements.{suite}
use Rattle.flow_frames.specs.Seen.{stmts_seen}
use Rattle.flow_openings.proofs.Tests.{branches_seen, none_so, some_so}
use Rattle.flow_openings.proofs.testing.where_true.Goals as goal

pub returns-in-None-clause-means : goal.returns-in-None-clause-means
returns-in-None-clause-means c = λ script next here table.
    none_so script next here (ret normal) c.args.part.stmt.now.pos (form_of c.args.part.stmt.now.form.value) c.args.number (branches_of c.in-If.branches) (else_tree (option_map suite_of c.in-If.field-1)) c.as_slice.result.now
    (ap form_of (sym {A = Form} c.deref.ensures ∙ c.in-If.is) ∙ if_tree c.in-If.branches c.in-If.field-1) (branches_tree c.in-If.branches ∙ ap branches_seen (sym c.as_slice.ensures.value))
    (sym c.branch_at.ensures ∙ ap (option_map (λ b. b.now)) c.in-None.is)

pub returns-in-Some-clause-means : goal.returns-in-Some-clause-means
returns-in-Some-clause-means c = λ script next here table.
    some_so script next here (suite script next here (stmts_seen c.as_slice-in-Some.result.now)) c.args.part.stmt.now.pos (form_of c.args.part.stmt.now.form.value) c.args.number (branches_of c.in-If.branches) (else_tree (option_map suite_of c.in-If.field-1)) c.as_slice.result.now
    (ap form_of (sym {A = Form} c.deref.ensures ∙ c.in-If.is) ∙ if_tree c.in-If.branches c.in-If.field-1) (branches_tree c.in-If.branches ∙ ap branches_seen (sym c.as_slice.ensures.value))
    c.in-Some.branch.now (sym c.branch_at.ensures ∙ ap (option_map (λ b. b.now)) c.in-Some.is)
    (ap (suite script next here) (ap stmts_seen c.as_slice-in-Some.ensures.value ∙ sym (suite_tree c.in-Some.branch.now.1)))
