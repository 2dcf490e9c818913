use Rattle.std.proofs.Common.{refl, ap, sym, ◌∙◌}
use Rattle.py_tree.specs.declared.stmt.Form.{Form}
use Rattle.std.specs.Option.{option_map}
use Rattle.py_tree.specs.Erasure.{branches_of, else_tree, expr_of, form_of, suite_of}
use Rattle.py_tree.proofs.StmtTrees.{branches_tree, if_tree, while_tree}
use Rattle.flow_frames.specs.Machine.{now_act}
use Rattle.flow_frames.specs.Seen.{now_seen}
use Rattle.flow_frames.proofs.Starting.{if_more}
use Rattle.flow_openings.proofs.Tests.{branches_seen, if_none, if_some, while_tested}
use Rattle.flow_openings.proofs.testing.test_opened.Goals as goal

pub returns-in-While-clause-means : goal.returns-in-While-clause-means
returns-in-While-clause-means c = if_more c.start-in-While.result _ _ (λ now means. λ script next here table.
    while_tested script next here (now_act script next here (now_seen table now)) (expr_of c.in-While.test) _ c.args.stmt.now.pos (form_of c.args.stmt.now.form.value)
    c.args.number (suite_of c.in-While.field-1) refl (ap form_of (sym {A = Form} c.deref.ensures ∙ c.in-While.is) ∙ while_tree c.in-While.test c.in-While.field-1) (means script next here table)) c.start-in-While.ensures.means

pub returns-in-None-clause-means : goal.returns-in-None-clause-means
returns-in-None-clause-means c = λ script next here table.
    if_none script next here (now_act script next here (now_seen table c.otherwise.result)) c.args.stmt.now.pos (form_of c.args.stmt.now.form.value) c.args.number (branches_of c.in-If.branches) (else_tree (option_map suite_of c.in-If.orelse)) c.as_slice.result.now
    (ap form_of (sym {A = Form} c.deref.ensures ∙ c.in-If.is) ∙ if_tree c.in-If.branches c.in-If.orelse) (branches_tree c.in-If.branches ∙ ap branches_seen (sym c.as_slice.ensures.value))
    (sym c.branch_at.ensures ∙ ap (option_map (λ b. b.now)) c.in-None.is) (c.otherwise.ensures.means script next here table)

pub returns-in-Some-clause-means : goal.returns-in-Some-clause-means
returns-in-Some-clause-means c = if_more c.start.result _ _ (λ now means. λ script next here table.
    if_some script next here (now_act script next here (now_seen table now)) c.args.stmt.now.pos (form_of c.args.stmt.now.form.value) c.args.number (branches_of c.in-If.branches) (else_tree (option_map suite_of c.in-If.orelse)) c.as_slice.result.now
    (ap form_of (sym {A = Form} c.deref.ensures ∙ c.in-If.is) ∙ if_tree c.in-If.branches c.in-If.orelse) (branches_tree c.in-If.branches ∙ ap branches_seen (sym c.as_slice.ensures.value))
    c.in-Some.branch.now _ (sym c.branch_at.ensures ∙ ap (option_map (λ b. b.now)) c.in-Some.is) refl (means script next here table)) c.start.ensures.means

pub returns-in-None-clause-held : goal.returns-in-None-clause-held
returns-in-None-clause-held c = λ table. c.otherwise.ensures.held table c.args.scope
