use Rattle.py_tree.specs.Tree.{number_of}
use Rattle.std.proofs.Common.{◌≡◌, ℕ, Bool, true, false, cond, Option, Some, ap, sym, ◌∙◌}
use Rattle.py_tree.specs.declared.stmt.Form.{Form}
use Rattle.py_tree.specs.declared.stmt.Stmt.{Stmt}
use Rattle.py_tree.specs.Erasure.{stmt_of, form_of}
use Rattle.py_tree.specs.Owners.{Around, within, is_def, form_in}
use Rattle.py_tree.specs.Found.{around_of}
use Rattle.py_tree.proofs.StmtTrees.{stmt_tree}
use Rattle.py_tree.proofs.owners.Around.within.Goals as goal
use Rattle.py_tree.proofs.owners.Around.within.Goals.{then-is_def, else-is_def}

-- what stands in this statement
inside : (stmt : Stmt) (around : Around) (function : Option ℕ) (test : Bool) → test ≡ is_def (form_of stmt.form.value) → function ≡ cond test (Some stmt.no) around.function → record { owner = Some (stmt_of stmt); function = function } ≡ within (stmt_of stmt) around
inside stmt around function test is_test is_function =
    ap (λ f. record { owner = Some (stmt_of stmt); function = f })
    (is_function ∙ ap (λ b. cond b (Some stmt.no) around.function) is_test ∙ ap (λ t. cond (is_def (form_in t)) (Some (number_of t)) around.function) (sym (stmt_tree stmt)))

pub returns : goal.returns
returns c = elim c.if-is_def.branch [
  | then-is_def w ↦ inside c.args.stmt.now (around_of c.args.self) _ true (sym w.if-is_def.true ∙ c.is_def.ensures ∙ ap (λ (f : Form). is_def (form_of f)) c.deref.ensures) w.function-is
  | else-is_def w ↦ inside c.args.stmt.now (around_of c.args.self) _ false (sym w.if-is_def.false ∙ c.is_def.ensures ∙ ap (λ (f : Form). is_def (form_of f)) c.deref.ensures) w.function-is
]
