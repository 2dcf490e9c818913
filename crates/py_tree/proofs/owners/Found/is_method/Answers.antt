use Rattle.std.proofs.Common.{◌≡◌, false, ◌&&◌, Some, option_map, Bor, ap, sym, ◌∙◌}
use Rattle.std.specs.Option.{option_map_or}
use Rattle.py_tree.specs.declared.stmt.Form.{Form}
use Rattle.py_tree.specs.declared.stmt.Stmt.{Stmt}
use Rattle.py_tree.specs.declared.owners.Found.{Found}
use Rattle.py_tree.specs.Erasure.{stmt_of, form_of}
use Rattle.py_tree.specs.Owners.{form_in, is_def}
use Rattle.py_tree.specs.Binds.{is_method, is_class}
use Rattle.py_tree.specs.Found.{standing_of}
use Rattle.py_tree.proofs.StmtTrees.{stmt_tree}
use Rattle.py_tree.proofs.owners.Found.is_method.Goals as goal

-- a method, where there is an owner
method_in : (found : Found) (owner : Bor Stmt) → found.around.owner ≡ Some owner → is_method (standing_of found) ≡ (is_def (form_of found.stmt.now.form.value) && is_class (form_of owner.now.form.value))
method_in found owner is =
    ap (λ t. is_def (form_in t) && option_map_or (λ o. is_class (form_in o)) (option_map (λ x. stmt_of x.now) found.around.owner) false) (stmt_tree found.stmt.now)
    ∙ ap (λ o. is_def (form_of found.stmt.now.form.value) && option_map_or (λ o. is_class (form_in o)) (option_map (λ x. stmt_of x.now) o) false) is
    ∙ ap (λ t. is_def (form_of found.stmt.now.form.value) && is_class (form_in t)) (stmt_tree owner.now)

pub returns-then-is_def : goal.returns-then-is_def
returns-then-is_def c = c.is_class.ensures ∙ ap (λ (f : Form). is_class (form_of f)) c.deref-then-is_def.ensures ∙ ap (λ b. b && is_class (form_of c.in-Some.owner.now.form.value)) (sym c.if-is_def.true ∙ c.is_def.ensures ∙ ap (λ (f : Form). is_def (form_of f)) c.deref.ensures) ∙ sym (method_in c.args.self.now c.in-Some.owner c.in-Some.is)

pub returns-else-is_def : goal.returns-else-is_def
returns-else-is_def c = c.if-is_def.false ∙ ap (λ b. b && is_class (form_of c.in-Some.owner.now.form.value)) (sym c.if-is_def.false ∙ c.is_def.ensures ∙ ap (λ (f : Form). is_def (form_of f)) c.deref.ensures) ∙ sym (method_in c.args.self.now c.in-Some.owner c.in-Some.is)
