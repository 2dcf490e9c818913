use Rattle.std.proofs.Common.{◌≡◌, ℕ, List, false, not, ◌&&◌, Option, Some, ap, sym, ◌∙◌}
use Rattle.std.specs.Option.{option_map_or}
use Rattle.py_tree.specs.declared.stmt.Form.{Form}
use Rattle.py_tree.specs.declared.owners.Found.{Found}
use Rattle.py_tree.specs.Erasure.{form_of}
use Rattle.py_tree.specs.Owners.{Standing, form_in}
use Rattle.py_tree.specs.Binds.{is_method, form_binds}
use Rattle.py_tree.specs.Found.{standing_of}
use Rattle.py_tree.proofs.StmtTrees.{stmt_tree}
use Rattle.py_tree.proofs.stmt.Script.binds.Goals as goal

-- the statement that was found, where it is no method
binds_found : (found : Found) (wanted : Option Standing) (name : List ℕ) → Some (standing_of found) ≡ wanted → is_method (standing_of found) ≡ false → form_binds (form_of found.stmt.now.form.value) name ≡ option_map_or (λ x. not (is_method x) && form_binds (form_in x.stmt) name) wanted false
binds_found found wanted name is no_method =
    sym (ap (λ o. option_map_or (λ x. not (is_method x) && form_binds (form_in x.stmt) name) o false) (sym is)
    ∙ ap (λ b. not b && form_binds (form_in (standing_of found).stmt) name) no_method
    ∙ ap (λ t. form_binds (form_in t) name) (stmt_tree found.stmt.now))

pub returns-then-not-is_method : goal.returns-then-not-is_method
returns-then-not-is_method c = c.binds.ensures ∙ ap (λ (f : Form). form_binds (form_of f) c.args.name.now) c.deref.ensures ∙ binds_found c.in-Some.found _ c.args.name.now c.in-Some.ensures (sym c.is_method.ensures ∙ c.if-not-is_method.true)
