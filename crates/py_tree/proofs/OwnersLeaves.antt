-- The other forms, where code tells some forms apart.
use Rattle.std.proofs.Common.{◌≡◌, ℕ, false, List, Option, None, ap, sym, ◌∙◌}
use Rattle.py_tree.specs.declared.expr.Expr.{Expr}
use Rattle.py_tree.specs.declared.expr.Target.{Target}
use Rattle.py_tree.specs.declared.stmt.Bound.{Bound}
use Rattle.py_tree.specs.declared.stmt.Params.{Params}
use Rattle.py_tree.specs.declared.stmt.Globals.{Globals}
use Rattle.py_tree.specs.declared.stmt.Branches.{Branches}
use Rattle.py_tree.specs.declared.stmt.Form.{Form}
use Rattle.py_tree.specs.declared.stmt.Handlers.{Handlers}
use Rattle.py_tree.specs.declared.stmt.Stmt.{Stmt}
use Rattle.py_tree.specs.declared.stmt.Suite.{Suite}
use Rattle.py_tree.specs.declared.stmt.Form.TheOpen.{Form-F, While as While-F, For as For-F, Try as Try-F, With as With-F, Def as Def-F, Class as Class-F, If as If-F}
use Rattle.py_tree.specs.declared.stmt.Form.TheVariants.{While, For, Try, With, Def, Class, rolls-While, rolls-For, rolls-Try, rolls-With, rolls-Def, rolls-Class, rolls-If}
use Rattle.py_tree.specs.declared.stmt.Form.TheViews.{If, out-Form, roll-Form, roll-out-Form}
use Rattle.py_tree.specs.declared.stmt.Form.TheFolds.{fold-roll-Form}
use Rattle.py_tree.specs.Tree.{StmtTree, FormTree, SuiteTree, BranchesTree, HandlersTree}
use Rattle.py_tree.specs.Erasure.{form_of, form_step, branches_step, handlers_step, stmt_step, suite_step}
use Rattle.py_tree.specs.Owners.{is_def}
use Rattle.py_tree.specs.Descent.{suite_by}

pub record HasNoSuite (form : Form) : Type 0 where
  pub not_if : (branches : Branches) (orelse : Option Suite) → form ≡ If branches orelse → ⊥
  pub not_while : (test : Expr) (body : Suite) → form ≡ While test body → ⊥
  pub not_for : (target : Target) (items : Expr) (body : Suite) → form ≡ For target items body → ⊥
  pub not_try : (body : Suite) (handlers : Handlers) → form ≡ Try body handlers → ⊥
  pub not_with : (value : Expr) (bound : Option Bound) (body : Suite) → form ≡ With value bound body → ⊥
  pub not_def : (name : List ℕ) (params : Params) (globals : Globals) (body : Suite) → form ≡ Def name params globals body → ⊥
  pub not_class : (name : List ℕ) (base : Option Expr) (body : Suite) → form ≡ Class name base body → ⊥

open_leaf : (s : ℕ) (form : Form) → HasNoSuite form → (open_form : Form-F Form Branches Handlers Stmt Suite) → form ≡ roll-Form open_form → suite_by s (form_of form) ≡ None
unfolding form_of
open_leaf s form leaf (If-F branches orelse) is = absurd (leaf.not_if branches orelse (is ∙ rolls-If branches orelse))
open_leaf s form leaf (While-F e body) is = absurd (leaf.not_while e body (is ∙ rolls-While e body))
open_leaf s form leaf (For-F t e body) is = absurd (leaf.not_for t e body (is ∙ rolls-For t e body))
open_leaf s form leaf (Try-F body handlers) is = absurd (leaf.not_try body handlers (is ∙ rolls-Try body handlers))
open_leaf s form leaf (With-F e bound body) is = absurd (leaf.not_with e bound body (is ∙ rolls-With e bound body))
open_leaf s form leaf (Def-F name params globals body) is = absurd (leaf.not_def name params globals body (is ∙ rolls-Def name params globals body))
open_leaf s form leaf (Class-F name base body) is = absurd (leaf.not_class name base body (is ∙ rolls-Class name base body))
open_leaf s form leaf open_form is = ap (suite_by s) (ap form_of is ∙ fold-roll-Form FormTree BranchesTree HandlersTree StmtTree SuiteTree form_step branches_step handlers_step stmt_step suite_step open_form)

pub leaf_has_none : (s : ℕ) (form : Form) → HasNoSuite form → None ≡ suite_by s (form_of form)
leaf_has_none s form leaf = sym (open_leaf s form leaf (out-Form form) (sym (roll-out-Form form)))

open_def : (form : Form) → ((name : List ℕ) (params : Params) (globals : Globals) (body : Suite) → form ≡ Def name params globals body → ⊥) → (open_form : Form-F Form Branches Handlers Stmt Suite) → form ≡ roll-Form open_form → is_def (form_of form) ≡ false
unfolding form_of
open_def form not_def (Def-F name params globals body) is = absurd (not_def name params globals body (is ∙ rolls-Def name params globals body))
open_def form not_def open_form is = ap is_def (ap form_of is ∙ fold-roll-Form FormTree BranchesTree HandlersTree StmtTree SuiteTree form_step branches_step handlers_step stmt_step suite_step open_form)

pub other_is_no_def : (form : Form) → ((name : List ℕ) (params : Params) (globals : Globals) (body : Suite) → form ≡ Def name params globals body → ⊥) → false ≡ is_def (form_of form)
other_is_no_def form not_def = sym (open_def form not_def (out-Form form) (sym (roll-out-Form form)))
