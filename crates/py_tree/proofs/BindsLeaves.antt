-- The other forms, where code tells apart those that bind names.
use Rattle.std.proofs.Common.{◌≡◌, ℕ, false, List, Option, ap, sym, ◌∙◌}
use Rattle.prov_base.specs.declared.place.Pos.{Pos}
use Rattle.py_tree.specs.declared.expr.BinOp.{BinOp}
use Rattle.py_tree.specs.declared.expr.Expr.{Expr}
use Rattle.py_tree.specs.declared.expr.Target.{Target}
use Rattle.py_tree.specs.declared.stmt.Bound.{Bound}
use Rattle.py_tree.specs.declared.stmt.Params.{Params}
use Rattle.py_tree.specs.declared.stmt.Globals.{Globals}
use Rattle.py_tree.specs.declared.stmt.Branches.{Branches}
use Rattle.py_tree.specs.declared.stmt.Form.{Form}
use Rattle.py_tree.specs.declared.stmt.Handlers.{Handlers}
use Rattle.py_tree.specs.declared.stmt.Stmt.{Stmt}
use Rattle.py_tree.specs.declared.stmt.Suite.{Suite}
use Rattle.py_tree.specs.declared.stmt.Form.TheOpen.{Form-F, Assign as Assign-F, Aug as Aug-F, Del as Del-F, Import as Import-F, For as For-F, Try as Try-F, With as With-F, Def as Def-F, Class as Class-F}
use Rattle.py_tree.specs.declared.stmt.Form.TheVariants.{Assign, Aug, Del, Import, For, Try, With, Def, Class, rolls-Assign, rolls-Aug, rolls-Del, rolls-Import, rolls-For, rolls-Try, rolls-With, rolls-Def, rolls-Class}
use Rattle.py_tree.specs.declared.stmt.Form.TheViews.{out-Form, roll-Form, roll-out-Form}
use Rattle.py_tree.specs.declared.stmt.Form.TheFolds.{fold-roll-Form}
use Rattle.py_tree.specs.Tree.{StmtTree, FormTree, SuiteTree, BranchesTree, HandlersTree}
use Rattle.py_tree.specs.Erasure.{form_of, form_step, branches_step, handlers_step, stmt_step, suite_step}
use Rattle.py_tree.specs.Binds.{form_binds, is_class}

open_class : (form : Form) → ((name : List ℕ) (base : Option Expr) (body : Suite) → form ≡ Class name base body → ⊥) → (open_form : Form-F Form Branches Handlers Stmt Suite) → form ≡ roll-Form open_form → is_class (form_of form) ≡ false
unfolding form_of
open_class form not_class (Class-F name base body) is = absurd (not_class name base body (is ∙ rolls-Class name base body))
open_class form not_class open_form is = ap is_class (ap form_of is ∙ fold-roll-Form FormTree BranchesTree HandlersTree StmtTree SuiteTree form_step branches_step handlers_step stmt_step suite_step open_form)

pub other_is_no_class : (form : Form) → ((name : List ℕ) (base : Option Expr) (body : Suite) → form ≡ Class name base body → ⊥) → false ≡ is_class (form_of form)
other_is_no_class form not_class = sym (open_class form not_class (out-Form form) (sym (roll-out-Form form)))

pub record HasNoName (form : Form) : Type 0 where
  pub not_assign : (target : Target) (value : Expr) → form ≡ Assign target value → ⊥
  pub not_aug : (target : Target) (op : BinOp) (at : Pos) (value : Expr) → form ≡ Aug target op at value → ⊥
  pub not_del : (target : Target) → form ≡ Del target → ⊥
  pub not_import : (name : List ℕ) → form ≡ Import name → ⊥
  pub not_for : (target : Target) (items : Expr) (body : Suite) → form ≡ For target items body → ⊥
  pub not_try : (body : Suite) (handlers : Handlers) → form ≡ Try body handlers → ⊥
  pub not_with : (value : Expr) (bound : Option Bound) (body : Suite) → form ≡ With value bound body → ⊥
  pub not_def : (name : List ℕ) (params : Params) (globals : Globals) (body : Suite) → form ≡ Def name params globals body → ⊥
  pub not_class : (name : List ℕ) (base : Option Expr) (body : Suite) → form ≡ Class name base body → ⊥

open_nameless : (name : List ℕ) (form : Form) → HasNoName form → (open_form : Form-F Form Branches Handlers Stmt Suite) → form ≡ roll-Form open_form → form_binds (form_of form) name ≡ false
unfolding form_of
open_nameless name form leaf (Assign-F t e) is = absurd (leaf.not_assign t e (is ∙ rolls-Assign t e))
open_nameless name form leaf (Aug-F t op at e) is = absurd (leaf.not_aug t op at e (is ∙ rolls-Aug t op at e))
open_nameless name form leaf (Del-F t) is = absurd (leaf.not_del t (is ∙ rolls-Del t))
open_nameless name form leaf (Import-F own) is = absurd (leaf.not_import own (is ∙ rolls-Import own))
open_nameless name form leaf (For-F t e body) is = absurd (leaf.not_for t e body (is ∙ rolls-For t e body))
open_nameless name form leaf (Try-F body handlers) is = absurd (leaf.not_try body handlers (is ∙ rolls-Try body handlers))
open_nameless name form leaf (With-F e bound body) is = absurd (leaf.not_with e bound body (is ∙ rolls-With e bound body))
open_nameless name form leaf (Def-F own params globals body) is = absurd (leaf.not_def own params globals body (is ∙ rolls-Def own params globals body))
open_nameless name form leaf (Class-F own base body) is = absurd (leaf.not_class own base body (is ∙ rolls-Class own base body))
open_nameless name form leaf open_form is = ap (λ f. form_binds f name) (ap form_of is ∙ fold-roll-Form FormTree BranchesTree HandlersTree StmtTree SuiteTree form_step branches_step handlers_step stmt_step suite_step open_form)

pub nameless_binds_none : (name : List ℕ) (form : Form) → HasNoName form → false ≡ form_binds (form_of form) name
nameless_binds_none name form leaf = sym (open_nameless name form leaf (out-Form form) (sym (roll-out-Form form)))
