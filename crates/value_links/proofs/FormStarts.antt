-- The places of the statements in each form of statement.
use Rattle.std.proofs.Common.{◌≡◌, ℕ, List, [], ◌∷◌, ◌++◌, Option, option_map, ap, sym, ◌∙◌}
use Rattle.std.proofs.lemmas.List.{append-nil, append_assoc}
use Rattle.prov_base.specs.declared.place.Pos.{Pos}
use Rattle.py_tree.specs.declared.expr.Expr.{Expr}
use Rattle.py_tree.specs.declared.expr.Target.{Target}
use Rattle.py_tree.specs.declared.stmt.Bound.{Bound}
use Rattle.py_tree.specs.declared.stmt.Params.{Params}
use Rattle.py_tree.specs.declared.stmt.Globals.{Globals}
use Rattle.py_tree.specs.declared.stmt.Branches.{Branches}
use Rattle.py_tree.specs.declared.stmt.Form.{Form}
use Rattle.py_tree.specs.declared.stmt.Handlers.{Handlers}
use Rattle.py_tree.specs.declared.stmt.Stmt.{Stmt}
use Rattle.py_tree.specs.declared.stmt.Suite.{Suite}
use Rattle.py_tree.specs.declared.stmt.Form.TheOpen.{Form-F, While as While-F, For as For-F, Try as Try-F, With as With-F, Def as Def-F, Class as Class-F, If as If-F}
use Rattle.py_tree.specs.declared.stmt.Form.TheVariants.{While, For, Try, With, Def, Class, rolls-While, rolls-For, rolls-Try, rolls-With, rolls-Def, rolls-Class, rolls-If}
use Rattle.py_tree.specs.declared.stmt.Form.TheViews.{If, out-Form, roll-Form, roll-out-Form}
use Rattle.py_tree.specs.declared.stmt.Form.TheFolds.{fold-roll-Form}
use Rattle.py_tree.specs.Tree.{StmtTree, FormTree, SuiteTree, BranchesTree, HandlersTree}
use Rattle.py_tree.specs.Erasure.{form_of, suite_of, branches_of, handlers_of, stmt_of, else_tree, form_step, branches_step, handlers_step, stmt_step, suite_step}
use Rattle.py_tree.proofs.StmtTrees.{stmt_tree, if_tree, while_tree, for_tree, try_tree, with_tree, def_tree, class_tree}
use Rattle.py_tree.proofs.OwnersLeaves.{HasNoSuite}
use Rattle.py_tree.specs.Places.{suite_starts, stmt_starts, form_starts, branches_starts, else_starts, handlers_starts}

abbrev body : Suite → List Pos
body suite = suite_starts (suite_of suite)

pub while_of : (f : Form) (e : Expr) (suite : Suite) (done more : List Pos) → f ≡ While e suite → more ≡ done ++ body suite → more ≡ done ++ form_starts (form_of f)
while_of f e suite done more is put = put ∙ ap (λ (places : List Pos). done ++ places) (sym (ap form_starts (ap form_of is ∙ while_tree e suite)))

pub for_of : (f : Form) (t : Target) (e : Expr) (suite : Suite) (done more : List Pos) → f ≡ For t e suite → more ≡ done ++ body suite → more ≡ done ++ form_starts (form_of f)
for_of f t e suite done more is put = put ∙ ap (λ (places : List Pos). done ++ places) (sym (ap form_starts (ap form_of is ∙ for_tree t e suite)))

pub with_of : (f : Form) (e : Expr) (bound : Option Bound) (suite : Suite) (done more : List Pos) → f ≡ With e bound suite → more ≡ done ++ body suite → more ≡ done ++ form_starts (form_of f)
with_of f e bound suite done more is put = put ∙ ap (λ (places : List Pos). done ++ places) (sym (ap form_starts (ap form_of is ∙ with_tree e bound suite)))

pub def_of : (f : Form) (name : List ℕ) (params : Params) (globals : Globals) (suite : Suite) (done more : List Pos) → f ≡ Def name params globals suite → more ≡ done ++ body suite → more ≡ done ++ form_starts (form_of f)
def_of f name params globals suite done more is put = put ∙ ap (λ (places : List Pos). done ++ places) (sym (ap form_starts (ap form_of is ∙ def_tree name params globals suite)))

pub class_of : (f : Form) (name : List ℕ) (base : Option Expr) (suite : Suite) (done more : List Pos) → f ≡ Class name base suite → more ≡ done ++ body suite → more ≡ done ++ form_starts (form_of f)
class_of f name base suite done more is put = put ∙ ap (λ (places : List Pos). done ++ places) (sym (ap form_starts (ap form_of is ∙ class_tree name base suite)))

-- two parts, one behind the other
two_parts : (done first second between more : List Pos) → between ≡ done ++ first → more ≡ between ++ second → more ≡ done ++ (first ++ second)
two_parts done first second between more one two = two ∙ ap (λ (places : List Pos). places ++ second) one ∙ append_assoc done first second

pub if_of : (f : Form) (branches : Branches) (orelse : Option Suite) (done between more : List Pos) → f ≡ If branches orelse → between ≡ done ++ branches_starts (branches_of branches) → more ≡ between ++ else_starts (else_tree (option_map suite_of orelse)) → more ≡ done ++ form_starts (form_of f)
if_of f branches orelse done between more is one two =
    two_parts done _ _ between more one two ∙ ap (λ (places : List Pos). done ++ places) (sym (ap form_starts (ap form_of is ∙ if_tree branches orelse)))

pub try_of : (f : Form) (suite : Suite) (handlers : Handlers) (done between more : List Pos) → f ≡ Try suite handlers → between ≡ done ++ body suite → more ≡ between ++ handlers_starts (handlers_of handlers) → more ≡ done ++ form_starts (form_of f)
try_of f suite handlers done between more is one two =
    two_parts done _ _ between more one two ∙ ap (λ (places : List Pos). done ++ places) (sym (ap form_starts (ap form_of is ∙ try_tree suite handlers)))

-- the other forms have none
open_leaf : (form : Form) → HasNoSuite form → (open_form : Form-F Form Branches Handlers Stmt Suite) → form ≡ roll-Form open_form → form_starts (form_of form) ≡ []
unfolding form_of
open_leaf form leaf (If-F branches orelse) is = absurd (leaf.not_if branches orelse (is ∙ rolls-If branches orelse))
open_leaf form leaf (While-F e suite) is = absurd (leaf.not_while e suite (is ∙ rolls-While e suite))
open_leaf form leaf (For-F t e suite) is = absurd (leaf.not_for t e suite (is ∙ rolls-For t e suite))
open_leaf form leaf (Try-F suite handlers) is = absurd (leaf.not_try suite handlers (is ∙ rolls-Try suite handlers))
open_leaf form leaf (With-F e bound suite) is = absurd (leaf.not_with e bound suite (is ∙ rolls-With e bound suite))
open_leaf form leaf (Def-F name params globals suite) is = absurd (leaf.not_def name params globals suite (is ∙ rolls-Def name params globals suite))
open_leaf form leaf (Class-F name base suite) is = absurd (leaf.not_class name base suite (is ∙ rolls-Class name base suite))
open_leaf form leaf open_form is = ap form_starts (ap form_of is ∙ fold-roll-Form FormTree BranchesTree HandlersTree StmtTree SuiteTree form_step branches_step handlers_step stmt_step suite_step open_form)

pub leaf_of : (form : Form) (done : List Pos) → HasNoSuite form → done ≡ done ++ form_starts (form_of form)
leaf_of form done leaf = sym (ap (λ (places : List Pos). done ++ places) (open_leaf form leaf (out-Form form) (sym (roll-out-Form form))) ∙ append-nil done)

-- a statement
pub stmt_of_form : (s : Stmt) (f : Form) (done between more : List Pos) → f ≡ s.form.value → between ≡ done ++ s.pos ∷ [] → more ≡ between ++ form_starts (form_of f) → more ≡ done ++ stmt_starts (stmt_of s)
stmt_of_form s f done between more same pushed is =
    is ∙ ap (λ (places : List Pos). places ++ form_starts (form_of f)) pushed ∙ append_assoc done (s.pos ∷ []) (form_starts (form_of f))
    ∙ ap (λ (g : Form). done ++ s.pos ∷ form_starts (form_of g)) same ∙ ap (λ (places : List Pos). done ++ places) (sym (ap stmt_starts (stmt_tree s)))
