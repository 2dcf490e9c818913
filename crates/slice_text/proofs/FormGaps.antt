-- The gaps of each form of statement.
use Rattle.std.proofs.Common.{◌≡◌, ℕ, Bool, List, [], ◌++◌, Option, option_map, ap, sym, ◌∙◌}
use Rattle.std.proofs.lemmas.List.{append-nil, append_assoc}
use Rattle.py_tree.specs.declared.expr.Expr.{Expr}
use Rattle.py_tree.specs.declared.expr.Target.{Target}
use Rattle.py_tree.specs.declared.stmt.Bound.{Bound}
use Rattle.py_tree.specs.declared.stmt.Params.{Params}
use Rattle.py_tree.specs.declared.stmt.Globals.{Globals}
use Rattle.py_tree.specs.declared.stmt.Branches.{Branches}
use Rattle.py_tree.specs.declared.stmt.Form.{Form}
use Rattle.py_tree.specs.declared.stmt.Handlers.{Handlers}
use Rattle.py_tree.specs.declared.stmt.Stmt.{Stmt}
use Rattle.py_tree.specs.declared.stmt.Suite.{Suite}
use Rattle.py_tree.specs.declared.stmt.Form.TheOpen.{Form-F, While as While-F, For as For-F, Try as Try-F, With as With-F, Def as Def-F, Class as Class-F, If as If-F}
use Rattle.py_tree.specs.declared.stmt.Form.TheVariants.{While, For, Try, With, Def, Class, rolls-While, rolls-For, rolls-Try, rolls-With, rolls-Def, rolls-Class, rolls-If}
use Rattle.py_tree.specs.declared.stmt.Form.TheViews.{If, out-Form, roll-Form, roll-out-Form}
use Rattle.py_tree.specs.declared.stmt.Form.TheFolds.{fold-roll-Form}
use Rattle.py_tree.specs.Tree.{StmtTree, FormTree, SuiteTree, BranchesTree, HandlersTree}
use Rattle.py_tree.specs.Erasure.{form_of, suite_of, branches_of, handlers_of, else_tree, form_step, branches_step, handlers_step, stmt_step, suite_step}
use Rattle.py_tree.proofs.StmtTrees.{if_tree, while_tree, for_tree, try_tree, with_tree, def_tree, class_tree}
use Rattle.py_tree.proofs.OwnersLeaves.{HasNoSuite}
use Rattle.slice_text.specs.declared.gaps.Gap.{Gap}
use Rattle.slice_text.specs.Cut.{loses_all, suite_gaps, form_gaps, branches_gaps, else_gaps, handlers_gaps}

-- the suite of a statement that stays
abbrev body : (ℕ → Bool) → Suite → List Gap
body keep suite = suite_gaps keep (loses_all keep (suite_of suite)) (suite_of suite)

pub while_gaps : (keep : ℕ → Bool) (f : Form) (e : Expr) (suite : Suite) (done more : List Gap) → f ≡ While e suite → more ≡ done ++ body keep suite → more ≡ done ++ form_gaps keep (form_of f)
while_gaps keep f e suite done more is put = put ∙ ap (λ (gaps : List Gap). done ++ gaps) (sym (ap (form_gaps keep) (ap form_of is ∙ while_tree e suite)))

pub for_gaps : (keep : ℕ → Bool) (f : Form) (t : Target) (e : Expr) (suite : Suite) (done more : List Gap) → f ≡ For t e suite → more ≡ done ++ body keep suite → more ≡ done ++ form_gaps keep (form_of f)
for_gaps keep f t e suite done more is put = put ∙ ap (λ (gaps : List Gap). done ++ gaps) (sym (ap (form_gaps keep) (ap form_of is ∙ for_tree t e suite)))

pub with_gaps : (keep : ℕ → Bool) (f : Form) (e : Expr) (bound : Option Bound) (suite : Suite) (done more : List Gap) → f ≡ With e bound suite → more ≡ done ++ body keep suite → more ≡ done ++ form_gaps keep (form_of f)
with_gaps keep f e bound suite done more is put = put ∙ ap (λ (gaps : List Gap). done ++ gaps) (sym (ap (form_gaps keep) (ap form_of is ∙ with_tree e bound suite)))

pub def_gaps : (keep : ℕ → Bool) (f : Form) (name : List ℕ) (params : Params) (globals : Globals) (suite : Suite) (done more : List Gap) → f ≡ Def name params globals suite → more ≡ done ++ body keep suite → more ≡ done ++ form_gaps keep (form_of f)
def_gaps keep f name params globals suite done more is put = put ∙ ap (λ (gaps : List Gap). done ++ gaps) (sym (ap (form_gaps keep) (ap form_of is ∙ def_tree name params globals suite)))

pub class_gaps : (keep : ℕ → Bool) (f : Form) (name : List ℕ) (base : Option Expr) (suite : Suite) (done more : List Gap) → f ≡ Class name base suite → more ≡ done ++ body keep suite → more ≡ done ++ form_gaps keep (form_of f)
class_gaps keep f name base suite done more is put = put ∙ ap (λ (gaps : List Gap). done ++ gaps) (sym (ap (form_gaps keep) (ap form_of is ∙ class_tree name base suite)))

-- two parts, one behind the other
two_parts : (done first second between more : List Gap) → between ≡ done ++ first → more ≡ between ++ second → more ≡ done ++ (first ++ second)
two_parts done first second between more one two = two ∙ ap (λ (gaps : List Gap). gaps ++ second) one ∙ append_assoc done first second

pub if_gaps : (keep : ℕ → Bool) (f : Form) (branches : Branches) (orelse : Option Suite) (done between more : List Gap) → f ≡ If branches orelse → between ≡ done ++ branches_gaps keep (branches_of branches) → more ≡ between ++ else_gaps keep (else_tree (option_map suite_of orelse)) → more ≡ done ++ form_gaps keep (form_of f)
if_gaps keep f branches orelse done between more is one two =
    two_parts done _ _ between more one two ∙ ap (λ (gaps : List Gap). done ++ gaps) (sym (ap (form_gaps keep) (ap form_of is ∙ if_tree branches orelse)))

pub try_gaps : (keep : ℕ → Bool) (f : Form) (suite : Suite) (handlers : Handlers) (done between more : List Gap) → f ≡ Try suite handlers → between ≡ done ++ body keep suite → more ≡ between ++ handlers_gaps keep (handlers_of handlers) → more ≡ done ++ form_gaps keep (form_of f)
try_gaps keep f suite handlers done between more is one two =
    two_parts done _ _ between more one two ∙ ap (λ (gaps : List Gap). done ++ gaps) (sym (ap (form_gaps keep) (ap form_of is ∙ try_tree suite handlers)))

-- the other forms have none
open_leaf : (keep : ℕ → Bool) (form : Form) → HasNoSuite form → (open_form : Form-F Form Branches Handlers Stmt Suite) → form ≡ roll-Form open_form → form_gaps keep (form_of form) ≡ []
unfolding form_of
open_leaf keep form leaf (If-F branches orelse) is = absurd (leaf.not_if branches orelse (is ∙ rolls-If branches orelse))
open_leaf keep form leaf (While-F e suite) is = absurd (leaf.not_while e suite (is ∙ rolls-While e suite))
open_leaf keep form leaf (For-F t e suite) is = absurd (leaf.not_for t e suite (is ∙ rolls-For t e suite))
open_leaf keep form leaf (Try-F suite handlers) is = absurd (leaf.not_try suite handlers (is ∙ rolls-Try suite handlers))
open_leaf keep form leaf (With-F e bound suite) is = absurd (leaf.not_with e bound suite (is ∙ rolls-With e bound suite))
open_leaf keep form leaf (Def-F name params globals suite) is = absurd (leaf.not_def name params globals suite (is ∙ rolls-Def name params globals suite))
open_leaf keep form leaf (Class-F name base suite) is = absurd (leaf.not_class name base suite (is ∙ rolls-Class name base suite))
open_leaf keep form leaf open_form is = ap (form_gaps keep) (ap form_of is ∙ fold-roll-Form FormTree BranchesTree HandlersTree StmtTree SuiteTree form_step branches_step handlers_step stmt_step suite_step open_form)

pub leaf_gaps : (keep : ℕ → Bool) (form : Form) (done : List Gap) → HasNoSuite form → done ≡ done ++ form_gaps keep (form_of form)
leaf_gaps keep form done leaf = sym (ap (λ (gaps : List Gap). done ++ gaps) (open_leaf keep form leaf (out-Form form) (sym (roll-out-Form form))) ∙ append-nil done)
