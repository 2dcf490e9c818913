-- Steps of a deletion: what the walk over the program's tree makes of each part is what the pure tree says.
use Rattle.std.proofs.Common.{◌≡◌, ℕ, ◌+◌, Bool, List, Option, option_map, sym, ◌∙◌, ap, subst, arith, add-zero}
use Rattle.py_tree.specs.declared.expr.BinOp.{BinOp}
use Rattle.prov_base.specs.declared.place.Pos.{Pos}
use Rattle.py_tree.specs.declared.expr.Expr.{Expr}
use Rattle.py_tree.specs.declared.expr.Target.{Target}
use Rattle.py_tree.specs.declared.stmt.Bound.{Bound}
use Rattle.py_tree.specs.declared.stmt.Params.{Params}
use Rattle.py_tree.specs.declared.stmt.Globals.{Globals}
use Rattle.py_tree.specs.declared.stmt.Branches.{Branches}
use Rattle.py_tree.specs.declared.stmt.Handlers.{Handlers}
use Rattle.py_tree.specs.declared.stmt.Stmt.{Stmt}
use Rattle.py_tree.specs.declared.stmt.Suite.{Suite}
use Rattle.py_tree.specs.declared.stmt.Form.{Form}
use Rattle.py_tree.specs.declared.stmt.Form.TheVariants.{Do, Assign, Aug, Del, Pass, Break, Continue, Return, Raise, Assert, Import, While, For, Try, With, Def, Class}
use Rattle.py_tree.specs.declared.stmt.Form.TheViews.{If}
use Rattle.py_tree.specs.Tree.{one_stmt}
use Rattle.py_tree.specs.Erasure.{expr_of, target_of, form_of, branches_of, handlers_of, stmt_of, suite_of, else_tree}
use Rattle.py_tree.specs.Numbering.{size_stmt, size_form, size_suite, size_branches, size_else, size_handlers, numbered_stmt, numbered_form, numbered_suite, numbered_branches, numbered_else, numbered_handlers}
use Rattle.py_tree.specs.Numbered.{IsNumberedOn}
use Rattle.py_tree.specs.Deletion.{pass_at, or_pass, kept_suite, kept_stmt, kept_form, kept_branches, kept_else, kept_handlers}
use Rattle.py_tree.proofs.StmtTrees.{do_tree, assign_tree, aug_tree, del_tree, pass_tree, break_tree, continue_tree, return_tree, raise_tree, assert_tree, import_tree, if_tree, while_tree, for_tree, try_tree, with_tree, def_tree, class_tree, stmt_tree}

-- each form of statement, where its parts have the same trees and its suites are numbered on

pub do_kept : (keep : ℕ → Bool) (f : Form) (e e' : Expr) (n : ℕ) → f ≡ (Do e) → expr_of e' ≡ expr_of e → IsNumberedOn numbered_form size_form n n (kept_form keep (form_of f)) (form_of (Do e'))
do_kept keep f e e' n is p =
    let tree = ap form_of is ∙ (do_tree e) in
    subst (λ g. IsNumberedOn numbered_form size_form n n (kept_form keep g) (form_of (Do e'))) (sym tree)
    (record { result_is = cc ((do_tree e')); to_is = sym (add-zero n) })

pub assign_kept : (keep : ℕ → Bool) (f : Form) (t t' : Target) (e e' : Expr) (n : ℕ) → f ≡ (Assign t e) → target_of t' ≡ target_of t → expr_of e' ≡ expr_of e → IsNumberedOn numbered_form size_form n n (kept_form keep (form_of f)) (form_of (Assign t' e'))
assign_kept keep f t t' e e' n is p q =
    let tree = ap form_of is ∙ (assign_tree t e) in
    subst (λ g. IsNumberedOn numbered_form size_form n n (kept_form keep g) (form_of (Assign t' e'))) (sym tree)
    (record { result_is = cc ((assign_tree t' e')); to_is = sym (add-zero n) })

pub aug_kept : (keep : ℕ → Bool) (f : Form) (t t' : Target) (op : BinOp) (at : Pos) (e e' : Expr) (n : ℕ) → f ≡ (Aug t op at e) → target_of t' ≡ target_of t → expr_of e' ≡ expr_of e → IsNumberedOn numbered_form size_form n n (kept_form keep (form_of f)) (form_of (Aug t' op at e'))
aug_kept keep f t t' op at e e' n is p q =
    let tree = ap form_of is ∙ (aug_tree t op at e) in
    subst (λ g. IsNumberedOn numbered_form size_form n n (kept_form keep g) (form_of (Aug t' op at e'))) (sym tree)
    (record { result_is = cc ((aug_tree t' op at e')); to_is = sym (add-zero n) })

pub del_kept : (keep : ℕ → Bool) (f : Form) (t t' : Target) (n : ℕ) → f ≡ (Del t) → target_of t' ≡ target_of t → IsNumberedOn numbered_form size_form n n (kept_form keep (form_of f)) (form_of (Del t'))
del_kept keep f t t' n is p =
    let tree = ap form_of is ∙ (del_tree t) in
    subst (λ g. IsNumberedOn numbered_form size_form n n (kept_form keep g) (form_of (Del t'))) (sym tree)
    (record { result_is = cc ((del_tree t')); to_is = sym (add-zero n) })

pub pass_kept : (keep : ℕ → Bool) (f : Form) (n : ℕ) → f ≡ Pass → IsNumberedOn numbered_form size_form n n (kept_form keep (form_of f)) (form_of Pass)
pass_kept keep f n is =
    let tree = ap form_of is ∙ pass_tree in
    subst (λ g. IsNumberedOn numbered_form size_form n n (kept_form keep g) (form_of Pass)) (sym tree)
    (record { result_is = cc (pass_tree); to_is = sym (add-zero n) })

pub break_kept : (keep : ℕ → Bool) (f : Form) (n : ℕ) → f ≡ Break → IsNumberedOn numbered_form size_form n n (kept_form keep (form_of f)) (form_of Break)
break_kept keep f n is =
    let tree = ap form_of is ∙ break_tree in
    subst (λ g. IsNumberedOn numbered_form size_form n n (kept_form keep g) (form_of Break)) (sym tree)
    (record { result_is = cc (break_tree); to_is = sym (add-zero n) })

pub continue_kept : (keep : ℕ → Bool) (f : Form) (n : ℕ) → f ≡ Continue → IsNumberedOn numbered_form size_form n n (kept_form keep (form_of f)) (form_of Continue)
continue_kept keep f n is =
    let tree = ap form_of is ∙ continue_tree in
    subst (λ g. IsNumberedOn numbered_form size_form n n (kept_form keep g) (form_of Continue)) (sym tree)
    (record { result_is = cc (continue_tree); to_is = sym (add-zero n) })

pub return_kept : (keep : ℕ → Bool) (f : Form) (e e' : Option Expr) (n : ℕ) → f ≡ (Return e) → option_map expr_of e' ≡ option_map expr_of e → IsNumberedOn numbered_form size_form n n (kept_form keep (form_of f)) (form_of (Return e'))
return_kept keep f e e' n is p =
    let tree = ap form_of is ∙ (return_tree e) in
    subst (λ g. IsNumberedOn numbered_form size_form n n (kept_form keep g) (form_of (Return e'))) (sym tree)
    (record { result_is = cc ((return_tree e')); to_is = sym (add-zero n) })

pub raise_kept : (keep : ℕ → Bool) (f : Form) (e e' : Option Expr) (n : ℕ) → f ≡ (Raise e) → option_map expr_of e' ≡ option_map expr_of e → IsNumberedOn numbered_form size_form n n (kept_form keep (form_of f)) (form_of (Raise e'))
raise_kept keep f e e' n is p =
    let tree = ap form_of is ∙ (raise_tree e) in
    subst (λ g. IsNumberedOn numbered_form size_form n n (kept_form keep g) (form_of (Raise e'))) (sym tree)
    (record { result_is = cc ((raise_tree e')); to_is = sym (add-zero n) })

pub assert_kept : (keep : ℕ → Bool) (f : Form) (e e' : Expr) (o o' : Option Expr) (n : ℕ) → f ≡ (Assert e o) → expr_of e' ≡ expr_of e → option_map expr_of o' ≡ option_map expr_of o → IsNumberedOn numbered_form size_form n n (kept_form keep (form_of f)) (form_of (Assert e' o'))
assert_kept keep f e e' o o' n is p q =
    let tree = ap form_of is ∙ (assert_tree e o) in
    subst (λ g. IsNumberedOn numbered_form size_form n n (kept_form keep g) (form_of (Assert e' o'))) (sym tree)
    (record { result_is = cc ((assert_tree e' o')); to_is = sym (add-zero n) })

pub import_kept : (keep : ℕ → Bool) (f : Form) (name name' : List ℕ) (n : ℕ) → f ≡ (Import name) → name' ≡ name → IsNumberedOn numbered_form size_form n n (kept_form keep (form_of f)) (form_of (Import name'))
import_kept keep f name name' n is p =
    let tree = ap form_of is ∙ (import_tree name) in
    subst (λ g. IsNumberedOn numbered_form size_form n n (kept_form keep g) (form_of (Import name'))) (sym tree)
    (record { result_is = cc ((import_tree name')); to_is = sym (add-zero n) })

pub while_kept : (keep : ℕ → Bool) (f : Form) (e e' : Expr) (body body' : Suite) (n m : ℕ) → f ≡ (While e body) → expr_of e' ≡ expr_of e → IsNumberedOn numbered_suite size_suite n m (or_pass (suite_of body) (kept_suite keep (suite_of body))) (suite_of body')
    → IsNumberedOn numbered_form size_form n m (kept_form keep (form_of f)) (form_of (While e' body'))
while_kept keep f e e' body body' n m is p on =
    let tree = ap form_of is ∙ while_tree e body in
    subst (λ g. IsNumberedOn numbered_form size_form n m (kept_form keep g) (form_of (While e' body'))) (sym tree)
    (record { result_is = cc (while_tree e' body'); to_is = on.to_is })

pub for_kept : (keep : ℕ → Bool) (f : Form) (t t' : Target) (e e' : Expr) (body body' : Suite) (n m : ℕ) → f ≡ (For t e body) → target_of t' ≡ target_of t → expr_of e' ≡ expr_of e → IsNumberedOn numbered_suite size_suite n m (or_pass (suite_of body) (kept_suite keep (suite_of body))) (suite_of body')
    → IsNumberedOn numbered_form size_form n m (kept_form keep (form_of f)) (form_of (For t' e' body'))
for_kept keep f t t' e e' body body' n m is p q on =
    let tree = ap form_of is ∙ for_tree t e body in
    subst (λ g. IsNumberedOn numbered_form size_form n m (kept_form keep g) (form_of (For t' e' body'))) (sym tree)
    (record { result_is = cc (for_tree t' e' body'); to_is = on.to_is })

pub with_kept : (keep : ℕ → Bool) (f : Form) (e e' : Expr) (o o' : Option Bound) (body body' : Suite) (n m : ℕ) → f ≡ (With e o body) → expr_of e' ≡ expr_of e → o' ≡ o → IsNumberedOn numbered_suite size_suite n m (or_pass (suite_of body) (kept_suite keep (suite_of body))) (suite_of body')
    → IsNumberedOn numbered_form size_form n m (kept_form keep (form_of f)) (form_of (With e' o' body'))
with_kept keep f e e' o o' body body' n m is p q on =
    let tree = ap form_of is ∙ with_tree e o body in
    subst (λ g. IsNumberedOn numbered_form size_form n m (kept_form keep g) (form_of (With e' o' body'))) (sym tree)
    (record { result_is = cc (with_tree e' o' body'); to_is = on.to_is })

pub def_kept : (keep : ℕ → Bool) (f : Form) (name name' : List ℕ) (params params' : Params) (globals globals' : Globals) (body body' : Suite) (n m : ℕ) → f ≡ (Def name params globals body) → name' ≡ name → params'.list.items ≡ params.list.items → globals'.list.items ≡ globals.list.items → IsNumberedOn numbered_suite size_suite n m (or_pass (suite_of body) (kept_suite keep (suite_of body))) (suite_of body')
    → IsNumberedOn numbered_form size_form n m (kept_form keep (form_of f)) (form_of (Def name' params' globals' body'))
def_kept keep f name name' params params' globals globals' body body' n m is p q r on =
    let tree = ap form_of is ∙ def_tree name params globals body in
    subst (λ g. IsNumberedOn numbered_form size_form n m (kept_form keep g) (form_of (Def name' params' globals' body'))) (sym tree)
    (record { result_is = cc (def_tree name' params' globals' body'); to_is = on.to_is })

pub class_kept : (keep : ℕ → Bool) (f : Form) (name name' : List ℕ) (o o' : Option Expr) (body body' : Suite) (n m : ℕ) → f ≡ (Class name o body) → name' ≡ name → option_map expr_of o' ≡ option_map expr_of o → IsNumberedOn numbered_suite size_suite n m (or_pass (suite_of body) (kept_suite keep (suite_of body))) (suite_of body')
    → IsNumberedOn numbered_form size_form n m (kept_form keep (form_of f)) (form_of (Class name' o' body'))
class_kept keep f name name' o o' body body' n m is p q on =
    let tree = ap form_of is ∙ class_tree name o body in
    subst (λ g. IsNumberedOn numbered_form size_form n m (kept_form keep g) (form_of (Class name' o' body'))) (sym tree)
    (record { result_is = cc (class_tree name' o' body'); to_is = on.to_is })

pub if_kept : (keep : ℕ → Bool) (f : Form) (branches branches' : Branches) (o o' : Option Suite) (n k m : ℕ) → f ≡ If branches o
    → IsNumberedOn numbered_branches size_branches n k (kept_branches keep (branches_of branches)) (branches_of branches')
    → IsNumberedOn numbered_else size_else k m (kept_else keep (else_tree (option_map suite_of o))) (else_tree (option_map suite_of o'))
    → IsNumberedOn numbered_form size_form n m (kept_form keep (form_of f)) (form_of (If branches' o'))
if_kept keep f branches branches' o o' n k m is on on2 =
    let tree = ap form_of is ∙ if_tree branches o in
    subst (λ g. IsNumberedOn numbered_form size_form n m (kept_form keep g) (form_of (If branches' o'))) (sym tree)
    (record { result_is = cc (if_tree branches' o'); to_is = omega (arith, on.to_is, on2.to_is) })

pub try_kept : (keep : ℕ → Bool) (f : Form) (body body' : Suite) (handlers handlers' : Handlers) (n k m : ℕ) → f ≡ Try body handlers
    → IsNumberedOn numbered_suite size_suite n k (or_pass (suite_of body) (kept_suite keep (suite_of body))) (suite_of body')
    → IsNumberedOn numbered_handlers size_handlers k m (kept_handlers keep (handlers_of handlers)) (handlers_of handlers')
    → IsNumberedOn numbered_form size_form n m (kept_form keep (form_of f)) (form_of (Try body' handlers'))
try_kept keep f body body' handlers handlers' n k m is on on2 =
    let tree = ap form_of is ∙ try_tree body handlers in
    subst (λ g. IsNumberedOn numbered_form size_form n m (kept_form keep g) (form_of (Try body' handlers'))) (sym tree)
    (record { result_is = cc (try_tree body' handlers'); to_is = omega (arith, on.to_is, on2.to_is) })

-- a statement, where its form is
pub stmt_added : (keep : ℕ → Bool) (s r : Stmt) (n k m own : ℕ) (f form : Form) → own ≡ n → k ≡ n + 1 → f ≡ s.form.value → stmt_of r ≡ one_stmt own s.pos s.span (form_of form)
    → IsNumberedOn numbered_form size_form k m (kept_form keep (form_of f)) (form_of form) → IsNumberedOn numbered_stmt size_stmt n m (kept_stmt keep (stmt_of s)) (stmt_of r)
stmt_added keep s r n k m own f form number next same is before =
    let on = subst (λ f. IsNumberedOn numbered_form size_form k m (kept_form keep (form_of f)) (form_of form)) same before in
    subst (λ t. IsNumberedOn numbered_stmt size_stmt n m (kept_stmt keep t) (stmt_of r)) (sym (stmt_tree s))
    (record { result_is = cc; to_is = omega (arith, on.to_is) })

-- `pass` in place of a statement
pub pass_added : (s r : Stmt) (n : ℕ) → stmt_of r ≡ one_stmt n s.pos s.span (form_of Pass) → stmt_of r ≡ numbered_stmt n (pass_at (stmt_of s))
pass_added s r n is = subst (λ t. stmt_of r ≡ numbered_stmt n (pass_at t)) (sym (stmt_tree s)) (cc (pass_tree))
