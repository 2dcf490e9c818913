-- The pure tree of each form of statement and of each list of statements: what every proof above cites.
use Rattle.std.proofs.Common.{◌≡◌, ℕ, List, map, Option, None, Some, option_map, ap, sym, ◌∙◌}
use Rattle.prov_base.specs.declared.place.Pos.{Pos}
use Rattle.py_tree.specs.declared.expr.BinOp.{BinOp}
use Rattle.py_tree.specs.declared.expr.Expr.{Expr}
use Rattle.py_tree.specs.declared.expr.Target.{Target}
use Rattle.py_tree.specs.declared.stmt.Bound.{Bound}
use Rattle.py_tree.specs.declared.stmt.Params.{Params}
use Rattle.py_tree.specs.declared.stmt.Globals.{Globals}
use Rattle.py_tree.specs.declared.stmt.Branches.{Branches}
use Rattle.py_tree.specs.declared.stmt.Handlers.{Handlers}
use Rattle.py_tree.specs.declared.stmt.Stmt.{Stmt}
use Rattle.py_tree.specs.declared.stmt.Suite.{Suite}
use Rattle.py_tree.specs.declared.stmt.Form.TheOpen.{Do as Do-F, Assign as Assign-F, Aug as Aug-F, Del as Del-F, Pass as Pass-F, Break as Break-F, Continue as Continue-F, Return as Return-F, Raise as Raise-F, Assert as Assert-F, Import as Import-F, While as While-F, For as For-F, Try as Try-F, With as With-F, Def as Def-F, Class as Class-F, If as If-F}
use Rattle.py_tree.specs.declared.stmt.Form.TheVariants.{Do, Assign, Aug, Del, Pass, Break, Continue, Return, Raise, Assert, Import, While, For, Try, With, Def, Class, rolls-Do, rolls-Assign, rolls-Aug, rolls-Del, rolls-Pass, rolls-Break, rolls-Continue, rolls-Return, rolls-Raise, rolls-Assert, rolls-Import, rolls-While, rolls-For, rolls-Try, rolls-With, rolls-Def, rolls-Class, rolls-If}
use Rattle.py_tree.specs.declared.stmt.Form.TheViews.{If, out-Suite, out-Branches, out-Handlers}
use Rattle.py_tree.specs.declared.stmt.Form.TheFolds.{fold-roll-Form, fold_out-Suite, fold_out-Stmt, fold_out-Branches, fold_out-Handlers}
use Rattle.py_tree.specs.Tree.{StmtTree, FormTree, SuiteTree, BranchesTree, HandlersTree, one_stmt, do_form, assign_form, aug_form, del_form, pass_form, break_form, continue_form, return_form, raise_form, assert_form, import_form, if_form, while_form, for_form, try_form, with_form, def_form, class_form}
use Rattle.py_tree.specs.Erasure.{expr_of, target_of, form_of, branches_of, handlers_of, stmt_of, suite_of, suite_list, branches_list, handlers_list, else_tree, form_step, branches_step, handlers_step, stmt_step, suite_step}

pub do_tree : (e : Expr) → form_of (Do e) ≡ do_form (expr_of e)
unfolding form_of
do_tree e = ap form_of (sym (rolls-Do e)) ∙ fold-roll-Form FormTree BranchesTree HandlersTree StmtTree SuiteTree form_step branches_step handlers_step stmt_step suite_step (Do-F e)

pub assign_tree : (t : Target) (e : Expr) → form_of (Assign t e) ≡ assign_form (target_of t) (expr_of e)
unfolding form_of
assign_tree t e = ap form_of (sym (rolls-Assign t e)) ∙ fold-roll-Form FormTree BranchesTree HandlersTree StmtTree SuiteTree form_step branches_step handlers_step stmt_step suite_step (Assign-F t e)

pub aug_tree : (t : Target) (op : BinOp) (at : Pos) (e : Expr) → form_of (Aug t op at e) ≡ aug_form (target_of t) op at (expr_of e)
unfolding form_of
aug_tree t op at e = ap form_of (sym (rolls-Aug t op at e)) ∙ fold-roll-Form FormTree BranchesTree HandlersTree StmtTree SuiteTree form_step branches_step handlers_step stmt_step suite_step (Aug-F t op at e)

pub del_tree : (t : Target) → form_of (Del t) ≡ del_form (target_of t)
unfolding form_of
del_tree t = ap form_of (sym (rolls-Del t)) ∙ fold-roll-Form FormTree BranchesTree HandlersTree StmtTree SuiteTree form_step branches_step handlers_step stmt_step suite_step (Del-F t)

pub pass_tree : form_of Pass ≡ pass_form
unfolding form_of
pass_tree = ap form_of (sym rolls-Pass) ∙ fold-roll-Form FormTree BranchesTree HandlersTree StmtTree SuiteTree form_step branches_step handlers_step stmt_step suite_step Pass-F

pub break_tree : form_of Break ≡ break_form
unfolding form_of
break_tree = ap form_of (sym rolls-Break) ∙ fold-roll-Form FormTree BranchesTree HandlersTree StmtTree SuiteTree form_step branches_step handlers_step stmt_step suite_step Break-F

pub continue_tree : form_of Continue ≡ continue_form
unfolding form_of
continue_tree = ap form_of (sym rolls-Continue) ∙ fold-roll-Form FormTree BranchesTree HandlersTree StmtTree SuiteTree form_step branches_step handlers_step stmt_step suite_step Continue-F

pub return_tree : (e : Option Expr) → form_of (Return e) ≡ return_form (option_map expr_of e)
unfolding form_of
return_tree e = ap form_of (sym (rolls-Return e)) ∙ fold-roll-Form FormTree BranchesTree HandlersTree StmtTree SuiteTree form_step branches_step handlers_step stmt_step suite_step (Return-F e)

pub raise_tree : (e : Option Expr) → form_of (Raise e) ≡ raise_form (option_map expr_of e)
unfolding form_of
raise_tree e = ap form_of (sym (rolls-Raise e)) ∙ fold-roll-Form FormTree BranchesTree HandlersTree StmtTree SuiteTree form_step branches_step handlers_step stmt_step suite_step (Raise-F e)

pub assert_tree : (e : Expr) (message : Option Expr) → form_of (Assert e message) ≡ assert_form (expr_of e) (option_map expr_of message)
unfolding form_of
assert_tree e message = ap form_of (sym (rolls-Assert e message)) ∙ fold-roll-Form FormTree BranchesTree HandlersTree StmtTree SuiteTree form_step branches_step handlers_step stmt_step suite_step (Assert-F e message)

pub import_tree : (name : List ℕ) → form_of (Import name) ≡ import_form name
unfolding form_of
import_tree name = ap form_of (sym (rolls-Import name)) ∙ fold-roll-Form FormTree BranchesTree HandlersTree StmtTree SuiteTree form_step branches_step handlers_step stmt_step suite_step (Import-F name)

pub while_tree : (e : Expr) (body : Suite) → form_of (While e body) ≡ while_form (expr_of e) (suite_of body)
unfolding form_of suite_of
while_tree e body = ap form_of (sym (rolls-While e body)) ∙ fold-roll-Form FormTree BranchesTree HandlersTree StmtTree SuiteTree form_step branches_step handlers_step stmt_step suite_step (While-F e body)

pub for_tree : (t : Target) (e : Expr) (body : Suite) → form_of (For t e body) ≡ for_form (target_of t) (expr_of e) (suite_of body)
unfolding form_of suite_of
for_tree t e body = ap form_of (sym (rolls-For t e body)) ∙ fold-roll-Form FormTree BranchesTree HandlersTree StmtTree SuiteTree form_step branches_step handlers_step stmt_step suite_step (For-F t e body)

pub try_tree : (body : Suite) (handlers : Handlers) → form_of (Try body handlers) ≡ try_form (suite_of body) (handlers_of handlers)
unfolding form_of suite_of handlers_of
try_tree body handlers = ap form_of (sym (rolls-Try body handlers)) ∙ fold-roll-Form FormTree BranchesTree HandlersTree StmtTree SuiteTree form_step branches_step handlers_step stmt_step suite_step (Try-F body handlers)

pub with_tree : (e : Expr) (bound : Option Bound) (body : Suite) → form_of (With e bound body) ≡ with_form (expr_of e) bound (suite_of body)
unfolding form_of suite_of
with_tree e bound body = ap form_of (sym (rolls-With e bound body)) ∙ fold-roll-Form FormTree BranchesTree HandlersTree StmtTree SuiteTree form_step branches_step handlers_step stmt_step suite_step (With-F e bound body)

pub def_tree : (name : List ℕ) (params : Params) (globals : Globals) (body : Suite) → form_of (Def name params globals body) ≡ def_form name params.list.items globals.list.items (suite_of body)
unfolding form_of suite_of
def_tree name params globals body = ap form_of (sym (rolls-Def name params globals body)) ∙ fold-roll-Form FormTree BranchesTree HandlersTree StmtTree SuiteTree form_step branches_step handlers_step stmt_step suite_step (Def-F name params globals body)

pub class_tree : (name : List ℕ) (base : Option Expr) (body : Suite) → form_of (Class name base body) ≡ class_form name (option_map expr_of base) (suite_of body)
unfolding form_of suite_of
class_tree name base body = ap form_of (sym (rolls-Class name base body)) ∙ fold-roll-Form FormTree BranchesTree HandlersTree StmtTree SuiteTree form_step branches_step handlers_step stmt_step suite_step (Class-F name base body)

pub if_tree : (branches : Branches) (orelse : Option Suite) → form_of (If branches orelse) ≡ if_form (branches_of branches) (else_tree (option_map suite_of orelse))
unfolding form_of branches_of suite_of
if_tree branches None = ap form_of (sym (rolls-If branches None)) ∙ fold-roll-Form FormTree BranchesTree HandlersTree StmtTree SuiteTree form_step branches_step handlers_step stmt_step suite_step (If-F branches None)
if_tree branches (Some body) = ap form_of (sym (rolls-If branches (Some body))) ∙ fold-roll-Form FormTree BranchesTree HandlersTree StmtTree SuiteTree form_step branches_step handlers_step stmt_step suite_step (If-F branches (Some body))

pub stmt_tree : (s : Stmt) → stmt_of s ≡ one_stmt s.no s.pos s.span (form_of s.form.value)
unfolding form_of stmt_of
stmt_tree s = fold_out-Stmt FormTree BranchesTree HandlersTree StmtTree SuiteTree form_step branches_step handlers_step stmt_step suite_step s

pub suite_tree : (body : Suite) → suite_of body ≡ suite_list (map stmt_of (out-Suite body).list.items)
unfolding stmt_of suite_of
suite_tree body = fold_out-Suite FormTree BranchesTree HandlersTree StmtTree SuiteTree form_step branches_step handlers_step stmt_step suite_step body

pub branches_tree : (bs : Branches) → branches_of bs ≡ branches_list (map (λ b. (b.0, suite_of b.1)) (out-Branches bs).list.items)
unfolding suite_of branches_of
branches_tree bs = fold_out-Branches FormTree BranchesTree HandlersTree StmtTree SuiteTree form_step branches_step handlers_step stmt_step suite_step bs

pub handlers_tree : (hs : Handlers) → handlers_of hs ≡ handlers_list (map (λ h. (h.0, h.1, suite_of h.2)) (out-Handlers hs).list.items)
unfolding suite_of handlers_of
handlers_tree hs = fold_out-Handlers FormTree BranchesTree HandlersTree StmtTree SuiteTree form_step branches_step handlers_step stmt_step suite_step hs

pub ruleset form_trees = (do_tree, assign_tree, aug_tree, del_tree, pass_tree, break_tree, continue_tree, return_tree, raise_tree, assert_tree, import_tree, if_tree, while_tree, for_tree, try_tree, with_tree, def_tree, class_tree)
