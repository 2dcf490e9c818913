-- The lines of functions, statement by statement.
use Rattle.std.proofs.Common.{◌≡◌, ℕ, zero, suc, ◌+◌, ◌<◌, ◌≤◌, List, [], ◌∷◌, ◌++◌, length, drop, get_or, map, append_assoc, append-nil, Option, sym, ap, ◌∙◌, arith}
use Rattle.std.proofs.lemmas.List.{drop_all}
use Rattle.prov_base.specs.declared.place.Pos.{Pos}
use Rattle.py_tree.specs.declared.expr.Expr.{Expr}
use Rattle.py_tree.specs.declared.stmt.Form.{Form}
use Rattle.py_tree.specs.declared.stmt.Globals.{Globals}
use Rattle.py_tree.specs.declared.stmt.Params.{Params}
use Rattle.py_tree.specs.declared.stmt.Branches.{Branches}
use Rattle.py_tree.specs.declared.stmt.Handlers.{Handlers}
use Rattle.py_tree.specs.declared.stmt.Stmt.{Stmt}
use Rattle.py_tree.specs.declared.stmt.Suite.{Suite}
use Rattle.py_tree.specs.declared.stmt.Form.TheOpen.{Form-F, Def as Def-F, Class as Class-F}
use Rattle.py_tree.specs.declared.stmt.Form.TheVariants.{Def as DefForm, Class as ClassForm, rolls-Def, rolls-Class}
use Rattle.py_tree.specs.declared.stmt.Form.TheViews.{out-Form, roll-Form, roll-out-Form}
use Rattle.py_tree.specs.declared.stmt.Form.TheFolds.{fold-roll-Form}
use Rattle.py_tree.specs.Erasure.{form_of, form_step, branches_step, handlers_step, stmt_step, suite_step, stmt_of, suite_list}
use Rattle.py_tree.specs.Tree.{StmtTree, FormTree, SuiteTree, BranchesTree, HandlersTree}
use Rattle.trace_rows.specs.declared.row.Row.{Row}
use Rattle.trial_show.specs.Functions.{lines_in, lines_of, lines_at}

-- what is left of a walk
abbrev pub lines_left : List Row → List Stmt → List ℕ
lines_left rows items = lines_in rows (suite_list (map stmt_of items))

next_one : (rows : List Row) (items : List Stmt) (i : ℕ) (s other : Stmt) → i < length items → s ≡ get_or items i other → lines_left rows (drop i items) ≡ lines_of rows (stmt_of s) ++ lines_left rows (drop (suc i) items)
next_one rows [] i s other there is = absurd (omega (arith, there))
next_one rows (x ∷ xs) zero s other there is = ap (λ (y : Stmt). lines_of rows (stmt_of y) ++ lines_left rows xs) (sym is)
next_one rows (x ∷ xs) (suc i) s other there is = next_one rows xs i s other (omega (arith, there)) is

-- one statement more is written
pub one_more : (out new all : List ℕ) (rows : List Row) (items : List Stmt) (i : ℕ) (s : Stmt) → i < length items → s ≡ get_or items i s → new ≡ out ++ lines_of rows (stmt_of s)
    → out ++ lines_left rows (drop i items) ≡ all → new ++ lines_left rows (drop (i + 1) items) ≡ all
one_more out new all rows items i s there is wrote so_far =
    let step : suc i ≡ i + 1 = omega arith in
    let here : lines_left rows (drop i items) ≡ lines_of rows (stmt_of s) ++ lines_left rows (drop (i + 1) items) = rw step at (next_one rows items i s s there is) in
    ap (λ (xs : List ℕ). xs ++ lines_left rows (drop (i + 1) items)) wrote
    ∙ (append_assoc out (lines_of rows (stmt_of s)) (lines_left rows (drop (i + 1) items)) ∙ (ap (λ (xs : List ℕ). out ++ xs) (sym here) ∙ so_far))

-- all are written
pub all_written : (out all : List ℕ) (rows : List Row) (items : List Stmt) (i : ℕ) → length items ≤ i → out ++ lines_left rows (drop i items) ≡ all → out ≡ all
all_written out all rows items i high so_far =
    let none : lines_left rows (drop i items) ≡ [] = ap (λ (xs : List Stmt). lines_left rows xs) (drop_all i items high) in
    sym (append-nil out) ∙ (ap (λ (xs : List ℕ). out ++ xs) (sym none) ∙ so_far)

open_other : (rows : List Row) (at : Pos) (form : Form) → ((own : List ℕ) (params : Params) (globals : Globals) (body : Suite) → form ≡ DefForm own params globals body → ⊥)
    → ((own : List ℕ) (base : Option Expr) (body : Suite) → form ≡ ClassForm own base body → ⊥) → (open_form : Form-F Form Branches Handlers Stmt Suite) → form ≡ roll-Form open_form → lines_at rows at (form_of form) ≡ []
unfolding form_of
open_other rows at form no_def no_class (Def-F called params globals body) is = absurd (no_def called params globals body (is ∙ rolls-Def called params globals body))
open_other rows at form no_def no_class (Class-F called base body) is = absurd (no_class called base body (is ∙ rolls-Class called base body))
open_other rows at form no_def no_class open_form is =
    ap (λ f. lines_at rows at f) (ap form_of is ∙ fold-roll-Form FormTree BranchesTree HandlersTree StmtTree SuiteTree form_step branches_step handlers_step stmt_step suite_step open_form)

-- a form that is no `def` and no `class` has no function
pub other_has_none : (out : List ℕ) (rows : List Row) (at : Pos) (form : Form) → ((own : List ℕ) (params : Params) (globals : Globals) (body : Suite) → form ≡ DefForm own params globals body → ⊥)
    → ((own : List ℕ) (base : Option Expr) (body : Suite) → form ≡ ClassForm own base body → ⊥) → out ≡ out ++ lines_at rows at (form_of form)
other_has_none out rows at form no_def no_class = sym (ap (λ (xs : List ℕ). out ++ xs) (open_other rows at form no_def no_class (out-Form form) (sym (roll-out-Form form))) ∙ append-nil out)
