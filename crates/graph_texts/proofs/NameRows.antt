-- The names of a suite, statement by statement.
use Rattle.std.proofs.Common.{◌≡◌, ◌<◌, ◌≤◌, ◌+◌, ℕ, zero, suc, Bool, true, List, [], ◌∷◌, ◌++◌, map, drop, get_or, length, Option, refl, sym, ap, ◌∙◌, arith, add-one, append_assoc, append-nil}
use Rattle.std.proofs.Math.Seq.{drop-cons}
use Rattle.prov_base.specs.declared.place.Pos.{Pos}
use Rattle.py_tree.specs.declared.expr.Expr.{Expr}
use Rattle.py_tree.specs.declared.stmt.Form.{Form}
use Rattle.py_tree.specs.declared.stmt.Globals.{Globals}
use Rattle.py_tree.specs.declared.stmt.Params.{Params}
use Rattle.py_tree.specs.declared.stmt.Branches.{Branches}
use Rattle.py_tree.specs.declared.stmt.Handlers.{Handlers}
use Rattle.py_tree.specs.declared.stmt.Stmt.{Stmt}
use Rattle.py_tree.specs.declared.stmt.Suite.{Suite}
use Rattle.py_tree.specs.declared.stmt.Form.TheOpen.{Form-F, Def as Def-F, Class as Class-F}
use Rattle.py_tree.specs.declared.stmt.Form.TheVariants.{Def as DefForm, Class as ClassForm, rolls-Def, rolls-Class}
use Rattle.py_tree.specs.declared.stmt.Form.TheViews.{out-Form, roll-Form, roll-out-Form}
use Rattle.py_tree.specs.declared.stmt.Form.TheFolds.{fold-roll-Form}
use Rattle.py_tree.specs.Erasure.{form_of, form_step, branches_step, handlers_step, stmt_step, suite_step, stmt_of, suite_of, suite_list}
use Rattle.py_tree.specs.Tree.{StmtTree, FormTree, SuiteTree, BranchesTree, HandlersTree}
use Rattle.py_tree.proofs.StmtTrees.{class_tree}
use Rattle.py_model.specs.Graph.{names_in, names_of, names_at}

abbrev Row : Type 0
Row = Pos × (Bool × List ℕ)

-- the names of the statements that are left
abbrev pub rows_left : List Stmt → List Row
rows_left items = names_in (suite_list (map stmt_of items))

pub next_rows : (items : List Stmt) (i : ℕ) (s : Stmt) → i < length items → s ≡ get_or items i s → (start old new : List Row) → old ++ rows_left (drop i items) ≡ start → new ≡ old ++ names_of (stmt_of s)
    → new ++ rows_left (drop (i + 1) items) ≡ start
next_rows items i s less at start old new is put =
    ap (λ (rows : List Row). rows ++ rows_left (drop (i + 1) items)) put
    ∙ (append_assoc old (names_of (stmt_of s)) (rows_left (drop (i + 1) items))
    ∙ (ap (λ (left : List Stmt). old ++ rows_left left) cut ∙ is))
  where
    cut : s ∷ drop (i + 1) items ≡ drop i items
    cut = ap (λ n. s ∷ drop n items) (add-one i) ∙ (ap (λ (x : Stmt). x ∷ drop (suc i) items) at ∙ sym (drop-cons items i s less))

pub no_rows : (items : List Stmt) (i : ℕ) → length items ≤ i → (rows start : List Row) → rows ++ rows_left (drop i items) ≡ start → rows ≡ start
no_rows items i past rows start is = sym (append-nil rows) ∙ (ap (λ (left : List Stmt). rows ++ rows_left left) (sym (dropped items i past)) ∙ is)
  where
    dropped : (xs : List Stmt) (n : ℕ) → length xs ≤ n → drop n xs ≡ []
    dropped [] zero past = refl
    dropped [] (suc n) past = refl
    dropped (x ∷ xs) zero past = absurd (omega (arith, past))
    dropped (x ∷ xs) (suc n) past = dropped xs n (omega (arith, past))

open_other : (at : Pos) (form : Form) → ((own : List ℕ) (params : Params) (globals : Globals) (body : Suite) → form ≡ DefForm own params globals body → ⊥)
    → ((own : List ℕ) (base : Option Expr) (body : Suite) → form ≡ ClassForm own base body → ⊥) → (open_form : Form-F Form Branches Handlers Stmt Suite) → form ≡ roll-Form open_form
    → names_at at (form_of form) ≡ []
unfolding form_of
open_other at form no_def no_class (Def-F called params globals body) is = absurd (no_def called params globals body (is ∙ rolls-Def called params globals body))
open_other at form no_def no_class (Class-F called base body) is = absurd (no_class called base body (is ∙ rolls-Class called base body))
open_other at form no_def no_class open_form is =
    ap (names_at at) (ap form_of is ∙ fold-roll-Form FormTree BranchesTree HandlersTree StmtTree SuiteTree form_step branches_step handlers_step stmt_step suite_step open_form)

-- a form that is no `def` and no `class` has no name
pub other_has_none : (at : Pos) (form : Form) → ((own : List ℕ) (params : Params) (globals : Globals) (body : Suite) → form ≡ DefForm own params globals body → ⊥)
    → ((own : List ℕ) (base : Option Expr) (body : Suite) → form ≡ ClassForm own base body → ⊥) → (rows : List Row) → rows ≡ rows ++ names_at at (form_of form)
other_has_none at form no_def no_class rows = sym (append-nil rows) ∙ ap (λ (more : List Row). rows ++ more) (sym (open_other at form no_def no_class (out-Form form) (sym (roll-out-Form form))))

-- a class, and the names in it
pub class_rows : (at : Pos) (called : List ℕ) (base : Option Expr) (body : Suite) (form : Form) → form ≡ ClassForm called base body → (old mid new : List Row)
    → mid ≡ old ++ (at, (true, called)) ∷ [] → new ≡ mid ++ names_in (suite_of body) → new ≡ old ++ names_at at (form_of form)
class_rows at called base body form is old mid new one other =
    other ∙ (ap (λ (rows : List Row). rows ++ names_in (suite_of body)) one
    ∙ (append_assoc old ((at, (true, called)) ∷ []) (names_in (suite_of body))
    ∙ ap (λ f. old ++ names_at at f) (sym (ap form_of is ∙ class_tree called base body))))
