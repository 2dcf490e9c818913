-- Walks over the suites of a function.
use Rattle.std.proofs.Common.{◌≡◌, ℕ, ◌+◌, ◌<◌, ◌≤◌, Bool, false, ◌==◌, if◌then◌else◌, eq-eqb, List, [], ◌∷◌, length, drop, get_or, map, Option, Some, None, refl, ap, sym, ◌∙◌}
use Rattle.std.proofs.lemmas.List.{drop_all}
use Rattle.std.specs.Option.{option_map, option_or}
use Rattle.prov_base.specs.declared.place.Pos.{Pos}
use Rattle.py_tree.specs.declared.expr.Expr.{Expr}
use Rattle.py_tree.specs.declared.expr.Target.{Target}
use Rattle.py_tree.specs.declared.stmt.Bound.{Bound}
use Rattle.py_tree.specs.declared.stmt.Params.{Params}
use Rattle.py_tree.specs.declared.stmt.Globals.{Globals}
use Rattle.py_tree.specs.declared.stmt.Branches.{Branches}
use Rattle.py_tree.specs.declared.stmt.Form.{Form}
use Rattle.py_tree.specs.declared.stmt.Handlers.{Handlers}
use Rattle.py_tree.specs.declared.stmt.Stmt.{Stmt}
use Rattle.py_tree.specs.declared.stmt.Suite.{Suite}
use Rattle.py_tree.specs.declared.stmt.Form.TheOpen.{Form-F, If as If-F, While as While-F, For as For-F, Try as Try-F, With as With-F, Def as Def-F, Class as Class-F}
use Rattle.py_tree.specs.declared.stmt.Form.TheVariants.{While, For, Try, With, Def, Class, rolls-If, rolls-While, rolls-For, rolls-Try, rolls-With, rolls-Def, rolls-Class}
use Rattle.py_tree.specs.declared.stmt.Form.TheViews.{If, out-Form, roll-Form, roll-out-Form}
use Rattle.py_tree.specs.declared.stmt.Form.TheFolds.{fold-roll-Form}
use Rattle.py_tree.proofs.StmtTrees.{def_tree}
use Rattle.py_tree.specs.Erasure.{form_of, form_step, branches_step, handlers_step, stmt_step, suite_step, stmt_of, suite_of, suite_list, branches_list, handlers_list}
use Rattle.py_tree.specs.Tree.{StmtTree, FormTree, SuiteTree, BranchesTree, HandlersTree}
use Rattle.py_tree.proofs.OwnersWays.{next_left}
use Rattle.py_tree.specs.Functions.{suite_binds, branches_bind, handler_suites_bind, inner_binds, is_local}
use Rattle.script_names.specs.Scopes.{local_in, local_by, local_at, numbered_in, numbered_by}

-- what is left of a walk
abbrev pub stmts_left : List ℕ → List Stmt → Bool
stmts_left name items = suite_binds (suite_list (map stmt_of items)) name

abbrev pub branches_left : List ℕ → List (Expr × Suite) → Bool
branches_left name items = branches_bind (branches_list (map (λ b. (b.0, suite_of b.1)) items)) name

abbrev pub handlers_left : List ℕ → List (Option Expr × Option Bound × Suite) → Bool
handlers_left name items = handler_suites_bind (handlers_list (map (λ h. (h.0, h.1, suite_of h.2)) items)) name

abbrev pub locals_left : ℕ → List ℕ → List Stmt → Option Bool
locals_left number name items = local_in number name (suite_list (map stmt_of items))

mapped_or : {A B : Type 0} (f : A → B) (a b : Option A) → option_map f (option_or a b) ≡ option_or (option_map f a) (option_map f b)
mapped_or f None b = refl
mapped_or f (Some a) b = refl

pub more_locals : (number : ℕ) (name : List ℕ) (s : Stmt) (rest : List Stmt) → locals_left number name (s ∷ rest) ≡ option_or (local_by number name (stmt_of s)) (locals_left number name rest)
more_locals number name s rest = mapped_or (λ f. is_local f name) (numbered_by number (stmt_of s)) (numbered_in number (suite_list (map stmt_of rest)))

-- a walk that ends at the first item that gives something
split : {X Y : Type 0} (left : List X → Option Y) (test : X → Option Y) → ((x : X) (xs : List X) → left (x ∷ xs) ≡ option_or (test x) (left xs)) → (items : List X) (i : ℕ) (x : X) → i < length items
    → x ≡ get_or items i x → left (drop i items) ≡ option_or (test x) (left (drop (i + 1) items))
split left test more items i x within at = ap left (next_left items i x within ∙ ap (λ y. y ∷ drop (i + 1) items) (sym at)) ∙ more x (drop (i + 1) items)

pub first_here : {X Y : Type 0} (left : List X → Option Y) (test : X → Option Y) → ((x : X) (xs : List X) → left (x ∷ xs) ≡ option_or (test x) (left xs)) → (items : List X) (i : ℕ) (x : X) → i < length items
    → x ≡ get_or items i x → (y : Y) → test x ≡ Some y → test x ≡ left (drop i items)
first_here left test more items i x within at y found = found ∙ sym (split left test more items i x within at ∙ ap (λ o. option_or o (left (drop (i + 1) items))) found)

pub first_next : {X Y : Type 0} (left : List X → Option Y) (test : X → Option Y) → ((x : X) (xs : List X) → left (x ∷ xs) ≡ option_or (test x) (left xs)) → (items : List X) (i : ℕ) (x : X) → i < length items
    → x ≡ get_or items i x → test x ≡ None → left (drop (i + 1) items) ≡ left (drop i items)
first_next left test more items i x within at none = sym (split left test more items i x within at ∙ ap (λ o. option_or o (left (drop (i + 1) items))) none)

pub first_end : {X Y : Type 0} (left : List X → Option Y) → left [] ≡ None → (items : List X) (i : ℕ) → length items ≤ i → None ≡ left (drop i items)
first_end left none items i past = sym (ap left (drop_all i items past) ∙ none)

-- the other forms have no suite in which a name of the function may be bound
pub record HasNoSuite (form : Form) : Type 0 where
  pub not_if : (branches : Branches) (orelse : Option Suite) → form ≡ If branches orelse → ⊥
  pub not_while : (test : Expr) (body : Suite) → form ≡ While test body → ⊥
  pub not_for : (target : Target) (items : Expr) (body : Suite) → form ≡ For target items body → ⊥
  pub not_try : (body : Suite) (handlers : Handlers) → form ≡ Try body handlers → ⊥
  pub not_with : (value : Expr) (bound : Option Bound) (body : Suite) → form ≡ With value bound body → ⊥

open_leaf : (name : List ℕ) (form : Form) → HasNoSuite form → (open_form : Form-F Form Branches Handlers Stmt Suite) → form ≡ roll-Form open_form → inner_binds (form_of form) name ≡ false
unfolding form_of
open_leaf name form leaf (If-F branches None) is = absurd (leaf.not_if branches None (is ∙ rolls-If branches None))
open_leaf name form leaf (If-F branches (Some body)) is = absurd (leaf.not_if branches (Some body) (is ∙ rolls-If branches (Some body)))
open_leaf name form leaf (While-F e body) is = absurd (leaf.not_while e body (is ∙ rolls-While e body))
open_leaf name form leaf (For-F t e body) is = absurd (leaf.not_for t e body (is ∙ rolls-For t e body))
open_leaf name form leaf (Try-F body handlers) is = absurd (leaf.not_try body handlers (is ∙ rolls-Try body handlers))
open_leaf name form leaf (With-F e bound body) is = absurd (leaf.not_with e bound body (is ∙ rolls-With e bound body))
open_leaf name form leaf open_form is = ap (λ f. inner_binds f name) (ap form_of is ∙ fold-roll-Form FormTree BranchesTree HandlersTree StmtTree SuiteTree form_step branches_step handlers_step stmt_step suite_step open_form)

pub leaf_binds_none : (name : List ℕ) (form : Form) → HasNoSuite form → false ≡ inner_binds (form_of form) name
leaf_binds_none name form leaf = sym (open_leaf name form leaf (out-Form form) (sym (roll-out-Form form)))

open_other : (number : ℕ) (name : List ℕ) (own : ℕ) (at : Pos) (form : Form) → ((own : List ℕ) (params : Params) (globals : Globals) (body : Suite) → form ≡ Def own params globals body → ⊥)
    → ((own : List ℕ) (base : Option Expr) (body : Suite) → form ≡ Class own base body → ⊥) → (open_form : Form-F Form Branches Handlers Stmt Suite) → form ≡ roll-Form open_form
    → local_at number name own at (form_of form) ≡ None
unfolding form_of
open_other number name own at form no_def no_class (Def-F called params globals body) is = absurd (no_def called params globals body (is ∙ rolls-Def called params globals body))
open_other number name own at form no_def no_class (Class-F called base body) is = absurd (no_class called base body (is ∙ rolls-Class called base body))
open_other number name own at form no_def no_class open_form is =
    ap (λ f. local_at number name own at f) (ap form_of is ∙ fold-roll-Form FormTree BranchesTree HandlersTree StmtTree SuiteTree form_step branches_step handlers_step stmt_step suite_step open_form)

-- a form that is no `def` and no `class` has no function
pub other_has_none : (number : ℕ) (name : List ℕ) (own : ℕ) (at : Pos) (form : Form) → ((own : List ℕ) (params : Params) (globals : Globals) (body : Suite) → form ≡ Def own params globals body → ⊥)
    → ((own : List ℕ) (base : Option Expr) (body : Suite) → form ≡ Class own base body → ⊥) → None ≡ local_at number name own at (form_of form)
other_has_none number name own at form no_def no_class = sym (open_other number name own at form no_def no_class (out-Form form) (sym (roll-out-Form form)))

-- the function of a `def`, where it has the number
pub def_has : (number : ℕ) (name : List ℕ) (own : ℕ) (at : Pos) (called : List ℕ) (params : Params) (globals : Globals) (body : Suite) (form : Form) → form ≡ Def called params globals body
    → own ≡ number → (result : Bool) → result ≡ is_local (record { place = at; params = params.list.items; globals = globals.list.items; body = suite_of body }) name
    → Some result ≡ local_at number name own at (form_of form)
def_has number name own at called params globals body form is same result result_is =
    ap Some result_is
    ∙ sym (ap (local_at number name own at) (ap form_of is ∙ def_tree called params globals body)
    ∙ ap (λ (b : Bool). option_map (λ f. is_local f name) (if b then Some (record { place = at; params = params.list.items; globals = globals.list.items; body = suite_of body }) else None)) (eq-eqb own number same))

pub def_has_not : (number : ℕ) (name : List ℕ) (own : ℕ) (at : Pos) (called : List ℕ) (params : Params) (globals : Globals) (body : Suite) (form : Form) → form ≡ Def called params globals body
    → (own == number) ≡ false → None ≡ local_at number name own at (form_of form)
def_has_not number name own at called params globals body form is other =
    sym (ap (local_at number name own at) (ap form_of is ∙ def_tree called params globals body)
    ∙ ap (λ (b : Bool). option_map (λ f. is_local f name) (if b then Some (record { place = at; params = params.list.items; globals = globals.list.items; body = suite_of body }) else None)) other)
