-- The pure tree of a statement, as it is put together: its parts, and what stands in it.
use Rattle.std.proofs.Common.{◌≡◌, Bool, true, false, List, [], ◌∷◌, ◌++◌, map, Option, Some, None, option_map, Vec, Global, refl, ap, sym, ◌∙◌, subst}
use Rattle.py_tree.specs.declared.expr.Expr.{Expr}
use Rattle.py_tree.specs.declared.stmt.Bound.{Bound}
use Rattle.py_tree.specs.declared.stmt.Branches.{Branches}
use Rattle.py_tree.specs.declared.stmt.Form.{Form}
use Rattle.py_tree.specs.declared.stmt.Handlers.{Handlers}
use Rattle.py_tree.specs.declared.stmt.Stmt.{Stmt}
use Rattle.py_tree.specs.declared.stmt.Suite.{Suite}
use Rattle.py_tree.specs.declared.stmt.Form.TheOpen.{Form-F, Suite-F, Branches-F, Handlers-F, Do as Do-F, Assign as Assign-F, Aug as Aug-F, Del as Del-F, Pass as Pass-F, Break as Break-F, Continue as Continue-F, Return as Return-F, Raise as Raise-F, Assert as Assert-F, Import as Import-F, While as While-F, For as For-F, Try as Try-F, With as With-F, Def as Def-F, Class as Class-F, If as If-F}
use Rattle.py_tree.specs.declared.stmt.Form.TheVariants.{Try, rolls-Do, rolls-Assign, rolls-Aug, rolls-Del, rolls-Pass, rolls-Break, rolls-Continue, rolls-Return, rolls-Raise, rolls-Assert, rolls-Import, rolls-While, rolls-For, rolls-Try, rolls-With, rolls-Def, rolls-Class, rolls-If}
use Rattle.py_tree.specs.declared.stmt.Form.TheViews.{If, out-Form, roll-Form, roll-out-Form, out-Branches, out-Handlers, roll-Suite, roll-Branches, roll-Handlers, out-roll-Suite, out-roll-Branches, out-roll-Handlers}
use Rattle.py_tree.specs.Tree.{ExprTree, StmtTree, FormTree, SuiteTree, BranchesTree, HandlersTree, no_else, if_form, try_form, more_suite, end_branches, more_branches, end_handlers, more_handlers}
use Rattle.py_tree.specs.Erasure.{expr_of, form_of, branches_of, handlers_of, stmt_of, suite_of, suite_list as tree_list, branches_list, handlers_list, else_tree}
use Rattle.py_tree.proofs.StmtTrees.{do_tree, assign_tree, aug_tree, del_tree, pass_tree, break_tree, continue_tree, return_tree, raise_tree, assert_tree, import_tree, if_tree, while_tree, for_tree, try_tree, with_tree, def_tree, class_tree, suite_tree, branches_tree, handlers_tree}
use Rattle.py_parser.specs.RowForms.{suite_list, branch_last, handler_last, with_elif, with_else, with_handler}

abbrev Shape : Type 0
Shape = Form-F Form Branches Handlers Stmt Suite

abbrev pub is_if : FormTree → Bool
is_if (if_form branches _) = true
is_if f = false

abbrev pub is_try : FormTree → Bool
is_try (try_form body handlers) = true
is_try f = false

-- what the tree of this form says is said of it
form_is : {X : Type 0} (g : FormTree → X) (f d : Form) (t : FormTree) (x : X) → f ≡ d → form_of d ≡ t → g t ≡ x → g (form_of f) ≡ x
form_is g f d t x same tree is = ap (λ f. g (form_of f)) same ∙ ap g tree ∙ is

pub no_if : (f : Form) → ((branches : Branches) (orelse : Option Suite) → f ≡ If branches orelse → ⊥) → is_if (form_of f) ≡ false
no_if f other = subst (λ (f : Form). ((branches : Branches) (orelse : Option Suite) → f ≡ If branches orelse → ⊥) → is_if (form_of f) ≡ false) (roll-out-Form f) (by (out-Form f)) other
  where
    by : (f : Shape) → ((branches : Branches) (orelse : Option Suite) → roll-Form f ≡ If branches orelse → ⊥) → is_if (form_of (roll-Form f)) ≡ false
    by (Do-F e) o = form_is is_if _ _ _ false (rolls-Do e) (do_tree e) refl
    by (Assign-F t e) o = form_is is_if _ _ _ false (rolls-Assign t e) (assign_tree t e) refl
    by (Aug-F t op at e) o = form_is is_if _ _ _ false (rolls-Aug t op at e) (aug_tree t op at e) refl
    by (Del-F t) o = form_is is_if _ _ _ false (rolls-Del t) (del_tree t) refl
    by Pass-F o = form_is is_if _ _ _ false rolls-Pass pass_tree refl
    by Break-F o = form_is is_if _ _ _ false rolls-Break break_tree refl
    by Continue-F o = form_is is_if _ _ _ false rolls-Continue continue_tree refl
    by (Return-F e) o = form_is is_if _ _ _ false (rolls-Return e) (return_tree e) refl
    by (Raise-F e) o = form_is is_if _ _ _ false (rolls-Raise e) (raise_tree e) refl
    by (Assert-F e message) o = form_is is_if _ _ _ false (rolls-Assert e message) (assert_tree e message) refl
    by (Import-F name) o = form_is is_if _ _ _ false (rolls-Import name) (import_tree name) refl
    by (If-F branches orelse) o = absurd (o branches orelse (rolls-If branches orelse))
    by (While-F e body) o = form_is is_if _ _ _ false (rolls-While e body) (while_tree e body) refl
    by (For-F t e body) o = form_is is_if _ _ _ false (rolls-For t e body) (for_tree t e body) refl
    by (Try-F body handlers) o = form_is is_if _ _ _ false (rolls-Try body handlers) (try_tree body handlers) refl
    by (With-F e bound body) o = form_is is_if _ _ _ false (rolls-With e bound body) (with_tree e bound body) refl
    by (Def-F name params globals body) o = form_is is_if _ _ _ false (rolls-Def name params globals body) (def_tree name params globals body) refl
    by (Class-F name base body) o = form_is is_if _ _ _ false (rolls-Class name base body) (class_tree name base body) refl

pub no_try : (f : Form) → ((body : Suite) (handlers : Handlers) → f ≡ Try body handlers → ⊥) → is_try (form_of f) ≡ false
no_try f other = subst (λ (f : Form). ((body : Suite) (handlers : Handlers) → f ≡ Try body handlers → ⊥) → is_try (form_of f) ≡ false) (roll-out-Form f) (by (out-Form f)) other
  where
    by : (f : Shape) → ((body : Suite) (handlers : Handlers) → roll-Form f ≡ Try body handlers → ⊥) → is_try (form_of (roll-Form f)) ≡ false
    by (Do-F e) o = form_is is_try _ _ _ false (rolls-Do e) (do_tree e) refl
    by (Assign-F t e) o = form_is is_try _ _ _ false (rolls-Assign t e) (assign_tree t e) refl
    by (Aug-F t op at e) o = form_is is_try _ _ _ false (rolls-Aug t op at e) (aug_tree t op at e) refl
    by (Del-F t) o = form_is is_try _ _ _ false (rolls-Del t) (del_tree t) refl
    by Pass-F o = form_is is_try _ _ _ false rolls-Pass pass_tree refl
    by Break-F o = form_is is_try _ _ _ false rolls-Break break_tree refl
    by Continue-F o = form_is is_try _ _ _ false rolls-Continue continue_tree refl
    by (Return-F e) o = form_is is_try _ _ _ false (rolls-Return e) (return_tree e) refl
    by (Raise-F e) o = form_is is_try _ _ _ false (rolls-Raise e) (raise_tree e) refl
    by (Assert-F e message) o = form_is is_try _ _ _ false (rolls-Assert e message) (assert_tree e message) refl
    by (Import-F name) o = form_is is_try _ _ _ false (rolls-Import name) (import_tree name) refl
    by (If-F branches None) o = form_is is_try _ _ _ false (rolls-If branches None) (if_tree branches None) refl
    by (If-F branches (Some body)) o = form_is is_try _ _ _ false (rolls-If branches (Some body)) (if_tree branches (Some body)) refl
    by (While-F e body) o = form_is is_try _ _ _ false (rolls-While e body) (while_tree e body) refl
    by (For-F t e body) o = form_is is_try _ _ _ false (rolls-For t e body) (for_tree t e body) refl
    by (Try-F body handlers) o = absurd (o body handlers (rolls-Try body handlers))
    by (With-F e bound body) o = form_is is_try _ _ _ false (rolls-With e bound body) (with_tree e bound body) refl
    by (Def-F name params globals body) o = form_is is_try _ _ _ false (rolls-Def name params globals body) (def_tree name params globals body) refl
    by (Class-F name base body) o = form_is is_try _ _ _ false (rolls-Class name base body) (class_tree name base body) refl

-- what is no `if` takes no branch
pub other_elif : (t : FormTree) (test : ExprTree) (suite : SuiteTree) → is_if t ≡ false → t ≡ with_elif test suite t
other_elif (if_form branches _) test suite other = cc
other_elif form test suite other = refl

pub other_else : (t : FormTree) (suite : SuiteTree) → is_if t ≡ false → t ≡ with_else suite t
other_else (if_form branches _) suite other = cc
other_else form suite other = refl

pub other_handler : (t : FormTree) (class : Option ExprTree) (bound : Option Bound) (suite : SuiteTree) → is_try t ≡ false → t ≡ with_handler class bound suite t
other_handler (try_form body handlers) class bound suite other = cc
other_handler form class bound suite other = refl

-- ---- lists

pub same_list : (ss : List StmtTree) → tree_list ss ≡ suite_list ss
same_list [] = refl
same_list (s ∷ ss) = ap (more_suite s) (same_list ss)

pub rolled : (v : Vec Stmt Global) → suite_of (roll-Suite (record { list = v })) ≡ suite_list (map stmt_of v.items)
rolled v =
    suite_tree _
    ∙ ap (λ (r : Suite-F Form Branches Handlers Stmt Suite). tree_list (map stmt_of r.list.items)) (out-roll-Suite _)
    ∙ same_list (map stmt_of v.items)

abbrev branch_trees : List (Expr × Suite) → BranchesTree
branch_trees bs = branches_list (map (λ b. (b.0, suite_of b.1)) bs)

abbrev handler_trees : List (Option Expr × Option Bound × Suite) → HandlersTree
handler_trees hs = handlers_list (map (λ h. (h.0, h.1, suite_of h.2)) hs)

branches_are : (v : Vec (Expr × Suite) Global) → branches_of (roll-Branches (record { list = v })) ≡ branch_trees v.items
branches_are v = branches_tree _ ∙ ap (λ (r : Branches-F Form Branches Handlers Stmt Suite). branch_trees r.list.items) (out-roll-Branches _)

handlers_are : (v : Vec (Option Expr × Option Bound × Suite) Global) → handlers_of (roll-Handlers (record { list = v })) ≡ handler_trees v.items
handlers_are v = handlers_tree _ ∙ ap (λ (r : Handlers-F Form Branches Handlers Stmt Suite). handler_trees r.list.items) (out-roll-Handlers _)

one_branch_more : (bs : List (Expr × Suite)) (test : Expr) (suite : Suite) → branch_trees (bs ++ (test, suite) ∷ []) ≡ branch_last (branch_trees bs) (expr_of test) (suite_of suite)
one_branch_more [] test suite = refl
one_branch_more (b ∷ bs) test suite = ap (more_branches (expr_of b.0) (suite_of b.1)) (one_branch_more bs test suite)

one_handler_more : (hs : List (Option Expr × Option Bound × Suite)) (class : Option Expr) (bound : Option Bound) (suite : Suite)
    → handler_trees (hs ++ (class, bound, suite) ∷ []) ≡ handler_last (handler_trees hs) (option_map expr_of class) bound (suite_of suite)
one_handler_more [] class bound suite = refl
one_handler_more (h ∷ hs) class bound suite = ap (more_handlers (option_map expr_of h.0) h.1 (suite_of h.2)) (one_handler_more hs class bound suite)

-- ---- one part more

pub elif_added : (f : Form) (bs : Branches) (orelse : Option Suite) (test : Expr) (suite : Suite) (v : Vec (Expr × Suite) Global) → f ≡ If bs orelse → v.items ≡ (out-Branches bs).list.items ++ (test, suite) ∷ []
    → form_of (If (roll-Branches (record { list = v })) orelse) ≡ with_elif (expr_of test) (suite_of suite) (form_of f)
elif_added f bs orelse test suite v is items =
    let longer : branches_of (roll-Branches (record { list = v })) ≡ branch_last (branches_of bs) (expr_of test) (suite_of suite) =
    branches_are v ∙ ap branch_trees items ∙ one_branch_more (out-Branches bs).list.items test suite ∙ ap (λ b. branch_last b (expr_of test) (suite_of suite)) (sym (branches_tree bs)) in
    if_tree _ orelse ∙ ap (λ b. if_form b (else_tree (option_map suite_of orelse))) longer
    ∙ ap (with_elif (expr_of test) (suite_of suite)) (sym (if_tree bs orelse)) ∙ ap (λ g. with_elif (expr_of test) (suite_of suite) (form_of g)) (sym is)

pub else_added : (f : Form) (bs : Branches) (orelse : Option Suite) (suite : Suite) → f ≡ If bs orelse → form_of (If bs (Some suite)) ≡ with_else (suite_of suite) (form_of f)
else_added f bs orelse suite is =
    if_tree bs (Some suite) ∙ ap (with_else (suite_of suite)) (sym (if_tree bs orelse)) ∙ ap (λ g. with_else (suite_of suite) (form_of g)) (sym is)

pub handler_added : (f : Form) (body : Suite) (hs : Handlers) (class : Option Expr) (bound : Option Bound) (suite : Suite) (v : Vec (Option Expr × Option Bound × Suite) Global) → f ≡ Try body hs
    → v.items ≡ (out-Handlers hs).list.items ++ (class, bound, suite) ∷ []
    → form_of (Try body (roll-Handlers (record { list = v }))) ≡ with_handler (option_map expr_of class) bound (suite_of suite) (form_of f)
handler_added f body hs class bound suite v is items =
    let longer : handlers_of (roll-Handlers (record { list = v })) ≡ handler_last (handlers_of hs) (option_map expr_of class) bound (suite_of suite) =
    handlers_are v ∙ ap handler_trees items ∙ one_handler_more (out-Handlers hs).list.items class bound suite
    ∙ ap (λ h. handler_last h (option_map expr_of class) bound (suite_of suite)) (sym (handlers_tree hs)) in
    try_tree body _ ∙ ap (try_form (suite_of body)) longer
    ∙ ap (with_handler (option_map expr_of class) bound (suite_of suite)) (sym (try_tree body hs))
    ∙ ap (λ g. with_handler (option_map expr_of class) bound (suite_of suite) (form_of g)) (sym is)

-- ---- a statement that begins

pub first_branch : (test : Expr) (suite : Vec Stmt Global) (old new : Vec (Expr × Suite) Global) → old.items ≡ [] → new.items ≡ old.items ++ (test, roll-Suite (record { list = suite })) ∷ []
    → form_of (If (roll-Branches (record { list = new })) None) ≡ if_form (more_branches (expr_of test) (suite_list (map stmt_of suite.items)) end_branches) no_else
first_branch test suite old new empty items =
    if_tree _ None ∙ ap (λ b. if_form b no_else)
    (branches_are new ∙ ap branch_trees (items ∙ ap (λ l. l ++ (test, roll-Suite (record { list = suite })) ∷ []) empty) ∙ ap (λ s. more_branches (expr_of test) s end_branches) (rolled suite))

pub no_handlers : (suite : Vec Stmt Global) (handlers : Vec (Option Expr × Option Bound × Suite) Global) → handlers.items ≡ []
    → form_of (Try (roll-Suite (record { list = suite })) (roll-Handlers (record { list = handlers }))) ≡ try_form (suite_list (map stmt_of suite.items)) end_handlers
no_handlers suite handlers empty = try_tree _ _ ∙ ap (try_form (suite_of (roll-Suite (record { list = suite })))) (handlers_are handlers ∙ ap handler_trees empty) ∙ ap (λ s. try_form s end_handlers) (rolled suite)
