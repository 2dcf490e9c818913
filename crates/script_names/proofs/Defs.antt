-- The first function that is the one, among those of a suite.
use Rattle.std.proofs.Common.{◌≡◌, ℕ, Bool, true, false, ◌==◌, eq-eqb, if◌then◌else◌, List, [], ◌∷◌, ◌++◌, map, Option, Some, None, refl, ap, sym, ◌∙◌}
use Rattle.std.specs.Option.{option_map, option_or}
use Rattle.prov_base.specs.declared.place.Pos.{Pos}
use Rattle.prov_base.specs.contracts.place.PosPartialEq.TheImpl.{ghosts as places}
use Rattle.py_tree.specs.declared.expr.Expr.{Expr}
use Rattle.py_tree.specs.declared.stmt.Form.{Form}
use Rattle.py_tree.specs.declared.stmt.Globals.{Globals}
use Rattle.py_tree.specs.declared.stmt.Params.{Params}
use Rattle.py_tree.specs.declared.stmt.Branches.{Branches}
use Rattle.py_tree.specs.declared.stmt.Handlers.{Handlers}
use Rattle.py_tree.specs.declared.stmt.Stmt.{Stmt}
use Rattle.py_tree.specs.declared.stmt.Suite.{Suite}
use Rattle.py_tree.specs.declared.stmt.Form.TheOpen.{Form-F, Def as Def-F, Class as Class-F}
use Rattle.py_tree.specs.declared.stmt.Form.TheVariants.{Def as DefForm, Class as ClassForm, rolls-Def, rolls-Class}
use Rattle.py_tree.specs.declared.stmt.Form.TheViews.{out-Form, roll-Form, roll-out-Form}
use Rattle.py_tree.specs.declared.stmt.Form.TheFolds.{fold-roll-Form}
use Rattle.py_tree.specs.Erasure.{form_of, form_step, branches_step, handlers_step, stmt_step, suite_step, stmt_of, suite_of, suite_list}
use Rattle.py_tree.specs.Tree.{StmtTree, FormTree, SuiteTree, BranchesTree, HandlersTree, one_stmt, def_form, class_form, end_suite, more_suite}
use Rattle.py_tree.proofs.StmtTrees.{def_tree}
use Rattle.py_tree.specs.Functions.{Function, functions_in, functions_of, functions_at, first_placed}
use Rattle.script_names.specs.Scopes.{numbered_in, numbered_by, numbered_at}
use Rattle.script_names.specs.Finding.{Def, defs_in, defs_of, defs_at, first_def}

-- the first of two rows

first_more : (test : ℕ → Pos → Bool) (d : Def) (ds es : List Def) (b : Bool) → first_def test (ds ++ es) ≡ option_or (first_def test ds) (first_def test es)
    → (if b then Some d else first_def test (ds ++ es)) ≡ option_or (if b then Some d else first_def test ds) (first_def test es)
first_more test d ds es true same = refl
first_more test d ds es false same = same

pub first_or : (test : ℕ → Pos → Bool) (ds es : List Def) → first_def test (ds ++ es) ≡ option_or (first_def test ds) (first_def test es)
first_or test [] es = refl
first_or test (d ∷ ds) es = first_more test d ds es (test d.number d.function.place) (first_or test ds es)

-- by place: as the meaning looks it up
mapped_more : {A B : Type 0} (f : A → B) (xs ys : List A) → map f (xs ++ ys) ≡ map f xs ++ map f ys
mapped_more f [] ys = refl
mapped_more f (x ∷ xs) ys = ap (λ zs. f x ∷ zs) (mapped_more f xs ys)

mutual
  functions_same : (s : SuiteTree) → functions_in s ≡ map (λ (d : Def). d.function) (defs_in s)
  functions_same end_suite = refl
  functions_same (more_suite stmt rest) =
      ap (λ fs. fs ++ functions_in rest) (of_same stmt) ∙ ap (λ fs. map (λ (d : Def). d.function) (defs_of stmt) ++ fs) (functions_same rest) ∙ sym (mapped_more (λ (d : Def). d.function) (defs_of stmt) (defs_in rest))

  of_same : (s : StmtTree) → functions_of s ≡ map (λ (d : Def). d.function) (defs_of s)
  of_same (one_stmt number at span form) = at_same number at form

  at_same : (number : ℕ) (at : Pos) (form : FormTree) → functions_at at form ≡ map (λ (d : Def). d.function) (defs_at number at form)
  at_same number at (def_form name params globals body) = refl
  at_same number at (class_form name base body) = functions_same body
  at_same number at form = refl

placed_if : (b : Bool) (d : Def) (o : Option Function) (p : Option Def) → o ≡ option_map (λ (d : Def). d.function) p → (if b then Some d.function else o) ≡ option_map (λ (d : Def). d.function) (if b then Some d else p)
placed_if true d o p same = refl
placed_if false d o p same = same

placed_list : (place : Pos) (ds : List Def) → first_placed place (map (λ (d : Def). d.function) ds) ≡ option_map (λ (d : Def). d.function) (first_def (λ number at. places.eq at place) ds)
placed_list place [] = refl
placed_list place (d ∷ ds) = placed_if (places.eq d.function.place place) d (first_placed place (map (λ (d : Def). d.function) ds)) (first_def (λ number at. places.eq at place) ds) (placed_list place ds)

pub placed_is : (place : Pos) (s : SuiteTree) → first_placed place (functions_in s) ≡ option_map (λ (d : Def). d.function) (first_def (λ number at. places.eq at place) (defs_in s))
placed_is place s = ap (first_placed place) (functions_same s) ∙ placed_list place (defs_in s)

-- by number
or_mapped : {A B : Type 0} (f : A → B) (a b : Option A) (c d : Option B) → c ≡ option_map f a → d ≡ option_map f b → option_or c d ≡ option_map f (option_or a b)
or_mapped f None b c d one other = ap (λ o. option_or o d) one ∙ other
or_mapped f (Some a) b c d one other = ap (λ o. option_or o d) one

numbered_if : (b : Bool) (d : Def) → (if b then Some d.function else None) ≡ option_map (λ (d : Def). d.function) (if b then Some d else None)
numbered_if true d = refl
numbered_if false d = refl

mutual
  pub numbered_is : (n : ℕ) (s : SuiteTree) → numbered_in n s ≡ option_map (λ (d : Def). d.function) (first_def (λ number at. number == n) (defs_in s))
  numbered_is n end_suite = refl
  numbered_is n (more_suite stmt rest) =
      or_mapped (λ (d : Def). d.function) (first_def (λ number at. number == n) (defs_of stmt)) (first_def (λ number at. number == n) (defs_in rest)) (numbered_by n stmt) (numbered_in n rest) (by_is n stmt) (numbered_is n rest)
      ∙ ap (option_map (λ (d : Def). d.function)) (sym (first_or (λ number at. number == n) (defs_of stmt) (defs_in rest)))

  by_is : (n : ℕ) (s : StmtTree) → numbered_by n s ≡ option_map (λ (d : Def). d.function) (first_def (λ number at. number == n) (defs_of s))
  by_is n (one_stmt number at span form) = at_is n number at form

  at_is : (n number : ℕ) (at : Pos) (form : FormTree) → numbered_at n number at form ≡ option_map (λ (d : Def). d.function) (first_def (λ number at. number == n) (defs_at number at form))
  at_is n number at (def_form name params globals body) = numbered_if (number == n) (record { number = number; function = record { place = at; params = params; globals = globals; body = body } })
  at_is n number at (class_form name base body) = numbered_is n body
  at_is n number at form = refl

-- The first at a place, and the first with its number, are one where both stand at the place.
same_def : (d e : Def) → Some d ≡ Some e → d ≡ e
same_def d e is = cc

one_so : (place : Pos) (c d e : Def) (ds : List Def) (placed numbered : Bool) → places.eq c.function.place place ≡ placed → (c.number == d.number) ≡ numbered
    → (if placed then Some c else first_def (λ number at. places.eq at place) ds) ≡ Some d → (if numbered then Some c else first_def (λ number at. number == d.number) ds) ≡ Some e
    → places.eq e.function.place place ≡ true
    → (first_def (λ number at. places.eq at place) ds ≡ Some d → first_def (λ number at. number == d.number) ds ≡ Some e → d ≡ e) → ((c.number == c.number) ≡ true) → d ≡ e
one_so place c d e ds true true placed_is numbered_is one other there rest itself = sym (same_def c d one) ∙ same_def c e other
one_so place c d e ds true false placed_is numbered_is one other there rest itself = absurd (differ (sym itself ∙ ap (λ (x : Def). c.number == x.number) (same_def c d one) ∙ numbered_is))
  where
    differ : true ≡ false → ⊥
    differ is = cc
one_so place c d e ds false true placed_is numbered_is one other there rest itself = absurd (differ (sym there ∙ ap (λ (x : Def). places.eq x.function.place place) (sym (same_def c e other)) ∙ placed_is))
  where
    differ : true ≡ false → ⊥
    differ is = cc
one_so place c d e ds false false placed_is numbered_is one other there rest itself = rest one other

pub one_def : (place : Pos) (ds : List Def) (d e : Def) → first_def (λ number at. places.eq at place) ds ≡ Some d → first_def (λ number at. number == d.number) ds ≡ Some e → places.eq e.function.place place ≡ true → d ≡ e
one_def place [] d e one other there = absurd cc
one_def place (c ∷ ds) d e one other there =
    one_so place c d e ds (places.eq c.function.place place) (c.number == d.number) refl refl one other there (λ one other. one_def place ds d e one other there) (eq-eqb c.number c.number refl)

-- what is left of a walk
abbrev pub defs_left : (ℕ → Pos → Bool) → List Stmt → Option Def
defs_left test items = first_def test (defs_in (suite_list (map stmt_of items)))

pub more_defs : (test : ℕ → Pos → Bool) (s : Stmt) (rest : List Stmt) → defs_left test (s ∷ rest) ≡ option_or (first_def test (defs_of (stmt_of s))) (defs_left test rest)
more_defs test s rest = first_or test (defs_of (stmt_of s)) (defs_in (suite_list (map stmt_of rest)))

open_other : (test : ℕ → Pos → Bool) (own : ℕ) (at : Pos) (form : Form) → ((own : List ℕ) (params : Params) (globals : Globals) (body : Suite) → form ≡ DefForm own params globals body → ⊥)
    → ((own : List ℕ) (base : Option Expr) (body : Suite) → form ≡ ClassForm own base body → ⊥) → (open_form : Form-F Form Branches Handlers Stmt Suite) → form ≡ roll-Form open_form
    → first_def test (defs_at own at (form_of form)) ≡ None
unfolding form_of
open_other test own at form no_def no_class (Def-F called params globals body) is = absurd (no_def called params globals body (is ∙ rolls-Def called params globals body))
open_other test own at form no_def no_class (Class-F called base body) is = absurd (no_class called base body (is ∙ rolls-Class called base body))
open_other test own at form no_def no_class open_form is =
    ap (λ f. first_def test (defs_at own at f)) (ap form_of is ∙ fold-roll-Form FormTree BranchesTree HandlersTree StmtTree SuiteTree form_step branches_step handlers_step stmt_step suite_step open_form)

-- a form that is no `def` and no `class` has no function
pub other_has_none : (test : ℕ → Pos → Bool) (own : ℕ) (at : Pos) (form : Form) → ((own : List ℕ) (params : Params) (globals : Globals) (body : Suite) → form ≡ DefForm own params globals body → ⊥)
    → ((own : List ℕ) (base : Option Expr) (body : Suite) → form ≡ ClassForm own base body → ⊥) → None ≡ first_def test (defs_at own at (form_of form))
other_has_none test own at form no_def no_class = sym (open_other test own at form no_def no_class (out-Form form) (sym (roll-out-Form form)))

-- the function of a `def`, where it is the one
pub def_has : (test : ℕ → Pos → Bool) (own : ℕ) (at : Pos) (called : List ℕ) (params : Params) (globals : Globals) (body : Suite) (form : Form) → form ≡ DefForm called params globals body → (b : Bool) → test own at ≡ b
    → (if b then Some (record { number = own; function = record { place = at; params = params.list.items; globals = globals.list.items; body = suite_of body } }) else None) ≡ first_def test (defs_at own at (form_of form))
def_has test own at called params globals body form is b same =
    sym (ap (λ f. first_def test (defs_at own at f)) (ap form_of is ∙ def_tree called params globals body)
    ∙ ap (λ (b : Bool). if b then Some (record { number = own; function = record { place = at; params = params.list.items; globals = globals.list.items; body = suite_of body } }) else None) same)
