-- Where a suite binds a name, a statement of its function binds it; and the first one that does is found by its function's number.
use Rattle.std.proofs.Common.{◌≡◌, ℕ, Bool, true, false, if◌then◌else◌, not, ◌&&◌, ◌||◌, ◌==◌, ◌⊎◌, List, [], ◌∷◌, ◌++◌, Option, Some, None, inl, inr, refl, sym, ap, ap₂, ◌∙◌, eq-eqb, eqb-true}
use Rattle.std.proofs.lemmas.Bool.{false≢true, and_parts}
use Rattle.prov_base.specs.declared.place.Pos.{Pos}
use Rattle.prov_base.specs.declared.place.Span.{Span}
use Rattle.py_tree.specs.Binds.{form_binds, is_method}
use Rattle.py_tree.specs.Functions.{suite_binds, stmt_binds, inner_binds, branches_bind, else_binds, handler_suites_bind}
use Rattle.py_tree.specs.Owners.{Around, Standing, form_in, is_def, number_at, within, listed_stmt, listed_form, listed_suite, listed_branches, listed_else, listed_handlers}
use Rattle.py_tree.specs.Tree.{StmtTree, FormTree, SuiteTree, BranchesTree, ElseTree, HandlersTree, one_stmt, do_form, assign_form, aug_form, del_form, pass_form, break_form, continue_form, return_form, raise_form, assert_form, import_form, if_form, while_form, for_form, try_form, with_form, def_form, class_form, end_suite, more_suite, end_branches, more_branches, no_else, else_suite, end_handlers, more_handlers}
use Rattle.slice_law.specs.Closed.{IsIn}
use Rattle.slice_law.specs.Edges.{in_function, first_binder}
use Rattle.slice_simulation.proofs.FunctionStatements.{owner_is_class}
use Rattle.slice_simulation.proofs.Standing.{in_front, in_behind}

either_true : (a b : Bool) → (a || b) ≡ true → (a ≡ true) ⊎ (b ≡ true)
either_true true b is = inl refl
either_true false b is = inr is

module _ (name : List ℕ) where
  abbrev pub binds_here : Standing → Bool
  binds_here x = not (is_method x) && form_binds (form_in x.stmt) name

  -- a statement of the same function binds it
  pub record Binder (function : Option ℕ) (listed : List Standing) : Type 0 where
    pub one : Standing
    pub there : IsIn listed one
    pub function_is : one.around.function ≡ function
    pub binds_it : binds_here one ≡ true

  binder_front : {function : Option ℕ} {us : List Standing} (vs : List Standing) → Binder function us → Binder function (us ++ vs)
  binder_front {function} {us} vs found = record { one = found.one; there = in_front us vs found.one found.there; function_is = found.function_is; binds_it = found.binds_it }

  binder_behind : {function : Option ℕ} (us : List Standing) {vs : List Standing} → Binder function vs → Binder function (us ++ vs)
  binder_behind {function} us {vs} found = record { one = found.one; there = in_behind us vs found.one found.there; function_is = found.function_is; binds_it = found.binds_it }

  binder_of : {function : Option ℕ} (us vs : List Standing) (a b : Bool) → (a || b) ≡ true → (a ≡ true → Binder function us) → (b ≡ true → Binder function vs) → Binder function (us ++ vs)
  binder_of {function} us vs a b is front behind = by_either (either_true a b is)
    where
      by_either : (a ≡ true) ⊎ (b ≡ true) → Binder function (us ++ vs)
      by_either (inl here) = binder_front vs (front here)
      by_either (inr later) = binder_behind us (behind later)

  -- where the owner is no class, the statement is no method
  itself_binds : (around : Around) (s : StmtTree) (listed : List Standing) → owner_is_class around ≡ false → form_binds (form_in s) name ≡ true
      → Binder around.function (record { stmt = s; around = around } ∷ listed)
  itself_binds around s listed plain is = record {
    one = record { stmt = s; around = around };
    there = inl refl;
    function_is = refl;
    binds_it = ap₂ ◌&&◌ (ap (λ owned. not (is_def (form_in s) && owned)) plain ∙ no_method (is_def (form_in s))) is;
  }
    where
      no_method : (test : Bool) → not (test && false) ≡ true
      no_method true = refl
      no_method false = refl

  mutual
    pub suite_binder : (around : Around) (body : SuiteTree) → owner_is_class around ≡ false → suite_binds body name ≡ true → Binder around.function (listed_suite around body)
    suite_binder around end_suite plain is = absurd (false≢true is)
    suite_binder around (more_suite s rest) plain is =
        binder_of (listed_stmt around s) (listed_suite around rest) (stmt_binds s name) (suite_binds rest name) is (stmt_binder around s plain) (suite_binder around rest plain)

    stmt_binder : (around : Around) (s : StmtTree) → owner_is_class around ≡ false → stmt_binds s name ≡ true → Binder around.function (listed_stmt around s)
    stmt_binder around (one_stmt number at span form) plain is =
        by_either (either_true (form_binds form name) (inner_binds form name) is) (form_binder around number at span form)
      where
        by_either : (form_binds form name ≡ true) ⊎ (inner_binds form name ≡ true)
            → (inner_binds form name ≡ true → Binder around.function (listed_form (within (one_stmt number at span form) around) form))
            → Binder around.function (listed_stmt around (one_stmt number at span form))
        by_either (inl own) inside = itself_binds around (one_stmt number at span form) (listed_form (within (one_stmt number at span form) around) form) plain own
        by_either (inr later) inside =
            binder_behind (record { stmt = one_stmt number at span form; around = around } ∷ []) (inside later)

    form_binder : (around : Around) (number : ℕ) (at : Pos) (span : Span) (form : FormTree) → inner_binds form name ≡ true
        → Binder around.function (listed_form (within (one_stmt number at span form) around) form)
    form_binder around number at span (if_form branches orelse) is =
        binder_of (listed_branches (within (one_stmt number at span (if_form branches orelse)) around) branches) (listed_else (within (one_stmt number at span (if_form branches orelse)) around) orelse)
        (branches_bind branches name) (else_binds orelse name) is (branches_binder (within (one_stmt number at span (if_form branches orelse)) around) branches refl)
        (else_binder (within (one_stmt number at span (if_form branches orelse)) around) orelse refl)
    form_binder around number at span (while_form test body) is = suite_binder (within (one_stmt number at span (while_form test body)) around) body refl is
    form_binder around number at span (for_form target items body) is = suite_binder (within (one_stmt number at span (for_form target items body)) around) body refl is
    form_binder around number at span (try_form body handlers) is =
        binder_of (listed_suite (within (one_stmt number at span (try_form body handlers)) around) body) (listed_handlers (within (one_stmt number at span (try_form body handlers)) around) handlers)
        (suite_binds body name) (handler_suites_bind handlers name) is (suite_binder (within (one_stmt number at span (try_form body handlers)) around) body refl)
        (handlers_binder (within (one_stmt number at span (try_form body handlers)) around) handlers refl)
    form_binder around number at span (with_form e bound body) is = suite_binder (within (one_stmt number at span (with_form e bound body)) around) body refl is
    form_binder around number at span (def_form own params globals body) is = absurd (false≢true is)
    form_binder around number at span (class_form own base body) is = absurd (false≢true is)
    form_binder around number at span (do_form e) is = absurd (false≢true is)
    form_binder around number at span (assign_form target e) is = absurd (false≢true is)
    form_binder around number at span (aug_form target sign p e) is = absurd (false≢true is)
    form_binder around number at span (del_form target) is = absurd (false≢true is)
    form_binder around number at span pass_form is = absurd (false≢true is)
    form_binder around number at span break_form is = absurd (false≢true is)
    form_binder around number at span continue_form is = absurd (false≢true is)
    form_binder around number at span (return_form e) is = absurd (false≢true is)
    form_binder around number at span (raise_form e) is = absurd (false≢true is)
    form_binder around number at span (assert_form test message) is = absurd (false≢true is)
    form_binder around number at span (import_form own) is = absurd (false≢true is)

    branches_binder : (around : Around) (branches : BranchesTree) → owner_is_class around ≡ false → branches_bind branches name ≡ true → Binder around.function (listed_branches around branches)
    branches_binder around end_branches plain is = absurd (false≢true is)
    branches_binder around (more_branches test body rest) plain is =
        binder_of (listed_suite around body) (listed_branches around rest) (suite_binds body name) (branches_bind rest name) is (suite_binder around body plain) (branches_binder around rest plain)

    else_binder : (around : Around) (orelse : ElseTree) → owner_is_class around ≡ false → else_binds orelse name ≡ true → Binder around.function (listed_else around orelse)
    else_binder around no_else plain is = absurd (false≢true is)
    else_binder around (else_suite body) plain is = suite_binder around body plain is

    handlers_binder : (around : Around) (handlers : HandlersTree) → owner_is_class around ≡ false → handler_suites_bind handlers name ≡ true → Binder around.function (listed_handlers around handlers)
    handlers_binder around end_handlers plain is = absurd (false≢true is)
    handlers_binder around (more_handlers kind bound body rest) plain is =
        binder_of (listed_suite around body) (listed_handlers around rest) (suite_binds body name) (handler_suites_bind rest name) is (suite_binder around body plain) (handlers_binder around rest plain)

  module _ (d : ℕ) where
    -- what the first binder of a function is
    pub record FirstBinder (xs : List Standing) : Type 0 where
      pub binder : ℕ
      pub first : first_binder (Some d) name xs ≡ Some binder
      pub one : Standing
      pub there : IsIn xs one
      pub number_is : number_at one ≡ binder
      pub function_is : one.around.function ≡ Some d
      pub binds_it : binds_here one ≡ true

    in_own : (x : Standing) → x.around.function ≡ Some d → in_function (Some d) x ≡ true
    in_own x own = ap (λ (found : Option ℕ). elim found [ None ↦ false | Some g ↦ d == g ]) own ∙ eq-eqb d d refl

    own_in : (found : Option ℕ) → elim found [ None ↦ false | Some g ↦ d == g ] ≡ true → found ≡ Some d
    own_in None is = absurd (false≢true is)
    own_in (Some g) is = ap Some (sym (eqb-true d g is))

    pub first_found : (xs : List Standing) (y : Standing) → IsIn xs y → y.around.function ≡ Some d → binds_here y ≡ true → FirstBinder xs
    first_found [] y there own is = absurd there
    first_found (x ∷ xs) y there own is = by_test (in_function (Some d) x && binds_here x) refl there (λ later. first_found xs y later own is)
      where
        by_test : (test : Bool) → (in_function (Some d) x && binds_here x) ≡ test → IsIn (x ∷ xs) y → (IsIn xs y → FirstBinder xs) → FirstBinder (x ∷ xs)
        by_test true found there later =
            let parts : (in_function (Some d) x ≡ true) × (binds_here x ≡ true) = and_parts (in_function (Some d) x) (binds_here x) found in
            record {
              binder = number_at x;
              first = ap (λ (test : Bool). if test then Some (number_at x) else first_binder (Some d) name xs) found;
              one = x;
              there = inl refl;
              number_is = refl;
              function_is = own_in x.around.function parts.0;
              binds_it = parts.1;
            }
        by_test false none (inl same) later =
            absurd (false≢true (sym none ∙ (ap (λ (z : Standing). in_function (Some d) z && binds_here z) same ∙ ap₂ ◌&&◌ (in_own y own) is)))
        by_test false none (inr there) later = behind (later there)
          where
            behind : FirstBinder xs → FirstBinder (x ∷ xs)
            behind found = record {
              binder = found.binder;
              first = ap (λ (test : Bool). if test then Some (number_at x) else first_binder (Some d) name xs) none ∙ found.first;
              one = found.one;
              there = inr found.there;
              number_is = found.number_is;
              function_is = found.function_is;
              binds_it = found.binds_it;
            }
