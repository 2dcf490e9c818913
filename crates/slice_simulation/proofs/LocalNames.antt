-- A name that a kept statement of a function binds is bound in the slice's function too.
use Rattle.std.proofs.Common.{◌≡◌, ℕ, ◌+◌, Bool, true, false, if◌then◌else◌, not, ◌||◌, ◌⊎◌, List, ◌∷◌, ◌++◌, Option, Some, inl, inr, refl, sym, ap, ◌∙◌}
use Rattle.std.specs.Prelude.{is_some}
use Rattle.std.proofs.lemmas.Bool.{false≢true}
use Rattle.prov_base.specs.declared.place.Pos.{Pos}
use Rattle.prov_base.specs.declared.place.Span.{Span}
use Rattle.py_tree.specs.Binds.{bound_is, handlers_bind, form_binds}
use Rattle.py_tree.specs.Deletion.{or_pass, kept_suite, kept_stmt, kept_form, kept_branches, kept_else, kept_handlers}
use Rattle.py_tree.specs.Functions.{suite_binds, stmt_binds, inner_binds, branches_bind, else_binds, handler_suites_bind}
use Rattle.py_tree.specs.Numbering.{size_stmt, size_suite, size_branches, numbered_suite, numbered_stmt, numbered_form, numbered_branches, numbered_else, numbered_handlers}
use Rattle.py_tree.specs.Owners.{Around, Standing, form_in, number_at, within, listed_stmt, listed_form, listed_suite, listed_branches, listed_else, listed_handlers}
use Rattle.py_tree.specs.Placed.{place_of}
use Rattle.py_tree.specs.Tree.{number_of, ExprTree, StmtTree, FormTree, SuiteTree, BranchesTree, ElseTree, HandlersTree, one_stmt, do_form, assign_form, aug_form, del_form, pass_form, break_form, continue_form, return_form, raise_form, assert_form, import_form, if_form, while_form, for_form, try_form, with_form, def_form, class_form, end_suite, more_suite, end_branches, more_branches, no_else, else_suite, end_handlers, more_handlers}
use Rattle.slice_law.specs.Closed.{StmtSet, IsIn}
use Rattle.slice_simulation.proofs.ListedStatements.{FromFunction, around_all, starts_inside, suite_function, stmt_starts_it}
use Rattle.slice_simulation.proofs.OutsideStatements.{deleted_outside}
use Rattle.slice_simulation.proofs.Standing.{in_front, in_behind}
use Rattle.slice_simulation.proofs.StartsOnce.{either_in}
use Rattle.slice_law.specs.Classes.{stands_outside}
use Rattle.slice_simulation.specs.Owned.{started_suite, started_stmt, started_branches, started_else, started_handlers}
use Rattle.slice_simulation.specs.Under.{UnderSuite, UnderStmt, UnderForm, UnderBranches, UnderElse, UnderHandlers}

or_left : (a b : Bool) → a ≡ true → (a || b) ≡ true
or_left a b is = ap (λ c. c || b) is

or_right : (a b : Bool) → b ≡ true → (a || b) ≡ true
or_right true b is = refl
or_right false b is = is

module _ (keep : StmtSet) (name : List ℕ) where
  handlers_bind_same : (m : ℕ) (handlers : HandlersTree) → handlers_bind (numbered_handlers m (kept_handlers keep handlers)) name ≡ handlers_bind handlers name
  handlers_bind_same m end_handlers = refl
  handlers_bind_same m (more_handlers kind bound body rest) = ap (λ b. bound_is bound name || b) (handlers_bind_same (m + size_suite (or_pass body (kept_suite keep body))) rest)

  -- a kept statement binds what it bound
  form_binds_same : (m : ℕ) (form : FormTree) → form_binds (numbered_form m (kept_form keep form)) name ≡ form_binds form name
  form_binds_same m (try_form body handlers) = handlers_bind_same (m + size_suite (or_pass body (kept_suite keep body))) handlers
  form_binds_same m (if_form branches other) = refl
  form_binds_same m (while_form test body) = refl
  form_binds_same m (for_form target items body) = refl
  form_binds_same m (with_form e bound body) = refl
  form_binds_same m (def_form own params globals body) = refl
  form_binds_same m (class_form own base body) = refl
  form_binds_same m (do_form e) = refl
  form_binds_same m (assign_form target e) = refl
  form_binds_same m (aug_form target sign p e) = refl
  form_binds_same m (del_form target) = refl
  form_binds_same m pass_form = refl
  form_binds_same m break_form = refl
  form_binds_same m continue_form = refl
  form_binds_same m (return_form e) = refl
  form_binds_same m (raise_form e) = refl
  form_binds_same m (assert_form test message) = refl
  form_binds_same m (import_form own) = refl

  pub or_pass_binds : (m : ℕ) (body kept : SuiteTree) → suite_binds (numbered_suite m kept) name ≡ true → suite_binds (numbered_suite m (or_pass body kept)) name ≡ true
  or_pass_binds m end_suite kept is = is
  or_pass_binds m (more_suite (one_stmt number at span form) rest) end_suite is = absurd (false≢true is)
  or_pass_binds m (more_suite (one_stmt number at span form) rest) (more_suite s more) is = is

  module _ (x : Standing) (d : ℕ) (own : x.around.function ≡ Some d) (binds_it : form_binds (form_in x.stmt) name ≡ true) (kept : keep (number_at x) ≡ true) where
    -- what is known of what stands around: no statement in it has the number of the function, and it has no class
    pub record InFunction (around : Around) (listed : List Standing) (starts : List (ℕ × Pos)) : Type 0 where
      pub function_is : around.function ≡ Some d
      pub apart : (p : Pos) → IsIn starts (d, p) → ⊥
      pub outside : (y : Standing) → IsIn listed y → stands_outside y ≡ true

    in_left : {around : Around} {us : List Standing} {xs : List (ℕ × Pos)} (vs : List Standing) (ys : List (ℕ × Pos)) → InFunction around (us ++ vs) (xs ++ ys) → InFunction around us xs
    in_left {around} {us} {xs} vs ys known = record {
      function_is = known.function_is;
      apart = λ p there. known.apart p (in_front xs ys (d, p) there);
      outside = λ y there. known.outside y (in_front us vs y there);
    }

    in_right : {around : Around} (us : List Standing) (xs : List (ℕ × Pos)) {vs : List Standing} {ys : List (ℕ × Pos)} → InFunction around (us ++ vs) (xs ++ ys) → InFunction around vs ys
    in_right {around} us xs {vs} {ys} known = record {
      function_is = known.function_is;
      apart = λ p there. known.apart p (in_behind xs ys (d, p) there);
      outside = λ y there. known.outside y (in_behind us vs y there);
    }

    one_or_other : (us vs : List Standing) (a b : Bool) → IsIn (us ++ vs) x → (IsIn us x → a ≡ true) → (IsIn vs x → b ≡ true) → (a || b) ≡ true
    one_or_other us vs a b there front behind = by_either (either_in us vs x there)
      where
        by_either : IsIn us x ⊎ IsIn vs x → (a || b) ≡ true
        by_either (inl here) = or_left a b (front here)
        by_either (inr later) = or_right a b (behind later)

    -- in a function no class stands
    no_class : {around : Around} {listed : List Standing} {starts : List (ℕ × Pos)} (number : ℕ) (at : Pos) (span : Span) (own_name : List ℕ) (base : Option ExprTree) (body : SuiteTree)
        → InFunction around (record { stmt = one_stmt number at span (class_form own_name base body); around = around } ∷ listed) starts → ⊥
    no_class {around} {listed} {starts} number at span own_name base body known =
        false≢true (sym (ap (λ (f : Option ℕ). not (is_some f)) known.function_is) ∙ known.outside (record { stmt = one_stmt number at span (class_form own_name base body); around = around }) (inl refl))

    -- what stands in a function inside has that one as its function
    no_def : {around : Around} {listed : List Standing} (number : ℕ) (at : Pos) (span : Span) (own_name : List ℕ) (params globals : List (List ℕ)) (body : SuiteTree)
        → InFunction around listed ((number, at) ∷ started_suite body)
        → IsIn (listed_suite (within (one_stmt number at span (def_form own_name params globals body)) around) body) x → ⊥
    no_def {around} {listed} number at span own_name params globals body known there =
        by_function (suite_function x d own (within (one_stmt number at span (def_form own_name params globals body)) around) body there)
      where
        by_function : FromFunction x d own (within (one_stmt number at span (def_form own_name params globals body)) around) (started_suite body) → ⊥
        by_function (around_all is) = known.apart at (inl (let number_is : number ≡ d = cc in ap (λ n. (n, at)) number_is))
        by_function (starts_inside p here) = known.apart p (inr here)

    -- in the suites of a statement that is no definition
    go_inside : {around inner : Around} {s : Standing} {listed : List Standing} {start : ℕ × Pos} {starts : List (ℕ × Pos)} → inner.function ≡ around.function
        → InFunction around (s ∷ listed) (start ∷ starts) → InFunction inner listed starts
    go_inside {around} {inner} {s} {listed} {start} {starts} same known =
        record { function_is = same ∙ known.function_is; apart = λ p there. known.apart p (inr there); outside = λ y there. known.outside y (inr there) }

    mutual
      pub suite_bound : (m : ℕ) (k : Bool) (around : Around) (body : SuiteTree) → UnderSuite keep k body → InFunction around (listed_suite around body) (started_suite body)
          → IsIn (listed_suite around body) x → suite_binds (numbered_suite m (kept_suite keep body)) name ≡ true
      suite_bound m k around end_suite under known there = absurd there
      suite_bound m k around (more_suite s rest) under known there =
          by_test (keep (number_of s)) refl (λ here. stmt_bound m k around s under.0 (in_left (listed_suite around rest) (started_suite rest) known) here)
          (λ first later. suite_bound first k around rest under.1 (in_right (listed_stmt around s) (started_stmt s) known) later)
        where
          gone : keep (number_of s) ≡ false → IsIn (listed_stmt around s) x → false ≡ true
          gone out here = sym (deleted_outside keep (number_at x) (place_of x) k s out under.0 (stmt_starts_it x around s here)) ∙ kept

          by_test : (test : Bool) → keep (number_of s) ≡ test → (IsIn (listed_stmt around s) x → stmt_binds (numbered_stmt m (kept_stmt keep s)) name ≡ true)
              → ((first : ℕ) → IsIn (listed_suite around rest) x → suite_binds (numbered_suite first (kept_suite keep rest)) name ≡ true)
              → suite_binds (numbered_suite m (if test then more_suite (kept_stmt keep s) (kept_suite keep rest) else kept_suite keep rest)) name ≡ true
          by_test true is here later =
              one_or_other (listed_stmt around s) (listed_suite around rest) (stmt_binds (numbered_stmt m (kept_stmt keep s)) name)
              (suite_binds (numbered_suite (m + size_stmt (kept_stmt keep s)) (kept_suite keep rest)) name) there here (later (m + size_stmt (kept_stmt keep s)))
          by_test false is here later =
              one_or_other (listed_stmt around s) (listed_suite around rest) false (suite_binds (numbered_suite m (kept_suite keep rest)) name) there (gone is) (later m)

      stmt_bound : (m : ℕ) (k : Bool) (around : Around) (s : StmtTree) → UnderStmt keep k s → InFunction around (listed_stmt around s) (started_stmt s)
          → IsIn (listed_stmt around s) x → stmt_binds (numbered_stmt m (kept_stmt keep s)) name ≡ true
      stmt_bound m k around (one_stmt number at span form) under known (inl is) =
          or_left (form_binds (numbered_form (m + 1) (kept_form keep form)) name) (inner_binds (numbered_form (m + 1) (kept_form keep form)) name)
          (form_binds_same (m + 1) form ∙ (ap (λ (y : Standing). form_binds (form_in y.stmt) name) is ∙ binds_it))
      stmt_bound m k around (one_stmt number at span form) under known (inr there) =
          or_right (form_binds (numbered_form (m + 1) (kept_form keep form)) name) (inner_binds (numbered_form (m + 1) (kept_form keep form)) name)
          (form_bound (m + 1) (keep number) around number at span form under.1 known there)

      form_bound : (m : ℕ) (k : Bool) (around : Around) (number : ℕ) (at : Pos) (span : Span) (form : FormTree) → UnderForm keep k form
          → InFunction around (listed_stmt around (one_stmt number at span form)) (started_stmt (one_stmt number at span form))
          → IsIn (listed_form (within (one_stmt number at span form) around) form) x → inner_binds (numbered_form m (kept_form keep form)) name ≡ true
      form_bound m k around number at span (if_form branches orelse) under known there =
          one_or_other (listed_branches (within (one_stmt number at span (if_form branches orelse)) around) branches) (listed_else (within (one_stmt number at span (if_form branches orelse)) around) orelse)
          (branches_bind (numbered_branches m (kept_branches keep branches)) name) (else_binds (numbered_else (m + size_branches (kept_branches keep branches)) (kept_else keep orelse)) name) there
          (branches_bound m k (within (one_stmt number at span (if_form branches orelse)) around) branches under.0
          (in_left (listed_else (within (one_stmt number at span (if_form branches orelse)) around) orelse) (started_else orelse) (go_inside refl known)))
          (else_bound (m + size_branches (kept_branches keep branches)) k (within (one_stmt number at span (if_form branches orelse)) around) orelse under.1
          (in_right (listed_branches (within (one_stmt number at span (if_form branches orelse)) around) branches) (started_branches branches) (go_inside refl known)))
      form_bound m k around number at span (while_form test body) under known there =
          or_pass_binds m body (kept_suite keep body) (suite_bound m k (within (one_stmt number at span (while_form test body)) around) body under (go_inside refl known) there)
      form_bound m k around number at span (for_form target items body) under known there =
          or_pass_binds m body (kept_suite keep body) (suite_bound m k (within (one_stmt number at span (for_form target items body)) around) body under (go_inside refl known) there)
      form_bound m k around number at span (try_form body handlers) under known there =
          one_or_other (listed_suite (within (one_stmt number at span (try_form body handlers)) around) body) (listed_handlers (within (one_stmt number at span (try_form body handlers)) around) handlers)
          (suite_binds (numbered_suite m (or_pass body (kept_suite keep body))) name)
          (handler_suites_bind (numbered_handlers (m + size_suite (or_pass body (kept_suite keep body))) (kept_handlers keep handlers)) name) there
          (λ here. or_pass_binds m body (kept_suite keep body) (suite_bound m k (within (one_stmt number at span (try_form body handlers)) around) body under.0
          (in_left (listed_handlers (within (one_stmt number at span (try_form body handlers)) around) handlers) (started_handlers handlers) (go_inside refl known)) here))
          (handlers_bound (m + size_suite (or_pass body (kept_suite keep body))) k (within (one_stmt number at span (try_form body handlers)) around) handlers under.1
          (in_right (listed_suite (within (one_stmt number at span (try_form body handlers)) around) body) (started_suite body) (go_inside refl known)))
      form_bound m k around number at span (with_form e bound body) under known there =
          or_pass_binds m body (kept_suite keep body) (suite_bound m k (within (one_stmt number at span (with_form e bound body)) around) body under (go_inside refl known) there)
      form_bound m k around number at span (def_form own_name params globals body) under known there = absurd (no_def number at span own_name params globals body known there)
      form_bound m k around number at span (class_form own_name base body) under known there = absurd (no_class number at span own_name base body known)
      form_bound m k around number at span (do_form e) under known there = absurd there
      form_bound m k around number at span (assign_form target e) under known there = absurd there
      form_bound m k around number at span (aug_form target sign p e) under known there = absurd there
      form_bound m k around number at span (del_form target) under known there = absurd there
      form_bound m k around number at span pass_form under known there = absurd there
      form_bound m k around number at span break_form under known there = absurd there
      form_bound m k around number at span continue_form under known there = absurd there
      form_bound m k around number at span (return_form e) under known there = absurd there
      form_bound m k around number at span (raise_form e) under known there = absurd there
      form_bound m k around number at span (assert_form test message) under known there = absurd there
      form_bound m k around number at span (import_form own_name) under known there = absurd there

      branches_bound : (m : ℕ) (k : Bool) (around : Around) (branches : BranchesTree) → UnderBranches keep k branches → InFunction around (listed_branches around branches) (started_branches branches)
          → IsIn (listed_branches around branches) x → branches_bind (numbered_branches m (kept_branches keep branches)) name ≡ true
      branches_bound m k around end_branches under known there = absurd there
      branches_bound m k around (more_branches test body rest) under known there =
          one_or_other (listed_suite around body) (listed_branches around rest) (suite_binds (numbered_suite m (or_pass body (kept_suite keep body))) name)
          (branches_bind (numbered_branches (m + size_suite (or_pass body (kept_suite keep body))) (kept_branches keep rest)) name) there
          (λ here. or_pass_binds m body (kept_suite keep body) (suite_bound m k around body under.0 (in_left (listed_branches around rest) (started_branches rest) known) here))
          (branches_bound (m + size_suite (or_pass body (kept_suite keep body))) k around rest under.1 (in_right (listed_suite around body) (started_suite body) known))

      else_bound : (m : ℕ) (k : Bool) (around : Around) (orelse : ElseTree) → UnderElse keep k orelse → InFunction around (listed_else around orelse) (started_else orelse)
          → IsIn (listed_else around orelse) x → else_binds (numbered_else m (kept_else keep orelse)) name ≡ true
      else_bound m k around no_else under known there = absurd there
      else_bound m k around (else_suite body) under known there = or_pass_binds m body (kept_suite keep body) (suite_bound m k around body under known there)

      handlers_bound : (m : ℕ) (k : Bool) (around : Around) (handlers : HandlersTree) → UnderHandlers keep k handlers → InFunction around (listed_handlers around handlers) (started_handlers handlers)
          → IsIn (listed_handlers around handlers) x → handler_suites_bind (numbered_handlers m (kept_handlers keep handlers)) name ≡ true
      handlers_bound m k around end_handlers under known there = absurd there
      handlers_bound m k around (more_handlers kind bound body rest) under known there =
          one_or_other (listed_suite around body) (listed_handlers around rest) (suite_binds (numbered_suite m (or_pass body (kept_suite keep body))) name)
          (handler_suites_bind (numbered_handlers (m + size_suite (or_pass body (kept_suite keep body))) (kept_handlers keep rest)) name) there
          (λ here. or_pass_binds m body (kept_suite keep body) (suite_bound m k around body under.0 (in_left (listed_handlers around rest) (started_handlers rest) known) here))
          (handlers_bound (m + size_suite (or_pass body (kept_suite keep body))) k around rest under.1 (in_right (listed_suite around body) (started_suite body) known))
