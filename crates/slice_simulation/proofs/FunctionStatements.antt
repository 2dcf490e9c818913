-- The statements of a function are those that stand in the `def` with its number, and no other.
use Rattle.std.proofs.Common.{◌≡◌, ◌<◌, ℕ, ◌+◌, Bool, false, ◌⊎◌, List, ◌∷◌, Some, None, inl, inr, refl, sym, ap, subst, ◌∙◌, arith}
use Rattle.std.specs.Option.{option_map_or}
use Rattle.prov_base.specs.declared.place.Pos.{Pos}
use Rattle.prov_base.specs.declared.place.Span.{Span}
use Rattle.py_tree.specs.Binds.{is_class}
use Rattle.py_tree.specs.Functions.{Function, functions_in, functions_of, functions_at}
use Rattle.py_tree.specs.Numbering.{size_stmt, size_suite, numbered_suite, numbered_stmt}
use Rattle.py_tree.specs.Owners.{Around, Standing, form_in, within, listed_stmt, listed_suite}
use Rattle.py_tree.specs.Placed.{place_of}
use Rattle.py_tree.specs.Tree.{StmtTree, FormTree, SuiteTree, one_stmt, do_form, assign_form, aug_form, del_form, pass_form, break_form, continue_form, return_form, raise_form, assert_form, import_form, if_form, while_form, for_form, try_form, with_form, def_form, class_form, end_suite, more_suite}
use Rattle.slice_law.specs.Closed.{IsIn}
use Rattle.slice_simulation.proofs.ListedStatements.{FromFunction, around_all, starts_inside, suite_function, stmt_function}
use Rattle.slice_simulation.proofs.NumberedStatements.{IsAmong, suite_among, stmt_among}
use Rattle.slice_simulation.proofs.Standing.{in_front, in_behind}
use Rattle.slice_simulation.proofs.StartsOnce.{either_in}
use Rattle.slice_simulation.specs.Owned.{started_suite, started_stmt}

abbrev pub owner_is_class : Around → Bool
owner_is_class around = option_map_or (λ owner. is_class (form_in owner)) around.owner false

-- the number of its `def`, and what its statements stand in
pub record FunctionListed (f : Function) (listed : List Standing) (starts : List (ℕ × Pos)) : Type 0 where
  pub number : ℕ
  pub starts_is : IsIn starts (number, f.place)
  pub def : Standing
  pub def_there : IsIn listed def
  pub def_place : place_of def ≡ f.place
  pub inside : Around
  pub function_is : inside.function ≡ Some number
  pub owner_is : owner_is_class inside ≡ false
  pub into : (y : Standing) → IsIn (listed_suite inside f.body) y → IsIn listed y
  pub back : (y : Standing) → IsIn listed y → y.around.function ≡ Some number → IsIn (listed_suite inside f.body) y
  pub apart : (p : Pos) → IsIn (started_suite f.body) (number, p) → ⊥

-- what stands at module level is in no function
outside : (around : Around) (n : ℕ) → around.function ≡ None → around.function ≡ Some n → ⊥
outside around n none some = not_both (sym none ∙ some)
  where
    not_both : None ≡ Some n → ⊥
    not_both is = cc

not_number : (n m size : ℕ) → IsAmong n m size → n < m → ⊥
not_number n m size one less = omega (arith, one.least, less)

module _ (f : Function) where
  in_first : (m : ℕ) (around : Around) (s : StmtTree) (rest : SuiteTree) → numbered_suite m (more_suite s rest) ≡ more_suite s rest → around.function ≡ None
      → FunctionListed f (listed_stmt around s) (started_stmt s) → FunctionListed f (listed_suite around (more_suite s rest)) (started_suite (more_suite s rest))
  in_first m around s rest same none found = record {
    number = found.number;
    starts_is = in_front (started_stmt s) (started_suite rest) (found.number, f.place) found.starts_is;
    def = found.def;
    def_there = in_front (listed_stmt around s) (listed_suite around rest) found.def found.def_there;
    def_place = found.def_place;
    inside = found.inside;
    function_is = found.function_is;
    owner_is = found.owner_is;
    into = λ y there. in_front (listed_stmt around s) (listed_suite around rest) y (found.into y there);
    back = λ y there own. by_either y own (either_in (listed_stmt around s) (listed_suite around rest) y there);
    apart = found.apart;
  }
    where
      first : numbered_stmt m s ≡ s
      first = cc

      later : numbered_suite (m + size_stmt s) rest ≡ rest
      later = cc

      not_later : (y : Standing) (own : y.around.function ≡ Some found.number) → FromFunction y found.number own around (started_suite rest) → ⊥
      not_later y own (around_all is) = outside around found.number none is
      not_later y own (starts_inside p there) =
          not_number found.number (m + size_stmt s) (size_suite rest) (suite_among found.number p (m + size_stmt s) rest later there)
          (IsAmong.below (stmt_among found.number f.place m s first found.starts_is))

      by_either : (y : Standing) → y.around.function ≡ Some found.number → IsIn (listed_stmt around s) y ⊎ IsIn (listed_suite around rest) y → IsIn (listed_suite found.inside f.body) y
      by_either y own (inl here) = found.back y here own
      by_either y own (inr there) = absurd (not_later y own (suite_function y found.number own around rest there))

  in_rest : (m : ℕ) (around : Around) (s : StmtTree) (rest : SuiteTree) → numbered_suite m (more_suite s rest) ≡ more_suite s rest → around.function ≡ None
      → FunctionListed f (listed_suite around rest) (started_suite rest) → FunctionListed f (listed_suite around (more_suite s rest)) (started_suite (more_suite s rest))
  in_rest m around s rest same none found = record {
    number = found.number;
    starts_is = in_behind (started_stmt s) (started_suite rest) (found.number, f.place) found.starts_is;
    def = found.def;
    def_there = in_behind (listed_stmt around s) (listed_suite around rest) found.def found.def_there;
    def_place = found.def_place;
    inside = found.inside;
    function_is = found.function_is;
    owner_is = found.owner_is;
    into = λ y there. in_behind (listed_stmt around s) (listed_suite around rest) y (found.into y there);
    back = λ y there own. by_either y own (either_in (listed_stmt around s) (listed_suite around rest) y there);
    apart = found.apart;
  }
    where
      first : numbered_stmt m s ≡ s
      first = cc

      later : numbered_suite (m + size_stmt s) rest ≡ rest
      later = cc

      not_first : (y : Standing) (own : y.around.function ≡ Some found.number) → FromFunction y found.number own around (started_stmt s) → ⊥
      not_first y own (around_all is) = outside around found.number none is
      not_first y own (starts_inside p there) =
          not_number found.number (m + size_stmt s) (size_suite rest) (suite_among found.number f.place (m + size_stmt s) rest later found.starts_is)
          (IsAmong.below (stmt_among found.number p m s first there))

      by_either : (y : Standing) → y.around.function ≡ Some found.number → IsIn (listed_stmt around s) y ⊎ IsIn (listed_suite around rest) y → IsIn (listed_suite found.inside f.body) y
      by_either y own (inl here) = absurd (not_first y own (stmt_function y found.number own around s here))
      by_either y own (inr there) = found.back y there own

-- the function of a `def`
of_def : (m : ℕ) (around : Around) (number : ℕ) (at : Pos) (span : Span) (name : List ℕ) (params globals : List (List ℕ)) (body : SuiteTree)
    → numbered_stmt m (one_stmt number at span (def_form name params globals body)) ≡ one_stmt number at span (def_form name params globals body) → around.function ≡ None
    → FunctionListed (record { place = at; params = params; globals = globals; body = body }) (listed_stmt around (one_stmt number at span (def_form name params globals body))) ((number, at) ∷ started_suite body)
of_def m around number at span name params globals body same none = record {
  number = number;
  starts_is = inl refl;
  def = record { stmt = one_stmt number at span (def_form name params globals body); around = around };
  def_there = inl refl;
  def_place = refl;
  inside = within (one_stmt number at span (def_form name params globals body)) around;
  function_is = refl;
  owner_is = refl;
  into = λ y there. inr there;
  back = λ y there own. not_itself y own there;
  apart = λ p there. not_number number (m + 1) (size_suite body) (suite_among number p (m + 1) body inner there) (omega (arith, number_is));
}
  where
    number_is : m ≡ number
    number_is = cc

    inner : numbered_suite (m + 1) body ≡ body
    inner = cc

    not_itself : (y : Standing) → y.around.function ≡ Some number → IsIn (listed_stmt around (one_stmt number at span (def_form name params globals body))) y
        → IsIn (listed_suite (within (one_stmt number at span (def_form name params globals body)) around) body) y
    not_itself y own (inl is) = absurd (outside around number none (ap (λ (z : Standing). z.around.function) is ∙ own))
    not_itself y own (inr there) = there

module _ (f : Function) where
  -- a function of a class
  of_class : (around : Around) (number : ℕ) (at : Pos) (span : Span) (form : FormTree) (listed : List Standing) (starts : List (ℕ × Pos)) → around.function ≡ None
      → FunctionListed f listed starts → FunctionListed f (record { stmt = one_stmt number at span form; around = around } ∷ listed) ((number, at) ∷ starts)
  of_class around number at span form listed starts none found = record {
    number = found.number;
    starts_is = inr found.starts_is;
    def = found.def;
    def_there = inr found.def_there;
    def_place = found.def_place;
    inside = found.inside;
    function_is = found.function_is;
    owner_is = found.owner_is;
    into = λ y there. inr (found.into y there);
    back = λ y there own. not_itself y own there;
    apart = found.apart;
  }
    where
      not_itself : (y : Standing) → y.around.function ≡ Some found.number → IsIn (record { stmt = one_stmt number at span form; around = around } ∷ listed) y → IsIn (listed_suite found.inside f.body) y
      not_itself y own (inl is) = absurd (outside around found.number none (ap (λ (z : Standing). z.around.function) is ∙ own))
      not_itself y own (inr there) = found.back y there own

  mutual
    pub suite_lists : (m : ℕ) (around : Around) (body : SuiteTree) → numbered_suite m body ≡ body → around.function ≡ None → IsIn (functions_in body) f
        → FunctionListed f (listed_suite around body) (started_suite body)
    suite_lists m around end_suite same none there = absurd there
    suite_lists m around (more_suite s rest) same none there =
        let first : numbered_stmt m s ≡ s = cc in
        let later : numbered_suite (m + size_stmt s) rest ≡ rest = cc in
        by_either (either_in (functions_of s) (functions_in rest) f there) (λ here. stmt_lists m around s first none here) (λ behind. suite_lists (m + size_stmt s) around rest later none behind)
      where
        by_either : IsIn (functions_of s) f ⊎ IsIn (functions_in rest) f → (IsIn (functions_of s) f → FunctionListed f (listed_stmt around s) (started_stmt s))
            → (IsIn (functions_in rest) f → FunctionListed f (listed_suite around rest) (started_suite rest)) → FunctionListed f (listed_suite around (more_suite s rest)) (started_suite (more_suite s rest))
        by_either (inl here) own others = in_first f m around s rest same none (own here)
        by_either (inr behind) own others = in_rest f m around s rest same none (others behind)

    stmt_lists : (m : ℕ) (around : Around) (s : StmtTree) → numbered_stmt m s ≡ s → around.function ≡ None → IsIn (functions_of s) f → FunctionListed f (listed_stmt around s) (started_stmt s)
    stmt_lists m around (one_stmt number at span form) same none there = form_lists m around number at span form same none there

    form_lists : (m : ℕ) (around : Around) (number : ℕ) (at : Pos) (span : Span) (form : FormTree) → numbered_stmt m (one_stmt number at span form) ≡ one_stmt number at span form
        → around.function ≡ None → IsIn (functions_at at form) f → FunctionListed f (listed_stmt around (one_stmt number at span form)) (started_stmt (one_stmt number at span form))
    form_lists m around number at span (def_form name params globals body) same none (inl is) =
        subst (λ g. FunctionListed g (listed_stmt around (one_stmt number at span (def_form name params globals body))) ((number, at) ∷ started_suite body)) is
        (of_def m around number at span name params globals body same none)
    form_lists m around number at span (def_form name params globals body) same none (inr there) = absurd there
    form_lists m around number at span (class_form name base body) same none there =
        let inner : numbered_suite (m + 1) body ≡ body = cc in
        of_class around number at span (class_form name base body) (listed_suite (within (one_stmt number at span (class_form name base body)) around) body) (started_suite body) none
        (suite_lists (m + 1) (within (one_stmt number at span (class_form name base body)) around) body inner none there)
    form_lists m around number at span (do_form e) same none there = absurd there
    form_lists m around number at span (assign_form target e) same none there = absurd there
    form_lists m around number at span (aug_form target sign p e) same none there = absurd there
    form_lists m around number at span (del_form target) same none there = absurd there
    form_lists m around number at span pass_form same none there = absurd there
    form_lists m around number at span break_form same none there = absurd there
    form_lists m around number at span continue_form same none there = absurd there
    form_lists m around number at span (return_form e) same none there = absurd there
    form_lists m around number at span (raise_form e) same none there = absurd there
    form_lists m around number at span (assert_form test message) same none there = absurd there
    form_lists m around number at span (import_form name) same none there = absurd there
    form_lists m around number at span (if_form branches other) same none there = absurd there
    form_lists m around number at span (while_form test body) same none there = absurd there
    form_lists m around number at span (for_form target items body) same none there = absurd there
    form_lists m around number at span (try_form body handlers) same none there = absurd there
    form_lists m around number at span (with_form e bound body) same none there = absurd there
