-- The numbers of a suite that is numbered from some number on: they begin there, and are as many as there are statements.
use Rattle.std.proofs.Common.{◌≡◌, ◌≤◌, ◌<◌, ℕ, ◌+◌, ◌⊎◌, List, ◌++◌, inl, inr, sym, ap, ◌∙◌, arith}
use Rattle.prov_base.specs.declared.place.Pos.{Pos}
use Rattle.py_tree.specs.Numbering.{size_stmt, size_form, size_suite, size_branches, size_else, size_handlers, numbered_suite, numbered_stmt, numbered_form, numbered_branches, numbered_else, numbered_handlers}
use Rattle.py_tree.specs.Tree.{StmtTree, FormTree, SuiteTree, BranchesTree, ElseTree, HandlersTree, one_stmt, do_form, assign_form, aug_form, del_form, pass_form, break_form, continue_form, return_form, raise_form, assert_form, import_form, if_form, while_form, for_form, try_form, with_form, def_form, class_form, end_suite, more_suite, end_branches, more_branches, no_else, else_suite, end_handlers, more_handlers}
use Rattle.slice_law.specs.Closed.{IsIn}
use Rattle.slice_simulation.proofs.StartsOnce.{either_in}
use Rattle.slice_simulation.specs.Owned.{started_suite, started_stmt, started_form, started_branches, started_else, started_handlers}

-- one of so many numbers from a number on
pub record IsAmong (n m size : ℕ) : Type 0 where
  pub least : m ≤ n
  pub below : n < m + size

module _ (n : ℕ) (place : Pos) where
  among_parts : (m a b : ℕ) (xs ys : List (ℕ × Pos)) → IsIn (xs ++ ys) (n, place) → (IsIn xs (n, place) → IsAmong n m a) → (IsIn ys (n, place) → IsAmong n (m + a) b) → IsAmong n m (a + b)
  among_parts m a b xs ys there front behind = by_either (either_in xs ys (n, place) there)
    where
      by_either : IsIn xs (n, place) ⊎ IsIn ys (n, place) → IsAmong n m (a + b)
      by_either (inl here) = let one : IsAmong n m a = front here in record { least = one.least; below = omega (arith, one.below) }
      by_either (inr later) = let one : IsAmong n (m + a) b = behind later in record { least = omega (arith, one.least); below = omega (arith, one.below) }

  mutual
    pub suite_among : (m : ℕ) (body : SuiteTree) → numbered_suite m body ≡ body → IsIn (started_suite body) (n, place) → IsAmong n m (size_suite body)
    suite_among m end_suite same there = absurd there
    suite_among m (more_suite s rest) same there =
        let first : numbered_stmt m s ≡ s = cc in
        let later : numbered_suite (m + size_stmt s) rest ≡ rest = cc in
        among_parts m (size_stmt s) (size_suite rest) (started_stmt s) (started_suite rest) there (stmt_among m s first) (suite_among (m + size_stmt s) rest later)

    pub stmt_among : (m : ℕ) (s : StmtTree) → numbered_stmt m s ≡ s → IsIn (started_stmt s) (n, place) → IsAmong n m (size_stmt s)
    stmt_among m (one_stmt number at span form) same (inl is) =
        let own : m ≡ number = cc in
        let number_is : number ≡ n = ap (λ (x : ℕ × Pos). x.0) is in
        record { least = omega (arith, own, number_is); below = omega (arith, own, number_is) }
    stmt_among m (one_stmt number at span form) same (inr there) =
        let inner : numbered_form (m + 1) form ≡ form = cc in
        let one : IsAmong n (m + 1) (size_form form) = form_among (m + 1) form inner there in
        record { least = omega (arith, one.least); below = omega (arith, one.below) }

    form_among : (m : ℕ) (form : FormTree) → numbered_form m form ≡ form → IsIn (started_form form) (n, place) → IsAmong n m (size_form form)
    form_among m (if_form branches orelse) same there =
        let first : numbered_branches m branches ≡ branches = cc in
        let later : numbered_else (m + size_branches branches) orelse ≡ orelse = cc in
        among_parts m (size_branches branches) (size_else orelse) (started_branches branches) (started_else orelse) there (branches_among m branches first) (else_among (m + size_branches branches) orelse later)
    form_among m (while_form test body) same there = let inner : numbered_suite m body ≡ body = cc in suite_among m body inner there
    form_among m (for_form target items body) same there = let inner : numbered_suite m body ≡ body = cc in suite_among m body inner there
    form_among m (try_form body handlers) same there =
        let first : numbered_suite m body ≡ body = cc in
        let later : numbered_handlers (m + size_suite body) handlers ≡ handlers = cc in
        among_parts m (size_suite body) (size_handlers handlers) (started_suite body) (started_handlers handlers) there (suite_among m body first) (handlers_among (m + size_suite body) handlers later)
    form_among m (with_form e bound body) same there = let inner : numbered_suite m body ≡ body = cc in suite_among m body inner there
    form_among m (def_form name params globals body) same there = let inner : numbered_suite m body ≡ body = cc in suite_among m body inner there
    form_among m (class_form name base body) same there = let inner : numbered_suite m body ≡ body = cc in suite_among m body inner there
    form_among m (do_form e) same there = absurd there
    form_among m (assign_form target e) same there = absurd there
    form_among m (aug_form target sign p e) same there = absurd there
    form_among m (del_form target) same there = absurd there
    form_among m pass_form same there = absurd there
    form_among m break_form same there = absurd there
    form_among m continue_form same there = absurd there
    form_among m (return_form e) same there = absurd there
    form_among m (raise_form e) same there = absurd there
    form_among m (assert_form test message) same there = absurd there
    form_among m (import_form name) same there = absurd there

    branches_among : (m : ℕ) (branches : BranchesTree) → numbered_branches m branches ≡ branches → IsIn (started_branches branches) (n, place) → IsAmong n m (size_branches branches)
    branches_among m end_branches same there = absurd there
    branches_among m (more_branches test body rest) same there =
        let first : numbered_suite m body ≡ body = cc in
        let later : numbered_branches (m + size_suite body) rest ≡ rest = cc in
        among_parts m (size_suite body) (size_branches rest) (started_suite body) (started_branches rest) there (suite_among m body first) (branches_among (m + size_suite body) rest later)

    else_among : (m : ℕ) (orelse : ElseTree) → numbered_else m orelse ≡ orelse → IsIn (started_else orelse) (n, place) → IsAmong n m (size_else orelse)
    else_among m no_else same there = absurd there
    else_among m (else_suite body) same there = let inner : numbered_suite m body ≡ body = cc in suite_among m body inner there

    handlers_among : (m : ℕ) (handlers : HandlersTree) → numbered_handlers m handlers ≡ handlers → IsIn (started_handlers handlers) (n, place) → IsAmong n m (size_handlers handlers)
    handlers_among m end_handlers same there = absurd there
    handlers_among m (more_handlers kind bound body rest) same there =
        let first : numbered_suite m body ≡ body = cc in
        let later : numbered_handlers (m + size_suite body) rest ≡ rest = cc in
        among_parts m (size_suite body) (size_handlers rest) (started_suite body) (started_handlers rest) there (suite_among m body first) (handlers_among (m + size_suite body) rest later)

-- of numbered statements each number stands at one place
module _ (n : ℕ) (p q : Pos) where
  place_parts : (m a b : ℕ) (xs ys : List (ℕ × Pos)) → IsIn (xs ++ ys) (n, p) → IsIn (xs ++ ys) (n, q)
      → ((place : Pos) → IsIn xs (n, place) → IsAmong n m a) → ((place : Pos) → IsIn ys (n, place) → IsAmong n (m + a) b)
      → (IsIn xs (n, p) → IsIn xs (n, q) → p ≡ q) → (IsIn ys (n, p) → IsIn ys (n, q) → p ≡ q) → p ≡ q
  place_parts m a b xs ys one other front behind first second = by_cases (either_in xs ys (n, p) one) (either_in xs ys (n, q) other)
    where
      crossing : (place other : Pos) → IsIn xs (n, place) → IsIn ys (n, other) → ⊥
      crossing place other here there = omega (arith, IsAmong.below (front place here), IsAmong.least (behind other there))

      by_cases : IsIn xs (n, p) ⊎ IsIn ys (n, p) → IsIn xs (n, q) ⊎ IsIn ys (n, q) → p ≡ q
      by_cases (inl x) (inl y) = first x y
      by_cases (inl x) (inr y) = absurd (crossing p q x y)
      by_cases (inr x) (inl y) = absurd (crossing q p y x)
      by_cases (inr x) (inr y) = second x y

  mutual
    pub suite_place : (m : ℕ) (body : SuiteTree) → numbered_suite m body ≡ body → IsIn (started_suite body) (n, p) → IsIn (started_suite body) (n, q) → p ≡ q
    suite_place m end_suite same one other = absurd one
    suite_place m (more_suite s rest) same one other =
        let first : numbered_stmt m s ≡ s = cc in
        let later : numbered_suite (m + size_stmt s) rest ≡ rest = cc in
        place_parts m (size_stmt s) (size_suite rest) (started_stmt s) (started_suite rest) one other (λ place. stmt_among n place m s first) (λ place. suite_among n place (m + size_stmt s) rest later)
        (stmt_place m s first) (suite_place (m + size_stmt s) rest later)

    stmt_place : (m : ℕ) (s : StmtTree) → numbered_stmt m s ≡ s → IsIn (started_stmt s) (n, p) → IsIn (started_stmt s) (n, q) → p ≡ q
    stmt_place m (one_stmt number at span form) same (inl is) (inl also) = sym (ap (λ (x : ℕ × Pos). x.1) is) ∙ ap (λ (x : ℕ × Pos). x.1) also
    stmt_place m (one_stmt number at span form) same (inl is) (inr there) =
        let own : m ≡ number = cc in
        let inner : numbered_form (m + 1) form ≡ form = cc in
        absurd (omega (arith, own, ap (λ (x : ℕ × Pos). x.0) is, IsAmong.least (form_among n q (m + 1) form inner there)))
    stmt_place m (one_stmt number at span form) same (inr there) (inl is) =
        let own : m ≡ number = cc in
        let inner : numbered_form (m + 1) form ≡ form = cc in
        absurd (omega (arith, own, ap (λ (x : ℕ × Pos). x.0) is, IsAmong.least (form_among n p (m + 1) form inner there)))
    stmt_place m (one_stmt number at span form) same (inr there) (inr also) =
        let inner : numbered_form (m + 1) form ≡ form = cc in
        form_place (m + 1) form inner there also

    form_place : (m : ℕ) (form : FormTree) → numbered_form m form ≡ form → IsIn (started_form form) (n, p) → IsIn (started_form form) (n, q) → p ≡ q
    form_place m (if_form branches orelse) same one other =
        let first : numbered_branches m branches ≡ branches = cc in
        let later : numbered_else (m + size_branches branches) orelse ≡ orelse = cc in
        place_parts m (size_branches branches) (size_else orelse) (started_branches branches) (started_else orelse) one other (λ place. branches_among n place m branches first)
        (λ place. else_among n place (m + size_branches branches) orelse later) (branches_place m branches first) (else_place (m + size_branches branches) orelse later)
    form_place m (while_form test body) same one other = let inner : numbered_suite m body ≡ body = cc in suite_place m body inner one other
    form_place m (for_form target items body) same one other = let inner : numbered_suite m body ≡ body = cc in suite_place m body inner one other
    form_place m (try_form body handlers) same one other =
        let first : numbered_suite m body ≡ body = cc in
        let later : numbered_handlers (m + size_suite body) handlers ≡ handlers = cc in
        place_parts m (size_suite body) (size_handlers handlers) (started_suite body) (started_handlers handlers) one other (λ place. suite_among n place m body first)
        (λ place. handlers_among n place (m + size_suite body) handlers later) (suite_place m body first) (handlers_place (m + size_suite body) handlers later)
    form_place m (with_form e bound body) same one other = let inner : numbered_suite m body ≡ body = cc in suite_place m body inner one other
    form_place m (def_form name params globals body) same one other = let inner : numbered_suite m body ≡ body = cc in suite_place m body inner one other
    form_place m (class_form name base body) same one other = let inner : numbered_suite m body ≡ body = cc in suite_place m body inner one other
    form_place m (do_form e) same one other = absurd one
    form_place m (assign_form target e) same one other = absurd one
    form_place m (aug_form target sign at e) same one other = absurd one
    form_place m (del_form target) same one other = absurd one
    form_place m pass_form same one other = absurd one
    form_place m break_form same one other = absurd one
    form_place m continue_form same one other = absurd one
    form_place m (return_form e) same one other = absurd one
    form_place m (raise_form e) same one other = absurd one
    form_place m (assert_form test message) same one other = absurd one
    form_place m (import_form name) same one other = absurd one

    branches_place : (m : ℕ) (branches : BranchesTree) → numbered_branches m branches ≡ branches → IsIn (started_branches branches) (n, p) → IsIn (started_branches branches) (n, q) → p ≡ q
    branches_place m end_branches same one other = absurd one
    branches_place m (more_branches test body rest) same one other =
        let first : numbered_suite m body ≡ body = cc in
        let later : numbered_branches (m + size_suite body) rest ≡ rest = cc in
        place_parts m (size_suite body) (size_branches rest) (started_suite body) (started_branches rest) one other (λ place. suite_among n place m body first)
        (λ place. branches_among n place (m + size_suite body) rest later) (suite_place m body first) (branches_place (m + size_suite body) rest later)

    else_place : (m : ℕ) (orelse : ElseTree) → numbered_else m orelse ≡ orelse → IsIn (started_else orelse) (n, p) → IsIn (started_else orelse) (n, q) → p ≡ q
    else_place m no_else same one other = absurd one
    else_place m (else_suite body) same one other = let inner : numbered_suite m body ≡ body = cc in suite_place m body inner one other

    handlers_place : (m : ℕ) (handlers : HandlersTree) → numbered_handlers m handlers ≡ handlers → IsIn (started_handlers handlers) (n, p) → IsIn (started_handlers handlers) (n, q) → p ≡ q
    handlers_place m end_handlers same one other = absurd one
    handlers_place m (more_handlers kind bound body rest) same one other =
        let first : numbered_suite m body ≡ body = cc in
        let later : numbered_handlers (m + size_suite body) rest ≡ rest = cc in
        place_parts m (size_suite body) (size_handlers rest) (started_suite body) (started_handlers rest) one other (λ place. suite_among n place m body first)
        (λ place. handlers_among n place (m + size_suite body) rest later) (suite_place m body first) (handlers_place (m + size_suite body) rest later)
