-- Of a set that is closed under parents each statement stays in the deletion.
use Rattle.std.proofs.Common.{◌≡◌, inl, inr, ◌⊎◌, ℕ, ◌+◌, ◌≤◌, ◌==◌, Bool, true, false, IsTrue, ◌||◌, List, [], ◌∷◌, ◌++◌, map, Some, if◌then◌else◌, refl, sym, ap, subst, ◌∙◌, arith, append_assoc, append-nil, eqb-true, eq-eqb}
use Rattle.std.specs.Prelude.{option_map}
use Rattle.std.specs.Option.{option_and_then}
use Rattle.std.proofs.lemmas.Bool.{false≢true, ne_eqb}
use Rattle.py_tree.specs.Tree.{number_of, StmtTree, FormTree, SuiteTree, BranchesTree, ElseTree, HandlersTree, ScriptTree, one_stmt, if_form, while_form, for_form, try_form, with_form, def_form, class_form, end_suite, more_suite, end_branches, more_branches, no_else, else_suite, end_handlers, more_handlers}
use Rattle.py_tree.specs.Numbering.{IsNumbered}
use Rattle.py_tree.specs.Deletion.{or_pass, kept_suite, kept_stmt, kept_form, kept_branches, kept_else, kept_handlers}
use Rattle.py_tree.specs.Descent.{RiseFrom}
use Rattle.py_tree.specs.Owners.{Around, Standing, at_module_level, within, listed_stmt, listed_form, listed_suite, listed_branches, listed_else, listed_handlers, number_at, first_at, parent_of}
use Rattle.py_tree.specs.Renumbering.{suite_numbers, stmt_numbers, form_numbers, branches_numbers, else_numbers, handlers_numbers}
use Rattle.py_tree.proofs.OwnersNumbered.{numbers_rise}
use Rattle.py_tree.specs.Remaining.{IsClosed}
use Rattle.py_grammar.specs.ClosedSets.{is_among, is_statement, stays}

-- ---- a number in two lists

among_one : (s : ℕ) (a b : List ℕ) → is_among s (a ++ b) ≡ true → (is_among s a ≡ true) ⊎ (is_among s b ≡ true)
among_one s [] b is = inr is
among_one s (x ∷ a) b is = by (x == s) is (among_one s a b)
  where
    by : (here : Bool) → (here || is_among s (a ++ b)) ≡ true → (is_among s (a ++ b) ≡ true → (is_among s a ≡ true) ⊎ (is_among s b ≡ true)) → ((here || is_among s a) ≡ true) ⊎ (is_among s b ≡ true)
    by true is later = inl refl
    by false is later = later is

or_right : (a b : Bool) → b ≡ true → (a || b) ≡ true
or_right true b is = refl
or_right false b is = is

among_left : (s : ℕ) (a b : List ℕ) → is_among s a ≡ true → is_among s (a ++ b) ≡ true
among_left s [] b is = absurd (false≢true is)
among_left s (x ∷ a) b is = by (x == s) is (among_left s a b)
  where
    by : (here : Bool) → (here || is_among s a) ≡ true → (is_among s a ≡ true → is_among s (a ++ b) ≡ true) → (here || is_among s (a ++ b)) ≡ true
    by true is later = refl
    by false is later = later is

among_right : (s : ℕ) (a b : List ℕ) → is_among s b ≡ true → is_among s (a ++ b) ≡ true
among_right s [] b is = is
among_right s (x ∷ a) b is = or_right (x == s) (is_among s (a ++ b)) (among_right s a b is)

either : {P Q R : Type 0} → P ⊎ Q → (P → R) → (Q → R) → R
either (inl p) one two = one p
either (inr q) one two = two q

alone_is : (s number : ℕ) → is_among s (number ∷ []) ≡ true → number ≡ s
alone_is s number is = by (number == s) refl is
  where
    by : (here : Bool) → (number == s) ≡ here → (here || false) ≡ true → number ≡ s
    by true same is = eqb-true number s same
    by false other is = absurd (false≢true is)

first_stays : (s : ℕ) (b : Bool) (t : StmtTree) (rest : SuiteTree) → b ≡ true → is_among s (stmt_numbers t) ≡ true → is_among s (suite_numbers (if b then more_suite t rest else rest)) ≡ true
first_stays s true t rest kept is = among_left s (stmt_numbers t) (suite_numbers rest) is
first_stays s false t rest kept is = absurd (false≢true kept)

later_stays : (s : ℕ) (b : Bool) (t : StmtTree) (rest : SuiteTree) → is_among s (suite_numbers rest) ≡ true → is_among s (suite_numbers (if b then more_suite t rest else rest)) ≡ true
later_stays s true t rest is = among_right s (stmt_numbers t) (suite_numbers rest) is
later_stays s false t rest is = is

or_pass_stays : (s : ℕ) (body kept : SuiteTree) → is_among s (suite_numbers kept) ≡ true → is_among s (suite_numbers (or_pass body kept)) ≡ true
or_pass_stays s end_suite kept is = is
or_pass_stays s (more_suite t rest) end_suite is = absurd (false≢true is)
or_pass_stays s (more_suite t rest) (more_suite u others) is = is

-- ---- statements in the list of all

-- these stand together among those
record Inside (inner outer : List Standing) : Type 0 where
  before : List Standing
  after : List Standing
  is : outer ≡ before ++ (inner ++ after)

inside_left : (a b outer : List Standing) → Inside (a ++ b) outer → Inside a outer
inside_left a b outer i = record { before = i.before; after = b ++ i.after; is = i.is ∙ ap (λ (xs : List Standing). i.before ++ xs) (append_assoc a b i.after) }

inside_right : (a b outer : List Standing) → Inside (a ++ b) outer → Inside b outer
inside_right a b outer i = record { before = i.before ++ a; after = i.after; is = i.is ∙ ap (λ (xs : List Standing). i.before ++ xs) (append_assoc a b i.after) ∙ sym (append_assoc i.before a (b ++ i.after)) }

rise_reach : (n : ℕ) (before : List Standing) (x : Standing) (after : List Standing) → RiseFrom n (map number_at (before ++ (x ∷ after))) → n ≤ number_at x
rise_reach n [] x after rise = rise.0
rise_reach n (y ∷ before) x after rise = let first = rise.0 in let later = rise_reach (number_at y + 1) before x after rise.1 in omega (arith, first, later)

found : (n : ℕ) (before : List Standing) (x : Standing) (after : List Standing) → RiseFrom n (map number_at (before ++ (x ∷ after))) → first_at (number_at x) (before ++ (x ∷ after)) ≡ Some x
found n [] x after rise = ap (λ (b : Bool). if b then Some x else first_at (number_at x) after) (eq-eqb (number_at x) (number_at x) refl)
found n (y ∷ before) x after rise =
    let reach = rise_reach (number_at y + 1) before x after rise.1 in
    ap (λ (b : Bool). if b then Some y else first_at (number_at x) (before ++ (x ∷ after))) (ne_eqb (number_at y) (number_at x) (λ same. omega (arith, reach, same)))
    ∙ found (number_at y + 1) before x after rise.1

-- ---- a set that is closed under parents

module _ (keep : ℕ → Bool) (script : ScriptTree) (numbered : IsNumbered script) (closed : IsClosed keep script) where
  abbrev all : List Standing
  all = listed_suite at_module_level script.body

  parent_is : (x : Standing) (rest : List Standing) (owner : StmtTree) → Inside (x ∷ rest) all → x.around.owner ≡ Some owner → parent_of script (number_at x) ≡ Some (number_of owner)
  parent_is x rest owner i is =
      let there : first_at (number_at x) all ≡ Some x =
      ap (first_at (number_at x)) i.is ∙ found 0 i.before x (rest ++ i.after) (subst (λ (xs : List Standing). RiseFrom 0 (map number_at xs)) i.is (numbers_rise script numbered)) in
      ap (option_and_then (λ y. option_map number_of y.around.owner)) there ∙ ap (option_map number_of) is

  row_parent : (around : Around) (owner : StmtTree) → around.owner ≡ Some owner → (t : StmtTree) → Inside (listed_stmt around t) all → parent_of script (number_of t) ≡ Some (number_of owner)
  row_parent around owner own (one_stmt number at span form) i =
      parent_is (record { stmt = one_stmt number at span form; around = around }) (listed_form (within (one_stmt number at span form) around) form) owner i own

  -- a statement of the set has all around it in the set
  mutual
    stmt_up : (s : ℕ) (around : Around) (t : StmtTree) → Inside (listed_stmt around t) all → is_among s (stmt_numbers t) ≡ true → IsTrue (keep s) → IsTrue (keep (number_of t))
    stmt_up s around (one_stmt number at span form) i is kept =
        either (among_one s (number ∷ []) (form_numbers form) is) (λ here. subst (λ (n : ℕ). IsTrue (keep n)) (sym (alone_is s number here)) kept)
        (λ there. form_up s (within (one_stmt number at span form) around) (one_stmt number at span form) refl form
        (inside_right (record { stmt = one_stmt number at span form; around = around } ∷ []) (listed_form (within (one_stmt number at span form) around) form) all i) there kept)

    form_up : (s : ℕ) (around : Around) (owner : StmtTree) → around.owner ≡ Some owner → (t : FormTree) → Inside (listed_form around t) all → is_among s (form_numbers t) ≡ true → IsTrue (keep s) → IsTrue (keep (number_of owner))
    form_up s around owner own (if_form branches orelse) i is kept =
        either (among_one s (branches_numbers branches) (else_numbers orelse) is)
        (λ here. branches_up s around owner own branches (inside_left (listed_branches around branches) (listed_else around orelse) all i) here kept)
        (λ there. else_up s around owner own orelse (inside_right (listed_branches around branches) (listed_else around orelse) all i) there kept)
    form_up s around owner own (while_form test body) i is kept = suite_up s around owner own body i is kept
    form_up s around owner own (for_form target items body) i is kept = suite_up s around owner own body i is kept
    form_up s around owner own (try_form body handlers) i is kept =
        either (among_one s (suite_numbers body) (handlers_numbers handlers) is)
        (λ here. suite_up s around owner own body (inside_left (listed_suite around body) (listed_handlers around handlers) all i) here kept)
        (λ there. handlers_up s around owner own handlers (inside_right (listed_suite around body) (listed_handlers around handlers) all i) there kept)
    form_up s around owner own (with_form value bound body) i is kept = suite_up s around owner own body i is kept
    form_up s around owner own (def_form name params globals body) i is kept = suite_up s around owner own body i is kept
    form_up s around owner own (class_form name base body) i is kept = suite_up s around owner own body i is kept
    form_up s around owner own form i is kept = absurd (false≢true is)

    suite_up : (s : ℕ) (around : Around) (owner : StmtTree) → around.owner ≡ Some owner → (t : SuiteTree) → Inside (listed_suite around t) all → is_among s (suite_numbers t) ≡ true → IsTrue (keep s) → IsTrue (keep (number_of owner))
    suite_up s around owner own end_suite i is kept = absurd (false≢true is)
    suite_up s around owner own (more_suite t rest) i is kept =
        let first = inside_left (listed_stmt around t) (listed_suite around rest) all i in
        either (among_one s (stmt_numbers t) (suite_numbers rest) is)
        (λ here. closed (number_of t) (number_of owner) (stmt_up s around t first here kept) (row_parent around owner own t first))
        (λ there. suite_up s around owner own rest (inside_right (listed_stmt around t) (listed_suite around rest) all i) there kept)

    branches_up : (s : ℕ) (around : Around) (owner : StmtTree) → around.owner ≡ Some owner → (t : BranchesTree) → Inside (listed_branches around t) all → is_among s (branches_numbers t) ≡ true → IsTrue (keep s) → IsTrue (keep (number_of owner))
    branches_up s around owner own end_branches i is kept = absurd (false≢true is)
    branches_up s around owner own (more_branches test body rest) i is kept =
        either (among_one s (suite_numbers body) (branches_numbers rest) is)
        (λ here. suite_up s around owner own body (inside_left (listed_suite around body) (listed_branches around rest) all i) here kept)
        (λ there. branches_up s around owner own rest (inside_right (listed_suite around body) (listed_branches around rest) all i) there kept)

    else_up : (s : ℕ) (around : Around) (owner : StmtTree) → around.owner ≡ Some owner → (t : ElseTree) → Inside (listed_else around t) all → is_among s (else_numbers t) ≡ true → IsTrue (keep s) → IsTrue (keep (number_of owner))
    else_up s around owner own no_else i is kept = absurd (false≢true is)
    else_up s around owner own (else_suite body) i is kept = suite_up s around owner own body i is kept

    handlers_up : (s : ℕ) (around : Around) (owner : StmtTree) → around.owner ≡ Some owner → (t : HandlersTree) → Inside (listed_handlers around t) all → is_among s (handlers_numbers t) ≡ true → IsTrue (keep s) → IsTrue (keep (number_of owner))
    handlers_up s around owner own end_handlers i is kept = absurd (false≢true is)
    handlers_up s around owner own (more_handlers kind bound body rest) i is kept =
        either (among_one s (suite_numbers body) (handlers_numbers rest) is)
        (λ here. suite_up s around owner own body (inside_left (listed_suite around body) (listed_handlers around rest) all i) here kept)
        (λ there. handlers_up s around owner own rest (inside_right (listed_suite around body) (listed_handlers around rest) all i) there kept)

  -- so it stays
  mutual
    suite_stays : (s : ℕ) (around : Around) (t : SuiteTree) → Inside (listed_suite around t) all → IsTrue (keep s) → is_among s (suite_numbers t) ≡ true → is_among s (suite_numbers (kept_suite keep t)) ≡ true
    suite_stays s around end_suite i kept is = absurd (false≢true is)
    suite_stays s around (more_suite t rest) i kept is =
        let first = inside_left (listed_stmt around t) (listed_suite around rest) all i in
        either (among_one s (stmt_numbers t) (suite_numbers rest) is)
        (λ here. first_stays s (keep (number_of t)) (kept_stmt keep t) (kept_suite keep rest) (stmt_up s around t first here kept) (stmt_stays s around t first kept here))
        (λ there. later_stays s (keep (number_of t)) (kept_stmt keep t) (kept_suite keep rest) (suite_stays s around rest (inside_right (listed_stmt around t) (listed_suite around rest) all i) kept there))

    stmt_stays : (s : ℕ) (around : Around) (t : StmtTree) → Inside (listed_stmt around t) all → IsTrue (keep s) → is_among s (stmt_numbers t) ≡ true → is_among s (stmt_numbers (kept_stmt keep t)) ≡ true
    stmt_stays s around (one_stmt number at span form) i kept is =
        either (among_one s (number ∷ []) (form_numbers form) is) (λ here. among_left s (number ∷ []) (form_numbers (kept_form keep form)) here)
        (λ there. among_right s (number ∷ []) (form_numbers (kept_form keep form))
        (form_stays s (within (one_stmt number at span form) around) form (inside_right (record { stmt = one_stmt number at span form; around = around } ∷ []) (listed_form (within (one_stmt number at span form) around) form) all i) kept there))

    form_stays : (s : ℕ) (around : Around) (t : FormTree) → Inside (listed_form around t) all → IsTrue (keep s) → is_among s (form_numbers t) ≡ true → is_among s (form_numbers (kept_form keep t)) ≡ true
    form_stays s around (if_form branches orelse) i kept is =
        either (among_one s (branches_numbers branches) (else_numbers orelse) is)
        (λ here. among_left s (branches_numbers (kept_branches keep branches)) (else_numbers (kept_else keep orelse)) (branches_stay s around branches (inside_left (listed_branches around branches) (listed_else around orelse) all i) kept here))
        (λ there. among_right s (branches_numbers (kept_branches keep branches)) (else_numbers (kept_else keep orelse)) (else_stays s around orelse (inside_right (listed_branches around branches) (listed_else around orelse) all i) kept there))
    form_stays s around (while_form test body) i kept is = or_pass_stays s body (kept_suite keep body) (suite_stays s around body i kept is)
    form_stays s around (for_form target items body) i kept is = or_pass_stays s body (kept_suite keep body) (suite_stays s around body i kept is)
    form_stays s around (try_form body handlers) i kept is =
        either (among_one s (suite_numbers body) (handlers_numbers handlers) is)
        (λ here. among_left s (suite_numbers (or_pass body (kept_suite keep body))) (handlers_numbers (kept_handlers keep handlers)) (or_pass_stays s body (kept_suite keep body) (suite_stays s around body (inside_left (listed_suite around body) (listed_handlers around handlers) all i) kept here)))
        (λ there. among_right s (suite_numbers (or_pass body (kept_suite keep body))) (handlers_numbers (kept_handlers keep handlers)) (handlers_stay s around handlers (inside_right (listed_suite around body) (listed_handlers around handlers) all i) kept there))
    form_stays s around (with_form value bound body) i kept is = or_pass_stays s body (kept_suite keep body) (suite_stays s around body i kept is)
    form_stays s around (def_form name params globals body) i kept is = or_pass_stays s body (kept_suite keep body) (suite_stays s around body i kept is)
    form_stays s around (class_form name base body) i kept is = or_pass_stays s body (kept_suite keep body) (suite_stays s around body i kept is)
    form_stays s around form i kept is = absurd (false≢true is)

    branches_stay : (s : ℕ) (around : Around) (t : BranchesTree) → Inside (listed_branches around t) all → IsTrue (keep s) → is_among s (branches_numbers t) ≡ true → is_among s (branches_numbers (kept_branches keep t)) ≡ true
    branches_stay s around end_branches i kept is = absurd (false≢true is)
    branches_stay s around (more_branches test body rest) i kept is =
        either (among_one s (suite_numbers body) (branches_numbers rest) is)
        (λ here. among_left s (suite_numbers (or_pass body (kept_suite keep body))) (branches_numbers (kept_branches keep rest)) (or_pass_stays s body (kept_suite keep body) (suite_stays s around body (inside_left (listed_suite around body) (listed_branches around rest) all i) kept here)))
        (λ there. among_right s (suite_numbers (or_pass body (kept_suite keep body))) (branches_numbers (kept_branches keep rest)) (branches_stay s around rest (inside_right (listed_suite around body) (listed_branches around rest) all i) kept there))

    else_stays : (s : ℕ) (around : Around) (t : ElseTree) → Inside (listed_else around t) all → IsTrue (keep s) → is_among s (else_numbers t) ≡ true → is_among s (else_numbers (kept_else keep t)) ≡ true
    else_stays s around no_else i kept is = absurd (false≢true is)
    else_stays s around (else_suite body) i kept is = or_pass_stays s body (kept_suite keep body) (suite_stays s around body i kept is)

    handlers_stay : (s : ℕ) (around : Around) (t : HandlersTree) → Inside (listed_handlers around t) all → IsTrue (keep s) → is_among s (handlers_numbers t) ≡ true → is_among s (handlers_numbers (kept_handlers keep t)) ≡ true
    handlers_stay s around end_handlers i kept is = absurd (false≢true is)
    handlers_stay s around (more_handlers kind bound body rest) i kept is =
        either (among_one s (suite_numbers body) (handlers_numbers rest) is)
        (λ here. among_left s (suite_numbers (or_pass body (kept_suite keep body))) (handlers_numbers (kept_handlers keep rest)) (or_pass_stays s body (kept_suite keep body) (suite_stays s around body (inside_left (listed_suite around body) (listed_handlers around rest) all i) kept here)))
        (λ there. among_right s (suite_numbers (or_pass body (kept_suite keep body))) (handlers_numbers (kept_handlers keep rest)) (handlers_stay s around rest (inside_right (listed_suite around body) (listed_handlers around rest) all i) kept there))

  pub closed_stays : (s : ℕ) → IsTrue (is_statement script s) → IsTrue (keep s) → IsTrue (stays keep script s)
  closed_stays s has kept = suite_stays s at_module_level script.body (record { before = []; after = []; is = sym (append-nil all) }) kept has
