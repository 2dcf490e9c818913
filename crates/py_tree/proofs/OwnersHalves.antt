-- The search by halves among the suites of a statement, where the numbers of their first statements rise.
use Rattle.std.proofs.Common.{◌≡◌, ℕ, ◌+◌, ◌<◌, ◌≤◌, true, false, not, cond, List, [], ◌∷◌, ◌++◌, map, take, drop, Option, None, Some, refl, ap, sym, subst, ◌∙◌, arith, inl, inr}
use Rattle.std.proofs.lemmas.Bool.{false≢true}
use Rattle.std.proofs.lemmas.Bool.Decides.{leb_tells}
use Rattle.std.proofs.lemmas.List.{map-append, take-append-drop}
use Rattle.std.specs.Prelude.{nat_le, slice_get}
use Rattle.std.specs.Option.{option_or, option_map_or}
use Rattle.py_tree.specs.declared.expr.Expr.{Expr}
use Rattle.py_tree.specs.declared.stmt.Bound.{Bound}
use Rattle.py_tree.specs.declared.stmt.Branches.{Branches}
use Rattle.py_tree.specs.declared.stmt.Handlers.{Handlers}
use Rattle.py_tree.specs.declared.stmt.Stmt.{Stmt}
use Rattle.py_tree.specs.declared.stmt.Suite.{Suite}
use Rattle.py_tree.specs.declared.stmt.Form.TheViews.{out-Suite, out-Branches, out-Handlers}
use Rattle.py_tree.specs.Tree.{number_of, FormTree, SuiteTree, BranchesTree, HandlersTree, one_stmt, do_form, assign_form, aug_form, del_form, pass_form, break_form, continue_form, return_form, raise_form, assert_form, import_form, if_form, while_form, for_form, try_form, with_form, def_form, class_form, end_suite, more_suite, end_branches, more_branches, end_handlers, more_handlers}
use Rattle.py_tree.specs.Erasure.{branches_of, handlers_of, stmt_of, suite_of, suite_list, branches_list, handlers_list}
use Rattle.py_tree.specs.Owners.{Around, within, listed_form, listed_suite, listed_branches, listed_else, listed_handlers}
use Rattle.py_tree.specs.Descent.{RiseFrom, begins_after, begins_by, body_by, branch_by, branch_suites, first_numbers, form_suites, handler_by, handler_suites, suites_by}
use Rattle.py_tree.proofs.StmtTrees.{suite_tree, branches_tree, handlers_tree}
use Rattle.py_tree.proofs.OwnersLaws.{Rise, rise_back, rise_front}
use Rattle.py_tree.proofs.OwnersWays.{number_is, option_or_assoc, option_or_none}

-- whether a suite begins after s

after_row : (s : ℕ) (items : List Stmt) → begins_after s (suite_list (map stmt_of items)) ≡ option_map_or (λ x. not (nat_le x.no s)) (slice_get items 0) false
after_row s [] = refl
after_row s (x ∷ xs) = ap (λ n. not (nat_le n s)) (number_is x)

pub after_none : (s : ℕ) (body : Suite) (items : List Stmt) → None ≡ slice_get items 0 → items ≡ (out-Suite body).list.items → false ≡ begins_after s (suite_of body)
after_none s body items first is = ap (λ o. option_map_or (λ x. not (nat_le x.no s)) o false) first ∙ sym (ap (begins_after s) (suite_tree body ∙ ap (λ l. suite_list (map stmt_of l)) (sym is)) ∙ after_row s items)

pub after_some : (s : ℕ) (body : Suite) (items : List Stmt) (x : Stmt) → Some x ≡ slice_get items 0 → items ≡ (out-Suite body).list.items → not (nat_le x.no s) ≡ begins_after s (suite_of body)
after_some s body items x first is = ap (λ o. option_map_or (λ x. not (nat_le x.no s)) o false) first ∙ sym (ap (begins_after s) (suite_tree body ∙ ap (λ l. suite_list (map stmt_of l)) (sym is)) ∙ after_row s items)

-- lists of numbers that rise

front_rises : (n : ℕ) (xs ys : List ℕ) → RiseFrom n (xs ++ ys) → RiseFrom n xs
front_rises n [] ys rise = tt
front_rises n (a ∷ xs) ys rise = (rise.0, front_rises (a + 1) xs ys rise.1)

from_lower : (m n : ℕ) (xs : List ℕ) → m ≤ n → RiseFrom n xs → RiseFrom m xs
from_lower m n [] low rise = tt
from_lower m n (a ∷ xs) low rise = (omega (arith, low, rise.0), rise.1)

back_rises : (n : ℕ) (xs ys : List ℕ) → RiseFrom n (xs ++ ys) → RiseFrom n ys
back_rises n [] ys rise = rise
back_rises n (a ∷ xs) ys rise = from_lower n (a + 1) ys (omega (arith, rise.0)) (back_rises (a + 1) xs ys rise.1)

numbers_append : (xs ys : List SuiteTree) → first_numbers (xs ++ ys) ≡ first_numbers xs ++ first_numbers ys
numbers_append [] ys = refl
numbers_append (end_suite ∷ xs) ys = numbers_append xs ys
numbers_append (more_suite stmt row ∷ xs) ys = ap (λ l. number_of stmt ∷ l) (numbers_append xs ys)

suites_append : (s : ℕ) (xs ys : List SuiteTree) → suites_by s (xs ++ ys) ≡ option_or (suites_by s ys) (suites_by s xs)
suites_append s [] ys = sym (option_or_none (suites_by s ys))
suites_append s (x ∷ xs) ys = ap (λ o. option_or o (body_by s x)) (suites_append s xs ys) ∙ option_or_assoc (suites_by s ys) (suites_by s xs) (body_by s x)

is_past : (k s : ℕ) → s < k → nat_le k s ≡ false
is_past k s past = elim (leb_tells k s) [
  | inl low ↦ absurd (omega (arith, past, low.1))
  | inr high ↦ high.0
]

none_past : (n s : ℕ) (xs : List SuiteTree) → s < n → RiseFrom n (first_numbers xs) → suites_by s xs ≡ None
none_past n s [] past rise = refl
none_past n s (end_suite ∷ xs) past rise = ap (λ o. option_or o None) (none_past n s xs past rise)
none_past n s (more_suite stmt row ∷ xs) past rise =
    ap (λ o. option_or o (body_by s (more_suite stmt row))) (none_past (number_of stmt + 1) s xs (omega (arith, past, rise.0)) rise.1)
    ∙ ap (λ b. cond b (Some (more_suite stmt row)) None) (is_past (number_of stmt) s (omega (arith, past, rise.0)))

tail_rises : (n : ℕ) (x : SuiteTree) (xs : List SuiteTree) → RiseFrom n (first_numbers (x ∷ xs)) → RiseFrom n (first_numbers xs)
tail_rises n end_suite xs rise = rise
tail_rises n (more_suite stmt row) xs rise = from_lower n (number_of stmt + 1) (first_numbers xs) (omega (arith, rise.0)) rise.1

after_is : (k s : ℕ) → not (nat_le k s) ≡ true → s < k
after_is k s is = elim (leb_tells k s) [
  | inl low ↦ absurd (false≢true (sym (ap not low.0) ∙ is))
  | inr high ↦ omega (arith, high.1)
]

none_after : (n s : ℕ) (x : SuiteTree) (xs : List SuiteTree) → begins_after s x ≡ true → RiseFrom n (first_numbers (x ∷ xs)) → suites_by s (x ∷ xs) ≡ None
none_after n s end_suite xs after rise = absurd (false≢true after)
none_after n s (more_suite stmt row) xs after rise = none_past (number_of stmt) s (more_suite stmt row ∷ xs) (after_is (number_of stmt) s after) (omega arith, rise.1)

-- the list cut in the middle
pub record IsCut {X : Type 0} (tree : X → SuiteTree) (items front back : List X) (x : X) : Type 0 where
  pub is : map tree items ≡ map tree front ++ (tree x ∷ map tree back)

pub cut_at : {X : Type 0} (tree : X → SuiteTree) (items front rest back : List X) (x : X) (i : ℕ) → front ≡ take i items → rest ≡ drop i items → rest ≡ x ∷ back → IsCut tree items front back x
cut_at tree items front rest back x i is_front is_rest is_cut =
    let joined : front ++ (x ∷ back) ≡ items = ap (λ l. l ++ (x ∷ back)) is_front ∙ (ap (λ l. take i items ++ l) (sym is_cut ∙ is_rest) ∙ take-append-drop i items) in
    record { is = ap (map tree) (sym joined) ∙ map-append tree front (x ∷ back) }

numbers_cut : {X : Type 0} (tree : X → SuiteTree) (items front back : List X) (x : X) → IsCut tree items front back x → RiseFrom 0 (first_numbers (map tree items)) → RiseFrom 0 (first_numbers (map tree front) ++ first_numbers (tree x ∷ map tree back))
numbers_cut tree items front back x at rise = subst (RiseFrom 0) (ap first_numbers at.is ∙ numbers_append (map tree front) (tree x ∷ map tree back)) rise

pub front_of : {X : Type 0} (tree : X → SuiteTree) (items front back : List X) (x : X) → IsCut tree items front back x → RiseFrom 0 (first_numbers (map tree items)) → RiseFrom 0 (first_numbers (map tree front))
front_of tree items front back x at rise = front_rises 0 (first_numbers (map tree front)) (first_numbers (tree x ∷ map tree back)) (numbers_cut tree items front back x at rise)

middle_of : {X : Type 0} (tree : X → SuiteTree) (items front back : List X) (x : X) → IsCut tree items front back x → RiseFrom 0 (first_numbers (map tree items)) → RiseFrom 0 (first_numbers (tree x ∷ map tree back))
middle_of tree items front back x at rise = back_rises 0 (first_numbers (map tree front)) (first_numbers (tree x ∷ map tree back)) (numbers_cut tree items front back x at rise)

pub back_of : {X : Type 0} (tree : X → SuiteTree) (items front back : List X) (x : X) → IsCut tree items front back x → RiseFrom 0 (first_numbers (map tree items)) → RiseFrom 0 (first_numbers (map tree back))
back_of tree items front back x at rise = tail_rises 0 (tree x) (map tree back) (middle_of tree items front back x at rise)

whole_is : {X : Type 0} (tree : X → SuiteTree) (s : ℕ) (items front back : List X) (x : X) → IsCut tree items front back x → suites_by s (map tree items) ≡ option_or (suites_by s (tree x ∷ map tree back)) (suites_by s (map tree front))
whole_is tree s items front back x at = ap (suites_by s) at.is ∙ suites_append s (map tree front) (tree x ∷ map tree back)

-- the middle one begins past s
pub in_front : {X : Type 0} (tree : X → SuiteTree) (s : ℕ) (items front back : List X) (x : X) (found : Option SuiteTree) → IsCut tree items front back x → RiseFrom 0 (first_numbers (map tree items)) → begins_after s (tree x) ≡ true → found ≡ suites_by s (map tree front) → found ≡ suites_by s (map tree items)
in_front tree s items front back x found at rise after is =
    is ∙ sym (whole_is tree s items front back x at ∙ ap (λ o. option_or o (suites_by s (map tree front))) (none_after 0 s (tree x) (map tree back) after (middle_of tree items front back x at rise)))

-- one behind the middle begins by s
pub in_back : {X : Type 0} (tree : X → SuiteTree) (s : ℕ) (items front back : List X) (x : X) (found : SuiteTree) → IsCut tree items front back x → Some found ≡ suites_by s (map tree back) → Some found ≡ suites_by s (map tree items)
in_back tree s items front back x found at is =
    sym (whole_is tree s items front back x at ∙ ap (λ o. option_or (option_or o (body_by s (tree x))) (suites_by s (map tree front))) (sym is))

-- none does, and the middle one does
pub in_middle : {X : Type 0} (tree : X → SuiteTree) (s : ℕ) (items front back : List X) (x : X) → IsCut tree items front back x → None ≡ suites_by s (map tree back) → begins_by s (tree x) ≡ true → Some (tree x) ≡ suites_by s (map tree items)
in_middle tree s items front back x at none is =
    sym (whole_is tree s items front back x at ∙ ap (λ o. option_or (option_or o (body_by s (tree x))) (suites_by s (map tree front))) (sym none)
    ∙ ap (λ b. option_or (cond b (Some (tree x)) None) (suites_by s (map tree front))) is)

-- nor does the middle one
pub not_middle : {X : Type 0} (tree : X → SuiteTree) (s : ℕ) (items front back : List X) (x : X) (found : Option SuiteTree) → IsCut tree items front back x → None ≡ suites_by s (map tree back) → begins_by s (tree x) ≡ false → found ≡ suites_by s (map tree front) → found ≡ suites_by s (map tree items)
not_middle tree s items front back x found at none is front_is =
    front_is ∙ sym (whole_is tree s items front back x at ∙ ap (λ o. option_or (option_or o (body_by s (tree x))) (suites_by s (map tree front))) (sym none)
    ∙ ap (λ b. option_or (cond b (Some (tree x)) None) (suites_by s (map tree front))) is)

-- the suites of branches and of handlers

branches_are : (s : ℕ) (branches : BranchesTree) → suites_by s (branch_suites branches) ≡ branch_by s branches
branches_are s end_branches = refl
branches_are s (more_branches test body rest) = ap (λ o. option_or o (body_by s body)) (branches_are s rest)

handlers_are : (s : ℕ) (handlers : HandlersTree) → suites_by s (handler_suites handlers) ≡ handler_by s handlers
handlers_are s end_handlers = refl
handlers_are s (more_handlers kind bound body rest) = ap (λ o. option_or o (body_by s body)) (handlers_are s rest)

branch_list : (items : List (Expr × Suite)) → map (λ x. suite_of x.1) items ≡ branch_suites (branches_list (map (λ b. (b.0, suite_of b.1)) items))
branch_list [] = refl
branch_list (x ∷ xs) = ap (λ l. suite_of x.1 ∷ l) (branch_list xs)

handler_list : (items : List (Option Expr × Option Bound × Suite)) → map (λ x. suite_of x.2) items ≡ handler_suites (handlers_list (map (λ h. (h.0, h.1, suite_of h.2)) items))
handler_list [] = refl
handler_list (x ∷ xs) = ap (λ l. suite_of x.2 ∷ l) (handler_list xs)

branch_row : (branches : Branches) (items : List (Expr × Suite)) → items ≡ (out-Branches branches).list.items → map (λ x. suite_of x.1) items ≡ branch_suites (branches_of branches)
branch_row branches items is = branch_list items ∙ ap (λ (l : List (Expr × Suite)). branch_suites (branches_list (map (λ b. (b.0, suite_of b.1)) l))) is ∙ ap branch_suites (sym (branches_tree branches))

handler_row : (handlers : Handlers) (items : List (Option Expr × Option Bound × Suite)) → items ≡ (out-Handlers handlers).list.items → map (λ x. suite_of x.2) items ≡ handler_suites (handlers_of handlers)
handler_row handlers items is = handler_list items ∙ ap (λ (l : List (Option Expr × Option Bound × Suite)). handler_suites (handlers_list (map (λ h. (h.0, h.1, suite_of h.2)) l))) is ∙ ap handler_suites (sym (handlers_tree handlers))

pub branches_found : (s : ℕ) (branches : Branches) (items : List (Expr × Suite)) (found : Option SuiteTree) → items ≡ (out-Branches branches).list.items
    → (RiseFrom 0 (first_numbers (map (λ x. suite_of x.1) items)) → found ≡ suites_by s (map (λ x. suite_of x.1) items)) → RiseFrom 0 (first_numbers (branch_suites (branches_of branches))) → found ≡ branch_by s (branches_of branches)
branches_found s branches items found is finds rise =
    let same = branch_row branches items is in
    finds (subst (λ l. RiseFrom 0 (first_numbers l)) (sym same) rise) ∙ ap (suites_by s) same ∙ branches_are s (branches_of branches)

pub handlers_found : (s : ℕ) (handlers : Handlers) (items : List (Option Expr × Option Bound × Suite)) (found : Option SuiteTree) → items ≡ (out-Handlers handlers).list.items
    → (RiseFrom 0 (first_numbers (map (λ x. suite_of x.2) items)) → found ≡ suites_by s (map (λ x. suite_of x.2) items)) → RiseFrom 0 (first_numbers (handler_suites (handlers_of handlers))) → found ≡ handler_by s (handlers_of handlers)
handlers_found s handlers items found is finds rise =
    let same = handler_row handlers items is in
    finds (subst (λ l. RiseFrom 0 (first_numbers l)) (sym same) rise) ∙ ap (suites_by s) same ∙ handlers_are s (handlers_of handlers)

-- they rise where the numbers of all statements do

branches_rise : (n : ℕ) (around : Around) (branches : BranchesTree) → Rise n (listed_branches around branches) → RiseFrom n (first_numbers (branch_suites branches))
branches_rise n around end_branches rise = tt
branches_rise n around (more_branches test end_suite rest) rise = branches_rise n around rest rise
branches_rise n around (more_branches test (more_suite (one_stmt k at span form) row) rest) rise =
    (rise.0, branches_rise (k + 1) around rest (rise_back (k + 1) (listed_form (within (one_stmt k at span form) around) form ++ listed_suite around row) (listed_branches around rest) rise.1))

handlers_rise : (n : ℕ) (around : Around) (handlers : HandlersTree) → Rise n (listed_handlers around handlers) → RiseFrom n (first_numbers (handler_suites handlers))
handlers_rise n around end_handlers rise = tt
handlers_rise n around (more_handlers kind bound end_suite rest) rise = handlers_rise n around rest rise
handlers_rise n around (more_handlers kind bound (more_suite (one_stmt k at span form) row) rest) rise =
    (rise.0, handlers_rise (k + 1) around rest (rise_back (k + 1) (listed_form (within (one_stmt k at span form) around) form ++ listed_suite around row) (listed_handlers around rest) rise.1))

pub form_rises : (n : ℕ) (around : Around) (form : FormTree) → Rise n (listed_form around form) → RiseFrom n (first_numbers (form_suites form))
form_rises n around (if_form branches orelse) rise = branches_rise n around branches (rise_front n (listed_branches around branches) (listed_else around orelse) rise)
form_rises n around (try_form body handlers) rise = handlers_rise n around handlers (rise_back n (listed_suite around body) (listed_handlers around handlers) rise)
form_rises n around (while_form test body) rise = tt
form_rises n around (for_form target items body) rise = tt
form_rises n around (with_form value bound body) rise = tt
form_rises n around (def_form name params globals body) rise = tt
form_rises n around (class_form name base body) rise = tt
form_rises n around (do_form e) rise = tt
form_rises n around (assign_form t e) rise = tt
form_rises n around (aug_form t op at e) rise = tt
form_rises n around (del_form t) rise = tt
form_rises n around pass_form rise = tt
form_rises n around break_form rise = tt
form_rises n around continue_form rise = tt
form_rises n around (return_form e) rise = tt
form_rises n around (raise_form e) rise = tt
form_rises n around (assert_form e m) rise = tt
form_rises n around (import_form e) rise = tt
