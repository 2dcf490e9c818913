-- Where numbers rise, the one way down finds the first statement with a number.
use Rattle.std.proofs.Common.{◌≡◌, ℕ, ◌+◌, ◌<◌, ◌≤◌, Bool, true, false, cond, ◌||◌, List, [], ◌∷◌, ◌++◌, map, length, Option, None, Some, unwrap_or, refl, ap, sym, subst, ◌∙◌, arith, inl, inr, append_assoc, length-append}
use Rattle.std.proofs.lemmas.Bool.{false≢true, ne_eqb}
use Rattle.std.proofs.lemmas.Option.{none-some, same_Some}
use Rattle.std.proofs.lemmas.Bool.Decides.{leb_tells}
use Rattle.std.proofs.lemmas.List.{append-nil}
use Rattle.std.proofs.lemmas.List.Folds.{find-append, list_any-append}
use Rattle.std.specs.Prelude.{nat_le, ◌==◌}
use Rattle.std.specs.Option.{option_or, option_and_then}
use Rattle.std.specs.List.{list_any}
use Rattle.py_tree.specs.Tree.{number_of, StmtTree, FormTree, SuiteTree, BranchesTree, ElseTree, HandlersTree, one_stmt, do_form, assign_form, aug_form, del_form, pass_form, break_form, continue_form, return_form, raise_form, assert_form, import_form, if_form, while_form, for_form, try_form, with_form, def_form, class_form, end_suite, more_suite, end_branches, more_branches, no_else, else_suite, end_handlers, more_handlers}
use Rattle.py_tree.specs.Owners.{Around, Standing, number_at, first_at, within, listed_stmt, listed_form, listed_suite, listed_branches, listed_else, listed_handlers}
use Rattle.py_tree.specs.Descent.{RiseFrom, row_numbers, last_by, begins_by, body_by, branch_by, else_by, handler_by, suite_by}

-- the numbers rise from n on
abbrev pub Rise : ℕ → List Standing → Type 0
Rise n xs = RiseFrom n (map number_at xs)

pub rise_weaken : (m n : ℕ) (xs : List Standing) → m ≤ n → Rise n xs → Rise m xs
rise_weaken m n [] below rise = tt
rise_weaken m n (x ∷ xs) below rise = (omega (arith, rise.0), rise.1)

pub rise_front : (n : ℕ) (xs ys : List Standing) → Rise n (xs ++ ys) → Rise n xs
rise_front n [] ys rise = tt
rise_front n (x ∷ xs) ys rise = (rise.0, rise_front (number_at x + 1) xs ys rise.1)

pub rise_back : (n : ℕ) (xs ys : List Standing) → Rise n (xs ++ ys) → Rise n ys
rise_back n [] ys rise = rise
rise_back n (x ∷ xs) ys rise = rise_weaken n (number_at x + 1) ys (omega (arith, rise.0)) (rise_back (number_at x + 1) xs ys rise.1)

-- some number is at most s
abbrev has_by : ℕ → List Standing → Bool
has_by s xs = list_any (λ x. nat_le (number_at x) s) xs

not_first : (s : ℕ) (x : Standing) (xs : List Standing) → (number_at x == s) ≡ false → first_at s xs ≡ None → first_at s (x ∷ xs) ≡ None
not_first s x xs other none = ap (λ b. cond b (Some x) (first_at s xs)) other ∙ none

-- what rises from above s has no s
above_none : (n s : ℕ) (xs : List Standing) → s < n → Rise n xs → first_at s xs ≡ None
above_none n s [] above rise = refl
above_none n s (x ∷ xs) above rise = not_first s x xs (ne_eqb (number_at x) s (λ same. omega (arith, rise.0))) (above_none (number_at x + 1) s xs (omega (arith, rise.0)) rise.1)

-- where some number is at most s, so is the least
least_by : (n s : ℕ) (xs : List Standing) → has_by s xs ≡ true → Rise n xs → n ≤ s
least_by n s [] has rise = absurd (false≢true has)
least_by n s (x ∷ xs) has rise = elim (leb_tells (number_at x) s) [
  | inl first ↦ omega (arith, rise.0, first.1)
  | inr later ↦ omega (arith, rise.0, least_by (number_at x + 1) s xs (ap (λ b. b || has_by s xs) (sym later.0) ∙ has) rise.1)
]

-- what stands before a number that is at most s has no s
before_none : (n s : ℕ) (xs ys : List Standing) → has_by s ys ≡ true → Rise n (xs ++ ys) → first_at s xs ≡ None
before_none n s [] ys has rise = refl
before_none n s (x ∷ xs) ys has rise =
    not_first s x xs
    (ne_eqb (number_at x) s (λ same. omega (arith, least_by (number_at x + 1) s ys has (rise_back (number_at x + 1) xs ys rise.1))))
    (before_none (number_at x + 1) s xs ys has rise.1)

first_append : (s : ℕ) (xs ys : List Standing) → first_at s (xs ++ ys) ≡ option_or (first_at s xs) (first_at s ys)
first_append s xs ys = find-append (λ x. number_at x == s) xs ys

-- of two lists the second, if it has a number of at most s
second_only : (n s : ℕ) (xs ys : List Standing) → has_by s ys ≡ true → Rise n (xs ++ ys) → first_at s (xs ++ ys) ≡ first_at s ys
second_only n s xs ys has rise = first_append s xs ys ∙ ap (λ o. option_or o (first_at s ys)) (before_none n s xs ys has rise)

option_or_none : {X : Type 0} (a : Option X) → option_or a None ≡ a
option_or_none None = refl
option_or_none (Some x) = refl

-- of two lists the first, if the second has no s
first_only : (s : ℕ) (xs ys : List Standing) → first_at s ys ≡ None → first_at s (xs ++ ys) ≡ first_at s xs
first_only s xs ys none = first_append s xs ys ∙ ap (option_or (first_at s xs)) none ∙ option_or_none (first_at s xs)

-- the first with number s in this statement, and in this suite
abbrev pub in_stmt : ℕ → Around → Option StmtTree → Option Standing
in_stmt s around o = option_and_then (λ stmt. first_at s (listed_stmt around stmt)) o

abbrev pub in_body : ℕ → Around → Option SuiteTree → Option Standing
in_body s around o = option_and_then (λ body. first_at s (listed_suite around body)) o

-- ## Statements in a row

-- a row with a statement that is not past s has a number of at most s
row_has : (s : ℕ) (around : Around) (row : SuiteTree) (y : StmtTree) → last_by s row ≡ Some y → has_by s (listed_suite around row) ≡ true
row_has s around end_suite y is = absurd (none-some _ is)
row_has s around (more_suite (one_stmt k at span form) rest) y is = elim (leb_tells k s) [
  | inl first ↦ ap (λ b. b || has_by s (listed_form (within (one_stmt k at span form) around) form ++ listed_suite around rest)) first.0
  | inr past ↦ absurd (none-some _ (ap (λ b. cond b (Some (unwrap_or (last_by s rest) (one_stmt k at span form))) None) (sym past.0) ∙ is))
]

row_step : (n s : ℕ) (around : Around) (x : StmtTree) (rest : SuiteTree) (o : Option StmtTree) → last_by s rest ≡ o → Rise n (listed_stmt around x ++ listed_suite around rest) → first_at s (listed_suite around rest) ≡ in_stmt s around o → first_at s (listed_stmt around x ++ listed_suite around rest) ≡ in_stmt s around (Some (unwrap_or o x))
row_step n s around x rest None is rise later = first_only s (listed_stmt around x) (listed_suite around rest) later
row_step n s around x rest (Some y) is rise later = second_only n s (listed_stmt around x) (listed_suite around rest) (row_has s around rest y is) rise ∙ later

-- only the last statement that is not past s can be s or hold it
pub row_law : (n s : ℕ) (around : Around) (row : SuiteTree) → Rise n (listed_suite around row) → first_at s (listed_suite around row) ≡ in_stmt s around (last_by s row)
row_law n s around end_suite rise = refl
row_law n s around (more_suite (one_stmt k at span form) rest) rise =
    let x : StmtTree = one_stmt k at span form in
    let later : first_at s (listed_suite around rest) ≡ in_stmt s around (last_by s rest) = row_law n s around rest (rise_back n (listed_stmt around x) (listed_suite around rest) rise) in
    elim (leb_tells k s) [
      | inl first ↦ row_step n s around x rest (last_by s rest) refl rise later ∙ ap (λ b. in_stmt s around (cond b (Some (unwrap_or (last_by s rest) x)) None)) (sym first.0)
      | inr past ↦ above_none k s (listed_suite around (more_suite x rest)) past.1 (omega arith, rise.1) ∙ ap (λ b. in_stmt s around (cond b (Some (unwrap_or (last_by s rest) x)) None)) (sym past.0)
    ]

-- the numbers in a row rise
pub row_numbers_rise : (n : ℕ) (around : Around) (row : SuiteTree) → Rise n (listed_suite around row) → RiseFrom n (row_numbers row)
row_numbers_rise n around end_suite rise = tt
row_numbers_rise n around (more_suite (one_stmt k at span form) rest) rise = (rise.0, row_numbers_rise (k + 1) around rest (rise_back (k + 1) (listed_form (within (one_stmt k at span form) around) form) (listed_suite around rest) rise.1))

-- ## The suites of a statement

body_law : (n s : ℕ) (around : Around) (body : SuiteTree) → Rise n (listed_suite around body) → first_at s (listed_suite around body) ≡ in_body s around (body_by s body)
body_law n s around end_suite rise = refl
body_law n s around (more_suite (one_stmt k at span form) rest) rise =
    let body : SuiteTree = more_suite (one_stmt k at span form) rest in
    elim (leb_tells k s) [
      | inl first ↦ ap (λ b. in_body s around (cond b (Some body) None)) (sym first.0)
      | inr past ↦ above_none k s (listed_suite around body) past.1 (omega arith, rise.1) ∙ ap (λ b. in_body s around (cond b (Some body) None)) (sym past.0)
    ]

body_has : (s : ℕ) (around : Around) (body found : SuiteTree) → body_by s body ≡ Some found → has_by s (listed_suite around body) ≡ true
body_has s around end_suite found is = absurd (none-some _ is)
body_has s around (more_suite (one_stmt k at span form) rest) found is = elim (leb_tells k s) [
  | inl first ↦ ap (λ b. b || has_by s (listed_form (within (one_stmt k at span form) around) form ++ listed_suite around rest)) first.0
  | inr past ↦ absurd (none-some _ (ap (λ b. cond b (Some (more_suite (one_stmt k at span form) rest)) None) (sym past.0) ∙ is))
]

-- two lists of suites, where the later one comes first
two_lists : (n s : ℕ) (around : Around) (xs ys : List Standing) (here later : Option SuiteTree) → Rise n (xs ++ ys) → ((found : SuiteTree) → later ≡ Some found → has_by s ys ≡ true) → first_at s xs ≡ in_body s around here → first_at s ys ≡ in_body s around later → first_at s (xs ++ ys) ≡ in_body s around (option_or later here)
two_lists n s around xs ys here None rise has in_xs in_ys = first_only s xs ys in_ys ∙ in_xs
two_lists n s around xs ys here (Some body) rise has in_xs in_ys = second_only n s xs ys (has body refl) rise ∙ in_ys

any_first : (s : ℕ) (xs ys : List Standing) → has_by s xs ≡ true → has_by s (xs ++ ys) ≡ true
any_first s xs ys has = list_any-append (λ x. nat_le (number_at x) s) xs ys ∙ ap (λ b. b || has_by s ys) has

or_true : (b : Bool) → (b || true) ≡ true
or_true true = refl
or_true false = refl

any_second : (s : ℕ) (xs ys : List Standing) → has_by s ys ≡ true → has_by s (xs ++ ys) ≡ true
any_second s xs ys has = list_any-append (λ x. nat_le (number_at x) s) xs ys ∙ ap (λ b. has_by s xs || b) has ∙ or_true (has_by s xs)

either_has : (s : ℕ) (xs ys : List Standing) (here later : Option SuiteTree) (found : SuiteTree) → ((b : SuiteTree) → here ≡ Some b → has_by s xs ≡ true) → ((b : SuiteTree) → later ≡ Some b → has_by s ys ≡ true) → option_or later here ≡ Some found → has_by s (xs ++ ys) ≡ true
either_has s xs ys here None found in_xs in_ys is = any_first s xs ys (in_xs found is)
either_has s xs ys here (Some body) found in_xs in_ys is = any_second s xs ys (in_ys body refl)

branches_have : (s : ℕ) (around : Around) (branches : BranchesTree) (found : SuiteTree) → branch_by s branches ≡ Some found → has_by s (listed_branches around branches) ≡ true
branches_have s around end_branches found is = absurd (none-some _ is)
branches_have s around (more_branches test body rest) found is = either_has s (listed_suite around body) (listed_branches around rest) (body_by s body) (branch_by s rest) found (body_has s around body) (branches_have s around rest) is

branches_law : (n s : ℕ) (around : Around) (branches : BranchesTree) → Rise n (listed_branches around branches) → first_at s (listed_branches around branches) ≡ in_body s around (branch_by s branches)
branches_law n s around end_branches rise = refl
branches_law n s around (more_branches test body rest) rise =
    two_lists n s around (listed_suite around body) (listed_branches around rest) (body_by s body) (branch_by s rest) rise (branches_have s around rest)
    (body_law n s around body (rise_front n (listed_suite around body) (listed_branches around rest) rise))
    (branches_law n s around rest (rise_back n (listed_suite around body) (listed_branches around rest) rise))

handlers_have : (s : ℕ) (around : Around) (handlers : HandlersTree) (found : SuiteTree) → handler_by s handlers ≡ Some found → has_by s (listed_handlers around handlers) ≡ true
handlers_have s around end_handlers found is = absurd (none-some _ is)
handlers_have s around (more_handlers kind bound body rest) found is = either_has s (listed_suite around body) (listed_handlers around rest) (body_by s body) (handler_by s rest) found (body_has s around body) (handlers_have s around rest) is

handlers_law : (n s : ℕ) (around : Around) (handlers : HandlersTree) → Rise n (listed_handlers around handlers) → first_at s (listed_handlers around handlers) ≡ in_body s around (handler_by s handlers)
handlers_law n s around end_handlers rise = refl
handlers_law n s around (more_handlers kind bound body rest) rise =
    two_lists n s around (listed_suite around body) (listed_handlers around rest) (body_by s body) (handler_by s rest) rise (handlers_have s around rest)
    (body_law n s around body (rise_front n (listed_suite around body) (listed_handlers around rest) rise))
    (handlers_law n s around rest (rise_back n (listed_suite around body) (listed_handlers around rest) rise))

else_has : (s : ℕ) (around : Around) (orelse : ElseTree) (found : SuiteTree) → else_by s orelse ≡ Some found → has_by s (listed_else around orelse) ≡ true
else_has s around no_else found is = absurd (none-some _ is)
else_has s around (else_suite body) found is = body_has s around body found is

else_law : (n s : ℕ) (around : Around) (orelse : ElseTree) → Rise n (listed_else around orelse) → first_at s (listed_else around orelse) ≡ in_body s around (else_by s orelse)
else_law n s around no_else rise = refl
else_law n s around (else_suite body) rise = body_law n s around body rise

-- only the last suite that begins by s can hold it
pub form_law : (n s : ℕ) (around : Around) (form : FormTree) → Rise n (listed_form around form) → first_at s (listed_form around form) ≡ in_body s around (suite_by s form)
form_law n s around (if_form branches orelse) rise =
    two_lists n s around (listed_branches around branches) (listed_else around orelse) (branch_by s branches) (else_by s orelse) rise (else_has s around orelse)
    (branches_law n s around branches (rise_front n (listed_branches around branches) (listed_else around orelse) rise))
    (else_law n s around orelse (rise_back n (listed_branches around branches) (listed_else around orelse) rise))
form_law n s around (try_form body handlers) rise =
    two_lists n s around (listed_suite around body) (listed_handlers around handlers) (Some body) (handler_by s handlers) rise (handlers_have s around handlers) refl
    (handlers_law n s around handlers (rise_back n (listed_suite around body) (listed_handlers around handlers) rise))
form_law n s around (while_form test body) rise = refl
form_law n s around (for_form target items body) rise = refl
form_law n s around (with_form value bound body) rise = refl
form_law n s around (def_form name params globals body) rise = refl
form_law n s around (class_form name base body) rise = refl
form_law n s around (do_form e) rise = refl
form_law n s around (assign_form t e) rise = refl
form_law n s around (aug_form t op at e) rise = refl
form_law n s around (del_form t) rise = refl
form_law n s around pass_form rise = refl
form_law n s around break_form rise = refl
form_law n s around continue_form rise = refl
form_law n s around (return_form e) rise = refl
form_law n s around (raise_form e) rise = refl
form_law n s around (assert_form e m) rise = refl
form_law n s around (import_form e) rise = refl

-- ## What stands within

-- the second list is the first with more before and after it
pub record IsWithin (inner outer : List Standing) : Type 0 where
  pub before : List Standing
  pub after : List Standing
  pub is : outer ≡ before ++ (inner ++ after)

pub rise_within : (n : ℕ) (inner outer : List Standing) → IsWithin inner outer → Rise n outer → Rise n inner
rise_within n inner outer part rise = rise_front n inner part.after (rise_back n part.before (inner ++ part.after) (subst (Rise n) part.is rise))

pub shorter_within : (inner outer : List Standing) → IsWithin inner outer → length inner ≤ length outer
shorter_within inner outer part = simp (part.is, length-append) (omega arith)

whole : (xs : List Standing) → IsWithin xs xs
whole xs = record { before = []; after = []; is = sym (append-nil xs) }

at_front : (inner xs ys : List Standing) → IsWithin inner xs → IsWithin inner (xs ++ ys)
at_front inner xs ys part = record {
  before = part.before;
  after = part.after ++ ys;
  is = ap (λ l. l ++ ys) part.is ∙ append_assoc part.before (inner ++ part.after) ys ∙ ap (λ l. part.before ++ l) (append_assoc inner part.after ys);
}

at_back : (inner xs ys : List Standing) → IsWithin inner ys → IsWithin inner (xs ++ ys)
at_back inner xs ys part = record {
  before = xs ++ part.before;
  after = part.after;
  is = ap (λ l. xs ++ l) part.is ∙ sym (append_assoc xs part.before (inner ++ part.after));
}

-- the statement that the way goes through is in its row
within_more : (s : ℕ) (around : Around) (x : StmtTree) (rest : SuiteTree) (b : Bool) (o : Option StmtTree) → last_by s rest ≡ o → (y : StmtTree) → cond b (Some (unwrap_or o x)) None ≡ Some y → ((z : StmtTree) → last_by s rest ≡ Some z → IsWithin (listed_stmt around z) (listed_suite around rest)) → IsWithin (listed_stmt around y) (listed_stmt around x ++ listed_suite around rest)
within_more s around x rest false o found y is later = absurd (none-some _ is)
within_more s around x rest true None found y is later = subst (λ z. IsWithin (listed_stmt around z) (listed_stmt around x ++ listed_suite around rest)) (same_Some x y is) (at_front (listed_stmt around x) (listed_stmt around x) (listed_suite around rest) (whole (listed_stmt around x)))
within_more s around x rest true (Some z) found y is later = subst (λ z. IsWithin (listed_stmt around z) (listed_stmt around x ++ listed_suite around rest)) (same_Some z y is) (at_back (listed_stmt around z) (listed_stmt around x) (listed_suite around rest) (later z found))

pub row_within : (s : ℕ) (around : Around) (row : SuiteTree) (y : StmtTree) → last_by s row ≡ Some y → IsWithin (listed_stmt around y) (listed_suite around row)
row_within s around end_suite y is = absurd (none-some _ is)
row_within s around (more_suite x rest) y is = within_more s around x rest (nat_le (number_of x) s) (last_by s rest) refl y is (row_within s around rest)

body_within : (s : ℕ) (around : Around) (body found : SuiteTree) (b : Bool) → cond b (Some body) None ≡ Some found → IsWithin (listed_suite around found) (listed_suite around body)
body_within s around body found false is = absurd (none-some _ is)
body_within s around body found true is = subst (λ z. IsWithin (listed_suite around z) (listed_suite around body)) (same_Some body found is) (whole (listed_suite around body))

either_within : (around : Around) (xs ys : List Standing) (here later : Option SuiteTree) (found : SuiteTree) → ((b : SuiteTree) → here ≡ Some b → IsWithin (listed_suite around b) xs) → ((b : SuiteTree) → later ≡ Some b → IsWithin (listed_suite around b) ys) → option_or later here ≡ Some found → IsWithin (listed_suite around found) (xs ++ ys)
either_within around xs ys here None found in_xs in_ys is = at_front (listed_suite around found) xs ys (in_xs found is)
either_within around xs ys here (Some body) found in_xs in_ys is = at_back (listed_suite around found) xs ys (in_ys found is)

branches_within : (s : ℕ) (around : Around) (branches : BranchesTree) (found : SuiteTree) → branch_by s branches ≡ Some found → IsWithin (listed_suite around found) (listed_branches around branches)
branches_within s around end_branches found is = absurd (none-some _ is)
branches_within s around (more_branches test body rest) found is = either_within around (listed_suite around body) (listed_branches around rest) (body_by s body) (branch_by s rest) found (λ b. body_within s around body b (begins_by s body)) (branches_within s around rest) is

handlers_within : (s : ℕ) (around : Around) (handlers : HandlersTree) (found : SuiteTree) → handler_by s handlers ≡ Some found → IsWithin (listed_suite around found) (listed_handlers around handlers)
handlers_within s around end_handlers found is = absurd (none-some _ is)
handlers_within s around (more_handlers kind bound body rest) found is = either_within around (listed_suite around body) (listed_handlers around rest) (body_by s body) (handler_by s rest) found (λ b. body_within s around body b (begins_by s body)) (handlers_within s around rest) is

else_within : (s : ℕ) (around : Around) (orelse : ElseTree) (found : SuiteTree) → else_by s orelse ≡ Some found → IsWithin (listed_suite around found) (listed_else around orelse)
else_within s around no_else found is = absurd (none-some _ is)
else_within s around (else_suite body) found is = body_within s around body found (begins_by s body) is

only_body : (around : Around) (body found : SuiteTree) → Some body ≡ Some found → IsWithin (listed_suite around found) (listed_suite around body)
only_body around body found is = subst (λ z. IsWithin (listed_suite around z) (listed_suite around body)) (same_Some body found is) (whole (listed_suite around body))

-- the suite that the way goes through is in its statement
pub form_within : (s : ℕ) (around : Around) (form : FormTree) (found : SuiteTree) → suite_by s form ≡ Some found → IsWithin (listed_suite around found) (listed_form around form)
form_within s around (if_form branches orelse) found is = either_within around (listed_branches around branches) (listed_else around orelse) (branch_by s branches) (else_by s orelse) found (branches_within s around branches) (else_within s around orelse) is
form_within s around (try_form body handlers) found is = either_within around (listed_suite around body) (listed_handlers around handlers) (Some body) (handler_by s handlers) found (only_body around body) (handlers_within s around handlers) is
form_within s around (while_form test body) found is = only_body around body found is
form_within s around (for_form target items body) found is = only_body around body found is
form_within s around (with_form value bound body) found is = only_body around body found is
form_within s around (def_form name params globals body) found is = only_body around body found is
form_within s around (class_form name base body) found is = only_body around body found is
form_within s around (do_form e) found is = absurd (none-some _ is)
form_within s around (assign_form t e) found is = absurd (none-some _ is)
form_within s around (aug_form t op at e) found is = absurd (none-some _ is)
form_within s around (del_form t) found is = absurd (none-some _ is)
form_within s around pass_form found is = absurd (none-some _ is)
form_within s around break_form found is = absurd (none-some _ is)
form_within s around continue_form found is = absurd (none-some _ is)
form_within s around (return_form e) found is = absurd (none-some _ is)
form_within s around (raise_form e) found is = absurd (none-some _ is)
form_within s around (assert_form e m) found is = absurd (none-some _ is)
form_within s around (import_form e) found is = absurd (none-some _ is)
