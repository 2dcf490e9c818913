-- Laws of numbers and places of statements, and of the statement that a place belongs to.
use Rattle.std.proofs.Common.{◌≡◌, ℕ, ◌+◌, ◌≤◌, Bool, true, false, ◌||◌, not, List, [], ◌∷◌, ◌++◌, map, Contains, find, Option, None, Some, ◌↔◌, inl, inr, refl, sym, ap, ap₂, ◌∙◌, arith, eq-eqb, eqb-true, zero, suc}
use Rattle.std.proofs.lemmas.Bool.{false≢true, and_parts}
use Rattle.std.proofs.lemmas.List.{map-append}
use Rattle.std.proofs.lemmas.Option.{none-some, same_Some}
use Rattle.std.specs.Prelude.{◌==◌, if◌then◌else◌}
use Rattle.std.specs.Option.{option_map}
use Rattle.std.specs.List.{list_any}
use Rattle.prov_base.specs.declared.place.Pos.{Pos}
use Rattle.py_tree.specs.Numbering.{IsNumbered}
use Rattle.py_tree.specs.Owners.{Around, Standing, at_module_level, form_in, number_at, within, listed_stmt, listed_form, listed_suite, listed_branches, listed_else, listed_handlers, statements, standing_at}
use Rattle.py_tree.specs.Placed.{place_of, place_at, standing_on, number_on, test_places, head_places, own_places, owns, owner_of}
use Rattle.py_tree.specs.Places.{expr_places, target_places, option_places, bound_places, suite_places, stmt_places, form_places, branches_places, else_places, handlers_places, suite_starts, stmt_starts, form_starts, branches_starts, else_starts, handlers_starts, is_same, are_ascending, are_distinct}
use Rattle.py_tree.specs.Tree.{StmtTree, FormTree, SuiteTree, BranchesTree, ElseTree, HandlersTree, ScriptTree, one_stmt, if_form, while_form, for_form, try_form, with_form, def_form, class_form, end_suite, more_suite, end_branches, more_branches, no_else, else_suite, end_handlers, more_handlers}
use Rattle.py_tree.specs.WellFormed.{IsWellFormed}
use Rattle.py_tree.proofs.Finding.{same_place, same_itself, IsIn, from_contains, to_contains, find_in, find_only, place_once, number_once}
use Rattle.py_tree.proofs.OwnersNumbered.{numbers_rise}
use Rattle.py_tree.proofs.PlaceLaws.{not_false, or_none}

-- ## The places of the statements in the order of the text

both_lists : (xs ys : List Standing) (ps qs : List Pos) → map place_of xs ≡ ps → map place_of ys ≡ qs → map place_of (xs ++ ys) ≡ ps ++ qs
both_lists xs ys ps qs first second = map-append place_of xs ys ∙ ap₂ ◌++◌ first second

mutual
  stmt_listed : (around : Around) (s : StmtTree) → map place_of (listed_stmt around s) ≡ stmt_starts s
  stmt_listed around (one_stmt number at span form) = ap (λ ps. at ∷ ps) (form_listed (within (one_stmt number at span form) around) form)

  form_listed : (around : Around) (form : FormTree) → map place_of (listed_form around form) ≡ form_starts form
  form_listed around (if_form branches orelse) = both_lists (listed_branches around branches) (listed_else around orelse) (branches_starts branches) (else_starts orelse) (branches_listed around branches) (else_listed around orelse)
  form_listed around (while_form test body) = suite_listed around body
  form_listed around (for_form target items body) = suite_listed around body
  form_listed around (try_form body handlers) = both_lists (listed_suite around body) (listed_handlers around handlers) (suite_starts body) (handlers_starts handlers) (suite_listed around body) (handlers_listed around handlers)
  form_listed around (with_form value bound body) = suite_listed around body
  form_listed around (def_form name params globals body) = suite_listed around body
  form_listed around (class_form name base body) = suite_listed around body
  form_listed around form = refl

  suite_listed : (around : Around) (body : SuiteTree) → map place_of (listed_suite around body) ≡ suite_starts body
  suite_listed around end_suite = refl
  suite_listed around (more_suite s rest) = both_lists (listed_stmt around s) (listed_suite around rest) (stmt_starts s) (suite_starts rest) (stmt_listed around s) (suite_listed around rest)

  branches_listed : (around : Around) (branches : BranchesTree) → map place_of (listed_branches around branches) ≡ branches_starts branches
  branches_listed around end_branches = refl
  branches_listed around (more_branches test body rest) = both_lists (listed_suite around body) (listed_branches around rest) (suite_starts body) (branches_starts rest) (suite_listed around body) (branches_listed around rest)

  else_listed : (around : Around) (orelse : ElseTree) → map place_of (listed_else around orelse) ≡ else_starts orelse
  else_listed around no_else = refl
  else_listed around (else_suite body) = suite_listed around body

  handlers_listed : (around : Around) (handlers : HandlersTree) → map place_of (listed_handlers around handlers) ≡ handlers_starts handlers
  handlers_listed around end_handlers = refl
  handlers_listed around (more_handlers kind bound body rest) = both_lists (listed_suite around body) (listed_handlers around rest) (suite_starts body) (handlers_starts rest) (suite_listed around body) (handlers_listed around rest)

pub places_listed : (script : ScriptTree) → map place_of (statements script) ≡ suite_starts script.body
places_listed script = suite_listed at_module_level script.body

-- ## Numbers and places

-- a statement is found by its number
pub by_number : (script : ScriptTree) → IsNumbered script → (x : Standing) → IsIn (statements script) x → standing_at script (number_at x) ≡ Some x
by_number script numbered x there =
    find_only (λ y. number_at y == number_at x) (statements script) x there (eq-eqb (number_at x) (number_at x) refl)
    (λ y other same. number_once number_at 0 (statements script) y x (numbers_rise script numbered) other there (eqb-true (number_at y) (number_at x) same))

pub number_finds : (script : ScriptTree) (s : ℕ) (x : Standing) → standing_at script s ≡ Some x → IsIn (statements script) x × (number_at x ≡ s)
number_finds script s x found = let is = find_in (λ y. number_at y == s) (statements script) x found in (is.0, eqb-true (number_at x) s is.1)

module _ (script : ScriptTree) (well : IsWellFormed script) where
  ascending : are_ascending (map place_of (statements script)) ≡ true
  ascending = ap are_ascending (places_listed script) ∙ well.ascending

  -- a statement is found by its place
  pub by_place : (x : Standing) → IsIn (statements script) x → standing_on script (place_of x) ≡ Some x
  by_place x there =
      find_only (λ y. is_same (place_of y) (place_of x)) (statements script) x there (same_itself (place_of x))
      (λ y other same. place_once place_of (statements script) y x ascending other there (same_place (place_of y) (place_of x) same))

  pub place_finds : (at : Pos) (x : Standing) → standing_on script at ≡ Some x → IsIn (statements script) x × (place_of x ≡ at)
  place_finds at x found = let is = find_in (λ y. is_same (place_of y) at) (statements script) x found in (is.0, same_place (place_of x) at is.1)

  number_of_place : (s : ℕ) (at : Pos) (o : Option Standing) → standing_at script s ≡ o → option_map place_of o ≡ Some at → number_on script at ≡ Some s
  number_of_place s at None found is = absurd (none-some _ is)
  number_of_place s at (Some x) found is =
      let here = number_finds script s x found in
      ap (λ p. number_on script p) (sym (same_Some (place_of x) at is)) ∙ (ap (option_map number_at) (by_place x here.0) ∙ ap Some here.1)

  place_of_number : (s : ℕ) (at : Pos) (o : Option Standing) → standing_on script at ≡ o → option_map number_at o ≡ Some s → place_at script s ≡ Some at
  place_of_number s at None found is = absurd (none-some _ is)
  place_of_number s at (Some x) found is =
      let here = place_finds at x found in
      ap (λ n. place_at script n) (sym (same_Some (number_at x) s is)) ∙ (ap (option_map place_of) (by_number script well.numbered x here.0) ∙ ap Some here.1)

  number_and_place : (s : ℕ) (at : Pos) → (place_at script s ≡ Some at) ↔ (number_on script at ≡ Some s)
  number_and_place s at = (number_of_place s at (standing_at script s) refl, place_of_number s at (standing_on script at) refl)

pub inverse : (script : ScriptTree) → IsWellFormed script → (s : ℕ) (at : Pos) → (place_at script s ≡ Some at) ↔ (number_on script at ≡ Some s)
inverse = number_and_place

-- ## How many nodes stand at a place

module _ (at : Pos) where
  abbrev times : List Pos → ℕ
  times [] = 0
  times (p ∷ ps) = (if is_same p at then 1 else 0) + times ps

  times_append : (ps qs : List Pos) → times (ps ++ qs) ≡ times ps + times qs
  times_append [] qs = omega arith
  times_append (p ∷ ps) qs = omega (arith, times_append ps qs)

  abbrev own_times : List Standing → ℕ
  own_times [] = 0
  own_times (x ∷ xs) = times (own_places (form_in x.stmt)) + own_times xs

  own_append : (xs ys : List Standing) → own_times (xs ++ ys) ≡ own_times xs + own_times ys
  own_append [] ys = omega arith
  own_append (x ∷ xs) ys = omega (arith, own_append xs ys)

  mutual
    stmt_owned : (around : Around) (s : StmtTree) → own_times (listed_stmt around s) ≡ times (stmt_places s)
    stmt_owned around (one_stmt number place span form) = form_owned (within (one_stmt number place span form) around) form

    form_owned : (around : Around) (form : FormTree) → times (own_places form) + own_times (listed_form around form) ≡ times (form_places form)
    form_owned around (if_form branches orelse) =
        omega (arith, own_append (listed_branches around branches) (listed_else around orelse), times_append (branches_places branches) (else_places orelse), branches_owned around branches, else_owned around orelse)
    form_owned around (while_form test body) = omega (arith, times_append (expr_places test) (suite_places body), suite_owned around body)
    form_owned around (for_form target items body) =
        omega (arith, times_append (target_places target) (expr_places items), times_append (target_places target) (expr_places items ++ suite_places body), times_append (expr_places items) (suite_places body), suite_owned around body)
    form_owned around (try_form body handlers) =
        omega (arith, own_append (listed_suite around body) (listed_handlers around handlers), times_append (suite_places body) (handlers_places handlers), suite_owned around body, handlers_owned around handlers)
    form_owned around (with_form value bound body) =
        omega (arith, times_append (expr_places value) (bound_places bound), times_append (expr_places value) (bound_places bound ++ suite_places body), times_append (bound_places bound) (suite_places body), suite_owned around body)
    form_owned around (def_form name params globals body) = omega (arith, suite_owned around body)
    form_owned around (class_form name base body) = omega (arith, times_append (option_places base) (suite_places body), suite_owned around body)
    form_owned around form = omega arith

    suite_owned : (around : Around) (body : SuiteTree) → own_times (listed_suite around body) ≡ times (suite_places body)
    suite_owned around end_suite = refl
    suite_owned around (more_suite s rest) = omega (arith, own_append (listed_stmt around s) (listed_suite around rest), times_append (stmt_places s) (suite_places rest), stmt_owned around s, suite_owned around rest)

    branches_owned : (around : Around) (branches : BranchesTree) → times (test_places branches) + own_times (listed_branches around branches) ≡ times (branches_places branches)
    branches_owned around end_branches = refl
    branches_owned around (more_branches test body rest) =
        omega (arith, own_append (listed_suite around body) (listed_branches around rest), times_append (expr_places test) (test_places rest), times_append (expr_places test) (suite_places body ++ branches_places rest), times_append (suite_places body) (branches_places rest), suite_owned around body, branches_owned around rest)

    else_owned : (around : Around) (orelse : ElseTree) → own_times (listed_else around orelse) ≡ times (else_places orelse)
    else_owned around no_else = refl
    else_owned around (else_suite body) = suite_owned around body

    handlers_owned : (around : Around) (handlers : HandlersTree) → times (head_places handlers) + own_times (listed_handlers around handlers) ≡ times (handlers_places handlers)
    handlers_owned around end_handlers = refl
    handlers_owned around (more_handlers kind bound body rest) =
        omega (arith, own_append (listed_suite around body) (listed_handlers around rest), times_append (option_places kind) (bound_places bound ++ head_places rest), times_append (bound_places bound) (head_places rest), times_append (option_places kind) (bound_places bound ++ (suite_places body ++ handlers_places rest)), times_append (bound_places bound) (suite_places body ++ handlers_places rest), times_append (suite_places body) (handlers_places rest), suite_owned around body, handlers_owned around rest)

  -- ## Some, and at most one

  one_more : (b : Bool) (n : ℕ) → b ≡ true → 1 ≤ (if b then 1 else 0) + n
  one_more true n is = omega arith
  one_more false n is = absurd (false≢true is)

  some_at : (ps : List Pos) → IsIn ps at → 1 ≤ times ps
  some_at [] there = absurd there
  some_at (p ∷ ps) (inl is) = one_more (is_same p at) (times ps) (ap (λ q. is_same q at) is ∙ same_itself at)
  some_at (p ∷ ps) (inr there) = omega (arith, some_at ps there)

  at_first : (p : Pos) (ps : List Pos) (b : Bool) → is_same p at ≡ b → 1 ≤ (if b then 1 else 0) + times ps → (1 ≤ times ps → IsIn ps at) → IsIn (p ∷ ps) at
  at_first p ps true is some later = inl (same_place p at is)
  at_first p ps false is some later = inr (later (omega (arith, some)))

  at_some : (ps : List Pos) → 1 ≤ times ps → IsIn ps at
  at_some [] some = absurd (omega (arith, some))
  at_some (p ∷ ps) some = at_first p ps (is_same p at) refl some (at_some ps)

  any_first : (p : Pos) (ps : List Pos) (b : Bool) → is_same p at ≡ b → (b || list_any (λ q. is_same q at) ps) ≡ true → (list_any (λ q. is_same q at) ps ≡ true → IsIn ps at) → IsIn (p ∷ ps) at
  any_first p ps true is any later = inl (same_place p at is)
  any_first p ps false is any later = inr (later any)

  any_in : (ps : List Pos) → list_any (λ q. is_same q at) ps ≡ true → IsIn ps at
  any_in [] any = absurd (false≢true any)
  any_in (p ∷ ps) any = any_first p ps (is_same p at) refl any (any_in ps)

  or_true : (b : Bool) → (b || true) ≡ true
  or_true true = refl
  or_true false = refl

  in_any : (ps : List Pos) → IsIn ps at → list_any (λ q. is_same q at) ps ≡ true
  in_any [] there = absurd there
  in_any (p ∷ ps) (inl is) = ap (λ b. b || list_any (λ q. is_same q at) ps) (ap (λ q. is_same q at) is ∙ same_itself at)
  in_any (p ∷ ps) (inr there) = ap (λ b. is_same p at || b) (in_any ps there) ∙ or_true (is_same p at)

  none_first : (p q : Pos) (qs : List Pos) (b : Bool) → p ≡ at → is_same q at ≡ b → is_same p q ≡ false → times qs ≡ 0 → ◌≡◌ {A = ℕ} ((if b then 1 else 0) + times qs) 0
  none_first p q qs true here is other none = absurd (false≢true (sym other ∙ (ap (λ r. is_same r q) (here ∙ sym (same_place q at is)) ∙ same_itself q)))
  none_first p q qs false here is other none = omega (arith, none)

  none_at : (p : Pos) (ps : List Pos) → p ≡ at → list_any (is_same p) ps ≡ false → times ps ≡ 0
  none_at p [] here none = refl
  none_at p (q ∷ qs) here none =
      let parts = or_none (is_same p q) (list_any (is_same p) qs) none in
      none_first p q qs (is_same q at) here refl parts.0 (none_at p qs here parts.1)

  once_first : (p : Pos) (ps : List Pos) (b : Bool) → is_same p at ≡ b → list_any (is_same p) ps ≡ false → times ps ≤ 1 → (if b then 1 else 0) + times ps ≤ 1
  once_first p ps true is none later = omega (arith, none_at p ps (same_place p at is) none)
  once_first p ps false is none later = omega (arith, later)

  -- a place where no two nodes stand has at most one
  distinct_once : (ps : List Pos) → are_distinct ps ≡ true → times ps ≤ 1
  distinct_once [] apart = omega arith
  distinct_once (p ∷ ps) apart =
      let parts = and_parts (not (list_any (is_same p) ps)) (are_distinct ps) apart in
      once_first p ps (is_same p at) refl (not_false (list_any (is_same p) ps) parts.0) (distinct_once ps parts.1)

  abbrev own : Standing → ℕ
  own x = times (own_places (form_in x.stmt))

  owner_in : (xs : List Standing) (x : Standing) → IsIn xs x → 1 ≤ own x → 1 ≤ own_times xs
  owner_in [] x there some = absurd there
  owner_in (y ∷ ys) x (inl is) some = omega (arith, some, ap own is)
  owner_in (y ∷ ys) x (inr there) some = omega (arith, owner_in ys x there some)

  owner_once : (xs : List Standing) (x y : Standing) → own_times xs ≤ 1 → IsIn xs x → IsIn xs y → 1 ≤ own x → 1 ≤ own y → x ≡ y
  owner_once [] x y once here there some other = absurd here
  owner_once (z ∷ zs) x y once (inl is) (inl same) some other = sym is ∙ same
  owner_once (z ∷ zs) x y once (inl is) (inr there) some other = absurd (omega (arith, once, some, ap own is, owner_in zs y there other))
  owner_once (z ∷ zs) x y once (inr here) (inl same) some other = absurd (omega (arith, once, other, ap own same, owner_in zs x here some))
  owner_once (z ∷ zs) x y once (inr here) (inr there) some other = owner_once zs x y (omega (arith, once)) here there some other

  -- a statement in the list that has a node there
  record Owner (xs : List Standing) : Type 0 where
    owner : Standing
    inside : IsIn xs owner
    has : 1 ≤ own owner

  owner_first : (x : Standing) (xs : List Standing) (n : ℕ) → own x ≡ n → 1 ≤ n + own_times xs → (1 ≤ own_times xs → Owner xs) → Owner (x ∷ xs)
  owner_first x xs zero is some later = let behind = later (omega (arith, some)) in record { owner = behind.owner; inside = inr behind.inside; has = behind.has }
  owner_first x xs (suc n) is some later = record { owner = x; inside = inl refl; has = omega (arith, is) }

  some_owner : (xs : List Standing) → 1 ≤ own_times xs → Owner xs
  some_owner [] some = absurd (omega (arith, some))
  some_owner (x ∷ xs) some = owner_first x xs (own x) refl some (some_owner xs)

  module _ (script : ScriptTree) where
    all_owned : own_times (statements script) ≡ times (suite_places script.body)
    all_owned = suite_owned at_module_level script.body

    owning : (x : Standing) → Contains (own_places (form_in x.stmt)) at → owns at x ≡ true
    owning x there = in_any (own_places (form_in x.stmt)) (from_contains (own_places (form_in x.stmt)) at there)

    owner_found : IsWellFormed script → (x : Standing) → IsIn (statements script) x → owns at x ≡ true → owner_of script at ≡ Some (number_at x)
    owner_found well x there holds =
        let once : own_times (statements script) ≤ 1 = omega (arith, all_owned, distinct_once (suite_places script.body) well.apart) in
        ap (option_map number_at) (find_only (owns at) (statements script) x there holds
        (λ y other passes. owner_once (statements script) y x once other there (some_at (own_places (form_in y.stmt)) (any_in (own_places (form_in y.stmt)) passes)) (some_at (own_places (form_in x.stmt)) (any_in (own_places (form_in x.stmt)) holds))))

    owner_there : (s : ℕ) (o : Option Standing) → find (owns at) (statements script) ≡ o → option_map number_at o ≡ Some s
        → (x : Standing) × Contains (statements script) x × (number_at x ≡ s) × Contains (own_places (form_in x.stmt)) at
    owner_there s None found is = absurd (none-some _ is)
    owner_there s (Some x) found is =
        let here = find_in (owns at) (statements script) x found in
        (x, to_contains (statements script) x here.0, same_Some (number_at x) s is, to_contains (own_places (form_in x.stmt)) at (any_in (own_places (form_in x.stmt)) here.1))

    is_owned : IsWellFormed script → Contains (suite_places script.body) at → (s : ℕ) × (owner_of script at ≡ Some s)
    is_owned well there =
        let found = some_owner (statements script) (omega (arith, all_owned, some_at (suite_places script.body) (from_contains (suite_places script.body) at there))) in
        (number_at found.owner, owner_found well found.owner found.inside (in_any (own_places (form_in found.owner.stmt)) (at_some (own_places (form_in found.owner.stmt)) found.has)))

    has_place : (s : ℕ) → owner_of script at ≡ Some s → Contains (suite_places script.body) at
    has_place s is =
        let owner = owner_there s (find (owns at) (statements script)) refl is in
        to_contains (suite_places script.body) at (at_some (suite_places script.body)
        (omega (arith, all_owned, owner_in (statements script) owner.0 (from_contains (statements script) owner.0 owner.1) (some_at (own_places (form_in owner.0.stmt)) (from_contains (own_places (form_in owner.0.stmt)) at owner.3)))))

pub one_owner : (script : ScriptTree) → IsWellFormed script → (at : Pos) (s : ℕ)
    → (owner_of script at ≡ Some s) ↔ ((x : Standing) × Contains (statements script) x × (number_at x ≡ s) × Contains (own_places (form_in x.stmt)) at)
one_owner script well at s = (
  owner_there at script s (find (owns at) (statements script)) refl,
  λ is. owner_found at script well is.0 (from_contains (statements script) is.0 is.1) (owning at script is.0 is.3) ∙ ap Some is.2,
)

pub all_have_owners : (script : ScriptTree) → IsWellFormed script → (at : Pos) → Contains (suite_places script.body) at ↔ ((s : ℕ) × (owner_of script at ≡ Some s))
all_have_owners script well at = (is_owned at script well, λ is. has_place at script is.0 is.1)

-- ## By number and by place

pub stands_at : (script : ScriptTree) → IsWellFormed script → (s : ℕ) (x : Standing) → (standing_at script s ≡ Some x) ↔ (Contains (statements script) x × (number_at x ≡ s))
stands_at script well s x = (
  λ found. let is = number_finds script s x found in (to_contains (statements script) x is.0, is.1),
  λ is. ap (standing_at script) (sym is.1) ∙ by_number script well.numbered x (from_contains (statements script) x is.0),
)

pub stands_on : (script : ScriptTree) → IsWellFormed script → (at : Pos) (x : Standing) → (standing_on script at ≡ Some x) ↔ (Contains (statements script) x × (place_of x ≡ at))
stands_on script well at x = (
  λ found. let is = place_finds script well at x found in (to_contains (statements script) x is.0, is.1),
  λ is. ap (standing_on script) (sym is.1) ∙ by_place script well x (from_contains (statements script) x is.0),
)
