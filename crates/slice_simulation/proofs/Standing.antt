-- Trees of actions in which every evaluation stands at a place of the innermost statement; and that a place is of one statement.
use Rattle.std.proofs.Common.{◌≡◌, ℕ, Bool, true, false, ◌&&◌, ◌||◌, not, List, [], ◌∷◌, ◌++◌, Some, None, inl, inr, refl, sym, ap, ap₂, ◌∙◌, eq-eqb}
use Rattle.std.specs.List.{list_any}
use Rattle.std.proofs.lemmas.Bool.{false≢true, and_parts}
use Rattle.prov_base.specs.declared.place.Pos.{Pos}
use Rattle.py_tree.specs.Places.{expr_places, target_places, option_places, bound_places, form_places, suite_places, stmt_places, branches_places, else_places, handlers_places, is_same, are_distinct}
use Rattle.py_tree.specs.Tree.{StmtTree, FormTree, SuiteTree, BranchesTree, ElseTree, HandlersTree, one_stmt, do_form, assign_form, aug_form, del_form, pass_form, break_form, continue_form, return_form, raise_form, assert_form, import_form, if_form, while_form, for_form, try_form, with_form, def_form, class_form, end_suite, more_suite, end_branches, more_branches, no_else, else_suite, end_handlers, more_handlers}
use Rattle.py_value.specs.Contents.{Contents}
use Rattle.py_model.specs.Act.{Act, How, Walked, ret, stop, perform, begin, close, enter, leave, to}
use Rattle.py_model.specs.Going.{Open, a_statement, an_activation}
use Rattle.py_model.specs.Moment.{Ending}
use Rattle.py_model.specs.Occurrences.{evaluates}
use Rattle.py_model.specs.Operations.{Op}
use Rattle.py_model.specs.Plan.{Answer}
use Rattle.slice_law.specs.Closed.{IsIn}
use Rattle.slice_simulation.specs.Owned.{tag, owned_suite, owned_stmt, owned_form, owned_branches, owned_else, owned_handlers}

pub in_front : {A : Type 0} (xs ys : List A) (x : A) → IsIn xs x → IsIn (xs ++ ys) x
in_front [] ys x there = absurd there
in_front (y ∷ xs) ys x (inl is) = inl is
in_front (y ∷ xs) ys x (inr there) = inr (in_front xs ys x there)

pub in_behind : {A : Type 0} (xs ys : List A) (x : A) → IsIn ys x → IsIn (xs ++ ys) x
in_behind [] ys x there = there
in_behind (y ∷ xs) ys x there = inr (in_behind xs ys x there)

-- something holds of each of a list of places
pub record AllAt (P : Pos → Type 0) (places : List Pos) : Type 0 where
  pub each : (place : Pos) → IsIn places place → P place

pub first : {P : Pos → Type 0} {place : Pos} {places : List Pos} → AllAt P (place ∷ places) → P place
first {P} {place} all = all.each place (inl refl)

pub behind : {P : Pos → Type 0} {place : Pos} {places : List Pos} → AllAt P (place ∷ places) → AllAt P places
behind all = record { each = λ place there. all.each place (inr there) }

pub left : {P : Pos → Type 0} {xs : List Pos} (ys : List Pos) → AllAt P (xs ++ ys) → AllAt P xs
left {P} {xs} ys all = record { each = λ place there. all.each place (in_front xs ys place there) }

pub right : {P : Pos → Type 0} (xs : List Pos) {ys : List Pos} → AllAt P (xs ++ ys) → AllAt P ys
right xs {ys} all = record { each = λ place there. all.each place (in_behind xs ys place there) }

-- something holds of each place with its statement
pub record AllOwned (P : ℕ → Pos → Type 0) (owned : List (ℕ × Pos)) : Type 0 where
  pub each : (n : ℕ) (place : Pos) → IsIn owned (n, place) → P n place

pub owned_left : {P : ℕ → Pos → Type 0} {xs : List (ℕ × Pos)} (ys : List (ℕ × Pos)) → AllOwned P (xs ++ ys) → AllOwned P xs
owned_left {P} {xs} ys all = record { each = λ n place there. all.each n place (in_front xs ys (n, place) there) }

pub owned_right : {P : ℕ → Pos → Type 0} (xs : List (ℕ × Pos)) {ys : List (ℕ × Pos)} → AllOwned P (xs ++ ys) → AllOwned P ys
owned_right xs {ys} all = record { each = λ n place there. all.each n place (in_behind xs ys (n, place) there) }

tagged : (n : ℕ) (places : List Pos) (place : Pos) → IsIn places place → IsIn (tag n places) (n, place)
tagged n [] place there = absurd there
tagged n (first ∷ places) place (inl is) = inl (ap (λ p. (n, p)) is)
tagged n (first ∷ places) place (inr there) = inr (tagged n places place there)

pub untagged : {P : ℕ → Pos → Type 0} (n : ℕ) (places : List Pos) → AllOwned P (tag n places) → AllAt (P n) places
untagged n places all = record { each = λ place there. all.each n place (tagged n places place there) }

-- each evaluation of a statement stands at a place of which something holds
module _ (P : ℕ → Pos → Type 0) where
  pub data Stands : List Open → List Open → Act → Type 0 where
    st_ret : {from : List Open} {how : How} → Stands from from (ret how)
    st_stop : {from onto : List Open} → Stands from onto stop
    st_perform : {n : ℕ} {from onto : List Open} {at : Pos} {p : Op} {vs : List Contents} {f : Answer → Walked → Act} → (evaluates p.no ≡ true → P n at)
        → ((answer : Answer) (walked : Walked) → Stands (a_statement n ∷ from) onto (f answer walked)) → Stands (a_statement n ∷ from) onto (perform at p vs f)
    st_begin : {n : ℕ} {from onto : List Open} {a : Act} → Stands (a_statement n ∷ from) onto a → Stands from onto (begin n a)
    st_close : {n : ℕ} {from onto : List Open} {ended : Ending} {a : Act} → Stands from onto a → Stands (a_statement n ∷ from) onto (close n ended a)
    st_enter : {from onto : List Open} {at def : Pos} {params : List (List ℕ)} {vs : List Contents} {f : ℕ → Act} → ((activation : ℕ) → Stands (an_activation ∷ from) onto (f activation))
        → Stands from onto (enter at def params vs f)
    st_leave : {from onto : List Open} {v : Contents} {a : Act} → Stands from onto a → Stands (an_activation ∷ from) onto (leave v a)

  pub st_to : {from between onto : List Open} {a : Act} {f : How → Act} → Stands from between a → ((how : How) → Stands between onto (f how)) → Stands from onto (to a f)
  st_to st_ret each = each _
  st_to st_stop each = st_stop
  st_to (st_perform own next) each = st_perform own (λ answer walked. st_to (next answer walked) each)
  st_to (st_begin rest) each = st_begin (st_to rest each)
  st_to (st_close rest) each = st_close (st_to rest each)
  st_to (st_enter next) each = st_enter (λ activation. st_to (next activation) each)
  st_to (st_leave rest) each = st_leave (st_to rest each)

-- the places with their statements are the places of the whole
abbrev seconds : List (ℕ × Pos) → List Pos
seconds [] = []
seconds (pair ∷ pairs) = pair.1 ∷ seconds pairs

joined : (xs ys : List (ℕ × Pos)) (ps qs : List Pos) → seconds xs ≡ ps → seconds ys ≡ qs → seconds (xs ++ ys) ≡ ps ++ qs
joined xs ys ps qs one other = split xs ys ∙ ap₂ (λ (front back : List Pos). front ++ back) one other
  where
    split : (xs ys : List (ℕ × Pos)) → seconds (xs ++ ys) ≡ seconds xs ++ seconds ys
    split [] ys = refl
    split (x ∷ xs) ys = ap (λ (rest : List Pos). x.1 ∷ rest) (split xs ys)

tags : (n : ℕ) (places : List Pos) → seconds (tag n places) ≡ places
tags n [] = refl
tags n (place ∷ places) = ap (λ (rest : List Pos). place ∷ rest) (tags n places)

mutual
  pub suite_seconds : (body : SuiteTree) → seconds (owned_suite body) ≡ suite_places body
  suite_seconds end_suite = refl
  suite_seconds (more_suite s rest) = joined (owned_stmt s) (owned_suite rest) (stmt_places s) (suite_places rest) (stmt_seconds s) (suite_seconds rest)

  stmt_seconds : (s : StmtTree) → seconds (owned_stmt s) ≡ stmt_places s
  stmt_seconds (one_stmt number at span form) = form_seconds number form

  form_seconds : (n : ℕ) (form : FormTree) → seconds (owned_form n form) ≡ form_places form
  form_seconds n (do_form e) = tags n (expr_places e)
  form_seconds n (assign_form target e) = tags n (target_places target ++ expr_places e)
  form_seconds n (aug_form target op at e) = tags n (at ∷ (target_places target ++ expr_places e))
  form_seconds n (del_form target) = tags n (target_places target)
  form_seconds n pass_form = refl
  form_seconds n break_form = refl
  form_seconds n continue_form = refl
  form_seconds n (return_form e) = tags n (option_places e)
  form_seconds n (raise_form e) = tags n (option_places e)
  form_seconds n (assert_form test message) = tags n (expr_places test ++ option_places message)
  form_seconds n (import_form name) = refl
  form_seconds n (if_form branches orelse) = joined (owned_branches n branches) (owned_else orelse) (branches_places branches) (else_places orelse) (branches_seconds n branches) (else_seconds orelse)
  form_seconds n (while_form test body) = joined (tag n (expr_places test)) (owned_suite body) (expr_places test) (suite_places body) (tags n (expr_places test)) (suite_seconds body)
  form_seconds n (for_form target items body) =
      joined (tag n (target_places target)) (tag n (expr_places items) ++ owned_suite body) (target_places target) (expr_places items ++ suite_places body) (tags n (target_places target))
      (joined (tag n (expr_places items)) (owned_suite body) (expr_places items) (suite_places body) (tags n (expr_places items)) (suite_seconds body))
  form_seconds n (try_form body handlers) = joined (owned_suite body) (owned_handlers n handlers) (suite_places body) (handlers_places handlers) (suite_seconds body) (handlers_seconds n handlers)
  form_seconds n (with_form e bound body) =
      joined (tag n (expr_places e)) (tag n (bound_places bound) ++ owned_suite body) (expr_places e) (bound_places bound ++ suite_places body) (tags n (expr_places e))
      (joined (tag n (bound_places bound)) (owned_suite body) (bound_places bound) (suite_places body) (tags n (bound_places bound)) (suite_seconds body))
  form_seconds n (def_form name params globals body) = suite_seconds body
  form_seconds n (class_form name None body) = suite_seconds body
  form_seconds n (class_form name (Some base) body) = joined (tag n (expr_places base)) (owned_suite body) (expr_places base) (suite_places body) (tags n (expr_places base)) (suite_seconds body)

  branches_seconds : (n : ℕ) (branches : BranchesTree) → seconds (owned_branches n branches) ≡ branches_places branches
  branches_seconds n end_branches = refl
  branches_seconds n (more_branches test body rest) =
      joined (tag n (expr_places test)) (owned_suite body ++ owned_branches n rest) (expr_places test) (suite_places body ++ branches_places rest) (tags n (expr_places test))
      (joined (owned_suite body) (owned_branches n rest) (suite_places body) (branches_places rest) (suite_seconds body) (branches_seconds n rest))

  else_seconds : (orelse : ElseTree) → seconds (owned_else orelse) ≡ else_places orelse
  else_seconds no_else = refl
  else_seconds (else_suite body) = suite_seconds body

  handlers_seconds : (n : ℕ) (handlers : HandlersTree) → seconds (owned_handlers n handlers) ≡ handlers_places handlers
  handlers_seconds n end_handlers = refl
  handlers_seconds n (more_handlers None bound body rest) =
      joined (tag n (bound_places bound)) (owned_suite body ++ owned_handlers n rest) (bound_places bound) (suite_places body ++ handlers_places rest) (tags n (bound_places bound))
      (joined (owned_suite body) (owned_handlers n rest) (suite_places body) (handlers_places rest) (suite_seconds body) (handlers_seconds n rest))
  handlers_seconds n (more_handlers (Some kind) bound body rest) =
      joined (tag n (expr_places kind)) (tag n (bound_places bound) ++ (owned_suite body ++ owned_handlers n rest)) (expr_places kind) (bound_places bound ++ (suite_places body ++ handlers_places rest)) (tags n (expr_places kind))
      (joined (tag n (bound_places bound)) (owned_suite body ++ owned_handlers n rest) (bound_places bound) (suite_places body ++ handlers_places rest) (tags n (bound_places bound))
      (joined (owned_suite body) (owned_handlers n rest) (suite_places body) (handlers_places rest) (suite_seconds body) (handlers_seconds n rest)))

same_own : (p : Pos) → is_same p p ≡ true
same_own p = ap₂ ◌&&◌ (eq-eqb p.line p.line refl) (eq-eqb p.col p.col refl)

second_in : (pairs : List (ℕ × Pos)) (n : ℕ) (place : Pos) → IsIn pairs (n, place) → list_any (is_same place) (seconds pairs) ≡ true
second_in [] n place there = absurd there
second_in (pair ∷ pairs) n place (inl is) = ap (λ (x : ℕ × Pos). is_same place x.1 || list_any (is_same place) (seconds pairs)) is ∙ ap (λ b. b || list_any (is_same place) (seconds pairs)) (same_own place)
second_in (pair ∷ pairs) n place (inr there) = ap (λ b. is_same place pair.1 || b) (second_in pairs n place there) ∙ or_true (is_same place pair.1)
  where
    or_true : (b : Bool) → (b || true) ≡ true
    or_true true = refl
    or_true false = refl

-- where no place stands twice, a place is of one statement
pub one_owner : (pairs : List (ℕ × Pos)) (m n : ℕ) (place : Pos) → are_distinct (seconds pairs) ≡ true → IsIn pairs (m, place) → IsIn pairs (n, place) → m ≡ n
one_owner [] m n place apart one other = absurd one
one_owner (pair ∷ pairs) m n place apart (inl is) (inl also) = ap (λ (x : ℕ × Pos). x.0) (sym is ∙ also)
one_owner (pair ∷ pairs) m n place apart (inl is) (inr there) =
    absurd (not_twice pair pairs m n place (and_parts (not (list_any (is_same pair.1) (seconds pairs))) (are_distinct (seconds pairs)) apart).0 is there)
  where
    not_twice : (pair : ℕ × Pos) (pairs : List (ℕ × Pos)) (m n : ℕ) (place : Pos) → not (list_any (is_same pair.1) (seconds pairs)) ≡ true → pair ≡ (m, place) → IsIn pairs (n, place) → ⊥
    not_twice pair pairs m n place apart is there =
        false≢true (sym (ap not (ap (λ (x : ℕ × Pos). list_any (is_same x.1) (seconds pairs)) is ∙ second_in pairs n place there)) ∙ apart)
one_owner (pair ∷ pairs) m n place apart (inr there) (inl is) =
    absurd (not_twice pair pairs m n place (and_parts (not (list_any (is_same pair.1) (seconds pairs))) (are_distinct (seconds pairs)) apart).0 is there)
  where
    not_twice : (pair : ℕ × Pos) (pairs : List (ℕ × Pos)) (m n : ℕ) (place : Pos) → not (list_any (is_same pair.1) (seconds pairs)) ≡ true → pair ≡ (n, place) → IsIn pairs (m, place) → ⊥
    not_twice pair pairs m n place apart is there =
        false≢true (sym (ap not (ap (λ (x : ℕ × Pos). list_any (is_same x.1) (seconds pairs)) is ∙ second_in pairs m place there)) ∙ apart)
one_owner (pair ∷ pairs) m n place apart (inr one) (inr other) =
    one_owner pairs m n place (and_parts (not (list_any (is_same pair.1) (seconds pairs))) (are_distinct (seconds pairs)) apart).1 one other

pub owner_once : (body : SuiteTree) (m n : ℕ) (place : Pos) → are_distinct (suite_places body) ≡ true → IsIn (owned_suite body) (m, place) → IsIn (owned_suite body) (n, place) → m ≡ n
owner_once body m n place apart = one_owner (owned_suite body) m n place (ap are_distinct (suite_seconds body) ∙ apart)
