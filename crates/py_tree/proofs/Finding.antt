-- What a search through a list finds, and lists in which each place or number stands once.
use Rattle.std.proofs.Common.{◌≡◌, ℕ, zero, suc, ◌+◌, ◌<◌, ◌≤◌, Bool, true, false, cond, ◌&&◌, ◌||◌, List, [], ◌∷◌, ◌++◌, map, length, slice_index_or, Contains, find, Some, ◌⊎◌, inl, inr, refl, sym, ap, ap₂, ◌∙◌, arith, eq-eqb, eqb-true, rules}
use Rattle.std.proofs.lemmas.Bool.{false≢true, and_parts, le-ltb}
use Rattle.std.proofs.lemmas.Option.{none-some, same_Some}
use Rattle.std.specs.Prelude.{nat_lt, ◌==◌}
use Rattle.std.specs.List.{list_all}
use Rattle.prov_base.specs.declared.place.Pos.{Pos}
use Rattle.prov_base.specs.contracts.place.PosPartialEq.TheImpl.{ghosts as places}
use Rattle.py_tree.specs.Descent.{RiseFrom}
use Rattle.py_tree.specs.Places.{is_before, is_same, are_ascending}

-- ## Places

pub place_same : (p q : Pos) → places.eq p q ≡ true → p ≡ q
place_same p q is = search rules

pub place_own : (p : Pos) → places.eq p p ≡ true
place_own p = search rules

pub same_place : (p q : Pos) → is_same p q ≡ true → p ≡ q
same_place p q is =
    let parts = and_parts (p.line == q.line) (p.col == q.col) is in
    let make : ℕ → ℕ → Pos = λ line col. record { line = line; col = col } in
    ap₂ make (eqb-true p.line q.line parts.0) (eqb-true p.col q.col parts.1)

pub same_itself : (p : Pos) → is_same p p ≡ true
same_itself p = ap₂ ◌&&◌ (eq-eqb p.line p.line refl) (eq-eqb p.col p.col refl)

and_false : (b : Bool) → (b && false) ≡ false
and_false true = refl
and_false false = refl

not_before : (p : Pos) → is_before p p ≡ false
not_before p =
    ap (λ b. b || ((p.line == p.line) && nat_lt p.col p.col)) (le-ltb p.line p.line (omega arith))
    ∙ ap (λ b. (p.line == p.line) && b) (le-ltb p.col p.col (omega arith))
    ∙ and_false (p.line == p.line)

pub before_other : (p q : Pos) → is_before p q ≡ true → p ≡ q → ⊥
before_other p q is same = false≢true (sym (not_before p) ∙ (ap (is_before p) same ∙ is))

-- ## What stands in a list

module _ {A : Type 0} where
  abbrev pub IsIn : List A → A → Type 0
  IsIn [] x = ⊥
  IsIn (y ∷ ys) x = (y ≡ x) ⊎ IsIn ys x

  in_at : (xs : List A) (x : A) (k : ℕ) → k < length xs → slice_index_or xs k x ≡ x → IsIn xs x
  in_at [] x k within is = absurd (omega arith)
  in_at (y ∷ ys) x zero within is = inl is
  in_at (y ∷ ys) x (suc k) within is = inr (in_at ys x k (omega arith) is)

  pub from_contains : (xs : List A) (x : A) → Contains xs x → IsIn xs x
  from_contains xs x there = in_at xs x there.0 there.1 there.2

  pub to_contains : (xs : List A) (x : A) → IsIn xs x → Contains xs x
  to_contains [] x there = absurd there
  to_contains (y ∷ ys) x (inl is) = (0, omega arith, is)
  to_contains (y ∷ ys) x (inr there) =
      let later = to_contains ys x there in
      (suc later.0, omega (arith, later.1), later.2)

  pub in_front : (xs ys : List A) (x : A) → IsIn xs x → IsIn (xs ++ ys) x
  in_front [] ys x there = absurd there
  in_front (y ∷ xs) ys x (inl is) = inl is
  in_front (y ∷ xs) ys x (inr there) = inr (in_front xs ys x there)

  pub in_behind : (xs ys : List A) (x : A) → IsIn ys x → IsIn (xs ++ ys) x
  in_behind [] ys x there = there
  in_behind (y ∷ xs) ys x there = inr (in_behind xs ys x there)

  pub in_either : (xs ys : List A) (x : A) → IsIn (xs ++ ys) x → IsIn xs x ⊎ IsIn ys x
  in_either [] ys x there = inr there
  in_either (y ∷ xs) ys x (inl is) = inl (inl is)
  in_either (y ∷ xs) ys x (inr there) = later (in_either xs ys x there)
    where
      later : IsIn xs x ⊎ IsIn ys x → IsIn (y ∷ xs) x ⊎ IsIn ys x
      later (inl first) = inl (inr first)
      later (inr second) = inr second

  pub in_all : (p : A → Bool) (xs : List A) (x : A) → list_all p xs ≡ true → IsIn xs x → p x ≡ true
  in_all p [] x all there = absurd there
  in_all p (y ∷ ys) x all (inl is) = ap p (sym is) ∙ (and_parts (p y) (list_all p ys) all).0
  in_all p (y ∷ ys) x all (inr there) = in_all p ys x (and_parts (p y) (list_all p ys) all).1 there

  -- ## What is found

  found_in : (p : A → Bool) (y : A) (ys : List A) (x : A) (b : Bool) → p y ≡ b → (find p ys ≡ Some x → IsIn ys x × (p x ≡ true)) → cond b (Some y) (find p ys) ≡ Some x → IsIn (y ∷ ys) x × (p x ≡ true)
  found_in p y ys x true is later found = let same = same_Some y x found in (inl same, ap p (sym same) ∙ is)
  found_in p y ys x false is later found = let there = later found in (inr there.0, there.1)

  pub find_in : (p : A → Bool) (xs : List A) (x : A) → find p xs ≡ Some x → IsIn xs x × (p x ≡ true)
  find_in p [] x found = absurd (none-some _ found)
  find_in p (y ∷ ys) x found = found_in p y ys x (p y) refl (find_in p ys x) found

  found_only : (p : A → Bool) (y : A) (ys : List A) (x : A) (b : Bool) → p y ≡ b → find p ys ≡ Some x → (p y ≡ true → y ≡ x) → cond b (Some y) (find p ys) ≡ Some x
  found_only p y ys x true is later once = ap Some (once is)
  found_only p y ys x false is later once = later

  -- what alone passes the test is found
  pub find_only : (p : A → Bool) (xs : List A) (x : A) → IsIn xs x → p x ≡ true → ((y : A) → IsIn xs y → p y ≡ true → y ≡ x) → find p xs ≡ Some x
  find_only p [] x there holds once = absurd there
  find_only p (y ∷ ys) x (inl is) holds once = ap (λ b. cond b (Some y) (find p ys)) (ap p is ∙ holds) ∙ ap Some is
  find_only p (y ∷ ys) x (inr there) holds once = found_only p y ys x (p y) refl (find_only p ys x there holds (λ z later. once z (inr later))) (once y (inl refl))

  -- ## What stands once

  -- the first is at another place than those behind it
  apart : (place : A → Pos) (y : A) (ys : List A) (x : A) → are_ascending (map place (y ∷ ys)) ≡ true → IsIn ys x → place y ≡ place x → ⊥
  apart place y ys x ascending there same =
      let first = (and_parts (list_all (is_before (place y)) (map place ys)) (are_ascending (map place ys)) ascending).0 in
      before_other (place y) (place x) (in_all_places place ys x (is_before (place y)) first there) same
    where
      in_all_places : (place : A → Pos) (ys : List A) (x : A) (p : Pos → Bool) → list_all p (map place ys) ≡ true → IsIn ys x → p (place x) ≡ true
      in_all_places place [] x p all there = absurd there
      in_all_places place (y ∷ ys) x p all (inl is) = ap (λ z. p (place z)) (sym is) ∙ (and_parts (p (place y)) (list_all p (map place ys)) all).0
      in_all_places place (y ∷ ys) x p all (inr there) = in_all_places place ys x p (and_parts (p (place y)) (list_all p (map place ys)) all).1 there

  -- where places ascend, one stands at each
  pub place_once : (place : A → Pos) (xs : List A) (x y : A) → are_ascending (map place xs) ≡ true → IsIn xs x → IsIn xs y → place x ≡ place y → x ≡ y
  place_once place [] x y ascending here there same = absurd here
  place_once place (z ∷ zs) x y ascending (inl is) (inl other) same = sym is ∙ other
  place_once place (z ∷ zs) x y ascending (inl is) (inr other) same = absurd (apart place z zs y ascending other (ap place is ∙ same))
  place_once place (z ∷ zs) x y ascending (inr there) (inl other) same = absurd (apart place z zs x ascending there (ap place other ∙ sym same))
  place_once place (z ∷ zs) x y ascending (inr there) (inr other) same =
      place_once place zs x y (and_parts (list_all (is_before (place z)) (map place zs)) (are_ascending (map place zs)) ascending).1 there other same

  above : (number : A → ℕ) (n : ℕ) (xs : List A) (x : A) → RiseFrom n (map number xs) → IsIn xs x → n ≤ number x
  above number n [] x rise there = absurd there
  above number n (y ∷ ys) x rise (inl is) = omega (arith, rise.0, ap number is)
  above number n (y ∷ ys) x rise (inr there) = omega (arith, rise.0, above number (number y + 1) ys x rise.1 there)

  -- where numbers rise, one has each
  pub number_once : (number : A → ℕ) (n : ℕ) (xs : List A) (x y : A) → RiseFrom n (map number xs) → IsIn xs x → IsIn xs y → number x ≡ number y → x ≡ y
  number_once number n [] x y rise here there same = absurd here
  number_once number n (z ∷ zs) x y rise (inl is) (inl other) same = sym is ∙ other
  number_once number n (z ∷ zs) x y rise (inl is) (inr other) same = absurd (omega (arith, ap number is, same, above number (number z + 1) zs y rise.1 other))
  number_once number n (z ∷ zs) x y rise (inr there) (inl other) same = absurd (omega (arith, ap number other, same, above number (number z + 1) zs x rise.1 there))
  number_once number n (z ∷ zs) x y rise (inr there) (inr other) same = number_once number (number z + 1) zs x y rise.1 there other same

-- places that ascend, those of the first list before those of the second
pub places_apart : (xs ys : List Pos) (p q : Pos) → are_ascending (xs ++ ys) ≡ true → IsIn xs p → IsIn ys q → p ≡ q → ⊥
places_apart [] ys p q ascending there other same = there
places_apart (x ∷ xs) ys p q ascending (inl is) other same =
    before_other x q (in_all (is_before x) (xs ++ ys) q (and_parts (list_all (is_before x) (xs ++ ys)) (are_ascending (xs ++ ys)) ascending).0 (in_behind xs ys q other)) (is ∙ same)
places_apart (x ∷ xs) ys p q ascending (inr there) other same = places_apart xs ys p q (and_parts (list_all (is_before x) (xs ++ ys)) (are_ascending (xs ++ ys)) ascending).1 there other same

pub ascending_behind : (xs ys : List Pos) → are_ascending (xs ++ ys) ≡ true → are_ascending ys ≡ true
ascending_behind [] ys ascending = ascending
ascending_behind (x ∷ xs) ys ascending = ascending_behind xs ys (and_parts (list_all (is_before x) (xs ++ ys)) (are_ascending (xs ++ ys)) ascending).1
