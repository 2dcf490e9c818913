-- The last number at each place, when one more answer is kept.
use Rattle.std.proofs.Common.{◌≡◌, ℕ, ◌<◌, ◌||◌, ◌&&◌, ◌⊎◌, inl, inr, ⊎_elim, Bool, true, false, max, nat_eq, List, [], ◌∷◌, ◌++◌, IsOk, OnOk, IfOk, Result, Ok, Err, refl, sym, ap, subst, ◌∙◌, true≢false, arith, if◌then◌else◌}
use Rattle.std.proofs.lemmas.Bool.Decides.{nat_tests}
use Rattle.prov_base.specs.declared.place.Pos.{Pos}
use Rattle.prov_base.specs.contracts.place.PosPartialEq.TheImpl.{ghosts as places}
use Rattle.capture.specs.declared.answer.Asked.{Asked}
use Rattle.capture.specs.Answers.{is_under, is_kept, IsLast}

pub on_ok : {A E : Type 0} {P : Type 0} (r : Result A E) → IsOk r → OnOk r P → P
on_ok (Ok value) ok p = p
on_ok (Err refusal) ok p = absurd (true≢false (sym ok))

pub if_ok : {A E : Type 0} {P : Type 0} (r : Result A E) → IsOk r → IfOk r (λ value. P) → P
if_ok (Ok value) ok p = p
if_ok (Err refusal) ok p = absurd (true≢false (sym ok))

pub place_itself : (a : Pos) → places.eq a a ≡ true
place_itself a = grind (arith, nat_tests)

pub same_place : (a b : Pos) → places.eq a b ≡ true → a ≡ b
same_place a b is = grind (arith, nat_tests)

-- one more answer behind the others
pub kept_more : (xs : List Asked) (a : Asked) (at : Pos) (k : ℕ) → is_kept (xs ++ a ∷ []) at k ≡ (is_kept xs at k || is_under at k a)
kept_more [] a at k = or_none (is_under at k a)
  where
    or_none : (b : Bool) → (b || false) ≡ b
    or_none true = refl
    or_none false = refl
kept_more (x ∷ xs) a at k = ap (λ b. is_under at k x || b) (kept_more xs a at k) ∙ grouped (is_under at k x) (is_kept xs at k) (is_under at k a)
  where
    grouped : (a b c : Bool) → (a || (b || c)) ≡ ((a || b) || c)
    grouped true b c = refl
    grouped false b c = refl

max_is : (m n : ℕ) → (max m n ≡ n) ⊎ (max m n ≡ m)
max_is m n = grind (arith, nat_tests)

-- The numbers noted at each place stay the last ones when one more answer is kept and its number is noted.
module _ (xs : List Asked) (a : Asked) (at : Pos) (last : ℕ) (is : IsLast xs at last) where
  -- at another place nothing changes
  pub last_elsewhere : places.eq a.at at ≡ false → IsLast (xs ++ a ∷ []) at last
  last_elsewhere other = record {
    none_later = λ k more. kept_more xs a at k ∙ both (is_kept xs at k) (is_under at k a) (is.none_later k more) (apart k);
    reached = ⊎_elim inl (λ there. inr (kept_more xs a at last ∙ left (is_kept xs at last) (is_under at last a) there)) is.reached;
  }
    where
      unlike : (b : Bool) → places.eq at a.at ≡ b → b ≡ false
      unlike false is = refl
      unlike true is = absurd (true≢false (sym (subst (λ place. places.eq place at ≡ true) (same_place at a.at is) (place_itself at)) ∙ other))

      apart : (k : ℕ) → is_under at k a ≡ false
      apart k = ap (λ b. b && nat_eq k a.k) (unlike (places.eq at a.at) refl)

      both : (b c : Bool) → b ≡ false → c ≡ false → (b || c) ≡ false
      both false c is is_too = is_too
      both true c is is_too = is

      left : (b c : Bool) → b ≡ true → (b || c) ≡ true
      left true c is = refl
      left false c is = absurd (true≢false (sym is))

  -- at its own place the greater number is the last
  pub last_here : places.eq a.at at ≡ true → IsLast (xs ++ a ∷ []) at (max last a.k)
  last_here here = record {
    none_later = λ k more. kept_more xs a at k ∙ both (is_kept xs at k) (is_under at k a) (is.none_later k (below_max last a.k k more)) (apart k more);
    reached = reached_max;
  }
    where
      below_max : (m n k : ℕ) → max m n < k → m < k
      below_max m n k less = grind (arith, nat_tests)

      both : (b c : Bool) → b ≡ false → c ≡ false → (b || c) ≡ false
      both false c is is_too = is_too
      both true c is is_too = is

      apart : (k : ℕ) → max last a.k < k → is_under at k a ≡ false
      apart k more = ends (places.eq at a.at) (nat_eq k a.k) (grind (arith, nat_tests))
        where
          ends : (b c : Bool) → c ≡ false → (b && c) ≡ false
          ends true c is = is
          ends false c is = refl

      itself : is_under at a.k a ≡ true
      itself = subst (λ place. (places.eq place a.at && nat_eq a.k a.k) ≡ true) (same_place a.at at here) (both_true (places.eq a.at a.at) (nat_eq a.k a.k) (place_itself a.at) (grind (arith, nat_tests)))
        where
          both_true : (b c : Bool) → b ≡ true → c ≡ true → (b && c) ≡ true
          both_true true c is is_too = is_too
          both_true false c is is_too = is

      right : (b c : Bool) → c ≡ true → (b || c) ≡ true
      right true c is = refl
      right false c is = is

      left : (b c : Bool) → b ≡ true → (b || c) ≡ true
      left true c is = refl
      left false c is = absurd (true≢false (sym is))

      greater : (max last a.k ≡ a.k) ⊎ (max last a.k ≡ last)
      greater = max_is last a.k

      reached_max : (max last a.k ≡ 0) ⊎ (is_kept (xs ++ a ∷ []) at (max last a.k) ≡ true)
      reached_max = ⊎_elim
          (λ new. inr (kept_more xs a at (max last a.k) ∙ right (is_kept xs at (max last a.k)) (is_under at (max last a.k) a) (subst (λ n. is_under at n a ≡ true) (sym new) itself)))
          (λ old. ⊎_elim (λ none. inl (old ∙ none)) (λ there. inr (kept_more xs a at (max last a.k) ∙ left (is_kept xs at (max last a.k)) (is_under at (max last a.k) a) (subst (λ n. is_kept xs at n ≡ true) (sym old) there))) is.reached)
          greater

-- both at once
pub last_more : (xs : List Asked) (a : Asked) (at : Pos) (last next : ℕ) → IsLast xs at last → next ≡ (if places.eq a.at at then max last a.k else last) → IsLast (xs ++ a ∷ []) at next
last_more xs a at last next is next_is = by (places.eq a.at at) refl next_is
  where
    by : (b : Bool) → places.eq a.at at ≡ b → next ≡ (if b then max last a.k else last) → IsLast (xs ++ a ∷ []) at next
    by true here is_next = subst (IsLast (xs ++ a ∷ []) at) (sym is_next) (last_here xs a at last is here)
    by false other is_next = subst (IsLast (xs ++ a ∷ []) at) (sym is_next) (last_elsewhere xs a at last is other)
