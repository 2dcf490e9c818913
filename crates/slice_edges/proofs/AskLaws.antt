-- A pair more.
use Rattle.std.proofs.Common.{◌≡◌, ℕ, ◌<◌, ◌⊎◌, ⊎_elim, slice_get, get_or, Some, subst, arith, true≢false, ◌==◌, ◌&&◌, ◌||◌, Bool, true, false, List, [], ◌∷◌, ◌++◌, refl, sym, ap, ◌∙◌, if◌then◌else◌, rules}
use Rattle.std.specs.List.{list_any, IsDistinct}
use Rattle.std.proofs.lemmas.Bool.Decides.{nat_tests}
use Rattle.std.proofs.lemmas.Map.Keys.{apart_from_distinct}
use Rattle.std.proofs.lemmas.Option.{slice_get_within, get_or_from_slice_get}
use Rattle.py_value.specs.Values.{StandOnce}
use Rattle.slice_edges.specs.declared.ask.Ask.{Ask}
use Rattle.slice_edges.specs.contracts.ask.AskPartialEq.TheImpl.{ghosts as asks_eq}
use Rattle.slice_law.specs.Edges.{Reason}
use Rattle.slice_edges.specs.Asks.{reason_of, is_by, among_by}

same_ask : (a b : Ask) → asks_eq.eq a b ≡ true → a ≡ b
same_ask a b is = search rules

swap : (a b c : Bool) → (a || (b || c)) ≡ (b || (a || c))
swap true true c = refl
swap true false c = refl
swap false b c = refl

module _ {A : Type 0} (test : A → Bool) where
  pub any_behind : (xs : List A) (x : A) → list_any test (xs ++ x ∷ []) ≡ (test x || list_any test xs)
  any_behind [] x = refl
  any_behind (y ∷ ys) x = ap (λ b. test y || b) (any_behind ys x) ∙ swap (test y) (test x) (list_any test ys)

  any_there : (eq : A → A → Bool) → ((x y : A) → eq x y ≡ true → x ≡ y) → (xs : List A) (x : A) → list_any (eq x) xs ≡ true → list_any test xs ≡ (test x || list_any test xs)
  any_there eq same [] x there = absurd cc
  any_there eq same (y ∷ ys) x there = by (eq x y) refl there (λ more. any_there eq same ys x more)
    where
      twice : (a b : Bool) → (a || b) ≡ (a || (a || b))
      twice true b = refl
      twice false b = refl

      by : (b : Bool) → eq x y ≡ b → (b || list_any (eq x) ys) ≡ true → (list_any (eq x) ys ≡ true → list_any test ys ≡ (test x || list_any test ys)) → (test y || list_any test ys) ≡ (test x || (test y || list_any test ys))
      by true is there more = ap (λ z. test z || list_any test ys) (sym (same x y is)) ∙ twice (test x) (list_any test ys) ∙ ap (λ z. test x || (test z || list_any test ys)) (same x y is)
      by false is there more = ap (λ b. test y || b) (more there) ∙ swap (test y) (test x) (list_any test ys)

  pub any_put : (eq : A → A → Bool) → ((x y : A) → eq x y ≡ true → x ≡ y) → (xs : List A) (x : A) → list_any test (if list_any (eq x) xs then xs else xs ++ x ∷ []) ≡ (test x || list_any test xs)
  any_put eq same xs x = by (list_any (eq x) xs) refl
    where
      by : (b : Bool) → list_any (eq x) xs ≡ b → list_any test (if b then xs else xs ++ x ∷ []) ≡ (test x || list_any test xs)
      by true is = any_there eq same xs x is
      by false is = any_behind xs x

pub among_more : (keys : List Ask) (k : Ask) (reason : Reason) (s r : ℕ)
    → among_by (if list_any (asks_eq.eq k) keys then keys else keys ++ k ∷ []) reason s r ≡ ((is_by (reason_of k.why) k.asker reason s && (k.asked == r)) || among_by keys reason s r)
among_more keys k reason s r = any_put (λ (a : Ask). is_by (reason_of a.why) a.asker reason s && (a.asked == r)) asks_eq.eq same_ask keys k

-- one of several reads asks
pub read_turn : (a e rest all old now next : Bool) → ((a && (e || rest)) || now) ≡ ((a && all) || old) → next ≡ ((a && e) || now) → ((a && rest) || next) ≡ ((a && all) || old)
read_turn a e rest all old now next is turn = ap (λ b. (a && rest) || b) turn ∙ both a e rest now ∙ is
  where
    both : (a e r n : Bool) → ((a && r) || ((a && e) || n)) ≡ ((a && (e || r)) || n)
    both true true true n = refl
    both true true false n = refl
    both true false r n = refl
    both false e r n = refl

-- ---- each pair once

own_ask : (a : Ask) → asks_eq.eq a a ≡ true
own_ask a = search rules

order_of : (i j : ℕ) → (i < j) ⊎ ((j < i) ⊎ (i ≡ j))
order_of i j = grind (arith, nat_tests)

pub each_once : (xs : List Ask) → IsDistinct asks_eq.eq xs → StandOnce xs
each_once xs distinct i j a at_i at_j =
    ⊎_elim (λ less. absurd (clash i j less at_i at_j)) (λ rest. ⊎_elim (λ more. absurd (clash j i more at_j at_i)) (λ same. same) rest) (order_of i j)
  where
    clash : (i j : ℕ) → i < j → slice_get xs i ≡ Some a → slice_get xs j ≡ Some a → ⊥
    clash i j less at_i at_j =
        let apart = apart_from_distinct asks_eq.eq xs i j a distinct less (slice_get_within xs j a at_j) in
        true≢false (sym (own_ask a) ∙ subst (λ x. asks_eq.eq x a ≡ false) (get_or_from_slice_get xs i a a at_i) (subst (λ y. asks_eq.eq (get_or xs i a) y ≡ false) (get_or_from_slice_get xs j a a at_j) apart))
