-- Numbers of a set, and of a list.
use Rattle.std.proofs.Common.{◌≡◌, ℕ, ◌==◌, ◌||◌, Bool, true, false, List, [], ◌∷◌, ◌++◌, refl, sym, ap, ◌∙◌, if◌then◌else◌, eqb-true, eq-eqb}
use Rattle.std.specs.List.{list_any}
use Rattle.std.proofs.lemmas.Bool.{false≢true}
use Rattle.slice_law.specs.Closed.{has}

turned : (m n : ℕ) → (m == n) ≡ (n == m)
turned m n = by (m == n) refl (n == m) refl
  where
    by : (a : Bool) → (m == n) ≡ a → (b : Bool) → (n == m) ≡ b → a ≡ b
    by true one true other = refl
    by false one false other = refl
    by true one false other = sym (eq-eqb n m (sym (eqb-true m n one))) ∙ other
    by false one true other = sym one ∙ eq-eqb m n (sym (eqb-true n m other))

pub has_any : (numbers : List ℕ) (s : ℕ) → list_any (λ k. s == k) numbers ≡ has s numbers
has_any [] s = refl
has_any (n ∷ numbers) s = ap (λ b. b || list_any (λ k. s == k) numbers) (turned s n) ∙ ap (λ b. (n == s) || b) (has_any numbers s)

or_more : (a b : Bool) → b ≡ true → (a || b) ≡ true
or_more true b is = refl
or_more false b is = is

pub has_front : (numbers more : List ℕ) (s : ℕ) → has s numbers ≡ true → has s (numbers ++ more) ≡ true
has_front [] more s is = absurd (false≢true is)
has_front (n ∷ numbers) more s is = by (n == s) is (has_front numbers more s)
  where
    by : (b : Bool) → (b || has s numbers) ≡ true → (has s numbers ≡ true → has s (numbers ++ more) ≡ true) → (b || has s (numbers ++ more)) ≡ true
    by true there rest = refl
    by false there rest = rest there

has_last : (numbers : List ℕ) (n s : ℕ) → has s (numbers ++ n ∷ []) ≡ true → ((n == s) || has s numbers) ≡ true
has_last [] n s is = is
has_last (first ∷ numbers) n s is = by (first == s) is (has_last numbers n s)
  where
    true_or : (a : Bool) → (a || true) ≡ true
    true_or true = refl
    true_or false = refl

    by : (b : Bool) → (b || has s (numbers ++ n ∷ [])) ≡ true → (has s (numbers ++ n ∷ []) ≡ true → ((n == s) || has s numbers) ≡ true) → ((n == s) || (b || has s numbers)) ≡ true
    by true there rest = true_or (n == s)
    by false there rest = rest there

pub key_more : (keys : List ℕ) (n s : ℕ) → has s (if list_any (λ k. n == k) keys then keys else keys ++ n ∷ []) ≡ true → ((n == s) || has s keys) ≡ true
key_more keys n s = by (list_any (λ k. n == k) keys)
  where
    by : (b : Bool) → has s (if b then keys else keys ++ n ∷ []) ≡ true → ((n == s) || has s keys) ≡ true
    by true is = or_more (n == s) (has s keys) is
    by false is = has_last keys n s is
