-- One turn more of a pass over accesses or times.
use Rattle.std.proofs.Common.{◌≡◌, ◌<◌, ◌+◌, ℕ, suc, ◌==◌, ◌||◌, Bool, true, false, List, ◌∷◌, drop, length, get_or, refl, sym, ap, ◌∙◌, arith, drop-cons, eqb-true, eq-eqb}
use Rattle.std.specs.Prelude.{Result, Ok, Err, OnOk}
use Rattle.std.proofs.lemmas.Bool.{false≢true}

pub on_ok : {T E : Type 0} {P Q : Type 0} (r : Result T E) → OnOk r P → (P → Q) → OnOk r Q
on_ok (Ok done) holds follows = follows holds
on_ok (Err want) holds follows = tt

pub on_both : {T E : Type 0} {P Q S : Type 0} (r : Result T E) → OnOk r P → OnOk r Q → (P → Q → S) → OnOk r S
on_both (Ok done) one two follows = follows one two
on_both (Err want) one two follows = tt

-- the next item is in front of those that are left
pub next_is : {A : Type 0} (items : List A) (i : ℕ) (item : A) → i < length items → item ≡ get_or items i item → drop i items ≡ item ∷ drop (i + 1) items
next_is items i item below is =
    let after : suc i ≡ i + 1 = omega arith in
    drop-cons items i item below ∙ ap (λ k. get_or items i item ∷ drop k items) after ∙ ap (λ y. y ∷ drop (i + 1) items) (sym is)

pub demand_turn : (here rest all now next old : Bool) → ((here || rest) || now) ≡ (all || old) → next ≡ (here || now) → (rest || next) ≡ (all || old)
demand_turn true true all now next old is turn = is
demand_turn true false all now next old is turn = turn ∙ is
demand_turn false rest all now next old is turn = ap (λ b. rest || b) turn ∙ is

pub eq_swap : (m n : ℕ) → (m == n) ≡ (n == m)
eq_swap m n = by (m == n) refl (n == m) refl
  where
    by : (a : Bool) → (m == n) ≡ a → (b : Bool) → (n == m) ≡ b → (m == n) ≡ (n == m)
    by true one true two = one ∙ sym two
    by false one false two = one ∙ sym two
    by true one false two = absurd (false≢true (sym two ∙ eq-eqb n m (sym (eqb-true m n one))))
    by false one true two = absurd (false≢true (sym one ∙ eq-eqb m n (sym (eqb-true n m two))))

-- a test that passes here, and one that does not
pub some_here : (here rest all : Bool) → all ≡ (here || rest) → here ≡ true → all ≡ true
some_here here rest all is passes = is ∙ ap (λ b. b || rest) passes

pub some_later : (here rest all : Bool) → all ≡ (here || rest) → here ≡ false → all ≡ rest
some_later here rest all is not_here = is ∙ ap (λ b. b || rest) not_here
