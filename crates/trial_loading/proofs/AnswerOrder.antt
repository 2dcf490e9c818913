-- Answers in ascending order of place and number: under none of these stands an earlier one.
use Rattle.std.proofs.Common.{◌≡◌, ℕ, suc, ◌+◌, Bool, false, ◌||◌, List, [], ◌∷◌, ◌++◌, slice_get, refl, sym, ap, subst, ◌∙◌, arith}
use Rattle.std.specs.Prelude.{⊤}
use Rattle.std.proofs.lemmas.Bool.Decides.{nat_tests}
use Rattle.capture.specs.declared.answer.Asked.{Asked}
use Rattle.capture.specs.Answers.{IsEarlier, AreInOrder, is_under, is_kept}

-- the answer stands before all of these
abbrev Before : Asked → List Asked → Type 0
Before a [] = ⊤
Before a (b ∷ answers) = IsEarlier a b × Before a answers

-- each answer stands before all behind it
abbrev Rise : List Asked → Type 0
Rise [] = ⊤
Rise (a ∷ answers) = Before a answers × Rise answers

earlier_then : (a b c : Asked) → IsEarlier a b → IsEarlier b c → IsEarlier a c
earlier_then a b c first second = grind arith

before_then : (a b : Asked) (answers : List Asked) → IsEarlier a b → Before b answers → Before a answers
before_then a b [] first all = tt
before_then a b (c ∷ answers) first all = (earlier_then a b c first all.0, before_then a b answers first all.1)

one_on : (a : Asked) (answers : List Asked) (i : ℕ) → slice_get (a ∷ answers) (suc i + 1) ≡ slice_get answers (i + 1)
one_on a answers i = let place : suc i + 1 ≡ suc (i + 1) = omega arith in ap (slice_get (a ∷ answers)) place

rise : (answers : List Asked) → AreInOrder answers → Rise answers
rise [] order = tt
rise (a ∷ []) order = (tt, tt)
rise (a ∷ b ∷ answers) order =
    let later : Rise (b ∷ answers) = rise (b ∷ answers) (λ i x y at_x at_y. order (suc i) x y at_x (one_on a (b ∷ answers) i ∙ at_y)) in
    let first : IsEarlier a b = order 0 a b refl refl in
    ((first, before_then a b answers first later.0), later)

reached : (a : Asked) (front : List Asked) (asked : Asked) (rest : List Asked) → Before a (front ++ asked ∷ rest) → IsEarlier a asked
reached a [] asked rest all = all.0
reached a (b ∷ front) asked rest all = reached a front asked rest all.1

not_under : (a asked : Asked) → IsEarlier a asked → is_under asked.at asked.k a ≡ false
not_under a asked is = grind (arith, nat_tests)

apart : (front : List Asked) (asked : Asked) (rest : List Asked) → Rise (front ++ asked ∷ rest) → is_kept front asked.at asked.k ≡ false
apart [] asked rest up = refl
apart (a ∷ front) asked rest up =
    ap (λ (b : Bool). b || is_kept front asked.at asked.k) (not_under a asked (reached a front asked rest up.0)) ∙ apart front asked rest up.1

pub none_kept : (answers front : List Asked) (asked : Asked) (rest : List Asked) → AreInOrder answers → front ++ asked ∷ rest ≡ answers → is_kept front asked.at asked.k ≡ false
none_kept answers front asked rest order is = apart front asked rest (subst Rise (sym is) (rise answers order))
