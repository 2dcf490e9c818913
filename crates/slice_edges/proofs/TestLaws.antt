-- The tests of numbers and of edges find what is there.
use Rattle.std.proofs.Common.{◌≡◌, ℕ, ◌==◌, ◌&&◌, ◌||◌, Bool, true, false, List, [], ◌∷◌, inl, inr, refl, ap, ◌∙◌, arith, eqb-true, eq-eqb}
use Rattle.std.proofs.lemmas.Bool.{false≢true}
use Rattle.slice_edges.specs.Asks.{some_asks}
use Rattle.slice_law.specs.Closed.{IsIn, has}
use Rattle.slice_law.specs.Edges.{Edge}

or_true : (a b : Bool) → a ≡ true → (a || b) ≡ true
or_true true b is = refl
or_true false b is = absurd (false≢true is)

or_more : (a b : Bool) → b ≡ true → (a || b) ≡ true
or_more true b is = refl
or_more false b is = is

both_true : (a b : Bool) → (a && b) ≡ true → (a ≡ true) × (b ≡ true)
both_true true b is = (refl, is)
both_true false b is = absurd (false≢true is)

pub number_there : (numbers : List ℕ) (s : ℕ) → has s numbers ≡ true → IsIn numbers s
number_there [] s is = absurd (false≢true is)
number_there (n ∷ numbers) s is = by (n == s) refl is (λ more. number_there numbers s more)
  where
    by : (b : Bool) → (n == s) ≡ b → (b || has s numbers) ≡ true → (has s numbers ≡ true → IsIn numbers s) → IsIn (n ∷ numbers) s
    by true same is rest = inl (omega (arith, eqb-true n s same))
    by false same is rest = inr (rest is)

pub number_found : (numbers : List ℕ) (s : ℕ) → IsIn numbers s → has s numbers ≡ true
number_found [] s there = absurd there
number_found (n ∷ numbers) s (inl same) = or_true (n == s) (has s numbers) (eq-eqb n s same)
number_found (n ∷ numbers) s (inr more) = or_more (n == s) (has s numbers) (number_found numbers s more)

abbrev pub Asks : List Edge → ℕ → ℕ → Type 0
Asks edges s r = (e : Edge) × (IsIn edges e × ((e.asker ≡ s) × (e.asked ≡ r)))

further : (first : Edge) (edges : List Edge) (s r : ℕ) → Asks edges s r → Asks (first ∷ edges) s r
further first edges s r found = (found.0, (inr found.1.0, found.1.1))

pub edge_there : (edges : List Edge) (s r : ℕ) → some_asks edges s r ≡ true → Asks edges s r
edge_there [] s r is = absurd (false≢true is)
edge_there (e ∷ edges) s r is = by ((e.asker == s) && (e.asked == r)) refl is (λ more. edge_there edges s r more)
  where
    by : (b : Bool) → ((e.asker == s) && (e.asked == r)) ≡ b → (b || some_asks edges s r) ≡ true → (some_asks edges s r ≡ true → Asks edges s r) → Asks (e ∷ edges) s r
    by true same is rest = let both = both_true (e.asker == s) (e.asked == r) same in (e, (inl refl, (omega (arith, eqb-true e.asker s both.0), omega (arith, eqb-true e.asked r both.1))))
    by false same is rest = further e edges s r (rest is)

here : (e : Edge) (s r : ℕ) → e.asker ≡ s → e.asked ≡ r → ((e.asker == s) && (e.asked == r)) ≡ true
here e s r one other = ap (λ b. b && (e.asked == r)) (eq-eqb e.asker s one) ∙ eq-eqb e.asked r other

pub edge_found : (edges : List Edge) (s r : ℕ) → Asks edges s r → some_asks edges s r ≡ true
edge_found edges s r found = at edges found.0 found.1.0 found.1.1.0 found.1.1.1
  where
    at : (edges : List Edge) (e : Edge) → IsIn edges e → e.asker ≡ s → e.asked ≡ r → some_asks edges s r ≡ true
    at [] e there one other = absurd there
    at (first ∷ edges) e (inl same) one other = or_true ((first.asker == s) && (first.asked == r)) (some_asks edges s r) (here first s r (ap (λ (x : Edge). x.asker) same ∙ one) (ap (λ (x : Edge). x.asked) same ∙ other))
    at (first ∷ edges) e (inr more) one other = or_more ((first.asker == s) && (first.asked == r)) (some_asks edges s r) (at edges e more one other)
