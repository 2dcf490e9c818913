-- The steps of reading, taken apart.
use Rattle.std.proofs.Common.{◌≡◌, ℕ, ◌==◌, Bool, true, false, List, Option, Some, None, if◌then◌else◌, refl, subst}
use Rattle.std.proofs.lemmas.Bool.{eqb-true}
use Rattle.row_words.specs.Reading.{◌>>=◌, Took}

-- a step that gave something
pub bound : {A B : Type 0} (o : Option A) (f : A → Option B) (b : B) → (o >>= f) ≡ Some b → (a : A) × (o ≡ Some a) × (f a ≡ Some b)
bound (Some a) f b is = (a, refl, is)
bound None f b is = absurd cc

abbrev pub some : {A : Type 0} → A → Option A
some a = Some a

pub same_some : {A : Type 0} (a b : A) → some a ≡ some b → a ≡ b
same_some a b is = cc

-- what was made is what was answered
pub took_same : {A : Type 0} {w : A → List ℕ} {f : A → Type 0} (bytes : List ℕ) (made answer : A × List ℕ) → some made ≡ some answer → Took w f bytes made.0 made.1 → Took w f bytes answer.0 answer.1
took_same {A = A} {w = w} {f = f} bytes made answer is took = subst (λ (z : A × List ℕ). Took w f bytes z.0 z.1) (same_some made answer is) took

-- a test that was passed
pub passed : {A : Type 0} (test : Bool) (x : Option A) (a : A) → (if test then x else None) ≡ Some a → (test ≡ true) × (x ≡ Some a)
passed true x a is = (refl, is)
passed false x a is = absurd cc

pub not_refused : {A : Type 0} (test : Bool) (x : Option A) (a : A) → (if test then None else x) ≡ Some a → (test ≡ false) × (x ≡ Some a)
not_refused true x a is = absurd cc
not_refused false x a is = (refl, is)

-- a choice by a number
pub pick : {T G : Type 0} (b k : ℕ) (x y : Option T) (z : T) → (if b == k then x else y) ≡ Some z → (b ≡ k → x ≡ Some z → G) → (y ≡ Some z → G) → G
pick {G = G} b k x y z is here there =
    elim (b == k) as (λ (t : Bool). (b == k) ≡ t → (if t then x else y) ≡ Some z → G) [ true ↦ λ e h. here (eqb-true b k e) h | false ↦ λ e h. there h ] refl is
