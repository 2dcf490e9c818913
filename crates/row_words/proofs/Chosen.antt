-- What is read is told by what stands before it.
use Rattle.std.proofs.Common.{◌≡◌, ℕ, List, ◌++◌, Option, Some, refl, sym, ap, subst, ◌∙◌, append_assoc}
use Rattle.row_words.specs.Reading.{◌>>=◌, into, Took, Reads}
use Rattle.row_words.proofs.Steps.{bound}
use Rattle.row_words.proofs.Exact.{took_into}

pub took_chosen : {A B C : Type 0} {w : A → List ℕ} {f : A → Type 0} {r : List ℕ → Option (A × List ℕ)} (make : A → B → C) (v : B → List ℕ) (g : A → B → Type 0)
    (s : A → List ℕ → Option (B × List ℕ)) (u : C → List ℕ) (h : C → Type 0) (front : List ℕ) → Reads w f r → ((a : A) → Reads v (g a) (s a))
    → ((a : A) (b : B) → u (make a b) ≡ front ++ (w a ++ v b)) → ((a : A) (b : B) → f a → g a b → h (make a b))
    → (bytes rest : List ℕ) (c : C) → (r bytes >>= λ l. into (make l.0) (s l.0 l.1)) ≡ Some (c, rest) → Took u h (front ++ bytes) c rest
took_chosen {w = w} {r = r} make v g s u h front reads other spells shows bytes rest c is =
    let a = bound (r bytes) (λ l. into (make l.0) (s l.0 l.1)) (c, rest) is in
    let t = reads.takes bytes a.0.1 a.0.0 a.1 in
    let second = took_into (make a.0.0) u h (front ++ w a.0.0) (other a.0.0) (λ b fits. spells a.0.0 b ∙ sym (append_assoc front (w a.0.0) (v b))) (λ b fits. shows a.0.0 b t.fit fits) a.0.1 rest c a.2 in
    subst (λ (l : List ℕ). Took u h l c rest) (append_assoc front (w a.0.0) a.0.1 ∙ ap (λ (l : List ℕ). front ++ l) (sym t.spelled)) second

pub chosen_again : {A B C : Type 0} {w : A → List ℕ} {f : A → Type 0} {r : List ℕ → Option (A × List ℕ)} (make : A → B → C) (v : B → List ℕ) (g : A → B → Type 0)
    (s : A → List ℕ → Option (B × List ℕ)) → Reads w f r → ((a : A) → Reads v (g a) (s a))
    → (a : A) (b : B) (rest : List ℕ) → f a → g a b → (r ((w a ++ v b) ++ rest) >>= λ l. into (make l.0) (s l.0 l.1)) ≡ Some (make a b, rest)
chosen_again {w = w} {r = r} make v g s reads other a b rest fits also =
    ap (λ (bytes : List ℕ). r bytes >>= λ l. into (make l.0) (s l.0 l.1)) (append_assoc (w a) (v b) rest)
    ∙ rw (reads.again a (v b ++ rest) fits, (other a).again b rest also) refl
