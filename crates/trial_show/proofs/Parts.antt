-- The parts of a text, written one behind the other.
use Rattle.std.proofs.Common.{◌≡◌, ℕ, List, ◌++◌, Result, Ok, Err, OnOk, append_assoc, refl, ap, ◌∙◌}

on_ok : {T E : Type 0} {P Q : Type 0} (result : Result T E) → (P → Q) → OnOk result P → OnOk result Q
on_ok (Ok done) more so = more so
on_ok (Err fault) more so = so

step : (out old new given text : List ℕ) → new ≡ old ++ given → old ≡ out → given ≡ text → new ≡ out ++ text
step out old new given text wrote same is = wrote ∙ (ap (λ (xs : List ℕ). xs ++ given) same ∙ ap (λ (xs : List ℕ). out ++ xs) is)

grouped : (o a b m d e f g : List ℕ) → ((((((o ++ a) ++ b) ++ m) ++ d) ++ e) ++ f) ++ g ≡ o ++ (a ++ b ++ m ++ d ++ e ++ f ++ g)
grouped o a b m d e f g = simp append_assoc refl

pub seven_parts : {T E : Type 0} (result : Result T E) (o p1 p2 p3 p4 p5 p6 p7 a b b' m m' d d' e e' f f' g g' : List ℕ) → p1 ≡ o ++ a → p2 ≡ p1 ++ b' → b' ≡ b → p3 ≡ p2 ++ m' → m' ≡ m → p4 ≡ p3 ++ d' → d' ≡ d
    → p5 ≡ p4 ++ e' → e' ≡ e → p6 ≡ p5 ++ f' → f' ≡ f → g' ≡ g → OnOk result (p7 ≡ p6 ++ g') → OnOk result (p7 ≡ o ++ (a ++ b ++ m ++ d ++ e ++ f ++ g))
seven_parts result o p1 p2 p3 p4 p5 p6 p7 a b b' m m' d d' e e' f f' g g' w1 w2 is2 w3 is3 w4 is4 w5 is5 w6 is6 is7 last =
    let s2 : p2 ≡ (o ++ a) ++ b = step (o ++ a) p1 p2 b' b w2 w1 is2 in
    let s3 : p3 ≡ ((o ++ a) ++ b) ++ m = step ((o ++ a) ++ b) p2 p3 m' m w3 s2 is3 in
    let s4 : p4 ≡ (((o ++ a) ++ b) ++ m) ++ d = step (((o ++ a) ++ b) ++ m) p3 p4 d' d w4 s3 is4 in
    let s5 : p5 ≡ ((((o ++ a) ++ b) ++ m) ++ d) ++ e = step ((((o ++ a) ++ b) ++ m) ++ d) p4 p5 e' e w5 s4 is5 in
    let s6 : p6 ≡ (((((o ++ a) ++ b) ++ m) ++ d) ++ e) ++ f = step (((((o ++ a) ++ b) ++ m) ++ d) ++ e) p5 p6 f' f w6 s5 is6 in
    on_ok result (λ (w : p7 ≡ p6 ++ g'). step ((((((o ++ a) ++ b) ++ m) ++ d) ++ e) ++ f) p6 p7 g' g w s6 is7 ∙ grouped o a b m d e f g) last
