use Rattle.std.proofs.Common.{◌≡◌, ℕ, List, [], ◌∷◌, ◌++◌, codes, Option, Some, Result, Ok, Err, IfOk, IfSome, append_assoc, ap, refl, ◌∙◌}
use Rattle.std.specs.Fmt.{decimal}
use Rattle.hex.specs.Hex.{encode_lower}
use Rattle.delivery.proofs.lines.collision_text.Goals as goal

shown : {S E : Type 0} (f : S → List ℕ) (result : Result S E) (out : Option (List ℕ)) (ws : List ℕ) (xs : List ℕ → List ℕ) → out ≡ Some (xs ws)
    → IfOk result (λ s. IfSome out (λ bs. f s ≡ bs)) → IfOk result (λ made. (digest : List ℕ) → ws ≡ encode_lower digest → f made ≡ xs (encode_lower digest))
shown f (Ok made) out ws xs same is = λ digest digits. (rw same at is) ∙ ap xs digits
shown f (Err e) out ws xs same is = tt

grouped : (a digits b kept c given d : List ℕ) → a ++ (digits ++ (b ++ (kept ++ (c ++ (given ++ d))))) ≡ a ++ digits ++ b ++ kept ++ c ++ given ++ d
grouped a digits b kept c given d = simp append_assoc refl

pub returns : goal.returns
returns c = shown _ c.format.result _ c.args.digits.now (λ digits. codes "now: collision " ++ digits ++ codes " " ++ decimal c.args.kept ++ codes " " ++ decimal c.args.given ++ 10 ∷ [])
    (ap (λ (xs : List ℕ). Some xs) (grouped (codes "now: collision ") c.args.digits.now (codes " ") (decimal c.args.kept) (codes " ") (decimal c.args.given) (10 ∷ []))) c.format.ensures.ok
