use Rattle.std.proofs.Common.{◌≡◌, ℕ, List, [], ◌∷◌, ◌++◌, codes, Option, Some, Result, IfOk, IfSome, append_assoc, ap, refl}
use Rattle.std.specs.Fmt.{decimal}
use Rattle.delivery.proofs.lines.text_line.Goals as goal

shown : {S E : Type 0} (f : S → List ℕ) (result : Result S E) (out : Option (List ℕ)) (xs : List ℕ) → out ≡ Some xs → IfOk result (λ s. IfSome out (λ bs. f s ≡ bs)) → IfOk result (λ made. f made ≡ xs)
shown f result out xs same is = rw same at is

grouped : (a class b line c text d : List ℕ) → a ++ (class ++ (b ++ (line ++ (c ++ (text ++ d))))) ≡ a ++ class ++ b ++ line ++ (c ++ text ++ d)
grouped a class b line c text d = simp append_assoc refl

pub returns : goal.returns
returns c = shown _ c.format.result _ _ (ap (λ (xs : List ℕ). Some xs) (grouped (codes "now: uncaught ") c.args.class.now (codes " at line ") (decimal c.args.line) (codes ": ") c.args.text.now (10 ∷ []))) c.format.ensures.ok
