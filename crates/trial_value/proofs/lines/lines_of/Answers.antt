use Rattle.std.proofs.Common.{◌≡◌, ℕ, List, ◌++◌, ◌∷◌, [], codes, Option, Some, Result, IfOk, IfSome, append_assoc, ap, refl}
use Rattle.std.specs.Fmt.{decimal}
use Rattle.std.specs.String.{string_bytes}
use Rattle.trial_value.specs.Lines.{value_lines}
use Rattle.trial_value.proofs.lines.lines_of.Goals as goal

shown : {S E : Type 0} (f : S → List ℕ) (result : Result S E) (out : Option (List ℕ)) (xs : List ℕ) → out ≡ Some xs → IfOk result (λ s. IfSome out (λ bs. f s ≡ bs)) → IfOk result (λ made. f made ≡ xs)
shown f result out xs same is = rw same at is

lines_are : (graph : List ℕ) (steps : ℕ) → graph ++ ((10 ∷ codes "steps ") ++ (decimal steps ++ 10 ∷ [])) ≡ value_lines graph steps
lines_are graph steps = simp append_assoc refl

pub returns : goal.returns
returns c = shown string_bytes c.format.result _ _ (ap (λ (xs : List ℕ). Some xs) (lines_are c.args.graph.now c.args.steps)) c.format.ensures.ok
