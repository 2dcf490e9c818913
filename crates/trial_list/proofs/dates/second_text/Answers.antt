use Rattle.std.proofs.Common.{◌≡◌, ℕ, List, Option, Some, Result, IfOk, IfSome, ap}
use Rattle.trial_list.proofs.Instants.{written}
use Rattle.trial_list.proofs.dates.second_text.Goals as goal

shown : {S E : Type 0} (f : S → List ℕ) (result : Result S E) (out : Option (List ℕ)) (xs : List ℕ) → out ≡ Some xs → IfOk result (λ s. IfSome out (λ bs. f s ≡ bs)) → IfOk result (λ made. f made ≡ xs)
shown f result out xs same is = rw same at is

pub returns : goal.returns
returns c = shown _ c.format.result _ _ (ap (λ (xs : List ℕ). Some xs) (written c.args.instant c.args.shown c.ranges.instant c.requires)) c.format.ensures.ok
