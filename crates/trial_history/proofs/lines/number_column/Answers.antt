use Rattle.std.proofs.Common.{◌≡◌, ℕ, ◌-◌, ◌^◌, List, Option, Some, Result, IfOk, IfSome}
use Rattle.std.specs.Fmt.{styled_decimal, format_spec}
use Rattle.trial_history.proofs.Columns.{number_is, seven_wide}
use Rattle.trial_history.proofs.lines.number_column.Goals as goal

shown : {S E : Type 0} (f : S → List ℕ) (result : Result S E) (out : Option (List ℕ)) (xs : List ℕ) → out ≡ Some xs → IfOk result (λ s. IfSome out (λ bs. f s ≡ bs)) → IfOk result (λ made. f made ≡ xs)
shown f result out xs same is = rw same at is

pub returns : goal.returns
returns c = shown _ c.format.result _ _ (number_is styled_decimal c.laid_out.result (format_spec 32 3 0 7 (2 ^ 64 - 1)) c.args.number c.laid_out.ensures seven_wide) c.format.ensures.ok
