-- Steps of a walk over a list, where what is done so far joined with what is left is the whole.
use Rattle.std.proofs.Common.{◌≡◌, ℕ, ◌≤◌, length, List, ◌++◌, drop, ap, ◌∙◌, Result, Ok, Err, IfOk}
use Rattle.std.proofs.lemmas.List.{drop_all, append-nil}

-- at the end of the walk nothing is left
pub all_done : {X Y : Type 0} (meaning : List X → Y) (made items : List X) (i : ℕ) → length items ≤ i → meaning (made ++ drop i items) ≡ meaning made
all_done meaning made items i past = ap (λ rest. meaning (made ++ rest)) (drop_all i items past) ∙ ap meaning (append-nil made)

pub if_ok_more : {T E : Type 0} (r : Result T E) (P Q : T → Type 0) → ((x : T) → P x → Q x) → IfOk r P → IfOk r Q
if_ok_more (Ok x) P Q more ok = more x ok
if_ok_more (Err e) P Q more ok = ok
