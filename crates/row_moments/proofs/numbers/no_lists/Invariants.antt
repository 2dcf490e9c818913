use Rattle.std.proofs.Common.{◌≡◌, ℕ, [], length}
use Rattle.row_moments.specs.IndexKnows.{list_at}
use Rattle.row_moments.proofs.numbers.no_lists.Given as goal

abbrev pub invariant-fill : goal.invariant-fill
invariant-fill l = (length l.lists.items ≡ l.counter) × ((i : ℕ) → list_at l.lists.items i ≡ [])
