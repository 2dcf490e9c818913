-- No public clause cites this file.
-- What a walk that numbers statements has done at its end.
use Rattle.std.specs.Prelude.{◌≡◌, ℕ, ◌+◌}

-- the result is the tree numbered from `from` on, and `to` is the number that comes next
pub record IsNumberedOn {T : Type 0} (numbered : ℕ → T → T) (size : T → ℕ) (from to : ℕ) (tree result : T) : Type 0 where
  pub result_is : result ≡ numbered from tree
  pub to_is : to ≡ from + size tree
