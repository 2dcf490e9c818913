-- No public clause cites this file.
-- What the pass knows after moments: what is open, what was left just before, and what passed to each moment.
use Rattle.std.specs.Prelude.{◌≡◌, ◌==◌, ℕ, List, [], if◌then◌else◌}
use Rattle.py_tree.specs.Tree.{ScriptTree}
use Rattle.py_model.specs.Moment.{Moment}
use Rattle.feedings.specs.declared.noting.Noting.{Noting}
use Rattle.feedings.specs.Feeding.{given_back, notes_after}
use Rattle.feedings.specs.Noted.{IsStack}
use Rattle.feedings.specs.Passing.{all_passed}

-- what a call gives back, of times that were left
abbrev pub given_of : ℕ → List ℕ → List ℕ
given_of number times = if number == 2 then times else []

-- After the moments that were told, the latest first: what is open is noted, a call gives back what was left just before, and what passed to each moment is there.
pub record HasNoted (script : ScriptTree) (noting : Noting) (told : List Moment) : Type 0 where
  pub stack : IsStack noting.stack (notes_after script told)
  pub left : (number : ℕ) → given_back script number told ≡ given_of number noting.left
  pub fed : noting.fed ≡ all_passed script told
