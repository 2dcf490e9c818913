use Rattle.std.proofs.Common.{◌≡◌, take, reverse}
use Rattle.py_tree.specs.Places.{suite_starts}
use Rattle.py_tree.specs.Tree.{ScriptTree}
use Rattle.row_checks.specs.KeptRows.{view_in}
use Rattle.row_moments.specs.Moments.{moments_by}
use Rattle.feedings.specs.HasNoted.{HasNoted}
use Rattle.value_links.specs.Links.{links}
use Rattle.value_links.specs.Takings.{IsTaking}
use Rattle.feedings.proofs.noting.fed_along.Given as goal

abbrev pub invariant-loop-row : goal.invariant-loop-row
invariant-loop-row l = (script : ScriptTree) → IsTaking (links script) l.taking → l.places ≡ suite_starts script.body
    → HasNoted script l.noting (moments_by (view_in l.rows) (reverse (take l.row-index l.rows)))
