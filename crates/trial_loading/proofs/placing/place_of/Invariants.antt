use Rattle.std.proofs.Common.{◌≡◌, ◌≤◌, drop}
use Rattle.trial_loading.specs.Placing.{place_from}
use Rattle.trial_loading.proofs.placing.place_of.Given as goal

-- the place of what is left, from here on, is the place of the whole
abbrev pub invariant-loop-page : goal.invariant-loop-page
invariant-loop-page l = (place_from l.page (drop l.page l.cuts) l.left ≡ place_from 0 l.cuts l.row) × (l.left ≤ l.row)
