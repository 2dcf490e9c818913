-- Contents that were read so far.
use Rattle.std.proofs.Common.{ℕ, List, ◌++◌}
use Rattle.trial_tables.specs.Whole.{Check, fine, damaged}

-- what was read before what is still read
abbrev pub behind : List (List ℕ) → Check (List (List ℕ)) → Check (List (List ℕ))
behind front (fine more) = fine (front ++ more)
behind front (damaged damage) = damaged damage
