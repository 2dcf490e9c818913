-- A count of faults over one call (this project's profile).
use Rattle.std.specs.Prelude.{◌≡◌, ℕ, ◌<◌, ◌≤◌, ◌^◌, Bool, IsTrue, if◌then◌else◌}
use Rattle.prov_outside.specs.Count.{Rose, one_more}

-- The count rises by one where the call failed, and stays where it did not. It stops at the end of its type, where
-- standing still counts as rising.
pub record Counts (failed : Bool) (before after : ℕ) : Type 0 where
  pub never_falls : before ≤ after
  pub in_range : after < 2 ^ 64
  pub rose : IsTrue failed → Rose before after
  pub counted : after ≡ (if failed then one_more before else before)
