-- A count of faults over several calls of a keeper (this project's profile).
use Rattle.std.specs.Prelude.{ℕ, ◌≤◌, Bool, IsTrue}
use Rattle.prov_outside.specs.Count.{Rose}

-- The count of faults never falls over some calls, and it rose where one answered that the keeper failed.
pub record Causes (failed : Bool) (before after : ℕ) : Type 0 where
  pub never_falls : before ≤ after
  pub rose : IsTrue failed → Rose before after
