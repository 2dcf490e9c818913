-- What was written so far, over any keeper.
use Rattle.std.proofs.Common.{◌≡◌, ℕ, ◌≤◌, Bool, Option, IfSome}
use Rattle.prov_outside.specs.Tells.{Tells}
use Rattle.keeper.specs.Keeping.{KeeperView, AreKept, LeavesAmong}
use Rattle.keeper.specs.Tables.{TablesView}
use Rattle.trial_tables.specs.Written.{Written}

-- What is left to write from here on gives what the whole gives from the start.
pub record Comes (whole left : TablesView → Written) (told told' : Option KeeperView) (leave leave' : TablesView → Type 0) (is_open is_open' : Bool) (count count' : ℕ) : Type 0 where
  pub comes : Tells told told' (λ a b. (whole a.seen ≡ left b.seen) × (b.committed ≡ a.committed))
  pub kept : IfSome told' (AreKept is_open')
  pub stops : Tells told told' (λ _ _. LeavesAmong leave leave')
  pub batch : is_open' ≡ is_open
  pub causes : count ≤ count'
