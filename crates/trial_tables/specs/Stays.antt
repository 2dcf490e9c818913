-- What stays in the tables when a trial is kept (this project's profile).
use Rattle.std.specs.Prelude.{◌≡◌, ℕ, ◌≤◌, false, List, length, Some, bytes_eq}
use Rattle.prov_base.specs.declared.place.Digest.{Digest}
use Rattle.keeper.specs.Tables.{TablesView, head_at}

-- Earlier trials have their heads and pages, contents that stood stand, and of other paths the same trial is current.
pub record EarlierStays (path : List ℕ) (before after : TablesView) : Type 0 where
  pub heads : (trial : ℕ) → trial ≤ length before.heads → head_at after.heads trial ≡ head_at before.heads trial
  pub pages : (trial number : ℕ) → trial ≤ length before.heads → after.pages trial number ≡ before.pages trial number
  pub contents : (digest : Digest) (bytes : List ℕ) → before.contents digest ≡ Some bytes → after.contents digest ≡ Some bytes
  pub current : (other : List ℕ) → bytes_eq path other ≡ false → after.current other ≡ before.current other
