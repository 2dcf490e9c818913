-- Restorings from one state of a store and a folder (this project's profile).
use Rattle.std.specs.Prelude.{◌≡◌, ℕ, List, Some, Result}
use Rattle.prov_outside.specs.Folder.{Files}
use Rattle.keeper.specs.Keeping.{KeeperView}
use Rattle.trial_history.specs.declared.fault.RestoreFault.{RestoreFault}
use Rattle.trial_history.specs.Restoring.{Restores}

-- a restoring from this state, behind this text, with what it left: the store, the folder, the text, and the counts of failed puts
pub record RestoringFrom (number : ℕ) (before : KeeperView) (was : Files) (told : List ℕ) (result : Result (Unit {0}) RestoreFault) : Type 0 where
  pub after : KeeperView
  pub files : Files
  pub text : List ℕ
  pub count : ℕ
  pub new_count : ℕ
  pub restores : Restores number result (Some before) (Some after) told text count new_count (Some was) (Some files)

-- two restorings left the same: the same tables, the same text, and the same bytes at every path
pub record LeaveTheSame {number : ℕ} {before : KeeperView} {was : Files} {told : List ℕ} {result other : Result (Unit {0}) RestoreFault}
    (a : RestoringFrom number before was told result) (b : RestoringFrom number before was told other) : Type 0 where
  pub tables : a.after ≡ b.after
  pub text : a.text ≡ b.text
  pub files : (path : List ℕ) → a.files path ≡ b.files path
