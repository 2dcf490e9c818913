-- What a call that reads rows of a trial answers (this project's profile).
use Rattle.std.specs.Prelude.{◌≡◌, Result, Ok, Err}
use Rattle.keeper.specs.Keeping.{KeeperView}
use Rattle.keeper.specs.Tables.{TablesView}
use Rattle.trial_tables.specs.declared.damage.Damage.{Damage}
use Rattle.trial_tables.specs.declared.read_fault.ReadFault.{ReadFault}
use Rattle.trial_tables.specs.declared.read_fault.ReadFault.TheVariants.{Damaged, Keeper, Memory}

-- What it read is there in the tables that are seen, or what it names is amiss there. It leaves all as it was, whatever it answers.
abbrev pub Answers : {A : Type 0} → (TablesView → A → Type 0) → (TablesView → Damage → Type 0) → Result A ReadFault → KeeperView → KeeperView → Type 0
Answers is_there is_amiss (Ok read) before after = is_there before.seen read × (after ≡ before)
Answers is_there is_amiss (Err (Damaged damage)) before after = is_amiss before.seen damage × (after ≡ before)
Answers is_there is_amiss (Err Keeper) before after = after ≡ before
Answers is_there is_amiss (Err Memory) before after = after ≡ before
