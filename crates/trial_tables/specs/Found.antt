-- What a call that reads a part of a trial answers (this project's profile).
use Rattle.std.specs.Prelude.{◌≡◌, List, Vec, Result, Ok, Err}
use Rattle.std.specs.declared.alloc.Global.{Global}
use Rattle.keeper.specs.Keeping.{KeeperView}
use Rattle.keeper.specs.Tables.{TablesView}
use Rattle.trial_tables.specs.Whole.{Check, fine, damaged}
use Rattle.trial_tables.specs.declared.read_fault.ReadFault.{ReadFault}
use Rattle.trial_tables.specs.declared.read_fault.ReadFault.TheVariants.{Damaged, Keeper, Memory}

-- It answers what the check of the tables that are seen comes to, and leaves all as it was, whatever it answers.
abbrev pub Finds : {A : Type 0} → (TablesView → Check A) → Result A ReadFault → KeeperView → KeeperView → Type 0
Finds check (Ok part) before after = (check before.seen ≡ fine part) × (after ≡ before)
Finds check (Err (Damaged damage)) before after = (check before.seen ≡ damaged damage) × (after ≡ before)
Finds check (Err Keeper) before after = after ≡ before
Finds check (Err Memory) before after = after ≡ before

-- an answer with a list
abbrev pub items_of : {A E : Type 0} → Result (Vec A Global) E → Result (List A) E
items_of (Ok parts) = Ok parts.items
items_of (Err fault) = Err fault
