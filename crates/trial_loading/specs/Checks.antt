-- What the check of a part of a trial comes to, where it is not computed (this project's profile).
use Rattle.std.specs.Prelude.{◌≡◌, ◌⊎◌, ℕ, List, Result, Ok, Err}
use Rattle.prov_base.specs.declared.place.Digest.{Digest}
use Rattle.keeper.specs.Keeping.{KeeperView}
use Rattle.keeper.specs.Tables.{TablesView}
use Rattle.trial_tables.specs.Whole.{Check, fine, damaged, content_in}
use Rattle.trial_tables.specs.declared.damage.Damage.TheVariants.{RecordAt}
use Rattle.trial_tables.specs.declared.read_fault.ReadFault.{ReadFault}
use Rattle.trial_tables.specs.declared.read_fault.ReadFault.TheVariants.{Damaged, Keeper, Memory}
use Rattle.trial_keeping.specs.RecordFaults.{IsRecord, IsBadAt}

-- It answers what the check of the tables that are seen comes to, and leaves all as it was, whatever it answers.
abbrev pub Answers : {A : Type 0} → (TablesView → Check A → Type 0) → Result A ReadFault → KeeperView → KeeperView → Type 0
Answers check (Ok part) before after = check before.seen (fine part) × (after ≡ before)
Answers check (Err (Damaged damage)) before after = check before.seen (damaged damage) × (after ≡ before)
Answers check (Err Keeper) before after = after ≡ before
Answers check (Err Memory) before after = after ≡ before

-- the first part comes to this, and what is behind it
pub record IsBehind {A B : Type 0} (first : Check A → Type 0) (next : A → Check B → Type 0) (check : Check B) : Type 0 where
  pub part : A
  pub is_first : first (fine part)
  pub is_next : next part check

-- One part and then the next: the first damage is that of the first part, or the first part is fine and the damage is the next one's.
abbrev pub Then : {A B : Type 0} → (Check A → Type 0) → (A → Check B → Type 0) → Check B → Type 0
Then first next (fine b) = IsBehind first next (fine b)
Then first next (damaged damage) = first (damaged damage) ⊎ IsBehind first next (damaged damage)

-- bytes are the record of a value, or its damage is that of the first item that is none
abbrev pub IsRecordWith : {A : Type 0} → (A → List ℕ) → (A → Type 0) → (List ℕ → ℕ → Type 0) → Digest → List ℕ → Check A → Type 0
IsRecordWith spell fits bad digest bytes (fine a) = IsRecord spell fits bytes a
IsRecordWith spell fits bad digest bytes (damaged damage) = (byte : ℕ) × IsBadAt bad bytes byte × (damage ≡ RecordAt digest byte)

-- a record under a digest: its bytes are there, have the digest, and are a record
abbrev pub IsRecordIn : {A : Type 0} → (A → List ℕ) → (A → Type 0) → (List ℕ → ℕ → Type 0) → TablesView → Digest → Check A → Type 0
IsRecordIn spell fits bad tables digest = Then (λ check. content_in tables digest ≡ check) (IsRecordWith spell fits bad digest)

-- what was filled, where all went well
abbrev pub filled : {A T : Type 0} → A → Result T ReadFault → Result A ReadFault
filled whole (Ok done) = Ok whole
filled whole (Err fault) = Err fault
