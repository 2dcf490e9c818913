-- No public clause cites this file.
-- What is amiss of a record, as a fault of its trial (this project's profile).
use Rattle.prov_base.specs.declared.place.Digest.{Digest}
use Rattle.trial_tables.specs.declared.damage.Damage.TheVariants.{RecordAt}
use Rattle.trial_tables.specs.declared.read_fault.ReadFault.{ReadFault}
use Rattle.trial_tables.specs.declared.read_fault.ReadFault.TheVariants.{Damaged, Memory}
use Rattle.trial_keeping.specs.declared.record_fault.RecordFault.{RecordFault}
use Rattle.trial_keeping.specs.declared.record_fault.RecordFault.TheVariants.{BadRecord, Memory as NoMemory}

-- the fault of the record under a digest
abbrev pub of_record : Digest → RecordFault → ReadFault
of_record digest (BadRecord byte) = Damaged (RecordAt digest byte)
of_record digest NoMemory = Memory
