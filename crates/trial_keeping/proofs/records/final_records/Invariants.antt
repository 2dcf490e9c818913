use Rattle.std.proofs.Common.{◌≡◌, ◌++◌, map, drop}
use Rattle.trial_keeping.specs.Trial.{final_record}
use Rattle.trial_keeping.proofs.records.final_records.Given as goal

abbrev pub invariant-loop-file : goal.invariant-loop-file
invariant-loop-file l = l.made.items ++ map final_record (drop l.file-index l.files) ≡ map final_record l.files
