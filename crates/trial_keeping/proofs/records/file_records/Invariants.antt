use Rattle.std.proofs.Common.{◌≡◌, ◌++◌, map, drop}
use Rattle.trial_keeping.specs.Trial.{file_record}
use Rattle.trial_keeping.proofs.records.file_records.Given as goal

abbrev pub invariant-loop-file : goal.invariant-loop-file
invariant-loop-file l = l.made.items ++ map file_record (drop l.file-index l.files) ≡ map file_record l.files
