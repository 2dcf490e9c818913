use Rattle.trial_keeping.specs.RecordBytes.{file_bytes}
use Rattle.trial_keeping.specs.RecordFits.{MayBeFound}
use Rattle.trial_keeping.proofs.Going.{Front}
use Rattle.trial_keeping.proofs.reading_lists.each_file.Given as goal

-- what was read, and what is left to read
abbrev pub invariant-loop : goal.invariant-loop
invariant-loop l = Front file_bytes MayBeFound l.count l.counter l.bytes l.files.items l.rest
