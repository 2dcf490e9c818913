use Rattle.trial_keeping.specs.RecordBytes.{final_bytes}
use Rattle.trial_keeping.specs.RecordFits.{MayBeFinal}
use Rattle.trial_keeping.proofs.Going.{Front}
use Rattle.trial_keeping.proofs.reading_lists.each_final.Given as goal

-- what was read, and what is left to read
abbrev pub invariant-loop : goal.invariant-loop
invariant-loop l = Front final_bytes MayBeFinal l.count l.counter l.bytes l.finals.items l.rest
